-- A voice's tick is, by any ways, what its parts do one after the other, so that a loop may hold them apart
-- (`tick_parts`). Assumes nothing.
use Rattle.std.proofs.Common.{◌≡◌, ℕ, ◌%◌, Bool, true, false, cond}
use Rattle.noise.specs.Noise.{stepped_by}
use Rattle.noise.specs.declared.NoiseGenerator.{NoiseGenerator}
use Rattle.floating.specs.declared.FloatingBus.{FloatingBus}
use Rattle.oscillator.proofs.Floats.{small}
use Rattle.oscillator.specs.Ways.{Ways}
use Rattle.oscillator.specs.Selection.{is_off}
use Rattle.oscillator.specs.Oscillator.{selected, rising, clocked_tone, clocked_by, compared_tone, ideal, loads_lines, loaded_code_by, waveform_at_by, code_by, sampled_bus_by, evaluated_by, fed_back_tone, fed_back, latched_tone, latched_noise, latched_code, voiced_by, ticked_by}
use Rattle.oscillator.specs.declared.Control.{Control}
use Rattle.oscillator.specs.declared.Tone.{Tone}
use Rattle.oscillator.specs.declared.Oscillator.{Oscillator}

code_small : (w : Ways) (k : Control) (t : Tone) (visible floats modulator : ℕ) → code_by w k t visible floats modulator % 4096 ≡ code_by w k t visible floats modulator
unfolding code_by waveform_at_by loaded_code_by
code_small w k t visible floats modulator = go (is_off (selected k)) (loads_lines k)
  where
    x : ℕ
    x = ideal k t visible modulator

    go : (off load : Bool) → cond off (floats % 4096) (cond load (w.load (selected k).raw x % 4096) (x % 4096)) % 4096
        ≡ cond off (floats % 4096) (cond load (w.load (selected k).raw x % 4096) (x % 4096))
    go true load = small floats
    go false true = small (w.load (selected k).raw x)
    go false false = small x

abbrev pub voice : Control → Tone → NoiseGenerator → FloatingBus → Oscillator
voice k t g b = record { control = k; tone = t; noise = g; bus = b }

-- a tick: the phase and the noise clocked, the lines sampled, the code, and what it leaves
pub tick_parts
    : (w : Ways) (k : Control) (t : Tone) (g : NoiseGenerator) (b : FloatingBus) (modulator cycle : ℕ)
    (t1 : Tone) (g1 : NoiseGenerator) (b1 : FloatingBus) (output : ℕ)
    → t1 ≡ clocked_tone t k
    → g1 ≡ stepped_by w.recover g k.test_enabled (rising t.accumulator t1.accumulator) cycle
    → b1 ≡ sampled_bus_by w b k cycle
    → output ≡ code_by w k t1 g1.numbers.visible b1.numbers.value modulator
    → voice k (latched_tone (fed_back_tone (compared_tone t1 k) k output) output) (latched_noise g1 k output cycle) b1 ≡ ticked_by w (voice k t g b) modulator cycle
unfolding ticked_by voiced_by latched_code fed_back evaluated_by clocked_by compared_tone fed_back_tone
tick_parts w k t g b modulator cycle t1 g1 b1 output p q r s =
    let t' = clocked_tone t k in
    let g' = stepped_by w.recover g k.test_enabled (rising t.accumulator t'.accumulator) cycle in
    simp (s, r, q, p) (simp (code_small w k t' g'.numbers.visible (sampled_bus_by w b k cycle).numbers.value modulator))
