-- Ways that, where a tick looks, load a voice's codes alike and do the same to its noise register and floating lines
-- tick it alike (`tick_alike`): what an engine has to bring to be shown equal to another. Assumes nothing.
use Rattle.std.proofs.Common.{◌≡◌, ℕ, ◌%◌, Bool, true, false, cond, sym, refl, ap, ◌∙◌}
use Rattle.noise.specs.Noise.{stepped_by}
use Rattle.oscillator.proofs.Parts.{tick_parts}
use Rattle.oscillator.specs.Ways.{Ways}
use Rattle.oscillator.specs.Selection.{is_off}
use Rattle.oscillator.specs.Oscillator.{selected, rising, clocked_tone, ideal, loads_lines, loaded_code_by, waveform_at_by, code_by, sampled_bus_by, ticked_by}
use Rattle.oscillator.specs.declared.Control.{Control}
use Rattle.oscillator.specs.declared.Tone.{Tone}
use Rattle.oscillator.specs.declared.Oscillator.{Oscillator}

pub record Alike (w x : Ways) (o : Oscillator) (cycle : ℕ) : Type 0 where
  -- where it loads its lines
  pub load : loads_lines o.control ≡ true → (code : ℕ) → loaded_code_by w.load o.control code ≡ loaded_code_by x.load o.control code
  -- in test alone
  pub recover : o.control.test_enabled ≡ true → w.recover o.noise cycle ≡ x.recover o.noise cycle
  -- where nothing is selected
  pub leak : is_off (selected o.control) ≡ true → w.leak o.bus cycle ≡ x.leak o.bus cycle

module _ {w x : Ways} (o : Oscillator) (cycle : ℕ) (same : Alike w x o cycle) where
  abbrev k : Control
  k = o.control

  step_alike : (up : ℕ) → stepped_by w.recover o.noise k.test_enabled up cycle ≡ stepped_by x.recover o.noise k.test_enabled up cycle
  unfolding stepped_by
  step_alike up = go k.test_enabled refl
    where
      go : (t : Bool) → k.test_enabled ≡ t → stepped_by w.recover o.noise t up cycle ≡ stepped_by x.recover o.noise t up cycle
      go true e = same.recover e
      go false e = refl

  sample_alike : sampled_bus_by w o.bus k cycle ≡ sampled_bus_by x o.bus k cycle
  unfolding sampled_bus_by
  sample_alike = go (is_off (selected k)) refl
    where
      go : (t : Bool) → is_off (selected k) ≡ t → cond t (w.leak o.bus cycle) o.bus ≡ cond t (x.leak o.bus cycle) o.bus
      go true e = same.leak e
      go false e = refl

  code_alike : (t : Tone) (visible floats modulator : ℕ) → code_by w k t visible floats modulator ≡ code_by x k t visible floats modulator
  unfolding code_by waveform_at_by
  code_alike t visible floats modulator =
      let plain = ideal k t visible modulator in
      ap (λ (y : ℕ). cond (is_off (selected k)) (floats % 4096) y) (go plain (loads_lines k) refl)
    where
      go : (plain : ℕ) (loads : Bool) → loads_lines k ≡ loads
          → cond loads (loaded_code_by w.load k plain) (plain % 4096) ≡ cond loads (loaded_code_by x.load k plain) (plain % 4096)
      go plain true e = same.load e plain
      go plain false e = refl

  pub tick_alike : (modulator : ℕ) → ticked_by w o modulator cycle ≡ ticked_by x o modulator cycle
  tick_alike modulator =
      let t = o.tone in
      let t1 = clocked_tone t k in
      let g1 = stepped_by w.recover o.noise k.test_enabled (rising t.accumulator t1.accumulator) cycle in
      let b1 = sampled_bus_by w o.bus k cycle in
      let output = code_by w k t1 g1.numbers.visible b1.numbers.value modulator in
      sym (tick_parts w k t o.noise o.bus modulator cycle t1 g1 b1 output refl refl refl refl)
      ∙ tick_parts x k t o.noise o.bus modulator cycle t1 g1 b1 output refl
      (step_alike (rising t.accumulator t1.accumulator)) sample_alike (code_alike t1 g1.numbers.visible b1.numbers.value modulator)
