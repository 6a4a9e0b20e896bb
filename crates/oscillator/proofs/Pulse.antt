-- Document 01, 'Oscillator': 'Pulse is the comparison made one evaluation earlier, forced high in test.' For every
-- voice that has pulse alone selected, and every modulator, at any cycle. Assumes nothing.
use Rattle.std.proofs.Common.{◌≡◌, ℕ, ◌%◌, Bool, true, false, cond, leb, refl, ap, ◌∙◌, arith}
use lib.Bits.{and_comm, and_mask}
use Rattle.waveforms.specs.Waveforms.{drivers, needs_loading, loaded}
use Rattle.oscillator.proofs.Floats.{tick_control}
use Rattle.oscillator.specs.Ways.{afresh}
use Rattle.oscillator.specs.Oscillator.{clocked_tone, clocked_by, phase, pulse, compared_tone, ideal, loads_lines, loaded_code_by, waveform_at_by, code, code_by, evaluated_by, fed_back_tone, fed_back, latched_tone, latched_code, voiced_by, ticked, ticked_by}
use Rattle.oscillator.specs.Selection.{combined}
use Rattle.oscillator.specs.declared.Control.{Control}
use Rattle.oscillator.specs.declared.Oscillator.{Oscillator}
use Rattle.oscillator.specs.declared.Tone.{Tone}

-- the code of pulse alone
code_pulse : (c : Control) (t : Tone) (visible floats m : ℕ) → c.waveform % 16 ≡ 4 → code c t visible floats m ≡ pulse c t % 4096
unfolding code_by waveform_at_by loads_lines loaded_code_by ideal combined loaded needs_loading drivers
code_pulse c t visible floats m e = simp e (ap (λ (x : ℕ). x % 4096) (and_comm 0xfff (pulse c t) ∙ and_mask (pulse c t) 12) ∙ omega arith)

module _ (o : Oscillator) (m cycle : ℕ) where
  -- a tick compares, for the tick after it
  pub tick_compares : (ticked o m cycle).tone.pulse_output ≡ cond (leb o.control.pulse_width (phase (clocked_tone o.tone o.control))) 0xfff 0
  unfolding ticked_by voiced_by latched_code latched_tone fed_back fed_back_tone evaluated_by compared_tone clocked_by
  tick_compares = refl

  pub tick_pulse : o.control.waveform % 16 ≡ 4 → (ticked o m cycle).tone.last_sample ≡ cond o.control.test_enabled 0xfff o.tone.pulse_output % 4096
  unfolding ticked_by voiced_by latched_code latched_tone fed_back evaluated_by clocked_by clocked_tone
  tick_pulse e = ap (λ (x : ℕ). x % 4096) (code_pulse o.control (clocked_tone o.tone o.control) _ _ m e) ∙ omega arith

-- THE LAW
module _ (o : Oscillator) (m cycle : ℕ) (alone : o.control.waveform % 16 ≡ 4) where
  pub pulse_in_test : o.control.test_enabled ≡ true → (ticked o m cycle).tone.last_sample ≡ 0xfff
  pulse_in_test e = tick_pulse o m cycle alone ∙ simp e

  -- the code of a tick is the comparison of the tick before it, whatever its modulator and cycle
  pub pulse_one_later
      : (next at : ℕ)
      → o.control.test_enabled ≡ false
      → (ticked (ticked o m cycle) next at).tone.last_sample ≡ cond (leb o.control.pulse_width (phase (clocked_tone o.tone o.control))) 0xfff 0
  pulse_one_later next at e =
      tick_pulse (ticked o m cycle) next at (ap (λ (c : Control). c.waveform % 16) (tick_control afresh o m cycle) ∙ alone)
      ∙ ap (λ (c : Control). cond c.test_enabled 0xfff (ticked o m cycle).tone.pulse_output % 4096) (tick_control afresh o m cycle)
      ∙ simp e (ap (λ (x : ℕ). x % 4096) (tick_compares o m cycle) ∙ go (leb o.control.pulse_width (phase (clocked_tone o.tone o.control))))
    where
      go : (t : Bool) → cond t 0xfff 0 % 4096 ≡ cond t 0xfff 0
      go true = refl
      go false = refl
