-- Document 01, 'Oscillator': selecting waveform 0 from another captures the last code; left so, a code that isn't 0
-- is whole for 1,260,019 clocks and zero from clock 1,260,020, provided the cycle at the capture is below 2^63. For
-- every voice, called singly or in a chip, and every modulator. Assumes nothing.
use Rattle.std.proofs.Common.{◌≡◌, ℕ, zero, suc, ◌/◌, ◌%◌, ◌^◌, ◌<◌, ◌≤◌, refl, ap, ◌∙◌, arith, eq-eqb, ne_eqb}
use Rattle.laws.specs.Cycle.{after}
use Rattle.floating.proofs.Fade.{lines_whole, lines_gone}
use Rattle.floating.proofs.Once.{LeaksOnce}
use Rattle.floating.specs.Floating.{captured, samples_by}
use Rattle.floating.specs.declared.FloatingBus.{FloatingBus}
use Rattle.oscillator.specs.Ways.{Ways}
use Rattle.oscillator.specs.Oscillator.{clocked_by, code_by, sampled_bus_by, evaluated_by, fed_back, latched_tone, latched_code, written_control, written_bus, written, voiced_by, ticked_by, ticks_by}
use Rattle.oscillator.specs.declared.Control.{Control}
use Rattle.oscillator.specs.declared.Oscillator.{Oscillator}

-- twelve bits of twelve bits
pub small : (x : ℕ) → x % 4096 % 4096 ≡ x % 4096
small x = omega arith

-- one tick of a voice, by any ways
module _ (w : Ways) (o : Oscillator) (m cycle : ℕ) where
  pub tick_control : (ticked_by w o m cycle).control ≡ o.control
  unfolding ticked_by voiced_by latched_code fed_back evaluated_by clocked_by
  tick_control = refl

  -- with nothing selected the lines are sampled, and the code is what they show
  module _ (off : o.control.waveform % 16 ≡ 0) where
    pub tick_lines : (ticked_by w o m cycle).bus ≡ w.leak o.bus cycle
    unfolding ticked_by voiced_by latched_code fed_back evaluated_by clocked_by sampled_bus_by
    tick_lines = simp (eq-eqb (o.control.waveform % 16) 0 off)

    pub tick_floats : (ticked_by w o m cycle).tone.last_sample ≡ (w.leak o.bus cycle).numbers.value % 4096
    unfolding ticked_by voiced_by latched_code fed_back evaluated_by clocked_by sampled_bus_by code_by latched_tone
    tick_floats = simp (eq-eqb (o.control.waveform % 16) 0 off) (small _)

-- n ticks with nothing selected
module _ (w : Ways) (ms : ℕ → ℕ) (o : Oscillator) (cycle : ℕ) (off : o.control.waveform % 16 ≡ 0) where
  abbrev run : ℕ → Oscillator
  run n = ticks_by w n o ms cycle

  ticks_control : (n : ℕ) → (run n).control ≡ o.control
  unfolding ticks_by
  ticks_control zero = refl
  ticks_control (suc n) = tick_control w (run n) (ms n) (after cycle (suc n)) ∙ ticks_control n

  ticks_off : (n : ℕ) → (run n).control.waveform % 16 ≡ 0
  ticks_off n = ap (λ (k : Control). k.waveform % 16) (ticks_control n) ∙ off

  ticks_lines : (n : ℕ) → (run n).bus ≡ samples_by w.leak n o.bus cycle
  unfolding ticks_by samples_by
  ticks_lines zero = refl
  ticks_lines (suc n) =
      tick_lines w (run n) (ms n) (after cycle (suc n)) (ticks_off n)
      ∙ ap (λ (f : FloatingBus). w.leak f (after cycle (suc n))) (ticks_lines n)

  ticks_floats : (n : ℕ) → (run (suc n)).tone.last_sample ≡ (samples_by w.leak (suc n) o.bus cycle).numbers.value % 4096
  unfolding ticks_by samples_by
  ticks_floats n =
      tick_floats w (run n) (ms n) (after cycle (suc n)) (ticks_off n)
      ∙ ap (λ (f : FloatingBus). (w.leak f (after cycle (suc n))).numbers.value % 4096) (ticks_lines n)

-- a write of selection 0 over another leaves the last code on the lines, at the cycle of the write
pub write_captures
    : (o : Oscillator) (value cycle : ℕ)
    → value / 2 ^ 4 ≡ 0
    → (o.control.waveform ≡ 0 → ⊥)
    → (written o value cycle).bus ≡ captured o.tone.last_sample cycle
unfolding written written_control written_bus
write_captures o value cycle e d = simp (e, ne_eqb o.control.waveform 0 d)

-- THE LAW: clock n + 1 after the write, whatever the modulator does, by any ways that make one leak step where one is
-- due at most
module _
    (w : Ways) (once : LeaksOnce w.leak) (ms : ℕ → ℕ) (o : Oscillator) (value cycle : ℕ) (off : value / 2 ^ 4 ≡ 0)
    (another : o.control.waveform ≡ 0 → ⊥) (some : o.tone.last_sample % 4096 ≡ 0 → ⊥) (early : cycle < 2 ^ 63) where
  abbrev floated : ℕ → ℕ
  floated n = (ticks_by w (suc n) (written o value cycle) ms cycle).tone.last_sample

  selects : (written o value cycle).control.waveform % 16 ≡ 0
  unfolding written written_control
  selects = omega (arith, off)

  shows : (n : ℕ) → floated n ≡ (samples_by w.leak (suc n) (captured o.tone.last_sample cycle) cycle).numbers.value % 4096
  shows n =
      ticks_floats w ms (written o value cycle) cycle selects n
      ∙ ap (λ (f : FloatingBus). (samples_by w.leak (suc n) f cycle).numbers.value % 4096) (write_captures o value cycle off another)

  pub floats_whole : (n : ℕ) → suc n ≤ 1260019 → floated n ≡ o.tone.last_sample % 4096
  floats_whole n h = shows n ∙ ap (λ (x : ℕ). x % 4096) (lines_whole once o.tone.last_sample cycle some early (suc n) h) ∙ small o.tone.last_sample

  pub floats_gone : (n : ℕ) → 1260020 ≤ suc n → floated n ≡ 0
  floats_gone n h = shows n ∙ ap (λ (x : ℕ). x % 4096) (lines_gone once o.tone.last_sample cycle some early (suc n) h)
