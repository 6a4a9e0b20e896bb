-- Document 01, 'Oscillator': 'A saw joined with another waveform whose code lacks bit 11 clears the phase's top bit
-- and its rising mark', and nothing else does. For every voice and code. Assumes nothing.
use Rattle.std.proofs.Common.{◌≡◌, ℕ, ◌/◌, ◌%◌, ◌^◌, true, false}
use Rattle.oscillator.specs.Oscillator.{selected, feeds_back, fed_back_tone, fed_back}
use Rattle.oscillator.specs.Selection.{has, is_combined}
use Rattle.oscillator.specs.declared.Oscillator.{Oscillator}

module _ (o : Oscillator) (output : ℕ) where
  pub feedback_clears
      : has (selected o.control) 2 ≡ true
      → is_combined (selected o.control) ≡ true
      → output / 2 ^ 11 % 2 ≡ 0
      → ((fed_back o output).tone.accumulator ≡ o.tone.accumulator % 2 ^ 23) × ((fed_back o output).tone.msb_rising ≡ false)
  unfolding fed_back fed_back_tone feeds_back
  feedback_clears saw another lacks = (simp (saw, another, lacks), simp (saw, another, lacks))

  pub feedback_else : feeds_back o.control output ≡ false → fed_back o output ≡ o
  unfolding fed_back fed_back_tone
  feedback_else e = simp e
