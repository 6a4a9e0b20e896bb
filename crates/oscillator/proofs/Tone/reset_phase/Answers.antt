-- `Tone::reset_phase` clears phase and rising mark, and keeps the other numbers.
use Rattle.std.proofs.Common.{refl}
use Rattle.oscillator.specs.Oscillator.{reset_phase}
use Rattle.oscillator.proofs.Tone.reset_phase.Goals as goal

pub returns : goal.returns
unfolding reset_phase
returns c = refl
