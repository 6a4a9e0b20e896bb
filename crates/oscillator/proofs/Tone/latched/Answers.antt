-- `Tone::latched` makes the code both last sample and readback.
use Rattle.std.proofs.Common.{refl}
use Rattle.oscillator.specs.Oscillator.{latched_tone}
use Rattle.oscillator.proofs.Tone.latched.Goals as goal

pub returns : goal.returns
unfolding latched_tone
returns c = refl
