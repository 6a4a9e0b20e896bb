-- `Oscillator::latch_output` latches the low twelve bits, after they have coupled into the noise or pulled it down.
use Rattle.std.proofs.Common.{◌≡◌, ◌%◌}
use lib.Bits.{and_mask, bit_and}
use Rattle.oscillator.specs.Oscillator.{latched_code}
use Rattle.oscillator.proofs.Oscillator.latch_output.Goals as goal

pub returns : goal.returns
unfolding latched_code
returns c =
    let m : bit_and c.args.output 0xfff ≡ c.args.output % 4096 = and_mask c.args.output 12 in
    simp (c.latched-self.ensures, c.latched_noise-self.ensures, m)
