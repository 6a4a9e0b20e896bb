-- `project` shows the eight tapped stages on lines 11 down to 4.
use Rattle.std.proofs.Common.{arith}
use Rattle.laws.proofs.Masks.{bit_shl}
use Rattle.noise.specs.Noise.{shown}
use Rattle.noise.proofs.project.Goals as goal

pub returns : goal.returns
unfolding shown
returns c =
    simp (
      bit_shl 11 32 (omega arith),
      bit_shl 10 32 (omega arith),
      bit_shl 9 32 (omega arith),
      bit_shl 8 32 (omega arith),
      bit_shl 7 32 (omega arith),
      bit_shl 6 32 (omega arith),
      bit_shl 5 32 (omega arith),
      bit_shl 4 32 (omega arith),
    )
