-- `u32_at` is the number in four bytes, the lowest first, and 0 where they are not all there.
use Rattle.std.proofs.Common.{arith, w32}
use Rattle.std.specs.Int.{from_le_bytes}
use Rattle.words.specs.Words.{little}
use Rattle.words.proofs.Words.{number_read}
use Rattle.words.proofs.u32_at.Goals as goal

pub returns : goal.returns
unfolding little
returns c = omega (arith, number_read 4 _ _ _ _ (from_le_bytes w32) (λ b. omega arith) c.bytes_at.ensures c.map_or.ensures)
