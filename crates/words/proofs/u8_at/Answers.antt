-- `u8_at` is the byte at a place, and 0 where none is.
use Rattle.std.proofs.Common.{arith, w8}
use Rattle.std.specs.Int.{from_le_bytes}
use Rattle.words.specs.Words.{little}
use Rattle.words.proofs.Words.{number_read}
use Rattle.words.proofs.u8_at.Goals as goal

pub returns : goal.returns
unfolding little
returns c = number_read 1 _ _ _ _ (from_le_bytes w8) (λ b. omega arith) c.bytes_at.ensures c.map_or.ensures
