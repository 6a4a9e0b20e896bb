-- `has_come` is true exactly for a time that is set and not after the cycle.
use Rattle.std.proofs.Common.{le-leb}
use borrow.Author.Tests.{lt-leb}
use mathlib.Core.Bool.{and-false, and-true}
use Rattle.noise.specs.Noise.{come}
use Rattle.noise.proofs.has_come.Goals as goal

pub returns-then-cycle-at : goal.returns-then-cycle-at
unfolding come
returns-then-cycle-at c = simp (le-leb _ _ c.if-cycle-at.true, and-true)

pub returns-else-cycle-at : goal.returns-else-cycle-at
unfolding come
returns-else-cycle-at c = simp (lt-leb _ _ c.if-cycle-at.false, and-false)
