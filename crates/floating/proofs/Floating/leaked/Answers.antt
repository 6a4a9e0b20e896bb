-- `Floating::leaked` is the numbers of the lines that are left, with no leak to come where there is none.
use Rattle.std.proofs.Common.{sym, eq-eqb, ne_eqb}
use Rattle.floating.specs.Floating.{leaked_to}
use Rattle.floating.proofs.Floating.leaked.Goals as goal

pub returns-then-value-eq0 : goal.returns-then-value-eq0
unfolding leaked_to
returns-then-value-eq0 c = simp (sym c.retained-value.ensures, eq-eqb _ _ c.if-value-eq0.true)

pub returns-else-value-eq0 : goal.returns-else-value-eq0
unfolding leaked_to
returns-else-value-eq0 c = simp (sym c.retained-value.ensures, ne_eqb _ _ c.if-value-eq0.false)
