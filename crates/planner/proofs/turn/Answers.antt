-- `turn` is the next level that queues a divisor, by comparisons.
use native.Mathlib.Omega.{arith}
use mathlib.Core.Path.{sym, ◌∙◌}
use borrow.Author.Tests.{eq-eqb, ne_eqb, lt-ltb, le-ltb}
use Rattle.planner.proofs.Falls.{turn_plain}
use Rattle.planner.proofs.turn.Goals as goal

pub returns-then-level-eq0 : goal.returns-then-level-eq0
returns-then-level-eq0 c = sym (turn_plain c.args.level (omega arith) ∙ simp (eq-eqb _ _ c.if-level-eq0.true))

pub returns-then-level-gt93 : goal.returns-then-level-gt93
returns-then-level-gt93 c = sym (turn_plain c.args.level (omega arith) ∙ simp (ne_eqb _ _ c.if-level-eq0.false, lt-ltb _ _ c.if-level-gt93.true))

pub returns-then-level-gt54 : goal.returns-then-level-gt54
returns-then-level-gt54 c = sym (turn_plain c.args.level (omega arith) ∙ simp (ne_eqb _ _ c.if-level-eq0.false, le-ltb _ _ c.if-level-gt93.false, lt-ltb _ _ c.if-level-gt54.true))

pub returns-then-level-gt26 : goal.returns-then-level-gt26
returns-then-level-gt26 c = sym (turn_plain c.args.level (omega arith) ∙ simp (ne_eqb _ _ c.if-level-eq0.false, le-ltb _ _ c.if-level-gt93.false, le-ltb _ _ c.if-level-gt54.false, lt-ltb _ _ c.if-level-gt26.true))

pub returns-then-level-gt14 : goal.returns-then-level-gt14
returns-then-level-gt14 c = sym (turn_plain c.args.level (omega arith) ∙ simp (ne_eqb _ _ c.if-level-eq0.false, le-ltb _ _ c.if-level-gt93.false, le-ltb _ _ c.if-level-gt54.false, le-ltb _ _ c.if-level-gt26.false, lt-ltb _ _ c.if-level-gt14.true))

pub returns-then-level-gt6 : goal.returns-then-level-gt6
returns-then-level-gt6 c = sym (turn_plain c.args.level (omega arith) ∙ simp (ne_eqb _ _ c.if-level-eq0.false, le-ltb _ _ c.if-level-gt93.false, le-ltb _ _ c.if-level-gt54.false, le-ltb _ _ c.if-level-gt26.false, le-ltb _ _ c.if-level-gt14.false, lt-ltb _ _ c.if-level-gt6.true))

pub returns : goal.returns
returns c = sym (turn_plain c.args.level (omega arith) ∙ simp (ne_eqb _ _ c.if-level-eq0.false, le-ltb _ _ c.if-level-gt93.false, le-ltb _ _ c.if-level-gt54.false, le-ltb _ _ c.if-level-gt26.false, le-ltb _ _ c.if-level-gt14.false, le-ltb _ _ c.if-level-gt6.false))
