-- `held_within` counts the clocks to the first held one, or n; those to a match and those of a settled release it need
-- not make.
use native.Mathlib.Omega.{arith}
use Prim.Native.Nat.{ℕ, ◌+◌, ◌-◌}
use mathlib.Core.Path.{◌≡◌, ap, sym, ◌∙◌}
use Rattle.planner.specs.Planner.{held_within, release_period}
use Rattle.planner.proofs.Counts.{settled_when, held_none, held_now, count_on, count_none, settled_counts}
use Rattle.planner.proofs.held_within.Goals as goal

pub returns-then-held : goal.returns-then-held
returns-then-held c = omega (arith, c.loop-i.invariant.1, held_now (c.args.n - c.loop-i.i) c.loop-i.e (sym c.held.ensures ∙ c.if-held.true))

pub returns-then-is_settled : goal.returns-then-is_settled
returns-then-is_settled c =
    let settled = settled_when c.loop-i.e (sym c.is_settled.ensures ∙ c.if-is_settled.true) in
    let count = settled_counts c.loop-i.e (release_period c.loop-i.e) (c.args.n - c.loop-i.i) settled in
    omega (arith, c.loop-i.invariant.1, c.min.ensures, c.settled_clock.ensures, count)

pub returns-then-n-i : goal.returns-then-n-i
returns-then-n-i c =
    let unheld = sym c.held.ensures ∙ c.if-held.false in
    omega (arith, c.loop-i.invariant, c.if-n-i.true, count_none c.go_on-next.ensures unheld (c.args.n - c.loop-i.i) (omega (arith, c.if-n-i.true)))

pub loop-i-preserved : goal.loop-i-preserved
loop-i-preserved c =
    let unheld = sym c.held.ensures ∙ c.if-held.false in
    let more = count_on c.go_on-next.ensures unheld (c.args.n - c.loop-i.i) (omega (arith, c.if-n-i.false)) in
    let i : c.args.n - c.loop-i.i - c.go_on-next.result.clocks ≡ c.args.n - (c.loop-i.i + c.go_on-next.result.clocks) = omega arith in
    (omega (arith, c.if-n-i.false, c.loop-i-test.true), omega (arith, c.loop-i.invariant.1, more, ap (λ (k : ℕ). held_within k c.go_on-next.result.e) i))

pub returns : goal.returns
returns c =
    let none : c.args.n - c.loop-i.i ≡ 0 = omega arith in
    omega (arith, c.loop-i.invariant.1, ap (λ (k : ℕ). held_within k c.loop-i.e) none, held_none c.loop-i.e)
