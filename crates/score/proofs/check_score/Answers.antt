-- `check_score` gives the clocks of an accepted score, or the first refusal and its place, as document 01's table says.
use native.Mathlib.Omega.{arith}
use mathlib.Core.Path.{ap, sym, ◌∙◌}
use Rattle.std.specs.Prelude.{Err}
use Rattle.score.proofs.Fields.{stands}
use Rattle.score.proofs.Given.{promised}
use Rattle.score.proofs.Walk.{over, unread, unadmitted, surplus, ended, answer_end, too_long, kept_first, kept_more, kept_end}
use Rattle.score.proofs.check_score.Goals as goal

pub returns-then-s-gt65536 : goal.returns-then-s-gt65536
returns-then-s-gt65536 c = promised _ (ap Err c.at.ensures ∙ sym (too_long c.args.s.now (omega arith)))

pub loop-at-init : goal.loop-at-init
loop-at-init c = rw c.new-order.ensures (kept_first c.args.s.now (omega arith))

pub loop-at-smaller : goal.loop-at-smaller
loop-at-smaller c =
    let e = sym c.field_at.ensures ∙ c.in-Ok.is in
    let st = stands _ _ e in
    omega (arith, st.whole.fits, st.ends)

pub loop-at-preserved : goal.loop-at-preserved
loop-at-preserved c =
    let e = sym c.field_at.ensures ∙ c.in-Ok.is in
    let a = sym c.admit.ensures ∙ c.in-Ok-admit.is in
    kept_more c.loop-at.invariant e a (sym c.is_end.ensures ∙ c.if-is_end.false)

pub returns-then-s-at : goal.returns-then-s-at
returns-then-s-at c = promised _ (ap Err c.at-then-s-at.ensures ∙ kept_end c.loop-at.invariant (λ n. over n _ _ _ (omega arith)))

pub returns-in-Err : goal.returns-in-Err
returns-in-Err c =
    let e = sym c.field_at.ensures ∙ c.in-Err.is in
    promised _ (kept_end c.loop-at.invariant (λ n. unread n _ _ _ (omega arith) e))

pub returns-in-Err-admit : goal.returns-in-Err-admit
returns-in-Err-admit c =
    let e = sym c.field_at.ensures ∙ c.in-Ok.is in
    let a = sym c.admit.ensures ∙ c.in-Err-admit.is in
    promised _ (ap Err c.at-in-Err-admit.ensures ∙ kept_end c.loop-at.invariant (λ n. unadmitted n _ _ _ e a))

pub returns-then-next-s : goal.returns-then-next-s
returns-then-next-s c =
    let e = sym c.field_at.ensures ∙ c.in-Ok.is in
    let a = sym c.admit.ensures ∙ c.in-Ok-admit.is in
    let i = sym c.is_end.ensures ∙ c.if-is_end.true in
    promised _ (ap Err c.at-then-next-s.ensures ∙ kept_end c.loop-at.invariant (λ n. surplus n _ _ _ e a i (omega arith)))

pub returns-else-next-s : goal.returns-else-next-s
returns-else-next-s c =
    let e = sym c.field_at.ensures ∙ c.in-Ok.is in
    let a = sym c.admit.ensures ∙ c.in-Ok-admit.is in
    let i = sym c.is_end.ensures ∙ c.if-is_end.true in
    let whole = kept_end c.loop-at.invariant (λ n. ended n _ _ _ e a i (omega arith)) in
    promised _ (sym (answer_end c.in-Ok.read.0 i) ∙ whole)
