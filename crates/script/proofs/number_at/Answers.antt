-- `number_at` gives the number that stands at a place and the place after it, or none.
use mathlib.Core.Path.{sym, ◌∙◌}
use lib.ListN.{get_or}
use Rattle.script.proofs.Numbers.{digit_some, digit_none, no_digit, first_digit, too_large, number_ends, leading_zero, digit_more}
use Rattle.script.proofs.number_at.Goals as goal

pub returns-in_err-value : goal.returns-in_err-value
returns-in_err-value c =
    let a = c.args in
    c.from_residual.ensures ∙ sym (no_digit _ _ _ (digit_none (get_or a.s.now a.at 0) (sym c.digit_at.ensures ∙ c.in_err-value.was)))

pub loop-value-init : goal.loop-value-init
loop-value-init c =
    let a = c.args in
    let d = digit_some (get_or a.s.now a.at 0) (sym c.digit_at.ensures ∙ c.in_ok-value.was) in
    rw d.1 (sym (first_digit _ _ _ d.0))

pub returns-in_default : goal.returns-in_default
returns-in_default c =
    let e = digit_none (get_or c.args.s.now c.loop-value.next 0) (sym c.digit_at-in-loop-value.ensures ∙ c.in_default.is) in
    number_ends _ _ _ _ _ c.loop-value.invariant c.loop-value-test.true e

pub returns-then-value-eq0 : goal.returns-then-value-eq0
returns-then-value-eq0 c =
    let d = digit_some (get_or c.args.s.now c.loop-value.next 0) (sym c.digit_at-in-loop-value.ensures ∙ c.in-Some.is) in
    leading_zero _ _ _ _ _ c.loop-value.invariant c.loop-value-test.true d.0 c.if-value-eq0.true

pub loop-value-preserved : goal.loop-value-preserved
loop-value-preserved c =
    let d = digit_some (get_or c.args.s.now c.loop-value.next 0) (sym c.digit_at-in-loop-value.ensures ∙ c.in-Some.is) in
    rw d.1 (digit_more _ _ _ _ _ c.loop-value.invariant c.loop-value-test.true d.0 c.if-value-eq0.false)

pub returns : goal.returns
returns c = too_large _ _ _ _ _ c.loop-value.invariant c.loop-value-test.false
