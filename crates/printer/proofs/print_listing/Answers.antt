-- `print_listing` hands on all bytes of the listing, and counts them, unless a write fails.
use native.Mathlib.Omega.{arith}
use mathlib.Core.Logic.{inl, inr}
use mathlib.Core.Path.{refl, sym, ◌∙◌}
use Rattle.printer.proofs.Fills.{fill_steps, handed_none, handed_more, handed_all, handed_within}
use Rattle.printer.proofs.print_listing.Goals as goal

pub loop-left-init : goal.loop-left-init
loop-left-init c = (refl, omega arith, rw c.start-p.ensures (handed_none _ _))

pub returns-else-not-is_nothing : goal.returns-else-not-is_nothing
returns-else-not-is_nothing c =
    handed_all c.loop-left.invariant.2 (inl (sym c.is_nothing.ensures ∙ c.if-not-is_nothing.false))

pub returns-then-not-write_all : goal.returns-then-not-write_all
returns-then-not-write_all c = omega (arith, handed_within c.loop-left.invariant.2)

pub loop-left-smaller : goal.loop-left-smaller
loop-left-smaller c =
    let l = c.loop-left in
    let part = c.fill-part in
    let going = sym c.is_nothing.ensures ∙ c.if-not-is_nothing.true in
    fill_steps part.ensures (omega (arith, l.invariant.0)) c.loop-left-test.true going

pub loop-left-preserved : goal.loop-left-preserved
loop-left-preserved c =
    let l = c.loop-left in
    let part = c.fill-part in
    let going = sym c.is_nothing.ensures ∙ c.if-not-is_nothing.true in
    let fewer = fill_steps part.ensures (omega (arith, l.invariant.0)) c.loop-left-test.true going in (
      omega (arith, part.auto.out, l.invariant.0),
      omega (arith, part.ensures.fits, l.invariant.0, l.invariant.1, fewer),
      handed_more l.invariant.2 part.ensures,
    )

pub returns-after-loop-left : goal.returns-after-loop-left
returns-after-loop-left c = handed_all c.loop-left.invariant.2 (inr (omega (arith, c.loop-left-test.false)))
