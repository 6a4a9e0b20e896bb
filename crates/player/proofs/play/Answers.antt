-- `play` makes all steps of a score: the lines of those made stand at the buffer's start, where it has room for the
-- listing.
use Prim.Native.Nat.{◌+◌, ◌-◌}
use native.Mathlib.Omega.{arith}
use mathlib.Core.Logic.{inl, inr}
use mathlib.Core.Path.{◌≡◌, refl, sym, ◌∙◌}
use Rattle.player.specs.Steps.{most_steps}
use Rattle.player.proofs.Loops.{playing_none, playing_more, playing_all}
use Rattle.player.proofs.play.Goals as goal

pub loop-init : goal.loop-init
loop-init c = (refl, playing_none _ _ _ c.start-player.ensures)

pub returns-then-is_nothing : goal.returns-then-is_nothing
returns-then-is_nothing c = playing_all c.loop.invariant.1 (inl (sym c.is_nothing.ensures ∙ c.if-is_nothing.true))

pub overflow_add-len : goal.overflow_add-len
overflow_add-len c =
    let k = c.loop.invariant.1 in
    omega (arith, k.fits, k.count, c.step-next.ensures.fits)

pub loop-preserved : goal.loop-preserved
loop-preserved c =
    let l = c.loop in
    let next : most_steps - (l.counter + 1) ≡ most_steps - l.counter - 1 = omega arith in
    let copies = c.copy_into in (
      c.step-next.array_long,
      rw next (playing_more l.invariant.1 (omega arith) l.invariant.0 c.step-next.ensures copies.ensures.1 (omega (arith, copies.auto.out))),
    )

pub returns-after-loop : goal.returns-after-loop
returns-after-loop c = playing_all c.loop.invariant.1 (inr (omega arith))
