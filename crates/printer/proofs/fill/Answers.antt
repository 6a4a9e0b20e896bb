-- `fill` makes steps until nothing is left to do, no step is left or less room than a line's, and loses nothing.
use native.Mathlib.Omega.{arith}
use Prim.Native.Nat.{◌+◌, ◌≤◌}
use mathlib.Core.Path.{refl}
use lib.ListN.{length}
use Rattle.listing.specs.Text.{text_room}
use Rattle.player.proofs.Loops.{line_kept, made_none, made_more}
use Rattle.printer.proofs.fill.Goals as goal

pub loop-filled-init : goal.loop-filled-init
loop-filled-init c = (refl, refl, omega arith, made_none _ _ _ _ _)

pub loop-filled-preserved : goal.loop-filled-preserved
loop-filled-preserved c =
    let l = c.loop-filled in
    let does = c.step-next.ensures in
    let copies = c.copy_into in
    let room : l.filled.len + text_room ≤ length l.out = omega (arith, l.invariant.2) in (
      line_kept does l.invariant.0,
      omega (arith, copies.auto.out, l.invariant.1),
      omega (arith, copies.auto.out, room, does.fits),
      rw copies.ensures.1 (made_more l.invariant.3 c.loop-filled-test.true l.invariant.0 does (omega (arith, room, does.fits))),
    )
