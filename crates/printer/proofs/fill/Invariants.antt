-- `fill` makes steps until nothing is left to do, no step is left or less room than a line's, and loses nothing.
use Prim.Native.Nat.{◌≤◌}
use mathlib.Core.Path.{◌≡◌}
use lib.ListN.{length}
use Rattle.listing.specs.Text.{text_room}
use Rattle.pack.specs.Pack.{over}
use Rattle.player.specs.Steps.{Made}
use Rattle.printer.proofs.fill.Given as goal

abbrev pub invariant-loop-filled : goal.invariant-loop-filled
invariant-loop-filled l =
    (length l.line ≡ text_room) × (length l.out ≡ length l.initial.out) × (l.filled.len ≤ length l.out) × Made (over l.pack) l.s l.fn.from l.steps l.initial.out l.filled.player l.filled.left l.filled.len l.out

abbrev pub decreases-loop-filled : goal.decreases-loop-filled
decreases-loop-filled l = l.filled.left
