-- `print_listing` hands on all bytes of the listing, and counts them, unless a write fails.
use Prim.Native.Nat.{◌+◌, ◌*◌, ◌≤◌}
use mathlib.Core.Path.{◌≡◌}
use lib.ListN.{length}
use Rattle.pack.specs.Pack.{over}
use Rattle.player.specs.Steps.{most_steps}
use Rattle.printer.specs.Fills.{room}
use Rattle.printer.proofs.Fills.{Handed}
use Rattle.printer.proofs.print_listing.Given as goal

abbrev pub invariant-loop-left : goal.invariant-loop-left
invariant-loop-left l = (length l.out ≡ room) × (l.done + room * l.left ≤ room * most_steps) × Handed (over l.pack) l.s l.p l.left l.done

abbrev pub decreases-loop-left : goal.decreases-loop-left
decreases-loop-left l = l.left
