-- `play` makes all steps of a score: the lines of those made stand at the buffer's start, where it has room for the
-- listing.
use Prim.Native.Nat.{◌-◌}
use mathlib.Core.Path.{◌≡◌}
use lib.ListN.{length}
use Rattle.listing.specs.Text.{text_room}
use Rattle.pack.specs.Pack.{over}
use Rattle.player.specs.Steps.{most_steps}
use Rattle.player.proofs.Loops.{Playing}
use Rattle.player.proofs.play.Given as goal

abbrev pub invariant-loop : goal.invariant-loop
invariant-loop l = (length l.line ≡ text_room) × Playing (over l.pack) l.s l.initial.out (most_steps - l.counter) (record { player = l.player; len = l.len }) l.out
