-- `print_fields` comes to an end, since every field takes bytes, and prints only what its buffer holds.
use Prim.Native.Nat.{◌-◌}
use mathlib.Core.Path.{◌≡◌}
use lib.ListN.{length}
use Rattle.listing.specs.Text.{text_room}
use Rattle.fields.proofs.print_fields.Given as goal

abbrev pub invariant-loop-f : goal.invariant-loop-f
invariant-loop-f l = length l.line ≡ text_room

abbrev pub decreases-loop-f : goal.decreases-loop-f
decreases-loop-f l = length l.s - l.at
