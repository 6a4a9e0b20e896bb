-- `fill` leaves in the lent pack the settled code of every selection and value; or refuses with 15, the pack as it was.
use Prim.Native.Nat.{◌*◌}
use Rattle.laws.proofs.Build.{Built}
use Rattle.pack.specs.Pack.{pack_length, settled_entry}
use Rattle.pack.proofs.fill.Given as goal

abbrev pub invariant-loop-block : goal.invariant-loop-block
invariant-loop-block l = Built settled_entry pack_length l.pack (l.block * 4096)
