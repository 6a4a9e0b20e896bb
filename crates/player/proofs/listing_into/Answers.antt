-- `listing_into` puts the listing at the start of the buffer, and leaves it as it was where the listing is longer.
use native.Mathlib.Omega.{arith}
use Prim.Native.Nat.{◌≤◌}
use lib.ListN.{length}
use Rattle.pack.specs.Pack.{over}
use Rattle.player.specs.Listing.{listing_by}
use Rattle.player.proofs.Loops.{no_room, room}
use Rattle.player.proofs.listing_into.Goals as goal

pub returns-then-out-listing_len : goal.returns-then-out-listing_len
returns-then-out-listing_len c =
    let a = c.args in
    rw c.at.ensures (no_room _ a.s.now a.out.now (omega (arith, c.listing_len.ensures)))

pub returns : goal.returns
returns c =
    let a = c.args in
    let fits : length (listing_by (over a.pack.now) a.s.now) ≤ length a.out.now = omega (arith, c.listing_len.ensures) in
    room _ a.s.now a.out.now fits (c.play.ensures.put fits)
