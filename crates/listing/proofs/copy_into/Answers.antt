-- `copy_into` copies bytes that fit, and leaves the buffer as it was where they don't.
use Prim.Native.Nat.{◌+◌, ◌-◌, ◌≤◌}
use native.Mathlib.Omega.{arith}
use lib.ListN.{length}
use Rattle.listing.proofs.Joins.{put_part, room}
use Rattle.listing.proofs.copy_into.Goals as goal

pub returns : goal.returns
returns c =
    let l = c.args.out.now in
    let at = c.args.at in
    let w = c.args.w.now in
    let h : at + length w ≤ length l = omega arith in
    room l at w h (put_part l at (at + length w - at) w c.copy_from_slice.new.self c.copy_from_slice.ensures.after (omega arith) h)
