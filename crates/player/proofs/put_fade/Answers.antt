-- `put_fade` puts the line of a clock's bits at a place in the text, and nothing where it lost none.
use borrow.Author.Tests.{ne_eqb}
use native.Mathlib.Omega.{arith}
use Rattle.listing.proofs.Joins.{put_copied}
use Rattle.player.proofs.put_fade.Goals as goal

pub returns : goal.returns
returns c =
    let a = c.args in
    let line = c.fade_line-len.ensures in
    rw (ne_eqb a.lost 0 c.if-lost-eq0.false, c.copy_into.ensures.1)
    (put_copied line.0 (omega (arith, line.1)) _ a.at (omega (arith, line.1)), omega (arith, line.1))
