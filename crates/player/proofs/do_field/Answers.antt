-- `do_field` does what a field says on the panel at its stamp, and puts its line, if it has one.
use mathlib.Core.Path.{refl}
use lib.Dec.{lit≤}
use Rattle.player.specs.Listing.{line_of, done_by}
use Rattle.player.proofs.do_field.Goals as goal

pub returns-in-Write : goal.returns-in-Write
unfolding line_of done_by
returns-in-Write c =
    rw c.in-Write.is
    (record { player = simp c.write-done.ensures; put = record { place = refl; bytes = refl }; fits = lit≤ tt })

pub returns-in-Read : goal.returns-in-Read
unfolding line_of done_by
returns-in-Read c =
    let read = c.read-read.ensures in
    let line = c.read_line.ensures in
    rw c.in-Read.is (record { player = simp read; put = rw (← read) line.0; fits = line.1 })

pub returns-in-Levels : goal.returns-in-Levels
unfolding line_of done_by
returns-in-Levels c =
    let line = c.levels_line.ensures in
    rw c.in-Levels.is
    (record { player = refl; put = rw (← c.levels-display.ensures) line.0; fits = line.1 })

pub returns-in-Watch : goal.returns-in-Watch
unfolding line_of done_by
returns-in-Watch c =
    rw c.in-Watch.is
    (record { player = simp c.watch-done.ensures; put = record { place = refl; bytes = refl }; fits = lit≤ tt })

pub returns-in-End : goal.returns-in-End
unfolding line_of done_by
returns-in-End c =
    let line = c.end_line.ensures in
    rw c.in-End.is (record { player = refl; put = line.0; fits = line.1 })
