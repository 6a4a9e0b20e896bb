-- `render` runs as many clocks as there is room for over a pack and stores what is heard of each; or it refuses with
-- 15, chip and memory as they were.
use Rattle.std.proofs.Common.{length, ◌∙◌, eq-eqb, ne_eqb}
use Rattle.sid.proofs.Ticks.{ticks_alike}
use Rattle.pack.specs.Pack.{pack_length, packed, over}
use Rattle.pack.proofs.Engines.{over_packed}
use Rattle.pack.proofs.Filling.{wrong_length, right_length}
use Rattle.run.specs.Answers.{pack_ran}
use Rattle.run.specs.Render.{clocks_in, pack_rendered}
use Rattle.run.proofs.Stored.{rendered_alike}
use Rattle.run.proofs.render.Goals as goal

pub returns : goal.returns
unfolding pack_ran pack_rendered
returns c =
    let args = c.args in
    let pack = args.pack.now in
    let whole = c.in_default.ensures in
    let made = c.render_over.ensures in (
      rw (eq-eqb (length pack) pack_length whole) (made.0 ∙ ticks_alike (over pack) (packed pack) (over_packed pack whole) (clocks_in args.out.now) args.chip),
      (right_length pack whole).0,
      rw (eq-eqb (length pack) pack_length whole) (made.1 ∙ rendered_alike (over pack) (packed pack) (over_packed pack whole) args.chip args.out.now),
    )

pub returns-in-Err : goal.returns-in-Err
unfolding pack_ran pack_rendered
returns-in-Err c =
    let pack = c.args.pack.now in
    let short = c.in-Err.ensures in
    let e = ne_eqb (length pack) pack_length short.0 in
    (rw e, rw short.1 (wrong_length pack short.0).0, rw e)
