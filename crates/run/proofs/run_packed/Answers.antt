-- `run_packed` is the chip after exactly n ticks, with the pack's entries; or it refuses with 15, the chip as it was.
use Rattle.std.proofs.Common.{length, ◌∙◌, eq-eqb, ne_eqb}
use Rattle.sid.proofs.Ticks.{ticks_alike}
use Rattle.pack.specs.Pack.{pack_length, packed, over}
use Rattle.pack.proofs.Engines.{over_packed}
use Rattle.pack.proofs.Filling.{wrong_length, right_length}
use Rattle.run.specs.Answers.{pack_ran}
use Rattle.run.proofs.run_packed.Goals as goal

pub returns : goal.returns
unfolding pack_ran
returns c =
    let args = c.args in
    let pack = args.pack.now in
    let whole = c.in_default.ensures in (
      rw (eq-eqb (length pack) pack_length whole) (c.run_over.ensures ∙ ticks_alike (over pack) (packed pack) (over_packed pack whole) args.n args.chip),
      (right_length pack whole).0,
    )

pub returns-in-Err : goal.returns-in-Err
unfolding pack_ran
returns-in-Err c =
    let pack = c.args.pack.now in
    let short = c.in-Err.ensures in
    (rw (ne_eqb (length pack) pack_length short.0), rw short.1 (wrong_length pack short.0).0)
