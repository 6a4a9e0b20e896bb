-- `tick_packed` is one clock of the chip by the rules, with the pack's entries; or it refuses with 15, the chip as it
-- was.
use Rattle.std.proofs.Common.{◌≡◌, length, ap, ◌∙◌, arith, eq-eqb, ne_eqb}
use Rattle.pack.specs.Pack.{pack_length}
use Rattle.pack.proofs.Engines.{over_packed}
use Rattle.pack.proofs.Filling.{wrong_length, right_length}
use Rattle.tick.specs.Outputs.{outputs, pack_ticked}
use Rattle.tick.proofs.tick_packed.Goals as goal

pub returns-then-pack-ne-LENGTH : goal.returns-then-pack-ne-LENGTH
unfolding pack_ticked outputs
returns-then-pack-ne-LENGTH c =
    let pack = c.args.pack.now in
    (rw (ne_eqb (length pack) pack_length c.if-pack-ne-LENGTH.true), rw c.at.ensures (wrong_length pack c.if-pack-ne-LENGTH.true).0)

pub returns : goal.returns
unfolding pack_ticked
returns c =
    let args = c.args in
    let pack = args.pack.now in
    let whole : length pack ≡ pack_length = omega arith in
    (rw (eq-eqb (length pack) pack_length whole) (c.tick_over.ensures ∙ ap (outputs _) (over_packed pack whole args.chip)), (right_length pack whole).0)
