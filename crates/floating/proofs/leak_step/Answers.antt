-- `leak_step` takes what a leak step takes from each of the twelve lent charges.
use Rattle.std.proofs.Common.{◌≡◌, ◌<◌, length, get_or, set, refl, ap, ◌∙◌, arith, rules}
use Rattle.std.proofs.lemmas.List.{get_or_default}
use Rattle.std.proofs.lemmas.List.Edits.{map_over_more}
use Rattle.laws.proofs.Build.{mapped_all}
use Rattle.floating.specs.Floating.{lost, leak_step}
use Rattle.floating.proofs.leak_step.Goals as goal

pub loop-q-init : goal.loop-q-init
loop-q-init c = refl

pub loop-q-preserved : goal.loop-q-preserved
loop-q-preserved c =
    let l = c.loop-q in
    let below : l.q-index < length c.args.charge.now = omega (arith, c.told-charge, c.loop-q-test.true) in
    let whole : length l.charge ≡ 12 = search rules in
    let x = get_or l.charge l.q-index 0 in
    let same : x ≡ get_or l.charge l.q-index x = get_or_default l.charge l.q-index 0 x (omega (arith, whole, c.loop-q-test.true)) in
    ap (λ y. set l.charge l.q-index y) c.lost.ensures ∙ map_over_more lost c.args.charge.now l.charge l.q-index x below l.invariant same

pub returns : goal.returns
unfolding leak_step
returns c = mapped_all lost c.args.charge.now 0 12 c.told-charge c.loop-q-test.false c.loop-q.invariant
