-- `store` puts the six numbers of a clock at their place.
use Rattle.std.proofs.Common.{◌≡◌, ◌+◌, ◌-◌, length, ap, ◌∙◌, arith}
use borrow.Rule.Slice.PartMut.{put_mid}
use Rattle.run.proofs.Stored.{put_sets}
use Rattle.run.proofs.store.Goals as goal

pub returns : goal.returns
returns c =
    let a = c.args in
    let n : length a.heard ≡ 6 = omega arith in
    ap (put_mid a.at (a.at + 6 - a.at) a.out.now) c.copy_from_slice.ensures.after
    ∙ put_sets a.out.now a.heard a.at (a.at + 6 - a.at) (omega (arith, n)) (omega (arith, n))
