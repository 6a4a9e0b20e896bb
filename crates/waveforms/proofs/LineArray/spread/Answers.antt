-- `LineArray::spread` makes the 144 couplings of the 23 by offset, a row for each source, and adds the static load.
-- By `coupling_row`: a coupling turns only on how far the destination lies above the source.
use borrow.Rule.Slice.PartMut.{same_len_mid}
use Rattle.std.proofs.Common.{arith, refl, sym, ap, ap₂, ◌≡◌, ◌+◌, ◌-◌, ◌*◌, ◌∙◌, ◌++◌, length, take, drop}
use Rattle.std.proofs.Math.Seq.{take_all}
use Rattle.std.proofs.lemmas.Slice.{take-put_mid}
use Rattle.laws.specs.Build.{build}
use Rattle.laws.proofs.Build.{length_build}
use Rattle.waveforms.specs.Waveforms.{array_of}
use Rattle.waveforms.proofs.Arrays.{build_on}
use Rattle.waveforms.proofs.Couplings.{entry, coupling_row}
use Rattle.waveforms.proofs.LineArray.spread.Goals as goal

pub loop-source-init : goal.loop-source-init
unfolding build
loop-source-init c = (refl, refl)

pub loop-source-preserved : goal.loop-source-preserved
loop-source-preserved c =
    let s = c.args.selection in
    let r = c.loop-source.source in
    let row : c.copy_from_slice.new.self ≡ build (λ d. entry s (r * 12 + d)) 12 =
    (let twelve : 23 - r - (11 - r) ≡ 12 = omega arith in
    c.copy_from_slice.ensures.after ∙ ap (λ n. take n (drop (11 - r) c.args.by_offset)) twelve ∙ coupling_row s r c.args.by_offset c.requires (omega arith)) in
    let long : length c.copy_from_slice.new.self ≡ 12 = ap length row ∙ length_build (λ d. entry s (r * 12 + d)) 12 in
    let on : r * 12 + 12 ≡ (r + 1) * 12 = omega arith in (
      same_len_mid (r * 12) _ c.loop-source.coupling c.copy_from_slice.new.self c.copy_from_slice.ensures.len ∙ c.loop-source-test.array_long,
      take-put_mid (r * 12) _ c.loop-source.coupling c.copy_from_slice.new.self ((r + 1) * 12) (omega arith) (omega arith)
          ∙ ap₂ (λ a b. a ++ b) c.loop-source.invariant.1 row ∙ build_on (entry s) (r * 12) 12 ∙ ap (build (entry s)) on,
    )

pub returns : goal.returns
unfolding array_of
returns c =
    let s = c.args.selection in
    let end : c.loop-source.source * 12 ≡ 144 = omega arith in
    let e : c.loop-source.coupling ≡ build (entry s) 144 = sym (take_all (c.loop-source.source * 12) c.loop-source.coupling (omega arith)) ∙ c.loop-source.invariant.1 ∙ ap (build (entry s)) end in
    cc
