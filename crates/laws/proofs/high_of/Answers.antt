-- `high_of` is the bits, of the first 32, whose charge is at least the threshold.
use Rattle.std.proofs.Common.{◌≡◌, ◌+◌, suc, min, refl, ap, ◌∙◌, arith, le-leb}
use borrow.Author.Tests.{lt-leb}
use Rattle.laws.specs.Charges.{high_to}
use Rattle.laws.proofs.Masks.{one_shl}
use Rattle.laws.proofs.high_of.Goals as goal
use Rattle.laws.proofs.high_of.Goals.{then-bit-lt32+then-q-threshold, else-bit-lt32, else-bit-lt32-via-then-bit-lt32+else-q-threshold, else-bit-lt32-via-else-bit-lt32}

pub loop-bit-init : goal.loop-bit-init
unfolding high_to
loop-bit-init g c = refl

pub loop-bit-preserved : goal.loop-bit-preserved
unfolding high_to
loop-bit-preserved g c =
    let bit = c.loop-bit.bit in
    let to = high_to c.args.threshold c.args.charge.now in
    let known : c.loop-bit.code ≡ to (min bit 32) = c.loop-bit.invariant in
    elim c.if-bit-lt32.branch [
      | then-bit-lt32+then-q-threshold w ↦
          let here : min bit 32 ≡ bit = omega (arith, w.if-bit-lt32.true) in
          let next : min (bit + 1) 32 ≡ suc bit = omega (arith, w.if-bit-lt32.true) in
          simp (w.code-is, next, le-leb _ _ w.if-q-threshold.true, one_shl bit 32 w.if-bit-lt32.true, known ∙ ap to here)
      | else-bit-lt32 w ↦
          elim w.else-bit-lt32.branch [
            | else-bit-lt32-via-then-bit-lt32+else-q-threshold v ↦
                let here : min bit 32 ≡ bit = omega (arith, v.if-bit-lt32.true) in
                let next : min (bit + 1) 32 ≡ suc bit = omega (arith, v.if-bit-lt32.true) in
                simp (w.code-is, next, lt-leb _ _ v.if-q-threshold.false, known ∙ ap to here)
            | else-bit-lt32-via-else-bit-lt32 v ↦
                let same : min bit 32 ≡ min (bit + 1) 32 = omega (arith, v.if-bit-lt32.false) in
                w.code-is ∙ known ∙ ap to same
          ]
    ]
