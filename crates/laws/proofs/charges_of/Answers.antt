-- `charges_of` gives each bit of N a full charge where it is set in the code, else none.
use Rattle.std.proofs.Common.{◌≡◌, ◌≤◌, ◌/◌, ◌%◌, ◌^◌, ◌∙◌, ap, arith}
use Rattle.std.proofs.lemmas.List.{length-replicate}
use Rattle.std.proofs.Math.Nat.{div-eq_of_lt}
use Rattle.std.proofs.Math.Pow.{pow_mono}
use Rattle.laws.specs.Charges.{charge_for, charged}
use Rattle.laws.proofs.Build.{built_none, built_more, built_all}
use Rattle.laws.proofs.charges_of.Goals as goal
use Rattle.laws.proofs.charges_of.Goals.{then-bit-lt32+then-code-bit-eq1, else-bit-lt32, else-bit-lt32-via-then-bit-lt32+else-code-bit-eq1, else-bit-lt32-via-else-bit-lt32}

pub loop-bit-init : goal.loop-bit-init
loop-bit-init g c = built_none _ g.row.N _ (length-replicate g.row.N 0)

pub loop-bit-preserved : goal.loop-bit-preserved
loop-bit-preserved g c =
    let bit = c.loop-bit.bit in
    let code = c.args.code in
    built_more (charge_for code) g.row.N c.loop-bit.invariant c.loop-bit-test.true _
    (elim c.if-bit-lt32.branch [
      | then-bit-lt32+then-code-bit-eq1 w ↦
          let one : code / 2 ^ bit % 2 ≡ 1 = w.if-code-bit-eq1.true in
          w.q-is ∙ simp one
      | else-bit-lt32 w ↦
          let none : code / 2 ^ bit % 2 ≡ 0 =
          elim w.else-bit-lt32.branch [
            | else-bit-lt32-via-then-bit-lt32+else-code-bit-eq1 v ↦ omega (arith, v.if-code-bit-eq1.false)
            | else-bit-lt32-via-else-bit-lt32 v ↦
                let big : 2 ^ 32 ≤ 2 ^ bit = pow_mono v.if-bit-lt32.false in
                let low : code / 2 ^ bit ≡ 0 = div-eq_of_lt (omega arith) in
                ap (λ x. x % 2) low
          ] in
          w.q-is ∙ simp none
    ])

pub returns : goal.returns
unfolding charged
returns g c = built_all (charge_for c.args.code) g.row.N c.loop-bit.invariant c.loop-bit-test.false
