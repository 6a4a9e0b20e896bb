-- `cleared` clears the stages of the low lines and no other bit.
use Rattle.std.proofs.Common.{sym, refl, ◌∙◌, add-one, arith, rules}
use Rattle.laws.proofs.Masks.{one_shl}
use Rattle.noise.proofs.Taps.{tap_lt}
use Rattle.noise.specs.Noise.{cleared_to, tap}
use Rattle.noise.proofs.cleared.Goals as goal
use Rattle.noise.proofs.cleared.Goals.{then-is_low, else-is_low}

pub loop-line-init : goal.loop-line-init
unfolding cleared_to
loop-line-init c = (search rules, refl)

pub loop-line-preserved : goal.loop-line-preserved
unfolding cleared_to
loop-line-preserved c =
    let l = c.loop-line in (
      search rules,
      rw add-one (elim c.if-is_low.branch [
        | then-is_low w ↦ simp (sym c.is_low.ensures ∙ w.if-is_low.true, w.state-is, one_shl (tap l.line) 32 (omega (arith, tap_lt l.line (omega arith))), l.invariant.1)
        | else-is_low w ↦ simp (sym c.is_low.ensures ∙ w.if-is_low.false, w.state-is, l.invariant.1)
      ]),
    )
