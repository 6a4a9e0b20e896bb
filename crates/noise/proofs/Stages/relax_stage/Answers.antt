-- `Stages::relax_stage` lets one stage's charge recover, and marks the stage as its charge reaches a logic 1.
use Rattle.std.proofs.Common.{sym, arith, eq-eqb, ne_eqb, le-leb}
use borrow.Author.Tests.{lt-leb}
use Rattle.laws.proofs.Masks.{one_shl}
use Rattle.noise.specs.Noise.{marks, relaxed_stage}
use Rattle.noise.proofs.Stages.relax_stage.Goals as goal
use Rattle.noise.proofs.Stages.relax_stage.Goals.{else-charge-ge-NOISE_TEST_LOGIC_THRESHOLD-via-then-charge-ge-NOISE_TEST_LOGIC_THRESHOLD+else-self-stage-eq0, else-charge-ge-NOISE_TEST_LOGIC_THRESHOLD-via-else-charge-ge-NOISE_TEST_LOGIC_THRESHOLD}

pub returns-then-self-stage-eq0 : goal.returns-then-self-stage-eq0
unfolding relaxed_stage marks
returns-then-self-stage-eq0 c = simp (sym c.recovered-charge.ensures, le-leb _ _ c.if-charge-ge-NOISE_TEST_LOGIC_THRESHOLD.true, eq-eqb _ _ c.if-self-stage-eq0.true, one_shl c.args.stage 32 (omega arith))

pub returns-else-charge-ge-NOISE_TEST_LOGIC_THRESHOLD : goal.returns-else-charge-ge-NOISE_TEST_LOGIC_THRESHOLD
unfolding relaxed_stage marks
returns-else-charge-ge-NOISE_TEST_LOGIC_THRESHOLD c =
    elim c.else-charge-ge-NOISE_TEST_LOGIC_THRESHOLD.branch [
      | else-charge-ge-NOISE_TEST_LOGIC_THRESHOLD-via-then-charge-ge-NOISE_TEST_LOGIC_THRESHOLD+else-self-stage-eq0 w ↦ simp (sym c.recovered-charge.ensures, le-leb _ _ w.if-charge-ge-NOISE_TEST_LOGIC_THRESHOLD.true, ne_eqb _ _ w.if-self-stage-eq0.false)
      | else-charge-ge-NOISE_TEST_LOGIC_THRESHOLD-via-else-charge-ge-NOISE_TEST_LOGIC_THRESHOLD w ↦ simp (sym c.recovered-charge.ensures, lt-leb _ _ w.if-charge-ge-NOISE_TEST_LOGIC_THRESHOLD.false)
    ]
