-- `Stages::relax_step` is one leak step: all 23 stages, the lowest first.
use Rattle.std.proofs.Common.{refl, ap, ◌∙◌, add-one}
use Rattle.laws.proofs.Loops.{ended}
use Rattle.noise.specs.Noise.{relaxed_stage, relaxed_to}
use Rattle.noise.specs.declared.Stages.{Stages}
use Rattle.noise.proofs.Stages.relax_step.Goals as goal

pub loop-stage-init : goal.loop-stage-init
unfolding relaxed_to
loop-stage-init c = refl

pub loop-stage-preserved : goal.loop-stage-preserved
unfolding relaxed_to
loop-stage-preserved c = rw add-one (c.relax_stage.ensures ∙ ap (λ (s : Stages). relaxed_stage s c.loop-stage.stage) c.loop-stage.invariant)

pub returns : goal.returns
returns c = ended (relaxed_to c.args.self.now) _ _ 23 c.loop-stage.auto.stage-end c.loop-stage-test.false c.loop-stage.invariant
