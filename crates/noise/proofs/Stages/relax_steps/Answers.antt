-- `Stages::relax_steps` makes exactly so many leak steps of the 23 stages, each on what the one before it left.
use Rattle.std.proofs.Common.{refl, ap, ◌∙◌, add-one}
use Rattle.laws.proofs.Loops.{ended}
use Rattle.laws.specs.Times.{times}
use Rattle.noise.specs.Noise.{relax_step}
use Rattle.noise.proofs.Stages.relax_steps.Goals as goal

pub loop-init : goal.loop-init
unfolding times
loop-init c = refl

pub loop-preserved : goal.loop-preserved
unfolding times
loop-preserved c = rw add-one (c.relax_step.ensures ∙ ap relax_step c.loop.invariant)

pub returns : goal.returns
returns c = ended (λ n. times n relax_step c.args.self.now) _ _ _ c.loop.auto.counter-end c.loop-test.false c.loop.invariant
