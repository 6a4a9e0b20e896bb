-- `leak_steps` makes the given number of leak steps, one after the other, on the lent charges.
use Rattle.std.proofs.Common.{refl, ap, ◌∙◌, add-one}
use Rattle.laws.proofs.Loops.{ended}
use Rattle.laws.specs.Times.{times}
use Rattle.floating.specs.Floating.{leak_step}
use Rattle.floating.proofs.leak_steps.Goals as goal

pub loop-init : goal.loop-init
unfolding times
loop-init c = refl

pub loop-preserved : goal.loop-preserved
unfolding times
loop-preserved c = rw add-one (c.leak_step.ensures ∙ ap leak_step c.loop.invariant)

pub returns : goal.returns
returns c = ended (λ n. times n leak_step c.args.charge.now) _ _ _ c.loop.auto.counter-end c.loop-test.false c.loop.invariant
