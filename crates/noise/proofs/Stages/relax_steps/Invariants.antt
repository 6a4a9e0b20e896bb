-- `Stages::relax_steps` makes exactly so many leak steps of the 23 stages, each on what the one before it left.
use Rattle.std.proofs.Common.{◌≡◌}
use Rattle.laws.specs.Times.{times}
use Rattle.noise.specs.Noise.{relax_step}
use Rattle.noise.proofs.Stages.relax_steps.Given as goal

abbrev pub invariant-loop : goal.invariant-loop
invariant-loop l = l.self ≡ times l.counter relax_step l.initial.self
