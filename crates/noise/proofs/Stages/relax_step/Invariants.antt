-- `Stages::relax_step` is one leak step: all 23 stages, the lowest first.
use Rattle.std.proofs.Common.{◌≡◌}
use Rattle.noise.specs.Noise.{relaxed_to}
use Rattle.noise.proofs.Stages.relax_step.Given as goal

abbrev pub invariant-loop-stage : goal.invariant-loop-stage
invariant-loop-stage l = l.self ≡ relaxed_to l.initial.self l.stage
