-- `leak_steps` makes the given number of leak steps, one after the other, on the lent charges.
use Rattle.std.proofs.Common.{◌≡◌}
use Rattle.laws.specs.Times.{times}
use Rattle.floating.specs.Floating.{leak_step}
use Rattle.floating.proofs.leak_steps.Given as goal

abbrev pub invariant-loop : goal.invariant-loop
invariant-loop l = l.charge ≡ times l.counter leak_step l.initial.charge
