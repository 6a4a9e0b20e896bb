-- `leak_step` takes what a leak step takes from each of the twelve lent charges.
use Rattle.std.proofs.Common.{◌≡◌, ◌++◌, take, drop}
use Rattle.std.specs.Prelude.{map}
use Rattle.floating.specs.Floating.{lost}
use Rattle.floating.proofs.leak_step.Given as goal

abbrev pub invariant-loop-q : goal.invariant-loop-q
invariant-loop-q l = l.charge ≡ map lost (take l.q-index l.initial.charge) ++ drop l.q-index l.initial.charge
