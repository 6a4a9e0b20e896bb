-- `ticks_heard` sums what is heard of a chip after each single clock, modulo 2^64.
use Rattle.std.proofs.Common.{◌≡◌}
use Rattle.laws.specs.Times.{times}
use Rattle.sid.specs.Sid.{ticked}
use Rattle.scenes.specs.Scenes.{summed}
use Rattle.scenes.proofs.ticks_heard.Given as goal

abbrev pub invariant-loop : goal.invariant-loop
invariant-loop l = (l.chip ≡ times l.counter ticked l.fn.from) × (l.sum ≡ summed ticked l.counter l.fn.from)
