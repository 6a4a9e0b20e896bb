-- `bench_writes` gives what is heard of a fresh chip after so many seeded writes, each with the same clocks after it.
use mathlib.Core.Path.{◌≡◌}
use Rattle.laws.specs.Times.{times}
use Rattle.sid.specs.Sid.{ticks}
use Rattle.scenes.specs.Scenes.{next, stirred}
use Rattle.bench.specs.Bench.{value_for}
use Rattle.bench.proofs.bench_writes.Given as goal

abbrev pub invariant-loop : goal.invariant-loop
invariant-loop l = (l.x ≡ times l.counter next l.seed) × (l.chip ≡ stirred ticks value_for l.counter l.seed l.apart)
