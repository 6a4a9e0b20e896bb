-- `bench_pack_writes` gives what is heard of a fresh chip after so many seeded writes of any byte, each with the same
-- clocks over a pack after it.
use Rattle.std.proofs.Common.{◌≡◌}
use Rattle.laws.specs.Times.{times}
use Rattle.run.specs.Answers.{pack_ran}
use Rattle.scenes.specs.Scenes.{next, stirred}
use Rattle.bench_pack.specs.BenchPack.{any_value}
use Rattle.bench_pack.proofs.bench_pack_writes.Given as goal

abbrev pub invariant-loop : goal.invariant-loop
invariant-loop l =
    (l.x ≡ times l.counter next l.seed) × (l.chip ≡ stirred (pack_ran l.pack) any_value l.counter l.seed l.apart)
