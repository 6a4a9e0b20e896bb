-- `bench_pack_ticks` sums what is heard of a scene after each single clock over a pack, modulo 2^64.
use Rattle.std.proofs.Common.{◌≡◌}
use Rattle.laws.specs.Times.{times}
use Rattle.scenes.specs.Scenes.{scene, summed}
use Rattle.bench_pack.specs.BenchPack.{pack_tick}
use Rattle.bench_pack.proofs.bench_pack_ticks.Given as goal

abbrev pub invariant-loop : goal.invariant-loop
invariant-loop l =
    (l.chip ≡ times l.counter (pack_tick l.pack) (scene l.control)) × (l.sum ≡ summed (pack_tick l.pack) l.counter (scene l.control))
