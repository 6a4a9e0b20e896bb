-- `bench_forecasts` sums forecasts of one level after another, modulo 2^64.
use Rattle.std.proofs.Common.{◌≡◌}
use Rattle.bench_tail.specs.Bench.{forecasts}
use Rattle.bench_tail.proofs.bench_forecasts.Given as goal

abbrev pub invariant-loop-i : goal.invariant-loop-i
invariant-loop-i l = l.sum ≡ forecasts l.i
