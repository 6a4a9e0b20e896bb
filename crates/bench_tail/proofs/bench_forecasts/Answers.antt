-- `bench_forecasts` sums forecasts of one level after another, modulo 2^64.
use Rattle.std.proofs.Common.{refl, add-one}
use Rattle.bench_tail.specs.Bench.{forecasts}
use Rattle.bench_tail.proofs.bench_forecasts.Goals as goal

pub loop-i-init : goal.loop-i-init
unfolding forecasts
loop-i-init c = refl

pub loop-i-preserved : goal.loop-i-preserved
unfolding forecasts
loop-i-preserved c =
    rw add-one (simp (c.clocks_told-told.ensures, c.forecast.ensures, c.at_level.ensures, c.new-chip.ensures, c.loop-i.invariant))
