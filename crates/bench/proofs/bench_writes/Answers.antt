-- `bench_writes` gives what is heard of a fresh chip after so many seeded writes, each with the same clocks after it.
use native.Mathlib.Numerals.{add-one}
use mathlib.Core.Path.{refl}
use Rattle.laws.specs.Times.{times}
use Rattle.scenes.specs.Scenes.{stirred}
use Rattle.bench.proofs.bench_writes.Goals as goal

pub loop-init : goal.loop-init
unfolding times stirred
loop-init c = (refl, c.new-chip.ensures)

pub loop-preserved : goal.loop-preserved
unfolding times stirred
loop-preserved c =
    let l = c.loop in
    let x = c.next-x.ensures in (
      rw add-one (simp (x, l.invariant.0)),
      rw add-one (simp (c.run-chip.ensures, c.write-chip.ensures, c.value_for.ensures, x, l.invariant.0, l.invariant.1)),
    )
