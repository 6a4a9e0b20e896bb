-- `bench_pack_writes` gives what is heard of a fresh chip after so many seeded writes of any byte, each with the same
-- clocks over a pack after it.
use Rattle.std.proofs.Common.{refl, add-one}
use Rattle.laws.specs.Times.{times}
use Rattle.scenes.specs.Scenes.{stirred}
use Rattle.bench_pack.specs.BenchPack.{any_value}
use Rattle.bench_pack.proofs.bench_pack_writes.Goals as goal

pub loop-init : goal.loop-init
unfolding times stirred
loop-init c = (refl, c.new-chip.ensures)

pub loop-preserved : goal.loop-preserved
unfolding times stirred any_value
loop-preserved c =
    let l = c.loop in
    let x = c.next-x.ensures in (
      rw add-one (simp (x, l.invariant.0)),
      rw add-one (simp (c.run_packed.ensures.0, c.write-chip.ensures, x, l.invariant.0, l.invariant.1)),
    )
