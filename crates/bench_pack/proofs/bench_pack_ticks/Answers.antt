-- `bench_pack_ticks` sums what is heard of a scene after each single clock over a pack, modulo 2^64.
use Rattle.std.proofs.Common.{refl, add-one}
use Rattle.laws.specs.Times.{times}
use Rattle.tick.specs.Outputs.{outputs, pack_ticked}
use Rattle.scenes.specs.Scenes.{heard, summed}
use Rattle.bench_pack.specs.BenchPack.{pack_tick}
use Rattle.bench_pack.proofs.bench_pack_ticks.Goals as goal

pub loop-init : goal.loop-init
unfolding times summed
loop-init c = (c.scene-chip.ensures, refl)

pub loop-preserved : goal.loop-preserved
unfolding times summed heard pack_tick pack_ticked outputs
loop-preserved c =
    let t = c.tick_packed.ensures.0 in
    let l = c.loop in (
      rw add-one (simp (t, l.invariant.0)),
      rw add-one (simp (c.digest-d.ensures, t, l.invariant.0, l.invariant.1)),
    )
