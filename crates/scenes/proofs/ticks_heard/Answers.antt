-- `ticks_heard` sums what is heard of a chip after each single clock, modulo 2^64.
use Rattle.std.proofs.Common.{refl, add-one}
use Rattle.laws.specs.Times.{times}
use Rattle.tick.specs.Outputs.{outputs}
use Rattle.scenes.specs.Scenes.{heard, summed}
use Rattle.scenes.proofs.ticks_heard.Goals as goal

pub loop-init : goal.loop-init
unfolding times summed
loop-init c = (refl, refl)

pub loop-preserved : goal.loop-preserved
unfolding times summed heard outputs
loop-preserved c =
    let t = c.tick-t.ensures in
    let l = c.loop in (
      rw add-one (simp (t, l.invariant.0)),
      rw add-one (simp (c.digest-d.ensures, t, l.invariant.0, l.invariant.1)),
    )
