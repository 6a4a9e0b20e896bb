-- `render_times` gives the chip after so many renderings, and leaves in the buffer what they stored one after the
-- other.
use native.Mathlib.Numerals.{add-one}
use mathlib.Core.Path.{◌∙◌, refl}
use Rattle.laws.specs.Times.{times}
use Rattle.bench_render.specs.BenchRender.{stored}
use Rattle.bench_render.proofs.render_times.Goals as goal

pub loop-init : goal.loop-init
unfolding times stored
loop-init c = (refl, refl, refl)

pub loop-preserved : goal.loop-preserved
unfolding times stored
loop-preserved c =
    let l = c.loop in
    let r = c.render in (
      r.auto.out ∙ l.invariant.0,
      rw add-one (simp (r.ensures.0, l.invariant.0, l.invariant.1)),
      rw add-one (simp (r.ensures.2, l.invariant.1, l.invariant.2)),
    )
