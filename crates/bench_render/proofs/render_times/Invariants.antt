-- `render_times` gives the chip after so many renderings, and leaves in the buffer what they stored one after the
-- other.
use mathlib.Core.Path.{◌≡◌}
use lib.ListN.{length}
use Rattle.laws.specs.Times.{times}
use Rattle.run.specs.Answers.{pack_ran}
use Rattle.run.specs.Render.{clocks_in}
use Rattle.bench_render.specs.BenchRender.{stored}
use Rattle.bench_render.proofs.render_times.Given as goal

abbrev pub invariant-loop : goal.invariant-loop
invariant-loop l =
    (length l.out ≡ length l.fn.out)
    × (l.chip ≡ times l.counter (pack_ran l.pack (clocks_in l.fn.out)) l.fn.from)
    × (l.out ≡ stored l.pack l.counter l.fn.from l.fn.out)
