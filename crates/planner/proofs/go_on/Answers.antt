-- `go_on` leads to the match of an envelope that waits for it, and a clock on from any other.
use mathlib.Core.Path.{sym, subst, ◌∙◌}
use Rattle.envelope.specs.declared.Envelope.{Envelope}
use Rattle.planner.specs.Skips.{Leads}
use Rattle.planner.proofs.Counts.{waits, steps_on}
use Rattle.planner.proofs.go_on.Goals as goal

pub returns-then-is_waiting : goal.returns-then-is_waiting
returns-then-is_waiting c = waits c.args.e (sym c.is_waiting.ensures ∙ c.if-is_waiting.true)

pub returns : goal.returns
returns c = subst (λ (x : Envelope). Leads c.args.e (record { e = x; clocks = 1 })) (sym c.clock.ensures) (steps_on c.args.e)
