-- `Envelope::clock` is one clock by the rules where it goes the short way too, by `quiet_clock`: with nothing under way
-- only the rate counter's part does anything.
use Rattle.std.proofs.Common.{sym, ◌∙◌}
use Rattle.envelope.specs.Envelope.{quiescent}
use Rattle.envelope.proofs.Quiet.{quiet_clock}
use Rattle.envelope.proofs.Envelope.clock.Goals as goal

pub returns-then-quiescent : goal.returns-then-quiescent
unfolding quiescent
returns-then-quiescent c = c.clock_rate_sequence.ensures ∙ sym (quiet_clock c.args.self (sym c.quiescent.ensures ∙ c.if-quiescent.true))
