-- `clock_times`: before clock i the envelope is that after i clocks.
use Rattle.std.proofs.Common.{◌≡◌}
use Rattle.envelope.specs.Envelope.{clocks}
use Rattle.release.proofs.clock_times.Given as goal

abbrev pub invariant-loop : goal.invariant-loop
invariant-loop l = l.e ≡ clocks l.counter l.initial.e
