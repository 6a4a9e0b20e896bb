-- `run_into`: the parts that the loop holds are, packed, the chip after i ticks, each flag tells whether its envelope
-- is quiet, and what was heard is stored.
use Rattle.sid.proofs.Ticks.{whole}
use Rattle.sid.proofs.Turn.{parts}
use Rattle.sid.specs.Sid.{ticks_by}
use Rattle.envelope.specs.Envelope.{quiescent}
use Rattle.pack.specs.Pack.{over}
use Rattle.std.proofs.Common.{◌≡◌}
use Rattle.run.specs.Loop.{stored_by}
use Rattle.run.proofs.run_into.Given as goal

abbrev pub invariant-loop-i : goal.invariant-loop-i
invariant-loop-i l = record {
  ticked :
      whole l.data_bus l.chip.pot_x l.chip.pot_y l.cycle
      (parts l.control_0 l.tone_0 l.noise_0 l.captured_0 l.charge_0 l.floating_0 l.lines_0 l.envelope_0)
      (parts l.control_1 l.tone_1 l.noise_1 l.captured_1 l.charge_1 l.floating_1 l.lines_1 l.envelope_1)
      (parts l.control_2 l.tone_2 l.noise_2 l.captured_2 l.charge_2 l.floating_2 l.lines_2 l.envelope_2)
      ≡ ticks_by (over l.pack) l.i l.chip;
  rests_0 : l.quiet_0 ≡ quiescent l.envelope_0;
  rests_1 : l.quiet_1 ≡ quiescent l.envelope_1;
  rests_2 : l.quiet_2 ≡ quiescent l.envelope_2;
  stored : l.out ≡ stored_by (over l.pack) l.i l.chip l.initial.out;
}
