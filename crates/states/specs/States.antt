-- An envelope's state in the oracle's lists: 18 bytes, little endian; no rule of document 01.
use Rattle.std.specs.Prelude.{ℕ, ◌/◌, ◌%◌, List, cond, eqb}
use Rattle.words.specs.Words.{number_at}
use Rattle.envelope.specs.declared.Envelope.{Envelope}
use Rattle.envelope.specs.declared.GateHistory.{GateHistory}
use Rattle.envelope.specs.declared.EnvelopeMotion.{EnvelopeMotion}
use Rattle.envelope.specs.declared.EnvelopeMotion.TheVariants.{Rising, FallingToSustain, FallingToZero}

abbrev pub motion_at : ℕ → EnvelopeMotion
motion_at place = cond (eqb place 0) Rising (cond (eqb place 1) FallingToSustain FallingToZero)

-- the low three of the flags: 'bit 0 gate input, 1 stage a, 2 stage b, 3 matched rate, 4 floor hold'
abbrev pub gate_of : ℕ → GateHistory
gate_of flags = record { input = eqb (flags % 2) 1; stage_a = eqb (flags / 2 % 2) 1; stage_b = eqb (flags / 4 % 2) 1 }

abbrev pub state_of : List ℕ → Envelope
state_of s = record {
  volume = number_at 1 s 0;
  rise_rate = number_at 1 s 1;
  decay_rate = number_at 1 s 2;
  hold_level = number_at 1 s 3;
  fall_rate = number_at 1 s 4;
  gate = gate_of (number_at 1 s 5);
  motion = motion_at (number_at 1 s 6 % 4);
  requested_motion = motion_at (number_at 1 s 6 / 4);
  motion_delay = number_at 1 s 7;
  rate_phase = number_at 2 s 8;
  rate_target_phase = number_at 2 s 10;
  matched_rate = eqb (number_at 1 s 5 / 8 % 2) 1;
  amplitude_delay = number_at 1 s 12;
  curve_delay = number_at 1 s 13;
  curve_count = number_at 1 s 14;
  curve_divisor = number_at 1 s 15;
  queued_curve_divisor = number_at 1 s 16;
  floor_hold = eqb (number_at 1 s 5 / 16 % 2) 1;
  readback = number_at 1 s 17;
}
