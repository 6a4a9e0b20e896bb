-- The noise register: document 01, 'Oscillator'; NoiseGenerator of oscillator.rs, in that file's order.
-- Its numbers (Noise) stand apart from the two lists of charges.
-- 'Capture, test entry and exit, charge and pull-down follow document 000 rule for rule, with wrapping on the 64-bit
-- cycle.' What a register shows is its `visible` (output).
use Rattle.std.specs.Prelude.{ℕ, zero, suc, ◌+◌, ◌-◌, ◌*◌, ◌/◌, ◌%◌, ◌^◌, ◌<◌, min, max, Bool, true, false, cond, not, ◌&&◌, List, [], ◌∷◌, ◌++◌, drop, ◌==◌, bit_and, bit_or, bit_xor, nat_le, nat_lt, slice_index, slice_set}
use Rattle.laws.specs.Times.{times}
use Rattle.laws.specs.Cycle.{never, after}
use Rattle.laws.specs.Charges.{charged, high_to, drained as charge_drained}
use Rattle.noise.specs.declared.Noise.{Noise}
use Rattle.noise.specs.declared.NoiseGenerator.{NoiseGenerator}
use Rattle.noise.specs.declared.Stages.{Stages}

-- the bits of either
infixl 60 ◌or◌
abbrev pub ◌or◌ : ℕ → ℕ → ℕ
x or y = bit_or x y

-- 'shown through taps 2, 4, 8, 11, 13, 17, 20, 22 on bits 11 down to 4' (project): a term a tap, its stage and its line
unfoldable pub shown : ℕ → ℕ
shown state =
    state / 2 ^ 2 % 2 * 2 ^ 11
    or state / 2 ^ 4 % 2 * 2 ^ 10
    or state / 2 ^ 8 % 2 * 2 ^ 9
    or state / 2 ^ 11 % 2 * 2 ^ 8
    or state / 2 ^ 13 % 2 * 2 ^ 7
    or state / 2 ^ 17 % 2 * 2 ^ 6
    or state / 2 ^ 20 % 2 * 2 ^ 5
    or state / 2 ^ 22 % 2 * 2 ^ 4

-- the taps for what goes line by line (NOISE_OUTPUT_TAPS): the stage of line 11 - n, which the n-th term above shows,
-- n from 0 (`shown_tap` in proofs/Taps)
abbrev pub taps : List ℕ
taps = 2 ∷ 4 ∷ 8 ∷ 11 ∷ 13 ∷ 17 ∷ 20 ∷ 22 ∷ []

abbrev pub tap : ℕ → ℕ
tap n = slice_index taps n

-- 'Noise holds 23 stages, fresh 0x3fffff' (new)
unfoldable pub fresh : NoiseGenerator
fresh = record {
  numbers = record {
    state = 0x3fffff;
    visible = shown 0x3fffff;
    captured = 0x3fffff;
    transfer_at = never;
    normal_transfer_at = never;
    next_leak = never;
  };
  captured_charge = charged 0x3fffff 23;
  charge = charged 0x3fffff 23;
}

-- test is entered: a shift under way is dropped, and the first leak is an interval away
-- (enter_test; NOISE_TEST_LEAK_INTERVAL_CYCLES)
unfoldable pub entered_test : NoiseGenerator → ℕ → NoiseGenerator
entered_test g cycle = record {
  numbers = record {
    state = g.numbers.state;
    visible = g.numbers.visible;
    captured = g.numbers.state;
    transfer_at = never;
    normal_transfer_at = never;
    next_leak = after cycle 65536;
  };
  captured_charge = g.charge;
  charge = g.charge;
}

-- the stages whose charge is a logic 1 (the loop of leave_test; NOISE_TEST_LOGIC_THRESHOLD)
abbrev pub sampled : List ℕ → ℕ
sampled charge = high_to 32768 charge 23 % 2 ^ 23

-- test is left: the charges become stages again, and one shift, with stage 0 driven high, lands on the next clock
-- (leave_test)
unfoldable pub left_test : NoiseGenerator → ℕ → NoiseGenerator
left_test g cycle = record {
  numbers = record {
    state = sampled g.charge;
    visible = shown (sampled g.charge);
    captured = bit_or (sampled g.charge) 1;
    transfer_at = after cycle 1;
    normal_transfer_at = g.numbers.normal_transfer_at;
    next_leak = never;
  };
  captured_charge = slice_set g.charge 0 65535;
  charge = g.charge;
}

-- 'A rise of phase bit 19 captures; … a rise in between is ignored' (clock)
unfoldable pub captures : Noise → ℕ → Bool
captures n rising = not (rising / 2 ^ 19 % 2 == 0) && n.transfer_at == never

-- 'the shift lands two clocks later' (clock): the numbers after a capture, the register, and either way of a clock
unfoldable pub capture_numbers : Noise → ℕ → Noise
capture_numbers n cycle = record {
  state = n.state;
  visible = n.visible;
  captured = n.state;
  transfer_at = after cycle 2;
  normal_transfer_at = after cycle 2;
  next_leak = n.next_leak;
}

abbrev pub caught : NoiseGenerator → ℕ → NoiseGenerator
caught g cycle = record { numbers = capture_numbers g.numbers cycle; captured_charge = g.charge; charge = g.charge }

unfoldable pub clocked : NoiseGenerator → ℕ → ℕ → NoiseGenerator
clocked g rising cycle = cond (captures g.numbers rising) (caught g cycle) g

-- whether a time that is set has come (the first tests of execute_transfer and relax, affects_capture of pull_down)
unfoldable pub come : ℕ → ℕ → Bool
come at cycle = not (at == never) && nat_le at cycle

-- the shift is due (execute_transfer)
abbrev pub transfers : Noise → ℕ → Bool
transfers n cycle = come n.transfer_at cycle

-- 'Feedback is stage 0 xor stage 5' (execute_transfer)
abbrev pub feedback : ℕ → ℕ
feedback captured = bit_xor (captured % 2) (captured / 2 ^ 5 % 2)

-- the shift: the feedback enters as stage 22, every other stage takes the one above it (execute_transfer)
unfoldable pub shifted_state : ℕ → ℕ
shifted_state captured = bit_or (captured / 2) (feedback captured * 2 ^ 22) % 2 ^ 23

-- the charges shift likewise, with a full charge for a feedback of 1 (execute_transfer)
unfoldable pub incoming : Noise → ℕ
incoming n = cond (feedback n.captured == 0) 0 65535

unfoldable pub shifted_charge : List ℕ → ℕ → List ℕ
shifted_charge charge top = drop 1 charge ++ (top ∷ [])

-- the numbers after a shift, then the register (execute_transfer)
unfoldable pub shifted_numbers : Noise → Noise
shifted_numbers n = record {
  state = shifted_state n.captured;
  visible = shown (shifted_state n.captured);
  captured = n.captured;
  transfer_at = never;
  normal_transfer_at = n.normal_transfer_at;
  next_leak = n.next_leak;
}

unfoldable pub transferred : NoiseGenerator → ℕ → NoiseGenerator
transferred g cycle =
    cond (transfers g.numbers cycle)
    (record {
      numbers = shifted_numbers g.numbers;
      captured_charge = g.captured_charge;
      charge = shifted_charge g.captured_charge (incoming g.numbers);
    })
    g

-- in test a charge that is not full gains a twenty-third of what it lacks, and at least one (relax)
unfoldable pub recovered : ℕ → ℕ
recovered q = cond (nat_lt q 65535) (min (q + max ((65535 - q) / 23) 1) 65535) q

-- a stage is marked as its charge reaches a logic 1 (relax)
unfoldable pub marks : Stages → ℕ → Bool
marks s i = nat_le 32768 (recovered (slice_index s.charge i)) && s.state / 2 ^ i % 2 == 0

-- one stage in a leak step: its charge recovers, and a marked stage is set and told of by `changed` (relax)
unfoldable pub relaxed_stage : Stages → ℕ → Stages
relaxed_stage s i = record {
  state = cond (marks s i) (bit_or s.state (2 ^ i)) s.state;
  changed = cond (marks s i) true s.changed;
  charge = slice_set s.charge i (recovered (slice_index s.charge i));
}

-- one leak step: the first n stages, then all of them (relax)
unfoldable pub relaxed_to : Stages → ℕ → Stages
relaxed_to s zero = s
relaxed_to s (suc n) = relaxed_stage (relaxed_to s n) n

abbrev pub relax_step : Stages → Stages
relax_step s = relaxed_to s 23

-- whether what has relaxed is captured: a stage was marked, and no shift is under way (relax)
unfoldable pub takes : Noise → Stages → Bool
takes n s = s.changed && n.transfer_at == never

-- the register once its stages have relaxed to s, its next leak at a time: they show anew if one was marked (relax)
unfoldable pub settled_to : NoiseGenerator → Stages → ℕ → NoiseGenerator
settled_to g s at = record {
  numbers = record {
    state = s.state;
    visible = cond s.changed (shown s.state) g.numbers.visible;
    captured = cond (takes g.numbers s) s.state g.numbers.captured;
    transfer_at = g.numbers.transfer_at;
    normal_transfer_at = g.numbers.normal_transfer_at;
    next_leak = at;
  };
  captured_charge = cond (takes g.numbers s) s.charge g.captured_charge;
  charge = s.charge;
}

-- the register after n leak steps, one after the other (relax)
unfoldable pub relaxed_times : ℕ → NoiseGenerator → NoiseGenerator
relaxed_times n g =
    settled_to g
    (times n relax_step (record { state = g.numbers.state; changed = false; charge = g.charge }))
    (after g.numbers.next_leak (n * 65536))

-- the leak steps elapsed at a cycle, counted from the next leak on (elapsed_steps of relax)
abbrev pub leak_steps : ℕ → ℕ → ℕ
leak_steps at cycle = (cycle - at) / 65536 + 1

-- the leak steps that are due (relax)
unfoldable pub relaxed : NoiseGenerator → ℕ → NoiseGenerator
relaxed g cycle =
    cond (come g.numbers.next_leak cycle) (relaxed_times (leak_steps g.numbers.next_leak cycle) g) g

-- 'have the chip's tick take one step': where one is due or more (document 02, request 12)
unfoldable pub relaxed_once : NoiseGenerator → ℕ → NoiseGenerator
relaxed_once g cycle = cond (come g.numbers.next_leak cycle) (relaxed_times 1 g) g

-- how many are due; where it is one at most, the two rules above are one (`relax_once` in proofs/Once)
unfoldable pub steps_due : Noise → ℕ → ℕ
steps_due n cycle = cond (come n.next_leak cycle) (leak_steps n.next_leak cycle) 0

-- the next leak lies ahead of a cycle: so none is due at that cycle, and one at most on the next clock (`ahead_one` in
-- proofs/Once)
abbrev pub Ahead : Noise → ℕ → Type 0
Ahead n cycle = cycle < n.next_leak

-- the line of tap n is low in a code (load_pulse_coupling, pull_down)
abbrev pub low : ℕ → ℕ → Bool
low waveform n = waveform / 2 ^ (11 - n) % 2 == 0

-- each low line takes a fourteenth of its stage's charge, and at least one: one line, the first n, then all eight
-- (load_pulse_coupling; NOISE_PULSE_CHARGE_DIVISOR)
abbrev pub drained : ℕ → ℕ
drained q = charge_drained q (q / 14)

abbrev pub coupled_at : ℕ → ℕ → List ℕ → List ℕ
coupled_at waveform n charge = cond (low waveform n) (slice_set charge (tap n) (drained (slice_index charge (tap n)))) charge

unfoldable pub coupled_to : ℕ → List ℕ → ℕ → List ℕ
coupled_to waveform charge zero = charge
coupled_to waveform charge (suc n) = coupled_at waveform n (coupled_to waveform charge n)

unfoldable pub coupled : NoiseGenerator → ℕ → NoiseGenerator
coupled g waveform = record { numbers = g.numbers; captured_charge = g.captured_charge; charge = coupled_to waveform g.charge 8 }

-- each low line discharges its stage: one line, then the first n (pull_down)
abbrev pub discharged_at : ℕ → ℕ → List ℕ → List ℕ
discharged_at waveform n charge = cond (low waveform n) (slice_set charge (tap n) 0) charge

unfoldable pub discharged_to : ℕ → List ℕ → ℕ → List ℕ
discharged_to waveform charge zero = charge
discharged_to waveform charge (suc n) = discharged_at waveform n (discharged_to waveform charge n)

-- and clears it: one line, the first n, then all eight, cut to 23 bits (pull_down)
abbrev pub cleared_at : ℕ → ℕ → ℕ → ℕ
cleared_at waveform n state = cond (low waveform n) (bit_and state (2 ^ 32 - 1 - 2 ^ tap n)) state

unfoldable pub cleared_to : ℕ → ℕ → ℕ → ℕ
cleared_to waveform state zero = state
cleared_to waveform state (suc n) = cleared_at waveform n (cleared_to waveform state n)

abbrev pub cleared : ℕ → ℕ → ℕ
cleared waveform state = cleared_to waveform state 8 % 2 ^ 23

-- what is captured is pulled down too where the shift lands by the next clock (affects_capture of pull_down)
unfoldable pub affects_capture : Noise → ℕ → Bool
affects_capture n cycle = come n.transfer_at (after cycle 1)

-- the numbers after a pull-down, then the register (pull_down)
unfoldable pub pulled_numbers : Noise → ℕ → ℕ → Noise
pulled_numbers n waveform cycle = record {
  state = cleared waveform n.state;
  visible = shown (cleared waveform n.state);
  captured = cond (affects_capture n cycle) (cleared waveform n.captured) (n.captured % 2 ^ 23);
  transfer_at = n.transfer_at;
  normal_transfer_at = n.normal_transfer_at;
  next_leak = n.next_leak;
}

unfoldable pub pulled_down : NoiseGenerator → ℕ → ℕ → NoiseGenerator
pulled_down g waveform cycle = record {
  numbers = pulled_numbers g.numbers waveform cycle;
  captured_charge = cond (affects_capture g.numbers cycle) (discharged_to waveform g.captured_charge 8) g.captured_charge;
  charge = discharged_to waveform g.charge 8;
}

-- a clock of the phase reaches the register: in test it relaxes, else the shift lands and a rise captures
-- (clock_accumulator)
unfoldable pub stepped_by : (NoiseGenerator → ℕ → NoiseGenerator) → NoiseGenerator → Bool → ℕ → ℕ → NoiseGenerator
stepped_by recover g test rising cycle = cond test (recover g cycle) (clocked (transferred g cycle) rising cycle)

-- where it relaxes as document 01 says, by all steps that are due; and in a chip
abbrev pub stepped : NoiseGenerator → Bool → ℕ → ℕ → NoiseGenerator
stepped = stepped_by relaxed

abbrev pub stepped_once : NoiseGenerator → Bool → ℕ → ℕ → NoiseGenerator
stepped_once = stepped_by relaxed_once

-- the clocks on which pulse alone reaches the register: the one on which the shift of a rise lands, and the one before
-- (pulse_load_aperture of latch_output)
unfoldable pub pulse_load_aperture : Noise → ℕ → Bool
pulse_load_aperture n cycle =
    not (n.normal_transfer_at == never) && (nat_le cycle n.normal_transfer_at && nat_le n.normal_transfer_at (after cycle 1))
