-- The envelope: document 01, 'Envelope'; envelope.rs. Each rule is for every state, also for those no call makes.
use Rattle.std.specs.Prelude.{ℕ, ◌+◌, ◌-◌, ◌*◌, ◌/◌, ◌%◌, Bool, true, false, cond, not, ◌&&◌, List, [], ◌∷◌, ◌==◌, slice_index, Option, Some, None}
use Rattle.std.specs.Bool.{beq}
use Rattle.laws.specs.Times.{times}
use Rattle.envelope.specs.declared.Envelope.{Envelope}
use Rattle.envelope.specs.declared.GateHistory.{GateHistory}
use Rattle.envelope.specs.declared.EnvelopeMotion.{EnvelopeMotion}
use Rattle.envelope.specs.declared.EnvelopeMotion.TheVariants.{Rising, FallingToSustain, FallingToZero}

-- 'Use 9, 32, 63, … for rates 0 to 15' (ENVELOPE_RATE_PERIODS)
unfoldable pub periods : List ℕ
periods = 9 ∷ 32 ∷ 63 ∷ 95 ∷ 149 ∷ 220 ∷ 267 ∷ 313 ∷ 392 ∷ 977 ∷ 1954 ∷ 3126 ∷ 3907 ∷ 11720 ∷ 19532 ∷ 31251 ∷ []

-- 'a rate counts by its low four bits' (envelope_rate_period)
unfoldable pub period_of : ℕ → ℕ
period_of rate = slice_index periods (rate % 16)

-- the Rust's `== EnvelopeMotion::Rising`
abbrev pub is_rising : EnvelopeMotion → Bool
is_rising Rising = true
is_rising FallingToSustain = false
is_rising FallingToZero = false

-- the rising rate is in force with the motion, and one clock before it (rising_rate_selected)
unfoldable pub rising_rate_selected : Envelope → Bool
rising_rate_selected e = is_rising (cond (e.motion_delay == 1) e.requested_motion e.motion)

-- the rate in force: the rising one, else the decay's if the gate input is high, else the release's
-- (refresh_rate_target_phase)
unfoldable pub rate_in_force : Envelope → ℕ
rate_in_force e = cond (rising_rate_selected e) e.rise_rate (cond e.gate.input e.decay_rate e.fall_rate)

-- its period less 1 is the target (refresh_rate_target_phase)
unfoldable pub target_refreshed : Envelope → Envelope
target_refreshed e = record e { rate_target_phase = period_of (rate_in_force e) - 1 }

-- ---- the parts of a clock, in its order

-- 'the readback takes the old level' (clock)
abbrev pub level_read : Envelope → Envelope
level_read e = record e { readback = e.volume }

-- 'a queued divisor is committed'; 0 stands for none (commit_curve_divisor)
unfoldable pub divisor_committed : Envelope → Envelope
divisor_committed e = cond (e.queued_curve_divisor == 0) e (record e { curve_divisor = e.queued_curve_divisor; queued_curve_divisor = 0 })

-- 'the gate edge is read from two delayed samples', the newer and the older: whether it rose, or None (GateHistory::advance)
abbrev pub edge_of : Bool → Bool → Option Bool
edge_of true true = None
edge_of true false = Some true
edge_of false true = Some false
edge_of false false = None

abbrev pub edge : GateHistory → Option Bool
edge g = edge_of g.stage_a g.stage_b

-- and then the samples move on (GateHistory::advance)
abbrev pub advanced : GateHistory → GateHistory
advanced g = record g { stage_a = g.input; stage_b = g.stage_a }

-- a motion requested with its delay (sample_gate_transition, clock_amplitude_path)
abbrev pub requested : Envelope → EnvelopeMotion → ℕ → Envelope
requested e motion delay = record e { requested_motion = motion; motion_delay = delay }

-- 'A rise requests Rising with delay 2. A fall requests FallingToZero with delay 2 if the motion is Rising, else 1'
-- (sample_gate_transition)
unfoldable pub requested_on : Option Bool → Envelope → Envelope
requested_on (Some true) e = requested e Rising 2
requested_on (Some false) e = requested e FallingToZero (cond (is_rising e.motion) 2 1)
requested_on None e = e

-- the edge is that of the samples before they move on (sample_gate_transition)
unfoldable pub gate_sampled : Envelope → Envelope
gate_sampled e = requested_on (edge e.gate) (record e { gate = advanced e.gate })

-- 'a pending motion counts down': at 0 it is the motion, and each time the target is worked out anew
-- (commit_requested_motion)
unfoldable pub motion_taken : Envelope → Envelope
motion_taken e = cond (e.motion_delay == 0) (record e { motion = e.requested_motion }) e

unfoldable pub motion_committed : Envelope → Envelope
motion_committed e = cond (e.motion_delay == 0) e (target_refreshed (motion_taken (record e { motion_delay = e.motion_delay - 1 })))

-- 'After a level change, 0xff and 0x00 queue divisor 1; 0x5d, 0x36, 0x1a, 0x0e, 0x06 queue 2, 4, 8, 16, 30; other
-- levels queue none': 0 (select_curve_divisor)
unfoldable pub divisor_for : ℕ → ℕ
divisor_for v =
    cond (v == 0xff) 1
    (cond (v == 0x00) 1
    (cond (v == 0x5d) 2
    (cond (v == 0x36) 4
    (cond (v == 0x1a) 8
    (cond (v == 0x0e) 16
    (cond (v == 0x06) 30 0))))))

unfoldable pub divisor_selected : Envelope → Envelope
divisor_selected e = record e { queued_curve_divisor = divisor_for e.volume }

-- 'Reaching 0xff while Rising requests FallingToSustain with delay 3, and overrides a fall seen on that very clock'
-- (clock_amplitude_path)
unfoldable pub top_reached : Envelope → Envelope
top_reached e = cond (e.volume == 0xff) (requested e FallingToSustain 3) e

-- '0xff plus 1 is 0' (wrapping_add)
unfoldable pub up : ℕ → ℕ
up v = (v + 1) % 256

-- a step up: the level, what it requests at 0xff, the divisor that it queues (clock_amplitude_path)
unfoldable pub stepped_up : Envelope → Envelope
stepped_up e = divisor_selected (top_reached (record e { volume = up e.volume }))

-- 'Falling to 0 holds the level' (clock_amplitude_path)
unfoldable pub bottom_reached : Envelope → Envelope
bottom_reached e = cond (e.volume == 0) (record e { floor_hold = true }) e

-- 'level 0 minus 1 is 0xff' (wrapping_sub)
unfoldable pub down : ℕ → ℕ
down v = (v + 255) % 256

-- a step down: the level, its hold at 0, the divisor that it queues (clock_amplitude_path)
unfoldable pub stepped_down : Envelope → Envelope
stepped_down e = divisor_selected (bottom_reached (record e { volume = down e.volume }))

-- 'Falling to sustain stops at the sustain level; else a level of 0 not held falls to 0xff' (clock_amplitude_path)
unfoldable pub stepped : EnvelopeMotion → Envelope → Envelope
stepped Rising e = stepped_up e
stepped FallingToSustain e = cond (e.volume == e.hold_level) e (stepped_down e)
stepped FallingToZero e = stepped_down e

-- a level delay counts down, and as it ends the level steps, unless held (clock_amplitude_path)
unfoldable pub amplitude_due : Envelope → Envelope
amplitude_due e = cond (e.amplitude_delay == 0) (cond e.floor_hold e (stepped e.motion e)) e

unfoldable pub amplitude_clocked : Envelope → Envelope
amplitude_clocked e = cond (e.amplitude_delay == 0) e (amplitude_due (record e { amplitude_delay = e.amplitude_delay - 1 }))

-- a curve delay counts down, and as it ends the curve count is 0 and level delay 1 is set, unless falling to sustain
-- at that level (clock_curve_path; change_due is its amplitude_change_due)
abbrev pub change_due : EnvelopeMotion → Bool → Bool
change_due Rising there = true
change_due FallingToSustain there = not there
change_due FallingToZero there = true

unfoldable pub curve_ended : Envelope → Envelope
curve_ended e = cond (change_due e.motion (e.volume == e.hold_level)) (record e { amplitude_delay = 1 }) e

unfoldable pub curve_due : Envelope → Envelope
curve_due e = cond (e.curve_delay == 0) (curve_ended (record e { curve_count = 0 })) e

unfoldable pub curve_clocked : Envelope → Envelope
curve_clocked e = cond (e.curve_delay == 0) e (curve_due (record e { curve_delay = e.curve_delay - 1 }))

-- 'equal to the divisor it sets curve delay 1 for divisor 1, otherwise 2' (consume_rate_match)
unfoldable pub curve_counted : Envelope → Envelope
curve_counted e = cond (e.curve_count == e.curve_divisor) (record e { curve_delay = cond (e.curve_divisor == 1) 1 2 }) e

-- 'Under the rising rate it zeroes the curve count and sets level delay 2. Else, unless held, the curve count goes up'
-- (consume_rate_match)
unfoldable pub match_used : Envelope → Envelope
match_used e =
    cond (rising_rate_selected e) (record e { curve_count = 0; amplitude_delay = 2 })
    (cond e.floor_hold e (curve_counted (record e { curve_count = (e.curve_count + 1) % 256 })))

-- 'A consumed match zeroes the counter before that clock's count' (consume_rate_match)
unfoldable pub match_consumed : Envelope → Envelope
match_consumed e = cond e.matched_rate (match_used (record e { matched_rate = false; rate_phase = 0 })) e

-- 'it goes up one, and 32767 becomes 0; in states no call makes, 65535 goes up to 0' (clock_rate_sequence)
unfoldable pub phase_up : ℕ → ℕ
phase_up p = cond ((p + 1) % 65536 == 32767) 0 ((p + 1) % 65536)

-- 'The rate counter equal to its target sets the match and stays. Otherwise it goes up one' (clock_rate_sequence)
unfoldable pub rate_clocked : Envelope → Envelope
rate_clocked e = cond (e.rate_phase == e.rate_target_phase) (record e { matched_rate = true }) (record e { rate_phase = phase_up e.rate_phase })

-- 'One clock: the readback takes the old level; a queued divisor is committed; the gate edge is read from two delayed
-- samples; a pending motion counts down; then level, curve, waiting match, rate counter, in that order': innermost
-- first (clock)
unfoldable pub clocked : Envelope → Envelope
clocked e = rate_clocked (match_consumed (curve_clocked (amplitude_clocked (motion_committed (gate_sampled (divisor_committed (level_read e)))))))

-- the test of 'The short way at the head of `clock`': nothing is under way (clock)
unfoldable pub quiescent : Envelope → Bool
quiescent e =
    (e.queued_curve_divisor == 0)
    && beq e.gate.input e.gate.stage_a
    && beq e.gate.stage_a e.gate.stage_b
    && e.motion_delay == 0
    && e.amplitude_delay == 0
    && e.curve_delay == 0
    && not e.matched_rate

-- n clocks
abbrev pub clocks : ℕ → Envelope → Envelope
clocks n e = times n clocked e

-- ---- the calls

-- a gate that has always been low (GateHistory::new)
abbrev pub fresh_gate : GateHistory
fresh_gate = record { input = false; stage_a = false; stage_b = false }

-- freshly made (new): the level is 0xaa
unfoldable pub fresh : Envelope
fresh =
    record {
      volume = 0xaa;
      rise_rate = 0;
      decay_rate = 0;
      hold_level = 0;
      fall_rate = 0;
      gate = fresh_gate;
      motion = FallingToZero;
      requested_motion = FallingToZero;
      motion_delay = 0;
      rate_phase = 0;
      rate_target_phase = period_of 0 - 1;
      matched_rate = false;
      amplitude_delay = 0;
      curve_delay = 0;
      curve_count = 0;
      curve_divisor = 1;
      queued_curve_divisor = 0;
      floor_hold = false;
      readback = 0xaa;
    }

-- 'Reset keeps level and rate phase, sets the readback to the level, and holds it exactly if the level is 0';
-- all else is fresh (reset)
unfoldable pub reset : Envelope → Envelope
reset e = record fresh { volume = e.volume; readback = e.volume; rate_phase = e.rate_phase; floor_hold = e.volume == 0 }

-- the byte's upper half is the rising rate, its lower half the decay's (set_attack_decay)
unfoldable pub attack_decay_set : Envelope → ℕ → Envelope
attack_decay_set e value = target_refreshed (record e { rise_rate = value / 16; decay_rate = value % 16 })

-- the byte's upper half, written twice, is the sustain level, its lower half the release's rate (set_sustain_release)
unfoldable pub sustain_release_set : Envelope → ℕ → Envelope
sustain_release_set e value = target_refreshed (record e { hold_level = value / 16 * 17; fall_rate = value % 16 })

-- 'A new gate-on releases the hold': one that finds the input low (set_gate)
unfoldable pub gate_set : Envelope → Bool → Envelope
gate_set e high =
    target_refreshed
    (record e {
      floor_hold = cond (high && not e.gate.input) false e.floor_hold;
      gate = record e.gate { input = high };
    })
