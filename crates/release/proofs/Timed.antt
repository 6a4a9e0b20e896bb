-- Every call keeps an envelope `Timed`, so that a release or a rise with nothing under way is settled, with the period
-- of its rate. Assumes nothing.
use Prim.Native.Nat.{ℕ, ◌+◌, ◌-◌, ◌%◌, ◌<◌}
use native.Mathlib.Omega.{arith}
use mathlib.Core.Path.{◌≡◌, refl, sym, ◌∙◌}
use mathlib.Core.Bool.{Bool, true, false, cond, false≢true}
use lib.Dec.{eqb}
use Rattle.laws.proofs.Cond.{by_test, either}
use Rattle.envelope.specs.declared.Envelope.{Envelope}
use Rattle.envelope.specs.declared.EnvelopeMotion.{EnvelopeMotion}
use Rattle.envelope.specs.declared.EnvelopeMotion.TheVariants.{Rising, FallingToSustain, FallingToZero}
use Rattle.envelope.specs.Envelope.{period_of, is_rising, rising_rate_selected, rate_in_force, target_refreshed, level_read, divisor_committed, edge_of, requested, requested_on, gate_sampled, motion_taken, motion_committed, divisor_selected, top_reached, up, stepped_up, bottom_reached, down, stepped_down, stepped, amplitude_due, amplitude_clocked, change_due, curve_ended, curve_due, curve_clocked, curve_counted, match_used, match_consumed, rate_clocked, clocked, quiescent, fresh, reset, attack_decay_set, sustain_release_set, gate_set}
use Rattle.envelope.proofs.Periods.{period_range}
use Rattle.envelope.proofs.Quiet.{quiet}
use Rattle.release.specs.Rise.{Resting}
use Rattle.release.specs.Settled.{Settled, SeenHigh, Timed}
use Rattle.release.proofs.Waits.{phase_up_lem}

read_timed : (e : Envelope) → Timed e → Timed (level_read e)
unfolding rate_in_force rising_rate_selected
read_timed e a = a

divisor_timed : (e : Envelope) → Timed e → Timed (divisor_committed e)
unfolding divisor_committed rate_in_force rising_rate_selected
divisor_timed e a = either Timed (eqb e.queued_curve_divisor 0) _ _ a a

-- the samples move on, and a rise or a fall that they show is requested
sampled_timed : (newer older : Bool) (e : Envelope) → Timed (record e { gate = record e.gate { stage_a = newer; stage_b = older } }) → Timed (requested_on (edge_of newer older) (record e { gate = record e.gate { stage_a = e.gate.input; stage_b = newer } }))
unfolding requested_on rate_in_force rising_rate_selected
sampled_timed true true e a = a
sampled_timed true false e a = (λ z. absurd (omega (arith, z)), λ _. refl, a.2, a.3)
sampled_timed false true e a = go (is_rising e.motion)
  where
    go : (rising : Bool) → Timed (requested (record e { gate = record e.gate { stage_a = e.gate.input; stage_b = false } }) FallingToZero (cond rising 2 1))
    go true = (λ z. absurd (omega (arith, z)), λ f. absurd (false≢true f), a.2, a.3)
    go false = (λ z. absurd (omega (arith, z)), λ f. absurd (false≢true f), a.2, a.3)
sampled_timed false false e a = a

gate_timed : (e : Envelope) → Timed e → Timed (gate_sampled e)
unfolding gate_sampled rate_in_force rising_rate_selected
gate_timed e a = sampled_timed e.gate.stage_a e.gate.stage_b e a

-- a target worked out anew is that of the rate in force
refreshed_timed : (e : Envelope) → SeenHigh e → e.rate_phase < 32767 → e.volume < 256 → Timed (target_refreshed e)
unfolding target_refreshed rate_in_force rising_rate_selected
refreshed_timed e s p v = (λ _. refl, s, p, v)

-- a pending motion that is taken was the one asked for
counted_timed : (e : Envelope) → eqb e.motion_delay 0 ≡ false → Timed e → Timed (target_refreshed (motion_taken (record e { motion_delay = e.motion_delay - 1 })))
unfolding motion_taken
counted_timed e n a = go (eqb (e.motion_delay - 1) 0) refl
  where
    asked : is_rising e.requested_motion ≡ true → e.gate.stage_b ≡ true
    asked h = a.1 (rw n h)

    go : (t : Bool) → eqb (e.motion_delay - 1) 0 ≡ t → Timed (target_refreshed (cond t (record e { motion = e.requested_motion; motion_delay = e.motion_delay - 1 }) (record e { motion_delay = e.motion_delay - 1 })))
    go true z = refreshed_timed (record e { motion = e.requested_motion; motion_delay = e.motion_delay - 1 }) (λ h. asked (rw z at h)) a.2 a.3
    go false z = refreshed_timed (record e { motion_delay = e.motion_delay - 1 }) (λ h. asked (rw z at h)) a.2 a.3

motion_timed : (e : Envelope) → Timed e → Timed (motion_committed e)
unfolding motion_committed
motion_timed e a = by_test Timed (eqb e.motion_delay 0) _ _ (λ _. a) (λ n. counted_timed e n a)

up_timed : (e : Envelope) → Timed e → Timed (stepped_up e)
unfolding stepped_up divisor_selected top_reached up rate_in_force rising_rate_selected
up_timed e a =
    either (λ (x : Envelope). Timed (divisor_selected x)) (eqb (up e.volume) 0xff) _ _
    (λ z. absurd (omega (arith, z)), λ f. absurd (false≢true f), a.2, omega arith) (a.0, a.1, a.2, omega arith)

down_timed : (e : Envelope) → Timed e → Timed (stepped_down e)
unfolding stepped_down divisor_selected bottom_reached down rate_in_force rising_rate_selected
down_timed e a =
    either (λ (x : Envelope). Timed (divisor_selected x)) (eqb (down e.volume) 0) _ _ (a.0, a.1, a.2, omega arith) (a.0, a.1, a.2, omega arith)

step_timed : (m : EnvelopeMotion) (e : Envelope) → Timed e → Timed (stepped m e)
unfolding stepped
step_timed Rising e a = up_timed e a
step_timed FallingToSustain e a = either Timed (eqb e.volume e.hold_level) _ _ a (down_timed e a)
step_timed FallingToZero e a = down_timed e a

level_timed : (e : Envelope) → Timed e → Timed (amplitude_clocked e)
unfolding amplitude_clocked amplitude_due rate_in_force rising_rate_selected
level_timed e a =
    either Timed (eqb e.amplitude_delay 0) _ _ a
    (either Timed (eqb (e.amplitude_delay - 1) 0) _ _ (either Timed e.floor_hold _ _ a (step_timed e.motion _ a)) a)

curve_timed : (e : Envelope) → Timed e → Timed (curve_clocked e)
unfolding curve_clocked curve_due curve_ended rate_in_force rising_rate_selected
curve_timed e a =
    either Timed (eqb e.curve_delay 0) _ _ a
    (either Timed (eqb (e.curve_delay - 1) 0) _ _ (either Timed (change_due e.motion (eqb e.volume e.hold_level)) _ _ a a) a)

used_timed : (e : Envelope) → Timed e → Timed (match_used e)
unfolding match_used curve_counted rate_in_force rising_rate_selected
used_timed e a =
    either Timed (rising_rate_selected e) _ _ a (either Timed e.floor_hold _ _ a (either Timed (eqb ((e.curve_count + 1) % 256) e.curve_divisor) _ _ a a))

match_timed : (e : Envelope) → Timed e → Timed (match_consumed e)
unfolding match_consumed rate_in_force rising_rate_selected
match_timed e a = either Timed e.matched_rate _ _ (used_timed _ (a.0, a.1, omega arith, a.3)) a

rate_timed : (e : Envelope) → Timed e → Timed (rate_clocked e)
unfolding rate_clocked rate_in_force rising_rate_selected
rate_timed e a = either Timed (eqb e.rate_phase e.rate_target_phase) _ _ a (a.0, a.1, omega (arith, phase_up_lem e.rate_phase a.2), a.3)

pub clock_timed : (e : Envelope) → Timed e → Timed (clocked e)
unfolding clocked
clock_timed e a =
    let e1 = divisor_committed (level_read e) in
    let e2 = motion_committed (gate_sampled e1) in
    let e3 = curve_clocked (amplitude_clocked e2) in
    let a1 = divisor_timed (level_read e) (read_timed e a) in
    let a2 = motion_timed (gate_sampled e1) (gate_timed e1 a1) in
    let a3 = curve_timed (amplitude_clocked e2) (level_timed e2 a2) in
    rate_timed (match_consumed e3) (match_timed e3 a3)

-- ---- the calls

pub gate_set_timed : (e : Envelope) (high : Bool) → Timed e → Timed (gate_set e high)
unfolding gate_set
gate_set_timed e high a = refreshed_timed _ a.1 a.2 a.3

pub attack_decay_timed : (e : Envelope) (value : ℕ) → Timed e → Timed (attack_decay_set e value)
unfolding attack_decay_set
attack_decay_timed e value a = refreshed_timed _ a.1 a.2 a.3

pub sustain_release_timed : (e : Envelope) (value : ℕ) → Timed e → Timed (sustain_release_set e value)
unfolding sustain_release_set
sustain_release_timed e value a = refreshed_timed _ a.1 a.2 a.3

pub reset_timed : (e : Envelope) → Timed e → Timed (reset e)
unfolding reset fresh rate_in_force rising_rate_selected
reset_timed e a = (λ _. refl, λ f. absurd (false≢true f), a.2, a.3)

pub fresh_timed : Timed fresh
unfolding fresh rate_in_force rising_rate_selected
fresh_timed = (λ _. refl, λ f. absurd (false≢true f), omega arith, omega arith)

-- ---- so a release or a rise with nothing under way is settled, with the period of its rate

pub timed_settled
    : (high : Bool) (m : EnvelopeMotion) (e : Envelope)
    → Timed e
    → quiescent e ≡ true
    → e.gate.input ≡ high
    → e.motion ≡ m
    → e.floor_hold ≡ false
    → Settled high m e (period_of (rate_in_force e))
timed_settled high m e t h g k u =
    let q = quiet e h in
    let a = sym q.input ∙ g in
    record {
      input = g;
      stage_a = a;
      stage_b = sym q.samples ∙ a;
      motion = k;
      motion_delay = q.motion;
      level_delay = q.amplitude;
      curve_delay = q.curve;
      unqueued = q.unqueued;
      unmatched = q.unmatched;
      unheld = u;
      target = t.0 q.motion;
      least = (period_range (rate_in_force e)).0;
      most = (period_range (rate_in_force e)).1;
      phase = t.2;
      level = t.3;
    }

-- and one whose gate rests low does not rise
untrue : (b : Bool) → (b ≡ true → ⊥) → b ≡ false
untrue true n = absurd (n refl)
untrue false n = refl

pub timed_resting : (e : Envelope) → Timed e → quiescent e ≡ true → e.gate.input ≡ false → Resting e
timed_resting e t h g =
    let q = quiet e h in
    let low : e.gate.stage_b ≡ false = sym q.samples ∙ sym q.input ∙ g in
    record {
      quiet = h;
      low = g;
      motion = untrue (is_rising e.motion) (λ r. false≢true (sym low ∙ t.1 (rw q.motion r)));
      phase = t.2;
      level = t.3;
    }
