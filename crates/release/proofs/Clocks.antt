-- What each clock of a release and of a rise leaves that isn't spent waiting for the match: a match counts, is due or
-- lifts, a delay waits or ends, the level steps, a divisor is committed. Assumes nothing.
use Prim.Native.Nat.{ℕ, ◌+◌, ◌%◌, ◌<◌, ◌≤◌}
use native.Mathlib.Omega.{arith}
use mathlib.Core.Path.{◌≡◌, refl, ap, ◌∙◌}
use mathlib.Core.Bool.{Bool, true, false, cond}
use borrow.Author.Tests.{eq-eqb, ne_eqb, eqb-true}
use lib.Dec.{eqb}
use Rattle.laws.proofs.Cond.{either}
use Rattle.envelope.specs.declared.Envelope.{Envelope}
use Rattle.envelope.specs.declared.EnvelopeMotion.{EnvelopeMotion}
use Rattle.envelope.specs.declared.EnvelopeMotion.TheVariants.{Rising, FallingToZero}
use Rattle.envelope.specs.Envelope.{rising_rate_selected, divisor_committed, requested_on, gate_sampled, motion_committed, divisor_for, divisor_selected, top_reached, up, stepped_up, bottom_reached, down, stepped_down, stepped, amplitude_due, amplitude_clocked, curve_ended, curve_due, curve_clocked, curve_counted, match_used, match_consumed, phase_up, rate_clocked, clocked}
use Rattle.envelope.proofs.Quiet.{gate_still}
use Rattle.release.specs.Release.{in_force}
use Rattle.release.proofs.Stays.{counters_keep}

-- the gate left high or low, motion m, the counters free; the rates, the sustain level, the motion asked for and the
-- target are those of f
abbrev pub moving : Bool → EnvelopeMotion → Envelope → ℕ → Bool → ℕ → ℕ → ℕ → ℕ → ℕ → ℕ → Bool → ℕ → Envelope
moving high m f phase matched amplitude curve count divisor queued volume held readback =
    record {
      volume = volume;
      rise_rate = f.rise_rate;
      decay_rate = f.decay_rate;
      hold_level = f.hold_level;
      fall_rate = f.fall_rate;
      gate = record { input = high; stage_a = high; stage_b = high };
      motion = m;
      requested_motion = f.requested_motion;
      motion_delay = 0;
      rate_phase = phase;
      rate_target_phase = f.rate_target_phase;
      matched_rate = matched;
      amplitude_delay = amplitude;
      curve_delay = curve;
      curve_count = count;
      curve_divisor = divisor;
      queued_curve_divisor = queued;
      floor_hold = held;
      readback = readback;
    }

abbrev pub falling : Envelope → ℕ → Bool → ℕ → ℕ → ℕ → ℕ → ℕ → ℕ → Bool → ℕ → Envelope
falling = moving false FallingToZero

abbrev pub rising : Envelope → ℕ → Bool → ℕ → ℕ → ℕ → ℕ → ℕ → ℕ → Bool → ℕ → Envelope
rising = moving true Rising

-- ---- of both

module _ (high : Bool) (m : EnvelopeMotion) (f : Envelope) (p c v : ℕ) (h : Bool) (n : p ≡ f.rate_target_phase → ⊥) where
  -- the end of a clock on which no match is consumed
  counts : (d q b : ℕ) → rate_clocked (match_consumed (curve_clocked (moving high m f p false 0 0 c d q v h b))) ≡ moving high m f (phase_up p) false 0 0 c d q v h b
  unfolding rate_clocked match_consumed curve_clocked
  counts d q b = simp (ne_eqb _ _ n)

  -- a queued divisor is committed, if any
  commits : (d q : ℕ) → divisor_committed (moving high m f p false 0 0 c d q v h v) ≡ moving high m f p false 0 0 c (cond (eqb q 0) d q) 0 v h v
  unfolding divisor_committed
  commits d q = go (eqb q 0) refl
    where
      go : (t : Bool) → eqb q 0 ≡ t → divisor_committed (moving high m f p false 0 0 c d q v h v) ≡ moving high m f p false 0 0 c (cond t d q) 0 v h v
      go true e = simp (eqb-true q 0 e)
      go false e = simp e

  pub divisor_commits : (d b : ℕ) → clocked (moving high m f p false 0 0 c d (divisor_for v) v h b) ≡ moving high m f (phase_up p) false 0 0 c (in_force d v) 0 v h v
  unfolding clocked amplitude_clocked motion_committed in_force
  divisor_commits d b =
      ap (λ (x : Envelope). rate_clocked (match_consumed (curve_clocked (amplitude_clocked (motion_committed (gate_sampled x)))))) (commits d (divisor_for v))
      ∙ ap (λ (x : Envelope). rate_clocked (match_consumed (curve_clocked (amplitude_clocked (motion_committed x))))) (gate_still (moving high m f p false 0 0 c (in_force d v) 0 v h v) refl refl)
      ∙ counts (in_force d v) 0 v

-- ---- of a release

module _ (f : Envelope) where
  module _ (p c d v : ℕ) (n : 0 ≡ f.rate_target_phase → ⊥) (most : d ≤ 30) where
    -- a match is consumed: the curve count goes up, and stays below the divisor or reaches it
    pub match_counts : c + 1 < d → clocked (falling f p true 0 0 c d 0 v false v) ≡ falling f 1 false 0 0 (c + 1) d 0 v false v
    unfolding clocked rate_clocked match_consumed curve_clocked amplitude_clocked motion_committed gate_sampled requested_on divisor_committed match_used curve_counted rising_rate_selected phase_up
    match_counts l =
        let e : (c + 1) % 256 ≡ c + 1 = omega arith in
        let m : c + 1 ≡ d → ⊥ = omega arith in
        simp (e, ne_eqb _ _ m, ne_eqb _ _ n)

    pub match_due : c + 1 ≡ d → clocked (falling f p true 0 0 c d 0 v false v) ≡ falling f 1 false 0 (cond (eqb d 1) 1 2) d d 0 v false v
    unfolding clocked rate_clocked match_consumed curve_clocked amplitude_clocked motion_committed gate_sampled requested_on divisor_committed match_used curve_counted rising_rate_selected phase_up
    match_due q =
        let e : (c + 1) % 256 ≡ d = omega arith in
        simp (e, eq-eqb d d refl, ne_eqb _ _ n)

  module _ (p c d v b : ℕ) (n : p ≡ f.rate_target_phase → ⊥) where
    -- the curve delay goes from 2 to 1, and from 1 to 0
    pub curve_waits : clocked (falling f p false 0 2 c d 0 v false b) ≡ falling f (phase_up p) false 0 1 c d 0 v false v
    unfolding clocked rate_clocked match_consumed curve_clocked curve_due amplitude_clocked motion_committed gate_sampled requested_on divisor_committed
    curve_waits = simp (ne_eqb _ _ n)

    pub curve_ends : clocked (falling f p false 0 1 c d 0 v false b) ≡ falling f (phase_up p) false 1 0 0 d 0 v false v
    unfolding clocked rate_clocked match_consumed curve_clocked curve_due curve_ended amplitude_clocked motion_committed gate_sampled requested_on divisor_committed
    curve_ends = simp (ne_eqb _ _ n)

  module _ (p c d v : ℕ) (h : Bool) (n : p ≡ f.rate_target_phase → ⊥) where
    -- the level delay ends, and the level steps down
    level_falls : eqb (down v) 0 ≡ h → amplitude_clocked (falling f p false 1 0 c d 0 v false v) ≡ falling f p false 0 0 c d (divisor_for (down v)) (down v) h v
    unfolding amplitude_clocked amplitude_due stepped stepped_down bottom_reached divisor_selected
    level_falls q = go h q
      where
        go : (t : Bool) → eqb (down v) 0 ≡ t → amplitude_clocked (falling f p false 1 0 c d 0 v false v) ≡ falling f p false 0 0 c d (divisor_for (down v)) (down v) t v
        go true e = simp e
        go false e = simp e

    pub step_falls : (b : ℕ) → eqb (down v) 0 ≡ h → clocked (falling f p false 1 0 c d 0 v false b) ≡ falling f (phase_up p) false 0 0 c d (divisor_for (down v)) (down v) h v
    unfolding clocked motion_committed gate_sampled requested_on divisor_committed
    step_falls b q =
        ap (λ (x : Envelope). rate_clocked (match_consumed (curve_clocked x))) (level_falls q) ∙ counts false FallingToZero f p c (down v) h n d (divisor_for (down v)) v

-- ---- of a rise

module _ (f : Envelope) (p c d v : ℕ) where
  -- a match is consumed: it sets a level delay of 2, and zeroes the curve count
  pub match_lifts : (0 ≡ f.rate_target_phase → ⊥) → clocked (rising f p true 0 0 c d 0 v false v) ≡ rising f 1 false 2 0 0 d 0 v false v
  unfolding clocked rate_clocked match_consumed curve_clocked amplitude_clocked motion_committed gate_sampled requested_on divisor_committed match_used rising_rate_selected phase_up
  match_lifts n = simp (ne_eqb _ _ n)

  -- the level delay goes from 2 to 1
  pub lift_waits : (p ≡ f.rate_target_phase → ⊥) → (b : ℕ) → clocked (rising f p false 2 0 c d 0 v false b) ≡ rising f (phase_up p) false 1 0 c d 0 v false v
  unfolding clocked rate_clocked match_consumed curve_clocked amplitude_clocked amplitude_due motion_committed gate_sampled requested_on divisor_committed
  lift_waits n b = simp (ne_eqb _ _ n)

  -- it ends, and the level steps up
  level_rises : eqb (up v) 0xff ≡ false → amplitude_clocked (rising f p false 1 0 c d 0 v false v) ≡ rising f p false 0 0 c d (divisor_for (up v)) (up v) false v
  unfolding amplitude_clocked amplitude_due stepped stepped_up top_reached divisor_selected
  level_rises q = simp q

  pub step_rises : (p ≡ f.rate_target_phase → ⊥) → (b : ℕ) → eqb (up v) 0xff ≡ false → clocked (rising f p false 1 0 c d 0 v false b) ≡ rising f (phase_up p) false 0 0 c d (divisor_for (up v)) (up v) false v
  unfolding clocked motion_committed gate_sampled requested_on divisor_committed
  step_rises n b q =
      ap (λ (x : Envelope). rate_clocked (match_consumed (curve_clocked x))) (level_rises q) ∙ counts true Rising f p c (up v) false n d (divisor_for (up v)) v

  -- to 0xff too, which requests another motion
  pub step_level : (b : ℕ) → (clocked (rising f p false 1 0 c d 0 v false b)).volume ≡ up v
  unfolding clocked motion_committed gate_sampled requested_on divisor_committed amplitude_clocked amplitude_due stepped stepped_up top_reached divisor_selected
  step_level b =
      counters_keep (λ x _ _ _ _ _ _. x ≡ up v) _
      (either (λ (x : Envelope). x.volume ≡ up v) (eqb (up v) 0xff) _ _ refl refl)
