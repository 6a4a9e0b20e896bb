-- A settled release or rise comes to a waiting match after ((P-1-p) mod 32767)+1 clocks, and again P clocks after a
-- match was consumed; until then its level is as it is. Assumes nothing.
use Prim.Native.Nat.{ℕ, ◌+◌, ◌-◌, ◌<◌}
use native.Mathlib.Omega.{arith}
use mathlib.Core.Path.{◌≡◌, refl, ap, sym, ◌∙◌, subst}
use mathlib.Core.Bool.{Bool, true, false}
use Rattle.envelope.specs.declared.Envelope.{Envelope}
use Rattle.envelope.specs.declared.EnvelopeMotion.{EnvelopeMotion}
use Rattle.envelope.specs.Envelope.{divisor_for, phase_up, quiescent}
use Rattle.release.specs.Release.{in_force, At}
use Rattle.release.specs.Settled.{Settled}
use Rattle.release.specs.StepClocks.{wait}
use Rattle.release.proofs.Keeps.{Keeps, one, join, long}
use Rattle.release.proofs.Waits.{phase_up_lem, wait_before, to_match}
use Rattle.release.proofs.Clocks.{moving, divisor_commits}

moving_quiet : (high : Bool) (m : EnvelopeMotion) (f : Envelope) (p c d v : ℕ) (h : Bool) (b : ℕ) → quiescent (moving high m f p false 0 0 c d 0 v h b) ≡ true
unfolding quiescent
moving_quiet true m f p c d v h b = refl
moving_quiet false m f p c d v h b = refl

module _ {high : Bool} {m : EnvelopeMotion} {f : Envelope} {P : ℕ} (s : Settled high m f P) where
  -- a phase below every target
  pub early : (p : ℕ) → p < 8 → p ≡ f.rate_target_phase → ⊥
  early p l e = omega (arith, s.target, s.least)

  -- a match waits; the level has just stepped to v, at phase q
  abbrev pub Matched : ℕ → ℕ → ℕ → Bool → Envelope
  Matched c d v h = moving high m f f.rate_target_phase true 0 0 c d 0 v h v

  abbrev pub Stepped : ℕ → ℕ → ℕ → ℕ → Bool → Envelope
  Stepped q d b v h = moving high m f q false 0 0 0 d (divisor_for v) v h b

  arrives : (p c d v : ℕ) (h : Bool) (b : ℕ) → p < 32767 → Keeps (At v h) (wait P p + 1) (moving high m f p false 0 0 c d 0 v h b) (Matched c d v h)
  arrives p c d v h b l =
      to_match (moving high m f p false 0 0 c d 0 v h v) (moving_quiet high m f p c d v h v) P s.target s.least s.most
      (At v h) (λ _ _. (refl, refl)) (wait P p) p b l refl

  pub waits : (n p c d v : ℕ) (h : Bool) (b : ℕ) → p < P → n ≡ P - p → Keeps (At v h) n (moving high m f p false 0 0 c d 0 v h b) (Matched c d v h)
  waits n p c d v h b l e = long (omega (arith, wait_before P s.least s.most p l)) (arrives p c d v h b (omega (arith, s.most)))

  -- from a step to the next waiting match, by way of the divisor that the level queues
  pub to_next : (q d b v : ℕ) (h : Bool) → q < 7 → Keeps (At v h) (P - q) (Stepped q d b v h) (Matched 0 (in_force d v) v h)
  to_next q d b v h l =
      let o = s.least in
      let e : phase_up q ≡ q + 1 = phase_up_lem q (omega arith) ∙ omega arith in
      long (omega arith)
      (join (one _ _ (refl, refl) (divisor_commits high m f q 0 v h (early q (omega arith)) d b ∙ ap (λ (x : ℕ). moving high m f x false 0 0 0 (in_force d v) 0 v h v) e))
      (waits (P - (q + 1)) (q + 1) 0 (in_force d v) v h v (omega arith) refl))

  -- it is such a state itself
  settled_moving : f ≡ moving high m f f.rate_phase false 0 0 f.curve_count f.curve_divisor 0 f.volume false f.readback
  settled_moving = λ i. record {
    volume = f.volume;
    rise_rate = f.rise_rate;
    decay_rate = f.decay_rate;
    hold_level = f.hold_level;
    fall_rate = f.fall_rate;
    gate = record { input = s.input i; stage_a = s.stage_a i; stage_b = s.stage_b i };
    motion = s.motion i;
    requested_motion = f.requested_motion;
    motion_delay = s.motion_delay i;
    rate_phase = f.rate_phase;
    rate_target_phase = f.rate_target_phase;
    matched_rate = s.unmatched i;
    amplitude_delay = s.level_delay i;
    curve_delay = s.curve_delay i;
    curve_count = f.curve_count;
    curve_divisor = f.curve_divisor;
    queued_curve_divisor = s.unqueued i;
    floor_hold = s.unheld i;
    readback = f.readback;
  }

  pub to_first : Keeps (At f.volume false) (wait P f.rate_phase + 1) f (Matched f.curve_count f.curve_divisor f.volume false)
  to_first =
      subst (λ (x : Envelope). Keeps (At f.volume false) (wait P f.rate_phase + 1) x (Matched f.curve_count f.curve_divisor f.volume false)) (sym settled_moving)
      (arrives f.rate_phase f.curve_count f.curve_divisor f.volume false f.readback s.phase)
