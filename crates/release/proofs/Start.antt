-- A gate-on with nothing under way: the first step up lands on clock ((A-2-p) mod 32767)+5, or on clock 4 if the old
-- rate's match falls on clock 1, and each later one A clocks after the one before. Assumes nothing.
use Prim.Native.Nat.{ℕ, ◌+◌, ◌-◌, ◌*◌, ◌<◌}
use native.Mathlib.Omega.{arith}
use mathlib.Core.Path.{◌≡◌, refl, ap, sym, ◌∙◌, subst}
use mathlib.Core.Bool.{Bool, true, false, cond}
use borrow.Author.Tests.{eq-eqb, ne_eqb, eqb-true, eqb-false}
use lib.Dec.{eqb}
use Rattle.laws.specs.Times.{times}
use Rattle.laws.proofs.Cond.{by_test, either}
use Rattle.envelope.specs.declared.Envelope.{Envelope}
use Rattle.envelope.specs.declared.EnvelopeMotion.{EnvelopeMotion}
use Rattle.envelope.specs.declared.EnvelopeMotion.TheVariants.{Rising}
use Rattle.envelope.specs.Envelope.{period_of, rising_rate_selected, rate_in_force, target_refreshed, divisor_committed, requested_on, gate_sampled, motion_taken, motion_committed, amplitude_clocked, curve_clocked, match_used, match_consumed, phase_up, rate_clocked, clocked, quiescent, gate_set}
use Rattle.envelope.proofs.Periods.{period_range}
use Rattle.envelope.proofs.Quiet.{quiet}
use Rattle.release.specs.Release.{At}
use Rattle.release.specs.Rise.{SettledRise, Rise, Resting, start_up, Starts}
use Rattle.release.specs.Settled.{Runs, From}
use Rattle.release.specs.StepClocks.{wait}
use Rattle.release.proofs.Clocks.{moving, lift_waits}
use Rattle.release.proofs.Keeps.{Keeps, one, join, long, rest}
use Rattle.release.proofs.Waits.{phase_up_lem}
use Rattle.release.proofs.Matches.{early, to_first}
use Rattle.release.proofs.Rise.{Lifted, to_lift, rises}
use Rattle.release.proofs.Timed.{timed_settled}

-- a note that has begun, its gate input high; level, rates and divisor are those of e
abbrev begun : Envelope → Bool → Bool → EnvelopeMotion → EnvelopeMotion → ℕ → ℕ → ℕ → Bool → ℕ → ℕ → ℕ → Envelope
begun e a b m asked delay target phase matched amplitude count readback =
    record (moving true m e phase matched amplitude 0 count e.curve_divisor 0 e.volume false readback) {
      gate = record { input = true; stage_a = a; stage_b = b };
      requested_motion = asked;
      motion_delay = delay;
      rate_target_phase = target;
    }

module _ (e : Envelope) (h : Resting e) where
  abbrev A : ℕ
  A = period_of e.rise_rate

  abbrev D : ℕ
  D = period_of e.decay_rate

  -- after the write; the gate's rise is sampled; it is seen; the motion is taken
  abbrev Written : ℕ → ℕ → Envelope
  Written p b = begun e false false e.motion e.requested_motion 0 (D - 1) p false 0 e.curve_count b

  abbrev Sampled : ℕ → Bool → Envelope
  Sampled p matched = begun e true false e.motion e.requested_motion 0 (D - 1) p matched 0 e.curve_count e.volume

  abbrev Seen : ℕ → Bool → ℕ → ℕ → Envelope
  Seen p matched amplitude count = begun e true true e.motion Rising 1 (A - 1) p matched amplitude count e.volume

  abbrev Taken : ℕ → Bool → ℕ → ℕ → Envelope
  Taken p matched amplitude count = begun e true true Rising Rising 0 (A - 1) p matched amplitude count e.volume

  written : gate_set e true ≡ Written e.rate_phase e.readback
  unfolding gate_set target_refreshed rate_in_force rising_rate_selected
  written =
      let q = quiet e h.quiet in
      let a : e.gate.stage_a ≡ false = sym q.input ∙ h.low in
      let b : e.gate.stage_b ≡ false = sym q.samples ∙ a in
      simp (h.low, a, b, h.motion, q.motion, q.unqueued, q.amplitude, q.curve, q.unmatched)

  samples_match : (p b : ℕ) → p ≡ D - 1 → clocked (Written p b) ≡ Sampled p true
  unfolding clocked rate_clocked match_consumed curve_clocked amplitude_clocked motion_committed gate_sampled requested_on divisor_committed
  samples_match p b q = simp (eq-eqb _ _ q)

  samples : (p b : ℕ) → (p ≡ D - 1 → ⊥) → clocked (Written p b) ≡ Sampled (phase_up p) false
  unfolding clocked rate_clocked match_consumed curve_clocked amplitude_clocked motion_committed gate_sampled requested_on divisor_committed
  samples p b n = simp (ne_eqb _ _ n)

  -- a match that waits then is consumed under the rising rate
  sees_match : (p : ℕ) → (0 ≡ A - 1 → ⊥) → clocked (Sampled p true) ≡ Seen 1 false 2 0
  unfolding clocked rate_clocked match_consumed match_used rising_rate_selected curve_clocked amplitude_clocked motion_committed motion_taken target_refreshed rate_in_force gate_sampled requested_on divisor_committed phase_up
  sees_match p n = simp (ne_eqb _ _ n)

  sees : (p : ℕ) → clocked (Sampled p false) ≡ cond (eqb p (A - 1)) (Seen p true 0 e.curve_count) (Seen (phase_up p) false 0 e.curve_count)
  unfolding clocked rate_clocked match_consumed rising_rate_selected curve_clocked amplitude_clocked motion_committed motion_taken target_refreshed rate_in_force gate_sampled requested_on divisor_committed
  sees p = refl

  counts : (p : ℕ) → clocked (Taken p false 0 e.curve_count) ≡ cond (eqb p (A - 1)) (Taken p true 0 e.curve_count) (Taken (phase_up p) false 0 e.curve_count)
  unfolding clocked rate_clocked match_consumed curve_clocked amplitude_clocked motion_committed gate_sampled requested_on divisor_committed
  counts p = refl

  -- the next clock is that of a motion already taken
  takes : (p : ℕ) (matched : Bool) (amplitude count : ℕ) → clocked (Seen p matched amplitude count) ≡ clocked (Taken p matched amplitude count)
  unfolding clocked motion_committed motion_taken target_refreshed rate_in_force rising_rate_selected gate_sampled requested_on divisor_committed
  takes p matched amplitude count = refl

  -- as it would be if the motion had been taken at once, at phase p
  settles : (p : ℕ) → p < 32767 → SettledRise (Taken p false 0 e.curve_count) A
  unfolding quiescent rate_in_force rising_rate_selected
  settles p l = timed_settled true Rising (Taken p false 0 e.curve_count) (λ _. refl, λ _. refl, l, h.level) refl refl refl refl

  -- the old rate's match falls on clock 1
  from_match : (p b : ℕ) (l : p < 32767) → p ≡ D - 1 → Keeps (At e.volume false) 3 (Written p b) (Lifted (settles p l) e.curve_divisor e.volume)
  unfolding phase_up
  from_match p b l q =
      join (one _ _ (refl, refl) (samples_match p b q))
      (join (one _ _ (refl, refl) (sees_match p (early (settles p l) 0 (omega arith))))
      (one _ _ (refl, refl)
      (takes 1 false 2 0 ∙ lift_waits (Taken p false 0 e.curve_count) 1 0 e.curve_divisor e.volume (early (settles p l) 1 (omega arith)) e.volume)))

  -- it does not: from clock 1 on the counter is that of the settled rise, and after clock 3 all else
  joins : (p : ℕ) → clocked (clocked (Sampled p false)) ≡ clocked (clocked (Taken p false 0 e.curve_count))
  joins p = ap clocked (sees p) ∙ go (eqb p (A - 1)) ∙ ap clocked (sym (counts p))
    where
      go : (t : Bool)
          → clocked (cond t (Seen p true 0 e.curve_count) (Seen (phase_up p) false 0 e.curve_count))
          ≡ clocked (cond t (Taken p true 0 e.curve_count) (Taken (phase_up p) false 0 e.curve_count))
      go true = takes p true 0 e.curve_count
      go false = takes (phase_up p) false 0 e.curve_count

  seen_level : (p : ℕ) → At e.volume false (clocked (Sampled p false))
  seen_level p = subst (At e.volume false) (sym (sees p)) (either (At e.volume false) (eqb p (A - 1)) _ _ (refl, refl) (refl, refl))

  from_sample : (p : ℕ) (l : p < 32767) → Keeps (At e.volume false) (wait A p + 3) (Sampled p false) (Lifted (settles p l) e.curve_divisor e.volume)
  unfolding times
  from_sample p l =
      let k = join (to_first (settles p l)) (to_lift (settles p l) _ _ _) in
      long (omega arith) (join (one _ _ (refl, refl) refl) (join (one _ _ (seen_level p) (joins p)) (rest 2 (omega arith) k)))

  -- THE LAW
  pub late_start : (s : Runs) → From (gate_set e true) s → Starts s e
  unfolding start_up wait
  late_start s f =
      let p = e.rate_phase in
      let next = phase_up_lem p h.phase in
      let l : phase_up p < 32767 = omega (arith, next) in
      let runs = subst (λ (x : Envelope). From x s) written f in
      let v = e.volume in
      by_test (λ (first : ℕ). Rise s v (λ k. first + (k - 1) * A)) (eqb p (D - 1)) _ _
      (λ q. rises (settles p h.phase) _ 3 _ v (from_match _ _ h.phase (eqb-true _ _ q)) h.level _ (omega arith) s runs)
      (λ q.
      let starts = join (one _ _ (refl, refl) (samples p e.readback (eqb-false _ _ q))) (from_sample (phase_up p) l) in
      rises (settles (phase_up p) l) _ (1 + (wait A (phase_up p) + 3)) _ v starts h.level _ (omega (arith, next, h.phase, period_range e.rise_rate)) s runs)
