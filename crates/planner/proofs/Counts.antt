-- The test of a settled release tells exactly document 01's list, and the count of a run is the first held clock, or n:
-- of a settled release the clock of its last step, if n allows. Assumes nothing.
use Prim.Native.Nat.{ℕ, zero, suc, ◌+◌, ◌-◌, ◌%◌, ◌<◌, ◌≤◌, min}
use native.Mathlib.Omega.{arith}
use native.Mathlib.Decide.{dec_lt}
use native.Mathlib.Nat.{zero-add}
use mathlib.Core.Path.{◌≡◌, refl, ap, sym, subst, ◌∙◌}
use mathlib.Core.Bool.{Bool, true, false, cond, ◌&&◌, false≢true}
use borrow.Author.Tests.{eq-eqb, lt-ltb, eqb-true, ltb-true, leb-true, not-true}
use lib.Dec.{ltb, leb}
use Rattle.laws.specs.Times.{times}
use Rattle.laws.proofs.Bools.{and_right, and_both}
use Rattle.laws.proofs.Times.{times_first}
use Rattle.envelope.specs.declared.Envelope.{Envelope}
use Rattle.envelope.specs.declared.EnvelopeMotion.{EnvelopeMotion}
use Rattle.envelope.specs.declared.EnvelopeMotion.TheVariants.{Rising, FallingToSustain, FallingToZero}
use Rattle.envelope.specs.Envelope.{clocked, clocks, quiescent}
use Rattle.envelope.proofs.Periods.{period_range}
use Rattle.envelope.proofs.Quiet.{quiet}
use Rattle.release.specs.Release.{SettledRelease, last_step, HeldFrom}
use Rattle.planner.specs.declared.Onward.{Onward}
use Rattle.release.specs.StepClocks.{wait}
use Rattle.release.specs.Settled.{Runs, alone, From}
use Rattle.planner.specs.Planner.{release_period, is_falling, is_settled, held_within, FirstHeld}
use Rattle.planner.specs.Skips.{is_waiting, Leads}
use Rattle.release.proofs.Demand3.{last_step_frees}
use Rattle.release.proofs.Stairs.{clocks_alone}
use Rattle.release.proofs.Waits.{matching, to_match}

falling : (m : EnvelopeMotion) → is_falling m ≡ true → m ≡ FallingToZero
falling Rising h = absurd (false≢true h)
falling FallingToSustain h = absurd (false≢true h)
falling FallingToZero h = refl

module _ (e : Envelope) where
  pub settled_when : is_settled e ≡ true → SettledRelease e (release_period e)
  unfolding is_settled
  settled_when h =
      let h8 = and_both _ _ h in
      let h7 = and_both _ _ h8.0 in
      let h6 = and_both _ _ h7.0 in
      let h5 = and_both _ _ h6.0 in
      let h4 = and_both _ _ h5.0 in
      let h3 = and_both _ _ h4.0 in
      let h2 = and_both _ _ h3.0 in
      let h1 = and_both _ _ h2.0 in
      let q = quiet e h1.0 in
      let low : e.gate.input ≡ false = not-true _ h1.1 in
      let a = sym q.input ∙ low in
      record {
        settled = record {
          input = low;
          stage_a = a;
          stage_b = sym q.samples ∙ a;
          motion = falling e.motion h2.1;
          motion_delay = q.motion;
          level_delay = q.amplitude;
          curve_delay = q.curve;
          unqueued = q.unqueued;
          unmatched = q.unmatched;
          unheld = not-true _ h3.1;
          target = eqb-true _ _ h4.1;
          least = (period_range e.fall_rate).0;
          most = (period_range e.fall_rate).1;
          phase = ltb-true _ _ h5.1;
          level = ltb-true _ _ h6.1;
        };
        divisor = h7.1;
        count = ltb-true _ _ h8.1;
      }

  pub settled_only : SettledRelease e (release_period e) → is_settled e ≡ true
  unfolding is_settled quiescent
  settled_only r =
      let s = r.settled in
      simp (
        s.input,
        s.stage_a,
        s.stage_b,
        s.motion,
        eq-eqb _ _ s.motion_delay,
        eq-eqb _ _ s.level_delay,
        eq-eqb _ _ s.curve_delay,
        eq-eqb _ _ s.unqueued,
        s.unmatched,
        s.unheld,
        eq-eqb _ _ s.target,
        lt-ltb _ _ s.phase,
        lt-ltb _ _ s.level,
        r.divisor,
        lt-ltb _ _ r.count,
      )

-- ---- the first held clock

pub held_none : (e : Envelope) → held_within 0 e ≡ 0
unfolding held_within
held_none e = refl

pub held_now : (n : ℕ) (e : Envelope) → e.floor_hold ≡ true → held_within n e ≡ 0
unfolding held_within
held_now zero e h = refl
held_now (suc n) e h = simp h

held_later : (n : ℕ) (e : Envelope) → e.floor_hold ≡ false → held_within (suc n) e ≡ suc (held_within n (clocked e))
unfolding held_within
held_later n e h = simp h

-- k clocks before which it is not held may be skipped
held_skips
    : (k n : ℕ) (e : Envelope) → ((m : ℕ) → m < k → (clocks m e).floor_hold ≡ false) → held_within (k + n) e ≡ k + held_within n (clocks k e)
unfolding times
held_skips zero n e u = omega (arith, ap (λ (i : ℕ). held_within i e) (zero-add n))
held_skips (suc k) n e u =
    let i : suc k + n ≡ suc (k + n) = omega arith in
    let on = held_skips k n (clocked e) (λ m l. subst (λ (x : Envelope). x.floor_hold ≡ false) (times_first clocked m e) (u (suc m) (omega arith))) in
    let last = ap (held_within n) (times_first clocked k e) in
    omega (arith, ap (λ (x : ℕ). held_within x e) i, held_later (k + n) e (u 0 (omega arith)), on, last)

module _ {e : Envelope} {r : Onward} (l : Leads e r) (h : e.floor_hold ≡ false) where
  -- so of the clocks that lead on
  pub count_on : (n : ℕ) → r.clocks ≤ n → held_within n e ≡ r.clocks + held_within (n - r.clocks) r.e
  count_on n m =
      let i : n ≡ r.clocks + (n - r.clocks) = omega arith in
      let skip = held_skips r.clocks (n - r.clocks) e (λ k q. l.kept k q ∙ h) in
      omega (arith, ap (λ (x : ℕ). held_within x e) i, skip, ap (held_within (n - r.clocks)) l.arrives)

  -- where they are more than n, none of n is held
  pub count_none : (n : ℕ) → n ≤ r.clocks → held_within n e ≡ n
  count_none n m =
      let i : n ≡ n + 0 = omega arith in
      let skip = held_skips n 0 e (λ k q. l.kept k (omega arith) ∙ h) in
      omega (arith, ap (λ (x : ℕ). held_within x e) i, skip, held_none (clocks n e))

-- an envelope that waits goes on to its match, and any other by a clock
module _ (e : Envelope) where
  pub waiting_low : is_waiting e ≡ true → e.rate_phase < 32767
  unfolding is_waiting
  waiting_low h = ltb-true _ _ (and_right (quiescent e && leb 8 e.rate_target_phase && ltb e.rate_target_phase 32767) _ h)

  pub waits : is_waiting e ≡ true → Leads e (record { e = matching e; clocks = (e.rate_target_phase + 32767 - e.rate_phase) % 32767 + 1 })
  unfolding is_waiting wait
  waits h =
      let h3 = and_both _ _ h in
      let h2 = and_both _ _ h3.0 in
      let h1 = and_both _ _ h2.0 in
      let target = e.rate_target_phase in
      let least = leb-true 8 target h1.1 in
      let most = ltb-true target 32767 h2.1 in
      let low = ltb-true e.rate_phase 32767 h3.1 in
      let i : target + 1 - 1 + 32767 - e.rate_phase ≡ target + 32767 - e.rate_phase = omega arith in
      let k = to_match e h1.0 (target + 1) (omega arith) (omega arith) (omega arith) (λ (x : Envelope). x.floor_hold ≡ e.floor_hold) (λ _ _. refl) ((target + 32767 - e.rate_phase) % 32767) e.rate_phase e.readback low (ap (λ (x : ℕ). x % 32767) i) in
      record { arrives = k.arrives; kept = k.kept; some = omega arith }

  pub steps_on : Leads e (record { e = clocked e; clocks = 1 })
  unfolding times
  steps_on = record { arrives = refl; kept = kept; some = omega arith }
    where
      kept : (m : ℕ) → m < 1 → (clocks m e).floor_hold ≡ e.floor_hold
      kept zero l = refl
      kept (suc m) l = absurd (omega arith)

unheld_before
    : (e : Envelope) (k : ℕ) → e.floor_hold ≡ false → ((m : ℕ) → m < k → (clocks m (clocked e)).floor_hold ≡ false)
    → (m : ℕ) → m < suc k → (clocks m e).floor_hold ≡ false
unfolding times
unheld_before e k h f zero l = h
unheld_before e k h f (suc m) l = subst (λ (x : Envelope). x.floor_hold ≡ false) (sym (times_first clocked m e)) (f m (omega arith))

first_alone : (n : ℕ) (e : Envelope) → FirstHeld (alone e) n (held_within n e)
unfolding times held_within
first_alone zero e = record { within = omega arith; before = λ m l. absurd (omega arith); on = λ l m q. absurd (omega arith) }
first_alone (suc n) e = go e.floor_hold refl (first_alone n (clocked e))
  where
    go : (h : Bool) → e.floor_hold ≡ h → FirstHeld (alone (clocked e)) n (held_within n (clocked e)) → FirstHeld (alone e) (suc n) (cond h 0 (suc (held_within n (clocked e))))
    go true h f = record { within = omega arith; before = λ m l. absurd (omega arith); on = λ l m q. subst (λ (i : ℕ). (clocks i e).floor_hold ≡ true) (sym q) h }
    go false h f =
        let k = held_within n (clocked e) in
        record {
          within = omega (arith, f.within);
          before = unheld_before e k h f.before;
          on = λ l m q.
              subst (λ (i : ℕ). (clocks i e).floor_hold ≡ true) (sym q)
              (subst (λ (x : Envelope). x.floor_hold ≡ true) (sym (times_first clocked k e)) (f.on (omega arith) k refl));
        }

-- THE COUNT is the first held clock or n, by whatever runs
pub first_held : (n : ℕ) (e : Envelope) (s : Runs) → From e s → FirstHeld s n (held_within n e)
first_held n e s from =
    let f = first_alone n e in
    let seen : (r : s.Run) → (s.left r).floor_hold ≡ (clocks (s.made r) e).floor_hold = λ r. ap (λ (x : Envelope). x.floor_hold) (from r) in
    record { within = f.within; before = λ r l. seen r ∙ f.before (s.made r) l; on = λ l r q. seen r ∙ f.on l (s.made r) q }

-- where an envelope is free from a clock on, it is that one, or n
pub free_counts : (e : Envelope) (t n : ℕ) → HeldFrom (alone e) t → held_within n e ≡ min t n
free_counts e t n h = go (dec_lt k n)
  where
    k : ℕ
    k = held_within n e

    f : FirstHeld (alone e) n k
    f = first_alone n e

    late : t < k → ⊥
    late l = false≢true (sym (f.before t l) ∙ (h.from t (omega arith)).1)

    go : Dec (k < n) → k ≡ min t n
    go (yes l) =
        let early : k < t → ⊥ = λ m. false≢true (sym (h.before k m) ∙ f.on l k refl) in
        omega (arith, late, early)
    go (no l) = omega (arith, f.within, late)

-- of a settled release the clock of its last step
pub settled_counts : (e : Envelope) (P n : ℕ) → SettledRelease e P → held_within n e ≡ min (last_step e P) n
settled_counts e P n h = free_counts e (last_step e P) n (last_step_frees e P h (alone e) (clocks_alone e))
