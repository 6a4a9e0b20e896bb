-- Every settled release meets DEMAND 3, in the plain numbers of its sentence, by whatever runs, and is free from the
-- clock of its last step on. Assumes nothing.
use Prim.Native.Nat.{ℕ, suc, ◌+◌, ◌-◌, ◌%◌, ◌<◌, ◌≤◌}
use native.Mathlib.Omega.{arith}
use native.Mathlib.Decide.{dec_lt}
use mathlib.Core.Path.{◌≡◌, refl, ap, sym, ◌∙◌, subst}
use mathlib.Core.Bool.{true, false}
use Rattle.laws.proofs.Times.{times_add}
use Rattle.envelope.specs.declared.Envelope.{Envelope}
use Rattle.envelope.specs.Envelope.{clocked, clocks}
use Rattle.release.specs.Release.{SettledRelease, steps, level_after, matches, landing, Needs, Demand3, last_step, HeldFrom, At, ZeroFrom}
use Rattle.release.specs.Settled.{Runs, From}
use Rattle.release.specs.StepClocks.{wait, lag, step_clock}
use Rattle.release.proofs.Stairs.{locate, level_before, level_on, level_still}
use Rattle.release.proofs.Stays.{held_stays}
use Rattle.release.proofs.Steps.{steps_closed, level_closed}
use Rattle.release.proofs.Release.{settled_release}

module _ (e : Envelope) (P : ℕ) (h : SettledRelease e P) where
  clock_landing : (k S D : ℕ) → Needs e k S D → landing e.rate_phase P S D ≡ step_clock e P (suc k)
  unfolding step_clock wait lag
  clock_landing k S D m = rw (m.1, m.2)

  -- the level of the sentence's numbers, up to the last step and with it
  level : (k : ℕ) → k < steps e.volume → (x : Envelope) → At (level_after e.volume k) false x → x.volume ≡ (e.volume + 256 - k) % 256
  level k l x a = a.0 ∙ level_closed e.volume k h.settled.level (omega (arith, steps_closed e.volume h.settled.level))

  end : (x : Envelope) → At 0 true x → x.volume ≡ (e.volume + 256 - steps e.volume) % 256
  end x a = a.0 ∙ omega (arith, steps_closed e.volume h.settled.level, h.settled.level)

  ended : (n : ℕ) → step_clock e P (steps e.volume) ≤ n → At 0 true (clocks n e)
  ended n l =
      let m = step_clock e P (steps e.volume) in
      let i : n ≡ m + (n - m) = omega arith in
      subst (At 0 true) (times_add clocked (n - m) m e ∙ ap (λ (k : ℕ). clocks k e) (sym i)) (held_stays 0 (n - m) (clocks m e) (settled_release e P h).last)

  -- before the last step it is at a level on the way, and not held
  on_the_way : (m : ℕ) → m < step_clock e P (steps e.volume) → (k : ℕ) × (k < steps e.volume) × At (level_after e.volume k) false (clocks m e)
  on_the_way m l =
      let s = settled_release e P h in
      let j = locate (step_clock e P) s.start (steps e.volume) m l in
      (j.0, j.1, s.flat j.0 j.1 m j.2 j.3)

  last_clock : last_step e P ≡ step_clock e P (steps e.volume)
  unfolding last_step
  last_clock =
      let all : suc (steps e.volume - 1) ≡ steps e.volume = omega (arith, steps_closed e.volume h.settled.level) in
      clock_landing (steps e.volume - 1) _ _ (omega arith, ap (matches e) (sym all), refl) ∙ ap (step_clock e P) all

  module _ (s : Runs) (f : From e s) where
    end_seen : (r : s.Run) → step_clock e P (steps e.volume) ≤ s.made r → At 0 true (s.left r)
    end_seen r l = subst (At 0 true) (sym (f r)) (ended (s.made r) l)

    still
        : (r t : s.Run) → s.made t ≡ suc (s.made r) → ((k : ℕ) → k < steps e.volume → s.made t ≡ step_clock e P (suc k) → ⊥)
        → (s.left t).volume ≡ (s.left r).volume
    still r t q none = go (dec_lt (s.made r) (step_clock e P (steps e.volume)))
      where
        go : Dec (s.made r < step_clock e P (steps e.volume)) → (s.left t).volume ≡ (s.left r).volume
        go (yes l) = level_still (settled_release e P h) _ level end s f r t q (omega arith) none
        go (no l) = (end_seen t (omega arith)).0 ∙ sym (end_seen r (omega arith)).0

    pub demand_3 : Demand3 s e e.rate_phase P
    demand_3 = record {
      lands = λ k S D r m. (
        (λ q. level_before (settled_release e P h) _ level end s f k r m.0 (q ∙ clock_landing k S D m)),
        (λ q. level_on (settled_release e P h) _ level end s f k r m.0 (q ∙ clock_landing k S D m) ∙ ap (λ (x : ℕ). x % 256) (omega arith)),
      );
      still = λ r t q none. still r t q (λ k l i. none k _ _ (l, refl, refl) (i ∙ sym (clock_landing k _ _ (l, refl, refl))));
      ends = λ k S D r m q a. end_seen r (rw (← q, ← clock_landing k S D m) a);
    }

    -- FREE from the clock of the last step on, and not before
    pub last_step_frees : HeldFrom s (last_step e P)
    last_step_frees = record {
      before = λ r l. ap (λ (x : Envelope). x.floor_hold) (f r) ∙ (on_the_way (s.made r) (rw (← last_clock) l)).2.1;
      from = λ r l. end_seen r (rw (← last_clock) l);
    }

  -- from a level that is not 0, it comes to zero with the last step
  pub zero_from : (e.volume ≡ 0 → ⊥) → ZeroFrom e (step_clock e P (steps e.volume))
  zero_from nonzero = (go, ended)
    where
      go : (m : ℕ) → m < step_clock e P (steps e.volume) → ((clocks m e).volume ≡ 0 → ⊥) × ((clocks m e).floor_hold ≡ false)
      go m l =
          let j = on_the_way m l in
          (λ z. omega (arith, z, level j.0 j.1 (clocks m e) j.2, steps_closed e.volume h.settled.level, j.1, h.settled.level, nonzero), j.2.1)
