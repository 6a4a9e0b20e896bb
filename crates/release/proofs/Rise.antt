-- Every step of a settled rise lands on the clock that document 02's sentence says (request 11), up to 0xff; until the
-- last the level changes on no other clock. Assumes nothing.
use Prim.Native.Nat.{ℕ, zero, suc, ◌+◌, ◌-◌, ◌*◌, ◌%◌, ◌<◌, ◌≤◌}
use native.Mathlib.Omega.{arith}
use native.Mathlib.Nat.{suc-mul, zero-mul}
use mathlib.Core.Path.{◌≡◌, refl, ap, sym, ◌∙◌, subst}
use mathlib.Core.Bool.{false}
use borrow.Author.Tests.{ne_eqb, eqb-true, eqb-false}
use lib.Dec.{eqb}
use Rattle.laws.specs.Times.{times}
use Rattle.laws.proofs.Cond.{by_test}
use Rattle.laws.proofs.Times.{times_first}
use Rattle.envelope.specs.declared.Envelope.{Envelope}
use Rattle.envelope.specs.Envelope.{up, phase_up, clocked}
use Rattle.release.specs.Release.{in_force, At}
use Rattle.release.specs.Rise.{SettledRise, steps_up, landing_up, Rise}
use Rattle.release.specs.Settled.{Runs, From}
use Rattle.release.specs.StepClocks.{wait}
use Rattle.release.proofs.Keeps.{Keeps, one, join, long}
use Rattle.release.proofs.Stairs.{Stairs, no_stairs, stairs_on, level_before, level_on, level_last, level_still}
use Rattle.release.proofs.Matches.{early, Matched, to_next, to_first}
use Rattle.release.proofs.Clocks.{rising, match_lifts, lift_waits, step_rises, step_level}

-- ---- levels and steps in numbers

steps_up_closed : (v : ℕ) → v < 256 → steps_up v ≡ (510 - v) % 256 + 1
unfolding steps_up
steps_up_closed v l =
    by_test (λ (n : ℕ). n ≡ (510 - v) % 256 + 1) (eqb v 0xff) _ _ (λ e. omega (arith, eqb-true v 0xff e)) (λ e. omega (arith, eqb-false v 0xff e))

level_up_closed : (v k : ℕ) → v < 256 → times k up v ≡ (v + k) % 256
unfolding times up
level_up_closed v zero l = omega arith
level_up_closed v (suc k) l = rw (level_up_closed v k l) (omega arith)

-- while more than one step is left, a step leaves one step less and does not reach 0xff
steps_up_more : (v k : ℕ) → v < 256 → steps_up v ≡ suc (suc k) → (steps_up (up v) ≡ suc k) × (eqb (up v) 0xff ≡ false)
unfolding up
steps_up_more v k l q = (
  steps_up_closed ((v + 1) % 256) (omega arith) ∙ omega (arith, steps_up_closed v l),
  ne_eqb ((v + 1) % 256) 0xff (omega (arith, steps_up_closed v l)),
)

-- the last step reaches 0xff
steps_up_last : (v : ℕ) → v < 256 → steps_up v ≡ 1 → up v ≡ 0xff
unfolding up
steps_up_last v l q = omega (arith, steps_up_closed v l)

-- ---- from step to step

-- the clock of step k where the level delay is at 1 after r clocks
clk : ℕ → ℕ → ℕ → ℕ
clk P r zero = 0
clk P r (suc k) = r + 1 + k * P

module _ {f : Envelope} {P : ℕ} (s : SettledRise f P) where
  -- the level delay that a match has set is at 1: on the next clock the level steps up from v
  abbrev pub Lifted : ℕ → ℕ → Envelope
  Lifted d v = rising f 2 false 1 0 0 d 0 v false v

  pub to_lift : (c d v : ℕ) → Keeps (At v false) 2 (Matched s c d v false) (Lifted d v)
  unfolding phase_up
  to_lift c d v =
      join (one _ _ (refl, refl) (match_lifts f _ c d v (early s 0 (omega arith))))
      (one _ _ (refl, refl) (lift_waits f 1 0 d v (early s 1 (omega arith)) v))

  -- from X a step is r + 1 clocks off, and after it so many more are left
  record Going (X : Envelope) (r d v more : ℕ) : Type 0 where
    lifted : Keeps (At v false) r X (Lifted d v)
    byte : v < 256
    left : steps_up v ≡ suc more

  first_step : (X : Envelope) (r d v more : ℕ) → Going X r d v more → Keeps (At v false) (r + 1) X (clocked (Lifted d v))
  first_step X r d v more g = join g.lifted (one _ _ (refl, refl) refl)

  clk_later : (r k : ℕ) → clk P r (suc k) ≡ r + 1 + clk P (P - 1) k
  unfolding clk
  clk_later r zero = omega (arith, zero-mul P)
  clk_later r (suc k) = omega (arith, suc-mul k P, s.least)

  goes_on : (X : Envelope) (r d v more : ℕ) → Going X r d v (suc more) → Going (clocked (Lifted d v)) (P - 1) (in_force d (up v)) (up v) more
  unfolding phase_up up
  goes_on X r d v more g =
      let m = steps_up_more v more g.byte g.left in
      let raised = step_rises f 2 0 d v (early s 2 (omega arith)) v m.1 in
      record {
        lifted = subst (λ (x : Envelope). Keeps (At (up v) false) (P - 1) x (Lifted (in_force d (up v)) (up v))) (sym raised)
            (long (omega (arith, s.least)) (join (to_next s 3 d v (up v) false (omega arith)) (to_lift 0 (in_force d (up v)) (up v))));
        byte = omega arith;
        left = m.0;
      }

  -- the level climbs from step to step, to 0xff
  climbs : (more : ℕ) (X : Envelope) (r d v : ℕ) → Going X r d v more → Stairs (λ k. At (times k up v) false) (λ x. x.volume ≡ 0xff) (clk P r) (suc more) X
  unfolding clk times
  climbs zero X r d v g =
      stairs_on (first_step X r d v zero g) (omega arith) refl (clk_later r) (λ k x a. a)
      (no_stairs refl (step_level f 2 0 d v v ∙ steps_up_last v g.byte g.left))
  climbs (suc more) X r d v g =
      stairs_on (first_step X r d v (suc more) g) (omega arith) refl (clk_later r) (λ k x a. rw (times_first up k v) a)
      (climbs more (clocked (Lifted d v)) (P - 1) (in_force d (up v)) (up v) (goes_on X r d v more g))

  -- ---- by whatever runs, from whatever leads to the first step

  module _ (X : Envelope) (r d v : ℕ) (lifted : Keeps (At v false) r X (Lifted d v)) (byte : v < 256) where
    stairs : Stairs (λ k. At (times k up v) false) (λ x. x.volume ≡ 0xff) (clk P r) (steps_up v) X
    stairs =
        let l : steps_up v ≡ suc (steps_up v - 1) = omega (arith, steps_up_closed v byte) in
        subst (λ (n : ℕ). Stairs (λ k. At (times k up v) false) (λ x. x.volume ≡ 0xff) (clk P r) n X) (sym l)
        (climbs (steps_up v - 1) X r d v (record { lifted = lifted; byte = byte; left = l }))

    level : (k : ℕ) → k < steps_up v → (x : Envelope) → At (times k up v) false x → x.volume ≡ (v + k) % 256
    level k l x a = a.0 ∙ level_up_closed v k byte

    end : (x : Envelope) → x.volume ≡ 0xff → x.volume ≡ (v + steps_up v) % 256
    end x a = a ∙ omega (arith, steps_up_closed v byte)

    module _ (first : ℕ) (next : first ≡ r + 1) where
      -- step k, counted from 1
      step_clk : (k : ℕ) → first + (k - 1) * P ≡ clk P r (suc (k - 1))
      unfolding clk
      step_clk k = ap (λ (n : ℕ). n + (k - 1) * P) next

      step_suc : (k : ℕ) → 1 ≤ k → suc (k - 1) ≡ k
      step_suc k l = omega arith

      last : first + (steps_up v - 1) * P ≡ clk P r (steps_up v)
      last = step_clk (steps_up v) ∙ ap (clk P r) (step_suc (steps_up v) (omega (arith, steps_up_closed v byte)))

      pub rises : (runs : Runs) → From X runs → Rise runs v (λ k. first + (k - 1) * P)
      rises runs from = record {
        lands = λ k t m.
            let i : k - 1 < steps_up v = omega (arith, m) in
            let b : v + (k - 1) ≡ v + k - 1 = omega (arith, m) in (
              (λ q. level_before stairs _ level end runs from (k - 1) t i (q ∙ step_clk k) ∙ ap (λ (x : ℕ). x % 256) b),
              (λ q. level_on stairs _ level end runs from (k - 1) t i (q ∙ step_clk k) ∙ ap (λ (x : ℕ). (v + x) % 256) (step_suc k m.0)),
            );
        tops = λ t q. level_last stairs _ level end runs from t (q ∙ last);
        still = λ t u q l none.
            level_still stairs _ level end runs from t u q (omega (arith, l, last)) (λ k m i. none (suc k) (omega arith, m) (i ∙ ap (clk P r) (sym (step_suc (suc k) (omega arith))) ∙ sym (step_clk (suc k))));
      }

-- THE LAW
pub rise : (e : Envelope) (P : ℕ) → SettledRise e P → (s : Runs) → From e s → Rise s e.volume (landing_up e.rate_phase P)
unfolding wait
rise e P h = rises h e (wait P e.rate_phase + 1 + 2) _ e.volume (join (to_first h) (to_lift h _ _ _)) h.level _ (omega arith)
