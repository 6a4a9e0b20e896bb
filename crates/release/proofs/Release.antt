-- Every step of a settled release lands on its `step_clock`; the level stays in between, and ends held at zero.
-- Assumes nothing.
use Prim.Native.Nat.{ℕ, zero, suc, ◌+◌, ◌-◌, ◌*◌, ◌<◌, ◌≤◌}
use native.Mathlib.Omega.{arith}
use native.Mathlib.Nat.{suc-mul, zero-mul, add-mul}
use mathlib.Core.Path.{◌≡◌, refl, ap, sym, ◌∙◌, subst}
use mathlib.Core.Bool.{Bool, true, false, cond}
use borrow.Author.Tests.{eq-eqb}
use lib.Dec.{eqb}
use Rattle.laws.specs.Times.{times}
use Rattle.laws.proofs.Times.{times_first}
use Rattle.envelope.specs.declared.Envelope.{Envelope}
use Rattle.envelope.specs.declared.EnvelopeMotion.TheVariants.{FallingToZero}
use Rattle.envelope.specs.Envelope.{divisor_for, down, phase_up}
use Rattle.release.specs.Release.{SettledRelease, steps, level_after, in_force, divisor_after, asked, matches, At}
use Rattle.release.specs.Settled.{Settled}
use Rattle.release.specs.StepClocks.{wait, lag, step_clock}
use Rattle.release.proofs.Keeps.{Keeps, one, join, long}
use Rattle.release.proofs.Stairs.{Stairs, no_stairs, stairs_on}
use Rattle.release.proofs.Matches.{early, Matched, Stepped, waits, to_next, to_first}
use Rattle.release.proofs.Clocks.{falling, match_counts, match_due, curve_waits, curve_ends, step_falls}
use Rattle.release.proofs.Steps.{down_lt, steps_closed, steps_more, steps_last, divisor_le, in_force_range, lag_range, divisor_first, asked_one, asked_first}

-- the clock of step k, and of the first, where a match comes to wait after r clocks, with count c, divisor d, level v
clk : ℕ → ℕ → ℕ → ℕ → ℕ → ℕ → ℕ
clk P r c d v zero = 0
clk P r c d v (suc k) = r + 1 + (asked v d (suc k) - c - 1) * P + lag (divisor_after v d k)

abbrev first : ℕ → ℕ → ℕ → ℕ → ℕ
first P r c d = r + 1 + (d - c - 1) * P + lag d

module _ {f : Envelope} {P : ℕ} (s : Settled false FallingToZero f P) where
  -- the match that is due has been counted; the level has just stepped down to v
  abbrev Due : ℕ → ℕ → Envelope
  Due d v = falling f 1 false 0 (cond (eqb d 1) 1 2) d d 0 v false v

  abbrev Fallen : ℕ → ℕ → ℕ → Bool → Envelope
  Fallen d = Stepped s (lag d + 1) d

  to_due : (j c d v : ℕ) → c + 1 + j ≡ d → d ≤ 30 → Keeps (At v false) (j * P + 1) (Matched s c d v false) (Due d v)
  to_due zero c d v q u = long (ap (λ (x : ℕ). x + 1) (sym (zero-mul P))) (one _ _ (refl, refl) (match_due f _ c d v (early s 0 (omega arith)) u (omega arith)))
  to_due (suc j) c d v q u =
      long (omega (arith, suc-mul j P, s.least))
      (join (one _ _ (refl, refl) (match_counts f _ c d v (early s 0 (omega arith)) u (omega arith)))
      (join (waits s (P - 1) 1 (c + 1) d v false v (omega (arith, s.least)) refl) (to_due j (c + 1) d v (omega arith) u)))

  to_step : (d v : ℕ) (h : Bool) → eqb (down v) 0 ≡ h → Keeps (At v false) (lag d) (Due d v) (Fallen d v (down v) h)
  unfolding lag phase_up
  to_step d v h q = go (eqb d 1)
    where
      go : (t : Bool) → Keeps (At v false) (cond t 2 3) (falling f 1 false 0 (cond t 1 2) d d 0 v false v) (falling f (cond t 2 3 + 1) false 0 0 0 d (divisor_for (down v)) (down v) h v)
      go true =
          join (one _ _ (refl, refl) (curve_ends f 1 d d v v (early s 1 (omega arith))))
          (one _ _ (refl, refl) (step_falls f 2 0 d v h (early s 2 (omega arith)) v q))
      go false =
          join (one _ _ (refl, refl) (curve_waits f 1 d d v v (early s 1 (omega arith))))
          (join (one _ _ (refl, refl) (curve_ends f 2 d d v v (early s 2 (omega arith))))
          (one _ _ (refl, refl) (step_falls f 3 0 d v h (early s 3 (omega arith)) v q)))

  -- from X a match comes to wait after r clocks, and after the next step so many more are left
  record Going (X : Envelope) (r c d v more : ℕ) : Type 0 where
    matched : Keeps (At v false) r X (Matched s c d v false)
    low : c < d
    high : d ≤ 30
    byte : v < 256
    left : steps v ≡ suc more

  module _ (X : Envelope) (r c d v more : ℕ) (g : Going X r c d v more) where
    first_step : (h : Bool) → eqb (down v) 0 ≡ h → Keeps (At v false) (first P r c d) X (Fallen d v (down v) h)
    first_step h q =
        let l = g.low in
        long (omega arith) (join g.matched (join (to_due (d - c - 1) c d v (omega arith) g.high) (to_step d v h q)))

    -- a later step's clock, counted from that of the first
    clk_later : (k : ℕ) → clk P r c d v (suc k) ≡ first P r c d + clk P (P - (lag d + 1)) 0 (in_force d (down v)) (down v) k
    unfolding clk divisor_after
    clk_later zero = rw (asked_one v d) (omega arith)
    clk_later (suc k) =
        let l = g.low in
        let d' = in_force d (down v) in
        let a = asked (down v) d' (suc k) in
        let e : asked v d (suc (suc k)) - c - 1 ≡ d - c - 1 + suc (a - 0 - 1) =
        omega (arith, asked_first v d (suc k), asked_first (down v) d' k, in_force_range d (down v) (omega arith) g.high) in
        omega (arith, s.least, ap (λ (x : ℕ). x * P) e ∙ add-mul (d - c - 1) (suc (a - 0 - 1)) P, suc-mul (a - 0 - 1) P, ap lag (divisor_first v d k), lag_range d)

  goes_on : (X : Envelope) (r c d v more : ℕ) → Going X r c d v (suc more) → Going (Fallen d v (down v) false) (P - (lag d + 1)) 0 (in_force d (down v)) (down v) more
  goes_on X r c d v more g =
      let l = g.low in
      let i = in_force_range d (down v) (omega arith) g.high in
      record { matched = to_next s (lag d + 1) d v (down v) false (omega (arith, lag_range d)); low = i.0; high = i.1; byte = down_lt v; left = (steps_more v more g.byte g.left).0 }

  -- the level falls from step to step, to a held zero
  falls : (more : ℕ) (X : Envelope) (r c d v : ℕ) → Going X r c d v more → Stairs (λ k. At (level_after v k) false) (At 0 true) (clk P r c d v) (suc more) X
  unfolding clk times
  falls zero X r c d v g =
      let z = steps_last v g.byte g.left in
      stairs_on (first_step X r c d v zero g true (eq-eqb _ _ z)) (omega (arith, lag_range d)) refl (clk_later X r c d v zero g) (λ k x a. a)
      (no_stairs refl (z, refl))
  falls (suc more) X r c d v g =
      stairs_on (first_step X r c d v (suc more) g false (steps_more v more g.byte g.left).1) (omega (arith, lag_range d)) refl (clk_later X r c d v (suc more) g)
      (λ k x a. rw (times_first down k v) a)
      (falls more (Fallen d v (down v) false) (P - (lag d + 1)) 0 (in_force d (down v)) (down v) (goes_on X r c d v more g))

module _ (e : Envelope) (P : ℕ) (h : SettledRelease e P) where
  step_clk : (k : ℕ) → clk P (wait P e.rate_phase + 1) e.curve_count e.curve_divisor e.volume k ≡ step_clock e P k
  unfolding step_clock clk matches
  step_clk zero = refl
  step_clk (suc k) = omega arith

  pub settled_release : Stairs (λ k. At (level_after e.volume k) false) (At 0 true) (step_clock e P) (steps e.volume) e
  settled_release =
      let v = e.volume in
      let l : steps v ≡ suc (steps v - 1) = omega (arith, steps_closed v h.settled.level) in
      let g : Going h.settled e (wait P e.rate_phase + 1) e.curve_count e.curve_divisor v (steps v - 1) = record {
        matched = to_first h.settled;
        low = h.count;
        high = divisor_le _ h.divisor;
        byte = h.settled.level;
        left = l;
      } in
      subst (λ (g : ℕ → ℕ). Stairs (λ k. At (level_after v k) false) (At 0 true) g (steps v) e) (λ i k. step_clk k i)
      (subst (λ (n : ℕ). Stairs (λ k. At (level_after v k) false) (At 0 true) (clk P (wait P e.rate_phase + 1) e.curve_count e.curve_divisor v) n e) (sym l)
      (falls h.settled (steps v - 1) e _ _ _ _ g))
