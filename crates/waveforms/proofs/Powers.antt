-- One call of `power` halves the exponent and, where it is odd, multiplies the square in; at 0 it is done.
-- Assumes nothing.
use mathlib.Core.Path.{◌≡◌, refl, ap, sym, subst, ◌∙◌}
use mathlib.Core.Bool.{Bool, cond}
use Prim.Native.Nat.{ℕ, zero, suc, ◌/◌, ◌%◌, ◌<◌, ◌≤◌}
use native.Mathlib.Omega.{arith}
use native.Mathlib.Nat.{le_refl, lt_irrefl, pos_of_ne-zero}
use lib.Dec.{eqb}
use lib.Ieee.{Float}
use borrow.Author.Tests.{eq-eqb, ne_eqb}
use Rattle.waveforms.specs.Waveforms.{◌⊗◌, power}

power_zero : (k : ℕ) (a s : Float) → power k a s 0 ≡ a
unfolding power
power_zero zero a s = refl
power_zero (suc k) a s = power_zero k a (s ⊗ s)

half_le : (n k : ℕ) → n ≤ suc k → n / 2 ≤ k
half_le n k h = omega arith

-- any number of halvings that is the exponent or more gives the same
power_enough : (k j : ℕ) (a s : Float) (n : ℕ) → n ≤ k → n ≤ j → power k a s n ≡ power j a s n
unfolding power
power_enough zero j a s n h g =
    let e : n ≡ 0 = omega arith in
    subst (λ (m : ℕ). power zero a s m ≡ power j a s m) (sym e) (sym (power_zero j a s))
power_enough (suc k) zero a s n h g =
    let e : n ≡ 0 = omega arith in
    subst (λ (m : ℕ). power (suc k) a s m ≡ power zero a s m) (sym e) (power_zero (suc k) a s)
power_enough (suc k) (suc j) a s n h g = power_enough k j (cond (eqb (n % 2) 1) (a ⊗ s) a) (s ⊗ s) (n / 2) (half_le n k h) (half_le n j g)

power_step : (n : ℕ) (a s : Float) → 0 < n → power n a s n ≡ power (n / 2) (cond (eqb (n % 2) 1) (a ⊗ s) a) (s ⊗ s) (n / 2)
unfolding power
power_step zero a s h = absurd (lt_irrefl 0 h)
power_step (suc k) a s h =
    power_enough k (suc k / 2) (cond (eqb (suc k % 2) 1) (a ⊗ s) a) (s ⊗ s) (suc k / 2) (half_le (suc k) k (le_refl (suc k))) (le_refl (suc k / 2))

pub power_none : (a s : Float) → power 0 a s 0 ≡ a
power_none = power_zero 0

module _ (n : ℕ) (a s : Float) (h : n ≡ 0 → ⊥) where
  pub power_odd : n % 2 ≡ 1 → power n a s n ≡ power (n / 2) (a ⊗ s) (s ⊗ s) (n / 2)
  power_odd o = power_step n a s (pos_of_ne-zero h) ∙ ap (λ (b : Bool). power (n / 2) (cond b (a ⊗ s) a) (s ⊗ s) (n / 2)) (eq-eqb (n % 2) 1 o)

  pub power_even : (n % 2 ≡ 1 → ⊥) → power n a s n ≡ power (n / 2) a (s ⊗ s) (n / 2)
  power_even o = power_step n a s (pos_of_ne-zero h) ∙ ap (λ (b : Bool). power (n / 2) (cond b (a ⊗ s) a) (s ⊗ s) (n / 2)) (ne_eqb (n % 2) 1 o)
