-- What holds of both ways that a test can go holds of `cond`; where steps are due by a test and one at most, it is one.
-- Assumes nothing.
use mathlib.Core.Path.{◌≡◌, refl, ap}
use mathlib.Core.Bool.{Bool, true, false, cond}
use Prim.Native.Nat.{ℕ, ◌+◌, ◌≤◌}
use native.Mathlib.Omega.{arith}

module _ {A : Type 0} (P : A → Type 0) where
  pub by_test : (b : Bool) (x y : A) → (b ≡ true → P x) → (b ≡ false → P y) → P (cond b x y)
  by_test true x y f g = f refl
  by_test false x y f g = g refl

  -- where the way that it goes doesn't matter
  pub either : (b : Bool) (x y : A) → P x → P y → P (cond b x y)
  either b x y p q = by_test b x y (λ _. p) (λ _. q)

-- n + 1 steps where the test is true, and none else
pub one_at_most : {A : Type 0} (steps : ℕ → A) (x : A) (b : Bool) (n : ℕ) → cond b (n + 1) 0 ≤ 1 → cond b (steps (n + 1)) x ≡ cond b (steps 1) x
one_at_most steps x true n h =
    let one : n + 1 ≡ 1 = omega arith in
    ap steps one
one_at_most steps x false n h = refl
