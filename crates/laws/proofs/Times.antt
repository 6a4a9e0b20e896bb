-- n + 1 steps are n steps and one, before them or after, and n steps after m are m + n. Assumes nothing.
use mathlib.Core.Path.{◌≡◌, refl, ap, sym, ◌∙◌}
use Prim.Native.Nat.{ℕ, zero, suc, ◌+◌}
use native.Mathlib.Nat.{add-zero, add-suc}
use native.Mathlib.Numerals.{add-one}
use Rattle.laws.specs.Times.{times}

module _ {A : Type 0} (f : A → A) where
  pub times_none : (x : A) → times 0 f x ≡ x
  unfolding times
  times_none x = refl

  pub times_step : (n : ℕ) (x : A) → times (n + 1) f x ≡ f (times n f x)
  unfolding times
  times_step n x = rw add-one

  pub times_first : (n : ℕ) (x : A) → times (suc n) f x ≡ times n f (f x)
  unfolding times
  times_first zero x = refl
  times_first (suc n) x = ap f (times_first n x)

  -- n steps after m are n + m
  pub times_add : (n m : ℕ) (x : A) → times n f (times m f x) ≡ times (m + n) f x
  unfolding times
  times_add zero m x = ap (λ (k : ℕ). times k f x) (sym (add-zero m))
  times_add (suc n) m x = ap f (times_add n m x) ∙ ap (λ (k : ℕ). times k f x) (sym (add-suc m n))
