-- A counted loop that has stopped has counted exactly to its end. Assumes nothing.
use mathlib.Core.Path.{◌≡◌, ap, ◌∙◌}
use Prim.Native.Nat.{ℕ, ◌≤◌}
use native.Mathlib.Nat.{le_antisymm}

-- what holds at i holds at n, since i is n
pub ended : {A : Type 0} (f : ℕ → A) (a : A) (i n : ℕ) → i ≤ n → n ≤ i → a ≡ f i → a ≡ f n
ended f a i n h k p = p ∙ ap f (le_antisymm h k)
