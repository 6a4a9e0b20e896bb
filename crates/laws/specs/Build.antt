-- The list f 0, f 1, .. of n entries: an array, or a lent part, filled by index (the Rust's loops over its arrays).
use Rattle.std.specs.Prelude.{ℕ, zero, suc, List, [], ◌∷◌, ◌++◌}

unfoldable pub build : {A : Type 0} → (ℕ → A) → ℕ → List A
build f zero = []
build f (suc n) = build f n ++ (f n ∷ [])
