-- A step made n times: n clocks of a bus, an envelope or a chip, n leak steps, the three passes of line loading.
use Rattle.std.specs.Prelude.{ℕ, zero, suc}

unfoldable pub times : {A : Type 0} → ℕ → (A → A) → A → A
times zero f x = x
times (suc n) f x = f (times n f x)
