-- `refusal` and `table_after`, one law for each way that a fill goes; and any two answers that tell the same are equal.
-- Assumes nothing.
use mathlib.Core.Path.{◌≡◌}
use mathlib.Core.Bool.{true, false}
use mathlib.Core.List.{List}
use Prim.Native.Nat.{ℕ, ◌<◌}
use native.Mathlib.Omega.{arith}
use lib.ListN.{length}
use borrow.Author.Tests.{eq-eqb, ne_eqb, lt-ltb, le-ltb}
use Rattle.std.proofs.Common.{Result, Ok, Err}
use Rattle.laws.specs.Build.{build}
use Rattle.refusals.specs.Refusals.{numbered, tells}
use Rattle.refusals.specs.declared.Refused.{Refused}
use Rattle.refusals.proofs.Numbers.{tells_tells}
use Rattle.tables.specs.Tables.{has_table, refusal, table_after}
use Rattle.waveforms.specs.Waveforms.{settled, needs_loading}

module _ (s : ℕ) (t : List ℕ) where
  no_table : has_table s ≡ false → (Err (numbered 1 0) ≡ refusal s (length t)) × (t ≡ table_after s t)
  unfolding refusal table_after
  no_table e = (rw e, rw e)

  pub above_15 : 15 < s → (Err (numbered 1 0) ≡ refusal s (length t)) × (t ≡ table_after s t)
  unfolding has_table
  above_15 h = no_table (simp (le-ltb s 16 (omega arith)))

  module _ (h : s < 16) where
    pub under_two : needs_loading s ≡ false → (Err (numbered 1 0) ≡ refusal s (length t)) × (t ≡ table_after s t)
    unfolding has_table
    under_two g = no_table (simp (lt-ltb s 16 h, g))

    module _ (g : needs_loading s ≡ true) where
      has_table_lem : has_table s ≡ true
      unfolding has_table
      has_table_lem = simp (lt-ltb s 16 h, g)

      pub wrong_length : (length t ≡ 4096 → ⊥) → (Err (numbered 2 0) ≡ refusal s (length t)) × (t ≡ table_after s t)
      unfolding refusal table_after
      wrong_length n = (rw (has_table_lem, ne_eqb (length t) 4096 n), rw (has_table_lem, ne_eqb (length t) 4096 n))

      pub filled : length t ≡ 4096 → (Ok tt ≡ refusal s (length t)) × (build (settled s) 4096 ≡ table_after s t)
      unfolding refusal table_after
      filled n = (rw (has_table_lem, eq-eqb (length t) 4096 n), rw (has_table_lem, eq-eqb (length t) 4096 n))

-- what `fill` promises determines its answer
pub told_tells : (a b : Result (Unit {0}) Refused) → tells a ≡ tells b → a ≡ b
told_tells = tells_tells
