-- A clock leaves an empty bus as it is, only ages one before its next expiry, and drops what has expired at it.
-- Assumes nothing.
use Prim.Native.Nat.{ℕ, ◌+◌, ◌-◌, ◌^◌, ◌≤◌, ◌<◌, min}
use mathlib.Core.Path.{◌≡◌, sym}
use borrow.Author.Tests.{lt-ltb, le-ltb, eq-eqb, ne_eqb}
use Rattle.bus.specs.declared.InternalDataBus.{InternalDataBus}
use Rattle.bus.specs.Bus.{holds, kept, next_expiry_for, aged, clocked}

module _ (b : InternalDataBus) where
  pub clocked_empty : b.value ≡ 0 → clocked b ≡ b
  unfolding clocked
  clocked_empty z = simp (eq-eqb b.value 0 z)

  module _ (a : ℕ) (k : b.value ≡ 0 → ⊥) (e : a ≡ min (b.age + 1) (2 ^ 32 - 1)) where
    pub clocked_before : a < b.next_expiry → clocked b ≡ record b { age = a }
    unfolding clocked aged
    clocked_before l = simp (ne_eqb b.value 0 k, sym e, lt-ltb a b.next_expiry l)

    pub clocked_at : b.next_expiry ≤ a → clocked b ≡ record { value = kept holds b.value a; age = a; next_expiry = next_expiry_for holds (kept holds b.value a) a }
    unfolding clocked aged
    clocked_at l = simp (ne_eqb b.value 0 k, sym e, le-ltb a b.next_expiry l)
