-- Document 01, 'Data bus': n clocks after a drive, with no drive or reset since, the byte keeps exactly its bits
-- whose hold exceeds n. For every byte and every n. Assumes nothing.
use Prim.Native.Nat.{ℕ, zero, suc, ◌+◌, ◌-◌, ◌/◌, ◌%◌, ◌^◌, ◌<◌, min}
use native.Mathlib.Omega.{arith}
use native.Mathlib.Numerals.{add-one}
use mathlib.Core.Path.{◌≡◌, refl, ap, sym, ◌∙◌}
use mathlib.Core.Bool.{Bool, true, false, cond}
use lib.Dec.{ltb, eqb}
use lib.ListN.{get_or}
use Rattle.std.proofs.lemmas.Bool.Decides.{nat_tests}
use borrow.Author.Tests.{ltb-true, ltb-false, eqb-true, eqb-false}
use Rattle.laws.specs.Times.{times}
use Rattle.bus.specs.declared.InternalDataBus.{InternalDataBus}
use Rattle.bus.specs.Bus.{holds, kept, next_expiry_for, driven, clocked, clocks}
use Rattle.bus.proofs.Kept.{kept_le, kept_all, kept_none, kept_later, kept_bit}
use Rattle.bus.proofs.Expiry.{kept_safe}
use Rattle.bus.proofs.Clock.{clocked_empty, clocked_before, clocked_at}

-- what holds of the bus n clocks after v was driven
record Fading (v n : ℕ) (b : InternalDataBus) : Type 0 where
  byte : b.value ≡ kept holds v n
  old : (b.value ≡ 0 → ⊥) → b.age ≡ n
  safe : (k : ℕ) → k < b.next_expiry → kept holds b.value k ≡ b.value

fading_driven : (v : ℕ) → v < 256 → Fading v 0 (driven v)
unfolding driven
fading_driven v h =
    record {
      byte = sym (kept_all v h);
      old = λ _. refl;
      safe = λ k l. rw (kept_all v h) at (kept_safe holds v 0 k (rw (kept_all v h) l));
    }

module _ (v n : ℕ) (b : InternalDataBus) (f : Fading v n b) where
  later : kept holds b.value (n + 1) ≡ kept holds v (n + 1)
  later = ap (λ (x : ℕ). kept holds x (n + 1)) f.byte ∙ kept_later holds v n (n + 1) (omega arith)

  empty : b.value ≡ 0 → Fading v (n + 1) b
  empty z = record { byte = omega (arith, later, kept_le holds b.value (n + 1)); old = λ k. absurd (k z); safe = f.safe }

  module _ (k : b.value ≡ 0 → ⊥) where
    -- a byte that is not gone is younger than the longest hold, so its age is far from saturating
    young : n < 43008
    young = grind (arith, nat_tests, f.byte, kept_none v n)

    next_age : n + 1 ≡ min (b.age + 1) (2 ^ 32 - 1)
    next_age = omega (arith, young, f.old k)

    before : n + 1 < b.next_expiry → Fading v (n + 1) (record b { age = n + 1 })
    before l = record { byte = sym (f.safe (n + 1) l) ∙ later; old = λ _. refl; safe = f.safe }

    at : Fading v (n + 1) (record { value = kept holds b.value (n + 1); age = n + 1; next_expiry = next_expiry_for holds (kept holds b.value (n + 1)) (n + 1) })
    at = record { byte = later; old = λ _. refl; safe = kept_safe holds b.value (n + 1) }

  fading_step : Fading v (n + 1) (clocked b)
  fading_step = go (eqb b.value 0) refl
    where
      move : (k : b.value ≡ 0 → ⊥) (t : Bool) → ltb (n + 1) b.next_expiry ≡ t → Fading v (n + 1) (clocked b)
      move k true e =
          let l : n + 1 < b.next_expiry = ltb-true (n + 1) b.next_expiry e in
          rw (clocked_before b (n + 1) k (next_age k) l) (before k l)
      move k false e = rw (clocked_at b (n + 1) k (next_age k) (ltb-false (n + 1) b.next_expiry e)) (at k)

      go : (t : Bool) → eqb b.value 0 ≡ t → Fading v (n + 1) (clocked b)
      go true e = let z : b.value ≡ 0 = eqb-true b.value 0 e in rw (clocked_empty b z) (empty z)
      go false e = move (eqb-false b.value 0 e) (ltb (n + 1) b.next_expiry) refl

fading : (v n : ℕ) → v < 256 → Fading v n (clocks n (driven v))
unfolding times
fading v zero h = fading_driven v h
fading v (suc n) h = rw add-one at (fading_step v n (clocks n (driven v)) (fading v n h))

-- THE LAW
pub byte_fades : (v n : ℕ) → v < 256 → (clocks n (driven v)).value ≡ kept holds v n
byte_fades v n h = (fading v n h).byte

-- bit by bit: bit k is kept exactly if its hold exceeds n
pub bit_fades : (v n k : ℕ) → v < 256 → k < 8 → (clocks n (driven v)).value / 2 ^ k % 2 ≡ cond (ltb n (get_or holds k 0)) (v / 2 ^ k % 2) 0
unfolding holds
bit_fades v n k h l = ap (λ (x : ℕ). x / 2 ^ k % 2) (byte_fades v n h) ∙ kept_bit holds v n k l
