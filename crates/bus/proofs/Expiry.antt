-- Before its next expiry no bit of a byte goes (`kept_safe`), and a loop over the bits finds that expiry.
-- Assumes nothing.
use Prim.Native.Nat.{ℕ, ◌-◌, ◌/◌, ◌%◌, ◌^◌, ◌≤◌, ◌<◌, min}
use native.Mathlib.Omega.{arith}
use mathlib.Core.Path.{◌≡◌, refl}
use mathlib.Core.List.{List, [], ◌∷◌}
use mathlib.Core.Bool.{cond}
use lib.ListN.{get_or, drop}
use lib.Dec.{ltb, eqb}
use Rattle.std.proofs.lemmas.Bool.Decides.{nat_tests}
use Rattle.bus.specs.Bus.{holds, kept, no_expiry, next_expiry_for}
use Rattle.bus.proofs.Kept.{kept_low, kept_half, bits_half, holds_drop}

pub next_le : (hs : List ℕ) (v n : ℕ) → next_expiry_for hs v n ≤ no_expiry
unfolding next_expiry_for
next_le [] v n = omega arith
next_le (h ∷ hs) v n = omega (arith, next_le hs (v / 2) n)

-- ---- before the next expiry no bit goes

-- one bit x, whose hold is the next expiry if it is set
bit_safe : (h x n : ℕ) → x ≤ 1 → n < cond (eqb x 1) h no_expiry → cond (ltb n h) x 0 ≡ x
bit_safe h x n o l = grind (arith, nat_tests)

-- one bit that was kept at m
bit_kept_safe
    : (h x m n : ℕ)
    → x ≤ 1
    → n < cond (eqb (cond (ltb m h) x 0) 1) (cond (ltb m h) h no_expiry) no_expiry
    → cond (ltb n h) (cond (ltb m h) x 0) 0 ≡ cond (ltb m h) x 0
bit_kept_safe h x m n o l = grind (arith, nat_tests)

pub kept_safe : (hs : List ℕ) (v m n : ℕ) → n < next_expiry_for hs (kept hs v m) m → kept hs (kept hs v m) n ≡ kept hs v m
unfolding kept next_expiry_for
kept_safe [] v m n l = refl
kept_safe (h ∷ hs) v m n l =
    let s = rw (kept_low h hs v m, kept_half h hs v m) at l in
    rw (kept_low h hs v m, kept_half h hs v m, bit_kept_safe h (v % 2) m n (omega arith) (omega (arith, s)), kept_safe hs (v / 2) m n (omega (arith, s)))

-- ---- a turn of a loop over the bits, the highest first: the bit below b

module _ (v n b : ℕ) (h : 0 < b) (l : b ≤ 8) where
  pub next_turn
      : next_expiry_for (drop (b - 1) holds) (v / 2 ^ (b - 1)) n
      ≡ min (cond (eqb (v / 2 ^ (b - 1) % 2) 1) (cond (ltb n (get_or holds (b - 1) 0)) (get_or holds (b - 1) 0) no_expiry) no_expiry) (next_expiry_for (drop b holds) (v / 2 ^ b) n)
  unfolding next_expiry_for
  next_turn = rw (holds_drop b h l, ← bits_half b h v)

pub ruleset next_turns = (next_turn, next_le, nat_tests)
