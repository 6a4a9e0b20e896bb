-- A bit is kept exactly if its hold exceeds n (`kept_bit`), whatever has gone before (`kept_later`); a loop over the
-- bits works it out. Assumes nothing.
use Prim.Native.Nat.{ℕ, zero, suc, ◌+◌, ◌-◌, ◌*◌, ◌/◌, ◌%◌, ◌^◌, ◌≤◌, ◌<◌}
use native.Mathlib.Omega.{arith}
use native.Mathlib.Nat.{pow-suc, div-le_self, pow-succ', div-one, div-div-eq-div-mul, le_of_suc-le-suc}
use mathlib.Core.Path.{◌≡◌, refl}
use mathlib.Core.List.{List, [], ◌∷◌}
use mathlib.Core.Bool.{Bool, cond}
use lib.ListN.{length, get_or, drop}
use lib.Seq.{drop-cons}
use lib.Dec.{ltb, leb, leb→le}
use Rattle.std.proofs.lemmas.Bool.Decides.{nat_tests}
use Rattle.laws.proofs.Table.{at}
use Rattle.bus.specs.Bus.{holds, kept}

pub kept_le : (hs : List ℕ) (v n : ℕ) → kept hs v n ≤ v
unfolding kept
kept_le [] v n = omega arith
kept_le (h ∷ hs) v n = grind (arith, nat_tests, kept_le hs (v / 2) n)

-- every hold exceeds 0
positive : ℕ → ℕ → Bool
positive k x = leb 1 x

pub hold_positive : (k : ℕ) → k < 8 → 1 ≤ get_or holds k 0
unfolding holds positive
hold_positive k h = leb→le 1 (get_or holds k 0) (at positive holds tt k h)

pub kept_all : (v : ℕ) → v < 256 → kept holds v 0 ≡ v
unfolding kept holds
kept_all v h = omega arith

-- the longest hold is 43008
pub kept_none : (v n : ℕ) → 43008 ≤ n → kept holds v n ≡ 0
unfolding kept holds
kept_none v n h = grind (arith, nat_tests)

-- the lowest bit of what is kept, and the bits above it
low_le : (h v n : ℕ) → cond (ltb n h) (v % 2) 0 ≤ 1
low_le h v n = grind (arith, nat_tests)

module _ (h : ℕ) (hs : List ℕ) (v n : ℕ) where
  pub kept_low : kept (h ∷ hs) v n % 2 ≡ cond (ltb n h) (v % 2) 0
  unfolding kept
  kept_low = omega (arith, low_le h v n)

  pub kept_half : kept (h ∷ hs) v n / 2 ≡ kept hs (v / 2) n
  unfolding kept
  kept_half = omega (arith, low_le h v n)

-- one bit, kept at m and then at a later n
bit_later : (h x m n : ℕ) → m ≤ n → cond (ltb n h) (cond (ltb m h) x 0) 0 ≡ cond (ltb n h) x 0
bit_later h x m n l = grind (arith, nat_tests)

-- what is kept at m and then at a later n is what is kept at n
pub kept_later : (hs : List ℕ) (v m n : ℕ) → m ≤ n → kept hs (kept hs v m) n ≡ kept hs v n
unfolding kept
kept_later [] v m n l = refl
kept_later (h ∷ hs) v m n l = rw (kept_low h hs v m, kept_half h hs v m, bit_later h (v % 2) m n l, kept_later hs (v / 2) m n l)

-- bit k stays exactly if its hold exceeds n
pub kept_bit : (hs : List ℕ) (v n k : ℕ) → k < length hs → kept hs v n / 2 ^ k % 2 ≡ cond (ltb n (get_or hs k 0)) (v / 2 ^ k % 2) 0
unfolding kept
kept_bit [] v n k l = absurd (omega arith)
kept_bit (h ∷ hs) v n zero l = simp div-one (kept_low h hs v n)
kept_bit (h ∷ hs) v n (suc k) l = simp (pow-succ', ← div-div-eq-div-mul, kept_half h hs v n) (kept_bit hs (v / 2) n k (le_of_suc-le-suc l))

-- ---- a turn of a loop over the bits, the highest first: the bit below b

module _ (b : ℕ) (h : 0 < b) where
  pub bits_half : (v : ℕ) → v / 2 ^ (b - 1) / 2 ≡ v / 2 ^ b
  bits_half v =
      let e : suc (b - 1) ≡ b = omega arith in
      let p : 2 ^ b ≡ 2 ^ (b - 1) * 2 = rw e at (pow-suc 2 (b - 1)) in
      rw p (div-div-eq-div-mul v (2 ^ (b - 1)) 2)

  pub holds_drop : b ≤ 8 → drop (b - 1) holds ≡ get_or holds (b - 1) 0 ∷ drop b holds
  unfolding holds
  holds_drop l = let e : suc (b - 1) ≡ b = omega arith in rw e at (drop-cons holds (b - 1) 0 (omega arith))

  module _ (v n : ℕ) (l : b ≤ 8) where
    pub kept_turn
        : kept (drop (b - 1) holds) (v / 2 ^ (b - 1)) n
        ≡ cond (ltb n (get_or holds (b - 1) 0)) (v / 2 ^ (b - 1) % 2) 0 + 2 * kept (drop b holds) (v / 2 ^ b) n
    unfolding kept
    kept_turn = rw (holds_drop l, ← bits_half v)

    pub before_le : kept (drop b holds) (v / 2 ^ b) n * 2 ≤ v
    before_le = omega (arith, kept_le (drop b holds) (v / 2 ^ b) n, bits_half v, div-le_self v (2 ^ (b - 1)))

    pub after_le : kept (drop (b - 1) holds) (v / 2 ^ (b - 1)) n ≤ v
    after_le = omega (arith, kept_le (drop (b - 1) holds) (v / 2 ^ (b - 1)) n, div-le_self v (2 ^ (b - 1)))

pub ruleset kept_turns = (kept_turn, before_le, after_le, nat_tests)
