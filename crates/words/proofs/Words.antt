-- A number is its lower bytes and, by a power of 256, its upper ones; it is 0 where not all are there, and the same
-- wherever its bytes are: so it is what is read from them alone (`number_read`). Assumes nothing.
use Prim.Native.Nat.{ℕ, zero, suc, ◌+◌, ◌*◌, ◌^◌, ◌≤◌, ◌<◌}
use native.Mathlib.Omega.{arith}
use native.Mathlib.Nat.{zero-add, add-zero, suc-add, one-mul, mul-add, mul_assoc, pow-succ'}
use mathlib.Core.Path.{◌≡◌, refl, sym, subst₂, ap, ◌∙◌}
use mathlib.Core.List.{List}
use lib.ListN.{length, get_or}
use Rattle.std.specs.Prelude.{Option, Some, None, MatchOption}
use Rattle.std.specs.List.{slice_range}
use Rattle.std.proofs.lemmas.List.Edits.{get_or-between}
use borrow.Author.Tests.{le-leb, lt-leb}
use Rattle.words.specs.Words.{little, number_at}

module _ (s : List ℕ) where
  little_join : (j k at : ℕ) → little (j + k) s at ≡ little j s at + 256 ^ j * little k s (at + j)
  unfolding little
  little_join zero k at = simp (zero-add, add-zero, one-mul)
  little_join (suc j) k at =
      let p : at + suc j ≡ at + 1 + j = omega arith in
      rw (suc-add, little_join j k (at + 1), pow-succ', p) (omega (arith, mul-add 256 (little j s (at + 1)) (256 ^ j * little k s (at + 1 + j)), mul_assoc 256 (256 ^ j) (little k s (at + 1 + j))))

  module _ (k at : ℕ) where
    pub number_there : at + k ≤ length s → number_at k s at ≡ little k s at
    unfolding number_at
    number_there h = simp (le-leb (at + k) (length s) h)

    pub number_cut : length s < at + k → number_at k s at ≡ 0
    unfolding number_at
    number_cut h = simp (lt-leb (at + k) (length s) h)

  -- a number is its lower bytes and, 256 times as much each, its upper ones
  pub number_join : (j k at : ℕ) → at + (j + k) ≤ length s → number_at (j + k) s at ≡ number_at j s at + 256 ^ j * number_at k s (at + j)
  number_join j k at h =
      rw (number_there (j + k) at h, number_there j at (omega arith), number_there k (at + j) (omega arith)) (little_join j k at)

module _ (s t : List ℕ) where
  little_same : (k i j : ℕ) → ((m : ℕ) → m < k → get_or s (i + m) 0 ≡ get_or t (j + m) 0) → little k s i ≡ little k t j
  unfolding little
  little_same zero i j same = refl
  little_same (suc k) i j same =
      let first = there (add-zero i) (add-zero j) (same 0 (omega arith)) in
      rw (first, little_same k (i + 1) (j + 1) (λ m h. there (omega arith) (omega arith) (same (suc m) (omega arith))))
    where
      there : {a a' b b' : ℕ} → a ≡ a' → b ≡ b' → get_or s a 0 ≡ get_or t b 0 → get_or s a' 0 ≡ get_or t b' 0
      there = subst₂ (λ (a b : ℕ). get_or s a 0 ≡ get_or t b 0)

  -- the same bytes, in one list or another, are the same number
  pub number_same
      : (k i j : ℕ)
      → i + k ≤ length s
      → j + k ≤ length t
      → ((m : ℕ) → m < k → get_or s (i + m) 0 ≡ get_or t (j + m) 0)
      → number_at k s i ≡ number_at k t j
  number_same k i j h l same = rw (number_there s k i h, number_there t k j l) (little_same k i j same)

-- n is read by f from the k bytes from a place on, or 0 where they are not all there
pub number_read
    : (k : ℕ) (s : List ℕ) (at n : ℕ) (o : Option (List ℕ)) (f : List ℕ → ℕ)
    → ((b : List ℕ) → f b ≡ little k b 0)
    → MatchOption o (length s < at + k) (λ b. (at + k ≤ length s) × (b ≡ slice_range s at (at + k)))
    → MatchOption o (n ≡ 0) (λ b. n ≡ f b)
    → n ≡ number_at k s at
number_read k s at n None f e h r = r ∙ sym (number_cut s k at h)
number_read k s at n (Some b) f e h r =
    let same : little k (slice_range s at (at + k)) 0 ≡ little k s at =
    little_same (slice_range s at (at + k)) s k 0 at (λ m l. rw zero-add (get_or-between s at (at + k) m 0 (omega arith))) in
    r ∙ (e b ∙ (ap (λ (b : List ℕ). little k b 0) h.1 ∙ (same ∙ sym (number_there s k at h.0))))
