-- A number and its bytes, both ways: the bytes that a number was read from are its own, and a number is read back
-- from its bytes. Assumes nothing.
use Prim.Native.Nat.{ℕ, zero, suc, ◌+◌, ◌*◌, ◌/◌, ◌%◌, ◌^◌, ◌≤◌, ◌<◌}
use native.Mathlib.Omega.{arith}
use native.Mathlib.Nat.{add-zero, pow-succ'}
use native.Mathlib.Numerals.{add-one}
use mathlib.Core.Path.{◌≡◌, refl, ap, sym, ◌∙◌}
use mathlib.Core.List.{List, ◌∷◌, ◌++◌}
use lib.ListN.{length, get_or, drop}
use lib.Seq.{drop-cons, get_or-drop}
use Rattle.words.specs.Words.{Bytes, little, number_at, bytes_of}
use Rattle.words.proofs.Words.{number_there}

pub length_bytes : (k n : ℕ) → length (bytes_of k n) ≡ k
unfolding bytes_of
length_bytes zero n = refl
length_bytes (suc k) n = ap suc (length_bytes k (n / 256))

module _ (s : List ℕ) where
  pub byte_number : (at : ℕ) → at < length s → number_at 1 s at ≡ get_or s at 0
  unfolding little
  byte_number at h = omega (arith, number_there s 1 at (omega arith))

  pub byte_first : (at : ℕ) → at < length s → drop at s ≡ number_at 1 s at ∷ drop (at + 1) s
  byte_first at h = rw (byte_number at h, add-one) (drop-cons s at 0 h)

  module _ (small : Bytes s) where
    little_bytes : (k at : ℕ) → at + k ≤ length s → drop at s ≡ bytes_of k (little k s at) ++ drop (at + k) s
    unfolding little bytes_of
    little_bytes zero at h = rw add-zero
    little_bytes (suc k) at h =
        let b = small at in
        let low : (get_or s at 0 + 256 * little k s (at + 1)) % 256 ≡ get_or s at 0 = omega arith in
        let high : (get_or s at 0 + 256 * little k s (at + 1)) / 256 ≡ little k s (at + 1) = omega arith in
        let p : at + suc k ≡ at + 1 + k = omega arith in
        rw (low, high, p, ← little_bytes k (at + 1) (omega arith), add-one) (drop-cons s at 0 (omega arith))

    pub number_bytes : (k at : ℕ) → at + k ≤ length s → drop at s ≡ bytes_of k (number_at k s at) ++ drop (at + k) s
    number_bytes k at h = rw (number_there s k at h) (little_bytes k at h)

little_drop : (k : ℕ) (s : List ℕ) (n at : ℕ) → little k (drop n s) at ≡ little k s (n + at)
unfolding little
little_drop zero s n at = refl
little_drop (suc k) s n at =
    let p : n + at + 1 ≡ n + (at + 1) = omega arith in
    rw (get_or-drop n s at 0, little_drop k s n (at + 1), p)

little_of_bytes : (k n : ℕ) (w : List ℕ) → n < 256 ^ k → little k (bytes_of k n ++ w) 0 ≡ n
unfolding little bytes_of
little_of_bytes zero n w h = omega arith
little_of_bytes (suc k) n w h =
    let e = little_drop k (n % 256 ∷ (bytes_of k (n / 256) ++ w)) 1 0 in
    let p : 256 ^ suc k ≡ 256 * 256 ^ k = pow-succ' 256 k in
    omega (arith, e, little_of_bytes k (n / 256) w (omega arith))

-- n is read where its k bytes stand
pub bytes_number : (s : List ℕ) (k at n : ℕ) (w : List ℕ) → drop at s ≡ bytes_of k n ++ w → at + k ≤ length s → n < 256 ^ k → number_at k s at ≡ n
bytes_number s k at n w e h l =
    let d : little k (drop at s) 0 ≡ little k s at = rw add-zero at (little_drop k s at 0) in
    number_there s k at h ∙ (sym d ∙ (ap (λ (v : List ℕ). little k v 0) e ∙ little_of_bytes k n w l))
