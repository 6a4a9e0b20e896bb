-- One source more for all twelve lines at once is one source more in each line's `discharge`, and one line more adds
-- its bit to `code`. Assumes nothing.
use mathlib.Core.Path.{◌≡◌, refl, ap, ap₂}
use mathlib.Core.List.{List}
use mathlib.Core.Logic.{inl, inr}
use Prim.Native.Nat.{ℕ, zero, suc, ◌+◌, ◌*◌, ◌^◌, ◌<◌, ◌≤◌}
use native.Mathlib.Omega.{arith}
use native.Mathlib.Nat.{pow-suc}
use native.Mathlib.Numerals.{add-one}
use lib.Dec.{lit<}
use lib.ListN.{get_or, replicate}
use lib.Pow.{pow_mono}
use lib.Ieee.{Float, nan, is_nan, le, sub, of_int, binary32}
use lib.IntN.{pos}
use Rattle.std.specs.Float.{IsFloatMax}
use Rattle.laws.specs.Build.{build}
use Rattle.laws.proofs.Build.{built_at, build_same}
use Rattle.laws.proofs.Cond.{either}
use Rattle.waveforms.specs.Constants.{0·0, 2·0}
use Rattle.waveforms.specs.Waveforms.{◌⊖◌, max, drivers, source_excess, pulled, discharge, drained, pass, retained, code}

module _ (cs : List Float) (load : Float) (ps : List Float) where
  -- no source has been added: each line has the load alone
  pub discharge_none : replicate 12 load ≡ build (λ d. discharge cs load ps d 0) 12
  unfolding discharge build
  discharge_none = refl

  -- source n is added to all twelve lines
  pub discharge_more
      : (n : ℕ) (l : List Float)
      → l ≡ build (λ d. discharge cs load ps d n) 12
      → build (λ d. pulled (get_or l d nan) (get_or ps n nan) (get_or cs (n * 12 + d) nan)) 12 ≡ build (λ d. discharge cs load ps d (n + 1)) 12
  unfolding discharge
  discharge_more n l e =
      rw add-one
      (build_same _ (λ d. discharge cs load ps d (suc n)) 12
      (λ d h. ap (λ (x : Float). pulled x (get_or ps n nan) (get_or cs (n * 12 + d) nan)) (built_at (λ k. discharge cs load ps k n) 12 l d nan e h)))

  -- the lines drained by these sums are a pass
  pub pass_drained
      : (i s : Float) (l : List Float)
      → l ≡ build (λ d. discharge cs load ps d 12) 12
      → build (λ d. drained i s (get_or ps d nan) (get_or l d nan)) 12 ≡ pass cs load i s ps
  unfolding pass
  pass_drained i s l e =
      build_same _ (λ d. drained i s (get_or ps d nan) (discharge cs load ps d 12)) 12
      (λ d h. ap (drained i s (get_or ps d nan)) (built_at (λ k. discharge cs load ps k 12) 12 l d nan e h))

retained_le : (t l : Float) (n : ℕ) → retained t l n ≤ 2 ^ n
unfolding retained
retained_le t l n = either (λ (m : ℕ). m ≤ 2 ^ n) (le t l) (2 ^ n) 0 (omega arith) (omega arith)

module _ (t : Float) (cs : List Float) where
  pub code_none : 0 ≡ code t cs 0
  unfolding code
  code_none = refl

  -- the code of n lines has n bits
  pub code_lt : (n : ℕ) → code t cs n < 2 ^ n
  unfolding code
  code_lt zero = lit< tt
  code_lt (suc n) = omega (arith, code_lt n, retained_le t (get_or cs n nan) n, pow-suc 2 n)

  -- o is the code of n lines, and r what line n adds
  module _ (n o r : ℕ) (p : o ≡ code t cs n) (q : r ≡ retained t (get_or cs n nan) n) where
    pub code_more : o + r ≡ code t cs (n + 1)
    unfolding code
    code_more = rw add-one (ap₂ ◌+◌ p q)

    pub code_fits : n < 12 → o + r < 2 ^ 16
    code_fits h = omega (arith, code_more, code_lt (n + 1), pow_mono {i = n + 1} {j = 12} (omega arith))

-- std's max may answer either of two equal numbers, as 0.0 and -0.0; of these none is -0.0
module _ (r : Float) where
  excess_of : (n : ℕ) → n ≤ 4 → IsFloatMax (of_int binary32 (pos n) ⊖ 2·0) 0·0 r → r ≡ max (of_int binary32 (pos n) ⊖ 2·0) 0·0
  unfolding max of_int sub 2·0 0·0 le is_nan
  excess_of zero h e = elim e [ inl p ↦ p | inr p ↦ p ]
  excess_of (suc zero) h e = elim e [ inl p ↦ p | inr p ↦ p ]
  excess_of (suc (suc zero)) h e = elim e [ inl p ↦ p | inr p ↦ p ]
  excess_of (suc (suc (suc zero))) h e = elim e [ inl p ↦ p | inr p ↦ p ]
  excess_of (suc (suc (suc (suc zero)))) h e = elim e [ inl p ↦ p | inr p ↦ p ]
  excess_of (suc (suc (suc (suc (suc n))))) h e = absurd (omega arith)

  pub excess : (s : ℕ) → IsFloatMax (of_int binary32 (pos (drivers s)) ⊖ 2·0) 0·0 r → r ≡ source_excess s
  unfolding source_excess drivers
  excess s e = excess_of (drivers s) (omega arith) e
