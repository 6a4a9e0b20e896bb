-- Document 01, 'Line loading': the result has no line that its input lacks. It is a code of twelve bits, turns on
-- those of its input alone, and settled 0 is 0. For every selection and every value. Assumes nothing.
use mathlib.Core.Path.{◌≡◌, refl, ap, sym, subst⁻¹, ◌∙◌}
use mathlib.Core.Bool.{Bool, true, false, cond, not}
use mathlib.Core.List.{List}
use mathlib.Core.Logic.{inl, inr}
use Prim.Native.Nat.{ℕ, zero, suc, ◌+◌, ◌-◌, ◌*◌, ◌/◌, ◌%◌, ◌^◌, ◌≤◌, ◌<◌}
use native.Mathlib.Omega.{arith}
use native.Mathlib.Nat.{zero-div, zero-mul, one-mul, mul_assoc, add-mul-mod_self_right, eq-or-lt_of_le, div-eq_of_lt, lt_of_lt_of_le, lt-suc_self, lt_trans}
use lib.Dec.{T, ltb}
use lib.IntN.{pos}
use lib.ListN.{get_or}
use lib.Pow.{field, mod-mod-pow, pow-add, pow_mono}
use lib.Ieee.{Float, nan, binary32, le, of_int}
use borrow.Author.Tests.{ltb-true, ltb-false}
use Rattle.laws.specs.Build.{build}
use Rattle.laws.specs.Times.{times}
use Rattle.laws.proofs.Build.{build_at, build_same}
use Rattle.laws.proofs.Cond.{either}
use Rattle.laws.proofs.Table.{at_or}
use Rattle.waveforms.specs.Constants.{0·0, retention_thresholds, loading_scales, by_selection}
use Rattle.waveforms.specs.Waveforms.{interaction_scale, charge_at, discharge, drained, pass, retained, code, array_of, settled_by, settled, needs_loading, loaded}
use Rattle.waveforms.proofs.Sums.{code_lt}

-- ---- every threshold is above 0.0

above : ℕ → Float → Bool
above k t = not (le t 0·0)

is_false : (b : Bool) → T (not b) → b ≡ false
is_false true t = absurd t
is_false false t = refl

threshold_above : (s : ℕ) → le (by_selection retention_thresholds s) 0·0 ≡ false
unfolding retention_thresholds 0·0 above le
threshold_above s = is_false _ (at_or nan above retention_thresholds tt (s % 16) (omega arith))

-- ---- a line without charge stays so

drained_empty : (i s d : Float) → drained i s 0·0 d ≡ 0·0
unfolding drained le 0·0
drained_empty i s d = refl

module _ (cs : List Float) (load i s : Float) (b : ℕ) (h : b < 12) where
  pass_empty : (ps : List Float) → get_or ps b nan ≡ 0·0 → get_or (pass cs load i s ps) b nan ≡ 0·0
  unfolding pass
  pass_empty ps e =
      build_at (λ d. drained i s (get_or ps d nan) (discharge cs load ps d 12)) 12 b nan h ∙ ap (λ (p : Float). drained i s p (discharge cs load ps b 12)) e
      ∙ drained_empty i s (discharge cs load ps b 12)

  passes_empty : (n : ℕ) (ps : List Float) → get_or ps b nan ≡ 0·0 → get_or (times n (pass cs load i s) ps) b nan ≡ 0·0
  unfolding times
  passes_empty zero ps e = e
  passes_empty (suc n) ps e = pass_empty (times n (pass cs load i s) ps) (passes_empty n ps e)

zero_charge : of_int binary32 (pos 0) ≡ 0·0
unfolding of_int 0·0
zero_charge = refl

charge_empty : (v b : ℕ) → b < 12 → v / 2 ^ b % 2 ≡ 0 → get_or (build (charge_at v) 12) b nan ≡ 0·0
unfolding charge_at
charge_empty v b h e = build_at (charge_at v) 12 b nan h ∙ ap (λ (n : ℕ). of_int binary32 (pos n)) e ∙ zero_charge

-- ---- a line below the threshold is not in the code

-- a multiple of a higher power of two has no part in a digit
digit_under : (c k b n : ℕ) → b < n → (c + k * 2 ^ n) / 2 ^ b % 2 ≡ c / 2 ^ b % 2
digit_under c k b n h =
    let e : n ≡ n - (1 + b) + (1 + b) = omega arith in
    let split : k * 2 ^ n ≡ k * 2 ^ (n - (1 + b)) * 2 ^ (1 + b) = ap (λ (m : ℕ). k * 2 ^ m) e ∙ ap (λ (m : ℕ). k * m) (pow-add 2 (n - (1 + b)) (1 + b)) ∙ sym (mul_assoc k (2 ^ (n - (1 + b))) (2 ^ (1 + b))) in
    sym (field (c + k * 2 ^ n) 1 b)
    ∙ ap (λ (x : ℕ). x / 2 ^ b) (ap (λ (x : ℕ). (c + x) % 2 ^ (1 + b)) split ∙ add-mul-mod_self_right c (k * 2 ^ (n - (1 + b))) (2 ^ (1 + b)))
    ∙ field c 1 b

module _ (t : Float) (cs : List Float) where
  retained_weight : (n : ℕ) → retained t (get_or cs n nan) n ≡ cond (le t (get_or cs n nan)) 1 0 * 2 ^ n
  unfolding retained
  retained_weight n = go (le t (get_or cs n nan))
    where
      go : (b : Bool) → cond b (2 ^ n) 0 ≡ cond b 1 0 * 2 ^ n
      go true = sym (one-mul (2 ^ n))
      go false = sym (zero-mul (2 ^ n))

  retained_none : (n : ℕ) → le t (get_or cs n nan) ≡ false → retained t (get_or cs n nan) n ≡ 0
  unfolding retained
  retained_none n e = simp e

  code_below : (n b : ℕ) → n ≤ b → le t (get_or cs b nan) ≡ false → code t cs (suc n) < 2 ^ b
  unfolding code
  code_below n b h e = elim (eq-or-lt_of_le h) [
    | inl q ↦ omega (arith, code_lt t cs n, retained_none n (subst⁻¹ (λ (m : ℕ). le t (get_or cs m nan) ≡ false) q e), ap (λ (m : ℕ). 2 ^ m) q)
    | inr l ↦ lt_of_lt_of_le (code_lt t cs (suc n)) (pow_mono l)
  ]

  code_lacks : (n b : ℕ) → le t (get_or cs b nan) ≡ false → code t cs n / 2 ^ b % 2 ≡ 0
  unfolding code
  code_lacks zero b e = ap (λ (x : ℕ). x % 2) (zero-div (2 ^ b))
  code_lacks (suc n) b e = go (ltb b n) refl (code_lacks n b e)
    where
      go : (x : Bool) → ltb b n ≡ x → code t cs n / 2 ^ b % 2 ≡ 0 → (code t cs n + retained t (get_or cs n nan) n) / 2 ^ b % 2 ≡ 0
      go true f r = ap (λ (x : ℕ). (code t cs n + x) / 2 ^ b % 2) (retained_weight n) ∙ digit_under (code t cs n) (cond (le t (get_or cs n nan)) 1 0) b n (ltb-true b n f) ∙ r
      go false f r = ap (λ (x : ℕ). x % 2) (div-eq_of_lt (code_below n b (ltb-false b n f) e))

  code_empty : (n : ℕ) → ((b : ℕ) → b < n → le t (get_or cs b nan) ≡ false) → code t cs n ≡ 0
  unfolding code
  code_empty zero h = refl
  code_empty (suc n) h = omega (arith, code_empty n (λ b l. h b (lt_trans l (lt-suc_self n))), retained_none n (h n (lt-suc_self n)))

-- ---- the settled code

-- the charges after three passes, from any and from a value's
abbrev passed : ℕ → List Float → List Float
passed s = times 3 (pass (array_of s).coupling (array_of s).static_load (interaction_scale s) (by_selection loading_scales s))

abbrev charges : ℕ → ℕ → List Float
charges s v = passed s (build (charge_at v) 12)

module _ (s v : ℕ) where
  line_below : (b : ℕ) → b < 12 → v / 2 ^ b % 2 ≡ 0 → le (by_selection retention_thresholds s) (get_or (charges s v) b nan) ≡ false
  line_below b h e = rw (passes_empty (array_of s).coupling (array_of s).static_load (interaction_scale s) (by_selection loading_scales s) b h 3 (build (charge_at v) 12) (charge_empty v b h e)) (threshold_above s)

  pub settled_lt : settled s v < 4096
  unfolding settled settled_by array_of
  settled_lt = code_lt (by_selection retention_thresholds s) (charges s v) 12

  -- a line that the value lacks is not in the settled code
  pub settled_lacks : (b : ℕ) → v / 2 ^ b % 2 ≡ 0 → settled s v / 2 ^ b % 2 ≡ 0
  unfolding settled settled_by array_of
  settled_lacks b e = go (ltb b 12) refl
    where
      go : (x : Bool) → ltb b 12 ≡ x → code (by_selection retention_thresholds s) (charges s v) 12 / 2 ^ b % 2 ≡ 0
      go true f = code_lacks (by_selection retention_thresholds s) (charges s v) 12 b (line_below b (ltb-true b 12 f) e)
      go false f = ap (λ (x : ℕ). x % 2) (div-eq_of_lt (lt_of_lt_of_le (code_lt (by_selection retention_thresholds s) (charges s v) 12) (pow_mono (ltb-false b 12 f))))

pub settled_zero : (s : ℕ) → settled s 0 ≡ 0
unfolding settled settled_by array_of
settled_zero s = code_empty (by_selection retention_thresholds s) (charges s 0) 12 (λ b h. line_below s 0 b h (ap (λ (x : ℕ). x % 2) (zero-div (2 ^ b))))

-- a value's low twelve bits alone count
cut_line : (v b : ℕ) → b < 12 → v % 4096 / 2 ^ b % 2 ≡ v / 2 ^ b % 2
cut_line v b l =
    let p : 12 ≡ 12 - b + b = omega arith in
    let q : 12 - b ≡ 11 - b + 1 = omega arith in
    ap (λ (m : ℕ). v % 2 ^ m / 2 ^ b % 2) p ∙ ap (λ (x : ℕ). x % 2) (field v (12 - b) b ∙ ap (λ (m : ℕ). v / 2 ^ b % 2 ^ m) q) ∙ mod-mod-pow (v / 2 ^ b) (11 - b) 1

pub settled_cut : (s v : ℕ) → settled s (v % 4096) ≡ settled s v
unfolding settled settled_by array_of charge_at
settled_cut s v =
    ap (λ (before : List Float). code (by_selection retention_thresholds s) (passed s before) 12)
    (build_same (charge_at (v % 4096)) (charge_at v) 12 (λ b h. ap (λ (x : ℕ). of_int binary32 (pos x)) (cut_line v b h)))

-- ---- the code for the tick: a single waveform's value is cut to twelve bits

loaded_either : (P : ℕ → Type 0) (s v : ℕ) → P (settled s v) → P (v % 4096) → P (loaded s v)
unfolding loaded
loaded_either P s v = either P (needs_loading s) (settled s v) (v % 4096)

pub loaded_lt : (s v : ℕ) → loaded s v < 4096
loaded_lt s v = loaded_either (λ c. c < 4096) s v (settled_lt s v) (omega arith)

cut_lacks : (v b : ℕ) → v / 2 ^ b % 2 ≡ 0 → v % 4096 / 2 ^ b % 2 ≡ 0
cut_lacks v b e = go (ltb b 12) refl
  where
    go : (x : Bool) → ltb b 12 ≡ x → v % 4096 / 2 ^ b % 2 ≡ 0
    go true f = cut_line v b (ltb-true b 12 f) ∙ e
    go false f = let h : v % 4096 < 2 ^ 12 = omega arith in ap (λ (x : ℕ). x % 2) (div-eq_of_lt (lt_of_lt_of_le h (pow_mono (ltb-false b 12 f))))

pub loaded_lacks : (s v b : ℕ) → v / 2 ^ b % 2 ≡ 0 → loaded s v / 2 ^ b % 2 ≡ 0
loaded_lacks s v b e = loaded_either (λ c. c / 2 ^ b % 2 ≡ 0) s v (settled_lacks s v b e) (cut_lacks v b e)

pub loaded_zero : (s : ℕ) → loaded s 0 ≡ 0
loaded_zero s = loaded_either (λ c. c ≡ 0) s 0 (settled_zero s) refl
