-- Line 11 - n shows the stage of tap n; no line above 11 is high; every tap is one of the 23 stages. Assumes nothing.
use Rattle.std.proofs.Common.{◌≡◌, ℕ, zero, suc, ◌+◌, ◌-◌, ◌*◌, ◌/◌, ◌%◌, ◌^◌, ◌<◌, ltb, List, [], ◌∷◌, length, get_or, sym, ap, ◌∙◌, mul_assoc, add-mul, add-one, arith, ltb→lt, pow-add, shl_lt, shr-shr}
use lib.Bits.{bit_or, or_shifted}
use lib.Pow.{shl-shr}
use Rattle.laws.proofs.Table.{at}
use Rattle.noise.specs.Noise.{shown, taps, tap}

pub tap_lt : (n : ℕ) → n < 8 → tap n < 23
tap_lt n h = ltb→lt (tap n) 23 (at (λ k x. ltb x 23) taps tt n h)

-- a term directly below the bits a is one bit more
below : {x : ℕ} (a b k : ℕ) → x ≡ a * 2 ^ (1 + k) → bit_or x (b % 2 * 2 ^ k) ≡ (a * 2 + b % 2) * 2 ^ k
below a b k e =
    ap (λ (y : ℕ). bit_or y (b % 2 * 2 ^ k)) e
    ∙ or_shifted a (1 + k) (b % 2 * 2 ^ k) (shl_lt 1 k (omega arith))
    ∙ ap (λ (y : ℕ). a * y + b % 2 * 2 ^ k) (pow-add 2 1 k)
    ∙ ap (λ (y : ℕ). y + b % 2 * 2 ^ k) (sym (mul_assoc a 2 (2 ^ k)))
    ∙ sym (add-mul (a * 2) (b % 2) (2 ^ k))

module _ (state : ℕ) where
  -- the bits a, then those of the stages listed
  abbrev bits : ℕ → List ℕ → ℕ
  bits a [] = a
  bits a (t ∷ ts) = bits (a * 2 + state / 2 ^ t % 2) ts

  -- above those of the stages stand the bits a
  above : (ts : List ℕ) (a : ℕ) → bits a ts / 2 ^ length ts ≡ a
  above [] a = omega arith
  above (t ∷ ts) a =
      let b : ℕ = a * 2 + state / 2 ^ t % 2 in
      ap (λ (k : ℕ). bits b ts / 2 ^ k) (sym (add-one (length ts)))
      ∙ sym (shr-shr (bits b ts) (length ts) 1)
      ∙ ap (λ (x : ℕ). x / 2) (above ts b)
      ∙ omega arith

  -- the n-th of them, with k below it, is bit k
  bit_of : (ts : List ℕ) (n k a : ℕ) → n + suc k ≡ length ts → bits a ts / 2 ^ k % 2 ≡ state / 2 ^ get_or ts n 0 % 2
  bit_of [] n k a e = absurd (omega arith)
  bit_of (t ∷ ts) zero k a e =
      let b : ℕ = a * 2 + state / 2 ^ t % 2 in
      let last : k ≡ length ts = omega arith in
      ap (λ (j : ℕ). bits b ts / 2 ^ j % 2) last ∙ ap (λ (x : ℕ). x % 2) (above ts b) ∙ omega arith
  bit_of (t ∷ ts) (suc n) k a e = bit_of ts n k (a * 2 + state / 2 ^ t % 2) (omega arith)

  -- the eight terms are the bits of the taps
  terms_taps : shown state ≡ bits 0 taps * 2 ^ 4
  unfolding shown
  terms_taps =
      let first : state / 2 ^ 2 % 2 * 2 ^ 11 ≡ (0 * 2 + state / 2 ^ 2 % 2) * 2 ^ 11 = omega arith in
      below _ _ 4 (below _ _ 5 (below _ _ 6 (below _ _ 7 (below _ _ 8 (below _ _ 9 (below _ _ 10 first))))))

  pub shown_lt : shown state < 4096
  shown_lt = omega (arith, terms_taps, above taps 0)

  -- line 11 - n shows the stage of tap n: so the taps that go line by line are those of the terms
  pub shown_tap : (n : ℕ) → n < 8 → shown state / 2 ^ (11 - n) % 2 ≡ state / 2 ^ tap n % 2
  shown_tap n h =
      let line : 11 - n ≡ 4 + (7 - n) = omega arith in
      ap (λ (x : ℕ). x / 2 ^ (11 - n) % 2) terms_taps
      ∙ ap (λ (k : ℕ). bits 0 taps * 2 ^ 4 / 2 ^ k % 2) line
      ∙ ap (λ (x : ℕ). x % 2) (sym (shr-shr (bits 0 taps * 2 ^ 4) 4 (7 - n)))
      ∙ ap (λ (x : ℕ). x / 2 ^ (7 - n) % 2) (shl-shr (bits 0 taps) 4)
      ∙ bit_of taps n (7 - n) 0 (omega arith)
