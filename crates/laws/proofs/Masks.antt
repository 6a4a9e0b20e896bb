-- A mask of one bit leaves nothing exactly if that bit is clear, and a one shifted left within a word is a power of
-- 2. Assumes nothing.
use mathlib.Core.Path.{◌≡◌, ap, sym, ◌∙◌}
use Prim.Native.Nat.{ℕ, zero, suc, ◌+◌, ◌-◌, ◌*◌, ◌/◌, ◌%◌, ◌^◌, ◌<◌}
use native.Mathlib.Nat.{zero-mul, one-mul, mul-pos, zero-lt-suc}
use native.Mathlib.Omega.{arith}
use lib.Bits.{bit_and, and_high}
use lib.Dec.{eqb}
use lib.Pow.{pow_pos, shl_exact}
use borrow.Author.Tests.{ne_eqb}

scaled : (b m : ℕ) → 0 < m → eqb (b * m) 0 ≡ eqb b 0
scaled zero m h = ap (λ (x : ℕ). eqb x 0) (zero-mul m)
scaled (suc b) m h =
    let p : 0 < suc b * m = mul-pos (zero-lt-suc b) h in
    ne_eqb (suc b * m) 0 (λ e. omega arith) ∙ sym (ne_eqb (suc b) 0 (λ e. omega arith))

-- a mask of one bit leaves nothing exactly if that bit is clear
pub and_bit : (x k : ℕ) → eqb (bit_and x (2 ^ (1 + k) - 2 ^ k)) 0 ≡ eqb (x / 2 ^ k % 2) 0
and_bit x k = ap (λ (y : ℕ). eqb y 0) (and_high x 1 k) ∙ scaled (x / 2 ^ k % 2) (2 ^ k) (pow_pos k)

-- a bit, and a one, shifted left within a word
pub bit_shl : (k w : ℕ) → k < w → (x : ℕ) → x % 2 * 2 ^ k % 2 ^ w ≡ x % 2 * 2 ^ k
bit_shl k w h x = shl_exact {a = x % 2} 1 k w (omega arith) (omega arith)

pub one_shl : (k w : ℕ) → k < w → 1 * 2 ^ k % 2 ^ w ≡ 2 ^ k
one_shl k w h = bit_shl k w h 1 ∙ one-mul (2 ^ k)
