-- A decimal number in bytes, as `decimal` writes it: no sign, no leading zero.
use Rattle.std.specs.Prelude.{ℕ, ◌+◌, ◌-◌, ◌*◌, Bool, false, cond, ◌&&◌, List, [], ◌∷◌, ◌++◌, ◌≡◌, ltb, leb, eqb, length, get_or, drop, Option, Some, None}
use Rattle.listing.specs.Text.{decimal}
use Rattle.script.specs.declared.Number.{Number}

-- 48 is 0, 57 is 9
abbrev pub is_digit : ℕ → Bool
is_digit b = leb 48 b && leb b 57

-- what a byte is worth as a digit
abbrev pub digit : ℕ → Option ℕ
digit b = cond (is_digit b) (Some (b - 48)) None

abbrev pub number : ℕ → ℕ → Number
number value next = record { value = value; next = next }

-- the number v with a digit after it
abbrev pub grown : ℕ → ℕ → ℕ
grown v b = 10 * v + (b - 48)

-- a number that is v up to `next`, where the bytes stand: it ends before what is no digit. No digit stands after a leading
-- 0, and none with which the number passes the limit
unfoldable pub more : ℕ → ℕ → ℕ → List ℕ → Option Number
more limit v next [] = cond (ltb limit v) None (Some (number v next))
more limit v next (b ∷ l) =
    cond (ltb limit v) None
    (cond (is_digit b) (cond (eqb v 0) None (more limit (grown v b) (next + 1) l)) (Some (number v next)))

-- the number at the start of the bytes at a place
unfoldable pub number_of : ℕ → ℕ → List ℕ → Option Number
number_of limit at [] = None
number_of limit at (b ∷ l) = cond (is_digit b) (more limit (b - 48) (at + 1) l) None

unfoldable pub number_at : ℕ → List ℕ → ℕ → Option Number
number_at limit s at = number_of limit at (drop at s)

-- n stands in s from `at` to `next`, and no digit after it: what `number_at` finds, and nothing else (proofs/Numbers)
pub record Stands (s : List ℕ) (at n next : ℕ) : Type 0 where
  pub digits : drop at s ≡ decimal n ++ drop next s
  pub place : next ≡ at + length (decimal n)
  pub ends : is_digit (get_or s next 0) ≡ false
