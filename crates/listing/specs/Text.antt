-- The lines that `replay` prints: document 01, 'Score and program'.
use Rattle.std.specs.Prelude.{ℕ, zero, suc, ◌+◌, ◌-◌, ◌/◌, ◌%◌, Bool, cond, List, [], ◌∷◌, ◌++◌, ◌≡◌, ltb, leb, length}
use Rattle.std.proofs.lemmas.List.Edits.{sets}
use Rattle.refusals.specs.Refusals.{Told}

-- 'the lent memory afterwards': xs was put into l at `at`, r is the place after it, and m the list with it
pub record Put (l : List ℕ) (at : ℕ) (xs : List ℕ) (r : ℕ) (m : List ℕ) : Type 0 where
  pub place : r ≡ at + length xs
  pub bytes : m ≡ sets l at xs

-- there is room for xs in l at `at`
abbrev pub fits : List ℕ → ℕ → List ℕ → Bool
fits l at xs = leb (at + length xs) (length l)

-- l with xs at `at` where it fits; as it was where it doesn't: 'A refusal changes no … output memory'
abbrev pub copied : List ℕ → ℕ → List ℕ → List ℕ
copied l at xs = cond (fits l at xs) (sets l at xs) l

-- a piece of one byte
abbrev pub one : ℕ → List ℕ
one b = b ∷ []

abbrev pub space : List ℕ
space = one 32

-- 'a line feed ends each line'
abbrev pub line_feed : List ℕ
line_feed = one 10

-- the last decimal digit: 48 is 0
abbrev pub last_digit : ℕ → List ℕ
last_digit n = one (48 + n % 10)

-- the last digits of n, at most as many as the first argument
unfoldable pub digits : ℕ → ℕ → List ℕ
digits zero n = []
digits (suc k) n = cond (ltb n 10) (last_digit n) (digits k (n / 10) ++ last_digit n)

-- 'Numbers are decimal', with no leading zero
unfoldable pub decimal : ℕ → List ℕ
decimal n = digits (suc n) n

-- 'lower-case hex digits': 48 is 0, 97 is a
unfoldable pub hex_digit : ℕ → ℕ
hex_digit d = cond (ltb d 10) (48 + d) (97 + (d - 10))

-- 'address (as in the field), read and level two lower-case hex digits, code three'
unfoldable pub hex2 : ℕ → List ℕ
hex2 b = one (hex_digit (b / 16)) ++ one (hex_digit (b % 16))

unfoldable pub hex3 : ℕ → List ℕ
hex3 b = one (hex_digit (b / 256 % 16)) ++ (one (hex_digit (b / 16 % 16)) ++ one (hex_digit (b % 16)))

-- a line's letter and its stamp
unfoldable pub opening : ℕ → ℕ → List ℕ
opening letter stamp = one letter ++ (space ++ decimal stamp)

-- two hex digits after a space
unfoldable pub spaced : ℕ → List ℕ
spaced b = space ++ hex2 b

-- a voice's code and level
unfoldable pub voice : ℕ → ℕ → List ℕ
voice code level = space ++ (hex3 code ++ spaced level)

-- the room that a step of a player is given for its text: a line, after lines of bits that fade
abbrev pub text_room : ℕ
text_room = 512

-- none of these has more bytes, a line of bits that fade
abbrev pub fade_room : ℕ
fade_room = 26

-- and any other that `replay` prints
abbrev pub line_room : ℕ
line_room = 56

-- 'R stamp address read'; 82 is R
unfoldable pub read_line : ℕ → ℕ → ℕ → List ℕ
read_line stamp address value = opening 82 stamp ++ (spaced address ++ (spaced value ++ line_feed))

-- 'L stamp code level with code and level three times, voices 0 to 2'; 76 is L
unfoldable pub levels_line : ℕ → ℕ → ℕ → ℕ → ℕ → ℕ → ℕ → List ℕ
levels_line stamp code0 level0 code1 level1 code2 level2 =
    opening 76 stamp ++ (voice code0 level0 ++ (voice code1 level1 ++ (voice code2 level2 ++ line_feed)))

-- 'E clocks'; 69 is E
unfoldable pub end_line : ℕ → List ℕ
end_line clocks = opening 69 clocks ++ line_feed

-- document 02, request 5: 'F clock bits (decimal, two hex digits)'; 70 is F
unfoldable pub fade_line : ℕ → ℕ → List ℕ
fade_line clock bits = opening 70 clock ++ (spaced bits ++ line_feed)

-- the word refused, and a space
abbrev pub refused_word : List ℕ
refused_word = 114 ∷ 101 ∷ 102 ∷ 117 ∷ 115 ∷ 101 ∷ 100 ∷ 32 ∷ []

-- the word at, between spaces
abbrev pub at_word : List ℕ
at_word = 32 ∷ 97 ∷ 116 ∷ 32 ∷ []

-- 'refused number at place'
unfoldable pub refused_line : Told → List ℕ
refused_line t = refused_word ++ (decimal t.number ++ (at_word ++ (decimal t.place ++ line_feed)))
