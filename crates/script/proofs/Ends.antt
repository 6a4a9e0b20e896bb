-- A line that begins in a text ends there (`end_bounds`). A field's line that stands in a text ends where the field's
-- text does (`line_ends`), so that what stands up to there is the field's line (`line_there`). Assumes nothing.
use Prim.Native.Nat.{ℕ, zero, suc, ◌+◌, ◌-◌, ◌/◌, ◌≤◌, ◌<◌}
use native.Mathlib.Omega.{arith}
use mathlib.Core.Bool.{Bool, true, false, not}
use Rattle.std.proofs.Common.{◌==◌}
use mathlib.Core.List.{List, [], ◌∷◌, ◌++◌, append_assoc}
use mathlib.Core.Path.{◌≡◌, refl, ap, sym, subst, ◌∙◌}
use lib.Dec.{ltb}
use lib.ListN.{length, take, drop, length-append, length-drop}
use lib.Seq.{take_at}
use borrow.Author.Tests.{ne_eqb, lt-leb, ltb-true, ltb-false}
use Rattle.std.proofs.lemmas.List.Sums.{prefix_len-le-length}
use Rattle.score.specs.declared.Field.{Field}
use Rattle.score.specs.declared.What.{What}
use Rattle.score.specs.declared.What.TheVariants.{Write, Read, Levels, Watch, End}
use Rattle.listing.specs.Text.{line_feed, decimal, last_digit}
use Rattle.listing.specs.FieldText.{spaced_number, word_of, operands, field_text, field_line}
use Rattle.listing.proofs.Joins.{decimal_one, decimal_more}
use Rattle.script.specs.Lines.{index_of, line_end, Fits, LineOf}

pub index_le : (b : ℕ) (l : List ℕ) → index_of b l ≤ length l
index_le b l = prefix_len-le-length (λ x. not (x == b)) l

pub end_bounds : (text : List ℕ) (at : ℕ) → at < length text → (at ≤ line_end text at) × (line_end text at ≤ length text)
unfolding line_end
end_bounds text at h = simp (lt-leb (length text) at h) (omega arith, omega (arith, index_le 10 (drop at text), length-drop at text))

-- no byte is a line feed
abbrev Plain : List ℕ → Type 0
Plain [] = Unit
Plain (b ∷ l) = (b ≡ 10 → ⊥) × Plain l

plain_join : (xs ys : List ℕ) → Plain xs → Plain ys → Plain (xs ++ ys)
plain_join [] ys p q = q
plain_join (x ∷ xs) ys p q = (p.0, plain_join xs ys p.1 q)

plain_index : (xs ys : List ℕ) → Plain xs → index_of 10 (xs ++ (10 ∷ ys)) ≡ length xs
plain_index [] ys p = refl
plain_index (x ∷ xs) ys p = simp (ne_eqb x 10 p.0) (omega (arith, plain_index xs ys p.1))

plain_decimal : (k n : ℕ) → n < k → Plain (decimal n)
plain_decimal zero n h = absurd (omega arith)
plain_decimal (suc k) n h = go (ltb n 10) refl (plain_decimal k (n / 10))
  where
    last : Plain (last_digit n)
    last = (λ z. omega arith, tt)

    go : (b : Bool) → ltb n 10 ≡ b → (n / 10 < k → Plain (decimal (n / 10))) → Plain (decimal n)
    go true e f = subst Plain (sym (decimal_one n (ltb-true n 10 e))) last
    go false e f =
        let big = ltb-false n 10 e in
        subst Plain (sym (decimal_more n big)) (plain_join (decimal (n / 10)) (last_digit n) (f (omega arith)) last)

plain_spaced : (n : ℕ) → Plain (spaced_number n)
unfolding spaced_number
plain_spaced n = (λ z. omega arith, plain_decimal (suc n) n (omega arith))

plain_word : (w : What) → Plain (word_of w)
unfolding word_of
plain_word (Write a v) = omega arith
plain_word (Read a) = omega arith
plain_word Levels = omega arith
plain_word Watch = omega arith
plain_word End = omega arith

plain_operands : (w : What) → Plain (operands w)
unfolding operands
plain_operands (Write a v) = plain_join (spaced_number a) (spaced_number v) (plain_spaced a) (plain_spaced v)
plain_operands (Read a) = plain_spaced a
plain_operands Levels = tt
plain_operands Watch = tt
plain_operands End = tt

plain_text : (f : Field) → Plain (field_text f)
unfolding field_text
plain_text f =
    let stamp = plain_join (spaced_number f.stamp) (operands f.what) (plain_spaced f.stamp) (plain_operands f.what) in
    plain_join (word_of f.what) (spaced_number f.stamp ++ operands f.what) (plain_word f.what) stamp

module _ (f : Field) (text : List ℕ) (at : ℕ) (rest : List ℕ) (there : drop at text ≡ field_line f ++ rest) where
  parts : drop at text ≡ field_text f ++ (10 ∷ rest)
  unfolding field_line
  parts = there ∙ append_assoc (field_text f) line_feed rest

  pub line_ends : line_end text at ≡ at + length (field_text f)
  unfolding line_end
  line_ends =
      let h : at < length text = omega (arith, length-drop at text, ap length parts, length-append (field_text f) (10 ∷ rest)) in
      simp (lt-leb (length text) at h) (ap (λ (k : ℕ). at + k) (ap (index_of 10) parts ∙ plain_index (field_text f) rest (plain_text f)))

  pub line_there : Fits f → LineOf f (take (line_end text at - at) (drop at text))
  unfolding field_line
  line_there fits =
      let q : line_end text at - at ≡ length (field_text f) = omega (arith, line_ends) in
      let is : take (line_end text at - at) (drop at text) ≡ field_text f = rw (q, parts) (take_at (field_text f) (10 ∷ rest) (length (field_text f)) refl) in
      record { fits = fits; line = ap (λ (x : List ℕ). x ++ line_feed) is }
