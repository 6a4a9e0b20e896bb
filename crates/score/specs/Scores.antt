-- A whole score: document 01, 'Score and program' and 'Numbers a caller can get back'.
use Rattle.std.specs.Prelude.{ℕ, zero, suc, true, false, cond, List, [], ◌∷◌, ◌≡◌, ltb, leb, length, Result, Ok, Err}
use Rattle.refusals.specs.Refusals.{refused}
use Rattle.refusals.specs.declared.Refusal.{Refusal}
use Rattle.refusals.specs.declared.Refusal.TheVariants.{ScoreLength, AfterEnd, NoEnd}
use Rattle.refusals.specs.declared.Refused.{Refused}
use Rattle.score.specs.declared.Field.{Field}
use Rattle.score.specs.declared.Order.{Order}
use Rattle.score.specs.Fields.{FieldRead, field_at, is_end}
use Rattle.score.specs.Stamps.{unstamped, admit}

-- the fields of an accepted score in file order, the end last; or the refusal
abbrev pub Parsed : Type 0
Parsed = Result (List Field) Refused

abbrev pub push : Field → Parsed → Parsed
push f (Ok fs) = Ok (f ∷ fs)
push f (Err r) = Err r

-- a field that ends before `next` and was admitted: '10 after an end field', else the rest of the score, `go` of the
-- next place and order
abbrev pub after_admit : (ℕ → Order → Parsed) → List ℕ → ℕ → Field → ℕ → Result Order Refusal → Parsed
after_admit go s at f next (Err why) = Err (refused why at)
after_admit go s at f next (Ok o) =
    cond (is_end f.what) (cond (ltb next (length s)) (Err (refused AfterEnd next)) (Ok (f ∷ []))) (push f (go next o))

-- a field that was read: '8, 9' and 14 next, at the tag
abbrev pub after_read : (ℕ → Order → Parsed) → List ℕ → ℕ → Order → FieldRead → Parsed
after_read go s at o (Err r) = Err r
after_read go s at o (Ok (f, next)) = after_admit go s at f next (admit o f)

-- the score from `at` on: 'field by field', '11 last'. The first argument lets the recursion end: it is more than the
-- bytes that are left, and each field takes some
unfoldable pub walk : ℕ → List ℕ → ℕ → Order → Parsed
walk zero s at o = Err (refused NoEnd (length s))
walk (suc n) s at o = cond (leb (length s) at) (Err (refused NoEnd (length s))) (after_read (walk n s) s at o (field_at s at))

-- '4 is first'
unfoldable pub score_of : List ℕ → Parsed
score_of s = cond (ltb 65536 (length s)) (Err (refused ScoreLength 0)) (walk (suc (length s)) s 0 unstamped)

-- the stamp of the end field
abbrev pub clocks_of : List Field → ℕ
clocks_of [] = 0
clocks_of (f ∷ fs) = cond (is_end f.what) f.stamp (clocks_of fs)

-- 'The score is checked whole before the first clock': what the check answers
abbrev pub answer : Parsed → Result ℕ Refused
answer (Ok fs) = Ok (clocks_of fs)
answer (Err r) = Err r

unfoldable pub checked : List ℕ → Result ℕ Refused
checked s = answer (score_of s)

-- the shape of an accepted score from `at` on: each field is read at its place and admitted, and the last alone is an
-- end, with nothing after it
pub data Chain (s : List ℕ) : ℕ → Order → List Field → Type 0 where
  ends
      : {at : ℕ} {o o' : Order} {f : Field}
      → field_at s at ≡ Ok (f, length s)
      → admit o f ≡ Ok o'
      → is_end f.what ≡ true
      → Chain s at o (f ∷ [])
  goes
      : {at : ℕ} {o : Order} {next : ℕ} {o' : Order} {f : Field} {fs : List Field}
      → field_at s at ≡ Ok (f, next)
      → admit o f ≡ Ok o'
      → is_end f.what ≡ false
      → Chain s next o' fs
      → Chain s at o (f ∷ fs)
