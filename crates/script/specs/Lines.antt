-- The lines of a text, and the field whose line one is.
use Rattle.std.specs.Prelude.{ℕ, ◌+◌, ◌^◌, ◌<◌, cond, List, ◌++◌, ◌≡◌, ◌==◌, ltb, leb, eqb, length, get_or, drop, Option, Some, None}
use Rattle.std.specs.List.{position_or_len}
use Rattle.score.specs.declared.Field.{Field}
use Rattle.score.specs.declared.What.{What}
use Rattle.score.specs.declared.What.TheVariants.{Write, Read, Levels, Watch, End}
use Rattle.score.specs.Fields.{stamped}
use Rattle.listing.specs.Text.{line_feed}
use Rattle.listing.specs.FieldText.{field_line}
use Rattle.script.specs.declared.Number.{Number}
use Rattle.script.specs.Numbers.{number_at}

-- the index of the first b; the list's length where there is none
abbrev pub index_of : ℕ → List ℕ → ℕ
index_of b l = position_or_len (λ x. x == b) l

-- the place of the first line feed, which is 10, at or after a place; the text's length where none is
unfoldable pub line_end : List ℕ → ℕ → ℕ
line_end text at = cond (leb (length text) at) (length text) (at + index_of 10 (drop at text))

-- ---- which field's line a line is

-- the numbers of a field fit their types
abbrev pub FitsWhat : What → Type 0
FitsWhat (Write a v) = (a < 256) × (v < 256)
FitsWhat (Read a) = a < 256
FitsWhat Levels = Unit
FitsWhat Watch = Unit
FitsWhat End = Unit

pub record Fits (f : Field) : Type 0 where
  pub stamp : f.stamp < 2 ^ 32
  pub what : FitsWhat f.what

-- l, without its line feed, is the line of f
pub record LineOf (f : Field) (l : List ℕ) : Type 0 where
  pub fits : Fits f
  pub line : l ++ line_feed ≡ field_line f

-- what is answered of a line: the field whose line it is, or that it is no field's
abbrev pub Reads : List ℕ → Option Field → Type 0
Reads l (Some f) = LineOf f l
Reads l None = (f : Field) → LineOf f l → ⊥

-- ---- the one field whose line a line may be

-- the number after the one byte at a place
unfoldable pub number_after : ℕ → List ℕ → ℕ → Option Number
number_after limit l at = cond (ltb at (length l)) (number_at limit l (at + 1)) None

-- what the number found says, where one is found
abbrev pub then : Option Number → (Number → Option Field) → Option Field
then None go = None
then (Some r) go = go r

-- the numbers after a word of so many letters
unfoldable pub write_in : List ℕ → Option Field
write_in l =
    then (number_after 0xffff_ffff l 5) (λ stamp.
    then (number_after 255 l stamp.next) (λ address.
    then (number_after 255 l address.next) (λ value.
    Some (stamped stamp.value (Write address.value value.value)))))

unfoldable pub read_in : List ℕ → Option Field
read_in l =
    then (number_after 0xffff_ffff l 4) (λ stamp.
    then (number_after 255 l stamp.next) (λ address.
    Some (stamped stamp.value (Read address.value))))

unfoldable pub bare_in : List ℕ → ℕ → What → Option Field
bare_in l letters what = then (number_after 0xffff_ffff l letters) (λ stamp. Some (stamped stamp.value what))

-- by the third letter, in which all words differ: 105 is i, 97 a, 118 v, 116 t
unfoldable pub meant : List ℕ → Option Field
meant l =
    cond (eqb (get_or l 2 0) 105) (write_in l)
    (cond (eqb (get_or l 2 0) 97) (read_in l)
    (cond (eqb (get_or l 2 0) 118) (bare_in l 6 Levels)
    (cond (eqb (get_or l 2 0) 116) (bare_in l 5 Watch)
    (bare_in l 3 End))))
