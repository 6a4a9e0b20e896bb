-- A field of a score: document 01, 'Score and program' and 'Numbers a caller can get back', as document 02 amends it.
use Rattle.std.specs.Prelude.{ℕ, ◌+◌, Bool, true, false, cond, not, List, [], ◌∷◌, ◌++◌, ltb, eqb, length, drop, Option, Some, None, Result, Ok, Err}
use Rattle.refusals.specs.Refusals.{refused}
use Rattle.refusals.specs.declared.Refusal.{Refusal}
use Rattle.refusals.specs.declared.Refusal.TheVariants.{HeaderCut, UnknownTag, FieldLength, ValueCut}
use Rattle.refusals.specs.declared.Refused.{Refused}
use Rattle.words.specs.Words.{number_at, bytes_of}
use Rattle.score.specs.declared.Field.{Field}
use Rattle.score.specs.declared.What.{What}
use Rattle.score.specs.declared.What.TheVariants.{Write, Read, Levels, Watch, End}

-- '0x01 write, length 6', '0x02 read, length 5', '0x03 levels, length 4', '0x7f end, length 4', and 02's '0x04, length
-- 4, with a stamp'; 0 of an unknown tag
unfoldable pub len_of : ℕ → ℕ
len_of tag = cond (eqb tag 0x01) 6 (cond (eqb tag 0x02) 5 (cond (eqb tag 0x03) 4 (cond (eqb tag 0x04) 4 (cond (eqb tag 0x7f) 4 0))))

abbrev pub stamped : ℕ → What → Field
stamped stamp what = record { stamp = stamp; what = what }

-- what a known tag asks for, and its field, v beginning with its value: 'stamp in 4 bytes, address, value'
unfoldable pub what_of : ℕ → List ℕ → What
what_of tag v =
    cond (eqb tag 0x01) (Write (number_at 1 v 4) (number_at 1 v 5))
    (cond (eqb tag 0x02) (Read (number_at 1 v 4)) (cond (eqb tag 0x03) Levels (cond (eqb tag 0x04) Watch End)))

-- what a tag asks for, where it is known
abbrev pub known_what : ℕ → List ℕ → Option What
known_what tag v = cond (eqb (len_of tag) 0) None (Some (what_of tag v))

abbrev pub value_of : ℕ → List ℕ → Field
value_of tag v = stamped (number_at 4 v 0) (what_of tag v)

-- a field and the place after it, or the refusal
abbrev pub FieldRead : Type 0
FieldRead = Result (Field × ℕ) Refused

abbrev pub refuse : Refusal → ℕ → FieldRead
refuse why place = Err (refused why place)

-- 'one-byte tag, two-byte length', then the value: the tag at a place, the length that the header says, the length that
-- the tag asks for, the field of a known tag, the place after it
abbrev pub tag_at : List ℕ → ℕ → ℕ
tag_at s at = number_at 1 s at

abbrev pub said_at : List ℕ → ℕ → ℕ
said_at s at = number_at 2 s (at + 1)

abbrev pub len_at : List ℕ → ℕ → ℕ
len_at s at = len_of (tag_at s at)

abbrev pub value_at : List ℕ → ℕ → Field
value_at s at = value_of (tag_at s at) (drop (at + 3) s)

abbrev pub after_at : List ℕ → ℕ → ℕ
after_at s at = at + 3 + len_at s at

-- the field at a place and the place after it; or '5 for the header, 6, 7', and 02's 12, which 'stands where 5 for the
-- value stood'. 6 and 7 are at the tag; 5 and 12 'name the first missing byte, which is the score's length'
unfoldable pub field_at : List ℕ → ℕ → FieldRead
field_at s at =
    cond (ltb (length s) (at + 3)) (refuse HeaderCut (length s))
    (cond (eqb (len_at s at) 0) (refuse UnknownTag at)
    (cond (not (eqb (said_at s at) (len_at s at))) (refuse FieldLength at)
    (cond (ltb (length s) (after_at s at)) (refuse ValueCut (length s))
    (Ok (value_at s at, after_at s at)))))

abbrev pub tag_of : What → ℕ
tag_of (Write a v) = 0x01
tag_of (Read a) = 0x02
tag_of Levels = 0x03
tag_of Watch = 0x04
tag_of End = 0x7f

abbrev pub is_end : What → Bool
is_end (Write a v) = false
is_end (Read a) = false
is_end Levels = false
is_end Watch = false
is_end End = true

-- document 02: 'a write or read'. No other field is an access
abbrev pub is_access : What → Bool
is_access (Write a v) = true
is_access (Read a) = true
is_access Levels = false
is_access Watch = false
is_access End = false

-- what follows the stamp
abbrev pub rest_of : What → List ℕ
rest_of (Write a v) = a ∷ v ∷ []
rest_of (Read a) = a ∷ []
rest_of Levels = []
rest_of Watch = []
rest_of End = []

-- a field's bytes
unfoldable pub written : Field → List ℕ
written f = tag_of f.what ∷ (bytes_of 2 (len_of (tag_of f.what)) ++ (bytes_of 4 f.stamp ++ rest_of f.what))

-- the bytes of fields, one after the other
unfoldable pub all_written : List Field → List ℕ
all_written [] = []
all_written (f ∷ fs) = written f ++ all_written fs
