-- Document 01, 'Numbers a caller can get back', rows 4 to 11, and document 02's 12 and 14, in plain numbers: what each
-- is given for, at which place. `given_exactly` holds the check to them.
use Rattle.std.specs.Prelude.{ℕ, ◌+◌, ◌-◌, ◌≤◌, ◌<◌, Bool, true, cond, ◌||◌, List, ◌≡◌, ltb, eqb, length, drop, take, Result, Ok, Err}
use Rattle.refusals.specs.Refusals.{numbered, Told, tells}
use Rattle.words.specs.Words.{number_at}
use Rattle.score.specs.declared.Field.{Field}
use Rattle.score.specs.declared.Order.{Order}
use Rattle.score.specs.Fields.{tag_at, said_at, len_at, after_at}
use Rattle.score.specs.Scores.{clocks_of, checked, Chain}
use Rattle.score.specs.Stamps.{unstamped}

-- 'stamp in 4 bytes': the first four after the header
abbrev pub stamp_at : List ℕ → ℕ → ℕ
stamp_at s at = number_at 4 (drop (at + 3) s) 0

-- 'a write or read', by its tag
abbrev pub access_at : List ℕ → ℕ → Bool
access_at s at = eqb (tag_at s at) 0x01 || eqb (tag_at s at) 0x02

-- the order after the field at a place: its stamp, and the first stamp that is above every access so far
abbrev pub order_at : List ℕ → ℕ → Order → Order
order_at s at o = record { last = stamp_at s at; free = cond (access_at s at) (stamp_at s at + 1) o.free }

-- the field at a place is past '5 for the header, 6, 7' and 12 for the value
pub record Whole (s : List ℕ) (at : ℕ) : Type 0 where
  pub known : len_at s at ≡ 0 → ⊥
  pub says : said_at s at ≡ len_at s at
  pub fits : after_at s at ≤ length s

-- its stamp is past '8, 9' and 14, o being the order after the field before
pub record Timely (s : List ℕ) (at : ℕ) (o : Order) : Type 0 where
  pub not_over : stamp_at s at ≤ 100000000
  pub not_below : o.last ≤ stamp_at s at
  pub not_used : access_at s at ≡ true → o.free ≤ stamp_at s at

-- '4 is first, then field by field': every field before `at` is past all this, none is an end, and o is the order after
pub data Prefix (s : List ℕ) : ℕ → Order → Type 0 where
  none : length s ≤ 65536 → Prefix s 0 unstamped
  more
      : {at : ℕ} {o : Order}
      → Prefix s at o
      → Whole s at
      → Timely s at o
      → (tag_at s at ≡ 0x7f → ⊥)
      → Prefix s (after_at s at) (order_at s at o)

-- the table in the order of refusals, `Given s number place`; each row with what 01, or 02, says of it, and its place
pub data Given (s : List ℕ) : ℕ → ℕ → Type 0 where
  -- 'score over 65,536 bytes', 0
  row_4 : 65536 < length s → Given s 4 0
  -- 'cut header', score length
  row_5 : {at : ℕ} {o : Order} → Prefix s at o → at < length s → length s < at + 3 → Given s 5 (length s)
  -- 'unknown tag', tag
  row_6 : {at : ℕ} {o : Order} → Prefix s at o → at + 3 ≤ length s → len_at s at ≡ 0 → Given s 6 at
  -- 'length not the tag's', tag
  row_7 : {at : ℕ} {o : Order} → Prefix s at o → at + 3 ≤ length s → (len_at s at ≡ 0 → ⊥) → (said_at s at ≡ len_at s at → ⊥) → Given s 7 at
  -- 'cut value', score length
  row_12
      : {at : ℕ} {o : Order}
      → Prefix s at o
      → at + 3 ≤ length s
      → (len_at s at ≡ 0 → ⊥)
      → said_at s at ≡ len_at s at
      → length s < after_at s at
      → Given s 12 (length s)
  -- 'stamp over 100,000,000', tag
  row_8 : {at : ℕ} {o : Order} → Prefix s at o → Whole s at → 100000000 < stamp_at s at → Given s 8 at
  -- 'stamp below the field before', tag
  row_9 : {at : ℕ} {o : Order} → Prefix s at o → Whole s at → stamp_at s at ≤ 100000000 → stamp_at s at < o.last → Given s 9 at
  -- 'access on a used stamp', tag
  row_14
      : {at : ℕ} {o : Order}
      → Prefix s at o
      → Whole s at
      → stamp_at s at ≤ 100000000
      → o.last ≤ stamp_at s at
      → access_at s at ≡ true
      → stamp_at s at < o.free
      → Given s 14 at
  -- 'bytes after the end field', first such byte
  row_10
      : {at : ℕ} {o : Order}
      → Prefix s at o
      → Whole s at
      → Timely s at o
      → tag_at s at ≡ 0x7f
      → after_at s at < length s
      → Given s 10 (after_at s at)
  -- 'no end field, empty score included', score length
  row_11 : {o : Order} → Prefix s (length s) o → Given s 11 (length s)

-- an accepted score, and its clocks: the stamp of the end
pub record Chained (s : List ℕ) (clocks : ℕ) : Type 0 where
  pub short : length s ≤ 65536
  pub fields : List Field
  pub chain : Chain s 0 unstamped fields
  pub stamp : clocks_of fields ≡ clocks

-- what document 01 says where the check tells this: the clocks of an accepted score, or the number and the place
abbrev pub Judged : List ℕ → Result ℕ Told → Type 0
Judged s (Ok clocks) = Chained s clocks
Judged s (Err t) = Given s t.number t.place

-- 'which half of the field is missing', so many of its bytes being there: 11 if none, 5 in its header, 12 in its value
unfoldable pub missing : ℕ → ℕ
missing there = cond (eqb there 0) 11 (cond (ltb there 3) 5 12)

-- what the first n bytes of a score are answered: they end before or in the field at `tag`, and are refused at the cut
pub record Cut (s : List ℕ) (n : ℕ) : Type 0 where
  pub tag : ℕ
  pub order : Order
  pub before : Prefix s tag order
  pub whole : Whole s tag
  pub begins : tag ≤ n
  pub ends : n < after_at s tag
  pub told : tells (checked (take n s)) ≡ Err (numbered (missing (n - tag)) n)
