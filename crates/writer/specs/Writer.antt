-- The writer of scores: document 02, 'Write scores from the tracker'.
use Rattle.std.specs.Prelude.{ℕ, ◌+◌, ◌-◌, false, cond, List, ltb, length, Result, Ok, Err}
use Rattle.std.proofs.lemmas.List.Edits.{sets}
use Rattle.refusals.specs.Refusals.{refused}
use Rattle.refusals.specs.declared.Refusal.{Refusal}
use Rattle.refusals.specs.declared.Refusal.TheVariants.{AfterEnd, ScoreLength, NoRoom}
use Rattle.refusals.specs.declared.Refused.{Refused}
use Rattle.score.specs.declared.Field.{Field}
use Rattle.score.specs.declared.Order.{Order}
use Rattle.score.specs.Fields.{is_end, written}
use Rattle.score.specs.Stamps.{unstamped, admit}
use Rattle.writer.specs.declared.Writer.{Writer}

-- before the first field
abbrev pub afresh : Writer
afresh = record { at = 0; order = unstamped; ended = false }

-- the writer after a field that was taken, or the refusal: a refused call leaves the writer that it was made with
abbrev pub Appended : Type 0
Appended = Result Writer Refused

-- 'Refusals, at the place reached'
abbrev pub refuse : Refusal → ℕ → Appended
refuse why place = Err (refused why place)

-- the writer after a field, o being the order after it
abbrev pub past : Writer → Field → Order → Writer
past w f o = record { at = w.at + length (written f); order = o; ended = is_end f.what }

-- a field that was admitted: '4 where the score would pass 65,536 bytes, 13 exactly where the room left is smaller than
-- the field', room being the buffer's length. A place beyond it has no room left
abbrev pub placed : ℕ → Writer → Field → Result Order Refusal → Appended
placed room w f (Err why) = refuse why w.at
placed room w f (Ok o) =
    cond (ltb 65536 (w.at + length (written f))) (refuse ScoreLength w.at)
    (cond (ltb (room - w.at) (length (written f))) (refuse NoRoom w.at)
    (Ok (past w f o)))

-- what a call answers: '10 after the end', then what `admit` refuses, 8, 9, 14
unfoldable pub appended : ℕ → Writer → Field → Appended
appended room w f = cond w.ended (refuse AfterEnd w.at) (placed room w f (admit w.order f))

-- the lent buffer afterwards: the field's bytes at the place, or, refused, 'buffer and place as before'
abbrev pub taken : List ℕ → Writer → Field → Appended → List ℕ
taken l w f (Ok _) = sets l w.at (written f)
taken l w f (Err _) = l

unfoldable pub buffered : List ℕ → Writer → Field → List ℕ
buffered l w f = taken l w f (appended (length l) w f)
