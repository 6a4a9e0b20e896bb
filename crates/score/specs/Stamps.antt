-- The rules on a field's stamp, for whoever reads or writes fields: document 01, 'Score and program' and 'Numbers a
-- caller can get back', as document 02 amends it.
use Rattle.std.specs.Prelude.{◌+◌, Bool, true, false, cond, ◌&&◌, List, [], ◌∷◌, ◌≡◌, ltb, Result, Ok, Err}
use Rattle.refusals.specs.declared.Refusal.{Refusal}
use Rattle.refusals.specs.declared.Refusal.TheVariants.{StampTooLate, StampFalls, StampUsed}
use Rattle.score.specs.declared.Field.{Field}
use Rattle.score.specs.declared.Order.{Order}
use Rattle.score.specs.Fields.{is_end, is_access}

-- before the first field; `free` is the first stamp that is above every access before, so 0 says that there was none
abbrev pub unstamped : Order
unstamped = record { last = 0; free = 0 }

-- the order after a field
abbrev pub following : Order → Field → Order
following o f = record { last = f.stamp; free = cond (is_access f.what) (f.stamp + 1) o.free }

-- document 02: 'a write or read must carry a stamp above that of the write or read before it'. 'Levels and the end may
-- share a stamp with anything', and so may a watch: 'The field may share a stamp'
abbrev pub used : Order → Field → Bool
used o f = is_access f.what && ltb f.stamp o.free

-- '8, 9': 'stamp over 100,000,000', 'stamp below the field before', then 02's 14, 'access on a used stamp', 'checked
-- after 9'. 'Stamps never fall'
unfoldable pub admit : Order → Field → Result Order Refusal
admit o f =
    cond (ltb 100000000 f.stamp) (Err StampTooLate)
    (cond (ltb f.stamp o.last) (Err StampFalls) (cond (used o f) (Err StampUsed) (Ok (following o f))))

-- fields that make a score: each is admitted after the one before it, and the last alone is an end
pub data InOrder : Order → List Field → Type 0 where
  closed : {o o' : Order} {f : Field} → admit o f ≡ Ok o' → is_end f.what ≡ true → InOrder o (f ∷ [])
  opened : {o o' : Order} {f : Field} {fs : List Field} → admit o f ≡ Ok o' → is_end f.what ≡ false → InOrder o' fs → InOrder o (f ∷ fs)
