-- Number and place tell which refusal it is: a promise of them determines what a refused call answers. Assumes nothing.
use Prim.Native.Nat.{ℕ, ◌-◌}
use Rattle.std.proofs.Common.{Result, Ok, Err}
use mathlib.Core.Path.{◌≡◌, refl, ap, sym, ◌∙◌}
use mathlib.Core.List.{[], ◌∷◌}
use lib.ListN.{get_or}
use Rattle.refusals.specs.declared.Refusal.{Refusal}
use Rattle.refusals.specs.declared.Refusal.TheVariants.{NoTable, TableLength, VoiceNumber, ScoreLength, HeaderCut, UnknownTag, FieldLength, StampTooLate, StampFalls, AfterEnd, NoEnd, ValueCut, NoRoom, StampUsed, PackLength, Unsettled}
use Rattle.refusals.specs.declared.Refused.{Refused}
use Rattle.refusals.specs.Refusals.{number_of, refused, Told, told, tells}

named : ℕ → Refusal
named n =
    get_or (NoTable ∷ TableLength ∷ VoiceNumber ∷ ScoreLength ∷ HeaderCut ∷ UnknownTag ∷ FieldLength ∷ StampTooLate ∷ StampFalls ∷ AfterEnd ∷ NoEnd ∷ ValueCut ∷ NoRoom ∷ StampUsed ∷ PackLength ∷ []) (n - 1) Unsettled

named_number : (r : Refusal) → named (number_of r) ≡ r
unfolding named
named_number NoTable = refl
named_number TableLength = refl
named_number VoiceNumber = refl
named_number ScoreLength = refl
named_number HeaderCut = refl
named_number UnknownTag = refl
named_number FieldLength = refl
named_number StampTooLate = refl
named_number StampFalls = refl
named_number AfterEnd = refl
named_number NoEnd = refl
named_number ValueCut = refl
named_number NoRoom = refl
named_number StampUsed = refl
named_number PackLength = refl
named_number Unsettled = refl

pub number_tells : (a b : Refusal) → number_of a ≡ number_of b → a ≡ b
number_tells a b e = sym (named_number a) ∙ ap named e ∙ named_number b

pub untold : Told → Refused
untold t = refused (named t.number) t.place

pub untold_told : (r : Refused) → untold (told r) ≡ r
unfolding untold
untold_told r = ap (λ (why : Refusal). refused why r.place) (named_number r.why)

pub told_tells : (a b : Refused) → told a ≡ told b → a ≡ b
told_tells a b e = sym (untold_told a) ∙ ap untold e ∙ untold_told b

-- so two answers that tell the same are equal, whatever was asked for
module _ {A : Type 0} where
  untell : Result A Told → Result A Refused
  untell (Ok x) = Ok x
  untell (Err t) = Err (untold t)

  untell_tells : (a : Result A Refused) → untell (tells a) ≡ a
  unfolding untell
  untell_tells (Ok x) = refl
  untell_tells (Err r) = ap Err (untold_told r)

  pub tells_tells : (a b : Result A Refused) → tells a ≡ tells b → a ≡ b
  tells_tells a b e = sym (untell_tells a) ∙ ap untell e ∙ untell_tells b
