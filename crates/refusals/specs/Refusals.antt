-- Document 01, 'Numbers a caller can get back', as document 02 amends it: the number of each refusal, in their words.
-- Every promise of a number cites it. Of 4, 8, 9, 10 and 14 the place is a check's; a writer's is the place reached.
use Rattle.std.specs.Prelude.{ℕ, Result, Ok, Err}
use Rattle.refusals.specs.declared.Refused.{Refused}
use Rattle.refusals.specs.declared.Refusal.{Refusal}
use Rattle.refusals.specs.declared.Refusal.TheVariants.{NoTable, TableLength, VoiceNumber, ScoreLength, HeaderCut, UnknownTag, FieldLength, StampTooLate, StampFalls, AfterEnd, NoEnd, ValueCut, NoRoom, StampUsed, PackLength, Unsettled}

abbrev pub number_of : Refusal → ℕ
-- table for a selection above 15 or with under two bits; place 0
number_of NoTable = 1
-- table part not 4096 entries; place 0
number_of TableLength = 2
-- voice number above 2; place 0
number_of VoiceNumber = 3
-- score over 65,536 bytes; place 0
number_of ScoreLength = 4
-- document 02: cut header; place: the first missing byte, the score's length
number_of HeaderCut = 5
-- unknown tag; place: the tag
number_of UnknownTag = 6
-- length not the tag's; place: the tag
number_of FieldLength = 7
-- stamp over 100,000,000; place: the tag
number_of StampTooLate = 8
-- stamp below the field before; place: the tag
number_of StampFalls = 9
-- bytes after the end field; place: the first such byte
number_of AfterEnd = 10
-- no end field, empty score included; place: the score's length
number_of NoEnd = 11
-- document 02: cut value; place: the first missing byte, the score's length
number_of ValueCut = 12
-- document 02: room too small; place: the place reached in a buffer that is filled call by call, else 0
number_of NoRoom = 13
-- document 02: access on a used stamp; place: the tag
number_of StampUsed = 14
-- document 02: pack not 45,056 entries; place 0
number_of PackLength = 15
-- document 02: forecast wanted of a voice not in settled release; place 0
number_of Unsettled = 19

-- a refusal at its place
abbrev pub refused : Refusal → ℕ → Refused
refused why place = record { why = why; place = place }

-- what a refused call gives back: the table's 'No.' and 'Place'
pub record Told : Type 0 where
  pub number : ℕ
  pub place : ℕ

abbrev pub numbered : ℕ → ℕ → Told
numbered number place = record { number = number; place = place }

-- number and place of a refusal
abbrev pub told : Refused → Told
told r = numbered (number_of r.why) r.place

-- what a call tells that can be refused: what was asked for, or number and place of its refusal
abbrev pub tells : {A : Type 0} → Result A Refused → Result A Told
tells (Ok x) = Ok x
tells (Err r) = Err (told r)
