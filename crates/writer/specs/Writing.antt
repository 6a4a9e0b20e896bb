-- A score in the making: calls of the writer one after another, each with what the one before left.
use Rattle.std.specs.Prelude.{List, [], ◌∷◌, ℕ, length, Ok, Err}
use Rattle.score.specs.declared.Field.{Field}
use Rattle.writer.specs.declared.Writer.{Writer}
use Rattle.writer.specs.Writer.{Appended, afresh, appended, taken}

-- a writer and the buffer that it is lent
pub record Writing : Type 0 where
  pub writer : Writer
  pub buffer : List ℕ

-- before the first field
abbrev pub begun : List ℕ → Writing
begun l = record { writer = afresh; buffer = l }

-- what a call answers
abbrev pub answer_to : Writing → Field → Appended
answer_to d f = appended (length d.buffer) d.writer f

-- the writer that the caller goes on with
abbrev pub onward : Writer → Appended → Writer
onward w (Ok w') = w'
onward w (Err _) = w

abbrev pub answered : Writing → Field → Appended → Writing
answered d f a = record { writer = onward d.writer a; buffer = taken d.buffer d.writer f a }

-- after a call
abbrev pub called : Writing → Field → Writing
called d f = answered d f (answer_to d f)

-- after calls with these fields, one after another, whatever each was answered
unfoldable pub called_all : Writing → List Field → Writing
called_all d [] = d
called_all d (f ∷ fs) = called_all (called d f) fs

abbrev pub keep : Field → Appended → List Field → List Field
keep f (Ok _) fs = f ∷ fs
keep f (Err _) fs = fs

-- those of the fields that were taken, in order
unfoldable pub taken_of : Writing → List Field → List Field
taken_of d [] = []
taken_of d (f ∷ fs) = keep f (answer_to d f) (taken_of (called d f) fs)
