-- The line of a field of a score: `write STAMP ADDRESS VALUE`, `read STAMP ADDRESS`, `levels STAMP`, `watch STAMP`,
-- `end STAMP`.
use Rattle.std.specs.Prelude.{ℕ, List, [], ◌∷◌, ◌++◌}
use Rattle.score.specs.declared.Field.{Field}
use Rattle.score.specs.declared.What.{What}
use Rattle.score.specs.declared.What.TheVariants.{Write, Read, Levels, Watch, End}
use Rattle.listing.specs.Text.{space, line_feed, decimal}

-- a number after a space
unfoldable pub spaced_number : ℕ → List ℕ
spaced_number n = space ++ decimal n

-- write, read, levels, watch, end
unfoldable pub word_of : What → List ℕ
word_of (Write a v) = 119 ∷ 114 ∷ 105 ∷ 116 ∷ 101 ∷ []
word_of (Read a) = 114 ∷ 101 ∷ 97 ∷ 100 ∷ []
word_of Levels = 108 ∷ 101 ∷ 118 ∷ 101 ∷ 108 ∷ 115 ∷ []
word_of Watch = 119 ∷ 97 ∷ 116 ∷ 99 ∷ 104 ∷ []
word_of End = 101 ∷ 110 ∷ 100 ∷ []

-- what follows the stamp
unfoldable pub operands : What → List ℕ
operands (Write a v) = spaced_number a ++ spaced_number v
operands (Read a) = spaced_number a
operands Levels = []
operands Watch = []
operands End = []

-- a field's line without its line feed
unfoldable pub field_text : Field → List ℕ
field_text f = word_of f.what ++ (spaced_number f.stamp ++ operands f.what)

unfoldable pub field_line : Field → List ℕ
field_line f = field_text f ++ line_feed
