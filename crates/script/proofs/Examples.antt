-- Numbers at a place, both sides of each edge; the ends of lines. Assumes nothing.
use Rattle.std.specs.Prelude.{Some, None}
use mathlib.Core.List.{[], ◌∷◌}
use mathlib.Core.Path.{◌≡◌, refl}
use Rattle.script.specs.Numbers.{number, more, number_of, number_at}
use Rattle.script.specs.Lines.{line_end}

-- after an x: 255, 256, 0, 00, 07, +7, nothing
pub numbers
    : (number_at 255 (120 ∷ 50 ∷ 53 ∷ 53 ∷ 32 ∷ []) 1 ≡ Some (number 255 4))
    × (number_at 255 (120 ∷ 50 ∷ 53 ∷ 54 ∷ 32 ∷ []) 1 ≡ None)
    × (number_at 255 (120 ∷ 48 ∷ []) 1 ≡ Some (number 0 2))
    × (number_at 255 (120 ∷ 48 ∷ 48 ∷ []) 1 ≡ None)
    × (number_at 255 (120 ∷ 48 ∷ 55 ∷ []) 1 ≡ None)
    × (number_at 255 (120 ∷ 43 ∷ 55 ∷ []) 1 ≡ None)
    × (number_at 255 (120 ∷ []) 1 ≡ None)
unfolding number_at number_of more
numbers = (refl, refl, refl, refl, refl, refl, refl)

-- of a text of two lines, the second without its line feed, at each place and past the end
pub ends
    : (line_end (120 ∷ 10 ∷ 121 ∷ []) 0 ≡ 1)
    × (line_end (120 ∷ 10 ∷ 121 ∷ []) 1 ≡ 1)
    × (line_end (120 ∷ 10 ∷ 121 ∷ []) 2 ≡ 3)
    × (line_end (120 ∷ 10 ∷ 121 ∷ []) 9 ≡ 3)
unfolding line_end
ends = (refl, refl, refl, refl)
