-- Document 01's worked score, a score that watches, and the numbers 5 to 14, each with a small score that it is given
-- for. Assumes nothing.
use Rattle.std.specs.Prelude.{Ok, Err}
use mathlib.Core.List.{[], ◌∷◌, ◌++◌}
use mathlib.Core.Path.{◌≡◌, refl}
use Rattle.refusals.specs.Refusals.{numbered, tells}
use Rattle.words.specs.Words.{little, number_at}
use Rattle.score.specs.declared.What.TheVariants.{Write, Read, Levels, Watch, End}
use Rattle.score.specs.Fields.{len_of, what_of, stamped, field_at}
use Rattle.score.specs.Scores.{walk, score_of, checked}
use Rattle.score.specs.Stamps.{admit}

pub worked
    : score_of (
    (0x03 ∷ 0x04 ∷ 0x00 ∷ 0x00 ∷ 0x00 ∷ 0x00 ∷ 0x00 ∷ [])
    ++ (0x01 ∷ 0x06 ∷ 0x00 ∷ 0x00 ∷ 0x00 ∷ 0x00 ∷ 0x00 ∷ 0x00 ∷ 0x81 ∷ [])
    ++ (0x02 ∷ 0x05 ∷ 0x00 ∷ 0x0b ∷ 0x00 ∷ 0x00 ∷ 0x00 ∷ 0x00 ∷ [])
    ++ (0x02 ∷ 0x05 ∷ 0x00 ∷ 0x0c ∷ 0x00 ∷ 0x00 ∷ 0x00 ∷ 0x00 ∷ [])
    ++ (0x7f ∷ 0x04 ∷ 0x00 ∷ 0x0c ∷ 0x00 ∷ 0x00 ∷ 0x00 ∷ []))
    ≡ Ok (stamped 0 Levels ∷ stamped 0 (Write 0x00 0x81) ∷ stamped 11 (Read 0x00) ∷ stamped 12 (Read 0x00) ∷ stamped 12 End ∷ [])
unfolding score_of walk field_at len_of what_of admit number_at little
worked = refl

-- a watch shares the stamp of the write before it
pub watching
    : score_of (
    (0x01 ∷ 0x06 ∷ 0x00 ∷ 0x00 ∷ 0x00 ∷ 0x00 ∷ 0x00 ∷ 0x00 ∷ 0x81 ∷ [])
    ++ (0x04 ∷ 0x04 ∷ 0x00 ∷ 0x00 ∷ 0x00 ∷ 0x00 ∷ 0x00 ∷ [])
    ++ (0x02 ∷ 0x05 ∷ 0x00 ∷ 0x01 ∷ 0x00 ∷ 0x00 ∷ 0x00 ∷ 0x00 ∷ [])
    ++ (0x7f ∷ 0x04 ∷ 0x00 ∷ 0x01 ∷ 0x00 ∷ 0x00 ∷ 0x00 ∷ []))
    ≡ Ok (stamped 0 (Write 0x00 0x81) ∷ stamped 0 Watch ∷ stamped 1 (Read 0x00) ∷ stamped 1 End ∷ [])
unfolding score_of walk field_at len_of what_of admit number_at little
watching = refl

pub numbers
    : (tells (checked []) ≡ Err (numbered 11 0))
    × (tells (checked (0x7f ∷ 0x04 ∷ [])) ≡ Err (numbered 5 2))
    × (tells (checked (0x55 ∷ 0x04 ∷ [])) ≡ Err (numbered 5 2))
    × (tells (checked (0x00 ∷ 0x04 ∷ 0x00 ∷ [])) ≡ Err (numbered 6 0))
    × (tells (checked (0x7f ∷ 0x05 ∷ 0x00 ∷ [])) ≡ Err (numbered 7 0))
    × (tells (checked (0x04 ∷ 0x00 ∷ 0x00 ∷ [])) ≡ Err (numbered 7 0))
    × (tells (checked (0x7f ∷ 0x04 ∷ 0x00 ∷ [])) ≡ Err (numbered 12 3))
    × (tells (checked (0x7f ∷ 0x04 ∷ 0x00 ∷ 0x00 ∷ 0x00 ∷ 0x00 ∷ [])) ≡ Err (numbered 12 6))
    × (tells (checked (0x7f ∷ 0x04 ∷ 0x00 ∷ 0x00 ∷ 0xe1 ∷ 0xf5 ∷ 0x05 ∷ [])) ≡ Ok 100000000)
    × (tells (checked (0x7f ∷ 0x04 ∷ 0x00 ∷ 0x01 ∷ 0xe1 ∷ 0xf5 ∷ 0x05 ∷ [])) ≡ Err (numbered 8 0))
    × (tells (checked (0x03 ∷ 0x04 ∷ 0x00 ∷ 0x01 ∷ 0x00 ∷ 0x00 ∷ 0x00 ∷ 0x7f ∷ 0x04 ∷ 0x00 ∷ 0x00 ∷ 0x00 ∷ 0x00 ∷ 0x00 ∷ [])) ≡ Err (numbered 9 7))
    × (tells (checked (0x02 ∷ 0x05 ∷ 0x00 ∷ 0x00 ∷ 0x00 ∷ 0x00 ∷ 0x00 ∷ 0x1b ∷ 0x02 ∷ 0x05 ∷ 0x00 ∷ 0x00 ∷ 0x00 ∷ 0x00 ∷ 0x00 ∷ 0x1b ∷ [])) ≡ Err (numbered 14 8))
    × (tells (checked (0x7f ∷ 0x04 ∷ 0x00 ∷ 0x00 ∷ 0x00 ∷ 0x00 ∷ 0x00 ∷ 0x7f ∷ [])) ≡ Err (numbered 10 7))
    × (tells (checked (0x03 ∷ 0x04 ∷ 0x00 ∷ 0x00 ∷ 0x00 ∷ 0x00 ∷ 0x00 ∷ [])) ≡ Err (numbered 11 7))
unfolding checked score_of walk field_at len_of what_of admit number_at little
numbers = (refl, refl, refl, refl, refl, refl, refl, refl, refl, refl, refl, refl, refl, refl)
