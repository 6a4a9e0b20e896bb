-- The lines of document 01's worked score, a refusal's, and those of fields, are these bytes. Assumes nothing.
use mathlib.Core.List.{[], ◌∷◌}
use mathlib.Core.Path.{◌≡◌, refl}
use Rattle.refusals.specs.Refusals.{refused, told}
use Rattle.refusals.specs.declared.Refusal.TheVariants.{NoEnd}
use Rattle.score.specs.declared.What.TheVariants.{Write, Watch, End}
use Rattle.score.specs.Fields.{stamped}
use Rattle.listing.specs.FieldText.{spaced_number, word_of, operands, field_text, field_line}
use Rattle.listing.specs.Text.{digits, decimal, hex_digit, hex2, hex3, opening, spaced, voice, read_line, levels_line, end_line, refused_line}

-- L 0 000 aa 000 aa 000 aa
pub levels : levels_line 0 0x000 0xaa 0x000 0xaa 0x000 0xaa ≡ 76 ∷ 32 ∷ 48 ∷ 32 ∷ 48 ∷ 48 ∷ 48 ∷ 32 ∷ 97 ∷ 97 ∷ 32 ∷ 48 ∷ 48 ∷ 48 ∷ 32 ∷ 97 ∷ 97 ∷ 32 ∷ 48 ∷ 48 ∷ 48 ∷ 32 ∷ 97 ∷ 97 ∷ 10 ∷ []
unfolding levels_line opening voice spaced hex2 hex3 hex_digit decimal digits
levels = refl

-- R 11 00 81
pub read_11 : read_line 11 0x00 0x81 ≡ 82 ∷ 32 ∷ 49 ∷ 49 ∷ 32 ∷ 48 ∷ 48 ∷ 32 ∷ 56 ∷ 49 ∷ 10 ∷ []
unfolding read_line opening spaced hex2 hex_digit decimal digits
read_11 = refl

-- R 12 00 80
pub read_12 : read_line 12 0x00 0x80 ≡ 82 ∷ 32 ∷ 49 ∷ 50 ∷ 32 ∷ 48 ∷ 48 ∷ 32 ∷ 56 ∷ 48 ∷ 10 ∷ []
unfolding read_line opening spaced hex2 hex_digit decimal digits
read_12 = refl

-- E 12
pub end : end_line 12 ≡ 69 ∷ 32 ∷ 49 ∷ 50 ∷ 10 ∷ []
unfolding end_line opening decimal digits
end = refl

-- refused 11 at 65536
pub refused_11 : refused_line (told (refused NoEnd 65536)) ≡ 114 ∷ 101 ∷ 102 ∷ 117 ∷ 115 ∷ 101 ∷ 100 ∷ 32 ∷ 49 ∷ 49 ∷ 32 ∷ 97 ∷ 116 ∷ 32 ∷ 54 ∷ 53 ∷ 53 ∷ 51 ∷ 54 ∷ 10 ∷ []
unfolding refused_line decimal digits
refused_11 = refl

-- write 10 24 129
pub write_10 : field_line (stamped 10 (Write 24 129)) ≡ 119 ∷ 114 ∷ 105 ∷ 116 ∷ 101 ∷ 32 ∷ 49 ∷ 48 ∷ 32 ∷ 50 ∷ 52 ∷ 32 ∷ 49 ∷ 50 ∷ 57 ∷ 10 ∷ []
unfolding field_line field_text word_of spaced_number operands decimal digits
write_10 = refl

-- watch 10
pub watch_10 : field_line (stamped 10 Watch) ≡ 119 ∷ 97 ∷ 116 ∷ 99 ∷ 104 ∷ 32 ∷ 49 ∷ 48 ∷ 10 ∷ []
unfolding field_line field_text word_of spaced_number operands decimal digits
watch_10 = refl

-- end 12
pub end_12 : field_line (stamped 12 End) ≡ 101 ∷ 110 ∷ 100 ∷ 32 ∷ 49 ∷ 50 ∷ 10 ∷ []
unfolding field_line field_text word_of spaced_number operands decimal digits
end_12 = refl
