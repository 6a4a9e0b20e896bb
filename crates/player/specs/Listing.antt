-- What `replay` prints of a score: document 01, 'Score and program'; document 02, request 5.
-- A panel plays the fields of an accepted score one after the other, and each may print a line; so may each clock
-- before it, once the bus is watched.
use Rattle.std.specs.Prelude.{ℕ, zero, suc, ◌+◌, ◌-◌, cond, List, [], ◌∷◌, ◌++◌, eqb, Ok, Err}
use Rattle.bus.specs.Bus.{lost}
use Rattle.listing.specs.Text.{read_line, levels_line, end_line, fade_line, refused_line}
use Rattle.oscillator.specs.Ways.{Ways, stepwise}
use Rattle.panel.specs.declared.Display.{Display}
use Rattle.panel.specs.declared.Panel.{Panel}
use Rattle.panel.specs.Panel.{fresh, bus_of, clocked_by, ran_to_by, watching, written, read_of, levels}
use Rattle.refusals.specs.Refusals.{told}
use Rattle.score.specs.declared.Field.{Field}
use Rattle.score.specs.declared.What.{What}
use Rattle.score.specs.declared.What.TheVariants.{Write, Read, Levels, Watch, End}
use Rattle.score.specs.Scores.{Parsed, score_of}

-- 'code and level three times, voices 0 to 2'
abbrev pub shown_line : ℕ → Display → List ℕ
shown_line t d =
    levels_line t d.voice_0.code d.voice_0.level d.voice_1.code d.voice_1.level
    d.voice_2.code d.voice_2.level

-- 'Lines: R stamp address read, L stamp code level …, and E clocks': what a field prints of the panel at its stamp
unfoldable pub line_of : ℕ → What → Panel → List ℕ
line_of t (Write a v) p = []
line_of t (Read a) p = read_line t a (read_of p a).byte
line_of t Levels p = shown_line t (levels p)
line_of t Watch p = []
line_of t End p = end_line p.clock

-- what a field does to the panel that has run to its stamp
unfoldable pub done_by : What → Panel → Panel
done_by (Write a v) p = written p a v
done_by (Read a) p = (read_of p a).panel
done_by Levels p = p
done_by Watch p = watching p
done_by End p = p

-- the panel at a field's stamp
abbrev pub at_stamp_by : Ways → Field → Panel → Panel
at_stamp_by w f p = ran_to_by w f.stamp p

-- 'F clock bits …' of a clock, if it loses bits
abbrev pub fade_of : ℕ → ℕ → List ℕ
fade_of clock bits = cond (eqb bits 0) [] (fade_line clock bits)

-- '… after each clock that loses bits': those of n clocks, one after the other
unfoldable pub fades_by : Ways → ℕ → Panel → List ℕ
fades_by w zero p = []
fades_by w (suc n) p = fade_of (p.clock + 1) (lost (bus_of p)) ++ fades_by w n (clocked_by w p)

-- 'starts the watching. From then on': of the clocks to a stamp, if they are watched
unfoldable pub watched_by : Ways → ℕ → Panel → List ℕ
watched_by w stamp p = cond p.watched (fades_by w (stamp - p.clock) p) []

-- '… and before fields of that stamp': of a field, what is printed on the way to its stamp, and its line
abbrev pub text_by : Ways → Field → Panel → List ℕ
text_by w f p = watched_by w f.stamp p ++ line_of f.stamp f.what (at_stamp_by w f p)

-- 'several fields may share a stamp and run in file order', 'Fields stamped as the end do run': lines, from a panel on
unfoldable pub play_by : Ways → List Field → Panel → List ℕ
play_by w [] p = []
play_by w (f ∷ fs) p = text_by w f p ++ play_by w fs (done_by f.what (at_stamp_by w f p))

-- the panel after fields
unfoldable pub played_by : Ways → List Field → Panel → Panel
played_by w [] p = p
played_by w (f ∷ fs) p = played_by w fs (done_by f.what (at_stamp_by w f p))

-- 'A refused score gives refused number at place alone'
abbrev pub listing_of_by : Ways → Parsed → List ℕ
listing_of_by w (Ok fs) = play_by w fs fresh
listing_of_by w (Err r) = refused_line (told r)

-- 'The score is checked whole before the first clock': from a score's bytes, the bytes of its listing
unfoldable pub listing_by : Ways → List ℕ → List ℕ
listing_by w s = listing_of_by w (score_of s)

-- the panel after a score: a refused one runs no clock
abbrev pub panel_of_by : Ways → Parsed → Panel
panel_of_by w (Ok fs) = played_by w fs fresh
panel_of_by w (Err r) = fresh

-- ---- the same by a chip's ways

abbrev pub at_stamp : Field → Panel → Panel
at_stamp = at_stamp_by stepwise

abbrev pub fades : ℕ → Panel → List ℕ
fades = fades_by stepwise

abbrev pub watched : ℕ → Panel → List ℕ
watched = watched_by stepwise

abbrev pub play : List Field → Panel → List ℕ
play = play_by stepwise

abbrev pub played : List Field → Panel → Panel
played = played_by stepwise

abbrev pub listing_of : Parsed → List ℕ
listing_of = listing_of_by stepwise

abbrev pub listing : List ℕ → List ℕ
listing = listing_by stepwise

abbrev pub panel_of : Parsed → Panel
panel_of = panel_of_by stepwise
