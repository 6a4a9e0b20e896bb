-- The calls that a score makes of its chip, and what its lines show of it: document 01,
-- 'Stamp n means after exactly n clocks of a fresh chip'; document 02, request 5, 'From then on'.
use Rattle.std.specs.Prelude.{ℕ, ◌+◌, ◌-◌, Bool, true, false, ◌||◌, List, [], ◌∷◌, ◌++◌, ◌≡◌}
use Rattle.bus.specs.Bus.{lost}
use Rattle.listing.specs.Text.{read_line, levels_line, end_line}
use Rattle.panel.specs.declared.Panel.{Panel}
use Rattle.panel.specs.Panel.{fresh}
use Rattle.score.specs.declared.Field.{Field}
use Rattle.score.specs.declared.What.{What}
use Rattle.score.specs.declared.What.TheVariants.{Write, Read, Levels, Watch, End}
use Rattle.oscillator.specs.Ways.{afresh}
use Rattle.sid.specs.declared.Mos6581.{Mos6581}
use Rattle.sid.specs.Sid.{fresh as sid_fresh, read_at, code_of, level_of, Call, write, read, after_by, ticks_then, clocks_of}
use Rattle.player.specs.Listing.{line_of, done_by, at_stamp, fade_of, fades, watched, play, played}

-- a field's own call, and then others
abbrev pub call_then : What → List Call → List Call
call_then (Write a v) calls = write a v ∷ calls
call_then (Read a) calls = read a ∷ calls
call_then Levels calls = calls
call_then Watch calls = calls
call_then End calls = calls

-- those of fields, of a chip that has run n clocks, and the ticks up to a stamp
unfoldable pub calls_to : ℕ → List Field → ℕ → List Call
calls_to n [] stamp = ticks_then (stamp - n) []
calls_to n (f ∷ fs) stamp = ticks_then (f.stamp - n) (call_then f.what (calls_to (n + (f.stamp - n)) fs stamp))

-- the line of a field that meets a chip: 'R stamp address read', 'L stamp code level', 'E clocks'
unfoldable pub shown_by : ℕ → What → Mos6581 → List ℕ
shown_by t (Write a v) c = []
shown_by t (Read a) c = read_line t a (read_at c a).byte
shown_by t Levels c =
    levels_line t (code_of c.voice_0) (level_of c.voice_0) (code_of c.voice_1) (level_of c.voice_1) (code_of c.voice_2) (level_of c.voice_2)
shown_by t Watch c = []
shown_by t End c = end_line t

-- in a listing the line of f comes after those of the fields xs before it and of the bits that fade on the way to its
-- stamp, and shows a fresh chip after exactly as many ticks as f's stamp says, by document 01's ways, with the writes
-- and reads of xs in between
pub record Shows (text : List ℕ) (xs : List Field) (f : Field) : Type 0 where
  pub rest : List ℕ
  pub stands : text ≡ play xs fresh ++ (watched f.stamp (played xs fresh) ++ (shown_by f.stamp f.what (after_by afresh (calls_to 0 xs f.stamp) sid_fresh) ++ rest))
  pub ticks : clocks_of (calls_to 0 xs f.stamp) ≡ f.stamp

-- a field that starts the watching; whether there is one among fields
abbrev pub is_watch : What → Bool
is_watch (Write a v) = false
is_watch (Read a) = false
is_watch Levels = false
is_watch Watch = true
is_watch End = false

abbrev pub watches : List Field → Bool
watches [] = false
watches (f ∷ fs) = is_watch f.what || watches fs

-- a watch stands among the fields xs: on the way to f's stamp, after the lines of the clocks before it, stands what the
-- clock after `clock` lost, of a fresh chip after exactly as many ticks, by document 01's ways
pub record ShowsFade (text : List ℕ) (xs : List Field) (f : Field) (clock : ℕ) : Type 0 where
  pub rest : List ℕ
  pub stands
      : text
      ≡ play xs fresh
      ++ (fades (clock - (played xs fresh).clock) (played xs fresh)
      ++ (fade_of (clock + 1) (lost (after_by afresh (calls_to 0 xs clock) sid_fresh).data_bus) ++ rest))
  pub ticks : clocks_of (calls_to 0 xs clock) ≡ clock

-- the lines of fields alone: document 01's listing, which a score without a watch has (`unwatched_plain`)
unfoldable pub plain : List Field → Panel → List ℕ
plain [] p = []
plain (f ∷ fs) p = line_of f.stamp f.what (at_stamp f p) ++ plain fs (done_by f.what (at_stamp f p))
