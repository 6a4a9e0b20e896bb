-- A player's steps over a score, one field each.
use Rattle.std.specs.Prelude.{ℕ, zero, suc, ◌+◌, ◌*◌, ◌≤◌, Bool, true, false, cond, List, [], ◌++◌, ◌≡◌, Result, Ok, Err, length}
use Rattle.listing.specs.Text.{Put, text_room, line_room, fade_room, refused_line}
use Rattle.oscillator.specs.Ways.{Ways}
use Rattle.panel.specs.declared.Panel.{Panel}
use Rattle.panel.specs.Panel.{fresh, ran_to_by}
use Rattle.refusals.specs.declared.Refused.{Refused}
use Rattle.refusals.specs.Refusals.{told}
use Rattle.score.specs.declared.Field.{Field}
use Rattle.score.specs.Fields.{FieldRead, field_at, is_end}
use Rattle.score.specs.Scores.{checked, score_of}
use Rattle.player.specs.declared.Player.{Player}
use Rattle.player.specs.declared.Ran.{Ran}
use Rattle.player.specs.declared.Rest.{Rest}
use Rattle.player.specs.declared.Rest.TheVariants.{Fields, Refusal, Nothing}
use Rattle.player.specs.declared.Stepped.{Stepped}
use Rattle.player.specs.Listing.{line_of, done_by, at_stamp_by, watched_by, text_by, listing_by, panel_of_by}

abbrev pub player : Panel → Rest → Player
player p rest = record { panel = p; rest = rest }

-- what a checked score leaves to do
abbrev pub rest_by : Result ℕ Refused → Rest
rest_by (Ok clocks) = Fields 0
rest_by (Err r) = Refusal r

-- 'The score is checked whole before the first clock'
unfoldable pub start_of : List ℕ → Player
start_of s = player fresh (rest_by (checked s))

abbrev pub is_nothing : Rest → Bool
is_nothing (Fields at) = false
is_nothing (Refusal r) = false
is_nothing Nothing = true

-- a step's two halves: the player after it, and the line
pub record Turn : Type 0 where
  pub next : Player
  pub text : List ℕ

-- the field f, which ends before `next`
unfoldable pub on_field : Ways → Panel → Field → ℕ → Turn
on_field w p f next =
    record {
      next = player (done_by f.what (at_stamp_by w f p)) (cond (is_end f.what) Nothing (Fields next));
      text = text_by w f p;
    }

abbrev pub on_refusal : Panel → Refused → Turn
on_refusal p r = record { next = player p Nothing; text = refused_line (told r) }

abbrev pub on_read : Ways → Panel → FieldRead → Turn
on_read w p (Ok (f, next)) = on_field w p f next
on_read w p (Err r) = on_refusal p r

abbrev pub turn_by : Ways → List ℕ → Panel → Rest → Turn
turn_by w s p (Fields at) = on_read w p (field_at s at)
turn_by w s p (Refusal r) = on_refusal p r
turn_by w s p Nothing = record { next = player p Nothing; text = [] }

-- one step
unfoldable pub turn : Ways → List ℕ → Player → Turn
turn w s p = turn_by w s p.panel p.rest

-- the same without its way there: of the panel at its stamp
abbrev pub on_stamp : Panel → Field → ℕ → Turn
on_stamp p f next =
    record { next = player (done_by f.what p) (cond (is_end f.what) Nothing (Fields next)); text = line_of f.stamp f.what p }

-- what a step of the code does: the player after it, and the line at the start of the lent buffer l, which then is m
pub record Does (t : Turn) (l : List ℕ) (r : Stepped) (m : List ℕ) : Type 0 where
  pub player : r.player ≡ t.next
  pub put : Put l 0 t.text r.len m
  pub fits : r.len ≤ text_room

-- what the code does of a field at its stamp: a step, in a line
pub record DoesLine (t : Turn) (l : List ℕ) (r : Stepped) (m : List ℕ) : Type 0 where
  pub player : r.player ≡ t.next
  pub put : Put l 0 t.text r.len m
  pub fits : r.len ≤ line_room

-- what the code does on the way to a stamp: the panel there, and the lines of bits that fade, at most eight
pub record Runs (w : Ways) (stamp : ℕ) (p : Panel) (l : List ℕ) (r : Ran) (m : List ℕ) : Type 0 where
  pub panel : r.panel ≡ ran_to_by w stamp p
  pub put : Put l 0 (watched_by w stamp p) r.len m
  pub fits : r.len ≤ 8 * fade_room

-- the lines of n steps, joined
unfoldable pub lines : Ways → ℕ → List ℕ → Player → List ℕ
lines w zero s p = []
lines w (suc n) s p = (turn w s p).text ++ lines w n s (turn w s p).next

-- the player after n steps
unfoldable pub after : Ways → ℕ → List ℕ → Player → Player
after w zero s p = p
after w (suc n) s p = after w n s (turn w s p).next

-- as many steps as any score takes: a field has seven bytes or more, and a score over 65,536 bytes is refused in one
abbrev pub most_steps : ℕ
most_steps = 9362

-- what all steps of a score do: the panel after them, the length of the listing, and the listing at the start of the
-- lent buffer l, which then is m, where it has room
pub record PlaysScore (w : Ways) (s : List ℕ) (l : List ℕ) (r : Stepped) (m : List ℕ) : Type 0 where
  pub panel : r.player.panel ≡ panel_of_by w (score_of s)
  pub len : r.len ≡ length (listing_by w s)
  pub put : length (listing_by w s) ≤ length l → Put l 0 (listing_by w s) r.len m

-- some of `steps` steps from p were made: q is the player after them, `left` are left, and their lines, `at` bytes,
-- stand at the start of l, which now is m
pub record Made (w : Ways) (s : List ℕ) (p : Player) (steps : ℕ) (l : List ℕ) (q : Player) (left at : ℕ) (m : List ℕ) : Type 0 where
  pub made : ℕ
  pub count : made + left ≡ steps
  pub player : q ≡ after w made s p
  pub put : Put l 0 (lines w made s p) at m
