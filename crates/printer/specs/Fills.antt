-- A score's listing in parts, each filled into one buffer and handed on: document 01, 'Score and program'.
use Rattle.std.specs.Prelude.{ℕ, ◌+◌, ◌≤◌, ◌<◌, true, List, [], ◌++◌, ◌⊎◌, ◌≡◌, length, take, Result, Ok, Err}
use Rattle.listing.specs.Text.{text_room}
use Rattle.oscillator.specs.Ways.{Ways}
use Rattle.player.specs.declared.Player.{Player}
use Rattle.player.specs.Listing.{listing_by}
use Rattle.player.specs.Steps.{start_of, is_nothing, most_steps, Made}
use Rattle.printer.specs.declared.Filled.{Filled}
use Rattle.printer.specs.declared.Stopped.{Stopped}

-- the room of the buffer
abbrev pub room : ℕ
room = 65536

-- some of the steps asked for, their lines at the start of l, which then is m: it stops only where nothing is left to
-- do, no step is left, or less room than a step is given
pub record Fills (w : Ways) (s : List ℕ) (p : Player) (steps : ℕ) (l : List ℕ) (r : Filled) (m : List ℕ) : Type 0 where
  pub makes : Made w s p steps l r.player r.left r.len m
  pub fits : r.len ≤ length l
  pub stops : (is_nothing r.player.rest ≡ true) ⊎ ((r.left ≡ 0) ⊎ (length l < r.len + text_room))

-- fills one after the other from the start of a score, each from where the one before stopped: p is the player there,
-- `left` steps are left, and `text` is what they put, joined
pub data Filling (w : Ways) (s : List ℕ) : Player → ℕ → List ℕ → Type 0 where
  none : Filling w s (start_of s) most_steps []
  more
      : {p : Player} {left : ℕ} {text l : List ℕ} {r : Filled} {m : List ℕ}
      → Filling w s p left text
      → Fills w s p left l r m
      → Filling w s r.player r.left (text ++ take r.len m)

-- the number of bytes handed on: all of the listing's, or no more than it has where a write failed
abbrev pub Prints : Ways → List ℕ → Result ℕ Stopped → Type 0
Prints w s (Ok len) = len ≡ length (listing_by w s)
Prints w s (Err stopped) = stopped.len ≤ length (listing_by w s)
