-- By any ways, fills from the start of a score, joined, are its listing, and no fill stands still; ways that list
-- alike hand on alike. Assumes nothing.
use Prim.Native.Nat.{ℕ, zero, suc, ◌+◌, ◌≤◌, ◌<◌}
use native.Mathlib.Omega.{arith}
use mathlib.Core.Bool.{true, false}
use mathlib.Core.List.{List, [], ◌++◌, append_assoc}
use mathlib.Core.Logic.{◌⊎◌, ⊎_elim}
use mathlib.Core.Path.{◌≡◌, refl, ap, sym, subst, ◌∙◌}
use lib.ListN.{length, take, length-append}
use Rattle.listing.specs.Text.{Put, text_room}
use Rattle.listing.proofs.Joins.{take_put}
use Rattle.oscillator.specs.Ways.{Ways}
use Rattle.player.proofs.Loops.{lines_over, lines_none, nothing_after, made_whole}
use Rattle.player.proofs.Played.{enough_steps}
use Rattle.player.specs.declared.Player.{Player}
use Rattle.player.specs.Listing.{listing_by}
use Rattle.player.specs.Steps.{start_of, is_nothing, lines, after, most_steps}
use Rattle.printer.specs.declared.Filled.{Filled}
use Rattle.printer.specs.declared.Stopped.{Stopped}
use Rattle.std.specs.Prelude.{Result, Ok, Err}
use Rattle.printer.specs.Fills.{Fills, Filling, none, more, Prints}

module _ {w : Ways} {s : List ℕ} {p : Player} {steps : ℕ} {l : List ℕ} {r : Filled} {m : List ℕ} (f : Fills w s p steps l r m) where
  -- the bytes handed on, and the lines of the steps that are left
  fill_whole : take r.len m ++ lines w r.left s r.player ≡ lines w steps s p
  fill_whole =
      ap (λ (x : List ℕ). x ++ lines w r.left s r.player) (take_put f.makes.put f.fits) ∙ made_whole f.makes

  -- no step made: the player as it was, and nothing put
  still : (n : ℕ) → n ≡ 0 → r.player ≡ after w n s p → Put l 0 (lines w n s p) r.len m → (r.player ≡ p) × (r.len ≡ 0)
  unfolding lines after
  still zero z e o = (e, omega (arith, o.place))
  still (suc n) z e o = absurd (omega arith)

  -- with a step's room, a player that has something left to do makes a step
  pub fill_steps : text_room ≤ length l → 0 < steps → is_nothing p.rest ≡ false → r.left < steps
  fill_steps h k e = go f.makes.made refl
    where
      go : (n : ℕ) → f.makes.made ≡ n → r.left < steps
      go zero z =
          let q = still f.makes.made z f.makes.player f.makes.put in
          ⊎_elim (λ x. let no : ◌≡◌ {A = ℕ} 0 1 = cc in absurd (omega arith)) (λ x. ⊎_elim (λ y. omega arith) (λ y. absurd (omega (arith, q.1))) x) f.stops
      go (suc n) z = omega (arith, f.makes.count)

-- what was handed on, and the lines of the steps that are left
filling_whole
    : {w : Ways} {s : List ℕ} {p : Player} {left : ℕ} {text : List ℕ}
    → Filling w s p left text
    → text ++ lines w left s p ≡ listing_by w s
filling_whole {w} {s} none = enough_steps w s
filling_whole {w} {s} (more {p = p} {left = left} {text = text} {r = r} {m = m} g f) =
    append_assoc text (take r.len m) (lines w r.left s r.player)
    ∙ (ap (λ (x : List ℕ). text ++ x) (fill_whole f) ∙ filling_whole g)

module _ {w : Ways} {s : List ℕ} {p : Player} {left : ℕ} {text : List ℕ} (g : Filling w s p left text) where
  -- until nothing is left to do, or no step is left
  pub fills_listing : (is_nothing p.rest ≡ true) ⊎ (left ≡ 0) → text ≡ listing_by w s
  fills_listing over = nothing_after (filling_whole g) (⊎_elim (lines_over w left s p) (lines_none w left s p) over)

  pub fills_within : length text ≤ length (listing_by w s)
  fills_within = omega (arith, sym (length-append text (lines w left s p)) ∙ ap length (filling_whole g))

-- what the loop of `print_listing` keeps: the bytes handed on are counted
pub record Handed (w : Ways) (s : List ℕ) (p : Player) (left len : ℕ) : Type 0 where
  pub text : List ℕ
  pub filling : Filling w s p left text
  pub counts : len ≡ length text

pub handed_none : (w : Ways) (s : List ℕ) → Handed w s (start_of s) most_steps 0
handed_none w s = record { text = []; filling = none; counts = refl }

module _ {w : Ways} {s : List ℕ} {p : Player} {left len : ℕ} (k : Handed w s p left len) where
  pub handed_more : {l : List ℕ} {r : Filled} {m : List ℕ} → Fills w s p left l r m → Handed w s r.player r.left (len + r.len)
  handed_more {l} {r} {m} f =
      let put : length (take r.len m) ≡ r.len = ap length (take_put f.makes.put f.fits) ∙ omega (arith, f.makes.put.place) in
      record {
        text = k.text ++ take r.len m;
        filling = more k.filling f;
        counts = omega (arith, k.counts, length-append k.text (take r.len m), put);
      }

  pub handed_all : (is_nothing p.rest ≡ true) ⊎ (left ≡ 0) → len ≡ length (listing_by w s)
  handed_all over = k.counts ∙ ap length (fills_listing k.filling over)

  pub handed_within : len ≤ length (listing_by w s)
  handed_within = omega (arith, k.counts, fills_within k.filling)

-- ways that list a score alike hand on alike
pub prints_same : (w x : Ways) (s : List ℕ) → listing_by w s ≡ listing_by x s → (r : Result ℕ Stopped) → Prints w s r → Prints x s r
prints_same w x s e (Ok len) p = p ∙ ap length e
prints_same w x s e (Err stopped) p = subst (λ (text : List ℕ). stopped.len ≤ length text) e p
