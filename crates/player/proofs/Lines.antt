-- A field's line stands in its place, and shows a fresh chip after as many ticks as its stamp says, by document 01's
-- ways. Assumes nothing.
use Rattle.std.specs.Prelude.{Ok}
use Prim.Native.Nat.{ℕ}
use mathlib.Core.List.{List, [], ◌∷◌, ◌++◌, append_assoc}
use mathlib.Core.Path.{◌≡◌, refl, ap, sym, ◌∙◌}
use Rattle.listing.specs.Text.{end_line}
use Rattle.panel.specs.declared.Panel.{Panel}
use Rattle.panel.specs.Panel.{fresh, read_of, levels}
use Rattle.score.specs.declared.Field.{Field}
use Rattle.score.specs.declared.What.{What}
use Rattle.score.specs.declared.What.TheVariants.{Write, Read, Levels, Watch, End}
use Rattle.score.specs.Scores.{score_of}
use Rattle.player.specs.ScoreCalls.{shown_by, Shows}
use Rattle.oscillator.specs.Ways.{stepwise}
use Rattle.player.specs.Listing.{line_of, done_by, at_stamp, watched, text_by, play, play_by, played, played_by, listing_of, listing, listing_by}
use Rattle.player.proofs.Clocks.{stamp_clocks}

-- the lines of fields, and of fields after them
pub play_join : (xs ys : List Field) (p : Panel) → play (xs ++ ys) p ≡ play xs p ++ play ys (played xs p)
unfolding play_by played_by
play_join [] ys p = refl
play_join (x ∷ xs) ys p =
    let q = at_stamp x p in
    let r = done_by x.what q in
    let text = text_by stepwise x p in
    ap (λ (rest : List ℕ). text ++ rest) (play_join xs ys r) ∙ sym (append_assoc text (play xs r) (play ys (played xs r)))

-- a line shows the panel's chip
line_shown : (t : ℕ) (w : What) (p : Panel) → p.clock ≡ t → line_of t w p ≡ shown_by t w p.chip
unfolding line_of shown_by read_of levels
line_shown t (Write a v) p k = refl
line_shown t (Read a) p k = refl
line_shown t Levels p k = refl
line_shown t Watch p k = refl
line_shown t End p k = ap end_line k

pub line_shows : (s : List ℕ) (xs : List Field) (f : Field) (ys : List Field) → score_of s ≡ Ok (xs ++ (f ∷ ys)) → Shows (listing s) xs f
unfolding listing_by play_by
line_shows s xs f ys e =
    let m = stamp_clocks s xs f ys e in
    let q = at_stamp f (played xs fresh) in
    let way = watched f.stamp (played xs fresh) in
    let line = line_shown f.stamp f.what q m.clock ∙ ap (shown_by f.stamp f.what) m.chip in
    record {
      rest = play ys (done_by f.what q);
      stands =
          ap listing_of e
          ∙ (play_join xs (f ∷ ys) fresh
          ∙ ap (λ (text : List ℕ). play xs fresh ++ text)
          (append_assoc way (line_of f.stamp f.what q) (play ys (done_by f.what q))
          ∙ ap (λ (text : List ℕ). way ++ (text ++ play ys (done_by f.what q))) line));
      ticks = m.ticks;
    }
