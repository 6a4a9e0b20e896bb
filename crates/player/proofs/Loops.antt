-- By any ways, the lines of the steps made and of those left are the whole: what the loops over steps keep. Assumes
-- nothing.
use Rattle.std.specs.Prelude.{Ok, Err}
use Prim.Native.Nat.{ℕ, zero, suc, ◌+◌, ◌*◌, ◌-◌, ◌≤◌, ◌<◌}
use native.Mathlib.Nat.{zero-add, suc-add}
use native.Mathlib.Omega.{arith}
use mathlib.Core.Bool.{true}
use mathlib.Core.List.{List, [], ◌++◌, append-nil, append_assoc}
use mathlib.Core.Logic.{◌⊎◌, ⊎_elim}
use mathlib.Core.Path.{◌≡◌, refl, ap, ap₂, sym, subst, ◌∙◌}
use lib.ListN.{length, take, length-append}
use borrow.Author.Tests.{lt-ltb, le-ltb}
use Rattle.listing.specs.Text.{Put, copied, text_room}
use Rattle.listing.proofs.Joins.{then, put_kept, put_copied}
use Rattle.oscillator.specs.Ways.{Ways}
use Rattle.panel.specs.declared.Panel.{Panel}
use Rattle.refusals.specs.Refusals.{refused}
use Rattle.refusals.specs.declared.Refusal.TheVariants.{NoRoom}
use Rattle.score.specs.Scores.{score_of}
use Rattle.player.specs.declared.Player.{Player}
use Rattle.player.specs.declared.Rest.{Rest}
use Rattle.player.specs.declared.Rest.TheVariants.{Fields, Refusal, Nothing}
use Rattle.player.specs.declared.Stepped.{Stepped}
use Rattle.player.specs.Into.{into_answer, into_buffer}
use Rattle.player.specs.Listing.{listing_by, panel_of_by}
use Rattle.player.specs.Steps.{start_of, is_nothing, Turn, turn, Does, PlaysScore, lines, after, most_steps, Made}
use Rattle.player.proofs.Played.{turn_nothing, steps_play, enough_steps}

is_nothing_lem : (r : Rest) → is_nothing r ≡ true → r ≡ Nothing
is_nothing_lem (Fields at) e = let z : ◌≡◌ {A = ℕ} 0 1 = cc in absurd (omega arith)
is_nothing_lem (Refusal r) e = let z : ◌≡◌ {A = ℕ} 0 1 = cc in absurd (omega arith)
is_nothing_lem Nothing e = refl

module _ (w : Ways) where
  -- no line comes of a player with nothing left to do
  pub lines_over : (n : ℕ) (s : List ℕ) (p : Player) → is_nothing p.rest ≡ true → lines w n s p ≡ []
  unfolding lines
  lines_over zero s p e = refl
  lines_over (suc n) s p e = let q = turn_nothing w s p (is_nothing_lem p.rest e) in rw q (lines_over n s _ refl)

  pub lines_none : (n : ℕ) (s : List ℕ) (p : Player) → n ≡ 0 → lines w n s p ≡ []
  unfolding lines
  lines_none zero s p h = refl
  lines_none (suc n) s p h = absurd (omega arith)

  lines_more : (n : ℕ) (s : List ℕ) (p : Player) → 0 < n → lines w n s p ≡ (turn w s p).text ++ lines w (n - 1) s (turn w s p).next
  unfolding lines
  lines_more zero s p h = absurd (omega arith)
  lines_more (suc n) s p h =
      let e : suc n - 1 ≡ n = omega arith in
      ap (λ (k : ℕ). (turn w s p).text ++ lines w k s (turn w s p).next) (sym e)

  -- n steps, and k after them
  lines_join : (n k : ℕ) (s : List ℕ) (p : Player) → lines w (n + k) s p ≡ lines w n s p ++ lines w k s (after w n s p)
  unfolding lines after
  lines_join zero k s p = rw zero-add
  lines_join (suc n) k s p =
      let t = turn w s p in
      let q = t.next in
      rw (suc-add n k)
      (ap (λ (x : List ℕ). t.text ++ x) (lines_join n k s q) ∙ sym (append_assoc t.text (lines w n s q) (lines w k s (after w n s q))))

  after_join : (n k : ℕ) (s : List ℕ) (p : Player) → after w (n + k) s p ≡ after w k s (after w n s p)
  unfolding after
  after_join zero k s p = rw zero-add
  after_join (suc n) k s p = rw (suc-add n k) (after_join n k s (turn w s p).next)

  -- the panel stays once nothing is left to do
  pub panel_over : (n : ℕ) (s : List ℕ) (p : Player) → is_nothing p.rest ≡ true → (after w n s p).panel ≡ p.panel
  unfolding after
  panel_over zero s p e = refl
  panel_over (suc n) s p e = subst (λ (t : Turn). (after w n s t.next).panel ≡ p.panel) (sym (turn_nothing w s p (is_nothing_lem p.rest e))) (panel_over n s _ refl)

  pub panel_none : (n : ℕ) (s : List ℕ) (p : Player) → n ≡ 0 → (after w n s p).panel ≡ p.panel
  unfolding after
  panel_none zero s p h = refl
  panel_none (suc n) s p h = absurd (omega arith)

  -- from the start of a score it comes to what the score leaves
  pub panel_first : (s : List ℕ) (p : Player) → p ≡ start_of s → (after w most_steps s p).panel ≡ panel_of_by w (score_of s)
  panel_first s p e = ap (λ (q : Player). (after w most_steps s q).panel) e ∙ ap (λ (q : Player). q.panel) (steps_play w s most_steps (omega arith)).leaves

  -- what n steps leave, the n - 1 after the first of them leave
  pub panel_more
      : (n : ℕ) (s : List ℕ) (p : Player) {l m : List ℕ} {r : Stepped} {panel : Panel}
      → 0 < n
      → Does (turn w s p) l r m
      → (after w n s p).panel ≡ panel
      → (after w (n - 1) s r.player).panel ≡ panel
  unfolding after
  panel_more zero s p h d e = absurd (omega arith)
  panel_more (suc n) s p {r = r} h d e =
      let i : suc n - 1 ≡ n = omega arith in
      ap (λ (k : ℕ). (after w k s r.player).panel) i ∙ ap (λ (q : Player). (after w n s q).panel) d.player ∙ e

-- n steps, and one after them
module _ (w : Ways) (n : ℕ) (s : List ℕ) (p : Player) where
  one_more : suc n ≡ n + 1
  one_more = omega arith

  lines_last : lines w (suc n) s p ≡ lines w n s p ++ (turn w s (after w n s p)).text
  unfolding lines
  lines_last =
      ap (λ (k : ℕ). lines w k s p) one_more
      ∙ (lines_join w n 1 s p ∙ ap (λ (x : List ℕ). lines w n s p ++ x) (append-nil (turn w s (after w n s p)).text))

  after_last : after w (suc n) s p ≡ (turn w s (after w n s p)).next
  unfolding after
  after_last = ap (λ (k : ℕ). after w k s p) one_more ∙ after_join w n 1 s p

pub nothing_after : {xs ys zs : List ℕ} → xs ++ ys ≡ zs → ys ≡ [] → xs ≡ zs
nothing_after {xs} whole e = sym (append-nil xs) ∙ (ap (λ (ys : List ℕ). xs ++ ys) (sym e) ∙ whole)

-- two permitted outcomes of a step are one
pub does_one : {t : Turn} {l : List ℕ} {r r' : Stepped} {m m' : List ℕ} → Does t l r m → Does t l r' m' → (r ≡ r') × (m ≡ m')
does_one {t} {l} {r} {r'} d d' =
    let e : r.len ≡ r'.len = d.put.place ∙ sym d'.put.place in
    (ap₂ (λ (x : Player) (y : ℕ). record { player = x; len = y }) (d.player ∙ sym d'.player) e, d.put.bytes ∙ sym d'.put.bytes)

module _ {t : Turn} {l : List ℕ} {r : Stepped} {m : List ℕ} (d : Does t l r m) (e : length l ≡ text_room) where
  pub line_kept : length m ≡ text_room
  line_kept = put_kept text_room d.put e

-- before the first step
pub made_none : (w : Ways) (s : List ℕ) (p : Player) (steps : ℕ) (l : List ℕ) → Made w s p steps l p steps 0 l
unfolding lines after
made_none w s p steps l = record { made = zero; count = omega arith; player = refl; put = record { place = refl; bytes = refl } }

module _ {w : Ways} {s : List ℕ} {p : Player} {steps : ℕ} {l : List ℕ} {q : Player} {left at : ℕ} {m : List ℕ} (k : Made w s p steps l q left at m) where
  -- nothing is lost: the lines of the steps made, and of those that are left
  pub made_whole : lines w k.made s p ++ lines w left s q ≡ lines w steps s p
  made_whole =
      ap (λ (x : Player). lines w k.made s p ++ lines w left s x) k.player
      ∙ (sym (lines_join w k.made left s p) ∙ ap (λ (n : ℕ). lines w n s p) k.count)

  pub made_more
      : {line : List ℕ} {r : Stepped} {line' : List ℕ}
      → 0 < left
      → length line ≡ text_room
      → Does (turn w s q) line r line'
      → at + r.len ≤ length m
      → Made w s p steps l r.player (left - 1) (at + r.len) (copied m at (take r.len line'))
  made_more {line} {r} {line'} h e d room =
      let text = (turn w s q).text in
      let last : lines w k.made s p ++ text ≡ lines w (suc k.made) s p =
      ap (λ (x : Player). lines w k.made s p ++ (turn w s x).text) k.player ∙ sym (lines_last w k.made s p) in
      record {
        made = suc k.made;
        count = omega (arith, k.count);
        player = d.player ∙ (ap (λ (x : Player). (turn w s x).next) k.player ∙ sym (after_last w k.made s p));
        put = rw (← last) (then k.put (put_copied d.put (omega (arith, d.fits)) m at room));
      }

-- what the loop over a score's steps keeps: `left` steps are left, r is the player after those made with the length of
-- their lines, and where l has room for the listing they stand at its start: it now is m
pub record Playing (w : Ways) (s l : List ℕ) (left : ℕ) (r : Stepped) (m : List ℕ) : Type 0 where
  pub made : ℕ
  pub count : made + left ≡ most_steps
  pub player : r.player ≡ after w made s (start_of s)
  pub len : r.len ≡ length (lines w made s (start_of s))
  pub fits : r.len ≤ text_room * made
  pub kept : length m ≡ length l
  pub put : length (listing_by w s) ≤ length l → Put l 0 (lines w made s (start_of s)) r.len m

pub playing_none : (w : Ways) (s l : List ℕ) {p : Player} → p ≡ start_of s → Playing w s l most_steps (record { player = p; len = 0 }) l
unfolding lines after
playing_none w s l e =
    record {
      made = zero;
      count = refl;
      player = e;
      len = refl;
      fits = omega arith;
      kept = refl;
      put = λ h. record { place = refl; bytes = refl };
    }

module _ {w : Ways} {s l : List ℕ} {left : ℕ} {r : Stepped} {m : List ℕ} (k : Playing w s l left r m) where
  -- the lines made, and those that are left
  playing_whole : lines w k.made s (start_of s) ++ lines w left s r.player ≡ listing_by w s
  playing_whole =
      ap (λ (p : Player). lines w k.made s (start_of s) ++ lines w left s p) k.player
      ∙ (sym (lines_join w k.made left s (start_of s))
      ∙ (ap (λ (n : ℕ). lines w n s (start_of s)) k.count ∙ enough_steps w s))

  -- room for the listing is room for the next line
  playing_room : 0 < left → r.len + length (turn w s r.player).text ≤ length (listing_by w s)
  playing_room h =
      let t = turn w s r.player in
      let next = ap length (lines_more w left s r.player h) ∙ length-append t.text (lines w (left - 1) s t.next) in
      omega (arith, ap length playing_whole, length-append (lines w k.made s (start_of s)) (lines w left s r.player), next, k.len)

  pub playing_more
      : {line : List ℕ} {t : Stepped} {line' m' : List ℕ}
      → 0 < left
      → length line ≡ text_room
      → Does (turn w s r.player) line t line'
      → m' ≡ copied m r.len (take t.len line')
      → length m' ≡ length m
      → Playing w s l (left - 1) (record { player = t.player; len = r.len + t.len }) m'
  playing_more {line} {t} {line'} h e d copies same =
      let text = (turn w s r.player).text in
      let whole = lines w k.made s (start_of s) in
      let last : whole ++ text ≡ lines w (suc k.made) s (start_of s) =
      ap (λ (p : Player). whole ++ (turn w s p).text) k.player ∙ sym (lines_last w k.made s (start_of s)) in
      record {
        made = suc k.made;
        count = omega (arith, k.count);
        player = d.player ∙ (ap (λ (p : Player). (turn w s p).next) k.player ∙ sym (after_last w k.made s (start_of s)));
        len = omega (arith, k.len, d.put.place, length-append whole text, ap length last);
        fits = omega (arith, k.fits, d.fits);
        kept = same ∙ k.kept;
        put =
            λ room.
            let fits : r.len + t.len ≤ length m = omega (arith, playing_room h, d.put.place, room, k.kept) in
            rw (copies, ← last) (then (k.put room) (put_copied d.put (omega (arith, d.fits, e)) m r.len fits));
      }

  -- until nothing is left to do, or no step is left
  pub playing_all : (is_nothing r.player.rest ≡ true) ⊎ (left ≡ 0) → PlaysScore w s l r m
  playing_all over =
      let all : lines w k.made s (start_of s) ≡ listing_by w s =
      nothing_after playing_whole (⊎_elim (lines_over w left s r.player) (lines_none w left s r.player) over) in
      let still : (after w left s r.player).panel ≡ r.player.panel =
      ⊎_elim (panel_over w left s r.player) (panel_none w left s r.player) over in
      let joined : after w left s r.player ≡ after w most_steps s (start_of s) =
      ap (after w left s) k.player
      ∙ (sym (after_join w k.made left s (start_of s)) ∙ ap (λ (n : ℕ). after w n s (start_of s)) k.count) in
      record {
        panel = sym still ∙ (ap (λ (p : Player). p.panel) joined ∙ panel_first w s (start_of s) refl);
        len = k.len ∙ ap length all;
        put = λ room. subst (λ (text : List ℕ). Put l 0 text r.len m) all (k.put room);
      }

module _ (w : Ways) (s l : List ℕ) where
  pub no_room : length l < length (listing_by w s) → (Err (refused NoRoom 0) ≡ into_answer w s (length l)) × (l ≡ into_buffer w s l)
  unfolding into_answer into_buffer
  no_room h = simp (lt-ltb (length l) (length (listing_by w s)) h) (refl, refl)

  pub room
      : {r : ℕ} {m : List ℕ}
      → length (listing_by w s) ≤ length l
      → Put l 0 (listing_by w s) r m
      → (Ok r ≡ into_answer w s (length l)) × (m ≡ into_buffer w s l)
  unfolding into_answer into_buffer
  room h o = simp (le-ltb (length l) (length (listing_by w s)) h) (ap Ok (omega (arith, o.place)), o.bytes)
