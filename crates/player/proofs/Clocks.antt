-- A field of an accepted score meets a fresh chip after as many ticks as its stamp says, all counted; no score runs
-- long enough for the chip's ticks to be other than document 01's. Assumes nothing.
use Rattle.std.specs.Prelude.{Ok}
use Prim.Native.Nat.{ℕ, ◌+◌, ◌-◌, ◌≤◌}
use native.Mathlib.Omega.{arith}
use mathlib.Core.Bool.{true}
use mathlib.Core.List.{List, [], ◌∷◌, ◌++◌, append-nil, append_assoc}
use mathlib.Core.Path.{◌≡◌, refl, ap, sym, subst, ◌∙◌}
use lib.ListN.{length, length-append}
use Rattle.listing.specs.Text.{end_line}
use Rattle.panel.specs.declared.Panel.{Panel}
use Rattle.panel.specs.Panel.{fresh, ran_to, ran_to_by, read_of}
use Rattle.score.specs.declared.Field.{Field}
use Rattle.score.specs.declared.Order.{Order}
use Rattle.score.specs.declared.What.{What}
use Rattle.score.specs.declared.What.TheVariants.{Write, Read, Levels, Watch, End}
use Rattle.score.specs.Fields.{is_end}
use Rattle.score.specs.Scores.{score_of, clocks_of as scores_clocks_of, Chain, ends, goes}
use Rattle.score.proofs.Chains.{score_chain}
use Rattle.score.proofs.Stamps.{Admits, admits}
use Rattle.oscillator.specs.Ways.{afresh, stepwise}
use Rattle.calls.proofs.Leaks.{clocks_as_01}
use Rattle.sid.specs.Sid.{fresh as sid_fresh, Call, called_by, after_by, after, clocks_of}
use Rattle.sid.proofs.Joined.{after_ticks, count_ticks}
use Rattle.player.specs.ScoreCalls.{call_then, calls_to}
use Rattle.player.specs.Listing.{line_of, done_by, at_stamp, watched, text_by, play, play_by, played, played_by, listing, listing_by}

after_call : (w : What) (calls : List Call) (p : Panel) → after (call_then w calls) p.chip ≡ after calls (done_by w p).chip
unfolding after_by called_by done_by read_of
after_call (Write a v) calls p = refl
after_call (Read a) calls p = refl
after_call Levels calls p = refl
after_call Watch calls p = refl
after_call End calls p = refl

count_call : (w : What) (calls : List Call) → clocks_of (call_then w calls) ≡ clocks_of calls
unfolding clocks_of
count_call (Write a v) calls = refl
count_call (Read a) calls = refl
count_call Levels calls = refl
count_call Watch calls = refl
count_call End calls = refl

clock_done : (w : What) (p : Panel) → (done_by w p).clock ≡ p.clock
unfolding done_by read_of
clock_done (Write a v) p = refl
clock_done (Read a) p = refl
clock_done Levels p = refl
clock_done Watch p = refl
clock_done End p = refl

module _ (stamp : ℕ) where
  -- the chip is what the calls make of it
  pub chip_called : (fs : List Field) (p : Panel) → (ran_to stamp (played fs p)).chip ≡ after (calls_to p.clock fs stamp) p.chip
  unfolding calls_to played_by ran_to_by after_by
  chip_called [] p = sym (after_ticks stepwise (stamp - p.clock) [] p.chip)
  chip_called (f ∷ fs) p =
      let q = at_stamp f p in
      chip_called fs (done_by f.what q)
      ∙ (ap (λ (n : ℕ). after (calls_to n fs stamp) (done_by f.what q).chip) (clock_done f.what q)
      ∙ (sym (after_call f.what (calls_to q.clock fs stamp) q)
      ∙ sym (after_ticks stepwise (f.stamp - p.clock) (call_then f.what (calls_to q.clock fs stamp)) p.chip)))

  -- and the panel's clock counts the ticks among them
  pub clock_counts : (fs : List Field) (p : Panel) → (ran_to stamp (played fs p)).clock ≡ p.clock + clocks_of (calls_to p.clock fs stamp)
  unfolding calls_to played_by ran_to_by clocks_of
  clock_counts [] p = omega (arith, count_ticks (stamp - p.clock) [])
  clock_counts (f ∷ fs) p =
      let q = at_stamp f p in
      let a : calls_to (done_by f.what q).clock fs stamp ≡ calls_to q.clock fs stamp = ap (λ (n : ℕ). calls_to n fs stamp) (clock_done f.what q) in
      omega (
        arith,
        clock_counts fs (done_by f.what q),
        clock_done f.what q,
        ap clocks_of a,
        count_call f.what (calls_to q.clock fs stamp),
        count_ticks (f.stamp - p.clock) (call_then f.what (calls_to q.clock fs stamp)),
      )

ran_clock : {o : Order} {f : Field} {o' : Order} → Admits o f o' → (p : Panel) → p.clock ≡ o.last → (at_stamp f p).clock ≡ f.stamp
unfolding ran_to_by
ran_clock a p k = omega (arith, a.not_below)

-- a field as its stamp finds the panel
record Finds (f : Field) (p : Panel) : Type 0 where
  clock : (at_stamp f p).clock ≡ f.stamp
  not_over : f.stamp ≤ 100000000

found : {o : Order} {f : Field} {o' : Order} → Admits o f o' → (p : Panel) → p.clock ≡ o.last → Finds f p
found a p k = record { clock = ran_clock a p k; not_over = a.not_over }

-- stamps never fall, so that each field finds the clocks of the one before
on_stamp_lem
    : {s : List ℕ} {at : ℕ} {o : Order} {fs : List Field}
    → Chain s at o fs
    → (xs : List Field) (f : Field) (ys : List Field)
    → fs ≡ xs ++ (f ∷ ys)
    → (p : Panel)
    → p.clock ≡ o.last
    → Finds f (played xs p)
unfolding played_by
on_stamp_lem (ends {f = g} e a i) [] f ys q p k =
    let h : g ≡ f = cc in
    subst (λ (x : Field). Finds x p) h (found (admits a) p k)
on_stamp_lem (ends e a i) (x ∷ xs) f ys q p k = absurd (omega (arith, ap length q, length-append xs (f ∷ ys)))
on_stamp_lem (goes {f = g} e a i r) [] f ys q p k =
    let h : g ≡ f = cc in
    subst (λ (x : Field). Finds x p) h (found (admits a) p k)
on_stamp_lem (goes {f = g} e a i r) (x ∷ xs) f ys q p k =
    let h : g ≡ x = cc in
    let there = (subst (λ (y : Field). Finds y p) h (found (admits a) p k)).clock in
    on_stamp_lem r xs f ys (cc) (done_by x.what (at_stamp x p))
    (clock_done x.what (at_stamp x p) ∙ (there ∙ (ap (λ (y : Field). y.stamp) (sym h) ∙ sym (admits a).is_last)))

-- the panel that a field of an accepted score meets
pub record Meets (xs : List Field) (f : Field) : Type 0 where
  pub chip : (at_stamp f (played xs fresh)).chip ≡ after_by afresh (calls_to 0 xs f.stamp) sid_fresh
  pub ticks : clocks_of (calls_to 0 xs f.stamp) ≡ f.stamp
  pub clock : (at_stamp f (played xs fresh)).clock ≡ f.stamp
  pub not_over : f.stamp ≤ 100000000

pub stamp_clocks : (s : List ℕ) (xs : List Field) (f : Field) (ys : List Field) → score_of s ≡ Ok (xs ++ (f ∷ ys)) → Meets xs f
stamp_clocks s xs f ys e =
    let finds = on_stamp_lem (score_chain s e).0 xs f ys refl fresh refl in
    let calls = calls_to 0 xs f.stamp in
    let ticks : clocks_of calls ≡ f.stamp = omega (arith, clock_counts f.stamp xs fresh, finds.clock) in
    record {
      chip = chip_called f.stamp xs fresh ∙ clocks_as_01 calls (omega (arith, ticks, finds.not_over));
      ticks = ticks;
      clock = finds.clock;
      not_over = finds.not_over;
    }

end_line_lem : (t : ℕ) (w : What) (p : Panel) → is_end w ≡ true → line_of t w p ≡ end_line p.clock
unfolding line_of
end_line_lem t (Write a v) p i = let z : ◌≡◌ {A = ℕ} 0 1 = cc in absurd (omega arith)
end_line_lem t (Read a) p i = let z : ◌≡◌ {A = ℕ} 0 1 = cc in absurd (omega arith)
end_line_lem t Levels p i = let z : ◌≡◌ {A = ℕ} 0 1 = cc in absurd (omega arith)
end_line_lem t Watch p i = let z : ◌≡◌ {A = ℕ} 0 1 = cc in absurd (omega arith)
end_line_lem t End p i = refl

-- the lines end with `E n`, and the panel has then run n clocks
pub record Closes (text : List ℕ) (p : Panel) (n : ℕ) : Type 0 where
  pub before : List ℕ
  pub text_is : text ≡ before ++ end_line n
  pub clock : p.clock ≡ n

closes
    : {s : List ℕ} {at : ℕ} {o : Order} {fs : List Field}
    → Chain s at o fs
    → (p : Panel)
    → p.clock ≡ o.last
    → Closes (play fs p) (played fs p) (scores_clocks_of fs)
unfolding play_by played_by
closes (ends {f = f} e a i) p k =
    let q = at_stamp f p in
    let c = ran_clock (admits a) p k in
    let way = watched f.stamp p in
    rw i
    (record {
      before = way;
      text_is = append-nil (text_by stepwise f p) ∙ ap (λ (line : List ℕ). way ++ line) (end_line_lem f.stamp f.what q i ∙ ap end_line c);
      clock = clock_done f.what q ∙ c;
    })
closes (goes {f = f} {fs = fs} e a i r) p k =
    let q = at_stamp f p in
    let text = text_by stepwise f p in
    let c = closes r (done_by f.what q) (clock_done f.what q ∙ (ran_clock (admits a) p k ∙ sym (admits a).is_last)) in
    rw i
    (record {
      before = text ++ c.before;
      text_is = ap (λ (x : List ℕ). text ++ x) c.text_is ∙ sym (append_assoc text c.before (end_line (scores_clocks_of fs)));
      clock = c.clock;
    })

-- `E` gives the clocks that the check answers, and they were run
pub end_clocks : (s : List ℕ) (fs : List Field) → score_of s ≡ Ok fs → Closes (listing s) (played fs fresh) (scores_clocks_of fs)
unfolding listing_by
end_clocks s fs e = rw e (closes (score_chain s e).0 fresh refl)
