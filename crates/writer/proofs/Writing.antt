-- A score built by calls and closed by an end is accepted and read back as the fields that were taken; the fields of an
-- accepted score, written again, are all taken and give its bytes; after the end nothing is taken; a refused call is as
-- if it had not been made. Assumes nothing.
use Rattle.std.specs.Prelude.{Ok, Err}
use Prim.Native.Nat.{ℕ, suc, ◌+◌, ◌≤◌}
use native.Mathlib.Nat.{zero-add, add-zero, add-suc, suc-add}
use native.Mathlib.Omega.{arith}
use mathlib.Core.Bool.{Bool, true, false}
use mathlib.Core.List.{List, [], ◌∷◌, ◌++◌, append_assoc}
use mathlib.Core.Path.{◌≡◌, refl, ap, sym, subst, ◌∙◌}
use lib.ListN.{length, set, take, drop, length-append}
use lib.Seq.{sets, sets-eq, length-sets, length-take-le, take_at, drop_at, take-append_seam, drop-append_seam}
use Rattle.refusals.specs.Refusals.{refused}
use Rattle.refusals.specs.declared.Refusal.{Refusal}
use Rattle.refusals.specs.declared.Refusal.TheVariants.{AfterEnd}
use Rattle.refusals.specs.declared.Refused.{Refused}
use Rattle.score.specs.declared.Field.{Field}
use Rattle.score.specs.declared.Order.{Order}
use Rattle.score.specs.Fields.{is_end, written, all_written}
use Rattle.score.specs.Scores.{score_of, clocks_of, answer, checked, Chain}
use Rattle.score.specs.Stamps.{unstamped, admit, InOrder, closed, opened}
use Rattle.score.proofs.Chains.{score_chain}
use Rattle.score.proofs.Written.{score_bytes, score_back}
use Rattle.words.specs.Words.{Bytes}
use Rattle.writer.specs.declared.Writer.{Writer}
use Rattle.writer.specs.Writer.{Appended, refuse, past, appended, taken, buffered}
use Rattle.writer.specs.Writing.{Writing, begun, answer_to, answered, called, called_all, keep, taken_of}
use Rattle.writer.proofs.Answers.{after_end, fitting, Takes, takes}

-- ---- one call

-- an accepted call changes the bytes of its field and no other
pub field_alone
    : (l : List ℕ) (w : Writer) (f : Field) {w' : Writer}
    → appended (length l) w f ≡ Ok w'
    → (take w.at (buffered l w f) ≡ take w.at l) × (drop w.at (buffered l w f) ≡ written f ++ drop w'.at l)
unfolding buffered
field_alone l w f {w'} e =
    let t = takes e in
    let m : taken l w f (appended (length l) w f) ≡ take w.at l ++ (written f ++ drop w'.at l) = rw (e, t.reached) (sets-eq (written f) l w.at t.fits ∙ append_assoc (take w.at l) (written f) (drop (w.at + length (written f)) l)) in
    let k : length (take w.at l) ≡ w.at = length-take-le w.at l (omega (arith, t.fits)) in
    (rw m (take_at (take w.at l) _ w.at k), rw m (drop_at (take w.at l) _ w.at k))

-- a refused call changes nothing
pub refused_alone : (l : List ℕ) (w : Writer) (f : Field) {r : Refused} → appended (length l) w f ≡ Err r → buffered l w f ≡ l
unfolding buffered
refused_alone l w f e = rw e

-- nor does the writer move: it is as if the call had not been made
pub refused_untried : (d : Writing) (f : Field) {r : Refused} → answer_to d f ≡ Err r → called d f ≡ d
refused_untried d f e = rw e

-- after the end every field is refused with 10, however many are tried
pub ended_refuses : (d : Writing) → d.writer.ended ≡ true → (fs : List Field) → (called_all d fs ≡ d) × (taken_of d fs ≡ [])
unfolding called_all taken_of
ended_refuses d h [] = (refl, refl)
ended_refuses d h (f ∷ fs) = let e = after_end (length d.buffer) d.writer f h in rw e (ended_refuses d h fs)

-- ---- what calls leave

sets_append : (xs ys l : List ℕ) (i : ℕ) → sets l i (xs ++ ys) ≡ sets (sets l i xs) (i + length xs) ys
sets_append [] ys l i = rw add-zero
sets_append (a ∷ xs) ys l i = sets_append xs ys (set l i a) (suc i) ∙ rw (suc-add i (length xs), add-suc i (length xs))

record Built (d d' : Writing) (ts : List Field) : Type 0 where
  reached : d'.writer.at ≡ d.writer.at + length (all_written ts)
  bytes : d'.buffer ≡ sets d.buffer d.writer.at (all_written ts)
  short : d.writer.at ≤ 65536 → d'.writer.at ≤ 65536
  within : d.writer.at ≤ length d.buffer → d'.writer.at ≤ length d.buffer
  order : d.writer.ended ≡ false → d'.writer.ended ≡ true → InOrder d.writer.order ts

built_none : (d : Writing) → Built d d []
unfolding all_written
built_none d = record { reached = sym (add-zero _); bytes = refl; short = λ h. h; within = λ h. h; order = λ n y. let z : ◌≡◌ {A = ℕ} 0 1 = cc in absurd (omega arith) }

order_more
    : {o o' : Order} {f : Field} {ts : List Field}
    → admit o f ≡ Ok o'
    → (b : Bool)
    → is_end f.what ≡ b
    → (b ≡ true → ts ≡ [])
    → (b ≡ false → InOrder o' ts)
    → InOrder o (f ∷ ts)
order_more {o} {f = f} a true i shut more = subst (λ (ts : List Field). InOrder o (f ∷ ts)) (sym (shut refl)) (closed a i)
order_more a false i shut more = opened a i (more refl)

built : (fs : List Field) (d : Writing) → Built d (called_all d fs) (taken_of d fs)
unfolding called_all taken_of all_written
built [] d = built_none d
built (f ∷ fs) d = go (answer_to d f) refl (built fs)
  where
    go
        : (a : Appended)
        → answer_to d f ≡ a
        → ((x : Writing) → Built x (called_all x fs) (taken_of x fs))
        → Built d (called_all (answered d f a) fs) (keep f a (taken_of (answered d f a) fs))
    go (Err r) e more = more d
    go (Ok w) e more =
        let t : Takes (length d.buffer) d.writer f w = takes e in
        let x = answered d f (Ok w) in
        let b = more x in
        let ts = taken_of x fs in
        let kept = length-sets d.buffer d.writer.at (written f) in
        record {
          reached = omega (arith, b.reached, t.reached, length-append (written f) (all_written ts));
          bytes = b.bytes ∙ (ap (λ (at : ℕ). sets x.buffer at (all_written ts)) t.reached ∙ sym (sets_append (written f) (all_written ts) d.buffer d.writer.at));
          short = λ h. b.short (omega (arith, t.short, t.reached));
          within = λ h. omega (arith, b.within (omega (arith, t.fits, t.reached, kept)), kept);
          order = λ n y. order_more t.admitted (is_end f.what) refl (λ i. (ended_refuses x (t.closes ∙ i) fs).1) (λ i. b.order (t.closes ∙ i) y);
        }

-- ---- a score that is built, and closed by an end field

module _ (l : List ℕ) (fs : List Field) where
  abbrev made : Writing
  made = called_all (begun l) fs

  abbrev ts : List Field
  ts = taken_of (begun l) fs

  -- the bytes up to the place reached
  abbrev score : List ℕ
  score = take made.writer.at made.buffer

  made_bytes : made.buffer ≡ all_written ts ++ drop (length (all_written ts)) l
  made_bytes = let b = built fs (begun l) in rw (b.bytes, sets-eq (all_written ts) l 0 (omega (arith, b.reached, b.within (omega arith))), zero-add)

  score_is : score ≡ all_written ts
  score_is =
      let n : made.writer.at ≡ length (all_written ts) = omega (arith, (built fs (begun l)).reached) in
      rw (n, made_bytes) (take-append_seam (all_written ts) (drop (length (all_written ts)) l))

  -- it is accepted, and read back as the fields that were taken
  pub built_accepted : made.writer.ended ≡ true → (checked score ≡ Ok (clocks_of ts)) × Chain score 0 unstamped ts
  unfolding checked
  built_accepted h =
      let b = built fs (begun l) in
      let g : score_of score ≡ Ok ts = rw score_is (score_back (b.order refl h) (omega (arith, b.reached, b.short (omega arith)))) in
      (ap answer g, (score_chain score g).0)

-- ---- an accepted score, written again

order_taken
    : {o : Order} {fs : List Field}
    → InOrder o fs
    → (d : Writing)
    → d.writer.order ≡ o
    → d.writer.ended ≡ false
    → d.writer.at + length (all_written fs) ≤ 65536
    → d.writer.at + length (all_written fs) ≤ length d.buffer
    → (taken_of d fs ≡ fs) × ((called_all d fs).writer.ended ≡ true)
unfolding called_all taken_of all_written
order_taken (closed {o' = o'} {f = f} a i) d q n h r =
    let k = length-append (written f) [] in
    let e : answer_to d f ≡ Ok (past d.writer f o') = fitting (length d.buffer) d.writer f n (rw q a) (omega (arith, k)) (omega (arith, k)) in
    rw e (refl, i)
order_taken (opened {o' = o'} {f = f} {fs = fs} a i more) d q n h r =
    let k = length-append (written f) (all_written fs) in
    let e : answer_to d f ≡ Ok (past d.writer f o') = fitting (length d.buffer) d.writer f n (rw q a) (omega (arith, k)) (omega (arith, k)) in
    let x = answered d f (Ok (past d.writer f o')) in
    let m = order_taken more x refl i (omega (arith, k)) (omega (arith, k, length-sets d.buffer d.writer.at (written f))) in
    subst (λ (b : Appended). (keep f b (taken_of (answered d f b) fs) ≡ f ∷ fs) × ((called_all (answered d f b) fs).writer.ended ≡ true)) (sym e)
    (ap (λ (gs : List Field). f ∷ gs) m.0, m.1)

-- what an accepted score's fields, written into the buffer l, leave
pub record Again (s : List ℕ) (fs : List Field) (l : List ℕ) : Type 0 where
  pub all : taken_of (begun l) fs ≡ fs
  pub same : take (length s) (called_all (begun l) fs).buffer ≡ s
  pub others : drop (length s) (called_all (begun l) fs).buffer ≡ drop (length s) l
  pub reached : (called_all (begun l) fs).writer.at ≡ length s
  pub ended : (called_all (begun l) fs).writer.ended ≡ true

pub written_again : {s : List ℕ} {fs : List Field} → Bytes s → score_of s ≡ Ok fs → (l : List ℕ) → length s ≤ length l → Again s fs l
written_again {s} {fs} small e l h =
    let p = score_bytes small e in
    let n : length s ≡ length (all_written fs) = ap length p.0 in
    let t = order_taken p.1 (begun l) refl refl (omega (arith, p.2)) (omega arith) in
    let q : all_written (taken_of (begun l) fs) ≡ s = ap all_written t.0 ∙ sym p.0 in
    let m : (called_all (begun l) fs).buffer ≡ s ++ drop (length s) l = subst (λ (xs : List ℕ). (called_all (begun l) fs).buffer ≡ xs ++ drop (length xs) l) q (made_bytes l fs) in
    record {
      all = t.0;
      same = rw m (take-append_seam s (drop (length s) l));
      others = rw m (drop-append_seam s (drop (length s) l));
      reached = omega (arith, (built fs (begun l)).reached, ap (λ (gs : List Field). length (all_written gs)) t.0);
      ended = t.1;
    }

-- ---- after a refusal

-- with 4 or 13, or any but 10: a field that is admitted and fits is taken, as if the refused one had not been tried
pub shorter_taken
    : (d : Writing) (f g : Field) {why : Refusal} {o : Order}
    → answer_to d f ≡ refuse why d.writer.at
    → (why ≡ AfterEnd → ⊥)
    → admit d.writer.order g ≡ Ok o
    → d.writer.at + length (written g) ≤ 65536
    → d.writer.at + length (written g) ≤ length d.buffer
    → taken_of d (f ∷ g ∷ []) ≡ g ∷ []
unfolding taken_of
shorter_taken d f g {why} {o} e other a h r = rw (e, fitting (length d.buffer) d.writer g (go d.writer.ended refl) a h r)
  where
    go : (b : Bool) → d.writer.ended ≡ b → d.writer.ended ≡ false
    go true y = absurd (other (let q : refused why d.writer.at ≡ refused AfterEnd d.writer.at = cc (after_end (length d.buffer) d.writer f y) in ap (λ (t : Refused). t.why) q))
    go false n = n
