-- A line is the line of one field at most, the one that it can mean (`meant_line`), so that comparing with that one's
-- text decides; what is answered of a field's line is the field (`line_back`). Assumes nothing.
use Rattle.std.specs.Prelude.{Option, Some, None, IfSome, IsTrue, ◌↔◌}
use Prim.Native.Nat.{ℕ, ◌+◌, ◌-◌, ◌^◌, ◌≤◌, ◌<◌}
use native.Mathlib.Omega.{arith}
use mathlib.Core.Bool.{Bool, true, false}
use mathlib.Core.List.{List, [], ◌∷◌, ◌++◌, append-nil}
use mathlib.Core.Path.{◌≡◌, refl, ap, sym, ◌∙◌}
use lib.Dec.{ltb, eqb}
use lib.ListN.{length, take, drop, get_or, length-append, length-drop}
use lib.Seq.{drop-drop, drop-append_seam, take_at, take-take}
use borrow.Author.Tests.{lt-ltb, le-leb, lt-leb}
use Rattle.laws.proofs.Cond.{by_test, either}
use Rattle.score.specs.declared.Field.{Field}
use Rattle.score.specs.declared.What.{What}
use Rattle.score.specs.declared.What.TheVariants.{Write, Read, Levels, Watch, End}
use Rattle.score.specs.Fields.{stamped}
use Rattle.listing.specs.Text.{Put, line_feed, decimal}
use Rattle.listing.specs.FieldText.{spaced_number, word_of, operands, field_text, field_line}
use Rattle.listing.proofs.Joins.{take_put}
use Rattle.script.specs.declared.Number.{Number}
use Rattle.script.specs.Numbers.{is_digit, number, number_at, Stands}
use Rattle.script.specs.Lines.{index_of, line_end, FitsWhat, Fits, LineOf, Reads, number_after, then, write_in, read_in, bare_in, meant}
use Rattle.script.proofs.Numbers.{Within, here, number_back, number_within}

-- ---- the end of a line

module _ (text : List ℕ) (at : ℕ) where
  pub end_past : length text ≤ at → length text ≡ line_end text at
  unfolding line_end
  end_past h = simp (le-leb (length text) at h)

  pub end_within : at < length text → at + index_of 10 (drop at text) ≡ line_end text at
  unfolding line_end
  end_within h = simp (lt-leb (length text) at h)

-- ---- the numbers of a line

pub after_there : (limit : ℕ) (l : List ℕ) (at : ℕ) → at < length l → number_at limit l (at + 1) ≡ number_after limit l at
unfolding number_after
after_there limit l at h = simp (lt-ltb at (length l) h)

pub after_within : (limit : ℕ) (l : List ℕ) (at : ℕ) → Within limit (number_after limit l at)
unfolding number_after
after_within limit l at = either (Within limit) (ltb at (length l)) (number_at limit l (at + 1)) None (number_within limit l (at + 1)) tt

-- a number of at most 255 is a byte
pub after_byte : (l : List ℕ) (at : ℕ) {r : Number} → number_after 255 l at ≡ Some r → r.value < 256
after_byte l at {r} e = let h : Within 255 (Some r) = rw e at (after_within 255 l at) in omega arith

-- the number n stands in l after the one byte at a place, and u after it
record After (l : List ℕ) (at n : ℕ) (u : List ℕ) (limit : ℕ) : Type 0 where
  next : ℕ
  read : number_after limit l at ≡ Some (number n next)
  rest : drop next l ≡ u

after_back
    : (l : List ℕ) (at x n : ℕ) (u : List ℕ) (limit : ℕ)
    → drop at l ≡ x ∷ (decimal n ++ u)
    → is_digit (get_or u 0 0) ≡ false
    → n ≤ limit
    → After l at n u limit
after_back l at x n u limit e ends h =
    let d = decimal n in
    let next = at + 1 + length d in
    let within : at < length l = omega (arith, length-drop at l, ap length e) in
    let there : drop (at + 1) l ≡ d ++ u = sym (drop-drop 1 at l) ∙ ap (drop 1) e in
    let rest : drop next l ≡ u = sym (drop-drop (length d) (at + 1) l) ∙ (ap (drop (length d)) there ∙ drop-append_seam d u) in
    let first : get_or l next 0 ≡ get_or u 0 0 = sym (here l next) ∙ ap (λ (y : List ℕ). get_or y 0 0) rest in
    let st : Stands l (at + 1) n next = record { digits = there ∙ ap (λ (y : List ℕ). d ++ y) (sym rest); place = refl; ends = ap is_digit first ∙ ends } in
    record { next = next; read = sym (after_there limit l at within) ∙ number_back limit h st; rest = rest }

-- ---- the field that a line can mean

module _ (l : List ℕ) where
  write_meant : {t a v : ℕ} {u w : List ℕ} → (x : After l 5 t u 0xffff_ffff) (y : After l x.next a w 255) → After l y.next v [] 255 → write_in l ≡ Some (stamped t (Write a v))
  unfolding write_in
  write_meant x y z = rw (x.read, y.read, z.read)

  read_meant : {t a : ℕ} {u : List ℕ} → (x : After l 4 t u 0xffff_ffff) → After l x.next a [] 255 → read_in l ≡ Some (stamped t (Read a))
  unfolding read_in
  read_meant x y = rw (x.read, y.read)

  bare_meant : {t : ℕ} (letters : ℕ) (what : What) → After l letters t [] 0xffff_ffff → bare_in l letters what ≡ Some (stamped t what)
  unfolding bare_in
  bare_meant letters what x = rw x.read

-- the last number of a line
last_back : (l : List ℕ) (at x n limit : ℕ) → drop at l ≡ x ∷ decimal n → n ≤ limit → After l at n [] limit
last_back l at x n limit e h = after_back l at x n [] limit (e ∙ ap (λ (y : List ℕ). x ∷ y) (sym (append-nil (decimal n)))) refl h

-- a field's text means the field
text_back : (t : ℕ) (w : What) → t < 2 ^ 32 → FitsWhat w → meant (field_text (stamped t w)) ≡ Some (stamped t w)
unfolding meant field_text word_of spaced_number operands
text_back t (Write a v) h k =
    let l = field_text (stamped t (Write a v)) in
    let x = after_back l 5 32 t (32 ∷ (decimal a ++ (32 ∷ decimal v))) 0xffff_ffff refl refl (omega arith) in
    let y = after_back l x.next 32 a (32 ∷ decimal v) 255 x.rest refl (omega (arith, k.0)) in
    write_meant l x y (last_back l y.next 32 v 255 y.rest (omega (arith, k.1)))
text_back t (Read a) h k =
    let l = field_text (stamped t (Read a)) in
    let x = after_back l 4 32 t (32 ∷ decimal a) 0xffff_ffff refl refl (omega arith) in
    read_meant l x (last_back l x.next 32 a 255 x.rest (omega arith))
text_back t Levels h k =
    let l = field_text (stamped t Levels) in
    bare_meant l 6 Levels (after_back l 6 32 t [] 0xffff_ffff refl refl (omega arith))
text_back t Watch h k =
    let l = field_text (stamped t Watch) in
    bare_meant l 5 Watch (after_back l 5 32 t [] 0xffff_ffff refl refl (omega arith))
text_back t End h k =
    let l = field_text (stamped t End) in
    bare_meant l 3 End (after_back l 3 32 t [] 0xffff_ffff refl refl (omega arith))

-- a line without its line feed
feedless : (l m : List ℕ) → l ++ line_feed ≡ m ++ line_feed → l ≡ m
feedless l m e =
    let same : length m ≡ length l = omega (arith, ap length e, length-append l line_feed, length-append m line_feed) in
    sym (take_at l line_feed (length l) refl) ∙ (ap (take (length l)) e ∙ take_at m line_feed (length l) same)

-- the line of a field is its text
line_text : {f : Field} {l : List ℕ} → LineOf f l → l ≡ field_text f
unfolding field_line
line_text {f} {l} o = feedless l (field_text f) o.line

-- the field whose line a line is, if it is any field's, is the one that it can mean
pub meant_line : {f : Field} {l : List ℕ} → LineOf f l → meant l ≡ Some f
meant_line {f} {l} o = ap meant (line_text o) ∙ text_back f.stamp f.what o.fits.stamp o.fits.what

-- a line is of one field at most
pub line_one : {f g : Field} {l : List ℕ} → LineOf f l → LineOf g l → f ≡ g
line_one o p = cc (meant_line o, meant_line p)

then_fits
    : {limit : ℕ} (r : Option Number) (go : Number → Option Field)
    → Within limit r
    → ((n : Number) → n.value ≤ limit → IfSome (go n) Fits)
    → IfSome (then r go) Fits
then_fits None go h f = tt
then_fits (Some n) go h f = f n h

module _ (l : List ℕ) where
  abbrev stamp_fits : (letters : ℕ) (go : Number → Option Field) → ((n : Number) → n.value ≤ 0xffff_ffff → IfSome (go n) Fits) → IfSome (then (number_after 0xffff_ffff l letters) go) Fits
  stamp_fits letters go = then_fits (number_after 0xffff_ffff l letters) go (after_within 0xffff_ffff l letters)

  abbrev byte_fits : (at : ℕ) (go : Number → Option Field) → ((n : Number) → n.value ≤ 255 → IfSome (go n) Fits) → IfSome (then (number_after 255 l at) go) Fits
  byte_fits at go = then_fits (number_after 255 l at) go (after_within 255 l at)

  bare_fits : (letters : ℕ) (what : What) → FitsWhat what → IfSome (bare_in l letters what) Fits
  unfolding bare_in
  bare_fits letters what h = stamp_fits letters _ (λ t k. record { stamp = omega arith; what = h })

  meant_fits : IfSome (meant l) Fits
  unfolding meant write_in read_in
  meant_fits =
      by_test (λ (r : Option Field). IfSome r Fits) (eqb (get_or l 2 0) 105) _ _
      (λ _. stamp_fits 5 _ (λ t k. byte_fits t.next _ (λ a m. byte_fits a.next _ (λ v n. record { stamp = omega arith; what = (omega arith, omega arith) }))))
      (λ _. by_test (λ (r : Option Field). IfSome r Fits) (eqb (get_or l 2 0) 97) _ _
      (λ _. stamp_fits 4 _ (λ t k. byte_fits t.next _ (λ a m. record { stamp = omega arith; what = omega arith })))
      (λ _. by_test (λ (r : Option Field). IfSome r Fits) (eqb (get_or l 2 0) 118) _ _ (λ _. bare_fits 6 Levels tt)
      (λ _. either (λ (r : Option Field). IfSome r Fits) (eqb (get_or l 2 0) 116) _ _ (bare_fits 5 Watch tt) (bare_fits 3 End tt))))

-- ---- what is answered of a line

module _ {l : List ℕ} {f : Field} {same : Bool} (is-meant : meant l ≡ Some f) (decides : IsTrue same ↔ l ≡ field_text f) where
  pub reads_got : same ≡ true → Reads l (Some f)
  unfolding field_line
  reads_got e = record { fits = rw is-meant at (meant_fits l); line = ap (λ (x : List ℕ). x ++ line_feed) (decides.0 e) }

  pub reads_other : same ≡ false → Reads l None
  reads_other e g o =
      let q : g ≡ f = cc (meant_line o) in
      let k : same ≡ true = decides.1 (line_text o ∙ ap field_text q) in
      cc

pub reads_none : {l : List ℕ} → meant l ≡ None → Reads l None
reads_none e g o = cc (meant_line o)

-- a field's line is read back
pub line_back : {f : Field} {l : List ℕ} (r : Option Field) → LineOf f l → Reads l r → r ≡ Some f
line_back (Some g) o p = ap Some (line_one p o)
line_back None o p = absurd (p _ o)

-- what is read is the field's line
pub line_is : {f : Field} (l : List ℕ) (r : Option Field) → r ≡ Some f → Reads l r → l ++ line_feed ≡ field_line f
line_is l (Some g) e o = o.line ∙ ap field_line (cc)
line_is l None e p = cc

-- ---- a field's text in the buffer that its line was put into

pub line_length : (f : Field) → length (field_line f) ≡ length (field_text f) + 1
unfolding field_line
line_length f = length-append (field_text f) line_feed

pub text_put : (f : Field) {l : List ℕ} {r : ℕ} {m : List ℕ} → Put l 0 (field_line f) r m → r ≤ length l → take (r - 1) m ≡ field_text f
unfolding field_line
text_put f {l} {r} {m} o h =
    let long = length-append (field_text f) line_feed in
    sym (take-take (r - 1) r m (omega arith)) ∙ (ap (take (r - 1)) (take_put o h) ∙ take_at (field_text f) line_feed (r - 1) (omega (arith, o.place)))
