-- The round trip: an accepted score is the bytes of its fields, and the bytes of fields in order are a score of those
-- fields. Assumes nothing.
use Rattle.std.specs.Prelude.{Ok}
use Prim.Native.Nat.{ℕ, ◌+◌, ◌^◌, ◌≤◌, ◌<◌}
use native.Mathlib.Omega.{arith}
use mathlib.Core.List.{List, [], ◌∷◌, ◌++◌, append_assoc}
use mathlib.Core.Path.{◌≡◌, refl, ap, ap₂, sym, ◌∙◌}
use lib.ListN.{length, drop, length-drop, length-append}
use lib.Seq.{drop-drop, drop-length, get_or-drop, drop-append_seam}
use Rattle.words.proofs.Bytes.{length_bytes, byte_number, byte_first, number_bytes, bytes_number}
use Rattle.words.specs.Words.{Bytes, number_at, bytes_of}
use Rattle.score.specs.declared.Field.{Field}
use Rattle.score.specs.declared.Order.{Order}
use Rattle.score.specs.declared.What.{What}
use Rattle.score.specs.declared.What.TheVariants.{Write, Read, Levels, Watch, End}
use Rattle.score.specs.Fields.{len_of, what_of, stamped, value_of, field_at, tag_of, rest_of, written, all_written}
use Rattle.score.specs.Scores.{score_of, Chain, ends, goes}
use Rattle.score.specs.Stamps.{unstamped, InOrder, closed, opened}
use Rattle.score.proofs.Chains.{score_chain, chain_score}
use Rattle.score.proofs.Fields.{field_whole, stands, tags}
use Rattle.score.proofs.Stamps.{admits}

-- ---- a field that was read is the bytes at its place

-- what the value v of a field says
record Value (tag : ℕ) (v : List ℕ) : Type 0 where
  tag_is : tag_of (what_of tag v) ≡ tag
  bytes : v ≡ bytes_of 4 (number_at 4 v 0) ++ (rest_of (what_of tag v) ++ drop (len_of tag) v)

value_bytes : (v : List ℕ) → Bytes v → (tag : ℕ) → (len_of tag ≡ 0 → ⊥) → len_of tag ≤ length v → Value tag v
unfolding len_of what_of
value_bytes v small =
    let stamp = number_bytes v small 4 0 in
    tags (λ (tag : ℕ). len_of tag ≤ length v → Value tag v)
    (λ h. record { tag_is = refl; bytes = stamp (omega arith) ∙ rw (byte_first v 4 (omega arith), byte_first v 5 (omega arith)) })
    (λ h. record { tag_is = refl; bytes = stamp (omega arith) ∙ rw (byte_first v 4 (omega arith)) })
    (λ h. record { tag_is = refl; bytes = stamp (omega arith) })
    (λ h. record { tag_is = refl; bytes = stamp (omega arith) })
    (λ h. record { tag_is = refl; bytes = stamp (omega arith) })

-- the pieces of a field's bytes, before the bytes ys
parts : (t : ℕ) (w : What) (ys : List ℕ) → written (stamped t w) ++ ys ≡ tag_of w ∷ (bytes_of 2 (len_of (tag_of w)) ++ (bytes_of 4 t ++ (rest_of w ++ ys)))
unfolding written
parts t w ys = simp append_assoc

module _ (s : List ℕ) (small : Bytes s) where
  pub field_bytes : (at : ℕ) {f : Field} {next : ℕ} → field_at s at ≡ Ok (f, next) → drop at s ≡ written f ++ drop next s
  field_bytes at {f} {next} e =
      let st = stands s at e in
      let tag = number_at 1 s at in
      let v = drop (at + 3) s in
      let b : Value tag v = value_bytes v (λ i. rw (get_or-drop (at + 3) s i 0) (small (at + 3 + i))) tag st.whole.known (omega (arith, length-drop (at + 3) s)) in
      let t : tag_of f.what ≡ tag = ap (λ (g : Field). tag_of g.what) st.field ∙ b.tag_is in
      let p : at + 1 + 2 ≡ at + 3 = omega arith in
      let w : v ≡ bytes_of 4 f.stamp ++ (rest_of f.what ++ drop next s) = rw (st.field, st.ends, ← drop-drop (len_of tag) (at + 3) s) b.bytes in
      rw (parts f.stamp f.what (drop next s), t, byte_first s at (omega arith), number_bytes s small 2 (at + 1) (omega arith), st.whole.says, p)
      (ap (λ (x : List ℕ). tag ∷ (bytes_of 2 (len_of tag) ++ x)) w)

-- ---- a field that was written is read back

-- how long a field's bytes are
pub record Shape (t : ℕ) (w : What) : Type 0 where
  pub four : 4 ≤ len_of (tag_of w)
  pub six : len_of (tag_of w) ≤ 6
  pub long : length (written (stamped t w)) ≡ 3 + len_of (tag_of w)

pub shape : (t : ℕ) (w : What) → Shape t w
unfolding len_of written bytes_of
shape t (Write a v) = record { four = omega arith; six = omega arith; long = refl }
shape t (Read a) = record { four = omega arith; six = omega arith; long = refl }
shape t Levels = record { four = omega arith; six = omega arith; long = refl }
shape t Watch = record { four = omega arith; six = omega arith; long = refl }
shape t End = record { four = omega arith; six = omega arith; long = refl }

module _ (ys : List ℕ) where
  abbrev value : ℕ → What → List ℕ
  value t w = bytes_of 4 t ++ (rest_of w ++ ys)

  stamp_back : (t : ℕ) (w : What) → t < 2 ^ 32 → number_at 4 (value t w) 0 ≡ t
  stamp_back t w = bytes_number (value t w) 4 0 t (rest_of w ++ ys) refl (omega (arith, length-append (bytes_of 4 t) (rest_of w ++ ys), length_bytes 4 t))

  what_back : (t : ℕ) (w : What) → what_of (tag_of w) (value t w) ≡ w
  unfolding what_of bytes_of
  what_back t (Write a v) = rw (byte_number (value t (Write a v)) 4 (omega arith), byte_number (value t (Write a v)) 5 (omega arith))
  what_back t (Read a) = rw (byte_number (value t (Read a)) 4 (omega arith))
  what_back t Levels = refl
  what_back t Watch = refl
  what_back t End = refl

  pub field_back : (s : List ℕ) (at : ℕ) (f : Field) → f.stamp < 2 ^ 32 → drop at s ≡ written f ++ ys → field_at s at ≡ Ok (f, at + length (written f))
  unfolding bytes_of
  field_back s at f l e =
      let w = f.what in
      let v = value f.stamp w in
      let sh = shape f.stamp w in
      let n = len_of (tag_of w) in
      let d : drop at s ≡ tag_of w ∷ (bytes_of 2 n ++ v) = e ∙ parts f.stamp w ys in
      let long : length s ≡ at + length (written f) + length ys = omega (arith, length-drop at s, ap length e, length-append (written f) ys) in
      let t : number_at 1 s at ≡ tag_of w = cc (byte_first s at (omega arith)) in
      let says : number_at 2 s (at + 1) ≡ n = bytes_number s 2 (at + 1) n v (sym (drop-drop 1 at s) ∙ ap (drop 1) d) (omega arith) (omega arith) in
      let rest : drop (at + 3) s ≡ v = sym (drop-drop 3 at s) ∙ ap (drop 3) d in
      field_whole s at (omega arith) (ap len_of (sym t)) (λ z. omega arith) says (omega arith)
      ∙ ap₂ (λ (g : Field) (n : ℕ). Ok (g, n)) (ap₂ value_of t rest ∙ ap₂ stamped (stamp_back f.stamp w l) (what_back f.stamp w)) (omega arith)

-- ---- scores

chain_bytes : {s : List ℕ} {at : ℕ} {o : Order} {fs : List Field} → Bytes s → Chain s at o fs → drop at s ≡ all_written fs
unfolding all_written
chain_bytes {s} {at} small (ends e a i) = field_bytes s small at e ∙ rw drop-length
chain_bytes {s} {at} small (goes e a i r) = field_bytes s small at e ∙ rw (chain_bytes small r)

pub chain_order : {s : List ℕ} {at : ℕ} {o : Order} {fs : List Field} → Chain s at o fs → InOrder o fs
chain_order (ends e a i) = closed a i
chain_order (goes e a i r) = opened a i (chain_order r)

-- an accepted score is the bytes of its fields, which are in order
pub score_bytes : {s : List ℕ} {fs : List Field} → Bytes s → score_of s ≡ Ok fs → (s ≡ all_written fs) × InOrder unstamped fs × (length s ≤ 65536)
score_bytes {s} small e = let c = score_chain s e in (chain_bytes small c.0, chain_order c.0, c.1)

order_chain : {o : Order} {fs : List Field} → InOrder o fs → (s : List ℕ) (at : ℕ) → drop at s ≡ all_written fs → Chain s at o fs
unfolding all_written
order_chain (closed {f = f} a i) s at e =
    let l = (admits a).not_over in
    let sh = shape f.stamp f.what in
    let q : at + length (written f) ≡ length s = omega (arith, length-drop at s, ap length e, length-append (written f) []) in
    ends (field_back [] s at f (omega arith) e ∙ ap (λ (n : ℕ). Ok (f, n)) q) a i
order_chain (opened {f = f} {fs = fs} a i r) s at e =
    let l = (admits a).not_over in
    goes (field_back (all_written fs) s at f (omega arith) e) a i
    (order_chain r s (at + length (written f)) (sym (drop-drop (length (written f)) at s) ∙ (ap (drop (length (written f))) e ∙ drop-append_seam (written f) (all_written fs))))

-- fields in order, written, are read back
pub score_back : {fs : List Field} → InOrder unstamped fs → length (all_written fs) ≤ 65536 → score_of (all_written fs) ≡ Ok fs
score_back {fs} r h = chain_score (order_chain r (all_written fs) 0 refl) h
