-- An accepted score that is cut is refused at the cut: with 11 between two fields, with 5 in a header, with 12 in a
-- value. Assumes nothing.
use Rattle.std.specs.Prelude.{Ok}
use Prim.Native.Nat.{ℕ, ◌+◌, ◌-◌, ◌≤◌, ◌<◌}
use native.Mathlib.Omega.{arith}
use mathlib.Core.Bool.{Bool, true, false}
use mathlib.Core.List.{List}
use mathlib.Core.Path.{◌≡◌, refl, subst, sym, ◌∙◌}
use lib.Dec.{ltb, eqb}
use lib.ListN.{length, drop, take, length-drop}
use lib.Seq.{length-take-le, get_or-take, get_or-drop}
use borrow.Author.Tests.{ltb-true, ltb-false, eqb-true, eqb-false}
use Rattle.laws.proofs.Cond.{by_test}
use Rattle.words.proofs.Words.{number_same}
use Rattle.words.specs.Words.{number_at}
use Rattle.score.specs.declared.Field.{Field}
use Rattle.score.specs.declared.Order.{Order}
use Rattle.score.specs.Fields.{tag_at, after_at}
use Rattle.score.specs.Given.{stamp_at, Whole, Timely, Prefix, none, more, Given, row_5, row_12, row_11, missing, Cut}
use Rattle.score.specs.Scores.{score_of, Chain, ends, goes}
use Rattle.score.proofs.Chains.{score_chain}
use Rattle.score.proofs.Fields.{stands, whole_four}
use Rattle.score.proofs.Given.{given_refused, prefix_more}

module _ (s : List ℕ) (n : ℕ) (h : n ≤ length s) where
  abbrev left : List ℕ
  left = take n s

  long : length left ≡ n
  long = length-take-le n s h

  number_left : (k at : ℕ) → at + k ≤ n → number_at k left at ≡ number_at k s at
  number_left k at l = number_same left s k at at (omega (arith, long)) (omega arith) (λ m i. get_or-take n s (at + m) 0 (omega arith))

  stamp_left : (at : ℕ) → at + 7 ≤ n → stamp_at left at ≡ stamp_at s at
  stamp_left at l =
      number_same (drop (at + 3) left) (drop (at + 3) s) 4 0 0 (omega (arith, long, length-drop (at + 3) left)) (omega (arith, length-drop (at + 3) s))
      (λ m i. get_or-drop (at + 3) left (0 + m) 0 ∙ (get_or-take n s (at + 3 + (0 + m)) 0 (omega arith) ∙ sym (get_or-drop (at + 3) s (0 + m) 0)))

  -- a field that the cut leaves is read as before
  module _ {at : ℕ} (w : Whole s at) (l : after_at s at ≤ n) where
    tag_left : tag_at left at ≡ tag_at s at
    tag_left = number_left 1 at (omega arith)

    whole_left : Whole left at
    whole_left = record { known = rw tag_left w.known; says = rw (tag_left, number_left 2 (at + 1) (omega arith)) w.says; fits = rw (tag_left, long) l }

    timely_left : {o : Order} → Timely s at o → Timely left at o
    timely_left t =
        let e = stamp_left at (omega (arith, whole_four w)) in
        record { not_over = rw e t.not_over; not_below = rw e t.not_below; not_used = rw (tag_left, e) t.not_used }

  prefix_left : {at : ℕ} {o : Order} → Prefix s at o → at ≤ n → Prefix left at o
  prefix_left (none short) l = none (omega (arith, long))
  prefix_left (more {at} {o} p w t e) l =
      rw (← tag_left w l, ← stamp_left at (omega (arith, whole_four w)))
      (more (prefix_left p (omega arith)) (whole_left w l) (timely_left w l t) (λ z. e (sym (tag_left w l) ∙ z)))

  -- a cut before or in a whole field, which stands after fields that are past all checks
  pub given_missing : {at : ℕ} {o : Order} → Prefix s at o → Whole s at → at ≤ n → n < after_at s at → Given left (missing (n - at)) n
  unfolding missing
  given_missing {at} {o} p w f c =
      let q = prefix_left p f in
      by_test (λ (number : ℕ). Given left number n) (eqb (n - at) 0) _ _
      (λ z. let e : at ≡ n = omega (arith, eqb-true (n - at) 0 z) in
      subst (Given left 11) long (row_11 (subst (λ (k : ℕ). Prefix left k o) (e ∙ sym long) q)))
      (λ k. by_test (λ (number : ℕ). Given left number n) (ltb (n - at) 3) _ _
      (λ i. subst (Given left 5) long (row_5 q (omega (arith, long, eqb-false (n - at) 0 k)) (omega (arith, long, ltb-true (n - at) 3 i))))
      (λ i. let v : at + 3 ≤ n = omega (arith, ltb-false (n - at) 3 i) in
      let t : tag_at left at ≡ tag_at s at = number_left 1 at (omega arith) in
      subst (Given left 12) long (row_12 q (omega (arith, long)) (rw t w.known) (rw (t, number_left 2 (at + 1) (omega arith)) w.says) (rw (t, long) c))))

module _ {s : List ℕ} {n : ℕ} (h : n < length s) where
  cut_at : {at : ℕ} {o : Order} → Prefix s at o → Whole s at → at ≤ n → n < after_at s at → Cut s n
  cut_at {at} {o} p w l c =
      record { tag = at; order = o; before = p; whole = w; begins = l; ends = c; told = given_refused (given_missing s n (omega arith) p w l c) }

  chain_cut : {at : ℕ} {o : Order} {fs : List Field} → Chain s at o fs → Prefix s at o → at ≤ n → Cut s n
  chain_cut {at} (ends e a i) p l = let st = stands s at e in cut_at p st.whole l (omega (arith, st.ends))
  chain_cut {at} (goes {next = next} e a i r) p l = go (ltb n (after_at s at)) refl (chain_cut r (prefix_more p e a i))
    where
      go : (b : Bool) → ltb n (after_at s at) ≡ b → (next ≤ n → Cut s n) → Cut s n
      go true c rest = cut_at p (stands s at e).whole l (ltb-true _ _ c)
      go false c rest = rest (omega (arith, (stands s at e).ends, ltb-false n (after_at s at) c))

-- an accepted score, cut anywhere
pub cut_refused : {s : List ℕ} {fs : List Field} → score_of s ≡ Ok fs → {n : ℕ} → n < length s → Cut s n
cut_refused {s} e h = let c = score_chain s e in chain_cut h c.0 (none c.1) (omega arith)
