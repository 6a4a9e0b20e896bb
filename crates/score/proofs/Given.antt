-- The check of a score gives a number exactly when document 01's table says, at the table's place. Assumes nothing.
use Rattle.std.specs.Prelude.{Result, Ok, Err}
use Prim.Native.Nat.{ℕ, zero, suc, ◌+◌, ◌≤◌, ◌<◌}
use native.Mathlib.Omega.{arith}
use mathlib.Core.Bool.{Bool, false, cond}
use mathlib.Core.List.{List, ◌∷◌}
use mathlib.Core.Logic.{◌↔◌}
use mathlib.Core.Path.{◌≡◌, refl, ap, subst, subst₂, sym, ◌∙◌}
use lib.Dec.{ltb, leb}
use lib.ListN.{length}
use borrow.Author.Tests.{lt-ltb, ltb-true, ltb-false, leb-true, leb-false, eqb-true, eqb-false, eq-eqb, ne_eqb}
use Rattle.laws.proofs.Cond.{by_test}
use Rattle.refusals.proofs.Numbers.{tells_tells}
use Rattle.refusals.specs.Refusals.{numbered, told, tells}
use Rattle.refusals.specs.declared.Refusal.{Refusal}
use Rattle.refusals.specs.declared.Refused.{Refused}
use Rattle.score.specs.declared.Field.{Field}
use Rattle.score.specs.declared.Order.{Order}
use Rattle.score.specs.Fields.{FieldRead, value_at, after_at, field_at, is_end}
use Rattle.score.specs.Given.{stamp_at, order_at, Whole, Timely, Prefix, none, more, Judged}
use Rattle.score.specs.Given.{Given, row_4, row_5, row_6, row_7, row_12, row_8, row_9, row_14, row_10, row_11}
use Rattle.score.specs.Scores.{Parsed, push, after_admit, after_read, walk, score_of, answer, checked, Chain, ends, goes}
use Rattle.score.specs.Stamps.{unstamped, following, admit}
use Rattle.score.proofs.Fields.{header_cut, tag_unknown, length_wrong, value_cut, by_field, stands, whole_read, whole_end, whole_access}
use Rattle.score.proofs.Stamps.{too_late, falls, is_used, admitted, by_used, by_stamp, admits}
use Rattle.score.proofs.Walk.{over, unread, unadmitted, surplus, Kept, kept_first, kept_more, kept_end, too_long}

-- number and place, or the clocks, tell the answer
pub verdict_tells : (a b : Result ℕ Refused) → tells a ≡ tells b → a ≡ b
verdict_tells = tells_tells

module _ {s : List ℕ} where
  prefix_short : {at : ℕ} {o : Order} → Prefix s at o → length s ≤ 65536
  prefix_short (none h) = h
  prefix_short (more p w t e) = prefix_short p

  prefix_le : {at : ℕ} {o : Order} → Prefix s at o → at ≤ length s
  prefix_le (none h) = omega arith
  prefix_le (more p w t e) = w.fits

  -- the order by the tag is the order by what the field asks for
  whole_following : {at : ℕ} (o : Order) → Whole s at → following o (value_at s at) ≡ order_at s at o
  whole_following {at} o w = ap (λ (b : Bool). record { last = stamp_at s at; free = cond b (stamp_at s at + 1) o.free }) (whole_access w)

  whole_admitted : {at : ℕ} {o : Order} → Whole s at → Timely s at o → admit o (value_at s at) ≡ Ok (order_at s at o)
  whole_admitted {at} {o} w t =
      admitted o (value_at s at) t.not_over t.not_below
      (by_used o (value_at s at) (λ (b : Bool). b ≡ false) (λ a u. absurd (omega (arith, t.not_used (sym (whole_access w) ∙ a)))) (λ _. refl))
      (whole_access w)

  -- a field that was read and admitted, and is no end, is one more of those before
  pub prefix_more
      : {at next : ℕ} {o o' : Order} {f : Field}
      → Prefix s at o
      → field_at s at ≡ Ok (f, next)
      → admit o f ≡ Ok o'
      → is_end f.what ≡ false
      → Prefix s next o'
  prefix_more {at} {next} {o} {o'} {f} p e a i =
      let st = stands s at e in
      let b : admit o (value_at s at) ≡ Ok o' = subst (λ (g : Field). admit o g ≡ Ok o') st.field a in
      let j : is_end (value_at s at).what ≡ false = subst (λ (g : Field). is_end g.what ≡ false) st.field i in
      let ok = admits b in
      let t : Timely s at o = record { not_over = ok.not_over; not_below = ok.not_below; not_used = λ x. ok.not_used (whole_access st.whole ∙ x) } in
      let q : order_at s at o ≡ o' = cc (whole_admitted st.whole t) in
      subst₂ (λ (n : ℕ) (x : Order). Prefix s n x) (sym st.ends) q (more p st.whole t (eqb-false _ _ (sym (whole_end st.whole) ∙ j)))

-- ---- where a row is given, the check gives its number

prefix_kept : {s : List ℕ} {at : ℕ} {o : Order} → Prefix s at o → Kept s at o
prefix_kept {s} (none h) = kept_first s h
prefix_kept (more p w t e) = kept_more (prefix_kept p) (whole_read w) (whole_admitted w t) (whole_end w ∙ ne_eqb _ _ e)

module _ {s : List ℕ} where
  refused_at : {at : ℕ} {o : Order} {r : Refused} → Prefix s at o → ((n : ℕ) → walk (suc n) s at o ≡ Err r) → tells (checked s) ≡ Err (told r)
  refused_at p w = ap tells (sym (kept_end (prefix_kept p) w))

  pub given_refused : {number place : ℕ} → Given s number place → tells (checked s) ≡ Err (numbered number place)
  given_refused (row_4 h) = ap tells (too_long s h)
  given_refused (row_5 p l h) = refused_at p (λ n. unread n s _ _ l (header_cut s _ h))
  given_refused (row_6 p h z) = refused_at p (λ n. unread n s _ _ (omega arith) (tag_unknown s _ h refl z))
  given_refused (row_7 p h k e) = refused_at p (λ n. unread n s _ _ (omega arith) (length_wrong s _ h refl k e))
  given_refused (row_12 p h k e c) = refused_at p (λ n. unread n s _ _ (omega arith) (value_cut s _ h refl k e c))
  given_refused (row_8 p w h) = refused_at p (λ n. unadmitted n s _ _ (whole_read w) (too_late _ _ h))
  given_refused (row_9 p w h l) = refused_at p (λ n. unadmitted n s _ _ (whole_read w) (falls _ _ h l))
  given_refused (row_14 p w h l a u) = refused_at p (λ n. unadmitted n s _ _ (whole_read w) (is_used _ _ h l (rw (whole_access w ∙ a) (lt-ltb _ _ u))))
  given_refused (row_10 p w t e l) = refused_at p (λ n. surplus n s _ _ (whole_read w) (whole_admitted w t) (whole_end w ∙ eq-eqb _ _ e) l)
  given_refused (row_11 p) = refused_at p (λ n. over n s _ _ (omega arith))

  -- the largest place: the length of the longest score
  pub place_most : {number place : ℕ} → Given s number place → place ≤ 65536
  place_most (row_4 h) = omega arith
  place_most (row_5 p l h) = prefix_short p
  place_most (row_6 p h z) = omega (arith, prefix_short p)
  place_most (row_7 p h k e) = omega (arith, prefix_short p)
  place_most (row_12 p h k e c) = prefix_short p
  place_most (row_8 p w h) = omega (arith, prefix_short p, prefix_le p)
  place_most (row_9 p w h l) = omega (arith, prefix_short p, prefix_le p)
  place_most (row_14 p w h l a u) = omega (arith, prefix_short p, prefix_le p)
  place_most (row_10 p w t e l) = omega (arith, prefix_short p)
  place_most (row_11 p) = prefix_short p

-- ---- where the check gives a number, its row is given; where it accepts, there is a chain

module _ (s : List ℕ) where
  -- what an answer of the walk from `at` on means
  abbrev pub Means : ℕ → Order → Parsed → Type 0
  Means at o (Ok fs) = Chain s at o fs × (length s ≤ 65536)
  Means at o (Err r) = Given s (told r).number (told r).place

  means_push
      : {at next : ℕ} {o o' : Order} (f : Field) (p : Parsed)
      → ((fs : List Field) → Chain s next o' fs → Chain s at o (f ∷ fs))
      → Means next o' p
      → Means at o (push f p)
  means_push f (Ok fs) g c = (g fs c.0, c.1)
  means_push f (Err r) g c = c

  module _
      (n at : ℕ) (o : Order) (p : Prefix s at o) (rest : (next : ℕ) (o' : Order) → at < next → Prefix s next o' → Means next o' (walk n s next o'))
    where
      abbrev after : Result Order Refusal → Type 0
      after a = Means at o (after_admit (walk n s) s at (value_at s at) (after_at s at) a)

      means_timely : Whole s at → Timely s at o → after (Ok (order_at s at o))
      means_timely w t =
          let e = whole_read w in
          let a = whole_admitted w t in
          by_test (Means at o) (is_end (value_at s at).what) _ _
          (λ i. by_test (Means at o) (ltb (after_at s at) (length s)) _ _
          (λ l. row_10 p w t (eqb-true _ _ (sym (whole_end w) ∙ i)) (ltb-true _ _ l))
          (λ l. let q : after_at s at ≡ length s = omega (arith, w.fits, ltb-false (after_at s at) (length s) l) in
          (ends (e ∙ ap (λ (n : ℕ). Ok (value_at s at, n)) q) a i, prefix_short p)))
          (λ i. means_push (value_at s at) (walk n s (after_at s at) (order_at s at o)) (λ fs c. goes e a i c)
          (rest (after_at s at) (order_at s at o) (omega arith) (more p w t (eqb-false _ _ (sym (whole_end w) ∙ i)))))

      means_read : at < length s → Means at o (after_read (walk n s) s at o (field_at s at))
      means_read l =
          by_field s at (λ (r : FieldRead). Means at o (after_read (walk n s) s at o r))
          (row_5 p l) (row_6 p) (row_7 p) (row_12 p)
          (λ w. by_stamp o (value_at s at) after (row_8 p w) (row_9 p w) (λ h l a. row_14 p w h l (sym (whole_access w) ∙ a))
          (λ h l u. rw (whole_following o w) (means_timely w (record { not_over = h; not_below = l; not_used = λ a. u (whole_access w ∙ a) }))))

  walk_means : (n at : ℕ) (o : Order) → Prefix s at o → length s < at + n → Means at o (walk n s at o)
  unfolding walk
  walk_means zero at o p h = absurd (omega (arith, prefix_le p))
  walk_means (suc n) at o p h =
      by_test (Means at o) (leb (length s) at) _ _
      (λ l. let e : at ≡ length s = omega (arith, prefix_le p, leb-true (length s) at l) in row_11 (subst (λ (k : ℕ). Prefix s k o) e p))
      (λ l. means_read n at o p (λ next o' g q. walk_means n next o' q (omega arith)) (leb-false _ _ l))

  pub score_means : Means 0 unstamped (score_of s)
  unfolding score_of
  score_means =
      by_test (Means 0 unstamped) (ltb 65536 (length s)) _ _ (λ h. row_4 (ltb-true _ _ h))
      (λ h. walk_means (suc (length s)) 0 unstamped (none (ltb-false _ _ h)) (omega arith))

  pub judged : Judged s (tells (checked s))
  unfolding checked
  judged = go (score_of s) score_means
    where
      go : (p : Parsed) → Means 0 unstamped p → Judged s (tells (answer p))
      go (Ok fs) m = record { short = m.1; fields = fs; chain = m.0; stamp = refl }
      go (Err r) m = m

  -- 'Given exactly when'
  pub given_exactly : (number place : ℕ) → (tells (checked s) ≡ Err (numbered number place)) ↔ Given s number place
  given_exactly number place = (λ e. subst (Judged s) e judged, given_refused)

  -- the promise of `check_score`
  pub promised : {r : Result ℕ Refused} → r ≡ checked s → (r ≡ checked s) × Judged s (tells r)
  promised e = (e, rw e judged)
