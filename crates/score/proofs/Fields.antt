-- `field_at`, one law for each way that a field is read, and one over all of them; what a field that was read says of
-- its place, and what a place says of the field that is read there. Assumes nothing.
use Rattle.score.specs.declared.What.{What}
use Rattle.std.specs.Prelude.{Option, Some, None, Ok, Err}
use Prim.Native.Nat.{ℕ, ◌+◌, ◌≤◌, ◌<◌}
use native.Mathlib.Omega.{arith}
use mathlib.Core.Bool.{true, not, ◌||◌}
use mathlib.Core.List.{List}
use mathlib.Core.Path.{◌≡◌, refl, ap, subst, sym}
use lib.Dec.{ltb, eqb}
use lib.ListN.{length, drop}
use borrow.Author.Tests.{lt-ltb, le-ltb, eq-eqb, ne_eqb, ltb-true, ltb-false, eqb-true, eqb-false, not-true, not-false}
use Rattle.laws.proofs.Cond.{by_test}
use Rattle.refusals.specs.declared.Refusal.TheVariants.{HeaderCut, UnknownTag, FieldLength, ValueCut}
use Rattle.refusals.specs.declared.Refused.{Refused}
use Rattle.score.specs.declared.Field.{Field}
use Rattle.score.specs.Fields.{FieldRead, len_of, what_of, refuse, tag_at, said_at, len_at, value_at, after_at, field_at, tag_of, known_what, is_end, is_access}
use Rattle.score.specs.Given.{access_at, Whole}

module _ (s : List ℕ) (at : ℕ) where
  pub header_cut : length s < at + 3 → field_at s at ≡ refuse HeaderCut (length s)
  unfolding field_at
  header_cut h = simp (lt-ltb (length s) (at + 3) h)

  module _ (h : at + 3 ≤ length s) {n : ℕ} (len : n ≡ len_at s at) where
    pub tag_unknown : n ≡ 0 → field_at s at ≡ refuse UnknownTag at
    unfolding field_at
    tag_unknown z = simp (le-ltb (length s) (at + 3) h, sym len, eq-eqb n 0 z)

    module _ (k : n ≡ 0 → ⊥) where
      pub length_wrong : (said_at s at ≡ n → ⊥) → field_at s at ≡ refuse FieldLength at
      unfolding field_at
      length_wrong w = simp (le-ltb (length s) (at + 3) h, sym len, ne_eqb n 0 k, ne_eqb (said_at s at) n w)

      module _ (e : said_at s at ≡ n) where
        pub value_cut : length s < at + 3 + n → field_at s at ≡ refuse ValueCut (length s)
        unfolding field_at
        value_cut c = simp (le-ltb (length s) (at + 3) h, sym len, ne_eqb n 0 k, eq-eqb (said_at s at) n e, lt-ltb (length s) (at + 3 + n) c)

        pub field_whole : at + 3 + n ≤ length s → field_at s at ≡ Ok (value_at s at, at + 3 + n)
        unfolding field_at
        field_whole f = simp (le-ltb (length s) (at + 3) h, sym len, ne_eqb n 0 k, eq-eqb (said_at s at) n e, le-ltb (length s) (at + 3 + n) f)

  -- what holds of every way holds of what is read
  pub by_field
      : (P : FieldRead → Type 0)
      → (length s < at + 3 → P (refuse HeaderCut (length s)))
      → (at + 3 ≤ length s → len_at s at ≡ 0 → P (refuse UnknownTag at))
      → (at + 3 ≤ length s → (len_at s at ≡ 0 → ⊥) → (said_at s at ≡ len_at s at → ⊥) → P (refuse FieldLength at))
      → (at + 3 ≤ length s → (len_at s at ≡ 0 → ⊥) → said_at s at ≡ len_at s at → length s < after_at s at → P (refuse ValueCut (length s)))
      → (Whole s at → P (Ok (value_at s at, after_at s at)))
      → P (field_at s at)
  unfolding field_at
  by_field P header tag len value whole =
      by_test P (ltb (length s) (at + 3)) _ _ (λ h. header (ltb-true _ _ h))
      (λ h. by_test P (eqb (len_at s at) 0) _ _ (λ k. tag (ltb-false _ _ h) (eqb-true _ _ k))
      (λ k. by_test P (not (eqb (said_at s at) (len_at s at))) _ _
      (λ e. len (ltb-false _ _ h) (eqb-false _ _ k) (eqb-false _ _ (not-true _ e)))
      (λ e. by_test P (ltb (length s) (after_at s at)) _ _
      (λ c. value (ltb-false _ _ h) (eqb-false _ _ k) (eqb-true _ _ (not-false _ e)) (ltb-true _ _ c))
      (λ c. whole (record { known = eqb-false _ _ k; says = eqb-true _ _ (not-false _ e); fits = ltb-false _ _ c })))))

-- what a field that was read says of its place
pub record Stands (s : List ℕ) (at : ℕ) (f : Field) (next : ℕ) : Type 0 where
  pub whole : Whole s at
  pub field : f ≡ value_at s at
  pub ends : next ≡ after_at s at

module _ (s : List ℕ) (at : ℕ) {f : Field} {next : ℕ} where
  unread : {r : Refused} → ◌≡◌ {A = FieldRead} (Err r) (Ok (f, next)) → Stands s at f next
  unread e = cc

  pub stands : field_at s at ≡ Ok (f, next) → Stands s at f next
  stands =
      by_field s at (λ (r : FieldRead). r ≡ Ok (f, next) → Stands s at f next)
      (λ _. unread) (λ _ _. unread) (λ _ _ _. unread) (λ _ _ _ _. unread)
      (λ w g. let e : ◌≡◌ {A = Field × ℕ} (f, next) (value_at s at, after_at s at) = cc in
      record { whole = w; field = ap (λ (p : Field × ℕ). p.0) e; ends = ap (λ (p : Field × ℕ). p.1) e })

-- a known tag is one of five
pub tags : (P : ℕ → Type 0) → P 0x01 → P 0x02 → P 0x03 → P 0x04 → P 0x7f → (tag : ℕ) → (len_of tag ≡ 0 → ⊥) → P tag
unfolding len_of
tags P write read levels watch end tag =
    let by = by_test (λ (n : ℕ). (n ≡ 0 → ⊥) → P tag) in
    by (eqb tag 0x01) 6 _ (λ t _. is 0x01 t write)
    (λ _. by (eqb tag 0x02) 5 _ (λ t _. is 0x02 t read)
    (λ _. by (eqb tag 0x03) 4 _ (λ t _. is 0x03 t levels)
    (λ _. by (eqb tag 0x04) 4 _ (λ t _. is 0x04 t watch)
    (λ _. by (eqb tag 0x7f) 4 0 (λ t _. is 0x7f t end) (λ _ k. absurd (k refl))))))
  where
    is : (n : ℕ) → eqb tag n ≡ true → P n → P tag
    is n t = subst P (sym (eqb-true tag n t))

-- what a known tag asks for has that tag
pub tag_back : (tag : ℕ) (v : List ℕ) → (len_of tag ≡ 0 → ⊥) → tag_of (what_of tag v) ≡ tag
unfolding len_of what_of
tag_back tag v = tags (λ (tag : ℕ). tag_of (what_of tag v) ≡ tag) refl refl refl refl refl tag

-- what a tag asks for, where it is known
pub known_is : (tag : ℕ) (v : List ℕ) {w : What} → known_what tag v ≡ Some w → (len_of tag ≡ 0 → ⊥) × (w ≡ what_of tag v)
known_is tag v {w} =
    by_test (λ (r : Option What). r ≡ Some w → (len_of tag ≡ 0 → ⊥) × (w ≡ what_of tag v)) (eqb (len_of tag) 0) None (Some (what_of tag v))
    (λ _ e. cc) (λ k e. (eqb-false _ _ k, cc))

module _ {s : List ℕ} {at : ℕ} (w : Whole s at) where
  pub whole_read : field_at s at ≡ Ok (value_at s at, after_at s at)
  whole_read = field_whole s at (omega (arith, w.fits)) refl w.known w.says w.fits

  pub whole_end : is_end (value_at s at).what ≡ eqb (tag_at s at) 0x7f
  unfolding what_of
  whole_end = tags (λ (tag : ℕ). is_end (what_of tag (drop (at + 3) s)) ≡ eqb tag 0x7f) refl refl refl refl refl (tag_at s at) w.known

  pub whole_access : is_access (value_at s at).what ≡ access_at s at
  unfolding what_of
  whole_access =
      tags (λ (tag : ℕ). is_access (what_of tag (drop (at + 3) s)) ≡ (eqb tag 0x01 || eqb tag 0x02)) refl refl refl refl refl (tag_at s at) w.known

  pub whole_four : 4 ≤ len_at s at
  unfolding len_of
  whole_four = tags (λ (tag : ℕ). 4 ≤ len_of tag) (omega arith) (omega arith) (omega arith) (omega arith) (omega arith) (tag_at s at) w.known
