-- `admit`, one law for each way that a stamp is judged, and one over all of them; what an order that was given says.
-- Assumes nothing.
use Rattle.std.specs.Prelude.{Result, Ok, Err}
use Prim.Native.Nat.{ℕ, ◌+◌, ◌≤◌, ◌<◌}
use native.Mathlib.Omega.{arith}
use mathlib.Core.Bool.{Bool, true, false, cond, ◌&&◌}
use mathlib.Core.Path.{◌≡◌, refl}
use lib.Dec.{ltb}
use borrow.Author.Tests.{lt-ltb, le-ltb, ltb-true, ltb-false}
use Rattle.laws.proofs.Cond.{by_test}
use Rattle.refusals.specs.declared.Refusal.{Refusal}
use Rattle.refusals.specs.declared.Refusal.TheVariants.{StampTooLate, StampFalls, StampUsed}
use Rattle.score.specs.declared.Field.{Field}
use Rattle.score.specs.declared.Order.{Order}
use Rattle.score.specs.Fields.{is_access}
use Rattle.score.specs.Stamps.{following, used, admit}

module _ (o : Order) (f : Field) where
  pub too_late : 100000000 < f.stamp → admit o f ≡ Err StampTooLate
  unfolding admit
  too_late h = simp (lt-ltb 100000000 f.stamp h)

  module _ (h : f.stamp ≤ 100000000) where
    pub falls : f.stamp < o.last → admit o f ≡ Err StampFalls
    unfolding admit
    falls l = simp (le-ltb 100000000 f.stamp h, lt-ltb f.stamp o.last l)

    module _ (l : o.last ≤ f.stamp) where
      pub is_used : used o f ≡ true → admit o f ≡ Err StampUsed
      unfolding admit
      is_used u = rw (le-ltb 100000000 f.stamp h, le-ltb f.stamp o.last l, u)

      pub admitted : used o f ≡ false → {b : Bool} → is_access f.what ≡ b → admit o f ≡ Ok (record { last = f.stamp; free = cond b (f.stamp + 1) o.free })
      unfolding admit
      admitted u e = rw (le-ltb 100000000 f.stamp h, le-ltb f.stamp o.last l, u, e)

  -- an access below the first free stamp, and no other field, stands on a used one
  pub by_used
      : (P : Bool → Type 0)
      → (is_access f.what ≡ true → f.stamp < o.free → P true)
      → ((is_access f.what ≡ true → o.free ≤ f.stamp) → P false)
      → P (used o f)
  by_used P shares stands = go (is_access f.what) (ltb f.stamp o.free) refl refl
    where
      go : (a u : Bool) → is_access f.what ≡ a → ltb f.stamp o.free ≡ u → P (a && u)
      go true true e l = shares e (ltb-true _ _ l)
      go true false e l = stands (λ _. ltb-false _ _ l)
      go false u e l = stands (λ t. let z : ◌≡◌ {A = ℕ} 0 1 = cc in absurd (omega arith))

  -- what holds of every way holds of the answer
  pub by_stamp
      : (P : Result Order Refusal → Type 0)
      → (100000000 < f.stamp → P (Err StampTooLate))
      → (f.stamp ≤ 100000000 → f.stamp < o.last → P (Err StampFalls))
      → (f.stamp ≤ 100000000 → o.last ≤ f.stamp → is_access f.what ≡ true → f.stamp < o.free → P (Err StampUsed))
      → (f.stamp ≤ 100000000 → o.last ≤ f.stamp → (is_access f.what ≡ true → o.free ≤ f.stamp) → P (Ok (following o f)))
      → P (admit o f)
  unfolding admit
  by_stamp P late fall shares next =
      by_test P (ltb 100000000 f.stamp) _ _ (λ h. late (ltb-true _ _ h))
      (λ h. by_test P (ltb f.stamp o.last) _ _ (λ l. fall (ltb-false _ _ h) (ltb-true _ _ l))
      (λ l. by_used (λ (b : Bool). P (cond b (Err StampUsed) (Ok (following o f)))) (shares (ltb-false _ _ h) (ltb-false _ _ l)) (next (ltb-false _ _ h) (ltb-false _ _ l))))

-- what the order after a field says of it
pub record Admits (o : Order) (f : Field) (o' : Order) : Type 0 where
  pub not_over : f.stamp ≤ 100000000
  pub not_below : o.last ≤ f.stamp
  pub not_used : is_access f.what ≡ true → o.free ≤ f.stamp
  pub is_last : o'.last ≡ f.stamp
  pub is_free : o'.free ≡ cond (is_access f.what) (f.stamp + 1) o.free

pub admits : {o : Order} {f : Field} {o' : Order} → admit o f ≡ Ok o' → Admits o f o'
admits {o} {f} {o'} =
    by_stamp o f (λ (a : Result Order Refusal). a ≡ Ok o' → Admits o f o')
    (λ _. refuses) (λ _ _. refuses) (λ _ _ _ _. refuses)
    (λ h l u e. record { not_over = h; not_below = l; not_used = u; is_last = cc; is_free = cc })
  where
    refuses : {why : Refusal} → Err why ≡ Ok o' → Admits o f o'
    refuses e = cc
