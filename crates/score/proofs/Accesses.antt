-- In an accepted score any two accesses stand on different clocks, the later in the file on the later one. Assumes
-- nothing.
use Rattle.std.specs.Prelude.{Ok}
use Prim.Native.Nat.{ℕ, ◌+◌, ◌≤◌, ◌<◌}
use native.Mathlib.Omega.{arith}
use mathlib.Core.Bool.{Bool, true, false, cond}
use mathlib.Core.List.{List, [], ◌∷◌, ◌++◌}
use mathlib.Core.Path.{◌≡◌, refl, ap, subst, sym, ◌∙◌}
use lib.ListN.{length, length-append}
use Rattle.score.specs.declared.Field.{Field}
use Rattle.score.specs.declared.Order.{Order}
use Rattle.score.specs.Fields.{is_access}
use Rattle.score.specs.Scores.{score_of}
use Rattle.score.specs.Stamps.{admit, InOrder, closed, opened}
use Rattle.score.proofs.Chains.{score_chain}
use Rattle.score.proofs.Stamps.{Admits, admits}
use Rattle.score.proofs.Written.{chain_order}

-- the first free stamp never falls
free_grows : {o : Order} {f : Field} {o' : Order} → Admits o f o' → o.free ≤ o'.free
free_grows {o} {f} {o'} a = go (is_access f.what) a.not_used a.is_free
  where
    go : (b : Bool) → (b ≡ true → o.free ≤ f.stamp) → o'.free ≡ cond b (f.stamp + 1) o.free → o.free ≤ o'.free
    go true u e = omega (arith, u refl)
    go false u e = omega arith

-- a field of those that follow o, with the orders before and after it, and those that follow it
record Among (o : Order) (f : Field) (ys : List Field) : Type 0 where
  before : Order
  after : Order
  given : admit before f ≡ Ok after
  above : o.free ≤ before.free
  rest : (length ys ≡ 0 → ⊥) → InOrder after ys

among : {o : Order} {fs : List Field} → InOrder o fs → (xs : List Field) (f : Field) (ys : List Field) → fs ≡ xs ++ (f ∷ ys) → Among o f ys
among {o} (closed {o' = o'} {f = g} a i) [] f ys q =
    let h : g ≡ f = cc in
    let n : [] ≡ ys = cc in
    record {
      before = o;
      after = o';
      given = subst (λ (x : Field). admit o x ≡ Ok o') h a;
      above = omega arith;
      rest = λ some. absurd (some (ap length (sym n)));
    }
among (closed a i) (x ∷ xs) f ys q = absurd (omega (arith, ap length q, length-append xs (f ∷ ys)))
among {o} (opened {o' = o'} {f = g} {fs = fs} a i r) [] f ys q =
    let h : g ≡ f = cc in
    let n : fs ≡ ys = cc in
    record {
      before = o;
      after = o';
      given = subst (λ (x : Field). admit o x ≡ Ok o') h a;
      above = omega arith;
      rest = λ _. subst (InOrder o') n r;
    }
among {o} (opened a i r) (x ∷ xs) f ys q =
    let m = among r xs f ys (cc) in
    record { before = m.before; after = m.after; given = m.given; above = omega (arith, free_grows (admits a), m.above); rest = m.rest }

module _ (xs : List Field) (f : Field) (ys : List Field) (g : Field) (zs : List Field) where
  abbrev both : List Field
  both = xs ++ (f ∷ (ys ++ (g ∷ zs)))

  module _ (first : is_access f.what ≡ true) (second : is_access g.what ≡ true) where
    pub in_order_apart : {o : Order} → InOrder o both → f.stamp < g.stamp
    in_order_apart r =
        let m = among r xs f (ys ++ (g ∷ zs)) refl in
        let n = among (m.rest (λ z. omega (arith, length-append ys (g ∷ zs)))) ys g zs refl in
        let e : m.after.free ≡ f.stamp + 1 = (admits m.given).is_free ∙ ap (λ (b : Bool). cond b (f.stamp + 1) m.before.free) first in
        omega (arith, n.above, (admits n.given).not_used second)

    pub accesses_apart : (s : List ℕ) → score_of s ≡ Ok both → f.stamp < g.stamp
    accesses_apart s e = in_order_apart (chain_order (score_chain s e).0)
