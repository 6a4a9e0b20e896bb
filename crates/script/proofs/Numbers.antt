-- `number_at`: what stands is found (`number_back`), what is found stands (`number_is`), and where nothing is found
-- nothing stands (`number_none`). One law for each way that a digit is met. Assumes nothing.
use Rattle.std.specs.Prelude.{Option, Some, None, IfSome}
use Prim.Native.Nat.{ℕ, zero, suc, ◌+◌, ◌-◌, ◌/◌, ◌%◌, ◌≤◌, ◌<◌}
use native.Mathlib.Nat.{add-zero}
use native.Mathlib.Omega.{arith}
use mathlib.Core.Bool.{Bool, true, false, cond}
use mathlib.Core.List.{List, [], ◌∷◌, ◌++◌, append_assoc}
use mathlib.Core.Path.{◌≡◌, refl, ap, sym, subst₂, ◌∙◌}
use lib.Dec.{ltb, leb, eqb}
use lib.ListN.{length, get_or, drop, length-append}
use lib.Seq.{drop-drop, get_or-drop}
use borrow.Author.Tests.{lt-ltb, le-ltb, le-leb, eq-eqb, ne_eqb, ltb-true, ltb-false, leb-true, eqb-false}
use Rattle.laws.proofs.Bools.{and_left, and_right}
use Rattle.laws.proofs.Cond.{by_test}
use Rattle.listing.specs.Text.{decimal, last_digit}
use Rattle.listing.proofs.Joins.{decimal_one, decimal_more, decimal_longer}
use Rattle.script.specs.declared.Number.{Number}
use Rattle.script.specs.Numbers.{is_digit, digit, number, grown, more, number_of, number_at, Stands}

digit_is : (b : ℕ) → 48 ≤ b → b ≤ 57 → is_digit b ≡ true
digit_is b h k = simp (le-leb 48 b h, le-leb b 57 k)

digit_from : (b : ℕ) → is_digit b ≡ true → 48 ≤ b
digit_from b e = leb-true 48 b (and_left (leb 48 b) (leb b 57) e)

digit_to : (b : ℕ) → is_digit b ≡ true → b ≤ 57
digit_to b e = leb-true b 57 (and_right (leb 48 b) (leb b 57) e)

pub digit_some : (b : ℕ) {d : ℕ} → digit b ≡ Some d → (is_digit b ≡ true) × (d ≡ b - 48)
digit_some b {d} = go (is_digit b) refl
  where
    go : (t : Bool) → is_digit b ≡ t → cond t (Some (b - 48)) None ≡ Some d → (is_digit b ≡ true) × (d ≡ b - 48)
    go true e s = (e, cc)
    go false e s = cc

pub digit_none : (b : ℕ) → digit b ≡ None → is_digit b ≡ false
digit_none b = go (is_digit b) refl
  where
    go : (t : Bool) → is_digit b ≡ t → cond t (Some (b - 48)) None ≡ None → is_digit b ≡ false
    go true e s = cc
    go false e s = e

-- ---- one digit more

module _ (limit v next : ℕ) where
  more_large : (l : List ℕ) → limit < v → more limit v next l ≡ None
  unfolding more
  more_large [] h = simp (lt-ltb limit v h)
  more_large (b ∷ l) h = simp (lt-ltb limit v h)

  module _ (h : v ≤ limit) where
    more_ends : (l : List ℕ) → is_digit (get_or l 0 0) ≡ false → more limit v next l ≡ Some (number v next)
    unfolding more
    more_ends [] e = simp (le-ltb limit v h)
    more_ends (b ∷ l) e = simp (le-ltb limit v h, e)

    more_zero : (l : List ℕ) → is_digit (get_or l 0 0) ≡ true → v ≡ 0 → more limit v next l ≡ None
    unfolding more
    more_zero [] e z = let k : ◌≡◌ {A = ℕ} 0 1 = cc in absurd (omega arith)
    more_zero (b ∷ l) e z = simp (le-ltb limit v h, e, eq-eqb v 0 z)

    more_goes
        : (l : List ℕ)
        → is_digit (get_or l 0 0) ≡ true
        → (v ≡ 0 → ⊥)
        → more limit v next l ≡ more limit (grown v (get_or l 0 0)) (next + 1) (drop 1 l)
    unfolding more
    more_goes [] e z = let k : ◌≡◌ {A = ℕ} 0 1 = cc in absurd (omega arith)
    more_goes (b ∷ l) e z = simp (le-ltb limit v h, e, ne_eqb v 0 z)

-- the byte that stands first at a place
pub here : (s : List ℕ) (i : ℕ) → get_or (drop i s) 0 0 ≡ get_or s i 0
here s i = get_or-drop i s 0 0 ∙ ap (λ (k : ℕ). get_or s k 0) (add-zero i)

-- the loop of `number_at`: how it begins, goes on and ends
module _ (limit : ℕ) (s : List ℕ) (at : ℕ) where
  pub no_digit : is_digit (get_or s at 0) ≡ false → number_at limit s at ≡ None
  unfolding number_at number_of
  no_digit e = go (drop at s) (ap is_digit (here s at) ∙ e)
    where
      go : (l : List ℕ) → is_digit (get_or l 0 0) ≡ false → number_of limit at l ≡ None
      go [] f = refl
      go (b ∷ l) f = simp f

  pub first_digit : is_digit (get_or s at 0) ≡ true → number_at limit s at ≡ more limit (get_or s at 0 - 48) (at + 1) (drop (at + 1) s)
  unfolding number_at number_of
  first_digit e = go (drop at s) (ap is_digit (here s at) ∙ e) ∙ rw (here s at, drop-drop 1 at s)
    where
      go : (l : List ℕ) → is_digit (get_or l 0 0) ≡ true → number_of limit at l ≡ more limit (get_or l 0 0 - 48) (at + 1) (drop 1 l)
      go [] f = let k : ◌≡◌ {A = ℕ} 0 1 = cc in absurd (omega arith)
      go (b ∷ l) f = simp f

  module _ (v next : ℕ) (kept : more limit v next (drop next s) ≡ number_at limit s at) where
    pub too_large : limit < v → None ≡ number_at limit s at
    too_large h = sym (more_large limit v next (drop next s) h) ∙ kept

    module _ (h : v ≤ limit) where
      pub number_ends : is_digit (get_or s next 0) ≡ false → Some (number v next) ≡ number_at limit s at
      number_ends e = sym (more_ends limit v next h (drop next s) (ap is_digit (here s next) ∙ e)) ∙ kept

      module _ (e : is_digit (get_or s next 0) ≡ true) where
        pub leading_zero : v ≡ 0 → None ≡ number_at limit s at
        leading_zero z = sym (more_zero limit v next h (drop next s) (ap is_digit (here s next) ∙ e) z) ∙ kept

        pub digit_more : (v ≡ 0 → ⊥) → more limit (grown v (get_or s next 0)) (next + 1) (drop (next + 1) s) ≡ number_at limit s at
        digit_more z =
            rw (← here s next, ← drop-drop 1 next s)
            (sym (more_goes limit v next h (drop next s) (ap is_digit (here s next) ∙ e) z) ∙ kept)

-- ---- what stands is found

decimal_length : (n : ℕ) → n < 10 → length (decimal n) ≡ 1
decimal_length n h = ap length (decimal_one n h)

module _ (limit at : ℕ) where
  -- through all digits of n, whatever stands after them
  through : (k n : ℕ) → n < k → n ≤ limit → (t : List ℕ) → number_of limit at (decimal n ++ t) ≡ more limit n (at + length (decimal n)) t
  unfolding number_of
  through zero n h l t = absurd (omega arith)
  through (suc k) n h l t = go (ltb n 10) refl (through k (n / 10))
    where
      go
          : (b : Bool)
          → ltb n 10 ≡ b
          → (n / 10 < k → n / 10 ≤ limit → (u : List ℕ) → number_of limit at (decimal (n / 10) ++ u) ≡ more limit (n / 10) (at + length (decimal (n / 10))) u)
          → number_of limit at (decimal n ++ t) ≡ more limit n (at + length (decimal n)) t
      go true e f =
          let small = ltb-true n 10 e in
          let worth : 48 + n % 10 - 48 ≡ n = omega arith in
          rw (decimal_length n small, decimal_one n small) (simp (digit_is (48 + n % 10) (omega arith) (omega arith), worth))
      go false e f =
          let big = ltb-false n 10 e in
          let d = 48 + n % 10 in
          let worth : grown (n / 10) d ≡ n = omega arith in
          let place : at + length (decimal (n / 10)) + 1 ≡ at + length (decimal n) = omega (arith, decimal_longer n big) in
          ap (λ (x : List ℕ). number_of limit at (x ++ t)) (decimal_more n big)
          ∙ ap (number_of limit at) (append_assoc (decimal (n / 10)) (last_digit n) t)
          ∙ f (omega arith) (omega arith) (d ∷ t)
          ∙ more_goes limit (n / 10) (at + length (decimal (n / 10))) (omega arith) (d ∷ t) (digit_is d (omega arith) (omega arith)) (λ z. omega arith)
          ∙ rw (worth, place)

pub number_back : {s : List ℕ} {at n next : ℕ} (limit : ℕ) → n ≤ limit → Stands s at n next → number_at limit s at ≡ Some (number n next)
unfolding number_at
number_back {s} {at} {n} {next} limit h st =
    ap (number_of limit at) st.digits
    ∙ through limit at (suc n) n (omega arith) h (drop next s)
    ∙ more_ends limit n (at + length (decimal n)) h (drop next s) (ap is_digit (here s next) ∙ st.ends)
    ∙ ap (λ (k : ℕ). Some (number n k)) (sym st.place)

-- where none is found, no number stands
pub number_none : (limit : ℕ) (s : List ℕ) (at n next : ℕ) → number_at limit s at ≡ None → n ≤ limit → Stands s at n next → ⊥
number_none limit s at n next e h st = let found = number_back limit h st in cc

-- ---- what is found stands

-- a digit more is a digit more of the text
decimal_grown : (v b : ℕ) → (v ≡ 0 → ⊥) → is_digit b ≡ true → decimal (grown v b) ≡ decimal v ++ (b ∷ [])
decimal_grown v b z e =
    let from = digit_from b e in
    let to = digit_to b e in
    let ten : grown v b / 10 ≡ v = omega arith in
    let last : 48 + grown v b % 10 ≡ b = omega arith in
    decimal_more (grown v b) (omega arith) ∙ rw (ten, last)

-- what number_at's answer r says if it is the number n up to `next`
abbrev Found : ℕ → List ℕ → ℕ → ℕ → ℕ → Option Number → Type 0
Found limit s at n next r = r ≡ Some (number n next) → Stands s at n next × (n ≤ limit)

module _ (limit : ℕ) (s : List ℕ) (at n next : ℕ) where
  none_found : Found limit s at n next None
  none_found e = cc

  end_found
      : (v i : ℕ)
      → v ≤ limit
      → drop at s ≡ decimal v ++ drop i s
      → i ≡ at + length (decimal v)
      → is_digit (get_or s i 0) ≡ false
      → Found limit s at n next (Some (number v i))
  end_found v i h d p e q =
      let same : number v i ≡ number n next = cc in
      let value : v ≡ n = ap (λ (r : Number). r.value) same in
      let place : i ≡ next = ap (λ (r : Number). r.next) same in
      (subst₂ (λ (x y : ℕ). Stands s at x y) value place (record { digits = d; place = p; ends = e }), omega arith)

  more_found
      : (l : List ℕ) (v i : ℕ)
      → drop i s ≡ l
      → drop at s ≡ decimal v ++ l
      → i ≡ at + length (decimal v)
      → Found limit s at n next (more limit v i l)
  unfolding more
  more_found [] v i t d p =
      let P = Found limit s at n next in
      let last : is_digit (get_or s i 0) ≡ false = ap is_digit (sym (here s i) ∙ ap (λ (x : List ℕ). get_or x 0 0) t) in
      by_test P (ltb limit v) _ _ (λ _. none_found) (λ h. end_found v i (ltb-false limit v h) (rw t d) p last)
  more_found (b ∷ l) v i t d p =
      let P = Found limit s at n next in
      let first : get_or s i 0 ≡ b = sym (here s i) ∙ ap (λ (x : List ℕ). get_or x 0 0) t in
      by_test P (ltb limit v) _ _ (λ _. none_found)
      (λ h. by_test P (is_digit b) _ _
      (λ e. by_test P (eqb v 0) _ _ (λ _. none_found)
      (λ z.
      let text = decimal_grown v b (eqb-false v 0 z) e in
      more_found l (grown v b) (i + 1) (sym (drop-drop 1 i s) ∙ ap (drop 1) t)
      (d ∙ (sym (append_assoc (decimal v) (b ∷ []) l) ∙ ap (λ (x : List ℕ). x ++ l) (sym text)))
      (omega (arith, ap length text, length-append (decimal v) (b ∷ [])))))
      (λ e. end_found v i (ltb-false limit v h) (rw t d) p (ap is_digit first ∙ e)))

-- a digit is the text of what it is worth
decimal_digit : (b : ℕ) → is_digit b ≡ true → decimal (b - 48) ≡ b ∷ []
decimal_digit b e =
    let from = digit_from b e in
    let to = digit_to b e in
    let last : 48 + (b - 48) % 10 ≡ b = omega arith in
    decimal_one (b - 48) (omega arith) ∙ rw last

pub number_is
    : (limit : ℕ) (s : List ℕ) (at n next : ℕ)
    → number_at limit s at ≡ Some (number n next)
    → Stands s at n next × (n ≤ limit)
unfolding number_at number_of
number_is limit s at n next = go (drop at s) refl
  where
    go : (l : List ℕ) → drop at s ≡ l → Found limit s at n next (number_of limit at l)
    go [] t = none_found limit s at n next
    go (b ∷ l) t =
        by_test (Found limit s at n next) (is_digit b) _ _
        (λ e.
        let text = decimal_digit b e in
        more_found limit s at n next l (b - 48) (at + 1) (sym (drop-drop 1 at s) ∙ ap (drop 1) t)
        (t ∙ ap (λ (x : List ℕ). x ++ l) (sym text)) (omega (arith, ap length text)))
        (λ _. none_found limit s at n next)

-- ---- every number found is within the limit

abbrev pub Within : ℕ → Option Number → Type 0
Within limit r = IfSome r (λ n. n.value ≤ limit)

more_within : (limit : ℕ) (l : List ℕ) (v next : ℕ) → Within limit (more limit v next l)
unfolding more
more_within limit [] v next = by_test (Within limit) (ltb limit v) _ _ (λ _. tt) (λ h. ltb-false limit v h)
more_within limit (b ∷ l) v next =
    by_test (Within limit) (ltb limit v) _ _ (λ _. tt)
    (λ h. by_test (Within limit) (is_digit b) _ _
    (λ _. by_test (Within limit) (eqb v 0) _ _ (λ _. tt) (λ _. more_within limit l (grown v b) (next + 1)))
    (λ _. ltb-false limit v h))

pub number_within : (limit : ℕ) (s : List ℕ) (at : ℕ) → Within limit (number_at limit s at)
unfolding number_at number_of
number_within limit s at = go (drop at s)
  where
    go : (l : List ℕ) → Within limit (number_of limit at l)
    go [] = tt
    go (b ∷ l) = by_test (Within limit) (is_digit b) _ _ (λ _. more_within limit l (b - 48) (at + 1)) (λ _. tt)
