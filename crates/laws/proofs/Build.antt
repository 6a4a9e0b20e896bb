-- `build f n` has n entries, entry k being f k; so has a list that a loop fills from the front, one store a turn.
-- `map` builds the list of f at each entry, and so does a loop that writes f x over each entry x. Assumes nothing.
use mathlib.Core.Path.{◌≡◌, refl, ap, ap₂, sym, subst⁻¹, ◌∙◌}
use mathlib.Core.List.{List, [], ◌∷◌, ◌++◌, map}
use mathlib.Core.Logic.{inl, inr}
use Prim.Native.Nat.{ℕ, zero, suc, ◌+◌, ◌≤◌, ◌<◌}
use native.Mathlib.Omega.{arith}
use native.Mathlib.Nat.{eq-or-lt_of_le, le_of_suc-le-suc, lt-suc_self, lt_trans, not-suc-le-zero}
use native.Mathlib.Numerals.{add-one}
use lib.ListN.{length, get_or, take, drop, set, length-set, length-append, get_or-append}
use Rattle.std.proofs.lemmas.List.{ext_get_or, length-map, get_or-map, append-nil, drop_all}
use lib.Seq.{take-suc-set, take_all, get_or_at}
use Rattle.laws.specs.Build.{build}

module _ {A : Type 0} (f : ℕ → A) where
  pub length_build : (n : ℕ) → length (build f n) ≡ n
  unfolding build
  length_build zero = refl
  length_build (suc n) = length-append (build f n) (f n ∷ []) ∙ ap (λ (m : ℕ). m + 1) (length_build n) ∙ add-one n

  pub build_at : (n k : ℕ) (d : A) → k < n → get_or (build f n) k d ≡ f k
  unfolding build
  build_at zero k d h = absurd (not-suc-le-zero h)
  build_at (suc n) k d h = elim (eq-or-lt_of_le (le_of_suc-le-suc h)) [
    | inl e ↦ subst⁻¹ (λ (m : ℕ). get_or (build f n ++ (f n ∷ [])) m d ≡ f m) e (get_or_at (build f n) (f n) [] d n (length_build n))
    | inr l ↦ get_or-append (build f n) (f n ∷ []) d k (omega (arith, length_build n)) ∙ build_at n k d l
  ]

  -- two rules that agree below n build the same
  pub build_same : (g : ℕ → A) (n : ℕ) → ((k : ℕ) → k < n → f k ≡ g k) → build f n ≡ build g n
  unfolding build
  build_same g zero h = refl
  build_same g (suc n) h =
      ap₂ (λ (l : List A) (x : A). l ++ (x ∷ [])) (build_same g n (λ k l. h k (lt_trans l (lt-suc_self n)))) (h n (lt-suc_self n))

  module _ (n : ℕ) where
    -- i entries of n are built
    pub record Built (l : List A) (i : ℕ) : Type 0 where
      pub within : i ≤ n
      pub whole : length l ≡ n
      pub front : take i l ≡ build f i

    pub built_none : (l : List A) → length l ≡ n → Built l 0
    unfolding build
    built_none l h = record { within = omega arith; whole = h; front = refl }

    -- a store of f i at i builds one entry more
    pub built_more : {l : List A} {i : ℕ} → Built l i → i < n → (v : A) → v ≡ f i → Built (set l i v) (i + 1)
    unfolding build
    built_more {l} {i} b h v e =
        record {
          within = omega arith;
          whole = length-set l i v ∙ b.whole;
          front = rw add-one (take-suc-set l i v (omega arith) ∙ ap₂ (λ (p : List A) (x : A). p ++ (x ∷ [])) b.front e);
        }

    pub built_all : {l : List A} {i : ℕ} → Built l i → n ≤ i → l ≡ build f n
    built_all {l} {i} b h =
        let q : i ≡ n = omega arith in
        sym (take_all i l (omega arith)) ∙ b.front ∙ ap (build f) q

    pub built_at : (l : List A) (k : ℕ) (d : A) → l ≡ build f n → k < n → get_or l k d ≡ f k
    built_at l k d e h = ap (λ (m : List A). get_or m k d) e ∙ build_at n k d h

-- f at each entry of a list, d being what stands past its end; and the list that a loop leaves which writes f x over
-- each entry x, once it has passed them all
module _ {A B : Type 0} (f : A → B) (l : List A) (d : A) (n : ℕ) (h : length l ≡ n) where
  pub build_map : map f l ≡ build (λ i. f (get_or l i d)) n
  build_map =
      ext_get_or (f d) _ _ (length-map l f ∙ h ∙ sym (length_build (λ i. f (get_or l i d)) n))
      (λ k lt.
      let below : k < length l = omega (arith, length-map l f) in
      get_or-map f l k d (f d) below ∙ sym (build_at (λ i. f (get_or l i d)) n k (f d) (omega arith)))

pub mapped_all
    : {A : Type 0} (f : A → A) (l : List A) (d : A) (n : ℕ) → length l ≡ n
    → {m : List A} {i : ℕ} → n ≤ i → m ≡ map f (take i l) ++ drop i l → m ≡ build (λ k. f (get_or l k d)) n
mapped_all f l d n h {m} {i} e w =
    let past : length l ≤ i = omega arith in
    w ∙ ap₂ (λ x y. map f x ++ y) (take_all i l past) (drop_all i l past) ∙ append-nil (map f l) ∙ build_map f l d n h
