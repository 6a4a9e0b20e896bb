-- An array that `from_fn` makes is `build` of the rule that each call of its closure follows, where a call leaves the
-- closure as it is. Assumes nothing.
use mathlib.Core.Path.{◌≡◌, ap, sym, subst, ◌∙◌}
use mathlib.Core.List.{List, [], ◌∷◌, ◌++◌}
use mathlib.Core.Logic.{inl, inr}
use Prim.Native.Nat.{ℕ, zero, suc, ◌+◌, ◌<◌, ◌≤◌}
use native.Mathlib.Omega.{arith}
use native.Mathlib.Nat.{add-zero, add-suc, eq-or-lt_of_le}
use Rattle.std.proofs.Common.{append-nil, append_assoc}
use lib.ListN.{get_or}
use denote.Param.Members.{Mut, Called}
use Rattle.std.specs.Array.{IsFromFnResult, IsFromFnResultFrom}
use Rattle.std.proofs.lemmas.List.{ext_get_or}
use Rattle.laws.specs.Build.{build}
use Rattle.laws.proofs.Build.{length_build, build_at}

module _ {F A : Type 0} (g : Mut F (ℕ × Unit {0}) A) (rule : ℕ → A) (n : ℕ) where
  -- every call at an index below n gives what the rule says there, and leaves the closure f as it is
  abbrev pub Follows : F → Type 0
  Follows f = (k : ℕ) (x : A) (q : F) → k < n → Called g f (k, tt) x q → (x ≡ rule k) × (q ≡ f)

  follows_at
      : (l : List A) (d : A) (f : F) (i m : ℕ) → i + m ≤ n → Follows f → IsFromFnResultFrom g f l i m → (k : ℕ) → i ≤ k → k < i + m → get_or l k d ≡ rule k
  follows_at l d f i zero b w r k h e = absurd (omega arith)
  follows_at l d f i (suc m) b w r k h e =
      let call = w i r.1 r.0 (omega arith) r.3 in
      elim (eq-or-lt_of_le h) [
        | inl q ↦ subst (λ (j : ℕ). get_or l j d ≡ rule j) q (r.2.1 d ∙ call.0)
        | inr q ↦ follows_at l d r.0 (i + 1) m (omega arith) (subst Follows (sym call.1) w) r.4 k (omega arith) (omega arith)
      ]

  pub from_fn_builds : (l : List A) (d : A) (f : F) → IsFromFnResult g f l n → Follows f → l ≡ build rule n
  from_fn_builds l d f made w =
      ext_get_or d l (build rule n) (made.long ∙ sym (length_build rule n))
      (λ k h. follows_at l d f 0 n (omega arith) w made.each k (omega arith) (omega (arith, made.long)) ∙ sym (build_at rule n k d (omega (arith, made.long))))

-- m entries more, put behind the first a
pub build_on : {A : Type 0} (f : ℕ → A) (a m : ℕ) → build f a ++ build (λ k. f (a + k)) m ≡ build f (a + m)
unfolding build
build_on f a zero = rw add-zero (append-nil (build f a))
build_on f a (suc m) = rw (add-suc, ← append_assoc) (ap (λ l. l ++ (f (a + m) ∷ [])) (build_on f a m))
