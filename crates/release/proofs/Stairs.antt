-- Runs of clocks that follow each other are stairs: what each of them keeps holds from its landing to the next, so
-- that a level steps on the landings, and until the last on no other clock. Assumes nothing.
use Prim.Native.Nat.{ℕ, zero, suc, ◌+◌, ◌-◌, ◌<◌, ◌≤◌}
use native.Mathlib.Omega.{arith}
use native.Mathlib.Decide.{dec_lt}
use mathlib.Core.Path.{◌≡◌, refl, ap, sym, ◌∙◌, subst}
use Rattle.laws.specs.Times.{times}
use Rattle.envelope.specs.declared.Envelope.{Envelope}
use Rattle.envelope.specs.Envelope.{clocks}
use Rattle.release.specs.Settled.{Runs, alone, From}
use Rattle.release.proofs.Keeps.{Keeps, after}

-- an envelope's own clocks are runs of it
pub clocks_alone : (e : Envelope) → From e (alone e)
clocks_alone e n = refl

-- and its level after n clocks is what any run of n clocks leaves
pub seen : (X : Envelope) (runs : Runs) → From X runs → (r : runs.Run) (n : ℕ) → runs.made r ≡ n → (runs.left r).volume ≡ (clocks n X).volume
seen X runs from r n q = ap (λ (x : Envelope). x.volume) (from r) ∙ ap (λ (i : ℕ). (clocks i X).volume) q

-- K steps from X: step k lands on clock g k, Q k holds from it to the next, and with the last End
pub record Stairs (Q : ℕ → Envelope → Type 0) (End : Envelope → Type 0) (g : ℕ → ℕ) (K : ℕ) (X : Envelope) : Type 0 where
  pub start : g 0 ≡ 0
  pub up : (k : ℕ) → k < K → g k < g (suc k)
  pub flat : (k : ℕ) → k < K → (n : ℕ) → g k ≤ n → n < g (suc k) → Q k (clocks n X)
  pub last : End (clocks (g K) X)

module _ {Q : ℕ → Envelope → Type 0} {End : Envelope → Type 0} {g : ℕ → ℕ} where
  pub no_stairs : {X : Envelope} → g 0 ≡ 0 → End X → Stairs Q End g 0 X
  unfolding times
  no_stairs {X} z e = record {
    start = z;
    up = λ k l. absurd (omega arith);
    flat = λ k l. absurd (omega arith);
    last = subst (λ (n : ℕ). End (clocks n X)) (sym z) e;
  }

  -- a run, and stairs from where it leads
  pub stairs_on
      : {Q' : ℕ → Envelope → Type 0} {g' : ℕ → ℕ} {K n : ℕ} {X Y : Envelope}
      → Keeps (Q 0) n X Y
      → 0 < n
      → g 0 ≡ 0
      → ((k : ℕ) → g (suc k) ≡ n + g' k)
      → ((k : ℕ) (x : Envelope) → Q' k x → Q (suc k) x)
      → Stairs Q' End g' K Y
      → Stairs Q End g (suc K) X
  stairs_on {Q'} {g'} {K} {n} {X} {Y} r l z t m s =
      record {
        start = z;
        up = up;
        flat = flat;
        last = subst End (sym (after r (g (suc K)) (omega (arith, t K)) ∙ ap (λ (i : ℕ). clocks i Y) (omega (arith, t K)))) s.last;
      }
    where
      up : (k : ℕ) → k < suc K → g k < g (suc k)
      up zero q = omega (arith, t 0)
      up (suc k) q = omega (arith, t k, t (suc k), s.up k (omega arith))

      flat : (k : ℕ) → k < suc K → (i : ℕ) → g k ≤ i → i < g (suc k) → Q k (clocks i X)
      flat zero q i a b = r.kept i (omega (arith, t 0, s.start))
      flat (suc k) q i a b =
          subst (Q (suc k)) (sym (after r i (omega (arith, t k))))
          (m k _ (s.flat k (omega arith) (i - n) (omega (arith, t k)) (omega (arith, t k, t (suc k)))))

-- a number below g K, where g 0 is 0, lies between two neighbours
pub locate : (g : ℕ → ℕ) → g 0 ≡ 0 → (K n : ℕ) → n < g K → (j : ℕ) × (j < K) × (g j ≤ n) × (n < g (suc j))
locate g z zero n l = absurd (omega arith)
locate g z (suc K) n l = go (dec_lt n (g K)) (locate g z K n)
  where
    go : Dec (n < g K) → (n < g K → (j : ℕ) × (j < K) × (g j ≤ n) × (n < g (suc j))) → (j : ℕ) × (j < suc K) × (g j ≤ n) × (n < g (suc j))
    go (yes q) ih = let r = ih q in (r.0, omega (arith, r.1), r.2, r.3)
    go (no q) ih = (K, omega arith, omega arith, l)

-- stairs of a level, which is L k from step k on, seen by whatever runs of X
module _
    {Q : ℕ → Envelope → Type 0} {End : Envelope → Type 0} {g : ℕ → ℕ} {K : ℕ} {X : Envelope} (s : Stairs Q End g K X)
    (L : ℕ → ℕ) (level : (k : ℕ) → k < K → (x : Envelope) → Q k x → x.volume ≡ L k) (end : (x : Envelope) → End x → x.volume ≡ L K)
    (runs : Runs) (from : From X runs) where
  flat_level : (k n : ℕ) → k < K → g k ≤ n → n < g (suc k) → (clocks n X).volume ≡ L k
  flat_level k n l a b = level k l (clocks n X) (s.flat k l n a b)

  pub level_before : (k : ℕ) (r : runs.Run) → k < K → suc (runs.made r) ≡ g (suc k) → (runs.left r).volume ≡ L k
  level_before k r l q = seen X runs from r _ refl ∙ flat_level k _ l (omega (arith, s.up k l)) (omega arith)

  pub level_on : (k : ℕ) (r : runs.Run) → k < K → runs.made r ≡ g (suc k) → (runs.left r).volume ≡ L (suc k)
  level_on k r l q = seen X runs from r _ q ∙ go (dec_lt (suc k) K)
    where
      go : Dec (suc k < K) → (clocks (g (suc k)) X).volume ≡ L (suc k)
      go (yes m) = flat_level (suc k) _ m (omega arith) (s.up (suc k) m)
      go (no m) =
          let e : suc k ≡ K = omega arith in
          ap (λ (i : ℕ). (clocks (g i) X).volume) e ∙ end _ s.last ∙ ap L (sym e)

  pub level_last : (r : runs.Run) → runs.made r ≡ g K → End (runs.left r)
  level_last r q = subst End (sym (from r ∙ ap (λ (i : ℕ). clocks i X) q)) s.last

  pub level_still
      : (r t : runs.Run) → runs.made t ≡ suc (runs.made r) → runs.made t ≤ g K → ((k : ℕ) → k < K → runs.made t ≡ g (suc k) → ⊥)
      → (runs.left t).volume ≡ (runs.left r).volume
  level_still r t q l none =
      let n = runs.made r in
      let j = locate g s.start K n (omega arith) in
      seen X runs from t _ q
      ∙ flat_level j.0 (suc n) j.1 (omega (arith, j.2)) (omega (arith, q, j.3, none j.0 j.1))
      ∙ sym (flat_level j.0 n j.1 j.2 j.3)
      ∙ sym (seen X runs from r _ refl)
