-- A coupling turns only on the selection's decay and skew, of which there are three pairs, and on how far the
-- destination lies above the source. Assumes nothing.
use mathlib.Core.Path.{◌≡◌, refl, ap, ap₂, sym, ◌∙◌}
use mathlib.Core.Bool.{Bool, true, false}
use mathlib.Core.List.{List}
use Prim.Native.Nat.{ℕ, ◌+◌, ◌-◌, ◌*◌, ◌/◌, ◌%◌, ◌<◌}
use native.Mathlib.Omega.{arith}
use lib.Dec.{eqb, ltb}
use lib.ListN.{length, take, drop, get_or, set, replicate, get_or-replicate}
use lib.Seq.{get_or-set_other}
use lib.Ieee.{Float, nan}
use borrow.Author.Tests.{eq-eqb, ne_eqb, lt-ltb, le-ltb, eqb-true, eqb-false, ltb-true, ltb-false}
use Rattle.std.proofs.lemmas.List.{ext_get_or, get_or-take, get_or-drop, length-take, length-drop}
use Rattle.laws.specs.Build.{build}
use Rattle.laws.proofs.Build.{build_at, built_at, length_build}
use Rattle.waveforms.specs.Constants.{directional_skews, distance_decays, by_selection}
use Rattle.waveforms.specs.Waveforms.{coupled, coupling}
use Rattle.waveforms.specs.Offsets.{by_offset_of}

coupling_same
    : (s t : ℕ)
    → by_selection distance_decays s ≡ by_selection distance_decays t
    → by_selection directional_skews s ≡ by_selection directional_skews t
    → (d r : ℕ) → coupling s d r ≡ coupling t d r
unfolding coupling coupled
coupling_same s t e f d r = simp (e, f)

-- the selection counts by its low four bits
pub coupling_low : (s k : ℕ) → s % 16 ≡ k → k % 16 ≡ k → (d r : ℕ) → coupling s d r ≡ coupling k d r
coupling_low s k e f = coupling_same s k (rw (e, f)) (rw (e, f))

-- sixteen entries, alike but for 3 and 5
apart : Float → Float → Float → List Float
apart x y z = set (set (replicate 16 x) 3 y) 5 z

apart_at : (x y z : Float) (k : ℕ) → k < 16 → (k ≡ 3 → ⊥) → (k ≡ 5 → ⊥) → get_or (apart x y z) k nan ≡ x
unfolding apart
apart_at x y z k h p q = get_or-set_other (set (replicate 16 x) 3 y) 5 k z nan q ∙ get_or-set_other (replicate 16 x) 3 k y nan p ∙ get_or-replicate 16 k x nan h

pub coupling_other : (s : ℕ) → (s % 16 ≡ 3 → ⊥) → (s % 16 ≡ 5 → ⊥) → (d r : ℕ) → coupling s d r ≡ coupling 0 d r
unfolding distance_decays directional_skews apart
coupling_other s p q =
    coupling_same s 0 (apart_at _ _ _ (s % 16) (omega arith) p q) (apart_at _ _ _ (s % 16) (omega arith) p q)

eqb_moved : (a b k : ℕ) → eqb (a + k) (b + k) ≡ eqb a b
eqb_moved a b k = go (eqb a b) refl
  where
    go : (t : Bool) → eqb a b ≡ t → eqb (a + k) (b + k) ≡ t
    go true e = eq-eqb (a + k) (b + k) (omega (arith, eqb-true a b e))
    go false e = ne_eqb (a + k) (b + k) (λ q. eqb-false a b e (omega arith))

ltb_moved : (a b k : ℕ) → ltb (a + k) (b + k) ≡ ltb a b
ltb_moved a b k = go (ltb a b) refl
  where
    go : (t : Bool) → ltb a b ≡ t → ltb (a + k) (b + k) ≡ t
    go true e = lt-ltb (a + k) (b + k) (omega (arith, ltb-true a b e))
    go false e = le-ltb (a + k) (b + k) (omega (arith, ltb-false a b e))

-- both lines moved up alike
coupling_moved : (s d r k : ℕ) → coupling s (d + k) (r + k) ≡ coupling s d r
unfolding coupling
coupling_moved s d r k =
    let p : d + k - (r + k) ≡ d - r = omega arith in
    let q : r + k - (d + k) ≡ r - d = omega arith in
    simp (eqb_moved d r k, ltb_moved r d k, p, q)

-- the entry k of a line array
abbrev pub entry : ℕ → ℕ → Float
entry s k = coupling s (k % 12) (k / 12)

-- the row of source r is twelve of the couplings by offset on end
pub coupling_row
    : (s r : ℕ) (l : List Float)
    → l ≡ by_offset_of s
    → r < 12
    → take 12 (drop (11 - r) l) ≡ build (λ d. entry s (r * 12 + d)) 12
coupling_row s r l e h =
    let n : length l ≡ 23 = ap length e ∙ length_build (λ k. coupling s k 11) 23 in
    let long : length (take 12 (drop (11 - r) l)) ≡ 12 = omega (arith, n, length-take 12 (drop (11 - r) l), length-drop (11 - r) l) in
    ext_get_or nan (take 12 (drop (11 - r) l)) (build (λ d. entry s (r * 12 + d)) 12) (long ∙ sym (length_build (λ d. entry s (r * 12 + d)) 12)) (λ d g.
    let h' : d < 12 = omega (arith, long) in
    let p : 11 - r + d ≡ d + (11 - r) = omega arith in
    let q : 11 ≡ r + (11 - r) = omega arith in
    let x : d ≡ (r * 12 + d) % 12 = omega arith in
    let y : r ≡ (r * 12 + d) / 12 = omega arith in
    get_or-take 12 (drop (11 - r) l) d nan h' ∙ get_or-drop (11 - r) l d nan
    ∙ built_at (λ k. coupling s k 11) 23 l (11 - r + d) nan e (omega arith) ∙ ap₂ (coupling s) p q ∙ coupling_moved s d r (11 - r) ∙ ap₂ (coupling s) x y
    ∙ sym (build_at (λ k. entry s (r * 12 + k)) 12 d nan h'))
