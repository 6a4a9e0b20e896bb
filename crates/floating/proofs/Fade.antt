-- Document 01, 'Oscillator': a code that isn't 0, captured at a cycle below 2^63 and left on the floating lines, is
-- whole for 1,260,019 clocks and zero from clock 1,260,020. For every code, cycle and number of clocks, and any way to
-- leak that makes one step where one is due at most. Assumes nothing.
use Rattle.std.proofs.Common.{◌≡◌, ℕ, zero, suc, ◌+◌, ◌-◌, ◌*◌, ◌/◌, ◌%◌, ◌^◌, ◌<◌, ◌≤◌, Bool, true, false, cond, eqb, leb, List, [], ◌∷◌, get_or, sym, refl, ap, ◌∙◌, ap₂, mod-lt, one-mul, arith, leb→le, pow_pos, ne_eqb, eqb-true, le-leb}
use borrow.Author.Tests.{lt-leb, eqb-false}
use mathlib.Core.Bool.{and-false}
use lib.Bits.{bit_or, or_shifted_r}
use lib.Pow.{mod-pow-add}
use Rattle.laws.proofs.Build.{build_at, build_same}
use Rattle.laws.proofs.Cond.{either}
use Rattle.laws.proofs.Table.{at}
use Rattle.laws.specs.Build.{build}
use Rattle.laws.specs.Charges.{charged, high_to}
use Rattle.laws.specs.Cycle.{after}
use Rattle.laws.specs.Times.{times}
use Rattle.floating.specs.Floating.{captured, lost, leak_step, leaks, retained, leaked_to, leaked_times, sampled_once, steps_due, samples_by}
use Rattle.floating.proofs.Once.{LeaksOnce, leak_empty}
use Rattle.floating.specs.declared.Floating.{Floating}
use Rattle.floating.specs.declared.FloatingBus.{FloatingBus}

-- ---- the charges: each line that is set in w has charge q

abbrev charge_at : ℕ → ℕ → ℕ → ℕ
charge_at w q i = cond (eqb (w / 2 ^ i % 2) 0) 0 q

unfoldable row : ℕ → ℕ → List ℕ
row w q = build (charge_at w q) 12

lost_at : (t : Bool) (q : ℕ) → lost (cond t 0 q) ≡ cond t 0 (lost q)
lost_at true q = refl
lost_at false q = refl

row_charged : (w : ℕ) → charged w 12 ≡ row w 65535
unfolding charged row
row_charged w = refl

row_at : (w q k : ℕ) → k < 12 → get_or (row w q) k 0 ≡ charge_at w q k
unfolding row
row_at w q k h = build_at (charge_at w q) 12 k 0 h

row_lost : (w q : ℕ) → leak_step (row w q) ≡ row w (lost q)
unfolding leak_step row
row_lost w q =
    build_same (λ i. lost (get_or (build (charge_at w q) 12) i 0)) (charge_at w (lost q)) 12
    (λ k h. ap lost (build_at (charge_at w q) 12 k 0 h) ∙ lost_at (eqb (w / 2 ^ k % 2) 0) q)

-- the lines read as the code while their charge is at least the threshold, and as nothing below it
row_high : (w q k : ℕ) → k ≤ 12 → 18000 ≤ q → high_to 18000 (row w q) k ≡ w % 2 ^ k
unfolding high_to
row_high w q zero h e = omega arith
row_high w q (suc k) h e =
    ap₂ (λ (x y : ℕ). cond (leb 18000 x) (bit_or y (2 ^ k)) y) (row_at w q k (omega arith)) (row_high w q k (omega arith) e) ∙ go (eqb (w / 2 ^ k % 2) 0) refl
  where
    next : w % 2 ^ suc k ≡ (w / 2 ^ k % 2) * 2 ^ k + w % 2 ^ k
    next = ap (λ (x : ℕ). w % 2 ^ x) (omega arith) ∙ mod-pow-add w 1 k

    go : (t : Bool) → eqb (w / 2 ^ k % 2) 0 ≡ t → cond (leb 18000 (cond t 0 q)) (bit_or (w % 2 ^ k) (2 ^ k)) (w % 2 ^ k) ≡ w % 2 ^ suc k
    go true z = sym (next ∙ ap (λ (x : ℕ). x * 2 ^ k + w % 2 ^ k) (eqb-true (w / 2 ^ k % 2) 0 z) ∙ omega arith)
    go false z =
        let d : (w / 2 ^ k % 2 ≡ 0) → ⊥ = eqb-false (w / 2 ^ k % 2) 0 z in
        let one : w / 2 ^ k % 2 ≡ 1 = omega arith in
        simp (le-leb 18000 q e)
        (ap (bit_or (w % 2 ^ k)) (sym (one-mul (2 ^ k))) ∙ or_shifted_r 1 k (w % 2 ^ k) (mod-lt w (pow_pos k))
        ∙ sym (next ∙ ap (λ (x : ℕ). x * 2 ^ k + w % 2 ^ k) one))

row_low : (w q k : ℕ) → k ≤ 12 → q < 18000 → high_to 18000 (row w q) k ≡ 0
unfolding high_to
row_low w q zero h e = refl
row_low w q (suc k) h e =
    ap₂ (λ (x y : ℕ). cond (leb 18000 x) (bit_or y (2 ^ k)) y) (row_at w q k (omega arith)) (row_low w q k (omega arith) e) ∙ go (eqb (w / 2 ^ k % 2) 0)
  where
    go : (t : Bool) → cond (leb 18000 (cond t 0 q)) (bit_or 0 (2 ^ k)) 0 ≡ 0
    go true = refl
    go false = simp (lt-leb 18000 q e)

-- the charge of a set line after j steps: at least the threshold for 14 steps, and below it after 15
unfoldable charge_after : ℕ → ℕ
charge_after zero = 65535
charge_after (suc j) = lost (charge_after j)

fifteen : List ℕ
fifteen = 0 ∷ 0 ∷ 0 ∷ 0 ∷ 0 ∷ 0 ∷ 0 ∷ 0 ∷ 0 ∷ 0 ∷ 0 ∷ 0 ∷ 0 ∷ 0 ∷ 0 ∷ []

enough : (j : ℕ) → j ≤ 14 → 18000 ≤ charge_after j
unfolding charge_after fifteen
enough j h = leb→le 18000 (charge_after j) (at (λ k x. leb 18000 (charge_after k)) fifteen tt j (omega arith))

spent : charge_after 15 < 18000
unfolding charge_after
spent = leb→le (suc (charge_after 15)) 18000 tt

-- ---- one sample

-- the lines after j steps
unfoldable stage : ℕ → ℕ → ℕ → FloatingBus
stage w c j = record { numbers = record { value = w; hold_until = c + 1137140; next_leak = c + 1145332 + 8192 * j }; charge = row w (charge_after j) }

leaked_whole
    : (w c j : ℕ)
    → (w ≡ 0 → ⊥)
    → retained (row w (charge_after (suc j))) ≡ w
    → (c + 1145332 + 8192 * j + 8192) % 2 ^ 64 ≡ c + 1145332 + 8192 * suc j
    → leaked_to (stage w c j).numbers (row w (charge_after (suc j))) ((c + 1145332 + 8192 * j + 8192) % 2 ^ 64) ≡ stage w c (suc j)
unfolding leaked_to stage
leaked_whole w c j some e z = simp (e, ne_eqb w 0 some, z)

leaked_gone : (f : Floating) (l : List ℕ) (t : ℕ) → high_to 18000 l 12 ≡ 0 → (leaked_to f l t).numbers.value ≡ 0
unfolding leaked_to
leaked_gone f l t e = ap (λ (x : ℕ). x % 4096) e

module _ (w c : ℕ) (some : w ≡ 0 → ⊥) (small : w < 4096) (early : c < 2 ^ 63) where
  -- before the next leak nothing changes
  waits : (j cycle : ℕ) → cycle < c + 1145332 + 8192 * j → sampled_once (stage w c j) cycle ≡ stage w c j
  unfolding sampled_once leaks stage
  waits j cycle h = simp (ne_eqb w 0 some, lt-leb (c + 1145332 + 8192 * j) cycle h, and-false (leb (c + 1137140) cycle))

  -- the leak itself
  leaked : (j : ℕ) → sampled_once (stage w c j) (c + 1145332 + 8192 * j) ≡ leaked_to (stage w c j).numbers (row w (charge_after (suc j))) ((c + 1145332 + 8192 * j + 8192) % 2 ^ 64)
  unfolding sampled_once leaked_times leaks stage times charge_after
  leaked j =
      simp (ne_eqb w 0 some, le-leb (c + 1137140) (c + 1145332 + 8192 * j) (omega arith), le-leb (c + 1145332 + 8192 * j) (c + 1145332 + 8192 * j) (omega arith), row_lost w (charge_after j))

  steps : (j : ℕ) → j ≤ 13 → sampled_once (stage w c j) (c + 1145332 + 8192 * j) ≡ stage w c (suc j)
  steps j h = leaked j ∙ leaked_whole w c j some whole_yet (omega arith)
    where
      whole_yet : retained (row w (charge_after (suc j))) ≡ w
      whole_yet = ap (λ (x : ℕ). x % 4096) (row_high w (charge_after (suc j)) 12 (omega arith) (enough (suc j) (omega arith))) ∙ omega arith

  -- the fifteenth leak leaves nothing
  ends : (sampled_once (stage w c 14) (c + 1145332 + 8192 * 14)).numbers.value ≡ 0
  ends = ap (λ (b : FloatingBus). b.numbers.value) (leaked 14) ∙ leaked_gone _ _ _ (row_low w (charge_after 15) 12 (omega arith) spent)

  -- up to the next leak one is due at most
  due : (j cycle : ℕ) → cycle ≤ c + 1145332 + 8192 * j → steps_due (stage w c j).numbers cycle ≤ 1
  unfolding steps_due stage
  due j cycle h = either (λ (n : ℕ). n ≤ 1) (leaks (stage w c j).numbers cycle) _ _ (omega arith) (omega arith)

-- ---- all clocks after a capture of v at cycle c

-- the steps made by clock n
abbrev step_of : ℕ → ℕ
step_of n = (n - 1137140) / 8192

module _ {leak : FloatingBus → ℕ → FloatingBus} (once : LeaksOnce leak) (v c : ℕ) (some : v % 4096 ≡ 0 → ⊥) (early : c < 2 ^ 63) where
  abbrev w : ℕ
  w = v % 4096

  begins : captured v c ≡ stage w c 0
  unfolding captured stage charge_after
  begins =
      let p : (c + 1137140) % 2 ^ 64 ≡ c + 1137140 = omega arith in
      let q : (c + 1137140 + 8192) % 2 ^ 64 ≡ c + 1145332 + 8192 * 0 = omega arith in
      simp (p, q, row_charged (v % 4096))

  -- a clock up to the next leak
  clock : (j cycle : ℕ) → cycle ≤ c + 1145332 + 8192 * j → leak (stage w c j) cycle ≡ sampled_once (stage w c j) cycle
  clock j cycle h = once (stage w c j) cycle (due w c some (omega arith) early j cycle h)

  stages : (n : ℕ) → n ≤ 1260019 → samples_by leak n (captured v c) c ≡ stage w c (step_of n)
  unfolding samples_by
  stages zero h = begins
  stages (suc n) h =
      ap₂ leak (stages n (omega arith)) now ∙ clock (step_of n) (c + suc n) (omega arith) ∙ go (eqb (suc n) (1145332 + 8192 * step_of n)) refl
    where
      now : after c (suc n) ≡ c + suc n
      now = omega arith

      go : (t : Bool) → eqb (suc n) (1145332 + 8192 * step_of n) ≡ t → sampled_once (stage w c (step_of n)) (c + suc n) ≡ stage w c (step_of (suc n))
      go true e =
          let z : suc n ≡ 1145332 + 8192 * step_of n = eqb-true (suc n) (1145332 + 8192 * step_of n) e in
          let x : c + suc n ≡ c + 1145332 + 8192 * step_of n = omega arith in
          let y : suc (step_of n) ≡ step_of (suc n) = omega arith in
          ap (sampled_once (stage w c (step_of n))) x ∙ steps w c some (omega arith) early (step_of n) (omega arith) ∙ ap (stage w c) y
      go false e =
          let z : (suc n ≡ 1145332 + 8192 * step_of n) → ⊥ = eqb-false (suc n) (1145332 + 8192 * step_of n) e in
          let y : step_of n ≡ step_of (suc n) = omega arith in
          waits w c some (omega arith) early (step_of n) (c + suc n) (omega arith) ∙ ap (stage w c) y

  -- THE LAW, in its two halves
  pub lines_whole : (n : ℕ) → n ≤ 1260019 → (samples_by leak n (captured v c) c).numbers.value ≡ v % 4096
  unfolding stage
  lines_whole n h = ap (λ (x : FloatingBus). x.numbers.value) (stages n h)

  pub lines_gone : (n : ℕ) → 1260020 ≤ n → (samples_by leak n (captured v c) c).numbers.value ≡ 0
  unfolding samples_by
  lines_gone zero h = absurd (omega arith)
  lines_gone (suc n) h = go (λ (k : 1260020 ≤ n). lines_gone n k) (eqb n 1260019) refl
    where
      go : (1260020 ≤ n → (samples_by leak n (captured v c) c).numbers.value ≡ 0) → (t : Bool) → eqb n 1260019 ≡ t
          → (leak (samples_by leak n (captured v c) c) (after c (suc n))).numbers.value ≡ 0
      go before true e =
          let z : n ≡ 1260019 = eqb-true n 1260019 e in
          let x : after c (suc n) ≡ c + 1145332 + 8192 * 14 = omega arith in
          let y : step_of n ≡ 14 = omega arith in
          ap₂ (λ (f : FloatingBus) (k : ℕ). (leak f k).numbers.value) (stages n (omega arith) ∙ ap (stage w c) y) x
          ∙ ap (λ (f : FloatingBus). f.numbers.value) (clock 14 (c + 1145332 + 8192 * 14) (omega arith))
          ∙ ends w c some (omega arith) early
      go before false e =
          let z : (n ≡ 1260019) → ⊥ = eqb-false n 1260019 e in
          ap (λ (f : FloatingBus). f.numbers.value) (leak_empty once (samples_by leak n (captured v c) c) (after c (suc n)) (before (omega arith))) ∙ before (omega arith)
