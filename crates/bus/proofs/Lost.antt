-- A clock loses exactly the bits that were set before it and are not after it (`lost_bit`); none goes before the next
-- expiry (`none_lost`); after a drive each bit of the byte goes on the clock whose number is its hold (`lost_at_hold`).
-- Assumes nothing.
use Prim.Native.Nat.{ℕ, zero, suc, ◌+◌, ◌-◌, ◌/◌, ◌%◌, ◌^◌, ◌≤◌, ◌<◌, min, max}
use native.Mathlib.Omega.{arith}
use native.Mathlib.Nat.{pow-succ', div-one, zero-div, div-div-eq-div-mul, le_of_suc-le-suc}
use native.Mathlib.Numerals.{add-one}
use mathlib.Core.Path.{◌≡◌, refl, ap, sym, ◌∙◌}
use mathlib.Core.List.{List, [], ◌∷◌}
use mathlib.Core.Bool.{Bool, true, false, cond}
use lib.Dec.{ltb, eqb}
use lib.ListN.{length, get_or}
use Rattle.std.proofs.lemmas.Bool.Decides.{nat_tests}
use borrow.Author.Tests.{eqb-true, eqb-false}
use Rattle.laws.specs.Times.{times}
use Rattle.bus.specs.declared.InternalDataBus.{InternalDataBus}
use Rattle.bus.specs.Bus.{holds, kept, next_expiry_for, no_expiry, driven, aged, clocked, clocks, lost, to_expiry}
use Rattle.bus.proofs.Kept.{kept_le, kept_low, kept_half, kept_later, kept_bit}
use Rattle.bus.proofs.Clock.{clocked_before}
use Rattle.bus.proofs.Fade.{byte_fades}

-- ---- what is not kept of a byte

module _ (h : ℕ) (hs : List ℕ) (v n : ℕ) where
  gone_low : (v - kept (h ∷ hs) v n) % 2 ≡ cond (ltb n h) 0 (v % 2)
  unfolding kept
  gone_low = grind (arith, nat_tests, kept_le hs (v / 2) n)

  gone_half : (v - kept (h ∷ hs) v n) / 2 ≡ v / 2 - kept hs (v / 2) n
  unfolding kept
  gone_half = grind (arith, nat_tests, kept_le hs (v / 2) n)

-- bit k goes exactly if its hold does not exceed n
gone_bit : (hs : List ℕ) (v n k : ℕ) → k < length hs → (v - kept hs v n) / 2 ^ k % 2 ≡ cond (ltb n (get_or hs k 0)) 0 (v / 2 ^ k % 2)
gone_bit [] v n k l = absurd (omega arith)
gone_bit (h ∷ hs) v n zero l = simp div-one (gone_low h hs v n)
gone_bit (h ∷ hs) v n (suc k) l = simp (pow-succ', ← div-div-eq-div-mul, gone_half h hs v n) (gone_bit hs (v / 2) n k (le_of_suc-le-suc l))

-- ---- a clock sets no bit

-- w is the byte v as it was, or what is kept of it at some age
data Left (v : ℕ) : ℕ → Type 0 where
  same : Left v v
  some : (n : ℕ) → Left v (kept holds v n)

clocked_left : (b : InternalDataBus) → Left b.value (clocked b).value
unfolding clocked aged
clocked_left b = go (eqb b.value 0)
  where
    n : ℕ
    n = min (b.age + 1) (2 ^ 32 - 1)

    young : InternalDataBus
    young = record b { age = n }

    old : InternalDataBus
    old = record { value = kept holds b.value n; age = n; next_expiry = next_expiry_for holds (kept holds b.value n) n }

    late : (t : Bool) → Left b.value (cond {A = InternalDataBus} t young old).value
    late true = same
    late false = some n

    go : (t : Bool) → Left b.value (cond {A = InternalDataBus} t b (aged b n)).value
    go true = same
    go false = late (ltb n b.next_expiry)

pub clocked_le : (b : InternalDataBus) → (clocked b).value ≤ b.value
clocked_le b = go (clocked_left b)
  where
    go : {w : ℕ} → Left b.value w → w ≤ b.value
    go same = omega arith
    go (some n) = kept_le holds b.value n

pub clocks_le : (n : ℕ) (b : InternalDataBus) → (clocks n b).value ≤ b.value
unfolding times
clocks_le zero b = omega arith
clocks_le (suc n) b = omega (arith, clocks_le n b, clocked_le (clocks n b))

-- bit k is lost exactly if it was set before the clock and is not after it
pub lost_bit
    : (b : InternalDataBus) (k : ℕ)
    → k < 8
    → lost b / 2 ^ k % 2 ≡ cond (eqb ((clocked b).value / 2 ^ k % 2) 0) (b.value / 2 ^ k % 2) 0
unfolding lost holds
lost_bit b k l = go (clocked_left b)
  where
    x : ℕ
    x = b.value / 2 ^ k % 2

    none : 0 / 2 ^ k % 2 ≡ 0
    none = ap (λ (y : ℕ). y % 2) (zero-div (2 ^ k))

    go : {w : ℕ} → Left b.value w → (b.value - w) / 2 ^ k % 2 ≡ cond (eqb (w / 2 ^ k % 2) 0) x 0
    go same = let z : b.value - b.value ≡ 0 = omega arith in rw z (grind (arith, nat_tests, none))
    go (some n) = grind (arith, nat_tests, gone_bit holds b.value n k l, kept_bit holds b.value n k l)

-- ---- before the next expiry no bit goes

-- a bus as it was, at most n clocks older
record Still (b : InternalDataBus) (n : ℕ) (z : InternalDataBus) : Type 0 where
  byte : z.value ≡ b.value
  next : z.next_expiry ≡ b.next_expiry
  old : z.age ≤ b.age + n

module _ (b : InternalDataBus) where
  still_step : (n : ℕ) (z : InternalDataBus) → (b.value ≡ 0 → ⊥) → b.age + n + 1 < b.next_expiry → Still b n z → Still b (suc n) (clocked z)
  still_step n z k l s =
      let a = min (z.age + 1) (2 ^ 32 - 1) in
      rw (clocked_before z a (λ e. k (sym s.byte ∙ e)) refl (omega (arith, s.next, s.old)))
      (record { byte = s.byte; next = s.next; old = omega (arith, s.old) })

  still : (n : ℕ) → (b.value ≡ 0 → ⊥) → b.age + n < b.next_expiry → Still b n (clocks n b)
  unfolding times
  still zero k l = record { byte = refl; next = refl; old = omega arith }
  still (suc n) k l = still_step n (clocks n b) k (omega arith) (still n k (omega arith))

  empty : (n : ℕ) → b.value ≡ 0 → (clocks n b).value ≡ 0
  empty n z = omega (arith, clocks_le n b)

  pub none_lost : (n : ℕ) → n < to_expiry b → (clocks n b).value ≡ b.value
  unfolding to_expiry times
  none_lost n = go (eqb b.value 0) refl
    where
      held : (m : ℕ) → (b.value ≡ 0 → ⊥) → m < max 1 (b.next_expiry - b.age) → (clocks m b).value ≡ b.value
      held zero k l = refl
      held (suc m) k l = (still (suc m) k (omega arith)).byte

      go : (t : Bool) → eqb b.value 0 ≡ t → n < cond t no_expiry (max 1 (b.next_expiry - b.age)) → (clocks n b).value ≡ b.value
      go true e l = let z : b.value ≡ 0 = eqb-true b.value 0 e in empty n z ∙ sym z
      go false e l = held n (eqb-false b.value 0 e) l

-- ---- after a drive

on_hold : (h n x : ℕ) → cond (ltb (n + 1) h) 0 (cond (ltb n h) x 0) ≡ cond (eqb (n + 1) h) x 0
on_hold h n x = grind (arith, nat_tests)

-- bit k of the byte that was driven is lost on the clock whose number is its hold, and on no other
pub lost_at_hold
    : (v n k : ℕ)
    → v < 256
    → k < 8
    → lost (clocks n (driven v)) / 2 ^ k % 2 ≡ cond (eqb (n + 1) (get_or holds k 0)) (v / 2 ^ k % 2) 0
unfolding lost times holds
lost_at_hold v n k h l =
    let x = kept holds v n in
    let before : (clocks n (driven v)).value ≡ x = byte_fades v n h in
    let after : (clocked (clocks n (driven v))).value ≡ kept holds x (n + 1) =
    byte_fades v (suc n) h ∙ (ap (kept holds v) (sym (add-one n)) ∙ sym (kept_later holds v n (n + 1) (omega arith))) in
    ap (λ (y : ℕ). (y - (clocked (clocks n (driven v))).value) / 2 ^ k % 2) before
    ∙ (ap (λ (y : ℕ). (x - y) / 2 ^ k % 2) after
    ∙ (gone_bit holds x (n + 1) k l
    ∙ (ap (λ (y : ℕ). cond (ltb (n + 1) (get_or holds k 0)) 0 y) (kept_bit holds v n k l) ∙ on_hold (get_or holds k 0) n (v / 2 ^ k % 2))))

-- ---- a byte is lost in as many clocks at most as it has bits set

unfoldable pub ones : ℕ → ℕ → ℕ
ones zero v = 0
ones (suc n) v = v % 2 + ones n (v / 2)

pub ones_le : (n v : ℕ) → ones n v ≤ n
unfolding ones
ones_le zero v = omega arith
ones_le (suc n) v = omega (arith, ones_le n (v / 2))

module _ (h : ℕ) (hs : List ℕ) (v n : ℕ) where
  kept_count : ones (suc (length hs)) (kept (h ∷ hs) v n) ≡ cond (ltb n h) (v % 2) 0 + ones (length hs) (kept hs (v / 2) n)
  unfolding ones
  kept_count = simp (kept_low h hs v n, kept_half h hs v n)

kept_most : (hs : List ℕ) (v n : ℕ) → ones (length hs) (kept hs v n) ≤ ones (length hs) v
unfolding ones
kept_most [] v n = omega arith
kept_most (h ∷ hs) v n = grind (arith, nat_tests, kept_count h hs v n, kept_most hs (v / 2) n)

kept_fewer : (hs : List ℕ) (v n : ℕ) → v < 2 ^ length hs → kept hs v n < v → ones (length hs) (kept hs v n) < ones (length hs) v
unfolding ones kept
kept_fewer [] v n h l = absurd (omega arith)
kept_fewer (h ∷ hs) v n b l =
    grind (arith, nat_tests, kept_count h hs v n, kept_most hs (v / 2) n, kept_le hs (v / 2) n, kept_fewer hs (v / 2) n (omega (arith, rw pow-succ' at b)))

-- a clock that loses bits leaves fewer
pub lost_fewer : (b : InternalDataBus) → b.value < 256 → ones 8 (clocked b).value + cond (eqb (lost b) 0) 0 1 ≤ ones 8 b.value
unfolding lost holds
lost_fewer b h = go (clocked_left b)
  where
    go : {w : ℕ} → Left b.value w → ones 8 w + cond (eqb (b.value - w) 0) 0 1 ≤ ones 8 b.value
    go same = grind (arith, nat_tests)
    go (some n) = grind (arith, nat_tests, kept_most holds b.value n, kept_fewer holds b.value n h)
