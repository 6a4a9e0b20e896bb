-- Where one leak step is due at most, document 01's rule makes the one step that a chip's makes (`sample_once`).
-- Lines whose next leak lies ahead of a cycle have one due at most on the next clock (`ahead_one`), and captures,
-- samples and resets leave it ahead. Assumes nothing.
use Rattle.std.proofs.Common.{◌≡◌, ℕ, ◌-◌, ◌/◌, ◌^◌, ◌<◌, ◌≤◌, Bool, true, false, not, eqb, leb, sym, refl, ap, ◌∙◌, true≢false, arith, eq-eqb, ne_eqb, le-leb, leb-false, leb-true}
use borrow.Author.Tests.{eqb-false, not-true}
use Rattle.laws.proofs.Bools.{and_left, and_right}
use Rattle.laws.proofs.Cond.{by_test, one_at_most}
use Rattle.laws.specs.Build.{build}
use Rattle.laws.specs.Charges.{charged, high_to}
use Rattle.laws.specs.Cycle.{after}
use Rattle.laws.specs.Times.{times}
use Rattle.floating.specs.Floating.{fresh, captured, leaks, leak_step, leaked_to, leaked_times, sampled, sampled_once, steps_due, Ahead}
use Rattle.floating.specs.declared.Floating.{Floating}
use Rattle.floating.specs.declared.FloatingBus.{FloatingBus}

-- a way to leak that makes one step where one is due at most
abbrev pub LeaksOnce : (FloatingBus → ℕ → FloatingBus) → Type 0
LeaksOnce leak = (b : FloatingBus) (cycle : ℕ) → steps_due b.numbers cycle ≤ 1 → leak b cycle ≡ sampled_once b cycle

pub sample_once : LeaksOnce sampled
unfolding sampled sampled_once steps_due
sample_once b cycle = one_at_most (λ n. leaked_times n b) b (leaks b.numbers cycle) ((cycle - b.numbers.next_leak) / 8192)

pub once_itself : LeaksOnce sampled_once
once_itself b cycle h = refl

-- lines that show nothing stay as they are
pub leak_empty
    : {leak : FloatingBus → ℕ → FloatingBus} → LeaksOnce leak
    → (b : FloatingBus) (cycle : ℕ) → b.numbers.value ≡ 0 → leak b cycle ≡ b
unfolding sampled_once steps_due leaks
leak_empty once b cycle e =
    let none = eq-eqb b.numbers.value 0 e in
    once b cycle (simp none (omega arith)) ∙ simp none

-- ---- a leak, said in numbers

module _ (f : Floating) (cycle : ℕ) where
  pub leak_come : leaks f cycle ≡ true → (f.value ≡ 0 → ⊥) × (f.next_leak ≤ cycle)
  unfolding leaks
  leak_come e =
      let some = and_left (not (eqb f.value 0)) _ e in
      let times = and_right (not (eqb f.value 0)) _ e in (
        eqb-false f.value 0 (not-true (eqb f.value 0) some),
        leb-true f.next_leak cycle (and_right (leb f.hold_until cycle) _ times),
      )

  leak_not : leaks f cycle ≡ false → (f.value ≡ 0 → ⊥) → f.hold_until ≤ f.next_leak → cycle < f.next_leak
  unfolding leaks
  leak_not e some hold = go (leb f.next_leak cycle) refl
    where
      go : (t : Bool) → leb f.next_leak cycle ≡ t → cycle < f.next_leak
      go true l =
          let at : f.next_leak ≤ cycle = leb-true f.next_leak cycle l in
          let all : leaks f cycle ≡ true =
          simp (ne_eqb f.value 0 some, le-leb f.hold_until cycle (omega (arith, hold, at)), l) in
          absurd (true≢false (sym all ∙ e))
      go false l = leb-false f.next_leak cycle l

-- ---- the next leak lies ahead

-- at the cycle itself, which a write sees, and on the next clock
pub ahead_one : (f : Floating) (cycle k : ℕ) → k ≤ 1 → cycle < 2 ^ 63 → Ahead f cycle → steps_due f (after cycle k) ≤ 1
unfolding steps_due
ahead_one f cycle k h early ahead =
    by_test (λ (n : ℕ). n ≤ 1) (leaks f (after cycle k)) _ _
    (λ e. let some = (leak_come f (after cycle k) e).0 in omega (arith, (ahead some).1)) (λ _. omega arith)

pub fresh_ahead : (cycle : ℕ) → Ahead fresh.numbers cycle
unfolding fresh
fresh_ahead cycle some = absurd (some refl)

pub captured_ahead : (code cycle : ℕ) → cycle < 2 ^ 63 → Ahead (captured code cycle).numbers cycle
unfolding captured
captured_ahead code cycle early some = (omega arith, omega arith)

pub sampled_ahead : (b : FloatingBus) (cycle : ℕ) → cycle < 2 ^ 63 → Ahead b.numbers cycle → Ahead (sampled_once b (after cycle 1)).numbers (after cycle 1)
unfolding sampled_once leaked_times leaked_to
sampled_ahead b cycle early ahead =
    by_test (λ (x : FloatingBus). Ahead x.numbers (after cycle 1)) (leaks b.numbers (after cycle 1)) _ _ leaked waits
  where
    f : Floating
    f = b.numbers

    leaked : leaks f (after cycle 1) ≡ true → Ahead (leaked_times 1 b).numbers (after cycle 1)
    leaked e some =
        let come = leak_come f (after cycle 1) e in
        let was = ahead come.0 in
        let next : (leaked_times 1 b).numbers.next_leak ≡ after f.next_leak 8192 = simp (ne_eqb (leaked_times 1 b).numbers.value 0 some) in
        (omega (arith, come.1, was.0, was.1, next), omega (arith, come.1, was.1, next))

    waits : leaks f (after cycle 1) ≡ false → Ahead f (after cycle 1)
    waits e some = let was = ahead some in (was.0, leak_not f (after cycle 1) e some was.0)

-- ---- where two are due the rules differ: the least is a line set alone, with hold and next leak at 0, at cycle 8192

unfoldable pub lone : FloatingBus
lone = record { numbers = record { value = 1; hold_until = 0; next_leak = 0 }; charge = charged 1 12 }

pub once_differs : sampled lone 8192 ≡ sampled_once lone 8192 → ⊥
unfolding lone sampled sampled_once leaked_times leaked_to leaks leak_step times charged build high_to
once_differs e =
    let z : ◌≡◌ {A = ℕ} 16384 8192 = ap (λ (b : FloatingBus). b.numbers.next_leak) e in
    omega arith
