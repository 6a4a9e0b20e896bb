-- Where one leak step is due at most, document 01's rule makes the one step that a chip's makes (`relax_once`). A
-- register whose next leak lies ahead of a cycle has one due at most on the next clock (`ahead_one`); test entered
-- and a clock in test leave it ahead, and a clock out of test leaves it alone. Assumes nothing.
use Rattle.std.proofs.Common.{◌≡◌, ℕ, ◌-◌, ◌/◌, ◌^◌, ◌<◌, ◌≤◌, Bool, true, false, not, ◌&&◌, eqb, leb, refl, ap, true≢false, arith, eqb-true, leb-false, leb-true}
use Rattle.laws.proofs.Bools.{and_right}
use Rattle.laws.proofs.Cond.{by_test, either, one_at_most}
use Rattle.laws.specs.Charges.{charged}
use Rattle.laws.specs.Cycle.{never, after}
use Rattle.noise.specs.Noise.{entered_test, captures, capture_numbers, clocked, come, transfers, shifted_numbers, transferred, settled_to, relaxed_times, relaxed, relaxed_once, steps_due, Ahead, stepped_by}
use Rattle.noise.specs.declared.Noise.{Noise}
use Rattle.noise.specs.declared.NoiseGenerator.{NoiseGenerator}

pub relax_once : (g : NoiseGenerator) (cycle : ℕ) → steps_due g.numbers cycle ≤ 1 → relaxed g cycle ≡ relaxed_once g cycle
unfolding relaxed relaxed_once steps_due
relax_once g cycle = one_at_most (λ n. relaxed_times n g) g (come g.numbers.next_leak cycle) ((cycle - g.numbers.next_leak) / 65536)

-- ---- the next leak lies ahead

-- at the cycle itself, which a write sees, and on the next clock
pub ahead_one : (n : Noise) (cycle k : ℕ) → k ≤ 1 → cycle < 2 ^ 63 → Ahead n cycle → steps_due n (after cycle k) ≤ 1
unfolding steps_due
ahead_one n cycle k h early ahead =
    either (λ (x : ℕ). x ≤ 1) (come n.next_leak (after cycle k)) _ _ (omega arith) (omega arith)

pub entered_ahead : (g : NoiseGenerator) (cycle : ℕ) → cycle < 2 ^ 63 → Ahead (entered_test g cycle).numbers cycle
unfolding entered_test
entered_ahead g cycle early = omega arith

pub has_come : (at cycle : ℕ) → come at cycle ≡ true → at ≤ cycle
unfolding come
has_come at cycle e = leb-true at cycle (and_right (not (eqb at never)) (leb at cycle) e)

-- a time that has not come lies ahead of all cycles but the last
not_come : (at cycle : ℕ) → cycle < never → come at cycle ≡ false → cycle < at
unfolding come
not_come at cycle h e = go (eqb at never) (leb at cycle) refl refl e
  where
    go : (s t : Bool) → eqb at never ≡ s → leb at cycle ≡ t → (not s && t) ≡ false → cycle < at
    go true t p q z = omega (arith, eqb-true at never p)
    go false true p q z = absurd (true≢false z)
    go false false p q z = leb-false at cycle q

pub relaxed_ahead
    : (g : NoiseGenerator) (cycle : ℕ) → cycle < 2 ^ 63 → Ahead g.numbers cycle → Ahead (relaxed_once g (after cycle 1)).numbers (after cycle 1)
unfolding relaxed_once relaxed_times settled_to
relaxed_ahead g cycle early ahead =
    let at = g.numbers.next_leak in
    by_test (λ (x : NoiseGenerator). Ahead x.numbers (after cycle 1)) (come at (after cycle 1)) _ _
    (λ e. omega (arith, has_come at (after cycle 1) e)) (not_come at (after cycle 1) (omega arith))

-- out of test a clock sets no leak
pub stepped_leak
    : (recover : NoiseGenerator → ℕ → NoiseGenerator) (g : NoiseGenerator) (rising cycle : ℕ)
    → (stepped_by recover g false rising cycle).numbers.next_leak ≡ g.numbers.next_leak
unfolding stepped_by clocked capture_numbers transferred shifted_numbers
stepped_leak recover g rising cycle =
    let P : NoiseGenerator → Type 0 = λ x. x.numbers.next_leak ≡ g.numbers.next_leak in
    let shifts = either P (transfers g.numbers cycle) _ _ refl refl in
    either P (captures (transferred g cycle).numbers rising) _ _ shifts shifts

-- ---- where two are due the rules differ: the least is a register with its next leak at 0, at cycle 65,536

unfoldable pub overdue : NoiseGenerator
overdue = record {
  numbers = record { state = 0; visible = 0; captured = 0; transfer_at = never; normal_transfer_at = never; next_leak = 0 };
  captured_charge = charged 0 23;
  charge = charged 0 23;
}

pub once_differs : relaxed overdue 65536 ≡ relaxed_once overdue 65536 → ⊥
unfolding overdue relaxed relaxed_once relaxed_times settled_to come
once_differs e =
    let z : ◌≡◌ {A = ℕ} 131072 65536 = ap (λ (g : NoiseGenerator). g.numbers.next_leak) e in
    omega arith
