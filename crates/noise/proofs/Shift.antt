-- Document 01, 'Oscillator': 'A rise of phase bit 19 captures; the shift lands two clocks later; a rise in between is
-- ignored. Feedback is stage 0 xor stage 5.' For every register and every rise. Assumes nothing.
use Rattle.std.proofs.Common.{◌≡◌, ℕ, ◌+◌, ◌*◌, ◌/◌, ◌%◌, ◌^◌, ◌<◌, ◌≤◌, Bool, true, false, cond, not, ◌&&◌, eqb, refl, ap, ◌∙◌, arith, ne_eqb, le-leb}
use borrow.Author.Tests.{lt-leb}
use lib.Bits.{bit_or, bit_xor, xor_lt, or_shr, or_zero_l}
use lib.Pow.{shl-shr, field}
use Rattle.laws.specs.Cycle.{never, after}
use Rattle.noise.specs.Noise.{captures, capture_numbers, caught, clocked, come, feedback, shifted_state, shifted_numbers, transferred, stepped, stepped_by}
use Rattle.noise.specs.declared.NoiseGenerator.{NoiseGenerator}

-- stage 22 of a shift of 23 stages is the feedback
pub feedback_enters : (stages : ℕ) → stages < 2 ^ 23 → shifted_state stages / 2 ^ 22 ≡ bit_xor (stages % 2) (stages / 2 ^ 5 % 2)
unfolding shifted_state
feedback_enters s h =
    let f : feedback s < 2 ^ 1 = xor_lt 1 (s % 2) (s / 2 ^ 5 % 2) (omega arith) (omega arith) in
    let z : s / 2 / 2 ^ 22 ≡ 0 = omega arith in
    field (bit_or (s / 2) (feedback s * 2 ^ 22)) 1 22
    ∙ ap (λ (x : ℕ). x % 2)
    (or_shr (s / 2) (feedback s * 2 ^ 22) 22 ∙ ap (λ (x : ℕ). bit_or x (feedback s * 2 ^ 22 / 2 ^ 22)) z ∙ or_zero_l (feedback s * 2 ^ 22 / 2 ^ 22) ∙ shl-shr (feedback s) 22)
    ∙ omega arith

-- a capture leaves the stages alone
clocked_state : (g : NoiseGenerator) (rising c : ℕ) → (clocked g rising c).numbers.state ≡ g.numbers.state
unfolding clocked capture_numbers
clocked_state g rising c = go (captures g.numbers rising)
  where
    go : (t : Bool) → (cond t (caught g c) g).numbers.state ≡ g.numbers.state
    go true = refl
    go false = refl

module _ (g : NoiseGenerator) (rising c : ℕ) where
  -- a rise with no shift under way
  pub rise_captures : rising / 2 ^ 19 % 2 ≡ 1 → g.numbers.transfer_at ≡ never → stepped g false rising c ≡ caught g c
  unfolding stepped_by transferred clocked captures come
  rise_captures r e = simp (e, r)

  module _ (under-way : g.numbers.transfer_at ≡ never → ⊥) where
    -- a clock on which the shift has not come changes nothing, whatever rises
    pub rise_ignored : c < g.numbers.transfer_at → stepped g false rising c ≡ g
    unfolding stepped_by transferred clocked captures come
    rise_ignored early =
        simp (ne_eqb g.numbers.transfer_at never under-way, lt-leb g.numbers.transfer_at c early) (go (not (eqb (rising / 2 ^ 19 % 2) 0)))
      where
        go : (t : Bool) → cond (t && false) (caught g c) g ≡ g
        go true = refl
        go false = refl

    -- the clock on which it lands shows the shifted stages; a rise on that clock captures them
    pub shift_lands : g.numbers.transfer_at ≤ c → (stepped g false rising c).numbers.state ≡ shifted_state g.numbers.captured
    unfolding stepped_by transferred come shifted_numbers
    shift_lands due =
        clocked_state (transferred g c) rising c ∙ simp (ne_eqb g.numbers.transfer_at never under-way, le-leb g.numbers.transfer_at c due)

-- THE LAW: from a rise at cycle c, with any rises r and s on the two clocks after it
pub shift_two_later
    : (g : NoiseGenerator) (rising r s c : ℕ)
    → rising / 2 ^ 19 % 2 ≡ 1
    → g.numbers.transfer_at ≡ never
    → c + 2 < never
    → ((stepped (stepped g false rising c) false r (c + 1)).numbers.state ≡ g.numbers.state)
    × ((stepped (stepped (stepped g false rising c) false r (c + 1)) false s (c + 2)).numbers.state ≡ shifted_state g.numbers.state)
unfolding capture_numbers
shift_two_later g rising r s c up free fits =
    let n : after c 2 ≡ c + 2 = omega arith in
    let set : after c 2 ≡ never → ⊥ = λ e. omega arith in
    let one : stepped (stepped g false rising c) false r (c + 1) ≡ caught g c =
    ap (λ (x : NoiseGenerator). stepped x false r (c + 1)) (rise_captures g rising c up free) ∙ rise_ignored (caught g c) r (c + 1) set (omega arith) in (
      ap (λ (x : NoiseGenerator). x.numbers.state) one,
      ap (λ (x : NoiseGenerator). (stepped x false s (c + 2)).numbers.state) one ∙ shift_lands (caught g c) s (c + 2) set (omega arith),
    )
