-- `Tone::clocked` adds the frequency to the 24-bit phase and marks a rise of its top bit; in test the phase is 0.
use Rattle.std.proofs.Common.{◌≡◌, ◌+◌, ◌/◌, ◌%◌, ◌^◌, eqb, ◌∙◌, arith}
use lib.Bits.{and_mask, bit_and}
use Rattle.laws.proofs.Masks.{and_bit}
use Rattle.oscillator.specs.Oscillator.{clocked_tone, reset_phase, rising}
use Rattle.oscillator.proofs.Tone.clocked.Goals as goal

pub returns-then-control : goal.returns-then-control
unfolding clocked_tone reset_phase
returns-then-control c = simp (c.if-control.true, c.reset_phase.ensures)

pub returns : goal.returns
unfolding clocked_tone
returns c =
    let a = c.args in
    let n = (a.self.accumulator + a.control.frequency) % 2 ^ 24 in
    let sum = (a.self.accumulator + a.control.frequency) % 2 ^ 32 in
    let e : bit_and sum 0xffffff ≡ n = and_mask sum 24 ∙ omega arith in
    let x = rising a.self.accumulator n in
    let b : eqb (bit_and x 0x800000) 0 ≡ eqb (x / 2 ^ 23 % 2) 0 = and_bit x 23 in
    simp (c.if-control.false, c.rising.ensures, e, b)
