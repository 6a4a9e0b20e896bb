-- `Wiring::code` joins the waveforms, the triangle of a phase that is turned where the voice rings and the modulator's
-- top bit is low.
use borrow.Author.Tests.{eq-eqb, ne_eqb}
use Prim.Native.Nat.{◌%◌, ◌/◌, ◌^◌}
use mathlib.Core.Path.{◌≡◌, ◌∙◌, sym}
use lib.Bits.{bit_and}
use lib.Dec.{eqb}
use Rattle.laws.proofs.Masks.{and_bit}
use Rattle.wiring.specs.Wiring.{code_of}
use Rattle.wiring.proofs.Wiring.code.Goals as goal

pub returns-then-modulator_acc-eq0 : goal.returns-then-modulator_acc-eq0
unfolding code_of
returns-then-modulator_acc-eq0 c =
    let m = c.args.modulator_acc in
    let low : eqb (bit_and m 0x800000) 0 ≡ eqb (m / 2 ^ 23 % 2) 0 = and_bit m 23 in
    simp (c.if-self.true, sym low ∙ eq-eqb _ _ c.if-modulator_acc-eq0.true, c.joined.ensures, c.phase-phase.ensures)

pub returns-then-self : goal.returns-then-self
unfolding code_of
returns-then-self c =
    let m = c.args.modulator_acc in
    let low : eqb (bit_and m 0x800000) 0 ≡ eqb (m / 2 ^ 23 % 2) 0 = and_bit m 23 in
    simp (c.if-self.true, sym low ∙ ne_eqb _ _ c.if-modulator_acc-eq0.false, c.joined-then-self.ensures, c.phase-phase.ensures)

pub returns : goal.returns
unfolding code_of
returns c = simp (c.if-self.false, c.joined-2.ensures, c.phase-phase.ensures)
