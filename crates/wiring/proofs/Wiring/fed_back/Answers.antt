-- `Wiring::fed_back` clears the phase's top bit and its mark where the voice feeds back and the code lacks bit 11.
use borrow.Author.Tests.{eq-eqb, ne_eqb}
use Prim.Native.Nat.{◌%◌, ◌/◌, ◌^◌}
use mathlib.Core.Path.{◌≡◌, ◌∙◌, sym}
use lib.Bits.{bit_and}
use lib.Dec.{eqb}
use Rattle.laws.proofs.Masks.{and_bit}
use Rattle.wiring.specs.Wiring.{fed_back_of}
use Rattle.wiring.proofs.Wiring.fed_back.Goals as goal

pub returns-then-code-eq0 : goal.returns-then-code-eq0
unfolding fed_back_of
returns-then-code-eq0 c =
    let code = c.args.code in
    let low : eqb (bit_and code 0x800) 0 ≡ eqb (code / 2 ^ 11 % 2) 0 = and_bit code 11 in
    simp (c.if-self.true, sym low ∙ eq-eqb _ _ c.if-code-eq0.true)

pub returns-else-code-eq0 : goal.returns-else-code-eq0
unfolding fed_back_of
returns-else-code-eq0 c =
    let code = c.args.code in
    let low : eqb (bit_and code 0x800) 0 ≡ eqb (code / 2 ^ 11 % 2) 0 = and_bit code 11 in
    simp (c.if-self.true, sym low ∙ ne_eqb _ _ c.if-code-eq0.false)

pub returns-else-self : goal.returns-else-self
unfolding fed_back_of
returns-else-self c = simp c.if-self.false
