-- `Noise::captures` is true exactly for a rise of phase bit 19 while no shift is under way.
use Rattle.std.proofs.Common.{sym, ◌∙◌, eq-eqb, ne_eqb}
use Rattle.laws.proofs.Masks.{and_bit}
use Rattle.noise.specs.Noise.{captures}
use Rattle.noise.proofs.Noise.captures.Goals as goal

pub returns-then-rising_bits-ne0 : goal.returns-then-rising_bits-ne0
unfolding captures
returns-then-rising_bits-ne0 c = simp (sym (and_bit c.args.rising_bits 19) ∙ ne_eqb _ _ c.if-rising_bits-ne0.true)

pub returns-else-rising_bits-ne0 : goal.returns-else-rising_bits-ne0
unfolding captures
returns-else-rising_bits-ne0 c =
    let none = eq-eqb _ _ c.if-rising_bits-ne0.false in
    simp (sym (and_bit c.args.rising_bits 19) ∙ none, none)
