-- `Control::rings` is true exactly for a ring of triangle without saw while the modulator's top bit is low.
use Rattle.std.proofs.Common.{◌≡◌, ◌/◌, ◌%◌, ◌^◌, Bool, not, ◌&&◌, eqb, sym, ap, ◌∙◌}
use lib.Bits.{bit_and}
use Rattle.laws.proofs.Masks.{and_bit}
use Rattle.oscillator.specs.Selection.{has}
use Rattle.oscillator.specs.Oscillator.{rings}
use Rattle.oscillator.specs.declared.WaveformSelect.{WaveformSelect}
use Rattle.oscillator.proofs.Chains.{and_assoc, made, left}
use Rattle.oscillator.proofs.Control.rings.Goals as goal
use Rattle.oscillator.proofs.Control.rings.Goals.{then-self, else-self, then-has, else-has}

pub returns-then-not-has : goal.returns-then-not-has
unfolding rings
returns-then-not-has c =
    let s = ap (λ (x : WaveformSelect). x.raw) c.selected-sel.ensures in
    let sel = c.selected-sel.result in
    let ring = c.args.self.ring_enabled in
    let low = eqb (c.args.modulator_acc / 2 ^ 23 % 2) 0 in
    let b : eqb (bit_and c.args.modulator_acc 0x800000) 0 ≡ low = and_bit c.args.modulator_acc 23 in
    let first : c.if-self.value ≡ (ring && has sel 1) =
    elim c.if-self.branch [ then-self w ↦ w.value-is ∙ simp (w.if-self.true, w.has.ensures) | else-self w ↦ w.value-is ∙ simp w.if-self.false ] in
    let second : c.if-has.value ≡ (c.if-self.value && not (has sel 2)) =
    elim c.if-has.branch [ then-has w ↦ w.value-is ∙ simp (w.if-has.true, w.has-then-has.ensures) | else-has w ↦ w.value-is ∙ simp w.if-has.false ] in
    simp (sym s)
    (b ∙ made c.if-has.value low c.if-not-has.true
    ∙ ap (λ (v : Bool). v && low) (second ∙ ap (λ (v : Bool). v && not (has sel 2)) first)
    ∙ and_assoc (ring && has sel 1) (not (has sel 2)) low ∙ and_assoc ring (has sel 1) (not (has sel 2) && low))

pub returns-else-not-has : goal.returns-else-not-has
unfolding rings
returns-else-not-has c =
    let s = ap (λ (x : WaveformSelect). x.raw) c.selected-sel.ensures in
    let sel = c.selected-sel.result in
    let ring = c.args.self.ring_enabled in
    let low = eqb (c.args.modulator_acc / 2 ^ 23 % 2) 0 in
    let first : c.if-self.value ≡ (ring && has sel 1) =
    elim c.if-self.branch [ then-self w ↦ w.value-is ∙ simp (w.if-self.true, w.has.ensures) | else-self w ↦ w.value-is ∙ simp w.if-self.false ] in
    let second : c.if-has.value ≡ (c.if-self.value && not (has sel 2)) =
    elim c.if-has.branch [ then-has w ↦ w.value-is ∙ simp (w.if-has.true, w.has-then-has.ensures) | else-has w ↦ w.value-is ∙ simp w.if-has.false ] in
    simp (sym s)
    (left c.if-has.value low c.if-not-has.false
    ∙ ap (λ (v : Bool). v && low) (second ∙ ap (λ (v : Bool). v && not (has sel 2)) first)
    ∙ and_assoc (ring && has sel 1) (not (has sel 2)) low ∙ and_assoc ring (has sel 1) (not (has sel 2) && low))
