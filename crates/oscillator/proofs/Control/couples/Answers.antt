-- `Control::couples` is true exactly in test, for noise with pulse and another waveform.
use Rattle.std.proofs.Common.{◌≡◌, Bool, ◌&&◌, eqb, sym, ap, ◌∙◌}
use lib.Bits.{bit_and}
use Rattle.oscillator.specs.Selection.{has}
use Rattle.oscillator.specs.Oscillator.{couples}
use Rattle.oscillator.specs.declared.WaveformSelect.{WaveformSelect}
use Rattle.oscillator.proofs.Chains.{and_assoc, made, left}
use Rattle.oscillator.proofs.Control.couples.Goals as goal
use Rattle.oscillator.proofs.Control.couples.Goals.{then-self, else-self}

pub returns-then-sel-eq12 : goal.returns-then-sel-eq12
unfolding couples
returns-then-sel-eq12 c =
    let s = ap (λ (x : WaveformSelect). x.raw) c.selected-sel.ensures in
    let sel = c.selected-sel.result in
    let a = c.args.self.test_enabled in
    let b = eqb (bit_and sel.raw 0xc) 0xc in
    let last = has sel 3 in
    let first : c.if-self.value ≡ (a && b) = elim c.if-self.branch [ then-self w ↦ w.value-is ∙ simp w.if-self.true | else-self w ↦ w.value-is ∙ simp w.if-self.false ] in
    simp (sym s) (c.has.ensures ∙ made c.if-self.value last c.if-sel-eq12.true ∙ ap (λ (v : Bool). v && last) first ∙ and_assoc a b last)

pub returns-else-sel-eq12 : goal.returns-else-sel-eq12
unfolding couples
returns-else-sel-eq12 c =
    let s = ap (λ (x : WaveformSelect). x.raw) c.selected-sel.ensures in
    let sel = c.selected-sel.result in
    let a = c.args.self.test_enabled in
    let b = eqb (bit_and sel.raw 0xc) 0xc in
    let last = has sel 3 in
    let first : c.if-self.value ≡ (a && b) = elim c.if-self.branch [ then-self w ↦ w.value-is ∙ simp w.if-self.true | else-self w ↦ w.value-is ∙ simp w.if-self.false ] in
    simp (sym s) (left c.if-self.value last c.if-sel-eq12.false ∙ ap (λ (v : Bool). v && last) first ∙ and_assoc a b last)
