-- `Control::feeds_back` is true exactly for saw joined with another waveform, where bit 11 of the code is clear.
use Rattle.std.proofs.Common.{◌≡◌, ◌/◌, ◌%◌, ◌^◌, Bool, ◌&&◌, eqb, sym, ap, ◌∙◌}
use lib.Bits.{bit_and}
use Rattle.laws.proofs.Masks.{and_bit}
use Rattle.oscillator.specs.Selection.{has, is_combined}
use Rattle.oscillator.specs.Oscillator.{feeds_back}
use Rattle.oscillator.specs.declared.WaveformSelect.{WaveformSelect}
use Rattle.oscillator.proofs.Chains.{and_assoc, made, left}
use Rattle.oscillator.proofs.Control.feeds_back.Goals as goal
use Rattle.oscillator.proofs.Control.feeds_back.Goals.{then-has, else-has}

pub returns-then-is_combined : goal.returns-then-is_combined
unfolding feeds_back
returns-then-is_combined c =
    let s = ap (λ (x : WaveformSelect). x.raw) c.selected-sel.ensures in
    let sel = c.selected-sel.result in
    let a = has sel 2 in
    let b = is_combined sel in
    let last = eqb (c.args.output / 2 ^ 11 % 2) 0 in
    let low : eqb (bit_and c.args.output 0x800) 0 ≡ last = and_bit c.args.output 11 in
    let first : c.if-has.value ≡ (a && b) = elim c.if-has.branch [ then-has w ↦ w.value-is ∙ simp (sym c.has.ensures ∙ w.if-has.true, w.is_combined.ensures) | else-has w ↦ w.value-is ∙ w.if-has.false ∙ simp (sym c.has.ensures ∙ w.if-has.false) ] in
    simp (sym s) (low ∙ made c.if-has.value last c.if-is_combined.true ∙ ap (λ (v : Bool). v && last) first ∙ and_assoc a b last)

pub returns-else-is_combined : goal.returns-else-is_combined
unfolding feeds_back
returns-else-is_combined c =
    let s = ap (λ (x : WaveformSelect). x.raw) c.selected-sel.ensures in
    let sel = c.selected-sel.result in
    let a = has sel 2 in
    let b = is_combined sel in
    let last = eqb (c.args.output / 2 ^ 11 % 2) 0 in
    let first : c.if-has.value ≡ (a && b) = elim c.if-has.branch [ then-has w ↦ w.value-is ∙ simp (sym c.has.ensures ∙ w.if-has.true, w.is_combined.ensures) | else-has w ↦ w.value-is ∙ w.if-has.false ∙ simp (sym c.has.ensures ∙ w.if-has.false) ] in
    simp (sym s) (left c.if-has.value last c.if-is_combined.false ∙ ap (λ (v : Bool). v && last) first ∙ and_assoc a b last)
