-- `Control::noise_is_driven` is true exactly out of test, for noise with another waveform.
use Rattle.std.proofs.Common.{◌≡◌, Bool, not, ◌&&◌, sym, ap, ◌∙◌}
use Rattle.oscillator.specs.Selection.{has}
use Rattle.oscillator.specs.Oscillator.{noise_is_driven}
use Rattle.oscillator.specs.declared.WaveformSelect.{WaveformSelect}
use Rattle.oscillator.proofs.Chains.{and_assoc, made, left}
use Rattle.oscillator.proofs.Control.noise_is_driven.Goals as goal
use Rattle.oscillator.proofs.Control.noise_is_driven.Goals.{then-has, else-has}

pub returns-then-has-2 : goal.returns-then-has-2
unfolding noise_is_driven
returns-then-has-2 c =
    let s = ap (λ (x : WaveformSelect). x.raw) c.selected-sel.ensures in
    let sel = c.selected-sel.result in
    let a = has sel 8 in
    let b = has sel 7 in
    let last = not c.args.self.test_enabled in
    let first : c.if-has.value ≡ (a && b) = elim c.if-has.branch [ then-has w ↦ w.value-is ∙ simp (sym c.has.ensures ∙ w.if-has.true, w.has-then-has.ensures) | else-has w ↦ w.value-is ∙ w.if-has.false ∙ simp (sym c.has.ensures ∙ w.if-has.false) ] in
    simp (sym s) (made c.if-has.value last c.if-has-2.true ∙ ap (λ (v : Bool). v && last) first ∙ and_assoc a b last)

pub returns-else-has-2 : goal.returns-else-has-2
unfolding noise_is_driven
returns-else-has-2 c =
    let s = ap (λ (x : WaveformSelect). x.raw) c.selected-sel.ensures in
    let sel = c.selected-sel.result in
    let a = has sel 8 in
    let b = has sel 7 in
    let last = not c.args.self.test_enabled in
    let first : c.if-has.value ≡ (a && b) = elim c.if-has.branch [ then-has w ↦ w.value-is ∙ simp (sym c.has.ensures ∙ w.if-has.true, w.has-then-has.ensures) | else-has w ↦ w.value-is ∙ w.if-has.false ∙ simp (sym c.has.ensures ∙ w.if-has.false) ] in
    simp (sym s) (left c.if-has.value last c.if-has-2.false ∙ ap (λ (v : Bool). v && last) first ∙ and_assoc a b last)
