-- `Control::code` is what floats where nothing is selected, else the waveforms' code.
use Rattle.std.proofs.Common.{sym, ap, ◌∙◌}
use lib.Bits.{and_mask}
use Rattle.oscillator.specs.Oscillator.{code_by}
use Rattle.oscillator.specs.declared.WaveformSelect.{WaveformSelect}
use Rattle.oscillator.proofs.Control.code.Goals as goal

pub returns-then-is_off : goal.returns-then-is_off
unfolding code_by
returns-then-is_off c =
    let s = ap (λ (x : WaveformSelect). x.raw) c.selected.ensures in
    and_mask c.args.floats 12 ∙ simp (sym s, sym c.is_off.ensures ∙ c.if-is_off.true)

pub returns : goal.returns
unfolding code_by
returns c =
    let s = ap (λ (x : WaveformSelect). x.raw) c.selected.ensures in
    c.waveform_at_phase.ensures ∙ simp (sym s, sym c.is_off.ensures ∙ c.if-is_off.false)
