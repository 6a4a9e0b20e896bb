-- `Control::sample_due` is true exactly where nothing is selected and the floating lines leak.
use Rattle.std.proofs.Common.{sym, ap, ◌∙◌}
use Rattle.oscillator.specs.Loop.{sample_due}
use Rattle.oscillator.specs.declared.WaveformSelect.{WaveformSelect}
use Rattle.oscillator.proofs.Control.sample_due.Goals as goal

pub returns-then-is_off : goal.returns-then-is_off
unfolding sample_due
returns-then-is_off c =
    let s = ap (λ (x : WaveformSelect). x.raw) c.selected.ensures in
    simp (sym s, sym c.is_off.ensures ∙ c.if-is_off.true, c.leaks.ensures)

pub returns-else-is_off : goal.returns-else-is_off
unfolding sample_due
returns-else-is_off c =
    let s = ap (λ (x : WaveformSelect). x.raw) c.selected.ensures in
    c.if-is_off.false ∙ simp (sym s, sym c.is_off.ensures ∙ c.if-is_off.false)
