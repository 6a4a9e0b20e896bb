-- `sampled_bus` samples the floating lines where nothing is selected, and else leaves them.
use Rattle.std.proofs.Common.{sym, ap, ◌∙◌}
use Rattle.oscillator.specs.Oscillator.{sampled_bus_by}
use Rattle.oscillator.specs.declared.WaveformSelect.{WaveformSelect}
use Rattle.oscillator.proofs.sampled_bus.Goals as goal

pub returns-then-is_off : goal.returns-then-is_off
unfolding sampled_bus_by
returns-then-is_off c =
    let s = ap (λ (x : WaveformSelect). x.raw) c.selected.ensures in
    simp (sym s, sym c.is_off.ensures ∙ c.if-is_off.true, c.sample.ensures)

pub returns-else-is_off : goal.returns-else-is_off
unfolding sampled_bus_by
returns-else-is_off c =
    let s = ap (λ (x : WaveformSelect). x.raw) c.selected.ensures in
    simp (sym s, sym c.is_off.ensures ∙ c.if-is_off.false)
