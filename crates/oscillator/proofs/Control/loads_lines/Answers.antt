-- `Control::loads_lines` is true exactly for two waveforms or more, but for selection 9.
use Rattle.std.proofs.Common.{sym, ap, eq-eqb, ne_eqb}
use Rattle.oscillator.specs.Oscillator.{loads_lines}
use Rattle.oscillator.specs.declared.WaveformSelect.{WaveformSelect}
use Rattle.oscillator.proofs.Control.loads_lines.Goals as goal

pub returns-then-sel-ne9 : goal.returns-then-sel-ne9
unfolding loads_lines
returns-then-sel-ne9 c =
    let s = ap (λ (x : WaveformSelect). x.raw) c.selected-sel.ensures in
    simp (sym s, ne_eqb _ _ c.if-sel-ne9.true, c.needs_line_loading.ensures)

pub returns-else-sel-ne9 : goal.returns-else-sel-ne9
unfolding loads_lines
returns-else-sel-ne9 c =
    let s = ap (λ (x : WaveformSelect). x.raw) c.selected-sel.ensures in
    simp (sym s, eq-eqb _ _ c.if-sel-ne9.false)
