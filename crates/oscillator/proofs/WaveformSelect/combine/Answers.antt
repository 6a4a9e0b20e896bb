-- `WaveformSelect::combine` joins the selected waveforms by and; with none it is the open bus.
use Rattle.std.proofs.Common.{sym, ◌∙◌}
use Rattle.oscillator.specs.Selection.{combined}
use Rattle.oscillator.proofs.WaveformSelect.combine.Goals as goal

pub returns-then-is_off : goal.returns-then-is_off
unfolding combined
returns-then-is_off c = simp (sym c.is_off.ensures ∙ c.if-is_off.true)

pub returns : goal.returns
unfolding combined
returns c = simp (sym c.is_off.ensures ∙ c.if-is_off.false, c.join.ensures, c.join-c.ensures, c.join-b.ensures, c.join-a.ensures)
