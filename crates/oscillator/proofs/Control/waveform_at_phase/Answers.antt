-- `Control::waveform_at_phase` is the joined waveforms, loaded where the selection loads its lines.
use Rattle.std.proofs.Common.{sym, ◌∙◌}
use lib.Bits.{and_mask}
use Rattle.oscillator.specs.Oscillator.{waveform_at_by}
use Rattle.oscillator.proofs.Control.waveform_at_phase.Goals as goal

pub returns-then-loads_lines : goal.returns-then-loads_lines
unfolding waveform_at_by
returns-then-loads_lines c =
    simp (sym c.loads_lines.ensures ∙ c.if-loads_lines.true, c.loaded_code.ensures, c.ideal-ideal.ensures)

pub returns : goal.returns
unfolding waveform_at_by
returns c =
    and_mask c.ideal-ideal.result 12 ∙ simp (sym c.loads_lines.ensures ∙ c.if-loads_lines.false, c.ideal-ideal.ensures)
