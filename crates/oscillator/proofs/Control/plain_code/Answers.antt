-- `Control::plain_code` is what floats where nothing is selected, else the joined waveforms, not loaded.
use Rattle.std.proofs.Common.{sym, ap, ◌∙◌}
use lib.Bits.{and_mask}
use Rattle.oscillator.specs.Loop.{plain_code}
use Rattle.oscillator.specs.declared.WaveformSelect.{WaveformSelect}
use Rattle.oscillator.proofs.Control.plain_code.Goals as goal

pub returns-then-is_off : goal.returns-then-is_off
unfolding plain_code
returns-then-is_off c =
    let s = ap (λ (x : WaveformSelect). x.raw) c.selected.ensures in
    and_mask c.args.floats 12 ∙ simp (sym s, sym c.is_off.ensures ∙ c.if-is_off.true)

pub returns : goal.returns
unfolding plain_code
returns c =
    let s = ap (λ (x : WaveformSelect). x.raw) c.selected.ensures in
    and_mask c.ideal.result 12 ∙ simp (sym s, sym c.is_off.ensures ∙ c.if-is_off.false, c.ideal.ensures)
