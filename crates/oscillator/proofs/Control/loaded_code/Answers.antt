-- `Control::loaded_code` is the code that the selection's lines settle to, in twelve bits.
use Rattle.std.proofs.Common.{sym, ap, ◌∙◌}
use lib.Bits.{and_mask}
use Rattle.oscillator.specs.Oscillator.{loaded_code_by}
use Rattle.oscillator.specs.declared.WaveformSelect.{WaveformSelect}
use Rattle.oscillator.proofs.Control.loaded_code.Goals as goal

pub returns : goal.returns
unfolding loaded_code_by
returns c =
    let s = ap (λ (x : WaveformSelect). x.raw) c.selected.ensures in
    and_mask c.settled_code.result 12 ∙ simp (sym s, c.settled_code.ensures)
