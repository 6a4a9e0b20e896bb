-- `Control::pulls_down` is true exactly for driven noise, with pulse alone only in the shift's aperture.
use Rattle.std.proofs.Common.{sym, ap, ◌∙◌, eq-eqb, ne_eqb}
use Rattle.oscillator.specs.Oscillator.{pulls_down}
use Rattle.oscillator.specs.declared.WaveformSelect.{WaveformSelect}
use Rattle.oscillator.proofs.Control.pulls_down.Goals as goal

pub returns-then-sel-ne12 : goal.returns-then-sel-ne12
unfolding pulls_down
returns-then-sel-ne12 c =
    let s = ap (λ (x : WaveformSelect). x.raw) c.selected-sel.ensures in
    simp (sym c.noise_is_driven.ensures ∙ c.if-noise_is_driven.true, sym s, ne_eqb _ _ c.if-sel-ne12.true)

pub returns-else-sel-ne12 : goal.returns-else-sel-ne12
unfolding pulls_down
returns-else-sel-ne12 c =
    let s = ap (λ (x : WaveformSelect). x.raw) c.selected-sel.ensures in
    simp (sym c.noise_is_driven.ensures ∙ c.if-noise_is_driven.true, sym s, eq-eqb _ _ c.if-sel-ne12.false, c.pulse_load_aperture.ensures)

pub returns-else-noise_is_driven : goal.returns-else-noise_is_driven
unfolding pulls_down
returns-else-noise_is_driven c =
    c.if-noise_is_driven.false ∙ simp (sym c.noise_is_driven.ensures ∙ c.if-noise_is_driven.false)
