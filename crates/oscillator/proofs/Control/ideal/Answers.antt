-- `Control::ideal` is the selected waveforms joined by and, before any line is loaded.
use Rattle.oscillator.specs.Oscillator.{ideal}
use Rattle.oscillator.proofs.Control.ideal.Goals as goal

pub returns : goal.returns
unfolding ideal
returns c = simp (c.combine.ensures, c.pulse.ensures, c.triangle_from_phase-triangle.ensures, c.triangle_phase.ensures, c.phase-phase.ensures, c.selected.ensures)
