-- `written_bus` captures the last code where waveform 0 is newly selected, and resets the lines where another is.
use Rattle.std.proofs.Common.{eq-eqb, ne_eqb}
use Rattle.oscillator.specs.Oscillator.{written_bus}
use Rattle.oscillator.proofs.written_bus.Goals as goal

pub returns-then-old_wave-new_wave : goal.returns-then-old_wave-new_wave
unfolding written_bus
returns-then-old_wave-new_wave c = simp (eq-eqb _ _ c.if-old_wave-new_wave.true)

pub returns-then-new_wave-eq0 : goal.returns-then-new_wave-eq0
unfolding written_bus
returns-then-new_wave-eq0 c = simp (ne_eqb _ _ c.if-old_wave-new_wave.false, eq-eqb _ _ c.if-new_wave-eq0.true, c.capture.ensures)

pub returns-else-new_wave-eq0 : goal.returns-else-new_wave-eq0
unfolding written_bus
returns-else-new_wave-eq0 c = simp (ne_eqb _ _ c.if-old_wave-new_wave.false, ne_eqb _ _ c.if-new_wave-eq0.false, c.reset.ensures)
