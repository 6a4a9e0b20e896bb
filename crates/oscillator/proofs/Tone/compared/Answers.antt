-- `Tone::compared` puts the pulse high where the phase is at the pulse width or above, else low.
use Rattle.std.proofs.Common.{sym, le-leb}
use borrow.Author.Tests.{lt-leb}
use Rattle.oscillator.specs.Oscillator.{compared_tone}
use Rattle.oscillator.proofs.Tone.compared.Goals as goal

pub returns-then-phase-control : goal.returns-then-phase-control
unfolding compared_tone
returns-then-phase-control c = simp (sym c.phase.ensures, le-leb _ _ c.if-phase-control.true)

pub returns-else-phase-control : goal.returns-else-phase-control
unfolding compared_tone
returns-else-phase-control c = simp (sym c.phase.ensures, lt-leb _ _ c.if-phase-control.false)
