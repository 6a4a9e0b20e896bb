-- `Control::written` takes waveform, sync, ring and test from the byte, and keeps frequency and pulse width.
use Rattle.std.proofs.Common.{refl}
use Rattle.oscillator.specs.Oscillator.{written_control}
use Rattle.oscillator.proofs.Control.written.Goals as goal

pub returns : goal.returns
unfolding written_control
returns c = refl
