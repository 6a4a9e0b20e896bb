-- `static_load` is the loads of the selected waveforms, added from triangle to noise.
use Rattle.waveforms.specs.Waveforms.{static_load_of}
use Rattle.waveforms.proofs.Literals.{is_pulse_load, is_noise_load, is_triangle_load, is_saw_load}
use Rattle.waveforms.proofs.static_load.Goals as goal

pub returns : goal.returns
unfolding static_load_of
returns c = cc (is_triangle_load, is_saw_load, is_pulse_load, is_noise_load)
