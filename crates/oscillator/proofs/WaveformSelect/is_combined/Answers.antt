-- `WaveformSelect::is_combined` is true exactly for two waveforms or more.
use Rattle.waveforms.specs.Waveforms.{needs_loading}
use Rattle.oscillator.proofs.WaveformSelect.is_combined.Goals as goal

pub returns : goal.returns
unfolding needs_loading
returns c = c.needs_line_loading.ensures
