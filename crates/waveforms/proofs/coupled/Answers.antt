-- `coupled` is the neighbour's coupling, times the decay to the power of the distance less 1, times the skew.
use lib.Ieee.{of_bits}
use Rattle.waveforms.specs.Constants.{dec, directional_skews, distance_decays}
use Rattle.waveforms.specs.Waveforms.{coupled}
use Rattle.waveforms.proofs.Literals.{is_one, is_neighbour_coupling}
use Rattle.waveforms.proofs.coupled.Goals as goal

pub returns : goal.returns
unfolding coupled directional_skews distance_decays dec of_bits
returns c = cc (is_one, is_neighbour_coupling)
