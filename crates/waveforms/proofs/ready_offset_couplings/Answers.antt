-- `ready_offset_couplings` is the same 23 couplings, to the bit, out of three tables of literals.
-- All selections but 3 and 5 share a table (`coupling_other`); each table is computed and compared entry by entry.
use mathlib.Core.Path.{refl, sym}
use native.Mathlib.Omega.{arith}
use lib.Ieee.{of_bits, neg, add, mul}
use Rattle.laws.specs.Build.{build}
use Rattle.laws.proofs.Build.{build_same}
use Rattle.waveforms.specs.Constants.{dec, 0·0, 1·0, neighbour_coupling, directional_skews, distance_decays}
use Rattle.waveforms.specs.Waveforms.{power, powi, coupled, coupling}
use Rattle.waveforms.proofs.Couplings.{coupling_low, coupling_other}
use Rattle.waveforms.proofs.ready_offset_couplings.Goals as goal

pub returns-in-3 : goal.returns-in-3
unfolding add mul neg of_bits dec 0·0 1·0 neighbour_coupling directional_skews distance_decays build power powi coupled coupling
returns-in-3 c = sym (build_same _ (λ k. coupling 3 k 11) 23 (λ k _. coupling_low c.args.selection 3 c.in-3.is refl k 11))

pub returns-in-5 : goal.returns-in-5
unfolding add mul neg of_bits dec 0·0 1·0 neighbour_coupling directional_skews distance_decays build power powi coupled coupling
returns-in-5 c = sym (build_same _ (λ k. coupling 5 k 11) 23 (λ k _. coupling_low c.args.selection 5 c.in-5.is refl k 11))

pub returns-in_default : goal.returns-in_default
unfolding add mul neg of_bits dec 0·0 1·0 neighbour_coupling directional_skews distance_decays build power powi coupled coupling
returns-in_default c = sym (build_same _ (λ k. coupling 0 k 11) 23 (λ k _. coupling_other c.args.selection (λ q. omega arith) (λ q. omega arith) k 11))
