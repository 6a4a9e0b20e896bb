-- A float literal of the code, which a need shows by its bits, is the decimal constant of specs/Constants.antt.
-- Assumes nothing.
use mathlib.Core.Path.{◌≡◌, refl}
use lib.Ieee.{binary32, of_bits}
use Rattle.waveforms.specs.Constants.{dec, 0·0, 1·0, 2·0, neighbour_coupling, pulse_load, noise_load, triangle_load, saw_load, interaction_gain}

pub is_zero : of_bits binary32 0 ≡ 0·0
unfolding 0·0 dec of_bits
is_zero = refl

pub is_one : of_bits binary32 0x3f80_0000 ≡ 1·0
unfolding 1·0 dec of_bits
is_one = refl

pub is_two : of_bits binary32 0x4000_0000 ≡ 2·0
unfolding 2·0 dec of_bits
is_two = refl

pub is_neighbour_coupling : of_bits binary32 0x3d72_f085 ≡ neighbour_coupling
unfolding neighbour_coupling dec of_bits
is_neighbour_coupling = refl

pub is_pulse_load : of_bits binary32 0x3d24_81d0 ≡ pulse_load
unfolding pulse_load dec of_bits
is_pulse_load = refl

pub is_noise_load : of_bits binary32 0x3b69_4904 ≡ noise_load
unfolding noise_load dec of_bits
is_noise_load = refl

pub is_triangle_load : of_bits binary32 0x3da4_415b ≡ triangle_load
unfolding triangle_load dec of_bits
is_triangle_load = refl

pub is_saw_load : of_bits binary32 0x3cb3_78a8 ≡ saw_load
unfolding saw_load dec of_bits
is_saw_load = refl

pub is_interaction_gain : of_bits binary32 0x3f8c_cccd ≡ interaction_gain
unfolding interaction_gain dec of_bits
is_interaction_gain = refl
