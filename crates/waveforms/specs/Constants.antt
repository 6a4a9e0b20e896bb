-- The constants of line loading, as constants.rs has them. `dec n k` is the f32 nearest to n / 10 ^ k, which is how
-- Rust reads a literal with k digits behind the point; the underscore stands for the point.
use Rattle.std.specs.Prelude.{ℕ, ◌%◌, ◌^◌, false, List, [], ◌∷◌, get_or, Float}
use Rattle.std.specs.Float.{nan, binary32}
use Rattle.std.specs.Float.Ieee.{round, neg}

unfoldable pub dec : ℕ → ℕ → Float
unfolding round
dec n k = round binary32 false n (10 ^ k)

unfoldable pub 0·0 : Float
unfolding dec
0·0 = dec 0_0 1

unfoldable pub 1·0 : Float
unfolding dec
1·0 = dec 1_0 1

unfoldable pub 2·0 : Float
unfolding dec
2·0 = dec 2_0 1

-- COMBINED_WAVEFORM_NEIGHBOUR_COUPLING
unfoldable pub neighbour_coupling : Float
unfolding dec
neighbour_coupling = dec 0_05931141 8

-- COMBINED_WAVEFORM_DIRECTIONAL_SKEW_BY_SELECTION
unfoldable pub directional_skews : List Float
unfolding dec neg
directional_skews =
    dec 0_09584916 8 ∷ dec 0_09584916 8 ∷ dec 0_09584916 8 ∷ neg (dec 0_40 2) ∷
    dec 0_09584916 8 ∷ neg (dec 0_0385 4) ∷ dec 0_09584916 8 ∷ dec 0_09584916 8 ∷
    dec 0_09584916 8 ∷ dec 0_09584916 8 ∷ dec 0_09584916 8 ∷ dec 0_09584916 8 ∷
    dec 0_09584916 8 ∷ dec 0_09584916 8 ∷ dec 0_09584916 8 ∷ dec 0_09584916 8 ∷ []

-- COMBINED_WAVEFORM_DISTANCE_DECAY_BY_SELECTION
unfoldable pub distance_decays : List Float
unfolding dec
distance_decays =
    dec 0_8333164 7 ∷ dec 0_8333164 7 ∷ dec 0_8333164 7 ∷ dec 0_37161743 8 ∷
    dec 0_8333164 7 ∷ dec 0_83625 5 ∷ dec 0_8333164 7 ∷ dec 0_8333164 7 ∷
    dec 0_8333164 7 ∷ dec 0_8333164 7 ∷ dec 0_8333164 7 ∷ dec 0_8333164 7 ∷
    dec 0_8333164 7 ∷ dec 0_8333164 7 ∷ dec 0_8333164 7 ∷ dec 0_8333164 7 ∷ []

-- COMBINED_WAVEFORM_RETENTION_THRESHOLD_BY_SELECTION
unfoldable pub retention_thresholds : List Float
unfolding dec
retention_thresholds =
    dec 0_23039357 8 ∷ dec 0_23039357 8 ∷ dec 0_23039357 8 ∷ dec 0_39408336 8 ∷
    dec 0_23039357 8 ∷ dec 0_23039357 8 ∷ dec 0_29368378 8 ∷ dec 0_28520789 8 ∷
    dec 0_23039357 8 ∷ dec 0_29799863 8 ∷ dec 0_27780770 8 ∷ dec 0_28648792 8 ∷
    dec 0_33473923 8 ∷ dec 0_32701850 8 ∷ dec 0_31776808 8 ∷ dec 0_32491357 8 ∷ []

-- COMBINED_WAVEFORM_PULSE_LOAD
unfoldable pub pulse_load : Float
unfolding dec
pulse_load = dec 0_04016286 8

-- COMBINED_WAVEFORM_NOISE_LOAD
unfoldable pub noise_load : Float
unfolding dec
noise_load = dec 0_00355965 8

-- COMBINED_WAVEFORM_TRIANGLE_LOAD
unfoldable pub triangle_load : Float
unfolding dec
triangle_load = dec 0_08020278 8

-- COMBINED_WAVEFORM_SAW_LOAD
unfoldable pub saw_load : Float
unfolding dec
saw_load = dec 0_02190812 8

-- COMBINED_WAVEFORM_INTERACTION_GAIN
unfoldable pub interaction_gain : Float
unfolding dec
interaction_gain = dec 1_10 2

-- COMBINED_WAVEFORM_LOADING_SCALE
unfoldable pub loading_scales : List Float
unfolding dec
loading_scales =
    dec 1_0 1 ∷ dec 1_0 1 ∷ dec 1_0 1 ∷ dec 1_31175965 8 ∷
    dec 1_0 1 ∷ dec 0_8125 4 ∷ dec 1_36 2 ∷ dec 2_75 2 ∷
    dec 1_0 1 ∷ dec 2_30 2 ∷ dec 2_05 2 ∷ dec 2_55 2 ∷
    dec 2_20 2 ∷ dec 2_60 2 ∷ dec 2_45 2 ∷ dec 2_70 2 ∷ []

-- a table's entry for a selection, which counts by its low four bits
abbrev pub by_selection : List Float → ℕ → Float
by_selection table s = get_or table (s % 16) nan
