-- The 23 couplings of which the 144 of a line array are made: worked out by `LineArray::new`, literals for the tick.
-- Nothing here has to be believed: `coupling_row` (proofs/Couplings) ties each to an entry of the rule `array_of`.
use Rattle.std.specs.Prelude.{ℕ, List, Float}
use Rattle.laws.specs.Build.{build}
use Rattle.waveforms.specs.Waveforms.{coupling}

-- the couplings by how far the destination lies above the source, from -11 to 11
abbrev pub by_offset_of : ℕ → List Float
by_offset_of s = build (λ k. coupling s k 11) 23
