-- The ways in which engines may differ in a tick. Every rule of a tick is stated once, over them. Document 01's are
-- `afresh`, which the names without a `By` stand for in an oscillator; a chip's are `stepwise`, for which they stand in
-- `sid`.
use Rattle.std.specs.Prelude.{ℕ}
use Rattle.waveforms.specs.Waveforms.{loaded}
use Rattle.noise.specs.Noise.{relaxed, relaxed_once}
use Rattle.noise.specs.declared.NoiseGenerator.{NoiseGenerator}
use Rattle.floating.specs.Floating.{sampled, sampled_once}
use Rattle.floating.specs.declared.FloatingBus.{FloatingBus}

pub record Ways : Type 0 where
  -- how the lines of a selection load its code
  pub load : ℕ → ℕ → ℕ
  -- how the noise register recovers in test, at a cycle
  pub recover : NoiseGenerator → ℕ → NoiseGenerator
  -- how floating lines leak, at a cycle
  pub leak : FloatingBus → ℕ → FloatingBus

-- document 01's: a code is settled, and leaks are counted, afresh on every clock (apply_line_loading, relax, sample)
abbrev pub afresh : Ways
afresh = record { load = loaded; recover = relaxed; leak = sampled }

-- a chip's (document 02, request 12): a leak makes one step where one is due or more; by its own way to load a code.
-- An engine over a pack has another (request 3)
abbrev pub loading : (ℕ → ℕ → ℕ) → Ways
loading load = record { load = load; recover = relaxed_once; leak = sampled_once }

-- the plain one settles afresh. `after_as_01` (calls/proofs/Leaks): a chip that was made or reset fewer than 2^63 clocks
-- ago is document 01's
abbrev pub stepwise : Ways
stepwise = loading loaded
