-- For a caller's loop, which holds a register's numbers apart from its charges and lends these only if a step is due.
-- Nothing here has to be believed: `step_still` (proofs/Still) ties `step_due` to the rule `stepped_by`, and `generator`
-- has no rule in it.
use Rattle.std.specs.Prelude.{ℕ, Bool, cond, ◌||◌, List}
use Rattle.noise.specs.Noise.{captures, come, transfers}
use Rattle.noise.specs.declared.Noise.{Noise}
use Rattle.noise.specs.declared.NoiseGenerator.{NoiseGenerator}

-- a register out of its numbers and charges
abbrev pub generator : Noise → List ℕ → List ℕ → NoiseGenerator
generator n captured charge = record { numbers = n; captured_charge = captured; charge = charge }

-- whether a clock may change the register: in test a leak is due; else the shift is, or a rise captures
unfoldable pub step_due : Noise → Bool → ℕ → ℕ → Bool
step_due n test rising cycle = cond test (come n.next_leak cycle) (transfers n cycle || captures n rising)
