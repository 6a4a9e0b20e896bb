-- Where `step_due` is false, a clock leaves the register as it is (`step_still`), whichever way it recovers in test,
-- if that way does nothing before a leak is due; `relaxed_once` is such a way (`relax_still`). Assumes nothing.
use Rattle.std.proofs.Common.{◌≡◌, ℕ, Bool, true, false}
use Rattle.laws.proofs.Bools.{or_left, or_right}
use Rattle.noise.specs.Noise.{captures, clocked, come, transfers, transferred, relaxed_once, stepped_by}
use Rattle.noise.specs.Loop.{step_due}
use Rattle.noise.specs.declared.NoiseGenerator.{NoiseGenerator}

-- a way to recover that does nothing before a leak is due
abbrev pub Recovers : (NoiseGenerator → ℕ → NoiseGenerator) → Type 0
Recovers recover = (g : NoiseGenerator) (cycle : ℕ) → come g.numbers.next_leak cycle ≡ false → recover g cycle ≡ g

pub relax_still : Recovers relaxed_once
unfolding relaxed_once
relax_still g cycle e = simp e

pub step_still
    : {recover : NoiseGenerator → ℕ → NoiseGenerator} → Recovers recover
    → (g : NoiseGenerator) (test : Bool) (rising cycle : ℕ) → step_due g.numbers test rising cycle ≡ false → stepped_by recover g test rising cycle ≡ g
unfolding step_due stepped_by clocked transferred
step_still still g true rising cycle e = still g cycle e
step_still still g false rising cycle e =
    simp (or_left (transfers g.numbers cycle) (captures g.numbers rising) e, or_right (transfers g.numbers cycle) (captures g.numbers rising) e)
