-- Demand 3 as it is proved: the clock of each step.
-- Nothing here has to be believed: `clock_landing` (proofs/Demand3) ties `step_clock` to the sentence's `landing`, and
-- `demand_3` says in the sentence's own numbers what `settled_release` says in these.
use Rattle.std.specs.Prelude.{ℕ, zero, suc, ◌+◌, ◌-◌, ◌*◌, ◌%◌, cond, eqb}
use Rattle.envelope.specs.declared.Envelope.{Envelope}
use Rattle.release.specs.Release.{divisor_after, matches}

-- '(P-1-p) mod 32767': the clocks until the counter is at its target
unfoldable pub wait : ℕ → ℕ → ℕ
wait P p = (P - 1 + 32767 - p) % 32767

-- 'e is 2 if that step's divisor is 1, otherwise 3'
unfoldable pub lag : ℕ → ℕ
lag d = cond (eqb d 1) 2 3

-- the clock of step k, 'the first clock being 1'; of k = 0 the start
unfoldable pub step_clock : Envelope → ℕ → ℕ → ℕ
step_clock e P zero = 0
step_clock e P (suc k) = wait P e.rate_phase + 2 + (matches e (suc k) - 1) * P + lag (divisor_after e.volume e.curve_divisor k)
