-- After k steps down from v the level is (v + 256 - k) mod 256, every divisor in force lies in 1 to 30, and what is
-- asked may be summed from the first step on. Assumes nothing.
use Prim.Native.Nat.{ℕ, zero, suc, ◌+◌, ◌-◌, ◌%◌, ◌<◌, ◌≤◌}
use native.Mathlib.Omega.{arith}
use mathlib.Core.Path.{◌≡◌, refl, ap₂, ◌∙◌}
use mathlib.Core.Bool.{true, false}
use borrow.Author.Tests.{ne_eqb}
use lib.Dec.{eqb}
use Rattle.laws.specs.Times.{times}
use Rattle.laws.proofs.Times.{times_first}
use Rattle.envelope.specs.Envelope.{divisor_for, down}
use Rattle.release.specs.Release.{is_divisor, steps, level_after, in_force, divisor_after, asked}
use Rattle.release.specs.StepClocks.{lag}

-- ---- levels

pub down_lt : (v : ℕ) → down v < 256
unfolding down
down_lt v = omega arith

pub steps_closed : (v : ℕ) → v < 256 → steps v ≡ (v + 255) % 256 + 1
unfolding steps
steps_closed v l = grind arith

pub level_closed : (v k : ℕ) → v < 256 → k ≤ 256 → level_after v k ≡ (v + 256 - k) % 256
unfolding times down
level_closed v zero l m = omega arith
level_closed v (suc k) l m = rw (level_closed v k l (omega arith)) (omega arith)

-- while more than one step is left, a step leaves one step less and does not reach 0
pub steps_more : (v k : ℕ) → v < 256 → steps v ≡ suc (suc k) → (steps (down v) ≡ suc k) × (eqb (down v) 0 ≡ false)
unfolding down
steps_more v k l q = (
  steps_closed ((v + 255) % 256) (omega arith) ∙ omega (arith, steps_closed v l),
  ne_eqb ((v + 255) % 256) 0 (omega (arith, steps_closed v l)),
)

-- the last step reaches 0
pub steps_last : (v : ℕ) → v < 256 → steps v ≡ 1 → down v ≡ 0
unfolding down
steps_last v l q = omega (arith, steps_closed v l)

-- ---- divisors

pub divisor_le : (d : ℕ) → is_divisor d ≡ true → d ≤ 30
divisor_le d h = grind arith

divisor_for_le : (v : ℕ) → divisor_for v ≤ 30
unfolding divisor_for
divisor_for_le v = grind arith

pub in_force_range : (d v : ℕ) → 1 ≤ d → d ≤ 30 → (1 ≤ in_force d v) × (in_force d v ≤ 30)
unfolding in_force
in_force_range d v a b = (grind (arith, divisor_for_le), grind (arith, divisor_for_le))

pub divisor_range : (v d k : ℕ) → 1 ≤ d → d ≤ 30 → (1 ≤ divisor_after v d k) × (divisor_after v d k ≤ 30)
unfolding divisor_after
divisor_range v d zero a b = (a, b)
divisor_range v d (suc k) a b = let i = divisor_range v d k a b in in_force_range (divisor_after v d k) (level_after v (suc k)) i.0 i.1

pub lag_range : (d : ℕ) → (2 ≤ lag d) × (lag d ≤ 3)
unfolding lag
lag_range d = (grind arith, grind arith)

-- ---- from the first step on

pub divisor_first : (v d k : ℕ) → divisor_after v d (suc k) ≡ divisor_after (down v) (in_force d (down v)) k
unfolding divisor_after times
divisor_first v d zero = refl
divisor_first v d (suc k) = ap₂ in_force (divisor_first v d k) (times_first down (suc k) v)

pub asked_one : (v d : ℕ) → asked v d 1 ≡ d
unfolding asked divisor_after
asked_one v d = omega arith

pub asked_first : (v d k : ℕ) → asked v d (suc k) ≡ d + asked (down v) (in_force d (down v)) k
unfolding asked divisor_after
asked_first v d zero = omega arith
asked_first v d (suc k) = omega (arith, asked_first v d k, divisor_first v d k)
