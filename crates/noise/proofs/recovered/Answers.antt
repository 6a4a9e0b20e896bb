-- `recovered` adds a twenty-third of what a charge lacks, and at least one; a full charge stays.
use Rattle.std.proofs.Common.{arith, le-ltb, lt-ltb}
use Rattle.noise.specs.Noise.{recovered}
use Rattle.noise.proofs.recovered.Goals as goal

pub returns-then-charge-lt-NOISE_TEST_CHARGE_MAX : goal.returns-then-charge-lt-NOISE_TEST_CHARGE_MAX
unfolding recovered
returns-then-charge-lt-NOISE_TEST_CHARGE_MAX c = simp (lt-ltb _ _ c.if-charge-lt-NOISE_TEST_CHARGE_MAX.true) (omega arith)

pub returns-else-charge-lt-NOISE_TEST_CHARGE_MAX : goal.returns-else-charge-lt-NOISE_TEST_CHARGE_MAX
unfolding recovered
returns-else-charge-lt-NOISE_TEST_CHARGE_MAX c = simp (le-ltb _ _ c.if-charge-lt-NOISE_TEST_CHARGE_MAX.false)
