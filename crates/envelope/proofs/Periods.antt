-- All that a proof uses of the sixteen periods: each lies in 9 to 32767, so that it is not 0, and rate 0's is 9.
-- Assumes nothing.
use Rattle.std.proofs.Common.{◌≡◌, ℕ, ◌%◌, ◌≤◌, Bool, leb, refl, mod-lt, lit<, leb→le, arith}
use Rattle.laws.proofs.Table.{at}
use Rattle.envelope.specs.Envelope.{periods, period_of}

least : ℕ → ℕ → Bool
least k x = leb 9 x

most : ℕ → ℕ → Bool
most k x = leb x 32767

pub period_range : (rate : ℕ) → (9 ≤ period_of rate) × (period_of rate ≤ 32767)
unfolding period_of periods least most
period_range rate = (
  leb→le 9 (period_of rate) (at least periods tt (rate % 16) (mod-lt rate (lit< tt))),
  leb→le (period_of rate) 32767 (at most periods tt (rate % 16) (mod-lt rate (lit< tt))),
)

pub period_some : (rate : ℕ) → 1 ≤ period_of rate
period_some rate = omega (arith, (period_range rate).0)

pub period_zero : period_of 0 ≡ 9
unfolding period_of periods
period_zero = refl
