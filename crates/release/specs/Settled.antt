-- What a settled release (document 01) and a settled rise (document 02, request 11) have in common: the state, the runs
-- that a law of either speaks of, and what calls keep of an envelope, by which its period is a rate's.
use Rattle.std.specs.Prelude.{ℕ, ◌-◌, ◌<◌, ◌≤◌, ◌≡◌, Bool, true, false, cond, eqb}
use Rattle.envelope.specs.declared.Envelope.{Envelope}
use Rattle.envelope.specs.declared.EnvelopeMotion.{EnvelopeMotion}
use Rattle.envelope.specs.Envelope.{period_of, is_rising, rate_in_force, clocks}

-- Only the counters move: the gate is left high or low, the motion is m, its period P; the rate phase p is the
-- envelope's
pub record Settled (high : Bool) (m : EnvelopeMotion) (e : Envelope) (P : ℕ) : Type 0 where
  -- 'gate input and both samples low', of a rise 'high'
  pub input : e.gate.input ≡ high
  pub stage_a : e.gate.stage_a ≡ high
  pub stage_b : e.gate.stage_b ≡ high
  -- 'motion …, with no other motion's rate in force': the second follows, since no motion delay runs
  pub motion : e.motion ≡ m
  -- 'no motion, level or curve delay'
  pub motion_delay : e.motion_delay ≡ 0
  pub level_delay : e.amplitude_delay ≡ 0
  pub curve_delay : e.curve_delay ≡ 0
  -- 'no queued divisor'
  pub unqueued : e.queued_curve_divisor ≡ 0
  -- 'no match waiting'
  pub unmatched : e.matched_rate ≡ false
  -- 'not held'
  pub unheld : e.floor_hold ≡ false
  -- 'target P-1' for the motion's period P, of which only the range is used
  pub target : e.rate_target_phase ≡ P - 1
  pub least : 9 ≤ P
  pub most : P ≤ 32767
  -- 'phase below 32767'
  pub phase : e.rate_phase < 32767
  -- the level is a byte, as its type says
  pub level : e.volume < 256

-- Runs from an envelope, of each the clocks that it makes and the envelope that it leaves: clocks alone (`alone`), or
-- calls of a chip that spare its voice (`sparing`, crate `calls`)
pub record Runs : Type 1 where
  pub Run : Type 0
  pub made : Run → ℕ
  pub left : Run → Envelope

abbrev pub alone : Envelope → Runs
alone e = record { Run = ℕ; made = λ n. n; left = λ n. clocks n e }

-- they are runs of e: each leaves what its clocks alone leave of it
abbrev pub From : Envelope → Runs → Type 0
From e s = (r : s.Run) → s.left r ≡ clocks (s.made r) e

-- ---- what every call keeps of an envelope, and a fresh one has (crate `calls`, `sound_fresh`)

-- while no motion is pending the target is that of the rate in force, so that P is the period of a rate
abbrev pub InForce : Envelope → Type 0
InForce e = e.motion_delay ≡ 0 → e.rate_target_phase ≡ period_of (rate_in_force e) - 1

-- it is Rising, or is to be, only if the gate was seen high
abbrev pub SeenHigh : Envelope → Type 0
SeenHigh e = is_rising (cond (eqb e.motion_delay 0) e.motion e.requested_motion) ≡ true → e.gate.stage_b ≡ true

-- these, a phase below 32767, and a level that is a byte
abbrev pub Timed : Envelope → Type 0
Timed e = InForce e × SeenHigh e × (e.rate_phase < 32767) × (e.volume < 256)
