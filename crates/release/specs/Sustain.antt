-- 'Sustain 0xf0 holds at 0xff', from the clock on which a rise reaches 0xff: its states, and what it claims.
use Rattle.std.specs.Prelude.{suc, ◌≤◌, ◌≡◌, true}
use Rattle.envelope.specs.declared.Envelope.{Envelope}
use Rattle.envelope.specs.declared.EnvelopeMotion.TheVariants.{Rising, FallingToSustain}
use Rattle.release.specs.Settled.{Runs}

-- a rise with its gate left high and nothing delayed; a match may wait, and level, phase and curve are free
pub record SteadyRise (e : Envelope) : Type 0 where
  -- gate input and both samples high
  pub input : e.gate.input ≡ true
  pub stage_a : e.gate.stage_a ≡ true
  pub stage_b : e.gate.stage_b ≡ true
  -- motion Rising; no motion, level or curve delay
  pub motion : e.motion ≡ Rising
  pub motion_delay : e.motion_delay ≡ 0
  pub level_delay : e.amplitude_delay ≡ 0
  pub curve_delay : e.curve_delay ≡ 0
  -- target P-1 for a period P, which is 9 at least
  pub target : 8 ≤ e.rate_target_phase

-- right after the clock on which the level came to 0xff:
-- 'Reaching 0xff while Rising requests FallingToSustain with delay 3'
pub record Topped (e : Envelope) : Type 0 where
  pub level : e.volume ≡ 0xff
  pub requested : e.requested_motion ≡ FallingToSustain
  pub motion_delay : e.motion_delay ≡ 3
  -- the gate is left as it is
  pub input : e.gate.input ≡ e.gate.stage_a
  pub samples : e.gate.stage_a ≡ e.gate.stage_b
  -- no other level or curve delay; a match may wait, since a level delay of 2 that it sets ends as the motion is taken
  pub level_delay : e.amplitude_delay ≡ 0
  pub curve_delay : e.curve_delay ≡ 0

-- what runs show: from a clock that brings the level to 0xff it is 0xff after every later one
abbrev pub HoldsTop : Runs → Type 0
HoldsTop s =
    (r t u : s.Run) → s.made t ≡ suc (s.made r) → ((s.left r).volume ≡ 0xff → ⊥) → (s.left t).volume ≡ 0xff → s.made t ≤ s.made u
    → (s.left u).volume ≡ 0xff
