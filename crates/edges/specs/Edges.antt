-- The starred cases of document 01, 'Both sides of each edge', in its order, as one claim about the definitions.
use Rattle.std.specs.Prelude.{ℕ, ◌≡◌, true}
use Rattle.bus.specs.Bus.{driven, clocks as bus_clocks}
use Rattle.envelope.specs.declared.Envelope.{Envelope}
use Rattle.envelope.specs.declared.EnvelopeMotion.TheVariants.{FallingToSustain}
use Rattle.envelope.specs.Envelope.{period_of, clocks, quiescent, fresh, sustain_release_set}
use Rattle.release.specs.Release.{SettledRelease, steps, matches, FirstMatch, ZeroFrom}
use Rattle.release.specs.Settled.{alone}
use Rattle.release.specs.Sustain.{SteadyRise, HoldsTop}
use Rattle.waveforms.specs.Waveforms.{triangle, settled, loaded}
use Rattle.noise.specs.Noise.{fresh as noise_fresh}

-- of every envelope with nothing under way: phase p, target t, first match on clock n
abbrev pub Matching : ℕ → ℕ → ℕ → Type 0
Matching p t n = (e : Envelope) → quiescent e ≡ true → e.rate_phase ≡ p → e.rate_target_phase ≡ t → FirstMatch e n

-- of every settled release with level v, divisor d, count 0, phase 0, rate 0: zero on clock n
abbrev pub Releasing : ℕ → ℕ → ℕ → Type 0
Releasing v d n = (e : Envelope) → SettledRelease e (period_of 0) → e.volume ≡ v → e.curve_divisor ≡ d → e.curve_count ≡ 0 → e.rate_phase ≡ 0 → ZeroFrom e n

-- of every envelope with level v, divisor d, count 0: the fall needs S matches
abbrev pub Falling : ℕ → ℕ → ℕ → Type 0
Falling v d S = (e : Envelope) → e.volume ≡ v → e.curve_divisor ≡ d → e.curve_count ≡ 0 → matches e (steps e.volume) ≡ S

-- of every envelope that falls to sustain, with its gate at rest and no motion pending: the sustain/release byte holds
-- it at level v
abbrev pub Sustaining : ℕ → ℕ → Type 0
Sustaining byte v =
    (e : Envelope)
    → e.gate.input ≡ e.gate.stage_a
    → e.gate.stage_a ≡ e.gate.stage_b
    → e.motion ≡ FallingToSustain
    → e.motion_delay ≡ 0
    → e.volume ≡ v
    → (n : ℕ) → (clocks n (sustain_release_set e byte)).volume ≡ v

-- of every steady rise: with that sustain/release byte, the level is 0xff from the clock on which it reaches it
abbrev pub Reaching : ℕ → Type 0
Reaching byte = (e : Envelope) → SteadyRise e → HoldsTop (alone (sustain_release_set e byte))

pub record Edges : Type 0 where
  -- 'Bus 0xff: bit 0 there at 11 clocks, gone at 12. 0x80 at 43007, 0 at 43008.'
  pub bus_11 : (bus_clocks 11 (driven 0xff)).value ≡ 0xff
  pub bus_12 : (bus_clocks 12 (driven 0xff)).value ≡ 0xfe
  pub bus_43007 : (bus_clocks 43007 (driven 0x80)).value ≡ 0x80
  pub bus_43008 : (bus_clocks 43008 (driven 0x80)).value ≡ 0
  -- 'Phase 9, target 8: first match on clock 32767. Phase 8, target 8: clock 1.'
  pub phase_9 : Matching 9 8 32767
  pub phase_8 : Matching 8 8 1
  -- 'Settled release, level 1, divisor 1, count 0, phase 0, rate 0: zero on clock 12. With divisor 30: clock 274.'
  pub release_12 : Releasing 1 1 12
  pub release_274 : Releasing 1 30 274
  -- 'A fresh envelope is held at zero from clock 6043 (671 matches).'
  pub fresh_6043 : ZeroFrom fresh 6043
  pub fresh_671 : matches fresh (steps fresh.volume) ≡ 671
  -- 'A fall from 0xff with divisor 1, count 0 needs 756 matches; an unheld 0 with divisor 30, count 0 needs 786.'
  pub fall_756 : Falling 0xff 1 756
  pub fall_786 : Falling 0x00 30 786
  -- 'Triangle of 0x7ff and of 0x800: 0xffe; of 0xfff: 0.'
  pub triangle_7ff : triangle 0x7ff ≡ 0xffe
  pub triangle_800 : triangle 0x800 ≡ 0xffe
  pub triangle_fff : triangle 0xfff ≡ 0
  -- 'Fresh noise shows 0xfe0.'
  pub noise_fe0 : noise_fresh.numbers.visible ≡ 0xfe0
  -- 'Settled 0 is 0 for every selection': in a table and in the tick
  pub settled_0 : (s : ℕ) → (settled s 0 ≡ 0) × (loaded s 0 ≡ 0)
  -- 'Sustain 0xf0 holds at 0xff': while falling to sustain, and from the clock on which a rise reaches 0xff
  pub sustain_f0 : Sustaining 0xf0 0xff
  pub sustain_f0_reached : Reaching 0xf0
