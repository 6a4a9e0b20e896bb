-- Document 02, request 11: the settled rise, and the late start of a note; the states and clocks that they speak of, and
-- what they claim.
use Rattle.std.specs.Prelude.{ℕ, suc, ◌+◌, ◌-◌, ◌*◌, ◌%◌, ◌<◌, ◌≤◌, ◌≡◌, true, false, cond, eqb}
use Rattle.envelope.specs.declared.Envelope.{Envelope}
use Rattle.envelope.specs.declared.EnvelopeMotion.TheVariants.{Rising}
use Rattle.envelope.specs.Envelope.{period_of, is_rising, quiescent}
use Rattle.release.specs.Settled.{Settled, Runs}

-- 'a settled rise (gate and both samples high, motion Rising, …, target P-1 for the attack period)': the clauses are
-- those of `Settled`
abbrev pub SettledRise : Envelope → ℕ → Type 0
SettledRise = Settled true Rising

-- THE RISE, in the plain numbers of its sentence: 'step k lands on clock ((P-1-p) mod 32767)+4+(k-1)P, the first clock
-- being 1, for each step up to 0xff. From level v there are 255-v steps, or 256 from 0xff, the first of which goes to
-- 0. Until the last the level changes on no other clock. No reset and no write to that voice's control or envelope
-- registers may come.'

-- 'From level v there are 255-v steps, or 256 from 0xff'
unfoldable pub steps_up : ℕ → ℕ
steps_up v = cond (eqb v 0xff) 256 (255 - v)

-- step k is one of these
abbrev pub StepUp : ℕ → ℕ → Type 0
StepUp v k = (1 ≤ k) × (k ≤ steps_up v)

-- '((P-1-p) mod 32767)+4+(k-1)P'; 32767 is added so that no difference falls below 0
abbrev pub landing_up : ℕ → ℕ → ℕ → ℕ
landing_up p P k = (P - 1 + 32767 - p) % 32767 + 4 + (k - 1) * P

-- what runs show of a rise from level v whose step k lands on clock `clock k`
pub record Rise (s : Runs) (v : ℕ) (clock : ℕ → ℕ) : Type 0 where
  -- 'lands on clock …': a clock before it the level is as before the step, with it one more, which after 0xff is 0
  pub lands
      : (k : ℕ) (r : s.Run) → StepUp v k
      → (suc (s.made r) ≡ clock k → (s.left r).volume ≡ (v + k - 1) % 256)
      × (s.made r ≡ clock k → (s.left r).volume ≡ (v + k) % 256)
  -- 'for each step up to 0xff'
  pub tops : (r : s.Run) → s.made r ≡ clock (steps_up v) → (s.left r).volume ≡ 0xff
  -- 'Until the last the level changes on no other clock'
  pub still
      : (r t : s.Run) → s.made t ≡ suc (s.made r) → s.made t ≤ clock (steps_up v)
      → ((k : ℕ) → StepUp v k → s.made t ≡ clock k → ⊥)
      → (s.left t).volume ≡ (s.left r).volume

-- ---- the late start of a note

-- a voice with nothing under way, its gate low and its motion not Rising, held at zero or at any level
pub record Resting (e : Envelope) : Type 0 where
  pub quiet : quiescent e ≡ true
  pub low : e.gate.input ≡ false
  pub motion : is_rising e.motion ≡ false
  -- phase below 32767; the level is a byte
  pub phase : e.rate_phase < 32767
  pub level : e.volume < 256

-- The clock of step k after a gate-on, the first clock being 1, from phase p, attack period A and decay period D alone.
-- The rise of the gate is seen on clock 2 and puts A in force. On clock 1 it is D: a counter at D-1 sets a match then,
-- the old one, which clock 2 consumes under the rising rate. Any other counter goes on from p+1 to A-1, the long way
-- round if it is past it
unfoldable pub start_up : ℕ → ℕ → ℕ → ℕ → ℕ
start_up p A D k = cond (eqb p (D - 1)) 4 ((A - 2 + 32767 - p) % 32767 + 5) + (k - 1) * A

-- what runs from the gate-on of e show: it rises by these clocks, with A and D those of its rates
abbrev pub Starts : Runs → Envelope → Type 0
Starts s e = Rise s e.volume (start_up e.rate_phase (period_of e.rise_rate) (period_of e.decay_rate))
