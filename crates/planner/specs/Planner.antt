-- Document 02, request 9: the clock on which a settled release ends, the table that it is worked out by, and the first
-- held clock of any envelope.
use Rattle.std.specs.Prelude.{ℕ, zero, suc, ◌+◌, ◌-◌, ◌<◌, ◌≤◌, ◌≡◌, Bool, true, false, cond, not, ◌&&◌, List, Option, Some, None, eqb, ltb, get_or}
use Rattle.envelope.specs.declared.Envelope.{Envelope}
use Rattle.envelope.specs.declared.EnvelopeMotion.{EnvelopeMotion}
use Rattle.envelope.specs.declared.EnvelopeMotion.TheVariants.{Rising, FallingToSustain, FallingToZero}
use Rattle.envelope.specs.Envelope.{period_of, divisor_for, clocked, quiescent}
use Rattle.release.specs.Release.{is_divisor, in_force, divisor_after, asked, last_step}
use Rattle.release.specs.Settled.{Runs}

-- ---- 'a forecast for a settled release: the clock of demand 3's last step'

-- P is the period of the release rate's low four bits
abbrev pub release_period : Envelope → ℕ
release_period e = period_of e.fall_rate

abbrev pub is_falling : EnvelopeMotion → Bool
is_falling Rising = false
is_falling FallingToSustain = false
is_falling FallingToZero = true

-- the test for `SettledRelease` with that period, exactly (`settled_when`, `settled_only`): 'gate input and both
-- samples low; …; no motion, level or curve delay; no queued divisor; no match waiting' is that nothing is under way and
-- the gate input is low; the level is a byte, as its type says
unfoldable pub is_settled : Envelope → Bool
is_settled e =
    quiescent e
    && not e.gate.input
    && is_falling e.motion
    && not e.floor_hold
    && eqb e.rate_target_phase (release_period e - 1)
    && ltb e.rate_phase 32767
    && ltb e.volume 256
    && is_divisor e.curve_divisor
    && ltb e.curve_count e.curve_divisor

unfoldable pub last_step_of : Envelope → Option ℕ
last_step_of e = cond (is_settled e) (Some (last_step e (release_period e))) None

-- ---- 'It uses a table of 256 numbers, the matches from each level to zero on a fall from 0xff, level 0 giving 0'

-- the divisor in force at level v on that fall, which has divisor 1 at its start
unfoldable pub on_fall : ℕ → ℕ
on_fall v = divisor_after 0xff 1 (0xff - v)

unfoldable pub to_zero : ℕ → ℕ
to_zero v = asked v (on_fall v) v

-- THE TEST of the table, from level v down, where divisor d is in force: each entry is the one below plus that divisor,
-- and the lowest is 0. A table that passes it from 0xff and divisor 1 is `to_zero` (`table_right`)
unfoldable pub adds : List ℕ → ℕ → ℕ → Bool
adds table zero d = eqb (get_or table 0 0) 0
adds table (suc v) d = eqb (get_or table (suc v) 0) (get_or table v 0 + d) && adds table v (in_force d v)

-- '… and corrects for a divisor left over from another way and for an unheld zero': that divisor counts down to the
-- next level that queues one, 0xff of an unheld zero; from there on the table holds (`asked_turn`, `last_divisor`)
unfoldable pub turn : ℕ → ℕ
turn zero = 0xff
turn (suc v) = cond (eqb (divisor_for v) 0) (turn v) v

-- ---- 'the first held clock if it is at most n, else n; already held gives 0' (`first_held`)

unfoldable pub held_within : ℕ → Envelope → ℕ
held_within zero e = 0
held_within (suc n) e = cond e.floor_hold 0 (suc (held_within n (clocked e)))

-- k is that clock, of n that runs may make: not held before it, and if it is not n, held after it
pub record FirstHeld (s : Runs) (n k : ℕ) : Type 0 where
  pub within : k ≤ n
  pub before : (r : s.Run) → s.made r < k → (s.left r).floor_hold ≡ false
  pub on : k < n → (r : s.Run) → s.made r ≡ k → (s.left r).floor_hold ≡ true
