-- Document 01, 'Settled release', and demand 3, whose sentence stands before `landing`: the states and clocks that it
-- speaks of, and what it claims.
use Rattle.std.specs.Prelude.{ℕ, zero, suc, ◌+◌, ◌-◌, ◌*◌, ◌%◌, ◌<◌, ◌≤◌, ◌≡◌, Bool, true, false, cond, ◌||◌, eqb}
use Rattle.laws.specs.Times.{times}
use Rattle.envelope.specs.declared.Envelope.{Envelope}
use Rattle.envelope.specs.declared.EnvelopeMotion.TheVariants.{FallingToZero}
use Rattle.envelope.specs.Envelope.{divisor_for, down, clocks}
use Rattle.release.specs.Settled.{Settled, Runs}

-- 'divisor one of 1, 2, 4, 8, 16, 30'
abbrev pub is_divisor : ℕ → Bool
is_divisor d = eqb d 1 || eqb d 2 || eqb d 4 || eqb d 8 || eqb d 16 || eqb d 30

-- 'Settled release' with release period P
pub record SettledRelease (e : Envelope) (P : ℕ) : Type 0 where
  -- 'gate input and both samples low, motion FallingToZero, …'
  pub settled : Settled false FallingToZero e P
  -- 'divisor one of 1, 2, 4, 8, 16, 30'
  pub divisor : is_divisor e.curve_divisor ≡ true
  -- 'curve count below it'
  pub count : e.curve_count < e.curve_divisor

-- 'There are v steps from level v, or 256 from an unheld 0'
unfoldable pub steps : ℕ → ℕ
steps v = cond (eqb v 0) 256 v

-- the level after k steps down from v
abbrev pub level_after : ℕ → ℕ → ℕ
level_after v k = times k down v

-- the divisor in force once a step has reached level v: what v queues, else d as before
unfoldable pub in_force : ℕ → ℕ → ℕ
in_force d v = cond (eqb (divisor_for v) 0) d (divisor_for v)

-- the divisor in force after k steps down from v, which is step k + 1's; d is the one at the start
unfoldable pub divisor_after : ℕ → ℕ → ℕ → ℕ
divisor_after v d zero = d
divisor_after v d (suc k) = in_force (divisor_after v d k) (level_after v (suc k))

-- 'what the divisor rule asks for, summed over steps 1 to k'
unfoldable pub asked : ℕ → ℕ → ℕ → ℕ
asked v d zero = 0
asked v d (suc k) = asked v d k + divisor_after v d k

-- 'S for the k-th step down is what the divisor rule asks for, …, less the curve count at the start'
unfoldable pub matches : Envelope → ℕ → ℕ
matches e k = asked e.volume e.curve_divisor k - e.curve_count

-- DEMAND 3, in the plain numbers of its sentence: 'Settled release: rate phase p, release period P. While neither a
-- reset nor a write to that voice's control or envelope registers comes, a step down that needs S rate matches lands
-- on clock ((P-1-p) mod 32767)+2+(S-1)P+e, the first clock being 1; e is 2 if that step's divisor is 1, otherwise 3.
-- The level changes on no other clock, and ends held at zero.'

-- '((P-1-p) mod 32767)+2+(S-1)P+e', where the step's divisor is D; 32767 is added so that no difference falls below 0
abbrev pub landing : ℕ → ℕ → ℕ → ℕ → ℕ
landing p P S D = (P - 1 + 32767 - p) % 32767 + 2 + (S - 1) * P + cond (eqb D 1) 2 3

-- step k + 1 'needs S rate matches', and its divisor is D
abbrev pub Needs : Envelope → ℕ → ℕ → ℕ → Type 0
Needs e k S D = (k < steps e.volume) × (S ≡ matches e (suc k)) × (D ≡ divisor_after e.volume e.curve_divisor k)

-- what runs from e show
pub record Demand3 (s : Runs) (e : Envelope) (p P : ℕ) : Type 0 where
  -- 'lands on clock …, the first clock being 1': a clock before it the level is as before the step, with it one less
  pub lands
      : (k S D : ℕ) (r : s.Run) → Needs e k S D
      → (suc (s.made r) ≡ landing p P S D → (s.left r).volume ≡ (e.volume + 256 - k) % 256)
      × (s.made r ≡ landing p P S D → (s.left r).volume ≡ (e.volume + 255 - k) % 256)
  -- 'The level changes on no other clock'
  pub still
      : (r t : s.Run) → s.made t ≡ suc (s.made r) → ((k S D : ℕ) → Needs e k S D → s.made t ≡ landing p P S D → ⊥)
      → (s.left t).volume ≡ (s.left r).volume
  -- 'and ends held at zero'
  pub ends
      : (k S D : ℕ) (r : s.Run) → Needs e k S D → suc k ≡ steps e.volume → landing p P S D ≤ s.made r
      → ((s.left r).volume ≡ 0) × ((s.left r).floor_hold ≡ true)

-- the clock of its last step, after which a voice is free
unfoldable pub last_step : Envelope → ℕ → ℕ
last_step e P = landing e.rate_phase P (matches e (steps e.volume)) (divisor_after e.volume e.curve_divisor (steps e.volume - 1))

-- what runs show of a voice that is free from clock n on: held at zero then, and not before
pub record HeldFrom (s : Runs) (n : ℕ) : Type 0 where
  pub before : (r : s.Run) → s.made r < n → (s.left r).floor_hold ≡ false
  pub from : (r : s.Run) → n ≤ s.made r → ((s.left r).volume ≡ 0) × ((s.left r).floor_hold ≡ true)

-- 'Both sides of each edge': 'first match on clock n'
abbrev pub FirstMatch : Envelope → ℕ → Type 0
FirstMatch e n = ((clocks n e).matched_rate ≡ true) × ((m : ℕ) → m < n → (clocks m e).matched_rate ≡ false)

-- an envelope at level v, held or not
abbrev pub At : ℕ → Bool → Envelope → Type 0
At v held e = (e.volume ≡ v) × (e.floor_hold ≡ held)

-- 'Both sides of each edge': 'zero on clock n'. The level comes to zero there, and is held from then on
abbrev pub ZeroFrom : Envelope → ℕ → Type 0
ZeroFrom e n =
    ((m : ℕ) → m < n → ((clocks m e).volume ≡ 0 → ⊥) × ((clocks m e).floor_hold ≡ false))
    × ((m : ℕ) → n ≤ m → At 0 true (clocks m e))
