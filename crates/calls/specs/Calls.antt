-- Any run of calls (`after calls chip`), seen from one voice and from the bus: which calls a law allows in between, and
-- what the laws say. Where they stand in proofs/:
-- Lifted: demand 3 (`chip_demand_3`), the rise and the late start (`chip_rise`, `chip_late_start`, both also `-fresh`),
-- the sustained level (`chip_sustains`).
-- Fades: the fading byte (`write_fades`, `driven_read_fades`, `reset_clears`), the bits lost on a tick (`write_loses`,
-- `driven_read_loses`, `reset_loses`), writes that move no voice (`write_only_drives`).
-- Floats: the floating code (`chip_floats`, `chip_floats_fresh`, `read_osc3_floats`).
-- Latched: the code, OSC3 and ENV3 (`code_after_tick`, `read_osc3_after_tick`, `read_env3_after_tick`).
-- Sound: facts that every call keeps (`call_sound`, `sound_fresh`).
-- Kept: the cycle counts ticks (`cycle_counts`), and what a reset keeps (`reset_keeps`).
-- Leaks: fewer than 2^63 clocks after a chip was made or reset one leak step is due at most (`one_due`), and its calls
-- are document 01's (`after_as_01`).
-- Runs: `run` among calls (`run_leads`, `run_calls`), and after it an envelope, the cycle, the byte, a floating code.
use Rattle.std.specs.Prelude.{ℕ, suc, ◌+◌, ◌-◌, ◌/◌, ◌%◌, ◌^◌, ◌<◌, ◌≤◌, max, ◌≡◌, Bool, true, false, cond, not, ◌&&◌, ◌||◌, List, [], ◌∷◌, ◌++◌, eqb, ltb, get_or}
use Rattle.laws.specs.Cycle.{never}
use Rattle.noise.specs.Noise.{shown as noise_shown, steps_due as noise_steps_due, Ahead as NoiseAhead}
use Rattle.floating.specs.Floating.{steps_due as floating_steps_due, Ahead as FloatingAhead}
use Rattle.oscillator.specs.declared.Oscillator.{Oscillator}
use Rattle.bus.specs.Bus.{holds, kept, lost}
use Rattle.release.specs.Settled.{Runs, Timed}
use Rattle.sid.specs.Sid.{register, read_at, Call, write, read, tick, clear, set_pot_x, set_pot_y, after, clocks_of, phase_of, code_of, level_of, held_of}
use Rattle.sid.specs.declared.Voice.{Voice}
use Rattle.sid.specs.declared.Mos6581.{Mos6581}

-- the voices, so that a law is stated once for any of them
pub data Which : Type 0 where
  voice_0 : Which
  voice_1 : Which
  voice_2 : Which

abbrev pub number : Which → ℕ
number voice_0 = 0
number voice_1 = 1
number voice_2 = 2

abbrev pub of : Which → Mos6581 → Voice
of voice_0 c = c.voice_0
of voice_1 c = c.voice_1
of voice_2 c = c.voice_2

-- the address of a voice's control register
abbrev pub control_of : Which → ℕ
control_of voice_0 = 0x04
control_of voice_1 = 0x0b
control_of voice_2 = 0x12

abbrev pub waveform_of : Voice → ℕ
waveform_of v = v.oscillator.control.waveform

-- ---- which calls a law allows

-- every call of a run is one that a law allows
pub data Each (allows : Call → Bool) : List Call → Type 0 where
  none : Each allows []
  next : {call : Call} {calls : List Call} → allows call ≡ true → Each allows calls → Each allows (call ∷ calls)

-- 'neither a reset nor a write to that voice's control or envelope registers'
unfoldable pub spares : Which → Call → Bool
spares w (write address value) = not (eqb (register address / 7) (number w)) || ltb (register address % 7) 4
spares w (read address) = true
spares w tick = true
spares w clear = false
spares w (set_pot_x value) = true
spares w (set_pot_y value) = true

-- a read that doesn't drive the bus
abbrev pub floating : ℕ → Bool
floating address = not (eqb (register address) 0x19) && (not (eqb (register address) 0x1a) && (not (eqb (register address) 0x1b) && not (eqb (register address) 0x1c)))

-- the address of a register that no voice has
abbrev pub Unvoiced : ℕ → Type 0
Unvoiced address = 0x15 ≤ register address

-- 'with no drive or reset since'
unfoldable pub undriven : Call → Bool
undriven (write address value) = false
undriven (read address) = floating address
undriven tick = true
undriven clear = false
undriven (set_pot_x value) = true
undriven (set_pot_y value) = true

-- 'Left so, without reset': no write to the voice's control register selects a waveform
unfoldable pub leaves_off : Which → Call → Bool
leaves_off w (write address value) = not (eqb (register address) (control_of w)) || eqb (value / 2 ^ 4) 0
leaves_off w (read address) = true
leaves_off w tick = true
leaves_off w clear = false
leaves_off w (set_pot_x value) = true
leaves_off w (set_pot_y value) = true

-- calls that a law allows, n of them ticks, lead from one chip to another; so does `run`, alone and among calls
-- (`calls_lead`, `run_leads`, `leads_on`)
pub record Leads (allows : Call → Bool) (from to : Mos6581) (n : ℕ) : Type 0 where
  pub calls : List Call
  pub allowed : Each allows calls
  pub clocks : clocks_of calls ≡ n
  pub same : after calls from ≡ to

-- neither a tick nor a reset
unfoldable pub idle : Call → Bool
idle (write address value) = true
idle (read address) = true
idle tick = false
idle clear = false
idle (set_pot_x value) = true
idle (set_pot_y value) = true

-- the last call of a run that isn't idle, if there is one: a run has one of these shapes (`last_of`)
pub data Last : List Call → Type 0 where
  idles : {calls : List Call} → Each idle calls → Last calls
  ticks : (calls more : List Call) → Each idle more → Last (calls ++ (tick ∷ more))
  clears : (calls more : List Call) → Each idle more → Last (calls ++ (clear ∷ more))

-- ---- what the laws say

-- The runs of a voice's envelope of which demand 3 (`Demand3`), the rise (`Rise`, `Starts`) and the sustained level
-- (`HoldsTop`) speak, in a chip: whatever leads on from it sparing the voice, calls or `run` or both. Only the ticks
-- count
abbrev pub sparing : Which → Mos6581 → Runs
sparing w c = record {
  Run = (d : Mos6581) × (n : ℕ) × Leads (spares w) c d n;
  made = λ r. r.1;
  left = λ r. (of w r.0).envelope;
}

-- a write that gives a voice gate 1
pub record GateOn (w : Which) (address value : ℕ) : Type 0 where
  pub control : register address ≡ control_of w
  pub gate : value % 2 ≡ 1

-- The fading byte v of a chip, for any calls 'with no drive or reset since': only the ticks among them count.
-- 'n clocks after a drive, …, the byte keeps exactly its bits whose hold exceeds n'; a floating read gives it
abbrev pub Fades : ℕ → Mos6581 → Type 0
Fades v c =
    (calls : List Call) (address : ℕ) → Each undriven calls → floating address ≡ true
    → (read_at (after calls c) address).byte ≡ kept holds v (clocks_of calls)

-- The bits of v that a tick reports lost, after any calls with no drive or reset since v was driven (document 02,
-- request 5): bit k on the tick whose number is its hold, and on no other
abbrev pub Loses : ℕ → Mos6581 → Type 0
Loses v c =
    (calls : List Call) (k : ℕ) → Each undriven calls → k < 8
    → lost (after calls c).data_bus / 2 ^ k % 2 ≡ cond (eqb (clocks_of calls + 1) (get_or holds k 0)) (v / 2 ^ k % 2) 0

-- a voice as calls from a fresh chip leave it (`latched_fresh`): OSC3 shows the code that it gives, which has 12 bits
pub record Latched (v : Voice) : Type 0 where
  pub shown : v.oscillator.tone.readback ≡ code_of v
  pub twelve : code_of v < 2 ^ 12

-- facts that every call keeps (`call_sound`), and that a chip has that calls make of a fresh one (`sound_fresh`)
pub record Sound (v : Voice) : Type 0 where
  -- 'Falling to 0 holds the level'; a reset 'holds it exactly if the level is 0'
  pub held_is_zero : held_of v ≡ true → level_of v ≡ 0
  -- 'Its period less 1 is the target' of the rate in force, and what else calls keep of an envelope
  pub timed : Timed v.envelope
  -- 'Noise holds 23 stages, … shown through taps': the lines show the stages as they are
  pub noise_shows : v.oscillator.noise.numbers.visible ≡ noise_shown v.oscillator.noise.numbers.state
  -- 'The phase is 24 bits'
  pub phase_fits : phase_of v < 2 ^ 24
  -- a code has 12
  pub latched : Latched v

-- a write 'selecting waveform 0 from another', 'provided the cycle at the capture is below 2^63'
pub record Captures (w : Which) (c : Mos6581) (address value : ℕ) : Type 0 where
  pub control : register address ≡ control_of w
  pub off : value / 2 ^ 4 ≡ 0
  pub another : waveform_of (of w c) ≡ 0 → ⊥
  pub early : c.cycle < 2 ^ 63

-- The floating code of a voice of a chip, for any calls that leave it so: only the ticks among them count
pub record Floats (w : Which) (c : Mos6581) (code : ℕ) : Type 0 where
  -- 'a code that isn't 0 is whole for 1,260,019 clocks', and so is one of 0
  pub whole : (calls : List Call) → Each (leaves_off w) calls → clocks_of calls ≤ 1260019 → code_of (of w (after calls c)) ≡ code
  -- 'and zero from clock 1,260,020'
  pub gone : (calls : List Call) → Each (leaves_off w) calls → 1260020 ≤ clocks_of calls → code_of (of w (after calls c)) ≡ 0

-- the ticks since the chip was made or last reset, n of them before these calls
unfoldable pub clocks_since : List Call → ℕ → ℕ
clocks_since [] n = n
clocks_since (write address value ∷ calls) n = clocks_since calls n
clocks_since (read address ∷ calls) n = clocks_since calls n
clocks_since (tick ∷ calls) n = clocks_since calls (suc n)
clocks_since (clear ∷ calls) n = clocks_since calls 0
clocks_since (set_pot_x value ∷ calls) n = clocks_since calls n
clocks_since (set_pot_y value ∷ calls) n = clocks_since calls n

-- the most that these come to in the course of calls
unfoldable pub most_since : List Call → ℕ → ℕ
most_since [] n = n
most_since (write address value ∷ calls) n = most_since calls n
most_since (read address ∷ calls) n = most_since calls n
most_since (tick ∷ calls) n = most_since calls (suc n)
most_since (clear ∷ calls) n = max n (most_since calls 0)
most_since (set_pot_x value ∷ calls) n = most_since calls n
most_since (set_pot_y value ∷ calls) n = most_since calls n

-- ---- document 02, request 12: 'at most one [leak step] due, since both are looked at on every clock they matter'

-- 'fewer than 2^63 clocks since the chip was made or reset'
abbrev pub Recent : ℕ → Type 0
Recent clocks = clocks < 2 ^ 63

-- what carries it: between calls the next leak of an oscillator lies ahead of the cycle, or there is none
pub record LeaksAhead (o : Oscillator) (cycle : ℕ) : Type 0 where
  -- in test that of the noise register is still to come; out of test it has none
  pub recovers : o.control.test_enabled ≡ true → NoiseAhead o.noise.numbers cycle
  pub rests : o.control.test_enabled ≡ false → o.noise.numbers.next_leak ≡ never
  -- so is that of floating lines, if they show anything; and they do only where waveform 0 is selected
  pub leaks : FloatingAhead o.bus.numbers cycle
  pub floats : (o.bus.numbers.value ≡ 0 → ⊥) → o.control.waveform ≡ 0

-- of a voice of a chip
abbrev pub Ahead : Which → Mos6581 → Type 0
Ahead w c = LeaksAhead (of w c).oscillator c.cycle

-- what it comes to at a cycle that a write or a tick sees: one leak step at most, of noise recovery in test and of
-- floating lines
pub record OneDue (o : Oscillator) (cycle : ℕ) : Type 0 where
  pub recovers : o.control.test_enabled ≡ true → noise_steps_due o.noise.numbers cycle ≤ 1
  pub leaks : floating_steps_due o.bus.numbers cycle ≤ 1
