-- The chip: document 01, 'Data bus', 'Oscillator' and 'Numbers a caller can get back'; sid.rs without filter and
-- converter.
use Rattle.std.specs.Prelude.{ℕ, zero, suc, ◌/◌, ◌%◌, Bool, cond, not, ◌&&◌, List, [], ◌∷◌, eqb, ltb, Result, Ok, Err}
use Rattle.laws.specs.Cycle.{after as cycle_after}
use Rattle.laws.specs.Times.{times}
use Rattle.refusals.specs.Refusals.{Told, numbered}
use Rattle.bus.specs.Bus.{fresh as bus_fresh, driven, clocked as bus_clocked}
use Rattle.bus.specs.declared.InternalDataBus.{InternalDataBus}
use Rattle.envelope.specs.Envelope.{fresh as envelope_fresh, reset as envelope_reset, clocked as envelope_clocked, attack_decay_set, sustain_release_set, gate_set}
use Rattle.envelope.specs.declared.Envelope.{Envelope}
use Rattle.oscillator.specs.Ways.{Ways, stepwise}
use Rattle.oscillator.specs.declared.Oscillator.{Oscillator}
use Rattle.oscillator.specs.Oscillator.{fresh as oscillator_fresh, clocked_by as oscillator_clocked_by, voiced_by as oscillator_voiced_by, written as oscillator_written, written_frequency_lo, written_frequency_hi, written_pulse_width_lo, written_pulse_width_hi, read_output, synchronised as oscillator_synchronised}
use Rattle.sid.specs.declared.Voice.{Voice}
use Rattle.sid.specs.declared.Mos6581.{Mos6581}
use Rattle.sid.specs.declared.Read.{Read}

-- ---- 'Pots are 0xff when fresh, set by the host and kept by reset; a chip reset clears the bus byte.' Document 02,
-- request 8: 'Keep one [cycle] in the chip'; the Rust's oscillators have one each, and all are 0 when fresh or reset
-- (new, reset)

abbrev pub fresh_voice : Voice
fresh_voice = record { oscillator = oscillator_fresh 0x555555; envelope = envelope_fresh }

unfoldable pub fresh : Mos6581
fresh = record { voice_0 = fresh_voice; voice_1 = fresh_voice; voice_2 = fresh_voice; data_bus = bus_fresh; pot_x = 0xff; pot_y = 0xff; cycle = 0 }

-- a voice keeps its phase, its level and its rate phase
unfoldable pub reset_voice : Voice → Voice
reset_voice v = record { oscillator = oscillator_fresh v.oscillator.tone.accumulator; envelope = envelope_reset v.envelope }

unfoldable pub reset : Mos6581 → Mos6581
reset c = record c {
  voice_0 = reset_voice c.voice_0;
  voice_1 = reset_voice c.voice_1;
  voice_2 = reset_voice c.voice_2;
  data_bus = bus_fresh;
  cycle = 0;
}

-- ---- 'address masked with 0x1f': seven registers a voice, then those that no voice has

abbrev pub register : ℕ → ℕ
register address = address % 32

-- a voice's frequency, pulse width and control, of its seven registers, at the present cycle (write,
-- write_voice_control)
unfoldable pub written_oscillator : Oscillator → ℕ → ℕ → ℕ → Oscillator
written_oscillator o register value cycle =
    cond (eqb register 0) (written_frequency_lo o value)
    (cond (eqb register 1) (written_frequency_hi o value)
    (cond (eqb register 2) (written_pulse_width_lo o value)
    (cond (eqb register 3) (written_pulse_width_hi o value)
    (cond (eqb register 4) (oscillator_written o value cycle) o))))

-- its control's gate, attack and decay, sustain and release (write, write_voice_control)
unfoldable pub written_envelope : Envelope → ℕ → ℕ → Envelope
written_envelope e register value =
    cond (eqb register 4) (gate_set e (not (eqb (value % 2) 0)))
    (cond (eqb register 5) (attack_decay_set e value)
    (cond (eqb register 6) (sustain_release_set e value) e))

unfoldable pub written_voice : Voice → ℕ → ℕ → ℕ → Voice
written_voice v register value cycle = record {
  oscillator = written_oscillator v.oscillator register value cycle;
  envelope = written_envelope v.envelope register value;
}

-- voice n, after a write that may be another's
unfoldable pub written_to : ℕ → Voice → ℕ → ℕ → ℕ → Voice
written_to n v register value cycle = cond (eqb (register / 7) n) (written_voice v (register % 7) value cycle) v

-- 'Every write, also to an unused address, drives the byte'; 'Writes to 0x15 to 0x18 therefore only drive the bus'
-- (write)
unfoldable pub written : Mos6581 → ℕ → ℕ → Mos6581
written c address value = record c {
  voice_0 = written_to 0 c.voice_0 (register address) value c.cycle;
  voice_1 = written_to 1 c.voice_1 (register address) value c.cycle;
  voice_2 = written_to 2 c.voice_2 (register address) value c.cycle;
  data_bus = driven value;
}

-- ---- 'Reads of 0x19 to 0x1c (pot X, pot Y, OSC3, ENV3) drive what they return; every other read returns the floating byte and renews nothing.' (read)

-- 'OSC3 is the top eight bits of voice 2's code, ENV3 its readback'
abbrev pub osc3 : Mos6581 → ℕ
osc3 c = read_output c.voice_2.oscillator

abbrev pub env3 : Mos6581 → ℕ
env3 c = c.voice_2.envelope.readback

abbrev pub with_bus : Mos6581 → InternalDataBus → Mos6581
with_bus c b = record c { data_bus = b }

unfoldable pub read_driven : Mos6581 → ℕ → Read
read_driven c value = record { chip = with_bus c (driven value); byte = value }

unfoldable pub read_at : Mos6581 → ℕ → Read
read_at c address =
    cond (eqb (register address) 0x19) (read_driven c c.pot_x)
    (cond (eqb (register address) 0x1a) (read_driven c c.pot_y)
    (cond (eqb (register address) 0x1b) (read_driven c (osc3 c))
    (cond (eqb (register address) 0x1c) (read_driven c (env3 c)) (record { chip = c; byte = c.data_bus.value }))))

-- 'set by the host'
abbrev pub with_pot_x : Mos6581 → ℕ → Mos6581
with_pot_x c value = record c { pot_x = value }

abbrev pub with_pot_y : Mos6581 → ℕ → Mos6581
with_pot_y c value = record c { pot_y = value }

-- ---- 'Tick order: bus; three phases; three envelopes; …' The cycle goes up once, before the phases, and all that
-- follows in the tick sees the new one (tick; clock_accumulator)

unfoldable pub clocked_voice_by : Ways → Voice → ℕ → Voice
clocked_voice_by w v cycle = record { oscillator = oscillator_clocked_by w v.oscillator cycle; envelope = envelope_clocked v.envelope }

abbrev pub next_cycle : Mos6581 → ℕ
next_cycle c = cycle_after c.cycle 1

unfoldable pub clocked_by : Ways → Mos6581 → Mos6581
clocked_by w c = record c {
  voice_0 = clocked_voice_by w c.voice_0 (next_cycle c);
  voice_1 = clocked_voice_by w c.voice_1 (next_cycle c);
  voice_2 = clocked_voice_by w c.voice_2 (next_cycle c);
  data_bus = bus_clocked c.data_bus;
  cycle = next_cycle c;
}

-- '… then per voice evaluate, feedback, latch', with the phase of the voice before it in the ring
unfoldable pub voiced_by : Ways → Voice → ℕ → ℕ → Voice
voiced_by w v modulator cycle = record v { oscillator = oscillator_voiced_by w v.oscillator modulator cycle }

abbrev pub phase_of : Voice → ℕ
phase_of v = v.oscillator.tone.accumulator

abbrev pub with_voices : Mos6581 → Voice → Voice → Voice → Mos6581
with_voices c v w x = record c { voice_0 = v; voice_1 = w; voice_2 = x }

-- 'voice 0 seeing voice 2's phase before that voice's feedback'
unfoldable pub voiced0_by : Ways → Mos6581 → Mos6581
voiced0_by w c = with_voices c (voiced_by w c.voice_0 (phase_of c.voice_2) c.cycle) c.voice_1 c.voice_2

-- 'and voices 1 and 2 the phase before them after it'
unfoldable pub voiced1_by : Ways → Mos6581 → Mos6581
voiced1_by w c = with_voices c c.voice_0 (voiced_by w c.voice_1 (phase_of c.voice_0) c.cycle) c.voice_2

unfoldable pub voiced2_by : Ways → Mos6581 → Mos6581
voiced2_by w c = with_voices c c.voice_0 c.voice_1 (voiced_by w c.voice_2 (phase_of c.voice_1) c.cycle)

-- 'then synchronisation, judged from marks read beforehand': a source whose mark is set takes along a voice with sync
-- enabled, unless the source, with sync enabled too, sees its own source's mark
unfoldable pub syncs : Bool → Bool → Bool → Bool → Bool
syncs rising sync source_sync source_rising = rising && (sync && not (source_sync && source_rising))

abbrev pub rising_of : Voice → Bool
rising_of v = v.oscillator.tone.msb_rising

abbrev pub sync_of : Voice → Bool
sync_of v = v.oscillator.control.sync_enabled

unfoldable pub synchronised_if : Bool → Voice → Voice
synchronised_if taken v = cond taken (record v { oscillator = oscillator_synchronised v.oscillator }) v

-- a voice, the one before it in the ring, and the one before that
abbrev pub synced : Voice → Voice → Voice → Voice
synced v source before = synchronised_if (syncs (rising_of source) (sync_of v) (sync_of source) (rising_of before)) v

unfoldable pub synchronised : Mos6581 → Mos6581
synchronised c =
    with_voices c (synced c.voice_0 c.voice_2 c.voice_1) (synced c.voice_1 c.voice_0 c.voice_2) (synced c.voice_2 c.voice_1 c.voice_0)

unfoldable pub ticked_by : Ways → Mos6581 → Mos6581
ticked_by w c = synchronised (voiced2_by w (voiced1_by w (voiced0_by w (clocked_by w c))))

-- n clocks
abbrev pub ticks_by : Ways → ℕ → Mos6581 → Mos6581
ticks_by w n c = times n (ticked_by w) c

-- ---- the same by a chip's ways: 'have the chip's tick take one step' (document 02, request 12)

abbrev pub clocked_voice : Voice → ℕ → Voice
clocked_voice = clocked_voice_by stepwise

abbrev pub clocked : Mos6581 → Mos6581
clocked = clocked_by stepwise

abbrev pub voiced : Voice → ℕ → ℕ → Voice
voiced = voiced_by stepwise

abbrev pub voiced0 : Mos6581 → Mos6581
voiced0 = voiced0_by stepwise

abbrev pub voiced1 : Mos6581 → Mos6581
voiced1 = voiced1_by stepwise

abbrev pub voiced2 : Mos6581 → Mos6581
voiced2 = voiced2_by stepwise

abbrev pub ticked : Mos6581 → Mos6581
ticked = ticked_by stepwise

abbrev pub ticks : ℕ → Mos6581 → Mos6581
ticks = ticks_by stepwise

-- ---- 'The calls that name a voice give its code (the last latched; fresh or reset 0), its level, or whether it is held at zero.'

abbrev pub code_of : Voice → ℕ
code_of v = v.oscillator.tone.last_sample

abbrev pub level_of : Voice → ℕ
level_of v = v.envelope.volume

abbrev pub held_of : Voice → Bool
held_of v = v.envelope.floor_hold

-- the voice of a number; none above 2 is asked for
unfoldable pub voice_of : Mos6581 → ℕ → Voice
voice_of c n = cond (eqb n 0) c.voice_0 (cond (eqb n 1) c.voice_1 c.voice_2)

-- 3, 'voice number above 2', at 0
unfoldable pub named : {A : Type 0} → Mos6581 → ℕ → (Voice → A) → Result A Told
named c n give = cond (ltb 2 n) (Err (numbered 3 0)) (Ok (give (voice_of c n)))

-- ---- any run of calls

pub data Call : Type 0 where
  write : ℕ → ℕ → Call
  read : ℕ → Call
  tick : Call
  -- a reset
  clear : Call
  set_pot_x : ℕ → Call
  set_pot_y : ℕ → Call

unfoldable pub called_by : Ways → Call → Mos6581 → Mos6581
called_by w (write address value) c = written c address value
called_by w (read address) c = (read_at c address).chip
called_by w tick c = ticked_by w c
called_by w clear c = reset c
called_by w (set_pot_x value) c = with_pot_x c value
called_by w (set_pot_y value) c = with_pot_y c value

-- the chip after calls, the first first
unfoldable pub after_by : Ways → List Call → Mos6581 → Mos6581
after_by w [] c = c
after_by w (call ∷ calls) c = after_by w calls (called_by w call c)

-- by a chip's ways
abbrev pub called : Call → Mos6581 → Mos6581
called = called_by stepwise

abbrev pub after : List Call → Mos6581 → Mos6581
after = after_by stepwise

-- n ticks, and then other calls
unfoldable pub ticks_then : ℕ → List Call → List Call
ticks_then zero calls = calls
ticks_then (suc n) calls = tick ∷ ticks_then n calls

-- the ticks among calls
unfoldable pub clocks_of : List Call → ℕ
clocks_of [] = zero
clocks_of (tick ∷ calls) = suc (clocks_of calls)
clocks_of (write address value ∷ calls) = clocks_of calls
clocks_of (read address ∷ calls) = clocks_of calls
clocks_of (clear ∷ calls) = clocks_of calls
clocks_of (set_pot_x value ∷ calls) = clocks_of calls
clocks_of (set_pot_y value ∷ calls) = clocks_of calls
