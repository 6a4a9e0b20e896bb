-- The oscillator of one voice: document 01, 'Oscillator'; Oscillator of oscillator.rs. Its fields stand in two
-- records of numbers, Control (what the registers say) and Tone (what a clock changes), beside the noise register and
-- the floating lines. The cycle is its chip's (document 02, request 8), and comes last: to a clock of the phase the one
-- that this clock makes, to all else the present one.
use Rattle.std.specs.Prelude.{ℕ, zero, suc, ◌+◌, ◌-◌, ◌*◌, ◌/◌, ◌%◌, ◌^◌, Bool, false, cond, not, ◌&&◌, ◌||◌, ◌==◌, bit_and, bit_or, bit_xor, nat_le}
use Rattle.laws.specs.Cycle.{after}
use Rattle.waveforms.specs.Waveforms.{triangle, needs_loading}
use Rattle.noise.specs.Noise.{fresh as noise_fresh, entered_test, left_test, coupled, pulled_down, stepped_by, pulse_load_aperture}
use Rattle.noise.specs.declared.Noise.{Noise}
use Rattle.noise.specs.declared.NoiseGenerator.{NoiseGenerator}
use Rattle.floating.specs.Floating.{fresh as floating_fresh, captured}
use Rattle.floating.specs.declared.FloatingBus.{FloatingBus}
use Rattle.oscillator.specs.Ways.{Ways, afresh}
use Rattle.oscillator.specs.Selection.{select, is_off, has, is_combined, combined}
use Rattle.oscillator.specs.declared.WaveformSelect.{WaveformSelect}
use Rattle.oscillator.specs.declared.Control.{Control}
use Rattle.oscillator.specs.declared.Tone.{Tone}
use Rattle.oscillator.specs.declared.Oscillator.{Oscillator}
use Rattle.oscillator.specs.declared.Evaluated.{Evaluated}

-- the selection that the control register holds (WaveformSelect::from_raw)
abbrev pub selected : Control → WaveformSelect
selected c = select c.waveform

-- ---- 'The phase is 24 bits: freshly made 0x555555, kept by reset.'

-- freshly made, but for its phase (new, reset)
unfoldable pub fresh : ℕ → Oscillator
fresh accumulator = record {
  control = record { frequency = 0; pulse_width = 0; waveform = 0; sync_enabled = false; ring_enabled = false; test_enabled = false };
  tone = record { accumulator = accumulator; msb_rising = false; last_sample = 0; pulse_output = 0xfff; readback = 0 };
  noise = noise_fresh;
  bus = floating_fresh;
}

-- the bits that rise from one phase to the next (clock_accumulator)
abbrev pub rising : ℕ → ℕ → ℕ
rising old new = bit_and (2 ^ 32 - 1 - old) new

-- one clock of the phase: in test it is kept at 0 (clock_accumulator, reset_phase)
unfoldable pub clocked_tone : Tone → Control → Tone
clocked_tone t c = record {
  accumulator = cond c.test_enabled 0 ((t.accumulator + c.frequency) % 2 ^ 24);
  msb_rising = cond c.test_enabled false (not (rising t.accumulator ((t.accumulator + c.frequency) % 2 ^ 24) / 2 ^ 23 % 2 == 0));
  last_sample = t.last_sample;
  pulse_output = t.pulse_output;
  readback = t.readback;
}

-- one clock of the phase, and of the noise register with what rises, at the cycle that it makes (clock_accumulator)
unfoldable pub clocked_by : Ways → Oscillator → ℕ → Oscillator
clocked_by w o cycle = record {
  control = o.control;
  tone = clocked_tone o.tone o.control;
  noise = stepped_by w.recover o.noise o.control.test_enabled
      (rising o.tone.accumulator (clocked_tone o.tone o.control).accumulator) cycle;
  bus = o.bus;
}

-- ---- 'The 12-bit phase is its top half.' (phase)

abbrev pub phase : Tone → ℕ
phase t = t.accumulator / 2 ^ 12 % 4096

-- ---- 'ring (triangle without saw) flips bit 11 while the modulator's top bit is low' (waveform_at_phase)

unfoldable pub rings : Control → ℕ → Bool
rings c modulator = c.ring_enabled && (has (selected c) 1 && (not (has (selected c) 2) && modulator / 2 ^ 23 % 2 == 0))

unfoldable pub triangle_phase : Control → ℕ → ℕ → ℕ
triangle_phase c p modulator = cond (rings c modulator) (bit_xor p 0x800) p

-- ---- 'Pulse is the comparison made one evaluation earlier, forced high in test.' (waveform_at_phase, evaluate_output)

abbrev pub pulse : Control → Tone → ℕ
pulse c t = cond c.test_enabled 0xfff t.pulse_output

-- the comparison that the next evaluation uses (evaluate_output)
unfoldable pub compared_tone : Tone → Control → Tone
compared_tone t c = record {
  accumulator = t.accumulator;
  msb_rising = t.msb_rising;
  last_sample = t.last_sample;
  pulse_output = cond (nat_le c.pulse_width (phase t)) 0xfff 0;
  readback = t.readback;
}

-- ---- the code of an evaluation (waveform_at_phase, evaluate_output)

-- 'Selected lines are joined by and' (ideal of waveform_at_phase)
unfoldable pub ideal : Control → Tone → ℕ → ℕ → ℕ
ideal c t visible modulator =
    combined (selected c) (triangle (triangle_phase c (phase t) modulator)) (phase t) (pulse c t) visible t.last_sample

-- a voice loads the lines of two waveforms or more; but 'Selection 9 has a table, yet the voice doesn't load its lines'
-- (waveform_at_phase)
unfoldable pub loads_lines : Control → Bool
loads_lines c = not ((selected c).raw == 9) && needs_loading (selected c).raw

-- a code with its lines loaded, in a way (waveform_at_phase)
unfoldable pub loaded_code_by : (ℕ → ℕ → ℕ) → Control → ℕ → ℕ
loaded_code_by load c plain = load (selected c).raw plain % 4096

-- the joined lines, loaded or not (waveform_at_phase)
unfoldable pub waveform_at_by : Ways → Control → Tone → ℕ → ℕ → ℕ
waveform_at_by w c t visible modulator = cond (loads_lines c) (loaded_code_by w.load c (ideal c t visible modulator)) (ideal c t visible modulator % 4096)

-- the code: what floats where nothing is selected, else the waveforms' (evaluate_output)
unfoldable pub code_by : Ways → Control → Tone → ℕ → ℕ → ℕ → ℕ
code_by w c t visible floats modulator = cond (is_off (selected c)) (floats % 4096) (waveform_at_by w c t visible modulator)

-- the floating lines leak only where nothing is selected (evaluate_output)
unfoldable pub sampled_bus_by : Ways → FloatingBus → Control → ℕ → FloatingBus
sampled_bus_by w b c cycle = cond (is_off (selected c)) (w.leak b cycle) b

-- the code, from the comparison made before, and the voice with the lines and the comparison made now (evaluate_output)
unfoldable pub evaluated_by : Ways → Oscillator → ℕ → ℕ → Evaluated
evaluated_by w o modulator cycle = record {
  code = code_by w o.control o.tone o.noise.numbers.visible (sampled_bus_by w o.bus o.control cycle).numbers.value modulator;
  oscillator = record {
    control = o.control;
    tone = compared_tone o.tone o.control;
    noise = o.noise;
    bus = sampled_bus_by w o.bus o.control cycle;
  };
}

-- ---- 'A saw joined with another waveform whose code lacks bit 11 clears the phase's top bit and its rising mark.'
-- (apply_combined_feedback)

unfoldable pub feeds_back : Control → ℕ → Bool
feeds_back c output = has (selected c) 2 && (is_combined (selected c) && output / 2 ^ 11 % 2 == 0)

unfoldable pub fed_back_tone : Tone → Control → ℕ → Tone
fed_back_tone t c output = record {
  accumulator = cond (feeds_back c output) (t.accumulator % 2 ^ 23) t.accumulator;
  msb_rising = cond (feeds_back c output) false t.msb_rising;
  last_sample = t.last_sample;
  pulse_output = t.pulse_output;
  readback = t.readback;
}

unfoldable pub fed_back : Oscillator → ℕ → Oscillator
fed_back o output = record { control = o.control; tone = fed_back_tone o.tone o.control output; noise = o.noise; bus = o.bus }

-- ---- the latched code, and what it does to the noise register (latch_output)

unfoldable pub latched_tone : Tone → ℕ → Tone
latched_tone t latched = record {
  accumulator = t.accumulator;
  msb_rising = t.msb_rising;
  last_sample = latched;
  pulse_output = t.pulse_output;
  readback = latched;
}

-- in test, noise with pulse and another couples its low lines into the charges (latch_output)
unfoldable pub couples : Control → Bool
couples c = c.test_enabled && (bit_and (selected c).raw 0xc == 0xc && has (selected c) 3)

-- out of test, noise with another is driven (noise_is_driven)
unfoldable pub noise_is_driven : Control → Bool
noise_is_driven c = has (selected c) 8 && (has (selected c) 7 && not c.test_enabled)

-- driven noise is pulled down, but with pulse alone only in the shift's aperture (latch_output)
unfoldable pub pulls_down : Control → Noise → ℕ → Bool
pulls_down c n cycle = noise_is_driven c && (not ((selected c).raw == 0xc) || pulse_load_aperture n cycle)

-- the noise register after a latch: the coupling, then the pull-down (latch_output)
unfoldable pub coupled_noise : NoiseGenerator → Control → ℕ → NoiseGenerator
coupled_noise g c latched = cond (couples c) (coupled g latched) g

unfoldable pub pulled_noise : NoiseGenerator → Control → ℕ → ℕ → NoiseGenerator
pulled_noise g c latched cycle = cond (pulls_down c g.numbers cycle) (pulled_down g latched cycle) g

unfoldable pub latched_noise : NoiseGenerator → Control → ℕ → ℕ → NoiseGenerator
latched_noise g c latched cycle = pulled_noise (coupled_noise g c latched) c latched cycle

-- the code is latched by its low twelve bits (latch_output)
unfoldable pub latched_code : Oscillator → ℕ → ℕ → Oscillator
latched_code o output cycle = record {
  control = o.control;
  tone = latched_tone o.tone (output % 4096);
  noise = latched_noise o.noise o.control (output % 4096) cycle;
  bus = o.bus;
}

-- ---- 'Selecting waveform 0 from another captures the last code on floating lines.' Test entry and exit
-- (write_control, in its order)

-- the four fields that the byte holds (write_control)
unfoldable pub written_control : Control → ℕ → Control
written_control c value = record {
  frequency = c.frequency;
  pulse_width = c.pulse_width;
  waveform = value / 2 ^ 4;
  sync_enabled = not (bit_and value 0x02 == 0);
  ring_enabled = not (bit_and value 0x04 == 0);
  test_enabled = not (bit_and value 0x08 == 0);
}

-- then the floating lines: they capture where waveform 0 is selected from another, and are reset where another is.
-- Old and new are compared as they stand, not by their low four bits (write_control)
unfoldable pub written_bus : FloatingBus → ℕ → ℕ → ℕ → ℕ → FloatingBus
written_bus b old new last cycle = cond (old == new) b (cond (new == 0) (captured last cycle) floating_fresh)

-- as test is left, drivers that stay connected load the register with the last code; pulse does so where triangle or
-- saw was connected, and holds all but the three lowest noise lines high (write_control;
-- NOISE_PULSE_TRANSFER_RETAINED_LINES)
unfoldable pub exit_loaded : NoiseGenerator → ℕ → ℕ → ℕ → ℕ → NoiseGenerator
exit_loaded g old drivers last cycle =
    cond (bit_and drivers 8 == 0) g
    (cond (bit_and drivers 3 == 0)
    (cond (bit_and drivers 4 == 0) g (cond (bit_and old 3 == 0) g (pulled_down g (bit_or last 0xf8f) cycle)))
    (pulled_down g last cycle))

-- then the noise register: test is left, or entered, or neither (write_control)
unfoldable pub tested_noise : NoiseGenerator → Control → Control → ℕ → ℕ → NoiseGenerator
tested_noise g old new last cycle =
    cond old.test_enabled
    (cond new.test_enabled g (left_test (exit_loaded g old.waveform (bit_and old.waveform new.waveform) last cycle) cycle))
    (cond new.test_enabled (entered_test g cycle) g)

-- phase and rising mark are cleared, and nothing else (reset_phase)
unfoldable pub reset_phase : Tone → Tone
reset_phase t = record {
  accumulator = 0;
  msb_rising = false;
  last_sample = t.last_sample;
  pulse_output = t.pulse_output;
  readback = t.readback;
}

-- and the phase, which is cleared as test is entered (write_control)
unfoldable pub tested_tone : Tone → Bool → Bool → Tone
tested_tone t old new = cond old t (cond new (reset_phase t) t)

-- the whole write (write_control)
unfoldable pub written : Oscillator → ℕ → ℕ → Oscillator
written o value cycle = record {
  control = written_control o.control value;
  tone = tested_tone o.tone o.control.test_enabled (written_control o.control value).test_enabled;
  noise = tested_noise o.noise o.control (written_control o.control value) o.tone.last_sample cycle;
  bus = written_bus o.bus o.control.waveform (written_control o.control value).waveform o.tone.last_sample cycle;
}

-- ---- the registers of frequency and pulse width (write_frequency_lo, write_frequency_hi, write_pulse_width_lo,
-- write_pulse_width_hi): twelve bits of a pulse width are kept

abbrev pub tuned : Oscillator → ℕ → ℕ → Oscillator
tuned o frequency width = record {
  control = record {
    frequency = frequency;
    pulse_width = width;
    waveform = o.control.waveform;
    sync_enabled = o.control.sync_enabled;
    ring_enabled = o.control.ring_enabled;
    test_enabled = o.control.test_enabled;
  };
  tone = o.tone;
  noise = o.noise;
  bus = o.bus;
}

abbrev pub written_frequency_lo : Oscillator → ℕ → Oscillator
written_frequency_lo o value = tuned o (bit_or (bit_and o.control.frequency 0xff00) value) o.control.pulse_width

abbrev pub written_frequency_hi : Oscillator → ℕ → Oscillator
written_frequency_hi o value = tuned o (bit_or (bit_and o.control.frequency 0x00ff) (value * 2 ^ 8)) o.control.pulse_width

abbrev pub written_pulse_width_lo : Oscillator → ℕ → Oscillator
written_pulse_width_lo o value = tuned o o.control.frequency (bit_or (bit_and o.control.pulse_width 0x0f00) value)

abbrev pub written_pulse_width_hi : Oscillator → ℕ → Oscillator
written_pulse_width_hi o value = tuned o o.control.frequency (bit_or (bit_and o.control.pulse_width 0x00ff) (value % 16 * 2 ^ 8))

-- ---- what is read: 'OSC3 is the top eight bits of voice 2's code' (read_output)

abbrev pub read_output : Oscillator → ℕ
read_output o = o.tone.readback / 2 ^ 4 % 256

-- in test with pulse alone (output_is_frozen)
abbrev pub output_is_frozen : Oscillator → Bool
output_is_frozen o = o.control.test_enabled && o.control.waveform == 4

-- ---- 'then synchronisation': the phase starts anew (synchronise)

unfoldable pub synchronised : Oscillator → Oscillator
synchronised o = record { control = o.control; tone = reset_phase o.tone; noise = o.noise; bus = o.bus }

-- ---- 'Tick order', one voice's part, with the modulator's phase given: 'evaluate, feedback, latch', after the clock
-- of its phase (tick)

unfoldable pub voiced_by : Ways → Oscillator → ℕ → ℕ → Oscillator
voiced_by w o modulator cycle =
    latched_code (fed_back (evaluated_by w o modulator cycle).oscillator (evaluated_by w o modulator cycle).code) (evaluated_by w o modulator cycle).code cycle

-- the whole of it at the cycle that the tick makes
unfoldable pub ticked_by : Ways → Oscillator → ℕ → ℕ → Oscillator
ticked_by w o modulator cycle = voiced_by w (clocked_by w o cycle) modulator cycle

-- 'Left so': n ticks from a cycle on, the modulator's phase given for each
unfoldable pub ticks_by : Ways → ℕ → Oscillator → (ℕ → ℕ) → ℕ → Oscillator
ticks_by w zero o modulators cycle = o
ticks_by w (suc n) o modulators cycle = ticked_by w (ticks_by w n o modulators cycle) (modulators n) (after cycle (suc n))

-- ---- the same by document 01's ways

abbrev pub clocked : Oscillator → ℕ → Oscillator
clocked = clocked_by afresh

abbrev pub loaded_code : Control → ℕ → ℕ
loaded_code = loaded_code_by afresh.load

abbrev pub waveform_at : Control → Tone → ℕ → ℕ → ℕ
waveform_at = waveform_at_by afresh

abbrev pub code : Control → Tone → ℕ → ℕ → ℕ → ℕ
code = code_by afresh

abbrev pub sampled_bus : FloatingBus → Control → ℕ → FloatingBus
sampled_bus = sampled_bus_by afresh

abbrev pub evaluated : Oscillator → ℕ → ℕ → Evaluated
evaluated = evaluated_by afresh

abbrev pub voiced : Oscillator → ℕ → ℕ → Oscillator
voiced = voiced_by afresh

abbrev pub ticked : Oscillator → ℕ → ℕ → Oscillator
ticked = ticked_by afresh

abbrev pub ticks : ℕ → Oscillator → (ℕ → ℕ) → ℕ → Oscillator
ticks = ticks_by afresh
