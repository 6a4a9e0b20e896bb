-- What a control register decides, for a caller's loop, which works it out once and asks for it on every clock. Nothing
-- here has to be believed: proofs/Wired ties each name to the rule of the oscillator that asks the register itself.
use Rattle.std.specs.Prelude.{ℕ, ◌+◌, ◌*◌, ◌/◌, ◌%◌, ◌^◌, Bool, false, cond, not, ◌&&◌, ◌||◌, List, eqb, ltb, length, get_or}
use Rattle.std.specs.Int.Bits.{bit_and, bit_or, bit_xor}
use Rattle.waveforms.specs.Waveforms.{triangle, loaded}
use Rattle.noise.specs.Noise.{pulse_load_aperture}
use Rattle.noise.specs.declared.Noise.{Noise}
use Rattle.oscillator.specs.Selection.{is_off, has, is_combined}
use Rattle.oscillator.specs.Oscillator.{selected, phase, loads_lines, couples, noise_is_driven}
use Rattle.oscillator.specs.declared.WaveformSelect.{WaveformSelect}
use Rattle.oscillator.specs.declared.Control.{Control}
use Rattle.oscillator.specs.declared.Tone.{Tone}
use Rattle.pack.specs.Pack.{block_of}
use Rattle.wiring.specs.declared.Wiring.{Wiring}

-- the lines that a waveform can't pull down
abbrev pub high : Bool → ℕ
high chosen = cond chosen 0 0xfff

-- in test a pulse pulls none down
abbrev pub pulse_of : Control → WaveformSelect → ℕ
pulse_of c s = cond c.test_enabled 0xfff (high (has s 4))

abbrev pub rings_of : Control → WaveformSelect → Bool
rings_of c s = c.ring_enabled && (not (has s 2) && has s 1)

abbrev pub feeds_of : WaveformSelect → Bool
feeds_of s = has s 2 && is_combined s

unfoldable pub wired : Control → Wiring
wired c = record {
  selection = (selected c).raw;
  off = is_off (selected c);
  combined = is_combined (selected c);
  rings = rings_of c (selected c);
  loads = loads_lines c;
  feeds = feeds_of (selected c);
  couples = couples c;
  drives = noise_is_driven c;
  triangle = high (has (selected c) 1);
  saw = high (has (selected c) 2);
  pulse = pulse_of c (selected c);
  noise = high (has (selected c) 8);
  base = block_of (selected c).raw * 4096;
}

-- ---- what is asked of it on a clock

-- the waveforms joined by and, the triangle of a phase that ring may have turned
unfoldable pub joined_at : Wiring → ℕ → Tone → ℕ → ℕ
joined_at w p t visible =
    bit_and
    (bit_and (bit_and (bit_and 0xfff (bit_or (triangle p) w.triangle)) (bit_or (phase t) w.saw)) (bit_or t.pulse_output w.pulse))
    (bit_or visible w.noise)

-- the code of a voice with a waveform, before its lines are loaded
unfoldable pub code_of : Wiring → Tone → ℕ → ℕ → ℕ
code_of w t visible modulator =
    joined_at w (cond (w.rings && eqb (modulator / 2 ^ 23 % 2) 0) (bit_xor (phase t) 0x800) (phase t)) t visible

-- with its lines loaded, over a lent slice of any length
unfoldable pub loaded_of : Wiring → List ℕ → ℕ → ℕ
loaded_of w pack code =
    cond w.loads
    (cond (ltb (w.base + code % 4096) (length pack)) (get_or pack (w.base + code % 4096) 0) (loaded w.selection code) % 4096)
    code

-- the phase that a code feeds back into
unfoldable pub fed_back_of : Wiring → Tone → ℕ → Tone
fed_back_of w t code = record {
  accumulator = cond (w.feeds && eqb (code / 2 ^ 11 % 2) 0) (t.accumulator % 2 ^ 23) t.accumulator;
  msb_rising = cond (w.feeds && eqb (code / 2 ^ 11 % 2) 0) false t.msb_rising;
  last_sample = t.last_sample;
  pulse_output = t.pulse_output;
  readback = t.readback;
}

-- whether a code pulls the noise register down
unfoldable pub pulls_down_of : Wiring → Noise → ℕ → Bool
pulls_down_of w n cycle = w.drives && (not (eqb w.selection 0xc) || pulse_load_aperture n cycle)
