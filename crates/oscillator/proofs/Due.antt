-- A part of a tick does what its rule says where its test is true (`…-due`, `code_loaded`), and nothing where it is
-- false (`…-still`, `code_plain`), by any ways; the way lines leak must do nothing before a leak is due (`Still`), as
-- a chip's does, however it loads a code (`loading_still`). Assumes nothing.
use Rattle.std.proofs.Common.{◌≡◌, ℕ, ◌%◌, ◌≤◌, Bool, true, false, cond, ◌&&◌, eqb, List, sym, refl, ap, ◌∙◌, true≢false, le_trans, le_refl, arith, eqb-true}
use lib.Bits.{bit_and, and_le_l}
use Rattle.waveforms.specs.Waveforms.{drivers, needs_loading}
use Rattle.noise.specs.Noise.{coupled, coupled_to, pulled_down}
use Rattle.noise.specs.Loop.{generator}
use Rattle.noise.proofs.Still.{Recovers, relax_still}
use Rattle.noise.specs.declared.Noise.{Noise}
use Rattle.noise.specs.declared.NoiseGenerator.{NoiseGenerator}
use Rattle.floating.specs.Floating.{leaks, sampled_once}
use Rattle.floating.specs.declared.FloatingBus.{FloatingBus}
use Rattle.oscillator.specs.Ways.{Ways, loading}
use Rattle.oscillator.specs.Oscillator.{selected, ideal, waveform_at_by, code_by, loads_lines, loaded_code_by, sampled_bus_by, couples, pulls_down, coupled_noise, pulled_noise}
use Rattle.oscillator.specs.Loop.{plain_code, sample_due}
use Rattle.oscillator.specs.Selection.{is_off, has, joined, combined}
use Rattle.oscillator.specs.declared.WaveformSelect.{WaveformSelect}
use Rattle.oscillator.specs.declared.Control.{Control}
use Rattle.oscillator.specs.declared.Tone.{Tone}

-- ways that do nothing before a leak is due, of the noise register in test and of floating lines
pub record Still (w : Ways) : Type 0 where
  pub recovers : Recovers w.recover
  pub leak_still : (b : FloatingBus) (cycle : ℕ) → leaks b.numbers cycle ≡ false → w.leak b cycle ≡ b

pub loading_still : (load : ℕ → ℕ → ℕ) → Still (loading load)
unfolding sampled_once
loading_still load = record { recovers = relax_still; leak_still = λ b cycle e. simp e }

pub sample_due_lem : (w : Ways) (c : Control) (b : FloatingBus) (cycle : ℕ) → sample_due c b.numbers cycle ≡ true → sampled_bus_by w b c cycle ≡ w.leak b cycle
unfolding sample_due sampled_bus_by
sample_due_lem w c b cycle e = go (is_off (selected c)) e
  where
    go : (t : Bool) → (t && leaks b.numbers cycle) ≡ true → cond t (w.leak b cycle) b ≡ w.leak b cycle
    go true e = refl
    go false e = ap (λ (x : Bool). cond x (w.leak b cycle) b) e

pub sample_still : {w : Ways} → Still w → (c : Control) (b : FloatingBus) (cycle : ℕ) → sample_due c b.numbers cycle ≡ false → sampled_bus_by w b c cycle ≡ b
unfolding sample_due sampled_bus_by
sample_still {w} still c b cycle e = go (is_off (selected c)) e
  where
    go : (t : Bool) → (t && leaks b.numbers cycle) ≡ false → cond t (w.leak b cycle) b ≡ b
    go true e = still.leak_still b cycle e
    go false e = refl

-- only the charges that are held are coupled into
pub couple_due
    : (n : Noise) (c : Control) (latched : ℕ) (captured charge : List ℕ) → couples c ≡ true
    → coupled_noise (generator n captured charge) c latched ≡ generator n captured (coupled_to latched charge 8)
unfolding coupled_noise coupled
couple_due n c latched captured charge e = rw e refl

pub couple_still : (g : NoiseGenerator) (c : Control) (latched : ℕ) → couples c ≡ false → coupled_noise g c latched ≡ g
unfolding coupled_noise
couple_still g c latched e = rw e refl

pub pull_due : (g : NoiseGenerator) (c : Control) (latched cycle : ℕ) → pulls_down c g.numbers cycle ≡ true → pulled_noise g c latched cycle ≡ pulled_down g latched cycle
unfolding pulled_noise
pull_due g c latched cycle e = rw e refl

pub pull_still : (g : NoiseGenerator) (c : Control) (latched cycle : ℕ) → pulls_down c g.numbers cycle ≡ false → pulled_noise g c latched cycle ≡ g
unfolding pulled_noise
pull_still g c latched cycle e = rw e refl

pub code_plain : (w : Ways) (c : Control) (t : Tone) (visible floats m : ℕ) → loads_lines c ≡ false → code_by w c t visible floats m ≡ plain_code c t visible floats m
unfolding code_by plain_code waveform_at_by
code_plain w c t visible floats m e = rw e refl

pub joined_le : (s : WaveformSelect) (flag wave lines : ℕ) → joined s flag wave lines ≤ lines
joined_le s flag wave lines = go (has s flag)
  where
    go : (h : Bool) → cond h (bit_and lines wave) lines ≤ lines
    go true = and_le_l lines wave
    go false = le_refl lines

-- lines joined from 0xfff fit twelve bits
pub ideal_small : (c : Control) (t : Tone) (visible m : ℕ) → is_off (selected c) ≡ false → ideal c t visible m % 4096 ≡ ideal c t visible m
unfolding ideal combined
ideal_small c t visible m off = rw off (small _ (le_trans (join 8 visible _) (le_trans (join 4 _ _) (le_trans (join 2 _ _) (join 1 _ 0xfff)))))
  where
    small : (x : ℕ) → x ≤ 0xfff → x % 4096 ≡ x
    small x h = omega (arith, h)

    join : (flag wave lines : ℕ) → joined (selected c) flag wave lines ≤ lines
    join = joined_le (selected c)

unloaded : (c : Control) → (selected c).raw ≡ 0 → loads_lines c ≡ false
unfolding loads_lines needs_loading drivers
unloaded c e = rw e refl

pub code_loaded
    : (w : Ways) (c : Control) (t : Tone) (visible floats m : ℕ) → loads_lines c ≡ true → code_by w c t visible floats m ≡ loaded_code_by w.load c (plain_code c t visible floats m)
unfolding code_by plain_code loaded_code_by waveform_at_by
code_loaded w c t visible floats m e = rw e (go (eqb (selected c).raw 0) refl)
  where
    go : (off : Bool) → eqb (selected c).raw 0 ≡ off
        → cond off (floats % 4096) (w.load (selected c).raw (ideal c t visible m) % 4096)
        ≡ w.load (selected c).raw (cond off (floats % 4096) (ideal c t visible m % 4096)) % 4096
    go true o = absurd (true≢false (sym e ∙ unloaded c (eqb-true (selected c).raw 0 o)))
    go false o = ap (λ (x : ℕ). w.load (selected c).raw x % 4096) (sym (ideal_small c t visible m o))
