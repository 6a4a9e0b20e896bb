-- One tick of the chip, by any ways, out of its parts, which a loop may hold apart; ways that tick each voice alike
-- tick the chip alike (`chip_alike`), any number of times (`ticks_alike`) and in any run of calls (`after_alike`);
-- ticks clock the bus, and nothing else in them moves it (`ticks_bus`). Assumes nothing.
use mathlib.Core.Path.{◌≡◌, refl, ap, ap₂, sym, ◌∙◌}
use mathlib.Core.Bool.{Bool, true, false, cond}
use mathlib.Core.List.{List, [], ◌∷◌}
use Prim.Native.Nat.{ℕ, zero, suc}
use Rattle.laws.specs.Times.{times}
use Rattle.bus.specs.Bus.{clocked as bus_clocked, clocks as bus_clocks}
use Rattle.bus.specs.declared.InternalDataBus.{InternalDataBus}
use Rattle.envelope.specs.Envelope.{clocked as envelope_clocked}
use Rattle.envelope.specs.declared.Envelope.{Envelope}
use Rattle.noise.specs.Noise.{stepped_by}
use Rattle.noise.specs.Loop.{generator}
use Rattle.noise.specs.declared.Noise.{Noise}
use Rattle.noise.specs.declared.NoiseGenerator.{NoiseGenerator}
use Rattle.floating.specs.Loop.{lines}
use Rattle.floating.specs.declared.Floating.{Floating}
use Rattle.floating.specs.declared.FloatingBus.{FloatingBus}
use Rattle.oscillator.specs.Ways.{Ways}
use Rattle.oscillator.specs.Oscillator.{rising, clocked_tone, compared_tone, code_by, sampled_bus_by, fed_back_tone, latched_tone, coupled_noise, pulled_noise, latched_noise, reset_phase, synchronised as oscillator_synchronised, clocked_by as oscillator_clocked_by, ticked_by as oscillator_ticked_by}
use Rattle.oscillator.specs.declared.Control.{Control}
use Rattle.oscillator.specs.declared.Tone.{Tone}
use Rattle.oscillator.specs.declared.Oscillator.{Oscillator}
use Rattle.oscillator.proofs.Alike.{Alike, tick_alike}
use Rattle.oscillator.proofs.Parts.{voice, tick_parts}
use Rattle.sid.specs.Sid.{clocked_voice_by, next_cycle, clocked_by, voiced_by, phase_of, voiced0_by, voiced1_by, voiced2_by, synchronised_if, synced, synchronised, ticked_by, ticks_by, Call, write, read, tick, clear, set_pot_x, set_pot_y, called_by, after_by}
use Rattle.sid.specs.declared.Voice.{Voice}
use Rattle.sid.specs.declared.Mos6581.{Mos6581}

abbrev pub pack : Control → Tone → NoiseGenerator → FloatingBus → Envelope → Voice
pack k t g b e = record { oscillator = voice k t g b; envelope = e }

-- the chip of its bus, its pots, its cycle and its voices
abbrev pub whole : InternalDataBus → ℕ → ℕ → ℕ → Voice → Voice → Voice → Mos6581
whole b x y cycle v0 v1 v2 = record { voice_0 = v0; voice_1 = v1; voice_2 = v2; data_bus = b; pot_x = x; pot_y = y; cycle = cycle }

pub same_generator
    : {n n' : Noise} {captured captured' charge charge' : List ℕ} → n ≡ n' → captured ≡ captured' → charge ≡ charge'
    → generator n captured charge ≡ generator n' captured' charge'
same_generator {n} {n'} {captured} {captured'} {charge} {charge'} p q r =
    ap (λ (x : Noise). generator x captured charge) p ∙ ap₂ (generator n') q r

pub same_charge : {n : Noise} {captured charge charge' : List ℕ} → charge ≡ charge' → generator n captured charge ≡ generator n captured charge'
same_charge {n} {captured} r = ap (generator n captured) r

pub same_lines : {f f' : Floating} {charge charge' : List ℕ} → f ≡ f' → charge ≡ charge' → lines f charge ≡ lines f' charge'
same_lines p q = ap₂ lines p q

-- any voice, up to its latch
pub voice_parts
    : (ways : Ways) (k : Control) (t : Tone) (g : NoiseGenerator) (b : FloatingBus) (e : Envelope) (modulator cycle : ℕ)
    (t1 : Tone) (g1 : NoiseGenerator) (b1 : FloatingBus) (output : ℕ) (t2 : Tone) (g2 g3 : NoiseGenerator) (e1 : Envelope)
    → t1 ≡ clocked_tone t k
    → g1 ≡ stepped_by ways.recover g k.test_enabled (rising t.accumulator t1.accumulator) cycle
    → b1 ≡ sampled_bus_by ways b k cycle
    → output ≡ code_by ways k t1 g1.numbers.visible b1.numbers.value modulator
    → t2 ≡ latched_tone (fed_back_tone (compared_tone t1 k) k output) output
    → g2 ≡ coupled_noise g1 k output
    → g3 ≡ pulled_noise g2 k output cycle
    → e1 ≡ envelope_clocked e
    → pack k t2 g3 b1 e1 ≡ voiced_by ways (clocked_voice_by ways (pack k t g b e) cycle) modulator cycle
unfolding voiced_by clocked_voice_by oscillator_ticked_by latched_noise
voice_parts ways k t g b e modulator cycle t1 g1 b1 output t2 g2 g3 e1 p q r s u v w x =
    ap₂ (λ (o : Oscillator) (y : Envelope). record { oscillator = o; envelope = y })
    (ap₂ (λ (y : Tone) (z : NoiseGenerator). voice k y z b1) u (w ∙ ap (λ (y : NoiseGenerator). pulled_noise y k output cycle) v)
    ∙ tick_parts ways k t g b modulator cycle t1 g1 b1 output p q r s)
    x

-- any voice, synchronised or not
pub sync_parts
    : (k : Control) (t : Tone) (g : NoiseGenerator) (b : FloatingBus) (e : Envelope) (taken : Bool) (t1 : Tone)
    → t1 ≡ cond taken (reset_phase t) t
    → pack k t1 g b e ≡ synchronised_if taken (pack k t g b e)
unfolding synchronised_if oscillator_synchronised
sync_parts k t g b e taken t1 p = ap (λ (y : Tone). pack k y g b e) p ∙ go taken
  where
    go : (taken : Bool) → pack k (cond taken (reset_phase t) t) g b e ≡ cond taken (pack k (reset_phase t) g b e) (pack k t g b e)
    go true = refl
    go false = refl

module _ (ways : Ways) (c : Mos6581) (b : InternalDataBus) (cycle : ℕ) (v w x : Voice) where
  abbrev with : Voice → Voice → Voice → Mos6581
  with = whole b c.pot_x c.pot_y cycle

  rung
      : b ≡ bus_clocked c.data_bus
      → cycle ≡ next_cycle c
      → v ≡ voiced_by ways (clocked_voice_by ways c.voice_0 cycle) (phase_of (clocked_voice_by ways c.voice_2 cycle)) cycle
      → w ≡ voiced_by ways (clocked_voice_by ways c.voice_1 cycle) (phase_of v) cycle
      → x ≡ voiced_by ways (clocked_voice_by ways c.voice_2 cycle) (phase_of w) cycle
      → with v w x ≡ voiced2_by ways (voiced1_by ways (voiced0_by ways (clocked_by ways c)))
  unfolding voiced0_by voiced1_by voiced2_by clocked_by
  rung o n p q r = simp (r, q, p, o, n)

  pub chip_parts
      : b ≡ bus_clocked c.data_bus
      → cycle ≡ next_cycle c
      → v ≡ voiced_by ways (clocked_voice_by ways c.voice_0 cycle) (phase_of (clocked_voice_by ways c.voice_2 cycle)) cycle
      → w ≡ voiced_by ways (clocked_voice_by ways c.voice_1 cycle) (phase_of v) cycle
      → x ≡ voiced_by ways (clocked_voice_by ways c.voice_2 cycle) (phase_of w) cycle
      → (v1 w1 x1 : Voice)
      → v1 ≡ synced v x w
      → w1 ≡ synced w v x
      → x1 ≡ synced x w v
      → with v1 w1 x1 ≡ ticked_by ways c
  unfolding ticked_by synchronised
  chip_parts o n p q r v1 w1 x1 e f g =
      ap (λ (y : Voice). with y w1 x1) e ∙ ap₂ (with (synced v x w)) f g ∙ ap synchronised (rung o n p q r)

-- any voice, ticked by two ways that do the same to it
voice_alike
    : {ways others : Ways} (v : Voice) (cycle modulator : ℕ)
    → Alike ways others v.oscillator cycle
    → voiced_by ways (clocked_voice_by ways v cycle) modulator cycle ≡ voiced_by others (clocked_voice_by others v cycle) modulator cycle
unfolding voiced_by clocked_voice_by oscillator_ticked_by
voice_alike v cycle modulator same =
    ap (λ (o : Oscillator). record { oscillator = o; envelope = envelope_clocked v.envelope }) (tick_alike v.oscillator cycle same modulator)

-- a clock of the phase is the same by all ways
phase_alike : (ways others : Ways) (v : Voice) (cycle : ℕ) → phase_of (clocked_voice_by ways v cycle) ≡ phase_of (clocked_voice_by others v cycle)
unfolding clocked_voice_by oscillator_clocked_by
phase_alike ways others v cycle = refl

pub chip_alike
    : (ways others : Ways) (c : Mos6581)
    → Alike ways others c.voice_0.oscillator (next_cycle c)
    → Alike ways others c.voice_1.oscillator (next_cycle c)
    → Alike ways others c.voice_2.oscillator (next_cycle c)
    → ticked_by ways c ≡ ticked_by others c
chip_alike ways others c p q r =
    let cycle = next_cycle c in
    let clocked : Voice → Voice = λ v. clocked_voice_by ways v cycle in
    let v = voiced_by ways (clocked c.voice_0) (phase_of (clocked c.voice_2)) cycle in
    let w = voiced_by ways (clocked c.voice_1) (phase_of v) cycle in
    let x = voiced_by ways (clocked c.voice_2) (phase_of w) cycle in
    sym (chip_parts ways c _ cycle v w x refl refl refl refl refl _ _ _ refl refl refl)
    ∙ chip_parts others c _ cycle v w x refl refl
    (voice_alike c.voice_0 cycle _ p
    ∙ ap (λ (m : ℕ). voiced_by others (clocked_voice_by others c.voice_0 cycle) m cycle) (phase_alike ways others c.voice_2 cycle))
    (voice_alike c.voice_1 cycle _ q) (voice_alike c.voice_2 cycle _ r) _ _ _ refl refl refl

pub tick_bus : (ways : Ways) (c : Mos6581) → (ticked_by ways c).data_bus ≡ bus_clocked c.data_bus
unfolding ticked_by synchronised voiced0_by voiced1_by voiced2_by clocked_by
tick_bus ways c = refl

pub ticks_bus : (ways : Ways) (n : ℕ) (c : Mos6581) → (ticks_by ways n c).data_bus ≡ bus_clocks n c.data_bus
unfolding times
ticks_bus ways zero c = refl
ticks_bus ways (suc n) c = tick_bus ways (ticks_by ways n c) ∙ ap bus_clocked (ticks_bus ways n c)

-- ways that tick every chip alike do so any number of times
pub ticks_alike
    : (ways others : Ways) → ((c : Mos6581) → ticked_by ways c ≡ ticked_by others c) → (n : ℕ) (c : Mos6581) → ticks_by ways n c ≡ ticks_by others n c
unfolding times
ticks_alike ways others same zero c = refl
ticks_alike ways others same (suc n) c = same (ticks_by ways n c) ∙ ap (ticked_by others) (ticks_alike ways others same n c)

call_alike
    : (ways others : Ways) → ((c : Mos6581) → ticked_by ways c ≡ ticked_by others c) → (call : Call) (c : Mos6581) → called_by ways call c ≡ called_by others call c
unfolding called_by
call_alike ways others same (write address value) c = refl
call_alike ways others same (read address) c = refl
call_alike ways others same tick c = same c
call_alike ways others same clear c = refl
call_alike ways others same (set_pot_x value) c = refl
call_alike ways others same (set_pot_y value) c = refl

-- and so does any run of calls
pub after_alike
    : (ways others : Ways) → ((c : Mos6581) → ticked_by ways c ≡ ticked_by others c) → (calls : List Call) (c : Mos6581) → after_by ways calls c ≡ after_by others calls c
unfolding after_by
after_alike ways others same [] c = refl
after_alike ways others same (call ∷ calls) c =
    ap (after_by ways calls) (call_alike ways others same call c) ∙ after_alike ways others same calls (called_by others call c)
