-- One tick of a voice, and of the chip, by any ways that are `Still`, follows from what code over their parts knows of
-- it: what each call ensures, and by which way each branch came. Assumes nothing.
use mathlib.Core.Path.{◌≡◌, refl, ap, sym, ◌∙◌}
use mathlib.Core.Bool.{Bool, true, false, cond, not, ◌&&◌}
use mathlib.Core.List.{List}
use Prim.Native.Nat.{ℕ, ◌+◌, ◌≤◌}
use native.Mathlib.Numerals.{add-one}
use Rattle.laws.specs.Times.{times}
use Rattle.laws.specs.Cycle.{after as cycle_after}
use Rattle.laws.proofs.After.{After, taken, left, after_due}
use Rattle.laws.proofs.Loops.{ended}
use Rattle.bus.specs.Bus.{clocked as bus_clocked}
use Rattle.bus.specs.declared.InternalDataBus.{InternalDataBus}
use Rattle.bus.proofs.Clock.{clocked_empty}
use Rattle.envelope.specs.Envelope.{level_read, rate_clocked, quiescent, clocked as envelope_clocked}
use Rattle.envelope.specs.declared.Envelope.{Envelope}
use Rattle.envelope.proofs.Quiet.{quiet_clock}
use Rattle.noise.specs.Noise.{stepped_by, coupled_to, pulled_down}
use Rattle.noise.specs.Loop.{generator, step_due}
use Rattle.noise.specs.declared.Noise.{Noise}
use Rattle.noise.specs.declared.NoiseGenerator.{NoiseGenerator}
use Rattle.noise.proofs.Still.{step_still}
use Rattle.floating.specs.Loop.{lines}
use Rattle.floating.specs.declared.Floating.{Floating}
use Rattle.floating.specs.declared.FloatingBus.{FloatingBus}
use Rattle.oscillator.specs.Ways.{Ways}
use Rattle.oscillator.specs.Oscillator.{rising, clocked_tone, clocked_by as oscillator_clocked_by, compared_tone, fed_back_tone, latched_tone, reset_phase}
use Rattle.oscillator.specs.Oscillator.{loaded_code_by, loads_lines, code_by, sampled_bus_by, couples, pulls_down, coupled_noise, pulled_noise}
use Rattle.oscillator.specs.Loop.{sample_due, plain_code}
use Rattle.oscillator.specs.declared.Control.{Control}
use Rattle.oscillator.specs.declared.Tone.{Tone}
use Rattle.oscillator.proofs.Due.{Still, sample_due_lem, sample_still, couple_due, couple_still, pull_due, pull_still, code_loaded, code_plain}
use Rattle.sid.proofs.Ticks.{pack, whole, same_charge, voice_parts, sync_parts, chip_parts}
use Rattle.sid.specs.Sid.{clocked_voice_by, voiced_by, syncs, ticked_by, ticks_by}
use Rattle.sid.specs.declared.Voice.{Voice}
use Rattle.sid.specs.declared.Mos6581.{Mos6581}

-- a voice of the parts that a loop holds
abbrev pub parts : Control → Tone → Noise → List ℕ → List ℕ → Floating → List ℕ → Envelope → Voice
parts k t n held charge f wires e = pack k t (generator n held charge) (lines f wires) e

-- any voice, up to its latch
module _ {ways : Ways} (still : Still ways) (v : Voice) where
  abbrev k : Control
  k = v.oscillator.control

  abbrev t : Tone
  t = v.oscillator.tone

  abbrev g : NoiseGenerator
  g = v.oscillator.noise

  abbrev b : FloatingBus
  b = v.oscillator.bus

  pub turn
      : (modulator cycle : ℕ) {t1 t2 : Tone} {n1 n2 : Noise} {held1 held2 charge1 charge2 charge3 : List ℕ} {f1 : Floating} {wires1 : List ℕ}
      {e1 : Envelope} {up plain output : ℕ} {steps rests leaks loads feeds pulls : Bool}
      → t1 ≡ clocked_tone t k
      → up ≡ rising t.accumulator t1.accumulator
      → steps ≡ step_due g.numbers k.test_enabled up cycle
      → After steps (stepped_by ways.recover g k.test_enabled up cycle) g (generator n1 held1 charge1)
      → rests ≡ quiescent v.envelope
      → After rests (rate_clocked (level_read v.envelope)) (envelope_clocked v.envelope) e1
      → leaks ≡ sample_due k b.numbers cycle
      → After leaks (ways.leak b cycle) b (lines f1 wires1)
      → plain ≡ plain_code k t1 n1.visible f1.value modulator
      → loads ≡ loads_lines k
      → After loads (loaded_code_by ways.load k plain) plain output
      → t2 ≡ latched_tone (fed_back_tone (compared_tone t1 k) k output) output
      → feeds ≡ couples k
      → After feeds (coupled_to output charge1 8) charge1 charge2
      → pulls ≡ pulls_down k n1 cycle
      → After pulls (pulled_down (generator n1 held1 charge2) output cycle) (generator n1 held1 charge2) (generator n2 held2 charge3)
      → parts k t2 n2 held2 charge3 f1 wires1 e1 ≡ voiced_by ways (clocked_voice_by ways v cycle) modulator cycle
  turn modulator cycle {t1} {t2} {n1} {n2} {held1} {held2} {charge1} {charge2} {charge3} {f1} {wires1} {e1} {up} {plain} {output} {feeds = feeds}
      toned rose steps? stepped? rests? moved? leaks? sampled? plainly loads? loaded? sounded feeds? fed? pulls? pulled? =
      let e = v.envelope in
      let g1 : NoiseGenerator = generator n1 held1 charge1 in
      let g2 : NoiseGenerator = generator n1 held1 charge2 in
      let test = k.test_enabled in
      voice_parts ways k t g b e modulator cycle t1 g1 (lines f1 wires1) output t2 g2 (generator n2 held2 charge3) e1
      toned
      (after_due (stepped_by ways.recover g test up cycle) steps? stepped? (λ h. refl) (step_still still.recovers g test up cycle)
      ∙ ap (λ (x : ℕ). stepped_by ways.recover g test x cycle) rose)
      (after_due (sampled_bus_by ways b k cycle) leaks? sampled? (sample_due_lem ways k b cycle) (sample_still still k b cycle))
      (after_due (code_by ways k t1 n1.visible f1.value modulator) loads? loaded?
      (λ h. code_loaded ways k t1 n1.visible f1.value modulator h ∙ ap (loaded_code_by ways.load k) (sym plainly))
      (λ h. code_plain ways k t1 n1.visible f1.value modulator h ∙ sym plainly))
      sounded
      (coupled fed?)
      (after_due (pulled_noise g2 k output cycle) pulls? pulled? (pull_due g2 k output cycle) (pull_still g2 k output cycle))
      (after_due (envelope_clocked e) rests? moved? (quiet_clock e) (λ h. refl))
    where
      coupled : After feeds (coupled_to output charge1 8) charge1 charge2 → generator n1 held1 charge2 ≡ coupled_noise (generator n1 held1 charge1) k output
      coupled (taken h p) = same_charge p ∙ sym (couple_due n1 k output held1 charge1 (sym feeds? ∙ h))
      coupled (left h p) = same_charge p ∙ sym (couple_still (generator n1 held1 charge1) k output (sym feeds? ∙ h))

-- the byte of the bus, which a clock leaves alone where it is 0
pub data Fade (b b1 : InternalDataBus) : Type 0 where
  fades : b1 ≡ bus_clocked b → Fade b b1
  empty : b.value ≡ 0 → b1 ≡ b → Fade b b1

faded : {b b1 : InternalDataBus} → Fade b b1 → b1 ≡ bus_clocked b
faded (fades p) = p
faded {b} (empty h p) = p ∙ sym (clocked_empty b h)

-- synchronisation, which leaves the three voices alone where none has it on
abbrev synced : Tone → Control → Tone → Control → Tone → Tone
synced t k source source_control before =
    cond (syncs source.msb_rising k.sync_enabled source_control.sync_enabled before.msb_rising) (reset_phase t) t

pub data Sync (k0 k1 k2 : Control) (t0 t1 t2 u0 u1 u2 : Tone) : Type 0 where
  judged : u0 ≡ synced t0 k0 t2 k2 t1 → u1 ≡ synced t1 k1 t0 k0 t2 → u2 ≡ synced t2 k2 t1 k1 t0 → Sync k0 k1 k2 t0 t1 t2 u0 u1 u2
  off
      : k0.sync_enabled ≡ false → k1.sync_enabled ≡ false → k2.sync_enabled ≡ false
      → u0 ≡ t0 → u1 ≡ t1 → u2 ≡ t2 → Sync k0 k1 k2 t0 t1 t2 u0 u1 u2

sync_off : (t : Tone) (k : Control) (source : Tone) (source_control : Control) (before : Tone) → k.sync_enabled ≡ false → t ≡ synced t k source source_control before
unfolding syncs
sync_off t k source source_control before e = go source.msb_rising k.sync_enabled e
  where
    go : (rises sync : Bool) → sync ≡ false
        → t ≡ cond (rises && (sync && not (source_control.sync_enabled && before.msb_rising))) (reset_phase t) t
    go true sync e = rw e
    go false sync e = refl

judgement
    : {k0 k1 k2 : Control} {t0 t1 t2 u0 u1 u2 : Tone} → Sync k0 k1 k2 t0 t1 t2 u0 u1 u2
    → (u0 ≡ synced t0 k0 t2 k2 t1) × (u1 ≡ synced t1 k1 t0 k0 t2) × (u2 ≡ synced t2 k2 t1 k1 t0)
judgement (judged f g h) = (f, g, h)
judgement {k0} {k1} {k2} {t0} {t1} {t2} (off d0 d1 d2 f g h) =
    (f ∙ sync_off t0 k0 t2 k2 t1 d0, g ∙ sync_off t1 k1 t0 k0 t2 d1, h ∙ sync_off t2 k2 t1 k1 t0 d2)

-- the chip: the bus, the cycle, each voice's turn, and synchronisation
pub round
    : (ways : Ways) (cycle : ℕ) (v0 v1 v2 : Voice) {b b1 : InternalDataBus} {x y next : ℕ} {k0 k1 k2 : Control} {t0 t1 t2 u0 u1 u2 s : Tone}
    {g0 g1 g2 : NoiseGenerator} {l0 l1 l2 : FloatingBus} {e0 e1 e2 : Envelope}
    → Fade b b1
    → next ≡ cycle_after cycle 1
    → pack k0 t0 g0 l0 e0 ≡ voiced_by ways (clocked_voice_by ways v0 next) s.accumulator next
    → pack k1 t1 g1 l1 e1 ≡ voiced_by ways (clocked_voice_by ways v1 next) t0.accumulator next
    → pack k2 t2 g2 l2 e2 ≡ voiced_by ways (clocked_voice_by ways v2 next) t1.accumulator next
    → s ≡ clocked_tone v2.oscillator.tone v2.oscillator.control
    → Sync k0 k1 k2 t0 t1 t2 u0 u1 u2
    → whole b1 x y next (pack k0 u0 g0 l0 e0) (pack k1 u1 g1 l1 e1) (pack k2 u2 g2 l2 e2) ≡ ticked_by ways (whole b x y cycle v0 v1 v2)
unfolding clocked_voice_by oscillator_clocked_by
round ways cycle v0 v1 v2 {b} {b1} {x} {y} {next} {k0} {k1} {k2} {t0} {t1} {t2} {u0} {u1} {u2} {s} {g0} {g1} {g2} {l0} {l1} {l2} {e0} {e1} {e2} o n p q r m f =
    let j = judgement f in
    chip_parts ways (whole b x y cycle v0 v1 v2) b1 next (pack k0 t0 g0 l0 e0) (pack k1 t1 g1 l1 e1) (pack k2 t2 g2 l2 e2)
    (faded o) n (p ∙ ap (λ (z : Tone). voiced_by ways (clocked_voice_by ways v0 next) z.accumulator next) m) q r _ _ _
    (sync_parts k0 t0 g0 l0 e0 _ u0 j.0) (sync_parts k1 t1 g1 l1 e1 _ u1 j.1) (sync_parts k2 t2 g2 l2 e2 _ u2 j.2)

-- a turn of the loop, and its end
pub turned : (ways : Ways) (c : Mos6581) (i : ℕ) {a b : Mos6581} → a ≡ ticked_by ways b → b ≡ ticks_by ways i c → a ≡ ticks_by ways (i + 1) c
unfolding times
turned ways c i p q = rw add-one (p ∙ ap (ticked_by ways) q)

pub ran : (ways : Ways) (c : Mos6581) {a : Mos6581} {i n : ℕ} → i ≤ n → n ≤ i → a ≡ ticks_by ways i c → a ≡ ticks_by ways n c
ran ways c {a} {i} {n} h k p = ended (λ j. ticks_by ways j c) a i n h k p
