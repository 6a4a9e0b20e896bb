-- A voice's turn, where a loop asks the voice's wiring and not its control register, is the turn of the rules, over a
-- pack of any length. Assumes nothing.
use mathlib.Core.Path.{◌≡◌, refl, ap, sym, subst, ◌∙◌}
use mathlib.Core.Bool.{Bool, true, false, ◌&&◌}
use mathlib.Core.List.{List}
use Prim.Native.Nat.{ℕ, ◌%◌}
use borrow.Author.Tests.{eqb-true}
use lib.Dec.{ltb}
use Rattle.laws.proofs.After.{After, left, after_cond}
use Rattle.waveforms.specs.Waveforms.{drivers}
use Rattle.envelope.specs.Envelope.{level_read, rate_clocked, quiescent, clocked as envelope_clocked}
use Rattle.envelope.specs.declared.Envelope.{Envelope}
use Rattle.noise.specs.Noise.{stepped_by, relaxed_once, coupled_to, pulled_down}
use Rattle.noise.specs.Loop.{generator, step_due}
use Rattle.noise.specs.declared.Noise.{Noise}
use Rattle.floating.specs.Floating.{leaks, sampled_once}
use Rattle.floating.specs.Loop.{lines}
use Rattle.floating.specs.declared.Floating.{Floating}
use Rattle.oscillator.specs.Selection.{is_off}
use Rattle.oscillator.specs.Oscillator.{selected, rising, clocked_tone, compared_tone, fed_back_tone, latched_tone, loads_lines}
use Rattle.oscillator.specs.Loop.{sample_due, plain_code}
use Rattle.oscillator.specs.declared.Control.{Control}
use Rattle.oscillator.specs.declared.Tone.{Tone}
use Rattle.oscillator.proofs.Due.{Still, loading_still}
use Rattle.sid.specs.Sid.{clocked_voice_by, voiced_by}
use Rattle.sid.specs.declared.Voice.{Voice}
use Rattle.sid.proofs.Turn.{parts, turn}
use Rattle.pack.specs.Pack.{loaded_over, over}
use Rattle.wiring.specs.Wiring.{wired, code_of, loaded_of, fed_back_of, pulls_down_of}
use Rattle.wiring.specs.declared.Wiring.{Wiring}
use Rattle.wiring.proofs.Wired.{code_wired, loaded_wired, fed_back_wired, pulls_down_wired, Alone, alone}

-- nothing is selected
pub off_alone : (k : Control) → is_off (selected k) ≡ true → Alone k
unfolding drivers
off_alone k off = alone k (ap (λ (r : ℕ). ltb 1 (drivers r)) (eqb-true (selected k).raw 0 off))

-- from a code to its latch: what two waveforms or more do with it, or nothing
pub data Joins
    (w : Wiring) (pack : List ℕ) (cycle code : ℕ) (t : Tone) (n : Noise) (held charge : List ℕ)
    (output : ℕ) (t1 : Tone) (n1 : Noise) (held1 charge1 : List ℕ) : Type 0 where
  combined
      : {loaded : ℕ} {charge2 : List ℕ} {pulls : Bool}
      → w.combined ≡ true
      → loaded ≡ loaded_of w pack code
      → output ≡ loaded
      → t1 ≡ fed_back_of w t loaded
      → After w.couples (coupled_to loaded charge 8) charge charge2
      → pulls ≡ pulls_down_of w n cycle
      → After pulls (pulled_down (generator n held charge2) loaded cycle) (generator n held charge2) (generator n1 held1 charge1)
      → Joins w pack cycle code t n held charge output t1 n1 held1 charge1
  single
      : w.combined ≡ false
      → output ≡ code
      → t1 ≡ t
      → generator n1 held1 charge1 ≡ generator n held charge
      → Joins w pack cycle code t n held charge output t1 n1 held1 charge1

-- from the clock of the phase to the latch: what floats, or the waveforms
pub data Sounds
    (w : Wiring) (pack : List ℕ) (k : Control) (modulator cycle : ℕ)
    (t : Tone) (n : Noise) (held charge : List ℕ) (f : Floating) (wires : List ℕ)
    (t1 : Tone) (n1 : Noise) (held1 charge1 : List ℕ) (f1 : Floating) (wires1 : List ℕ) : Type 0 where
  floats
      : {due : Bool} {compared : Tone}
      → w.off ≡ true
      → due ≡ leaks f cycle
      → After due (sampled_once (lines f wires) cycle) (lines f wires) (lines f1 wires1)
      → compared ≡ compared_tone t k
      → t1 ≡ latched_tone compared (f1.value % 4096)
      → generator n1 held1 charge1 ≡ generator n held charge
      → Sounds w pack k modulator cycle t n held charge f wires t1 n1 held1 charge1 f1 wires1
  waves
      : {code output : ℕ} {compared joined : Tone}
      → w.off ≡ false
      → code ≡ code_of w t n.visible modulator
      → compared ≡ compared_tone t k
      → Joins w pack cycle code compared n held charge output joined n1 held1 charge1
      → t1 ≡ latched_tone joined output
      → lines f1 wires1 ≡ lines f wires
      → Sounds w pack k modulator cycle t n held charge f wires t1 n1 held1 charge1 f1 wires1

sample_off : (k : Control) (f : Floating) (cycle : ℕ) → is_off (selected k) ≡ true → sample_due k f cycle ≡ leaks f cycle
unfolding sample_due
sample_off k f cycle off = ap (λ (b : Bool). b && leaks f cycle) off

sample_on : (k : Control) (f : Floating) (cycle : ℕ) → is_off (selected k) ≡ false → sample_due k f cycle ≡ false
unfolding sample_due
sample_on k f cycle on = ap (λ (b : Bool). b && leaks f cycle) on

plain_off : (k : Control) (t : Tone) (visible afloat m : ℕ) → is_off (selected k) ≡ true → afloat % 4096 ≡ plain_code k t visible afloat m
unfolding plain_code
plain_off k t visible afloat m off = rw off refl

module _ (pack : List ℕ) (v : Voice) where
  abbrev k : Control
  k = v.oscillator.control

  abbrev still : Still (over pack)
  still = loading_still (loaded_over pack)

  pub wired_turn
      : (modulator cycle : ℕ) {w : Wiring} {t1 t2 : Tone} {n1 n2 : Noise} {held1 held2 charge1 charge2 : List ℕ} {f1 : Floating} {wires1 : List ℕ}
      {e1 : Envelope} {up : ℕ} {steps rests : Bool}
      → w ≡ wired k
      → t1 ≡ clocked_tone v.oscillator.tone k
      → up ≡ rising v.oscillator.tone.accumulator t1.accumulator
      → steps ≡ step_due v.oscillator.noise.numbers k.test_enabled up cycle
      → After steps (stepped_by relaxed_once v.oscillator.noise k.test_enabled up cycle) v.oscillator.noise (generator n1 held1 charge1)
      → rests ≡ quiescent v.envelope
      → After rests (rate_clocked (level_read v.envelope)) (envelope_clocked v.envelope) e1
      → Sounds w pack k modulator cycle t1 n1 held1 charge1 v.oscillator.bus.numbers v.oscillator.bus.charge t2 n2 held2 charge2 f1 wires1
      → parts k t2 n2 held2 charge2 f1 wires1 e1 ≡ voiced_by (over pack) (clocked_voice_by (over pack) v cycle) modulator cycle
  unfolding wired
  wired_turn modulator cycle {w} {t1} {t2} {n1} {n2} {held1} {held2} {charge1} {charge2} {f1} {wires1} {e1} e toned rose steps? stepped? rests? moved? sounds =
      go (subst (λ (x : Wiring). Sounds x pack k modulator cycle t1 n1 held1 charge1 v.oscillator.bus.numbers v.oscillator.bus.charge t2 n2 held2 charge2 f1 wires1) e sounds)
    where
      go : Sounds (wired k) pack k modulator cycle t1 n1 held1 charge1 v.oscillator.bus.numbers v.oscillator.bus.charge t2 n2 held2 charge2 f1 wires1
          → parts k t2 n2 held2 charge2 f1 wires1 e1 ≡ voiced_by (over pack) (clocked_voice_by (over pack) v cycle) modulator cycle
      go (floats off due sampled compared latched noise) =
          let a = off_alone k off in
          let output = f1.value % 4096 in
          turn still v modulator cycle toned rose steps? stepped? rests? moved?
          (due ∙ sym (sample_off k v.oscillator.bus.numbers cycle off)) sampled
          (plain_off k t1 n1.visible f1.value modulator off)
          refl (left a.unloaded refl)
          (latched ∙ ap (λ (x : Tone). latched_tone x output) (compared ∙ sym (a.unfed (compared_tone t1 k) output)))
          refl (left a.uncoupled refl)
          refl (left (a.undriven n1 cycle) noise)
      go (waves {output = output} on code compared (single apart same kept noise) latched dry) =
          let a = alone k apart in
          turn still v modulator cycle toned rose steps? stepped? rests? moved?
          refl (left (sample_on k v.oscillator.bus.numbers cycle on) dry)
          (code ∙ code_wired k on t1 n1.visible f1.value modulator)
          refl (left a.unloaded same)
          (latched ∙ ap (λ (x : Tone). latched_tone x output) (kept ∙ (compared ∙ sym (a.unfed (compared_tone t1 k) output))))
          refl (left a.uncoupled refl)
          refl (left (a.undriven n1 cycle) noise)
      go (waves {code = plain} {compared = tone} {joined = joined} on code compared (combined {loaded = output} both loaded same fed coupled pulls? pulled) latched dry) =
          turn still v modulator cycle toned rose steps? stepped? rests? moved?
          refl (left (sample_on k v.oscillator.bus.numbers cycle on) dry)
          (code ∙ code_wired k on t1 n1.visible f1.value modulator)
          refl (after_cond (loads_lines k) (loaded ∙ loaded_wired k pack plain))
          (latched ∙ (ap (latched_tone joined) same
          ∙ ap (λ (x : Tone). latched_tone x output) (fed ∙ (fed_back_wired k tone output ∙ ap (λ (x : Tone). fed_back_tone x k output) compared))))
          refl coupled
          (pulls? ∙ pulls_down_wired k n1 cycle) pulled
