-- What a control register decides, worked out once, is what the oscillator's rules ask the register on every clock; and
-- one waveform, or none, loads no lines, feeds nothing back and leaves the noise register alone. Assumes nothing.
use mathlib.Core.Path.{◌≡◌, refl, ap, sym, ◌∙◌}
use mathlib.Core.Bool.{Bool, true, false, cond, not, ◌&&◌, ◌||◌, true≢false}
use mathlib.Core.List.{List}
use Prim.Native.Nat.{ℕ, ◌+◌, ◌/◌, ◌%◌, ◌^◌, ◌≤◌}
use native.Mathlib.Nat.{le_refl, le_trans}
use native.Mathlib.Omega.{arith}
use borrow.Author.Tests.{not-true}
use lib.Bits.{bit_and, bit_or, bit_xor, or_zero_r, or_add_and, or_mod, and_mod, and_mask, and_le_l}
use lib.Dec.{eqb, T}
use Rattle.laws.proofs.Bools.{and_left, and_right}
use Rattle.laws.proofs.Table.{all, all_at}
use Rattle.waveforms.specs.Waveforms.{triangle, needs_loading, drivers}
use Rattle.noise.specs.declared.Noise.{Noise}
use Rattle.oscillator.specs.Selection.{is_off, has, is_combined, joined, combined}
use Rattle.oscillator.specs.Oscillator.{selected, phase, rings, triangle_phase, pulse, ideal, loads_lines, loaded_code_by, feeds_back, fed_back_tone, couples, noise_is_driven, pulls_down}
use Rattle.oscillator.specs.Loop.{plain_code}
use Rattle.oscillator.specs.declared.Control.{Control}
use Rattle.oscillator.specs.declared.Tone.{Tone}
use Rattle.oscillator.proofs.Due.{joined_le, ideal_small}
use Rattle.pack.specs.Pack.{entry_at, loaded_over}
use Rattle.wiring.specs.Wiring.{high, wired, joined_at, code_of, loaded_of, fed_back_of, pulls_down_of}

-- ---- a waveform with all lines high pulls none of twelve down

full : (wave : ℕ) → bit_or wave 0xfff % 4096 ≡ 0xfff
full wave =
    let cut : bit_or wave 0xfff % 4096 ≡ bit_or (wave % 4096) 0xfff = or_mod wave 0xfff 12 in
    let sum : bit_or (wave % 4096) 0xfff + bit_and (wave % 4096) 0xfff ≡ wave % 4096 + 0xfff = or_add_and (wave % 4096) 0xfff in
    let low : bit_and (wave % 4096) 0xfff ≡ wave % 4096 % 4096 = and_mask (wave % 4096) 12 in
    omega (arith, cut, sum, low)

whole : (lines : ℕ) → lines ≤ 0xfff → bit_and lines 0xfff ≡ lines
whole lines h =
    let low : bit_and lines 0xfff ≡ lines % 4096 = and_mask lines 12 in
    omega (arith, low, h)

kept : (lines wave : ℕ) → lines ≤ 0xfff → bit_and lines (bit_or wave 0xfff) ≡ lines
kept lines wave h =
    let below : bit_and lines (bit_or wave 0xfff) ≤ lines = and_le_l lines (bit_or wave 0xfff) in
    let cut : bit_and lines (bit_or wave 0xfff) % 4096 ≡ bit_and (lines % 4096) (bit_or wave 0xfff % 4096) = and_mod lines (bit_or wave 0xfff) 12 in
    let same : bit_and (lines % 4096) (bit_or wave 0xfff % 4096) ≡ bit_and (lines % 4096) 0xfff = ap (bit_and (lines % 4096)) (full wave) in
    let low : bit_and (lines % 4096) 0xfff ≡ lines % 4096 = whole (lines % 4096) (omega arith) in
    omega (arith, below, cut, same, low, h)

masked : (chosen : Bool) (lines wave : ℕ) → lines ≤ 0xfff → bit_and lines (bit_or wave (high chosen)) ≡ cond chosen (bit_and lines wave) lines
masked true lines wave h = ap (bit_and lines) (or_zero_r wave)
masked false lines wave h = kept lines wave h

pulsed
    : (test chosen : Bool) (lines output : ℕ) → lines ≤ 0xfff
    → bit_and lines (bit_or output (cond test 0xfff (high chosen))) ≡ cond chosen (bit_and lines (cond test 0xfff output)) lines
pulsed true true lines output h = kept lines output h ∙ sym (whole lines h)
pulsed true false lines output h = kept lines output h
pulsed false chosen lines output h = masked chosen lines output h

regroup : (ring saw tri low : Bool) → ((ring && (not saw && tri)) && low) ≡ (ring && (tri && (not saw && low)))
regroup true true true low = refl
regroup true true false low = refl
regroup true false true low = refl
regroup true false false low = refl
regroup false saw tri low = refl

assoc : (a b c : Bool) → ((a && b) && c) ≡ (a && (b && c))
assoc true b c = refl
assoc false b c = refl

-- ---- what the loop would have asked

module _ (k : Control) where
  -- the selected waveforms joined, as the rule joins them
  abbrev joins : ℕ → Tone → ℕ → ℕ
  joins tri t visible =
      joined (selected k) 8 visible (joined (selected k) 4 (pulse k t) (joined (selected k) 2 (phase t) (joined (selected k) 1 tri 0xfff)))

  joined_wired : (p : ℕ) (t : Tone) (visible : ℕ) → joined_at (wired k) p t visible ≡ joins (triangle p) t visible
  unfolding joined_at wired
  joined_wired p t visible =
      let s = selected k in
      let l1 = joined s 1 (triangle p) 0xfff in
      let l2 = joined s 2 (phase t) l1 in
      let l3 = joined s 4 (pulse k t) l2 in
      let h1 : l1 ≤ 0xfff = joined_le s 1 (triangle p) 0xfff in
      let h2 : l2 ≤ 0xfff = le_trans (joined_le s 2 (phase t) l1) h1 in
      let h3 : l3 ≤ 0xfff = le_trans (joined_le s 4 (pulse k t) l2) h2 in
      let saw = bit_or (phase t) (high (has s 2)) in
      let pulses = bit_or t.pulse_output (cond k.test_enabled 0xfff (high (has s 4))) in
      let noise = bit_or visible (high (has s 8)) in
      ap (λ (x : ℕ). bit_and (bit_and (bit_and x saw) pulses) noise) (masked (has s 1) 0xfff (triangle p) (le_refl 0xfff))
      ∙ (ap (λ (x : ℕ). bit_and (bit_and x pulses) noise) (masked (has s 2) l1 (phase t) h1)
      ∙ (ap (λ (x : ℕ). bit_and x noise) (pulsed k.test_enabled (has s 4) l2 t.pulse_output h2) ∙ masked (has s 8) l3 visible h3))

  ideal_joined
      : is_off (selected k) ≡ false → (t : Tone) (visible m : ℕ) → ideal k t visible m ≡ joins (triangle (triangle_phase k (phase t) m)) t visible
  unfolding ideal combined
  ideal_joined off t visible m = rw off refl

  plain_joined
      : is_off (selected k) ≡ false → (t : Tone) (visible floats m : ℕ)
      → plain_code k t visible floats m ≡ joins (triangle (triangle_phase k (phase t) m)) t visible
  unfolding plain_code
  plain_joined off t visible floats m = rw off (ideal_small k t visible m off ∙ ideal_joined off t visible m)

  -- the code of a voice with a waveform, whatever floats
  pub code_wired : is_off (selected k) ≡ false → (t : Tone) (visible floats m : ℕ) → code_of (wired k) t visible m ≡ plain_code k t visible floats m
  unfolding code_of wired triangle_phase rings
  code_wired off t visible floats m =
      let s = selected k in
      let low = eqb (m / 2 ^ 23 % 2) 0 in
      let ring = k.ring_enabled in
      joined_wired (cond ((ring && (not (has s 2) && has s 1)) && low) (bit_xor (phase t) 0x800) (phase t)) t visible
      ∙ (ap (λ (b : Bool). joins (triangle (cond b (bit_xor (phase t) 0x800) (phase t))) t visible) (regroup ring (has s 2) (has s 1) low)
      ∙ sym (plain_joined off t visible floats m))

  pub loaded_wired
      : (pack : List ℕ) (code : ℕ) → loaded_of (wired k) pack code ≡ cond (loads_lines k) (loaded_code_by (loaded_over pack) k code) code
  unfolding loaded_of wired loaded_code_by loaded_over entry_at
  loaded_wired pack code = refl

  pub fed_back_wired : (t : Tone) (code : ℕ) → fed_back_of (wired k) t code ≡ fed_back_tone t k code
  unfolding fed_back_of wired fed_back_tone feeds_back
  fed_back_wired t code = rw (assoc (has (selected k) 2) (is_combined (selected k)) (eqb (code / 2 ^ 11 % 2) 0)) refl

  pub pulls_down_wired : (n : Noise) (cycle : ℕ) → pulls_down_of (wired k) n cycle ≡ pulls_down k n cycle
  unfolding pulls_down_of wired pulls_down
  pulls_down_wired n cycle = refl

-- ---- one waveform, or none

-- of the sixteen selections, those of fewer than two waveforms neither couple nor drive, which is computed for each
abbrev spares : ℕ → Bool
spares s =
    needs_loading s
    || (not (eqb (bit_and s 0xc) 0xc && not (eqb (bit_and s 3) 0)) && not (not (eqb (bit_and s 8) 0) && not (eqb (bit_and s 7) 0)))

other : (a b : Bool) → T (a || b) → a ≡ false → b ≡ true
other true b t e = absurd (true≢false e)
other false true t e = refl
other false false t e = absurd t

and_false : (a b : Bool) → b ≡ false → (a && b) ≡ false
and_false true b e = e
and_false false b e = refl

pub record Alone (k : Control) : Type 0 where
  pub unloaded : loads_lines k ≡ false
  pub unfed : (t : Tone) (code : ℕ) → fed_back_tone t k code ≡ t
  pub uncoupled : couples k ≡ false
  pub undriven : (n : Noise) (cycle : ℕ) → pulls_down k n cycle ≡ false

pub alone : (k : Control) → is_combined (selected k) ≡ false → Alone k
unfolding loads_lines needs_loading drivers fed_back_tone feeds_back couples pulls_down noise_is_driven all
alone k e =
    let s = selected k in
    let raw = s.raw in
    let uncouples = eqb (bit_and raw 0xc) 0xc && has s 3 in
    let undrives = has s 8 && has s 7 in
    let spared = other (needs_loading raw) (not uncouples && not undrives) (all_at spares 16 tt raw (omega arith)) e in
    let unjoined = not-true undrives (and_right (not uncouples) (not undrives) spared) in
    record {
      unloaded = and_false (not (eqb raw 9)) (is_combined s) e;
      unfed = λ t code. rw (and_false (has s 2) (is_combined s && eqb (code / 2 ^ 11 % 2) 0) (rw e refl)) refl;
      uncoupled = and_false k.test_enabled uncouples (not-true uncouples (and_left (not uncouples) (not undrives) spared));
      undriven = λ n cycle. rw (sym (assoc (has s 8) (has s 7) (not k.test_enabled)) ∙ ap (λ (b : Bool). b && not k.test_enabled) unjoined) refl;
    }
