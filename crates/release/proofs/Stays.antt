-- A level that is held, and one that has fallen to the sustain level, stay on every clock, whatever the counters do;
-- what is held is 0. Assumes nothing.
use Prim.Native.Nat.{ℕ, zero, suc, ◌-◌}
use mathlib.Core.Path.{◌≡◌, sym, ◌∙◌, subst}
use Rattle.std.proofs.Common.{Option, Some, None}
use mathlib.Core.Bool.{Bool, true, false, cond, false≢true}
use borrow.Author.Tests.{eq-eqb, eqb-true}
use lib.Dec.{eqb}
use Rattle.laws.specs.Times.{times}
use Rattle.laws.proofs.Cond.{by_test, either}
use Rattle.envelope.specs.declared.Envelope.{Envelope}
use Rattle.envelope.specs.declared.EnvelopeMotion.{EnvelopeMotion}
use Rattle.envelope.specs.declared.EnvelopeMotion.TheVariants.{Rising, FallingToSustain, FallingToZero}
use Rattle.envelope.specs.declared.GateHistory.{GateHistory}
use Rattle.envelope.specs.Envelope.{rising_rate_selected, target_refreshed, level_read, divisor_committed, requested_on, gate_sampled, motion_taken, motion_committed, divisor_selected, top_reached, up, stepped_up, bottom_reached, down, stepped_down, stepped, amplitude_due, amplitude_clocked, change_due, curve_ended, curve_due, curve_clocked, curve_counted, match_used, match_consumed, rate_clocked, clocked, clocks}
use Rattle.envelope.proofs.Quiet.{gate_still, motion_still}
use Rattle.release.specs.Release.{At}

-- a claim R of the fields that the counters do not touch is kept by them
module _ (R : ℕ → Bool → GateHistory → EnvelopeMotion → EnvelopeMotion → ℕ → ℕ → Type 0) where
  abbrev pub Of : Envelope → Type 0
  Of e = R e.volume e.floor_hold e.gate e.motion e.requested_motion e.motion_delay e.hold_level

  taken : (b : Bool) (x y : Envelope) → b ≡ true → Of x → Of (cond b x y)
  taken b x y h a = by_test Of b x y (λ _. a) (λ f. absurd (false≢true (sym f ∙ h)))

  pub divisor_keeps : (e : Envelope) → Of e → Of (divisor_committed e)
  unfolding divisor_committed
  divisor_keeps e a = either Of (eqb e.queued_curve_divisor 0) _ _ a a

  curve_keeps : (e : Envelope) → Of e → Of (curve_clocked e)
  unfolding curve_clocked curve_due curve_ended
  curve_keeps e a =
      either Of (eqb e.curve_delay 0) _ _ a
      (either Of (eqb (e.curve_delay - 1) 0) _ _ (either Of (change_due e.motion (eqb e.volume e.hold_level)) _ _ a a) a)

  counted_keeps : (e : Envelope) → Of e → Of (curve_counted e)
  unfolding curve_counted
  counted_keeps e a = either Of (eqb e.curve_count e.curve_divisor) _ _ a a

  used_keeps : (e : Envelope) → Of e → Of (match_used e)
  unfolding match_used
  used_keeps e a = either Of (rising_rate_selected e) _ _ a (either Of e.floor_hold _ _ a (counted_keeps _ a))

  match_keeps : (e : Envelope) → Of e → Of (match_consumed e)
  unfolding match_consumed
  match_keeps e a = either Of e.matched_rate _ _ (used_keeps _ a) a

  rate_keeps : (e : Envelope) → Of e → Of (rate_clocked e)
  unfolding rate_clocked
  rate_keeps e a = either Of (eqb e.rate_phase e.rate_target_phase) _ _ a a

  pub counters_keep : (e : Envelope) → Of e → Of (rate_clocked (match_consumed (curve_clocked e)))
  counters_keep e a = rate_keeps _ (match_keeps _ (curve_keeps e a))

  -- a level delay keeps it, if one that ends does
  pub level_keeps : ((e : Envelope) → Of e → Of (amplitude_due e)) → (e : Envelope) → Of e → Of (amplitude_clocked e)
  unfolding amplitude_clocked
  level_keeps level e a = either Of (eqb e.amplitude_delay 0) _ _ a (level _ a)

  -- so it stays, if gate, motion and a level delay that ends keep it
  module _
      (gate : (e : Envelope) → Of e → Of (gate_sampled e))
      (motion : (e : Envelope) → Of e → Of (motion_committed e))
      (level : (e : Envelope) → Of e → Of (amplitude_due e)) where
    clock_keeps : (e : Envelope) → Of e → Of (clocked e)
    unfolding clocked
    clock_keeps e a = counters_keep _ (level_keeps level _ (motion _ (gate _ (divisor_keeps (level_read e) a))))

    stays : (n : ℕ) (e : Envelope) → Of e → Of (clocks n e)
    unfolding times
    stays zero e a = a
    stays (suc n) e a = clock_keeps (clocks n e) (stays n e a)

-- ---- a claim of level and hold alone is kept by gate and motion too

module _ (S : ℕ → Bool → Type 0) where
  abbrev Level : ℕ → Bool → GateHistory → EnvelopeMotion → EnvelopeMotion → ℕ → ℕ → Type 0
  Level x h _ _ _ _ _ = S x h

  edge_keeps : (g : Option Bool) (e : Envelope) → Of Level e → Of Level (requested_on g e)
  unfolding requested_on
  edge_keeps (Some true) e a = a
  edge_keeps (Some false) e a = a
  edge_keeps None e a = a

  gate_keeps : (e : Envelope) → Of Level e → Of Level (gate_sampled e)
  unfolding gate_sampled
  gate_keeps e a = edge_keeps _ _ a

  motion_keeps : (e : Envelope) → Of Level e → Of Level (motion_committed e)
  unfolding motion_committed target_refreshed motion_taken
  motion_keeps e a = either (Of Level) (eqb e.motion_delay 0) _ _ a (either (Of Level) (eqb (e.motion_delay - 1) 0) _ _ a a)

-- held at level v
module _ (v : ℕ) where
  abbrev Held : ℕ → Bool → Type 0
  Held x h = (x ≡ v) × (h ≡ true)

  held_level : (e : Envelope) → Of (Level Held) e → Of (Level Held) (amplitude_due e)
  unfolding amplitude_due
  held_level e a = either (Of (Level Held)) (eqb e.amplitude_delay 0) _ _ (taken (Level Held) e.floor_hold _ _ a.1 a) a

  pub held_stays : (n : ℕ) (e : Envelope) → At v true e → At v true (clocks n e)
  held_stays = stays (Level Held) (gate_keeps Held) (motion_keeps Held) held_level

-- 'Falling to 0 holds the level', and nothing else on a clock does: what is held is 0
abbrev Zero : ℕ → Bool → Type 0
Zero x h = h ≡ true → x ≡ 0

-- a level that isn't held steps, and only a fall to 0 holds it
zero_down : (e : Envelope) → e.floor_hold ≡ false → Of (Level Zero) (stepped_down e)
unfolding stepped_down divisor_selected bottom_reached
zero_down e f = by_test (Of (Level Zero)) (eqb (down e.volume) 0) _ _ (λ z _. eqb-true _ _ z) (λ _ h. absurd (false≢true (sym f ∙ h)))

zero_step : (m : EnvelopeMotion) (e : Envelope) → e.floor_hold ≡ false → Of (Level Zero) (stepped m e)
unfolding stepped stepped_up divisor_selected top_reached
zero_step Rising e f =
    either (Of (Level Zero)) (eqb (up e.volume) 0xff) _ _ (λ h. absurd (false≢true (sym f ∙ h))) (λ h. absurd (false≢true (sym f ∙ h)))
zero_step FallingToSustain e f = either (Of (Level Zero)) (eqb e.volume e.hold_level) _ _ (λ h. absurd (false≢true (sym f ∙ h))) (zero_down e f)
zero_step FallingToZero e f = zero_down e f

zero_level : (e : Envelope) → Of (Level Zero) e → Of (Level Zero) (amplitude_due e)
unfolding amplitude_due
zero_level e a =
    either (Of (Level Zero)) (eqb e.amplitude_delay 0) _ _
    (by_test (Of (Level Zero)) e.floor_hold _ _ (λ _. a) (λ f. zero_step e.motion e f)) a

pub held_is_zero : (e : Envelope) → (e.floor_hold ≡ true → e.volume ≡ 0) → (clocked e).floor_hold ≡ true → (clocked e).volume ≡ 0
held_is_zero = clock_keeps (Level Zero) (gate_keeps Zero) (motion_keeps Zero) zero_level

-- ---- fallen to the sustain level v

module _ (v : ℕ) where
  abbrev pub Sustained : ℕ → Bool → GateHistory → EnvelopeMotion → EnvelopeMotion → ℕ → ℕ → Type 0
  Sustained x _ g m _ d l = (x ≡ v) × (l ≡ v) × (g.input ≡ g.stage_a) × (g.stage_a ≡ g.stage_b) × (m ≡ FallingToSustain) × (d ≡ 0)

  sustained_step : (e : Envelope) → Of Sustained e → Of Sustained (stepped FallingToSustain e)
  unfolding stepped
  sustained_step e a = taken Sustained (eqb e.volume e.hold_level) _ _ (eq-eqb _ _ (a.0 ∙ sym a.1)) a

  pub sustained_level : (e : Envelope) → Of Sustained e → Of Sustained (amplitude_due e)
  unfolding amplitude_due
  sustained_level e a =
      let s = subst (λ (m : EnvelopeMotion). Of Sustained (stepped m e)) (sym a.4) (sustained_step e a) in
      either (Of Sustained) (eqb e.amplitude_delay 0) _ _ (either (Of Sustained) e.floor_hold _ _ a s) a

  pub sustain_stays : (n : ℕ) (e : Envelope) → Of Sustained e → Of Sustained (clocks n e)
  sustain_stays =
      stays Sustained (λ e a. subst (Of Sustained) (sym (gate_still e a.2 a.3)) a)
      (λ e a. subst (Of Sustained) (sym (motion_still e a.5)) a) sustained_level
