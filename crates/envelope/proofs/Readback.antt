-- 'the readback takes the old level', and no other part of a clock touches it. Assumes nothing.
use Rattle.std.proofs.Common.{◌≡◌, ℕ, ◌-◌, Bool, true, false, Option, Some, None, eqb, refl}
use Rattle.laws.proofs.Cond.{by_test}
use Rattle.envelope.specs.Envelope.{rising_rate_selected, target_refreshed, level_read, divisor_committed, edge, requested_on, gate_sampled, motion_taken, motion_committed, divisor_selected, top_reached, up, stepped_up, bottom_reached, down, stepped_down, stepped, amplitude_due, amplitude_clocked, change_due, curve_ended, curve_due, curve_clocked, curve_counted, match_used, match_consumed, rate_clocked, clocked}
use Rattle.envelope.specs.declared.Envelope.{Envelope}
use Rattle.envelope.specs.declared.EnvelopeMotion.{EnvelopeMotion}
use Rattle.envelope.specs.declared.EnvelopeMotion.TheVariants.{Rising, FallingToSustain, FallingToZero}

module _ (r : ℕ) where
  abbrev Reads : Envelope → Type 0
  Reads e = e.readback ≡ r

  divisor_reads : (e : Envelope) → Reads e → Reads (divisor_committed e)
  unfolding divisor_committed
  divisor_reads e h = by_test Reads (eqb e.queued_curve_divisor 0) _ _ (λ _. h) (λ _. h)

  edge_reads : (g : Option Bool) (e : Envelope) → Reads e → Reads (requested_on g e)
  unfolding requested_on
  edge_reads (Some true) e h = h
  edge_reads (Some false) e h = h
  edge_reads None e h = h

  gate_reads : (e : Envelope) → Reads e → Reads (gate_sampled e)
  unfolding gate_sampled
  gate_reads e h = edge_reads (edge e.gate) _ h

  motion_reads : (e : Envelope) → Reads e → Reads (motion_committed e)
  unfolding motion_committed motion_taken target_refreshed
  motion_reads e h =
      by_test Reads (eqb e.motion_delay 0) _ _ (λ _. h) (λ _. by_test Reads (eqb (e.motion_delay - 1) 0) _ _ (λ _. h) (λ _. h))

  up_reads : (e : Envelope) → Reads e → Reads (stepped_up e)
  unfolding stepped_up divisor_selected top_reached
  up_reads e h = by_test Reads (eqb (up e.volume) 0xff) _ _ (λ _. h) (λ _. h)

  down_reads : (e : Envelope) → Reads e → Reads (stepped_down e)
  unfolding stepped_down divisor_selected bottom_reached
  down_reads e h = by_test Reads (eqb (down e.volume) 0) _ _ (λ _. h) (λ _. h)

  step_reads : (m : EnvelopeMotion) (e : Envelope) → Reads e → Reads (stepped m e)
  unfolding stepped
  step_reads Rising e h = up_reads e h
  step_reads FallingToSustain e h = by_test Reads (eqb e.volume e.hold_level) _ _ (λ _. h) (λ _. down_reads e h)
  step_reads FallingToZero e h = down_reads e h

  amplitude_reads : (e : Envelope) → Reads e → Reads (amplitude_clocked e)
  unfolding amplitude_clocked amplitude_due
  amplitude_reads e h =
      by_test Reads (eqb e.amplitude_delay 0) _ _ (λ _. h)
      (λ _. by_test Reads (eqb (e.amplitude_delay - 1) 0) _ _ (λ _. by_test Reads e.floor_hold _ _ (λ _. h) (λ _. step_reads e.motion _ h)) (λ _. h))

  curve_reads : (e : Envelope) → Reads e → Reads (curve_clocked e)
  unfolding curve_clocked curve_due curve_ended
  curve_reads e h =
      by_test Reads (eqb e.curve_delay 0) _ _ (λ _. h)
      (λ _. by_test Reads (eqb (e.curve_delay - 1) 0) _ _
      (λ _. by_test Reads (change_due e.motion (eqb e.volume e.hold_level)) _ _ (λ _. h) (λ _. h)) (λ _. h))

  counted_reads : (e : Envelope) → Reads e → Reads (curve_counted e)
  unfolding curve_counted
  counted_reads e h = by_test Reads (eqb e.curve_count e.curve_divisor) _ _ (λ _. h) (λ _. h)

  used_reads : (e : Envelope) → Reads e → Reads (match_used e)
  unfolding match_used
  used_reads e h = by_test Reads (rising_rate_selected e) _ _ (λ _. h) (λ _. by_test Reads e.floor_hold _ _ (λ _. h) (λ _. counted_reads _ h))

  match_reads : (e : Envelope) → Reads e → Reads (match_consumed e)
  unfolding match_consumed
  match_reads e h = by_test Reads e.matched_rate _ _ (λ _. used_reads _ h) (λ _. h)

  rate_reads : (e : Envelope) → Reads e → Reads (rate_clocked e)
  unfolding rate_clocked
  rate_reads e h = by_test Reads (eqb e.rate_phase e.rate_target_phase) _ _ (λ _. h) (λ _. h)

pub clock_reads : (e : Envelope) → (clocked e).readback ≡ e.volume
unfolding clocked
clock_reads e =
    let r = e.volume in
    rate_reads r _ (match_reads r _ (curve_reads r _ (amplitude_reads r _ (motion_reads r _ (gate_reads r _ (divisor_reads r (level_read e) refl))))))
