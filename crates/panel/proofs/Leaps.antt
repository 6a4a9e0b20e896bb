-- A run clocks the panel's bus and nothing else in it moves it; a leap ends at the stamp or on the first clock that
-- may lose bits: no clock before its last loses one (`leap_quiet`), and what it tells is what that last one lost
-- (`leap_lost`). Assumes nothing.
use Prim.Native.Nat.{ℕ, zero, suc, ◌+◌, ◌-◌, ◌≤◌, ◌<◌, min, max}
use native.Mathlib.Nat.{add-zero}
use native.Mathlib.Omega.{arith}
use mathlib.Core.Bool.{Bool, true, false, cond}
use mathlib.Core.Path.{◌≡◌, refl, ap, ap₂, sym, ◌∙◌}
use lib.Dec.{eqb}
use Rattle.laws.specs.Times.{times}
use Rattle.laws.proofs.Times.{times_add}
use Rattle.bus.specs.Bus.{no_expiry, clocked, clocks, lost, to_expiry}
use Rattle.bus.specs.declared.InternalDataBus.{InternalDataBus}
use Rattle.bus.proofs.Lost.{clocks_le, none_lost, ones, lost_fewer}
use Rattle.oscillator.specs.Ways.{Ways}
use Rattle.sid.specs.declared.Mos6581.{Mos6581}
use Rattle.sid.specs.Sid.{ticked_by, ticks_by}
use Rattle.sid.proofs.Ticks.{ticks_bus}
use Rattle.panel.specs.declared.Panel.{Panel}
use Rattle.panel.specs.Panel.{bus_of, ran_to_by, leap, leapt_by}

-- a panel n clocks on
abbrev on : Panel → Mos6581 → ℕ → Panel
on p c n = record { chip = c; clock = n; watched = p.watched }

module _ (w : Ways) (p : Panel) where
  pub ran_bus : (stamp : ℕ) → bus_of (ran_to_by w stamp p) ≡ clocks (stamp - p.clock) (bus_of p)
  unfolding ran_to_by
  ran_bus stamp = ticks_bus w (stamp - p.clock) p.chip

  -- a stamp that has gone by leaves the panel as it is
  pub ran_none : (stamp : ℕ) → stamp ≤ p.clock → ran_to_by w stamp p ≡ p
  unfolding ran_to_by times
  ran_none stamp h = let e : stamp - p.clock ≡ 0 = omega arith in rw (e, add-zero)

  -- a run on the way to a later one
  pub ran_on
      : (stamp later : ℕ)
      → p.clock ≤ stamp
      → stamp ≤ later
      → ran_to_by w later (ran_to_by w stamp p) ≡ ran_to_by w later p
  unfolding ran_to_by
  ran_on stamp later h k =
      let a = stamp - p.clock in
      let m : p.clock + a ≡ stamp = omega arith in
      let b : later - (p.clock + a) ≡ later - stamp = omega arith in
      let e : a + (later - stamp) ≡ later - p.clock = omega arith in
      ap₂ (on p)
      (ap (λ (n : ℕ). ticks_by w n (ticks_by w a p.chip)) b
      ∙ (times_add (ticked_by w) (later - stamp) a p.chip ∙ ap (λ (n : ℕ). ticks_by w n p.chip) e))
      (omega arith)

clocks_more : (n : ℕ) (b : InternalDataBus) → clocks (suc n) b ≡ clocked (clocks n b)
unfolding times
clocks_more n b = refl

-- the next clock at the earliest
ahead : (b : InternalDataBus) → 1 ≤ to_expiry b
unfolding to_expiry
ahead b = go (eqb b.value 0)
  where
    go : (t : Bool) → 1 ≤ cond t no_expiry (max 1 (b.next_expiry - b.age))
    go true = omega arith
    go false = omega arith

module _ (w : Ways) (stamp : ℕ) (p : Panel) where
  pub leap_more : p.clock < stamp → 1 ≤ leap stamp p
  leap_more h = omega (arith, ahead (bus_of p))

  leap_value : (n : ℕ) → n < leap stamp p → (clocks n (bus_of p)).value ≡ (bus_of p).value
  leap_value n h = none_lost (bus_of p) n (omega arith)

  -- no clock before the last loses a bit
  pub leap_quiet : (n : ℕ) → suc n < leap stamp p → lost (clocks n (bus_of p)) ≡ 0
  unfolding lost times
  leap_quiet n h = omega (arith, leap_value n (omega arith), leap_value (suc n) h)

  -- what `leap_to` works out is the panel of the leap
  pub leapt_there
      : {ahead end : ℕ} {q : Panel}
      → ahead ≡ to_expiry (bus_of p)
      → end ≡ p.clock + min (stamp - p.clock) ahead
      → q ≡ ran_to_by w end p
      → q ≡ (leapt_by w stamp p).panel
  unfolding leapt_by
  leapt_there a e q = q ∙ ap (λ (n : ℕ). ran_to_by w n p) (e ∙ ap (λ (n : ℕ). p.clock + min (stamp - p.clock) n) a)

  leapt_bus : bus_of (leapt_by w stamp p).panel ≡ clocks (leap stamp p) (bus_of p)
  unfolding leapt_by
  leapt_bus =
      let e : p.clock + leap stamp p - p.clock ≡ leap stamp p = omega arith in
      ran_bus w p (p.clock + leap stamp p) ∙ ap (λ (n : ℕ). clocks n (bus_of p)) e

  -- and what the last loses is told
  pub leap_lost : (n : ℕ) → suc n ≡ leap stamp p → (leapt_by w stamp p).lost ≡ lost (clocks n (bus_of p))
  unfolding leapt_by lost times
  leap_lost n e =
      let after : (bus_of (leapt_by w stamp p).panel).value ≡ (clocks (suc n) (bus_of p)).value =
      ap (λ (b : InternalDataBus). b.value) leapt_bus ∙ ap (λ (k : ℕ). (clocks k (bus_of p)).value) (sym e) in
      omega (arith, after, leap_value n (omega arith))

  -- a leap that loses bits leaves fewer
  pub leap_fewer
      : p.clock < stamp
      → (bus_of p).value < 256
      → ones 8 (bus_of (leapt_by w stamp p).panel).value + cond (eqb (leapt_by w stamp p).lost 0) 0 1 ≤ ones 8 (bus_of p).value
  leap_fewer h k = go (leap stamp p) refl
    where
      go : (d : ℕ) → leap stamp p ≡ d → ones 8 (bus_of (leapt_by w stamp p).panel).value + cond (eqb (leapt_by w stamp p).lost 0) 0 1 ≤ ones 8 (bus_of p).value
      go zero e = absurd (omega (arith, leap_more h))
      go (suc n) e =
          let b = clocks n (bus_of p) in
          let same : b.value ≡ (bus_of p).value = leap_value n (omega arith) in
          let after : (bus_of (leapt_by w stamp p).panel).value ≡ (clocked b).value =
          ap (λ (z : InternalDataBus). z.value) (leapt_bus ∙ (ap (λ (k : ℕ). clocks k (bus_of p)) e ∙ clocks_more n (bus_of p))) in
          rw (after, leap_lost n (sym e)) (omega (arith, lost_fewer b (omega (arith, same)), ap (ones 8) same))

  pub leapt_le : (bus_of (leapt_by w stamp p).panel).value ≤ (bus_of p).value
  leapt_le = omega (arith, ap (λ (b : InternalDataBus). b.value) leapt_bus, clocks_le (leap stamp p) (bus_of p))
