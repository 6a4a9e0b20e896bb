-- The table of matches is right where each entry is the one below plus the divisor in force; with a divisor left over
-- the table holds from the next level on that queues one. Assumes nothing.
use Prim.Native.Nat.{ℕ, zero, suc, ◌+◌, ◌-◌, ◌*◌, ◌%◌, ◌<◌, ◌≤◌}
use native.Mathlib.Omega.{arith}
use native.Mathlib.Nat.{suc-mul}
use mathlib.Core.Path.{◌≡◌, refl, ap, sym, ◌∙◌, subst}
use mathlib.Core.Bool.{Bool, true, false, cond, ◌||◌}
use mathlib.Core.List.{List}
use borrow.Author.Tests.{ne_eqb, eqb-true}
use lib.Dec.{eqb, ltb, T, eqb→eq}
use lib.ListN.{get_or}
use Rattle.laws.proofs.Bools.{and_left, and_right}
use Rattle.laws.proofs.Cond.{either}
use Rattle.laws.proofs.Table.{both, both_left, both_right, all, all_at}
use Rattle.envelope.specs.declared.Envelope.{Envelope}
use Rattle.envelope.specs.Envelope.{divisor_for, down}
use Rattle.release.specs.Release.{steps, level_after, in_force, divisor_after, asked, matches, last_step}
use Rattle.release.specs.StepClocks.{lag}
use Rattle.planner.specs.Planner.{on_fall, to_zero, adds, turn}
use Rattle.release.proofs.Steps.{steps_closed, level_closed, divisor_first, asked_first}

down_suc : (v : ℕ) → v < 256 → down (suc v) ≡ v
unfolding down
down_suc v l = omega arith

-- from a level to the one below it
asked_down : (v d : ℕ) → v < 256 → asked (suc v) d (suc v) ≡ d + asked v (in_force d v) v
asked_down v d l = asked_first (suc v) d v ∙ ap (λ (x : ℕ). d + asked x (in_force d x) v) (down_suc v l)

divisor_down : (v d k : ℕ) → v < 256 → divisor_after (suc v) d (suc k) ≡ divisor_after v (in_force d v) k
divisor_down v d k l = divisor_first (suc v) d k ∙ ap (λ (x : ℕ). divisor_after x (in_force d x) k) (down_suc v l)

-- ---- the table

module _ (table : List ℕ) where
  abbrev entry : ℕ → ℕ
  entry v = get_or table v 0

  entry_asked : (v d : ℕ) → v < 256 → adds table v d ≡ true → entry v ≡ asked v d v
  unfolding adds asked
  entry_asked zero d l t = eqb-true (entry 0) 0 t
  entry_asked (suc v) d l t =
      let more = adds table v (in_force d v) in
      let here = eqb-true (entry (suc v)) (entry v + d) (and_left (eqb (entry (suc v)) (entry v + d)) more t) in
      let below = entry_asked v (in_force d v) (omega arith) (and_right (eqb (entry (suc v)) (entry v + d)) more t) in
      omega (arith, here, below, asked_down v d (omega arith))

  entry_on : (v d k : ℕ) → v < 256 → k ≤ v → adds table v d ≡ true → entry (v - k) ≡ asked (v - k) (divisor_after v d k) (v - k)
  unfolding adds divisor_after
  entry_on v d zero l m t =
      let i : v - 0 ≡ v = omega arith in
      rw i (entry_asked v d l t)
  entry_on zero d (suc k) l m t = absurd (omega arith)
  entry_on (suc v) d (suc k) l m t =
      let i : suc v - suc k ≡ v - k = omega arith in
      let more = adds table v (in_force d v) in
      let below = entry_on v (in_force d v) k (omega arith) (omega arith) (and_right (eqb (entry (suc v)) (entry v + d)) more t) in
      rw (divisor_down v d k (omega arith), i) below

  -- where the test is passed each entry is the rule's
  pub table_right : adds table 0xff 1 ≡ true → (v : ℕ) → v < 256 → get_or table v 0 ≡ to_zero v
  unfolding to_zero on_fall
  table_right t v l =
      let i : 0xff - (0xff - v) ≡ v = omega arith in
      let e = entry_on 0xff 1 (0xff - v) (omega arith) (omega arith) t in
      rw i at e

-- ---- a divisor left over

-- the next level that queues a divisor, in plain numbers
abbrev pub plain : ℕ → ℕ
plain v =
    cond (eqb v 0) 0xff
    (cond (ltb 0x5d v) 0x5d
    (cond (ltb 0x36 v) 0x36
    (cond (ltb 0x1a v) 0x1a
    (cond (ltb 0x0e v) 0x0e
    (cond (ltb 0x06 v) 0x06 0)))))

-- where that is 0, a level which itself queues one queues 30
lowest : ℕ → Bool
lowest v = cond (eqb (turn v) 0) (eqb (divisor_for v) 0 || eqb (divisor_for v) 30) true

turns : ℕ → Bool
turns v = both (eqb (turn v) (plain v)) (lowest v)

turn_tested : (v : ℕ) → v < 256 → T (turns v)
unfolding turns turn lowest all divisor_for
turn_tested = all_at turns 256 tt

pub turn_plain : (v : ℕ) → v < 256 → turn v ≡ plain v
unfolding turns
turn_plain v l = eqb→eq (turn v) (plain v) (both_left (eqb (turn v) (plain v)) (lowest v) (turn_tested v l))

last_of : (t : Bool) (q : ℕ) → eqb q 0 ≡ false → T (cond t (eqb q 0 || eqb q 30) true) → cond t q 30 ≡ 30
last_of true q e h = eqb→eq q 30 (subst (λ (b : Bool). T (b || eqb q 30)) e h)
last_of false q e h = refl

last_queued : (v : ℕ) → v < 256 → eqb (divisor_for v) 0 ≡ false → cond (eqb (turn v) 0) (divisor_for v) 30 ≡ 30
unfolding turns lowest
last_queued v l e = last_of (eqb (turn v) 0) (divisor_for v) e (both_right (eqb (turn v) (plain v)) (lowest v) (turn_tested v l))

pub turn_below : (v : ℕ) → 0 < v → turn v < v
unfolding turn divisor_for
turn_below zero l = absurd (omega arith)
turn_below (suc zero) l = omega arith
turn_below (suc (suc v)) l = either (λ (m : ℕ). m < suc (suc v)) (eqb (divisor_for (suc v)) 0) _ _ (omega (arith, turn_below (suc v) (omega arith))) (omega arith)

-- a level that queues a divisor, and one that queues none
module _ (d v : ℕ) where
  turn_queued : eqb (divisor_for v) 0 ≡ false → turn (suc v) ≡ v
  unfolding turn
  turn_queued q = simp q

  turn_none : eqb (divisor_for v) 0 ≡ true → turn (suc v) ≡ turn v
  unfolding turn
  turn_none q = simp q

  queued : eqb (divisor_for v) 0 ≡ false → in_force d v ≡ divisor_for v
  unfolding in_force
  queued q = simp q

  none : eqb (divisor_for v) 0 ≡ true → in_force d v ≡ d
  unfolding in_force
  none q = simp q

queued_on_fall : (d v : ℕ) → eqb (divisor_for v) 0 ≡ false → v < 255 → in_force d v ≡ on_fall v
unfolding on_fall divisor_after
queued_on_fall d v q l =
    let before = divisor_after 0xff 1 (0xfe - v) in
    let i : suc (0xfe - v) ≡ 0xff - v = omega arith in
    let u : v ≡ level_after 0xff (suc (0xfe - v)) = omega (arith, level_closed 0xff (suc (0xfe - v)) (omega arith) (omega arith)) in
    queued d v q ∙ sym (queued before v q) ∙ ap (in_force before) u ∙ ap (divisor_after 0xff 1) i

asked_queued : (v d : ℕ) → v < 255 → eqb (divisor_for v) 0 ≡ false → asked (suc v) d (suc v) ≡ (suc v - turn (suc v)) * d + to_zero (turn (suc v))
unfolding to_zero
asked_queued v d l q =
    let here = ap (λ (x : ℕ). asked v x v) (queued_on_fall d v q l) in
    let i : suc v - v ≡ 1 = omega arith in
    rw (turn_queued d v q, i) (omega (arith, asked_down v d (omega arith), here))

asked_none : (v d : ℕ) → v < 255 → eqb (divisor_for v) 0 ≡ true → turn v ≤ v → asked v d v ≡ (v - turn v) * d + to_zero (turn v) → asked (suc v) d (suc v) ≡ (suc v - turn (suc v)) * d + to_zero (turn (suc v))
asked_none v d l q b e =
    let here = ap (λ (x : ℕ). asked v x v) (none d v q) in
    let i : suc v - turn v ≡ suc (v - turn v) = omega arith in
    rw (turn_none d v q, i) (omega (arith, asked_down v d (omega arith), here, e, suc-mul (v - turn v) d))

asked_below : (v d : ℕ) → suc v < 256 → asked (suc v) d (suc v) ≡ (suc v - turn (suc v)) * d + to_zero (turn (suc v))
unfolding divisor_for
asked_below zero d l = asked_queued 0 d (omega arith) refl
asked_below (suc v) d l = go (eqb (divisor_for (suc v)) 0) refl (asked_below v d (omega arith))
  where
    go : (b : Bool) → eqb (divisor_for (suc v)) 0 ≡ b → asked (suc v) d (suc v) ≡ (suc v - turn (suc v)) * d + to_zero (turn (suc v)) → asked (suc (suc v)) d (suc (suc v)) ≡ (suc (suc v) - turn (suc (suc v))) * d + to_zero (turn (suc (suc v)))
    go true q e = asked_none (suc v) d (omega arith) q (omega (arith, turn_below (suc v) (omega arith))) e
    go false q e = asked_queued (suc v) d (omega arith) q

-- THE CORRECTION: d counts down to the next level that queues a divisor, 0xff of an unheld zero; from there on the
-- table holds
pub asked_turn : (v d : ℕ) → v < 256 → asked v d (steps v) ≡ (steps v - turn v) * d + to_zero (turn v)
unfolding steps turn down in_force on_fall divisor_after divisor_for to_zero
asked_turn zero d l = omega (arith, asked_first 0 d 255)
asked_turn (suc v) d l =
    let s : steps (suc v) ≡ suc v = omega (arith, steps_closed (suc v) l) in
    rw s (asked_below v d l)

last_below : (v d : ℕ) → suc v < 256 → divisor_after (suc v) d v ≡ cond (eqb (turn (suc v)) 0) d 30
unfolding divisor_after turn divisor_for
last_below zero d l = refl
last_below (suc v) d l = divisor_down (suc v) d v (omega arith) ∙ last_below v (in_force d (suc v)) (omega arith) ∙ go (eqb (divisor_for (suc v)) 0) refl
  where
    go : (b : Bool) → eqb (divisor_for (suc v)) 0 ≡ b → cond (eqb (turn (suc v)) 0) (in_force d (suc v)) 30 ≡ cond (eqb (turn (suc (suc v))) 0) d 30
    go true q = rw (none d (suc v) q, turn_none d (suc v) q)
    go false q = rw (queued d (suc v) q, turn_queued d (suc v) q) (last_queued (suc v) (omega arith) q ∙ ap (λ (b : Bool). cond b d 30) (sym (ne_eqb (suc v) 0 (omega arith))))

-- it is the last step's too where no level on the way queues another, else that is 30's
pub last_divisor : (v d : ℕ) → v < 256 → divisor_after v d (steps v - 1) ≡ cond (eqb (turn v) 0) d 30
unfolding steps turn down in_force divisor_for
last_divisor zero d l = divisor_first 0 d 254 ∙ last_below 254 1 (omega arith)
last_divisor (suc v) d l =
    let s : steps (suc v) - 1 ≡ v = omega (arith, steps_closed (suc v) l) in
    rw s (last_below v d l)

-- so of an envelope
module _ (e : Envelope) (byte : e.volume < 256) where
  pub matches_turn
      : matches e (steps e.volume) ≡ (steps e.volume - turn e.volume) * e.curve_divisor + to_zero (turn e.volume) - e.curve_count
  unfolding matches
  matches_turn = ap (λ (x : ℕ). x - e.curve_count) (asked_turn e.volume e.curve_divisor byte)

  pub last_step_turn
      : (P : ℕ)
      → last_step e P
      ≡ (P - 1 + 32767 - e.rate_phase) % 32767 + 2 + (matches e (steps e.volume) - 1) * P + lag (cond (eqb (turn e.volume) 0) e.curve_divisor 30)
  unfolding last_step lag
  last_step_turn P = rw (last_divisor e.volume e.curve_divisor byte)
