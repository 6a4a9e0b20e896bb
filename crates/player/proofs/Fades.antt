-- The lines of bits that fade, clock by clock, are those of leaps from loss to loss (`fades_leap`), and eight lines
-- at most come of one stretch: what the loop over leaps keeps. Assumes nothing.
use Prim.Native.Nat.{ℕ, zero, suc, ◌+◌, ◌*◌, ◌-◌, ◌≤◌, ◌<◌}
use native.Mathlib.Nat.{zero-add, suc-add}
use native.Mathlib.Omega.{arith}
use mathlib.Core.Bool.{Bool, true, false, cond}
use mathlib.Core.List.{List, [], ◌++◌, append-nil, append_assoc}
use mathlib.Core.Path.{◌≡◌, refl, ap, ap₂, sym, subst, ◌∙◌}
use lib.Dec.{eqb}
use Rattle.laws.specs.Times.{times}
use Rattle.laws.proofs.Times.{times_first}
use Rattle.bus.specs.Bus.{clocked, clocks, lost}
use Rattle.bus.specs.declared.InternalDataBus.{InternalDataBus}
use Rattle.bus.proofs.Lost.{ones, ones_le}
use Rattle.listing.specs.Text.{Put, fade_room}
use Rattle.listing.proofs.Joins.{then}
use Rattle.oscillator.specs.Ways.{Ways}
use Rattle.panel.specs.declared.Leapt.{Leapt}
use Rattle.panel.specs.declared.Panel.{Panel}
use Rattle.panel.specs.Panel.{bus_of, clocked_by, ran_to_by, leap, leapt_by}
use Rattle.panel.proofs.Leaps.{ran_none, ran_on, leap_more, leap_quiet, leap_lost, leap_fewer, leapt_le}
use Rattle.sid.specs.Sid.{ticks_by}
use Rattle.sid.proofs.Ticks.{tick_bus, ticks_bus}
use Rattle.player.specs.Listing.{fade_of, fades_by, watched_by}

module _ (w : Ways) where
  -- m clocks, and n after them
  pub fades_join : (m n : ℕ) (p : Panel) → fades_by w (m + n) p ≡ fades_by w m p ++ fades_by w n (times m (clocked_by w) p)
  unfolding fades_by times
  fades_join zero n p = rw zero-add
  fades_join (suc m) n p =
      let line = fade_of (p.clock + 1) (lost (bus_of p)) in
      let q = clocked_by w p in
      rw (suc-add m n)
      (ap (λ (text : List ℕ). line ++ text) (fades_join m n q ∙ ap (λ (x : Panel). fades_by w m q ++ fades_by w n x) (sym (times_first (clocked_by w) m p)))
      ∙ sym (append_assoc line (fades_by w m q) (fades_by w n (times (suc m) (clocked_by w) p))))

  -- so many clocks, one after the other, are a run
  clocks_on : (n : ℕ) (p : Panel) → times n (clocked_by w) p ≡ record { chip = ticks_by w n p.chip; clock = p.clock + n; watched = p.watched }
  unfolding times
  clocks_on zero p = ap (λ (k : ℕ). record { chip = p.chip; clock = k; watched = p.watched }) (omega arith)
  clocks_on (suc n) p =
      ap (clocked_by w) (clocks_on n p)
      ∙ ap (λ (k : ℕ). record { chip = ticks_by w (suc n) p.chip; clock = k; watched = p.watched }) (omega arith)

  pub clocks_ran : (n : ℕ) (p : Panel) → times n (clocked_by w) p ≡ ran_to_by w (p.clock + n) p
  unfolding ran_to_by
  clocks_ran n p = let e : p.clock + n - p.clock ≡ n = omega arith in rw e (clocks_on n p)

  -- clocks that lose nothing print nothing
  quiet_fades : (n : ℕ) (p : Panel) → ((k : ℕ) → k < n → lost (clocks k (bus_of p)) ≡ 0) → fades_by w n p ≡ []
  unfolding fades_by times
  quiet_fades zero p quiet = refl
  quiet_fades (suc n) p quiet =
      rw (quiet zero (omega arith))
      (quiet_fades n (clocked_by w p)
      (λ k l. ap (λ (b : InternalDataBus). lost (clocks k b)) (tick_bus w p.chip) ∙ (ap lost (sym (times_first clocked k (bus_of p))) ∙ quiet (suc k) (omega arith))))

  pub fade_one : (p : Panel) → fades_by w 1 p ≡ fade_of (p.clock + 1) (lost (bus_of p))
  unfolding fades_by
  fade_one p = append-nil (fade_of (p.clock + 1) (lost (bus_of p)))

module _ (w : Ways) (stamp : ℕ) (p : Panel) (h : p.clock < stamp) where
  abbrev leapt : Leapt
  leapt = leapt_by w stamp p

  leapt_clock : leapt.panel.clock ≡ p.clock + leap stamp p
  unfolding leapt_by ran_to_by
  leapt_clock = omega arith

  -- a leap prints what its last clock does
  fades_leapt : (d : ℕ) → leap stamp p ≡ d → fades_by w d p ≡ fade_of leapt.panel.clock leapt.lost
  fades_leapt zero e = absurd (omega (arith, leap_more w stamp p h))
  fades_leapt (suc n) e =
      let q = times n (clocked_by w) p in
      let one : suc n ≡ n + 1 = omega arith in
      let clock : q.clock + 1 ≡ leapt.panel.clock = omega (arith, ap (λ (x : Panel). x.clock) (clocks_on w n p), leapt_clock) in
      let bits : lost (bus_of q) ≡ leapt.lost =
      ap lost (ap bus_of (clocks_on w n p) ∙ ticks_bus w n p.chip) ∙ sym (leap_lost w stamp p n (sym e)) in
      ap (λ (k : ℕ). fades_by w k p) one
      ∙ (fades_join w n 1 p
      ∙ (ap (λ (text : List ℕ). text ++ fades_by w 1 q) (quiet_fades w n p (λ k l. leap_quiet w stamp p k (omega arith)))
      ∙ (fade_one w q ∙ ap₂ fade_of clock bits)))

  -- the lines to a stamp: those of a leap, and of the clocks after it
  pub fades_leap : fades_by w (stamp - p.clock) p ≡ fade_of leapt.panel.clock leapt.lost ++ fades_by w (stamp - leapt.panel.clock) leapt.panel
  unfolding leapt_by
  fades_leap =
      let d = leap stamp p in
      let rest = stamp - leapt.panel.clock in
      let e : stamp - p.clock ≡ d + rest = omega (arith, leapt_clock) in
      ap (λ (k : ℕ). fades_by w k p) e
      ∙ (fades_join w d rest p ∙ ap₂ (λ (text : List ℕ) (q : Panel). text ++ fades_by w rest q) (fades_leapt d refl) (clocks_ran w d p))

module _ (w : Ways) (stamp : ℕ) (p : Panel) where
  pub unwatched : p.watched ≡ false → watched_by w stamp p ≡ []
  unfolding watched_by
  unwatched e = ap (λ (t : Bool). cond t (fades_by w (stamp - p.clock) p) []) e

  pub watched_fades : p.watched ≡ true → watched_by w stamp p ≡ fades_by w (stamp - p.clock) p
  unfolding watched_by
  watched_fades e = ap (λ (t : Bool). cond t (fades_by w (stamp - p.clock) p) []) e

-- on the way from p to a stamp the panel is q: `told` are the lines so far, `at` bytes, at the start of l, which now
-- is m; no bit that is left makes more than a line
pub record Watches (w : Ways) (stamp : ℕ) (p : Panel) (l : List ℕ) (q : Panel) (at : ℕ) (m : List ℕ) : Type 0 where
  pub told : List ℕ
  pub whole : told ++ fades_by w (stamp - q.clock) q ≡ fades_by w (stamp - p.clock) p
  pub there : ran_to_by w stamp q ≡ ran_to_by w stamp p
  pub put : Put l 0 told at m
  pub few : at + fade_room * ones 8 (bus_of q).value ≤ 8 * fade_room
  pub byte : (bus_of q).value < 256

pub watches_none : (w : Ways) (stamp : ℕ) (p : Panel) (l : List ℕ) → (bus_of p).value < 256 → Watches w stamp p l p 0 l
watches_none w stamp p l h =
    record {
      told = [];
      whole = refl;
      there = refl;
      put = record { place = refl; bytes = refl };
      few = omega (arith, ones_le 8 (bus_of p).value);
      byte = h;
    }

line_most : (t : Bool) → cond t 0 fade_room ≡ fade_room * cond t 0 1
line_most true = refl
line_most false = refl

-- a leap leaves less of the way
pub leap_less : (w : Ways) (stamp : ℕ) (q : Panel) {r : Leapt} → q.clock < stamp → r ≡ leapt_by w stamp q → stamp - r.panel.clock < stamp - q.clock
leap_less w stamp q h e = omega (arith, ap (λ (x : Leapt). x.panel.clock) e, leapt_clock w stamp q h, leap_more w stamp q h)

module _ {w : Ways} {stamp : ℕ} {p : Panel} {l : List ℕ} {q : Panel} {at : ℕ} {m : List ℕ} (k : Watches w stamp p l q at m) where
  -- there is room for a line of bits that are left
  pub watches_room : at ≤ 8 * fade_room
  watches_room = omega (arith, k.few)

  pub watches_more
      : {r : Leapt} {at' : ℕ} {m' : List ℕ}
      → q.clock < stamp
      → r ≡ leapt_by w stamp q
      → Put m at (fade_of r.panel.clock r.lost) at' m'
      → at' ≤ at + cond (eqb r.lost 0) 0 fade_room
      → Watches w stamp p l r.panel at' m'
  unfolding leapt_by
  watches_more {r} {at'} {m'} h e o fits =
      rw e
      (record {
        told = k.told ++ fade_of (leapt_by w stamp q).panel.clock (leapt_by w stamp q).lost;
        whole = append_assoc k.told _ _ ∙ (ap (λ (text : List ℕ). k.told ++ text) (sym (fades_leap w stamp q h)) ∙ k.whole);
        there = ran_on w q (q.clock + leap stamp q) stamp (omega arith) (omega arith) ∙ k.there;
        put = then k.put (rw e at o);
        few = omega (arith, rw e at fits, line_most (eqb (leapt_by w stamp q).lost 0), leap_fewer w stamp q h k.byte, k.few);
        byte = omega (arith, k.byte, leapt_le w stamp q);
      })

  pub watches_all : stamp ≤ q.clock → (q ≡ ran_to_by w stamp p) × Put l 0 (fades_by w (stamp - p.clock) p) at m
  unfolding fades_by
  watches_all h =
      let z : stamp - q.clock ≡ 0 = omega arith in
      let all : k.told ≡ fades_by w (stamp - p.clock) p =
      sym (append-nil k.told) ∙ (ap (λ (n : ℕ). k.told ++ fades_by w n q) (sym z) ∙ k.whole) in
      (sym (ran_none w q stamp h) ∙ k.there, subst (λ (text : List ℕ). Put l 0 text at m) all k.put)
