-- `run` among calls: the n clocks that it makes (`ticks n`) count as n ticks in every law of any run of calls, alone
-- and between other calls. Assumes nothing.
use mathlib.Core.Path.{◌≡◌, refl, ap, sym, subst, ◌∙◌}
use mathlib.Core.Bool.{Bool, true}
use mathlib.Core.List.{List, [], ◌∷◌, ◌++◌}
use Prim.Native.Nat.{ℕ, zero, suc, ◌+◌, ◌%◌, ◌^◌, ◌≤◌}
use native.Mathlib.Omega.{arith}
use Rattle.laws.specs.Times.{times}
use Rattle.bus.specs.Bus.{holds, kept}
use Rattle.envelope.specs.Envelope.{clocks as envelope_clocks}
use Rattle.oscillator.specs.Ways.{afresh, stepwise}
use Rattle.sid.specs.Sid.{read_at, ticks_by, ticks, code_of, Call, write, read, tick, clear, set_pot_x, set_pot_y, after_by, after, ticks_then, clocks_of}
use Rattle.sid.specs.declared.Mos6581.{Mos6581}
use Rattle.sid.proofs.Joined.{after_join, after_ticks, count_ticks}
use Rattle.calls.specs.Calls.{Which, of, Each, none, next, floating, undriven, leaves_off, Leads, Fades, Floats, most_since, Recent, Ahead}
use Rattle.calls.proofs.Voices.{ticks_envelope, tick_cycle}
use Rattle.calls.proofs.Leaks.{calls_as_01}

clocks_join : (calls more : List Call) → clocks_of (calls ++ more) ≡ clocks_of calls + clocks_of more
unfolding clocks_of
clocks_join [] more = omega arith
clocks_join (write address value ∷ calls) more = clocks_join calls more
clocks_join (read address ∷ calls) more = clocks_join calls more
clocks_join (tick ∷ calls) more = omega (arith, clocks_join calls more)
clocks_join (clear ∷ calls) more = clocks_join calls more
clocks_join (set_pot_x value ∷ calls) more = clocks_join calls more
clocks_join (set_pot_y value ∷ calls) more = clocks_join calls more

most_ticks : (n k : ℕ) → most_since (ticks_then n []) k ≡ k + n
unfolding ticks_then most_since
most_ticks zero k = omega arith
most_ticks (suc n) k = omega (arith, most_ticks n (suc k))

module _ {allows : Call → Bool} where
  each_join : {calls more : List Call} → Each allows calls → Each allows more → Each allows (calls ++ more)
  each_join none s = s
  each_join (next h r) s = next h (each_join r s)

  each_ticks : (n : ℕ) {calls : List Call} → allows tick ≡ true → Each allows calls → Each allows (ticks_then n calls)
  unfolding ticks_then
  each_ticks zero h r = r
  each_ticks (suc n) h r = next h (each_ticks n h r)

  -- calls lead on, `run` does where a tick is allowed, and so does one after the other
  pub calls_lead : (calls : List Call) (c : Mos6581) → Each allows calls → Leads allows c (after calls c) (clocks_of calls)
  calls_lead calls c r = record { calls = calls; allowed = r; clocks = refl; same = refl }

  pub run_leads : (n : ℕ) (c : Mos6581) → allows tick ≡ true → Leads allows c (ticks n c) n
  unfolding after_by clocks_of
  run_leads n c h = record {
    calls = ticks_then n [];
    allowed = each_ticks n h none;
    clocks = omega (arith, count_ticks n []);
    same = after_ticks stepwise n [] c;
  }

  pub leads_on : {c d e : Mos6581} {n m : ℕ} → Leads allows c d n → Leads allows d e m → Leads allows c e (n + m)
  leads_on {c} a b = record {
    calls = a.calls ++ b.calls;
    allowed = each_join a.allowed b.allowed;
    clocks = omega (arith, clocks_join a.calls b.calls, a.clocks, b.clocks);
    same = after_join stepwise a.calls b.calls c ∙ ap (after b.calls) a.same ∙ b.same;
  }

  -- WHATEVER HOLDS after any allowed calls with n ticks holds after calls mixed with runs
  pub run_calls
      : {c d : Mos6581} {n : ℕ}
      → Leads allows c d n
      → (P : Mos6581 → Type 0)
      → ((calls : List Call) → Each allows calls → clocks_of calls ≡ n → P (after calls c))
      → P d
  run_calls l P h = subst P l.same (h l.calls l.allowed l.clocks)

-- ---- so of the chip that `run` gives: its contract is `r ≡ ticks n chip`

-- an envelope has made n clocks, of which `demand_3`, `rise`, `late_start` and `sustain_holds` speak
pub run_envelope : (w : Which) (n : ℕ) (c : Mos6581) → (of w (ticks n c)).envelope ≡ envelope_clocks n (of w c).envelope
run_envelope = ticks_envelope stepwise

-- its cycle has counted them
pub run_cycle : (n : ℕ) (c : Mos6581) (k : ℕ) → c.cycle ≡ k % 2 ^ 64 → (ticks n c).cycle ≡ (k + n) % 2 ^ 64
unfolding times
run_cycle zero c k e = e ∙ omega arith
run_cycle (suc n) c k e = tick_cycle stepwise (ticks n c) ∙ omega (arith, run_cycle n c k e)

-- it is document 01's, with its loops, while the chip was made or reset fewer than 2^63 clocks ago
pub run_as_01
    : (n : ℕ) (c : Mos6581) (k : ℕ)
    → c.cycle ≡ k % 2 ^ 64
    → ((w : Which) → Ahead w c)
    → Recent (k + n)
    → ticks n c ≡ ticks_by afresh n c
unfolding after_by
run_as_01 n c k e h l =
    sym (after_ticks stepwise n [] c)
    ∙ calls_as_01 (ticks_then n []) c k e h (subst Recent (sym (most_ticks n k)) l)
    ∙ after_ticks afresh n [] c

-- a byte has faded for n clocks
pub run_fades : (v : ℕ) (c : Mos6581) (n address : ℕ) → Fades v c → floating address ≡ true → (read_at (ticks n c) address).byte ≡ kept holds v n
unfolding undriven
run_fades v c n address h f =
    run_calls (run_leads {allows = undriven} n c refl) (λ (x : Mos6581). (read_at x address).byte ≡ kept holds v n)
    (λ calls r q. h calls address r f ∙ ap (kept holds v) q)

-- a floating code is whole or gone
pub run_floats
    : (w : Which) (c : Mos6581) (code n : ℕ)
    → Floats w c code
    → (n ≤ 1260019 → code_of (of w (ticks n c)) ≡ code) × (1260020 ≤ n → code_of (of w (ticks n c)) ≡ 0)
unfolding leaves_off
run_floats w c code n h =
    run_calls (run_leads {allows = leaves_off w} n c refl)
    (λ (x : Mos6581). (n ≤ 1260019 → code_of (of w x) ≡ code) × (1260020 ≤ n → code_of (of w x) ≡ 0))
    (λ calls r q. ((λ l. h.whole calls r (omega arith)), (λ l. h.gone calls r (omega arith))))
