-- For any voice: a forecast is the clock from which on it is held, whatever calls spare it; the count of a run is the
-- first held clock or n, by whatever engine, and where there is a forecast, that one's. Assumes nothing.
use Prim.Native.Nat.{ℕ, ◌<◌, min}
use native.Mathlib.Omega.{arith}
use native.Mathlib.Decide.{dec_lt}
use mathlib.Core.Path.{◌≡◌, refl, ap, sym, subst, ◌∙◌}
use Rattle.std.specs.Prelude.{Some, None, Result, Ok}
use Rattle.refusals.specs.Refusals.{Told}
use mathlib.Core.Bool.{Bool, true, false, cond}
use borrow.Author.Tests.{le-leb, lt-leb}
use lib.Dec.{leb}
use Rattle.envelope.specs.declared.Envelope.{Envelope}
use Rattle.release.specs.Release.{SettledRelease, last_step, HeldFrom}
use Rattle.release.specs.Settled.{From}
use Rattle.planner.specs.Planner.{release_period, is_settled, last_step_of, FirstHeld, held_within}
use Rattle.release.proofs.Demand3.{last_step_frees}
use Rattle.planner.proofs.Counts.{settled_when, settled_only, first_held, settled_counts}
use Rattle.oscillator.specs.Ways.{Ways, stepwise}
use Rattle.pack.specs.Pack.{filled, over}
use Rattle.pack.proofs.Engines.{over_filled}
use Rattle.sid.specs.Sid.{voice_of, held_of, ticked_by, ticks_by}
use Rattle.sid.specs.declared.Mos6581.{Mos6581}
use Rattle.sid.specs.declared.Voice.{Voice}
use Rattle.sid.proofs.Ticks.{ticks_alike}
use Rattle.calls.specs.Calls.{Which, voice_0, voice_1, voice_2, number, of, sparing}
use Rattle.calls.proofs.Lifted.{sees_ticks}
use Rattle.calls.proofs.Voices.{ticks_envelope}
use Rattle.tail.specs.declared.Ran.{Ran}
use Rattle.tail.specs.Tail.{settled_told, forecast_of, clocks_run, ran_chip, ran_answer, ran, ticking}

pub voice_named : (w : Which) (c : Mos6581) → voice_of c (number w) ≡ of w c
unfolding voice_of
voice_named voice_0 c = refl
voice_named voice_1 c = refl
voice_named voice_2 c = refl

abbrev stopping : ℕ → Bool → Result Ran Told
stopping clocks stopped = Ok (ran clocks stopped)

forecast_named : (w : Which) (c : Mos6581) → forecast_of c (number w) ≡ settled_told (last_step_of (of w c).envelope)
unfolding forecast_of voice_of
forecast_named voice_0 c = refl
forecast_named voice_1 c = refl
forecast_named voice_2 c = refl

run_named
    : (w : Which) (c : Mos6581) (ways : Ways) (n : ℕ)
    → ran_answer ways c (number w) n ≡ Ok (ran (held_within n (of w c).envelope) (held_of (of w (ticks_by ways (held_within n (of w c).envelope) c))))
unfolding ran_answer voice_of
run_named voice_0 c ways n = refl
run_named voice_1 c ways n = refl
run_named voice_2 c ways n = refl

module _ (w : Which) (c : Mos6581) where
  abbrev e : Envelope
  e = (of w c).envelope

  abbrev P : ℕ
  P = release_period e

  -- THE FORECAST of a voice in settled release is the clock of demand 3's last step
  pub forecast_last : SettledRelease e P → forecast_of c (number w) ≡ Ok (last_step e P)
  unfolding last_step_of
  forecast_last h = forecast_named w c ∙ simp (settled_only e h)

  -- and no other voice has one
  pub forecast_settled : (n : ℕ) → forecast_of c (number w) ≡ Ok n → SettledRelease e P × (n ≡ last_step e P)
  unfolding last_step_of
  forecast_settled n q = go (is_settled e) refl (sym (forecast_named w c) ∙ q)
    where
      go : (b : Bool) → is_settled e ≡ b → settled_told (cond b (Some (last_step e P)) None) ≡ Ok n → SettledRelease e P × (n ≡ last_step e P)
      go true h t = (settled_when e h, cc)
      go false h t = absurd (cc)

  -- so it is the first clock after which the voice is held at zero, whatever calls spare it
  pub forecast_frees : (n : ℕ) → forecast_of c (number w) ≡ Ok n → HeldFrom (sparing w c) n
  forecast_frees n q =
      let f = forecast_settled n q in
      subst (HeldFrom (sparing w c)) (sym f.1) (last_step_frees e P f.0 (sparing w c) (sees_ticks w c))

  -- ticks by any engine are clocks of the envelope
  ticks_from : (ways : Ways) → From e (ticking ways w c)
  ticks_from ways n = ticks_envelope ways w n c

  -- THE COUNT of a run is the first held clock or n, of every chip
  pub run_first_held : (ways : Ways) (n : ℕ) → FirstHeld (ticking ways w c) n (clocks_run c (number w) n)
  run_first_held ways n = subst (λ (v : Voice). FirstHeld (ticking ways w c) n (held_within n v.envelope)) (sym (voice_named w c)) (first_held n e (ticking ways w c) (ticks_from ways))

  -- THE RUN stops on the forecast's clock, where n allows
  pub run_stops : (ways : Ways) (t n : ℕ) → forecast_of c (number w) ≡ Ok t → ran_answer ways c (number w) n ≡ Ok (ran (min t n) (leb t n))
  run_stops ways t n q =
      let f = forecast_settled t q in
      let i : held_within n e ≡ min t n = settled_counts e P n f.0 ∙ ap (λ (x : ℕ). min x n) (sym f.1) in
      run_named w c ways n ∙ ap (λ (k : ℕ). stopping k (held_of (of w (ticks_by ways k c)))) i ∙ ap (stopping (min t n)) (go (dec_lt n t) (subst (HeldFrom (ticking ways w c)) (sym f.1) (last_step_frees e P f.0 (ticking ways w c) (ticks_from ways))))
    where
      go : Dec (n < t) → HeldFrom (ticking ways w c) t → held_of (of w (ticks_by ways (min t n) c)) ≡ leb t n
      go (yes l) h = h.before (min t n) (omega arith) ∙ sym (lt-leb t n l)
      go (no l) h = (h.from (min t n) (omega arith)).1 ∙ sym (le-leb t n (omega arith))

-- ways that tick every chip alike run it alike, so that a filled pack runs as the plain engine does
pub run_alike
    : (ways others : Ways)
    → ((c : Mos6581) → ticked_by ways c ≡ ticked_by others c)
    → (c : Mos6581) (voice n : ℕ)
    → (ran_chip ways c voice n ≡ ran_chip others c voice n) × (ran_answer ways c voice n ≡ ran_answer others c voice n)
unfolding ran_chip ran_answer
run_alike ways others same c voice n =
    let q = ticks_alike ways others same (clocks_run c voice n) c in
    (rw q, rw q)

pub run_filled
    : (c : Mos6581) (voice n : ℕ)
    → (ran_chip (over filled) c voice n ≡ ran_chip stepwise c voice n) × (ran_answer (over filled) c voice n ≡ ran_answer stepwise c voice n)
run_filled = run_alike (over filled) stepwise over_filled
