-- Document 02, request 9: a forecast for a voice of a chip, and a run 'at most n clocks, stopping when a named voice is
-- held at zero'; what each answers, and the chip after it.
use Rattle.std.specs.Prelude.{ℕ, Bool, cond, ltb, Option, Some, None, Result, Ok, Err}
use Rattle.release.specs.Settled.{Runs}
use Rattle.planner.specs.Planner.{last_step_of, held_within}
use Rattle.refusals.specs.Refusals.{numbered, Told}
use Rattle.oscillator.specs.Ways.{Ways}
use Rattle.sid.specs.Sid.{voice_of, held_of, ticks_by}
use Rattle.sid.specs.declared.Mos6581.{Mos6581}
use Rattle.calls.specs.Calls.{Which, of}
use Rattle.tail.specs.declared.Ran.{Ran}

-- ---- the forecast: what it tells, clocks, or number and place of its refusal

-- '19 forecast wanted of a voice not in settled release, place 0'
abbrev pub settled_told : Option ℕ → Result ℕ Told
settled_told (Some clock) = Ok clock
settled_told None = Err (numbered 19 0)

-- 'Refusals: 3, then 19'
unfoldable pub forecast_of : Mos6581 → ℕ → Result ℕ Told
forecast_of c n = cond (ltb 2 n) (Err (numbered 3 0)) (settled_told (last_step_of (voice_of c n).envelope))

-- ---- the run: what it tells, 'the clocks run and whether it stopped', or number and place of its refusal

abbrev pub ran : ℕ → Bool → Ran
ran clocks stopped = record { clocks = clocks; stopped = stopped }

-- 'the first held clock if it is at most n, else n'
abbrev pub clocks_run : Mos6581 → ℕ → ℕ → ℕ
clocks_run c voice n = held_within n (voice_of c voice).envelope

-- the chip so many clocks later; as it was where there is no such voice
unfoldable pub ran_chip : Ways → Mos6581 → ℕ → ℕ → Mos6581
ran_chip w c voice n = cond (ltb 2 voice) c (ticks_by w (clocks_run c voice n) c)

-- it stopped if the voice is held after them
unfoldable pub ran_answer : Ways → Mos6581 → ℕ → ℕ → Result Ran Told
ran_answer w c voice n =
    cond (ltb 2 voice) (Err (numbered 3 0))
    (Ok (ran (clocks_run c voice n) (held_of (voice_of (ticks_by w (clocks_run c voice n) c) voice))))

-- the ticks of a chip by any engine, seen from the envelope of one of its voices
abbrev pub ticking : Ways → Which → Mos6581 → Runs
ticking ways w c = record { Run = ℕ; made = λ n. n; left = λ n. (of w (ticks_by ways n c)).envelope }
