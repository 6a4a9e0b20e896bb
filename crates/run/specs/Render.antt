-- What a rendering stores: of each clock six numbers, three codes and three levels.
use Rattle.std.specs.Prelude.{ℕ, ◌+◌, ◌*◌, ◌/◌, ◌%◌, cond, List, [], ◌∷◌, ◌++◌, length, drop, ◌==◌, slice_index}
use Rattle.laws.specs.Build.{build}
use Rattle.oscillator.specs.Ways.{Ways}
use Rattle.sid.specs.Sid.{code_of, level_of, ticks_by}
use Rattle.sid.specs.declared.Mos6581.{Mos6581}
use Rattle.pack.specs.Pack.{pack_length, packed}

-- what a tick gives (`outputs` of tick/specs), of the chip after it, in the order in which it is stored
abbrev pub six : Mos6581 → List ℕ
six c =
    code_of c.voice_0 ∷ code_of c.voice_1 ∷ code_of c.voice_2
    ∷ level_of c.voice_0 ∷ level_of c.voice_1 ∷ level_of c.voice_2 ∷ []

-- entry k is of the tick k / 6, counted from 0
unfoldable pub heard_at : Ways → Mos6581 → ℕ → ℕ
heard_at w c k = slice_index (six (ticks_by w (k / 6 + 1) c)) (k % 6)

-- as many clocks as there is room for
abbrev pub clocks_in : List ℕ → ℕ
clocks_in out = length out / 6

-- and what is left past the last whole clock, as it was
unfoldable pub rendered_by : Ways → Mos6581 → List ℕ → List ℕ
rendered_by w c out = build (heard_at w c) (clocks_in out * 6) ++ drop (clocks_in out * 6) out

-- over a pack; 'everything as before' where it has not 45,056 entries
unfoldable pub pack_rendered : List ℕ → Mos6581 → List ℕ → List ℕ
pack_rendered pack c out = cond (length pack == pack_length) (rendered_by (packed pack) c out) out
