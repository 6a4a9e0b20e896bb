-- Runs of calls, by any ways: joined they follow each other, and n ticks among them are `ticks_by n`, which by a chip's
-- ways is what `run` gives. Assumes nothing.
use mathlib.Core.Path.{◌≡◌, refl, ap, sym, ◌∙◌}
use mathlib.Core.List.{List, [], ◌∷◌, ◌++◌}
use Prim.Native.Nat.{ℕ, zero, suc, ◌+◌}
use native.Mathlib.Omega.{arith}
use Rattle.laws.proofs.Times.{times_none, times_first}
use Rattle.sid.specs.Sid.{ticked_by, ticks_by, Call, called_by, after_by, ticks_then, clocks_of}
use Rattle.oscillator.specs.Ways.{Ways}
use Rattle.sid.specs.declared.Mos6581.{Mos6581}

module _ (w : Ways) where
  pub after_join : (calls more : List Call) (c : Mos6581) → after_by w (calls ++ more) c ≡ after_by w more (after_by w calls c)
  unfolding after_by
  after_join [] more c = refl
  after_join (call ∷ calls) more c = after_join calls more (called_by w call c)

  pub after_ticks : (n : ℕ) (calls : List Call) (c : Mos6581) → after_by w (ticks_then n calls) c ≡ after_by w calls (ticks_by w n c)
  unfolding ticks_then after_by called_by
  after_ticks zero calls c = ap (after_by w calls) (sym (times_none (ticked_by w) c))
  after_ticks (suc n) calls c = after_ticks n calls (ticked_by w c) ∙ ap (after_by w calls) (sym (times_first (ticked_by w) n c))

pub count_ticks : (n : ℕ) (calls : List Call) → clocks_of (ticks_then n calls) ≡ n + clocks_of calls
unfolding ticks_then clocks_of
count_ticks zero calls = omega arith
count_ticks (suc n) calls = omega (arith, count_ticks n calls)
