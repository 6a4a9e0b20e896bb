-- For the loop, which stores one clock after the other. Nothing here has to be believed: `stored_rendered`
-- (proofs/Stored) ties it to what a rendering leaves.
use Rattle.std.specs.Prelude.{ℕ, zero, suc, ◌*◌, cond, List, nat_lt}
use Rattle.std.proofs.lemmas.List.Edits.{sets}
use Rattle.oscillator.specs.Ways.{Ways}
use Rattle.sid.specs.Sid.{ticks_by}
use Rattle.sid.specs.declared.Mos6581.{Mos6581}
use Rattle.run.specs.Render.{six, clocks_in}

-- the first n clocks, as far as there is room
unfoldable pub stored_by : Ways → ℕ → Mos6581 → List ℕ → List ℕ
stored_by w zero c out = out
stored_by w (suc n) c out = cond (nat_lt n (clocks_in out)) (sets (stored_by w n c out) (n * 6) (six (ticks_by w (suc n) c))) (stored_by w n c out)
