-- What a run over a pack gives: document 02, request 3.
use Rattle.std.specs.Prelude.{ℕ, cond, List, length, ◌==◌}
use Rattle.sid.specs.declared.Mos6581.{Mos6581}
use Rattle.sid.specs.Sid.{ticks_by}
use Rattle.pack.specs.Pack.{pack_length, packed}

-- 'state … as before' where the pack has not 45,056 entries
unfoldable pub pack_ran : List ℕ → ℕ → Mos6581 → Mos6581
pack_ran pack n c = cond (length pack == pack_length) (ticks_by (packed pack) n c) c
