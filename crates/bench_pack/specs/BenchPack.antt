-- What the scenes of tools/bench over a pack have of their own; no rule of document 01.
use Rattle.std.specs.Prelude.{ℕ, ◌/◌, List}
use Rattle.sid.specs.declared.Mos6581.{Mos6581}
use Rattle.tick.specs.Outputs.{pack_ticked}

-- one clock over a pack
unfoldable pub pack_tick : List ℕ → Mos6581 → Mos6581
pack_tick pack c = (pack_ticked pack c).chip

-- any byte to any register
unfoldable pub any_value : ℕ → ℕ → ℕ
any_value register seed = seed / 256
