-- What a tick gives: document 01, 'Added by the port'; over a pack: document 02, request 3; of the bus: request 5.
use Rattle.std.specs.Prelude.{ℕ, cond, List, length, ◌==◌}
use Rattle.bus.specs.Bus.{lost}
use Rattle.sid.specs.Sid.{code_of, level_of, ticked_by}
use Rattle.sid.specs.declared.Mos6581.{Mos6581}
use Rattle.pack.specs.Pack.{pack_length, packed}
use Rattle.tick.specs.declared.Ticked.{Ticked}

-- 'a tick that … gives three 12-bit codes and three levels', 'the tick hands that on': the bits that the bus lost, and
-- the chip after it
unfoldable pub outputs : ℕ → Mos6581 → Ticked
outputs bits c = record {
  chip = c;
  code_0 = code_of c.voice_0;
  code_1 = code_of c.voice_1;
  code_2 = code_of c.voice_2;
  level_0 = level_of c.voice_0;
  level_1 = level_of c.voice_1;
  level_2 = level_of c.voice_2;
  lost = bits;
}

-- over a pack; 'state … as before', and so no bit lost, where it has not 45,056 entries
unfoldable pub pack_ticked : List ℕ → Mos6581 → Ticked
pack_ticked pack c =
    outputs (cond (length pack == pack_length) (lost c.data_bus) 0)
    (cond (length pack == pack_length) (ticked_by (packed pack) c) c)
