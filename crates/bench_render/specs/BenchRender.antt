-- What the scenes of tools/bench that are rendered have of their own; no rule of document 01.
use Rattle.std.specs.Prelude.{ℕ, zero, suc, List}
use Rattle.laws.specs.Times.{times}
use Rattle.sid.specs.Sid.{written}
use Rattle.sid.specs.declared.Mos6581.{Mos6581}
use Rattle.run.specs.Answers.{pack_ran}
use Rattle.run.specs.Render.{clocks_in, pack_rendered}
use Rattle.scenes.specs.Scenes.{scene}

-- a scene whose voices have each its own control byte
unfoldable pub mixed : ℕ → ℕ → ℕ → Mos6581
mixed control₀ control₁ control₂ = written (written (scene control₀) 0x0b control₁) 0x12 control₂

-- a buffer after n renderings into it, each from where the one before left the chip
unfoldable pub stored : List ℕ → ℕ → Mos6581 → List ℕ → List ℕ
stored pack zero c out = out
stored pack (suc n) c out = pack_rendered pack (times n (pack_ran pack (clocks_in out)) c) (stored pack n c out)
