-- What the scenes of tools/bench share; no rule of document 01.
use Rattle.std.specs.Prelude.{ℕ, zero, suc, ◌+◌, ◌*◌, ◌/◌, ◌%◌, ◌^◌}
use Rattle.laws.specs.Times.{times}
use Rattle.sid.specs.Sid.{fresh, written, code_of, level_of}
use Rattle.sid.specs.declared.Mos6581.{Mos6581}

-- codes and levels in one number
unfoldable pub digest : ℕ → ℕ → ℕ → ℕ → ℕ → ℕ → ℕ
digest c₀ c₁ c₂ l₀ l₁ l₂ = c₀ + c₁ * 4096 + c₂ * 16777216 + (l₀ + l₁ * 256 + l₂ * 65536) * 549755813888

-- what is heard of a chip
unfoldable pub heard : Mos6581 → ℕ
heard c =
    digest (code_of c.voice_0) (code_of c.voice_1) (code_of c.voice_2) (level_of c.voice_0) (level_of c.voice_1) (level_of c.voice_2)

-- one voice's registers written, its control last
unfoldable pub tuned : Mos6581 → ℕ → ℕ → ℕ → Mos6581
tuned c base frequency control =
    written
    (written
    (written
    (written
    (written (written (written c base (frequency % 256)) (base + 1) (frequency / 256)) (base + 2) 0x00)
    (base + 3) 0x08)
    (base + 5) 0x29)
    (base + 6) 0xa9)
    (base + 4) control

-- three voices of a fresh chip with one control byte
unfoldable pub scene : ℕ → Mos6581
scene control = tuned (tuned (tuned fresh 0 0x1d45 control) 7 0x2b11 control) 14 0x0f37 control

-- the digests of n clocks, each made by `clock`, summed
unfoldable pub summed : (Mos6581 → Mos6581) → ℕ → Mos6581 → ℕ
summed clock zero c = 0
summed clock (suc n) c = (summed clock n c + heard (times (suc n) clock c)) % 2 ^ 64

-- the next number of the seed
unfoldable pub next : ℕ → ℕ
next seed = (seed * 25173 + 13849) % 65536

-- a fresh chip after n writes, each of the seed's register and a value for it, and followed by its clocks
unfoldable pub stirred : (ℕ → Mos6581 → Mos6581) → (ℕ → ℕ → ℕ) → ℕ → ℕ → ℕ → Mos6581
stirred clocks value zero seed apart = fresh
stirred clocks value (suc n) seed apart =
    clocks apart
    (written (stirred clocks value n seed apart) (times (suc n) next seed % 21) (value (times (suc n) next seed % 21) (times (suc n) next seed)))
