-- Answers as the oracle's lists have them, in numbers of 64 bits; no rule of document 01.
use Rattle.std.specs.Prelude.{ℕ, ◌+◌, ◌*◌, ◌/◌, ◌%◌, ◌^◌, bit_or, bit_xor}
use Rattle.refusals.specs.Refusals.{number_of}
use Rattle.refusals.specs.declared.Refused.{Refused}

-- a sum and what it is spread by
abbrev pub spread : ℕ → ℕ
spread sum = (sum + sum * 2 ^ 10 % 2 ^ 64) % 2 ^ 64

abbrev pub folded : ℕ → ℕ
folded n = bit_xor n (n / 2 ^ 6)

-- the digest of one field more
abbrev pub mixed : ℕ → ℕ → ℕ
mixed digest field = folded (spread ((digest + field) % 2 ^ 64))

-- a refusal's number from bit 32 on, and its place
abbrev pub refusal : Refused → ℕ
refusal r = bit_or (number_of r.why * 2 ^ 32 % 2 ^ 64) r.place
