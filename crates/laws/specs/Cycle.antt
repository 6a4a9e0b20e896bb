-- The 64-bit cycle: document 01, 'the 64-bit cycle wraps in transfer and leak times'.
use Rattle.std.specs.Prelude.{ℕ, ◌+◌, ◌%◌, ◌^◌}

-- a time that is not set (NEVER); it is a number of the cycle like any other
abbrev pub never : ℕ
never = 0xffffffffffffffff

-- n clocks after a cycle (wrapping_add)
abbrev pub after : ℕ → ℕ → ℕ
after cycle n = (cycle + n) % 2 ^ 64
