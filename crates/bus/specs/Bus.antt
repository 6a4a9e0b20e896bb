-- The data bus: document 01, 'Data bus'; bus.rs.
use Rattle.std.specs.Prelude.{ℕ, ◌+◌, ◌*◌, ◌-◌, ◌/◌, ◌%◌, ◌^◌, min, max, List, [], ◌∷◌, cond, ltb, eqb}
use Rattle.laws.specs.Times.{times}
use Rattle.bus.specs.declared.InternalDataBus.{InternalDataBus}
use Rattle.bus.specs.declared.BusClock.{BusClock}

-- 'The holds for bits 0 to 7' (DATA_BUS_HOLD_CYCLES)
unfoldable pub holds : List ℕ
holds = 12 ∷ 26624 ∷ 34816 ∷ 38912 ∷ 7680 ∷ 11264 ∷ 15360 ∷ 43008 ∷ []

-- what is left of v after n clocks: 'exactly its bits whose hold exceeds n', the lowest bit's hold first (clock)
unfoldable pub kept : List ℕ → ℕ → ℕ → ℕ
kept [] v n = 0
kept (h ∷ hs) v n = cond (ltb n h) (v % 2) 0 + 2 * kept hs (v / 2) n

-- the largest number of 32 bits (u32::MAX): no line of the byte will fade
abbrev pub no_expiry : ℕ
no_expiry = 2 ^ 32 - 1

-- the least hold above n of a bit that is set in v (next_expiry_for)
unfoldable pub next_expiry_for : List ℕ → ℕ → ℕ → ℕ
next_expiry_for [] v n = no_expiry
next_expiry_for (h ∷ hs) v n = min (cond (eqb (v % 2) 1) (cond (ltb n h) h no_expiry) no_expiry) (next_expiry_for hs (v / 2) n)

-- new, and 'a chip reset clears the bus byte' (reset)
unfoldable pub fresh : InternalDataBus
fresh = record { value = 0; age = 0; next_expiry = no_expiry }

-- 'Every write, also to an unused address, drives the byte', and 'Reads of 0x19 to 0x1c … drive what they return'
-- (drive, read_driven); any other gives the value and leaves the bus as it is (read_floating)
unfoldable pub driven : ℕ → InternalDataBus
driven v = record { value = v; age = 0; next_expiry = next_expiry_for holds v 0 }

-- the bus with a byte that is not 0 once its age is n: bits go only where the next expiry has come (clock)
unfoldable pub aged : InternalDataBus → ℕ → InternalDataBus
aged b n =
    cond (ltb n b.next_expiry) (record b { age = n })
    (record { value = kept holds b.value n; age = n; next_expiry = next_expiry_for holds (kept holds b.value n) n })

-- 'age stops at value 0', and at the largest number (clock)
unfoldable pub clocked : InternalDataBus → InternalDataBus
clocked b = cond (eqb b.value 0) b (aged b (min (b.age + 1) (2 ^ 32 - 1)))

-- n clocks
abbrev pub clocks : ℕ → InternalDataBus → InternalDataBus
clocks n b = times n clocked b

-- document 02, request 5, 'which bits it lost on this clock': the byte before it without the byte after it. A clock
-- sets no bit, so that the difference has exactly the bits that went (`lost_bit`).
unfoldable pub lost : InternalDataBus → ℕ
lost b = b.value - (clocked b).value

unfoldable pub bus_clock : InternalDataBus → BusClock
bus_clock b = record { bus = clocked b; lost = lost b }

-- the clocks to the next one that may lose bits: any before it loses none (`none_lost`)
unfoldable pub to_expiry : InternalDataBus → ℕ
to_expiry b = cond (eqb b.value 0) no_expiry (max 1 (b.next_expiry - b.age))
