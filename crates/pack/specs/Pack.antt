-- The pack of settled tables: document 02, request 3, 'An engine that reads settled tables'.
use Rattle.std.specs.Prelude.{cond, List, [], ◌∷◌, ℕ, ◌+◌, ◌-◌, ◌*◌, ◌/◌, ◌%◌, eqb, ltb, length, get_or, Result, Ok, Err}
use Rattle.laws.specs.Build.{build}
use Rattle.refusals.specs.Refusals.{Told, numbered}
use Rattle.waveforms.specs.Waveforms.{settled, loaded}
use Rattle.oscillator.specs.Ways.{Ways, loading}

-- ---- 'one lent pack of 45,056 entries, eleven blocks for selections 3, 5, 6, 7 and 9 to 15 in that order'

abbrev pub pack_length : ℕ
pack_length = 45056

abbrev pub selections : List ℕ
selections = 3 ∷ 5 ∷ 6 ∷ 7 ∷ 9 ∷ 10 ∷ 11 ∷ 12 ∷ 13 ∷ 14 ∷ 15 ∷ []

-- the selection whose table a block is
unfoldable pub selection_of : ℕ → ℕ
selection_of block = get_or selections block 0

-- the block of a selection: 0 to 3 for 3, 5, 6 and 7, and 5 less from 9 on. One that has no table has none, and what
-- stands here for it is never asked for
unfoldable pub block_of : ℕ → ℕ
block_of s = cond (ltb s 5) 0 (cond (ltb s 9) (s - 4) (s - 5))

-- where a selection's block holds the entry of a code, cut to twelve bits
unfoldable pub entry_at : ℕ → ℕ → ℕ
entry_at s code = block_of s * 4096 + code % 4096

-- ---- 'and a call that fills it'

-- entry i of a block is 'the settled i' of its selection
unfoldable pub settled_entry : ℕ → ℕ
settled_entry k = settled (selection_of (k / 4096)) (k % 4096)

unfoldable pub filled : List ℕ
filled = build settled_entry pack_length

-- '15 pack not 45,056 entries, at place 0'
unfoldable pub refusal : ℕ → Result (Unit {0}) Told
refusal size = cond (eqb size pack_length) (Ok tt) (Err (numbered 15 0))

-- 'state and pack as before'
unfoldable pub pack_after : List ℕ → List ℕ
pack_after before = cond (eqb (length before) pack_length) filled before

-- ---- 'With any other pack its answer is that of 01's rules with the entry, cut to twelve bits, in place of the settled
-- code': the chip's ways, but for the code that is loaded, which `loaded_code_by` cuts

abbrev pub packed : List ℕ → Ways
packed pack = loading (λ s code. get_or pack (entry_at s code) 0)

-- ---- a lent slice of any length: a code's entry where it has it; where not, the code is settled afresh. `over_packed`,
-- `over_empty` (proofs/Engines): one of 45,056 entries is the pack's engine, an empty one the plain one

unfoldable pub loaded_over : List ℕ → ℕ → ℕ → ℕ
loaded_over pack s code = cond (ltb (entry_at s code) (length pack)) (get_or pack (entry_at s code) 0) (loaded s code)

abbrev pub over : List ℕ → Ways
over pack = loading (loaded_over pack)
