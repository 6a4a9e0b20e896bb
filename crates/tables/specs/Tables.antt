-- Settled tables: document 01, 'Line loading' and 'Numbers a caller can get back'; waveforms.rs.
use Rattle.std.specs.Prelude.{Bool, cond, ◌&&◌, List, ℕ, eqb, ltb, length, Result, Ok, Err}
use Rattle.laws.specs.Build.{build}
use Rattle.refusals.specs.Refusals.{Told, numbered}
use Rattle.waveforms.specs.Waveforms.{settled, needs_loading}

-- ---- 'One selection fills a lent table of 4096 entries, entry i being the settled i for every i' (LineArray::generate)

-- not 'a selection above 15 or with under two bits'; 'selection 9 has a table'
unfoldable pub has_table : ℕ → Bool
has_table s = ltb s 16 && needs_loading s

-- number and place of the refusal, if any: 1 'table for a selection above 15 or with under two bits', 2 'table part not
-- 4096 entries', both at 0; '1 comes before 2'
unfoldable pub refusal : ℕ → ℕ → Result (Unit {0}) Told
refusal s size = cond (has_table s) (cond (eqb size 4096) (Ok tt) (Err (numbered 2 0))) (Err (numbered 1 0))

-- 'A refusal changes no state, table or output memory'
unfoldable pub table_after : ℕ → List ℕ → List ℕ
table_after s before = cond (has_table s && eqb (length before) 4096) (build (settled s) 4096) before
