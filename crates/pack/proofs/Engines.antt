-- A tick over a filled pack, or over none, is the plain tick, of every chip and every selection; over one of 45,056
-- entries it is that of document 01's rules with the pack's entry; and no tick reads the block of selection 9.
-- Assumes nothing.
use mathlib.Core.Bool.{Bool, true, false, not, ◌&&◌, ◌||◌, true≢false}
use mathlib.Core.List.{List, [], ◌∷◌}
use mathlib.Core.Path.{◌≡◌, refl, ap, sym, ◌∙◌}
use Prim.Native.Nat.{ℕ, ◌+◌, ◌*◌, ◌/◌, ◌%◌, ◌<◌}
use native.Mathlib.Omega.{arith}
use lib.Dec.{eqb, ltb, T}
use lib.ListN.{length, get_or}
use borrow.Author.Tests.{lt-ltb, le-ltb, ltb-true, eq-eqb, eqb-true}
use Rattle.laws.proofs.Build.{build_at, length_build}
use Rattle.laws.proofs.Bools.{and_left, and_right, implies}
use Rattle.laws.proofs.Table.{at}
use Rattle.waveforms.specs.Waveforms.{drivers, settled, needs_loading, loaded}
use Rattle.waveforms.proofs.Loading.{settled_cut}
use Rattle.oscillator.specs.Ways.{loading, stepwise}
use Rattle.oscillator.specs.Oscillator.{selected, loads_lines, loaded_code_by}
use Rattle.oscillator.specs.declared.Control.{Control}
use Rattle.oscillator.specs.declared.Oscillator.{Oscillator}
use Rattle.oscillator.proofs.Alike.{Alike}
use Rattle.sid.specs.Sid.{ticked_by, ticked, next_cycle, Call, after_by, after}
use Rattle.sid.specs.declared.Mos6581.{Mos6581}
use Rattle.sid.proofs.Ticks.{chip_alike, after_alike}
use Rattle.pack.specs.Pack.{pack_length, block_of, selection_of, entry_at, settled_entry, filled, packed, loaded_over, over}
use Rattle.pack.proofs.Filling.{block_entry}

filled_length : length filled ≡ pack_length
unfolding filled
filled_length = length_build settled_entry pack_length

-- engines that load alike where a voice loads its lines tick every chip alike
pub loads_alike
    : (load other : ℕ → ℕ → ℕ)
    → ((k : Control) → loads_lines k ≡ true → (code : ℕ) → load (selected k).raw code ≡ other (selected k).raw code)
    → (c : Mos6581)
    → ticked_by (loading load) c ≡ ticked_by (loading other) c
unfolding loaded_code_by
loads_alike load other same c =
    chip_alike (loading load) (loading other) c (alike c.voice_0.oscillator) (alike c.voice_1.oscillator) (alike c.voice_2.oscillator)
  where
    alike : (o : Oscillator) → Alike (loading load) (loading other) o (next_cycle c)
    alike o = record { load = λ e code. ap (λ (x : ℕ). x % 4096) (same o.control e code); recover = λ _. refl; leak = λ _. refl }

-- what the blocks are to the selections of a voice that loads its lines, which is computed for each
abbrev fits : ℕ → Bool
fits s = ltb (block_of s) 11 && (not (eqb (block_of s) 4) && eqb (selection_of (block_of s)) s)

abbrev checks : ℕ → ℕ → Bool
checks s x = not (not (eqb s 9) && needs_loading s) || fits s

sixteen : List ℕ
sixteen = 0 ∷ 0 ∷ 0 ∷ 0 ∷ 0 ∷ 0 ∷ 0 ∷ 0 ∷ 0 ∷ 0 ∷ 0 ∷ 0 ∷ 0 ∷ 0 ∷ 0 ∷ 0 ∷ []

is_true : (b : Bool) → T b → b ≡ true
is_true true t = refl
is_true false t = absurd t

-- a voice that loads its lines has one of the eleven blocks, its own, and not that of selection 9
record Block (s : ℕ) : Type 0 where
  within : block_of s < 11
  not_nine : block_of s ≡ 4 → ⊥
  own : selection_of (block_of s) ≡ s

block_of_lem : (k : Control) → loads_lines k ≡ true → Block (selected k).raw
unfolding loads_lines needs_loading drivers block_of selection_of sixteen
block_of_lem k e =
    let s = (selected k).raw in
    let f = implies (not (eqb s 9) && needs_loading s) (fits s) (is_true _ (at checks sixteen tt s (omega arith))) e in
    let g = and_right (ltb (block_of s) 11) (not (eqb (block_of s) 4) && eqb (selection_of (block_of s)) s) f in
    record {
      within = ltb-true (block_of s) 11 (and_left (ltb (block_of s) 11) (not (eqb (block_of s) 4) && eqb (selection_of (block_of s)) s) f);
      not_nine = λ n. true≢false (sym (and_left (not (eqb (block_of s) 4)) (eqb (selection_of (block_of s)) s) g) ∙ ap not (eq-eqb (block_of s) 4 n));
      own = eqb-true (selection_of (block_of s)) s (and_right (not (eqb (block_of s) 4)) (eqb (selection_of (block_of s)) s) g);
    }

-- its entries stand in the pack
entry_within : (k : Control) → loads_lines k ≡ true → (code : ℕ) → entry_at (selected k).raw code < pack_length
unfolding entry_at
entry_within k e code = let b = (block_of_lem k e).within in omega arith

-- those of a filled pack are the settled codes, shown once over the selection
pub filled_entry : (k : Control) → loads_lines k ≡ true → (code : ℕ) → get_or filled (entry_at (selected k).raw code) 0 ≡ settled (selected k).raw code
unfolding filled entry_at
filled_entry k e code =
    let s = (selected k).raw in
    build_at settled_entry pack_length (block_of s * 4096 + code % 4096) 0 (entry_within k e code)
    ∙ (sym (block_entry (block_of s) (code % 4096) (omega arith))
    ∙ (ap (λ (x : ℕ). settled x (code % 4096)) (block_of_lem k e).own ∙ settled_cut s code))

settles : (k : Control) → loads_lines k ≡ true → (code : ℕ) → loaded (selected k).raw code ≡ settled (selected k).raw code
unfolding loaded loads_lines
settles k e code = rw (and_right (not (eqb (selected k).raw 9)) (needs_loading (selected k).raw) e)

-- 'With a pack so filled, it gives the same state, codes and levels as the plain tick, for every state and every
-- selection'
pub filled_plain : (c : Mos6581) → ticked_by (packed filled) c ≡ ticked c
filled_plain = loads_alike (λ s code. get_or filled (entry_at s code) 0) loaded (λ k e code. filled_entry k e code ∙ sym (settles k e code))

-- and so do its calls, of any run of them
pub after_filled : (calls : List Call) (c : Mos6581) → after_by (packed filled) calls c ≡ after calls c
after_filled = after_alike (packed filled) stepwise filled_plain

-- what the bodies do with a pack: with one of 45,056 entries, and with none
pub over_packed : (pack : List ℕ) → length pack ≡ pack_length → (c : Mos6581) → ticked_by (over pack) c ≡ ticked_by (packed pack) c
unfolding loaded_over
over_packed pack whole =
    loads_alike (loaded_over pack) (λ s code. get_or pack (entry_at s code) 0)
    (λ k e code. rw (lt-ltb (entry_at (selected k).raw code) (length pack) (omega (arith, entry_within k e code))))

pub over_empty : (c : Mos6581) → ticked_by (over []) c ≡ ticked c
unfolding loaded_over
over_empty = loads_alike (loaded_over []) loaded (λ k e code. rw (le-ltb (entry_at (selected k).raw code) 0 (omega arith)))

pub over_filled : (c : Mos6581) → ticked_by (over filled) c ≡ ticked c
over_filled c = over_packed filled filled_length c ∙ filled_plain c

-- packs that differ in the block of selection 9 alone tick alike: it is filled, but 'the voice doesn't load its lines'
pub nine_unread
    : (pack other : List ℕ)
    → ((k : ℕ) → (k / 4096 ≡ 4 → ⊥) → get_or pack k 0 ≡ get_or other k 0)
    → (c : Mos6581)
    → ticked_by (packed pack) c ≡ ticked_by (packed other) c
unfolding entry_at
nine_unread pack other same =
    loads_alike (λ s code. get_or pack (entry_at s code) 0) (λ s code. get_or other (entry_at s code) 0)
    (λ k e code.
    let b = block_of (selected k).raw in
    let q : (b * 4096 + code % 4096) / 4096 ≡ b = omega arith in
    same (entry_at (selected k).raw code) (λ n. (block_of_lem k e).not_nine (sym q ∙ n)))
