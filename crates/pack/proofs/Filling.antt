-- A block filled as its selection's table holds the pack's entries there, and a fill is refused, or fills, by the pack's
-- length. Assumes nothing.
use mathlib.Core.Path.{◌≡◌, refl, ap, ap₂, sym, ◌∙◌}
use mathlib.Core.Bool.{Bool, true, false, ◌&&◌}
use mathlib.Core.List.{List, [], ◌∷◌, ◌++◌}
use Prim.Native.Nat.{ℕ, zero, suc, ◌+◌, ◌*◌, ◌/◌, ◌%◌, ◌<◌}
use native.Mathlib.Omega.{arith}
use native.Mathlib.Nat.{lt_trans, lt-suc_self}
use lib.Dec.{ltb, T}
use lib.ListN.{length, get_or}
use borrow.Author.Tests.{eq-eqb, ne_eqb, ltb-true}
use borrow.Rule.Slice.PartMut.{put_mid, mid_of, same_len_mid}
use Rattle.std.proofs.Common.{Result, Ok, Err, append-nil, append_assoc, add-zero, add-suc, drop}
use Rattle.std.proofs.Math.ListN.{length-drop}
use Rattle.std.proofs.lemmas.List.{length-take-le}
use Rattle.std.proofs.lemmas.Slice.{take-put_mid}
use Rattle.laws.specs.Build.{build}
use Rattle.laws.proofs.Build.{Built, length_build}
use Rattle.laws.proofs.Bools.{and_left, and_right}
use Rattle.laws.proofs.Table.{at}
use Rattle.refusals.specs.Refusals.{numbered, Told, told, tells}
use Rattle.refusals.specs.declared.Refused.{Refused}
use Rattle.waveforms.specs.Waveforms.{drivers, needs_loading, settled}
use Rattle.tables.specs.Tables.{refusal as tables_refusal, table_after}
use Rattle.tables.proofs.Filling.{filled as table_filled}
use Rattle.pack.specs.Pack.{pack_length, selections, selection_of, settled_entry, filled, refusal, pack_after}

pub block_entry : (block value : ℕ) → value < 4096 → settled (selection_of block) value ≡ settled_entry (block * 4096 + value)
unfolding settled_entry
block_entry block value h =
    let q : (block * 4096 + value) / 4096 ≡ block = omega arith in
    let r : (block * 4096 + value) % 4096 ≡ value = omega arith in
    rw (q, r)

build_join : (f g : ℕ → ℕ) (i m : ℕ) → ((k : ℕ) → k < m → g k ≡ f (i + k)) → build f i ++ build g m ≡ build f (i + m)
unfolding build
build_join f g i zero h = rw add-zero (append-nil (build f i))
build_join f g i (suc m) h =
    rw add-suc
    (sym (append_assoc (build f i) (build g m) (g m ∷ []))
    ∙ ap₂ (λ (l : List ℕ) (x : ℕ). l ++ (x ∷ [])) (build_join f g i m (λ k l. h k (lt_trans l (lt-suc_self m)))) (h m (lt-suc_self m)))

-- a block of the pack
pub block_length : (block : ℕ) → block < 11 → (l : List ℕ) (k : ℕ) → length l ≡ pack_length → k ≡ 4096 → length (mid_of (block * 4096) k l) ≡ 4096
block_length block h l k n q = length-take-le k (drop (block * 4096) l) (omega (arith, length-drop (block * 4096) l)) ∙ q

is_true : (b : Bool) → T b → b ≡ true
is_true true t = refl
is_true false t = absurd t

abbrev checks : ℕ → ℕ → Bool
checks k s = ltb s 16 && needs_loading s

-- each block's selection has a table
module _ (block : ℕ) (h : block < 11) where
  abbrev s : ℕ
  s = get_or selections block 0

  both : (ltb s 16 && needs_loading s) ≡ true
  unfolding needs_loading drivers
  both = is_true _ (at checks selections tt block h)

  pub block_filled
      : (t : List ℕ) → length t ≡ 4096 → (Ok tt ≡ tables_refusal s (length t)) × (build (settled s) 4096 ≡ table_after s t)
  block_filled t n = table_filled s t (ltb-true s 16 (and_left (ltb s 16) (needs_loading s) both)) (and_right (ltb s 16) (needs_loading s) both) n

  -- one block more is filled
  pub block_more
      : {l t : List ℕ} {k : ℕ} → Built settled_entry pack_length l (block * 4096) → k ≡ 4096 → t ≡ build (settled s) 4096
      → Built settled_entry pack_length (put_mid (block * 4096) k l t) ((block + 1) * 4096)
  unfolding selection_of
  block_more {l} {t} {k} b q e =
      let n : length t ≡ 4096 = ap length e ∙ length_build (settled s) 4096 in
      let j : block * 4096 + 4096 ≡ (block + 1) * 4096 = omega arith in
      record {
        within = omega arith;
        whole = same_len_mid (block * 4096) k l t (n ∙ sym (block_length block h l k b.whole q)) ∙ b.whole;
        front =
            take-put_mid (block * 4096) k l t ((block + 1) * 4096) (omega arith) (omega (arith, b.whole))
            ∙ (ap₂ (λ (x y : List ℕ). x ++ y) b.front e
            ∙ (build_join settled_entry (settled s) (block * 4096) 4096 (λ v l. block_entry block v l) ∙ ap (build settled_entry) j));
      }

-- what tells that it was filled was not refused
pub unrefused
    : {r : Result (Unit {0}) Refused} {x : Result (Unit {0}) Told} {e : Refused} → tells r ≡ x → Ok tt ≡ x → r ≡ Err e → ⊥
unrefused {r} {x} {e} a b c = let q : Err (told e) ≡ Ok tt = sym (ap tells c) ∙ (a ∙ sym b) in cc

module _ (pack : List ℕ) where
  pub wrong_length : (length pack ≡ pack_length → ⊥) → (Err (numbered 15 0) ≡ refusal (length pack)) × (pack ≡ pack_after pack)
  unfolding refusal pack_after
  wrong_length n = (rw (ne_eqb (length pack) pack_length n), rw (ne_eqb (length pack) pack_length n))

  pub right_length : length pack ≡ pack_length → (Ok tt ≡ refusal (length pack)) × (filled ≡ pack_after pack)
  unfolding refusal pack_after
  right_length e = (rw (eq-eqb (length pack) pack_length e), rw (eq-eqb (length pack) pack_length e))
