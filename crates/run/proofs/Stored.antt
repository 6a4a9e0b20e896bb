-- What a loop stores, one clock after the other, is what a rendering leaves (`stored_rendered`): the i-th six are
-- those of the i-th tick (`rendered_six`), and past the last whole clock all is as it was (`rendered_past`). Assumes
-- nothing.
use Rattle.std.proofs.Common.{◌≡◌, ℕ, zero, suc, ◌+◌, ◌*◌, ◌/◌, ◌%◌, ◌<◌, ◌≤◌, Bool, true, false, cond, ltb, List, [], ◌∷◌, ◌++◌, length, get_or, take, drop, sym, refl, ap, ◌∙◌, subst, ap₂, append_assoc, le_refl, add-one, arith, drop-drop, take_at, drop_at, le-ltb, lt-ltb}
use lib.ListN.{get_or-append}
use borrow.Rule.Slice.PartMut.{put_mid}
use lib.Seq.{sets, length-sets, sets-eq}
use Rattle.laws.specs.Build.{build}
use Rattle.laws.proofs.Build.{length_build, build_at, build_same}
use Rattle.laws.proofs.Loops.{ended}
use Rattle.laws.proofs.Times.{times_add}
use Rattle.oscillator.specs.Ways.{Ways}
use Rattle.sid.specs.Sid.{ticks_by, ticked_by}
use Rattle.sid.specs.declared.Mos6581.{Mos6581}
use Rattle.sid.proofs.Ticks.{ticks_alike}
use Rattle.run.specs.Render.{six, heard_at, clocks_in, rendered_by}
use Rattle.run.specs.Loop.{stored_by}

-- a part copied over is a store of each of its entries
pub put_sets : (l vs : List ℕ) (m k : ℕ) → k ≡ length vs → m + length vs ≤ length l → put_mid m k l vs ≡ sets l m vs
put_sets l vs m k e fits =
    ap (λ (x : List ℕ). take m l ++ (vs ++ x)) (drop-drop k m l ∙ ap (λ (j : ℕ). drop (m + j) l) e)
    ∙ sym (sets-eq vs l m fits ∙ append_assoc (take m l) vs (drop (m + length vs) l))

module _ (w : Ways) (c : Mos6581) where
  -- a turn of the loop: it stores a clock where there is room for one
  pub stored_more
      : (before : List ℕ) {i : ℕ} {out after : List ℕ} {chip : Mos6581}
      → out ≡ stored_by w i c before → chip ≡ ticks_by w (i + 1) c → i < clocks_in before → after ≡ sets out (i * 6) (six chip)
      → after ≡ stored_by w (i + 1) c before
  unfolding stored_by
  stored_more before {i} {out} {after} {chip} so_far ticked room made =
      rw add-one
      (rw (lt-ltb i (clocks_in before) room)
      (made ∙ ap₂ (λ (l : List ℕ) (x : Mos6581). sets l (i * 6) (six x)) so_far (ticked ∙ ap (λ (k : ℕ). ticks_by w k c) (add-one i))))

  pub stored_full
      : (before : List ℕ) {i : ℕ} {out after : List ℕ}
      → out ≡ stored_by w i c before → clocks_in before ≤ i → after ≡ out → after ≡ stored_by w (i + 1) c before
  unfolding stored_by
  stored_full before {i} so_far full same = rw add-one (rw (le-ltb i (clocks_in before) full) (same ∙ so_far))

  pub stored_length : (n : ℕ) (out : List ℕ) → length (stored_by w n c out) ≡ length out
  unfolding stored_by
  stored_length zero out = refl
  stored_length (suc n) out = go (ltb n (clocks_in out)) (stored_length n out)
    where
      go : (room : Bool) → length (stored_by w n c out) ≡ length out
          → length (cond room (sets (stored_by w n c out) (n * 6) (six (ticks_by w (suc n) c))) (stored_by w n c out)) ≡ length out
      go true h = length-sets (stored_by w n c out) (n * 6) (six (ticks_by w (suc n) c)) ∙ h
      go false h = h

  -- the six entries of a clock
  heard_of : (n k j : ℕ) → k ≡ n * 6 + j → j < 6 → get_or (six (ticks_by w (suc n) c)) j 0 ≡ heard_at w c k
  unfolding heard_at
  heard_of n k j e h =
      let q : suc n ≡ k / 6 + 1 = omega arith in
      let r : j ≡ k % 6 = omega arith in
      ap₂ (λ (x m : ℕ). get_or (six (ticks_by w x c)) m 0) q r

  one_more : (n : ℕ) (rest : List ℕ) → build (heard_at w c) n ++ (heard_at w c n ∷ rest) ≡ build (heard_at w c) (n + 1) ++ rest
  unfolding build
  one_more n rest = rw add-one (sym (append_assoc (build (heard_at w c) n) (heard_at w c n ∷ []) rest))

  -- six more entries
  six_more
      : (n : ℕ) (rest : List ℕ)
      → build (heard_at w c) (n * 6) ++ (six (ticks_by w (suc n) c) ++ rest) ≡ build (heard_at w c) (suc n * 6) ++ rest
  six_more n rest =
      let f = heard_at w c in
      let k1 = n * 6 + 1 in
      let k2 = k1 + 1 in
      let k3 = k2 + 1 in
      let k4 = k3 + 1 in
      let k5 = k4 + 1 in
      let e : k5 + 1 ≡ suc n * 6 = omega arith in
      let e0 = heard_of n (n * 6) 0 (omega arith) (omega arith) in
      let e1 = heard_of n k1 1 (omega arith) (omega arith) in
      let e2 = heard_of n k2 2 (omega arith) (omega arith) in
      let e3 = heard_of n k3 3 (omega arith) (omega arith) in
      let e4 = heard_of n k4 4 (omega arith) (omega arith) in
      let e5 = heard_of n k5 5 (omega arith) (omega arith) in
      (λ i. build f (n * 6) ++ (e0 i ∷ e1 i ∷ e2 i ∷ e3 i ∷ e4 i ∷ e5 i ∷ rest))
      ∙ (one_more (n * 6) (f k1 ∷ f k2 ∷ f k3 ∷ f k4 ∷ f k5 ∷ rest)
      ∙ (one_more k1 (f k2 ∷ f k3 ∷ f k4 ∷ f k5 ∷ rest)
      ∙ (one_more k2 (f k3 ∷ f k4 ∷ f k5 ∷ rest)
      ∙ (one_more k3 (f k4 ∷ f k5 ∷ rest) ∙ (one_more k4 (f k5 ∷ rest) ∙ (one_more k5 rest ∙ ap (λ (k : ℕ). build f k ++ rest) e))))))

  -- n clocks for which there is room
  front : (n : ℕ) (out : List ℕ) → n ≤ clocks_in out → stored_by w n c out ≡ build (heard_at w c) (n * 6) ++ drop (n * 6) out
  unfolding stored_by build
  front zero out h = refl
  front (suc n) out h =
      let f = heard_at w c in
      let m = n * 6 in
      let vs = six (ticks_by w (suc n) c) in
      let l = build f m ++ drop m out in
      let e : m + 6 ≡ suc n * 6 = omega arith in
      let past : drop (m + 6) l ≡ drop (suc n * 6) out =
      sym (drop-drop 6 m l) ∙ (ap (drop 6) (drop_at (build f m) (drop m out) m (length_build f m)) ∙ (drop-drop 6 m out ∙ ap (λ (k : ℕ). drop k out) e)) in
      let fits : m + 6 ≤ length out = omega (arith, h) in
      let whole : length (stored_by w n c out) ≡ length out = stored_length n out in
      let before = front n out (omega arith) in
      rw (lt-ltb n (clocks_in out) (omega arith))
      (ap (λ (x : List ℕ). sets x m vs) before
      ∙ (sets-eq vs l m (subst (λ (x : List ℕ). m + 6 ≤ length x) before (omega (arith, whole, fits)))
      ∙ (append_assoc (take m l) vs (drop (m + 6) l)
      ∙ (ap₂ (λ (x y : List ℕ). x ++ (vs ++ y)) (take_at (build f m) (drop m out) m (length_build f m)) past
      ∙ six_more n (drop (suc n * 6) out)))))

  pub stored_rendered : (out : List ℕ) → stored_by w (clocks_in out) c out ≡ rendered_by w c out
  unfolding rendered_by
  stored_rendered out = front (clocks_in out) out (le_refl (clocks_in out))

  pub stored_all : (before : List ℕ) {out : List ℕ} {i n : ℕ} → i ≤ n → n ≤ i → out ≡ stored_by w i c before → out ≡ stored_by w n c before
  stored_all before {out} {i} {n} h k p = ended (λ j. stored_by w j c before) out i n h k p

  -- the i-th six are what the i-th tick gives, counted from 0
  pub rendered_six : (out : List ℕ) (i j : ℕ) → i < clocks_in out → j < 6 → get_or (rendered_by w c out) (i * 6 + j) 0 ≡ get_or (six (ticks_by w (i + 1) c)) j 0
  unfolding rendered_by
  rendered_six out i j h k =
      let f = heard_at w c in
      let n = clocks_in out * 6 in
      let built : length (build f n) ≡ n = length_build f n in
      get_or-append (build f n) (drop n out) 0 (i * 6 + j) (omega (arith, built))
      ∙ (build_at f n (i * 6 + j) 0 (omega arith)
      ∙ (sym (heard_of i (i * 6 + j) j refl k) ∙ ap (λ (x : ℕ). get_or (six (ticks_by w x c)) j 0) (sym (add-one i))))

  -- what is left past the last whole clock is as it was
  pub rendered_past : (out : List ℕ) → drop (clocks_in out * 6) (rendered_by w c out) ≡ drop (clocks_in out * 6) out
  unfolding rendered_by
  rendered_past out =
      let n = clocks_in out * 6 in
      drop_at (build (heard_at w c) n) (drop n out) n (length_build (heard_at w c) n)

  -- a rendering goes on where the one before it ended: n clocks later the entries are those of n clocks on
  pub rendered_on : (n k : ℕ) → heard_at w (ticks_by w n c) k ≡ heard_at w c (n * 6 + k)
  unfolding heard_at
  rendered_on n k =
      let q : n + (k / 6 + 1) ≡ (n * 6 + k) / 6 + 1 = omega arith in
      let r : k % 6 ≡ (n * 6 + k) % 6 = omega arith in
      ap (λ (x : Mos6581). get_or (six x) (k % 6) 0) (times_add (ticked_by w) (k / 6 + 1) n c)
      ∙ ap₂ (λ (x m : ℕ). get_or (six (ticks_by w x c)) m 0) q r

-- engines that tick alike render alike
pub rendered_alike
    : (w v : Ways) → ((c : Mos6581) → ticked_by w c ≡ ticked_by v c) → (c : Mos6581) (out : List ℕ) → rendered_by w c out ≡ rendered_by v c out
unfolding rendered_by heard_at
rendered_alike w v same c out =
    ap (λ (l : List ℕ). l ++ drop (clocks_in out * 6) out)
    (build_same (heard_at w c) (heard_at v c) (clocks_in out * 6)
    (λ k h. ap (λ (x : Mos6581). get_or (six x) (k % 6) 0) (ticks_alike w v same (k / 6 + 1) c)))
