-- A loop that copies each entry from one place up has moved its first n after n turns. Assumes nothing.
use Rattle.std.proofs.Common.{◌≡◌, ℕ, suc, ◌+◌, ◌<◌, List, [], ◌∷◌, ◌++◌, length, get_or, take, drop, set, sym, ap, ◌∙◌, add-one, arith, length-drop, drop_of_length-le, length-take-le, get_or-drop, take_all, drop-cons, take-suc}
use lib.Seq.{set_at, append_snoc}

module _ (l : List ℕ) where
  -- a turn of the loop
  pub moved : (n : ℕ) → n + 1 < length l → set (take n (drop 1 l) ++ drop n l) n (get_or l (n + 1) 0) ≡ take (n + 1) (drop 1 l) ++ drop (n + 1) l
  moved n h =
      let k : n < length (drop 1 l) = simp length-drop (omega arith) in
      let p : length (take n (drop 1 l)) ≡ n = length-take-le n (drop 1 l) (omega arith) in
      ap (λ (m : List ℕ). set (take n (drop 1 l) ++ m) n (get_or l (n + 1) 0)) (drop-cons l n 0 (omega arith))
      ∙ set_at (take n (drop 1 l)) (get_or l n 0) (drop (suc n) l) (get_or l (n + 1) 0) n p
      ∙ sym (append_snoc (take n (drop 1 l)) (get_or l (n + 1) 0) (drop (suc n) l))
      ∙ ap (λ (x : ℕ). (take n (drop 1 l) ++ (x ∷ [])) ++ drop (suc n) l) (ap (λ (j : ℕ). get_or l j 0) (omega arith) ∙ sym (get_or-drop 1 l n 0))
      ∙ ap (λ (m : List ℕ). m ++ drop (suc n) l) (sym (take-suc (drop 1 l) n 0 k))
      ∙ ap (λ (j : ℕ). take j (drop 1 l) ++ drop j l) (sym (add-one n))

  -- the last place, stored once the others are moved
  pub shut : (n v : ℕ) → length l ≡ n + 1 → set (take n (drop 1 l) ++ drop n l) n v ≡ drop 1 l ++ (v ∷ [])
  shut n v e =
      let p : length (take n (drop 1 l)) ≡ n = length-take-le n (drop 1 l) (simp length-drop (omega arith)) in
      ap (λ (m : List ℕ). set (take n (drop 1 l) ++ m) n v) (drop-cons l n 0 (omega arith))
      ∙ set_at (take n (drop 1 l)) (get_or l n 0) (drop (suc n) l) v n p
      ∙ ap (λ (m : List ℕ). take n (drop 1 l) ++ v ∷ m) (drop_of_length-le l {i = suc n} (omega arith))
      ∙ ap (λ (m : List ℕ). m ++ (v ∷ [])) (take_all n (drop 1 l) (simp length-drop (omega arith)))
