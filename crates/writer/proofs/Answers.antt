-- `appended`, one law for each way that a field is judged, and one over all of them; what a field that was taken says
-- of the writer. Assumes nothing.
use Rattle.std.specs.Prelude.{Result, Ok, Err}
use Prim.Native.Nat.{ℕ, ◌+◌, ◌-◌, ◌≤◌, ◌<◌}
use native.Mathlib.Omega.{arith}
use mathlib.Core.Bool.{Bool, true, false}
use mathlib.Core.List.{List, ◌++◌, append_assoc}
use mathlib.Core.Path.{◌≡◌, refl, ap, sym, ◌∙◌}
use lib.Dec.{ltb}
use lib.ListN.{length, take, drop}
use lib.Seq.{drop-drop, sets-eq, length-sets}
use borrow.Author.Tests.{lt-ltb, le-ltb, ltb-true, ltb-false}
use Rattle.laws.proofs.Cond.{by_test}
use Rattle.refusals.specs.declared.Refusal.{Refusal}
use Rattle.refusals.specs.declared.Refusal.TheVariants.{AfterEnd, ScoreLength, NoRoom}
use Rattle.refusals.specs.declared.Refused.{Refused}
use Rattle.score.specs.declared.Field.{Field}
use Rattle.score.specs.declared.Order.{Order}
use Rattle.score.specs.Fields.{is_end, written}
use Rattle.score.specs.Stamps.{admit}
use Rattle.score.proofs.Written.{shape}
use Rattle.writer.specs.declared.Writer.{Writer}
use Rattle.writer.specs.Writer.{Appended, refuse, past, placed, appended, taken, buffered}

pub written_some : (f : Field) → (7 ≤ length (written f)) × (length (written f) ≤ 9)
written_some f = let sh = shape f.stamp f.what in (omega (arith, sh.four, sh.long), omega (arith, sh.six, sh.long))

module _ (room : ℕ) (w : Writer) (f : Field) where
  abbrev after : ℕ
  after = w.at + length (written f)

  pub after_end : w.ended ≡ true → appended room w f ≡ refuse AfterEnd w.at
  unfolding appended
  after_end e = rw e

  module _ (going : w.ended ≡ false) where
    pub unadmitted : {why : Refusal} → admit w.order f ≡ Err why → appended room w f ≡ refuse why w.at
    unfolding appended
    unadmitted a = rw (going, a)

    module _ {o : Order} (a : admit w.order f ≡ Ok o) where
      pub too_long : 65536 < after → appended room w f ≡ refuse ScoreLength w.at
      unfolding appended
      too_long h = rw (going, a, lt-ltb 65536 after h)

      module _ (h : after ≤ 65536) where
        pub no_room : room < after → appended room w f ≡ refuse NoRoom w.at
        unfolding appended
        no_room r = rw (going, a, le-ltb 65536 after h, lt-ltb (room - w.at) (length (written f)) (omega (arith, (written_some f).0)))

        pub fitting : after ≤ room → appended room w f ≡ Ok (past w f o)
        unfolding appended
        fitting r = rw (going, a, le-ltb 65536 after h, le-ltb (room - w.at) (length (written f)) (omega arith))

  -- what holds of every way holds of the answer
  pub by_answer
      : (P : Appended → Type 0)
      → (w.ended ≡ true → P (refuse AfterEnd w.at))
      → ((why : Refusal) → w.ended ≡ false → admit w.order f ≡ Err why → P (refuse why w.at))
      → (w.ended ≡ false → 65536 < after → P (refuse ScoreLength w.at))
      → (w.ended ≡ false → after ≤ 65536 → room < after → P (refuse NoRoom w.at))
      → ((o : Order) → w.ended ≡ false → admit w.order f ≡ Ok o → after ≤ 65536 → after ≤ room → P (Ok (past w f o)))
      → P (appended room w f)
  unfolding appended
  by_answer P over late long full next =
      by_test P w.ended _ _ over (λ going. go going (admit w.order f) refl)
    where
      go : w.ended ≡ false → (a : Result Order Refusal) → admit w.order f ≡ a → P (placed room w f a)
      go going (Err why) e = late why going e
      go going (Ok o) e =
          by_test P (ltb 65536 after) _ _ (λ h. long going (ltb-true _ _ h))
          (λ h. by_test P (ltb (room - w.at) (length (written f))) _ _
          (λ r. full going (ltb-false _ _ h) (omega (arith, ltb-true (room - w.at) (length (written f)) r)))
          (λ r. next o going e (ltb-false _ _ h) (omega (arith, ltb-false (room - w.at) (length (written f)) r, (written_some f).0))))

-- a field that was taken: the writer was open, the stamp is admitted, and the field fits in score and buffer
pub record Takes (room : ℕ) (w : Writer) (f : Field) (w' : Writer) : Type 0 where
  pub going : w.ended ≡ false
  pub admitted : admit w.order f ≡ Ok w'.order
  pub short : w.at + length (written f) ≤ 65536
  pub fits : w.at + length (written f) ≤ room
  pub reached : w'.at ≡ w.at + length (written f)
  pub closes : w'.ended ≡ is_end f.what

pub takes : {room : ℕ} {w : Writer} {f : Field} {w' : Writer} → appended room w f ≡ Ok w' → Takes room w f w'
takes {room} {w} {f} {w'} =
    by_answer room w f (λ (a : Appended). a ≡ Ok w' → Takes room w f w')
    (λ _. refuses) (λ _ _ _. refuses) (λ _ _. refuses) (λ _ _ _. refuses)
    (λ o going a h r e. record { going = going; admitted = a ∙ ap Ok (cc); short = h; fits = r; reached = cc; closes = cc })
  where
    refuses : {t : Refused} → Err t ≡ Ok w' → Takes room w f w'
    refuses e = let z : ◌≡◌ {A = ℕ} 0 1 = cc in absurd (omega arith)

module _ (l : List ℕ) (w : Writer) (f : Field) where
  -- what `append` promises, by its answer
  pub promised : {a : Appended} → appended (length l) w f ≡ a → (a ≡ appended (length l) w f) × (taken l w f a ≡ buffered l w f)
  unfolding buffered
  promised e = (sym e, ap (taken l w f) (sym e))

  -- of a field that fits: its bytes between those before it and those after it
  pub placed_at
      : {o : Order} {b : Bool} {xs : List ℕ} {k : ℕ}
      → appended (length l) w f ≡ Ok (past w f o)
      → w.at + length (written f) ≤ length l
      → xs ≡ written f
      → b ≡ is_end f.what
      → k ≡ length (written f)
      → (Ok (record { at = w.at + length xs; order = o; ended = b }) ≡ appended (length l) w f)
      × (take w.at l ++ (xs ++ drop k (drop w.at l)) ≡ buffered l w f)
  placed_at e h is i n =
      let p = promised e in
      let m = sets-eq (written f) l w.at h ∙ append_assoc (take w.at l) (written f) (drop (w.at + length (written f)) l) in
      rw (is, i, n, drop-drop (length (written f)) w.at l) (p.0, sym m ∙ p.1)

-- a call keeps the buffer's length
pub buffered_length : (l : List ℕ) (w : Writer) (f : Field) → length (buffered l w f) ≡ length l
unfolding buffered
buffered_length l w f = go (appended (length l) w f)
  where
    go : (a : Appended) → length (taken l w f a) ≡ length l
    go (Ok _) = length-sets l w.at (written f)
    go (Err _) = refl
