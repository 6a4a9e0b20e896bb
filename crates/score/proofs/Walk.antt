-- `walk`, one law for each way that a turn goes, and what the loop of `check_score` keeps. Assumes nothing.
use Rattle.std.specs.Prelude.{Ok, Err}
use Prim.Native.Nat.{ℕ, zero, suc, ◌-◌, ◌≤◌, ◌<◌}
use native.Mathlib.Omega.{arith}
use mathlib.Core.Bool.{true, false}
use mathlib.Core.List.{List, [], ◌∷◌}
use mathlib.Core.Path.{◌≡◌, refl, ap, sym, ◌∙◌}
use lib.ListN.{length}
use borrow.Author.Tests.{lt-ltb, le-ltb, le-leb, lt-leb}
use Rattle.refusals.specs.Refusals.{refused}
use Rattle.refusals.specs.declared.Refusal.{Refusal}
use Rattle.refusals.specs.declared.Refusal.TheVariants.{ScoreLength, AfterEnd, NoEnd}
use Rattle.refusals.specs.declared.Refused.{Refused}
use Rattle.score.specs.declared.Field.{Field}
use Rattle.score.specs.declared.Order.{Order}
use Rattle.score.specs.Fields.{is_end, field_at}
use Rattle.score.specs.Scores.{Parsed, push, after_read, walk, score_of, answer, checked}
use Rattle.score.specs.Stamps.{unstamped, admit}
use Rattle.score.proofs.Fields.{stands}

module _ (n : ℕ) (s : List ℕ) (at : ℕ) (o : Order) where
  pub over : length s ≤ at → walk (suc n) s at o ≡ Err (refused NoEnd (length s))
  unfolding walk
  over h = simp (le-leb (length s) at h)

  turn : at < length s → walk (suc n) s at o ≡ after_read (walk n s) s at o (field_at s at)
  unfolding walk
  turn h = simp (lt-leb (length s) at h)

  pub unread : {r : Refused} → at < length s → field_at s at ≡ Err r → walk (suc n) s at o ≡ Err r
  unread h e = rw (turn h, e)

  module _ {f : Field} {next : ℕ} (e : field_at s at ≡ Ok (f, next)) where
    got : walk (suc n) s at o ≡ after_read (walk n s) s at o (Ok (f, next))
    got = rw (turn (omega (arith, (stands s at e).whole.fits)), e)

    pub unadmitted : {why : Refusal} → admit o f ≡ Err why → walk (suc n) s at o ≡ Err (refused why at)
    unadmitted a = rw (got, a)

    module _ {o' : Order} (a : admit o f ≡ Ok o') where
      pub surplus : is_end f.what ≡ true → next < length s → walk (suc n) s at o ≡ Err (refused AfterEnd next)
      surplus i l = rw (got, a, i, lt-ltb next (length s) l)

      pub ended : is_end f.what ≡ true → length s ≤ next → walk (suc n) s at o ≡ Ok (f ∷ [])
      ended i l = rw (got, a, i, le-ltb next (length s) l)

      pub onward : is_end f.what ≡ false → walk (suc n) s at o ≡ push f (walk n s next o')
      onward i = rw (got, a, i)

answer_push : (f : Field) (p : Parsed) → is_end f.what ≡ false → answer (push f p) ≡ answer p
answer_push f (Ok fs) i = rw i
answer_push f (Err r) i = refl

pub answer_end : (f : Field) → is_end f.what ≡ true → answer (Ok (f ∷ [])) ≡ Ok f.stamp
answer_end f i = rw i

pub too_long : (s : List ℕ) → 65536 < length s → checked s ≡ Err (refused ScoreLength 0)
unfolding checked score_of
too_long s h = simp (lt-ltb 65536 (length s) h)

-- what the loop keeps: the walk from here answers what the whole score is answered
pub record Kept (s : List ℕ) (at : ℕ) (o : Order) : Type 0 where
  pub fuel : ℕ
  pub enough : length s - at ≤ fuel
  pub same : answer (walk (suc fuel) s at o) ≡ checked s

pub kept_first : (s : List ℕ) → length s ≤ 65536 → Kept s 0 unstamped
unfolding checked score_of
kept_first s h = record { fuel = length s; enough = omega arith; same = simp (le-ltb 65536 (length s) h) }

module _ {s : List ℕ} {at : ℕ} {o : Order} (k : Kept s at o) where
  pub kept_more : {f : Field} {next : ℕ} {o' : Order} → field_at s at ≡ Ok (f, next) → admit o f ≡ Ok o' → is_end f.what ≡ false → Kept s next o'
  kept_more {f} {next} {o'} e a i = go k.fuel k.enough k.same
    where
      go : (n : ℕ) → length s - at ≤ n → answer (walk (suc n) s at o) ≡ checked s → Kept s next o'
      go zero m q = absurd (omega (arith, (stands s at e).whole.fits))
      go (suc n) m q =
          record {
            fuel = n;
            enough = omega (arith, (stands s at e).ends);
            same = sym (answer_push f (walk (suc n) s next o') i) ∙ (sym (ap answer (onward (suc n) s at o e a i)) ∙ q);
          }

  pub kept_end : {p : Parsed} → ((n : ℕ) → walk (suc n) s at o ≡ p) → answer p ≡ checked s
  kept_end w = sym (ap answer (w k.fuel)) ∙ k.same
