-- A score is accepted exactly if it is chained and at most 65,536 bytes long. Assumes nothing.
use Rattle.std.specs.Prelude.{Result, Ok, Err}
use Prim.Native.Nat.{ℕ, zero, suc, ◌+◌, ◌≤◌}
use native.Mathlib.Omega.{arith}
use mathlib.Core.List.{List}
use mathlib.Core.Logic.{◌↔◌}
use mathlib.Core.Path.{◌≡◌, ap, subst, sym, ◌∙◌}
use lib.ListN.{length}
use borrow.Author.Tests.{le-ltb}
use Rattle.refusals.specs.Refusals.{tells}
use Rattle.refusals.specs.declared.Refused.{Refused}
use Rattle.score.specs.declared.Field.{Field}
use Rattle.score.specs.declared.Order.{Order}
use Rattle.score.specs.Given.{Chained, Judged}
use Rattle.score.specs.Scores.{Parsed, push, walk, score_of, answer, checked, Chain, ends, goes}
use Rattle.score.specs.Stamps.{unstamped}
use Rattle.score.proofs.Fields.{stands}
use Rattle.score.proofs.Given.{verdict_tells, given_refused, Means, score_means, judged}
use Rattle.score.proofs.Walk.{ended, onward}

-- each field takes a byte or more
pub chain_le : {s : List ℕ} {at : ℕ} {o : Order} {fs : List Field} → Chain s at o fs → at + length fs ≤ length s
chain_le {s} {at} (ends e a i) = let st = stands s at e in omega arith
chain_le {s} {at} (goes e a i r) = let st = stands s at e in omega (arith, chain_le r)

walk_chain : {s : List ℕ} {at : ℕ} {o : Order} {fs : List Field} → Chain s at o fs → (n : ℕ) → length fs ≤ n → walk n s at o ≡ Ok fs
walk_chain (ends e a i) zero h = absurd (omega arith)
walk_chain {s} {at} {o} (ends e a i) (suc n) h = ended n s at o e a i (omega arith)
walk_chain (goes e a i r) zero h = absurd (omega arith)
walk_chain {s} {at} {o} (goes {f = f} e a i r) (suc n) h = onward n s at o e a i ∙ ap (push f) (walk_chain r n (omega arith))

pub chain_score : {s : List ℕ} {fs : List Field} → Chain s 0 unstamped fs → length s ≤ 65536 → score_of s ≡ Ok fs
unfolding score_of
chain_score {s} c h = simp (le-ltb 65536 (length s) h) (walk_chain c (suc (length s)) (omega (arith, chain_le c)))

pub score_chain : (s : List ℕ) {fs : List Field} → score_of s ≡ Ok fs → Chain s 0 unstamped fs × (length s ≤ 65536)
score_chain s e = subst (Means s 0 unstamped) e (score_means s)

pub accepted_exactly : (s : List ℕ) (clocks : ℕ) → (tells (checked s) ≡ Ok clocks) ↔ Chained s clocks
unfolding checked
accepted_exactly s clocks =
    (λ e. subst (Judged s) e (judged s), λ c. ap (λ (p : Parsed). tells (answer p)) (chain_score c.chain c.short) ∙ ap Ok c.stamp)

-- with `given_exactly`: document 01's words alone determine the answer
pub judged_tells : (s : List ℕ) (a b : Result ℕ Refused) → Judged s (tells a) → Judged s (tells b) → a ≡ b
judged_tells s a b p q = verdict_tells a b (sym (back a p) ∙ back b q)
  where
    back : (r : Result ℕ Refused) → Judged s (tells r) → tells (checked s) ≡ tells r
    back (Ok clocks) c = (accepted_exactly s clocks).1 c
    back (Err r) g = given_refused g
