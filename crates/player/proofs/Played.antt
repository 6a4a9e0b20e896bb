-- By any ways, the lines of a player's steps, joined, are the score's listing, and leave the panel as it does. Assumes
-- nothing.
use Rattle.std.specs.Prelude.{Ok, Err}
use Prim.Native.Nat.{ℕ, zero, suc, ◌+◌, ◌*◌, ◌≤◌}
use native.Mathlib.Omega.{arith}
use mathlib.Core.List.{List, [], ◌++◌, append-nil}
use mathlib.Core.Path.{◌≡◌, refl, ap, sym, subst}
use lib.ListN.{length}
use Rattle.listing.specs.Text.{refused_line}
use Rattle.oscillator.specs.Ways.{Ways}
use Rattle.panel.specs.declared.Panel.{Panel}
use Rattle.panel.specs.Panel.{fresh}
use Rattle.refusals.specs.declared.Refused.{Refused}
use Rattle.refusals.specs.Refusals.{told}
use Rattle.score.specs.declared.Field.{Field}
use Rattle.score.specs.declared.Order.{Order}
use Rattle.score.specs.Fields.{FieldRead, field_at}
use Rattle.score.specs.Scores.{Parsed, score_of, answer, checked, Chain, ends, goes}
use Rattle.score.proofs.Chains.{score_chain}
use Rattle.score.proofs.Fields.{stands, whole_four}
use Rattle.player.specs.declared.Player.{Player}
use Rattle.player.specs.declared.Rest.TheVariants.{Fields, Refusal, Nothing}
use Rattle.player.specs.Listing.{play_by, played_by, listing_of_by, listing_by, panel_of_by}
use Rattle.player.specs.Steps.{player, rest_by, start_of, Turn, on_field, on_refusal, on_read, turn, lines, after, most_steps}

module _ (w : Ways) (s : List ℕ) (p : Player) where
  pub turn_nothing : p.rest ≡ Nothing → turn w s p ≡ record { next = player p.panel Nothing; text = [] }
  unfolding turn
  turn_nothing e = rw e

  pub turn_refusal : {r : Refused} → p.rest ≡ Refusal r → turn w s p ≡ on_refusal p.panel r
  unfolding turn
  turn_refusal e = rw e

  pub turn_read : {at : ℕ} {r : FieldRead} → p.rest ≡ Fields at → field_at s at ≡ r → turn w s p ≡ on_read w p.panel r
  unfolding turn
  turn_read e f = rw (e, f)

-- n steps from p print `text` and leave nothing to do, the panel being `panel`
pub record Plays (w : Ways) (n : ℕ) (s : List ℕ) (p : Player) (text : List ℕ) (panel : Panel) : Type 0 where
  pub prints : lines w n s p ≡ text
  pub leaves : after w n s p ≡ player panel Nothing

-- nothing is left to do
rests : (w : Ways) (n : ℕ) (s : List ℕ) (p : Panel) → Plays w n s (player p Nothing) [] p
unfolding lines after turn
rests w zero s p = record { prints = refl; leaves = refl }
rests w (suc n) s p = record { prints = (rests w n s p).prints; leaves = (rests w n s p).leaves }

-- a step, and the steps after it
then
    : {w : Ways} {n : ℕ} {s : List ℕ} {p : Player} {t : Turn} {text : List ℕ} {panel : Panel}
    → turn w s p ≡ t
    → Plays w n s t.next text panel
    → Plays w (suc n) s p (t.text ++ text) panel
unfolding lines after
then {w} {n} {s} {p} {t} {text} {panel} e q =
    subst (λ (x : Turn). Plays w (suc n) s p (x.text ++ text) panel) e
    (record {
      prints = ap (λ (x : List ℕ). (turn w s p).text ++ x) (subst (λ (x : Turn). lines w n s x.next ≡ text) (sym e) q.prints);
      leaves = subst (λ (x : Turn). after w n s x.next ≡ player panel Nothing) (sym e) q.leaves;
    })

-- chained fields are played, from any panel on
plays
    : {s : List ℕ} {at : ℕ} {o : Order} {fs : List Field}
    → Chain s at o fs
    → (w : Ways) (p : Panel) (n : ℕ)
    → length fs ≤ n
    → Plays w n s (player p (Fields at)) (play_by w fs p) (played_by w fs p)
unfolding play_by played_by on_field
plays (ends e a i) w p zero h = absurd (omega arith)
plays {s} (ends {at = at} {f = f} e a i) w p (suc n) h = then {t = on_field w p f _} (turn_read w s (player p (Fields at)) refl e) (rw i (rests w n s _))
plays (goes e a i r) w p zero h = absurd (omega arith)
plays {s} (goes {at = at} {f = f} e a i r) w p (suc n) h = then {t = on_field w p f _} (turn_read w s (player p (Fields at)) refl e) (rw i (plays r w _ n (omega arith)))

-- each field takes seven bytes or more
chain_sevens : {s : List ℕ} {at : ℕ} {o : Order} {fs : List Field} → Chain s at o fs → at + 7 * length fs ≤ length s
chain_sevens {s} {at} (ends e a i) = let st = stands s at e in omega (arith, whole_four st.whole)
chain_sevens {s} {at} (goes e a i r) = let st = stands s at e in omega (arith, whole_four st.whole, chain_sevens r)

module _ (w : Ways) (s : List ℕ) where
  from
      : (p : Parsed)
      → score_of s ≡ p
      → (n : ℕ)
      → ((fs : List Field) → score_of s ≡ Ok fs → length fs ≤ n)
      → 1 ≤ n
      → Plays w n s (player fresh (rest_by (answer p))) (listing_of_by w p) (panel_of_by w p)
  from (Ok fs) e n few h = plays (score_chain s e).0 w fresh n (few fs e)
  from (Err r) e zero few h = absurd (omega arith)
  from (Err r) e (suc n) few h =
      subst (λ (x : List ℕ). Plays w (suc n) s (player fresh (Refusal r)) x fresh) (append-nil (refused_line (told r)))
      (then (turn_refusal w s (player fresh (Refusal r)) refl) (rests w n s fresh))

  -- as many steps as `most_steps` do, or more
  pub steps_play : (n : ℕ) → most_steps ≤ n → Plays w n s (start_of s) (listing_by w s) (panel_of_by w (score_of s))
  unfolding start_of checked listing_by
  steps_play n h = from (score_of s) refl n (λ fs e. omega (arith, chain_sevens (score_chain s e).0, (score_chain s e).1)) (omega arith)

  pub enough_steps : lines w most_steps s (start_of s) ≡ listing_by w s
  enough_steps = (steps_play most_steps (omega arith)).prints
