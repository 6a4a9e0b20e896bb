-- Ways that tick every chip alike print the same listing of any score; so do a filled pack, an empty one and the plain
-- engine. Assumes nothing.
use Rattle.std.specs.Prelude.{Ok, Err}
use Prim.Native.Nat.{ℕ, zero, suc, ◌+◌, ◌-◌}
use mathlib.Core.Bool.{cond}
use mathlib.Core.List.{List, [], ◌∷◌, ◌++◌}
use mathlib.Core.Path.{◌≡◌, refl, ap, ap₂, ◌∙◌}
use Rattle.bus.specs.Bus.{lost}
use Rattle.oscillator.specs.Ways.{Ways, stepwise}
use Rattle.pack.specs.Pack.{filled, over}
use Rattle.pack.proofs.Engines.{over_filled, over_empty}
use Rattle.panel.specs.declared.Panel.{Panel}
use Rattle.panel.specs.Panel.{fresh, bus_of, clocked_by, ran_to_by}
use Rattle.score.specs.declared.Field.{Field}
use Rattle.score.specs.Scores.{Parsed, score_of}
use Rattle.sid.specs.declared.Mos6581.{Mos6581}
use Rattle.sid.specs.Sid.{ticked_by}
use Rattle.sid.proofs.Ticks.{ticks_alike}
use Rattle.player.specs.Listing.{line_of, done_by, at_stamp_by, fade_of, fades_by, watched_by, text_by, play_by, listing_of_by, listing_by, listing}

module _ (w x : Ways) (alike : (c : Mos6581) → ticked_by w c ≡ ticked_by x c) where
  ran_alike : (stamp : ℕ) (p : Panel) → ran_to_by w stamp p ≡ ran_to_by x stamp p
  unfolding ran_to_by
  ran_alike stamp p =
      let lacks = stamp - p.clock in
      ap (λ (c : Mos6581). record { chip = c; clock = p.clock + lacks; watched = p.watched }) (ticks_alike w x alike lacks p.chip)

  fades_alike : (n : ℕ) (p : Panel) → fades_by w n p ≡ fades_by x n p
  unfolding fades_by
  fades_alike zero p = refl
  fades_alike (suc n) p =
      let line = fade_of (p.clock + 1) (lost (bus_of p)) in
      let on : Mos6581 → Panel = λ c. record { chip = c; clock = p.clock + 1; watched = p.watched } in
      ap (λ (text : List ℕ). line ++ text) (fades_alike n (clocked_by w p))
      ∙ ap (λ (c : Mos6581). line ++ fades_by x n (on c)) (alike p.chip)

  watched_alike : (stamp : ℕ) (p : Panel) → watched_by w stamp p ≡ watched_by x stamp p
  unfolding watched_by
  watched_alike stamp p = ap (λ (text : List ℕ). cond p.watched text []) (fades_alike (stamp - p.clock) p)

  play_alike : (fs : List Field) (p : Panel) → play_by w fs p ≡ play_by x fs p
  unfolding play_by
  play_alike [] p = refl
  play_alike (f ∷ fs) p =
      let text : List ℕ → (Panel → List ℕ) → Panel → List ℕ = λ way play q. (way ++ line_of f.stamp f.what q) ++ play (done_by f.what q) in
      ap₂ (λ (way : List ℕ) (q : Panel). text way (play_by w fs) q) (watched_alike f.stamp p) (ran_alike f.stamp p)
      ∙ ap (λ (rest : List ℕ). text_by x f p ++ rest) (play_alike fs (done_by f.what (at_stamp_by x f p)))

  parsed_alike : (p : Parsed) → listing_of_by w p ≡ listing_of_by x p
  parsed_alike (Ok fs) = play_alike fs fresh
  parsed_alike (Err r) = refl

  pub listing_alike : (s : List ℕ) → listing_by w s ≡ listing_by x s
  unfolding listing_by
  listing_alike s = parsed_alike (score_of s)

pub listing_filled : (s : List ℕ) → listing_by (over filled) s ≡ listing s
listing_filled = listing_alike (over filled) stepwise over_filled

pub listing_empty : (s : List ℕ) → listing_by (over []) s ≡ listing s
listing_empty = listing_alike (over []) stepwise over_empty
