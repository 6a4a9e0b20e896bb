-- From the first watch on each clock that loses bits has its line, in its place, and shows the bus of a fresh chip
-- after exactly as many ticks (`fade_shows`); fields without a watch print their own lines alone (`plain_listing`).
-- Assumes nothing.
use Rattle.std.specs.Prelude.{Ok}
use Prim.Native.Nat.{ℕ, ◌+◌, ◌-◌, ◌≤◌, ◌<◌}
use native.Mathlib.Omega.{arith}
use mathlib.Core.Bool.{Bool, true, false, ◌||◌}
use mathlib.Core.List.{List, [], ◌∷◌, ◌++◌, append_assoc}
use mathlib.Core.Path.{◌≡◌, refl, ap, ap₂, ◌∙◌}
use Rattle.laws.specs.Times.{times}
use Rattle.bus.specs.Bus.{lost}
use Rattle.calls.proofs.Leaks.{clocks_as_01}
use Rattle.oscillator.specs.Ways.{stepwise}
use Rattle.panel.specs.declared.Panel.{Panel}
use Rattle.panel.specs.Panel.{fresh, bus_of, clocked_by, ran_to, ran_to_by, read_of}
use Rattle.score.specs.declared.Field.{Field}
use Rattle.score.specs.declared.What.{What}
use Rattle.score.specs.declared.What.TheVariants.{Write, Read, Levels, Watch, End}
use Rattle.score.specs.Scores.{score_of}
use Rattle.sid.specs.declared.Mos6581.{Mos6581}
use Rattle.sid.specs.Sid.{clocks_of}
use Rattle.player.specs.ScoreCalls.{calls_to, is_watch, watches, ShowsFade, plain}
use Rattle.player.specs.Listing.{line_of, done_by, at_stamp, fade_of, fades, watched, play, play_by, played, played_by, listing_of, listing, listing_by}
use Rattle.player.proofs.Clocks.{chip_called, clock_counts, stamp_clocks}
use Rattle.player.proofs.Fades.{fades_join, clocks_ran, fade_one, unwatched, watched_fades}
use Rattle.player.proofs.Lines.{play_join}

watched_done : (w : What) (p : Panel) → (done_by w p).watched ≡ (is_watch w || p.watched)
unfolding done_by read_of
watched_done (Write a v) p = refl
watched_done (Read a) p = refl
watched_done Levels p = refl
watched_done Watch p = refl
watched_done End p = refl

watched_field : (f : Field) (p : Panel) → (done_by f.what (at_stamp f p)).watched ≡ (is_watch f.what || p.watched)
unfolding ran_to_by
watched_field f p = watched_done f.what (at_stamp f p)

either_first : (a b c : Bool) → (b || (a || c)) ≡ ((a || b) || c)
either_first true true c = refl
either_first true false c = refl
either_first false b c = refl

-- a watch among the fields has started the watching, and nothing ends it
pub played_watched : (fs : List Field) (p : Panel) → (played fs p).watched ≡ (watches fs || p.watched)
unfolding played_by
played_watched [] p = refl
played_watched (f ∷ fs) p =
    played_watched fs (done_by f.what (at_stamp f p))
    ∙ (ap (λ (b : Bool). watches fs || b) (watched_field f p) ∙ either_first (is_watch f.what) (watches fs) p.watched)

-- ---- each clock's line

module _ (p : Panel) (clock stamp : ℕ) (h : p.clock ≤ clock) (k : clock < stamp) where
  abbrev reached : Panel
  reached = ran_to clock p

  there : times (clock - p.clock) (clocked_by stepwise) p ≡ reached
  there = let e : p.clock + (clock - p.clock) ≡ clock = omega arith in clocks_ran stepwise (clock - p.clock) p ∙ ap (λ (n : ℕ). ran_to n p) e

  reached_clock : reached.clock ≡ clock
  unfolding ran_to_by
  reached_clock = omega arith

  -- the clocks before it, its own, and those after it
  fades_parted : fades (stamp - p.clock) p ≡ fades (clock - p.clock) p ++ (fade_of (clock + 1) (lost (bus_of reached)) ++ fades (stamp - clock - 1) (clocked_by stepwise reached))
  unfolding times
  fades_parted =
      let rest = stamp - clock - 1 in
      let a : stamp - p.clock ≡ (clock - p.clock) + (1 + rest) = omega arith in
      ap (λ (n : ℕ). fades n p) a
      ∙ (fades_join stepwise (clock - p.clock) (1 + rest) p
      ∙ ap (λ (text : List ℕ). fades (clock - p.clock) p ++ text)
      (ap (fades (1 + rest)) there
      ∙ (fades_join stepwise 1 rest reached
      ∙ ap (λ (text : List ℕ). text ++ fades rest (clocked_by stepwise reached)) (fade_one stepwise reached ∙ ap (λ (n : ℕ). fade_of (n + 1) (lost (bus_of reached))) reached_clock))))

pub fade_shows
    : (s : List ℕ) (xs : List Field) (f : Field) (ys : List Field)
    → score_of s ≡ Ok (xs ++ (f ∷ ys))
    → watches xs ≡ true
    → (clock : ℕ)
    → (played xs fresh).clock ≤ clock
    → clock < f.stamp
    → ShowsFade (listing s) xs f clock
unfolding listing_by play_by
fade_shows s xs f ys e on clock h k =
    let m = stamp_clocks s xs f ys e in
    let p = played xs fresh in
    let q = ran_to clock p in
    let calls = calls_to 0 xs clock in
    let rest = play ys (done_by f.what (at_stamp f p)) in
    let ticks : clocks_of calls ≡ clock = omega (arith, clock_counts clock xs fresh, reached_clock p clock f.stamp h k) in
    let chip = chip_called clock xs fresh ∙ clocks_as_01 calls (omega (arith, ticks, m.not_over)) in
    let way : watched f.stamp p ≡ fades (f.stamp - p.clock) p = watched_fades stepwise f.stamp p (played_watched xs fresh ∙ ap (λ (b : Bool). b || false) on) in
    let before = fades (clock - p.clock) p in
    let own : Mos6581 → List ℕ = λ c. fade_of (clock + 1) (lost c.data_bus) in
    let later = fades (f.stamp - clock - 1) (clocked_by stepwise q) in
    let line = line_of f.stamp f.what (at_stamp f p) in
    record {
      rest = later ++ (line ++ rest);
      stands =
          ap listing_of e
          ∙ (play_join xs (f ∷ ys) fresh
          ∙ ap (λ (text : List ℕ). play xs fresh ++ text)
          (append_assoc (watched f.stamp p) line rest
          ∙ (ap (λ (text : List ℕ). text ++ (line ++ rest)) (way ∙ fades_parted p clock f.stamp h k)
          ∙ (append_assoc before (own q.chip ++ later) (line ++ rest)
          ∙ ap (λ (text : List ℕ). before ++ text)
          (append_assoc (own q.chip) later (line ++ rest) ∙ ap (λ (c : Mos6581). own c ++ (later ++ (line ++ rest))) chip)))));
      ticks = ticks;
    }

-- ---- without a watch

neither : (a b : Bool) → (a || b) ≡ false → (a ≡ false) × (b ≡ false)
neither true b e = let z : ◌≡◌ {A = ℕ} 0 1 = cc in absurd (omega arith)
neither false b e = (refl, e)

pub unwatched_plain : (fs : List Field) (p : Panel) → watches fs ≡ false → p.watched ≡ false → play fs p ≡ plain fs p
unfolding play_by plain
unwatched_plain [] p h e = refl
unwatched_plain (f ∷ fs) p h e =
    let q = done_by f.what (at_stamp f p) in
    let n = neither (is_watch f.what) (watches fs) h in
    let off : q.watched ≡ false = watched_field f p ∙ ap₂ ◌||◌ n.0 e in
    ap₂ (λ (way rest : List ℕ). (way ++ line_of f.stamp f.what (at_stamp f p)) ++ rest) (unwatched stepwise f.stamp p e) (unwatched_plain fs q n.1 off)

-- 'Scores without the field print as before'
pub plain_listing : (s : List ℕ) (fs : List Field) → score_of s ≡ Ok fs → watches fs ≡ false → listing s ≡ plain fs fresh
unfolding listing_by
plain_listing s fs e h = ap listing_of e ∙ unwatched_plain fs fresh h refl
