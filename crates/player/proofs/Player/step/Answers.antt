-- `Player::step` plays the field at the player's place, or tells the refusal; with nothing left it does nothing.
use mathlib.Core.Path.{ap, refl, sym}
use lib.Dec.{lit≤}
use Rattle.player.proofs.Played.{turn_nothing, turn_refusal, turn_read}
use Rattle.player.specs.Steps.{player}
use Rattle.player.proofs.Player.step.Goals.{in-Fields+in-Err, in-Refusal}
use Rattle.player.proofs.Player.step.Goals as goal

pub returns-in-Nothing : goal.returns-in-Nothing
returns-in-Nothing c =
    let a = c.args in
    rw (turn_nothing _ a.s.now a.self c.in-Nothing.is)
    (record { player = ap (player a.self.panel) c.in-Nothing.is; put = record { place = refl; bytes = refl }; fits = lit≤ tt })

pub returns-in-Ok : goal.returns-in-Ok
returns-in-Ok c =
    let a = c.args in
    rw (turn_read _ a.s.now a.self c.in-Fields.is (sym c.in-Ok.ensures)) c.play_field.ensures

pub returns : goal.returns
returns c =
    let a = c.args in
    elim c.match-self.branch [
      | in-Fields+in-Err w ↦ rw (turn_read _ a.s.now a.self w.in-Fields.is (sym w.in-Err.ensures), ← w.r-is) c.refuse.ensures
      | in-Refusal w ↦ rw (turn_refusal _ a.s.now a.self w.in-Refusal.is, ← w.r-is) c.refuse.ensures
    ]
