-- `run_to` runs the panel to a stamp, and puts the lines of the bits that fade on the way, where they are watched:
-- from loss to loss, which prints what each clock by itself does.
use borrow.Author.Tests.{not-true, not-false}
use native.Mathlib.Omega.{arith}
use mathlib.Core.Path.{refl}
use lib.Dec.{lit≤}
use Rattle.pack.specs.Pack.{over}
use Rattle.player.proofs.Fades.{unwatched, watched_fades, leap_less, watches_none, watches_room, watches_more, watches_all}
use Rattle.player.proofs.run_to.Goals as goal

pub returns-then-not-panel : goal.returns-then-not-panel
returns-then-not-panel c =
    let p = c.args.panel in
    record {
      panel = c.run_to.ensures;
      put = rw (unwatched _ _ p (not-true p.watched c.if-not-panel.true)) (record { place = refl; bytes = refl });
      fits = lit≤ tt;
    }

pub loop-ran-init : goal.loop-ran-init
loop-ran-init c = watches_none (over c.args.pack.now) c.args.stamp c.args.panel _ (omega arith)

pub loop-ran-smaller : goal.loop-ran-smaller
loop-ran-smaller c =
    let q = c.loop-ran.ran.panel in
    leap_less _ _ q c.loop-ran-test.true c.leap_to-leapt.ensures

pub loop-ran-preserved : goal.loop-ran-preserved
loop-ran-preserved c =
    let put = c.put_fade.ensures in
    watches_more c.loop-ran.invariant c.loop-ran-test.true c.leap_to-leapt.ensures put.0 put.1

pub returns : goal.returns
returns c =
    let k = c.loop-ran.invariant in
    let p = c.args.panel in
    let all = watches_all k (omega (arith, c.loop-ran-test.false)) in
    record {
      panel = all.0;
      put = rw (watched_fades _ _ p (not-false p.watched c.if-not-panel.false)) all.1;
      fits = watches_room k;
    }
