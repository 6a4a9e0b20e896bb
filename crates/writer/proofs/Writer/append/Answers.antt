-- `Writer::append` puts a field's bytes at the place reached and gives the writer behind it, or refuses with 10, 8, 9,
-- 14, 4, 13, in that order, with the buffer as it was.
use native.Mathlib.Omega.{arith}
use Prim.Native.Nat.{◌+◌, ◌≤◌}
use mathlib.Core.Path.{ap, sym, ◌∙◌}
use lib.ListN.{length}
use Rattle.score.specs.Fields.{written}
use Rattle.writer.proofs.Answers.{written_some, after_end, unadmitted, too_long, no_room, fitting, promised, placed_at}
use Rattle.writer.proofs.Writer.append.Goals as goal

pub returns-then-self : goal.returns-then-self
returns-then-self c =
    let a = c.args in
    rw c.at.ensures (promised a.out.now a.self a.f (after_end _ a.self a.f c.if-self.true))

pub returns-in-Err : goal.returns-in-Err
returns-in-Err c =
    let a = c.args in
    let why = sym c.admit.ensures ∙ c.in-Err.is in
    rw c.at-in-Err.ensures (promised a.out.now a.self a.f (unadmitted _ a.self a.f c.if-self.false why))

pub slice_bounds-copy_from_slice-end : goal.slice_bounds-copy_from_slice-end
slice_bounds-copy_from_slice-end c = omega (arith, ap length c.field_bytes-bytes.ensures, (written_some c.args.f).0)

pub returns-then-saturating_sub-n : goal.returns-then-saturating_sub-n
returns-then-saturating_sub-n c =
    let a = c.args in
    let go = sym c.admit.ensures ∙ c.in-Ok.is in
    let n = ap length c.field_bytes-bytes.ensures in
    rw c.at-then-saturating_sub-n.ensures (promised a.out.now a.self a.f (too_long _ a.self a.f c.if-self.false go (omega (arith, n))))

pub returns-then-saturating_sub-n-2 : goal.returns-then-saturating_sub-n-2
returns-then-saturating_sub-n-2 c =
    let a = c.args in
    let go = sym c.admit.ensures ∙ c.in-Ok.is in
    let n = ap length c.field_bytes-bytes.ensures in
    rw c.at-then-saturating_sub-n-2.ensures
    (promised a.out.now a.self a.f (no_room _ a.self a.f c.if-self.false go (omega (arith, n, (written_some a.f).0)) (omega (arith, n))))

pub returns : goal.returns
returns c =
    let a = c.args in
    let go = sym c.admit.ensures ∙ c.in-Ok.is in
    let is = c.field_bytes-bytes.ensures in
    let some = (written_some a.f).0 in
    let h : a.self.at + length (written a.f) ≤ length a.out.now = omega (arith, ap length is, some) in
    let e = fitting _ a.self a.f c.if-self.false go (omega (arith, ap length is, some)) h in
    rw c.copy_from_slice.ensures.after (placed_at a.out.now a.self a.f e h is c.is_end.ensures (omega (arith, ap length is)))
