-- `fill` leaves in the lent pack the settled code of every selection and value; or refuses with 15, the pack as it was.
use mathlib.Core.Path.{sym, ◌∙◌}
use Prim.Native.Nat.{◌+◌, ◌-◌, ◌*◌}
use native.Mathlib.Omega.{arith}
use Rattle.laws.proofs.Build.{built_none, built_all}
use Rattle.std.proofs.Common.{rules}
use Rattle.pack.specs.Pack.{pack_length, settled_entry, filled, refusal, pack_after}
use Rattle.pack.proofs.Filling.{block_length, unrefused, block_filled, block_more, wrong_length, right_length}
use Rattle.pack.proofs.fill.Goals as goal

pub returns-in_err-check : goal.returns-in_err-check
unfolding refusal pack_after
returns-in_err-check c = search (rules, wrong_length)

pub loop-block-init : goal.loop-block-init
loop-block-init c = built_none settled_entry pack_length c.args.pack.now (omega arith)

pub returns-in_err-fill : goal.returns-in_err-fill
returns-in_err-fill c =
    let l = c.loop-block in
    let n = block_length l.block (omega arith) l.pack ((l.block + 1) * 4096 - l.block * 4096) (omega arith) (omega arith) in
    absurd (unrefused c.fill.ensures.0 (block_filled l.block (omega arith) _ n).0 c.in_err-fill.was)

pub loop-block-preserved : goal.loop-block-preserved
loop-block-preserved c =
    let l = c.loop-block in
    let n = block_length l.block (omega arith) l.pack ((l.block + 1) * 4096 - l.block * 4096) (omega arith) (omega arith) in
    block_more l.block (omega arith) l.invariant (omega arith) (c.fill.ensures.1 ∙ sym (block_filled l.block (omega arith) _ n).1)

pub returns : goal.returns
unfolding filled
returns c =
    let f = right_length c.args.pack.now (omega arith) in
    (f.0, built_all settled_entry pack_length c.loop-block.invariant (omega arith) ∙ f.1)
