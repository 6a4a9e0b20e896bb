-- `shifted_charge` moves every charge one stage down, and puts the incoming one into stage 22.
-- By `moved`: the loop copies within one array, each entry from one place up; `shut` stores the last.
use Rattle.std.proofs.Common.{◌≡◌, ℕ, ◌+◌, List, ◌++◌, length, get_or, take, drop, set, ap, ◌∙◌, arith, rules}
use Rattle.laws.proofs.Loops.{ended}
use Rattle.noise.proofs.Moves.{moved, shut}
use Rattle.noise.specs.Noise.{shifted_charge}
use Rattle.noise.proofs.shifted_charge.Goals as goal

pub loop-stage-preserved : goal.loop-stage-preserved
loop-stage-preserved c =
    let l = c.args.captured_charge in
    let e : length l ≡ 23 = search rules in
    (search rules, ap (λ (m : List ℕ). set m c.loop-stage.stage (get_or l (c.loop-stage.stage + 1) 0)) c.loop-stage.invariant.1 ∙ moved l c.loop-stage.stage (omega arith))

pub returns : goal.returns
unfolding shifted_charge
returns c =
    let l = c.args.captured_charge in
    let top = c.args.incoming in
    ap (λ (m : List ℕ). set m 22 top) (ended (λ n. take n (drop 1 l) ++ drop n l) _ c.loop-stage.stage 22 c.loop-stage.invariant.0 c.loop-stage-test.false c.loop-stage.invariant.1) ∙ shut l 22 top (search rules)
