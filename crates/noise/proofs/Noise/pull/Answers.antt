-- `Noise::pull` is the numbers after a pull-down: stages of low lines cleared, the captured only if `affects_capture`.
use Rattle.std.proofs.Common.{sym, ◌∙◌}
use lib.Bits.{and_mask}
use Rattle.noise.specs.Noise.{cleared_to, pulled_numbers}
use Rattle.noise.proofs.Noise.pull.Goals as goal

pub returns-then-affects_capture : goal.returns-then-affects_capture
unfolding pulled_numbers
returns-then-affects_capture c =
    let n = c.args.self in
    let w = c.args.waveform in
    simp (sym c.affects_capture.ensures ∙ c.if-affects_capture.true, c.project-visible.ensures, c.cleared-state.ensures, c.cleared-captured.ensures, and_mask (cleared_to w n.state 8) 23, and_mask (cleared_to w n.captured 8) 23)

pub returns : goal.returns
unfolding pulled_numbers
returns c =
    let n = c.args.self in
    let w = c.args.waveform in
    simp (sym c.affects_capture.ensures ∙ c.if-affects_capture.false, c.project-visible.ensures, c.cleared-state.ensures, and_mask (cleared_to w n.state 8) 23, and_mask n.captured 23)
