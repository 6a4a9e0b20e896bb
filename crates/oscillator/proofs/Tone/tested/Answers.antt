-- `Tone::tested` starts the phase anew exactly as test is entered.
use Rattle.oscillator.specs.Oscillator.{tested_tone}
use Rattle.oscillator.proofs.Chains.{same}
use Rattle.oscillator.proofs.Tone.tested.Goals as goal
use Rattle.oscillator.proofs.Tone.tested.Goals.{else-new_test-via-then-new_test+else-not-old_test, else-new_test-via-else-new_test}

pub returns-then-not-old_test : goal.returns-then-not-old_test
unfolding tested_tone
returns-then-not-old_test c = simp (c.if-not-old_test.true, c.if-new_test.true, c.reset_phase.ensures)

pub returns-else-new_test : goal.returns-else-new_test
unfolding tested_tone
returns-else-new_test c =
    elim c.else-new_test.branch [
      | else-new_test-via-then-new_test+else-not-old_test w ↦ simp w.if-not-old_test.false
      | else-new_test-via-else-new_test w ↦ simp w.if-new_test.false (same c.args.old_test c.args.self)
    ]
