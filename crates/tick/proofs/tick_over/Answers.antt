-- `tick_over` is one clock of the chip by the rules, with the entries of a pack where it has them, and gives the codes
-- and levels that stand after it, and the bits that the bus lost. Assumes nothing.
use Rattle.sid.proofs.Ticks.{same_generator, same_lines}
use Rattle.oscillator.proofs.Due.{loading_still}
use Rattle.sid.proofs.Turn.{Fade, fades, empty, turn, judged, round}
use Rattle.bus.specs.Bus.{lost}
use Rattle.bus.specs.declared.InternalDataBus.{InternalDataBus}
use Rattle.bus.proofs.Lost.{clocked_le}
use Rattle.laws.proofs.After.{taken, left}
use Rattle.sid.specs.declared.Mos6581.{Mos6581}
use Rattle.pack.specs.Pack.{loaded_over, over}
use Rattle.pack.proofs.Lookup.{entry_read, entry_lacks}
use Rattle.tick.specs.Outputs.{outputs}
use Rattle.std.proofs.Common.{◌≡◌, ℕ, ◌-◌, List, ap, ◌∙◌, ap₂, arith}
use Rattle.tick.proofs.tick_over.Goals as goal
use Rattle.tick.proofs.tick_over.Goals.{then-data_bus-ne0, else-data_bus-ne0, then-step_due, else-step_due, then-quiescent, else-quiescent, then-sample_due, else-sample_due, then-couples, else-couples, then-pulls_down, else-pulls_down, then-loads_lines+then-at_0-pack, then-loads_lines+else-at_0-pack, else-loads_lines, then-step_due-2, else-step_due-2, then-quiescent-2, else-quiescent-2, then-sample_due-2, else-sample_due-2, then-couples-2, else-couples-2, then-pulls_down-2, else-pulls_down-2, then-loads_lines-2+then-at_1-pack, then-loads_lines-2+else-at_1-pack, else-loads_lines-2, then-step_due-3, else-step_due-3, then-quiescent-3, else-quiescent-3, then-sample_due-3, else-sample_due-3, then-couples-3, else-couples-3, then-pulls_down-3, else-pulls_down-3, then-loads_lines-3+then-at_2-pack, then-loads_lines-3+else-at_2-pack, else-loads_lines-3}

-- a clock sets no bit
pub overflow_sub-lost : goal.overflow_sub-lost
overflow_sub-lost c = rw c.lent_clock-data_bus.ensures (clocked_le _)

pub returns : goal.returns
unfolding outputs lost
returns c =
    let start : Mos6581 = c.args.chip in
    let pack : List ℕ = c.args.pack.now in
    let still = loading_still (loaded_over pack) in
    let voice_0 =
    turn still start.voice_0 c.clocked-tone_2.result.accumulator c.wrapping_add_u64-cycle.result
    {t1 = c.clocked-tone_0.result} {t2 = c.sounded-tone_0.result} {n1 = c.if-step_due.noise_0} {n2 = c.if-pulls_down.noise_0}
    {held1 = c.if-step_due.captured_0} {held2 = c.if-pulls_down.captured_0}
    {charge1 = c.if-step_due.charge_0} {charge2 = c.if-couples.charge_0} {charge3 = c.if-pulls_down.charge_0}
    {f1 = c.if-sample_due.floating_0} {wires1 = c.if-sample_due.lines_0} {e1 = c.if-quiescent.envelope_0}
    {plain = c.plain_code-code_0.result} {output = c.if-loads_lines.code_0}
    c.clocked-tone_0.ensures c.rising-rising_0.ensures c.step_due.ensures
    (elim c.if-step_due.branch [
      | then-step_due w ↦
          taken w.if-step_due.true (same_generator w.noise_0-is w.captured_0-is w.charge_0-is ∙ w.step_once_lent-noise_0.ensures)
      | else-step_due w ↦ left w.if-step_due.false (same_generator w.noise_0-is w.captured_0-is w.charge_0-is)
    ])
    c.quiescent.ensures
    (elim c.if-quiescent.branch [
      | then-quiescent w ↦ taken w.if-quiescent.true (w.envelope_0-is ∙ w.clock_quiet-envelope_0.ensures)
      | else-quiescent w ↦ left w.if-quiescent.false (w.envelope_0-is ∙ w.clock-envelope_0.ensures)
    ])
    c.sample_due.ensures
    (elim c.if-sample_due.branch [
      | then-sample_due w ↦ taken w.if-sample_due.true (same_lines w.floating_0-is w.lines_0-is ∙ w.sample_once_lent-floating_0.ensures)
      | else-sample_due w ↦ left w.if-sample_due.false (same_lines w.floating_0-is w.lines_0-is)
    ])
    c.plain_code-code_0.ensures c.loads_lines.ensures
    (elim c.if-loads_lines.branch [
      | then-loads_lines+then-at_0-pack w ↦
          taken w.if-loads_lines.true (w.code_0-is ∙ entry_read pack _ _ w.base.ensures w.entry-at_0.ensures w.if-at_0-pack.true)
      | then-loads_lines+else-at_0-pack w ↦
          taken w.if-loads_lines.true
          (w.code_0-is ∙ (w.loaded_code-code_0.ensures ∙ entry_lacks pack _ _ w.base.ensures w.entry-at_0.ensures w.if-at_0-pack.false))
      | else-loads_lines w ↦ left w.if-loads_lines.false w.code_0-is
    ])
    c.sounded-tone_0.ensures c.couples.ensures
    (elim c.if-couples.branch [
      | then-couples w ↦ taken w.if-couples.true (w.charge_0-is ∙ w.couple.ensures)
      | else-couples w ↦ left w.if-couples.false w.charge_0-is
    ])
    c.pulls_down.ensures
    (elim c.if-pulls_down.branch [
      | then-pulls_down w ↦
          taken w.if-pulls_down.true (same_generator w.noise_0-is w.captured_0-is w.charge_0-is ∙ w.pull_down_lent-noise_0.ensures)
      | else-pulls_down w ↦ left w.if-pulls_down.false (same_generator w.noise_0-is w.captured_0-is w.charge_0-is)
    ]) in
    let voice_1 =
    turn still start.voice_1 c.sounded-tone_0.result.accumulator c.wrapping_add_u64-cycle.result
    {t1 = c.clocked-tone_1.result} {t2 = c.sounded-tone_1.result} {n1 = c.if-step_due-2.noise_1} {n2 = c.if-pulls_down-2.noise_1}
    {held1 = c.if-step_due-2.captured_1} {held2 = c.if-pulls_down-2.captured_1}
    {charge1 = c.if-step_due-2.charge_1} {charge2 = c.if-couples-2.charge_1} {charge3 = c.if-pulls_down-2.charge_1}
    {f1 = c.if-sample_due-2.floating_1} {wires1 = c.if-sample_due-2.lines_1} {e1 = c.if-quiescent-2.envelope_1}
    {plain = c.plain_code-code_1.result} {output = c.if-loads_lines-2.code_1}
    c.clocked-tone_1.ensures c.rising-rising_1.ensures c.step_due-2.ensures
    (elim c.if-step_due-2.branch [
      | then-step_due-2 w ↦
          taken w.if-step_due-2.true (same_generator w.noise_1-is w.captured_1-is w.charge_1-is ∙ w.step_once_lent-noise_1.ensures)
      | else-step_due-2 w ↦ left w.if-step_due-2.false (same_generator w.noise_1-is w.captured_1-is w.charge_1-is)
    ])
    c.quiescent-2.ensures
    (elim c.if-quiescent-2.branch [
      | then-quiescent-2 w ↦ taken w.if-quiescent-2.true (w.envelope_1-is ∙ w.clock_quiet-envelope_1.ensures)
      | else-quiescent-2 w ↦ left w.if-quiescent-2.false (w.envelope_1-is ∙ w.clock-envelope_1.ensures)
    ])
    c.sample_due-2.ensures
    (elim c.if-sample_due-2.branch [
      | then-sample_due-2 w ↦ taken w.if-sample_due-2.true (same_lines w.floating_1-is w.lines_1-is ∙ w.sample_once_lent-floating_1.ensures)
      | else-sample_due-2 w ↦ left w.if-sample_due-2.false (same_lines w.floating_1-is w.lines_1-is)
    ])
    c.plain_code-code_1.ensures c.loads_lines-2.ensures
    (elim c.if-loads_lines-2.branch [
      | then-loads_lines-2+then-at_1-pack w ↦
          taken w.if-loads_lines-2.true (w.code_1-is ∙ entry_read pack _ _ w.base-then-loads_lines-2.ensures w.entry-at_1.ensures w.if-at_1-pack.true)
      | then-loads_lines-2+else-at_1-pack w ↦
          taken w.if-loads_lines-2.true
          (w.code_1-is ∙ (w.loaded_code-code_1.ensures ∙ entry_lacks pack _ _ w.base-then-loads_lines-2.ensures w.entry-at_1.ensures w.if-at_1-pack.false))
      | else-loads_lines-2 w ↦ left w.if-loads_lines-2.false w.code_1-is
    ])
    c.sounded-tone_1.ensures c.couples-2.ensures
    (elim c.if-couples-2.branch [
      | then-couples-2 w ↦ taken w.if-couples-2.true (w.charge_1-is ∙ w.couple-then-couples-2.ensures)
      | else-couples-2 w ↦ left w.if-couples-2.false w.charge_1-is
    ])
    c.pulls_down-2.ensures
    (elim c.if-pulls_down-2.branch [
      | then-pulls_down-2 w ↦
          taken w.if-pulls_down-2.true (same_generator w.noise_1-is w.captured_1-is w.charge_1-is ∙ w.pull_down_lent-noise_1.ensures)
      | else-pulls_down-2 w ↦ left w.if-pulls_down-2.false (same_generator w.noise_1-is w.captured_1-is w.charge_1-is)
    ]) in
    let voice_2 =
    turn still start.voice_2 c.sounded-tone_1.result.accumulator c.wrapping_add_u64-cycle.result
    {t1 = c.clocked-tone_2.result} {t2 = c.sounded-tone_2.result} {n1 = c.if-step_due-3.noise_2} {n2 = c.if-pulls_down-3.noise_2}
    {held1 = c.if-step_due-3.captured_2} {held2 = c.if-pulls_down-3.captured_2}
    {charge1 = c.if-step_due-3.charge_2} {charge2 = c.if-couples-3.charge_2} {charge3 = c.if-pulls_down-3.charge_2}
    {f1 = c.if-sample_due-3.floating_2} {wires1 = c.if-sample_due-3.lines_2} {e1 = c.if-quiescent-3.envelope_2}
    {plain = c.plain_code-code_2.result} {output = c.if-loads_lines-3.code_2}
    c.clocked-tone_2.ensures c.rising-rising_2.ensures c.step_due-3.ensures
    (elim c.if-step_due-3.branch [
      | then-step_due-3 w ↦
          taken w.if-step_due-3.true (same_generator w.noise_2-is w.captured_2-is w.charge_2-is ∙ w.step_once_lent-noise_2.ensures)
      | else-step_due-3 w ↦ left w.if-step_due-3.false (same_generator w.noise_2-is w.captured_2-is w.charge_2-is)
    ])
    c.quiescent-3.ensures
    (elim c.if-quiescent-3.branch [
      | then-quiescent-3 w ↦ taken w.if-quiescent-3.true (w.envelope_2-is ∙ w.clock_quiet-envelope_2.ensures)
      | else-quiescent-3 w ↦ left w.if-quiescent-3.false (w.envelope_2-is ∙ w.clock-envelope_2.ensures)
    ])
    c.sample_due-3.ensures
    (elim c.if-sample_due-3.branch [
      | then-sample_due-3 w ↦ taken w.if-sample_due-3.true (same_lines w.floating_2-is w.lines_2-is ∙ w.sample_once_lent-floating_2.ensures)
      | else-sample_due-3 w ↦ left w.if-sample_due-3.false (same_lines w.floating_2-is w.lines_2-is)
    ])
    c.plain_code-code_2.ensures c.loads_lines-3.ensures
    (elim c.if-loads_lines-3.branch [
      | then-loads_lines-3+then-at_2-pack w ↦
          taken w.if-loads_lines-3.true (w.code_2-is ∙ entry_read pack _ _ w.base-then-loads_lines-3.ensures w.entry-at_2.ensures w.if-at_2-pack.true)
      | then-loads_lines-3+else-at_2-pack w ↦
          taken w.if-loads_lines-3.true
          (w.code_2-is ∙ (w.loaded_code-code_2.ensures ∙ entry_lacks pack _ _ w.base-then-loads_lines-3.ensures w.entry-at_2.ensures w.if-at_2-pack.false))
      | else-loads_lines-3 w ↦ left w.if-loads_lines-3.false w.code_2-is
    ])
    c.sounded-tone_2.ensures c.couples-3.ensures
    (elim c.if-couples-3.branch [
      | then-couples-3 w ↦ taken w.if-couples-3.true (w.charge_2-is ∙ w.couple-then-couples-3.ensures)
      | else-couples-3 w ↦ left w.if-couples-3.false w.charge_2-is
    ])
    c.pulls_down-3.ensures
    (elim c.if-pulls_down-3.branch [
      | then-pulls_down-3 w ↦
          taken w.if-pulls_down-3.true (same_generator w.noise_2-is w.captured_2-is w.charge_2-is ∙ w.pull_down_lent-noise_2.ensures)
      | else-pulls_down-3 w ↦ left w.if-pulls_down-3.false (same_generator w.noise_2-is w.captured_2-is w.charge_2-is)
    ]) in
    let bits : c.if-data_bus-ne0.lost ≡ lost start.data_bus =
    elim c.if-data_bus-ne0.branch [
      | then-data_bus-ne0 w ↦ w.lost-is ∙ ap (λ (b : InternalDataBus). start.data_bus.value - b.value) w.lent_clock-data_bus.ensures
      | else-data_bus-ne0 w ↦ w.lost-is ∙ omega (arith, w.if-data_bus-ne0.false)
    ] in
    let bus : Fade start.data_bus c.if-data_bus-ne0.data_bus =
    elim c.if-data_bus-ne0.branch [
      | then-data_bus-ne0 w ↦ fades (w.data_bus-is ∙ w.lent_clock-data_bus.ensures)
      | else-data_bus-ne0 w ↦ empty w.if-data_bus-ne0.false w.data_bus-is
    ] in
    ap₂ outputs bits
    (round (over pack) start.cycle start.voice_0 start.voice_1 start.voice_2 bus c.wrapping_add_u64-cycle.ensures.value
    voice_0 voice_1 voice_2 c.clocked-tone_2.ensures
    (judged c.synced-tone_0.ensures c.synced-next_1.ensures c.synced-next_2.ensures))
