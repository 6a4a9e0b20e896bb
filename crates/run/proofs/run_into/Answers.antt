-- `run_into`: a turn of its loop is a tick, whose code and levels are stored while there is room, and what it held is
-- the chip after all n ticks. Assumes nothing.
use Rattle.sid.proofs.Ticks.{same_generator, same_lines}
use Rattle.sid.proofs.Turn.{Fade, fades, empty, parts, Sync, judged, off, turned, round, ran}
use Rattle.wiring.proofs.Turn.{Sounds, floats, waves, combined, single, wired_turn}
use Rattle.laws.proofs.After.{taken, left}
use Rattle.laws.proofs.Bools.{or_left, or_right}
use Rattle.sid.specs.declared.Voice.{Voice}
use Rattle.sid.specs.declared.Mos6581.{Mos6581}
use Rattle.envelope.specs.Envelope.{level_read, rate_clocked, quiescent}
use Rattle.envelope.specs.declared.Envelope.{Envelope}
use Rattle.envelope.proofs.Quiet.{quiet_next}
use Rattle.floating.specs.declared.Floating.{Floating}
use Rattle.oscillator.specs.Oscillator.{latched_tone}
use Rattle.oscillator.specs.declared.Tone.{Tone}
use Rattle.pack.specs.Pack.{over}
use Rattle.laws.specs.Times.{times}
use Rattle.std.proofs.Common.{◌≡◌, ℕ, ◌%◌, Bool, true, not, ◌||◌, List, length, sym, refl, ap, ◌∙◌, arith}
use Rattle.run.specs.Loop.{stored_by}
use Rattle.run.proofs.Stored.{stored_more, stored_full, stored_length, stored_all}
use Rattle.run.proofs.run_into.Goals as goal
use Rattle.run.proofs.run_into.Goals.{then-wiring_0, else-wiring_0, then-leaks, else-leaks, then-wiring_0-2+then-pulls_down, then-wiring_0-2+else-pulls_down, else-wiring_0-2, then-wiring_0-3, else-wiring_0-3, then-step_due, else-step_due, then-quiet_0, else-quiet_0, then-wiring_1, else-wiring_1, then-leaks-2, else-leaks-2, then-wiring_1-2+then-pulls_down-2, then-wiring_1-2+else-pulls_down-2, else-wiring_1-2, then-wiring_1-3, else-wiring_1-3, then-step_due-2, else-step_due-2, then-quiet_1, else-quiet_1, then-wiring_2, else-wiring_2, then-leaks-3, else-leaks-3, then-wiring_2-2+then-pulls_down-3, then-wiring_2-2+else-pulls_down-3, else-wiring_2-2, then-wiring_2-3, else-wiring_2-3, then-step_due-3, else-step_due-3, then-quiet_2, else-quiet_2, then-data_bus-ne0, else-data_bus-ne0, then-syncs, else-syncs, then-i-room, else-i-room}

-- the code of what floats, by either name of the lines' numbers
afloat : (t : Tone) {f f1 : Floating} → f1 ≡ f → latched_tone t (f.value % 4096) ≡ latched_tone t (f1.value % 4096)
afloat t e = ap (λ (x : Floating). latched_tone t (x.value % 4096)) (sym e)

-- what a quiet clock leaves is quiet unless the rate matched
rested
    : (e : Envelope) {e1 e2 : Envelope} {quiet : Bool} → quiet ≡ quiescent e → quiet ≡ true → e1 ≡ rate_clocked (level_read e) → e2 ≡ e1
    → not e1.matched_rate ≡ quiescent e2
rested e q t p r =
    ap (λ (x : Envelope). not x.matched_rate) p ∙ (sym (quiet_next e (sym q ∙ t)) ∙ ap quiescent (sym (r ∙ p)))

-- from the clock of its phase to the latch, each voice asks its wiring alone
sounded_0
    : (c : goal.Joined-i-room)
    → Sounds c.of-wiring_0.result c.args.pack.now c.args.chip.voice_0.oscillator.control c.clocked-tone_2.result.accumulator c.wrapping_add_u64-cycle.result
    c.clocked-tone_0.result c.if-step_due.noise_0 c.if-step_due.captured_0 c.if-step_due.charge_0 c.loop-i.floating_0 c.loop-i.lines_0
    c.if-wiring_0.tone_0 c.if-wiring_0.noise_0 c.if-wiring_0.captured_0 c.if-wiring_0.charge_0 c.if-wiring_0.floating_0 c.if-wiring_0.lines_0
sounded_0 c =
    elim c.if-wiring_0.branch [
      | then-wiring_0 w ↦
          floats w.if-wiring_0.true w.leaks.ensures
          (elim w.if-leaks.branch [
            | then-leaks u ↦ taken u.if-leaks.true (same_lines (w.floating_0-is ∙ u.floating_0-is) (w.lines_0-is ∙ u.lines_0-is) ∙ u.sample_once_lent-floating_0.ensures)
            | else-leaks u ↦ left u.if-leaks.false (same_lines (w.floating_0-is ∙ u.floating_0-is) (w.lines_0-is ∙ u.lines_0-is))
          ])
          w.compared.ensures (w.tone_0-is ∙ (w.latched-tone_0.ensures ∙ afloat w.compared.result w.floating_0-is))
          (same_generator w.noise_0-is w.captured_0-is w.charge_0-is)
      | else-wiring_0 w ↦
          waves w.if-wiring_0.false w.code-code_0.ensures w.compared-tone_0.ensures
          (elim w.if-wiring_0-2.branch [
            | then-wiring_0-2+then-pulls_down u ↦
                combined u.if-wiring_0-2.true u.loaded-code_0.ensures u.code_0-is (u.tone_0-is ∙ u.fed_back-tone_0.ensures)
                (elim u.if-wiring_0-3.branch [
                  | then-wiring_0-3 x ↦ taken x.if-wiring_0-3.true (x.charge_0-is ∙ x.couple.ensures)
                  | else-wiring_0-3 x ↦ left x.if-wiring_0-3.false x.charge_0-is
                ])
                u.pulls_down.ensures
                (taken u.if-pulls_down.true (same_generator (w.noise_0-is ∙ u.noise_0-is) (w.captured_0-is ∙ u.captured_0-is) (w.charge_0-is ∙ u.charge_0-is) ∙ u.pull_down_lent-noise_0.ensures))
            | then-wiring_0-2+else-pulls_down u ↦
                combined u.if-wiring_0-2.true u.loaded-code_0.ensures u.code_0-is (u.tone_0-is ∙ u.fed_back-tone_0.ensures)
                (elim u.if-wiring_0-3.branch [
                  | then-wiring_0-3 x ↦ taken x.if-wiring_0-3.true (x.charge_0-is ∙ x.couple.ensures)
                  | else-wiring_0-3 x ↦ left x.if-wiring_0-3.false x.charge_0-is
                ])
                u.pulls_down.ensures
                (left u.if-pulls_down.false (same_generator (w.noise_0-is ∙ u.noise_0-is) (w.captured_0-is ∙ u.captured_0-is) (w.charge_0-is ∙ u.charge_0-is)))
            | else-wiring_0-2 u ↦
                single u.if-wiring_0-2.false u.code_0-is u.tone_0-is
                (same_generator (w.noise_0-is ∙ u.noise_0-is) (w.captured_0-is ∙ u.captured_0-is) (w.charge_0-is ∙ u.charge_0-is))
          ])
          (w.tone_0-is ∙ w.latched-tone_0-else-wiring_0.ensures) (same_lines w.floating_0-is w.lines_0-is)
    ]

sounded_1
    : (c : goal.Joined-i-room)
    → Sounds c.of-wiring_1.result c.args.pack.now c.args.chip.voice_1.oscillator.control c.if-wiring_0.tone_0.accumulator c.wrapping_add_u64-cycle.result
    c.clocked-tone_1.result c.if-step_due-2.noise_1 c.if-step_due-2.captured_1 c.if-step_due-2.charge_1 c.loop-i.floating_1 c.loop-i.lines_1
    c.if-wiring_1.tone_1 c.if-wiring_1.noise_1 c.if-wiring_1.captured_1 c.if-wiring_1.charge_1 c.if-wiring_1.floating_1 c.if-wiring_1.lines_1
sounded_1 c =
    elim c.if-wiring_1.branch [
      | then-wiring_1 w ↦
          floats w.if-wiring_1.true w.leaks-then-wiring_1.ensures
          (elim w.if-leaks-2.branch [
            | then-leaks-2 u ↦ taken u.if-leaks-2.true (same_lines (w.floating_1-is ∙ u.floating_1-is) (w.lines_1-is ∙ u.lines_1-is) ∙ u.sample_once_lent-floating_1.ensures)
            | else-leaks-2 u ↦ left u.if-leaks-2.false (same_lines (w.floating_1-is ∙ u.floating_1-is) (w.lines_1-is ∙ u.lines_1-is))
          ])
          w.compared-then-wiring_1.ensures (w.tone_1-is ∙ (w.latched-tone_1.ensures ∙ afloat w.compared-then-wiring_1.result w.floating_1-is))
          (same_generator w.noise_1-is w.captured_1-is w.charge_1-is)
      | else-wiring_1 w ↦
          waves w.if-wiring_1.false w.code-code_1.ensures w.compared-tone_1.ensures
          (elim w.if-wiring_1-2.branch [
            | then-wiring_1-2+then-pulls_down-2 u ↦
                combined u.if-wiring_1-2.true u.loaded-code_1.ensures u.code_1-is (u.tone_1-is ∙ u.fed_back-tone_1.ensures)
                (elim u.if-wiring_1-3.branch [
                  | then-wiring_1-3 x ↦ taken x.if-wiring_1-3.true (x.charge_1-is ∙ x.couple-then-wiring_1-3.ensures)
                  | else-wiring_1-3 x ↦ left x.if-wiring_1-3.false x.charge_1-is
                ])
                u.pulls_down-then-wiring_1-2.ensures
                (taken u.if-pulls_down-2.true (same_generator (w.noise_1-is ∙ u.noise_1-is) (w.captured_1-is ∙ u.captured_1-is) (w.charge_1-is ∙ u.charge_1-is) ∙ u.pull_down_lent-noise_1.ensures))
            | then-wiring_1-2+else-pulls_down-2 u ↦
                combined u.if-wiring_1-2.true u.loaded-code_1.ensures u.code_1-is (u.tone_1-is ∙ u.fed_back-tone_1.ensures)
                (elim u.if-wiring_1-3.branch [
                  | then-wiring_1-3 x ↦ taken x.if-wiring_1-3.true (x.charge_1-is ∙ x.couple-then-wiring_1-3.ensures)
                  | else-wiring_1-3 x ↦ left x.if-wiring_1-3.false x.charge_1-is
                ])
                u.pulls_down-then-wiring_1-2.ensures
                (left u.if-pulls_down-2.false (same_generator (w.noise_1-is ∙ u.noise_1-is) (w.captured_1-is ∙ u.captured_1-is) (w.charge_1-is ∙ u.charge_1-is)))
            | else-wiring_1-2 u ↦
                single u.if-wiring_1-2.false u.code_1-is u.tone_1-is
                (same_generator (w.noise_1-is ∙ u.noise_1-is) (w.captured_1-is ∙ u.captured_1-is) (w.charge_1-is ∙ u.charge_1-is))
          ])
          (w.tone_1-is ∙ w.latched-tone_1-else-wiring_1.ensures) (same_lines w.floating_1-is w.lines_1-is)
    ]

sounded_2
    : (c : goal.Joined-i-room)
    → Sounds c.of-wiring_2.result c.args.pack.now c.args.chip.voice_2.oscillator.control c.if-wiring_1.tone_1.accumulator c.wrapping_add_u64-cycle.result
    c.clocked-tone_2.result c.if-step_due-3.noise_2 c.if-step_due-3.captured_2 c.if-step_due-3.charge_2 c.loop-i.floating_2 c.loop-i.lines_2
    c.if-wiring_2.tone_2 c.if-wiring_2.noise_2 c.if-wiring_2.captured_2 c.if-wiring_2.charge_2 c.if-wiring_2.floating_2 c.if-wiring_2.lines_2
sounded_2 c =
    elim c.if-wiring_2.branch [
      | then-wiring_2 w ↦
          floats w.if-wiring_2.true w.leaks-then-wiring_2.ensures
          (elim w.if-leaks-3.branch [
            | then-leaks-3 u ↦ taken u.if-leaks-3.true (same_lines (w.floating_2-is ∙ u.floating_2-is) (w.lines_2-is ∙ u.lines_2-is) ∙ u.sample_once_lent-floating_2.ensures)
            | else-leaks-3 u ↦ left u.if-leaks-3.false (same_lines (w.floating_2-is ∙ u.floating_2-is) (w.lines_2-is ∙ u.lines_2-is))
          ])
          w.compared-then-wiring_2.ensures (w.tone_2-is ∙ (w.latched-tone_2.ensures ∙ afloat w.compared-then-wiring_2.result w.floating_2-is))
          (same_generator w.noise_2-is w.captured_2-is w.charge_2-is)
      | else-wiring_2 w ↦
          waves w.if-wiring_2.false w.code-code_2.ensures w.compared-tone_2.ensures
          (elim w.if-wiring_2-2.branch [
            | then-wiring_2-2+then-pulls_down-3 u ↦
                combined u.if-wiring_2-2.true u.loaded-code_2.ensures u.code_2-is (u.tone_2-is ∙ u.fed_back-tone_2.ensures)
                (elim u.if-wiring_2-3.branch [
                  | then-wiring_2-3 x ↦ taken x.if-wiring_2-3.true (x.charge_2-is ∙ x.couple-then-wiring_2-3.ensures)
                  | else-wiring_2-3 x ↦ left x.if-wiring_2-3.false x.charge_2-is
                ])
                u.pulls_down-then-wiring_2-2.ensures
                (taken u.if-pulls_down-3.true (same_generator (w.noise_2-is ∙ u.noise_2-is) (w.captured_2-is ∙ u.captured_2-is) (w.charge_2-is ∙ u.charge_2-is) ∙ u.pull_down_lent-noise_2.ensures))
            | then-wiring_2-2+else-pulls_down-3 u ↦
                combined u.if-wiring_2-2.true u.loaded-code_2.ensures u.code_2-is (u.tone_2-is ∙ u.fed_back-tone_2.ensures)
                (elim u.if-wiring_2-3.branch [
                  | then-wiring_2-3 x ↦ taken x.if-wiring_2-3.true (x.charge_2-is ∙ x.couple-then-wiring_2-3.ensures)
                  | else-wiring_2-3 x ↦ left x.if-wiring_2-3.false x.charge_2-is
                ])
                u.pulls_down-then-wiring_2-2.ensures
                (left u.if-pulls_down-3.false (same_generator (w.noise_2-is ∙ u.noise_2-is) (w.captured_2-is ∙ u.captured_2-is) (w.charge_2-is ∙ u.charge_2-is)))
            | else-wiring_2-2 u ↦
                single u.if-wiring_2-2.false u.code_2-is u.tone_2-is
                (same_generator (w.noise_2-is ∙ u.noise_2-is) (w.captured_2-is ∙ u.captured_2-is) (w.charge_2-is ∙ u.charge_2-is))
          ])
          (w.tone_2-is ∙ w.latched-tone_2-else-wiring_2.ensures) (same_lines w.floating_2-is w.lines_2-is)
    ]

pub loop-i-init : goal.loop-i-init
unfolding times stored_by
loop-i-init c = record {
  ticked = refl;
  rests_0 = c.quiescent-quiet_0.ensures;
  rests_1 = c.quiescent-quiet_1.ensures;
  rests_2 = c.quiescent-quiet_2.ensures;
  stored = refl;
}

pub store-requires : goal.store-requires
store-requires c =
    let l = c.loop-i in
    let kept = ap length l.invariant.stored ∙ stored_length (over c.args.pack.now) c.args.chip l.i c.args.out.now in
    omega (arith, c.if-i-room.true, kept)

pub overflow_mul-i : goal.overflow_mul-i
overflow_mul-i c = record { fits = omega (arith, c.if-i-room.true) }

pub loop-i-preserved : goal.loop-i-preserved
loop-i-preserved c =
    let l = c.loop-i in
    let start : Mos6581 = c.args.chip in
    let k0 = start.voice_0.oscillator.control in
    let k1 = start.voice_1.oscillator.control in
    let k2 = start.voice_2.oscillator.control in
    let s0 = k0.sync_enabled in
    let s1 = k1.sync_enabled in
    let s2 = k2.sync_enabled in
    let pack : List ℕ = c.args.pack.now in
    let out : List ℕ = c.args.out.now in
    let from_0 : Voice =
    parts start.voice_0.oscillator.control l.tone_0 l.noise_0 l.captured_0 l.charge_0 l.floating_0 l.lines_0 l.envelope_0 in
    let from_1 : Voice =
    parts start.voice_1.oscillator.control l.tone_1 l.noise_1 l.captured_1 l.charge_1 l.floating_1 l.lines_1 l.envelope_1 in
    let from_2 : Voice =
    parts start.voice_2.oscillator.control l.tone_2 l.noise_2 l.captured_2 l.charge_2 l.floating_2 l.lines_2 l.envelope_2 in
    let voice_0 =
    wired_turn pack from_0 c.clocked-tone_2.result.accumulator c.wrapping_add_u64-cycle.result
    {t1 = c.clocked-tone_0.result} {t2 = c.if-wiring_0.tone_0} {n1 = c.if-step_due.noise_0} {n2 = c.if-wiring_0.noise_0}
    {held1 = c.if-step_due.captured_0} {held2 = c.if-wiring_0.captured_0} {charge1 = c.if-step_due.charge_0} {charge2 = c.if-wiring_0.charge_0}
    {f1 = c.if-wiring_0.floating_0} {wires1 = c.if-wiring_0.lines_0} {e1 = c.if-quiet_0.envelope_0}
    {up = c.rising-rising_0.result} {steps = c.step_due.result} {rests = l.quiet_0}
    c.of-wiring_0.ensures c.clocked-tone_0.ensures c.rising-rising_0.ensures c.step_due.ensures
    (elim c.if-step_due.branch [
      | then-step_due w ↦ taken w.if-step_due.true (same_generator w.noise_0-is w.captured_0-is w.charge_0-is ∙ w.step_once_lent-noise_0.ensures)
      | else-step_due w ↦ left w.if-step_due.false (same_generator w.noise_0-is w.captured_0-is w.charge_0-is)
    ])
    l.invariant.rests_0
    (elim c.if-quiet_0.branch [
      | then-quiet_0 w ↦ taken w.if-quiet_0.true (w.envelope_0-is ∙ w.clock_quiet-envelope_0.ensures)
      | else-quiet_0 w ↦ left w.if-quiet_0.false (w.envelope_0-is ∙ w.clock-envelope_0.ensures)
    ])
    (sounded_0 c) in
    let voice_1 =
    wired_turn pack from_1 c.if-wiring_0.tone_0.accumulator c.wrapping_add_u64-cycle.result
    {t1 = c.clocked-tone_1.result} {t2 = c.if-wiring_1.tone_1} {n1 = c.if-step_due-2.noise_1} {n2 = c.if-wiring_1.noise_1}
    {held1 = c.if-step_due-2.captured_1} {held2 = c.if-wiring_1.captured_1} {charge1 = c.if-step_due-2.charge_1} {charge2 = c.if-wiring_1.charge_1}
    {f1 = c.if-wiring_1.floating_1} {wires1 = c.if-wiring_1.lines_1} {e1 = c.if-quiet_1.envelope_1}
    {up = c.rising-rising_1.result} {steps = c.step_due-in-loop-i.result} {rests = l.quiet_1}
    c.of-wiring_1.ensures c.clocked-tone_1.ensures c.rising-rising_1.ensures c.step_due-in-loop-i.ensures
    (elim c.if-step_due-2.branch [
      | then-step_due-2 w ↦ taken w.if-step_due-2.true (same_generator w.noise_1-is w.captured_1-is w.charge_1-is ∙ w.step_once_lent-noise_1.ensures)
      | else-step_due-2 w ↦ left w.if-step_due-2.false (same_generator w.noise_1-is w.captured_1-is w.charge_1-is)
    ])
    l.invariant.rests_1
    (elim c.if-quiet_1.branch [
      | then-quiet_1 w ↦ taken w.if-quiet_1.true (w.envelope_1-is ∙ w.clock_quiet-envelope_1.ensures)
      | else-quiet_1 w ↦ left w.if-quiet_1.false (w.envelope_1-is ∙ w.clock-envelope_1.ensures)
    ])
    (sounded_1 c) in
    let voice_2 =
    wired_turn pack from_2 c.if-wiring_1.tone_1.accumulator c.wrapping_add_u64-cycle.result
    {t1 = c.clocked-tone_2.result} {t2 = c.if-wiring_2.tone_2} {n1 = c.if-step_due-3.noise_2} {n2 = c.if-wiring_2.noise_2}
    {held1 = c.if-step_due-3.captured_2} {held2 = c.if-wiring_2.captured_2} {charge1 = c.if-step_due-3.charge_2} {charge2 = c.if-wiring_2.charge_2}
    {f1 = c.if-wiring_2.floating_2} {wires1 = c.if-wiring_2.lines_2} {e1 = c.if-quiet_2.envelope_2}
    {up = c.rising-rising_2.result} {steps = c.step_due-in-loop-i-2.result} {rests = l.quiet_2}
    c.of-wiring_2.ensures c.clocked-tone_2.ensures c.rising-rising_2.ensures c.step_due-in-loop-i-2.ensures
    (elim c.if-step_due-3.branch [
      | then-step_due-3 w ↦ taken w.if-step_due-3.true (same_generator w.noise_2-is w.captured_2-is w.charge_2-is ∙ w.step_once_lent-noise_2.ensures)
      | else-step_due-3 w ↦ left w.if-step_due-3.false (same_generator w.noise_2-is w.captured_2-is w.charge_2-is)
    ])
    l.invariant.rests_2
    (elim c.if-quiet_2.branch [
      | then-quiet_2 w ↦ taken w.if-quiet_2.true (w.envelope_2-is ∙ w.clock_quiet-envelope_2.ensures)
      | else-quiet_2 w ↦ left w.if-quiet_2.false (w.envelope_2-is ∙ w.clock-envelope_2.ensures)
    ])
    (sounded_2 c) in
    let bus : Fade l.data_bus c.if-data_bus-ne0.data_bus =
    elim c.if-data_bus-ne0.branch [
      | then-data_bus-ne0 w ↦ fades (w.data_bus-is ∙ w.lent_clock-data_bus.ensures)
      | else-data_bus-ne0 w ↦ empty w.if-data_bus-ne0.false w.data_bus-is
    ] in
    let sync : Sync k0 k1 k2 c.if-wiring_0.tone_0 c.if-wiring_1.tone_1 c.if-wiring_2.tone_2 c.if-syncs.tone_0 c.if-syncs.tone_1 c.if-syncs.tone_2 =
    elim c.if-syncs.branch [
      | then-syncs w ↦
          judged (w.tone_0-is ∙ w.synced-tone_0.ensures) (w.tone_1-is ∙ w.synced-next_1.ensures) (w.tone_2-is ∙ w.synced-next_2.ensures)
      | else-syncs w ↦
          let lower = or_left (s0 || s1) s2 w.if-syncs.false in
          off (or_left s0 s1 lower) (or_right s0 s1 lower) (or_right (s0 || s1) s2 w.if-syncs.false) w.tone_0-is w.tone_1-is w.tone_2-is
    ] in
    let ticked =
    turned (over pack) start l.i
    (round (over pack) l.cycle from_0 from_1 from_2 bus c.wrapping_add_u64-cycle.ensures.value
    voice_0 voice_1 voice_2 c.clocked-tone_2.ensures sync)
    l.invariant.ticked in record {
      ticked = ticked;
      rests_0 = elim c.if-quiet_0.branch [
        | then-quiet_0 w ↦ w.quiet_0-is ∙ rested _ l.invariant.rests_0 w.if-quiet_0.true w.clock_quiet-envelope_0.ensures w.envelope_0-is
        | else-quiet_0 w ↦ w.quiet_0-is ∙ (w.quiescent-quiet_0-else-quiet_0.ensures ∙ ap quiescent (sym w.envelope_0-is))
      ];
      rests_1 = elim c.if-quiet_1.branch [
        | then-quiet_1 w ↦ w.quiet_1-is ∙ rested _ l.invariant.rests_1 w.if-quiet_1.true w.clock_quiet-envelope_1.ensures w.envelope_1-is
        | else-quiet_1 w ↦ w.quiet_1-is ∙ (w.quiescent-quiet_1-else-quiet_1.ensures ∙ ap quiescent (sym w.envelope_1-is))
      ];
      rests_2 = elim c.if-quiet_2.branch [
        | then-quiet_2 w ↦ w.quiet_2-is ∙ rested _ l.invariant.rests_2 w.if-quiet_2.true w.clock_quiet-envelope_2.ensures w.envelope_2-is
        | else-quiet_2 w ↦ w.quiet_2-is ∙ (w.quiescent-quiet_2-else-quiet_2.ensures ∙ ap quiescent (sym w.envelope_2-is))
      ];
      stored = elim c.if-i-room.branch [
        | then-i-room w ↦ stored_more (over pack) start out l.invariant.stored ticked w.if-i-room.true (w.out-is ∙ w.store.ensures)
        | else-i-room w ↦ stored_full (over pack) start out l.invariant.stored w.if-i-room.false w.out-is
      ];
    }

pub returns : goal.returns
returns c =
    let ways = over c.args.pack.now in
    let inv = c.loop-i.invariant in
    (ran ways c.args.chip (omega arith) c.loop-i-test.false inv.ticked, stored_all ways c.args.chip c.args.out.now (omega arith) c.loop-i-test.false inv.stored)
