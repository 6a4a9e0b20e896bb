-- `Tone::fed_back` clears the phase's top bit and its mark where the code feeds back, and else changes nothing.
use Rattle.std.proofs.Common.{◌≡◌, ◌%◌, ◌^◌, sym, ◌∙◌}
use lib.Bits.{and_mask, bit_and}
use Rattle.oscillator.specs.Oscillator.{fed_back_tone}
use Rattle.oscillator.proofs.Tone.fed_back.Goals as goal

pub returns-then-feeds_back : goal.returns-then-feeds_back
unfolding fed_back_tone
returns-then-feeds_back c =
    let m : bit_and c.args.self.accumulator 0x7fffff ≡ c.args.self.accumulator % 2 ^ 23 = and_mask c.args.self.accumulator 23 in
    simp (sym c.feeds_back.ensures ∙ c.if-feeds_back.true, m)

pub returns-else-feeds_back : goal.returns-else-feeds_back
unfolding fed_back_tone
returns-else-feeds_back c = simp (sym c.feeds_back.ensures ∙ c.if-feeds_back.false)
