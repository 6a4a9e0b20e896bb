-- The floating lines: document 01, 'Oscillator'; FloatingBus of oscillator.rs. Their numbers (Floating) stand apart
-- from the twelve charges.
use Rattle.std.specs.Prelude.{ℕ, zero, suc, ◌+◌, ◌-◌, ◌*◌, ◌/◌, ◌%◌, ◌<◌, ◌≤◌, Bool, cond, not, ◌&&◌, List, ◌==◌, ◌≢◌, nat_le, slice_index}
use Rattle.laws.specs.Build.{build}
use Rattle.laws.specs.Times.{times}
use Rattle.laws.specs.Cycle.{never, after}
use Rattle.laws.specs.Charges.{charged, high_to, drained}
use Rattle.floating.specs.declared.Floating.{Floating}
use Rattle.floating.specs.declared.FloatingBus.{FloatingBus}

-- the lines freshly made, and once a waveform is selected (new, reset)
unfoldable pub fresh : FloatingBus
fresh = record { numbers = record { value = 0; hold_until = never; next_leak = never }; charge = charged 0 12 }

-- 'Selecting waveform 0 from another captures the last code on floating lines' (capture; WAVEFORM_FLOAT_HOLD_CYCLES,
-- WAVEFORM_FLOAT_LEAK_INTERVAL_CYCLES)
unfoldable pub captured : ℕ → ℕ → FloatingBus
captured code cycle = record {
  numbers = record { value = code % 4096; hold_until = after cycle 1137140; next_leak = after (after cycle 1137140) 8192 };
  charge = charged (code % 4096) 12;
}

-- in one leak step a line loses a twelfth of its charge, and at least one (sample)
abbrev pub lost : ℕ → ℕ
lost q = drained q (q / 12)

-- one leak step, of all twelve lines (sample)
unfoldable pub leak_step : List ℕ → List ℕ
leak_step charge = build (λ i. lost (slice_index charge i)) 12

-- whether a leak is due: the lines show something, and hold and next leak have come (sample)
unfoldable pub leaks : Floating → ℕ → Bool
leaks f cycle = not (f.value == 0) && (nat_le f.hold_until cycle && nat_le f.next_leak cycle)

-- the code of the lines whose charge is at least the threshold (sample; WAVEFORM_FLOAT_THRESHOLD)
abbrev pub retained : List ℕ → ℕ
retained charge = high_to 18000 charge 12 % 4096

-- the lines once they have leaked to these charges, their next leak at a time; none is to come where no line is left
-- (sample)
unfoldable pub leaked_to : Floating → List ℕ → ℕ → FloatingBus
leaked_to f charge at = record {
  numbers = record { value = retained charge; hold_until = f.hold_until; next_leak = cond (retained charge == 0) never at };
  charge = charge;
}

-- the lines after n leak steps, one after the other (sample)
unfoldable pub leaked_times : ℕ → FloatingBus → FloatingBus
leaked_times n b = leaked_to b.numbers (times n leak_step b.charge) (after b.numbers.next_leak (n * 8192))

-- the leak steps elapsed at a cycle, counted from the next leak on (elapsed_steps of sample)
abbrev pub leak_steps : ℕ → ℕ → ℕ
leak_steps at cycle = (cycle - at) / 8192 + 1

-- the lines sampled at a cycle: the leak steps that are due (sample). What the Rust returns is the value that they then
-- have
unfoldable pub sampled : FloatingBus → ℕ → FloatingBus
sampled b cycle = cond (leaks b.numbers cycle) (leaked_times (leak_steps b.numbers.next_leak cycle) b) b

-- 'have the chip's tick take one step': where one is due or more (document 02, request 12)
unfoldable pub sampled_once : FloatingBus → ℕ → FloatingBus
sampled_once b cycle = cond (leaks b.numbers cycle) (leaked_times 1 b) b

-- how many are due; where it is one at most, the two rules above are one (`sample_once` in proofs/Once)
unfoldable pub steps_due : Floating → ℕ → ℕ
steps_due f cycle = cond (leaks f cycle) (leak_steps f.next_leak cycle) 0

-- lines that show something have their next leak ahead of a cycle, and no hold after it: so none is due at that cycle,
-- and one at most on the next clock (`ahead_one` in proofs/Once)
abbrev pub Ahead : Floating → ℕ → Type 0
Ahead f cycle = (f.value ≢ 0) → (f.hold_until ≤ f.next_leak) × (cycle < f.next_leak)

-- 'Left so': the lines sampled in a way on each of the n clocks that follow a cycle
unfoldable pub samples_by : (FloatingBus → ℕ → FloatingBus) → ℕ → FloatingBus → ℕ → FloatingBus
samples_by leak zero b cycle = b
samples_by leak (suc n) b cycle = leak (samples_by leak n b cycle) (after cycle (suc n))
