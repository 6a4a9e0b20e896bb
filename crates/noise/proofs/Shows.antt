-- The noise lines show the stages as they are: fresh, and after every step of a chip's register. Assumes nothing.
use Rattle.std.proofs.Common.{◌≡◌, ℕ, zero, suc, ◌^◌, Bool, true, false, cond, sym, refl, ap, ◌∙◌, true≢false}
use lib.Bits.{bit_or}
use Rattle.laws.specs.Times.{times}
use Rattle.laws.proofs.Cond.{by_test, either}
use Rattle.noise.specs.Noise.{shown, fresh, entered_test, left_test, captures, capture_numbers, clocked, transfers, shifted_numbers, transferred, marks, relaxed_stage, relaxed_to, relax_step, settled_to, come, relaxed_times, relaxed_once, coupled, pulled_numbers, pulled_down, stepped_once, stepped_by}
use Rattle.noise.specs.declared.NoiseGenerator.{NoiseGenerator}
use Rattle.noise.specs.declared.Stages.{Stages}

abbrev pub Shows : NoiseGenerator → Type 0
Shows g = g.numbers.visible ≡ shown g.numbers.state

-- leak steps that mark no stage leave the stages as they are
abbrev Unmarked : ℕ → Stages → Type 0
Unmarked state s = s.changed ≡ false → s.state ≡ state

stage_unmarked : (state : ℕ) (s : Stages) (i : ℕ) → Unmarked state s → Unmarked state (relaxed_stage s i)
unfolding relaxed_stage
stage_unmarked state s i h = go (marks s i)
  where
    go : (t : Bool) → cond t true s.changed ≡ false → cond t (bit_or s.state (2 ^ i)) s.state ≡ state
    go true e = absurd (true≢false e)
    go false e = h e

step_unmarked : (state : ℕ) (s : Stages) (n : ℕ) → Unmarked state s → Unmarked state (relaxed_to s n)
unfolding relaxed_to
step_unmarked state s zero h = h
step_unmarked state s (suc n) h = stage_unmarked state (relaxed_to s n) n (step_unmarked state s n h)

steps_unmarked : (state : ℕ) (s : Stages) (n : ℕ) → Unmarked state s → Unmarked state (times n relax_step s)
unfolding times
steps_unmarked state s zero h = h
steps_unmarked state s (suc n) h = step_unmarked state (times n relax_step s) 23 (steps_unmarked state s n h)

settled_shows : (g : NoiseGenerator) (s : Stages) (at : ℕ) → Shows g → Unmarked g.numbers.state s → Shows (settled_to g s at)
unfolding settled_to
settled_shows g s at h u =
    by_test (λ (x : ℕ). x ≡ shown s.state) s.changed _ _ (λ _. refl) (λ e. h ∙ ap (λ (x : ℕ). shown x) (sym (u e)))

relaxed_shows : (g : NoiseGenerator) (cycle : ℕ) → Shows g → Shows (relaxed_once g cycle)
unfolding relaxed_once relaxed_times
relaxed_shows g cycle h =
    either Shows (come g.numbers.next_leak cycle) _ _ (settled_shows g _ _ h (steps_unmarked g.numbers.state _ 1 (λ _. refl))) h

transferred_shows : (g : NoiseGenerator) (cycle : ℕ) → Shows g → Shows (transferred g cycle)
unfolding transferred shifted_numbers
transferred_shows g cycle h = either Shows (transfers g.numbers cycle) _ _ refl h

clocked_shows : (g : NoiseGenerator) (rising cycle : ℕ) → Shows g → Shows (clocked g rising cycle)
unfolding clocked capture_numbers
clocked_shows g rising cycle h = either Shows (captures g.numbers rising) _ _ h h

-- ---- fresh, a clock, a coupling, a pull-down, test entered and left

pub fresh_shows : Shows fresh
unfolding fresh
fresh_shows = refl

pub stepped_shows : (g : NoiseGenerator) (test : Bool) (rising cycle : ℕ) → Shows g → Shows (stepped_once g test rising cycle)
unfolding stepped_by
stepped_shows g test rising cycle h =
    either Shows test _ _ (relaxed_shows g cycle h) (clocked_shows (transferred g cycle) rising cycle (transferred_shows g cycle h))

pub coupled_shows : (g : NoiseGenerator) (waveform : ℕ) → Shows g → Shows (coupled g waveform)
unfolding coupled
coupled_shows g waveform h = h

pub pulled_shows : (g : NoiseGenerator) (waveform cycle : ℕ) → Shows (pulled_down g waveform cycle)
unfolding pulled_down pulled_numbers
pulled_shows g waveform cycle = refl

pub entered_shows : (g : NoiseGenerator) (cycle : ℕ) → Shows g → Shows (entered_test g cycle)
unfolding entered_test
entered_shows g cycle h = h

pub left_shows : (g : NoiseGenerator) (cycle : ℕ) → Shows (left_test g cycle)
unfolding left_test
left_shows g cycle = refl
