-- Charges and bits: each stage of the noise register and each floating line holds a charge, and reads as a bit.
use Rattle.std.specs.Prelude.{ℕ, zero, suc, ◌-◌, ◌/◌, ◌%◌, ◌^◌, max, cond, List, eqb, leb, get_or}
use Rattle.std.specs.Int.Bits.{bit_or}
use Rattle.laws.specs.Build.{build}

-- the charge for bit i of a word: full (NOISE_TEST_CHARGE_MAX, WAVEFORM_FLOAT_CHARGE_MAX) or none
abbrev pub charge_for : ℕ → ℕ → ℕ
charge_for word i = cond (eqb (word / 2 ^ i % 2) 0) 0 65535

-- the charges for the low n bits of a word (the loops of NoiseGenerator::new and FloatingBus::capture)
unfoldable pub charged : ℕ → ℕ → List ℕ
charged word n = build (charge_for word) n

-- a word with bit n set too where charge n is at least the threshold
abbrev pub high_at : ℕ → List ℕ → ℕ → ℕ → ℕ
high_at threshold charge n word = cond (leb threshold (get_or charge n 0)) (bit_or word (2 ^ n)) word

-- the word whose bit is set where its charge is at least the threshold, of the first n charges (the loops of leave_test
-- and FloatingBus::sample)
unfoldable pub high_to : ℕ → List ℕ → ℕ → ℕ
high_to threshold charge zero = 0
high_to threshold charge (suc n) = high_at threshold charge n (high_to threshold charge n)

-- a charge less a part of it, and at least one (load_pulse_coupling of NoiseGenerator, FloatingBus::sample)
abbrev pub drained : ℕ → ℕ → ℕ
drained charge part = charge - max part 1
