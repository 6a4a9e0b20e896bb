-- Triangle and line loading: document 01, 'Oscillator' and 'Line loading'; waveforms.rs.
use Rattle.std.specs.Prelude.{ℕ, zero, suc, ◌+◌, ◌-◌, ◌*◌, ◌/◌, ◌%◌, ◌^◌, Bool, cond, List, eqb, ltb, pos, get_or, Float}
use Rattle.std.specs.Float.{nan, binary32}
use Rattle.std.specs.Float.Ieee.{add, sub, mul, neg, lt, le, of_int}
use Rattle.laws.specs.Build.{build}
use Rattle.laws.specs.Times.{times}
use Rattle.waveforms.specs.declared.LineArray.{LineArray}
use Rattle.waveforms.specs.Constants.{0·0, 1·0, 2·0, neighbour_coupling, directional_skews, distance_decays, retention_thresholds, pulse_load, noise_load, triangle_load, saw_load, interaction_gain, loading_scales, by_selection}

-- 'Triangle doubles the phase, complemented above 0x7ff' (triangle_from_phase), of the low twelve bits
unfoldable pub triangle : ℕ → ℕ
triangle p = cond (ltb 0x7ff (p % 4096)) (0xfff - p % 4096) (p % 4096) * 2

-- ---- 'All arithmetic is f32, each operation rounded once, in the Rust's order from left to right'

infixl 65 ◌⊕◌
infixl 65 ◌⊖◌
infixl 70 ◌⊗◌
abbrev pub ◌⊕◌ : Float → Float → Float
x ⊕ y = add binary32 x y

abbrev pub ◌⊖◌ : Float → Float → Float
x ⊖ y = sub binary32 x y

abbrev pub ◌⊗◌ : Float → Float → Float
x ⊗ y = mul binary32 x y

-- f32::max, where y isn't NaN
unfoldable pub max : Float → Float → Float
max x y = cond (le y x) x y

-- f32::clamp: NaN and -0.0 stay
unfoldable pub clamp : Float → Float → Float → Float
clamp x low high = cond (lt x low) low (cond (lt high x) high x)

-- ---- 'The power of the distance decay starts from 1.0 and repeatedly halves the exponent, multiplying in the current
-- square when the exponent is odd' (powi)

-- k halvings of the exponent n, from the product `acc` and the current square on
unfoldable pub power : ℕ → Float → Float → ℕ → Float
power zero acc square n = acc
power (suc k) acc square n = power k (cond (eqb (n % 2) 1) (acc ⊗ square) acc) (square ⊗ square) (n / 2)

-- n halvings leave nothing of n
unfoldable pub powi : Float → ℕ → Float
powi base n = power n 1·0 base n

-- ---- the line array of a selection (LineArray::new)

-- the coupling of two lines so far apart, in a direction of 1.0 or -1.0
unfoldable pub coupled : ℕ → Float → ℕ → Float
coupled s direction distance =
    neighbour_coupling ⊗ powi (by_selection distance_decays s) (distance - 1) ⊗ (1·0 ⊕ direction ⊗ by_selection directional_skews s)

-- coupling[destination][source]: the direction is -1.0 where the source is the lower line; a line doesn't pull itself
unfoldable pub coupling : ℕ → ℕ → ℕ → Float
coupling s destination source =
    cond (eqb destination source) 0·0
    (cond (ltb source destination) (coupled s (neg 1·0) (destination - source)) (coupled s 1·0 (source - destination)))

-- a waveform that isn't selected adds 0.0
unfoldable pub load_if : Bool → Float → Float
load_if on load = cond on load 0·0

-- static_load: the loads of the selected waveforms, triangle, saw, pulse, noise
unfoldable pub static_load_of : ℕ → Float
static_load_of s =
    load_if (eqb (s % 2) 1) triangle_load ⊕ load_if (eqb (s / 2 % 2) 1) saw_load ⊕ load_if (eqb (s / 4 % 2) 1) pulse_load ⊕ load_if (eqb (s / 8 % 2) 1) noise_load

-- 'one flat array of 144': the coupling of source r and destination d stands at 12 r + d
unfoldable pub array_of : ℕ → LineArray
array_of s = record { selection = s; coupling = build (λ k. coupling s (k % 12) (k / 12)) 144; static_load = static_load_of s }

-- ---- 'Three passes settle twelve line charges' (LineArray::settle)

-- how many waveforms a selection has, of its low four bits (count_ones)
unfoldable pub drivers : ℕ → ℕ
drivers s = s % 2 + s / 2 % 2 + s / 4 % 2 + s / 8 % 2

-- source_excess: the waveforms beyond two
unfoldable pub source_excess : ℕ → Float
source_excess s = max (of_int binary32 (pos (drivers s)) ⊖ 2·0) 0·0

-- interaction_scale: more waveforms pull harder
unfoldable pub interaction_scale : ℕ → Float
interaction_scale s = 1·0 ⊕ interaction_gain ⊗ source_excess s ⊗ source_excess s

-- a line's charge at the start: 1.0 where the value has the line, else 0.0
unfoldable pub charge_at : ℕ → ℕ → Float
charge_at value bit = of_int binary32 (pos (value / 2 ^ bit % 2))

-- a line's discharge with one source more, which pulls by what it lacks of a full charge
abbrev pub pulled : Float → Float → Float → Float
pulled discharge previous coupling = discharge ⊕ (1·0 ⊖ previous) ⊗ coupling

-- the discharge of a line by the static load and its first n sources, in this order
unfoldable pub discharge : List Float → Float → List Float → ℕ → ℕ → Float
discharge couplings load previous destination zero = load
discharge couplings load previous destination (suc n) =
    pulled (discharge couplings load previous destination n) (get_or previous n nan) (get_or couplings (n * 12 + destination) nan)

-- what a pass leaves of a line: one at or below 0.0 stays, any other loses its discharge, scaled, within 0.0 to 1.0
unfoldable pub drained : Float → Float → Float → Float → Float
drained interaction loading previous discharge =
    cond (le previous 0·0) previous (clamp (previous ⊖ discharge ⊗ interaction ⊗ loading) 0·0 1·0)

-- one pass: every line sees the charges before it, `previous`
unfoldable pub pass : List Float → Float → Float → Float → List Float → List Float
pass couplings load interaction loading previous =
    build (λ d. drained interaction loading (get_or previous d nan) (discharge couplings load previous d 12)) 12

-- 'a line at or above the selection's retention threshold is 1'
unfoldable pub retained : Float → Float → ℕ → ℕ
retained threshold level bit = cond (le threshold level) (2 ^ bit) 0

-- the code of the first n lines
unfoldable pub code : Float → List Float → ℕ → ℕ
code threshold charges zero = 0
code threshold charges (suc n) = code threshold charges n + retained threshold (get_or charges n nan) n

-- the code that a value settles to on a line array's lines (LineArray::settle)
unfoldable pub settled_by : LineArray → ℕ → ℕ
settled_by a value =
    code (by_selection retention_thresholds a.selection)
    (times 3 (pass a.coupling a.static_load (interaction_scale a.selection) (by_selection loading_scales a.selection)) (build (charge_at value) 12)) 12

-- 'the settled i' of a selection (the entry of LineArray::generate)
unfoldable pub settled : ℕ → ℕ → ℕ
settled s value = settled_by (array_of s) value

-- ---- for the tick: the selection counts by its low four bits, the value by its low twelve

-- two waveforms or more (needs_line_loading)
unfoldable pub needs_loading : ℕ → Bool
needs_loading s = ltb 1 (drivers s)

-- a single waveform passes unchanged (apply_line_loading). That 'the voice doesn't load' the lines of selection 9 is
-- the oscillator's rule: it doesn't ask
unfoldable pub loaded : ℕ → ℕ → ℕ
loaded s value = cond (needs_loading s) (settled s value) (value % 4096)
