-- The fading byte for any run of calls, after a write, a driven read or a reset, and the bits of it that each tick
-- reports lost; a write to 0x15 and above moves the bus alone. Assumes nothing.
use mathlib.Core.Path.{◌≡◌, refl, ap, sym, ◌∙◌}
use mathlib.Core.Bool.{Bool, true, false, cond}
use mathlib.Core.List.{List, [], ◌∷◌}
use Prim.Native.Nat.{ℕ, ◌/◌, ◌%◌, ◌^◌, ◌<◌}
use native.Mathlib.Omega.{arith}
use borrow.Author.Tests.{ne_eqb}
use Rattle.laws.specs.Times.{times}
use Rattle.laws.proofs.Times.{times_first}
use Rattle.bus.specs.Bus.{holds, next_expiry_for, fresh as bus_fresh, driven, clocked as bus_clocked, clocks as bus_clocks, lost}
use Rattle.bus.specs.declared.InternalDataBus.{InternalDataBus}
use Rattle.bus.proofs.Fade.{byte_fades}
use Rattle.bus.proofs.Kept.{kept_le}
use Rattle.bus.proofs.Lost.{lost_at_hold}
use Rattle.oscillator.specs.Ways.{stepwise}
use Rattle.sid.specs.Sid.{register, reset, written_to, written, with_bus, read_at, Call, write, read, tick, clear, set_pot_x, set_pot_y, called_by, called, after_by, after, clocks_of}
use Rattle.sid.specs.declared.Mos6581.{Mos6581}
use Rattle.sid.specs.declared.Read.{Read}
use Rattle.sid.proofs.Ticks.{tick_bus}
use Rattle.calls.specs.Calls.{Each, none, next, floating, Unvoiced, undriven, Fades, Loses}
use Rattle.calls.proofs.Voices.{read_floats, read_drives}

-- a bus that nothing drives sees the ticks alone
pub bus_after : (calls : List Call) (c : Mos6581) → Each undriven calls → (after calls c).data_bus ≡ bus_clocks (clocks_of calls) c.data_bus
unfolding after_by clocks_of called_by undriven times
bus_after [] c none = refl
bus_after (write address value ∷ calls) c (next h r) =
    ap (λ (t : Bool). cond t (bus_clocks (clocks_of calls) c.data_bus) (after calls (called (write address value) c)).data_bus) h
bus_after (read address ∷ calls) c (next h r) =
    bus_after calls (called (read address) c) r ∙ ap (λ (x : Read). bus_clocks (clocks_of calls) x.chip.data_bus) (read_floats c address h)
bus_after (tick ∷ calls) c (next h r) =
    bus_after calls (called tick c) r
    ∙ ap (bus_clocks (clocks_of calls)) (tick_bus stepwise c)
    ∙ sym (times_first bus_clocked (clocks_of calls) c.data_bus)
bus_after (clear ∷ calls) c (next h r) =
    ap (λ (t : Bool). cond t (bus_clocks (clocks_of calls) c.data_bus) (after calls (called clear c)).data_bus) h
bus_after (set_pot_x value ∷ calls) c (next h r) = bus_after calls (called (set_pot_x value) c) r
bus_after (set_pot_y value ∷ calls) c (next h r) = bus_after calls (called (set_pot_y value) c) r

-- what the drives below share
pub read_fades : (v : ℕ) (c : Mos6581) → v < 256 → c.data_bus ≡ driven v → Fades v c
read_fades v c l e calls address r f =
    ap (λ (x : Read). x.byte) (read_floats (after calls c) address f)
    ∙ ap (λ (b : InternalDataBus). b.value) (bus_after calls c r ∙ ap (bus_clocks (clocks_of calls)) e)
    ∙ byte_fades v (clocks_of calls) l

-- THE FADING LAW: 'Every write, also to an unused address, drives the byte'
pub write_fades : (c : Mos6581) (address v : ℕ) → v < 256 → Fades v (written c address v)
unfolding written
write_fades c address v l = read_fades v (written c address v) l refl

-- 'Reads of 0x19 to 0x1c … drive what they return': a byte, as its type says
pub driven_read_fades
    : (c : Mos6581) (address : ℕ)
    → floating address ≡ false
    → (read_at c address).byte < 256
    → Fades (read_at c address).byte (read_at c address).chip
driven_read_fades c address d l = read_fades (read_at c address).byte (read_at c address).chip l (read_drives c address d)

-- 'a chip reset clears the bus byte': as if 0 were driven
pub reset_fades : (c : Mos6581) → Fades 0 (reset c)
unfolding reset bus_fresh driven next_expiry_for holds
reset_fades c = read_fades 0 (reset c) (omega arith) refl

pub reset_clears
    : (c : Mos6581) (calls : List Call) (address : ℕ)
    → Each undriven calls
    → floating address ≡ true
    → (read_at (after calls (reset c)) address).byte ≡ 0
reset_clears c calls address r f = reset_fades c calls address r f ∙ omega (arith, kept_le holds 0 (clocks_of calls))

-- ---- the bits that ticks report after a drive

tick_loses : (v : ℕ) (c : Mos6581) → v < 256 → c.data_bus ≡ driven v → Loses v c
tick_loses v c l e calls k r b =
    ap (λ (x : InternalDataBus). lost x / 2 ^ k % 2) (bus_after calls c r ∙ ap (bus_clocks (clocks_of calls)) e) ∙ lost_at_hold v (clocks_of calls) k l b

pub write_loses : (c : Mos6581) (address v : ℕ) → v < 256 → Loses v (written c address v)
unfolding written
write_loses c address v l = tick_loses v (written c address v) l refl

pub driven_read_loses
    : (c : Mos6581) (address : ℕ)
    → floating address ≡ false
    → (read_at c address).byte < 256
    → Loses (read_at c address).byte (read_at c address).chip
driven_read_loses c address d l = tick_loses (read_at c address).byte (read_at c address).chip l (read_drives c address d)

-- after a reset there is nothing to lose
pub reset_loses : (c : Mos6581) → Loses 0 (reset c)
unfolding reset bus_fresh driven next_expiry_for holds
reset_loses c = tick_loses 0 (reset c) (omega arith) refl

-- ---- 'Writes to 0x15 to 0x18 therefore only drive the bus', and so do those above: voices and pots are as before

pub write_only_drives : (c : Mos6581) (address value : ℕ) → Unvoiced address → written c address value ≡ with_bus c (driven value)
unfolding written written_to
write_only_drives c address value h =
    let r = register address in
    let no : (n : ℕ) → n < 3 → r / 7 ≡ n → ⊥ = λ n l e. omega arith in
    simp (ne_eqb (r / 7) 0 (no 0 (omega arith)), ne_eqb (r / 7) 1 (no 1 (omega arith)), ne_eqb (r / 7) 2 (no 2 (omega arith)))
