-- What starts a stage: its wires say what the chain says, and its register whether the result is fresh.
use Rattle.std.proofs.Common.{◌≡◌, ℕ, ◌-◌, ◌^◌, Bool, true, false, not, ◌&&◌, ◌||◌, cond, ◌==◌, List, [], ◌∷◌, refl, ap, ◌∙◌}
use Rattle.std.specs.Prelude.{bit_and, bit_or}
use Rattle.rtl_core.specs.declared.design.Atom.TheVariants as atom
use Rattle.rtl_core.specs.ClockStep.{State, bit_of, seen, stepped}
use Rattle.chain_box.specs.Chains.{fresh_after}
use Rattle.chain_link.specs.Units.{control, both_bits}

abbrev pub control_state : Bool → State
control_state fresh = record { regs = bit_of fresh ∷ []; mems = [] }

abbrev pub control_pins : Bool → Bool → Bool → Bool → List ℕ
control_pins ready done room some = 0 ∷ bit_of ready ∷ bit_of done ∷ bit_of room ∷ bit_of some ∷ []

both_and : (a b : Bool) → bit_and (bit_of a) (bit_of b) ≡ bit_of (a && b)
both_and true true = refl
both_and true false = refl
both_and false true = refl
both_and false false = refl

either_or : (a b : Bool) → bit_or (bit_of a) (bit_of b) ≡ bit_of (a || b)
either_or true true = refl
either_or true false = refl
either_or false true = refl
either_or false false = refl

opposite : (a : Bool) → 2 ^ 1 - 1 - bit_of a ≡ bit_of (not a)
opposite true = refl
opposite false = refl

and_three : (a b c : Bool) → bit_of ((a && b) && c) ≡ bit_of (a && (b && c))
and_three true b c = refl
and_three false b c = refl

-- the result is given
pub gives_shown : (fresh ready done room some : Bool) → seen control (control_state fresh) (control_pins ready done room some) (atom.Wire 1) ≡ bit_of (done && (fresh && room))
gives_shown fresh ready done room some = ap (λ z. bit_and z (bit_of room)) (both_and done fresh) ∙ (both_and (done && fresh) room ∙ and_three done fresh room)

-- the stage is started
pub starts_shown : (fresh ready done room some : Bool)
    → seen control (control_state fresh) (control_pins ready done room some) (atom.Wire 5) ≡ bit_of (ready && ((not fresh || (done && (fresh && room))) && some))
starts_shown fresh ready done room some =
    let give = done && (fresh && room) in
    ap (λ z. bit_and (bit_and (bit_of ready) (bit_or (2 ^ 1 - 1 - bit_of fresh) z)) (bit_of some)) (gives_shown fresh ready done room some)
    ∙ (ap (λ z. bit_and (bit_and (bit_of ready) (bit_or z (bit_of give))) (bit_of some)) (opposite fresh)
    ∙ (ap (λ z. bit_and (bit_and (bit_of ready) z) (bit_of some)) (either_or (not fresh) give)
    ∙ (ap (λ z. bit_and z (bit_of some)) (both_and ready (not fresh || give)) ∙ (both_and (ready && (not fresh || give)) some ∙ and_three ready (not fresh || give) some))))

-- ---- an edge

abbrev control_after : ℕ → ℕ → Bool → State
control_after start give fresh = record { regs = cond (start == 1) 1 (cond (give == 1) 0 (bit_of fresh)) ∷ []; mems = [] }

after_so : (start give fresh : Bool) → control_after (bit_of start) (bit_of give) fresh ≡ control_state (fresh_after start give fresh)
after_so true give fresh = refl
after_so false true true = refl
after_so false true false = refl
after_so false false true = refl
after_so false false false = refl

pub control_steps : (fresh ready done room some start give : Bool) → bit_of (done && (fresh && room)) ≡ bit_of give → bit_of (ready && ((not fresh || (done && (fresh && room))) && some)) ≡ bit_of start
    → stepped control (control_state fresh) (control_pins ready done room some) ≡ control_state (fresh_after start give fresh)
control_steps fresh ready done room some start give g s =
    let pins = control_pins ready done room some in
    ap (λ z. control_after (seen control (control_state fresh) pins (atom.Wire 5)) z fresh) (gives_shown fresh ready done room some ∙ g)
    ∙ (ap (λ z. control_after z (bit_of give) fresh) (starts_shown fresh ready done room some ∙ s) ∙ after_so start give fresh)

pub control_resets : (fresh ready done room some : ℕ) → stepped control (record { regs = fresh ∷ []; mems = [] }) (1 ∷ ready ∷ done ∷ room ∷ some ∷ []) ≡ control_state false
control_resets fresh ready done room some = refl

-- ---- both

pub both_shown : (s : State) (a b : Bool) → seen both_bits s (bit_of a ∷ bit_of b ∷ []) (atom.Wire 0) ≡ bit_of (a && b)
both_shown s a b = both_and a b
