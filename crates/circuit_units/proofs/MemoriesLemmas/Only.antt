-- The port of a memory with no other one.
use Rattle.std.proofs.Common.{◌≡◌, ◌≢◌, ℕ, Bool, true, not, List, [], ◌∷◌, length, slice_get, Option, Some, None, refl, sym, ap, ◌∙◌, arith}
use Rattle.std.specs.Prelude.{is_some, ◌==◌, ◌&&◌, ◌||◌}
use Rattle.std.proofs.lemmas.Bool.{eq-eqb, ne_eqb, or_right}
use Rattle.rtl_core.specs.declared.design.Atom.{Atom}
use Rattle.rtl_core.specs.declared.design.Port.{Port}
use Rattle.rtl_core.specs.Netlist.{Netlist}
use Rattle.datapath.specs.Plans.{Plan, array_at}
use Rattle.rtl_logic.proofs.Making.{appends_none}
use Rattle.datapath.specs.Cycles.{Register, Cycle, in_cycle, bit}
use Rattle.datapath.specs.Ports.{port_count, is_enabled, is_reading}
use Rattle.datapath.specs.CircuitWires.Carrying.{IsBegun, Carries, MakesTelling}
use Rattle.circuit_units.specs.Memories.Places.{IsPortMade, TellsOnly, enable_of_only}

pub only_tells : (p : Plan) (names : List Register) (d : Netlist) (a : ℕ) (ports : List Port) → length ports ≡ port_count p a → (array_at p a).table ≡ None
    → ((n : ℕ) (port : Port) → slice_get ports n ≡ Some port → IsPortMade p names d a n port) → TellsOnly p names d a (enable_of_only ports)
only_tells p names d a [] count none are = λ one. absurd (omega (arith, count, one))
only_tells p names d a (port ∷ []) count none are = (sym count, none, (are 0 port refl).enable)
only_tells p names d a (port ∷ other ∷ ports) count none are = λ one. absurd (omega (arith, count, one))

-- its word is read where it does not write
pub tells_reading : (p : Plan) (names : List Register) (d e : Netlist) (a : ℕ) (when : Atom) → port_count p a ≡ 1 → (array_at p a).table ≡ None → MakesTelling p names d e when (λ c. not (is_enabled p c a 0))
    → MakesTelling p names d e when (λ c. is_reading p c a 0)
tells_reading p names d e a when one none made = record {
  appends = made.appends;
  begun = made.begun;
  carries = record {
    fits = made.carries.fits;
    value_ = λ f s pins x signals m. made.carries.value_ f s pins x signals m ∙ ap bit (sym (is (in_cycle x signals pins)));
  };
}
  where
    is : (c : Cycle) → is_reading p c a 0 ≡ not (is_enabled p c a 0)
    is c =
        ap (λ (t : Option (List ℕ)). is_some t || not ((port_count p a == 1) && is_enabled p c a 0)) none
        ∙ ap (λ (b : Bool). not (b && is_enabled p c a 0)) (eq-eqb (port_count p a) 1 one)

-- the words at several ports are always read
pub always_reading : (p : Plan) (names : List Register) (d : Netlist) (a : ℕ) (when : Atom) → IsBegun p names d → port_count p a ≢ 1 → Carries p names d 1 when (λ c. 1) → MakesTelling p names d d when (λ c. is_reading p c a 0)
always_reading p names d a when begun more one = record {
  appends = appends_none d;
  begun = begun;
  carries = record {
    fits = one.fits;
    value_ = λ f s pins x signals m. one.value_ f s pins x signals m ∙ ap bit (sym (is (in_cycle x signals pins)));
  };
}
  where
    is : (c : Cycle) → is_reading p c a 0 ≡ true
    is c = or_right (is_some (array_at p a).table) (not ((port_count p a == 1) && is_enabled p c a 0)) (ap (λ (b : Bool). not (b && is_enabled p c a 0)) (ne_eqb (port_count p a) 1 more))
