-- A netlist whose parts are all there is the circuit of its plan.
use Rattle.std.proofs.Common.{◌≡◌, ℕ, zero, suc, ◌^◌, ◌<◌, List, [], ◌∷◌, map, length, Some, None, refl, sym, ap, ap₂, ◌∙◌, subst, arith}
use Rattle.std.specs.Prelude.{slice_get, slice_index}
use Rattle.std.specs.Option.{option_map}
use Rattle.std.proofs.lemmas.Nat.{pow_pos}
use Rattle.std.proofs.lemmas.List.{append-nil, length-map}
use Rattle.std.proofs.lemmas.Option.{slice_get-map, get_or_from_slice_get}
use Rattle.hls_base.specs.ArrayAddress.{address_bits}
use Rattle.rtl_core.specs.declared.design.OutPin.{OutPin}
use Rattle.rtl_core.specs.Netlist.{Netlist}
use Rattle.rtl_core.specs.ClockStep.{State, IsState, ArePins, register_widths, word_at, seen, outputs}
use Rattle.rtl_core.specs.Interface.{HasPins, outer, result_pin, ret_of}
use Rattle.rtl_core.proofs.Fits.{fit_get, fit_length}
use Rattle.rtl_logic.proofs.Making as making
use Rattle.rtl_core.specs.FramePins.{result_bits}
use Rattle.datapath.specs.Plans.{Plan, Array, no_array, array_at, interface}
use Rattle.datapath.specs.Cycles.{Register, Result, Contents}
use Rattle.datapath.specs.Circuits.{width, ShowsReturn, Shows}
use Rattle.datapath.specs.Netlists.{memory_of, Holds}
use Rattle.datapath.specs.CircuitWires.Carrying.{IsMoment}
use Rattle.circuit_context.specs.Wanted.Driving.{Seen, IsAssembled}
use Rattle.fsm_datapath.specs.CircuitParts.{AssembledIsCircuit}
use Rattle.fsm_datapath.proofs.CircuitParts.Naming.{Place, place, no_place, place_of}
use Rattle.fsm_datapath.proofs.CircuitParts.Memories.{HasShape, hold_arrays}
use Rattle.fsm_datapath.proofs.CircuitParts.Edges.{follows}

-- ---- contents

held_by : (xs : List ℕ) (names : List Register) (g : Register → ℕ) → length xs ≡ length names → ((k : ℕ) (r : Register) → slice_get names k ≡ Some r → slice_index xs k ≡ g r) → xs ≡ map g names
held_by [] [] g count h = refl
held_by [] (r ∷ names) g count h = absurd (omega (arith, count))
held_by (x ∷ xs) [] g count h = absurd (omega (arith, count))
held_by (x ∷ xs) (r ∷ names) g count h = ap₂ (λ (y : ℕ) (l : List ℕ). y ∷ l) (h 0 r refl) (held_by xs names g (omega (arith, count)) (λ k q e. h (suc k) q e))

module _ (p : Plan) (names : List Register) (sigs : List Seen) (d : Netlist) (h : IsAssembled p names sigs d) (s : State) (state : IsState d s) where
  abbrev held : (r : Register) → Place names r → ℕ
  held r (place k there) = slice_index s.regs k
  held r (no_place none) = 0

  held_is : (k : ℕ) (r : Register) → slice_get names k ≡ Some r → (w : Place names r) → slice_index s.regs k ≡ held r w
  held_is k r there (no_place none) = absurd (none k there)
  held_is k r there (place j too) = let same : k ≡ j = h.distinct k j r there too in ap (slice_index s.regs) same

  held_fits : (r : Register) (w : Place names r) → held r w < 2 ^ width p r
  held_fits r (no_place none) = pow_pos (width p r)
  held_fits r (place k there) =
      fit_get (register_widths d) s.regs state.regs k (width p r) (ap (λ l. slice_get l k) h.begun.named ∙ (slice_get-map (width p) names k ∙ ap (option_map (width p)) there))

  abbrev first_contents : Contents
  first_contents = record { regs = λ r. held r (place_of names r); memories = λ a address. word_at s.mems (memory_of p a) address }

  as_many : length s.regs ≡ length names
  as_many = sym (fit_length (register_widths d) s.regs state.regs) ∙ (ap length h.begun.named ∙ length-map names (width p))

  pub begins : (x : Contents) × Holds p names s x
  begins = (
    first_contents,
    record {
      regs = held_by s.regs names first_contents.regs as_many (λ k r there. held_is k r there (place_of names r));
      fit = λ r. held_fits r (place_of names r);
      memories = λ a address plain low. refl;
    },
  )

-- ---- outputs

-- the number of outputs
output_count : (p : Plan) (d : Netlist) → HasPins d (interface p) → length d.outputs ≡ suc (suc (suc (length (result_pin (result_bits p.result)))))
output_count p d pins = sym (length-map d.outputs outer) ∙ ap length pins.outputs

-- what is shown at an output that there is
output_is : (d : Netlist) (s : State) (pins : List ℕ) (k : ℕ) (o : OutPin) → slice_get d.outputs k ≡ Some o → slice_index (outputs d s pins) k ≡ seen d s pins o.from
output_is d s pins k o there =
    get_or_from_slice_get (outputs d s pins) k (seen d s pins o.from) 0
    (slice_get-map (λ (q : OutPin). seen d s pins q.from) d.outputs k ∙ ap (option_map (λ (q : OutPin). seen d s pins q.from)) there)

-- an output that there is
get_output : (outs : List OutPin) (k : ℕ) → k < length outs → (o : OutPin) × (slice_get outs k ≡ Some o)
get_output [] k low = absurd (omega (arith, low))
get_output (o ∷ outs) zero low = (o, refl)
get_output (o ∷ outs) (suc k) low = get_output outs k (omega (arith, low))

shows_return : (bits x ret : ℕ) → (0 < bits → ret ≡ x) → ShowsReturn bits x ret
shows_return zero x ret h = tt
shows_return (suc bits) x ret h = h (omega arith)

some_result : (bits : ℕ) → 0 < bits → length (result_pin (result_bits bits)) ≡ 1
some_result zero low = absurd (omega (arith, low))
some_result (suc bits) low = refl

module _ (p : Plan) (names : List Register) (sigs : List Seen) (d : Netlist) (h : IsAssembled p names sigs d) (s : State) (pins : List ℕ) (x : Contents) (state : IsState d s)
    (are : ArePins d pins) (holds : Holds p names s x) where
  now : IsMoment p names d d s pins x
  now = record { extends = making.stays d; sound = h.begun.sound; state = state; pins_ = are; more = []; holds = subst (λ ns. Holds p ns s x) (sym (append-nil names)) holds }

  count : length d.outputs ≡ suc (suc (suc (length (result_pin (result_bits p.result)))))
  count = output_count p d h.pins

  result_shown : 0 < p.result → ret_of (outputs d s pins) ≡ x.regs Result
  result_shown some =
      let one = some_result p.result some in
      let r = get_output d.outputs 3 (omega (arith, count, one)) in
      output_is d s pins 3 r.0 r.1 ∙ (h.outputs.result r.0 r.1 some).value_ d s pins x (λ z. 0) now

  pub shows : Shows p x (outputs d s pins)
  shows =
      let first = get_output d.outputs 0 (omega (arith, count)) in
      let second = get_output d.outputs 1 (omega (arith, count)) in
      let third = get_output d.outputs 2 (omega (arith, count)) in
      record {
        ready = output_is d s pins 0 first.0 first.1 ∙ (h.outputs.ready first.0 first.1).value_ d s pins x (λ z. 0) now;
        done = output_is d s pins 1 second.0 second.1 ∙ (h.outputs.done second.0 second.1).value_ d s pins x (λ z. 0) now;
        result = shows_return p.result (x.regs Result) (ret_of (outputs d s pins)) result_shown;
        element = λ low. output_is d s pins 2 third.0 third.1 ∙ h.outputs.element third.0 third.1 d s pins x now low;
      }

-- ---- the whole

shape_there : (p : Plan) (names : List Register) (sigs : List Seen) (d : Netlist) → IsAssembled p names sigs d → (a : ℕ) (array : Array) → slice_get p.arrays a ≡ Some array → array.table ≡ None
    → HasShape d.mems (memory_of p a) (record { bits = array.bits; dims = array.dims })
shape_there p names sigs d h a array at_ plain =
    let m = h.memories a array at_ plain in
    let same : array_at p a ≡ array = get_or_from_slice_get p.arrays a array no_array at_ in
    record {
      memory = m.0;
      there = m.1.stands;
      bits = m.1.bits ∙ ap (λ (z : Array). z.bits) same;
      deep = m.1.depth_log ∙ ap (λ (z : Array). address_bits z.dims) same;
    }

pub is_circuit : AssembledIsCircuit
is_circuit p names sigs d sound h = record {
  pins = h.pins;
  arrays = hold_arrays p d sound (shape_there p names sigs d h);
  names = names;
  widths = h.begun.named;
  begins = λ s state. begins p names sigs d h s state;
  shows = λ s pins x state are holds. shows p names sigs d h s pins x state are holds;
  goes_on = λ s pins x state are holds. follows p names sigs d sound h s pins x state are holds;
}
