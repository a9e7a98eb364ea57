-- Arguments and first values as atoms.
use Rattle.std.proofs.Common.{◌≡◌, ◌<◌, ◌≤◌, ℕ, zero, suc, ◌+◌, ◌%◌, ◌^◌, true, ◌&&◌, List, [], ◌∷◌, ◌++◌, length, map, get_or, slice_get, slice_index, Option, Some, None, refl, sym, ap, ◌∙◌, subst, arith}
use Rattle.std.specs.Prelude.{not, nat_lt}
use Rattle.std.proofs.Math.Nat.{mod-eq_of_lt}
use Rattle.std.proofs.lemmas.Bool.{ltb-true, false≢true}
use Rattle.std.proofs.lemmas.Option.{slice_get_within, get_or_from_slice_get}
use Rattle.std.proofs.lemmas.List.{length-map}
use Rattle.hls_base.specs.declared.number.VarId.{VarId}
use Rattle.rtl_core.specs.declared.design.Atom.{Atom}
use Rattle.rtl_core.specs.declared.design.Atom.TheVariants as atom
use Rattle.rtl_core.specs.declared.design.Pin.{Pin}
use Rattle.rtl_core.specs.Netlist.{Netlist}
use Rattle.rtl_core.specs.Interface.{Interface, input_pins, argument_pins}
use Rattle.datapath.specs.Plans.{Plan, interface}
use Rattle.datapath.specs.Cycles.{Register, starts}
use Rattle.datapath.specs.Control.{is_taken}
use Rattle.rtl_core.specs.ClockStep.{input_widths}
use Rattle.rtl_core.proofs.Fits.{fit_get}
use Rattle.std.specs.List.{enumerate_from, list_all}
use Rattle.ir_core.specs.declared.cfg.Cfg.{Cfg}
use Rattle.ir_core.specs.declared.cfg.Frame.{Frame}
use Rattle.ir_core.specs.declared.timed.Timed.{Timed}
use Rattle.program_validity.specs.Widths.{is_width, is_word_of}
use Rattle.program_validity.specs.Frames.{is_among, is_result_width, are_params, are_kept, is_kept, keep_different, is_frame}
use Rattle.program_validity.specs.Programs.{is_consistent}
use Rattle.program_validity.proofs.Parts.{first_of_both, second_of_both, holds_at, frame_valid}
use Rattle.program_validity.proofs.EachOperation.{width_between}
use Rattle.hls_base.specs.declared.number.Kept.{Kept}
use Rattle.hls_base.specs.declared.number.NodeId.{NodeId}
use Rattle.circuit_context.specs.declared.wanted.role.Target.TheVariants as t
use Rattle.circuit_context.specs.Wanted.Entries.{node_of, bit_entry, parameter_entry, kept_entry, all_beginnings}
use Rattle.datapath.specs.CircuitWires.Carrying.{IsBegun, Tells}
use Rattle.datapath.proofs.Combining.{constant_carries}
use Rattle.circuit_context.specs.Wanted.Logs.{CarriesSome}
use Rattle.fsm_datapath.proofs.Pushing.{bit_tells}

argument_bits : (from : ℕ) (scalars : List ℕ) (k : ℕ) → k < length scalars → slice_get (map (λ (q : Pin). q.bits) (argument_pins from scalars)) k ≡ Some (slice_index scalars k)
argument_bits from [] k low = absurd (omega arith)
argument_bits from (bits ∷ scalars) zero low = refl
argument_bits from (bits ∷ scalars) (suc k) low = argument_bits (suc from) scalars k (omega arith)

get_past : (xs ys : List ℕ) (k : ℕ) → slice_get (xs ++ ys) (length xs + k) ≡ slice_get ys k
get_past [] ys k = let e : 0 + k ≡ k = omega arith in ap (slice_get ys) e
get_past (x ∷ xs) ys k = let e : suc (length xs) + k ≡ suc (length xs + k) = omega arith in ap (slice_get (x ∷ xs ++ ys)) e ∙ get_past xs ys k

input_bits : (i : Interface) (k : ℕ) → slice_get (map (λ (q : Pin). q.bits) (input_pins i)) (7 + k) ≡ slice_get (map (λ (q : Pin). q.bits) (argument_pins 0 i.scalars)) k
input_bits i k = get_past (1 ∷ 1 ∷ 1 ∷ 1 ∷ 5 ∷ 16 ∷ 64 ∷ []) (map (λ (q : Pin). q.bits) (argument_pins 0 i.scalars)) k

-- an argument is an input
pub argument_carries : (p : Plan) (names : List Register) (d : Netlist) (k : ℕ) → IsBegun p names d → k < length p.parameters → CarriesSome p names d (atom.Input (7 + k)) (λ c. slice_index c.pins (7 + k))
argument_carries p names d k begun low =
    let scalars : List ℕ = map (λ (v : VarId). slice_index p.program.shapes.widths v.0) p.parameters in
    let inside : k < length scalars = subst (λ n. k < n) (sym (length-map p.parameters (λ (v : VarId). slice_index p.program.shapes.widths v.0))) low in
    record {
      bits = slice_index scalars k;
      carries = record {
        fits = ap (λ (ps : List Pin). slice_get (map (λ (q : Pin). q.bits) ps) (7 + k)) begun.pins ∙ (input_bits (interface p) k ∙ argument_bits 0 scalars k inside);
        value_ = λ e s pins x signals m. refl;
      };
    }

-- ---- kept variables

kept_valid : (f : Frame) → is_frame f ≡ true → list_all (is_kept f) f.kept.items ≡ true
kept_valid f h =
    let few = nat_lt (length f.variables.items) (2 ^ 32) && nat_lt (length f.memories.items) (2 ^ 32) in
    let widths = list_all is_width f.variables.items && is_result_width f.ret in
    let both = first_of_both (are_params f && are_kept f) _ (second_of_both widths _ (second_of_both few _ h)) in
    first_of_both (list_all (is_kept f) f.kept.items) (keep_different f.kept.items) (second_of_both (are_params f) (are_kept f) both)

pub all_kept : (cfg : Cfg Timed) → is_consistent cfg ≡ true → list_all (is_kept cfg.frame) cfg.frame.kept.items ≡ true
all_kept cfg h = kept_valid cfg.frame (frame_valid cfg h)

variables_valid : (f : Frame) → is_frame f ≡ true → list_all is_width f.variables.items ≡ true
variables_valid f h =
    let few = nat_lt (length f.variables.items) (2 ^ 32) && nat_lt (length f.memories.items) (2 ^ 32) in
    let widths = list_all is_width f.variables.items && is_result_width f.ret in
    first_of_both (list_all is_width f.variables.items) (is_result_width f.ret) (first_of_both widths _ (second_of_both few _ h))

-- the variable is there, and its first value has its width
kept_there : (f : Frame) (k : Kept) → is_kept f k ≡ true → (bits : ℕ) × (slice_get f.variables.items k.variable.0 ≡ Some bits) × (k.value < 2 ^ bits)
kept_there f k h = at (slice_get f.variables.items k.variable.0) refl (first_of_both (is_word_of (slice_get f.variables.items k.variable.0) k.value) (not (is_among k.variable f.params.items)) h) where
  at : (o : Option ℕ) → slice_get f.variables.items k.variable.0 ≡ o → is_word_of o k.value ≡ true → (bits : ℕ) × (slice_get f.variables.items k.variable.0 ≡ Some bits) × (k.value < 2 ^ bits)
  at None none h = absurd (false≢true h)
  at (Some bits) there h = (bits, there, ltb-true k.value (2 ^ bits) h)

pub kept_inside : (f : Frame) (k : Kept) → is_kept f k ≡ true → k.variable.0 < length f.variables.items
kept_inside f k h = let there = kept_there f k h in slice_get_within f.variables.items k.variable.0 there.0 there.1

pub kept_fits : (cfg : Cfg Timed) (k : Kept) (bits : ℕ) → is_consistent cfg ≡ true → is_kept cfg.frame k ≡ true → bits ≡ get_or cfg.frame.variables.items k.variable.0 bits
    → (1 ≤ bits) × (bits ≤ 64) × (k.value < 2 ^ bits)
kept_fits cfg k bits h kept is =
    let vars = cfg.frame.variables.items in
    let there = kept_there cfg.frame k kept in
    let same : bits ≡ there.0 = is ∙ get_or_from_slice_get vars k.variable.0 there.0 bits there.1 in
    let between = width_between there.0 (holds_at is_width vars k.variable.0 there.0 (variables_valid cfg.frame (frame_valid cfg h)) there.1) in
    (subst (λ n. 1 ≤ n) (sym same) between.0, subst (λ n. n ≤ 64) (sym same) between.1, subst (λ n. k.value < 2 ^ n) (sym same) there.2)

pub number_carries : (p : Plan) (names : List Register) (d : Netlist) (number bits : ℕ) (a : Atom) → 1 ≤ bits → bits ≤ 64 → number < 2 ^ bits → a ≡ atom.Constant bits (number % 2 ^ bits)
    → CarriesSome p names d a (λ c. number)
number_carries p names d number bits a some most less is =
    let same : a ≡ atom.Constant bits number = is ∙ ap (atom.Constant bits) (mod-eq_of_lt less) in
    let carries : CarriesSome p names d (atom.Constant bits number) (λ c. number) = record { bits = bits; carries = constant_carries p names d bits number (some, omega (arith, most)) less } in
    subst (λ b. CarriesSome p names d b (λ c. number)) (sym same) carries

pub start_tells : (p : Plan) (names : List Register) (d : Netlist) → IsBegun p names d → Tells p names d (atom.Input 1) starts
start_tells p names d begun =
    let fits : slice_get (input_widths d) 1 ≡ Some 1 = ap (λ l. slice_get (map (λ (q : Pin). q.bits) l) 1) begun.pins in
    record {
      fits = fits;
      value_ = λ e s pins x signals m. bit_tells (slice_index pins 1) (fit_get (input_widths e) pins m.pins_ 1 1 (ap (λ l. slice_get l 1) m.extends.inputs ∙ fits));
    }

-- the entry of the first node, the arguments, and the first values
pub beginnings_joined : (p : Plan) (first : NodeId) (kept : List Kept) → p.program.first ≡ first.0 → kept ≡ p.kept
    → (bit_entry (t.Entered first) is_taken ∷ []) ++ (map parameter_entry (enumerate_from 0 p.parameters) ++ map kept_entry kept) ≡ all_beginnings p
beginnings_joined p first kept at are =
    ap (λ (ks : List Kept). bit_entry (t.Entered first) is_taken ∷ (map parameter_entry (enumerate_from 0 p.parameters) ++ map kept_entry ks)) are
    ∙ ap (λ (i : ℕ). bit_entry (t.Entered (node_of i)) is_taken ∷ (map parameter_entry (enumerate_from 0 p.parameters) ++ map kept_entry p.kept)) (sym at)
