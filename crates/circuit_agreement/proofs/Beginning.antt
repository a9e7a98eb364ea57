-- Behind the cycle of a start a run begins with what the circuit holds.
use Rattle.std.proofs.Common.{◌≡◌, ℕ, zero, suc, ◌^◌, ◌<◌, List, [], ◌∷◌, Option, Some, None, get_or, inl, inr, refl, sym, ap, ◌∙◌, subst, arith}
use Rattle.std.specs.Prelude.{slice_get, nat_lt, if◌then◌else◌}
use Rattle.std.proofs.lemmas.Bool.{cases_lt, lt-ltb, le-ltb, cond-true, cond-false}
use Rattle.std.proofs.lemmas.Nat.{pow_pos}
use Rattle.std.proofs.lemmas.Option.{get_or_from_slice_get}
use Rattle.hls_base.specs.ArrayAddress.{addresses}
use Rattle.hls_base.specs.FileScope.{FileScope}
use Rattle.ir_core.specs.Bodies.{Words}
use Rattle.datapath.specs.Plans.{Plan, Array, no_array, array_at, depth}
use Rattle.datapath.specs.Cycles.{Variable, Contents}
use Rattle.datapath.specs.Answers.{HaveWidths, Begins}
use Rattle.circuit_agreement.specs.CircuitFlow.Compiled.{IsCompiled}
use Rattle.circuit_agreement.specs.CircuitFlow.Flows.{HoldsMemories}
use Rattle.circuit_agreement.specs.UnitResults.{HasWidths}
use Rattle.circuit_agreement.specs.CircuitStores.HeldWords.{words_in}
use Rattle.circuit_agreement.specs.CircuitStores.{TakesArguments}
use Rattle.circuit_agreement.proofs.CircuitStores.Shown.{shown_plain, shown_table, same_elements}
use Rattle.circuit_agreement.specs.Standing.{FitsFrame}
use Rattle.circuit_agreement.proofs.Widths.{WordsFit, given_fits}

-- what the circuit shows, at addresses that arrays have
abbrev pub found : Plan → Contents → Words
found p x = record {
  variables = λ v. x.regs (Variable v);
  memories = λ a address. if nat_lt address (2 ^ depth p a) then (words_in p x).memories a address else 0;
}

within : (p : Plan) (x : Contents) (a address : ℕ) → address < 2 ^ depth p a → (found p x).memories a address ≡ (words_in p x).memories a address
within p x a address low = cond-true _ _ _ (lt-ltb address (2 ^ depth p a) low)

pub found_held : (p : Plan) (x : Contents) → HoldsMemories p (found p x).memories x
found_held p x = record {
  words = λ a address plain low. sym (within p x a address low ∙ shown_plain p x a address plain);
  tables = λ a address words is low. within p x a address low ∙ shown_table p x a address words is;
}

fits_as : (p : Plan) (x : Contents) → FitsFrame p → WordsFit p x → (a address : ℕ) → (table : Option (List ℕ)) → (array_at p a).table ≡ table → address < 2 ^ depth p a
    → ((words : List ℕ) → (array_at p a).table ≡ Some words → slice_get p.arrays a ≡ Some (array_at p a)) → (words_in p x).memories a address < 2 ^ (array_at p a).bits
fits_as p x fits words_fit a address None is low there = subst (λ (w : ℕ). w < 2 ^ (array_at p a).bits) (sym (shown_plain p x a address is)) (words_fit a address is low)
fits_as p x fits words_fit a address (Some words) is low there =
    subst (λ (w : ℕ). w < 2 ^ (array_at p a).bits) (sym (shown_table p x a address words is))
    (given_fits (array_at p a).bits (addresses (array_at p a).dims) words address (λ n word e. fits.constants a n word (array_at p a) words (there words is) is e))

-- a word of the array, or 0 beyond its addresses
found_fits : (p : Plan) (x : Contents) → FitsFrame p → WordsFit p x → (a address : ℕ) → ((words : List ℕ) → (array_at p a).table ≡ Some words → slice_get p.arrays a ≡ Some (array_at p a))
    → (found p x).memories a address < 2 ^ (array_at p a).bits
found_fits p x fits words_fit a address there =
    elim (cases_lt address (2 ^ depth p a)) [
      | inl low ↦ subst (λ (w : ℕ). w < 2 ^ (array_at p a).bits) (sym (within p x a address low)) (fits_as p x fits words_fit a address (array_at p a).table refl low there)
      | inr beyond ↦ subst (λ (w : ℕ). w < 2 ^ (array_at p a).bits) (sym (cond-false _ _ _ (le-ltb address (2 ^ depth p a) beyond))) (pow_pos (array_at p a).bits)
    ]

missing : (xs : List Array) (a : ℕ) → slice_get xs a ≡ None → get_or xs a no_array ≡ no_array
missing [] a e = refl
missing (x ∷ xs) zero e = absurd (let clash : Some x ≡ None = e in cc)
missing (x ∷ xs) (suc a) e = missing xs a e

have_widths : (p : Plan) (x : Contents) → FitsFrame p → WordsFit p x → HasWidths p x → HaveWidths p (found p x)
have_widths p x fits words_fit widths = record {
  variables = λ v bits e. subst (λ (b : ℕ). x.regs (Variable v) < 2 ^ b) (get_or_from_slice_get p.program.shapes.widths v bits 0 e) (widths (Variable v));
  arrays = λ a array e address.
      let is : array_at p a ≡ array = get_or_from_slice_get p.arrays a array no_array e in
      subst (λ (z : Array). (found p x).memories a address < 2 ^ z.bits) is (found_fits p x fits words_fit a address (λ words t. e ∙ ap (λ (z : Array). Some z) (sym is)));
  nothing = λ a e address.
      let none : array_at p a ≡ no_array = missing p.arrays a e in
      let low : (found p x).memories a address < 2 ^ 0 =
      subst (λ (z : Array). (found p x).memories a address < 2 ^ z.bits) none
      (found_fits p x fits words_fit a address (λ words t. absurd (let clash : None ≡ Some words = sym (ap (λ (z : Array). z.table) none) ∙ t in cc))) in
      omega (arith, low);
}

pub begins : (p : Plan) (c : IsCompiled p) (file_scope : FileScope) (arguments_ : List ℕ) (arrays : List (List ℕ)) (x : Contents) → FitsFrame p → WordsFit p x → HasWidths p x
    → TakesArguments p file_scope arguments_ arrays (words_in p x) → Begins p file_scope arguments_ arrays (found p x)
begins p c file_scope arguments_ arrays x fits words_fit widths takes = record {
  arguments_ = takes.arguments;
  holds = record {
    scalars = takes.holds.scalars;
    host = λ a low. same_elements p c a ((found p x).memories a) ((words_in p x).memories a) (λ address under. within p x a address under) ∙ takes.holds.host a low;
    file = λ a first is. same_elements p c a ((found p x).memories a) ((words_in p x).memories a) (λ address under. within p x a address under) ∙ takes.holds.file a first is;
  };
  tables = (found_held p x).tables;
  widths = have_widths p x fits words_fit widths;
}
