-- A program that is too large is refused at the place of its top function.
use Rattle.std.proofs.Common.{◌≡◌, ℕ, List, [], Option, Some, sym, ap, ◌∙◌}
use Rattle.std.specs.Option.{option_map}
use Rattle.hls_base.specs.declared.place.Place.{Place}
use Rattle.hls_base.specs.declared.refusal.Refusal.{Refusal}
use Rattle.c_tree.specs.Tree.{FunctionTree, ProgramTree}
use Rattle.c_meaning.specs.Checks.Programs.{program_faults, top_name}
use Rattle.pieces.specs.Resolved.Core.{CoreFunctionTree}
use Rattle.c_elaborate.specs.Programs.{program_elaborated}
use Rattle.c_expand.specs.Expansion.{top_of, IsOverweight}
use Rattle.checked_source.specs.Sources.{IsTheProgramOf, IsTopFunction}
use Rattle.checked_source.proofs.BodyOnce as bodies
use Rattle.compile_steps.proofs.LongRuns.Places.{top_place}
use Rattle.hls_flow.specs.FirstFault as f
use Rattle.hls_flow.specs.FirstFault.{IsTooLarge, IsFirstFault}

at_function : (o : Option CoreFunctionTree) (x : CoreFunctionTree) (at : Place) → o ≡ Some x → option_map (λ (x : CoreFunctionTree). x.at) o ≡ Some at → x.at ≡ at
at_function o x at e placed =
    let both : Some x.at ≡ Some at = sym (ap (option_map (λ (x : CoreFunctionTree). x.at)) e) ∙ placed in
    cc

fault_at : (r : Refusal) (at : Place) → r.rule ≡ 36 → r.place ≡ at → r ≡ record { rule = 36; place = at }
fault_at r at rule place =
    let Rule : ℕ → Refusal = λ n. record { rule = n; place = r.place } in
    let At : Place → Refusal = λ p. record { rule = 36; place = p } in
    ap Rule rule ∙ ap At place

too_large_at : (p : ProgramTree) (top : List ℕ) (index : ℕ) (g : FunctionTree) (r : Refusal) → IsTopFunction p top index g → IsOverweight (program_elaborated p index) r → IsTooLarge p top r
too_large_at p top index g r is large =
    let stands : option_map (λ (x : CoreFunctionTree). x.at) (top_of (program_elaborated p index)) ≡ Some g.at =
    top_place p index g is.item is.has_body in
    record {
      index = index;
      function = g;
      is = is;
      heavy = large.heavy;
      fault_is = fault_at r g.at large.rule (large.at ∙ at_function (top_of (program_elaborated p index)) large.function g.at large.top stands);
    }

pub too_large : (source top : List ℕ) (p : ProgramTree) (index : ℕ) (r : Refusal) → IsTheProgramOf source p → program_faults p top ≡ [] → top_name p index ≡ Some top
    → IsOverweight (program_elaborated p index) r → IsFirstFault source top r
too_large source top p index r the faultless named large =
    let is = bodies.top_of p index top named in
    f.too_large p the faultless (too_large_at p top index is.0 r is.1 large)
