-- The cases of a verdict, put together from what the steps give.
use Rattle.std.proofs.Common.{◌≡◌, ℕ, ◌≤◌, true, List, [], Option, Some, None, sym, ap, ◌∙◌}
use Rattle.std.specs.Prelude.{is_some, slice_get, if◌then◌else◌}
use Rattle.c_tree.specs.Tree as tree
use Rattle.c_tree.specs.Tree.{FunctionTree, ProgramTree}
use Rattle.c_meaning.specs.Checks.Programs.{program_faults, top_name, body_name_of}
use Rattle.c_meaning.specs.declared.outcome.Final.{Final}
use Rattle.checked_source.specs.Sources.{IsTheProgramOf}
use Rattle.c_elaborate.specs.Programs.{program_elaborated}
use Rattle.c_expand.specs.Expansion.{expansion, expanded_weight}
use Rattle.cycle_report.specs.FormulaValue.{cycles}
use Rattle.cosim_levels.specs.declared.verdict.Difference.{Difference}
use Rattle.cosim_levels.specs.Verdicts.{PlainVerdict, agree, differ}
use Rattle.cosim_levels.specs.Comparison.{result_number, array_parameters, shown_arrays, first_difference, differ_or}
use Rattle.hls_flow.specs.declared.verdict.CosimInputs.{CosimInputs}
use Rattle.hls_flow.specs.FirstFault.{IsAccepted}
use Rattle.hls_flow.specs.Verdicts.{Files, inputs_of, IsCompared}
use Rattle.hls_flow.specs.Comparing.{AreCompared, IsAgreement}

name_is : (name top : List ℕ) → Some name ≡ Some top → name ≡ top
name_is name top e = cc

pub name_of : (program : ProgramTree) (index : ℕ) (f : FunctionTree) (top : List ℕ) → top_name program index ≡ Some top → slice_get program.items index ≡ Some (tree.function f) → is_some f.body ≡ true → f.name ≡ top
name_of program index f top is item body =
    let found : body_name_of (Some (tree.function f)) ≡ Some top = sym (ap body_name_of item) ∙ is in
    name_is f.name top (sym (ap (λ b. if b then Some f.name else None) body) ∙ found)

-- the source whose program and top function were read is accepted
abbrev pub accepted_at : (source top : List ℕ) (program : ProgramTree) (index : ℕ) (f : FunctionTree) → IsTheProgramOf source program → program_faults program top ≡ []
    → top_name program index ≡ Some top → expanded_weight (program_elaborated program index) ≤ 8192 → slice_get program.items index ≡ Some (tree.function f) → is_some f.body ≡ true
    → IsAccepted source top
accepted_at source top program index f is faultless named within item body = record {
  program = program;
  is = is;
  faultless = faultless;
  index = index;
  function = f;
  top_is = record { item = item; has_body = body; named = name_of program index f top named item body };
  within = within;
}

module _ (given : CosimInputs) (program : ProgramTree) (index : ℕ) (f : FunctionTree) (files : Files) (final : Final) (count : ℕ) (o : Option Difference) (c : AreCompared given f files final count o) where
  pub differs : (d : Difference) → o ≡ Some d → IsCompared given program index f files final (differ d)
  differs d same =
      let found : first_difference f final.ret final.arrays (cycles files.report.base files.report.rows final.tally) c.shown ≡ Some d =
      sym (ap (λ n. first_difference f final.ret final.arrays n c.shown) c.counted) ∙ sym c.difference_is ∙ same in
      record {
        shown = c.shown;
        run = c.run;
        clock = 0;
        clock_is = λ none_. (let z = sym found ∙ none_ in absurd (cc));
        is = sym (ap (λ x. differ_or x (agree (result_number f.result final.ret) (shown_arrays (array_parameters f) final.arrays) (cycles files.report.base files.report.rows final.tally) 0)) found);
      }

  pub agrees : (verdict : PlainVerdict) → o ≡ None → IsAgreement (expansion (program_elaborated program index)) files.report.settings (inputs_of files) f final count verdict → IsCompared given program index f files final verdict
  agrees verdict same a =
      let found : first_difference f final.ret final.arrays (cycles files.report.base files.report.rows final.tally) c.shown ≡ None =
      sym (ap (λ n. first_difference f final.ret final.arrays n c.shown) c.counted) ∙ sym c.difference_is ∙ same in
      record {
        shown = c.shown;
        run = c.run;
        clock = a.clock;
        clock_is = λ none_. a.clock_is;
        is =
            a.is
            ∙ ap (λ n. agree (result_number f.result final.ret) (shown_arrays (array_parameters f) final.arrays) n a.clock) c.counted
            ∙ sym (ap (λ x. differ_or x (agree (result_number f.result final.ret) (shown_arrays (array_parameters f) final.arrays) (cycles files.report.base files.report.rows final.tally) a.clock)) found);
      }
