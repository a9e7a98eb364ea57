-- The run of a made program, put together from what the steps give.
use Rattle.std.proofs.Common.{◌≡◌, ℕ, true, false, [], ◌∷◌, refl, List, Option, Some, None, IfSome, codes, sym, ap, subst, ◌∙◌}
use Rattle.std.specs.Prelude.{is_some, slice_get}
use Rattle.c_tree.specs.Tree as tree
use Rattle.c_tree.specs.Tree.{FunctionTree, ProgramTree}
use Rattle.c_meaning.specs.declared.outcome.Final.{Final}
use Rattle.c_meaning.specs.Run.{function_at}
use Rattle.rtl_core.specs.Netlist.{Netlist}
use Rattle.cycle_report.specs.PlainReport.{PlainReport}
use Rattle.driven_circuits.specs.Driven.{AgreesWithC}
use Rattle.cosim_levels.specs.SoakProgram.{program_text, elements, argument, count_products}
use Rattle.hls_flow.specs.declared.soak.Summary.{Summary}
use Rattle.hls_flow.specs.SoakRun.{soak_settings, IsCompiled, IsAgreedRun, IsSoakRun}
use Rattle.hls_flow.proofs.Made.{runs_are_long}
use Rattle.hls_flow.proofs.VerdictCases.{accepted_at}

pub soak_run : (number : ℕ) (program : ProgramTree) (index : ℕ) (f : FunctionTree) (report : PlainReport) (circuit : Netlist) (final : Final) (count muls : ℕ)
    → IsCompiled (program_text number) program index report circuit → slice_get program.items index ≡ Some (tree.function f) → is_some f.body ≡ true
    → IsAgreedRun program index f (argument number ∷ []) (elements number ∷ []) report circuit final count → muls ≡ count_products number 40
    → (s : Summary) → (s.muls ≡ muls) × (s.cycles ≡ count) → final.ret ≡ Some s.ret → IsSoakRun number s
soak_run number program index f report circuit final count muls made item body agreed products s counts returned = record {
  muls = counts.0 ∙ products;
  accepted = accepted_at (program_text number) (codes "f") program index f made.is made.faultless made.named made.within item body;
  report = report;
  circuit = circuit;
  scheduled = made.scheduled;
  promise = made.promise f (ap function_at item);
  long = runs_are_long soak_settings program index report circuit made.named made.scheduled;
  final = final;
  agreed = subst (λ n. IsAgreedRun program index f (argument number ∷ []) (elements number ∷ []) report circuit final n) (sym counts.1) agreed;
  result = returned;
}

-- what the circuit of such a program promises
pub agrees_with_c : (source : List ℕ) (program : ProgramTree) (index : ℕ) (f : FunctionTree) (report : PlainReport) (circuit : Netlist) → IsCompiled source program index report circuit
    → slice_get program.items index ≡ Some (tree.function f) → AgreesWithC program index f report circuit
agrees_with_c source program index f report circuit made item = record {
  name = codes "f";
  faultless = made.faultless;
  function = ap function_at item;
  valid = made.valid;
  agrees = (made.promise f (ap function_at item)).agrees;
}

pub both_some : {A : Type 0} (o : Option A) (P Q R : A → Type 0) → IfSome o P → IfSome o Q → ((x : A) → P x → Q x → R x) → IfSome o R
both_some (Some x) P Q R p q f = f x p q
both_some None P Q R p q f = tt

pub some_at : {A B : Type 0} (o : Option (A × B)) (a : A) (b : B) (R : A → B → Type 0) → IfSome o (λ x. (x.0 ≡ a) × (x.1 ≡ b)) → R a b → IfSome o (λ x. R x.0 x.1)
some_at (Some x) a b R same r = subst (λ y. R x.0 y) (sym same.1) (subst (λ y. R y b) (sym same.0) r)
some_at None a b R same r = tt

pub none_left : {A : Type 0} (o : Option A) → is_some o ≡ false → o ≡ None
none_left (Some x) e = absurd cc
none_left None e = refl
