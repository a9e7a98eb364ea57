-- Programs of C without faults become sound core programs, and their pieces run as they do.
use Rattle.std.proofs.Common.{◌≡◌, ℕ, zero, suc, ◌<◌, ◌∙◌, sym, refl, ap, subst, List, [], ◌∷◌, ◌++◌, length, slice_get, Option, Some, None, arith}
use Rattle.std.proofs.lemmas.Option.{none-some}
use Rattle.c_tree.specs.Tree as tree
use Rattle.c_tree.specs.Tree.{StmtTrees, FunctionTree, ItemTree, ProgramTree}
use Rattle.c_meaning.specs.Checks.Limits.{limit_faults, new_function_places, file_arrays, file_objects, kept_faults}
use Rattle.c_meaning.specs.Checks.Recursion.{callers, recursion_faults}
use Rattle.c_meaning.specs.Checks.Programs.{body_names, items_faults, top_faults}
use Rattle.c_elaborate.specs.declared.blocks.Scene.{Scene}
use Rattle.c_elaborate.specs.declared.functions.Signature.{Signature}
use Rattle.c_elaborate.specs.Programs.{function_elaborated, function_of_item, functions_elaborated, signature_of, signatures, program_elaborated}
use Rattle.c_elaborate.specs.Resolved.{file_scene_of}
use Rattle.c_elaborate.proofs.ElaborateRuns.Sizes.{left_nil, right_nil}
use Rattle.c_elaborate.proofs.ElaborateRuns.Files.{file_lengths}
use Rattle.c_elaborate.proofs.ElaborateRuns.Grammar.{grammar_blocks}
use Rattle.c_elaborate.proofs.ElaborateRuns.FaultlessPrograms.{faultless_resolved, elaboration_kept}
use Rattle.c_elaborate.proofs.ElaborateRuns.Runs.{topped}
use Rattle.expand_runs.specs.Laws.{IsDefined}
use Rattle.expanded_programs.proofs.Whole.{expansion_kept}
use Rattle.expanded_programs.specs.ElaboratedPrograms.{ElaboratedProgramsAreSound, CheckedProgramsKeepRuns}
use Rattle.expanded_programs.proofs.ElaboratedPrograms.Ranks.{function_rank, rank_below}
use Rattle.expanded_programs.proofs.ElaboratedPrograms.Files.{constants_filled}
use Rattle.expanded_programs.proofs.ElaboratedPrograms.Functions.{functions_sound}
use Rattle.expanded_programs.proofs.ElaboratedPrograms.Grammar.{program_written}
use Rattle.expanded_programs.proofs.ElaboratedPrograms.Inputs.{inputs_there}

-- as many functions as signatures
counted : (fs sigs : List Signature) (file : Scene) (f : FunctionTree) (b : Option StmtTrees) (rest : _) → length rest ≡ length sigs → length (function_of_item fs file f b ++ rest) ≡ length (signature_of f b ++ sigs)
counted fs sigs file f None rest e = e
counted fs sigs file f (Some body) rest e = ap suc e

all_counted : (fs : List Signature) (file : Scene) (items : List ItemTree) → length (functions_elaborated fs file items) ≡ length (signatures items)
all_counted fs file [] = refl
all_counted fs file (tree.objects os ∷ items) = all_counted fs file items
all_counted fs file (tree.function f ∷ items) = counted fs (signatures items) file f f.body (functions_elaborated fs file items) (all_counted fs file items)

within : {A : Type 0} (xs : List A) (i : ℕ) (x : A) → slice_get xs i ≡ Some x → i < length xs
within [] i x e = absurd (none-some x e)
within (y ∷ xs) zero x e = omega arith
within (y ∷ xs) (suc i) x e = let lt = within xs i x e in omega (arith, lt)

pub elaborated_sound : ElaboratedProgramsAreSound
elaborated_sound tokens end p top name fits derives is_top h =
    let items = p.items in
    let fs = signatures items in
    let file = file_scene_of items in
    let a = items_faults (body_names items) [] [] items in
    let b = recursion_faults (callers [] items) (callers [] items) in
    let c = limit_faults 64 33 (new_function_places [] items) ++ (limit_faults 32 35 (file_arrays items) ++ (kept_faults 0 (file_objects items) ++ top_faults name p)) in
    let faultless = left_nil a (b ++ c) h in
    let no_rounds = left_nil b c (right_nil a (b ++ c) h) in
    let blocks = grammar_blocks tokens end p derives in
    let known = faultless_resolved p name h blocks in
    let core = program_elaborated p top in
    let count = all_counted fs file items in
    let t = topped items items top name known is_top in
    record {
      rank = function_rank items no_rounds;
      ranked = λ i fn at. let low = rank_below items no_rounds i (let lt = within core.functions i fn at in omega (arith, lt, count)) in omega (arith, low, count);
      functions = λ i fn at. functions_sound core items faultless no_rounds known (file_lengths items known) refl refl items [] [] faultless refl blocks (program_written tokens end p fits derives) (λ x k. k) i fn at;
      top = (function_elaborated fs file t.0 t.1, t.4);
      constants = λ i o at constant. constants_filled items faultless i o at;
    }

pub checked_kept : CheckedProgramsKeepRuns
checked_kept tokens end p top name fits derives is_top h first kept scalars arrays n typed inputs defined =
    let same = elaboration_kept p top name is_top h (grammar_blocks tokens end p derives) kept scalars arrays n in
    expansion_kept (program_elaborated p top) (elaborated_sound tokens end p top name fits derives is_top h) first kept scalars arrays n typed (inputs_there tokens end p top name derives is_top h kept scalars arrays inputs)
    (subst IsDefined (sym same) defined) ∙ same
