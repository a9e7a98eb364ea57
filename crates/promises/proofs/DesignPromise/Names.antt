-- What a source is expanded to has the name of its top function.
use Rattle.std.proofs.Common.{◌≡◌, ◌∙◌, ℕ, List, Option, Some, None, sym, ap, subst}
use Rattle.std.specs.Prelude.{is_some, slice_get, if◌then◌else◌}
use Rattle.std.proofs.lemmas.Option.{none-some, same_Some}
use Rattle.c_tree.specs.Terminals.{terminals}
use Rattle.c_tree.specs.Tree.{FunctionTree, ItemTree, ProgramTree, StmtTrees}
use Rattle.c_tree.specs.Tree as tree
use Rattle.c_meaning.specs.Checks.Programs.{body_name_of}
use Rattle.c_meaning.specs.Run.{function_at}
use Rattle.pieces.specs.Resolved.Core.{CoreFunctionTree}
use Rattle.c_elaborate.specs.Programs.{program_elaborated}
use Rattle.c_expand.specs.Expansion as ex
use Rattle.c_elaborate.proofs.ElaborateRuns.FaultlessPrograms.{faultless_resolved}
use Rattle.c_elaborate.proofs.ElaborateRuns.Grammar.{grammar_blocks}
use Rattle.c_elaborate.proofs.ElaborateRuns.Runs.{topped}
use Rattle.source_answers.specs.SourceRuns.{IsFaultless, expanded}

body_named : (item : Option ItemTree) (f : FunctionTree) (body : StmtTrees) (name : List ℕ) → function_at item ≡ Some f → f.body ≡ Some body → body_name_of item ≡ Some name → f.name ≡ name
body_named None f body name at is named = absurd (none-some f at)
body_named (Some (tree.objects os)) f body name at is named = absurd (none-some f at)
body_named (Some (tree.function g)) f body name at is named =
    let same : g ≡ f = same_Some g f at in
    let has : g.body ≡ Some body = ap (λ (h : FunctionTree). h.body) same ∙ is in
    sym (ap (λ (h : FunctionTree). h.name) same) ∙ same_Some g.name name (subst (λ b. (if is_some b then Some g.name else None) ≡ Some name) has named)

pub expanded_named : (source : List ℕ) (p : ProgramTree) (top : ℕ) (name : List ℕ) → IsFaultless source p top name → (expanded p top).name ≡ name
expanded_named source p top name s =
    let t = topped p.items p.items top name (faultless_resolved p name s.faultless (grammar_blocks (terminals s.replaced) s.end p s.derives)) s.named in
    let core = program_elaborated p top in
    ap (λ (fn : Option CoreFunctionTree). (ex.named fn (ex.top_made core (ex.top_of core))).name) t.4 ∙ body_named (slice_get p.items top) t.0 t.1 name t.2 t.3 s.named
