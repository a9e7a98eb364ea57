-- Runs that end take at least two cycles.
use Rattle.std.proofs.Common.{◌≡◌, ◌∙◌, ℕ, ◌≤◌, sym, ap, subst, refl, List, [], true, Option, Some, None, inl, inr, slice_get}
use Rattle.std.specs.Prelude.{is_some, if◌then◌else◌}
use Rattle.std.specs.Option.{option_map}
use Rattle.std.proofs.lemmas.Bool.{cases_Bool}
use Rattle.std.proofs.lemmas.Option.{same_Some}
use Rattle.hls_base.specs.Tallies.{count_in}
use Rattle.hls_base.specs.declared.place.Place.{Place}
use Rattle.hls_base.specs.declared.point.Point.{Point}
use Rattle.c_tree.specs.Tree as tree
use Rattle.c_tree.specs.Tree.{FunctionTree, ItemTree, ProgramTree}
use Rattle.c_meaning.specs.Checks.Programs.{body_name_of}
use Rattle.c_meaning.specs.Points.{tally_of}
use Rattle.c_meaning.specs.Run.{function_at}
use Rattle.pieces.specs.Resolved.Core.{CoreFunctionTree}
use Rattle.c_elaborate.specs.Programs.{program_elaborated}
use Rattle.c_expand.specs.Expansion.{expansion, top_of}
use Rattle.passes.specs.Lowering.Shapes.{first_point}
use Rattle.expanded_pieces.proofs.BegunPieces.Whole.{expanded_point}
use Rattle.compile_steps.specs.LongRuns.{EndedRunsAreLong}
use Rattle.compile_steps.proofs.LongRuns.Places.{top_place}
use Rattle.compile_steps.proofs.LongRuns.Beginning.{begin_at, first_passed, counted}
use Rattle.compile_steps.proofs.LongRuns.Nodes.{node_there}

-- the item is a function with a body
abbrev HasBody : Option ItemTree → Type 0
HasBody item = (f : FunctionTree) × ((item ≡ Some (tree.function f)) × (is_some f.body ≡ true))

body_there : (item : Option ItemTree) (name : List ℕ) → body_name_of item ≡ Some name → HasBody item
body_there None name e = absurd cc
body_there (Some (tree.objects os)) name e = absurd cc
body_there (Some (tree.function f)) name e =
    elim (cases_Bool (is_some f.body)) [
      | inl has ↦ (f, (refl, has))
      | inr lacks ↦ let none : None ≡ Some name = sym (ap (λ b. if b then Some f.name else None) lacks) ∙ e in absurd cc
    ]

-- pieces begin at the point of the core function
begins_at : (p : ProgramTree) (top : ℕ) (at : Place) (o : Option CoreFunctionTree) → top_of (program_elaborated p top) ≡ o → option_map (λ (x : CoreFunctionTree). x.at) o ≡ Some at
    → first_point (expansion (program_elaborated p top)).pieces ≡ Some (begin_at at [])
begins_at p top at None is e = absurd cc
begins_at p top at (Some fn) is e = expanded_point (program_elaborated p top) fn is ∙ ap (λ q. Some (begin_at q [])) (same_Some fn.at at e)

pub runs_long : EndedRunsAreLong
runs_long p top name named passes untimed flat_ units timed loops times report counts kept scalars arrays n result last left trace ends =
    let body = body_there (slice_get p.items top) name named in
    let f = body.0 in
    let begin = begin_at f.at [] in
    let first = first_passed p top f kept scalars arrays n result last left trace (ap function_at body.1.0) ends in
    let begins = begins_at p top f.at (top_of (program_elaborated p top)) refl (top_place p top f body.1.0 body.1.1) in
    let start : flat_.start ≡ begin = same_Some flat_.start begin (sym flat_.starts ∙ begins) in
    let node = node_there (expansion (program_elaborated p top)) passes untimed units timed loops flat_ times in
    let passed : 1 ≤ count_in (tally_of trace) begin = subst (λ (points : List Point). 1 ≤ count_in (tally_of points) begin) (sym first.1) (counted begin first.0) in
    counts node.0 (tally_of trace) node.1.0 (subst (λ (q : Point). 1 ≤ count_in (tally_of trace) q) (sym (node.1.1 ∙ start)) passed)
