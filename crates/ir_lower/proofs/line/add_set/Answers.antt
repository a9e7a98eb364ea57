use Rattle.std.proofs.Common.{◌≡◌, ◌∙◌, ap, sym, subst, IfOk}
use Rattle.std.proofs.lemmas.Result.{IfOk-weaker}
use Rattle.pieces.specs.Trees as tree
use Rattle.pieces.specs.View.{pure_of, piece_of}
use Rattle.passes.specs.Lowering.Blocks.{all_set, set}
use Rattle.block_draft.specs.Drafts.{scope_of, open_at}
use Rattle.ir_lower.proofs.PieceForms.{set_tree}
use Rattle.ir_lower.proofs.line.add_set.Goals as goal

pub returns-in-Set : goal.returns-in-Set
returns-in-Set c = λ point exit rest.
    let scope = scope_of c.args.expanded.now in
    let d = open_at point exit c.args.draft.now in
    let piece = sym (ap (λ t. all_set scope (tree.then_ t rest) d) (ap piece_of c.in-Set.is ∙ set_tree c.in-Set.variable c.in-Set.value)) in
    subst (λ r. IfOk c.set.result (λ u. all_set scope rest (open_at point exit c.set.new.self) ≡ r)) piece (IfOk-weaker c.set.result (λ u. open_at point exit c.set.new.self ≡ set scope c.in-Set.variable (pure_of c.in-Set.value) d) (λ u. all_set scope rest (open_at point exit c.set.new.self) ≡ all_set scope rest (set scope c.in-Set.variable (pure_of c.in-Set.value) d)) (λ u e. ap (all_set scope rest) e) (c.set.ensures point exit))
