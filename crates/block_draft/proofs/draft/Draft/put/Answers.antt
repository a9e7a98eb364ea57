use Rattle.std.proofs.Common.{◌∙◌, ap}
use Rattle.pieces.specs.View.{pure_of, pures_of}
use Rattle.passes.specs.Lowering.Operations.{Emitted}
use Rattle.block_draft.specs.Views.{ops_of}
use Rattle.block_draft.specs.Drafts.{open_at, stored_in}
use Rattle.block_draft.proofs.draft.Draft.put.Goals as goal

pub returns : goal.returns
returns c = λ point exit.
    let d = c.args.self.now in
    ap (λ (m : Emitted). record (open_at point exit d) { ops = m.ops })
    (c.in_ok-emit_store.ensures ∙ ap (λ k. stored_in d.outs c.args.array k (pures_of c.args.subscripts.now.items) (pure_of c.args.value.now) c.args.at (ops_of d.ops)) c.element_kind-kind.ensures)
