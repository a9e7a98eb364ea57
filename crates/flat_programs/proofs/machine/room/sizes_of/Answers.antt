use Rattle.std.proofs.Common.{◌≡◌, ◌<◌, length, sym, ap, ◌∙◌, subst, inl, inr, arith}
use Rattle.std.specs.Prelude.{slice_get}
use Rattle.std.proofs.lemmas.Bool.{cases_lt}
use Rattle.std.proofs.lemmas.Option.{get_or_from_slice_get, slice_get_within}
use Rattle.ir_core.specs.declared.body.Body.{Body}
use Rattle.ir_core.specs.declared.stamp.Untimed.{Untimed}
use Rattle.flat_programs.specs.Machine.Sizes.{FitsSizes, body_in}
use Rattle.flat_programs.proofs.machine.room.sizes_of.Goals as goal

pub loop-node-preserved : goal.loop-node-preserved
loop-node-preserved c = λ i it h e.
    let nodes = c.args.nodes.now in
    let at = c.loop-node.node-index in
    let item = c.node-item.result in
    elim (cases_lt i at) [
      | inl before ↦ c.grown-sizes.ensures.keeps (body_in it) (c.loop-node.invariant i it before e)
      | inr here ↦
          let last : i ≡ at = omega (arith, h, here) in
          let same : item ≡ it = c.node-item.is ∙ get_or_from_slice_get nodes at it item (ap (slice_get nodes) (sym last) ∙ e) in
          subst (λ (b : Body Untimed). FitsSizes c.grown-sizes.result b) (c.body_of.ensures ∙ ap body_in same) c.grown-sizes.ensures.fits
    ]

pub returns : goal.returns
returns c = λ i it e.
    let inside : i < length c.args.nodes.now = slice_get_within c.args.nodes.now i it e in
    c.loop-node.invariant i it (omega (arith, inside, c.loop-node-test.false)) e
