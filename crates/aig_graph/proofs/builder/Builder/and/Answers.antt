use Rattle.std.proofs.Common.{◌&&◌, sym, ap, ◌∙◌}
use Rattle.aig_graph.specs.Graphs.{literal, values}
use Rattle.aig_graph.specs.Making.{gates_of}
use Rattle.aig_graph.proofs.Growing.{made_before, literal_false, literal_true}
use Rattle.aig_graph.proofs.Bits.{and_same, and_true, and_false}
use Rattle.aig_graph.proofs.builder.Builder.and.Goals as goal
use Rattle.aig_graph.proofs.builder.Builder.and.Goals.{then-left-eq0-via-then-left-eq0, then-left-eq0-via-else-left-eq0+then-right-eq1, then-left-eq0-via-else-left-eq0+else-right-eq1+then-left-right}
use Rattle.aig_graph.proofs.builder.Builder.and.Goals.{then-right-eq0-via-then-right-eq0, then-right-eq0-via-else-right-eq0+then-left-eq1}

pub returns-then-left-eq0 : goal.returns-then-left-eq0
returns-then-left-eq0 c = λ sound left right.
    made_before (gates_of c.args.self.now) c.args.left _ sound left (λ bits gs.
    let w = values _ gs in
    elim c.then-left-eq0.branch [
      | then-left-eq0-via-then-left-eq0 h ↦ (let e = ap (literal w) h.if-left-eq0.true ∙ literal_false bits gs in e ∙ ap (λ z. z && literal w c.args.right) (sym e))
      | then-left-eq0-via-else-left-eq0+then-right-eq1 h ↦ (and_true (literal w c.args.left) ∙ ap (λ z. literal w c.args.left && z) (sym (ap (literal w) h.if-right-eq1.true ∙ literal_true bits gs)))
      | then-left-eq0-via-else-left-eq0+else-right-eq1+then-left-right h ↦ (and_same (literal w c.args.left) ∙ ap (λ z. literal w c.args.left && z) (ap (literal w) h.if-left-right.true))
    ])

pub returns-then-right-eq0 : goal.returns-then-right-eq0
returns-then-right-eq0 c = λ sound left right.
    made_before (gates_of c.args.self.now) c.args.right _ sound right (λ bits gs.
    let w = values _ gs in
    elim c.then-right-eq0.branch [
      | then-right-eq0-via-then-right-eq0 h ↦ (let e = ap (literal w) h.if-right-eq0.true ∙ literal_false bits gs in e ∙ (and_false (literal w c.args.left) ∙ ap (λ z. literal w c.args.left && z) (sym e)))
      | then-right-eq0-via-else-right-eq0+then-left-eq1 h ↦ ap (λ z. z && literal w c.args.right) (sym (ap (literal w) h.if-left-eq1.true ∙ literal_true bits gs))
    ])
