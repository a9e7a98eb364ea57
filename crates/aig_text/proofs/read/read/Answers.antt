use Rattle.std.proofs.Common.{◌∙◌, ◌-◌, ap, subst, take, length, refl}
use Rattle.aig_graph.specs.Graphs.{graph_of}
use Rattle.aig_text.specs.TextForm.{IsText}
use Rattle.aig_text.specs.Views.{StopsText}
use Rattle.aig_text.proofs.Wholes.{one_text, no_text, refused_place}
use Rattle.aig_text.proofs.read.read.Goals as goal

pub returns-in-Ok-clause-only : goal.returns-in-Ok-clause-only
returns-in-Ok-clause-only c = λ other is. one_text _ _ _ is (subst (λ z. IsText z (graph_of c.in-Ok.graph)) c.new-cursor.ensures c.in-Ok.ensures)

pub returns-in-Err-Refused-clause-refused : goal.returns-in-Err-Refused-clause-refused
returns-in-Err-Refused-clause-refused c =
    let bytes = c.args.bytes.now in
    let stops = subst (λ z. StopsText z c.whole.new.cursor) c.new-cursor.ensures (rw c.in-Err-Refused.field-0-is at c.in-Err-Refused.ensures) in
    rw c.refusal.ensures
    (refused_place bytes c.whole.new.cursor c.split_at.result.0.now _ stops (c.split_at.ensures.front ∙ ap (λ z. take (length bytes - length z) bytes) c.left.ensures) refl)

pub returns-in-Err-Refused-clause-never : goal.returns-in-Err-Refused-clause-never
returns-in-Err-Refused-clause-never c =
    let stops = subst (λ z. StopsText z c.whole.new.cursor) c.new-cursor.ensures (rw c.in-Err-Refused.field-0-is at c.in-Err-Refused.ensures) in
    rw c.refusal.ensures (λ other is. no_text _ _ other stops is)
