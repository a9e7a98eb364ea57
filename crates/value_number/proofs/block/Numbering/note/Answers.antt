use Rattle.std.proofs.Common.{◌≡◌, ◌∙◌, ◌&&◌, not, ap, sym, arith, length}
use Rattle.std.specs.Prelude.{is_some}
use Rattle.std.proofs.lemmas.List.{length-map}
use Rattle.std.proofs.lemmas.Result.{on_ok_weaker}
use Rattle.indexmap.specs.IndexMap.{get}
use Rattle.ir_core.specs.Bodies.{op_of}
use Rattle.passes.specs.Numbering.Equal.{is_equal}
use Rattle.passes.specs.Numbering.{Kept}
use Rattle.value_number.specs.Views.{key_of, key_eq, kept_of, noted}
use Rattle.value_number.proofs.Showing.{not_noted, guarded_apart, access_apart, and_false, noted_first, none_there}
use Rattle.value_number.proofs.block.Numbering.note.Goals as goal

pub returns-then-is_some-clause-firsts : goal.returns-then-is_some-clause-firsts
returns-then-is_some-clause-firsts c = λ s is_out h op k.
    h.firsts op k ∙ sym (not_noted s (kept_of c.args.op.now is_out) op (guarded_apart c.args.op.now.guard (is_equal op (op_of c.args.op.now)) (sym c.is_some.ensures ∙ c.if-is_some.true)))

pub returns-then-not-is_common-clause-firsts : goal.returns-then-not-is_common-clause-firsts
returns-then-not-is_common-clause-firsts c = λ s is_out h op k.
    h.firsts op k
    ∙ sym (not_noted s (kept_of c.args.op.now is_out) op
    (ap (λ b. not (is_some c.args.op.now.guard) && b) (access_apart op (op_of c.args.op.now) k (sym c.is_common.ensures ∙ c.if-not-is_common.true)) ∙ and_false (not (is_some c.args.op.now.guard))))

pub returns-clause-firsts : goal.returns-clause-firsts
returns-clause-firsts c = λ s is_out h.
    let op = op_of c.args.op.now in
    let old = c.args.self.now.firsts in
    let one = length-map c.args.self.now.ops.items op_of in
    let two = ap length h.ops in
    let three = length-map s.ops (λ (x : Kept). x.op) in
    let count : length c.args.self.now.ops.items ≡ length s.ops = omega (arith, one, two, three) in
    on_ok_weaker c.note_key.result
    (λ e other k.
    e (key_of other) ∙ ap (λ q. noted (get key_eq old q) (key_eq q (key_of other)) (length c.args.self.now.ops.items) (get key_eq old (key_of other))) c.new.ensures
    ∙ ap (λ m. noted (get key_eq old (key_of op)) (key_eq (key_of op) (key_of other)) m (get key_eq old (key_of other))) count
    ∙ noted_first s op other is_out (get key_eq old (key_of other)) (get key_eq old (key_of op)) (none_there c.args.op.now.guard (sym c.is_some.ensures ∙ c.if-is_some.false)) (h.firsts other k)
    (h.firsts op (sym c.is_common.ensures ∙ c.if-not-is_common.false)) (λ same. ap (get key_eq old) (sym same)))
    c.note_key.ensures.noted
