use Rattle.std.proofs.Common.{◌≡◌, ◌∙◌, ◌++◌, ◌∷◌, [], ap, sym, subst, subst₂, arith, length}
use Rattle.std.specs.Result.{OnOk}
use Rattle.std.proofs.lemmas.List.{length-map}
use Rattle.ir_core.specs.Bodies.{op_of}
use Rattle.passes.specs.Numbering as n
use Rattle.passes.specs.Numbering.{Kept, with_earlier, with_out}
use Rattle.value_number.specs.Views.{Shows, kept_of}
use Rattle.value_number.proofs.block.Numbering.go_on.Goals as goal

pub returns-in_ok-result_operand-in-Some-clause-shows : goal.returns-in_ok-result_operand-in-Some-clause-shows
returns-in_ok-result_operand-in-Some-clause-shows c = λ s h.
    let op = op_of c.args.op in
    let e = ap (λ b. n.earlier b op s.ops) (sym c.stays_apart.ensures) ∙ sym (c.earlier.ensures s h) ∙ c.in-Some.is in
    subst (λ d. OnOk c.stand.result (Shows c.stand.new.self (with_earlier s op c.args.is_out d))) (sym e)
    (subst₂ (λ x m. OnOk c.stand.result (Shows c.stand.new.self (record { ops = with_out c.args.is_out s.ops c.in-Some.first; values = s.values ++ record { operand = x; bits = m } ∷ [] })))
    c.in_ok-result_operand-in-Some.ensures c.result_bits-bits.ensures
    (c.stand.ensures.shows (record s { ops = with_out c.args.is_out s.ops c.in-Some.first }) (c.mark.ensures.shows s h)))

pub returns-in_ok-add-in-None-clause-shows : goal.returns-in_ok-add-in-None-clause-shows
returns-in_ok-add-in-None-clause-shows c = λ s h.
    let op = op_of c.args.op in
    let e = ap (λ b. n.earlier b op s.ops) (sym c.stays_apart.ensures) ∙ sym (c.earlier.ensures s h) ∙ c.in-None.is in
    let one = length-map c.args.self.now.ops.items op_of in
    let two = ap length h.ops in
    let three = length-map s.ops (λ (x : Kept). x.op) in
    let count : c.len.result ≡ length s.ops = omega (arith, c.len.ensures, one, two, three) in
    subst (λ d. OnOk c.stand-in-None.result (Shows c.stand-in-None.new.self (with_earlier s op c.args.is_out d))) (sym e)
    (subst₂ (λ x m. OnOk c.stand-in-None.result (Shows c.stand-in-None.new.self (record { ops = s.ops ++ kept_of c.args.op c.args.is_out ∷ []; values = s.values ++ record { operand = x; bits = m } ∷ [] })))
    (c.in_ok-operand-in-None.ensures ∙ ap n.result_of count) c.result_bits-bits.ensures
    (c.stand-in-None.ensures.shows (record s { ops = s.ops ++ kept_of c.args.op c.args.is_out ∷ [] }) (c.in_ok-add-in-None.ensures.shows s h)))
