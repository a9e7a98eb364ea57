use Rattle.std.proofs.Common.{◌≡◌, ◌∙◌, ap, sym, arith, length, map}
use Rattle.std.specs.Prelude.{slice_get, ◌==◌}
use Rattle.std.proofs.lemmas.Option.{slice_get_past, slice_get-get_or}
use Rattle.ir_core.specs.Bodies.{OpTree, op_of}
use Rattle.op_chain.specs.Fusing.{taking_through}
use Rattle.op_chain.proofs.Shown.{op_there}
use Rattle.op_chain.proofs.choices.taking_through.Goals as goal

pub returns-then-place-args : goal.returns-then-place-args
returns-then-place-args c = λ s two shows at.
    let ops = c.args.ops.now in
    let x = c.index-ops-choices.result in
    let same = op_there ops (length c.args.choices.now) two x c.requires.next at c.index-ops-choices.is in
    let args : c.as_slice-args.result.now ≡ two.args = c.as_slice-args.ensures ∙ (ap (λ (o : _). o.args.items) (sym c.index-ops-choices.is) ∙ ap (λ (o : OpTree). o.args) same) in
    c.taking_by.ensures s two shows at
    ∙ ap (λ a. taking_through s (map op_of ops) c.args.choices.now two (c.args.place == 0) a) (sym (ap (λ l. slice_get l c.args.place) (sym args) ∙ slice_get-get_or c.as_slice-args.result.now c.args.place _ c.if-place-args.true))

pub returns-else-place-args : goal.returns-else-place-args
returns-else-place-args c = λ s two shows at.
    let ops = c.args.ops.now in
    let x = c.index-ops-choices.result in
    let same = op_there ops (length c.args.choices.now) two x c.requires.next at c.index-ops-choices.is in
    let args : c.as_slice-args.result.now ≡ two.args = c.as_slice-args.ensures ∙ (ap (λ (o : _). o.args.items) (sym c.index-ops-choices.is) ∙ ap (λ (o : OpTree). o.args) same) in
    ap (λ a. taking_through s (map op_of ops) c.args.choices.now two (c.args.place == 0) a) (sym (slice_get_past two.args c.args.place (let e = ap length args in omega (arith, e, c.if-place-args.false))))
