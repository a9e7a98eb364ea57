use Rattle.std.proofs.Common.{◌∙◌, ◌++◌, map, ap, sym, arith}
use Rattle.std.proofs.lemmas.List.{append-nil, length-map}
use Rattle.std.proofs.lemmas.Option.{slice_get_past}
use Rattle.ir_core.specs.Bodies.{op_of}
use Rattle.op_chain.specs.Fusing.{moved, args_of}
use Rattle.op_chain.proofs.bodies.append_taken.Goals as goal

pub returns-else-index-ops : goal.returns-else-index-ops
returns-else-index-ops c =
    let ops = c.args.ops.now in
    let none = slice_get_past (map op_of ops) c.args.index (let e = length-map ops op_of in omega (arith, e, c.if-index-ops.false)) in
    sym (append-nil c.args.args.now.items) ∙ ap (λ o. c.args.args.now.items ++ map (moved c.args.now.now) (args_of o)) (sym none)
