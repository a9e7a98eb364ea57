use Rattle.std.proofs.Common.{◌≡◌, ◌∙◌, ◌<◌, ◌≤◌, ◌+◌, ◌++◌, ◌∷◌, [], false, true, None, Some, length, length-append, map, get_or, ap, sym, arith}
use Rattle.std.proofs.lemmas.List.{append-nil, map-append}
use Rattle.std.proofs.lemmas.Option.{slice_get-get_or}
use Rattle.ir_core.specs.Bodies.{op_of}
use Rattle.op_chain.specs.Fusing.{is_taken, new_op, emitted, made_by}
use Rattle.op_chain.proofs.Shown.{default_same}
use Rattle.op_chain.proofs.Rebuilding.{emits_none, emits_one, stepped}
use Rattle.op_chain.proofs.bodies.rebuild.Goals as goal
use Rattle.op_chain.proofs.bodies.rebuild.Goals.{then-not-index+in_ok-op+in_ok-push, else-not-index}

pub loop-index-preserved : goal.loop-index-preserved
loop-index-preserved c =
    let ops = c.args.ops.now in
    let all = map op_of ops in
    let cs = c.args.choices.now in
    let i = c.loop-index.index in
    let inv = c.loop-index.invariant in
    let old = c.loop-index.rebuilt.ops.items in
    let now = c.loop-index.rebuilt.now.items in
    let x = c.index-ops-index.result in
    let within : i < length ops = c.loop-index-test.true in
    let number : c.len-number.result ≡ length old = omega (arith, c.len-number.ensures, c.loop-index.rebuilt.ops.ok.0) in
    let marks = c.in_ok-taken.taken.items in
    let long : i < length marks = (let e = c.in_ok-taken.ensures.count in omega (arith, e, within)) in
    let flag = sym (c.in_ok-taken.ensures.taken i within) ∙ (default_same marks i false c.index.result.now long ∙ sym c.index.ensures) in
    elim c.if-not-index.branch [
      | then-not-index+in_ok-op+in_ok-push w ↦
          (let free : is_taken cs i ≡ false = flag ∙ w.if-not-index.true in
          let choice = get_or cs i None in
          let at = slice_get-get_or cs i None (let e = c.requires in omega (arith, e, within)) in
          let one = emits_one all cs now i (op_of x) choice inv.count free at in
          let is_op : op_of w.in_ok-op.op ≡ new_op all now (op_of x) (Some choice) = w.in_ok-op.ensures ∙ ap (λ l. new_op all l (op_of x) (Some choice)) w.as_slice.ensures.value in
          let items = w.in_ok-push.ensures.items in
          let new : map op_of w.push.new.self.items ≡ map op_of old ++ emitted all cs now (op_of x) =
          ap (map op_of) items ∙ (map-append op_of old (w.in_ok-op.op ∷ []) ∙ ap (λ l. map op_of old ++ l) (ap (λ o. o ∷ []) is_op ∙ sym one)) in
          let same = w.rebuilt-is in
          let small : length w.push.new.self.items ≤ length old + 1 = (let e = ap length items in let f = length-append old (w.in_ok-op.op ∷ []) in omega (arith, e, f)) in
          let r = stepped ops cs i c.len-number.result old c.if-not-index.rebuilt.ops.items now c.push-in-loop-index.new.self.items x (made_by all cs) inv.count inv.compact inv.below inv.made number
          (c.in_ok-push-2.ensures.items ∙ ap (λ (z : _). z.now.items ++ c.len-number.result ∷ []) same) within c.index-ops-index.is
          (let e = ap (λ (z : _). length z.ops.items) same in omega (arith, e, small)) (ap (λ (z : _). map op_of z.ops.items) same ∙ new) in
          record { count = r.count; compact = r.compact; below = r.below; made = r.made_ })
      | else-not-index w ↦
          (let gone : is_taken cs i ≡ true = flag ∙ w.if-not-index.false in
          let none = emits_none all cs now i (op_of x) inv.count gone in
          let same = w.rebuilt-is in
          let new : map op_of c.loop-index.rebuilt.ops.items ≡ map op_of old ++ emitted all cs now (op_of x) = sym (append-nil (map op_of old)) ∙ ap (λ l. map op_of old ++ l) (sym none) in
          let r = stepped ops cs i c.len-number.result old c.if-not-index.rebuilt.ops.items now c.push-in-loop-index.new.self.items x (made_by all cs) inv.count inv.compact inv.below inv.made number
          (c.in_ok-push-2.ensures.items ∙ ap (λ (z : _). z.now.items ++ c.len-number.result ∷ []) same) within c.index-ops-index.is
          (let e = ap (λ (z : _). length z.ops.items) same in omega (arith, e)) (ap (λ (z : _). map op_of z.ops.items) same ∙ new) in
          record { count = r.count; compact = r.compact; below = r.below; made = r.made_ })
    ]
