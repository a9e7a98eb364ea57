use Rattle.std.proofs.Common.{◌≡◌, ◌∙◌, Bool, false, length, map, replicate, ap, arith}
use Rattle.std.proofs.lemmas.List.{length-replicate}
use Rattle.ir_layout.specs.Nodes.{node_of}
use Rattle.op_chain.specs.Subscripts.{nodes_hand}
use Rattle.op_chain.proofs.Shown.{written_back, round_shown}
use Rattle.op_chain.proofs.subscripts.round.Goals as goal

pub returns : goal.returns
returns c =
    let v = c.in_ok-next.next in
    let count = length c.args.reaching.now in
    let none : v.items ≡ replicate count false = c.in_ok-next.ensures.items_if_clones_equal (λ y e. e) in
    let own : length c.hand_nodes.new.variables ≡ v.len = omega (arith, c.hand_nodes.auto.variables, ap length c.deref_mut.ensures.value, v.ok.0) in
    let long : length c.hand_nodes.new.variables ≡ count = omega (arith, c.hand_nodes.auto.variables, ap length c.deref_mut.ensures.value, ap length none, length-replicate {A = Bool} count false) in
    written_back v.len c.hand_nodes.new.variables v.items own
    ∙ round_shown c.hand_nodes.new.variables c.deref_mut.result.now count (nodes_hand c.args.reaching.now (map node_of c.args.nodes.now)) long (c.deref_mut.ensures.value ∙ none) c.in_ok-hand_nodes.ensures
