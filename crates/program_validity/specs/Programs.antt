-- When a flat program is valid.
use Rattle.std.specs.Prelude.{ℕ, ◌^◌, ◌==◌, ◌&&◌, nat_lt, Bool, List, [], length, Some, None}
use Rattle.std.specs.List.{list_all}
use Rattle.hls_base.specs.declared.number.NodeId.{NodeId}
use Rattle.ir_core.specs.declared.body.Body.{Body}
use Rattle.ir_core.specs.declared.body.Op.{Op}
use Rattle.ir_core.specs.declared.body.Operand.{Operand}
use Rattle.ir_core.specs.declared.body.Out.{Out}
use Rattle.ir_core.specs.declared.cfg.Cfg.{Cfg}
use Rattle.ir_core.specs.declared.cfg.End.{End}
use Rattle.ir_core.specs.declared.cfg.End.TheVariants as end
use Rattle.ir_core.specs.declared.cfg.Frame.{Frame}
use Rattle.ir_core.specs.declared.cfg.Node.{Node}
use Rattle.ir_core.specs.declared.cfg.Node.TheVariants as node
use Rattle.program_validity.specs.Frames.{is_frame}
use Rattle.program_validity.specs.Operands.{is_operand}
use Rattle.program_validity.specs.Bodies.{is_block_body, is_loop_body}
use Rattle.program_validity.specs.Targets.{is_left_if}

-- the body of a block or of a loop, and the outs that it carries to its next iteration
abbrev pub body_in : {S : Type 0} → Node S → Body S
body_in (node.Plain block) = block.body
body_in (node.Looped region) = region.body

abbrev pub carried_in : {S : Type 0} → Node S → List Out
carried_in (node.Plain block) = []
carried_in (node.Looped region) = region.body.outs.items

-- one of so many nodes
abbrev pub is_node : ℕ → NodeId → Bool
is_node count n = nat_lt n.0 count

-- a block tells by a bit where control goes
abbrev pub is_test : {S : Type 0} → Frame → List (Op S) → Operand → Bool
is_test f ops x = is_operand f.variables.items [] ops 1 x

abbrev pub is_case : {S : Type 0} → Frame → List (Op S) → ℕ → Operand × NodeId → Bool
is_case f ops count c = is_test f ops c.0 && is_node count c.1

abbrev pub is_returned : {S : Type 0} → Frame → List (Op S) → Operand → Bool
is_returned f ops x = nat_lt 0 f.ret && is_operand f.variables.items [] ops f.ret x

-- a result is given exactly where the program has one
abbrev pub is_end : {S : Type 0} → Frame → List (Op S) → ℕ → End → Bool
is_end f ops count (end.Jump next) = is_node count next
is_end f ops count (end.Branch test left right) = is_test f ops test && (is_node count left && is_node count right)
is_end f ops count (end.Choose cases other) = list_all (is_case f ops count) cases.items && is_node count other
is_end f ops count (end.Return None) = f.ret == 0
is_end f ops count (end.Return (Some x)) = is_returned f ops x

abbrev pub is_valid_node : {S : Type 0} → Frame → ℕ → Node S → Bool
is_valid_node f count (node.Plain block) = is_block_body f block.body && is_end f block.body.ops.items count block.end
is_valid_node f count (node.Looped region) = is_loop_body f region.body && is_node count region.next

abbrev pub are_nodes : {S : Type 0} → Cfg S → Bool
are_nodes cfg = list_all (is_valid_node cfg.frame (length cfg.nodes.items)) cfg.nodes.items

-- What names something names what is there, and widths agree.
abbrev pub is_consistent : {S : Type 0} → Cfg S → Bool
is_consistent cfg = (nat_lt (length cfg.nodes.items) (2 ^ 32) && is_frame cfg.frame) && (is_node (length cfg.nodes.items) cfg.first && are_nodes cfg)

-- So it is, and control goes on behind loops at their Ends.
abbrev pub is_valid : {S : Type 0} → Cfg S → Bool
is_valid cfg = is_consistent cfg && list_all (is_left_if cfg) cfg.nodes.items
