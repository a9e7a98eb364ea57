-- A timed program without its times: the same operations, with no stamps, and no length, interval or exit.
use Rattle.std.specs.Prelude.{map, Vec}
use Rattle.std.proofs.Common.{◌∙◌, sym}
use Rattle.std.proofs.lemmas.List.{length-map}
use Rattle.std.specs.declared.alloc.Global.{Global}
use Rattle.ir_core.specs.declared.body.Body.{Body}
use Rattle.ir_core.specs.declared.body.Op.{Op}
use Rattle.ir_core.specs.declared.cfg.Block.{Block}
use Rattle.ir_core.specs.declared.cfg.Cfg.{Cfg}
use Rattle.ir_core.specs.declared.cfg.Loop.{Loop}
use Rattle.ir_core.specs.declared.cfg.Node.{Node}
use Rattle.ir_core.specs.declared.cfg.Node.TheVariants as node
use Rattle.ir_core.specs.declared.stamp.Untimed.{Untimed}
use Rattle.ir_core.specs.declared.timed.Timed.{Timed}

-- the vector of what a function makes of the elements
abbrev pub mapped : {A B : Type 0} → (A → B) → Vec A Global → Vec B Global
mapped f v = record { ptr = v.ptr; len = v.len; cap = v.cap; alloc = v.alloc; items = map f v.items; ok = (v.ok.0 ∙ sym (length-map v.items f), v.ok.1); small = v.small }

abbrev pub untimed_op : Op Timed → Op Untimed
untimed_op op = record { kind = op.kind; signed = op.signed; bits = op.bits; args = op.args; array = op.array; guard = op.guard; flag = op.flag; stamp = record {} }

abbrev pub untimed_body : Body Timed → Body Untimed
untimed_body b = record { ops = mapped untimed_op b.ops; outs = b.outs; test = b.test }

abbrev pub untimed_block : Block Timed → Block Untimed
untimed_block b = record { point = b.point; body = untimed_body b.body; end = b.end; length = 0 }

abbrev pub untimed_loop : Loop Timed → Loop Untimed
untimed_loop r = record { point = r.point; body = untimed_body r.body; next = r.next; ii = 0; exit = 0 }

abbrev pub untimed_node : Node Timed → Node Untimed
untimed_node (node.Plain b) = node.Plain (untimed_block b)
untimed_node (node.Looped r) = node.Looped (untimed_loop r)

abbrev pub untimed : Cfg Timed → Cfg Untimed
untimed cfg = record { frame = cfg.frame; nodes = mapped untimed_node cfg.nodes; first = cfg.first }
