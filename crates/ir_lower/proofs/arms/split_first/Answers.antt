use Rattle.std.proofs.Common.{◌∙◌, ◌<◌, ap, sym, map, length}
use Rattle.ir_core.specs.Trees.{sequence_of, arm_row}
use Rattle.passes.specs.Lowering.{parts_of}
use Rattle.ir_lower.specs.Lines.{first_parts, later_arms}
use Rattle.ir_lower.proofs.Rows.{sequence_out, front}
use Rattle.ir_lower.proofs.arms.split_first.Goals as goal

pub returns-clause-dead : goal.returns-clause-dead
returns-clause-dead c =
    let old = c.args.sequences.items in
    let some : 0 < length old = c.requires in
    let all = front old c.remove-first.new.self.items c.remove-first.result some c.remove-first.ensures.value c.remove-first.ensures.by_index.2 in
    ap parts_of (sym (sequence_out c.remove-first.result)) ∙ sym (ap (λ l. first_parts (arm_row (map sequence_of l))) all)

pub returns-clause-arms : goal.returns-clause-arms
returns-clause-arms c =
    let old = c.args.sequences.items in
    let some : 0 < length old = c.requires in
    let all = front old c.remove-first.new.self.items c.remove-first.result some c.remove-first.ensures.value c.remove-first.ensures.by_index.2 in
    sym (ap (λ l. later_arms (arm_row (map sequence_of l))) all)
