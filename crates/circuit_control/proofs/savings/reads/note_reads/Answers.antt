use Rattle.std.proofs.Common.{◌&&◌, ◌||◌, ap}
use Rattle.std.specs.List.{list_any}
use Rattle.reg_binding.specs.Sets.{has}
use Rattle.reg_binding.specs.Liveness.{is_among, goes_by, is_behind, out_reads, summary_of}
use Rattle.reg_binding.proofs.LiveVariables.Elements.{any_same}
use Rattle.reg_binding.proofs.LiveVariables.Members.{Gains-same, Gains-then}
use Rattle.datapath.specs.LeftOut.{is_read_in}
use Rattle.circuit_control.proofs.savings.reads.note_reads.Goals as goal

pub returns : goal.returns
returns c = λ sized.
    let live = c.args.live.now in
    let of = summary_of c.args.node.now in
    let behind = c.in_ok-behind.behind in
    let before = c.args.set.now in
    let between = c.note_node.new.set in
    let new = c.note_behind.new.set in
    Gains-same before new _ (λ n. is_read_in live n c.args.node.now)
    (Gains-then before between new (λ n. is_among n of.reads) (λ n. list_any (goes_by (has behind) n) of.outs) c.note_node.ensures c.note_behind.ensures)
    (λ n.
    ap (λ b. is_among n of.reads || b)
    (any_same (goes_by (has behind) n) (goes_by (is_behind live of) n) of.outs (λ out. ap (λ b. b && is_among n (out_reads out)) (c.in_ok-behind.ensures.members sized out.variable.0))))
