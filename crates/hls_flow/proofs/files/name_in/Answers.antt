use Rattle.rtl_core.specs.Netlist.{netlist_of}
use Rattle.hls_flow.proofs.files.name_in.Goals as goal

pub unreachable-requires : goal.unreachable-requires
unreachable-requires c =
    let refused = rw c.in-Err-Refused.field-0-is at c.in-Err-Refused.ensures.no_text in
    refused c.requires.small (netlist_of c.args.design.now) c.requires.text
