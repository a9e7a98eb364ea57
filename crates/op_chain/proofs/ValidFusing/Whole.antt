-- Fusing keeps validity.
use Rattle.std.proofs.Common.{◌∙◌, sym, ap, ap₂, List, length, map}
use Rattle.hls_base.specs.declared.number.NodeId.{NodeId}
use Rattle.ir_core.specs.declared.cfg.Frame.{Frame}
use Rattle.ir_layout.specs.Nodes.{NodeTree, node_of}
use Rattle.op_chain.specs.ValidFusing.{TreesTellValidity, FusingKeepsValidity}
use Rattle.op_chain.proofs.ValidFusing.Trees as trees
use Rattle.op_chain.proofs.ValidFusing.Bridge.{valid_same}
use Rattle.op_chain.proofs.ValidFusing.Programs.{program_fits}

pub trees_tell : TreesTellValidity
trees_tell a b frame first nodes =
    valid_same a
    ∙ (ap (λ (f : Frame). trees.program_fits f a.first.0 (map node_of a.nodes.items)) frame
    ∙ (ap₂ (λ (n : NodeId) (l : List NodeTree). trees.program_fits b.frame n.0 l) first nodes ∙ sym (valid_same b)))

pub keeps_validity : FusingKeepsValidity
keeps_validity period old new valid fused =
    valid_same new
    ∙ (ap₂ (λ (f : Frame) (n : NodeId). trees.program_fits f n.0 (map node_of new.nodes.items)) fused.frame fused.first
    ∙ (ap (λ (l : List NodeTree). trees.program_fits old.frame old.first.0 l) fused.nodes
    ∙ program_fits old.frame old.first.0 period (length old.frame.variables.items) (map node_of old.nodes.items) (sym (valid_same old) ∙ valid)))
