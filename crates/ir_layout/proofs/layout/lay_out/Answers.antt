use Rattle.std.proofs.Common.{◌∙◌, ap, sym, subst, length}
use Rattle.ir_core.specs.declared.tree.Sequence.{Sequence}
use Rattle.ir_core.specs.Trees.{sequence_of}
use Rattle.ir_layout.specs.Listing.{IsSized}
use Rattle.ir_layout.proofs.Listing.{listing_sized}
use Rattle.ir_layout.proofs.layout.lay_out.Goals as goal

pub lay_sequence-requires : goal.lay_sequence-requires
lay_sequence-requires c =
    let tree = sequence_of c.args.tree.blocks in
    let own = listing_sized tree in
    let table = subst (λ l. IsSized l 0 tree) (sym (c.deref.ensures.value ∙ c.in_ok-sizes.ensures)) own in
    let held = subst (λ (s : Sequence). IsSized c.deref.result.now 0 (sequence_of s)) (sym c.in_ok-blocks.ensures) table in
    record { sized = subst (λ i. IsSized c.deref.result.now i (sequence_of c.in_ok-blocks.blocks.value)) (sym (ap length c.new-flat.ensures.nodes)) held }
