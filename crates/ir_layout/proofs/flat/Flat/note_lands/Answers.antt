use Rattle.std.proofs.Common.{◌∙◌, ◌-◌, List, ℕ, ap, sym, arith, get_or}
use Rattle.ir_core.specs.declared.tree.Part.{Part}
use Rattle.ir_core.specs.Trees.{shape_of}
use Rattle.ir_layout.specs.Layout.{with_land}
use Rattle.ir_layout.specs.Views.{stacked}
use Rattle.ir_layout.proofs.Noting.{noted}
use Rattle.ir_layout.proofs.flat.Flat.note_lands.Goals as goal

pub loop-left-preserved : goal.loop-left-preserved
loop-left-preserved c =
    record {
      nodes = c.note.ensures.nodes ∙ c.loop-left.invariant.nodes;
      within = omega (arith, c.loop-left.invariant.within);
      lands =
          noted c.args.parts.now c.loop-left.left c.args.base c.end_at-behind.result c.index-parts-left.result (omega arith) c.loop-left.invariant.within c.index-parts-left.is
          (c.end_at-behind.ensures ∙ ap (λ (l : List ℕ). get_or l (c.loop-left.left - 1) 0) (c.deref.ensures.value ∙ c.in_ok-ends.ensures))
          (stacked c.args.self.now.lands.items) (stacked c.loop-left.self.lands.items) (stacked c.note.new.self.lands.items) c.loop-left.invariant.lands
          (c.in_ok-note.ensures.lands ∙ ap (λ (p : Part). with_land c.end_at-behind.result (shape_of p.shape) (stacked c.loop-left.self.lands.items)) (sym c.index-parts-left.is));
    }
