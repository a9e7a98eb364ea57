-- In the nodes of laid out programs the operands of divisions have the width of the division, and no two outs set one variable.
use Rattle.std.specs.Prelude.{slice_get, if◌then◌else◌}
use Rattle.std.proofs.Common.{◌≡◌, ℕ, zero, suc, Bool, true, false, refl, sym, ap, ◌∙◌, subst, List, [], ◌∷◌, ◌++◌, append_assoc, map, Option, Some, None}
use Rattle.hls_base.specs.declared.number.VarId.{VarId}
use Rattle.hls_base.specs.declared.point.Point.{Point}
use Rattle.pieces.specs.Trees.{PieceTrees}
use Rattle.ir_core.specs.declared.body.OpKind.{OpKind}
use Rattle.ir_core.specs.declared.body.OpKind.TheVariants as o
use Rattle.ir_core.specs.declared.body.Operand.{Operand}
use Rattle.ir_core.specs.declared.body.Out.{Out}
use Rattle.ir_core.specs.declared.body.Source.{Source}
use Rattle.ir_core.specs.declared.body.Source.TheVariants as source
use Rattle.ir_core.specs.declared.cfg.Node.{Node}
use Rattle.ir_core.specs.declared.stamp.Untimed.{Untimed}
use Rattle.ir_core.specs.Bodies.{OpTree, Shapes}
use Rattle.ir_core.specs.Trees.{BlockTree, BodyTree}
use Rattle.passes.specs.Lowering.Blocks.{Scope}
use Rattle.passes.specs.Conversion.Outs.{is_set}
use Rattle.passes.specs.Conversion.Overlapping.{carried_from, carried, carried_op, carried_out, iteration}
use Rattle.pass_runs.specs.ConvertRuns.Typed.{HasBits, OutsAreTyped}
use Rattle.pass_runs.specs.ConvertRuns.Blocks.{Once}
use Rattle.pass_runs.proofs.ConvertRuns.Joining.{has_more}
use Rattle.ir_layout.specs.Nodes.{NodeTree, node_of}
use Rattle.ir_layout.specs.Layout.{finish, laid_out}
use Rattle.pass_runs.specs.ConvertRuns.LoweredConversions.Suiting.{widths_of, words_of, PiecesSuit}
use Rattle.clock_runs.specs.Premises.{Each, AreApart}
use Rattle.clock_runs.proofs.Lists.{some_same, no_some}
use Rattle.sound_trees.specs.Ready.{AllHave, IsChecked, OpIsReady, OpsAreReady, BlockIsReady}
use Rattle.sound_trees.specs.Loops.{BodyIsSound}
use Rattle.sound_trees.specs.Subscripts.{PiecesSubscriptsFit}
use Rattle.sound_trees.specs.Laws.{shapes_in, tree_in}
use Rattle.sound_trees.proofs.Whole.{tree_ready}
use Rattle.circuit_agreement.specs.CircuitFlow.Compiled.{IsDivision}
use Rattle.compiled_plans.specs.Operations.{DivisionsSuit, BodyDivides, NodeDivides}
use Rattle.compiled_plans.proofs.Lists.{mapped, at_map}
use Rattle.compiled_plans.proofs.LaidNodes.{laid_has}
use Rattle.compiled_plans.proofs.NamedNodes.{nodes_of}

module _ (shapes : Shapes) (words : List ℕ) where
  abbrev Has : List OpTree → ℕ → Source → Type 0
  Has = HasBits shapes.widths words

  -- ---- blocks

  record ReadyAt (all : List OpTree) (op : OpTree) : Type 0 where
    done : List OpTree
    more : List OpTree
    whole : all ≡ done ++ more
    ready : OpIsReady shapes words true done op

  ready_at : (before ops : List OpTree) (k : ℕ) (op : OpTree) → OpsAreReady shapes words true before ops → slice_get ops k ≡ Some op → ReadyAt (before ++ ops) op
  ready_at before [] k op h e = absurd (no_some e)
  ready_at before (x ∷ ops) zero op h e = record { done = before; more = x ∷ ops; whole = refl; ready = subst (OpIsReady shapes words true before) (some_same e) h.0 }
  ready_at before (x ∷ ops) (suc k) op h e =
      let r = ready_at (before ++ x ∷ []) ops k op h.1 e in record { done = r.done; more = r.more; whole = sym (append_assoc before (x ∷ []) ops) ∙ r.whole; ready = r.ready }

  all_at : (before : List OpTree) (n : ℕ) (xs : List Operand) (k : ℕ) (x : Operand) → AllHave shapes words true before n xs → slice_get xs k ≡ Some x → Has before n x.value
  all_at before n [] k x h e = absurd (no_some e)
  all_at before n (y ∷ xs) zero x h e = subst (λ (z : Operand). Has before n z.value) (some_same e) h.0
  all_at before n (y ∷ xs) (suc k) x h e = all_at before n xs k x h.1 e

  checked : (before : List OpTree) (op : OpTree) (kind : OpKind) → IsDivision kind → IsChecked shapes words true before op kind → AllHave shapes words true before op.bits op.args
  checked before op o.Div d h = h
  checked before op o.Rem d h = h
  checked before op kind d h = absurd d

  block_divisions : (ops : List OpTree) → OpsAreReady shapes words true [] ops → DivisionsSuit shapes.widths words ops
  block_divisions ops h k n op x at d arg =
      let r = ready_at [] ops k op h at in
      subst (λ (l : List OpTree). Has l op.bits x.value) (sym r.whole) (has_more shapes.widths words r.done r.more op.bits x.value (all_at r.done op.bits op.args n x (checked r.done op op.kind d r.ready.kind) arg))

  -- ---- iterations

  same_value : (outs : List Out) (x : Operand) → (carried outs x).value ≡ x.value
  same_value outs x = at x.value refl where
    by : (c : Bool) → (if c then record x { distance = 1 } else x).value ≡ x.value
    by true = refl
    by false = refl

    at : (t : Source) → x.value ≡ t → (carried_from outs x t).value ≡ x.value
    at (source.Constant w) e = refl
    at (source.Variable v) e = by (is_set outs v)
    at (source.Result i) e = refl

  has_carried : (outs : List Out) (ops : List OpTree) (n : ℕ) (s : Source) → Has ops n s → Has (map (carried_op outs) ops) n s
  has_carried outs ops n (source.Constant w) h = h
  has_carried outs ops n (source.Variable v) h = h
  has_carried outs ops n (source.Result i) h = (carried_op outs h.0, at_map (carried_op outs) ops i.0 h.0 h.1, h.2)

  iteration_divisions : (outs : List Out) (ops : List OpTree) → DivisionsSuit shapes.widths words ops → DivisionsSuit shapes.widths words (map (carried_op outs) ops)
  iteration_divisions outs ops h k n op x at d arg =
      let m = mapped (carried_op outs) ops k op at in
      let y = mapped (carried outs) m.0.args n x (ap (λ (z : OpTree). slice_get z.args n) m.1.1 ∙ arg) in
      let own = h k n m.0 y.0 m.1.0 (subst IsDivision (ap (λ (z : OpTree). z.kind) (sym m.1.1)) d) y.1.0 in
      subst (λ (z : OpTree). Has (map (carried_op outs) ops) z.bits x.value) m.1.1
      (subst (Has (map (carried_op outs) ops) m.0.bits) (sym (same_value outs y.0) ∙ ap (λ (z : Operand). z.value) y.1.1) (has_carried outs ops m.0.bits y.0.value own))

  iteration_outs : (outs : List Out) (ops : List OpTree) (xs : List Out) → OutsAreTyped shapes.widths words ops xs → OutsAreTyped shapes.widths words (map (carried_op outs) ops) (map (carried_out outs) xs)
  iteration_outs outs ops [] h = tt
  iteration_outs outs ops (x ∷ xs) h =
      ((h.0.0, h.0.1, subst (Has (map (carried_op outs) ops) h.0.0) (sym (same_value outs x.value)) (has_carried outs ops h.0.0 x.value.value h.0.2)), iteration_outs outs ops xs h.1)

  abbrev Loop : BodyTree → Type 0
  Loop b = BodyDivides shapes.widths words b × AreApart b.outs

  loop_divides : (known : Operand) (b : BlockTree) → BlockIsReady shapes words true b → BodyIsSound shapes (iteration known b) → Loop (iteration known b)
  loop_divides known b h s = (record { divisions = iteration_divisions b.outs b.ops (block_divisions b.ops h.ops); outs = iteration_outs b.outs b.ops b.outs h.typed.outs }, s.apart)

  block_divides : (b : BlockTree) → BlockIsReady shapes words true b → BodyDivides shapes.widths words (record { ops = b.ops; outs = b.outs; test = None }) × Once b.outs
  block_divides b h = (record { divisions = block_divisions b.ops h.ops; outs = h.typed.outs }, h.once)

-- ---- the whole

pub nodes_divide : (scope : Scope) (apart loops : Bool) (pieces : PieceTrees) (point : Point) (returned : Option VarId) (nodes : List (Node Untimed)) → PiecesSuit scope pieces → PiecesSubscriptsFit scope.arrays pieces
    → map node_of nodes ≡ laid_out (tree_in scope apart loops pieces point) returned → (i : ℕ) (n : Node Untimed) → slice_get nodes i ≡ Some n → NodeDivides (widths_of scope) (words_of scope) (node_of n)
nodes_divide scope apart loops pieces point returned nodes suits subscripts laid =
    let P : NodeTree → Type 0 = NodeDivides (widths_of scope) (words_of scope) in
    nodes_of P nodes (subst (Each P) (sym laid)
    (laid_has (BlockIsReady (shapes_in scope) (words_of scope) true) (λ t b. Unit {0}) (Loop (shapes_in scope) (words_of scope)) P returned (λ around ahead b r h. block_divides (shapes_in scope) (words_of scope) b h) (λ point body place h. h)
    (record { leave = None; again = None; lands = []; returned = returned }) finish 0 (tree_in scope apart loops pieces point) refl
    (tree_ready (Loop (shapes_in scope) (words_of scope)) scope apart loops pieces point suits subscripts (loop_divides (shapes_in scope) (words_of scope)))))
