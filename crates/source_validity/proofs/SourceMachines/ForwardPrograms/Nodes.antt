-- The nodes of a valid program are forward.
use Rattle.std.proofs.Common.{◌≡◌, ℕ, zero, suc, ◌+◌, ◌≤◌, ◌^◌, sym, subst, refl, Bool, true, false, ◌&&◌, List, [], ◌∷◌, length, take, arith}
use Rattle.std.specs.Prelude.{◌==◌, nat_lt, slice_get, Option, Some, None, is_none, if◌then◌else◌}
use Rattle.std.specs.List.{All, list_all}
use Rattle.std.proofs.lemmas.Bool.{false≢true}
use Rattle.std.proofs.lemmas.Option.{slice_get_within}
use Rattle.std.proofs.lemmas.List.{length-take-le}
use Rattle.std.proofs.lemmas.List.Elements.{All-nil, All-cons}
use Rattle.hls_base.specs.declared.number.OpId.{OpId}
use Rattle.ir_core.specs.declared.body.Body.{Body}
use Rattle.ir_core.specs.declared.body.Op.{Op}
use Rattle.ir_core.specs.declared.body.Operand.{Operand}
use Rattle.ir_core.specs.declared.body.Out.{Out}
use Rattle.ir_core.specs.declared.body.Source.{Source}
use Rattle.ir_core.specs.declared.body.Source.TheVariants as source
use Rattle.ir_core.specs.declared.cfg.Cfg.{Cfg}
use Rattle.ir_core.specs.declared.cfg.Frame.{Frame}
use Rattle.ir_core.specs.declared.cfg.Node.{Node}
use Rattle.ir_core.specs.declared.cfg.Node.TheVariants as node
use Rattle.ir_core.specs.declared.stamp.Untimed.{Untimed}
use Rattle.dep_graph.specs.Offsets as graph
use Rattle.dep_graph.specs.Meetings.{is_store}
use Rattle.dep_graph.specs.Dependences.{test_maker}
use Rattle.dep_graph.specs.ForwardBodies.{IsEarlier, IsForwardOp, AreForwardOps}
use Rattle.ir_core.specs.TreeRuns.{tested_by, tested}
use Rattle.modulo_loop.specs.Rules.{result_or, maker, known_source, known_first}
use Rattle.dep_graph.specs.Offsets.{result_of}
use Rattle.report_rows.specs.ForwardNodes.{HasForwardBody}
use Rattle.program_validity.specs.Operands.{has_bits, is_operand_if}
use Rattle.program_validity.specs.Bodies.{are_operations, is_set, is_out, is_body, is_block_body, is_loop_body, is_result_out, name_different, stores_wait}
use Rattle.program_validity.specs.Programs.{body_in, carried_in, is_valid_node, is_consistent}
use Rattle.program_validity.proofs.Parts.{first_of_both, second_of_both, node_valid}
use Rattle.program_validity.proofs.EachOperation.{operation_valid}
use Rattle.program_sizes.specs.CompiledSizes.{IsSmallProgram}
use Rattle.source_validity.specs.SourceMachines.ForwardPrograms.NearConstants.{ConstantsAreNear}
use Rattle.source_validity.proofs.SourceMachines.ForwardPrograms.Operands.{bits_earlier}
use Rattle.source_validity.proofs.SourceMachines.ForwardPrograms.Operations.{operation_forward, store_behind, each_forward}

-- ---- tests

-- what is known at once needs no operation
untested : (k : ℕ) (test : Option Operand) → is_none test ≡ true → IsEarlier k (test_maker test)
untested k None h = tt
untested k (Some x) h = absurd (false≢true h)

known_by : (k : ℕ) (s : Source) → tested_by s ≤ k → IsEarlier k (graph.result_of s)
known_by k (source.Constant c) h = tt
known_by k (source.Variable v) h = tt
known_by k (source.Result op) h = omega (arith, h)

-- behind the operations that come before the test is known stands what makes it
known_behind : (k : ℕ) (test : Option Operand) → tested test ≤ k → IsEarlier k (test_maker test)
known_behind k None h = tt
known_behind k (Some x) h = known_by k x.value h

-- ---- what must be known before the next iteration

either_earlier : (k : ℕ) (x y : Option OpId) → IsEarlier k x → IsEarlier k y → IsEarlier k (result_or x y)
either_earlier k (Some op) y h e = h
either_earlier k None y h e = e

module _ (f : Frame) (carried : List Out) (ops : List (Op Untimed)) where
  abbrev widths : List ℕ
  widths = f.variables.items

  result_earlier : (bits : ℕ) (s : Source) → has_bits widths ops bits s ≡ true → IsEarlier (length ops) (result_of s)
  result_earlier bits (source.Constant c) h = tt
  result_earlier bits (source.Variable v) h = tt
  result_earlier bits (source.Result op) h = bits_earlier widths carried ops bits (source.Result op) h

  set_earlier : (out : Out) (bits : Option ℕ) → is_set f carried ops out bits ≡ true → IsEarlier (length ops) (result_of out.value.value)
  set_earlier out None h = absurd (false≢true h)
  set_earlier out (Some bits) h = result_earlier bits out.value.value (first_of_both (has_bits widths ops bits out.value.value) _ h)

  maker_earlier : (variable : ℕ) (outs : List Out) → list_all (is_out f carried ops) outs ≡ true → IsEarlier (length ops) (maker variable outs)
  maker_earlier variable [] h = tt
  maker_earlier variable (out ∷ outs) h =
      by (out.variable.0 == variable) (set_earlier out (slice_get widths out.variable.0) (first_of_both (is_out f carried ops out) _ h)) (maker_earlier variable outs (second_of_both (is_out f carried ops out) _ h)) where
        by : (t : Bool) → IsEarlier (length ops) (result_of out.value.value) → IsEarlier (length ops) (maker variable outs) → IsEarlier (length ops) (if t then result_or (result_of out.value.value) (maker variable outs) else maker variable outs)
        by true here rest = either_earlier (length ops) (result_of out.value.value) (maker variable outs) here rest
        by false here rest = rest

  source_earlier : (outs : List Out) (s : Source) → list_all (is_out f carried ops) outs ≡ true → has_bits widths ops 1 s ≡ true → IsEarlier (length ops) (known_source outs s)
  source_earlier outs (source.Constant c) sets h = tt
  source_earlier outs (source.Variable v) sets h = maker_earlier v.0 outs sets
  source_earlier outs (source.Result op) sets h = bits_earlier widths carried ops 1 (source.Result op) h

  test_earlier : (outs : List Out) (test : Option Operand) → list_all (is_out f carried ops) outs ≡ true → is_operand_if widths carried ops 1 test ≡ true → IsEarlier (length ops) (known_first outs test)
  test_earlier outs None sets h = tt
  test_earlier outs (Some x) sets h = source_earlier outs x.value sets (first_of_both (has_bits widths ops 1 x.value) _ h)

-- a loop of a valid program
module _ (f : Frame) (b : Body Untimed) (h : is_loop_body f b ≡ true) where
  abbrev outs : List Out
  outs = b.outs.items

  abbrev ops : List (Op Untimed)
  ops = b.ops.items

  whole : (is_body f outs b && is_operand_if f.variables.items outs ops 1 b.test) ≡ true
  whole = first_of_both (is_body f outs b && is_operand_if f.variables.items outs ops 1 b.test) _ h

  sets_valid : list_all (is_out f outs ops) outs ≡ true
  sets_valid = second_of_both (are_operations f outs [] ops) _ (second_of_both (nat_lt (length ops) (2 ^ 32)) _ (first_of_both (is_body f outs b) _ whole))

  loop_known : IsEarlier (length ops) (known_first outs b.test)
  loop_known = test_earlier f outs ops outs b.test sets_valid (second_of_both (is_body f outs b) _ whole)

  loop_waits : (k : ℕ) (op : Op Untimed) → slice_get ops k ≡ Some op → is_store op.kind ≡ true → IsEarlier k (test_maker b.test)
  loop_waits k op at s =
      let rest = second_of_both (is_body f outs b && is_operand_if f.variables.items outs ops 1 b.test) _ h in
      let wait : stores_wait b ≡ true = second_of_both (list_all is_result_out outs && name_different outs) _ rest in
      known_behind k b.test (store_behind (tested b.test) ops k op wait at s)

-- ---- nodes

module _ (cfg : Cfg Untimed) (valid : is_consistent cfg ≡ true) (near : ConstantsAreNear cfg) (small : IsSmallProgram cfg) where
  operation_at : (i k : ℕ) (n : Node Untimed) (op : Op Untimed) (test : Option Operand) → slice_get cfg.nodes.items i ≡ Some n → slice_get (body_in n).ops.items k ≡ Some op
      → (is_store op.kind ≡ true → IsEarlier k (test_maker test)) → IsForwardOp test k op
  operation_at i k n op test at there waits =
      let before = take k (body_in n).ops.items in
      let inside = slice_get_within (body_in n).ops.items k op there in
      let count : length before ≡ k = length-take-le k (body_in n).ops.items (omega (arith, inside)) in
      subst (λ m. IsForwardOp test m op) count
      (operation_forward cfg.frame (carried_in n) before test op (operation_valid cfg i k n op valid at there) (near i k n op at there) (λ s. subst (λ m. IsEarlier m (test_maker test)) (sym count) (waits s)))

  operations_at : (i : ℕ) (n : Node Untimed) (test : Option Operand) → slice_get cfg.nodes.items i ≡ Some n
      → ((k : ℕ) (op : Op Untimed) → slice_get (body_in n).ops.items k ≡ Some op → is_store op.kind ≡ true → IsEarlier k (test_maker test)) → AreForwardOps test 0 (body_in n).ops.items
  operations_at i n test at waits = each_forward test 0 (body_in n).ops.items (λ k op there. let here : k ≡ 0 + k = omega arith in subst (λ m. IsForwardOp test m op) here (operation_at i k n op test at there (waits k op there)))

  node_forward : (i : ℕ) (n : Node Untimed) → slice_get cfg.nodes.items i ≡ Some n → HasForwardBody n
  node_forward i n at = by n at (node_valid cfg i n valid at) where
    by : (n : Node Untimed) → slice_get cfg.nodes.items i ≡ Some n → is_valid_node cfg.frame (length cfg.nodes.items) n ≡ true → HasForwardBody n
    by (node.Plain block) at h =
        let body = first_of_both (is_block_body cfg.frame block.body) _ h in
        let none = first_of_both (is_none block.body.test) _ body in
        record { small = small.operations i (node.Plain block) at; ops = operations_at i (node.Plain block) block.body.test at (λ k op there s. untested k block.body.test none) }
    by (node.Looped region) at h =
        let body = first_of_both (is_loop_body cfg.frame region.body) _ h in
        record {
          forward = record { small = small.operations i (node.Looped region) at; ops = operations_at i (node.Looped region) region.body.test at (loop_waits cfg.frame region.body body) };
          known = loop_known cfg.frame region.body body;
        }

  nodes_forward : (nodes : List (Node Untimed)) → ((i : ℕ) (n : Node Untimed) → slice_get nodes i ≡ Some n → HasForwardBody n) → All HasForwardBody nodes
  nodes_forward [] h = All-nil HasForwardBody
  nodes_forward (n ∷ nodes) h = All-cons HasForwardBody n nodes (h zero n refl) (nodes_forward nodes (λ i x at. h (suc i) x at))

  -- in a consistent program that is small, where its constants are near
  pub consistent_forward : All HasForwardBody cfg.nodes.items
  consistent_forward = nodes_forward cfg.nodes.items node_forward
