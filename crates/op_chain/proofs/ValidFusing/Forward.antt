-- The operands of a valid program name earlier operations, and its outs set variables of its frame.
use Rattle.std.proofs.Common.{◌≡◌, ◌∙◌, ◌+◌, ◌<◌, ◌^◌, ℕ, zero, suc, refl, sym, subst, Bool, true, false, ◌&&◌, List, [], ◌∷◌, ◌++◌, length, map, take, Option, Some, None, arith, length-append}
use Rattle.std.specs.Prelude.{◌==◌, nat_lt, slice_get, is_none, option_to_list, if◌then◌else◌}
use Rattle.std.specs.List.{list_all}
use Rattle.std.specs.Option.{option_map}
use Rattle.std.proofs.lemmas.Bool.{eqb-true, false≢true}
use Rattle.std.proofs.lemmas.Option.{slice_get_within}
use Rattle.ir_core.specs.declared.body.OpKind.{OpKind}
use Rattle.ir_core.specs.declared.body.OpKind.TheVariants as o
use Rattle.ir_core.specs.declared.body.Operand.{Operand}
use Rattle.ir_core.specs.declared.body.Out.{Out}
use Rattle.ir_core.specs.declared.body.Source.{Source}
use Rattle.ir_core.specs.declared.body.Source.TheVariants as source
use Rattle.ir_core.specs.declared.cfg.Cfg.{Cfg}
use Rattle.ir_core.specs.declared.cfg.Frame.{Frame}
use Rattle.ir_core.specs.declared.cfg.Memory.{Memory}
use Rattle.ir_core.specs.declared.stamp.Untimed.{Untimed}
use Rattle.ir_core.specs.Bodies.{OpTree}
use Rattle.ir_core.specs.Timing.{result_bits}
use Rattle.ir_core.specs.Trees.{BodyTree}
use Rattle.ir_layout.specs.Nodes.{EndTree, jumps, branches, chooses, returns, NodeTree, plain, looped, node_of}
use Rattle.dep_graph.specs.Meetings.{is_store}
use Rattle.program_validity.specs.Frames.{is_frame}
use Rattle.program_validity.specs.Operands.{is_exactly, is_any_width}
use Rattle.program_validity.specs.Operations.{is_width_of, converts, memory_of}
use Rattle.program_validity.specs.Programs.{is_valid}
use Rattle.op_chain.specs.Subscripts.{body_in}
use Rattle.op_chain.specs.Reads.{op_operands, out_operands, end_operands}
use Rattle.op_chain.specs.Pairs.{simple_of}
use Rattle.op_chain.specs.Forward.{NamesBefore, AllBefore, HasTwo, OpsForward, BodyForward, NodeForward, NodesForward}
use Rattle.op_chain.specs.Reaching.{OutsThere, NodesThere}
use Rattle.op_chain.specs.ValidFusing.{ValidNodesAreForward, ValidNodesAreThere}
use Rattle.op_chain.proofs.ValidFusing.Trees as trees
use Rattle.op_chain.proofs.ValidFusing.Bridge.{valid_same}
use Rattle.op_chain.proofs.ValidFusing.Fused.{first_of, second_of}

-- no conversion is from no width
no_conversion : (kind : OpKind) (bits : ℕ) → converts kind bits None ≡ false
no_conversion o.Widen bits = refl
no_conversion o.Narrow bits = refl
no_conversion kind bits = refl

both_before : (n : ℕ) (xs ys : List Operand) → AllBefore n xs → AllBefore n ys → AllBefore n (xs ++ ys)
both_before n [] ys h k = k
both_before n (x ∷ xs) ys h k = (h.0, both_before n xs ys h.1 k)

-- behind these operations
module _ (widths : List ℕ) (carried : List Out) (before : List OpTree) where
  abbrev All : List Operand → Type 0
  All = AllBefore (length before)

  -- a result whose width passes a test that no missing one passes
  result_before : (j : ℕ) (passes : Option ℕ → Bool) → passes None ≡ false → passes (option_map (λ (t : OpTree). result_bits t.kind t.bits) (slice_get before j)) ≡ true → j < length before
  result_before j passes none h = by (slice_get before j) refl h where
    by : (t : Option OpTree) → slice_get before j ≡ t → passes (option_map (λ (t : OpTree). result_bits t.kind t.bits) t) ≡ true → j < length before
    by None at k = absurd (false≢true (sym none ∙ k))
    by (Some t) at k = slice_get_within before j t at

  width_before : (s : Source) (passes : Option ℕ → Bool) → passes None ≡ false → passes (trees.width_at widths carried before s) ≡ true → NamesBefore (length before) s
  width_before (source.Constant c) passes none h = tt
  width_before (source.Variable v) passes none h = tt
  width_before (source.Result j) passes none h = result_before j.0 passes none h

  bits_before : (bits : ℕ) (s : Source) → trees.bits_fit widths carried before bits s ≡ true → NamesBefore (length before) s
  bits_before bits (source.Constant c) h = tt
  bits_before bits (source.Variable v) h = tt
  bits_before bits (source.Result j) h = result_before j.0 (is_exactly bits) refl h

  operand_before : (bits : ℕ) (x : Operand) → trees.operand_fits widths carried before bits x ≡ true → NamesBefore (length before) x.value
  operand_before bits x h = bits_before bits x.value (first_of (trees.bits_fit widths carried before bits x.value) _ h)

  operand_if_before : (bits : ℕ) (x : Option Operand) → trees.operand_if_fits widths carried before bits x ≡ true → All (option_to_list x)
  operand_if_before bits None h = tt
  operand_if_before bits (Some x) h = (operand_before bits x h, tt)

  -- ---- arguments

  one_before : (bits : ℕ) (xs : List Operand) → trees.one_fits widths carried before bits xs ≡ true → All xs
  one_before bits [] h = tt
  one_before bits (x ∷ []) h = (operand_before bits x h, tt)
  one_before bits (x ∷ y ∷ ys) h = absurd (false≢true h)

  two_before : (bits : ℕ) (xs : List Operand) → trees.two_fit widths carried before bits xs ≡ true → All xs
  two_before bits [] h = tt
  two_before bits (x ∷ []) h = absurd (false≢true h)
  two_before bits (x ∷ y ∷ []) h =
      let first = trees.operand_fits widths carried before bits x in
      (operand_before bits x (first_of first _ h), (operand_before bits y (second_of first _ h), tt))
  two_before bits (x ∷ y ∷ z ∷ zs) h = absurd (false≢true h)

  three_before : (first bits : ℕ) (xs : List Operand) → trees.three_fit widths carried before first bits xs ≡ true → All xs
  three_before first bits [] h = tt
  three_before first bits (x ∷ []) h = absurd (false≢true h)
  three_before first bits (x ∷ y ∷ []) h = absurd (false≢true h)
  three_before first bits (x ∷ y ∷ z ∷ []) h =
      let leading = trees.operand_fits widths carried before first x in
      (operand_before first x (first_of leading _ h), two_before bits (y ∷ z ∷ []) (second_of leading _ h))
  three_before first bits (x ∷ y ∷ z ∷ t ∷ ts) h = absurd (false≢true h)

  converted_before : (kind : OpKind) (bits : ℕ) (xs : List Operand) → trees.converted_fits widths carried before kind bits xs ≡ true → All xs
  converted_before kind bits [] h = tt
  converted_before kind bits (x ∷ []) h = (width_before x.value (converts kind bits) (no_conversion kind bits) (first_of (converts kind bits (trees.width_at widths carried before x.value)) _ h), tt)
  converted_before kind bits (x ∷ y ∷ ys) h = absurd (false≢true h)

  arguments_before : (kind : OpKind) (bits : ℕ) (xs : List Operand) → trees.arguments_fit widths carried before kind bits xs ≡ true → All xs
  arguments_before o.Not bits xs h = one_before bits xs h
  arguments_before o.Neg bits xs h = one_before bits xs h
  arguments_before o.Copy bits xs h = one_before bits xs h
  arguments_before o.Widen bits xs h = converted_before o.Widen bits xs h
  arguments_before o.Narrow bits xs h = converted_before o.Narrow bits xs h
  arguments_before o.Truth bits xs h = converted_before o.Truth bits xs h
  arguments_before o.Select bits xs h = three_before 1 bits xs h
  arguments_before (o.Fused pairing) bits xs h = three_before bits bits xs h
  arguments_before kind bits xs h = two_before bits xs h

  -- ---- accesses

  subscript_before : (s : Source) (distance : ℕ) → trees.subscript_as_fits widths carried before s distance ≡ true → NamesBefore (length before) s
  subscript_before (source.Constant c) distance h = tt
  subscript_before (source.Variable v) distance h = tt
  subscript_before (source.Result j) distance h = result_before j.0 is_any_width refl (first_of (is_any_width (trees.width_at widths carried before (source.Result j))) _ h)

  subscripts_before : (xs : List Operand) → list_all (trees.subscript_fits widths carried before) xs ≡ true → All xs
  subscripts_before [] h = tt
  subscripts_before (x ∷ xs) h =
      let first = trees.subscript_fits widths carried before x in
      (subscript_before x.value x.distance (first_of first _ h), subscripts_before xs (second_of first _ h))

  -- and the value that is stored behind so many of them
  stored_before : (bits count : ℕ) (xs : List Operand) → length xs ≡ count + 1 → list_all (trees.subscript_fits widths carried before) (take count xs) ≡ true → trees.stored_fits widths carried before bits (slice_get xs count) ≡ true → All xs
  stored_before bits count [] e h k = tt
  stored_before bits zero (x ∷ []) e h k = (operand_before bits x k, tt)
  stored_before bits zero (x ∷ y ∷ ys) e h k = absurd (omega (arith, e))
  stored_before bits (suc count) (x ∷ xs) e h k =
      let first = trees.subscript_fits widths carried before x in
      (subscript_before x.value x.distance (first_of first _ h), stored_before bits count xs (omega (arith, e)) (second_of first _ h) k)

  access_before : (op : OpTree) (m : Option Memory) → trees.access_fits widths carried before op m ≡ true → All op.args
  access_before op None h = absurd (false≢true h)
  access_before op (Some m) h = by (is_store op.kind) h where
    by : (t : Bool) → (if t then trees.store_fits widths carried before op m else trees.load_fits widths carried before op m) ≡ true → All op.args
    by true k =
        let front = (m.bits == op.bits) && (is_none m.table && (length op.args == length m.dims.items + 1)) in
        let count : length op.args ≡ length m.dims.items + 1 = eqb-true _ _ (second_of (is_none m.table) _ (second_of (m.bits == op.bits) _ (first_of front _ k))) in
        let subscripts = list_all (trees.subscript_fits widths carried before) (take (length m.dims.items) op.args) in
        stored_before op.bits (length m.dims.items) op.args count (first_of subscripts _ (second_of front _ k)) (second_of subscripts _ (second_of front _ k))
    by false k = subscripts_before op.args (second_of (length op.args == length m.dims.items) _ (second_of (m.bits == op.bits) _ k))

-- ---- operations

module _ (f : Frame) (carried : List Out) where
  acts_before : (before : List OpTree) (op : OpTree) (kind : OpKind) → trees.acts_fit f carried before op kind ≡ true → AllBefore (length before) op.args
  acts_before before op o.Load h = access_before f.variables.items carried before op (memory_of f.memories.items op.array) h
  acts_before before op o.Store h = access_before f.variables.items carried before op (memory_of f.memories.items op.array) h
  acts_before before op kind h = arguments_before f.variables.items carried before kind op.bits op.args (second_of (is_none op.array) _ h)

  two_long : (before : List OpTree) (bits : ℕ) (xs : List Operand) → trees.two_fit f.variables.items carried before bits xs ≡ true → length xs ≡ 2
  two_long before bits [] h = absurd (false≢true h)
  two_long before bits (x ∷ []) h = absurd (false≢true h)
  two_long before bits (x ∷ y ∷ []) h = refl
  two_long before bits (x ∷ y ∷ z ∷ zs) h = absurd (false≢true h)

  has_two : (before : List OpTree) (op : OpTree) (kind : OpKind) → trees.acts_fit f carried before op kind ≡ true → HasTwo (simple_of kind) op.args
  has_two before op o.Add h = two_long before op.bits op.args (second_of (is_none op.array) _ h)
  has_two before op o.Sub h = two_long before op.bits op.args (second_of (is_none op.array) _ h)
  has_two before op o.And h = two_long before op.bits op.args (second_of (is_none op.array) _ h)
  has_two before op o.Or h = two_long before op.bits op.args (second_of (is_none op.array) _ h)
  has_two before op o.Xor h = two_long before op.bits op.args (second_of (is_none op.array) _ h)
  has_two before op kind h = tt

  ops_forward : (before ops : List OpTree) (n : ℕ) → n ≡ length before → trees.operations_fit f carried before ops ≡ true → OpsForward n ops
  ops_forward before [] n size h = tt
  ops_forward before (op ∷ ops) n size h =
      let here = first_of (trees.operation_fits f carried before op) _ h in
      let does = second_of (is_width_of op.kind op.bits && trees.is_flagged op) _ here in
      let acts = second_of (trees.operand_if_fits f.variables.items carried before 1 op.guard) _ does in
      let guard = operand_if_before f.variables.items carried before 1 op.guard (first_of (trees.operand_if_fits f.variables.items carried before 1 op.guard) _ does) in
      let more = length-append before (op ∷ []) in (
        subst (λ k. AllBefore k (op_operands op)) (sym size) (both_before (length before) op.args (option_to_list op.guard) (acts_before before op op.kind acts) guard),
        has_two before op op.kind acts,
        ops_forward (before ++ op ∷ []) ops (suc n) (omega (arith, size, more)) (second_of (trees.operation_fits f carried before op) _ h),
      )

  set_before : (ops : List OpTree) (x : Out) (bits : Option ℕ) → trees.set_fits f carried ops x bits ≡ true → NamesBefore (length ops) x.value.value
  set_before ops x None h = absurd (false≢true h)
  set_before ops x (Some bits) h = operand_before f.variables.items carried ops bits x.value h

  outs_before : (ops : List OpTree) (xs : List Out) → list_all (trees.out_fits f carried ops) xs ≡ true → AllBefore (length ops) (out_operands xs)
  outs_before ops [] h = tt
  outs_before ops (x ∷ xs) h =
      let first = trees.out_fits f carried ops x in
      (set_before ops x (slice_get f.variables.items x.variable.0) (first_of first _ h), outs_before ops xs (second_of first _ h))

  body_forward : (b : BodyTree) → trees.body_fits f carried b ≡ true → AllBefore (length b.ops) (option_to_list b.test) → BodyForward b
  body_forward b h test =
      let does = second_of (nat_lt (length b.ops) (2 ^ 32)) _ h in
      record {
        ops = ops_forward [] b.ops zero refl (first_of (trees.operations_fit f carried [] b.ops) _ does);
        outs = outs_before b.ops b.outs (second_of (trees.operations_fit f carried [] b.ops) _ does);
        test = test;
      }

-- ---- nodes

untested : (n : ℕ) (x : Option Operand) → is_none x ≡ true → AllBefore n (option_to_list x)
untested n None h = tt
untested n (Some x) h = absurd (false≢true h)

module _ (f : Frame) (count : ℕ) where
  cases_before : (ops : List OpTree) (cases : List (Operand × ℕ)) → list_all (trees.case_fits f ops count) cases ≡ true → AllBefore (length ops) (map (λ (c : Operand × ℕ). c.0) cases)
  cases_before ops [] h = tt
  cases_before ops (c ∷ cs) h =
      let first = trees.case_fits f ops count c in
      (operand_before f.variables.items [] ops 1 c.0 (first_of (trees.test_fits f ops c.0) _ (first_of first _ h)), cases_before ops cs (second_of first _ h))

  end_before : (ops : List OpTree) (e : EndTree) → trees.end_fits f ops count e ≡ true → AllBefore (length ops) (end_operands e)
  end_before ops (jumps next) h = tt
  end_before ops (branches test left right) h = (operand_before f.variables.items [] ops 1 test (first_of (trees.test_fits f ops test) _ h), tt)
  end_before ops (chooses cases other) h = cases_before ops cases (first_of (list_all (trees.case_fits f ops count) cases) _ h)
  end_before ops (returns None) h = tt
  end_before ops (returns (Some x)) h = (operand_before f.variables.items [] ops f.ret x (second_of (nat_lt 0 f.ret) _ h), tt)

  node_forward : (node : NodeTree) → trees.node_fits f count node ≡ true → NodeForward node
  node_forward (plain point b e) h =
      let body = first_of (trees.block_body_fits f b) _ h in
      (body_forward f [] b (second_of (is_none b.test) _ body) (untested (length b.ops) b.test (first_of (is_none b.test) _ body)), end_before b.ops e (second_of (trees.block_body_fits f b) _ h))
  node_forward (looped point b next) h =
      let front = trees.body_fits f b.outs b && trees.operand_if_fits f.variables.items b.outs b.ops 1 b.test in
      let does = first_of front _ (first_of (trees.loop_body_fits f b) _ h) in
      (body_forward f b.outs b (first_of (trees.body_fits f b.outs b) _ does) (operand_if_before f.variables.items b.outs b.ops 1 b.test (second_of (trees.body_fits f b.outs b) _ does)), tt)

  nodes_forward : (nodes : List NodeTree) → list_all (trees.node_fits f count) nodes ≡ true → NodesForward nodes
  nodes_forward [] h = tt
  nodes_forward (node ∷ nodes) h = (node_forward node (first_of (trees.node_fits f count node) _ h), nodes_forward nodes (second_of (trees.node_fits f count node) _ h))

all_fit : (cfg : Cfg Untimed) → is_valid cfg ≡ true → list_all (trees.node_fits cfg.frame (length (map node_of cfg.nodes.items))) (map node_of cfg.nodes.items) ≡ true
all_fit cfg valid =
    let nodes = map node_of cfg.nodes.items in
    let f = cfg.frame in
    let fits : trees.program_fits f cfg.first.0 nodes ≡ true = sym (valid_same cfg) ∙ valid in
    let front = nat_lt (length nodes) (2 ^ 32) && is_frame f in
    let named = nat_lt cfg.first.0 (length nodes) && list_all (trees.node_fits f (length nodes)) nodes in
    let known : (front && named) ≡ true = first_of (front && named) _ fits in
    second_of (nat_lt cfg.first.0 (length nodes)) _ (second_of front _ known)

pub valid_forward : ValidNodesAreForward
valid_forward cfg valid = nodes_forward cfg.frame (length (map node_of cfg.nodes.items)) (map node_of cfg.nodes.items) (all_fit cfg valid)

-- ---- variables that are set

module _ (f : Frame) where
  set_there : (carried : List Out) (ops : List OpTree) (x : Out) (bits : Option ℕ) → slice_get f.variables.items x.variable.0 ≡ bits → trees.set_fits f carried ops x bits ≡ true → x.variable.0 < length f.variables.items
  set_there carried ops x None at h = absurd (false≢true h)
  set_there carried ops x (Some bits) at h = slice_get_within f.variables.items x.variable.0 bits at

  outs_there : (carried : List Out) (ops : List OpTree) (xs : List Out) → list_all (trees.out_fits f carried ops) xs ≡ true → OutsThere (length f.variables.items) xs
  outs_there carried ops [] h = tt
  outs_there carried ops (x ∷ xs) h =
      let first = trees.out_fits f carried ops x in
      (set_there carried ops x (slice_get f.variables.items x.variable.0) refl (first_of first _ h), outs_there carried ops xs (second_of first _ h))

  body_there : (carried : List Out) (b : BodyTree) → trees.body_fits f carried b ≡ true → OutsThere (length f.variables.items) b.outs
  body_there carried b h = outs_there carried b.ops b.outs (second_of (trees.operations_fit f carried [] b.ops) _ (second_of (nat_lt (length b.ops) (2 ^ 32)) _ h))

  node_there : (count : ℕ) (node : NodeTree) → trees.node_fits f count node ≡ true → OutsThere (length f.variables.items) (body_in node).outs
  node_there count (plain point b e) h = body_there [] b (second_of (is_none b.test) _ (first_of (trees.block_body_fits f b) _ h))
  node_there count (looped point b next) h =
      let front = trees.body_fits f b.outs b && trees.operand_if_fits f.variables.items b.outs b.ops 1 b.test in
      body_there b.outs b (first_of (trees.body_fits f b.outs b) _ (first_of front _ (first_of (trees.loop_body_fits f b) _ h)))

  nodes_there : (count : ℕ) (nodes : List NodeTree) → list_all (trees.node_fits f count) nodes ≡ true → NodesThere (length f.variables.items) nodes
  nodes_there count [] h = tt
  nodes_there count (node ∷ nodes) h = (node_there count node (first_of (trees.node_fits f count node) _ h), nodes_there count nodes (second_of (trees.node_fits f count node) _ h))

pub valid_there : ValidNodesAreThere
valid_there cfg valid = nodes_there cfg.frame (length (map node_of cfg.nodes.items)) (map node_of cfg.nodes.items) (all_fit cfg valid)
