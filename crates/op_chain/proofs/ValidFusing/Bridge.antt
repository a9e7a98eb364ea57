-- Programs are valid where their trees are.
use Rattle.std.proofs.Common.{◌≡◌, ◌∙◌, ◌+◌, ◌^◌, ℕ, zero, suc, refl, sym, ap, ap₂, Bool, cond, ◌&&◌, ◌||◌, List, [], ◌∷◌, ◌++◌, length, map, take, Option, Some, None}
use Rattle.std.specs.Prelude.{◌==◌, nat_lt, slice_get, is_none, if◌then◌else◌}
use Rattle.std.specs.List.{list_all, list_any, count_by}
use Rattle.std.specs.Option.{option_map}
use Rattle.std.proofs.lemmas.List.{length-map, map-append}
use Rattle.std.proofs.lemmas.List.Sums.{sum_by-cons}
use Rattle.hls_base.specs.declared.number.NodeId.{NodeId}
use Rattle.hls_base.specs.declared.point.Point.{Point}
use Rattle.ir_core.specs.declared.body.Body.{Body}
use Rattle.ir_core.specs.declared.body.Op.{Op}
use Rattle.ir_core.specs.declared.body.OpKind.{OpKind}
use Rattle.ir_core.specs.declared.body.OpKind.TheVariants as o
use Rattle.ir_core.specs.declared.body.Operand.{Operand}
use Rattle.ir_core.specs.declared.body.Out.{Out}
use Rattle.ir_core.specs.declared.body.Source.{Source}
use Rattle.ir_core.specs.declared.body.Source.TheVariants as source
use Rattle.ir_core.specs.declared.cfg.Cfg.{Cfg}
use Rattle.ir_core.specs.declared.cfg.End.{End}
use Rattle.ir_core.specs.declared.cfg.End.TheVariants as end
use Rattle.ir_core.specs.declared.cfg.Frame.{Frame}
use Rattle.ir_core.specs.declared.cfg.Memory.{Memory}
use Rattle.ir_core.specs.declared.cfg.Node.{Node}
use Rattle.ir_core.specs.declared.cfg.Node.TheVariants as node
use Rattle.ir_core.specs.declared.stamp.Untimed.{Untimed}
use Rattle.ir_core.specs.Bodies.{OpTree, op_of}
use Rattle.ir_core.specs.Timing.{result_bits}
use Rattle.ir_core.specs.TreeRuns.{tested}
use Rattle.ir_core.specs.Trees.{body_of}
use Rattle.ir_layout.specs.Nodes.{NodeTree, case_of, end_of, node_of}
use Rattle.dep_graph.specs.Meetings.{is_store}
use Rattle.program_validity.specs.Operands.{is_at, width_of, is_exactly, is_any_width, has_bits, is_operand, is_operand_if, is_subscript_as, is_subscript}
use Rattle.program_validity.specs.Operations.{is_flagged, is_width_of, is_one, are_two, are_three, converts, is_converted, computes, memory_of, loads, is_stored, stores, accesses_in, acts, is_operation}
use Rattle.program_validity.specs.Bodies.{are_operations, is_set, is_out, is_body, is_block_body, is_no_store, is_loop_body}
use Rattle.program_validity.specs.Programs.{is_test, is_case, is_end, is_valid_node, is_valid}
use Rattle.program_validity.specs.Targets.{end_leads_to, leads_to, is_block_at_end_of, is_left_if}
use Rattle.op_chain.proofs.ValidFusing.Trees as trees

pub both_same : {a b c d : Bool} → a ≡ b → c ≡ d → (a && c) ≡ (b && d)
both_same e f = ap₂ (λ (x : Bool) (y : Bool). x && y) e f

pub all_same : {A : Type 0} (p q : A → Bool) → ((x : A) → p x ≡ q x) → (xs : List A) → list_all p xs ≡ list_all q xs
all_same p q h [] = refl
all_same p q h (x ∷ xs) = both_same (h x) (all_same p q h xs)

-- what is asked of each element, asked of what a function makes of it
pub all_mapped : {A B : Type 0} (p : A → Bool) (q : B → Bool) (f : A → B) → ((x : A) → p x ≡ q (f x)) → (xs : List A) → list_all p xs ≡ list_all q (map f xs)
all_mapped p q f h [] = refl
all_mapped p q f h (x ∷ xs) = both_same (h x) (all_mapped p q f h xs)

bits_at : (ops : List (Op Untimed)) (j : ℕ) → option_map (λ (op : Op Untimed). result_bits op.kind op.bits) (slice_get ops j) ≡ option_map (λ (t : OpTree). result_bits t.kind t.bits) (slice_get (map op_of ops) j)
bits_at [] j = refl
bits_at (op ∷ ops) zero = refl
bits_at (op ∷ ops) (suc j) = bits_at ops j

-- ---- operands

module _ (widths : List ℕ) (carried : List Out) (ops : List (Op Untimed)) where
  abbrev before : List OpTree
  before = map op_of ops

  width_same : (s : Source) → width_of widths ops s ≡ trees.width_at widths carried before s
  width_same (source.Constant c) = refl
  width_same (source.Variable v) = refl
  width_same (source.Result j) = bits_at ops j.0

  bits_same : (bits : ℕ) (s : Source) → has_bits widths ops bits s ≡ trees.bits_fit widths carried before bits s
  bits_same bits (source.Constant c) = refl
  bits_same bits (source.Variable v) = refl
  bits_same bits (source.Result j) = ap (is_exactly bits) (bits_at ops j.0)

  pub operand_same : (bits : ℕ) (x : Operand) → is_operand widths carried ops bits x ≡ trees.operand_fits widths carried before bits x
  operand_same bits x = ap (λ b. b && is_at carried x.value x.distance) (bits_same bits x.value)

  pub operand_if_same : (bits : ℕ) (x : Option Operand) → is_operand_if widths carried ops bits x ≡ trees.operand_if_fits widths carried before bits x
  operand_if_same bits None = refl
  operand_if_same bits (Some x) = operand_same bits x

  subscript_as_same : (s : Source) (distance : ℕ) → is_subscript_as widths carried ops s distance ≡ trees.subscript_as_fits widths carried before s distance
  subscript_as_same (source.Constant c) distance = refl
  subscript_as_same (source.Variable v) distance = refl
  subscript_as_same (source.Result j) distance = ap (λ (n : Option ℕ). is_any_width n && is_at carried (source.Result j) distance) (bits_at ops j.0)

  subscripts_same : (xs : List Operand) → list_all (is_subscript widths carried ops) xs ≡ list_all (trees.subscript_fits widths carried before) xs
  subscripts_same xs = all_same (is_subscript widths carried ops) (trees.subscript_fits widths carried before) (λ (x : Operand). subscript_as_same x.value x.distance) xs

  -- ---- arguments

  one_same : (bits : ℕ) (xs : List Operand) → is_one widths carried ops bits xs ≡ trees.one_fits widths carried before bits xs
  one_same bits [] = refl
  one_same bits (x ∷ []) = operand_same bits x
  one_same bits (x ∷ y ∷ ys) = refl

  two_same : (bits : ℕ) (xs : List Operand) → are_two widths carried ops bits xs ≡ trees.two_fit widths carried before bits xs
  two_same bits [] = refl
  two_same bits (x ∷ []) = refl
  two_same bits (x ∷ y ∷ []) = both_same (operand_same bits x) (operand_same bits y)
  two_same bits (x ∷ y ∷ z ∷ zs) = refl

  three_same : (first bits : ℕ) (xs : List Operand) → are_three widths carried ops first bits xs ≡ trees.three_fit widths carried before first bits xs
  three_same first bits [] = refl
  three_same first bits (x ∷ []) = refl
  three_same first bits (x ∷ y ∷ []) = refl
  three_same first bits (x ∷ y ∷ z ∷ []) = both_same (operand_same first x) (both_same (operand_same bits y) (operand_same bits z))
  three_same first bits (x ∷ y ∷ z ∷ t ∷ ts) = refl

  converted_same : (kind : OpKind) (bits : ℕ) (xs : List Operand) → is_converted widths carried ops kind bits xs ≡ trees.converted_fits widths carried before kind bits xs
  converted_same kind bits [] = refl
  converted_same kind bits (x ∷ []) = ap (λ (n : Option ℕ). converts kind bits n && is_at carried x.value x.distance) (width_same x.value)
  converted_same kind bits (x ∷ y ∷ ys) = refl

  computes_same : (kind : OpKind) (bits : ℕ) (xs : List Operand) → computes widths carried ops kind bits xs ≡ trees.arguments_fit widths carried before kind bits xs
  computes_same o.Not bits xs = one_same bits xs
  computes_same o.Neg bits xs = one_same bits xs
  computes_same o.Copy bits xs = one_same bits xs
  computes_same o.Widen bits xs = converted_same o.Widen bits xs
  computes_same o.Narrow bits xs = converted_same o.Narrow bits xs
  computes_same o.Truth bits xs = converted_same o.Truth bits xs
  computes_same o.Select bits xs = three_same 1 bits xs
  computes_same (o.Fused pairing) bits xs = three_same bits bits xs
  computes_same kind bits xs = two_same bits xs

  -- ---- accesses

  stored_same : (bits : ℕ) (x : Option Operand) → is_stored widths carried ops bits x ≡ trees.stored_fits widths carried before bits x
  stored_same bits None = refl
  stored_same bits (Some x) = operand_same bits x

  loads_same : (op : Op Untimed) (m : Memory) → loads widths carried ops op m ≡ trees.load_fits widths carried before (op_of op) m
  loads_same op m = ap (λ b. (m.bits == op.bits) && ((length op.args.items == length m.dims.items) && b)) (subscripts_same op.args.items)

  stores_same : (op : Op Untimed) (m : Memory) → stores widths carried ops op m ≡ trees.store_fits widths carried before (op_of op) m
  stores_same op m =
      ap₂ (λ (b : Bool) (c : Bool). ((m.bits == op.bits) && (is_none m.table && (length op.args.items == length m.dims.items + 1))) && (b && c)) (subscripts_same (take (length m.dims.items) op.args.items))
      (stored_same op.bits (slice_get op.args.items (length m.dims.items)))

  accesses_same : (op : Op Untimed) (m : Option Memory) → accesses_in widths carried ops op m ≡ trees.access_fits widths carried before (op_of op) m
  accesses_same op None = refl
  accesses_same op (Some m) = ap₂ (λ (p : Bool) (q : Bool). if is_store op.kind then p else q) (stores_same op m) (loads_same op m)

-- ---- operations and outs

module _ (f : Frame) (carried : List Out) where
  acts_same : (ops : List (Op Untimed)) (op : Op Untimed) (kind : OpKind) → acts f carried ops op kind ≡ trees.acts_fit f carried (map op_of ops) (op_of op) kind
  acts_same ops op o.Load = accesses_same f.variables.items carried ops op (memory_of f.memories.items op.array)
  acts_same ops op o.Store = accesses_same f.variables.items carried ops op (memory_of f.memories.items op.array)
  acts_same ops op kind = ap (λ b. is_none op.array && b) (computes_same f.variables.items carried ops kind op.bits op.args.items)

  operation_same : (ops : List (Op Untimed)) (op : Op Untimed) → is_operation f carried ops op ≡ trees.operation_fits f carried (map op_of ops) (op_of op)
  operation_same ops op =
      ap₂ (λ (b : Bool) (c : Bool). (is_width_of op.kind op.bits && is_flagged op) && (b && c)) (operand_if_same f.variables.items carried ops 1 op.guard) (acts_same ops op op.kind)

  operations_same : (ops rest : List (Op Untimed)) → are_operations f carried ops rest ≡ trees.operations_fit f carried (map op_of ops) (map op_of rest)
  operations_same ops [] = refl
  operations_same ops (op ∷ rest) =
      both_same (operation_same ops op)
      (operations_same (ops ++ op ∷ []) rest ∙ ap (λ (l : List OpTree). trees.operations_fit f carried l (map op_of rest)) (map-append op_of ops (op ∷ [])))

  set_same : (ops : List (Op Untimed)) (x : Out) (bits : Option ℕ) → is_set f carried ops x bits ≡ trees.set_fits f carried (map op_of ops) x bits
  set_same ops x None = refl
  set_same ops x (Some bits) = operand_same f.variables.items carried ops bits x.value

  body_same : (b : Body Untimed) → is_body f carried b ≡ trees.body_fits f carried (body_of b)
  body_same b =
      both_same (ap (λ n. nat_lt n (2 ^ 32)) (sym (length-map b.ops.items op_of)))
      (both_same (operations_same [] b.ops.items)
      (all_same (is_out f carried b.ops.items) (trees.out_fits f carried (map op_of b.ops.items)) (λ (x : Out). set_same b.ops.items x (slice_get f.variables.items x.variable.0)) b.outs.items))

-- ---- bodies

waiting : (n : ℕ) (ops : List (Op Untimed)) → list_all is_no_store (take n ops) ≡ list_all trees.stores_none (take n (map op_of ops))
waiting zero [] = refl
waiting (suc n) [] = refl
waiting zero (op ∷ ops) = refl
waiting (suc n) (op ∷ ops) = both_same refl (waiting n ops)

module _ (f : Frame) where
  block_body_same : (b : Body Untimed) → is_block_body f b ≡ trees.block_body_fits f (body_of b)
  block_body_same b = both_same refl (body_same f [] b)

  loop_body_same : (b : Body Untimed) → is_loop_body f b ≡ trees.loop_body_fits f (body_of b)
  loop_body_same b =
      both_same (both_same (body_same f b.outs.items b) (operand_if_same f.variables.items b.outs.items b.ops.items 1 b.test))
      (both_same refl (waiting (tested b.test) b.ops.items))

  -- ---- nodes

  test_same : (ops : List (Op Untimed)) (x : Operand) → is_test f ops x ≡ trees.test_fits f (map op_of ops) x
  test_same ops x = operand_same f.variables.items [] ops 1 x

  end_same : (ops : List (Op Untimed)) (count : ℕ) (e : End) → is_end f ops count e ≡ trees.end_fits f (map op_of ops) count (end_of e)
  end_same ops count (end.Jump next) = refl
  end_same ops count (end.Branch test left right) = both_same (test_same ops test) refl
  end_same ops count (end.Choose cases other) =
      both_same (all_mapped (is_case f ops count) (trees.case_fits f (map op_of ops) count) case_of (λ (c : Operand × NodeId). both_same (test_same ops c.0) refl) cases.items) refl
  end_same ops count (end.Return None) = refl
  end_same ops count (end.Return (Some x)) = both_same refl (operand_same f.variables.items [] ops f.ret x)

  node_same : (count : ℕ) (n : Node Untimed) → is_valid_node f count n ≡ trees.node_fits f count (node_of n)
  node_same count (node.Plain b) = both_same (block_body_same b.body) (end_same b.body.ops.items count b.end)
  node_same count (node.Looped r) = both_same (loop_body_same r.body) refl

-- ---- where control goes behind loops

any_mapped : (n : NodeId) (cases : List (Operand × NodeId)) → list_any (λ (c : Operand × NodeId). c.1.0 == n.0) cases ≡ list_any (λ (c : Operand × ℕ). c.1 == n.0) (map case_of cases)
any_mapped n [] = refl
any_mapped n (c ∷ cs) = ap (λ b. (c.1.0 == n.0) || b) (any_mapped n cs)

end_leads_same : (n : NodeId) (e : End) → end_leads_to n e ≡ trees.end_leads n.0 (end_of e)
end_leads_same n (end.Jump next) = refl
end_leads_same n (end.Branch test left right) = refl
end_leads_same n (end.Choose cases other) = ap (λ b. (other.0 == n.0) || b) (any_mapped n cases.items)
end_leads_same n (end.Return value) = refl

leads_same : (n : NodeId) (m : Node Untimed) → leads_to n m ≡ trees.node_leads n.0 (node_of m)
leads_same n (node.Plain b) = end_leads_same n b.end
leads_same n (node.Looped r) = refl

count_same : (n : NodeId) (ms : List (Node Untimed)) → count_by (leads_to n) ms ≡ count_by (trees.node_leads n.0) (map node_of ms)
count_same n [] = refl
count_same n (m ∷ ms) =
    sum_by-cons (λ (x : Node Untimed). cond (leads_to n x) 1 0) m ms
    ∙ (ap₂ (λ (b : Bool) (k : ℕ). cond b 1 0 + k) (leads_same n m) (count_same n ms) ∙ sym (sum_by-cons (λ (x : NodeTree). cond (trees.node_leads n.0 x) 1 0) (node_of m) (map node_of ms)))

block_same : (p : Point) (ms : List (Node Untimed)) (k : ℕ) → is_block_at_end_of p (slice_get ms k) ≡ trees.is_block_at_end p (slice_get (map node_of ms) k)
block_same p [] k = refl
block_same p (node.Plain b ∷ ms) zero = refl
block_same p (node.Looped r ∷ ms) zero = refl
block_same p (m ∷ ms) (suc k) = block_same p ms k

left_same : (cfg : Cfg Untimed) (m : Node Untimed) → is_left_if cfg m ≡ trees.is_left_if cfg.first.0 (map node_of cfg.nodes.items) (node_of m)
left_same cfg (node.Plain b) = refl
left_same cfg (node.Looped r) = both_same (block_same r.point cfg.nodes.items r.next.0) (both_same refl (ap (λ k. k == 1) (count_same r.next cfg.nodes.items)))

-- ---- the whole

pub valid_same : (cfg : Cfg Untimed) → is_valid cfg ≡ trees.program_fits cfg.frame cfg.first.0 (map node_of cfg.nodes.items)
valid_same cfg =
    let nodes = map node_of cfg.nodes.items in
    let many : length cfg.nodes.items ≡ length nodes = sym (length-map cfg.nodes.items node_of) in
    both_same (both_same (both_same (ap (λ n. nat_lt n (2 ^ 32)) many) refl)
    (both_same (ap (λ n. nat_lt cfg.first.0 n) many)
    (all_mapped (is_valid_node cfg.frame (length cfg.nodes.items)) (trees.node_fits cfg.frame (length cfg.nodes.items)) node_of (λ (m : Node Untimed). node_same cfg.frame (length cfg.nodes.items) m) cfg.nodes.items
    ∙ ap (λ n. list_all (trees.node_fits cfg.frame n) nodes) many)))
    (all_mapped (is_left_if cfg) (trees.is_left_if cfg.first.0 nodes) node_of (λ (m : Node Untimed). left_same cfg m) cfg.nodes.items)
