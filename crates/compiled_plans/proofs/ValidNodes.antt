-- The nodes of valid programs are as plans ask.
use Rattle.std.proofs.Common.{◌≡◌, ◌∙◌, ℕ, zero, suc, ◌<◌, ◌≤◌, ◌^◌, sym, refl, ap, subst, Bool, true, false, ◌&&◌, List, [], ◌∷◌, length, map, take, arith}
use Rattle.std.specs.Prelude.{nat_lt, slice_get, Option, Some, None, is_none, if◌then◌else◌}
use Rattle.std.specs.Option.{option_map}
use Rattle.std.specs.List.{list_all}
use Rattle.std.proofs.lemmas.Bool.{false≢true, ltb-true, ltb-false}
use Rattle.std.proofs.lemmas.Option.{slice_get_within}
use Rattle.hls_base.specs.declared.number.ArrayId.{ArrayId}
use Rattle.hls_base.specs.declared.number.NodeId.{NodeId}
use Rattle.pieces.specs.Program.{ArrayTree}
use Rattle.ir_core.specs.declared.body.Body.{Body}
use Rattle.ir_core.specs.declared.body.Op.{Op}
use Rattle.ir_core.specs.declared.body.OpKind.{OpKind}
use Rattle.ir_core.specs.declared.body.OpKind.TheVariants as o
use Rattle.ir_core.specs.declared.body.Operand.{Operand}
use Rattle.ir_core.specs.declared.body.Out.{Out}
use Rattle.ir_core.specs.declared.body.Source.{Source}
use Rattle.ir_core.specs.declared.body.Source.TheVariants as source
use Rattle.ir_core.specs.declared.cfg.Cfg.{Cfg}
use Rattle.ir_core.specs.declared.cfg.End.{End}
use Rattle.ir_core.specs.declared.cfg.End.TheVariants as end
use Rattle.ir_core.specs.declared.cfg.Frame.{Frame}
use Rattle.ir_core.specs.declared.cfg.Memory.{Memory}
use Rattle.ir_core.specs.declared.cfg.Node.{Node}
use Rattle.ir_core.specs.declared.cfg.Node.TheVariants as node
use Rattle.ir_core.specs.declared.stamp.Untimed.{Untimed}
use Rattle.ir_core.specs.Bodies.{OpTree, op_of}
use Rattle.ir_core.specs.Timing.{result_bits}
use Rattle.ir_core.specs.Trees.{body_of}
use Rattle.ir_core.specs.Value.{count_of}
use Rattle.ir_layout.specs.Nodes.{case_of, end_of, node_of}
use Rattle.dep_graph.specs.Meetings.{is_store}
use Rattle.pass_runs.specs.ConvertRuns.Typed.{HasBits, OutIsTyped, OutsAreTyped}
use Rattle.pass_runs.specs.ConvertRuns.Blocks.{Once}
use Rattle.program_validity.specs.Widths.{is_width}
use Rattle.program_validity.specs.Operands.{width_of, has_bits, is_operand, is_operand_if}
use Rattle.program_validity.specs.Operations.{are_two, loads, memory_of, stores, accesses_in, is_operation}
use Rattle.program_validity.specs.Bodies.{are_operations, is_set, is_out, is_body, is_block_body, is_loop_body, is_result_out, name_different}
use Rattle.program_validity.specs.Programs.{body_in, carried_in, is_test, is_case, is_end, is_valid_node, is_consistent}
use Rattle.program_validity.proofs.Parts.{first_of_both, second_of_both, node_valid, frame_valid}
use Rattle.program_validity.proofs.EachOperation.{operation_valid, operation_between, width_between}
use Rattle.clock_runs.specs.Premises as premises
use Rattle.clock_runs.specs.Premises.{Each}
use Rattle.sound_trees.proofs.Sound.{mapped_at}
use Rattle.sound_trees.proofs.ValidPrograms.Operands.{NamesAs, Names, operand_names, exactly}
use Rattle.sound_trees.proofs.ValidPrograms.Operations.{guarded, acting, all_name}
use Rattle.sound_trees.proofs.ValidPrograms.Nodes.{taken, at_mapped, outs_apart}
use Rattle.sound_trees.proofs.ValidPrograms.Whole.{apart_once}
use Rattle.timed_pieces.proofs.FusedPrograms.Nodes.{same_variables, once_alike, nodes_alike, fused_alike}
use Rattle.circuit_agreement.specs.CircuitFlow.Compiled.{IsDivision}
use Rattle.datapath.specs.Plans.{Array, array_of}
use Rattle.compiled_plans.specs.Frames.{plan_array}
use Rattle.compiled_plans.specs.Operations as named
use Rattle.compiled_plans.specs.Operations.{DivisionsSuit, BodyDivides}
use Rattle.compiled_plans.specs.ValidNodes.{ValidNodesAreNamed, ValidNodesDivide, DividingNodesSetOnce, FusedNodesSetOnce}

-- ---- names

module _ {S : Type 0} (widths : List ℕ) (carried : List Out) (before : List (Op S)) (arrays : List ArrayTree) where
  named_as : (s : Source) (distance : ℕ) → NamesAs widths carried before s distance → named.IsNamedAs (length widths) arrays s
  named_as (source.Constant c) distance h = tt
  named_as (source.Variable v) distance h = slice_get_within widths v.0 h.0.0 h.0.1
  named_as (source.Result j) distance h = tt

  operand_named : (bits : ℕ) (x : Operand) → is_operand widths carried before bits x ≡ true → named.IsNamed (length widths) arrays x
  operand_named bits x h = named_as x.value x.distance (operand_names widths carried before bits x h)

  operand_if_named : (bits : ℕ) (x : Option Operand) → is_operand_if widths carried before bits x ≡ true → named.IsNamedIf (length widths) arrays x
  operand_if_named bits None h = tt
  operand_if_named bits (Some x) h = operand_named bits x h

  all_named : (xs : List Operand) → Each (Names widths carried before) xs → named.AllNamed (length widths) arrays xs
  all_named [] h = tt
  all_named (x ∷ xs) h = (named_as x.value x.distance h.0, all_named xs h.1)

-- ---- arrays

module _ (memories : List Memory) (arrays : List ArrayTree) (same : map array_of memories ≡ map plan_array arrays) where
  -- the array of a memory
  array_at : (a : ℕ) (m : Memory) → slice_get memories a ≡ Some m → (x : ArrayTree) × (slice_get arrays a ≡ Some x) × (plan_array x ≡ array_of m)
  array_at a m at = mapped_at plan_array arrays a (array_of m) (ap (λ (l : List Array). slice_get l a) (sym same) ∙ at_mapped array_of memories a m at)

  array_of_name : (name : Option ArrayId) (m : Memory) → memory_of memories name ≡ Some m → named.IsArrayOf arrays name
  array_of_name None m at = absurd cc
  array_of_name (Some a) m at = (let x = array_at a.0 m at in (a, (refl, (x.0, x.1))))

  no_table : (name : Option ArrayId) (m : Memory) → memory_of memories name ≡ Some m → m.table ≡ None → named.IsStoredOf arrays name
  no_table None m at none = absurd cc
  no_table (Some a) m at none = (let x = array_at a.0 m at in (a, (refl, (x.0, (x.1, ap (λ (y : Array). y.table) x.2 ∙ none)))))

none_of : {A : Type 0} (x : Option A) → is_none x ≡ true → x ≡ None
none_of None h = refl
none_of (Some x) h = absurd (false≢true h)

-- ---- operations

module _ {S : Type 0} (f : Frame) (arrays : List ArrayTree) (same : map array_of f.memories.items ≡ map plan_array arrays) (carried : List Out) (before : List (Op S)) (op : Op S) (valid : is_operation f carried before op ≡ true) where
  loaded : accesses_in f.variables.items carried before op (memory_of f.memories.items op.array) ≡ true → named.IsArrayOf arrays op.array
  loaded h = at (memory_of f.memories.items op.array) refl h where
    at : (m : Option Memory) → memory_of f.memories.items op.array ≡ m → accesses_in f.variables.items carried before op m ≡ true → named.IsArrayOf arrays op.array
    at None is h = absurd (false≢true h)
    at (Some m) is h = array_of_name f.memories.items arrays same op.array m is

  stored : op.kind ≡ o.Store → accesses_in f.variables.items carried before op (memory_of f.memories.items op.array) ≡ true → named.IsStoredOf arrays op.array
  stored kind h = at (memory_of f.memories.items op.array) refl h where
    at : (m : Option Memory) → memory_of f.memories.items op.array ≡ m → accesses_in f.variables.items carried before op m ≡ true → named.IsStoredOf arrays op.array
    at None is h = absurd (false≢true h)
    at (Some m) is h =
        let does : stores f.variables.items carried before op m ≡ true = ap (λ (k : OpKind). if is_store k then stores f.variables.items carried before op m else loads f.variables.items carried before op m) (sym kind) ∙ h in
        no_table f.memories.items arrays same op.array m is (none_of m.table (first_of_both (is_none m.table) _ (second_of_both _ _ (first_of_both _ _ does))))

  access_named : (kind : OpKind) → op.kind ≡ kind → named.Accesses (length f.variables.items) arrays kind op.array
  access_named o.Load is = loaded (acting f carried before op valid o.Load is)
  access_named o.Store is = stored is (acting f carried before op valid o.Store is)
  access_named kind is = tt

  op_named : named.OpNamed (length f.variables.items) arrays (op_of op)
  op_named = record {
    args = all_named f.variables.items carried before arrays op.args.items (all_name f carried before op valid);
    guard = operand_if_named f.variables.items carried before arrays 1 op.guard (guarded f carried before op valid);
    bits = (operation_between f carried before op valid).1;
    access = access_named op.kind refl;
  }

-- ---- bodies and nodes

module _ (f : Frame) (arrays : List ArrayTree) (same : map array_of f.memories.items ≡ map plan_array arrays) where
  abbrev count : ℕ
  count = length f.variables.items

  ops_named : (ops : List (Op Untimed)) → ((k : ℕ) (op : Op Untimed) → slice_get ops k ≡ Some op → named.OpNamed count arrays (op_of op)) → named.OpsNamed count arrays (map op_of ops)
  ops_named [] each = tt
  ops_named (op ∷ ops) each = (each zero op refl, ops_named ops (λ k x at. each (suc k) x at))

  out_named : (carried : List Out) (ops : List (Op Untimed)) (out : Out) (bits : Option ℕ) → slice_get f.variables.items out.variable.0 ≡ bits → is_set f carried ops out bits ≡ true → (out.variable.0 < count) × named.IsNamed count arrays out.value
  out_named carried ops out None at h = absurd (false≢true h)
  out_named carried ops out (Some bits) at h = (slice_get_within f.variables.items out.variable.0 bits at, operand_named f.variables.items carried ops arrays bits out.value h)

  outs_named : (carried : List Out) (ops : List (Op Untimed)) (outs : List Out) → list_all (is_out f carried ops) outs ≡ true → named.OutsNamed count arrays outs
  outs_named carried ops [] h = tt
  outs_named carried ops (x ∷ xs) h = (out_named carried ops x (slice_get f.variables.items x.variable.0) refl (first_of_both (is_out f carried ops x) _ h), outs_named carried ops xs (second_of_both (is_out f carried ops x) _ h))

  cases_named : (ops : List (Op Untimed)) (nodes : ℕ) (cases : List (Operand × NodeId)) → list_all (is_case f ops nodes) cases ≡ true → named.CasesNamed count arrays (map case_of cases)
  cases_named ops nodes [] h = tt
  cases_named ops nodes (c ∷ cs) h =
      (operand_named f.variables.items [] ops arrays 1 c.0 (first_of_both (is_test f ops c.0) _ (first_of_both (is_case f ops nodes c) _ h)), cases_named ops nodes cs (second_of_both (is_case f ops nodes c) _ h))

  end_named : (ops : List (Op Untimed)) (nodes : ℕ) (e : End) → is_end f ops nodes e ≡ true → named.EndNamed count arrays (end_of e)
  end_named ops nodes (end.Jump next) h = tt
  end_named ops nodes (end.Branch test left right) h = operand_named f.variables.items [] ops arrays 1 test (first_of_both (is_test f ops test) _ h)
  end_named ops nodes (end.Choose cases other) h = cases_named ops nodes cases.items (first_of_both (list_all (is_case f ops nodes) cases.items) _ h)
  end_named ops nodes (end.Return None) h = tt
  end_named ops nodes (end.Return (Some x)) h = operand_named f.variables.items [] ops arrays f.ret x (second_of_both (nat_lt 0 f.ret) _ h)

-- what a valid body of a node has
module _ (f : Frame) (nodes : ℕ) where
  outs_in : (carried : List Out) (b : Body Untimed) → is_body f carried b ≡ true → list_all (is_out f carried b.ops.items) b.outs.items ≡ true
  outs_in carried b h = second_of_both (are_operations f carried [] b.ops.items) _ (second_of_both (nat_lt (length b.ops.items) (2 ^ 32)) _ h)

  outs_valid : (n : Node Untimed) → is_valid_node f nodes n ≡ true → list_all (is_out f (carried_in n) (body_in n).ops.items) (body_in n).outs.items ≡ true
  outs_valid (node.Plain b) h = outs_in [] b.body (second_of_both (is_none b.body.test) _ (first_of_both (is_block_body f b.body) _ h))
  outs_valid (node.Looped r) h =
      let front = is_body f r.body.outs.items r.body && is_operand_if f.variables.items r.body.outs.items r.body.ops.items 1 r.body.test in
      outs_in r.body.outs.items r.body (first_of_both (is_body f r.body.outs.items r.body) _ (first_of_both front _ (first_of_both (is_loop_body f r.body) _ h)))

module _ (cfg : Cfg Untimed) (valid : is_consistent cfg ≡ true) (i : ℕ) where
  abbrev frame : Frame
  frame = cfg.frame

  module _ (arrays : List ArrayTree) (same : map array_of frame.memories.items ≡ map plan_array arrays) where
    all_ops : (n : Node Untimed) → slice_get cfg.nodes.items i ≡ Some n → named.OpsNamed (length frame.variables.items) arrays (map op_of (body_in n).ops.items)
    all_ops n at = ops_named frame arrays same (body_in n).ops.items (λ k op there. op_named frame arrays same (carried_in n) (take k (body_in n).ops.items) op (operation_valid cfg i k n op valid at there))

    all_outs : (n : Node Untimed) → slice_get cfg.nodes.items i ≡ Some n → named.OutsNamed (length frame.variables.items) arrays (body_in n).outs.items
    all_outs n at = outs_named frame arrays same (carried_in n) (body_in n).ops.items (body_in n).outs.items (outs_valid frame (length cfg.nodes.items) n (node_valid cfg i n valid at))

    node_named : (n : Node Untimed) → slice_get cfg.nodes.items i ≡ Some n → named.NodeNamed (length frame.variables.items) arrays (node_of n)
    node_named (node.Plain b) at =
        let h = node_valid cfg i (node.Plain b) valid at in (
          record {
            ops = all_ops (node.Plain b) at;
            outs = all_outs (node.Plain b) at;
            test = subst (named.IsNamedIf (length frame.variables.items) arrays) (sym (none_of b.body.test (first_of_both (is_none b.body.test) _ (first_of_both (is_block_body frame b.body) _ h)))) tt;
          },
          end_named frame arrays same b.body.ops.items (length cfg.nodes.items) b.end (second_of_both (is_block_body frame b.body) _ h),
        )
    node_named (node.Looped r) at =
        let h = node_valid cfg i (node.Looped r) valid at in
        let front = first_of_both _ _ (first_of_both (is_loop_body frame r.body) _ h) in
        record {
          ops = all_ops (node.Looped r) at;
          outs = all_outs (node.Looped r) at;
          test = operand_if_named frame.variables.items r.body.outs.items r.body.ops.items arrays 1 r.body.test (second_of_both (is_body frame r.body.outs.items r.body) _ front);
        }

pub valid_named : ValidNodesAreNamed
valid_named cfg arrays valid same i n at = node_named cfg (first_of_both (is_consistent cfg) _ valid) i arrays same n at

-- ---- widths

count_is : (bits : ℕ) → bits ≤ 64 → count_of bits ≡ 2 ^ bits
count_is bits small = by (nat_lt bits 64) refl where
  by : (c : Bool) → nat_lt bits 64 ≡ c → (if c then 2 ^ bits else 2 ^ 64) ≡ 2 ^ bits
  by true e = refl
  by false e = (let same : 64 ≡ bits = omega (arith, small, ltb-false bits 64 e) in ap (λ n. 2 ^ n) same)

module _ {S : Type 0} (widths words : List ℕ) (carried : List Out) (before : List (Op S)) (ops : List OpTree) (within : (j : ℕ) (op : Op S) → slice_get before j ≡ Some op → slice_get ops j ≡ Some (op_of op)) where
  abbrev Has : ℕ → Source → Type 0
  Has = HasBits widths words ops

  bits_typed : (bits : ℕ) → bits ≤ 64 → (s : Source) → has_bits widths before bits s ≡ true → Has bits s
  bits_typed bits small (source.Constant c) h = subst (λ n. c < n) (sym (count_is bits small)) (ltb-true c (2 ^ bits) h)
  bits_typed bits small (source.Variable v) h = exactly bits (slice_get widths v.0) h
  bits_typed bits small (source.Result j) h = by (slice_get before j.0) refl (exactly bits (width_of widths before (source.Result j)) h) where
    by : (found : Option (Op S)) → slice_get before j.0 ≡ found → option_map (λ (op : Op S). result_bits op.kind op.bits) found ≡ Some bits → Has bits (source.Result j)
    by None at e = absurd cc
    by (Some op) at e = (op_of op, within j.0 op at, cc)

  operand_typed : (bits : ℕ) → bits ≤ 64 → (x : Operand) → is_operand widths carried before bits x ≡ true → Has bits x.value
  operand_typed bits small x h = bits_typed bits small x.value (first_of_both (has_bits widths before bits x.value) _ h)

  two_typed : (bits : ℕ) → bits ≤ 64 → (xs : List Operand) → are_two widths carried before bits xs ≡ true → (n : ℕ) (x : Operand) → slice_get xs n ≡ Some x → Has bits x.value
  two_typed bits small [] h n x at = absurd (false≢true h)
  two_typed bits small (y ∷ []) h n x at = absurd (false≢true h)
  two_typed bits small (y ∷ z ∷ []) h zero x at = (let same : y ≡ x = cc in subst (λ (t : Operand). Has bits t.value) same (operand_typed bits small y (first_of_both (is_operand widths carried before bits y) _ h)))
  two_typed bits small (y ∷ z ∷ []) h (suc zero) x at = (let same : z ≡ x = cc in subst (λ (t : Operand). Has bits t.value) same (operand_typed bits small z (second_of_both (is_operand widths carried before bits y) _ h)))
  two_typed bits small (y ∷ z ∷ []) h (suc (suc n)) x at = absurd cc
  two_typed bits small (y ∷ z ∷ t ∷ ts) h n x at = absurd (false≢true h)

module _ (f : Frame) (carried : List Out) (before : List (Op Untimed)) (op : Op Untimed) (valid : is_operation f carried before op ≡ true) where
  division_two : (kind : OpKind) → op.kind ≡ kind → IsDivision kind → are_two f.variables.items carried before op.bits op.args.items ≡ true
  division_two o.Div is d = second_of_both (is_none op.array) _ (acting f carried before op valid o.Div is)
  division_two o.Rem is d = second_of_both (is_none op.array) _ (acting f carried before op valid o.Rem is)
  division_two kind is d = absurd d

module _ (f : Frame) (words : List ℕ) (widths_small : list_all is_width f.variables.items ≡ true) (carried : List Out) (ops : List (Op Untimed)) where
  width_at : (widths : List ℕ) (v bits : ℕ) → list_all is_width widths ≡ true → slice_get widths v ≡ Some bits → bits ≤ 64
  width_at [] v bits h at = absurd cc
  width_at (w ∷ widths) zero bits h at = (let same : w ≡ bits = cc in subst (λ n. n ≤ 64) same (width_between w (first_of_both (is_width w) _ h)).1)
  width_at (w ∷ widths) (suc v) bits h at = width_at widths v bits (second_of_both (is_width w) _ h) at

  out_typed : (out : Out) (bits : Option ℕ) → slice_get f.variables.items out.variable.0 ≡ bits → is_set f carried ops out bits ≡ true → OutIsTyped f.variables.items words (map op_of ops) out
  out_typed out None at h = absurd (false≢true h)
  out_typed out (Some bits) at h =
      (bits, at, operand_typed f.variables.items words carried ops (map op_of ops) (λ j op there. at_mapped op_of ops j op there) bits (width_at f.variables.items out.variable.0 bits widths_small at) out.value h)

  outs_typed : (outs : List Out) → list_all (is_out f carried ops) outs ≡ true → OutsAreTyped f.variables.items words (map op_of ops) outs
  outs_typed [] h = tt
  outs_typed (x ∷ xs) h = (out_typed x (slice_get f.variables.items x.variable.0) refl (first_of_both (is_out f carried ops x) _ h), outs_typed xs (second_of_both (is_out f carried ops x) _ h))

module _ (cfg : Cfg Untimed) (words : List ℕ) (valid : is_consistent cfg ≡ true) (i : ℕ) where
  divisions : (n : Node Untimed) → slice_get cfg.nodes.items i ≡ Some n → DivisionsSuit cfg.frame.variables.items words (map op_of (body_in n).ops.items)
  divisions n at k m t x there d arg =
      let ops = (body_in n).ops.items in
      let found = mapped_at op_of ops k t there in
      let good = operation_valid cfg i k n found.0 valid at found.1 in
      let small = (operation_between cfg.frame (carried_in n) (take k ops) found.0 good).1 in
      let two = division_two cfg.frame (carried_in n) (take k ops) found.0 good found.0.kind refl (subst (λ (y : OpTree). IsDivision y.kind) (sym found.2) d) in
      let arg_ = subst (λ (y : OpTree). slice_get y.args m ≡ Some x) (sym found.2) arg in
      subst (λ (y : OpTree). HasBits cfg.frame.variables.items words (map op_of ops) y.bits x.value) found.2
      (two_typed cfg.frame.variables.items words (carried_in n) (take k ops) (map op_of ops) (λ j op e. at_mapped op_of ops j op (taken k ops j op e)) found.0.bits small found.0.args.items two m x arg_)

  body_divides : (n : Node Untimed) → slice_get cfg.nodes.items i ≡ Some n → BodyDivides cfg.frame.variables.items words (body_of (body_in n))
  body_divides n at = record {
    divisions = divisions n at;
    outs = outs_typed cfg.frame words (first_of_both _ _ (first_of_both _ _ (second_of_both _ _ (frame_valid cfg valid)))) (carried_in n) (body_in n).ops.items (body_in n).outs.items (outs_valid cfg.frame (length cfg.nodes.items) n (node_valid cfg i n valid at));
  }

  loop_apart : (f : Frame) (b : Body Untimed) → is_loop_body f b ≡ true → Once b.outs.items → premises.AreApart b.outs.items
  loop_apart f b h once =
      let named_ = first_of_both (list_all is_result_out b.outs.items && name_different b.outs.items) _ (second_of_both _ _ h) in
      outs_apart b.outs.items (first_of_both (list_all is_result_out b.outs.items) _ named_) (second_of_both (list_all is_result_out b.outs.items) _ named_) once

  node_divides : (n : Node Untimed) → slice_get cfg.nodes.items i ≡ Some n → Once (body_in n).outs.items → named.NodeDivides cfg.frame.variables.items words (node_of n)
  node_divides (node.Plain b) at once = (body_divides (node.Plain b) at, once)
  node_divides (node.Looped r) at once = (body_divides (node.Looped r) at, loop_apart cfg.frame r.body (first_of_both (is_loop_body cfg.frame r.body) _ (node_valid cfg i (node.Looped r) valid at)) once)

pub valid_divide : ValidNodesDivide
valid_divide cfg words valid once i n at = node_divides cfg words (first_of_both (is_consistent cfg) _ valid) i n at (once i n at)

-- ---- the other way

node_once : (widths words : List ℕ) (n : Node Untimed) → named.NodeDivides widths words (node_of n) → Once (body_in n).outs.items
node_once widths words (node.Plain b) h = h.1
node_once widths words (node.Looped r) h = apart_once r.body.outs.items h.1

pub dividing_once : DividingNodesSetOnce
dividing_once cfg widths words divides i n at = node_once widths words n (divides i n at)

-- ---- fused pairs

pub fused_once : FusedNodesSetOnce
fused_once period old new fused once i n at =
    let was = nodes_alike old.nodes.items new.nodes.items (fused_alike period old new fused) i n at in
    once_alike (body_in was.other).outs.items (body_in n).outs.items (same_variables was.other n was.same) (once i was.other was.there)
