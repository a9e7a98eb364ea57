-- What the nodes of a plan read, lead to and set, in the words of liveness.
use Rattle.std.proofs.Common.{◌≡◌, ℕ, zero, suc, Bool, true, false, ◌||◌, refl, ap, ◌∙◌, List, [], ◌∷◌, ◌++◌, map, flat_map, option_to_list, Some, None, inl, inr}
use Rattle.std.specs.Prelude.{◌==◌, slice_get}
use Rattle.hls_base.specs.declared.number.NodeId.{NodeId}
use Rattle.hls_base.specs.declared.number.VarId.{VarId}
use Rattle.ir_core.specs.declared.body.Body.{Body}
use Rattle.ir_core.specs.declared.body.Op.{Op}
use Rattle.ir_core.specs.declared.body.Operand.{Operand}
use Rattle.ir_core.specs.declared.body.Out.{Out}
use Rattle.ir_core.specs.declared.body.Source.TheVariants as source
use Rattle.ir_core.specs.declared.cfg.End.{End}
use Rattle.ir_core.specs.declared.cfg.End.TheVariants as end
use Rattle.ir_core.specs.declared.cfg.Node.{Node}
use Rattle.ir_core.specs.declared.cfg.Node.TheVariants as node
use Rattle.ir_core.specs.declared.timed.Timed.{Timed}
use Rattle.pass_runs.proofs.ConvertRuns.Opening.{same_number}
use Rattle.clock_runs.proofs.Lists.{no_some}
use Rattle.reg_binding.specs.Liveness.{is_among, operand_reads, op_reads, body_reads, out_reads, case_reads, end_reads, case_node, next_nodes, is_return, summary_of, is_set}
use Rattle.clock_ir.specs.Flows.{TimedOp, timed_op, timed_body}
use Rattle.clock_ir.specs.ClockRuns.{timed_node}
use Rattle.datapath.specs.Blocks.{EndReads}
use Rattle.datapath.specs.Savings as savings
use Rattle.datapath.specs.Savings.{NodeReads, EndReadsIn, EndLeads, LeadsTo, EndReturns, Returns, SetsNot, Passes}
use Rattle.compiled_plans.proofs.Lists.{among_left, among_right, among_flat, among_option, among_operand, mapped, at_map}

-- ---- operations and tests

abbrev pub body_in : Node Timed → Body Timed
body_in (node.Plain b) = b.body
body_in (node.Looped r) = r.body

module _ (v : VarId) (x : Operand) (is : x.value ≡ source.Variable v) where
  by_args : (op : Op Timed) (m : ℕ) → slice_get op.args.items m ≡ Some x → is_among v.0 (op_reads op) ≡ true
  by_args op m at = among_right v.0 (flat_map operand_reads (option_to_list op.guard)) (flat_map operand_reads op.args.items) (among_flat v.0 operand_reads op.args.items m x at (among_operand x v is))

  by_guard : (op : Op Timed) → op.guard ≡ Some x → is_among v.0 (op_reads op) ≡ true
  by_guard op at = among_left v.0 (flat_map operand_reads (option_to_list op.guard)) (flat_map operand_reads op.args.items) (among_option v.0 operand_reads op.guard x at (among_operand x v is))

  by_op : (b : Body Timed) (k : ℕ) (op : Op Timed) → slice_get b.ops.items k ≡ Some op → is_among v.0 (op_reads op) ≡ true → is_among v.0 (body_reads b) ≡ true
  by_op b k op at e = among_left v.0 (flat_map op_reads b.ops.items) (flat_map operand_reads (option_to_list b.test)) (among_flat v.0 op_reads b.ops.items k op at e)

  by_test : (b : Body Timed) → b.test ≡ Some x → is_among v.0 (body_reads b) ≡ true
  by_test b at = among_right v.0 (flat_map op_reads b.ops.items) (flat_map operand_reads (option_to_list b.test)) (among_option v.0 operand_reads b.test x at (among_operand x v is))

  by_end : (e : End) → EndReads e x → is_among v.0 (end_reads e) ≡ true
  by_end (end.Jump next) r = absurd r
  by_end (end.Branch test left right) r = ap (λ y. is_among v.0 (operand_reads y)) r ∙ among_operand x v is
  by_end (end.Choose cases other) r = among_flat v.0 case_reads cases.items r.0 (x, r.1) r.2 (among_operand x v is)
  by_end (end.Return None) r = absurd r
  by_end (end.Return (Some y)) r = among_left v.0 (operand_reads y) [] (ap (λ z. is_among v.0 (operand_reads z)) r ∙ among_operand x v is)

  op_in_body : (interval : ℕ) (b : Body Timed) (k : ℕ) (it : TimedOp) → slice_get (timed_body interval b).ops k ≡ Some it → (op : Op Timed) × ((slice_get b.ops.items k ≡ Some op) × (timed_op op ≡ it))
  op_in_body interval b k it e = mapped timed_op b.ops.items k it e

  arg_among : (interval : ℕ) (b : Body Timed) (k m : ℕ) (it : TimedOp) → slice_get (timed_body interval b).ops k ≡ Some it → slice_get it.op.args m ≡ Some x → is_among v.0 (body_reads b) ≡ true
  arg_among interval b k m it at arg =
      let o = op_in_body interval b k it at in by_op b k o.0 o.1.0 (by_args o.0 m (ap (λ (z : TimedOp). slice_get z.op.args m) o.1.1 ∙ arg))

  guard_among : (interval : ℕ) (b : Body Timed) (k : ℕ) (it : TimedOp) → slice_get (timed_body interval b).ops k ≡ Some it → it.op.guard ≡ Some x → is_among v.0 (body_reads b) ≡ true
  guard_among interval b k it at guard =
      let o = op_in_body interval b k it at in by_op b k o.0 o.1.0 (by_guard o.0 (ap (λ (z : TimedOp). z.op.guard) o.1.1 ∙ guard))

  -- what a node reads is among its reads
  pub reads_among : (nd : Node Timed) → NodeReads (timed_node nd) x → is_among v.0 (summary_of nd).reads ≡ true
  reads_among (node.Plain b) (savings.by_argument k m it y at arg) = among_left v.0 (body_reads b.body) (end_reads b.end) (arg_among b.length b.body k m it at arg)
  reads_among (node.Plain b) (savings.by_guard k it y at guard) = among_left v.0 (body_reads b.body) (end_reads b.end) (guard_among b.length b.body k it at guard)
  reads_among (node.Plain b) (savings.by_test y at) = among_left v.0 (body_reads b.body) (end_reads b.end) (by_test b.body at)
  reads_among (node.Plain b) (savings.by_exit y r) = among_right v.0 (body_reads b.body) (end_reads b.end) (by_end b.end r)
  reads_among (node.Looped r) (savings.by_argument k m it y at arg) = among_left v.0 (body_reads r.body) (flat_map out_reads r.body.outs.items) (arg_among r.ii r.body k m it at arg)
  reads_among (node.Looped r) (savings.by_guard k it y at guard) = among_left v.0 (body_reads r.body) (flat_map out_reads r.body.outs.items) (guard_among r.ii r.body k it at guard)
  reads_among (node.Looped r) (savings.by_test y at) = among_left v.0 (body_reads r.body) (flat_map out_reads r.body.outs.items) (by_test r.body at)
  reads_among (node.Looped r) (savings.by_exit y e) = absurd e

-- ---- where a node leads

pub record LeadsAt (nd : Node Timed) (j : ℕ) : Type 0 where
  pub place : ℕ
  pub next : NodeId
  pub stands : slice_get (summary_of nd).next place ≡ Some next
  pub is : next.0 ≡ j

end_leads : (e : End) (j : ℕ) → EndLeads e j → (k : ℕ) × ((next : NodeId) × ((slice_get (next_nodes e) k ≡ Some next) × (next.0 ≡ j)))
end_leads (end.Jump next) j e = (0, (next, (refl, e)))
end_leads (end.Branch test left right) j (inl e) = (0, (left, (refl, e)))
end_leads (end.Branch test left right) j (inr e) = (1, (right, (refl, e)))
end_leads (end.Choose cases other) j (inl e) = at_last (map case_node cases.items) where
  at_last : (xs : List NodeId) → (k : ℕ) × ((next : NodeId) × ((slice_get (xs ++ other ∷ []) k ≡ Some next) × (next.0 ≡ j)))
  at_last [] = (0, (other, (refl, e)))
  at_last (x ∷ xs) = (let r = at_last xs in (suc r.0, r.1))
end_leads (end.Choose cases other) j (inr e) = (e.0, (e.1.0.1, (left (map case_node cases.items) e.0 e.1.0.1 (at_map case_node cases.items e.0 e.1.0 e.1.1.0), e.1.1.1))) where
  left : (xs : List NodeId) (k : ℕ) (y : NodeId) → slice_get xs k ≡ Some y → slice_get (xs ++ other ∷ []) k ≡ Some y
  left [] k y q = absurd (no_some q)
  left (x ∷ xs) zero y q = q
  left (x ∷ xs) (suc k) y q = left xs k y q
end_leads (end.Return word) j e = absurd e

pub leads_at : (nd : Node Timed) (j : ℕ) → LeadsTo (timed_node nd) j → LeadsAt nd j
leads_at (node.Plain b) j e = (let r = end_leads b.end j e in record { place = r.0; next = r.1.0; stands = r.1.1.0; is = r.1.1.1 })
leads_at (node.Looped r) j e = record { place = 0; next = r.next; stands = refl; is = e }

end_returns : (e : End) → EndReturns e → is_return e ≡ true
end_returns (end.Return word) r = refl
end_returns (end.Jump next) r = absurd r
end_returns (end.Branch test left right) r = absurd r
end_returns (end.Choose cases other) r = absurd r

pub returns_so : (nd : Node Timed) → Returns (timed_node nd) → (summary_of nd).returns ≡ true
returns_so (node.Plain b) r = end_returns b.end r
returns_so (node.Looped l) r = absurd r

-- ---- what a node sets

sets_not : (outs : List Out) (v : ℕ) → SetsNot v outs → is_set outs v ≡ false
sets_not [] v h = refl
sets_not (x ∷ xs) v h = ap (λ c. c || is_set xs v) (other (x.variable.0 == v) refl) ∙ sets_not xs v h.1 where
  other : (c : Bool) → (x.variable.0 == v) ≡ c → (x.variable.0 == v) ≡ false
  other true e = absurd (h.0 (same_number x.variable.0 v e))
  other false e = e

pub passes_so : (nd : Node Timed) (v : ℕ) → Passes (timed_node nd) v → is_set (summary_of nd).outs v ≡ false
passes_so (node.Plain b) v h = sets_not b.body.outs.items v h
passes_so (node.Looped r) v h = refl
