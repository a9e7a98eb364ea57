-- Nodes of a program as they stand in its plan.
use Rattle.std.proofs.Common.{◌≡◌, ℕ, List, [], length, map, get_or, slice_get, Option, Some, None, sym, ap, ◌∙◌}
use Rattle.std.proofs.Common.{Vec, Global, ◌<◌, ◌-◌}
use Rattle.std.specs.Prelude.{filter, IfSome}
use Rattle.std.proofs.lemmas.List.{length-map}
use Rattle.std.proofs.lemmas.Option.{same_Some}
use Rattle.hls_base.specs.declared.number.NodeId.{NodeId}
use Rattle.ir_core.specs.declared.body.Body.{Body}
use Rattle.ir_core.specs.declared.body.Operand.{Operand}
use Rattle.ir_core.specs.declared.body.Out.{Out}
use Rattle.reg_binding.specs.declared.var_set.VarSet.{VarSet}
use Rattle.reg_binding.specs.Sets.{has}
use Rattle.rtl_core.specs.Netlist.{Netlist}
use Rattle.datapath.specs.Reading.{operand}
use Rattle.datapath.specs.CircuitWires.Carrying.{Carries}
use Rattle.circuit_context.specs.Wanted.Entries.{out_entry, out_entries}
use Rattle.circuit_context.specs.declared.context.Reading.{Reading}
use Rattle.fsm_datapath.proofs.Listing.{filter_same}
use Rattle.fsm_datapath.proofs.Pushing.{carried_as}
use Rattle.std.proofs.lemmas.List.{get_or-map}
use Rattle.rtl_core.specs.declared.design.Atom.{Atom}
use Rattle.circuit_units.specs.declared.demands.demands.Computed.{Computed}
use Rattle.circuit_units.specs.Demands.Computed.{wire_at}
use Rattle.std.specs.Option.{option_map}
use Rattle.std.proofs.lemmas.Option.{slice_get-map, get_or_from_slice_get}
use Rattle.ir_core.specs.declared.body.Op.{Op}
use Rattle.ir_core.specs.declared.cfg.Node.{Node}
use Rattle.ir_core.specs.declared.timed.Timed.{Timed}
use Rattle.clock_ir.specs.Flows.{TimedOp, TimedBody, timed_op, timed_body}
use Rattle.clock_ir.specs.ClockRuns.{TimedNode, timed_node}
use Rattle.datapath.specs.Plans.{Plan, span, body_of, body_if, body_at, node_units}
use Rattle.datapath.specs.Cycles.{Register, Cycle}
use Rattle.circuit_context.specs.declared.context.Context.{Context}
use Rattle.circuit_context.specs.Contexts.{IsContext}

pub some_weaker : {A : Type 0} (o : Option A) (P Q : A → Type 0) → ((a : A) → P a → Q a) → IfSome o P → IfSome o Q
some_weaker None P Q f h = tt
some_weaker (Some a) P Q f h = f a h

-- a node of the program is one of the plan
pub node_stands : (p : Plan) (names : List Register) (of : Context) (i : ℕ) (node : Node Timed) → IsContext p names of → slice_get of.cfg.now.nodes.items i ≡ Some node
    → slice_get p.program.nodes i ≡ Some (timed_node node)
node_stands p names of i node h at =
    ap (λ (q : Plan). slice_get q.program.nodes i) h.plan ∙ (slice_get-map timed_node of.cfg.now.nodes.items i ∙ ap (option_map timed_node) at)

pub body_stands : (p : Plan) (i : ℕ) (n : TimedNode) → slice_get p.program.nodes i ≡ Some n → body_at p i ≡ body_of n
body_stands p i n at = ap body_if at

-- its operations are those of the plan
pub op_stands : (p : Plan) (i k : ℕ) (n : TimedNode) (ops : List (Op Timed)) (op : Op Timed) → slice_get p.program.nodes i ≡ Some n → map timed_op ops ≡ (body_of n).ops → slice_get ops k ≡ Some op
    → slice_get (body_at p i).ops k ≡ Some (timed_op op)
op_stands p i k n ops op stands are at =
    ap (λ (b : TimedBody). slice_get b.ops k) (body_stands p i n stands) ∙ (ap (λ (os : List TimedOp). slice_get os k) (sym are) ∙ (slice_get-map timed_op ops k ∙ ap (option_map timed_op) at))

-- and so are their units
pub unit_stands : (p : Plan) (names : List Register) (of : Context) (i k : ℕ) (node : Node Timed) (ops : List (Op Timed)) (op : Op Timed) → IsContext p names of → slice_get of.cfg.now.nodes.items i ≡ Some node
    → map (λ (o : Op Timed). o.stamp.bound) ops ≡ node_units node → slice_get ops k ≡ Some op → get_or (get_or p.units i []) k 0 ≡ op.stamp.bound
unit_stands p names of i k node ops op h at are stands =
    let row : get_or p.units i [] ≡ node_units node =
    get_or_from_slice_get p.units i (node_units node) [] (ap (λ (q : Plan). slice_get q.units i) h.plan ∙ (slice_get-map node_units of.cfg.now.nodes.items i ∙ ap (option_map node_units) at)) in
    ap (λ (us : List ℕ). get_or us k 0) (row ∙ sym are)
    ∙ get_or_from_slice_get (map (λ (o : Op Timed). o.stamp.bound) ops) k op.stamp.bound 0 (slice_get-map (λ (o : Op Timed). o.stamp.bound) ops k ∙ ap (option_map (λ (o : Op Timed). o.stamp.bound)) stands)

-- the wire of an operation
pub wire_stands : (computed : Computed) (i k : ℕ) (a : Atom) (row : Vec (Option Atom) Global) (items : List (Option Atom)) → i < length computed.wires.items → row ≡ get_or computed.wires.items i row
    → items ≡ row.items → slice_get items k ≡ Some (Some a) → wire_at computed i k ≡ Some a
wire_stands computed i k a row items low is are at =
    let one : get_or (map (λ (r : Vec (Option Atom) Global). r.items) computed.wires.items) i [] ≡ items =
    get_or-map (λ (r : Vec (Option Atom) Global). r.items) computed.wires.items i row [] low ∙ (ap (λ (r : Vec (Option Atom) Global). r.items) (sym is) ∙ sym are) in
    ap (λ (xs : List (Option Atom)). get_or xs k None) one ∙ get_or_from_slice_get items k (Some a) None at

-- what an operand has in the last cycle of a block
pub read_at : (p : Plan) (names : List Register) (d : Netlist) (bits : ℕ) (a : Atom) (at : Reading) (node : NodeId) (v : Operand) (value : Cycle → ℕ) → at.node ≡ node → at.time ≡ span p node.0 - 1
    → ((x : Cycle) → operand p x node.0 (span p node.0 - 1) v ≡ value x) → Carries p names d bits a (λ (x : Cycle). operand p x at.node.0 at.time v) → Carries p names d bits a value
read_at p names d bits a at node v value one time same h =
    carried_as p names d bits a (λ (x : Cycle). operand p x at.node.0 at.time v) value
    (λ x. ap (λ (i : NodeId). operand p x i.0 at.time v) one ∙ (ap (λ t. operand p x node.0 t v) time ∙ same x)) h

-- the variables that are live behind a node, and their values
pub outs_stand : (p : Plan) (i : ℕ) (n : TimedNode) (interval : ℕ) (body : Body Timed) (live outs : List Out) (behind : VarSet) → timed_body interval body ≡ body_of n → outs ≡ body.outs.items
    → ((v : ℕ) → has behind v ≡ p.savings.behind i v) → live ≡ filter (λ (x : Out). has behind x.variable.0) outs → map (out_entry p (i, n)) live ≡ out_entries p (i, n)
outs_stand p i n interval body live outs behind same are member is =
    ap (map (out_entry p (i, n)))
    (is ∙ (filter_same (λ (x : Out). has behind x.variable.0) (λ (x : Out). p.savings.behind i x.variable.0) outs (λ x. member x.variable.0)
    ∙ ap (filter (λ (x : Out). p.savings.behind i x.variable.0)) (are ∙ ap (λ (b : TimedBody). b.outs) same)))

-- the node of the plan with a number is that of the program
pub same_node : (p : Plan) (i : ℕ) (n m : TimedNode) → slice_get p.program.nodes i ≡ Some n → slice_get p.program.nodes i ≡ Some m → n ≡ m
same_node p i n m one other = same_Some n m (sym one ∙ other)

pub node_count : (p : Plan) (names : List Register) (of : Context) → IsContext p names of → length p.program.nodes ≡ length of.cfg.now.nodes.items
node_count p names of h = ap (λ (q : Plan). length q.program.nodes) h.plan ∙ length-map of.cfg.now.nodes.items timed_node

pub outs_at : (p : Plan) (i : ℕ) (n : TimedNode) (interval : ℕ) (body : Body Timed) (outs : List Out) → slice_get p.program.nodes i ≡ Some n → timed_body interval body ≡ body_of n → outs ≡ body.outs.items
    → (body_at p i).outs ≡ outs
outs_at p i n interval body outs stands same are = ap (λ (b : TimedBody). b.outs) (body_stands p i n stands ∙ sym same) ∙ sym are
