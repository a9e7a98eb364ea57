-- The program after fusing. In each body pairs are chosen from the front. The first operation of a pair is dropped, and the second one becomes the fused operation.
pub mod Examples
use Rattle.std.specs.Prelude.{ℕ, zero, suc, ◌+◌, ◌==◌, Bool, true, false, List, [], ◌∷◌, ◌++◌, length, map, take, drop, get_or, slice_get, Option, Some, None, if◌then◌else◌}
use Rattle.std.specs.List.{list_any}
use Rattle.std.specs.Option.{option_map}
use Rattle.ir_core.specs.declared.body.OpKind.TheVariants as o
use Rattle.ir_core.specs.declared.body.Operand.{Operand}
use Rattle.ir_core.specs.declared.body.Out.{Out}
use Rattle.ir_core.specs.declared.body.Pairing.{Pairing}
use Rattle.ir_core.specs.declared.body.Simple.{Simple}
use Rattle.ir_core.specs.declared.body.Source.{Source}
use Rattle.ir_core.specs.declared.body.Source.TheVariants as source
use Rattle.ir_core.specs.Bodies.{OpTree}
use Rattle.ir_core.specs.Trees.{BodyTree}
use Rattle.ir_layout.specs.Nodes.{EndTree, jumps, branches, chooses, returns, NodeTree, plain, looped}
use Rattle.op_chain.specs.declared.choices.Taking.{Taking}
use Rattle.op_chain.specs.Subscripts.{reaching, body_in}
use Rattle.op_chain.specs.Pairs.{Scope, scope_of, simple_of, is_pair}

-- ---- choices: an operation takes in an earlier one, or none

abbrev pub paired : ℕ → Bool → Option Simple → Option Simple → Option Taking
paired u left (Some first) (Some second) = Some (record { op = u; pairing = record { first = first; second = second; left = left } })
paired u left (Some first) None = None
paired u left None second = None

-- Operation v takes in operation u if they are a fusable pair and u took in none.
abbrev pub taking : Scope → Bool → ℕ → Option OpTree → Option (Option Taking) → ℕ → OpTree → Option Taking
taking scope left u (Some one) (Some None) v two = if is_pair scope u one v two then paired u left (simple_of one.kind) (simple_of two.kind) else None
taking scope left u one choice v two = None

-- The operation after those of these choices takes in the operation that this argument names.
abbrev pub taking_by : Scope → List OpTree → List (Option Taking) → OpTree → Bool → Source → Option Taking
taking_by scope ops choices two left (source.Result op) = taking scope left op.0 (slice_get ops op.0) (slice_get choices op.0) (length choices) two
taking_by scope ops choices two left s = None

abbrev pub taking_through : Scope → List OpTree → List (Option Taking) → OpTree → Bool → Option Operand → Option Taking
taking_through scope ops choices two left None = None
taking_through scope ops choices two left (Some x) = taking_by scope ops choices two left x.value

abbrev pub or_else : Option Taking → Option Taking → Option Taking
or_else None y = y
or_else (Some x) y = Some x

-- through the first argument, else through the second one
abbrev pub choice : Scope → List OpTree → List (Option Taking) → OpTree → Option Taking
choice scope ops choices two =
    or_else (taking_through scope ops choices two true (slice_get two.args 0)) (taking_through scope ops choices two false (slice_get two.args 1))

-- the choices for these operations, after those already made
abbrev pub chosen : Scope → List OpTree → List (Option Taking) → List OpTree → List (Option Taking)
chosen scope ops choices [] = choices
chosen scope ops choices (op ∷ rest) = chosen scope ops (choices ++ choice scope ops choices op ∷ []) rest

-- ---- operands: `now` has the new number of each old operation

abbrev pub moved_source : List ℕ → Source → Source
moved_source now (source.Result op) = source.Result (record { 0 = get_or now op.0 op.0 })
moved_source now s = s

abbrev pub moved : List ℕ → Operand → Operand
moved now x = record x { value = moved_source now x.value }

-- ---- operations

abbrev pub takes : ℕ → Option Taking → Bool
takes u None = false
takes u (Some t) = t.op == u

-- some operation takes in operation u
abbrev pub is_taken : List (Option Taking) → ℕ → Bool
is_taken choices u = list_any (takes u) choices

abbrev pub args_of : Option OpTree → List Operand
args_of None = []
args_of (Some op) = op.args

-- the arguments of the first operation, and the other argument of the second
abbrev pub joined : Bool → List Operand → List Operand → List Operand
joined left first second = first ++ (if left then drop 1 second else take 1 second)

abbrev pub fused_op : List OpTree → List ℕ → OpTree → Taking → OpTree
fused_op ops now two t =
    record { kind = o.Fused t.pairing; signed = two.signed; bits = two.bits; args = map (moved now) (joined t.pairing.left (args_of (slice_get ops t.op)) two.args); array = None; guard = None; flag = None }

abbrev pub moved_op : List ℕ → OpTree → OpTree
moved_op now op = record op { args = map (moved now) op.args; guard = option_map (moved now) op.guard }

abbrev pub new_op : List OpTree → List ℕ → OpTree → Option (Option Taking) → OpTree
new_op ops now op (Some (Some t)) = fused_op ops now op t
new_op ops now op choice = moved_op now op

-- the new operation for the one after those that have these new numbers, or nothing
abbrev pub emitted : List OpTree → List (Option Taking) → List ℕ → OpTree → List OpTree
emitted ops choices now op = if is_taken choices (length now) then [] else new_op ops now op (slice_get choices (length now)) ∷ []

-- operations of the new body, and the new numbers of all old ones
pub record Made : Type 0 where
  pub ops : List OpTree
  pub now : List ℕ

abbrev pub in_front : List OpTree → Made → Made
in_front ops m = record m { ops = ops ++ m.ops }

-- after `count` operations of the new body
abbrev pub made : List OpTree → List (Option Taking) → ℕ → List ℕ → List OpTree → Made
made ops choices count now [] = record { ops = []; now = now }
made ops choices count now (op ∷ rest) =
    in_front (emitted ops choices now op) (made ops choices (count + length (emitted ops choices now op)) (now ++ count ∷ []) rest)

-- ---- bodies and nodes

abbrev pub made_by : List OpTree → List (Option Taking) → Made
made_by ops choices = made ops choices zero [] ops

abbrev pub made_in : Scope → BodyTree → Made
made_in scope b = made_by b.ops (chosen scope b.ops [] b.ops)

abbrev pub moved_out : List ℕ → Out → Out
moved_out now x = record x { value = moved now x.value }

abbrev pub body_with : BodyTree → Made → BodyTree
body_with b m = record { ops = m.ops; outs = map (moved_out m.now) b.outs; test = option_map (moved m.now) b.test }

abbrev pub moved_case : List ℕ → Operand × ℕ → Operand × ℕ
moved_case now c = (moved now c.0, c.1)

abbrev pub moved_end : List ℕ → EndTree → EndTree
moved_end now (jumps node) = jumps node
moved_end now (branches test yes_ no_) = branches (moved now test) yes_ no_
moved_end now (chooses cases other) = chooses (map (moved_case now) cases) other
moved_end now (returns value) = returns (option_map (moved now) value)

abbrev pub node_with : NodeTree → Made → NodeTree
node_with (plain point body end_) m = plain point (body_with body m) (moved_end m.now end_)
node_with (looped point body next) m = looped point (body_with body m) next

abbrev pub fused_node : ℕ → List Bool → NodeTree → NodeTree
fused_node period reaching node = node_with node (made_in (scope_of period reaching node) (body_in node))

-- ---- programs

-- The nodes of a program with this many variables, with pairs fused at this period. At period 0 nothing changes.
abbrev pub fused_nodes : ℕ → ℕ → List NodeTree → List NodeTree
fused_nodes zero variables nodes = nodes
fused_nodes (suc period) variables nodes = map (fused_node (suc period) (reaching variables nodes)) nodes
