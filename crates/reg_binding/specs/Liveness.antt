-- Which variables of a flat program are live: on some way from there they are read before they are set.
use Rattle.std.specs.Prelude.{◌≡◌, ℕ, ◌+◌, ◌<◌, ◌==◌, ◌&&◌, ◌||◌, not, nat_lt, Bool, true, false, List, [], ◌∷◌, ◌++◌, map, length, slice_get, Some, option_to_list}
use Rattle.std.specs.List.{flat_map, list_any}
use Rattle.hls_base.specs.declared.number.NodeId.{NodeId}
use Rattle.hls_base.specs.declared.number.VarId.{VarId}
use Rattle.ir_core.specs.declared.body.Body.{Body}
use Rattle.ir_core.specs.declared.body.Op.{Op}
use Rattle.ir_core.specs.declared.body.Operand.{Operand}
use Rattle.ir_core.specs.declared.body.Out.{Out}
use Rattle.ir_core.specs.declared.body.Source.{Source}
use Rattle.ir_core.specs.declared.body.Source.TheVariants as source
use Rattle.ir_core.specs.declared.cfg.Cfg.{Cfg}
use Rattle.ir_core.specs.declared.cfg.End.{End}
use Rattle.ir_core.specs.declared.cfg.End.TheVariants as end
use Rattle.ir_core.specs.declared.cfg.Node.{Node}
use Rattle.ir_core.specs.declared.cfg.Node.TheVariants as node
use Rattle.reg_binding.specs.declared.live.Live.{Live}
use Rattle.reg_binding.specs.declared.var_set.VarSet.{VarSet}
use Rattle.reg_binding.specs.Sets.{has, has_in, free_bits}

-- ---- what of a program matters

abbrev pub read_by : Source → List VarId
read_by (source.Constant word) = []
read_by (source.Variable v) = v ∷ []
read_by (source.Result op) = []

abbrev pub operand_reads : Operand → List VarId
operand_reads x = read_by x.value

abbrev pub op_reads : {S : Type 0} → Op S → List VarId
op_reads op = flat_map operand_reads (option_to_list op.guard) ++ flat_map operand_reads op.args.items

-- what operations and the test of an iteration read
abbrev pub body_reads : {S : Type 0} → Body S → List VarId
body_reads body = flat_map op_reads body.ops.items ++ flat_map operand_reads (option_to_list body.test)

abbrev pub out_reads : Out → List VarId
out_reads out = operand_reads out.value

abbrev pub case_reads : Operand × NodeId → List VarId
case_reads c = operand_reads c.0

abbrev pub end_reads : End → List VarId
end_reads (end.Jump next) = []
end_reads (end.Branch test left right) = operand_reads test
end_reads (end.Choose cases other) = flat_map case_reads cases.items
end_reads (end.Return x) = flat_map operand_reads (option_to_list x)

abbrev pub case_node : Operand × NodeId → NodeId
case_node c = c.1

abbrev pub next_nodes : End → List NodeId
next_nodes (end.Jump next) = next ∷ []
next_nodes (end.Branch test left right) = left ∷ right ∷ []
next_nodes (end.Choose cases other) = map case_node cases.items ++ other ∷ []
next_nodes (end.Return x) = []

abbrev pub is_return : End → Bool
is_return (end.Jump next) = false
is_return (end.Branch test left right) = false
is_return (end.Choose cases other) = false
is_return (end.Return x) = true

-- what a node reads in any case, the variables that it sets and what goes into them, where it leads, and whether the run ends behind it
pub record Summary : Type 0 where
  pub reads : List VarId
  pub outs : List Out
  pub next : List NodeId
  pub returns : Bool

-- What goes into a variable of a loop may be read by a later iteration. A loop may end before it sets anything.
abbrev pub summary_of : {S : Type 0} → Node S → Summary
summary_of (node.Plain block) = record {
  reads = body_reads block.body ++ end_reads block.end;
  outs = block.body.outs.items;
  next = next_nodes block.end;
  returns = is_return block.end;
}
summary_of (node.Looped region) = record {
  reads = body_reads region.body ++ flat_map out_reads region.body.outs.items;
  outs = [];
  next = region.next ∷ [];
  returns = false;
}

-- the nodes of a program, the variables that stay for the next run, and how many variables there are
pub record Flow : Type 0 where
  pub summaries : List Summary
  pub kept : List VarId
  pub variables : ℕ

abbrev pub flow_of : {S : Type 0} → Cfg S → Flow
flow_of cfg = record {
  summaries = map summary_of cfg.nodes.items;
  kept = map (λ k. k.variable) cfg.frame.kept.items;
  variables = length cfg.frame.variables.items;
}

-- ---- liveness

abbrev pub is_among : ℕ → List VarId → Bool
is_among n variables = list_any (λ v. v.0 == n) variables

abbrev pub is_set : List Out → ℕ → Bool
is_set outs n = list_any (λ out. out.variable.0 == n) outs

mutual
  -- a variable is live as a node is entered
  pub data IsLive (flow : Flow) : Summary → ℕ → Type 0 where
    reads : {summary : Summary} {n : ℕ} → is_among n summary.reads ≡ true → IsLive flow summary n
    goes : {summary : Summary} {n : ℕ} (k : ℕ) (out : Out) → slice_get summary.outs k ≡ Some out → is_among n (out_reads out) ≡ true →
        out.variable.0 < flow.variables → IsLiveBehind flow summary out.variable.0 → IsLive flow summary n
    passes : {summary : Summary} {n : ℕ} → is_set summary.outs n ≡ false → IsLiveBehind flow summary n → IsLive flow summary n

  -- a variable is live behind a node
  pub data IsLiveBehind (flow : Flow) : Summary → ℕ → Type 0 where
    leads : {summary : Summary} {n : ℕ} (k : ℕ) (next : NodeId) (after : Summary) → slice_get summary.next k ≡ Some next → slice_get flow.summaries next.0 ≡ Some after →
        IsLive flow after n → IsLiveBehind flow summary n
    stays : {summary : Summary} {n : ℕ} → summary.returns ≡ true → is_among n flow.kept ≡ true → IsLiveBehind flow summary n

-- ---- one step

-- the variable goes into one that is live behind
abbrev pub goes_by : (ℕ → Bool) → ℕ → Out → Bool
goes_by behind n out = behind out.variable.0 && is_among n (out_reads out)

-- what is live as a node is entered, from what is live behind it
abbrev pub is_entered : Summary → (ℕ → Bool) → ℕ → Bool
is_entered summary behind n = ((behind n && not (is_set summary.outs n)) || list_any (goes_by behind n) summary.outs) || is_among n summary.reads

abbrev pub entered_at : Live → ℕ → ℕ → Bool
entered_at live i n = has_in (slice_get live.entered.items i) n

-- what is live behind a node, from what is live as the nodes are entered
abbrev pub is_behind : Live → Summary → ℕ → Bool
is_behind live summary n = nat_lt n live.variables && (list_any (λ next. entered_at live next.0 n) summary.next || (summary.returns && has live.kept n))

-- ---- what the answer is

abbrev pub IsSized : Live → Type 0
IsSized live = (live.kept.variables ≡ live.variables) × ((i : ℕ) (set : VarSet) → slice_get live.entered.items i ≡ Some set → set.variables ≡ live.variables)

-- each set has only variables that are live
pub record Holds (flow : Flow) (live : Live) : Type 0 where
  pub count : live.variables ≡ flow.variables
  pub sized : IsSized live
  pub long : length live.entered.items ≡ length flow.summaries
  pub kept : (n : ℕ) → n < flow.variables → has live.kept n ≡ is_among n flow.kept
  pub sound : (i n : ℕ) (summary : Summary) → slice_get flow.summaries i ≡ Some summary → entered_at live i n ≡ true → IsLive flow summary n

-- one step more finds nothing at this node
abbrev pub IsClosedAt : Flow → Live → ℕ → Type 0
IsClosedAt flow live i =
    (summary : Summary) (n : ℕ) → slice_get flow.summaries i ≡ Some summary → n < flow.variables → is_entered summary (is_behind live summary) n ≡ true → entered_at live i n ≡ true

-- how far the sets are from having all variables
abbrev pub free_in : List VarSet → ℕ
free_in [] = 0
free_in (set ∷ sets) = free_bits set.words.items + free_in sets

abbrev pub not_live : Live → ℕ
not_live live = free_in live.entered.items

-- the sets have the same members
pub record HasSame (live other : Live) : Type 0 where
  pub variables : live.variables ≡ other.variables
  pub entered : live.entered.items ≡ other.entered.items
  pub kept : live.kept ≡ other.kept

-- Behind each node exactly those variables are found that are live there.
pub record IsLiveness (flow : Flow) (live : Live) : Type 0 where
  pub count : live.variables ≡ flow.variables
  pub sized : IsSized live
  pub all : (summary : Summary) (n : ℕ) → n < flow.variables → IsLiveBehind flow summary n → is_behind live summary n ≡ true
  pub only : (summary : Summary) (n : ℕ) → is_behind live summary n ≡ true → IsLiveBehind flow summary n
