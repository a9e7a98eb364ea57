-- What the code's lists contain.
use Rattle.std.specs.Prelude.{◌≡◌, ℕ, zero, suc, ◌<◌, ◌≤◌, Bool, true, false, ◌||◌, List, [], ◌∷◌, length, map, get_or, set}
use Rattle.std.specs.List.{list_any}
use Rattle.ir_core.specs.declared.body.Body.{Body}
use Rattle.ir_core.specs.declared.body.Operand.{Operand}
use Rattle.ir_core.specs.declared.body.Source.{Source}
use Rattle.ir_core.specs.declared.body.Source.TheVariants as source
use Rattle.ir_core.specs.declared.cfg.Node.{Node}
use Rattle.ir_core.specs.declared.cfg.Node.TheVariants as node
use Rattle.ir_core.specs.declared.stamp.Untimed.{Untimed}
use Rattle.ir_core.specs.Bodies.{op_of}
use Rattle.op_chain.specs.declared.bodies.Rebuilt.{Rebuilt}
use Rattle.op_chain.specs.declared.pairs.Scope as code
use Rattle.op_chain.specs.Reads.{is_result, is_variable, reads}
use Rattle.op_chain.specs.Pairs.{Scope}
use Rattle.op_chain.specs.Fusing.{Made}

-- ---- reads: none, one, or 2 for more

abbrev pub one_more : ℕ → ℕ
one_more zero = 1
one_more (suc count) = 2

abbrev pub capped : ℕ → ℕ
capped zero = 0
capped (suc count) = one_more count

abbrev pub counted_source : List ℕ → Source → List ℕ
counted_source counts (source.Result op) = set counts op.0 (one_more (get_or counts op.0 0))
counted_source counts s = counts

abbrev pub counted : List ℕ → List Operand → List ℕ
counted counts [] = counts
counted counts (x ∷ xs) = counted (counted_source counts x.value) xs

-- for each operation how often these operands read its result
abbrev pub ShowsReads : List ℕ → List Operand → Type 0
ShowsReads counts xs = (u : ℕ) → u < length counts → get_or counts u 0 ≡ capped (reads u xs)

-- ---- marks

abbrev pub marked_result : List Bool → Source → List Bool
marked_result marks (source.Result op) = set marks op.0 true
marked_result marks s = marks

abbrev pub marked_results : List Bool → List Operand → List Bool
marked_results marks [] = marks
marked_results marks (x ∷ xs) = marked_results (marked_result marks x.value) xs

abbrev pub marked_variable : List Bool → Source → List Bool
marked_variable marks (source.Variable variable) = set marks variable.0 true
marked_variable marks s = marks

abbrev pub marked_variables : List Bool → List Operand → List Bool
marked_variables marks [] = marks
marked_variables marks (x ∷ xs) = marked_variables (marked_variable marks x.value) xs

-- for each operation whether its result is among these operands
abbrev pub ShowsResults : List Bool → List Operand → Type 0
ShowsResults marks xs = (u : ℕ) → u < length marks → get_or marks u false ≡ list_any (is_result u) xs

-- for each variable whether it is among these operands, or was marked before
abbrev pub ShowsVariables : List Bool → (ℕ → Bool) → List Operand → Type 0
ShowsVariables marks before xs = (v : ℕ) → v < length marks → get_or marks v false ≡ (list_any (is_variable v) xs || before v)

-- ---- bodies

abbrev pub code_body : Node Untimed → Body Untimed
code_body (node.Plain block) = block.body
code_body (node.Looped region) = region.body

pub record ShowsScope (c : code.Scope) (scope : Scope) (count : ℕ) : Type 0 where
  pub period : c.period ≡ scope.period
  pub read_count : length c.reads.now ≡ count
  pub reads : ShowsReads c.reads.now scope.operands
  pub mark_count : length c.reaching.now ≡ count
  pub reaching : ShowsResults c.reaching.now scope.handed

-- no new number is greater than the old one
abbrev pub IsCompact : List ℕ → Type 0
IsCompact now = (k : ℕ) → k < length now → get_or now k 0 ≤ k

abbrev pub made_of : Rebuilt → Made
made_of rebuilt = record { ops = map op_of rebuilt.ops.items; now = rebuilt.now.items }
