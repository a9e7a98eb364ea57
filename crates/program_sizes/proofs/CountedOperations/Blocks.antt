-- How many operations an open block gets, and how many variables it sets: no more than the pieces count that are added to it.
use Rattle.std.proofs.Common.{◌≤◌, ℕ, ◌+◌, Bool, true, false, arith, List, [], ◌∷◌, ◌++◌, length, length-append, Option, Some, None}
use Rattle.std.specs.Prelude.{◌==◌, nat_lt, is_some, if◌then◌else◌}
use Rattle.hls_base.specs.declared.place.Place.{Place}
use Rattle.hls_base.specs.declared.point.Point.{Point}
use Rattle.hls_base.specs.declared.number.ArrayId.{ArrayId}
use Rattle.hls_base.specs.declared.number.VarId.{VarId}
use Rattle.c_token.specs.declared.ctype.CType.{CType}
use Rattle.c_value.specs.Values.{width, promoted}
use Rattle.pieces.specs.declared.piece.Label.{Label}
use Rattle.pieces.specs.Trees as tree
use Rattle.pieces.specs.Trees.{PureTree, PureTrees, PieceTree, PieceTrees}
use Rattle.pieces.specs.Kind.{kind}
use Rattle.ir_core.specs.declared.body.OpKind.TheVariants as o
use Rattle.ir_core.specs.declared.body.Operand.{Operand}
use Rattle.ir_core.specs.declared.body.Out.{Out}
use Rattle.ir_core.specs.Bodies.{OpTree}
use Rattle.ir_core.specs.Trees.{BlockTree}
use Rattle.passes.specs.Lowering.Operations.{Emitted, added, constant, plain, flagged, entry_value}
use Rattle.passes.specs.Lowering.Outs.{operand_eq, held, without, own_out, with_out}
use Rattle.passes.specs.Lowering.Shapes.{first_point}
use Rattle.passes.specs.Lowering.Expressions.{emitted, emitted_all}
use Rattle.passes.specs.Lowering.Blocks.{Scope, variable_type, element_type, is_live, with_ops, given_as, value_as, set_to, set, put, condition, branching, ends_by_test, all_set, set_before, forking, ends_by_fork, case_or, cases, promoted_given, switched, ends_by_cases}
use Rattle.passes.specs.OperationCount.Expressions.{one_if, as_condition, as_assigned, as_operand, count, subscript_count}
use Rattle.passes.specs.OperationCount.Pieces.{compared, operations_of, sets_of}
use Rattle.program_sizes.proofs.CountedOperations.Conversions.{one_more, tested_counted, assigned_counted, balanced_counted}
use Rattle.program_sizes.proofs.CountedOperations.Expressions.{emitted_counts, emitted_all_counts}

-- A block has at most n operations more than before, and sets at most m variables more.
pub record Grows (before after : BlockTree) (n m : ℕ) : Type 0 where
  pub operations : length after.ops ≤ length before.ops + n
  pub settings : length after.outs ≤ length before.outs + m

pub stays : (b : BlockTree) → Grows b b 0 0
stays b = record { operations = omega arith; settings = omega arith }

-- what grows only where control comes to its end
pub where_live : (b c : BlockTree) (n m : ℕ) (live : Bool) → Grows b c n m → Grows b (if live then c else b) n m
where_live b c n m true h = h
where_live b c n m false h = record { operations = omega arith; settings = omega arith }

-- ---- settings

without_less : (outs : List Out) (v : VarId) → length (without outs v) ≤ length outs
without_less [] v = omega arith
without_less (x ∷ xs) v = by (x.variable.0 == v.0) (without_less xs v) where
  by : (same : Bool) → length (without xs v) ≤ length xs → length (if same then without xs v else x ∷ without xs v) ≤ length (x ∷ xs)
  by true h = omega (arith, h)
  by false h = omega (arith, h)

own_less : (v : VarId) (x : Operand) → length (own_out v x) ≤ 1
own_less v x = by (operand_eq x (entry_value v)) where
  by : (same : Bool) → length {A = Out} (if same then [] else record { variable = v; value = x } ∷ []) ≤ 1
  by true = omega arith
  by false = omega arith

with_out_adds : (outs : List Out) (v : VarId) (x : Operand) → length (with_out outs v x) ≤ length outs + 1
with_out_adds outs v x = by (operand_eq (held outs v) x) where
  by : (same : Bool) → length (if same then outs else without outs v ++ own_out v x) ≤ length outs + 1
  by true = omega arith
  by false =
      let one = without_less outs v in
      let two = own_less v x in
      let all = length-append (without outs v) (own_out v x) in
      omega (arith, one, two, all)

set_to_outs : (scope : Scope) (v : VarId) (b : BlockTree) (x : Emitted) → length (set_to scope v b x).outs ≤ length b.outs + 1
set_to_outs scope v b x = by (nat_lt v.0 (length scope.variables)) where
  by : (there : Bool) → length (if there then with_out b.outs v x.operand else b.outs) ≤ length b.outs + 1
  by true = with_out_adds b.outs v x.operand
  by false = omega arith

pub set_grows : (scope : Scope) (v : VarId) (t : PureTree) (b : BlockTree) → Grows b (set scope v t b) (count t + as_assigned t (variable_type scope v)) 1
set_grows scope v t b =
    let k = variable_type scope v in
    let x = emitted b.outs t b.ops [] in
    let h = emitted_counts b.outs t b.ops [] in
    let one = h.few in
    let two = assigned_counted t x.ops x.given k h.given in
    record { operations = omega (arith, one, two); settings = set_to_outs scope v b (value_as b t k) }

pub put_grows : (scope : Scope) (array : ArrayId) (ts : PureTrees) (t : PureTree) (at : Place) (b : BlockTree)
    → Grows b (put scope array ts t at b) (1 + subscript_count ts + count t + as_assigned t (element_type scope array)) 0
put_grows scope array ts t at b =
    let k = element_type scope array in
    let s = emitted_all b.outs ts b.ops [] in
    let x = emitted b.outs t s.ops s.guards in
    let y = given_as k x in
    let h = emitted_counts b.outs t s.ops s.guards in
    let one = emitted_all_counts b.outs ts b.ops [] in
    let two = h.few in
    let three = assigned_counted t x.ops x.given k h.given in
    let four = one_more y.ops (flagged o.Store false (width k) (s.operands ++ y.operand ∷ []) (Some array) at None) in
    record { operations = omega (arith, one, two, three, four); settings = omega arith }

-- ---- tests

condition_adds : (t : PureTree) (b : BlockTree) → length (condition t b).ops ≤ length b.ops + (count t + as_condition t)
condition_adds t b =
    let x = emitted b.outs t b.ops [] in
    let h = emitted_counts b.outs t b.ops [] in
    let one = h.few in
    let two = tested_counted t x.ops x.given h.given in
    omega (arith, one, two)

pub test_grows : (t : PureTree) (b : BlockTree) → Grows b (ends_by_test t b) (count t + as_condition t) 0
test_grows t b = where_live b (branching b (condition t b)) (count t + as_condition t) 0 (is_live b) (record { operations = condition_adds t b; settings = omega arith })

-- a piece that is no assignment
passed_over : (scope : Scope) (p : PieceTree) (rest : PieceTrees) (b c : BlockTree) → Grows b c (operations_of scope false rest) (sets_of rest) → Grows b c (operations_of scope false (tree.then_ p rest)) (sets_of (tree.then_ p rest))
passed_over scope p rest b c h = let one = h.operations in let two = h.settings in record { operations = omega (arith, one); settings = omega (arith, two) }

all_set_grows : (scope : Scope) (ps : PieceTrees) (b : BlockTree) → Grows b (all_set scope ps b) (operations_of scope false ps) (sets_of ps)
all_set_grows scope tree.no_pieces b = stays b
all_set_grows scope (tree.then_ (tree.set v t) rest) b =
    let one = set_grows scope v t b in
    let more = all_set_grows scope rest (set scope v t b) in
    let a = one.operations in
    let c = one.settings in
    let d = more.operations in
    let e = more.settings in
    record { operations = omega (arith, a, d); settings = omega (arith, c, e) }
all_set_grows scope (tree.then_ (tree.put array ts t at) rest) b = passed_over scope (tree.put array ts t at) rest b (all_set scope rest b) (all_set_grows scope rest b)
all_set_grows scope (tree.then_ (tree.fork test left_ right_ end) rest) b = passed_over scope (tree.fork test left_ right_ end) rest b (all_set scope rest b) (all_set_grows scope rest b)
all_set_grows scope (tree.then_ (tree.repeat_ id post before test body step end) rest) b = passed_over scope (tree.repeat_ id post before test body step end) rest b (all_set scope rest b) (all_set_grows scope rest b)
all_set_grows scope (tree.then_ (tree.pick test labels body end) rest) b = passed_over scope (tree.pick test labels body end) rest b (all_set scope rest b) (all_set_grows scope rest b)
all_set_grows scope (tree.then_ tree.break_ rest) b = passed_over scope tree.break_ rest b (all_set scope rest b) (all_set_grows scope rest b)
all_set_grows scope (tree.then_ tree.next_ rest) b = passed_over scope tree.next_ rest b (all_set scope rest b) (all_set_grows scope rest b)
all_set_grows scope (tree.then_ (tree.leave call) rest) b = passed_over scope (tree.leave call) rest b (all_set scope rest b) (all_set_grows scope rest b)
all_set_grows scope (tree.then_ (tree.land call end) rest) b = passed_over scope (tree.land call end) rest b (all_set scope rest b) (all_set_grows scope rest b)
all_set_grows scope (tree.then_ (tree.mark point) rest) b = passed_over scope (tree.mark point) rest b (all_set scope rest b) (all_set_grows scope rest b)

-- what is set before a fork, in place of a side that begins at no point
abbrev pub without_point : Option Point → ℕ → ℕ
without_point point n = if is_some point then 0 else n

set_before_grows : (scope : Scope) (ps : PieceTrees) (b : BlockTree) → Grows b (set_before scope ps b) (without_point (first_point ps) (operations_of scope false ps)) (without_point (first_point ps) (sets_of ps))
set_before_grows scope ps b = by (is_some (first_point ps)) where
  by : (there : Bool) → Grows b (if there then b else all_set scope ps b) (if there then 0 else operations_of scope false ps) (if there then 0 else sets_of ps)
  by true = stays b
  by false = all_set_grows scope ps b

pub fork_grows : (scope : Scope) (t : PureTree) (left_ right_ : PieceTrees) (b : BlockTree)
    → Grows b (ends_by_fork scope t left_ right_ b) (count t + as_condition t + without_point (first_point left_) (operations_of scope false left_) + without_point (first_point right_) (operations_of scope false right_))
    (without_point (first_point left_) (sets_of left_) + without_point (first_point right_) (sets_of right_))
fork_grows scope t left_ right_ b =
    let x = condition t b in
    let c = with_ops x.ops b in
    let one = condition_adds t b in
    let two = set_before_grows scope left_ c in
    let three = set_before_grows scope right_ (set_before scope left_ c) in
    let d = two.operations in
    let e = two.settings in
    let f = three.operations in
    let g = three.settings in
    where_live b (forking scope left_ right_ b x) _ _ (is_live b) (record { operations = omega (arith, one, d, f); settings = omega (arith, e, g) })

cases_add : (k : CType) (x : Operand) (labels : List Label) (ops : List OpTree) → length (cases k x labels ops).ops ≤ length ops + compared labels
cases_add k x [] ops = omega arith
cases_add k x (l ∷ ls) ops = by l.value (λ ops1. cases_add k x ls ops1) where
  by : (word : Option ℕ) → ((ops1 : List OpTree) → length (cases k x ls ops1).ops ≤ length ops1 + compared ls)
      → length (case_or k x ops word (λ ops1. cases k x ls ops1)).ops ≤ length ops + (one_if (is_some word) + compared ls)
  by None rest = let h = rest ops in omega (arith, h)
  by (Some word) rest =
      let op = plain o.Eq (width k) (x ∷ constant word ∷ []) in
      let one = one_more ops op in
      let h = rest (added ops op).ops in
      omega (arith, one, h)

pub cases_grows : (t : PureTree) (labels : List Label) (b : BlockTree) → Grows b (ends_by_cases t labels b) (count t + as_operand t (promoted (kind t)) + compared labels) 0
cases_grows t labels b =
    let k = promoted (kind t) in
    let x = emitted b.outs t b.ops [] in
    let y = promoted_given k x in
    let h = emitted_counts b.outs t b.ops [] in
    let one = h.few in
    let two = balanced_counted t x.ops x.given k h.given in
    let three = cases_add k y.operand labels y.ops in
    where_live b (switched k labels b y) _ _ (is_live b) (record { operations = omega (arith, one, two, three); settings = omega arith })
