-- Blocks that are open: what pieces add to them, and how they end.
use Rattle.std.specs.Prelude.{◌==◌, nat_lt, is_some}
use Rattle.std.proofs.Common.{◌≤◌, ℕ, Bool, true, false, refl, arith, List, [], ◌∷◌, ◌++◌, length, Option, Some, None, if◌then◌else◌}
use Rattle.hls_base.specs.declared.place.Place.{Place}
use Rattle.hls_base.specs.declared.number.ArrayId.{ArrayId}
use Rattle.hls_base.specs.declared.number.VarId.{VarId}
use Rattle.c_token.specs.declared.ctype.CType.{CType}
use Rattle.c_value.specs.Values.{width, promoted}
use Rattle.pieces.specs.declared.piece.Label.{Label}
use Rattle.pieces.specs.Trees as tree
use Rattle.pieces.specs.Trees.{PureTree, PureTrees, PieceTrees}
use Rattle.pieces.specs.Kind.{kind}
use Rattle.ir_core.specs.declared.body.OpKind.TheVariants as o
use Rattle.ir_core.specs.declared.body.Operand.{Operand}
use Rattle.ir_core.specs.declared.body.Out.{Out}
use Rattle.ir_core.specs.Bodies.{OpTree}
use Rattle.ir_core.specs.Trees.{ExitTree, next, branch, choose, break_, continue_, leave, BlockTree}
use Rattle.passes.specs.Lowering.Operations.{added, constant, plain, flagged, assigned, balanced}
use Rattle.passes.specs.Lowering.Outs.{operand_eq, held, without, own_out, with_out}
use Rattle.passes.specs.Lowering.Shapes.{first_point}
use Rattle.passes.specs.Lowering.Expressions.{emitted, emitted_all}
use Rattle.passes.specs.Lowering.Blocks as lower
use Rattle.passes.specs.Lowering.Blocks.{Scope, variable_type, element_type, is_live, with_exit, with_ops, value_as, set, put, stored_behind, condition, ends_by_test, all_set, set_before, forking, ends_by_fork, Cases, case_or, cases, ends_by_cases}
use Rattle.passes.specs.NumberRuns.Ordered.{IsEarly, AreEarly, OpsAreOrdered, OutsAreEarly, ExitIsEarly, BlockIsOrdered}
use Rattle.pass_runs.proofs.LowerRuns.LoweredTrees.Adding.{early_more, all_early_more, Fine, added_fine, fine_on, tested_fine, assigned_fine, balanced_fine}
use Rattle.pass_runs.proofs.LowerRuns.LoweredTrees.Expressions.{outs_more, emitted_fine, emitted_all_fine}

pub exit_more : (m k : ℕ) → m ≤ k → (e : ExitTree) → ExitIsEarly m e → ExitIsEarly k e
exit_more m k le next h = tt
exit_more m k le (branch x) h = early_more m k le x.value h
exit_more m k le (choose xs) h = all_early_more m k le xs h
exit_more m k le break_ h = tt
exit_more m k le continue_ h = tt
exit_more m k le (leave n) h = tt

-- ---- outs

without_early : (n : ℕ) (outs : List Out) (v : VarId) → OutsAreEarly n outs → OutsAreEarly n (without outs v)
without_early n [] v h = tt
without_early n (x ∷ xs) v h = either (x.variable.0 == v.0) (without_early n xs v h.1) where
  either : (c : Bool) → OutsAreEarly n (without xs v) → OutsAreEarly n (if c then without xs v else x ∷ without xs v)
  either true rest = rest
  either false rest = (h.0, rest)

pub append_early : (n : ℕ) (xs ys : List Out) → OutsAreEarly n xs → OutsAreEarly n ys → OutsAreEarly n (xs ++ ys)
append_early n [] ys h g = g
append_early n (x ∷ xs) ys h g = (h.0, append_early n xs ys h.1 g)

own_early : (n : ℕ) (v : VarId) (x : Operand) → IsEarly n x.value → OutsAreEarly n (own_out v x)
own_early n v x h = either (operand_eq x (entry_of v)) where
  entry_of : VarId → Operand
  entry_of v = held [] v

  either : (c : Bool) → OutsAreEarly n (if c then [] else record { variable = v; value = x } ∷ [])
  either true = tt
  either false = (h, tt)

with_out_early : (n : ℕ) (outs : List Out) (v : VarId) (x : Operand) → OutsAreEarly n outs → IsEarly n x.value → OutsAreEarly n (with_out outs v x)
with_out_early n outs v x h g = either (operand_eq (held outs v) x) where
  either : (c : Bool) → OutsAreEarly n (if c then outs else without outs v ++ own_out v x)
  either true = h
  either false = append_early n (without outs v) (own_out v x) (without_early n outs v h) (own_early n v x g)

-- ---- pieces

value_fine : (b : BlockTree) (x : PureTree) (k : CType) → BlockIsOrdered b → Fine (length b.ops) (value_as b x k)
value_fine b x k h =
    let e = emitted b.outs x b.ops [] in
    let f = emitted_fine b.outs x b.ops [] h.outs h.ops tt in
    fine_on (length b.ops) (length e.ops) (value_as b x k) f.more (assigned_fine e.ops e.given k f.ordered f.given)

pub set_ordered : (scope : Scope) (v : VarId) (x : PureTree) (b : BlockTree) → BlockIsOrdered b → BlockIsOrdered (set scope v x b)
set_ordered scope v x b h =
    let y = value_as b x (variable_type scope v) in
    let f = value_fine b x (variable_type scope v) h in
    let old = outs_more (length b.ops) (length y.ops) f.more b.outs h.outs in record {
      ops = f.ordered;
      outs = either (nat_lt v.0 (length scope.variables)) (length y.ops) b.outs y.operand old (with_out_early (length y.ops) b.outs v y.operand old f.early);
      exit = exit_more (length b.ops) (length y.ops) f.more b.exit h.exit;
    } where
      either : (c : Bool) (n : ℕ) (outs : List Out) (y : Operand) → OutsAreEarly n outs → OutsAreEarly n (with_out outs v y) → OutsAreEarly n (if c then with_out outs v y else outs)
      either true n outs y a b = b
      either false n outs y a b = a

ops_ordered : (ops : List OpTree) (b : BlockTree) → BlockIsOrdered b → OpsAreOrdered 0 ops → length b.ops ≤ length ops → BlockIsOrdered (with_ops ops b)
ops_ordered ops b h g le = record { ops = g; outs = outs_more (length b.ops) (length ops) le b.outs h.outs; exit = exit_more (length b.ops) (length ops) le b.exit h.exit }

args_append : (n : ℕ) (xs ys : List Operand) → AreEarly n xs → AreEarly n ys → AreEarly n (xs ++ ys)
args_append n [] ys h g = g
args_append n (x ∷ xs) ys h g = (h.0, args_append n xs ys h.1 g)

pub put_ordered : (scope : Scope) (a : ArrayId) (subs : PureTrees) (x : PureTree) (at : Place) (b : BlockTree) → BlockIsOrdered b → BlockIsOrdered (put scope a subs x at b)
put_ordered scope a subs x at b h =
    let k = element_type scope a in
    let s = emitted_all b.outs subs b.ops [] in
    let fs = emitted_all_fine b.outs subs b.ops [] h.outs h.ops tt in
    let e = emitted b.outs x s.ops s.guards in
    let fe = emitted_fine b.outs x s.ops s.guards (outs_more (length b.ops) (length s.ops) fs.more b.outs h.outs) fs.ordered fs.guards in
    let y = assigned e.ops e.given k in
    let fy = assigned_fine e.ops e.given k fe.ordered fe.given in
    let m1 = fs.more in
    let m2 = fe.more in
    let m3 = fy.more in
    let le : length s.ops ≤ length y.ops = omega (arith, m2, m3) in
    let op = flagged o.Store false (width k) (s.operands ++ y.operand ∷ []) (Some a) at None in
    let f = added_fine y.ops op fy.ordered
    (record { args = args_append (length y.ops) s.operands (y.operand ∷ []) (all_early_more (length s.ops) (length y.ops) le s.operands fs.operands) (fy.early, tt); guard = tt; flag = refl; operands = tt }) in
    let m4 = f.more in
    ops_ordered (added y.ops op).ops b h f.ordered (omega (arith, m1, le, m4))

-- ---- ends

pub exit_ordered : (e : ExitTree) (b : BlockTree) → BlockIsOrdered b → ExitIsEarly (length b.ops) e → BlockIsOrdered (with_exit e b)
exit_ordered e b h g = either (is_live b) where
  either : (c : Bool) → BlockIsOrdered (if c then record b { exit = e } else b)
  either true = record { ops = h.ops; outs = h.outs; exit = g }
  either false = h

test_fine : (x : PureTree) (b : BlockTree) → BlockIsOrdered b → Fine (length b.ops) (condition x b)
test_fine x b h =
    let e = emitted b.outs x b.ops [] in
    let f = emitted_fine b.outs x b.ops [] h.outs h.ops tt in
    fine_on (length b.ops) (length e.ops) (condition x b) f.more (tested_fine e.ops e.given f.ordered f.given)

pub test_ordered : (x : PureTree) (b : BlockTree) → BlockIsOrdered b → BlockIsOrdered (ends_by_test x b)
test_ordered x b h = either (is_live b) where
  either : (c : Bool) → BlockIsOrdered (if c then lower.branching b (condition x b) else b)
  either true = let f = test_fine x b h in record { ops = f.ordered; outs = outs_more (length b.ops) (length (condition x b).ops) f.more b.outs h.outs; exit = f.early }
  either false = h

-- what is set behind n operations
record Grown (n : ℕ) (b : BlockTree) : Type 0 where
  ordered : BlockIsOrdered b
  more : n ≤ length b.ops

set_grown : (scope : Scope) (v : VarId) (x : PureTree) (n : ℕ) (b : BlockTree) → Grown n b → Grown n (set scope v x b)
set_grown scope v x n b g =
    let m = g.more in
    let f = (value_fine b x (variable_type scope v) g.ordered).more in record { ordered = set_ordered scope v x b g.ordered; more = omega (arith, m, f) }

all_grown : (scope : Scope) (pieces : PieceTrees) (n : ℕ) (b : BlockTree) → Grown n b → Grown n (all_set scope pieces b)
all_grown scope tree.no_pieces n b g = g
all_grown scope (tree.then_ (tree.set v x) rest) n b g = all_grown scope rest n (set scope v x b) (set_grown scope v x n b g)
all_grown scope (tree.then_ (tree.put a s x at) rest) n b g = all_grown scope rest n b g
all_grown scope (tree.then_ (tree.fork t l r e) rest) n b g = all_grown scope rest n b g
all_grown scope (tree.then_ (tree.repeat_ i p f t y s e) rest) n b g = all_grown scope rest n b g
all_grown scope (tree.then_ (tree.pick t l y e) rest) n b g = all_grown scope rest n b g
all_grown scope (tree.then_ tree.break_ rest) n b g = all_grown scope rest n b g
all_grown scope (tree.then_ tree.next_ rest) n b g = all_grown scope rest n b g
all_grown scope (tree.then_ (tree.leave c) rest) n b g = all_grown scope rest n b g
all_grown scope (tree.then_ (tree.land c e) rest) n b g = all_grown scope rest n b g
all_grown scope (tree.then_ (tree.mark p) rest) n b g = all_grown scope rest n b g

before_grown : (scope : Scope) (pieces : PieceTrees) (n : ℕ) (b : BlockTree) → Grown n b → Grown n (set_before scope pieces b)
before_grown scope pieces n b g = either (is_some (first_point pieces)) where
  either : (c : Bool) → Grown n (if c then b else all_set scope pieces b)
  either true = g
  either false = all_grown scope pieces n b g

pub fork_ordered : (scope : Scope) (x : PureTree) (left right : PieceTrees) (b : BlockTree) → BlockIsOrdered b → BlockIsOrdered (ends_by_fork scope x left right b)
fork_ordered scope x left right b h = either (is_live b) where
  either : (c : Bool) → BlockIsOrdered (if c then forking scope left right b (condition x b) else b)
  either true =
      let y = condition x b in
      let f = test_fine x b h in
      let m = f.more in
      let first : Grown (length y.ops) (with_ops y.ops b) = record { ordered = ops_ordered y.ops b h f.ordered f.more; more = omega arith } in
      let all = before_grown scope right (length y.ops) (set_before scope left (with_ops y.ops b)) (before_grown scope left (length y.ops) (with_ops y.ops b) first) in
      let last = set_before scope right (set_before scope left (with_ops y.ops b)) in
      record { ops = all.ordered.ops; outs = all.ordered.outs; exit = early_more (length y.ops) (length last.ops) all.more y.operand.value f.early }
  either false = h

record CasesFine (n : ℕ) (c : Cases) : Type 0 where
  ordered : OpsAreOrdered 0 c.ops
  more : n ≤ length c.ops
  early : AreEarly (length c.ops) c.operands

cases_fine : (k : CType) (x : Operand) (labels : List Label) (ops : List OpTree) → OpsAreOrdered 0 ops → IsEarly (length ops) x.value → CasesFine (length ops) (cases k x labels ops)
cases_fine k x [] ops h g = record { ordered = h; more = omega arith; early = tt }
cases_fine k x (l ∷ ls) ops h g = at l.value (λ ops1 h1 g1. cases_fine k x ls ops1 h1 g1) where
  at : (word : Option ℕ) → ((ops1 : List OpTree) → OpsAreOrdered 0 ops1 → IsEarly (length ops1) x.value → CasesFine (length ops1) (cases k x ls ops1)) → CasesFine (length ops) (case_or k x ops word (λ ops1. cases k x ls ops1))
  at None ih = ih ops h g
  at (Some word) ih =
      let op = plain o.Eq (width k) (x ∷ constant word ∷ []) in
      let y = added ops op in
      let f = added_fine ops op h (record { args = (g, (tt, tt)); guard = tt; flag = refl; operands = tt }) in
      let r = ih y.ops f.ordered (early_more (length ops) (length y.ops) f.more x.value g) in
      let m1 = f.more in
      let m2 = r.more in record {
        ordered = r.ordered;
        more = omega (arith, m1, m2);
        early = (early_more (length y.ops) (length (cases k x ls y.ops).ops) r.more y.operand.value f.early, r.early);
      }

pub cases_ordered : (x : PureTree) (labels : List Label) (b : BlockTree) → BlockIsOrdered b → BlockIsOrdered (ends_by_cases x labels b)
cases_ordered x labels b h = either (is_live b) where
  k : CType
  k = promoted (kind x)

  either : (c : Bool) → BlockIsOrdered (if c then lower.switched (promoted (kind x)) labels b (lower.promoted_given (promoted (kind x)) (emitted b.outs x b.ops [])) else b)
  either true =
      let e = emitted b.outs x b.ops [] in
      let fe = emitted_fine b.outs x b.ops [] h.outs h.ops tt in
      let y = balanced e.ops e.given (promoted (kind x)) in
      let fy = balanced_fine e.ops e.given (promoted (kind x)) fe.ordered fe.given in
      let c = cases (promoted (kind x)) y.operand labels y.ops in
      let fc = cases_fine (promoted (kind x)) y.operand labels y.ops fy.ordered fy.early in
      let m1 = fe.more in
      let m2 = fy.more in
      let m3 = fc.more in
      record { ops = fc.ordered; outs = outs_more (length b.ops) (length c.ops) (omega (arith, m1, m2, m3)) b.outs h.outs; exit = fc.early }
  either false = h
