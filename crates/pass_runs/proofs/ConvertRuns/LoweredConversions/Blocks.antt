-- Blocks that are open: what pieces add to them, and how they end.
use Rattle.std.specs.Prelude.{◌==◌, nat_lt, is_some, slice_get}
use Rattle.std.proofs.Common.{◌≡◌, ◌∙◌, ◌<◌, ℕ, Bool, true, false, refl, ap, sym, List, [], ◌∷◌, ◌++◌, length, Option, Some, None, if◌then◌else◌}
use Rattle.std.proofs.lemmas.Bool.{ltb-true}
use Rattle.hls_base.specs.declared.place.Place.{Place}
use Rattle.hls_base.specs.declared.number.ArrayId.{ArrayId}
use Rattle.hls_base.specs.declared.number.VarId.{VarId}
use Rattle.c_token.specs.declared.ctype.CType.{CType}
use Rattle.c_value.specs.Values.{width, promoted}
use Rattle.pieces.specs.declared.piece.Label.{Label}
use Rattle.pieces.specs.Trees as tree
use Rattle.pieces.specs.Trees.{PureTree, PureTrees, PieceTrees}
use Rattle.pieces.specs.Program.{ArrayTree}
use Rattle.pieces.specs.Kind.{kind}
use Rattle.ir_core.specs.declared.body.OpKind.TheVariants as o
use Rattle.ir_core.specs.declared.body.Operand.{Operand}
use Rattle.ir_core.specs.declared.body.Out.{Out}
use Rattle.ir_core.specs.Bodies.{OpTree}
use Rattle.ir_core.specs.Trees.{ExitTree, next, branch, choose, break_, continue_, leave, BlockTree}
use Rattle.passes.specs.Lowering.Operations.{Emitted, added, constant, plain, flagged, assigned, balanced}
use Rattle.passes.specs.Lowering.Outs.{operand_eq, held, without, own_out, with_out}
use Rattle.passes.specs.Lowering.Shapes.{first_point}
use Rattle.passes.specs.Lowering.Expressions.{emitted, emitted_all}
use Rattle.passes.specs.Lowering.Blocks as lower
use Rattle.passes.specs.Lowering.Blocks.{Scope, type_of, variable_type, kind_in, element_type, is_live, with_exit, with_ops, value_as, set, put, condition, ends_by_test, all_set, set_before, forking, ends_by_fork, Cases, case_or, cases, ends_by_cases}
use Rattle.pass_runs.specs.ConvertRuns.Typed.{AreEarly, HasBits, LastHas, OpsAreTyped, OutsAreTyped, ExitIsTyped, BlockIsTyped}
use Rattle.pass_runs.proofs.ConvertRuns.Lists.{there}
use Rattle.pass_runs.specs.ConvertRuns.LoweredConversions.Suiting.{PureSuits, PieceSuits, PiecesSuit}
use Rattle.pass_runs.proofs.ConvertRuns.LoweredConversions.Adding.{Grows, stays, grows_on, early_on, has_on, outs_on, Fine, added_fine, fine_on, one_early, tested_fine, assigned_fine, balanced_fine}
use Rattle.pass_runs.proofs.ConvertRuns.LoweredConversions.Expressions.{mapped, widths, words, emitted_fine, emitted_all_fine}

module _ (ws ms : List ℕ) where
  pub exit_on : (xs ys : List OpTree) → Grows xs ys → (e : ExitTree) → ExitIsTyped ws ms xs e → ExitIsTyped ws ms ys e
  exit_on xs ys g next h = tt
  exit_on xs ys g (branch x) h = has_on ws ms xs ys g 1 x.value h
  exit_on xs ys g (choose cs) h = early_on xs ys g cs h
  exit_on xs ys g break_ h = tt
  exit_on xs ys g continue_ h = tt
  exit_on xs ys g (leave n) h = tt

  -- ---- outs

  without_typed : (ops : List OpTree) (outs : List Out) (v : VarId) → OutsAreTyped ws ms ops outs → OutsAreTyped ws ms ops (without outs v)
  without_typed ops [] v h = tt
  without_typed ops (x ∷ xs) v h = either (x.variable.0 == v.0) (without_typed ops xs v h.1) where
    either : (c : Bool) → OutsAreTyped ws ms ops (without xs v) → OutsAreTyped ws ms ops (if c then without xs v else x ∷ without xs v)
    either true rest = rest
    either false rest = (h.0, rest)

  pub append_typed : (ops : List OpTree) (xs ys : List Out) → OutsAreTyped ws ms ops xs → OutsAreTyped ws ms ops ys → OutsAreTyped ws ms ops (xs ++ ys)
  append_typed ops [] ys h g = g
  append_typed ops (x ∷ xs) ys h g = (h.0, append_typed ops xs ys h.1 g)

  own_typed : (ops : List OpTree) (v : VarId) (x : Operand) (n : ℕ) → slice_get ws v.0 ≡ Some n → HasBits ws ms ops n x.value → OutsAreTyped ws ms ops (own_out v x)
  own_typed ops v x n e h = either (operand_eq x (held [] v)) where
    either : (c : Bool) → OutsAreTyped ws ms ops (if c then [] else record { variable = v; value = x } ∷ [])
    either true = tt
    either false = ((n, e, h), tt)

  with_out_typed : (ops : List OpTree) (outs : List Out) (v : VarId) (x : Operand) (n : ℕ) → slice_get ws v.0 ≡ Some n → OutsAreTyped ws ms ops outs → HasBits ws ms ops n x.value → OutsAreTyped ws ms ops (with_out outs v x)
  with_out_typed ops outs v x n e h g = either (operand_eq (held outs v) x) where
    either : (c : Bool) → OutsAreTyped ws ms ops (if c then outs else without outs v ++ own_out v x)
    either true = h
    either false = append_typed ops (without outs v) (own_out v x) (without_typed ops outs v h) (own_typed ops v x n e g)

  -- ---- more operations

  ops_typed : (ops : List OpTree) (b : BlockTree) → BlockIsTyped ws ms b → OpsAreTyped ws ms [] ops → Grows b.ops ops → BlockIsTyped ws ms (with_ops ops b)
  ops_typed ops b h g e = record { ops = g; outs = outs_on ws ms b.ops ops e b.outs h.outs; exit = exit_on b.ops ops e b.exit h.exit }

  args_append : (n : ℕ) (xs ys : List Operand) → AreEarly n xs → AreEarly n ys → AreEarly n (xs ++ ys)
  args_append n [] ys h g = g
  args_append n (x ∷ xs) ys h g = (h.0, args_append n xs ys h.1 g)

  last_append : (ops : List OpTree) (n : ℕ) (xs : List Operand) (y : Operand) → HasBits ws ms ops n y.value → LastHas ws ms ops n (xs ++ y ∷ [])
  last_append ops n [] y h = h
  last_append ops n (x ∷ []) y h = h
  last_append ops n (x ∷ z ∷ xs) y h = last_append ops n (z ∷ xs) y h

  pub exit_typed : (e : ExitTree) (b : BlockTree) → BlockIsTyped ws ms b → ExitIsTyped ws ms b.ops e → BlockIsTyped ws ms (with_exit e b)
  exit_typed e b h g = either (is_live b) where
    either : (c : Bool) → BlockIsTyped ws ms (if c then record b { exit = e } else b)
    either true = record { ops = h.ops; outs = h.outs; exit = g }
    either false = h

  -- ---- cases

  record CasesFine (base : List OpTree) (c : Cases) : Type 0 where
    typed : OpsAreTyped ws ms [] c.ops
    grows : Grows base c.ops
    early : AreEarly (length c.ops) c.operands

  cases_fine : (k : CType) (x : Operand) (labels : List Label) (ops : List OpTree) → OpsAreTyped ws ms [] ops → AreEarly (length ops) (x ∷ []) → CasesFine ops (cases k x labels ops)
  cases_fine k x [] ops h g = record { typed = h; grows = stays ops; early = tt }
  cases_fine k x (l ∷ ls) ops h g = at l.value (λ ops1 h1 g1. cases_fine k x ls ops1 h1 g1) where
    at : (word : Option ℕ) → ((ops1 : List OpTree) → OpsAreTyped ws ms [] ops1 → AreEarly (length ops1) (x ∷ []) → CasesFine ops1 (cases k x ls ops1)) → CasesFine ops (case_or k x ops word (λ ops1. cases k x ls ops1))
    at None ih = ih ops h g
    at (Some word) ih =
        let op = plain o.Eq (width k) (x ∷ constant word ∷ []) in
        let y = added ops op in
        let f = added_fine ws ms ops op h (record { args = (g.0, (tt, tt)); guard = tt; access = tt }) in
        let r = ih y.ops f.typed (early_on ops y.ops f.grows (x ∷ []) g) in
        let all = cases k x ls y.ops in
        record {
          typed = r.typed;
          grows = grows_on ops y.ops all.ops f.grows r.grows;
          early = ((early_on y.ops all.ops r.grows (y.operand ∷ []) (one_early ws ms y.ops 1 y.operand f.has)).0, r.early);
        }

-- a variable that is there has the width of its type
pub there_typed : (scope : Scope) (v : VarId) → v.0 < length scope.variables → slice_get (widths scope) v.0 ≡ Some (width (variable_type scope v))
there_typed scope v l =
    let k = there scope.variables v.0 l in
    mapped width scope.variables v.0 k.0 k.1 ∙ ap (λ (c : Option CType). Some (width (type_of c))) (sym k.1)

module _ (scope : Scope) where
  abbrev pub Typed : BlockTree → Type 0
  Typed = BlockIsTyped (widths scope) (words scope)

  abbrev Added : List OpTree → ℕ → Emitted → Type 0
  Added base k x = Fine (widths scope) (words scope) base k x

  value_fine : (b : BlockTree) (x : PureTree) (k : CType) → Typed b → PureSuits scope x → Added b.ops (width k) (value_as b x k)
  value_fine b x k h z =
      let e = emitted b.outs x b.ops [] in
      let f = emitted_fine scope b.outs x b.ops [] z h.outs h.ops tt in
      fine_on (widths scope) (words scope) b.ops e.ops (width k) (value_as b x k) f.grows (assigned_fine (widths scope) (words scope) e.ops e.given k f.typed f.given)

  pub set_typed : (v : VarId) (x : PureTree) (b : BlockTree) → Typed b → PureSuits scope x → Typed (set scope v x b)
  set_typed v x b h z =
      let y = value_as b x (variable_type scope v) in
      let f = value_fine b x (variable_type scope v) h z in
      let old = outs_on (widths scope) (words scope) b.ops y.ops f.grows b.outs h.outs in
      record { ops = f.typed; outs = either (nat_lt v.0 (length scope.variables)) refl y.ops y.operand old f.has; exit = exit_on (widths scope) (words scope) b.ops y.ops f.grows b.exit h.exit } where
        either : (c : Bool) → nat_lt v.0 (length scope.variables) ≡ c → (ops : List OpTree) (y : Operand) → OutsAreTyped (widths scope) (words scope) ops b.outs → HasBits (widths scope) (words scope) ops (width (variable_type scope v)) y.value
            → OutsAreTyped (widths scope) (words scope) ops (if c then with_out b.outs v y else b.outs)
        either true e ops y old has = with_out_typed (widths scope) (words scope) ops b.outs v y (width (variable_type scope v)) (there_typed scope v (ltb-true v.0 (length scope.variables) e)) old has
        either false e ops y old has = old

  pub put_typed : (a : ArrayId) (subs : PureTrees) (x : PureTree) (at : Place) (b : BlockTree) → Typed b → PieceSuits scope (tree.put a subs x at) → Typed (put scope a subs x at b)
  put_typed a subs x at b h z =
      let k = element_type scope a in
      let s = emitted_all b.outs subs b.ops [] in
      let fs = emitted_all_fine scope b.outs subs b.ops [] z.1 h.outs h.ops tt in
      let e = emitted b.outs x s.ops s.guards in
      let fe = emitted_fine scope b.outs x s.ops s.guards z.2 (outs_on (widths scope) (words scope) b.ops s.ops fs.grows b.outs h.outs) fs.typed fs.guards in
      let y = assigned e.ops e.given k in
      let fy = assigned_fine (widths scope) (words scope) e.ops e.given k fe.typed fe.given in
      let g = grows_on s.ops e.ops y.ops fe.grows fy.grows in
      let op = flagged o.Store false (width k) (s.operands ++ y.operand ∷ []) (Some a) at None in
      let args = args_append (widths scope) (words scope) (length y.ops) s.operands (y.operand ∷ []) (early_on s.ops y.ops g s.operands fs.operands) (one_early (widths scope) (words scope) y.ops (width k) y.operand fy.has) in
      let there_ : slice_get (words scope) a.0 ≡ Some (width k) = mapped (λ c. width c.kind) scope.arrays a.0 z.0.0 z.0.1 ∙ ap (λ (c : Option ArrayTree). Some (width (kind_in c))) (sym z.0.1) in
      let f = added_fine (widths scope) (words scope) y.ops op fy.typed (record { args = args; guard = tt; access = (width k, there_, last_append (widths scope) (words scope) y.ops (width k) s.operands y.operand fy.has) }) in
      ops_typed (widths scope) (words scope) (added y.ops op).ops b h f.typed (grows_on b.ops y.ops (added y.ops op).ops (grows_on b.ops s.ops y.ops fs.grows g) f.grows)

  -- ---- ends

  test_fine : (x : PureTree) (b : BlockTree) → Typed b → PureSuits scope x → Added b.ops 1 (condition x b)
  test_fine x b h z =
      let e = emitted b.outs x b.ops [] in
      let f = emitted_fine scope b.outs x b.ops [] z h.outs h.ops tt in
      fine_on (widths scope) (words scope) b.ops e.ops 1 (condition x b) f.grows (tested_fine (widths scope) (words scope) e.ops e.given f.typed f.given)

  pub test_typed : (x : PureTree) (b : BlockTree) → Typed b → PureSuits scope x → Typed (ends_by_test x b)
  test_typed x b h z = either (is_live b) where
    either : (c : Bool) → Typed (if c then lower.branching b (condition x b) else b)
    either true = let f = test_fine x b h z in record { ops = f.typed; outs = outs_on (widths scope) (words scope) b.ops (condition x b).ops f.grows b.outs h.outs; exit = f.has }
    either false = h

  -- what is set behind operations
  record Set (base : List OpTree) (b : BlockTree) : Type 0 where
    typed : Typed b
    grows : Grows base b.ops

  set_grown : (v : VarId) (x : PureTree) (base : List OpTree) (b : BlockTree) → PureSuits scope x → Set base b → Set base (set scope v x b)
  set_grown v x base b z g =
      let f = value_fine b x (variable_type scope v) g.typed z in record { typed = set_typed v x b g.typed z; grows = grows_on base b.ops (set scope v x b).ops g.grows f.grows }

  all_grown : (parts : PieceTrees) (base : List OpTree) (b : BlockTree) → PiecesSuit scope parts → Set base b → Set base (all_set scope parts b)
  all_grown tree.no_pieces base b z g = g
  all_grown (tree.then_ (tree.set v x) rest) base b z g = all_grown rest base (set scope v x b) z.1 (set_grown v x base b z.0 g)
  all_grown (tree.then_ (tree.put a s x at) rest) base b z g = all_grown rest base b z.1 g
  all_grown (tree.then_ (tree.fork t l r e) rest) base b z g = all_grown rest base b z.1 g
  all_grown (tree.then_ (tree.repeat_ i p f t y s e) rest) base b z g = all_grown rest base b z.1 g
  all_grown (tree.then_ (tree.pick t l y e) rest) base b z g = all_grown rest base b z.1 g
  all_grown (tree.then_ tree.break_ rest) base b z g = all_grown rest base b z.1 g
  all_grown (tree.then_ tree.next_ rest) base b z g = all_grown rest base b z.1 g
  all_grown (tree.then_ (tree.leave c) rest) base b z g = all_grown rest base b z.1 g
  all_grown (tree.then_ (tree.land c e) rest) base b z g = all_grown rest base b z.1 g
  all_grown (tree.then_ (tree.mark p) rest) base b z g = all_grown rest base b z.1 g

  before_grown : (parts : PieceTrees) (base : List OpTree) (b : BlockTree) → PiecesSuit scope parts → Set base b → Set base (set_before scope parts b)
  before_grown parts base b z g = either (is_some (first_point parts)) where
    either : (c : Bool) → Set base (if c then b else all_set scope parts b)
    either true = g
    either false = all_grown parts base b z g

  pub fork_typed : (x : PureTree) (left right : PieceTrees) (b : BlockTree) → Typed b → PureSuits scope x → PiecesSuit scope left → PiecesSuit scope right → Typed (ends_by_fork scope x left right b)
  fork_typed x left right b h z zl zr = either (is_live b) where
    either : (c : Bool) → Typed (if c then forking scope left right b (condition x b) else b)
    either true =
        let y = condition x b in
        let f = test_fine x b h z in
        let first : Set y.ops (with_ops y.ops b) = record { typed = ops_typed (widths scope) (words scope) y.ops b h f.typed f.grows; grows = stays y.ops } in
        let all = before_grown right y.ops (set_before scope left (with_ops y.ops b)) zr (before_grown left y.ops (with_ops y.ops b) zl first) in
        let last = set_before scope right (set_before scope left (with_ops y.ops b)) in
        record { ops = all.typed.ops; outs = all.typed.outs; exit = has_on (widths scope) (words scope) y.ops last.ops all.grows 1 y.operand.value f.has }
    either false = h

  pub cases_typed : (x : PureTree) (labels : List Label) (b : BlockTree) → Typed b → PureSuits scope x → Typed (ends_by_cases x labels b)
  cases_typed x labels b h z = either (is_live b) where
    either : (c : Bool) → Typed (if c then lower.switched (promoted (kind x)) labels b (lower.promoted_given (promoted (kind x)) (emitted b.outs x b.ops [])) else b)
    either true =
        let k = promoted (kind x) in
        let e = emitted b.outs x b.ops [] in
        let fe = emitted_fine scope b.outs x b.ops [] z h.outs h.ops tt in
        let y = balanced e.ops e.given k in
        let fy = balanced_fine (widths scope) (words scope) e.ops e.given k fe.typed fe.given in
        let c = cases k y.operand labels y.ops in
        let fc = cases_fine (widths scope) (words scope) k y.operand labels y.ops fy.typed (one_early (widths scope) (words scope) y.ops (width k) y.operand fy.has) in
        let g = grows_on b.ops e.ops c.ops fe.grows (grows_on e.ops y.ops c.ops fy.grows fc.grows) in
        record { ops = fc.typed; outs = outs_on (widths scope) (words scope) b.ops c.ops g b.outs h.outs; exit = fc.early }
    either false = h
