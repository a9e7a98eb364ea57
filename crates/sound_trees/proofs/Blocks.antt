-- Blocks that are open, and their ends, are ready.
use Rattle.std.specs.Prelude.{◌==◌, ◌-◌, nat_lt, is_some}
use Rattle.std.proofs.Common.{◌≡◌, ℕ, Bool, true, false, refl, arith, List, [], ◌∷◌, ◌++◌, length, length-append, Option, Some, None, if◌then◌else◌}
use Rattle.hls_base.specs.declared.place.Place.{Place}
use Rattle.hls_base.specs.declared.number.ArrayId.{ArrayId}
use Rattle.hls_base.specs.declared.number.VarId.{VarId}
use Rattle.hls_base.specs.declared.point.Point.{Point}
use Rattle.c_token.specs.declared.ctype.CType.{CType}
use Rattle.c_value.specs.Values.{width, promoted}
use Rattle.pieces.specs.declared.piece.Label.{Label}
use Rattle.pieces.specs.Trees as tree
use Rattle.pieces.specs.Trees.{PureTree, PureTrees, PieceTrees}
use Rattle.pieces.specs.Kind.{kind}
use Rattle.ir_core.specs.declared.body.OpKind.TheVariants as o
use Rattle.ir_core.specs.declared.body.Operand.{Operand}
use Rattle.ir_core.specs.declared.body.Out.{Out}
use Rattle.ir_core.specs.Bodies.{OpTree}
use Rattle.ir_core.specs.Trees.{ExitTree, BlockTree}
use Rattle.passes.specs.Lowering.Operations.{Emitted, added, constant, plain, flagged, assigned, balanced}
use Rattle.passes.specs.Lowering.Outs.{operand_eq, held, without, own_out, with_out}
use Rattle.passes.specs.Lowering.Shapes.{first_point}
use Rattle.passes.specs.Lowering.Expressions.{emitted, emitted_all}
use Rattle.passes.specs.Lowering.Blocks as lower
use Rattle.passes.specs.Lowering.Blocks.{Scope, variable_type, element_type, begun, is_live, with_exit, with_ops, value_as, set, put, condition, ends_by_test, all_set, set_before, forking, ends_by_fork, Cases, case_or, cases, ends_by_cases}
use Rattle.pass_runs.specs.ConvertRuns.Typed.{BlockIsTyped}
use Rattle.pass_runs.specs.ConvertRuns.Blocks.{Once}
use Rattle.pass_runs.specs.ConvertRuns.LoweredConversions.Suiting.{widths_of, words_of, PureSuits, PieceSuits, PiecesSuit}
use Rattle.pass_runs.proofs.ConvertRuns.LoweredConversions.Adding.{grows_on, outs_on, tested_fine}
use Rattle.pass_runs.proofs.ConvertRuns.LoweredConversions.Expressions.{emitted_fine, emitted_all_fine}
use Rattle.pass_runs.proofs.ConvertRuns.LoweredConversions.Blocks.{exit_on, set_typed, put_typed, test_typed, fork_typed, cases_typed}
use Rattle.sound_trees.specs.Ready.{IsNear, AreNear, OutsAreNear, ExitIsNear, BlockIsReady}
use Rattle.sound_trees.specs.Subscripts.{count, SubscriptsFit, PieceSubscriptsFit, PiecesSubscriptsFit}
use Rattle.sound_trees.proofs.Adding.{Ready, Gives, added_gives, tested_gives, assigned_gives, balanced_gives}
use Rattle.sound_trees.specs.Laws.{shapes_in}
use Rattle.sound_trees.proofs.Expressions.{access_sound, emitted_ready, emitted_all_ready}
use Rattle.sound_trees.proofs.Names.{once_with_out}

-- ---- outs

without_near : (xs : List Out) (v : VarId) → OutsAreNear xs → OutsAreNear (without xs v)
without_near [] v h = tt
without_near (x ∷ xs) v h = either (x.variable.0 == v.0) (without_near xs v h.1) where
  either : (c : Bool) → OutsAreNear (without xs v) → OutsAreNear (if c then without xs v else x ∷ without xs v)
  either true q = q
  either false q = (h.0, q)

pub near_append : (xs ys : List Out) → OutsAreNear xs → OutsAreNear ys → OutsAreNear (xs ++ ys)
near_append [] ys h k = k
near_append (x ∷ xs) ys h k = (h.0, near_append xs ys h.1 k)

own_near : (v : VarId) (x : Operand) → IsNear x → OutsAreNear (own_out v x)
own_near v x n = either (operand_eq x (held [] v)) where
  either : (c : Bool) → OutsAreNear (if c then [] else record { variable = v; value = x } ∷ [])
  either true = tt
  either false = (n, tt)

with_out_near : (xs : List Out) (v : VarId) (x : Operand) → OutsAreNear xs → IsNear x → OutsAreNear (with_out xs v x)
with_out_near xs v x h n = either (operand_eq (held xs v) x) where
  either : (c : Bool) → OutsAreNear (if c then xs else without xs v ++ own_out v x)
  either true = h
  either false = near_append (without xs v) (own_out v x) (without_near xs v h) (own_near v x n)

args_append : (xs ys : List Operand) → AreNear xs → AreNear ys → AreNear (xs ++ ys)
args_append [] ys h k = k
args_append (x ∷ xs) ys h k = (h.0, args_append xs ys h.1 k)

module _ (scope : Scope) (stores : Bool) where
  abbrev pub IsReady : BlockTree → Type 0
  IsReady = BlockIsReady (shapes_in scope) (words_of scope) stores

  abbrev Gives_ : Emitted → Type 0
  Gives_ = Gives (shapes_in scope) (words_of scope) stores

  pub begun_ready : (point : Point) → IsReady (begun point)
  begun_ready point = record { typed = record { ops = tt; outs = tt; exit = tt }; once = tt; ops = tt; outs = tt; exit = tt }

  pub exit_ready : (e : ExitTree) (b : BlockTree) → IsReady b → BlockIsTyped (widths_of scope) (words_of scope) (with_exit e b) → ExitIsNear e → IsReady (with_exit e b)
  exit_ready e b h t n = either (is_live b) t where
    either : (c : Bool) → BlockIsTyped (widths_of scope) (words_of scope) (if c then record b { exit = e } else b) → IsReady (if c then record b { exit = e } else b)
    either true q = record { typed = q; once = h.once; ops = h.ops; outs = h.outs; exit = n }
    either false q = h

  -- ---- settings

  value_gives : (b : BlockTree) (x : PureTree) (k : CType) → IsReady b → PureSuits scope x → SubscriptsFit scope.arrays x → Gives_ (value_as b x k)
  value_gives b x k h z s =
      let e = emitted b.outs x b.ops [] in
      let r = emitted_ready scope stores b.outs x b.ops [] z s h.typed.outs h.outs (h.typed.ops, tt) h.ops tt in
      assigned_gives (shapes_in scope) (words_of scope) stores e.ops e.given k r.ops r.given

  pub set_ready : (v : VarId) (x : PureTree) (b : BlockTree) → IsReady b → PureSuits scope x → SubscriptsFit scope.arrays x → IsReady (set scope v x b)
  set_ready v x b h z s =
      let y = value_as b x (variable_type scope v) in
      let g = value_gives b x (variable_type scope v) h z s in
      record { typed = set_typed scope v x b h.typed z; once = once_if (nat_lt v.0 (length scope.variables)) y.operand; ops = g.ops; outs = near_if (nat_lt v.0 (length scope.variables)) y.operand g.near; exit = h.exit } where
        once_if : (c : Bool) (y : Operand) → Once (if c then with_out b.outs v y else b.outs)
        once_if true y = once_with_out b.outs v y h.once
        once_if false y = h.once

        near_if : (c : Bool) (y : Operand) → IsNear y → OutsAreNear (if c then with_out b.outs v y else b.outs)
        near_if true y n = with_out_near b.outs v y h.outs n
        near_if false y n = h.outs

  pub put_ready : stores ≡ true → (a : ArrayId) (subs : PureTrees) (x : PureTree) (at : Place) (b : BlockTree) → IsReady b → PieceSuits scope (tree.put a subs x at) → PieceSubscriptsFit scope.arrays (tree.put a subs x at) → IsReady (put scope a subs x at b)
  put_ready may a subs x at b h z w =
      let k = element_type scope a in
      let s = emitted_all b.outs subs b.ops [] in
      let fs = emitted_all_fine scope b.outs subs b.ops [] z.1 h.typed.outs h.typed.ops tt in
      let rs = emitted_all_ready scope stores b.outs subs b.ops [] z.1 w.1 h.typed.outs h.outs (h.typed.ops, tt) h.ops tt in
      let outs = outs_on (widths_of scope) (words_of scope) b.ops s.ops fs.grows b.outs h.typed.outs in
      let e = emitted b.outs x s.ops s.guards in
      let re = emitted_ready scope stores b.outs x s.ops s.guards z.2 w.2 outs h.outs (fs.typed, fs.guards) rs.ops rs.guards in
      let y = assigned e.ops e.given k in
      let ry = assigned_gives (shapes_in scope) (words_of scope) stores e.ops e.given k re.ops re.given in
      let op = flagged o.Store false (width k) (s.operands ++ y.operand ∷ []) (Some a) at None in
      let l = length-append s.operands (y.operand ∷ []) in
      let m = rs.many in
      let less : length (s.operands ++ y.operand ∷ []) - 1 ≡ count subs = omega (arith, l, m) in
      let g = added_gives (shapes_in scope) (words_of scope) stores y.ops op ry.ops (record {
        args = args_append s.operands (y.operand ∷ []) rs.operands (ry.near, tt);
        guard = tt;
        few = tt;
        kind = (may, access_sound scope stores op a (length (s.operands ++ y.operand ∷ []) - 1) (count subs) refl less w.0 at);
      }) in
      record { typed = put_typed scope a subs x at b h.typed z; once = h.once; ops = g.ops; outs = h.outs; exit = h.exit }

  -- ---- ends

  condition_gives : (x : PureTree) (b : BlockTree) → IsReady b → PureSuits scope x → SubscriptsFit scope.arrays x → Gives_ (condition x b)
  condition_gives x b h z s =
      let e = emitted b.outs x b.ops [] in
      let r = emitted_ready scope stores b.outs x b.ops [] z s h.typed.outs h.outs (h.typed.ops, tt) h.ops tt in
      tested_gives (shapes_in scope) (words_of scope) stores e.ops e.given r.ops r.given

  pub test_ready : (x : PureTree) (b : BlockTree) → IsReady b → PureSuits scope x → SubscriptsFit scope.arrays x → IsReady (ends_by_test x b)
  test_ready x b h z s = either (is_live b) (test_typed scope x b h.typed z) where
    either : (c : Bool) → BlockIsTyped (widths_of scope) (words_of scope) (if c then lower.branching b (condition x b) else b) → IsReady (if c then lower.branching b (condition x b) else b)
    either true t = let g = condition_gives x b h z s in record { typed = t; once = h.once; ops = g.ops; outs = h.outs; exit = g.near }
    either false t = h

  all_ready : (parts : PieceTrees) (b : BlockTree) → PiecesSuit scope parts → PiecesSubscriptsFit scope.arrays parts → IsReady b → IsReady (all_set scope parts b)
  all_ready tree.no_pieces b z s h = h
  all_ready (tree.then_ (tree.set v x) rest) b z s h = all_ready rest (set scope v x b) z.1 s.1 (set_ready v x b h z.0 s.0)
  all_ready (tree.then_ (tree.put a i x at) rest) b z s h = all_ready rest b z.1 s.1 h
  all_ready (tree.then_ (tree.fork t l r e) rest) b z s h = all_ready rest b z.1 s.1 h
  all_ready (tree.then_ (tree.repeat_ i p f t y u e) rest) b z s h = all_ready rest b z.1 s.1 h
  all_ready (tree.then_ (tree.pick t l y e) rest) b z s h = all_ready rest b z.1 s.1 h
  all_ready (tree.then_ tree.break_ rest) b z s h = all_ready rest b z.1 s.1 h
  all_ready (tree.then_ tree.next_ rest) b z s h = all_ready rest b z.1 s.1 h
  all_ready (tree.then_ (tree.leave c) rest) b z s h = all_ready rest b z.1 s.1 h
  all_ready (tree.then_ (tree.land c e) rest) b z s h = all_ready rest b z.1 s.1 h
  all_ready (tree.then_ (tree.mark p) rest) b z s h = all_ready rest b z.1 s.1 h

  before_ready : (parts : PieceTrees) (b : BlockTree) → PiecesSuit scope parts → PiecesSubscriptsFit scope.arrays parts → IsReady b → IsReady (set_before scope parts b)
  before_ready parts b z s h = either (is_some (first_point parts)) where
    either : (c : Bool) → IsReady (if c then b else all_set scope parts b)
    either true = h
    either false = all_ready parts b z s h

  pub fork_ready : (x : PureTree) (left right : PieceTrees) (b : BlockTree) → IsReady b → PureSuits scope x → PiecesSuit scope left → PiecesSuit scope right
      → SubscriptsFit scope.arrays x → PiecesSubscriptsFit scope.arrays left → PiecesSubscriptsFit scope.arrays right → IsReady (ends_by_fork scope x left right b)
  fork_ready x left right b h z zl zr s sl sr = either (is_live b) (fork_typed scope x left right b h.typed z zl zr) where
    either : (c : Bool) → BlockIsTyped (widths_of scope) (words_of scope) (if c then forking scope left right b (condition x b) else b) → IsReady (if c then forking scope left right b (condition x b) else b)
    either true t =
        let e = emitted b.outs x b.ops [] in
        let fe = emitted_fine scope b.outs x b.ops [] z h.typed.outs h.typed.ops tt in
        let y = condition x b in
        let fy = tested_fine (widths_of scope) (words_of scope) e.ops e.given fe.typed fe.given in
        let g = condition_gives x b h z s in
        let grows = grows_on b.ops e.ops y.ops fe.grows fy.grows in
        let first : IsReady (with_ops y.ops b) = record {
          typed = record { ops = fy.typed; outs = outs_on (widths_of scope) (words_of scope) b.ops y.ops grows b.outs h.typed.outs; exit = exit_on (widths_of scope) (words_of scope) b.ops y.ops grows b.exit h.typed.exit };
          once = h.once;
          ops = g.ops;
          outs = h.outs;
          exit = h.exit;
        } in
        let all = before_ready right (set_before scope left (with_ops y.ops b)) zr sr (before_ready left (with_ops y.ops b) zl sl first) in
        record { typed = t; once = all.once; ops = all.ops; outs = all.outs; exit = g.near }
    either false t = h

  -- ---- cases

  record CasesReady (c : Cases) : Type 0 where
    ops : Ready (shapes_in scope) (words_of scope) stores c.ops
    near : AreNear c.operands

  cases_ready : (k : CType) (x : Operand) (labels : List Label) (ops : List OpTree) → Ready (shapes_in scope) (words_of scope) stores ops → IsNear x → CasesReady (cases k x labels ops)
  cases_ready k x [] ops h n = record { ops = h; near = tt }
  cases_ready k x (l ∷ ls) ops h n = at l.value (λ ops1 h1. cases_ready k x ls ops1 h1 n) where
    at : (word : Option ℕ) → ((ops1 : List OpTree) → Ready (shapes_in scope) (words_of scope) stores ops1 → CasesReady (cases k x ls ops1)) → CasesReady (case_or k x ops word (λ ops1. cases k x ls ops1))
    at None ih = ih ops h
    at (Some word) ih =
        let op = plain o.Eq (width k) (x ∷ constant word ∷ []) in
        let g = added_gives (shapes_in scope) (words_of scope) stores ops op h (record { args = (n, (refl, tt)); guard = tt; few = omega arith; kind = tt }) in
        let r = ih (added ops op).ops g.ops in
        record { ops = r.ops; near = (g.near, r.near) }

  pub ends_ready : (x : PureTree) (labels : List Label) (b : BlockTree) → IsReady b → PureSuits scope x → SubscriptsFit scope.arrays x → IsReady (ends_by_cases x labels b)
  ends_ready x labels b h z s = either (is_live b) (cases_typed scope x labels b h.typed z) where
    either : (c : Bool) → BlockIsTyped (widths_of scope) (words_of scope) (if c then lower.switched (promoted (kind x)) labels b (lower.promoted_given (promoted (kind x)) (emitted b.outs x b.ops [])) else b)
        → IsReady (if c then lower.switched (promoted (kind x)) labels b (lower.promoted_given (promoted (kind x)) (emitted b.outs x b.ops [])) else b)
    either true t =
        let k = promoted (kind x) in
        let e = emitted b.outs x b.ops [] in
        let r = emitted_ready scope stores b.outs x b.ops [] z s h.typed.outs h.outs (h.typed.ops, tt) h.ops tt in
        let y = balanced e.ops e.given k in
        let ry = balanced_gives (shapes_in scope) (words_of scope) stores e.ops e.given k r.ops r.given in
        let c = cases_ready k y.operand labels y.ops ry.ops ry.near in
        record { typed = t; once = h.once; ops = c.ops; outs = h.outs; exit = c.near }
    either false t = h
