-- Blocks that are open, and their ends, are valid.
use Rattle.std.specs.Prelude.{◌==◌, nat_lt, is_some, slice_get}
use Rattle.std.proofs.Common.{◌≡◌, ◌∙◌, ℕ, suc, Bool, true, false, refl, ap, sym, List, [], ◌∷◌, ◌++◌, length, Option, Some, None, if◌then◌else◌}
use Rattle.std.proofs.lemmas.Bool.{ltb-true}
use Rattle.hls_base.specs.declared.place.Place.{Place}
use Rattle.hls_base.specs.declared.number.ArrayId.{ArrayId}
use Rattle.hls_base.specs.declared.number.VarId.{VarId}
use Rattle.hls_base.specs.declared.point.Point.{Point}
use Rattle.c_token.specs.declared.ctype.CType.{CType}
use Rattle.c_value.specs.Values.{width, promoted}
use Rattle.pieces.specs.declared.piece.Label.{Label}
use Rattle.pieces.specs.Trees as tree
use Rattle.pieces.specs.Trees.{PureTree, PureTrees, PieceTrees}
use Rattle.pieces.specs.Program.{ArrayTree}
use Rattle.pieces.specs.Kind.{kind}
use Rattle.ir_core.specs.declared.body.OpKind.TheVariants as o
use Rattle.ir_core.specs.declared.body.Operand.{Operand}
use Rattle.ir_core.specs.declared.body.Out.{Out}
use Rattle.ir_core.specs.Bodies.{OpTree}
use Rattle.ir_core.specs.Trees.{ExitTree, next, branch, choose, break_, continue_, leave, BlockTree}
use Rattle.passes.specs.Lowering.Operations.{Emitted, added, constant, plain, flagged, assigned, balanced}
use Rattle.passes.specs.Lowering.Outs.{operand_eq, held, without, own_out, with_out}
use Rattle.passes.specs.Lowering.Shapes.{first_point}
use Rattle.passes.specs.Lowering.Expressions.{emitted, emitted_all}
use Rattle.passes.specs.Lowering.Blocks as lower
use Rattle.passes.specs.Lowering.Blocks.{Scope, variable_type, kind_in, element_type, begun, is_live, with_exit, with_ops, value_as, set, put, condition, ends_by_test, all_set, set_before, forking, ends_by_fork, Cases, case_or, cases, ends_by_cases}
use Rattle.pass_runs.specs.ConvertRuns.LoweredConversions.Suiting.{PureSuits, PieceSuits, PiecesSuit}
use Rattle.pass_runs.proofs.ConvertRuns.LoweredConversions.Adding.{Grows, stays, grows_on}
use Rattle.pass_runs.proofs.ConvertRuns.LoweredConversions.Blocks.{there_typed}
use Rattle.valid_trees.specs.Shapes.{FrameShape}
use Rattle.valid_trees.specs.Operands.{AllAreOperands, AreStored}
use Rattle.valid_trees.specs.Bodies.{ExitIsValid, BlockIsValid}
use Rattle.valid_trees.specs.ValidLowering.Proper.{dimensions, is_table, LabelsFit, WordFits, PureIsProper, PieceIsProper, PiecesAreProper}
use Rattle.valid_trees.specs.ValidLowering.{memory_in, frame_in}
use Rattle.valid_trees.proofs.ValidLowering.Widths.{width_is}
use Rattle.valid_trees.proofs.ValidLowering.Adding.{Is, Valid, is_on, Gives, added_gives, gives_on, tested_gives, assigned_gives, balanced_gives}
use Rattle.valid_trees.proofs.ValidLowering.Expressions.{mapped, OutsAre, outs_on, EachIsSubscript, subs_on, emitted_is, emitted_all_is}

module _ (frame : FrameShape) where
  all_on : (xs ys : List OpTree) → Grows xs ys → (cs : List Operand) → AllAreOperands frame [] xs 1 cs → AllAreOperands frame [] ys 1 cs
  all_on xs ys g [] h = tt
  all_on xs ys g (c ∷ cs) h = (is_on frame xs ys g 1 c h.0, all_on xs ys g cs h.1)

  pub exit_on : (xs ys : List OpTree) → Grows xs ys → (e : ExitTree) → ExitIsValid frame xs e → ExitIsValid frame ys e
  exit_on xs ys g next h = tt
  exit_on xs ys g (branch x) h = is_on frame xs ys g 1 x h
  exit_on xs ys g (choose cs) h = all_on xs ys g cs h
  exit_on xs ys g break_ h = tt
  exit_on xs ys g continue_ h = tt
  exit_on xs ys g (leave n) h = tt

  -- ---- outs

  without_are : (ops : List OpTree) (outs : List Out) (v : VarId) → OutsAre frame ops outs → OutsAre frame ops (without outs v)
  without_are ops [] v h = tt
  without_are ops (x ∷ xs) v h = either (x.variable.0 == v.0) (without_are ops xs v h.1) where
    either : (c : Bool) → OutsAre frame ops (without xs v) → OutsAre frame ops (if c then without xs v else x ∷ without xs v)
    either true rest = rest
    either false rest = (h.0, rest)

  pub append_are : (ops : List OpTree) (xs ys : List Out) → OutsAre frame ops xs → OutsAre frame ops ys → OutsAre frame ops (xs ++ ys)
  append_are ops [] ys h g = g
  append_are ops (x ∷ xs) ys h g = (h.0, append_are ops xs ys h.1 g)

  own_are : (ops : List OpTree) (v : VarId) (x : Operand) (n : ℕ) → slice_get frame.widths v.0 ≡ Some n → Is frame ops n x → OutsAre frame ops (own_out v x)
  own_are ops v x n e h = either (operand_eq x (held [] v)) where
    either : (c : Bool) → OutsAre frame ops (if c then [] else record { variable = v; value = x } ∷ [])
    either true = tt
    either false = (record { bits = n; there = e; value = h }, tt)

  with_out_are : (ops : List OpTree) (outs : List Out) (v : VarId) (x : Operand) (n : ℕ) → slice_get frame.widths v.0 ≡ Some n → OutsAre frame ops outs → Is frame ops n x → OutsAre frame ops (with_out outs v x)
  with_out_are ops outs v x n e h g = either (operand_eq (held outs v) x) where
    either : (c : Bool) → OutsAre frame ops (if c then outs else without outs v ++ own_out v x)
    either true = h
    either false = append_are ops (without outs v) (own_out v x) (without_are ops outs v h) (own_are ops v x n e g)

  -- ---- more operations

  ops_valid : (ops : List OpTree) (b : BlockTree) → BlockIsValid frame b → Valid frame ops → Grows b.ops ops → BlockIsValid frame (with_ops ops b)
  ops_valid ops b h g e = record { ops = g; outs = outs_on frame b.ops ops e b.outs h.outs; exit = exit_on b.ops ops e b.exit h.exit }

  -- subscripts, one for each dimension, and then the stored value
  stored_are : (ops : List OpTree) (bits : ℕ) (dims : List ℕ) (args : List Operand) (x : Operand) → length args ≡ length dims → EachIsSubscript frame ops args → Is frame ops bits x → AreStored frame [] ops bits dims (args ++ x ∷ [])
  stored_are ops bits [] [] x e h n = n
  stored_are ops bits [] (y ∷ args) x e h n = absurd cc
  stored_are ops bits (len ∷ dims) [] x e h n = absurd cc
  stored_are ops bits (len ∷ dims) (y ∷ args) x e h n = (h.0, stored_are ops bits dims args x (suc_same e) h.1 n) where
    suc_same : {m k : ℕ} → suc m ≡ suc k → m ≡ k
    suc_same q = cc

  pub exit_valid : (e : ExitTree) (b : BlockTree) → BlockIsValid frame b → ExitIsValid frame b.ops e → BlockIsValid frame (with_exit e b)
  exit_valid e b h g = either (is_live b) where
    either : (c : Bool) → BlockIsValid frame (if c then record b { exit = e } else b)
    either true = record { ops = h.ops; outs = h.outs; exit = g }
    either false = h

  pub begun_valid : (point : Point) → BlockIsValid frame (begun point)
  begun_valid point = record { ops = tt; outs = tt; exit = tt }

  -- ---- cases

  record CasesAre (base : List OpTree) (c : Cases) : Type 0 where
    valid : Valid frame c.ops
    grows : Grows base c.ops
    all : AllAreOperands frame [] c.ops 1 c.operands

  cases_are : (k : CType) (x : Operand) (labels : List Label) (ops : List OpTree) → LabelsFit k labels → Valid frame ops → Is frame ops (width k) x → CasesAre ops (cases k x labels ops)
  cases_are k x [] ops f h n = record { valid = h; grows = stays ops; all = tt }
  cases_are k x (l ∷ ls) ops f h n = at l.value f.0 (λ ops1 h1 n1. cases_are k x ls ops1 f.1 h1 n1) where
    at : (word : Option ℕ) → WordFits k word → ((ops1 : List OpTree) → Valid frame ops1 → Is frame ops1 (width k) x → CasesAre ops1 (cases k x ls ops1)) → CasesAre ops (case_or k x ops word (λ ops1. cases k x ls ops1))
    at None q ih = ih ops h n
    at (Some word) q ih =
        let op = plain o.Eq (width k) (x ∷ constant word ∷ []) in
        let y = added ops op in
        let g = added_gives frame ops op h (record { width = width_is k; flag = refl; guard = tt; acts = (refl, (n, (record { has = q; distance = refl }, tt))) }) in
        let r = ih y.ops g.valid (is_on frame ops y.ops g.grows (width k) x n) in
        let all = cases k x ls y.ops in
        record {
          valid = r.valid;
          grows = grows_on ops y.ops all.ops g.grows r.grows;
          all = (is_on frame y.ops all.ops r.grows 1 y.operand g.is_, r.all);
        }

module _ (scope : Scope) where
  abbrev pub IsValid : BlockTree → Type 0
  IsValid = BlockIsValid (frame_in scope)

  abbrev Added : List OpTree → ℕ → Emitted → Type 0
  Added = Gives (frame_in scope)

  value_gives : (b : BlockTree) (x : PureTree) (k : CType) → IsValid b → PureSuits scope x → PureIsProper scope.arrays x → Added b.ops (width k) (value_as b x k)
  value_gives b x k h z p =
      let e = emitted b.outs x b.ops [] in
      let f = emitted_is scope b.outs x b.ops [] z p h.outs h.ops tt in
      gives_on (frame_in scope) b.ops e.ops (width k) (value_as b x k) f.grows (assigned_gives (frame_in scope) e.ops e.given k f.valid f.given)

  pub set_valid : (v : VarId) (x : PureTree) (b : BlockTree) → IsValid b → PureSuits scope x → PureIsProper scope.arrays x → IsValid (set scope v x b)
  set_valid v x b h z p =
      let y = value_as b x (variable_type scope v) in
      let f = value_gives b x (variable_type scope v) h z p in
      let old = outs_on (frame_in scope) b.ops y.ops f.grows b.outs h.outs in
      record { ops = f.valid; outs = either (nat_lt v.0 (length scope.variables)) refl y.ops y.operand old f.is_; exit = exit_on (frame_in scope) b.ops y.ops f.grows b.exit h.exit } where
        either : (c : Bool) → nat_lt v.0 (length scope.variables) ≡ c → (ops : List OpTree) (y : Operand) → OutsAre (frame_in scope) ops b.outs → Is (frame_in scope) ops (width (variable_type scope v)) y
            → OutsAre (frame_in scope) ops (if c then with_out b.outs v y else b.outs)
        either true e ops y old is_ = with_out_are (frame_in scope) ops b.outs v y (width (variable_type scope v)) (there_typed scope v (ltb-true v.0 (length scope.variables) e)) old is_
        either false e ops y old is_ = old

  pub put_valid : (a : ArrayId) (subs : PureTrees) (x : PureTree) (at : Place) (b : BlockTree) → IsValid b → PieceSuits scope (tree.put a subs x at) → PieceIsProper scope.arrays (tree.put a subs x at) → IsValid (put scope a subs x at b)
  put_valid a subs x at b h z p =
      let k = element_type scope a in
      let m = memory_in z.0.0 in
      let s = emitted_all b.outs subs b.ops [] in
      let fs = emitted_all_is scope b.outs subs b.ops [] z.1 p.2 h.outs h.ops tt in
      let e = emitted b.outs x s.ops s.guards in
      let fe = emitted_is scope b.outs x s.ops s.guards z.2 p.3 (outs_on (frame_in scope) b.ops s.ops fs.grows b.outs h.outs) fs.valid fs.guards in
      let y = assigned e.ops e.given k in
      let fy = assigned_gives (frame_in scope) e.ops e.given k fe.valid fe.given in
      let g = grows_on s.ops e.ops y.ops fe.grows fy.grows in
      let op = flagged o.Store false (width k) (s.operands ++ y.operand ∷ []) (Some a) at None in
      let many : length s.operands ≡ length z.0.0.lengths = fs.many ∙ p.1 ∙ ap dimensions z.0.1 in
      let f = added_gives (frame_in scope) y.ops op fy.valid (record {
        width = width_is k;
        flag = refl;
        guard = tt;
        acts = (
          m,
          mapped memory_in scope.arrays a.0 z.0.0 z.0.1,
          record {
            bits = ap (λ (c : Option ArrayTree). width (kind_in c)) (sym z.0.1);
            changes = ap is_table (sym z.0.1) ∙ p.0;
            args = stored_are (frame_in scope) y.ops (width k) m.dims s.operands y.operand many (subs_on (frame_in scope) s.ops y.ops g s.operands fs.operands) fy.is_;
          },
        );
      }) in
      ops_valid (frame_in scope) (added y.ops op).ops b h f.valid (grows_on b.ops y.ops (added y.ops op).ops (grows_on b.ops s.ops y.ops fs.grows g) f.grows)

  -- ---- ends

  condition_gives : (x : PureTree) (b : BlockTree) → IsValid b → PureSuits scope x → PureIsProper scope.arrays x → Added b.ops 1 (condition x b)
  condition_gives x b h z p =
      let e = emitted b.outs x b.ops [] in
      let f = emitted_is scope b.outs x b.ops [] z p h.outs h.ops tt in
      gives_on (frame_in scope) b.ops e.ops 1 (condition x b) f.grows (tested_gives (frame_in scope) e.ops e.given f.valid f.given)

  pub test_valid : (x : PureTree) (b : BlockTree) → IsValid b → PureSuits scope x → PureIsProper scope.arrays x → IsValid (ends_by_test x b)
  test_valid x b h z p = either (is_live b) where
    either : (c : Bool) → IsValid (if c then lower.branching b (condition x b) else b)
    either true = let f = condition_gives x b h z p in record { ops = f.valid; outs = outs_on (frame_in scope) b.ops (condition x b).ops f.grows b.outs h.outs; exit = f.is_ }
    either false = h

  -- what is set behind operations
  record Set (base : List OpTree) (b : BlockTree) : Type 0 where
    valid : IsValid b
    grows : Grows base b.ops

  set_grown : (v : VarId) (x : PureTree) (base : List OpTree) (b : BlockTree) → PureSuits scope x → PureIsProper scope.arrays x → Set base b → Set base (set scope v x b)
  set_grown v x base b z p g =
      let f = value_gives b x (variable_type scope v) g.valid z p in record { valid = set_valid v x b g.valid z p; grows = grows_on base b.ops (set scope v x b).ops g.grows f.grows }

  all_grown : (parts : PieceTrees) (base : List OpTree) (b : BlockTree) → PiecesSuit scope parts → PiecesAreProper scope.arrays parts → Set base b → Set base (all_set scope parts b)
  all_grown tree.no_pieces base b z p g = g
  all_grown (tree.then_ (tree.set v x) rest) base b z p g = all_grown rest base (set scope v x b) z.1 p.1 (set_grown v x base b z.0 p.0 g)
  all_grown (tree.then_ (tree.put a s x at) rest) base b z p g = all_grown rest base b z.1 p.1 g
  all_grown (tree.then_ (tree.fork t l r e) rest) base b z p g = all_grown rest base b z.1 p.1 g
  all_grown (tree.then_ (tree.repeat_ i q f t y s e) rest) base b z p g = all_grown rest base b z.1 p.1 g
  all_grown (tree.then_ (tree.pick t l y e) rest) base b z p g = all_grown rest base b z.1 p.1 g
  all_grown (tree.then_ tree.break_ rest) base b z p g = all_grown rest base b z.1 p.1 g
  all_grown (tree.then_ tree.next_ rest) base b z p g = all_grown rest base b z.1 p.1 g
  all_grown (tree.then_ (tree.leave c) rest) base b z p g = all_grown rest base b z.1 p.1 g
  all_grown (tree.then_ (tree.land c e) rest) base b z p g = all_grown rest base b z.1 p.1 g
  all_grown (tree.then_ (tree.mark q) rest) base b z p g = all_grown rest base b z.1 p.1 g

  before_grown : (parts : PieceTrees) (base : List OpTree) (b : BlockTree) → PiecesSuit scope parts → PiecesAreProper scope.arrays parts → Set base b → Set base (set_before scope parts b)
  before_grown parts base b z p g = either (is_some (first_point parts)) where
    either : (c : Bool) → Set base (if c then b else all_set scope parts b)
    either true = g
    either false = all_grown parts base b z p g

  pub fork_valid : (x : PureTree) (left right : PieceTrees) (b : BlockTree) → IsValid b → PureSuits scope x → PiecesSuit scope left → PiecesSuit scope right
      → PureIsProper scope.arrays x → PiecesAreProper scope.arrays left → PiecesAreProper scope.arrays right → IsValid (ends_by_fork scope x left right b)
  fork_valid x left right b h z zl zr p pl pr = either (is_live b) where
    either : (c : Bool) → IsValid (if c then forking scope left right b (condition x b) else b)
    either true =
        let y = condition x b in
        let f = condition_gives x b h z p in
        let first : Set y.ops (with_ops y.ops b) = record { valid = ops_valid (frame_in scope) y.ops b h f.valid f.grows; grows = stays y.ops } in
        let all = before_grown right y.ops (set_before scope left (with_ops y.ops b)) zr pr (before_grown left y.ops (with_ops y.ops b) zl pl first) in
        let last = set_before scope right (set_before scope left (with_ops y.ops b)) in
        record { ops = all.valid.ops; outs = all.valid.outs; exit = is_on (frame_in scope) y.ops last.ops all.grows 1 y.operand f.is_ }
    either false = h

  pub cases_valid : (x : PureTree) (labels : List Label) (b : BlockTree) → IsValid b → PureSuits scope x → PureIsProper scope.arrays x → LabelsFit (promoted (kind x)) labels → IsValid (ends_by_cases x labels b)
  cases_valid x labels b h z p l = either (is_live b) where
    either : (c : Bool) → IsValid (if c then lower.switched (promoted (kind x)) labels b (lower.promoted_given (promoted (kind x)) (emitted b.outs x b.ops [])) else b)
    either true =
        let k = promoted (kind x) in
        let e = emitted b.outs x b.ops [] in
        let fe = emitted_is scope b.outs x b.ops [] z p h.outs h.ops tt in
        let y = balanced e.ops e.given k in
        let fy = balanced_gives (frame_in scope) e.ops e.given k fe.valid fe.given in
        let c = cases k y.operand labels y.ops in
        let fc = cases_are (frame_in scope) k y.operand labels y.ops l fy.valid fy.is_ in
        let g = grows_on b.ops e.ops c.ops fe.grows (grows_on e.ops y.ops c.ops fy.grows fc.grows) in
        record { ops = fc.valid; outs = outs_on (frame_in scope) b.ops c.ops g b.outs h.outs; exit = fc.all }
    either false = h
