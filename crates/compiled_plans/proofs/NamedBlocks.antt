-- Blocks that are open, their ends and their copies name what is there.
use Rattle.std.specs.Prelude.{◌==◌, nat_lt, is_some}
use Rattle.std.proofs.Common.{◌≡◌, ◌<◌, ℕ, Bool, true, false, refl, List, [], ◌∷◌, ◌++◌, length, Option, Some, None, if◌then◌else◌}
use Rattle.std.proofs.lemmas.Bool.{ltb-true}
use Rattle.hls_base.specs.declared.place.Place.{Place}
use Rattle.hls_base.specs.declared.number.ArrayId.{ArrayId}
use Rattle.hls_base.specs.declared.number.VarId.{VarId}
use Rattle.hls_base.specs.declared.point.Point.{Point}
use Rattle.c_token.specs.declared.ctype.CType.{CType}
use Rattle.c_value.specs.Values.{width, promoted}
use Rattle.pieces.specs.declared.piece.Label.{Label}
use Rattle.pieces.specs.Trees as tree
use Rattle.pieces.specs.Trees.{PureTree, PureTrees, PieceTrees}
use Rattle.pieces.specs.Kind.{kind}
use Rattle.ir_core.specs.declared.body.OpKind.TheVariants as o
use Rattle.ir_core.specs.declared.body.Operand.{Operand}
use Rattle.ir_core.specs.declared.body.Out.{Out}
use Rattle.ir_core.specs.Bodies.{OpTree}
use Rattle.ir_core.specs.Trees.{ExitTree, BlockTree, BodyTree, SequenceTree, sequence, PartTrees, no_part, more_parts}
use Rattle.passes.specs.Lowering.Operations.{Emitted, added, constant, plain, flagged, assigned, balanced}
use Rattle.passes.specs.Lowering.Outs.{operand_eq, held, without, own_out, with_out}
use Rattle.passes.specs.Lowering.Shapes.{first_point}
use Rattle.passes.specs.Lowering.Expressions.{emitted, emitted_all}
use Rattle.passes.specs.Lowering.Blocks as lower
use Rattle.passes.specs.Lowering.Blocks.{Scope, variable_type, element_type, begun, is_live, with_exit, with_ops, value_as, set, put, condition, ends_by_test, all_set, set_before, forking, ends_by_fork, Cases, case_or, cases, ends_by_cases}
use Rattle.passes.specs.Lowering.Copies.{Fixed, Copied, needs_copy, own_operand, with_own, copied_out, copied_outs, copied_block, copied_parts, copied, fixed_in, fixed_behind, fixed_behind_shape, parts_set}
use Rattle.pass_runs.specs.ConvertRuns.LoweredConversions.Suiting.{PureSuits, PieceSuits, PiecesSuit}
use Rattle.sound_trees.specs.Trees.{SequenceHas, PartsHave}
use Rattle.compiled_plans.specs.Operations.{PutsNoTable, AllNamed, OutsNamed, ExitNamed, BlockNamed}
use Rattle.compiled_plans.proofs.NamedAdding.{width_small, IsNamed, OpsNamed, Gives, added_gives, tested_gives, assigned_gives, balanced_gives}
use Rattle.compiled_plans.proofs.NamedExpressions.{many, emitted_named, emitted_all_named}

module _ (scope : Scope) where
  abbrev Outs : List Out → Type 0
  Outs = OutsNamed (many scope) scope.arrays

  abbrev Named : Operand → Type 0
  Named = IsNamed (many scope) scope.arrays

  abbrev Ops : List OpTree → Type 0
  Ops = OpsNamed (many scope) scope.arrays

  abbrev pub B : BlockTree → Type 0
  B = BlockNamed (many scope) scope.arrays

  abbrev Made : Emitted → Type 0
  Made = Gives (many scope) scope.arrays

  -- ---- outs

  without_named : (xs : List Out) (v : VarId) → Outs xs → Outs (without xs v)
  without_named [] v h = tt
  without_named (x ∷ xs) v h = either (x.variable.0 == v.0) (without_named xs v h.1) where
    either : (c : Bool) → Outs (without xs v) → Outs (if c then without xs v else x ∷ without xs v)
    either true q = q
    either false q = (h.0, q)

  outs_append : (xs ys : List Out) → Outs xs → Outs ys → Outs (xs ++ ys)
  outs_append [] ys h k = k
  outs_append (x ∷ xs) ys h k = (h.0, outs_append xs ys h.1 k)

  own_named : (v : VarId) (x : Operand) → v.0 < many scope → Named x → Outs (own_out v x)
  own_named v x l n = either (operand_eq x (held [] v)) where
    either : (c : Bool) → Outs (if c then [] else record { variable = v; value = x } ∷ [])
    either true = tt
    either false = ((l, n), tt)

  with_out_named : (xs : List Out) (v : VarId) (x : Operand) → Outs xs → v.0 < many scope → Named x → Outs (with_out xs v x)
  with_out_named xs v x h l n = either (operand_eq (held xs v) x) where
    either : (c : Bool) → Outs (if c then xs else without xs v ++ own_out v x)
    either true = h
    either false = outs_append (without xs v) (own_out v x) (without_named xs v h) (own_named v x l n)

  args_append : (xs ys : List Operand) → AllNamed (many scope) scope.arrays xs → AllNamed (many scope) scope.arrays ys → AllNamed (many scope) scope.arrays (xs ++ ys)
  args_append [] ys h k = k
  args_append (x ∷ xs) ys h k = (h.0, args_append xs ys h.1 k)

  pub begun_named : (point : Point) → B (begun point)
  begun_named point = record { ops = tt; outs = tt; exit = tt }

  pub exit_named : (e : ExitTree) (b : BlockTree) → B b → ExitNamed (many scope) scope.arrays e → B (with_exit e b)
  exit_named e b h n = either (is_live b) where
    either : (c : Bool) → B (if c then record b { exit = e } else b)
    either true = record { ops = h.ops; outs = h.outs; exit = n }
    either false = h

  -- ---- settings

  value_gives : (b : BlockTree) (x : PureTree) (k : CType) → B b → PureSuits scope x → Made (value_as b x k)
  value_gives b x k h z =
      let e = emitted b.outs x b.ops [] in
      let r = emitted_named scope b.outs x b.ops [] z h.outs h.ops tt in
      assigned_gives (many scope) scope.arrays e.ops e.given k r.ops r.given

  pub set_named : (v : VarId) (x : PureTree) (b : BlockTree) → B b → PureSuits scope x → B (set scope v x b)
  set_named v x b h z =
      let y = value_as b x (variable_type scope v) in
      let g = value_gives b x (variable_type scope v) h z in
      record { ops = g.ops; outs = outs_if (nat_lt v.0 (length scope.variables)) refl y.operand g.given; exit = h.exit } where
        outs_if : (c : Bool) → nat_lt v.0 (length scope.variables) ≡ c → (y : Operand) → Named y → Outs (if c then with_out b.outs v y else b.outs)
        outs_if true e y n = with_out_named b.outs v y h.outs (ltb-true v.0 (length scope.variables) e) n
        outs_if false e y n = h.outs

  pub put_named : (a : ArrayId) (subs : PureTrees) (x : PureTree) (at : Place) (b : BlockTree) → B b → PieceSuits scope (tree.put a subs x at) → PutsNoTable scope.arrays (tree.put a subs x at) → B (put scope a subs x at b)
  put_named a subs x at b h z w =
      let k = element_type scope a in
      let s = emitted_all b.outs subs b.ops [] in
      let rs = emitted_all_named scope b.outs subs b.ops [] z.1 h.outs h.ops tt in
      let e = emitted b.outs x s.ops s.guards in
      let re = emitted_named scope b.outs x s.ops s.guards z.2 h.outs rs.ops rs.guards in
      let y = assigned e.ops e.given k in
      let ry = assigned_gives (many scope) scope.arrays e.ops e.given k re.ops re.given in
      let op = flagged o.Store false (width k) (s.operands ++ y.operand ∷ []) (Some a) at None in
      let g = added_gives (many scope) scope.arrays y.ops op ry.ops (record {
        args = args_append s.operands (y.operand ∷ []) rs.operands (ry.given, tt);
        guard = tt;
        bits = width_small k;
        access = (a, (refl, (z.0.0, (z.0.1, w z.0.0 z.0.1))));
      }) in
      record { ops = g.ops; outs = h.outs; exit = h.exit }

  -- ---- ends

  condition_gives : (x : PureTree) (b : BlockTree) → B b → PureSuits scope x → Made (condition x b)
  condition_gives x b h z =
      let e = emitted b.outs x b.ops [] in
      let r = emitted_named scope b.outs x b.ops [] z h.outs h.ops tt in
      tested_gives (many scope) scope.arrays e.ops e.given r.ops r.given

  pub test_named : (x : PureTree) (b : BlockTree) → B b → PureSuits scope x → B (ends_by_test x b)
  test_named x b h z = either (is_live b) where
    either : (c : Bool) → B (if c then lower.branching b (condition x b) else b)
    either true = let g = condition_gives x b h z in record { ops = g.ops; outs = h.outs; exit = g.given }
    either false = h

  all_named : (parts : PieceTrees) (b : BlockTree) → PiecesSuit scope parts → B b → B (all_set scope parts b)
  all_named tree.no_pieces b z h = h
  all_named (tree.then_ (tree.set v x) rest) b z h = all_named rest (set scope v x b) z.1 (set_named v x b h z.0)
  all_named (tree.then_ (tree.put a i x at) rest) b z h = all_named rest b z.1 h
  all_named (tree.then_ (tree.fork t l r e) rest) b z h = all_named rest b z.1 h
  all_named (tree.then_ (tree.repeat_ i p f t y u e) rest) b z h = all_named rest b z.1 h
  all_named (tree.then_ (tree.pick t l y e) rest) b z h = all_named rest b z.1 h
  all_named (tree.then_ tree.break_ rest) b z h = all_named rest b z.1 h
  all_named (tree.then_ tree.next_ rest) b z h = all_named rest b z.1 h
  all_named (tree.then_ (tree.leave c) rest) b z h = all_named rest b z.1 h
  all_named (tree.then_ (tree.land c e) rest) b z h = all_named rest b z.1 h
  all_named (tree.then_ (tree.mark p) rest) b z h = all_named rest b z.1 h

  before_named : (parts : PieceTrees) (b : BlockTree) → PiecesSuit scope parts → B b → B (set_before scope parts b)
  before_named parts b z h = either (is_some (first_point parts)) where
    either : (c : Bool) → B (if c then b else all_set scope parts b)
    either true = h
    either false = all_named parts b z h

  pub fork_named : (x : PureTree) (left right : PieceTrees) (b : BlockTree) → B b → PureSuits scope x → PiecesSuit scope left → PiecesSuit scope right → B (ends_by_fork scope x left right b)
  fork_named x left right b h z zl zr = either (is_live b) where
    either : (c : Bool) → B (if c then forking scope left right b (condition x b) else b)
    either true =
        let y = condition x b in
        let g = condition_gives x b h z in
        let first : B (with_ops y.ops b) = record { ops = g.ops; outs = h.outs; exit = h.exit } in
        let all = before_named right (set_before scope left (with_ops y.ops b)) zr (before_named left (with_ops y.ops b) zl first) in
        record { ops = all.ops; outs = all.outs; exit = g.given }
    either false = h

  -- ---- cases

  record CasesNamed (c : Cases) : Type 0 where
    ops : Ops c.ops
    given : AllNamed (many scope) scope.arrays c.operands

  cases_named : (k : CType) (x : Operand) (labels : List Label) (ops : List OpTree) → Ops ops → Named x → CasesNamed (cases k x labels ops)
  cases_named k x [] ops h n = record { ops = h; given = tt }
  cases_named k x (l ∷ ls) ops h n = at l.value (λ ops1 h1. cases_named k x ls ops1 h1 n) where
    at : (word : Option ℕ) → ((ops1 : List OpTree) → Ops ops1 → CasesNamed (cases k x ls ops1)) → CasesNamed (case_or k x ops word (λ ops1. cases k x ls ops1))
    at None ih = ih ops h
    at (Some word) ih =
        let op = plain o.Eq (width k) (x ∷ constant word ∷ []) in
        let g = added_gives (many scope) scope.arrays ops op h (record { args = (n, (tt, tt)); guard = tt; bits = width_small k; access = tt }) in
        let r = ih (added ops op).ops g.ops in
        record { ops = r.ops; given = (g.given, r.given) }

  pub ends_named : (x : PureTree) (labels : List Label) (b : BlockTree) → B b → PureSuits scope x → B (ends_by_cases x labels b)
  ends_named x labels b h z = either (is_live b) where
    either : (c : Bool) → B (if c then lower.switched (promoted (kind x)) labels b (lower.promoted_given (promoted (kind x)) (emitted b.outs x b.ops [])) else b)
    either true =
        let k = promoted (kind x) in
        let e = emitted b.outs x b.ops [] in
        let r = emitted_named scope b.outs x b.ops [] z h.outs h.ops tt in
        let y = balanced e.ops e.given k in
        let ry = balanced_gives (many scope) scope.arrays e.ops e.given k r.ops r.given in
        let c = cases_named k y.operand labels y.ops ry.ops ry.given in
        record { ops = c.ops; outs = h.outs; exit = c.given }
    either false = h

  -- ---- copies

  record CopiedNamed (s : Copied) : Type 0 where
    ops : Ops s.ops
    outs : Outs s.outs

  own_gives : (fixed : Fixed) (s : Copied) (x : Out) → Ops s.ops → Named x.value → Made (own_operand scope fixed s x)
  own_gives fixed s x h n = either (needs_copy fixed s.taken x.value x.value.value) where
    either : (c : Bool) → Made (if c then added s.ops (plain o.Copy (width (variable_type scope x.variable)) (x.value ∷ [])) else record { ops = s.ops; operand = x.value })
    either true =
        added_gives (many scope) scope.arrays s.ops (plain o.Copy (width (variable_type scope x.variable)) (x.value ∷ [])) h (record { args = (n, tt); guard = tt; bits = width_small (variable_type scope x.variable); access = tt })
    either false = record { ops = h; given = n }

  out_copied : (later : PartTrees) (fixed : Fixed) (s : Copied) (x : Out) → CopiedNamed s → x.variable.0 < many scope → Named x.value → CopiedNamed (copied_out scope later fixed s x)
  out_copied later fixed s x f l n = either (parts_set later x.variable) where
    either : (c : Bool) → CopiedNamed (if c then record s { outs = s.outs ++ x ∷ [] } else with_own x.variable s (own_operand scope fixed s x))
    either true = record { ops = f.ops; outs = outs_append s.outs (x ∷ []) f.outs ((l, n), tt) }
    either false =
        let y = own_operand scope fixed s x in
        let r = own_gives fixed s x f.ops n in
        record { ops = r.ops; outs = outs_append s.outs (record { variable = x.variable; value = y.operand } ∷ []) f.outs ((l, r.given), tt) }

  outs_copied : (later : PartTrees) (fixed : Fixed) (s : Copied) (xs : List Out) → CopiedNamed s → Outs xs → CopiedNamed (copied_outs scope later fixed s xs)
  outs_copied later fixed s [] f h = f
  outs_copied later fixed s (x ∷ xs) f h = outs_copied later fixed (copied_out scope later fixed s x) xs (out_copied later fixed s x f h.0.0 h.0.1) h.1

  block_copied : (later : PartTrees) (variables : VarId → Bool) (b : BlockTree) → B b → B (copied_block scope later variables b)
  block_copied later variables b h =
      let f = outs_copied later (fixed_in variables b) (record { ops = b.ops; outs = []; taken = [] }) b.outs (record { ops = h.ops; outs = tt }) h.outs in record { ops = f.ops; outs = f.outs; exit = h.exit }

  module _ (L : SequenceTree → SequenceTree → Type 0) (O : BodyTree → Type 0) where
    parts_copied : (variables : VarId → Bool) (ps : PartTrees) → PartsHave B L O ps → PartsHave B L O (copied_parts scope variables ps)
    parts_copied variables no_part h = tt
    parts_copied variables (more_parts shape after rest) h =
        (h.0, block_copied rest (fixed_behind_shape shape variables) after h.1, parts_copied (fixed_behind rest (fixed_behind_shape shape variables) after) rest h.2)

    pub copies_named : (s : SequenceTree) → SequenceHas B L O s → SequenceHas B L O (copied scope s)
    copies_named (sequence first rest) h = (block_copied rest (λ v. false) first h.0, parts_copied (fixed_behind rest (λ v. false) first) rest h.1)
