-- The blocks of pieces whose jumps lead somewhere are left as what stands behind them asks.
use Rattle.std.proofs.Common.{◌≡◌, ℕ, suc, ◌+◌, Bool, true, false, ◌&&◌, refl, ap, sym, subst, List, [], ◌∷◌, length, Option, Some, None, if◌then◌else◌}
use Rattle.std.specs.Prelude.{◌==◌}
use Rattle.hls_base.specs.declared.point.Point.{Point}
use Rattle.hls_base.specs.declared.number.VarId.{VarId}
use Rattle.pieces.specs.declared.piece.Label.{Label}
use Rattle.pieces.specs.Trees as tree
use Rattle.pieces.specs.Trees.{PureTree, PieceTree, PieceTrees}
use Rattle.pieces.specs.Weight.{weight}
use Rattle.c_token.specs.declared.ctype.CType.{CType}
use Rattle.c_value.specs.Values.{width, promoted}
use Rattle.pieces.specs.Kind.{kind}
use Rattle.ir_core.specs.declared.body.OpKind.TheVariants as o
use Rattle.ir_core.specs.declared.body.Operand.{Operand}
use Rattle.ir_core.specs.Bodies.{OpTree}
use Rattle.passes.specs.Lowering.Operations.{Emitted, added, constant, plain}
use Rattle.passes.specs.Lowering.Expressions.{emitted}
use Rattle.ir_core.specs.Trees.{ExitTree, next, branch, choose, break_, continue_, leave, BlockTree, SequenceTree, sequence, PartTrees, no_part, more_parts, ShapeTree, fork, land, more_arms}
use Rattle.passes.specs.Lowering.Shapes.{is_straight, is_eligible, first_point, or_at, point_of, any_continues}
use Rattle.passes.specs.Lowering.Blocks.{Scope, begun, is_live, with_exit, set, put, condition, ends_by_test, all_set, forking, ends_by_fork, case_or, cases, promoted_given, switched, ends_by_cases}
use Rattle.passes.specs.Lowering.Copies.{copied_parts, fixed_behind, fixed_behind_shape}
use Rattle.passes.specs.Lowering.{Rest, last, followed, parts_of, land_of, side_from, with_copies, own_step, stepped, is_named, arm_of, with_target, targets, piece_count, lowered, lowered_piece, before_arm, arms}
use Rattle.ir_layout.specs.WellFormed.{Ahead, one_way, a_test, a_switch, Inside, has_number, ExitFits, ahead_of, ahead_of_parts, with_land, lands_in, before_parts, in_test, in_body, in_step, in_arm, StepFits, SequenceFits, PartsFit, ShapeFits, SideFits, ArmsFit}
use Rattle.pass_runs.specs.LowerRuns.LoweredTrees.Fitting.{ends_in, ends_before_arm, with_ends, StepIsThere, PieceFits, PiecesFit, ArmPiecesFit}

-- ---- jumps

-- a block that goes on, or jumps to where it may
abbrev JumpFits : Inside → ExitTree → Type 0
JumpFits inside next = Unit {0}
JumpFits inside break_ = inside.leave ≡ true
JumpFits inside continue_ = inside.again ≡ true
JumpFits inside (leave number) = has_number inside.lands number.0 ≡ true
JumpFits inside (branch test) = ⊥
JumpFits inside (choose cases) = ⊥

jump_exit : (inside : Inside) (ahead : Ahead) (e : ExitTree) → JumpFits inside e → ExitFits inside ahead e
jump_exit inside ahead next h = tt
jump_exit inside ahead break_ h = h
jump_exit inside ahead continue_ h = h
jump_exit inside ahead (leave number) h = h
jump_exit inside ahead (branch test) h = absurd h
jump_exit inside ahead (choose cases) h = absurd h

-- the same in places to which more leads
record IsWider (inside outside : Inside) : Type 0 where
  leave : inside.leave ≡ true → outside.leave ≡ true
  again : inside.again ≡ true → outside.again ≡ true
  lands : (n : ℕ) → has_number inside.lands n ≡ true → has_number outside.lands n ≡ true

jump_wider : (inside outside : Inside) (e : ExitTree) → IsWider inside outside → JumpFits inside e → JumpFits outside e
jump_wider inside outside next w h = tt
jump_wider inside outside break_ w h = w.leave h
jump_wider inside outside continue_ w h = w.again h
jump_wider inside outside (leave number) w h = w.lands number.0 h
jump_wider inside outside (branch test) w h = absurd h
jump_wider inside outside (choose cases) w h = absurd h

-- ---- pieces of a step also fit behind a body

has_more : (x n : ℕ) (xs ys : List ℕ) → (has_number xs n ≡ true → has_number ys n ≡ true) → has_number (x ∷ xs) n ≡ true → has_number (x ∷ ys) n ≡ true
has_more x n xs ys h = either (n == x) where
  either : (c : Bool) → (if c then true else has_number xs n) ≡ true → (if c then true else has_number ys n) ≡ true
  either true e = refl
  either false e = h e

ends_wider : (pieces : PieceTrees) (xs ys : List ℕ) → ((n : ℕ) → has_number xs n ≡ true → has_number ys n ≡ true) → (n : ℕ) → has_number (ends_in pieces xs) n ≡ true → has_number (ends_in pieces ys) n ≡ true
ends_wider tree.no_pieces xs ys h = h
ends_wider (tree.then_ (tree.land call end) rest) xs ys h = λ n. has_more call.0 n (ends_in rest xs) (ends_in rest ys) (ends_wider rest xs ys h n)
ends_wider (tree.then_ (tree.set v x) rest) xs ys h = ends_wider rest xs ys h
ends_wider (tree.then_ (tree.put a s x at) rest) xs ys h = ends_wider rest xs ys h
ends_wider (tree.then_ (tree.fork t l r e) rest) xs ys h = ends_wider rest xs ys h
ends_wider (tree.then_ (tree.repeat_ i p f t y s e) rest) xs ys h = ends_wider rest xs ys h
ends_wider (tree.then_ (tree.pick t l y e) rest) xs ys h = ends_wider rest xs ys h
ends_wider (tree.then_ tree.break_ rest) xs ys h = ends_wider rest xs ys h
ends_wider (tree.then_ tree.next_ rest) xs ys h = ends_wider rest xs ys h
ends_wider (tree.then_ (tree.leave c) rest) xs ys h = ends_wider rest xs ys h
ends_wider (tree.then_ (tree.mark p) rest) xs ys h = ends_wider rest xs ys h

-- ---- blocks keep their exits

same_if : {A : Type 0} (f : BlockTree → A) (c : Bool) (x y : BlockTree) → f x ≡ f y → f (if c then x else y) ≡ f y
same_if f true x y e = e
same_if f false x y e = refl

with_exit_fits : (inside : Inside) (e : ExitTree) (b : BlockTree) → JumpFits inside e → JumpFits inside b.exit → JumpFits inside (with_exit e b).exit
with_exit_fits inside e b h g = either (is_live b) where
  either : (c : Bool) → JumpFits inside (if c then record b { exit = e } else b).exit
  either true = h
  either false = g

-- a block that ends by a test, or jumps
test_fits : (inside : Inside) (x : PureTree) (b : BlockTree) → JumpFits inside b.exit → ExitFits inside a_test (ends_by_test x b).exit
test_fits inside x b h = either (is_live b) where
  either : (c : Bool) → ExitFits inside a_test (if c then record b { ops = (condition x b).ops; exit = branch (condition x b).operand } else b).exit
  either true = tt
  either false = jump_exit inside a_test b.exit h

-- ---- copies

blocks_behind : (scope : Scope) (variables : VarId → Bool) (inside : Inside) (ahead : Ahead) (ps : PartTrees) → (lands_in (copied_parts scope variables ps) inside.lands ≡ lands_in ps inside.lands) × (ahead_of_parts (copied_parts scope variables ps) ahead ≡ ahead_of_parts ps ahead)
blocks_behind scope variables inside ahead no_part = (refl, refl)
blocks_behind scope variables inside ahead (more_parts shape after rest) =
    (ap (with_land shape) (blocks_behind scope (fixed_behind rest (fixed_behind_shape shape variables) after) inside ahead rest).0, refl)

copied_exit : (scope : Scope) (variables : VarId → Bool) (inside : Inside) (ahead : Ahead) (ps : PartTrees) (e : ExitTree) → ExitFits (before_parts ps inside) (ahead_of_parts ps ahead) e
    → ExitFits (before_parts (copied_parts scope variables ps) inside) (ahead_of_parts (copied_parts scope variables ps) ahead) e
copied_exit scope variables inside ahead ps e h =
    let s = blocks_behind scope variables inside ahead ps in
    subst (λ a. ExitFits (before_parts (copied_parts scope variables ps) inside) a e) (sym s.1) (subst (λ l. ExitFits (with_ends l inside) (ahead_of_parts ps ahead) e) (sym s.0) h)

parts_fit : (scope : Scope) (variables : VarId → Bool) (inside : Inside) (ahead : Ahead) (ps : PartTrees) → PartsFit inside ahead ps → PartsFit inside ahead (copied_parts scope variables ps)
parts_fit scope variables inside ahead no_part h = tt
parts_fit scope variables inside ahead (more_parts shape after rest) h =
    let v = fixed_behind rest (fixed_behind_shape shape variables) after in (
      subst (λ l. ShapeFits (with_ends l inside) shape) (sym (blocks_behind scope v inside ahead rest).0) h.0,
      copied_exit scope v inside ahead rest after.exit h.1,
      parts_fit scope v inside ahead rest h.2,
    )

copied_fits : (scope : Scope) (inside : Inside) (ahead : Ahead) (c : Bool) (s : SequenceTree) → SequenceFits inside ahead s → SequenceFits inside ahead (with_copies c scope s)
copied_fits scope inside ahead false s h = h
copied_fits scope inside ahead true (sequence first rest) h =
    let v = fixed_behind rest (λ v. false) first in (copied_exit scope v inside ahead rest first.exit h.0, parts_fit scope v inside ahead rest h.1)

-- ---- sequences

-- what becomes of an open block: behind it stand these ends of calls
record RestFits (rest : Rest) (inside : Inside) (ahead : Ahead) (lands : List ℕ) : Type 0 where
  same : (b : BlockTree) → lands_in (parts_of (rest b)) inside.lands ≡ lands
  fits : (b : BlockTree) → JumpFits (with_ends lands inside) b.exit → SequenceFits inside ahead (rest b)

last_fits : (inside : Inside) (ahead : Ahead) → RestFits last inside ahead inside.lands
last_fits inside ahead = record { same = λ b. refl; fits = λ b h. (jump_exit inside ahead b.exit h, tt) }

followed_fits : (inside : Inside) (ahead : Ahead) (lands : List ℕ) (b : BlockTree) (shape : ShapeTree) (s : SequenceTree) → lands_in (parts_of s) inside.lands ≡ lands → SequenceFits inside ahead s
    → ExitFits (with_ends (with_land shape lands) inside) (ahead_of shape) b.exit → ShapeFits (with_ends lands inside) shape → SequenceFits inside ahead (followed b shape s)
followed_fits inside ahead lands b shape (sequence first rest) e h g k = (
  subst (λ l. ExitFits (with_ends (with_land shape l) inside) (ahead_of shape) b.exit) (sym e) g,
  (subst (λ l. ShapeFits (with_ends l inside) shape) (sym e) k, h.0, h.1),
)

followed_lands : (inside : Inside) (lands : List ℕ) (b : BlockTree) (shape : ShapeTree) (s : SequenceTree) → lands_in (parts_of s) inside.lands ≡ lands → lands_in (parts_of (followed b shape s)) inside.lands ≡ with_land shape lands
followed_lands inside lands b shape (sequence first rest) e = ap (with_land shape) e

-- a sequence that one way leads behind
side_fits : (inside : Inside) (blocks : Rest) (point : Option Point) → ((p : Point) → SequenceFits inside one_way (blocks (begun p))) → SideFits inside (side_from blocks point)
side_fits inside blocks None h = tt
side_fits inside blocks (Some point) h = h point

-- ---- ends of blocks

-- a block that ends by a fork, or jumps
before_exit : (scope : Scope) (pieces : PieceTrees) (b : BlockTree) → (all_set scope pieces b).exit ≡ b.exit
before_exit scope tree.no_pieces b = refl
before_exit scope (tree.then_ (tree.set v x) rest) b = before_exit scope rest (set scope v x b)
before_exit scope (tree.then_ (tree.put a s x at) rest) b = before_exit scope rest b
before_exit scope (tree.then_ (tree.fork t l r e) rest) b = before_exit scope rest b
before_exit scope (tree.then_ (tree.repeat_ i p f t y s e) rest) b = before_exit scope rest b
before_exit scope (tree.then_ (tree.pick t l y e) rest) b = before_exit scope rest b
before_exit scope (tree.then_ tree.break_ rest) b = before_exit scope rest b
before_exit scope (tree.then_ tree.next_ rest) b = before_exit scope rest b
before_exit scope (tree.then_ (tree.leave c) rest) b = before_exit scope rest b
before_exit scope (tree.then_ (tree.land c e) rest) b = before_exit scope rest b
before_exit scope (tree.then_ (tree.mark p) rest) b = before_exit scope rest b

fork_fits : (scope : Scope) (inside : Inside) (x : PureTree) (left right : PieceTrees) (b : BlockTree) → JumpFits inside b.exit → ExitFits inside a_test (ends_by_fork scope x left right b).exit
fork_fits scope inside x left right b h = either (is_live b) where
  either : (c : Bool) → ExitFits inside a_test (if c then forking scope left right b (condition x b) else b).exit
  either true = tt
  either false = jump_exit inside a_test b.exit h

case_count : (k : CType) (x : Operand) (all : List Label) (pieces : ℕ) (labels : List Label) (ops : List OpTree) → length (cases k x labels ops).operands ≡ length (targets all pieces labels)
case_count k x all pieces [] ops = refl
case_count k x all pieces (l ∷ ls) ops = at l.value (λ ops1. case_count k x all pieces ls ops1) where
  at : (word : Option ℕ) → ((ops1 : List OpTree) → length (cases k x ls ops1).operands ≡ length (targets all pieces ls)) → length (case_or k x ops word (λ ops1. cases k x ls ops1)).operands ≡ length (with_target word (arm_of all pieces l) (targets all pieces ls))
  at None ih = ih ops
  at (Some word) ih = ap suc (ih (added ops (plain o.Eq (width k) (x ∷ constant word ∷ []))).ops)

cases_fit : (inside : Inside) (x : PureTree) (labels : List Label) (pieces : ℕ) (b : BlockTree) → JumpFits inside b.exit → ExitFits inside (a_switch (length (targets labels pieces labels))) (ends_by_cases x labels b).exit
cases_fit inside x labels pieces b h = either (is_live b) where
  k : CType
  k = promoted (kind x)

  y : Emitted
  y = promoted_given (promoted (kind x)) (emitted b.outs x b.ops [])

  either : (c : Bool) → ExitFits inside (a_switch (length (targets labels pieces labels))) (if c then switched (promoted (kind x)) labels b (promoted_given (promoted (kind x)) (emitted b.outs x b.ops [])) else b).exit
  either true =
      let z = promoted_given (promoted (kind x)) (emitted b.outs x b.ops []) in
      case_count (promoted (kind x)) z.operand labels pieces labels z.ops
  either false = jump_exit inside (a_switch (length (targets labels pieces labels))) b.exit h

-- ---- the step of a loop

step_wider : (inside : Inside) → IsWider (in_step inside) (in_body inside)
step_wider inside = record { leave = λ e. e; again = λ e. refl; lands = λ n e. e }

if_fits : (inside : Inside) (c : Bool) (x y : BlockTree) → JumpFits inside x.exit → JumpFits inside y.exit → JumpFits inside (if c then x else y).exit
if_fits inside true x y h g = h
if_fits inside false x y h g = g

ends_same : (inside : Inside) → with_ends inside.lands inside ≡ inside
ends_same inside = refl

wider_ends : (inside outside : Inside) (xs ys : List ℕ) → IsWider inside outside → ((n : ℕ) → has_number xs n ≡ true → has_number ys n ≡ true) → IsWider (with_ends xs inside) (with_ends ys outside)
wider_ends inside outside xs ys w h = record { leave = w.leave; again = w.again; lands = h }

either_number : (c : Bool) (n : ℕ) (xs ys xs' ys' : List ℕ) → (has_number xs n ≡ true → has_number ys n ≡ true) → (has_number xs' n ≡ true → has_number ys' n ≡ true) → has_number (if c then xs else xs') n ≡ true → has_number (if c then ys else ys') n ≡ true
either_number true n xs ys xs' ys' h g e = h e
either_number false n xs ys xs' ys' h g e = g e

arm_ends_wider : (labels : List Label) (i : ℕ) (pieces : PieceTrees) (xs ys : List ℕ) → ((n : ℕ) → has_number xs n ≡ true → has_number ys n ≡ true) → (n : ℕ) → has_number (ends_before_arm labels i pieces xs) n ≡ true → has_number (ends_before_arm labels i pieces ys) n ≡ true
arm_ends_wider labels i tree.no_pieces xs ys h n = h n
arm_ends_wider labels i (tree.then_ (tree.land call end) rest) xs ys h n =
    let more = ends_before_arm labels (i + 1) rest in either_number (is_named labels i) n xs ys (call.0 ∷ more xs) (call.0 ∷ more ys) (h n) (has_more call.0 n (more xs) (more ys) (arm_ends_wider labels (i + 1) rest xs ys h n))
arm_ends_wider labels i (tree.then_ (tree.set v x) rest) xs ys h n =
    let more = ends_before_arm labels (i + 1) rest in either_number (is_named labels i) n xs ys (more xs) (more ys) (h n) (arm_ends_wider labels (i + 1) rest xs ys h n)
arm_ends_wider labels i (tree.then_ (tree.put a s x at) rest) xs ys h n =
    let more = ends_before_arm labels (i + 1) rest in either_number (is_named labels i) n xs ys (more xs) (more ys) (h n) (arm_ends_wider labels (i + 1) rest xs ys h n)
arm_ends_wider labels i (tree.then_ (tree.fork t l r e) rest) xs ys h n =
    let more = ends_before_arm labels (i + 1) rest in either_number (is_named labels i) n xs ys (more xs) (more ys) (h n) (arm_ends_wider labels (i + 1) rest xs ys h n)
arm_ends_wider labels i (tree.then_ (tree.repeat_ j p f t y s e) rest) xs ys h n =
    let more = ends_before_arm labels (i + 1) rest in either_number (is_named labels i) n xs ys (more xs) (more ys) (h n) (arm_ends_wider labels (i + 1) rest xs ys h n)
arm_ends_wider labels i (tree.then_ (tree.pick t l y e) rest) xs ys h n =
    let more = ends_before_arm labels (i + 1) rest in either_number (is_named labels i) n xs ys (more xs) (more ys) (h n) (arm_ends_wider labels (i + 1) rest xs ys h n)
arm_ends_wider labels i (tree.then_ tree.break_ rest) xs ys h n =
    let more = ends_before_arm labels (i + 1) rest in either_number (is_named labels i) n xs ys (more xs) (more ys) (h n) (arm_ends_wider labels (i + 1) rest xs ys h n)
arm_ends_wider labels i (tree.then_ tree.next_ rest) xs ys h n =
    let more = ends_before_arm labels (i + 1) rest in either_number (is_named labels i) n xs ys (more xs) (more ys) (h n) (arm_ends_wider labels (i + 1) rest xs ys h n)
arm_ends_wider labels i (tree.then_ (tree.leave c) rest) xs ys h n =
    let more = ends_before_arm labels (i + 1) rest in either_number (is_named labels i) n xs ys (more xs) (more ys) (h n) (arm_ends_wider labels (i + 1) rest xs ys h n)
arm_ends_wider labels i (tree.then_ (tree.mark p) rest) xs ys h n =
    let more = ends_before_arm labels (i + 1) rest in either_number (is_named labels i) n xs ys (more xs) (more ys) (h n) (arm_ends_wider labels (i + 1) rest xs ys h n)

mutual
  piece_wider : (inside outside : Inside) (piece : PieceTree) → IsWider inside outside → PieceFits inside piece → PieceFits outside piece
  piece_wider inside outside tree.break_ w h = w.leave h
  piece_wider inside outside tree.next_ w h = w.again h
  piece_wider inside outside (tree.leave call) w h = w.lands call.0 h
  piece_wider inside outside (tree.fork t l r e) w h = (pieces_wider inside outside l w h.0, pieces_wider inside outside r w h.1)
  piece_wider inside outside (tree.repeat_ i post before t body step e) w h = (
    h.0,
    pieces_wider (in_body inside) (in_body outside) body (record { leave = λ e. e; again = λ e. e; lands = w.lands }) h.1,
    pieces_wider (in_step inside) (in_step outside) step (record { leave = λ e. e; again = λ e. e; lands = w.lands }) h.2,
    h.3,
  )
  piece_wider inside outside (tree.pick t labels body e) w h = arms_wider labels 0 (in_arm inside) (in_arm outside) body (record { leave = λ e. e; again = w.again; lands = w.lands }) h
  piece_wider inside outside (tree.set v x) w h = tt
  piece_wider inside outside (tree.put a s x at) w h = tt
  piece_wider inside outside (tree.land c e) w h = tt
  piece_wider inside outside (tree.mark p) w h = tt

  pieces_wider : (inside outside : Inside) (pieces : PieceTrees) → IsWider inside outside → PiecesFit inside pieces → PiecesFit outside pieces
  pieces_wider inside outside tree.no_pieces w h = tt
  pieces_wider inside outside (tree.then_ piece rest) w h = (
    piece_wider (with_ends (ends_in rest inside.lands) inside) (with_ends (ends_in rest outside.lands) outside) piece
        (wider_ends inside outside (ends_in rest inside.lands) (ends_in rest outside.lands) w (ends_wider rest inside.lands outside.lands w.lands)) h.0,
    pieces_wider inside outside rest w h.1,
  )

  arms_wider : (labels : List Label) (i : ℕ) (inside outside : Inside) (pieces : PieceTrees) → IsWider inside outside → ArmPiecesFit labels i inside pieces → ArmPiecesFit labels i outside pieces
  arms_wider labels i inside outside tree.no_pieces w h = tt
  arms_wider labels i inside outside (tree.then_ piece rest) w h = (
    piece_wider (with_ends (ends_before_arm labels (i + 1) rest inside.lands) inside) (with_ends (ends_before_arm labels (i + 1) rest outside.lands) outside) piece
        (wider_ends inside outside (ends_before_arm labels (i + 1) rest inside.lands) (ends_before_arm labels (i + 1) rest outside.lands) w (arm_ends_wider labels (i + 1) rest inside.lands outside.lands w.lands)) h.0,
    arms_wider labels (i + 1) inside outside rest w h.1,
  )

-- ---- pieces

-- a piece, and what becomes of the block behind it
abbrev piece_ends : PieceTree → List ℕ → List ℕ
piece_ends piece lands = ends_in (tree.then_ piece tree.no_pieces) lands

ends_step : (piece : PieceTree) (rest : PieceTrees) (lands : List ℕ) → piece_ends piece (ends_in rest lands) ≡ ends_in (tree.then_ piece rest) lands
ends_step (tree.set v x) rest lands = refl
ends_step (tree.put a s x at) rest lands = refl
ends_step (tree.fork t l r e) rest lands = refl
ends_step (tree.repeat_ j p f t y s e) rest lands = refl
ends_step (tree.pick t l y e) rest lands = refl
ends_step tree.break_ rest lands = refl
ends_step tree.next_ rest lands = refl
ends_step (tree.leave c) rest lands = refl
ends_step (tree.mark p) rest lands = refl
ends_step (tree.land c e) rest lands = refl

arm_ends_step : (labels : List Label) (i : ℕ) (piece : PieceTree) (rest : PieceTrees) (lands : List ℕ) → (if is_named labels i then lands else piece_ends piece (ends_before_arm labels (i + 1) rest lands)) ≡ ends_before_arm labels i (tree.then_ piece rest) lands
arm_ends_step labels i (tree.set v x) rest lands = refl
arm_ends_step labels i (tree.put a s x at) rest lands = refl
arm_ends_step labels i (tree.fork t l r e) rest lands = refl
arm_ends_step labels i (tree.repeat_ j p f t y s e) rest lands = refl
arm_ends_step labels i (tree.pick t l y e) rest lands = refl
arm_ends_step labels i tree.break_ rest lands = refl
arm_ends_step labels i tree.next_ rest lands = refl
arm_ends_step labels i (tree.leave c) rest lands = refl
arm_ends_step labels i (tree.mark p) rest lands = refl
arm_ends_step labels i (tree.land c e) rest lands = refl

ends_contain : (pieces : PieceTrees) (lands : List ℕ) (n : ℕ) → has_number lands n ≡ true → has_number (ends_in pieces lands) n ≡ true
ends_contain tree.no_pieces lands n h = h
ends_contain (tree.then_ (tree.land call end) rest) lands n h = either (n == call.0) (ends_contain rest lands n h) where
  either : (c : Bool) → has_number (ends_in rest lands) n ≡ true → (if c then true else has_number (ends_in rest lands) n) ≡ true
  either true g = refl
  either false g = g
ends_contain (tree.then_ (tree.set v x) rest) lands n h = ends_contain rest lands n h
ends_contain (tree.then_ (tree.put a s x at) rest) lands n h = ends_contain rest lands n h
ends_contain (tree.then_ (tree.fork t l r e) rest) lands n h = ends_contain rest lands n h
ends_contain (tree.then_ (tree.repeat_ j p f t y s e) rest) lands n h = ends_contain rest lands n h
ends_contain (tree.then_ (tree.pick t l y e) rest) lands n h = ends_contain rest lands n h
ends_contain (tree.then_ tree.break_ rest) lands n h = ends_contain rest lands n h
ends_contain (tree.then_ tree.next_ rest) lands n h = ends_contain rest lands n h
ends_contain (tree.then_ (tree.leave c) rest) lands n h = ends_contain rest lands n h
ends_contain (tree.then_ (tree.mark p) rest) lands n h = ends_contain rest lands n h

module _ (scope : Scope) where
  -- The step goes on in the last block of the body, or has blocks of its own.
  step_rest : (inside : Inside) (step : PieceTrees) (own : Option Point) → RestFits (λ b. lowered scope step last b) (in_body inside) one_way (ends_in step inside.lands)
      → (lands : List ℕ) × ((n : ℕ) → has_number inside.lands n ≡ true → has_number lands n ≡ true) × RestFits (λ b. stepped (λ b1. lowered scope step last b1) own b) (in_body inside) one_way lands
  step_rest inside step None h = (ends_in step inside.lands, ends_contain step inside.lands, record { same = h.same; fits = h.fits })
  step_rest inside step (Some point) h = (inside.lands, λ n e. e, record { same = λ b. refl; fits = λ b g. (jump_exit (in_body inside) one_way b.exit g, tt) })

  no_step : (post : Bool) (body step : PieceTrees) (blocks : Rest) → StepIsThere post step → StepFits post (side_from blocks (own_step body (first_point step)))
  no_step false body step blocks h = tt
  no_step true body step blocks h = subst (λ p. StepFits true (side_from blocks (own_step body (first_point p)))) (sym h) (none (any_continues body)) where
    none : (c : Bool) → StepFits true (side_from blocks (if c then None else None))
    none true = tt
    none false = tt

  followed_rest : (inside : Inside) (ahead : Ahead) (lands : List ℕ) (rest : Rest) (head : BlockTree → BlockTree) (shape : ShapeTree) (end : Point) → RestFits rest inside ahead lands
      → ((b : BlockTree) → JumpFits (with_ends (with_land shape lands) inside) b.exit → ExitFits (with_ends (with_land shape lands) inside) (ahead_of shape) (head b).exit)
      → ShapeFits (with_ends lands inside) shape → RestFits (λ b. followed (head b) shape (rest (begun end))) inside ahead (with_land shape lands)
  followed_rest inside ahead lands rest head shape end r h g = record {
    same = λ b. followed_lands inside lands (head b) shape (rest (begun end)) (r.same (begun end));
    fits = λ b e. followed_fits inside ahead lands (head b) shape (rest (begun end)) (r.same (begun end)) (r.fits (begun end) tt) (h b e) g;
  }

  mutual
    pieces_fit : (pieces : PieceTrees) (rest : Rest) (inside : Inside) (ahead : Ahead) (lands : List ℕ) → PiecesFit (with_ends lands inside) pieces → RestFits rest inside ahead lands
        → RestFits (λ b. lowered scope pieces rest b) inside ahead (ends_in pieces lands)
    pieces_fit tree.no_pieces rest inside ahead lands h r = record { same = r.same; fits = r.fits }
    pieces_fit (tree.then_ piece pieces) rest inside ahead lands h r =
        subst (λ l. RestFits (λ b. lowered scope (tree.then_ piece pieces) rest b) inside ahead l) (ends_step piece pieces lands)
        (piece_fits piece (λ b1. lowered scope pieces rest b1) inside ahead (ends_in pieces lands) h.0 (pieces_fit pieces rest inside ahead lands h.1 r))

    piece_fits : (piece : PieceTree) (rest : Rest) (inside : Inside) (ahead : Ahead) (lands : List ℕ) → PieceFits (with_ends lands inside) piece → RestFits rest inside ahead lands
        → RestFits (λ b. lowered_piece scope piece rest b) inside ahead (piece_ends piece lands)
    piece_fits (tree.set v x) rest inside ahead lands h r = record {
      same = λ b. r.same (if is_live b then set scope v x b else b);
      fits = λ b g. r.fits (if is_live b then set scope v x b else b) (if_fits (with_ends lands inside) (is_live b) (set scope v x b) b g g);
    }
    piece_fits (tree.put a s x at) rest inside ahead lands h r = record {
      same = λ b. r.same (if is_live b then put scope a s x at b else b);
      fits = λ b g. r.fits (if is_live b then put scope a s x at b else b) (if_fits (with_ends lands inside) (is_live b) (put scope a s x at b) b g g);
    }
    piece_fits (tree.fork test left right end) rest inside ahead lands h r =
        let here = with_ends lands inside in
        let sides =
        λ (b : BlockTree). fork (side_from (λ b1. lowered scope left last b1) (first_point left)) (side_from (λ b1. lowered scope right last b1) (first_point right)) (is_live b && is_straight (tree.fork test left right end)) in record {
          same = λ b. followed_lands inside lands (ends_by_fork scope test left right b) (sides b) (rest (begun end)) (r.same (begun end));
          fits = λ b g.
              followed_fits inside ahead lands (ends_by_fork scope test left right b) (sides b) (rest (begun end)) (r.same (begun end)) (r.fits (begun end) tt) (fork_fits scope here test left right b g) (
                side_fits here (λ b1. lowered scope left last b1) (first_point left) (λ p. (pieces_fit left last here one_way lands h.0 (last_fits here one_way)).fits (begun p) tt),
                side_fits here (λ b1. lowered scope right last b1) (first_point right) (λ p. (pieces_fit right last here one_way lands h.1 (last_fits here one_way)).fits (begun p) tt),
              );
        }
    piece_fits (tree.repeat_ id post before test body step end) rest inside ahead lands h r =
        let here = with_ends lands inside in
        let own = own_step body (first_point step) in
        let tested : RestFits (λ b1. last (ends_by_test test b1)) in_test a_test [] = record { same = λ b. refl; fits = λ b g. (test_fits in_test test b g, tt) } in
        let behind = pieces_fit step last (in_body here) one_way lands (pieces_wider (in_step here) (in_body here) step (step_wider here) h.2) (last_fits (in_body here) one_way) in
        let steps = step_rest here step own behind in
        let wide : IsWider (in_body here) (with_ends steps.0 (in_body here)) = record { leave = λ e. e; again = λ e. e; lands = steps.1 } in
        followed_rest inside ahead lands rest (λ b. b) _ end r (λ b g. jump_exit here one_way b.exit g) (
          (pieces_fit before (λ b1. last (ends_by_test test b1)) in_test a_test [] h.0 tested).fits (begun (or_at end (first_point before))) tt,
          copied_fits scope (in_body here) one_way (is_eligible post before (weight test) body step) (lowered scope body (λ b1. stepped (λ b2. lowered scope step last b2) own b1) (begun (or_at end (first_point body))))
              ((pieces_fit body (λ b1. stepped (λ b2. lowered scope step last b2) own b1) (in_body here) one_way steps.0 (pieces_wider (in_body here) (with_ends steps.0 (in_body here)) body wide h.1) steps.2).fits (begun (or_at end (first_point body))) tt),
          side_fits (in_step here) (λ b1. lowered scope step last b1) own (λ p. (pieces_fit step last (in_step here) one_way lands h.2 (last_fits (in_step here) one_way)).fits (begun p) tt),
          no_step post body step (λ b1. lowered scope step last b1) h.3,
        )
    piece_fits (tree.pick test labels body end) rest inside ahead lands h r =
        let here = with_ends lands inside in
        followed_rest inside ahead lands rest (λ b. ends_by_cases test labels b) _ end r (λ b g. cases_fit here test labels (piece_count body) b g) (arms_fit labels 0 body end (in_arm here) h)
    piece_fits tree.break_ rest inside ahead lands h r = record { same = λ b. r.same (with_exit break_ b); fits = λ b g. r.fits (with_exit break_ b) (with_exit_fits (with_ends lands inside) break_ b h g) }
    piece_fits tree.next_ rest inside ahead lands h r = record { same = λ b. r.same (with_exit continue_ b); fits = λ b g. r.fits (with_exit continue_ b) (with_exit_fits (with_ends lands inside) continue_ b h g) }
    piece_fits (tree.leave call) rest inside ahead lands h r = record {
      same = λ b. r.same (with_exit (leave (land_of call)) b);
      fits = λ b g. r.fits (with_exit (leave (land_of call)) b) (with_exit_fits (with_ends lands inside) (leave (land_of call)) b h g);
    }
    piece_fits (tree.land call end) rest inside ahead lands h r = followed_rest inside ahead lands rest (λ b. b) (land (land_of call)) end r (λ b g. jump_exit (with_ends (call.0 ∷ lands) inside) one_way b.exit g) tt
    piece_fits (tree.mark point) rest inside ahead lands h r = record { same = r.same; fits = r.fits }

    before_fits : (labels : List Label) (i : ℕ) (pieces : PieceTrees) (inside : Inside) → ArmPiecesFit labels i inside pieces → RestFits (λ b. before_arm scope labels i pieces b) inside one_way (ends_before_arm labels i pieces inside.lands)
    before_fits labels i tree.no_pieces inside h = record { same = λ b. refl; fits = λ b g. (jump_exit inside one_way b.exit g, tt) }
    before_fits labels i (tree.then_ piece pieces) inside h =
        subst (λ l. RestFits (λ b. before_arm scope labels i (tree.then_ piece pieces) b) inside one_way l) (arm_ends_step labels i piece pieces inside.lands)
        (either (is_named labels i) (piece_fits piece (λ b1. before_arm scope labels (i + 1) pieces b1) inside one_way (ends_before_arm labels (i + 1) pieces inside.lands) h.0 (before_fits labels (i + 1) pieces inside h.1)))
      where
        more : List ℕ
        more = piece_ends piece (ends_before_arm labels (i + 1) pieces inside.lands)

        goes : Rest
        goes b = lowered_piece scope piece (λ b1. before_arm scope labels (i + 1) pieces b1) b

        either : (c : Bool) → RestFits (λ b. lowered_piece scope piece (λ b1. before_arm scope labels (i + 1) pieces b1) b) inside one_way (piece_ends piece (ends_before_arm labels (i + 1) pieces inside.lands))
            → RestFits (λ b. if c then last b else lowered_piece scope piece (λ b1. before_arm scope labels (i + 1) pieces b1) b) inside one_way (if c then inside.lands else piece_ends piece (ends_before_arm labels (i + 1) pieces inside.lands))
        either true g = record { same = λ b. refl; fits = λ b e. (jump_exit inside one_way b.exit e, tt) }
        either false g = record { same = g.same; fits = g.fits }

    arms_fit : (labels : List Label) (i : ℕ) (pieces : PieceTrees) (end : Point) (inside : Inside) → ArmPiecesFit labels i inside pieces → ArmsFit inside (arms scope labels i pieces end)
    arms_fit labels i tree.no_pieces end inside h = tt
    arms_fit labels i (tree.then_ piece pieces) end inside h =
        either (is_named labels i)
        ((piece_fits piece (λ b1. before_arm scope labels (i + 1) pieces b1) inside one_way (ends_before_arm labels (i + 1) pieces inside.lands) h.0 (before_fits labels (i + 1) pieces inside h.1)).fits (begun (or_at end (point_of piece))) tt)
        (arms_fit labels (i + 1) pieces end inside h.1)
      where
        either : (c : Bool) → SequenceFits inside one_way (lowered_piece scope piece (λ b1. before_arm scope labels (i + 1) pieces b1) (begun (or_at end (point_of piece)))) → ArmsFit inside (arms scope labels (i + 1) pieces end)
            → ArmsFit inside (if c then more_arms (lowered_piece scope piece (λ b1. before_arm scope labels (i + 1) pieces b1) (begun (or_at end (point_of piece)))) (arms scope labels (i + 1) pieces end) else arms scope labels (i + 1) pieces end)
        either true g k = (g, k)
        either false g k = k

pub lowered_fits : (scope : Scope) (pieces : PieceTrees) (point : Point) → PiecesFit (record { leave = false; again = false; lands = [] }) pieces
    → SequenceFits (record { leave = false; again = false; lands = [] }) one_way (lowered scope pieces last (begun point))
lowered_fits scope pieces point h =
    let inside : Inside = record { leave = false; again = false; lands = [] } in
    (pieces_fit scope pieces last inside one_way [] h (last_fits inside one_way)).fits (begun point) tt
