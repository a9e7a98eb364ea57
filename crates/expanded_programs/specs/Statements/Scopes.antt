-- Statements as elaboration makes them: what their names may stand for where they stand.
use Rattle.std.specs.Prelude.{◌≡◌, ℕ, ◌^◌, ◌<◌, ◌≤◌, ◌⊎◌, Bool, true, false, List, [], ◌∷◌, length, take, slice_get, Option, Some, None}
use Rattle.hls_base.specs.ArrayAddress.{element_count}
use Rattle.c_token.specs.declared.ctype.CType.{CType}
use Rattle.pieces.specs.declared.resolved.expression.Scope.{Scope}
use Rattle.pieces.specs.declared.resolved.expression.Scope.TheVariants as scope
use Rattle.pieces.specs.Resolved.Core as core
use Rattle.pieces.specs.Resolved.Core.{CoreTree, ArgumentTrees, CoreInitTree, CoreActionTree, CoreStmtTree, CoreStmtTrees, CoreElseTree, CoreObjectTree, FileObjectTree, CoreFunctionTree}
use Rattle.c_meaning.specs.CoreRuns.Statements.{action_tree}
use Rattle.expand_runs.specs.Sound.{Objects, IsSound}

-- ---- names

-- the objects of file scope, the functions and which of them may be called, and the objects of the function, whose first ones are its parameters
pub record Setting : Type 1 where
  pub file : List FileObjectTree
  pub functions : List CoreFunctionTree
  pub Callable : ℕ → Type 0
  pub params : ℕ
  pub objects : List CoreObjectTree
  pub result : Option CType

-- the objects of the function whose lifetimes have begun, and those of its arrays whose declarations were reached
pub record Reach : Type 1 where
  pub Lives : ℕ → Type 0
  pub Ready : ℕ → Type 0

abbrev pub IsScalar : CoreObjectTree → Type 0
IsScalar o = o.lengths ≡ []

abbrev pub IsArray : CoreObjectTree → Type 0
IsArray o = o.lengths ≡ [] → ⊥

abbrev pub ScalarIn : Setting → Reach → Scope → ℕ → CType → Type 0
ScalarIn S r scope.File i k = (o : FileObjectTree) × (slice_get S.file i ≡ Some o) × IsScalar o.object × (o.object.kind ≡ k)
ScalarIn S r scope.Call i k = (o : CoreObjectTree) × (slice_get S.objects i ≡ Some o) × IsScalar o × (o.kind ≡ k) × r.Lives i

abbrev pub VariableIn : Setting → Reach → Scope → ℕ → CType → Type 0
VariableIn S r scope.File i k = (o : FileObjectTree) × (slice_get S.file i ≡ Some o) × IsScalar o.object × (o.object.kind ≡ k) × (o.object.constant ≡ false)
VariableIn S r scope.Call i k = (o : CoreObjectTree) × (slice_get S.objects i ≡ Some o) × IsScalar o × (o.kind ≡ k) × r.Lives i

abbrev pub ArrayIn : Setting → Reach → Scope → ℕ → CType → Type 0
ArrayIn S r scope.File i k = (o : FileObjectTree) × (slice_get S.file i ≡ Some o) × IsArray o.object × (o.object.kind ≡ k)
ArrayIn S r scope.Call i k = (o : CoreObjectTree) × (slice_get S.objects i ≡ Some o) × IsArray o × (o.kind ≡ k) × ((i < S.params) ⊎ ((S.params ≤ i) × r.Lives i × r.Ready i))

-- a number for each scalar, and an array of its type for each array
abbrev pub TakesAll : Setting → Reach → List CoreObjectTree → ArgumentTrees → Type 0
TakesAll S r [] core.no_argument = Unit {0}
TakesAll S r (o ∷ os) (core.more_arguments (core.given v) rest) = IsScalar o × TakesAll S r os rest
TakesAll S r (o ∷ os) (core.more_arguments (core.array cell) rest) = IsArray o × ArrayIn S r cell.scope cell.number o.kind × TakesAll S r os rest
TakesAll S r os args = ⊥

abbrev pub objects_in : Setting → Reach → Objects
objects_in S r = record {
  Scalar = λ x k. ScalarIn S r x.scope x.number k;
  Variable = λ x k. VariableIn S r x.scope x.number k;
  Array = λ x k. ArrayIn S r x.scope x.number k;
  Takes = λ callee args k. (fn : CoreFunctionTree) × (slice_get S.functions callee ≡ Some fn) × S.Callable callee × (fn.result ≡ k) × TakesAll S r (take fn.params fn.objects) args;
}

-- ---- where statements stand

abbrev pub Among : List ℕ → ℕ → Type 0
Among [] i = ⊥
Among (j ∷ js) i = (i ≡ j) ⊎ Among js i

-- these objects live too
abbrev pub enter : List ℕ → Reach → Reach
enter objects r = record { Lives = λ i. Among objects i ⊎ r.Lives i; Ready = r.Ready }

-- the declaration of this object was reached
abbrev pub reach : ℕ → Reach → Reach
reach object r = record { Lives = r.Lives; Ready = λ i. (i ≡ object) ⊎ r.Ready i }

-- the reach behind a statement
abbrev pub behind : CoreStmtTree → Reach → Reach
behind (core.declare object init) r = reach object r
behind (core.block objects body) r = r
behind (core.act actions) r = r
behind (core.if_ test body other at) r = r
behind (core.switch_ test objects body at) r = r
behind (core.case_ value body at) r = r
behind (core.while_ test body at) r = r
behind (core.do_ body test at) r = r
behind (core.for_ objects init test step body at) r = r
behind core.break_ r = r
behind core.continue_ r = r
behind (core.return_ value) r = r

abbrev pub behind_all : CoreStmtTrees → Reach → Reach
behind_all core.no_stmt r = r
behind_all (core.more_stmts first rest) r = behind_all rest (behind first r)

-- objects that are none of the parameters, and that do not live yet
abbrev pub AreNew : Setting → Reach → List ℕ → Type 0
AreNew S r [] = Unit {0}
AreNew S r (i ∷ is) = ((S.params ≤ i) × (r.Lives i → ⊥) × (r.Ready i → ⊥) × ((o : CoreObjectTree) × (slice_get S.objects i ≡ Some o))) × AreNew S r is

-- declarations and expressions alone
abbrev pub IsBeginning : CoreStmtTree → Type 0
IsBeginning (core.declare object init) = Unit {0}
IsBeginning (core.act actions) = Unit {0}
IsBeginning (core.block objects body) = ⊥
IsBeginning (core.if_ test body other at) = ⊥
IsBeginning (core.switch_ test objects body at) = ⊥
IsBeginning (core.case_ value body at) = ⊥
IsBeginning (core.while_ test body at) = ⊥
IsBeginning (core.do_ body test at) = ⊥
IsBeginning (core.for_ objects init test step body at) = ⊥
IsBeginning core.break_ = ⊥
IsBeginning core.continue_ = ⊥
IsBeginning (core.return_ value) = ⊥

abbrev pub BeginsLoop : CoreStmtTrees → Type 0
BeginsLoop core.no_stmt = Unit {0}
BeginsLoop (core.more_stmts first rest) = IsBeginning first × BeginsLoop rest

module _ (S : Setting) where
  abbrev pub IsSoundIn : Reach → CoreTree → Type 0
  IsSoundIn r e = IsSound (objects_in S r) e

  abbrev pub TestSound : Reach → Option CoreTree → Type 0
  TestSound r None = Unit {0}
  TestSound r (Some e) = IsSoundIn r e

  -- a value is returned where the function has a result
  abbrev pub ReturnSound : Reach → Option CoreTree → Type 0
  ReturnSound r None = S.result ≡ None
  ReturnSound r (Some e) = ((k : CType) × (S.result ≡ Some k)) × IsSoundIn r e

  abbrev pub ActionsSound : Reach → List CoreActionTree → Type 0
  ActionsSound r [] = Unit {0}
  ActionsSound r (a ∷ rest) = IsSoundIn r (action_tree a) × ActionsSound r rest

  abbrev pub ItemsSound : Reach → List (Option CoreTree) → Type 0
  ItemsSound r [] = Unit {0}
  ItemsSound r (item ∷ items) = TestSound r item × ItemsSound r items

  -- A scalar is given a value, and an array its first elements. It has no more of them than int has numbers from 0 on.
  abbrev pub InitSound : Reach → CoreObjectTree → CoreInitTree → Type 0
  InitSound r o core.unwritten = Unit {0}
  InitSound r o (core.single v) = IsScalar o × IsSoundIn r v
  InitSound r o (core.elements items) = IsArray o × (length items ≤ element_count o.lengths) × ItemsSound r items × (element_count o.lengths ≤ 2 ^ 31)

  abbrev mutual
    -- Own are the objects that may be declared here. The flags say whether a label, a `break` and a `continue` may stand here: labels stand only in front of what is directly in a switch.
    pub StmtSound : Reach → (ℕ → Type 0) → Bool → Bool → Bool → CoreStmtTree → Type 0
    StmtSound r Own labels breaks continues (core.block objects body) = AreNew S r objects × StmtsSound (enter objects r) (λ i. Among objects i) false breaks continues body
    StmtSound r Own labels breaks continues (core.declare object init) =
        Own object × (S.params ≤ object) × r.Lives object × (r.Ready object → ⊥) × ((o : CoreObjectTree) × (slice_get S.objects object ≡ Some o) × InitSound (reach object r) o init)
    StmtSound r Own labels breaks continues (core.act actions) = ActionsSound r actions
    StmtSound r Own labels breaks continues (core.if_ test body other at) = IsSoundIn r test × StmtSound r (λ i. ⊥) false breaks continues body × ElseSound r breaks continues other
    StmtSound r Own labels breaks continues (core.switch_ test objects body at) = IsSoundIn r test × AreNew S r objects × StmtsSound (enter objects r) (λ i. Among objects i) true true continues body
    StmtSound r Own labels breaks continues (core.case_ value body at) = (labels ≡ true) × StmtSound r (λ i. ⊥) labels breaks continues body
    StmtSound r Own labels breaks continues (core.while_ test body at) = IsSoundIn r test × StmtSound r (λ i. ⊥) false true true body
    StmtSound r Own labels breaks continues (core.do_ body test at) = IsSoundIn r test × StmtSound r (λ i. ⊥) false true true body
    StmtSound r Own labels breaks continues (core.for_ objects init test step body at) =
        AreNew S r objects × (BeginsLoop init × StmtsSound (enter objects r) (λ i. Among objects i) false false false init) × TestSound (behind_all init (enter objects r)) test × ActionsSound (behind_all init (enter objects r)) step
        × StmtSound (behind_all init (enter objects r)) (λ i. ⊥) false true true body
    StmtSound r Own labels breaks continues core.break_ = breaks ≡ true
    StmtSound r Own labels breaks continues core.continue_ = continues ≡ true
    StmtSound r Own labels breaks continues (core.return_ value) = ReturnSound r value

    pub ElseSound : Reach → Bool → Bool → CoreElseTree → Type 0
    ElseSound r breaks continues core.no_else = Unit {0}
    ElseSound r breaks continues (core.else_ at body) = StmtSound r (λ i. ⊥) false breaks continues body

    pub StmtsSound : Reach → (ℕ → Type 0) → Bool → Bool → Bool → CoreStmtTrees → Type 0
    StmtsSound r Own labels breaks continues core.no_stmt = Unit {0}
    StmtsSound r Own labels breaks continues (core.more_stmts first rest) = StmtSound r Own labels breaks continues first × StmtsSound (behind first r) Own labels breaks continues rest
