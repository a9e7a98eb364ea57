-- Statements and programs whose parts are done, as whole ones.
use Rattle.std.proofs.Common.{◌≡◌, ℕ, ◌+◌, List, [], ◌∷◌, ◌++◌, map, length, Option, refl, sym, ap, ◌∙◌}
use Rattle.std.specs.Option.{option_map}
use Rattle.hls_base.specs.declared.place.Place.{Place}
use Rattle.c_tree.specs.Tree as tree
use Rattle.c_tree.specs.Tree.{Tree, ActionTree, StmtTree, ElseTree, FirstTree}
use Rattle.c_meaning.specs.Store.{declared_first}
use Rattle.pieces.specs.Resolved.Core as core
use Rattle.pieces.specs.Resolved.Core.{CoreTree, CoreActionTree, CoreStmtTree, CoreElseTree, stmt_row, CoreProgramTree}
use Rattle.c_elaborate.specs.declared.blocks.Scene.{Scene}
use Rattle.c_elaborate.specs.declared.functions.Signature.{Signature}
use Rattle.c_elaborate.specs.Objects.{objects_of, first_objects, from}
use Rattle.c_elaborate.specs.Scenes.{opened, all_declared}
use Rattle.c_elaborate.specs.Expressions.{elaborated, action_elaborated}
use Rattle.c_elaborate.specs.Statements.{statement, else_statement, first_statements}

pub fused : {A B C : Type 0} (f : B → C) (g : A → B) (xs : List A) → map (λ x. f (g x)) xs ≡ map f (map g xs)
fused f g [] = refl
fused f g (x ∷ xs) = ap (λ l. f (g x) ∷ l) (fused f g xs)

module _ (fs : List Signature) (scene : Scene) (n : ℕ) where
  pub while_is : (test : Tree) (body : StmtTree) (at : Place) (test' : CoreTree) (body' : CoreStmtTree)
      → test' ≡ elaborated fs scene.names test → body' ≡ statement fs scene n body
      → core.while_ test' body' at ≡ statement fs scene n (tree.while_ test body at)
  while_is test body at test' body' a b = rw a (rw b refl)

  pub if_is : (test : Tree) (body : StmtTree) (other : ElseTree) (at : Place) (m : ℕ) (middle : Scene) (test' : CoreTree) (body' : CoreStmtTree) (other' : CoreElseTree)
      → m ≡ n + length (objects_of body) → middle ≡ scene
      → test' ≡ elaborated fs scene.names test → body' ≡ statement fs scene n body → other' ≡ else_statement fs middle m other
      → core.if_ test' body' other' at ≡ statement fs scene n (tree.if_ test body other at)
  if_is test body other at m middle test' body' other' count same a b c = rw a (rw b (rw c (rw count (rw same refl))))

  pub for_is : (init : FirstTree) (test : Option Tree) (step : List ActionTree) (body : StmtTree) (at : Place) (m : ℕ) (inner : Scene)
      (numbers : List ℕ) (head : List CoreStmtTree) (test' : Option CoreTree) (step' : List CoreActionTree) (body' : CoreStmtTree)
      → inner ≡ all_declared (opened scene n) (declared_first init) → m ≡ n + length (declared_first init ++ first_objects init)
      → numbers ≡ from n (length (declared_first init))
      → head ≡ first_statements fs (opened scene n) (n + length (declared_first init)) init
      → test' ≡ option_map (elaborated fs inner.names) test → step' ≡ map (action_elaborated fs inner.names) step → body' ≡ statement fs inner m body
      → core.for_ numbers (stmt_row head) test' step' body' at ≡ statement fs scene n (tree.for_ init test step body at)
  for_is init test step body at m inner numbers head test' step' body' where_ count a b c d e = rw a (rw b (rw c (rw d (rw e (rw count (rw where_ refl))))))

pub same_program : (x y : CoreProgramTree) → x.file ≡ y.file → x.functions ≡ y.functions → x.top ≡ y.top → x ≡ y
same_program x y a b c =
    ap (λ v. record { file = v; functions = x.functions; top = x.top }) a
    ∙ (ap (λ v. record { file = y.file; functions = v; top = x.top }) b
    ∙ ap (λ v. record { file = y.file; functions = y.functions; top = v }) c)
