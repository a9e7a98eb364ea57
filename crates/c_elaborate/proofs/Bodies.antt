-- The items of a block one by one, as all of them.
use Rattle.std.specs.Prelude.{◌==◌}
use Rattle.std.proofs.Common.{◌≡◌, true, false, ℕ, ◌+◌, ◌<◌, ◌≤◌, List, [], ◌∷◌, ◌++◌, length, map, drop, get_or, refl, sym, ap, subst, ◌∙◌, append_assoc, append-nil, arith}
use Rattle.std.proofs.Math.ListN.{drop_of_length-le}
use Rattle.std.proofs.lemmas.List.{map-append}
use Rattle.c_tree.specs.declared.statement.Stmt.{Stmt}
use Rattle.c_tree.specs.declared.object.Object.{Object}
use Rattle.c_tree.specs.Tree as tree
use Rattle.c_tree.specs.Tree.{StmtTree, StmtTrees, ObjectTree}
use Rattle.c_tree.specs.View.{stmt_of, stmts_of, object_of}
use Rattle.c_meaning.specs.Store.{declared_by, declared_in}
use Rattle.pieces.specs.declared.resolved.statement.CoreStmt.{CoreStmt}
use Rattle.pieces.specs.declared.resolved.program.CoreObject.{CoreObject}
use Rattle.pieces.specs.Resolved.Core.{CoreStmtTree, CoreObjectTree}
use Rattle.pieces.specs.Resolved.CoreView.{core_stmt_of, core_object_of}
use Rattle.c_elaborate.specs.declared.blocks.Scene.{Scene}
use Rattle.c_elaborate.specs.declared.functions.Signature.{Signature}
use Rattle.c_elaborate.specs.Objects.{object_elaborated, objects_of, objects_within}
use Rattle.c_elaborate.specs.Scenes.{all_declared}
use Rattle.c_elaborate.specs.Statements.{item, statement, statements, declarations}
use Rattle.c_elaborate.proofs.Lists.{dropped}
use Rattle.c_elaborate.proofs.Parts.{grown, declared_both}

-- ---- one item

-- what an item does to the list of statements, the scene and the objects
pub record IsItem (fs : List Signature) (stmt : StmtTree) (list list' : List CoreStmt) (scene scene' : Scene) (objects objects' : List CoreObject) : Type 0 where
  pub added : map core_stmt_of list' ≡ map core_stmt_of list ++ item fs scene (declared_by stmt) (statement fs scene (length objects) stmt)
  pub moved : scene' ≡ all_declared scene (declared_by stmt)
  pub more : map core_object_of objects' ≡ map core_object_of objects ++ map object_elaborated (objects_of stmt)

-- a declaration has no block within
pub within_declared : (t : StmtTree) (o : ObjectTree) (os : List ObjectTree) → declared_by t ≡ o ∷ os → objects_of t ≡ []
within_declared (tree.block body) o os e = absurd cc
within_declared (tree.declare objects) o os e = refl
within_declared (tree.act actions) o os e = absurd cc
within_declared (tree.if_ test body other at) o os e = absurd cc
within_declared (tree.switch_ test body at) o os e = absurd cc
within_declared (tree.case_ value body at) o os e = absurd cc
within_declared (tree.while_ test body at) o os e = absurd cc
within_declared (tree.do_ body test at) o os e = absurd cc
within_declared (tree.for_ init test step body at) o os e = absurd cc
within_declared (tree.break_ at) o os e = absurd cc
within_declared (tree.continue_ at) o os e = absurd cc
within_declared (tree.return_ value at) o os e = absurd cc

module _ (fs : List Signature) (stmt : StmtTree) (list list' : List CoreStmt) (scene scene' : Scene) (objects objects' : List CoreObject) where
  pub statement_item : (declared : List Object) (s : CoreStmt) → map object_of declared ≡ declared_by stmt → (length declared == 0) ≡ true
      → list' ≡ list ++ s ∷ [] → core_stmt_of s ≡ statement fs scene (length objects) stmt → scene' ≡ scene
      → map core_object_of objects' ≡ map core_object_of objects ++ map object_elaborated (objects_of stmt)
      → IsItem fs stmt list list' scene scene' objects objects'
  statement_item [] s is none put same kept more = record {
    added = ap (map core_stmt_of) put ∙ (map-append core_stmt_of list (s ∷ []) ∙ (ap (λ t. map core_stmt_of list ++ t ∷ []) same ∙ ap (λ os. map core_stmt_of list ++ item fs scene os (statement fs scene (length objects) stmt)) is));
    moved = kept ∙ ap (all_declared scene) is;
    more = more;
  }
  statement_item (o ∷ os) s is none put same kept more = absurd (grind arith)

  pub declared_item : (declared : List Object) → map object_of declared ≡ declared_by stmt → (length declared == 0) ≡ false
      → map core_stmt_of list' ≡ map core_stmt_of list ++ declarations fs scene (map object_of declared) → scene' ≡ all_declared scene (map object_of declared) → objects' ≡ objects
      → IsItem fs stmt list list' scene scene' objects objects'
  declared_item [] is some put kept same = absurd cc
  declared_item (o ∷ os) is some put kept same = record {
    added = put ∙ ap (λ ds. map core_stmt_of list ++ item fs scene ds (statement fs scene (length objects) stmt)) is;
    moved = kept ∙ ap (all_declared scene) is;
    more = ap (map core_object_of) same ∙ (sym (append-nil (map core_object_of objects)) ∙ ap (λ ds. map core_object_of objects ++ map object_elaborated ds) (sym (within_declared stmt (object_of o) (map object_of os) (sym is))));
  }

-- ---- all items

-- what is done, with what is left to do, is all
pub record IsDone (fs : List Signature) (stmts : StmtTrees) (list : List CoreStmt) (scene : Scene) (objects : List CoreObject) (all : List CoreStmtTree) (last : Scene) (total : List CoreObjectTree) : Type 0 where
  pub body : map core_stmt_of list ++ statements fs scene (length objects) stmts ≡ all
  pub names : all_declared scene (declared_in stmts) ≡ last
  pub numbered : map core_object_of objects ++ map object_elaborated (objects_within stmts) ≡ total

module _ (fs : List Signature) (all : List CoreStmtTree) (last : Scene) (total : List CoreObjectTree) where
  one_more : (first : StmtTree) (rest : StmtTrees) (list list' : List CoreStmt) (scene scene' : Scene) (objects objects' : List CoreObject)
      → IsItem fs first list list' scene scene' objects objects'
      → IsDone fs (tree.more_stmts first rest) list scene objects all last total
      → IsDone fs rest list' scene' objects' all last total
  one_more first rest list list' scene scene' objects objects' one so_far = record {
    body =
        ap (λ l. l ++ statements fs scene' (length objects') rest) one.added
        ∙ (append_assoc (map core_stmt_of list) mine (statements fs scene' (length objects') rest)
        ∙ (ap (λ s. map core_stmt_of list ++ (mine ++ statements fs s (length objects') rest)) one.moved
        ∙ (ap (λ n. map core_stmt_of list ++ (mine ++ statements fs (all_declared scene (declared_by first)) n rest)) (grown core_object_of object_elaborated objects objects' (objects_of first) one.more)
        ∙ so_far.body)));
    names = ap (λ s. all_declared s (declared_in rest)) one.moved ∙ (sym (declared_both scene (declared_by first) (declared_in rest)) ∙ so_far.names);
    numbered =
        ap (λ l. l ++ map object_elaborated (objects_within rest)) one.more
        ∙ (append_assoc (map core_object_of objects) (map object_elaborated (objects_of first)) (map object_elaborated (objects_within rest))
        ∙ (ap (λ l. map core_object_of objects ++ l) (sym (map-append object_elaborated (objects_of first) (objects_within rest))) ∙ so_far.numbered));
  }
    where
      mine : List CoreStmtTree
      mine = item fs scene (declared_by first) (statement fs scene (length objects) first)

  pub turned : (stmts : List Stmt) (i : ℕ) (stmt : Stmt) (list list' : List CoreStmt) (scene scene' : Scene) (objects objects' : List CoreObject)
      → i < length stmts → stmt ≡ get_or stmts i stmt
      → IsItem fs (stmt_of stmt) list list' scene scene' objects objects'
      → IsDone fs (stmts_of (drop i stmts)) list scene objects all last total
      → IsDone fs (stmts_of (drop (i + 1) stmts)) list' scene' objects' all last total
  turned stmts i stmt list list' scene scene' objects objects' lt at one so_far =
      one_more (stmt_of stmt) (stmts_of (drop (i + 1) stmts)) list list' scene scene' objects objects' one
      (subst (λ l. IsDone fs (stmts_of l) list scene objects all last total) (dropped stmts i stmt lt at) so_far)

  pub none_left : (stmts : List Stmt) (i : ℕ) (list : List CoreStmt) (scene : Scene) (objects : List CoreObject)
      → length stmts ≤ i → IsDone fs (stmts_of (drop i stmts)) list scene objects all last total
      → IsDone fs tree.no_stmt list scene objects all last total
  none_left stmts i list scene objects past so_far = subst (λ l. IsDone fs (stmts_of l) list scene objects all last total) (drop_of_length-le stmts past) so_far

  pub finished : (stmts : List Stmt) (i : ℕ) (list : List CoreStmt) (scene : Scene) (objects : List CoreObject)
      → length stmts ≤ i → IsDone fs (stmts_of (drop i stmts)) list scene objects all last total
      → (map core_stmt_of list ≡ all) × (scene ≡ last) × (map core_object_of objects ≡ total)
  finished stmts i list scene objects past so_far =
      let left = none_left stmts i list scene objects past so_far in
      (sym (append-nil (map core_stmt_of list)) ∙ left.body, left.names, sym (append-nil (map core_object_of objects)) ∙ left.numbered)
