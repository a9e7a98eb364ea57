-- The objects of a block, statement by statement.
use Rattle.std.proofs.Common.{◌≡◌, ℕ, zero, suc, ◌+◌, ◌<◌, List, [], ◌∷◌, ◌++◌, length, map, drop, get_or, refl, sym, ap, ◌∙◌, append_assoc, append-nil, true, false, arith}
use Rattle.std.specs.Prelude.{◌==◌}
use Rattle.std.proofs.lemmas.List.{length-append, length-map, map-append}
use Rattle.c_tree.specs.declared.statement.Stmt.{Stmt}
use Rattle.c_tree.specs.declared.object.Object.{Object}
use Rattle.c_tree.specs.Tree.{StmtTree, StmtTrees, ObjectTree}
use Rattle.c_tree.specs.View.{stmt_of, stmts_of, object_of}
use Rattle.c_meaning.specs.Store.{declared_by, declared_in}
use Rattle.pieces.specs.declared.resolved.program.CoreObject.{CoreObject}
use Rattle.pieces.specs.Resolved.Core.{CoreObjectTree}
use Rattle.pieces.specs.Resolved.CoreView.{core_object_of}
use Rattle.c_elaborate.specs.Objects.{object_elaborated, objects_of, from}
use Rattle.c_elaborate.proofs.Lists.{dropped}
use Rattle.c_elaborate.proofs.Parts.{grown, both}
use Rattle.c_elaborate.proofs.Bodies.{within_declared}

elaborated_both : (os : List Object) → map (λ o. object_elaborated (object_of o)) os ≡ map object_elaborated (map object_of os)
elaborated_both [] = refl
elaborated_both (o ∷ os) = ap (λ l. object_elaborated (object_of o) ∷ l) (elaborated_both os)

-- numbers of some objects and then of others
pub from_both : (n a b : ℕ) → from n (a + b) ≡ from n a ++ from (n + a) b
from_both n zero b = ap (λ k. from n k) (let e : 0 + b ≡ b = omega arith in e) ∙ ap (λ m. from m b) (let e : n ≡ n + 0 = omega arith in e)
from_both n (suc a) b = ap (λ k. from n k) (let e : suc a + b ≡ suc (a + b) = omega arith in e) ∙ ap (λ l. n ∷ l) (from_both (n + 1) a b ∙ ap (λ m. from (n + 1) a ++ from m b) (let e : n + 1 + a ≡ n + suc a = omega arith in e))

module _ (body : List Stmt) (i : ℕ) (stmt : Stmt) (lt : i < length body) (at : stmt ≡ get_or body i stmt) (declared : List Object) (is : map object_of declared ≡ declared_by (stmt_of stmt)) where
  abbrev pub mine : List ObjectTree
  mine = declared_by (stmt_of stmt)

  abbrev pub rest : List ObjectTree
  rest = declared_in (stmts_of (drop (i + 1) body))

  left : declared_in (stmts_of (drop i body)) ≡ mine ++ rest
  left = ap (λ l. declared_in (stmts_of l)) (dropped body i stmt lt at)

  step_is : map (λ o. object_elaborated (object_of o)) declared ≡ map object_elaborated mine
  step_is = elaborated_both declared ∙ ap (map object_elaborated) is

  count_is : length declared ≡ length mine
  count_is = sym (length-map declared object_of) ∙ ap length is

  pub objects_step : (old new : List CoreObject) (objects : List CoreObjectTree)
      → map core_object_of new ≡ map core_object_of old ++ map (λ o. object_elaborated (object_of o)) declared
      → map core_object_of old ++ map object_elaborated (declared_in (stmts_of (drop i body))) ≡ objects
      → map core_object_of new ++ map object_elaborated rest ≡ objects
  objects_step old new objects added so_far =
      ap (λ l. l ++ map object_elaborated rest) (added ∙ ap (λ l. map core_object_of old ++ l) step_is)
      ∙ (append_assoc (map core_object_of old) (map object_elaborated mine) (map object_elaborated rest)
      ∙ (ap (λ l. map core_object_of old ++ l) (sym (map-append object_elaborated mine rest))
      ∙ (ap (λ l. map core_object_of old ++ map object_elaborated l) (sym left) ∙ so_far)))

  pub numbers_step : (old new : List CoreObject) (numbers numbers' total : List ℕ)
      → map core_object_of new ≡ map core_object_of old ++ map (λ o. object_elaborated (object_of o)) declared
      → numbers' ≡ numbers ++ from (length old) (length declared)
      → numbers ++ from (length old) (length (declared_in (stmts_of (drop i body)))) ≡ total
      → numbers' ++ from (length new) (length rest) ≡ total
  numbers_step old new numbers numbers' total added put so_far =
      ap (λ l. l ++ from (length new) (length rest)) (put ∙ ap (λ n. numbers ++ from (length old) n) count_is)
      ∙ (append_assoc numbers (from (length old) (length mine)) (from (length new) (length rest))
      ∙ (ap (λ l. numbers ++ l) (ap (λ n. from (length old) (length mine) ++ from n (length rest)) long ∙ sym (from_both (length old) (length mine) (length rest)))
      ∙ (ap (λ n. numbers ++ from (length old) n) (sym (ap length left ∙ length-append mine rest)) ∙ so_far)))
    where
      long : length new ≡ length old + length mine
      long = grown core_object_of object_elaborated old new mine (added ∙ ap (λ l. map core_object_of old ++ l) step_is)

-- the objects of the head of a `for`
module _ (stmt : StmtTree) (declared : List Object) (is : map object_of declared ≡ declared_by stmt) (old middle new : List CoreObject)
    (added : map core_object_of middle ≡ map core_object_of old ++ map (λ o. object_elaborated (object_of o)) declared) where
  own : map core_object_of middle ≡ map core_object_of old ++ map object_elaborated (declared_by stmt)
  own = added ∙ ap (λ l. map core_object_of old ++ l) (elaborated_both declared ∙ ap (map object_elaborated) is)

  pub head_statement : map core_object_of new ≡ map core_object_of middle ++ map object_elaborated (objects_of stmt)
      → map core_object_of new ≡ map core_object_of old ++ map object_elaborated (declared_by stmt ++ objects_of stmt)
  head_statement more = both core_object_of object_elaborated old middle new (declared_by stmt) (objects_of stmt) own more

  pub head_declared : (length declared == 0) ≡ false → new ≡ middle
      → map core_object_of new ≡ map core_object_of old ++ map object_elaborated (declared_by stmt ++ objects_of stmt)
  head_declared some same =
      both core_object_of object_elaborated old middle new (declared_by stmt) (objects_of stmt) own
      (ap (map core_object_of) same ∙ (sym (append-nil (map core_object_of middle)) ∙ ap (λ ds. map core_object_of middle ++ map object_elaborated ds) (sym (by declared is some))))
    where
      by : (os : List Object) → map object_of os ≡ declared_by stmt → (length os == 0) ≡ false → objects_of stmt ≡ []
      by [] e some = absurd cc
      by (o ∷ os) e some = within_declared stmt (object_of o) (map object_of os) (sym e)
