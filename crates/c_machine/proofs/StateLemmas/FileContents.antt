-- Contents of the objects of file scope, one after another.
use Rattle.std.proofs.Common.{◌≡◌, ℕ, ◌≤◌, ◌∙◌, sym, refl, ap, inl, inr, List, [], ◌∷◌, length, drop, min, arith}
use Rattle.std.proofs.Math.ListN.{drop_of_length-le}
use Rattle.std.proofs.lemmas.List.{append-nil}
use Rattle.std.proofs.lemmas.Bool.{cases_lt}
use Rattle.std.specs.Borrow.{Bor}
use Rattle.hls_base.specs.FileScope.{FileScope}
use Rattle.c_tree.specs.Tree.{ObjectTree}
use Rattle.c_tree.specs.declared.object.Object.{Object as Declared}
use Rattle.c_meaning.specs.Store.{Object}
use Rattle.c_meaning.specs.Run.{contents_of}
use Rattle.c_meaning.specs.Declarations.{objects_of}
use Rattle.c_machine.specs.State.Contents.{no_contents, joined}

joined_none : (a : FileScope) → joined a no_contents ≡ a
joined_none a = λ i. record { scalars = append-nil a.scalars i; arrays = append-nil a.arrays i }

no_objects : (ds : List ObjectTree) → contents_of ds [] ≡ no_contents
no_objects [] = refl
no_objects (d ∷ ds) = refl

pub contents_end : (ds : List (Bor Declared)) (os : List Object) (i n : ℕ) (all : FileScope) → joined all (contents_of (objects_of (drop i ds)) (drop i os)) ≡ contents_of (objects_of ds) os
    → n ≤ i → n ≡ min (length ds) (length os) → all ≡ contents_of (objects_of ds) os
contents_end ds os i n all e le is =
    sym (joined_none all) ∙ (ap (joined all) (sym rest) ∙ e)
  where
    rest : contents_of (objects_of (drop i ds)) (drop i os) ≡ no_contents
    rest = elim (cases_lt i (length ds)) [
      | inl lt ↦ ap (contents_of (objects_of (drop i ds))) (drop_of_length-le os (omega (arith, le, is, lt))) ∙ no_objects (objects_of (drop i ds))
      | inr past ↦ ap (λ l. contents_of (objects_of l) (drop i os)) (drop_of_length-le ds past)
    ]
