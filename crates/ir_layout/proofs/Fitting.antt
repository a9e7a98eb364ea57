-- The numbers of the places that were noted.
use Rattle.std.proofs.Common.{◌≡◌, ◌∙◌, List, [], ◌∷◌, ◌++◌, map, ap}
use Rattle.std.proofs.lemmas.List.{map-append, reverse-append}
use Rattle.std.specs.Prelude.{reverse, Result, Ok, Err, OnOk}
use Rattle.ir_core.specs.declared.tree.LandId.{LandId}
use Rattle.ir_layout.specs.Fitting.{land_number, numbered}

pub numbered_more : (xs : List LandId) (x : LandId) → numbered (xs ++ x ∷ []) ≡ land_number x ∷ numbered xs
numbered_more xs x = ap (λ l. reverse l) (map-append land_number xs (x ∷ [])) ∙ reverse-append (map land_number xs) (land_number x ∷ [])

pub on_ok_both : {T E : Type 0} (P Q : Type 0) (r : Result T E) → OnOk r P → OnOk r Q → OnOk r (P × Q)
on_ok_both P Q (Ok x) p q = (p, q)
on_ok_both P Q (Err e) p q = tt
