-- Which binding of a name counts.
use Rattle.std.proofs.Common.{◌≡◌, ◌≢◌, ℕ, zero, suc, ◌+◌, ◌<◌, refl, ap, List, [], ◌∷◌, ◌++◌, length, drop, get_or, Option, Some, None, arith, add-one}
use Rattle.std.proofs.Math.Seq.{drop-cons}
use Rattle.std.proofs.lemmas.Slice.Eq.{bytes_eq-Decides}
use Rattle.c_meaning.specs.declared.names.Binding.{Binding}
use Rattle.c_meaning.specs.Store.{find_name, inner_or}

found_later : (bs : List Binding) (i : ℕ) (name : List ℕ) (x : ℕ) → find_name (drop i bs) name ≡ Some x → find_name bs name ≡ Some x
found_later bs zero name x e = e
found_later [] (suc i) name x e = e
found_later (b ∷ bs) (suc i) name x e = ap (λ o. inner_or o b name) (found_later bs i name x e)

found_at : (b : Binding) (later : Option ℕ) (name : List ℕ) → later ≡ None → b.name ≡ name → inner_or later b name ≡ Some b.object
found_at b later name e is = rw (e, (bytes_eq-Decides b.name name).1 is) refl

passed_at : (b : Binding) (later : Option ℕ) (name : List ℕ) → later ≡ None → b.name ≢ name → inner_or later b name ≡ None
passed_at b later name e other = rw e (grind (arith, bytes_eq-Decides b.name name))

-- the binding at i has the name, and none behind it
pub find_name-here : (bs : List Binding) (i : ℕ) (name : List ℕ) (b : Binding) → i < length bs → b ≡ get_or bs i b → b.name ≡ name
    → find_name (drop (i + 1) bs) name ≡ None → find_name bs name ≡ Some b.object
find_name-here bs i name b lt is e none =
    let none' : find_name (drop (suc i) bs) name ≡ None = rw add-one at none in
    found_later bs i name b.object (rw (drop-cons bs i b lt, ← is) (found_at b (find_name (drop (suc i) bs) name) name none' e))

-- it has another name
pub find_name-passed : (bs : List Binding) (i : ℕ) (name : List ℕ) (b : Binding) → i < length bs → b ≡ get_or bs i b → b.name ≢ name
    → find_name (drop (i + 1) bs) name ≡ None → find_name (drop i bs) name ≡ None
find_name-passed bs i name b lt is ne none =
    let none' : find_name (drop (suc i) bs) name ≡ None = rw add-one at none in
    rw (drop-cons bs i b lt, ← is) (passed_at b (find_name (drop (suc i) bs) name) name none' ne)

-- an inner binding counts before an outer one
pub find_name-inner : (outer inner : List Binding) (name : List ℕ) (x : ℕ) → find_name inner name ≡ Some x → find_name (outer ++ inner) name ≡ Some x
find_name-inner [] inner name x e = e
find_name-inner (b ∷ outer) inner name x e = ap (λ o. inner_or o b name) (find_name-inner outer inner name x e)

pub find_name-outer : (outer inner : List Binding) (name : List ℕ) → find_name inner name ≡ None → find_name (outer ++ inner) name ≡ find_name outer name
find_name-outer [] inner name e = e
find_name-outer (b ∷ outer) inner name e = ap (λ o. inner_or o b name) (find_name-outer outer inner name e)

pub ruleset naming = (find_name-here, find_name-passed, find_name-inner, find_name-outer)
