-- The object that a name stands for is that to which it is resolved.
use Rattle.std.proofs.Common.{◌≡◌, ℕ, sym, refl, ap, subst, Bool, true, false, true≢false, is_some, bytes_eq, if◌then◌else◌, List, [], ◌∷◌, ◌++◌, Option, Some, None}
use Rattle.c_meaning.specs.declared.names.Binding.{Binding}
use Rattle.c_meaning.specs.Store.{Environment, inner_or, find_name, object_found, object_named}
use Rattle.c_meaning.specs.CoreRuns.Cells.{Here, spot_of}
use Rattle.c_elaborate.specs.declared.names.Known.{Known}
use Rattle.c_elaborate.specs.declared.names.Binding.{Binding as Resolution}
use Rattle.c_elaborate.specs.Names as e
use Rattle.c_elaborate.specs.Names.{known_or_int}
use Rattle.c_elaborate.specs.Homes.{Home, home, IsAt, found_in, found, Finds, Named}
use Rattle.c_elaborate.specs.Resolved.{IsDeclared}
use Rattle.c_elaborate.proofs.ElaborateRuns.Lists.{get-before, bytes_turned}

resolved_at : (homes : List Home) (here : Here) (o p : Option ℕ) (q : Option Known) → is_some q ≡ true → Finds homes here (found_in o p) q → IsAt homes here (object_found o p) (known_or_int q)
resolved_at homes here o p None k h = absurd (true≢false (sym k))
resolved_at homes here (Some i) p (Some known) k h = h
resolved_at homes here None (Some i) (Some known) k h = h
resolved_at homes here None None (Some known) k h = absurd h

-- Each name that is declared is resolved to the object that it stands for.
pub resolves : (homes : List Home) (here : Here) (env : Environment) (names : List Resolution) (text : List ℕ) → Named homes here env.file env.names names → IsDeclared names text
    → IsAt homes here (object_named env text) (e.object_named names text)
resolves homes here env names text h k = resolved_at homes here (find_name env.names text) (find_name env.file text) (e.object_found text names) k (h text)

-- ---- more homes

at_more : (homes more : List Home) (here : Here) (i : ℕ) (known : Known) → IsAt homes here i known → IsAt (homes ++ more) here i known
at_more homes more here i known h = record { lengths = h.lengths; at = get-before homes more i (home (spot_of here known.cell) known.kind h.lengths) h.at; form = h.form }

finds_more : (homes more : List Home) (here : Here) (o : Option ℕ) (q : Option Known) → Finds homes here o q → Finds (homes ++ more) here o q
finds_more homes more here None None h = tt
finds_more homes more here None (Some known) h = h
finds_more homes more here (Some i) None h = h
finds_more homes more here (Some i) (Some known) h = at_more homes more here i known h

pub named_more : (homes more : List Home) (here : Here) (file inner : List Binding) (names : List Resolution) → Named homes here file inner names → Named (homes ++ more) here file inner names
named_more homes more here file inner names h name = finds_more homes more here (found file inner name) (e.object_found name names) (h name)

-- ---- declarations

last_at : (bs : List Binding) (d b : Binding) (name : List ℕ) (y : Bool) → find_name (bs ++ b ∷ []) name ≡ (if y then Some b.object else find_name bs name)
    → inner_or (find_name (bs ++ b ∷ []) name) d name ≡ (if y then Some b.object else inner_or (find_name bs name) d name)
last_at bs d b name true h = ap (λ o. inner_or o d name) h
last_at bs d b name false h = ap (λ o. inner_or o d name) h

-- the latest declaration comes first
find_last : (bs : List Binding) (b : Binding) (name : List ℕ) → find_name (bs ++ b ∷ []) name ≡ (if bytes_eq b.name name then Some b.object else find_name bs name)
find_last [] b name = refl
find_last (d ∷ bs) b name = last_at bs d b name (bytes_eq b.name name) (find_last bs b name)

either : (homes : List Home) (here : Here) (i : ℕ) (known : Known) (o p : Option ℕ) (q : Option Known) (y : Bool) → IsAt homes here i known → Finds homes here (found_in o p) q
    → Finds homes here (found_in (if y then Some i else o) p) (if y then Some known else q)
either homes here i known o p q true at h = at
either homes here i known o p q false at h = h

pub named_one : (homes : List Home) (here : Here) (file inner : List Binding) (names : List Resolution) (name : List ℕ) (i : ℕ) (known : Known) → IsAt homes here i known → Named homes here file inner names
    → Named homes here file (inner ++ record { name = name; object = i } ∷ []) (record { name = name; object = known } ∷ names)
named_one homes here file inner names name i known at h text =
    let b : Binding = record { name = name; object = i } in
    subst (λ o. Finds homes here (found_in o (find_name file text)) (e.object_found text (record { name = name; object = known } ∷ names))) (sym (find_last inner b text))
    (subst (λ y. Finds homes here (found_in (if bytes_eq name text then Some i else find_name inner text) (find_name file text)) (if y then Some known else e.object_found text names)) (bytes_turned name text)
    (either homes here i known (find_name inner text) (find_name file text) (e.object_found text names) (bytes_eq name text) at (h text)))
