-- Where the nodes stand.
use Rattle.std.proofs.Common.{◌≡◌, ◌∙◌, ◌+◌, ℕ, refl, ap, sym, subst, arith, List, [], ◌∷◌, ◌++◌, length, length-append, append_assoc, Some}
use Rattle.std.specs.Prelude.{slice_get}
use Rattle.ir_layout.specs.Nodes.{NodeTree}

-- the list has these nodes from this place on
abbrev pub Has : List NodeTree → ℕ → List NodeTree → Type 0
Has nodes place [] = Unit {0}
Has nodes place (x ∷ xs) = (slice_get nodes place ≡ Some x) × Has nodes (place + 1) xs

pub has_parts : (nodes front : List NodeTree) (place at : ℕ) (xs : List NodeTree) → at ≡ place + length front → Has nodes place (front ++ xs) → Has nodes place front × Has nodes at xs
has_parts nodes [] place at xs e h = let same : place ≡ at = omega (arith, e) in (tt, subst (λ i. Has nodes i xs) same h)
has_parts nodes (x ∷ front) place at xs e h =
    let r = has_parts nodes front (place + 1) at xs (omega (arith, e)) h.1 in
    ((h.0, r.0), r.1)

get_behind : (front : List NodeTree) (x : NodeTree) (xs : List NodeTree) → slice_get (front ++ x ∷ xs) (length front) ≡ Some x
get_behind [] x xs = refl
get_behind (y ∷ front) x xs = get_behind front x xs

pub has_itself : (front xs : List NodeTree) (place : ℕ) → length front ≡ place → Has (front ++ xs) place xs
has_itself front [] place e = tt
has_itself front (x ∷ xs) place e = (
  ap (slice_get (front ++ x ∷ xs)) (sym e) ∙ get_behind front x xs,
  subst (λ l. Has l (place + 1) xs) (append_assoc front (x ∷ []) xs) (has_itself (front ++ x ∷ []) xs (place + 1) (omega (arith, e, length-append front (x ∷ [])))),
)
