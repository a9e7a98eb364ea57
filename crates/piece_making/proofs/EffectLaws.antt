-- Effects together, and rows of a list's first and others.
use Rattle.std.proofs.Common.{◌≡◌, ℕ, ◌+◌, ◌<◌, Bool, true, false, ◌||◌, List, ◌∷◌, length, get_or, drop, refl, ap, sym, add-one, drop-cons, suc}
use Rattle.piece_making.specs.declared.effects.Effects.{Effects}
use Rattle.piece_making.specs.Acting.{either}

pub or_assoc : (x y z : Bool) → ((x || y) || z) ≡ (x || (y || z))
or_assoc true y z = refl
or_assoc false y z = refl

pub either_assoc : (a b c : Effects) → either (either a b) c ≡ either a (either b c)
either_assoc a b c =
    let e = or_assoc a.calls b.calls c.calls in
    let f = or_assoc a.changes b.changes c.changes in
    let g = or_assoc a.commas b.commas c.commas in
    cc

-- one more of a list that is gone through
pub first_dropped : {A : Type 0} (xs : List A) (i : ℕ) (x : A) → i < length xs → x ≡ get_or xs i x → drop i xs ≡ x ∷ drop (i + 1) xs
first_dropped xs i x h e = rw (add-one, drop-cons xs i x) (ap (λ y. y ∷ drop (suc i) xs) (sym e))
