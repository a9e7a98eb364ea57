-- Operators whose operands are still to come are no larger than the expression round them.
use Rattle.std.proofs.Common.{ℕ, ◌≤◌, List, [], ◌∷◌, ◌++◌}
use Rattle.std.specs.Borrow.{Bor}
use Rattle.pieces.specs.declared.pure_expr.Pure.{Pure, size-Pure}

abbrev pub AllWithin : ℕ → List (Bor Pure) → Type 0
AllWithin n [] = Unit {0}
AllWithin n (x ∷ xs) = (size-Pure x.now ≤ n) × AllWithin n xs

pub within_more : (n : ℕ) (xs : List (Bor Pure)) (x : Bor Pure) → AllWithin n xs → size-Pure x.now ≤ n → AllWithin n (xs ++ x ∷ [])
within_more n [] x h fits = (fits, tt)
within_more n (y ∷ ys) x h fits = (h.0, within_more n ys x h.1 fits)

pub within_front : (n : ℕ) (xs ys : List (Bor Pure)) → AllWithin n (xs ++ ys) → AllWithin n xs
within_front n [] ys h = tt
within_front n (x ∷ xs) ys h = (h.0, within_front n xs ys h.1)

pub within_last : (n : ℕ) (xs : List (Bor Pure)) (x : Bor Pure) → AllWithin n (xs ++ x ∷ []) → size-Pure x.now ≤ n
within_last n [] x h = h.0
within_last n (y ∷ ys) x h = within_last n ys x h.1
