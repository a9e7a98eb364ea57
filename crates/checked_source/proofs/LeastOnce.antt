-- A list of faults has at most one least one.
use Rattle.std.proofs.Common.{◌≡◌, ℕ, nat_lt, ◌==◌, ◌&&◌, ◌||◌, Bool, false, List, ap, ◌∙◌, arith}
use Rattle.std.proofs.lemmas.Bool.Decides.{nat_tests}
use Rattle.std.proofs.lemmas.List.Elements.{All-contains}
use Rattle.hls_base.specs.declared.place.Place.{Place}
use Rattle.hls_base.specs.declared.refusal.Refusal.{Refusal}
use Rattle.c_meaning.specs.Checks.Faults.{is_lesser, IsLeast}

-- one step of an order by several numbers
neither : (a b : ℕ) (p q : Bool) → (nat_lt a b || ((a == b) && p)) ≡ false → (nat_lt b a || ((b == a) && q)) ≡ false → (a ≡ b) × (p ≡ false) × (q ≡ false)
neither a b p q e f = (same, grind (arith, nat_tests), grind (arith, nat_tests))
  where
    same : a ≡ b
    same = grind (arith, nat_tests)

last : (a b : ℕ) → nat_lt a b ≡ false → nat_lt b a ≡ false → a ≡ b
last a b e f = grind (arith, nat_tests)

same_fault : (a b : Refusal) → is_lesser a b ≡ false → is_lesser b a ≡ false → a ≡ b
same_fault a b e f =
    let lines = neither a.place.line b.place.line _ _ e f in
    let columns = neither a.place.column b.place.column _ _ lines.1 lines.2 in
    let parts = neither a.place.part b.place.part _ _ columns.1 columns.2 in
    let Line : ℕ → Place = λ n. record { line = n; column = a.place.column; part = a.place.part } in
    let Column : ℕ → Place = λ n. record { line = b.place.line; column = n; part = a.place.part } in
    let Part : ℕ → Place = λ n. record { line = b.place.line; column = b.place.column; part = n } in
    let Rule : ℕ → Refusal = λ n. record { rule = n; place = a.place } in
    let At : Place → Refusal = λ p. record { rule = b.rule; place = p } in
    let place : a.place ≡ b.place = ap Line lines.0 ∙ (ap Column columns.0 ∙ ap Part parts.0) in
    ap Rule (last a.rule b.rule parts.1 parts.2) ∙ ap At place

pub one_least : (faults : List Refusal) (a b : Refusal) → IsLeast faults a → IsLeast faults b → b ≡ a
one_least faults a b x y =
    same_fault b a (All-contains (λ s. is_lesser s a ≡ false) faults b x.1 y.0) (All-contains (λ s. is_lesser s b ≡ false) faults a y.1 x.0)
