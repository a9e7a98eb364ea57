-- One more operation, and one more truth.
use Rattle.std.proofs.Common.{◌≡◌, ◌++◌, List, [], ◌∷◌, map, refl, Bool, true, false, ◌&&◌}
use Rattle.ir_core.specs.declared.body.Op.{Op}
use Rattle.ir_core.specs.declared.stamp.Untimed.{Untimed}
use Rattle.value_number.specs.Settled.{is_settled, all_settled, all_true}

both : (a b : Bool) → a ≡ true → b ≡ true → (a && b) ≡ true
both true b e h = h
both false b e h = e

first : (a b : Bool) → (a && b) ≡ true → a ≡ true
first true b e = refl
first false b e = e

second : (a b : Bool) → (a && b) ≡ true → b ≡ true
second true b e = e
second false true e = refl
second false false e = e

pub settled_more : (ops : List (Op Untimed)) (op : Op Untimed) → all_settled ops ≡ true → is_settled op ≡ true → all_settled (ops ++ op ∷ []) ≡ true
settled_more [] op e h = both (is_settled op) true h refl
settled_more (o ∷ ops) op e h = both (is_settled o) (all_settled (ops ++ op ∷ [])) (first (is_settled o) (all_settled ops) e) (settled_more ops op (second (is_settled o) (all_settled ops) e) h)

pub all_true_more : {A : Type 0} (f : A → Bool) (xs : List A) (x : A) → all_true (map f xs) ≡ true → f x ≡ true → all_true (map f (xs ++ x ∷ [])) ≡ true
all_true_more f [] x e h = both (f x) true h refl
all_true_more f (y ∷ ys) x e h = both (f y) (all_true (map f (ys ++ x ∷ []))) (first (f y) (all_true (map f ys)) e) (all_true_more f ys x (second (f y) (all_true (map f ys)) e) h)

pub both_hold : (a b : Bool) → a ≡ true → b ≡ true → (a && b) ≡ true
both_hold = both

pub ruleset adding = (settled_more, all_true_more, both_hold)
