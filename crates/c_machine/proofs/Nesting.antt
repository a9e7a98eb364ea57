-- Several parts of a run one after another, from the left and from the right.
use Rattle.std.proofs.Common.{◌≡◌, ◌∙◌, ap}
use Rattle.c_meaning.specs.Store.{State}
use Rattle.c_meaning.specs.Steps.{Ran, then_}
use Rattle.c_machine.proofs.ThenLaws.{then_assoc, then_same}

pub nest3 : {A B C D : Type 0} (r : Ran A) (f : A → State → Ran B) (g : B → State → Ran C) (k : C → State → Ran D)
    → then_ (then_ (then_ r f) g) k ≡ then_ r (λ v s. then_ (then_ (f v s) g) k)
nest3 {A} {B} {C} {D} r f g k = ap (λ (x : Ran C). then_ x k) (then_assoc r f g) ∙ then_assoc r (λ v s. then_ (f v s) g) k

pub nest4 : {A B C D E : Type 0} (r : Ran A) (f : A → State → Ran B) (g : B → State → Ran C) (h : C → State → Ran D) (k : D → State → Ran E)
    → then_ (then_ (then_ (then_ r f) g) h) k ≡ then_ r (λ v s. then_ (then_ (then_ (f v s) g) h) k)
nest4 {A} {B} {C} {D} {E} r f g h k = ap (λ (x : Ran D). then_ x k) (nest3 r f g h) ∙ then_assoc r (λ v s. then_ (then_ (f v s) g) h) k

pub inner2 : {P A B C : Type 0} (p : Ran P) (r : P → State → Ran A) (q : A → State → Ran B) (k : B → State → Ran C)
    → then_ (then_ p (λ u s. then_ (r u s) q)) k ≡ then_ p (λ u s. then_ (r u s) (λ v s1. then_ (q v s1) k))
inner2 p r q k = then_assoc p (λ u s. then_ (r u s) q) k
    ∙ then_same p (λ u s. then_ (then_ (r u s) q) k) (λ u s. then_ (r u s) (λ v s1. then_ (q v s1) k)) (λ u s. then_assoc (r u s) q k)

pub inner3 : {P A B C D : Type 0} (p : Ran P) (r : P → State → Ran A) (q : A → State → Ran B) (g : B → State → Ran C) (k : C → State → Ran D)
    → then_ (then_ (then_ p (λ u s. then_ (r u s) q)) g) k ≡ then_ p (λ u s. then_ (r u s) (λ v s1. then_ (then_ (q v s1) g) k))
inner3 p r q g k = nest3 p (λ u s. then_ (r u s) q) g k
    ∙ then_same p (λ u s. then_ (then_ (then_ (r u s) q) g) k) (λ u s. then_ (r u s) (λ v s1. then_ (then_ (q v s1) g) k)) (λ u s. nest3 (r u s) q g k)

pub inner4 : {P A B C D E : Type 0} (p : Ran P) (r : P → State → Ran A) (q : A → State → Ran B) (t : B → State → Ran C) (g : C → State → Ran D) (k : D → State → Ran E)
    → then_ (then_ (then_ (then_ p (λ u s. then_ (r u s) q)) t) g) k ≡ then_ p (λ u s. then_ (r u s) (λ v s1. then_ (then_ (then_ (q v s1) t) g) k))
inner4 p r q t g k = nest4 p (λ u s. then_ (r u s) q) t g k
    ∙ then_same p (λ u s. then_ (then_ (then_ (then_ (r u s) q) t) g) k) (λ u s. then_ (r u s) (λ v s1. then_ (then_ (then_ (q v s1) t) g) k)) (λ u s. nest4 (r u s) q t g k)
