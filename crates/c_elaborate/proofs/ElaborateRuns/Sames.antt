-- Parts of two runs that are the same, one after another.
use Rattle.std.proofs.Common.{◌≡◌, ℕ, zero, suc, ◌∙◌, sym, refl, ap, subst, Bool, true, false, List, [], ◌++◌, append-nil, append_assoc, take, ℤ}
use Rattle.hls_base.specs.declared.place.Place.{Place}
use Rattle.hls_base.specs.declared.point.Point.{Point}
use Rattle.hls_base.specs.declared.point.PointKind.{PointKind}
use Rattle.hls_base.specs.declared.point.PointKind.TheVariants as point
use Rattle.hls_base.specs.declared.refusal.UbRule.{UbRule}
use Rattle.c_token.specs.declared.ctype.CType.{CType}
use Rattle.c_meaning.specs.declared.value.Value.{Value}
use Rattle.c_meaning.specs.declared.value.Completion.{Completion}
use Rattle.c_meaning.specs.declared.value.Completion.TheVariants as end
use Rattle.c_meaning.specs.declared.value.Round.{Round}
use Rattle.c_meaning.specs.declared.value.Round.TheVariants as round
use Rattle.c_meaning.specs.Store.{Object, State, Environment, left_block}
use Rattle.c_meaning.specs.Steps as c
use Rattle.c_meaning.specs.Expression as ce
use Rattle.c_meaning.specs.Expression.{value}
use Rattle.c_meaning.specs.Statement as cs
use Rattle.c_meaning.specs.Statement.{round_of, completion_of}
use Rattle.pieces.specs.Resolved.Core.{CoreObjectTree}
use Rattle.hls_base.specs.Steps as core
use Rattle.c_meaning.specs.CoreRuns.Cells.{Spot, Cells}
use Rattle.c_meaning.specs.CoreRuns.Expressions.{point_at}
use Rattle.c_meaning.specs.CoreRuns.Statements as ks
use Rattle.c_elaborate.specs.Homes.{placed}
use Rattle.c_elaborate.specs.Same.{Follows, Same, Equal, Valued}

-- ---- parts that pass no point

pub goes_same : {A B : Type 0} (R : A → List Object → B → Cells → Type 0) (v : A) (s : State) (w : B) (t : Cells) → R v s.objects w t → Same R (c.goes v s) (core.goes w t s.left)
goes_same R v s w t r = (w, t, refl, r)

pub fails_same : {A B : Type 0} (R : A → List Object → B → Cells → Type 0) (rule : UbRule) (at : Place) → Same R (c.fails {A = A} rule at) (core.fails {S = Cells} {A = B} rule at)
fails_same R rule at = refl

-- ---- one after another

after_trace : {A B : Type 0} (R : A → List Object → B → Cells → Type 0) (trace more : List Point) (o : c.Outcome A) (r : core.Ran Cells B)
    → Follows R more o r → Follows R (trace ++ more) o (core.ran (trace ++ r.trace) r.outcome)
after_trace {A} {B} R trace more (c.went v s) r h = (h.0, h.1, ap (λ (x : core.Ran Cells B). core.ran (trace ++ x.trace) x.outcome) h.2, h.3)
after_trace {A} {B} R trace more (c.undefined rule at) r h = ap (λ (x : core.Ran Cells B). core.ran (trace ++ x.trace) x.outcome) h
after_trace {A} {B} R trace more c.waiting r h = ap (λ (x : core.Ran Cells B). core.ran (trace ++ x.trace) x.outcome) h

abbrev whole : {A : Type 0} → List Point → c.Outcome A → c.Ran A
whole trace o = record { trace = trace; outcome = o }

then_at : {A B C D : Type 0} (R : A → List Object → B → Cells → Type 0) (Q : C → List Object → D → Cells → Type 0)
    (trace : List Point) (o : c.Outcome A) (r : core.Ran Cells B) (f : A → State → c.Ran C) (g : B → Cells → ℕ → core.Ran Cells D)
    → Follows R trace o r → ((v : A) (s : State) (w : B) (t : Cells) → R v s.objects w t → Same Q (f v s) (g w t s.left))
    → Same Q (c.then_ (whole trace o) f) (core.then_ r g)
then_at {A} {B} {C} {D} R Q trace (c.went v s) r f g h next =
    subst (λ (x : core.Ran Cells B). Same Q (c.then_ (whole trace (c.went v s)) f) (core.then_ x g)) (sym h.2)
    (after_trace Q trace (f v s).trace (f v s).outcome (g h.0 h.1 s.left) (next v s h.0 h.1 h.3))
then_at {A} {B} {C} {D} R Q trace (c.undefined rule at) r f g h next =
    ap (λ (x : core.Ran Cells B). core.then_ x g) h
then_at {A} {B} {C} {D} R Q trace c.waiting r f g h next = ap (λ (x : core.Ran Cells B). core.then_ x g) h

pub then_same : {A B C D : Type 0} (R : A → List Object → B → Cells → Type 0) (Q : C → List Object → D → Cells → Type 0)
    (q : c.Ran A) (r : core.Ran Cells B) (f : A → State → c.Ran C) (g : B → Cells → ℕ → core.Ran Cells D)
    → Same R q r → ((v : A) (s : State) (w : B) (t : Cells) → R v s.objects w t → Same Q (f v s) (g w t s.left))
    → Same Q (c.then_ q f) (core.then_ r g)
then_same R Q q r f g h next = then_at R Q q.trace q.outcome r f g h next

-- The first one does something at its end that passes no point.
ends_at : {A B C : Type 0} (R : A → List Object → B → Cells → Type 0) (Q : C → List Object → B → Cells → Type 0) (trace : List Point) (o : c.Outcome A) (r : core.Ran Cells B) (f : A → C) (g : State → State)
    → ((s : State) → (g s).left ≡ s.left) → ((v : A) (s : State) (w : B) (t : Cells) → R v s.objects w t → Q (f v) (g s).objects w t)
    → Follows R trace o r → Same Q (c.then_ (whole trace o) (λ v s. c.goes (f v) (g s))) r
ends_at {A} {B} {C} R Q trace (c.went v s) r f g keeps next h =
    (h.0, h.1, h.2 ∙ (ap (λ x. core.ran x (core.went h.0 h.1 s.left)) (sym (append-nil trace)) ∙ ap (λ n. core.ran (trace ++ []) (core.went h.0 h.1 n)) (sym (keeps s))), next v s h.0 h.1 h.3)
ends_at {A} {B} {C} R Q trace (c.undefined rule at) r f g keeps next h = h ∙ ap (λ x. core.ran x (core.undefined rule at)) (sym (append-nil trace))
ends_at {A} {B} {C} R Q trace c.waiting r f g keeps next h = h ∙ ap (λ x. core.ran x core.waiting) (sym (append-nil trace))

pub ends_same : {A B C : Type 0} (R : A → List Object → B → Cells → Type 0) (Q : C → List Object → B → Cells → Type 0) (q : c.Ran A) (r : core.Ran Cells B) (f : A → C)
    → ((v : A) (s : List Object) (w : B) (t : Cells) → R v s w t → Q (f v) s w t) → Same R q r → Same Q (c.then_ q (λ v s. c.goes (f v) s)) r
ends_same R Q q r f next h = ends_at R Q q.trace q.outcome r f (λ s. s) (λ s. refl) (λ v s w t a. next v s.objects w t a) h

pub leaves_same : {A B : Type 0} (R Q : A → List Object → B → Cells → Type 0) (q : c.Ran A) (r : core.Ran Cells B) (count : ℕ)
    → ((v : A) (s : List Object) (w : B) (t : Cells) → R v s w t → Q v (take count s) w t) → Same R q r → Same Q (c.then_ q (λ v s. c.goes v (left_block count s))) r
leaves_same R Q q r count next h = ends_at R Q q.trace q.outcome r (λ v. v) (left_block count) (λ s. refl) (λ v s w t a. next v s.objects w t a) h

-- The second one does something at its end that passes no point.
finishes_at : {A B C : Type 0} (R : A → List Object → B → Cells → Type 0) (Q : A → List Object → C → Cells → Type 0) (trace : List Point) (o : c.Outcome A) (r : core.Ran Cells B) (f : B → C)
    → ((v : A) (s : List Object) (w : B) (t : Cells) → R v s w t → Q v s (f w) t)
    → Follows R trace o r → Follows Q trace o (core.then_ r (λ w t n. core.goes (f w) t n))
finishes_at {A} {B} {C} R Q trace (c.went v s) r f next h =
    (f h.0, h.1, ap (λ (x : core.Ran Cells B). core.then_ x (λ w t n. core.goes (f w) t n)) h.2 ∙ ap (λ x. core.ran x (core.went (f h.0) h.1 s.left)) (append-nil trace), next v s.objects h.0 h.1 h.3)
finishes_at {A} {B} {C} R Q trace (c.undefined rule at) r f next h =
    ap (λ (x : core.Ran Cells B). core.then_ x (λ w t n. core.goes (f w) t n)) h ∙ ap (λ x. core.ran x (core.undefined rule at)) (append-nil trace)
finishes_at {A} {B} {C} R Q trace c.waiting r f next h =
    ap (λ (x : core.Ran Cells B). core.then_ x (λ w t n. core.goes (f w) t n)) h ∙ ap (λ x. core.ran x core.waiting) (append-nil trace)

pub finishes_same : {A B C : Type 0} (R : A → List Object → B → Cells → Type 0) (Q : A → List Object → C → Cells → Type 0) (q : c.Ran A) (r : core.Ran Cells B) (f : B → C)
    → ((v : A) (s : List Object) (w : B) (t : Cells) → R v s w t → Q v s (f w) t) → Same R q r → Same Q q (core.then_ r (λ w t n. core.goes (f w) t n))
finishes_same R Q q r f next h = finishes_at R Q q.trace q.outcome r f next h

-- parts of three, in either grouping
then_then_at : {A B C : Type 0} (trace : List Point) (o : core.Outcome Cells A) (f : A → Cells → ℕ → core.Ran Cells B) (g : B → Cells → ℕ → core.Ran Cells C)
    → core.then_ (core.then_ (core.ran trace o) f) g ≡ core.then_ (core.ran trace o) (λ v t n. core.then_ (f v t n) g)
then_then_at {A} {B} {C} trace (core.went v t n) f g = ap (λ x. core.ran x (core.after (f v t n).outcome g).outcome) (append_assoc trace (f v t n).trace (core.after (f v t n).outcome g).trace)
then_then_at {A} {B} {C} trace (core.undefined rule at) f g = ap (λ x. core.ran x (core.undefined rule at)) (append-nil (trace ++ []))
then_then_at {A} {B} {C} trace core.waiting f g = ap (λ x. core.ran x core.waiting) (append-nil (trace ++ []))

pub then_then : {A B C : Type 0} (r : core.Ran Cells A) (f : A → Cells → ℕ → core.Ran Cells B) (g : B → Cells → ℕ → core.Ran Cells C)
    → core.then_ (core.then_ r f) g ≡ core.then_ r (λ v t n. core.then_ (f v t n) g)
then_then r f g = then_then_at r.trace r.outcome f g

then_each_at : {A B : Type 0} (trace : List Point) (o : core.Outcome Cells A) (f g : A → Cells → ℕ → core.Ran Cells B) → ((v : A) (t : Cells) (n : ℕ) → f v t n ≡ g v t n)
    → core.then_ (core.ran trace o) f ≡ core.then_ (core.ran trace o) g
then_each_at {A} {B} trace (core.went v t n) f g h = ap (λ (x : core.Ran Cells B). core.ran (trace ++ x.trace) x.outcome) (h v t n)
then_each_at {A} {B} trace (core.undefined rule at) f g h = refl
then_each_at {A} {B} trace core.waiting f g h = refl

pub then_each : {A B : Type 0} (r : core.Ran Cells A) (f g : A → Cells → ℕ → core.Ran Cells B) → ((v : A) (t : Cells) (n : ℕ) → f v t n ≡ g v t n) → core.then_ r f ≡ core.then_ r g
then_each r f g h = then_each_at r.trace r.outcome f g h

-- the same in the program's run
then_after_at : {A B C : Type 0} (trace : List Point) (o : c.Outcome A) (f : A → State → c.Ran B) (g : B → State → c.Ran C)
    → c.then_ (c.then_ (whole trace o) f) g ≡ c.then_ (whole trace o) (λ v s. c.then_ (f v s) g)
then_after_at {A} {B} {C} trace (c.went v s) f g = ap (λ x. whole x (c.after (f v s).outcome g).outcome) (append_assoc trace (f v s).trace (c.after (f v s).outcome g).trace)
then_after_at {A} {B} {C} trace (c.undefined rule at) f g = ap (λ x. whole x (c.undefined rule at)) (append-nil (trace ++ []))
then_after_at {A} {B} {C} trace c.waiting f g = ap (λ x. whole x c.waiting) (append-nil (trace ++ []))

pub then_after : {A B C : Type 0} (q : c.Ran A) (f : A → State → c.Ran B) (g : B → State → c.Ran C) → c.then_ (c.then_ q f) g ≡ c.then_ q (λ v s. c.then_ (f v s) g)
then_after q f g = then_after_at q.trace q.outcome f g

then_goes_at : {A : Type 0} (trace : List Point) (o : c.Outcome A) → c.then_ (whole trace o) (λ v s. c.goes v s) ≡ whole trace o
then_goes_at {A} trace (c.went v s) = ap (λ x. whole x (c.went v s)) (append-nil trace)
then_goes_at {A} trace (c.undefined rule at) = ap (λ x. whole x (c.undefined rule at)) (append-nil trace)
then_goes_at {A} trace c.waiting = ap (λ x. whole x c.waiting) (append-nil trace)

pub then_goes : {A : Type 0} (q : c.Ran A) → c.then_ q (λ v s. c.goes v s) ≡ q
then_goes q = then_goes_at q.trace q.outcome

-- ---- equal values

module _ (I : List Object → Cells → Type 0) where
  pub goes_equal : {A : Type 0} (v : A) (s : State) (t : Cells) → I s.objects t → Same (Equal I) (c.goes v s) (core.goes v t s.left)
  goes_equal v s t h = goes_same (Equal I) v s v t (refl, h)

  pub then_equal : {A C D : Type 0} (Q : C → List Object → D → Cells → Type 0) (q : c.Ran A) (r : core.Ran Cells A) (f : A → State → c.Ran C) (g : A → Cells → ℕ → core.Ran Cells D)
      → Same (Equal I) q r → ((x : A) (s : State) (t : Cells) → I s.objects t → Same Q (f x s) (g x t s.left)) → Same Q (c.then_ q f) (core.then_ r g)
  then_equal {A} Q q r f g h next =
      then_same (Equal I) Q q r f g h (λ v s w t e. subst (λ (x : A). Same Q (f v s) (g x t s.left)) e.0 (next v s t e.1))

  pub goes_valued : (kind : CType) (v : ℤ) (s : State) (t : Cells) → I s.objects t → Same (Valued I kind) (c.goes (value kind v) s) (core.goes v t s.left)
  goes_valued kind v s t h = goes_same (Valued I kind) (value kind v) s v t (refl, h)

  pub then_valued : {C D : Type 0} (kind : CType) (Q : C → List Object → D → Cells → Type 0) (q : c.Ran Value) (r : core.Ran Cells ℤ) (f : Value → State → c.Ran C) (g : ℤ → Cells → ℕ → core.Ran Cells D)
      → Same (Valued I kind) q r → ((x : ℤ) (s : State) (t : Cells) → I s.objects t → Same Q (f (value kind x) s) (g x t s.left)) → Same Q (c.then_ q f) (core.then_ r g)
  then_valued kind Q q r f g h next =
      then_same (Valued I kind) Q q r f g h (λ v s w t e. subst (λ (x : Value). Same Q (f x s) (g w t s.left)) (sym e.0) (next w s t e.1))

  -- ---- points

  pub pass_same : (p : Point) (left : ℕ) (s : State) (t : Cells) → I s.objects t → Same (Equal I) (c.pass_point p left s) (core.pass p t left)
  pass_same p zero s t h = refl
  pass_same p (suc left) s t h = (tt, t, refl, (refl, h))

  -- ---- control, where the two sides stand at the same place

  module _ (frame : ℕ) (spots : ℕ → Spot) (objects : List CoreObjectTree) where
    pub pass_if_same : (fork : Bool) (kind : PointKind) (at : Place) (env : Environment) (s : State) (t : Cells) → I s.objects t
        → Same (Equal I) (ce.pass_if fork kind at env s) (core.pass_if fork (point_at kind at (placed frame spots objects env)) t s.left)
    pass_if_same true kind at env s t h = pass_same (point_at kind at (placed frame spots objects env)) s.left s t h
    pass_if_same false kind at env s t h = goes_equal tt s t h

    pub reached_same : {A B : Type 0} (Q : A → List Object → B → Cells → Type 0) (kind : PointKind) (at : Place) (env : Environment) (f : State → c.Ran A) (g : Cells → ℕ → core.Ran Cells B)
        → ((s : State) (t : Cells) → I s.objects t → Same Q (f s) (g t s.left)) → (s : State) (t : Cells) → I s.objects t
        → Same Q (c.then_ (c.pass kind at env s) (λ p s1. f s1)) (core.reached (point_at kind at (placed frame spots objects env)) g t s.left)
    reached_same Q kind at env f g part s t h =
        then_equal Q (c.pass kind at env s) (core.pass (point_at kind at (placed frame spots objects env)) t s.left) (λ p s1. f s1) (λ u t1 n1. g t1 n1) (pass_same (point_at kind at (placed frame spots objects env)) s.left s t h) (λ u s1 t1 h1. part s1 t1 h1)

    pub passed_same : {A : Type 0} (v : A) (kind : PointKind) (at : Place) (env : Environment) (s : State) (t : Cells) → I s.objects t
        → Same (Equal I) (c.then_ (c.pass kind at env s) (λ p s1. c.goes v s1)) (core.then_ (core.pass (point_at kind at (placed frame spots objects env)) t s.left) (λ p t1 n1. core.goes v t1 n1))
    passed_same v kind at env s t h =
        then_equal (Equal I) _ _ _ _ (pass_same (point_at kind at (placed frame spots objects env)) s.left s t h) (λ u s1 t1 h1. goes_equal v s1 t1 h1)

    pub go_on_same : (r : Completion) (f : State → c.Ran Completion) (g : Cells → ℕ → core.Ran Cells Completion) → ((s : State) (t : Cells) → I s.objects t → Same (Equal I) (f s) (g t s.left))
        → (s : State) (t : Cells) → I s.objects t → Same (Equal I) (cs.go_on r f s) (ks.go_on r g t s.left)
    go_on_same end.Normal f g next s t h = next s t h
    go_on_same end.Broke f g next s t h = goes_equal end.Broke s t h
    go_on_same end.Continued f g next s t h = goes_equal end.Continued s t h
    go_on_same (end.Returned v tail) f g next s t h = goes_equal (end.Returned v tail) s t h

    pub behind_if_same : (r : Completion) (at : Place) (env : Environment) (s : State) (t : Cells) → I s.objects t → Same (Equal I) (cs.behind_if r at env s) (ks.behind_if r at (placed frame spots objects env) t s.left)
    behind_if_same end.Normal at env s t h = passed_same end.Normal point.End at env s t h
    behind_if_same end.Broke at env s t h = goes_equal end.Broke s t h
    behind_if_same end.Continued at env s t h = goes_equal end.Continued s t h
    behind_if_same (end.Returned v true) at env s t h = passed_same (end.Returned v true) point.End at env s t h
    behind_if_same (end.Returned v false) at env s t h = goes_equal (end.Returned v false) s t h

    pub behind_breakable_same : (r : Completion) (at : Place) (env : Environment) (s : State) (t : Cells) → I s.objects t
        → Same (Equal I) (cs.behind_breakable r at env s) (ks.behind_breakable r at (placed frame spots objects env) t s.left)
    behind_breakable_same end.Normal at env s t h = passed_same end.Normal point.End at env s t h
    behind_breakable_same end.Broke at env s t h = passed_same end.Normal point.End at env s t h
    behind_breakable_same end.Continued at env s t h = goes_equal end.Continued s t h
    behind_breakable_same (end.Returned v tail) at env s t h = goes_equal (end.Returned v tail) s t h

    pub if_again_same : (r : Round) (f : State → c.Ran Round) (g : Cells → ℕ → core.Ran Cells Round) → ((s : State) (t : Cells) → I s.objects t → Same (Equal I) (f s) (g t s.left))
        → (s : State) (t : Cells) → I s.objects t → Same (Equal I) (cs.if_again r f s) (ks.if_again r g t s.left)
    if_again_same round.Again f g next s t h = next s t h
    if_again_same round.Over f g next s t h = goes_equal round.Over s t h
    if_again_same (round.Out v) f g next s t h = goes_equal (round.Out v) s t h

    -- What each iteration keeps, the loop keeps.
    pub repeat_same : (f : State → c.Ran Round) (g : Cells → ℕ → core.Ran Cells Round) → ((s : State) (t : Cells) → I s.objects t → Same (Equal I) (f s) (g t s.left))
        → (fuel : ℕ) (s : State) (t : Cells) → I s.objects t → Same (Equal I) (cs.repeat fuel f s) (ks.repeat fuel g t s.left)
    repeat_same f g part zero s t h = refl
    repeat_same f g part (suc fuel) s t h =
        then_equal (Equal I) (f s) (g t s.left) (λ r s1. cs.if_again r (cs.repeat fuel f) s1) (λ r t1 n1. ks.if_again r (ks.repeat fuel g) t1 n1) (part s t h)
        (λ r s1 t1 h1. if_again_same r (cs.repeat fuel f) (ks.repeat fuel g) (λ s2 t2 h2. repeat_same f g part fuel s2 t2 h2) s1 t1 h1)

    pub loop_same : (at : Place) (env : Environment) (f : State → c.Ran Round) (g : Cells → ℕ → core.Ran Cells Round) → ((s : State) (t : Cells) → I s.objects t → Same (Equal I) (f s) (g t s.left))
        → (s : State) (t : Cells) → I s.objects t → Same (Equal I) (cs.loop at env f s) (ks.loop at (placed frame spots objects env) g t s.left)
    loop_same at env f g part s t h =
        then_equal (Equal I) (cs.repeat s.left f s) (ks.repeat s.left g t s.left) (λ r s1. cs.behind_loop r at env s1) (λ r t1 n1. ks.behind_breakable (completion_of r) at (placed frame spots objects env) t1 n1)
        (repeat_same f g part s.left s t h) (λ r s1 t1 h1. behind_breakable_same (completion_of r) at env s1 t1 h1)

    pub run_body_same : (body : Environment → State → c.Ran Completion) (g : Cells → ℕ → core.Ran Cells Completion) (at : Place) (env : Environment)
        → ((s : State) (t : Cells) → I s.objects t → Same (Equal I) (body env s) (g t s.left))
        → (s : State) (t : Cells) → I s.objects t → Same (Equal I) (cs.run_body body at env s) (ks.run_body g at (placed frame spots objects env) t s.left)
    run_body_same body g at env part s t h =
        subst (λ (x : core.Ran Cells Round). Same (Equal I) (cs.run_body body at env s) x) (sym (then_then (core.pass (point_at point.Body at (placed frame spots objects env)) t s.left) (λ u t1 n1. g t1 n1) (λ r t1 n1. core.goes (round_of r) t1 n1)))
        (then_equal (Equal I) _ _ _ (λ u t1 n1. core.then_ (g t1 n1) (λ r t2 n2. core.goes (round_of r) t2 n2)) (pass_same (point_at point.Body at (placed frame spots objects env)) s.left s t h)
        (λ u s1 t1 h1. then_equal (Equal I) (body env s1) (g t1 s1.left) _ _ (part s1 t1 h1) (λ r s2 t2 h2. goes_equal (round_of r) s2 t2 h2)))
