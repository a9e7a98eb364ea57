-- Expressions without calls, changes and commas make no pieces, and what is left has their types.
use Rattle.std.proofs.Common.{◌≡◌, ℕ, ◌∙◌, sym, refl, ap, subst, Bool, true, false, true≢false, ◌||◌, ◌&&◌, List, [], ◌∷◌, ◌++◌, if◌then◌else◌}
use Rattle.pieces.specs.Resolved.Core as core
use Rattle.pieces.specs.Resolved.Core.{CoreTree, CoreTrees}
use Rattle.pieces.specs.Trees.{PureTree}
use Rattle.piece_making.specs.declared.effects.Effects.{Effects}
use Rattle.piece_making.specs.Acting.{acts, spoils, either, no_effects, effects, effects_of_all}
use Rattle.piece_making.specs.Making.{State, Part, gives, then_}
use Rattle.piece_making.specs.Saving.{save, saved, is_logical}
use Rattle.piece_making.specs.Calls.{Call}
use Rattle.c_expand.specs.Expressions.{Callee, expression, operands, operated, chosen}

-- no effects of either
quiet_left : (a b p q r s : Bool) → ((a || b) || (p || q)) || (r || s) ≡ false → (a || p) || r ≡ false
quiet_left true b p q r s e = absurd (true≢false e)
quiet_left false true p q r s e = absurd (true≢false e)
quiet_left false false true q r s e = absurd (true≢false e)
quiet_left false false false true r s e = absurd (true≢false e)
quiet_left false false false false true s e = absurd (true≢false e)
quiet_left false false false false false s e = refl

quiet_right : (a b p q r s : Bool) → ((a || b) || (p || q)) || (r || s) ≡ false → (b || q) || s ≡ false
quiet_right true b p q r s e = absurd (true≢false e)
quiet_right false true p q r s e = absurd (true≢false e)
quiet_right false false true q r s e = absurd (true≢false e)
quiet_right false false false true r s e = absurd (true≢false e)
quiet_right false false false false true s e = absurd (true≢false e)
quiet_right false false false false false s e = e

pub quiet_first : (x y : Effects) → acts (either x y) ≡ false → acts x ≡ false
quiet_first x y e = quiet_left x.calls y.calls x.changes y.changes x.commas y.commas e

pub quiet_second : (x y : Effects) → acts (either x y) ≡ false → acts y ≡ false
quiet_second x y e = quiet_right x.calls y.calls x.changes y.changes x.commas y.commas e

pub quiet_spoils : (a b : Bool) → a || b ≡ false → a ≡ false
quiet_spoils true b e = absurd (true≢false e)
quiet_spoils false b e = refl

-- nothing is made
pub record IsQuiet {A : Type 0} (s : State) (part : Part A) : Type 0 where
  pub pieces : part.pieces ≡ []
  pub state : part.state ≡ s

quiet_gives : {A : Type 0} (x : A) (s : State) → IsQuiet s (gives x s)
quiet_gives x s = record { pieces = refl; state = refl }

quiet_then : {A B : Type 0} (s : State) (first : Part A) (next : A → State → Part B) → IsQuiet s first → ((x : A) → IsQuiet s (next x s)) → IsQuiet s (then_ first next)
unfolding then_
quiet_then s first next h g =
    let q = subst (λ z. IsQuiet z (next first.value z)) (sym h.state) (g first.value) in
    record { pieces = ap (λ z. z ++ (next first.value first.state).pieces) h.pieces ∙ q.pieces; state = q.state ∙ h.state }

quiet_save : (n : ℕ) (x : PureTree) (later : Effects) (s : State) → acts later ≡ false → IsQuiet s (save n x later s)
quiet_save n x later s e = subst (λ b. IsQuiet s (if b then saved n later.calls x s else gives x s)) (sym (quiet_spoils (spoils later) later.commas e)) (quiet_gives x s)

quiet_if : {A : Type 0} (b : Bool) (x y : Part A) (s : State) → b ≡ false → IsQuiet s y → IsQuiet s (if b then x else y)
quiet_if true x y s e h = absurd (true≢false e)
quiet_if false x y s e h = h

quiet_and : (a b : Bool) → b ≡ false → a && b ≡ false
quiet_and true b e = e
quiet_and false b e = refl

quiet_whole : (a b p q r s : Bool) → (a || p) || r ≡ false → (b || q) || s ≡ false → ((a || b) || (p || q)) || (r || s) ≡ false
quiet_whole true b p q r s e h = absurd (true≢false e)
quiet_whole false b true q r s e h = absurd (true≢false e)
quiet_whole false b false q true s e h = absurd (true≢false e)
quiet_whole false b false q false s e h = h

pub quiet_both : (x y : Effects) → acts x ≡ false → acts y ≡ false → acts (either x y) ≡ false
quiet_both x y e h = quiet_whole x.calls y.calls x.changes y.changes x.commas y.commas e h

changing_acts : (a c : Bool) → (a || true) || c ≡ false → ⊥
changing_acts true c e = true≢false e
changing_acts false c e = true≢false e

changing : (x : Effects) → (x.calls || true) || x.commas ≡ false → ⊥
changing x e = changing_acts x.calls x.commas e

commas_act : (a b : Bool) → (a || b) || true ≡ false → ⊥
commas_act true b e = true≢false e
commas_act false true e = true≢false e
commas_act false false e = true≢false e

with_commas : (x : Effects) → (x.calls || x.changes) || true ≡ false → ⊥
with_commas x e = commas_act x.calls x.changes e

module _ (g : Callee) (c : Call) where
  mutual
    unfolding chosen

    pub quiet : (e : CoreTree) (s : State) → acts (effects e) ≡ false → IsQuiet s (expression g c e s)
    quiet (core.number v k) s e = quiet_gives _ s
    quiet (core.scalar cell k at) s e = quiet_gives _ s
    quiet (core.element name subscripts k at) s e = quiet_then s (operands g c subscripts no_effects [] s) _ (all_quiet subscripts no_effects [] s e refl) (λ x. quiet_gives _ s)
    quiet (core.call callee args k at) s e = absurd (true≢false e)
    quiet (core.unary op arg k at) s e = quiet_then s (expression g c arg s) _ (quiet arg s e) (λ x. quiet_gives _ s)
    quiet (core.binary op left right k at) s e =
        let r = quiet_second (effects left) (effects right) e in
        quiet_then s (expression g c left s) (λ x s1. operated c op k at x (effects right) (expression g c right) s1) (quiet left s (quiet_first (effects left) (effects right) e)) (λ x.
        quiet_then s (save c.file_variables x (effects right) s) _ (quiet_save c.file_variables x (effects right) s r) (λ y.
        quiet_if (is_logical op && acts (effects right)) _ _ s (quiet_and (is_logical op) (acts (effects right)) r) (quiet_then s (expression g c right s) _ (quiet right s r) (λ z. quiet_gives _ s))))
    quiet (core.choice test left right k at colon) s e =
        let first = quiet_first (either (effects test) (effects left)) (effects right) e in
        let r = quiet_second (either (effects test) (effects left)) (effects right) e in
        let l = quiet_second (effects test) (effects left) first in
        quiet_then s (expression g c test s) (λ t s1. chosen c k at colon t (either (effects left) (effects right)) (expression g c left) (expression g c right) s1) (quiet test s (quiet_first (effects test) (effects left) first)) (λ x.
        quiet_if (acts (either (effects left) (effects right))) _ _ s (quiet_both (effects left) (effects right) l r) (quiet_then s (expression g c left s) _ (quiet left s l) (λ y. quiet_then s (expression g c right s) _ (quiet right s r) (λ z. quiet_gives _ s))))
    quiet (core.cast to arg) s e = quiet_then s (expression g c arg s) _ (quiet arg s e) (λ x. quiet_gives _ s)
    quiet (core.assign (core.target cell subscripts k place) op v at) s e = absurd (changing (either (effects_of_all subscripts) (effects v)) e)
    quiet (core.bump (core.target cell subscripts k place) up post at) s e = absurd (changing (effects_of_all subscripts) e)
    quiet (core.comma left right) s e = absurd (with_commas (either (effects left) (effects right)) e)

    pub all_quiet : (xs : CoreTrees) (later : Effects) (before : List PureTree) (s : State) → acts (effects_of_all xs) ≡ false → acts later ≡ false → IsQuiet s (operands g c xs later before s)
    all_quiet core.none later before s e l = quiet_gives before s
    all_quiet (core.more first rest) later before s e l =
        let r = quiet_second (effects first) (effects_of_all rest) e in
        quiet_then s (expression g c first s) _ (quiet first s (quiet_first (effects first) (effects_of_all rest) e)) (λ x.
        quiet_then s (save c.file_variables x (either (effects_of_all rest) later) s) _ (quiet_save c.file_variables x (either (effects_of_all rest) later) s (quiet_both (effects_of_all rest) later r l)) (λ y.
        all_quiet rest later (before ++ y ∷ []) s r l))
