-- Parts step by step: what is made so far, with the part that comes next, is the whole.
use Rattle.std.specs.Prelude.{◌&&◌, if◌then◌else◌}
use Rattle.std.proofs.lemmas.Bool.{false≢true}
use Rattle.std.proofs.Common.{◌≡◌, ◌≤◌, ◌+◌, ℕ, Bool, true, false, List, [], ◌++◌, length, drop, refl, sym, ap, subst, ◌∙◌, arith}
use Rattle.std.proofs.Math.ListN.{drop_of_length-le}
use Rattle.std.proofs.lemmas.Grind.{common_steps}
use Rattle.hls_base.specs.declared.refusal.Refusal.{Refusal}
use Rattle.pieces.specs.Trees.{PieceTree}
use Rattle.pieces.specs.declared.piece.Label.{Label}
use Rattle.piece_making.specs.Making.{State, Part, gives, behind, then_, emit}
use Rattle.piece_making.specs.Stocks.{Stock, state_of, IsMade, IsTooHeavy}
use Rattle.piece_making.proofs.Parts.{nothing_made, made_behind, heavy_at_once, heavy_behind}

-- nothing is made, and this is the value
pub given : {A : Type 0} (s : Stock) (v w : A) → v ≡ w → IsMade s s v (gives w (state_of s))
given s v w e = subst (λ x. IsMade s s v (gives x (state_of s))) e (nothing_made s v)

pub made_as : {A : Type 0} (old new : Stock) (v : A) (p q : Part A) → p ≡ q → IsMade old new v p → IsMade old new v q
made_as old new v p q e h = subst (IsMade old new v) e h

pub heavy_as : {A : Type 0} (old : Stock) (r : Refusal) (p q : Part A) → p ≡ q → IsTooHeavy old r p → IsTooHeavy old r q
heavy_as old r p q e h = subst (IsTooHeavy old r) e h

pub valued_as : {A : Type 0} (old new : Stock) (v w : A) (p : Part A) → v ≡ w → IsMade old new v p → IsMade old new w p
valued_as old new v w p e h = subst (λ x. IsMade old new x p) e h

-- one piece, which is this one
pub piece_made : (old new : Stock) (u : Unit {0}) (p q : PieceTree) → p ≡ q → IsMade old new u (emit p (state_of old)) → IsMade old new u (emit q (state_of old))
piece_made old new u p q e h = subst (λ (x : PieceTree). IsMade old new u (emit x (state_of old))) e h

pub piece_heavy : (old : Stock) (r : Refusal) (p q : PieceTree) → p ≡ q → IsTooHeavy old r (emit p (state_of old)) → IsTooHeavy old r (emit q (state_of old))
piece_heavy old r p q e h = subst (λ (x : PieceTree). IsTooHeavy old r (emit x (state_of old))) e h

-- ---- what is made so far, and what comes next

pub record Leads {A : Type 0} (old mid : Stock) (rest whole : Part A) : Type 0 where
  pub made : (new : Stock) (v : A) → IsMade mid new v rest → IsMade old new v whole
  pub heavy : (r : Refusal) → IsTooHeavy mid r rest → IsTooHeavy old r whole

pub begins : {A : Type 0} (s : Stock) (part : Part A) → Leads s s part part
begins s part = record { made = λ new v h. h; heavy = λ r h. h }

pub begins_as : {A : Type 0} (s : Stock) (p q : Part A) → p ≡ q → Leads s s q p
begins_as s p q e = subst (λ x. Leads s s x p) e (begins s p)

pub leads_as : {A : Type 0} (old mid : Stock) (p q whole : Part A) → p ≡ q → Leads old mid p whole → Leads old mid q whole
leads_as old mid p q whole e l = subst (λ x. Leads old mid x whole) e l

pub goes_on : {A B : Type 0} (old mid new : Stock) (v : A) (first : Part A) (next : A → State → Part B) (whole : Part B)
    → IsMade mid new v first → Leads old mid (then_ first next) whole → Leads old new (next v (state_of new)) whole
goes_on old mid new v first next whole h l = record {
  made = λ last w k. l.made last w (made_behind mid new last v w first next h k);
  heavy = λ r k. l.heavy r (heavy_behind mid new r v first next h k);
}

pub stops : {A B : Type 0} (old mid : Stock) (r : Refusal) (first : Part A) (next : A → State → Part B) (whole : Part B)
    → Leads old mid (then_ first next) whole → IsTooHeavy mid r first → IsTooHeavy old r whole
stops old mid r first next whole l h = l.heavy r (heavy_at_once mid r first next h)

pub ends : {A : Type 0} (old mid : Stock) (v w : A) (whole : Part A) → v ≡ w → Leads old mid (gives w (state_of mid)) whole → IsMade old mid v whole
ends old mid v w whole e l = l.made mid v (given mid v w e)

-- ---- laws of parts behind one another

joined_twice : {A : Type 0} (xs ys zs : List A) → (xs ++ ys) ++ zs ≡ xs ++ (ys ++ zs)
joined_twice xs ys zs = grind (arith, common_steps)

nothing_joined : {A : Type 0} (xs : List A) → xs ++ [] ≡ xs
nothing_joined xs = grind (arith, common_steps)

behind_behind : {A B C : Type 0} (p : Part A) (q : Part B) (r : Part C) → behind (behind p q) r ≡ behind p (behind q r)
behind_behind p q r =
    let a = joined_twice p.pieces q.pieces r.pieces in
    let b = joined_twice p.labels q.labels r.labels in
    let c : (p.weight + q.weight) + r.weight ≡ p.weight + (q.weight + r.weight) = omega arith in
    cc

pub then_then : {A B C : Type 0} (p : Part A) (f : A → State → Part B) (g : B → State → Part C) → then_ (then_ p f) g ≡ then_ p (λ x s. then_ (f x s) g)
unfolding then_
then_then p f g =
    let q = f p.value p.state in
    behind_behind p q (g q.value q.state)

abbrev part_of : {A : Type 0} → A → State → List PieceTree → List Label → ℕ → Part A
part_of value state pieces labels weight = record { value = value; pieces = pieces; labels = labels; weight = weight; state = state }

same_part : {A : Type 0} (p : Part A) (xs : List PieceTree) (ls : List Label) (n : ℕ) → xs ≡ p.pieces → ls ≡ p.labels → n ≡ p.weight → part_of p.value p.state xs ls n ≡ p
same_part p xs ls n a b c =
    ap (λ (ys : List PieceTree). part_of p.value p.state ys ls n) a
    ∙ (ap (λ (ms : List Label). part_of p.value p.state p.pieces ms n) b
    ∙ ap (λ (m : ℕ). part_of p.value p.state p.pieces p.labels m) c)

-- nothing behind a part
pub then_nothing : {A : Type 0} (p : Part A) → then_ p (λ x s. gives x s) ≡ p
unfolding then_
then_nothing p = same_part p (p.pieces ++ []) (p.labels ++ []) (p.weight + 0) (nothing_joined p.pieces) (nothing_joined p.labels) (omega arith)

-- a part behind nothing
pub nothing_then : {A B : Type 0} (x : A) (s : State) (f : A → State → Part B) → then_ (gives x s) f ≡ f x s
unfolding then_
nothing_then x s f = same_part (f x s) (f x s).pieces (f x s).labels (0 + (f x s).weight) refl refl (omega arith)

-- the same part behind it, for the value that it has
pub same_behind : {A B : Type 0} (p : Part A) (f g : A → State → Part B) → ((x : A) (s : State) → f x s ≡ g x s) → then_ p f ≡ then_ p g
unfolding then_
same_behind p f g e = ap (λ q. behind p q) (e p.value p.state)

-- ---- one of two parts

pub first_made : {A : Type 0} (b : Bool) (old new : Stock) (v : A) (p q : Part A) → b ≡ true → IsMade old new v p → IsMade old new v (if b then p else q)
first_made true old new v p q e h = h
first_made false old new v p q e h = absurd (false≢true e)

pub second_made : {A : Type 0} (b : Bool) (old new : Stock) (v : A) (p q : Part A) → b ≡ false → IsMade old new v q → IsMade old new v (if b then p else q)
second_made false old new v p q e h = h
second_made true old new v p q e h = absurd (false≢true (sym e))

pub first_heavy : {A : Type 0} (b : Bool) (old : Stock) (r : Refusal) (p q : Part A) → b ≡ true → IsTooHeavy old r p → IsTooHeavy old r (if b then p else q)
first_heavy true old r p q e h = h
first_heavy false old r p q e h = absurd (false≢true e)

pub second_heavy : {A : Type 0} (b : Bool) (old : Stock) (r : Refusal) (p q : Part A) → b ≡ false → IsTooHeavy old r q → IsTooHeavy old r (if b then p else q)
second_heavy false old r p q e h = h
second_heavy true old r p q e h = absurd (false≢true (sym e))

-- ---- a part of this tree

pub as_made : {X A : Type 0} (part : X → State → Part A) (t t1 : X) (old new : Stock) (v : A) → t ≡ t1 → IsMade old new v (part t1 (state_of old)) → IsMade old new v (part t (state_of old))
as_made part t t1 old new v e h = subst (λ x. IsMade old new v (part x (state_of old))) (sym e) h

pub as_heavy : {X A : Type 0} (part : X → State → Part A) (t t1 : X) (old : Stock) (r : Refusal) → t ≡ t1 → IsTooHeavy old r (part t1 (state_of old)) → IsTooHeavy old r (part t (state_of old))
as_heavy part t t1 old r e h = subst (λ x. IsTooHeavy old r (part x (state_of old))) (sym e) h

-- none is left
pub none_left : {A : Type 0} (xs : List A) (i : ℕ) → length xs ≤ i → drop i xs ≡ []
none_left xs i h = drop_of_length-le xs h

-- ---- tests

pub both_hold : (a b : Bool) → a ≡ true → b ≡ true → (a && b) ≡ true
both_hold a b e f = ap (λ (x : Bool). x && b) e ∙ f

pub first_fails : (a b : Bool) → a ≡ false → (a && b) ≡ false
first_fails a b e = ap (λ (x : Bool). x && b) e

pub second_fails : (a b : Bool) → b ≡ false → (a && b) ≡ false
second_fails true b e = e
second_fails false b e = refl
