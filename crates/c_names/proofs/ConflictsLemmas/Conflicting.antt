-- Conflicts, one access at a time: what a name's least change says of all of them.
use Rattle.std.proofs.Common.{◌≡◌, ℕ, ◌+◌, ◌<◌, ◌≤◌, ◌==◌, ◌&&◌, ◌||◌, length, drop, get_or, nat_lt, Bool, true, false, List, [], ◌∷◌, Option, Some, None, is_some, bytes_eq, refl, sym, ap, ◌∙◌, arith, if◌then◌else◌}
use Rattle.std.specs.List.{list_any}
use Rattle.std.proofs.lemmas.List.{at_drop_more, at_drop_all}
use Rattle.std.proofs.lemmas.Slice.Eq.{bytes_eq-Decides}
use Rattle.hls_base.specs.declared.place.Place.{Place}
use Rattle.hls_base.specs.declared.refusal.Refusal.{Refusal}
use Rattle.c_meaning.specs.Checks.Faults.{is_lesser, lesser, least, fault, fault_if}
use Rattle.c_meaning.specs.Checks.Conflicts.{Access, read, change, name_of, names_it, clash, clashes, between, changes, conflicts_inside}
use Rattle.c_names.specs.Conflicts.Views.{access_view}
use Rattle.c_names.specs.Conflicts.Known.{change_fault}
use Rattle.c_names.proofs.DeclarationsLemmas.Least.{less-trans, lesser_none, lesser_assoc, least_append}

-- ---- the order of two faults does not matter

by-same : (a b : ℕ) (p q : Bool) → (nat_lt a b || ((a == b) && p)) ≡ false → (nat_lt b a || ((b == a) && q)) ≡ false → (a ≡ b) × ((p ≡ false) × (q ≡ false))
by-same a b p q e f = (grind arith, (grind arith, grind arith))

last-same : (a b : ℕ) → nat_lt a b ≡ false → nat_lt b a ≡ false → a ≡ b
last-same a b e f = grind arith

abbrev at-place : ℕ → ℕ → ℕ → ℕ → Refusal
at-place line column part rule = record { rule = rule; place = record { line = line; column = column; part = part } }

same-fields : {a b c d e f g h : ℕ} → a ≡ b → c ≡ d → e ≡ f → g ≡ h → at-place a c e g ≡ at-place b d f h
same-fields p q r s = rw p (rw q (rw r (rw s refl)))

neither : (r s : Refusal) → is_lesser r s ≡ false → is_lesser s r ≡ false → r ≡ s
neither r s e f =
    let line = by-same r.place.line s.place.line _ _ e f in
    let column = by-same r.place.column s.place.column _ _ line.1.0 line.1.1 in
    let part = by-same r.place.part s.place.part _ _ column.1.0 column.1.1 in
    same-fields line.0 column.0 part.0 (last-same r.rule s.rule part.1.0 part.1.1)

not-itself : (r : Refusal) → is_lesser r r ≡ false
not-itself r = grind arith

turned : (r s : Refusal) (b c : Bool) → is_lesser s r ≡ b → is_lesser r s ≡ c → lesser (Some r) (Some s) ≡ lesser (Some s) (Some r)
turned r s true true p q = absurd (let e = less-trans r s r q p in let f = not-itself r in cc)
turned r s true false p q = rw p (rw q refl)
turned r s false true p q = rw p (rw q refl)
turned r s false false p q = ap (λ x. lesser (Some x) (Some s)) (neither r s q p) ∙ ap (λ x. lesser (Some s) (Some x)) (sym (neither r s q p))

pub lesser_turned : (r s : Option Refusal) → lesser r s ≡ lesser s r
lesser_turned None None = refl
lesser_turned None (Some s) = refl
lesser_turned (Some r) None = refl
lesser_turned (Some r) (Some s) = turned r s (is_lesser s r) (is_lesser r s) refl refl

lesser_twice : (r : Option Refusal) → lesser r r ≡ r
lesser_twice None = refl
lesser_twice (Some r) = rw (not-itself r) refl

lesser_both : {a b c d : Option Refusal} → a ≡ b → c ≡ d → lesser a c ≡ lesser b d
lesser_both {a} {b} {c} {d} e f = ap (λ x. lesser x c) e ∙ ap (lesser b) f

lesser_crossed : (a b c d : Option Refusal) → lesser (lesser a b) (lesser c d) ≡ lesser (lesser a c) (lesser b d)
lesser_crossed a b c d =
    lesser_assoc a b (lesser c d)
    ∙ ap (lesser a) (sym (lesser_assoc b c d) ∙ ap (λ x. lesser x d) (lesser_turned b c) ∙ lesser_assoc c b d)
    ∙ sym (lesser_assoc a c (lesser b d))

-- ---- one access more on either side

either : (x y : Bool) (at : Place) → least (fault_if (x || y) 24 at) ≡ lesser (least (fault_if (x || false) 24 at)) (least (fault_if y 24 at))
either true true at = sym (lesser_twice (Some (fault 24 at)))
either true false at = refl
either false y at = refl

clash_more : (a b : Access) (others : List Access) → least (clash a (b ∷ others)) ≡ lesser (least (clash a (read (name_of b) ∷ []))) (least (clash a others))
clash_more (read name) b others = refl
clash_more (change name at) b others = either (bytes_eq name (name_of b)) (list_any (names_it name) others) at

pub clashes_more : (these : List Access) (b : Access) (others : List Access) → least (clashes these (b ∷ others)) ≡ lesser (change_fault (name_of b) these) (least (clashes these others))
clashes_more [] b others = refl
clashes_more (a ∷ these) b others =
    let beside = read (name_of b) ∷ [] in
    least_append (clash a (b ∷ others)) (clashes these (b ∷ others))
    ∙ lesser_both (clash_more a b others) (clashes_more these b others)
    ∙ lesser_crossed (least (clash a beside)) (least (clash a others)) (change_fault (name_of b) these) (least (clashes these others))
    ∙ sym (lesser_both (least_append (clash a beside) (clashes these beside)) (least_append (clash a others) (clashes these others)))

pub between_more : (a : Access) (these others : List Access) → least (between (a ∷ these) others) ≡ lesser (lesser (least (clash a others)) (change_fault (name_of a) others)) (least (between these others))
between_more a these others =
    least_append (clashes (a ∷ these) others) (clashes others (a ∷ these))
    ∙ lesser_both (least_append (clash a others) (clashes these others)) (clashes_more others a these)
    ∙ lesser_crossed (least (clash a others)) (least (clashes these others)) (change_fault (name_of a) others) (least (clashes others these))
    ∙ ap (lesser (lesser (least (clash a others)) (change_fault (name_of a) others))) (sym (least_append (clashes these others) (clashes others these)))

pub inside_more : (a : Access) (own inner : List Access) → least (conflicts_inside (a ∷ own) inner) ≡ lesser (lesser (least (clash a (changes inner))) (change_fault (name_of a) inner)) (least (conflicts_inside own inner))
inside_more a own inner =
    least_append (clashes (a ∷ own) (changes inner)) (clashes inner (a ∷ own))
    ∙ lesser_both (least_append (clash a (changes inner)) (clashes own (changes inner))) (clashes_more inner a own)
    ∙ lesser_crossed (least (clash a (changes inner))) (least (clashes own (changes inner))) (change_fault (name_of a) inner) (least (clashes inner own))
    ∙ ap (lesser (lesser (least (clash a (changes inner))) (change_fault (name_of a) inner))) (sym (least_append (clashes own (changes inner)) (clashes inner own)))

nothing_between : (others : List Access) → least (clashes others []) ≡ None
nothing_between [] = refl
nothing_between (read name ∷ others) = nothing_between others
nothing_between (change name at ∷ others) = nothing_between others

pub between_none : (others : List Access) → least (between [] others) ≡ None
between_none others = nothing_between others

pub inside_none : (inner : List Access) → least (conflicts_inside [] inner) ≡ None
inside_none inner = nothing_between inner

pub between_turned : (these those : List Access) → least (between these those) ≡ least (between those these)
between_turned these those =
    least_append (clashes these those) (clashes those these) ∙ lesser_turned (least (clashes these those)) (least (clashes those these)) ∙ sym (least_append (clashes those these) (clashes these those))

-- ---- whether a name is changed

pub bytes_turned : (x y : List ℕ) → bytes_eq x y ≡ bytes_eq y x
bytes_turned x y = by (bytes_eq x y) (bytes_eq y x) refl refl
  where
    by : (b c : Bool) → bytes_eq x y ≡ b → bytes_eq y x ≡ c → b ≡ c
    by true true h k = refl
    by false false h k = refl
    by true false h k = sym (sym k ∙ (bytes_eq-Decides y x).1 (sym ((bytes_eq-Decides x y).0 h)))
    by false true h k = sym h ∙ (bytes_eq-Decides x y).1 (sym ((bytes_eq-Decides y x).0 k))

some_of_both : (b : Bool) (at : Place) (rest : Option Refusal) → is_some (lesser (least (fault_if (b || false) 24 at)) rest) ≡ (b || is_some rest)
some_of_both true at None = refl
some_of_both true at (Some r) = some_picked (is_lesser r (fault 24 at))
  where
    some_picked : (c : Bool) → is_some (if c then Some r else Some (fault 24 at)) ≡ true
    some_picked true = refl
    some_picked false = refl
some_of_both false at rest = refl

pub is_changed : (name : List ℕ) (accesses : List Access) → list_any (names_it name) (changes accesses) ≡ is_some (change_fault name accesses)
is_changed name [] = refl
is_changed name (read other ∷ rest) = is_changed name rest
is_changed name (change other at ∷ rest) =
    ap (λ b. b || list_any (names_it name) (changes rest)) (bytes_turned name other)
    ∙ ap (λ b. bytes_eq other name || b) (is_changed name rest)
    ∙ sym (some_of_both (bytes_eq other name) at (change_fault name rest))
    ∙ sym (ap is_some (least_append (clash (change other at) (read name ∷ [])) (clashes rest (read name ∷ []))))

pub clash_where : (a : Access) (others : List Access) (b : Bool) → list_any (names_it (name_of a)) others ≡ b → least (clash a others) ≡ (if b then least (clash a (read (name_of a) ∷ [])) else None)
clash_where (read name) others true e = refl
clash_where (read name) others false e = refl
clash_where (change name at) others true e = rw e (rw ((bytes_eq-Decides name name).1 refl) refl)
clash_where (change name at) others false e = rw e refl

-- ---- a loop's step

pub one_more : (F : List Access → Option Refusal) (G : Access → Option Refusal) → ((a : Access) (rest : List Access) → F (a ∷ rest) ≡ lesser (G a) (F rest)) →
    (these : List Access) (i : ℕ) (a : Access) (worst here after total : Option Refusal) → i < length these → a ≡ get_or these i a → here ≡ G a → after ≡ lesser worst here →
    lesser worst (F (drop i these)) ≡ total → lesser after (F (drop (i + 1) these)) ≡ total
one_more F G more these i a worst here after total lt is f w invariant =
    let rest = F (drop (i + 1) these) in
    ap (λ r. lesser r rest) (w ∙ ap (lesser worst) f)
    ∙ lesser_assoc worst (G a) rest
    ∙ ap (lesser worst) (sym (more a (drop (i + 1) these)) ∙ ap (λ y. F (y ∷ drop (i + 1) these)) is ∙ sym (at_drop_more F these i a lt))
    ∙ invariant

pub all_seen : (F : List Access → Option Refusal) (these : List Access) (i : ℕ) (worst total : Option Refusal) → F [] ≡ None → length these ≤ i → lesser worst (F (drop i these)) ≡ total → worst ≡ total
all_seen F these i worst total none le invariant = sym (lesser_none worst) ∙ ap (lesser worst) (sym none ∙ sym (at_drop_all F these i le)) ∙ invariant

-- the name of an access, by its fields
pub named_so : (name : List ℕ) (at : Option Place) → name ≡ name_of (access_view name at)
named_so name None = refl
named_so name (Some at) = refl
