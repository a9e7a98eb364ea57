-- Where rules lead that follow one another.
use Rattle.std.proofs.Common.{◌≡◌, ℕ, zero, suc, ◌+◌, ◌-◌, ◌*◌, ◌<◌, ◌⊎◌, inl, inr, List, [], ◌∷◌, ◌++◌, length, slice_index, slice_index_or, refl, ap, sym, subst, ◌∙◌, pos, ◌-ℤ◌, arith}
use Rattle.std.proofs.lemmas.Int.{ints}
use Rattle.std.proofs.lemmas.List.{length-map}
use Rattle.std.proofs.lemmas.List.Elements.{All-append, All-cons, All-nil, Contains-get_or}
use Rattle.std.proofs.lemmas.List.Sums.{sum_by_push}
use Rattle.std.specs.List.{Contains, sum_by}
use Rattle.dep_graph.specs.declared.edge.Edge.{Edge}
use Rattle.dep_graph.specs.declared.edge.Why.TheVariants as w
use Rattle.diff_solve.specs.Cycles.{nothing, from_of, to_of, weight_of, weight_of_all, Leads}
use Rattle.modulo_loop.specs.Rules.{at_interval, constraints_at}
use Rattle.modulo_loop.specs.Lowest.{IsStart, Follows, total_latency, total_distance, IsTooTight}
use Rattle.modulo_loop.specs.Trips.{rule_at, no_rule, RulesLead, latency_along, distance_along, AreKnown, Joins, IsCycleAlong}

pub follows_append : (a : ℕ) (xs : List Edge) (m : ℕ) (ys : List Edge) (b : ℕ) → Follows a xs m → Follows m ys b → Follows a (xs ++ ys) b
follows_append a [] m ys b h k = subst (λ x. Follows x ys b) (sym h) k
follows_append a (x ∷ xs) m ys b (here, rest) k = (here, follows_append x.to xs m ys b rest k)

pub last_ends : (rules : List Edge) (a p : ℕ) (ps : List ℕ) (b : ℕ) → RulesLead rules a (p ∷ ps) b → (rule_at rules (slice_index (p ∷ ps) (length ps))).to ≡ b
last_ends rules a p [] b (p_in, begins, ends) = ends
last_ends rules a p (q ∷ ps) b (p_in, begins, rest) = last_ends rules (rule_at rules p).to q ps b rest

pub trip_end : (rules : List Edge) (a : ℕ) (ps : List ℕ) → 0 < length ps → RulesLead rules a ps a → (rule_at rules (slice_index ps (length ps - 1))).to ≡ a
trip_end rules a [] some h = absurd (omega arith)
trip_end rules a (p ∷ ps) some h =
    let minus : length (p ∷ ps) - 1 ≡ length ps = omega arith in
    rw minus (last_ends rules a p ps a h)

last_in : (rules : List Edge) (a p : ℕ) (ps : List ℕ) (b : ℕ) → RulesLead rules a (p ∷ ps) b → slice_index (p ∷ ps) (length ps) < length rules
last_in rules a p [] b (p_in, begins, ends) = p_in
last_in rules a p (q ∷ ps) b (p_in, begins, rest) = last_in rules (rule_at rules p).to q ps b rest

pub trip_in : (rules : List Edge) (a : ℕ) (ps : List ℕ) → 0 < length ps → RulesLead rules a ps a → slice_index ps (length ps - 1) < length rules
trip_in rules a [] some h = absurd (omega arith)
trip_in rules a (p ∷ ps) some h =
    let minus : length (p ∷ ps) - 1 ≡ length ps = omega arith in
    rw minus (last_in rules a p ps a h)

-- the constraint of a rule
at_of : (ii : ℕ) (rules : List Edge) (p : ℕ) → p < length rules → slice_index_or (constraints_at ii rules) p nothing ≡ at_interval ii (rule_at rules p)
at_of ii [] p l = absurd (omega arith)
at_of ii (r ∷ rules) zero l = refl
at_of ii (r ∷ rules) (suc p) l = at_of ii rules p (omega arith)

pub trip_from : (ii : ℕ) (rules : List Edge) (a : ℕ) (ps : List ℕ) (b : ℕ) → Leads (constraints_at ii rules) a ps b → RulesLead rules a ps b
trip_from ii rules a [] b h = h
trip_from ii rules a (p ∷ ps) b (lt, begins, rest) =
    let p_in : p < length rules = omega (arith, lt, length-map rules (at_interval ii)) in
    let same = at_of ii rules p p_in in
    let to_is : to_of (constraints_at ii rules) p ≡ (rule_at rules p).to = ap (λ c. c.to) same in
    let from_is : from_of (constraints_at ii rules) p ≡ (rule_at rules p).from = ap (λ c. c.from) same in
    (p_in, elim begins [ inl e ↦ inl (sym from_is ∙ e) | inr e ↦ inr e ], trip_from ii rules (rule_at rules p).to ps b (subst (λ n. Leads (constraints_at ii rules) n ps b) to_is rest))

pub weight_from : (ii : ℕ) (rules : List Edge) (a : ℕ) (ps : List ℕ) (b : ℕ) → Leads (constraints_at ii rules) a ps b →
    weight_of_all (constraints_at ii rules) ps ≡ pos (latency_along rules ps) -ℤ pos (ii * distance_along rules ps)
weight_from ii rules a [] b h =
    let none : ii * 0 ≡ 0 = grind arith in
    omega (arith, ints, none)
weight_from ii rules a (p ∷ ps) b (lt, begins, rest) =
    let p_in : p < length rules = omega (arith, lt, length-map rules (at_interval ii)) in
    let here : weight_of (constraints_at ii rules) p ≡ pos (rule_at rules p).latency -ℤ pos (ii * (rule_at rules p).distance) = ap (λ c. c.weight) (at_of ii rules p p_in) in
    let split : ii * ((rule_at rules p).distance + distance_along rules ps) ≡ ii * (rule_at rules p).distance + ii * distance_along rules ps = grind arith in
    omega (arith, ints, here, split, weight_from ii rules (to_of (constraints_at ii rules) p) ps b rest)

joins_known : (rules old : List Edge) (e : Edge) → AreKnown rules old → (Contains rules e ⊎ IsStart e) → AreKnown rules (old ++ e ∷ [])
joins_known rules old e all one = All-append (λ x. Contains rules x ⊎ IsStart x) old (e ∷ []) all (All-cons (λ x. Contains rules x ⊎ IsStart x) e [] one (All-nil (λ x. Contains rules x ⊎ IsStart x)))

total_append : (f : Edge → ℕ) (old : List Edge) (e : Edge) → sum_by f (old ++ e ∷ []) ≡ sum_by f old + f e
total_append f old e = sum_by_push f old e

pub joins_near : (at : ℕ) (rule : Edge) (old new : List Edge) → new ≡ old ++ rule ∷ [] → at ≡ rule.from → Joins at rule old new
joins_near at rule old new is near = record {
  follows = λ a f begins. rw is (follows_append a old at (rule ∷ []) rule.to f (sym near, refl));
  known = λ rules all one. rw is (joins_known rules old rule all (inl one));
  latency = rw is (total_append (λ e. e.latency) old rule);
  distance = rw is (total_append (λ e. e.distance) old rule);
}

pub joins_far : (at : ℕ) (rule : Edge) (old new : List Edge) →
    new ≡ (old ++ record { from = 0; to = rule.from; latency = 0; distance = 0; why = w.Start } ∷ []) ++ rule ∷ [] → (at ≡ rule.from → ⊥) → Joins at rule old new
joins_far at rule old new is far =
    let start : Edge = record { from = 0; to = rule.from; latency = 0; distance = 0; why = w.Start } in
    record {
      follows = λ a f begins. elim begins [
        | inl e ↦ absurd (far (sym e))
        | inr e ↦ rw is (follows_append a (old ++ start ∷ []) rule.from (rule ∷ []) rule.to (follows_append a old at (start ∷ []) rule.from f (sym e, refl)) (refl, refl))
      ];
      known = λ rules all one. rw is (joins_known rules (old ++ start ∷ []) rule (joins_known rules old start all (inr (refl, refl, refl, refl))) (inl one));
      latency = (let first = total_append (λ e. e.latency) old start in let then_ = total_append (λ e. e.latency) (old ++ start ∷ []) rule in rw is (omega (arith, first, then_)));
      distance = (let first = total_append (λ e. e.distance) old start in let then_ = total_append (λ e. e.distance) (old ++ start ∷ []) rule in rw is (omega (arith, first, then_)));
    }

-- a cycle along rules that an interval cannot meet is too tight for any interval that does not give what it asks for
pub tight_from : (rules : List Edge) (ps : List ℕ) (cycle : List Edge) (ii : ℕ) → IsCycleAlong rules ps cycle → ii * total_distance cycle < total_latency cycle → IsTooTight rules ii cycle
tight_from rules ps cycle ii along positive = record {
  known = along.known;
  closed = along.closed;
  positive = positive;
}

pub contains_at : (rules : List Edge) (p : ℕ) → p < length rules → Contains rules (rule_at rules p)
contains_at rules p l = Contains-get_or rules p no_rule l
