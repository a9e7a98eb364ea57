-- Times when edges have been followed in the order of the nodes to which they lead.
use Rattle.std.proofs.Common.{◌≡◌, ◌≢◌, ℕ, zero, suc, ◌+◌, ◌*◌, ◌<◌, ◌≤◌, ◌⊎◌, inl, inr, List, [], ◌∷◌, map, filter, length, get_or, take, set, replicate, refl, sym, ap, subst, ◌∙◌, arith, length-set, length-take, get_or-set_same, get_or-set_other, get_or-take, mul-le-mul_right, take_all}
use Rattle.std.specs.Prelude.{slice_index, Bool, true, false, cond, ◌==◌, Some, None, if◌then◌else◌}
use Rattle.std.specs.List.{All, cons_option}
use Rattle.std.specs.List.Sorted.{IsPermutation}
use Rattle.std.proofs.lemmas.List.{get_or_default, get_or-map, length-map}
use Rattle.std.proofs.lemmas.List.Elements.{All-nil, All-more, All-map}
use Rattle.std.proofs.lemmas.List.Sorted.{IsPermutation-map, IsPermutation-sym}
use Rattle.std.proofs.lemmas.Bool.{cases_eq}
use Rattle.std.proofs.lemmas.Int.{ints}
use Rattle.dep_graph.specs.declared.edge.Edge.{Edge}
use Rattle.diff_solve.specs.declared.solve.Constraint.{Constraint}
use Rattle.diff_solve.specs.Times.{Meets, Solves, IsBelowAll}
use Rattle.unit_binding.specs.Times.{edge_constraint, edge_constraints, AreLeastTimes, AreSorted, LeadsOn}
use Rattle.unit_binding.proofs.Permuted.{solves_permuted, below_permuted}

-- the node to which the edge leads starts at least the latency later
abbrev pub Keeps : List ℕ → Edge → Type 0
Keeps times e = slice_index times e.from + e.latency ≤ slice_index times e.to

-- the times when these edges, of all, have been followed
pub record AreFollowed (nodes limit : ℕ) (edges done : List Edge) (times : List ℕ) : Type 0 where
  pub count : length times ≡ nodes
  pub modest : (v : ℕ) → slice_index times v ≤ v * limit
  pub kept : All (Keeps times) done
  pub below : (other : List ℕ) → All (Keeps other) edges → (v : ℕ) → slice_index times v ≤ slice_index other v

zeros : (n v : ℕ) → slice_index (replicate n 0) v ≡ 0
zeros zero v = refl
zeros (suc n) zero = refl
zeros (suc n) (suc v) = zeros n v

pub none_followed : (nodes limit : ℕ) (edges : List Edge) (times : List ℕ) → length times ≡ nodes → times ≡ replicate nodes 0 → AreFollowed nodes limit edges [] times
none_followed nodes limit edges times long e =
    let zero_at : (v : ℕ) → slice_index times v ≡ 0 = λ v. ap (λ ts. slice_index ts v) e ∙ zeros nodes v in
    record {
      count = long;
      modest = λ v. (let z = zero_at v in omega arith);
      kept = All-nil (Keeps times);
      below = λ other keeps v. (let z = zero_at v in omega arith);
    }

-- a node that is raised to a time
module _ (times : List ℕ) (to time : ℕ) (within : to < length times) (up : slice_index times to ≤ time) where
  abbrev raised : List ℕ
  raised = set times to time

  raised_there : slice_index raised to ≡ time
  raised_there = get_or-set_same times to time 0 within

  raised_else : (v : ℕ) → v ≢ to → slice_index raised v ≡ slice_index times v
  raised_else v ne = get_or-set_other times to v time 0 ne

  raised_up : (v : ℕ) → slice_index times v ≤ slice_index raised v
  raised_up v = elim (cases_eq v to) [
    | inl e ↦ subst (λ x. slice_index times x ≤ slice_index raised x) (sym e) (let z = raised_there in omega arith)
    | inr ne ↦ (let z = raised_else v ne in omega arith)
  ]

  -- an edge from a node that is not raised
  raised_keeps : (e : Edge) → e.from ≢ to → Keeps times e → Keeps raised e
  raised_keeps e ne h = (let z = raised_else e.from ne in let w = raised_up e.to in omega arith)

module _ (nodes limit : ℕ) (edges : List Edge) (i : ℕ) (within : i < length edges) (lead : All (LeadsOn nodes) edges) (sorted : AreSorted edges) (d : Edge) (short : (get_or edges i d).latency ≤ limit) (times : List ℕ) (followed : AreFollowed nodes limit edges (take i edges) times) where
  abbrev edge : Edge
  edge = get_or edges i d

  abbrev time : ℕ
  time = slice_index times edge.from + edge.latency

  leads : LeadsOn nodes edge
  leads = lead i d within

  inside : edge.to < length times
  inside = (let z = leads.1 in let w = followed.count in omega arith)

  modest_time : time ≤ edge.to * limit
  modest_time =
      let near : edge.from + 1 ≤ edge.to = (let z = leads.0 in omega arith) in
      let grown : (edge.from + 1) * limit ≤ edge.to * limit = mul-le-mul_right limit near in
      let from = followed.modest edge.from in
      omega arith

  low_time : (other : List ℕ) → All (Keeps other) edges → time ≤ slice_index other edge.to
  low_time other keeps = (let z : Keeps other edge = keeps i d within in let w = followed.below other keeps edge.from in omega arith)

  -- the node of this edge is raised
  followed_up : slice_index times edge.to < time → AreFollowed nodes limit edges (take (i + 1) edges) (set times edge.to time)
  followed_up up =
      let high : slice_index times edge.to ≤ time = omega arith in
      let there = raised_there times edge.to time inside high in
      record {
        count = length-set times edge.to time ∙ followed.count;
        modest = λ v. elim (cases_eq v edge.to) [
          | inl e ↦ subst (λ x. slice_index (set times edge.to time) x ≤ x * limit) (sym e) (let z = modest_time in omega arith)
          | inr ne ↦ (let z = raised_else times edge.to time inside high v ne in let w = followed.modest v in omega arith)
        ];
        kept = All-more (Keeps (set times edge.to time)) edges i d within
            (λ k x lt.
            (let short_list : k < i = omega (arith, length-take i edges) in
            let at : get_or (take i edges) k x ≡ get_or edges k x = get_or-take i edges k x short_list in
            let old : Keeps times (get_or edges k x) = subst (Keeps times) at (followed.kept k x lt) in
            let on : LeadsOn nodes (get_or edges k x) = lead k x (omega arith) in
            let same : get_or edges i x ≡ edge = get_or_default edges i x d within in
            let below : (get_or edges k x).to ≤ (get_or edges i x).to = sorted k i x (omega arith) within in
            let lower : (get_or edges k x).to ≤ edge.to = subst (λ (y : Edge). (get_or edges k x).to ≤ y.to) same below in
            subst (Keeps (set times edge.to time)) (sym at) (raised_keeps times edge.to time inside high (get_or edges k x) (let a = on.0 in omega arith) old)))
            (let before = raised_else times edge.to time inside high edge.from (let a = leads.0 in omega arith) in omega arith);
        below = λ other keeps v. elim (cases_eq v edge.to) [
          | inl e ↦ subst (λ x. slice_index (set times edge.to time) x ≤ slice_index other x) (sym e) (let z = low_time other keeps in omega arith)
          | inr ne ↦ (let z = raised_else times edge.to time inside high v ne in let w = followed.below other keeps v in omega arith)
        ];
      }

  -- the node of this edge is late enough
  followed_on : time ≤ slice_index times edge.to → AreFollowed nodes limit edges (take (i + 1) edges) times
  followed_on late = record {
    count = followed.count;
    modest = followed.modest;
    kept = All-more (Keeps times) edges i d within followed.kept late;
    below = followed.below;
  }

-- the times behind an edge
pub followed_next : (nodes limit : ℕ) (edges : List Edge) (i : ℕ) (d : Edge) (times new : List ℕ) → i < length edges → All (LeadsOn nodes) edges → AreSorted edges → (get_or edges i d).latency ≤ limit
    → AreFollowed nodes limit edges (take i edges) times
    → ((slice_index times (get_or edges i d).to < slice_index times (get_or edges i d).from + (get_or edges i d).latency)
    × (new ≡ set times (get_or edges i d).to (slice_index times (get_or edges i d).from + (get_or edges i d).latency)))
    ⊎ ((slice_index times (get_or edges i d).from + (get_or edges i d).latency ≤ slice_index times (get_or edges i d).to) × (new ≡ times))
    → AreFollowed nodes limit edges (take (i + 1) edges) new
followed_next nodes limit edges i d times new within lead sorted short followed moved = elim moved [
  | inl up ↦ subst (AreFollowed nodes limit edges (take (i + 1) edges)) (sym up.1) (followed_up nodes limit edges i within lead sorted d short times followed up.0)
  | inr on ↦ subst (AreFollowed nodes limit edges (take (i + 1) edges)) (sym on.1) (followed_on nodes limit edges i within lead sorted d short times followed on.0)
]

pub all_followed : (nodes limit : ℕ) (edges : List Edge) (i : ℕ) (times : List ℕ) → length edges ≤ i → AreFollowed nodes limit edges (take i edges) times → AreFollowed nodes limit edges edges times
all_followed nodes limit edges i times le f = subst (λ es. AreFollowed nodes limit edges es times) (take_all i edges le) f

-- ---- as constraints

meets_edge : (times : List ℕ) (e : Edge) → Keeps times e → Meets times (edge_constraint e)
meets_edge times e h = omega (arith, ints)

keeps_edge : (times : List ℕ) (e : Edge) → Meets times (edge_constraint e) → Keeps times e
keeps_edge times e h = omega (arith, ints, h)

all_kept : (times : List ℕ) (edges : List Edge) → All (Meets times) (map edge_constraint edges) → All (Keeps times) edges
all_kept times edges h k d lt =
    keeps_edge times (get_or edges k d) (subst (Meets times) (get_or-map edge_constraint edges k d (edge_constraint d) lt) (h k (edge_constraint d) (let z = length-map edges edge_constraint in omega arith)))

pub followed_solve : (nodes limit : ℕ) (edges : List Edge) (times : List ℕ) → AreFollowed nodes limit edges edges times → Solves nodes (map edge_constraint edges) times
followed_solve nodes limit edges times f = record {
  count = f.count;
  start = (let z = f.modest 0 in omega arith);
  meets = All-map (Meets times) edge_constraint edges (λ k d lt. meets_edge times (get_or edges k d) (f.kept k d lt));
}

pub followed_least : (nodes limit : ℕ) (edges : List Edge) (times : List ℕ) → AreFollowed nodes limit edges edges times → IsBelowAll nodes (map edge_constraint edges) times
followed_least nodes limit edges times f other s v lt = f.below other (all_kept other edges s.meets) v

-- ---- the edges within an iteration

chosen : (b : Bool) (e : Edge) (cs : List Constraint) (es : List Edge) → cs ≡ map edge_constraint es
    → cons_option (if b then Some (edge_constraint e) else None) cs ≡ map edge_constraint (cond b (e ∷ es) es)
chosen true e cs es h = ap (λ xs. edge_constraint e ∷ xs) h
chosen false e cs es h = h

within_constraints : (edges : List Edge) → edge_constraints edges ≡ map edge_constraint (filter (λ (e : Edge). e.distance == 0) edges)
within_constraints [] = refl
within_constraints (e ∷ es) = chosen (e.distance == 0) e (edge_constraints es) (filter (λ (x : Edge). x.distance == 0) es) (within_constraints es)

least_within : (nodes : ℕ) (edges within : List Edge) (times : List ℕ) → IsPermutation (filter (λ (e : Edge). e.distance == 0) edges) within
    → Solves nodes (map edge_constraint within) times → IsBelowAll nodes (map edge_constraint within) times → AreLeastTimes nodes edges times
least_within nodes edges within times moved solves least =
    let near = filter (λ (e : Edge). e.distance == 0) edges in
    let back : IsPermutation (map edge_constraint within) (map edge_constraint near) = IsPermutation-sym (map edge_constraint near) (map edge_constraint within) (IsPermutation-map edge_constraint near within moved) in
    let same : map edge_constraint near ≡ edge_constraints edges = sym (within_constraints edges) in
    record {
      solves = subst (λ cs. Solves nodes cs times) same (solves_permuted nodes (map edge_constraint within) (map edge_constraint near) times back solves);
      least = subst (λ cs. IsBelowAll nodes cs times) same (below_permuted nodes (map edge_constraint within) (map edge_constraint near) times back least);
    }

pub least_bound : (ops count : ℕ) (edges within read : List Edge) (times : List ℕ) → ops ≡ count → read ≡ within → IsPermutation (filter (λ (e : Edge). e.distance == 0) edges) within
    → Solves (ops + 1) (map edge_constraint read) times → IsBelowAll (ops + 1) (map edge_constraint read) times → AreLeastTimes (count + 1) edges times
least_bound ops count edges within read times counted same moved solves least =
    least_within (count + 1) edges within times moved
    (subst (λ n. Solves (n + 1) (map edge_constraint within) times) counted (subst (λ es. Solves (ops + 1) (map edge_constraint es) times) same solves))
    (subst (λ n. IsBelowAll (n + 1) (map edge_constraint within) times) counted (subst (λ es. IsBelowAll (ops + 1) (map edge_constraint es) times) same least))
