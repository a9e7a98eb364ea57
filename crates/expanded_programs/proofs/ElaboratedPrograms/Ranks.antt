-- Functions that do not come back to themselves by calls have ranks.
use Rattle.std.proofs.Common.{◌≡◌, ℕ, zero, suc, ◌+◌, ◌<◌, ◌≤◌, ◌&&◌, ◌⊎◌, inl, inr, ◌∙◌, sym, refl, ap, subst, Bool, true, false, true≢false, is_some, bytes_eq, List, [], ◌∷◌, ◌++◌, length, Option, Some, None, arith, if◌then◌else◌}
use Rattle.std.specs.Prelude.{nat_lt, nat_le}
use Rattle.std.proofs.lemmas.Bool.{cases_lt, le-leb, lt-ltb, ltb-true}
use Rattle.std.proofs.lemmas.Slice.Eq.{bytes_eq-Decides}
use Rattle.c_tree.specs.Tree as tree
use Rattle.c_tree.specs.Tree.{StmtTrees, FunctionTree, ItemTree}
use Rattle.c_meaning.specs.Checks.Faults.{fault_if}
use Rattle.c_meaning.specs.Checks.Names.{Declared}
use Rattle.c_meaning.specs.Checks.Calls.{with_function}
use Rattle.c_meaning.specs.Checks.Statements.{with_objects}
use Rattle.c_meaning.specs.Checks.Recursion.{Called, Caller, callers, number_of, body_of, call_links, links, reaches, stands_first, round_faults, recursion_faults}
use Rattle.c_elaborate.specs.declared.functions.Signature.{Signature}
use Rattle.c_elaborate.specs.Names.{function_number}
use Rattle.c_elaborate.specs.Programs.{signature_of, signatures}
use Rattle.c_elaborate.proofs.ElaborateRuns.Lists.{bytes_turned}
use Rattle.c_elaborate.proofs.ElaborateRuns.Sizes.{left_nil, right_nil, unbroken}
use Rattle.expanded_programs.proofs.ElaboratedPrograms.Lists.{IsIn}
use Rattle.expanded_programs.proofs.ElaboratedPrograms.Graphs.{IsEdge, Comes, comes_mapped, rank, rank_falls, rank_low}

-- ---- the names of functions with a body

abbrev pub name_at : List Signature → ℕ → List ℕ
name_at [] i = []
name_at (f ∷ fs) zero = f.name
name_at (f ∷ fs) (suc i) = name_at fs i

pub name_there : (fs : List Signature) (name : List ℕ) → function_number fs name < length fs → name_at fs (function_number fs name) ≡ name
name_there [] name = λ lt. absurd (omega (arith, lt))
name_there (f ∷ fs) name = by (bytes_eq f.name name) refl (name_there fs name)
  where
    by : (y : Bool) → bytes_eq f.name name ≡ y → (function_number fs name < length fs → name_at fs (function_number fs name) ≡ name) → (if y then 0 else function_number fs name + 1) < suc (length fs)
        → name_at (f ∷ fs) (if y then 0 else function_number fs name + 1) ≡ name
    by true e rest lt = (bytes_eq-Decides f.name name).0 e
    by false e rest lt =
        let next : suc (function_number fs name) ≡ function_number fs name + 1 = omega arith in
        subst (λ n. name_at (f ∷ fs) n ≡ name) next (rest (omega (arith, lt)))

pub number_there : (fs : List Signature) (i : ℕ) → i < length fs → function_number fs (name_at fs i) < length fs
number_there [] i lt = absurd (omega (arith, lt))
number_there (f ∷ fs) zero lt = subst (λ (y : Bool). (if y then 0 else function_number fs f.name + 1) < suc (length fs)) (sym ((bytes_eq-Decides f.name f.name).1 refl)) (omega arith)
number_there (f ∷ fs) (suc i) lt = by (bytes_eq f.name (name_at fs i)) (number_there fs i (omega (arith, lt)))
  where
    by : (y : Bool) → function_number fs (name_at fs i) < length fs → (if y then 0 else function_number fs (name_at fs i) + 1) < suc (length fs)
    by true h = omega arith
    by false h = omega (arith, h)

-- ---- the order of bodies

-- the number of a body behind a function that may have one
abbrev behind : Option StmtTrees → Bool → ℕ → ℕ
behind None y n = n
behind (Some body) y n = if y then 0 else n + 1

number_behind : (f : FunctionTree) (b : Option StmtTrees) (fs : List Signature) (name : List ℕ) → function_number (signature_of f b ++ fs) name ≡ behind b (bytes_eq f.name name) (function_number fs name)
number_behind f None fs name = refl
number_behind f (Some body) fs name = refl

abbrev place_behind : Option StmtTrees → Bool → ℕ → ℕ
place_behind None y n = n + 1
place_behind (Some body) y n = if y then 0 else n + 1

place_is : (b : Option StmtTrees) (y : Bool) (n : ℕ) → (if is_some b && y then 0 else n + 1) ≡ place_behind b y n
place_is None y n = refl
place_is (Some body) y n = refl

order_behind : (b : Option StmtTrees) (y z : Bool) (m n i j : ℕ) → (m ≤ n → i ≤ j) → behind b y m ≤ behind b z n → place_behind b y i ≤ place_behind b z j
order_behind None y z m n i j h le = let rest = h le in omega (arith, rest)
order_behind (Some body) true z m n i j h le = omega arith
order_behind (Some body) false true m n i j h le = absurd (omega (arith, le))
order_behind (Some body) false false m n i j h le = let rest = h (omega (arith, le)) in omega (arith, rest)

body_at : (names : List Declared) (f : FunctionTree) (items : List ItemTree) (name : List ℕ) → body_of (callers names (tree.function f ∷ items)) name ≡ place_behind f.body (bytes_eq f.name name) (body_of (callers (with_function f names) items) name)
body_at names f items name =
    ap (λ (y : Bool). if is_some f.body && y then 0 else body_of (callers (with_function f names) items) name + 1) (bytes_turned name f.name)
    ∙ place_is f.body (bytes_eq f.name name) (body_of (callers (with_function f names) items) name)

-- Bodies are in the order of their functions.
ordered : (names : List Declared) (items : List ItemTree) (a b : List ℕ) → function_number (signatures items) a ≤ function_number (signatures items) b → body_of (callers names items) a ≤ body_of (callers names items) b
ordered names [] a b le = omega arith
ordered names (tree.objects os ∷ items) a b le = ordered (with_objects os names) items a b le
ordered names (tree.function f ∷ items) a b le =
    let fs = signatures items in
    let inner = with_function f names in
    let low : behind f.body (bytes_eq f.name a) (function_number fs a) ≤ behind f.body (bytes_eq f.name b) (function_number fs b) =
    subst (λ n. behind f.body (bytes_eq f.name a) (function_number fs a) ≤ n) (number_behind f f.body fs b) (subst (λ n. n ≤ function_number (signature_of f f.body ++ fs) b) (number_behind f f.body fs a) le) in
    subst (λ n. body_of (callers names (tree.function f ∷ items)) a ≤ n) (sym (body_at names f items b))
    (subst (λ n. n ≤ place_behind f.body (bytes_eq f.name b) (body_of (callers inner items) b)) (sym (body_at names f items a))
    (order_behind f.body (bytes_eq f.name a) (bytes_eq f.name b) (function_number fs a) (function_number fs b) (body_of (callers inner items) a) (body_of (callers inner items) b) (ordered inner items a b) low))

within_behind : (f : FunctionTree) (b : Option StmtTrees) (fs : List Signature) (y : Bool) (m i n : ℕ) → (m < length fs → i < n) → behind b y m < length (signature_of f b ++ fs) → place_behind b y i < suc n
within_behind f None fs y m i n h lt = let rest = h lt in omega (arith, rest)
within_behind f (Some body) fs true m i n h lt = omega arith
within_behind f (Some body) fs false m i n h lt = let rest = h (omega (arith, lt)) in omega (arith, rest)

-- A function with a body has its body among the items.
body_there : (names : List Declared) (items : List ItemTree) (a : List ℕ) → function_number (signatures items) a < length (signatures items) → body_of (callers names items) a < length (callers names items)
body_there names [] a lt = absurd (omega (arith, lt))
body_there names (tree.objects os ∷ items) a lt = body_there (with_objects os names) items a lt
body_there names (tree.function f ∷ items) a lt =
    let fs = signatures items in
    let inner = with_function f names in
    let low : behind f.body (bytes_eq f.name a) (function_number fs a) < length (signature_of f f.body ++ fs) = subst (λ n. n < length (signature_of f f.body ++ fs)) (number_behind f f.body fs a) lt in
    subst (λ n. n < suc (length (callers inner items))) (sym (body_at names f items a))
    (within_behind f f.body fs (bytes_eq f.name a) (function_number fs a) (body_of (callers inner items) a) (length (callers inner items)) (body_there inner items a) low)

fewer_behind : (f : FunctionTree) (b : Option StmtTrees) (fs : List Signature) (n : ℕ) → length fs ≤ n → length (signature_of f b ++ fs) ≤ suc n
fewer_behind f None fs n le = omega (arith, le)
fewer_behind f (Some body) fs n le = omega (arith, le)

pub fewer : (names : List Declared) (items : List ItemTree) → length (signatures items) ≤ length (callers names items)
fewer names [] = omega arith
fewer names (tree.objects os ∷ items) = fewer (with_objects os names) items
fewer names (tree.function f ∷ items) = fewer_behind f f.body (signatures items) (length (callers (with_function f names) items)) (fewer (with_function f names) items)

-- ---- calls between functions with a body, by their numbers

abbrev pub edge_if : Bool → Bool → ℕ → ℕ → List (ℕ × ℕ) → List (ℕ × ℕ)
edge_if true true a b rest = (a, b) ∷ rest
edge_if true false a b rest = rest
edge_if false y a b rest = rest

abbrev pub call_edges : List Signature → ℕ → List Called → List (ℕ × ℕ) → List (ℕ × ℕ)
call_edges fs from [] rest = rest
call_edges fs from (d ∷ ds) rest = edge_if (nat_lt from (length fs)) (nat_lt (function_number fs d.name) (length fs)) from (function_number fs d.name) (call_edges fs from ds rest)

abbrev pub edges : List Signature → List Caller → List (ℕ × ℕ)
edges fs [] = []
edges fs (c ∷ cs) = call_edges fs (function_number fs c.name) c.calls (edges fs cs)

-- the call that an edge stems from
abbrev Stems : List Signature → List Caller → ℕ → ℕ → Type 0
Stems fs cs a b =
    (c : Caller) × (d : Called) × IsIn c cs × IsIn d c.calls × (function_number fs c.name ≡ a) × (function_number fs d.name ≡ b) × (a < length fs) × (b < length fs)

edge_stems : (y z : Bool) (from to a b : ℕ) (rest : List (ℕ × ℕ)) → IsEdge (edge_if y z from to rest) a b → ((y ≡ true) × (z ≡ true) × (from ≡ a) × (to ≡ b)) ⊎ IsEdge rest a b
edge_stems true true from to a b rest h = elim h [ inl e ↦ inl (refl, refl, e.0, e.1) | inr r ↦ inr r ]
edge_stems true false from to a b rest h = inr h
edge_stems false z from to a b rest h = inr h

call_stems : (fs : List Signature) (from : ℕ) (ds : List Called) (rest : List (ℕ × ℕ)) (a b : ℕ) → IsEdge (call_edges fs from ds rest) a b
    → ((d : Called) × IsIn d ds × (from ≡ a) × (function_number fs d.name ≡ b) × (a < length fs) × (b < length fs)) ⊎ IsEdge rest a b
call_stems fs from [] rest a b h = inr h
call_stems fs from (d ∷ ds) rest a b h =
    let to = function_number fs d.name in
    elim (edge_stems (nat_lt from (length fs)) (nat_lt to (length fs)) from to a b (call_edges fs from ds rest) h) [
      | inl e ↦ inl (d, inl refl, e.2, e.3, subst (λ n. n < length fs) e.2 (ltb-true from (length fs) e.0), subst (λ n. n < length fs) e.3 (ltb-true to (length fs) e.1))
      | inr r ↦ elim (call_stems fs from ds rest a b r) [ inl s ↦ inl (s.0, inr s.1, s.2, s.3, s.4, s.5) | inr more ↦ inr more ]
    ]

stems : (fs : List Signature) (cs : List Caller) (a b : ℕ) → IsEdge (edges fs cs) a b → Stems fs cs a b
stems fs [] a b h = absurd h
stems fs (c ∷ cs) a b h = elim (call_stems fs (function_number fs c.name) c.calls (edges fs cs) a b h) [
  | inl s ↦ (c, s.0, inl refl, s.1, s.2, s.3, s.4, s.5)
  | inr r ↦ let s = stems fs cs a b r in (s.0, s.1, inr s.2, s.3, s.4, s.5, s.6, s.7)
]

edge_on : (y z : Bool) (from to : ℕ) (rest : List (ℕ × ℕ)) → y ≡ true → z ≡ true → IsEdge (edge_if y z from to rest) from to
edge_on true true from to rest e f = inl (refl, refl)
edge_on true false from to rest e f = absurd (true≢false (sym f))
edge_on false z from to rest e f = absurd (true≢false (sym e))

edge_past : (y z : Bool) (from to a b : ℕ) (rest : List (ℕ × ℕ)) → IsEdge rest a b → IsEdge (edge_if y z from to rest) a b
edge_past true true from to a b rest h = inr h
edge_past true false from to a b rest h = h
edge_past false z from to a b rest h = h

call_past : (fs : List Signature) (from : ℕ) (ds : List Called) (rest : List (ℕ × ℕ)) (a b : ℕ) → IsEdge rest a b → IsEdge (call_edges fs from ds rest) a b
call_past fs from [] rest a b h = h
call_past fs from (d ∷ ds) rest a b h = edge_past (nat_lt from (length fs)) (nat_lt (function_number fs d.name) (length fs)) from (function_number fs d.name) a b (call_edges fs from ds rest) (call_past fs from ds rest a b h)

call_edge : (fs : List Signature) (from : ℕ) (ds : List Called) (rest : List (ℕ × ℕ)) (d : Called) → IsIn d ds → from < length fs → function_number fs d.name < length fs → IsEdge (call_edges fs from ds rest) from (function_number fs d.name)
call_edge fs from [] rest d i lt less = absurd i
call_edge fs from (e ∷ ds) rest d i lt less = elim i [
  | inl same ↦ subst (λ (x : Called). IsEdge (call_edges fs from (e ∷ ds) rest) from (function_number fs x.name)) same
      (edge_on (nat_lt from (length fs)) (nat_lt (function_number fs e.name) (length fs)) from (function_number fs e.name) (call_edges fs from ds rest) (lt-ltb from (length fs) lt)
      (lt-ltb (function_number fs e.name) (length fs) (subst (λ (x : Called). function_number fs x.name < length fs) (sym same) less)))
  | inr more ↦ edge_past (nat_lt from (length fs)) (nat_lt (function_number fs e.name) (length fs)) from (function_number fs e.name) from (function_number fs d.name) (call_edges fs from ds rest) (call_edge fs from ds rest d more lt less)
]

edge_there : (fs : List Signature) (cs : List Caller) (c : Caller) (d : Called) → IsIn c cs → IsIn d c.calls → function_number fs c.name < length fs → function_number fs d.name < length fs
    → IsEdge (edges fs cs) (function_number fs c.name) (function_number fs d.name)
edge_there fs [] c d i j lt less = absurd i
edge_there fs (e ∷ cs) c d i j lt less = elim i [
  | inl same ↦ subst (λ (x : Caller). IsEdge (edges fs (e ∷ cs)) (function_number fs x.name) (function_number fs d.name)) same
      (call_edge fs (function_number fs e.name) e.calls (edges fs cs) d (subst (λ (x : Caller). IsIn d x.calls) (sym same) j) (subst (λ (x : Caller). function_number fs x.name < length fs) (sym same) lt) less)
  | inr more ↦ call_past fs (function_number fs e.name) e.calls (edges fs cs) (function_number fs c.name) (function_number fs d.name) (edge_there fs cs c d more j lt less)
]

-- ---- the same calls by the numbers of items

link_front : (all : List Caller) (from : ℕ) (ds : List Called) (d : Called) (rest : List (ℕ × ℕ)) → IsIn d ds → IsEdge (call_links all from ds ++ rest) from (number_of all d.name)
link_front all from [] d rest i = absurd i
link_front all from (e ∷ ds) d rest i = elim i [ inl same ↦ inl (refl, ap (λ (x : Called). number_of all x.name) same) | inr more ↦ inr (link_front all from ds d rest more) ]

link_past : (xs ys : List (ℕ × ℕ)) (a b : ℕ) → IsEdge ys a b → IsEdge (xs ++ ys) a b
link_past [] ys a b h = h
link_past (x ∷ xs) ys a b h = inr (link_past xs ys a b h)

link_there : (all cs : List Caller) (c : Caller) (d : Called) → IsIn c cs → IsIn d c.calls → IsEdge (links all cs) (number_of all c.name) (number_of all d.name)
link_there all [] c d i j = absurd i
link_there all (e ∷ cs) c d i j = elim i [
  | inl same ↦ subst (λ (x : Caller). IsEdge (links all (e ∷ cs)) (number_of all x.name) (number_of all d.name)) same
      (link_front all (number_of all e.name) e.calls d (links all cs) (subst (λ (x : Caller). IsIn d x.calls) (sym same) j))
  | inr more ↦ link_past (call_links all (number_of all e.name) e.calls) (links all cs) (number_of all c.name) (number_of all d.name) (link_there all cs c d more j)
]

-- ---- rule 18

no_round_at : (all : List Caller) (g : List ℕ) (ds : List Called) (d : Called) → round_faults all g ds ≡ [] → IsIn d ds
    → (stands_first all d.name g && reaches (links all all) (length all) (number_of all d.name) (number_of all g)) ≡ false
no_round_at all g [] d h i = absurd i
no_round_at all g (e ∷ ds) d h i =
    let y = stands_first all e.name g && reaches (links all all) (length all) (number_of all e.name) (number_of all g) in
    elim i [
      | inl same ↦ subst (λ (x : Called). (stands_first all x.name g && reaches (links all all) (length all) (number_of all x.name) (number_of all g)) ≡ false) same
          (unbroken y 18 e.at (left_nil (fault_if y 18 e.at) (round_faults all g ds) h))
      | inr more ↦ no_round_at all g ds d (right_nil (fault_if y 18 e.at) (round_faults all g ds) h) more
    ]

no_round_in : (all cs : List Caller) (c : Caller) (d : Called) → recursion_faults all cs ≡ [] → IsIn c cs → IsIn d c.calls
    → (stands_first all d.name c.name && reaches (links all all) (length all) (number_of all d.name) (number_of all c.name)) ≡ false
no_round_in all [] c d h i j = absurd i
no_round_in all (e ∷ cs) c d h i j = elim i [
  | inl same ↦ no_round_at all c.name c.calls d (subst (λ (x : Caller). round_faults all x.name x.calls ≡ []) same (left_nil (round_faults all e.name e.calls) (recursion_faults all cs) h)) j
  | inr more ↦ no_round_in all cs c d (right_nil (round_faults all e.name e.calls) (recursion_faults all cs) h) more j
]

both : (a b c : Bool) → a ≡ true → b ≡ true → c ≡ true → ((a && b) && c) ≡ true
both a b c e f g = ap (λ z. (z && b) && c) e ∙ (ap (λ z. z && c) f ∙ g)

module _ (items : List ItemTree) (h : recursion_faults (callers [] items) (callers [] items) ≡ []) where
  abbrev pub fs : List Signature
  fs = signatures items

  abbrev pub all : List Caller
  all = callers [] items

  abbrev item_number : ℕ → ℕ
  item_number a = number_of all (name_at fs a)

  same_name : (name : List ℕ) (a : ℕ) → function_number fs name ≡ a → a < length fs → name_at fs a ≡ name
  same_name name a e lt = ap (name_at fs) (sym e) ∙ name_there fs name (subst (λ n. n < length fs) (sym e) lt)

  linked : (a b : ℕ) → IsEdge (edges fs all) a b → IsEdge (links all all) (item_number a) (item_number b)
  linked a b edge =
      let s = stems fs all a b edge in
      subst (λ n. IsEdge (links all all) n (item_number b)) (ap (number_of all) (sym (same_name s.0.name a s.4 s.6)))
      (subst (λ n. IsEdge (links all all) (number_of all s.0.name) n) (ap (number_of all) (sym (same_name s.1.name b s.5 s.7))) (link_there all all s.0 s.1 s.2 s.3))

  pub rises : (a b : ℕ) → IsEdge (edges fs all) a b → Comes (edges fs all) (length all) b a → a < b
  rises a b edge back = elim (cases_lt a b) [
    | inl lt ↦ lt
    | inr ge ↦
        let s = stems fs all a b edge in
        let c = s.0.name in
        let d = s.1.name in
        let le : function_number fs d ≤ function_number fs c = let e = s.4 in let f = s.5 in omega (arith, e, f, ge) in
        let first : nat_le (body_of all d) (body_of all c) ≡ true = le-leb (body_of all d) (body_of all c) (ordered [] items d c le) in
        let there : nat_lt (body_of all c) (length all) ≡ true = lt-ltb (body_of all c) (length all) (body_there [] items c (let e = s.4 in let f = s.6 in omega (arith, e, f))) in
        let round : Comes (links all all) (length all) (item_number b) (item_number a) = comes_mapped (edges fs all) (links all all) item_number linked (length all) b a back in
        let around : Comes (links all all) (length all) (number_of all d) (number_of all c) =
        subst (λ n. Comes (links all all) (length all) (number_of all d) n) (ap (number_of all) (same_name c a s.4 s.6))
        (subst (λ n. Comes (links all all) (length all) n (item_number a)) (ap (number_of all) (same_name d b s.5 s.7)) round) in
        absurd (true≢false (sym (both (nat_le (body_of all d) (body_of all c)) (nat_lt (body_of all c) (length all)) (reaches (links all all) (length all) (number_of all d) (number_of all c)) first there around)
        ∙ no_round_in all all s.0 s.1 h s.2 s.3))
  ]

  pub within : (a b : ℕ) → IsEdge (edges fs all) a b → (a < length fs) × (b < length fs)
  within a b edge = let s = stems fs all a b edge in (s.6, s.7)

  -- the rank of the function with this name
  abbrev pub rank_of : List ℕ → ℕ
  rank_of name = rank (edges fs all) (length fs) (length all) (fewer [] items) within rises (function_number fs name)

  -- the rank of the function with this number
  abbrev pub function_rank : ℕ → ℕ
  function_rank i = rank_of (name_at fs i)

  pub rank_below : (i : ℕ) → i < length fs → function_rank i < length fs
  rank_below i lt = rank_low (edges fs all) (length fs) (length all) (fewer [] items) within rises (function_number fs (name_at fs i)) (number_there fs i lt)

  -- A function that is called has a lower rank.
  pub rank_lower : (c : Caller) (d : Called) → IsIn c all → IsIn d c.calls → function_number fs c.name < length fs → function_number fs d.name < length fs → function_rank (function_number fs d.name) < rank_of c.name
  rank_lower c d i j lt less =
      subst (λ name. rank_of name < rank_of c.name) (sym (name_there fs d.name less))
      (rank_falls (edges fs all) (length fs) (length all) (fewer [] items) within rises (function_number fs c.name) (function_number fs d.name) (edge_there fs all c d i j lt less))
