-- What is computed to reach a subscript reaches one, and nothing else does.
use Rattle.std.proofs.Common.{◌≡◌, ◌∙◌, ℕ, zero, suc, ◌+◌, ◌-◌, ◌<◌, ◌≤◌, Bool, true, false, List, [], ◌∷◌, ◌++◌, length, take, get_or, Some, ◌⊎◌, inl, inr, refl, sym, ap, subst, arith}
use Rattle.std.specs.Prelude.{slice_get, ◌||◌, if◌then◌else◌}
use Rattle.std.specs.List.{list_any}
use Rattle.std.specs.Option.{option_to_list}
use Rattle.std.proofs.lemmas.Bool.{cases_lt, eq-eqb, eqb-true}
use Rattle.ir_core.specs.declared.body.OpKind.{OpKind}
use Rattle.ir_core.specs.declared.body.OpKind.TheVariants as o
use Rattle.ir_core.specs.declared.body.Operand.{Operand}
use Rattle.ir_core.specs.declared.body.Out.{Out}
use Rattle.ir_core.specs.declared.body.Source.{Source}
use Rattle.ir_core.specs.declared.body.Source.TheVariants as source
use Rattle.ir_core.specs.Bodies.{OpTree}
use Rattle.ir_layout.specs.Nodes.{NodeTree}
use Rattle.op_chain.specs.Forward.{NamesBefore, AllBefore, OpsForward, NodeForward, NodesForward}
use Rattle.op_chain.specs.Reads.{names_result, names_variable, is_result, is_variable}
use Rattle.op_chain.specs.Subscripts.{subscripts, subscripts_of, op_hands, handed, outs_hand, body_hands, body_in, nodes_hand, variables_among, reaching_within, reaching}
use Rattle.op_chain.specs.Reaching.{IsAmong, ReachesSubscript, directly, through_operation, through_variable, OutsThere, NodesThere, ReachingIsReached}
use Rattle.op_chain.proofs.Performing.{none_some, some_same}
use Rattle.op_chain.proofs.Shown.{within_count}
use Rattle.op_chain.proofs.Suiting.{before_left}
use Rattle.op_chain.proofs.Rounds.{Marked, round_up, none_marked, get_past}
use Rattle.op_chain.proofs.NodeFacts.{ops_forward}

abbrev result_ : ℕ → Source
result_ u = source.Result (record { 0 = u })

abbrev variable_ : ℕ → Source
variable_ v = source.Variable (record { 0 = v })

false_true : {A : Type 0} → false ≡ true → A
false_true e = absurd cc

-- ---- what is among operands

named_result : (u : ℕ) (s : Source) → names_result u s ≡ true → s ≡ result_ u
named_result u (source.Constant w) e = false_true e
named_result u (source.Variable v) e = false_true e
named_result u (source.Result j) e = ap (λ n. source.Result (record { 0 = n })) (eqb-true j.0 u e)

named_variable : (v : ℕ) (s : Source) → names_variable v s ≡ true → s ≡ variable_ v
named_variable v (source.Constant w) e = false_true e
named_variable v (source.Result j) e = false_true e
named_variable v (source.Variable w) e = ap (λ n. source.Variable (record { 0 = n })) (eqb-true w.0 v e)

or_true : (b : Bool) → (b || true) ≡ true
or_true true = refl
or_true false = refl

either : (b c : Bool) → (b || c) ≡ true → (b ≡ true) ⊎ (c ≡ true)
either true c e = inl refl
either false c e = inr e

result_among : (u : ℕ) (xs : List Operand) → list_any (is_result u) xs ≡ true → IsAmong (result_ u) xs
result_among u [] e = false_true e
result_among u (x ∷ xs) e = elim (either (is_result u x) (list_any (is_result u) xs) e) [ inl f ↦ inl (named_result u x.value f) | inr f ↦ inr (result_among u xs f) ]

among_result : (u : ℕ) (xs : List Operand) → IsAmong (result_ u) xs → list_any (is_result u) xs ≡ true
among_result u [] h = absurd h
among_result u (x ∷ xs) (inl e) = ap (λ b. b || list_any (is_result u) xs) (ap (names_result u) e ∙ eq-eqb u u refl)
among_result u (x ∷ xs) (inr h) = ap (λ b. is_result u x || b) (among_result u xs h) ∙ or_true (is_result u x)

variable_among : (v : ℕ) (xs : List Operand) → list_any (is_variable v) xs ≡ true → IsAmong (variable_ v) xs
variable_among v [] e = false_true e
variable_among v (x ∷ xs) e = elim (either (is_variable v x) (list_any (is_variable v) xs) e) [ inl f ↦ inl (named_variable v x.value f) | inr f ↦ inr (variable_among v xs f) ]

among_variable : (v : ℕ) (xs : List Operand) → IsAmong (variable_ v) xs → list_any (is_variable v) xs ≡ true
among_variable v [] h = absurd h
among_variable v (x ∷ xs) (inl e) = ap (λ b. b || list_any (is_variable v) xs) (ap (names_variable v) e ∙ eq-eqb v v refl)
among_variable v (x ∷ xs) (inr h) = ap (λ b. is_variable v x || b) (among_variable v xs h) ∙ or_true (is_variable v x)

among_either : (s : Source) (xs ys : List Operand) → IsAmong s (xs ++ ys) → IsAmong s xs ⊎ IsAmong s ys
among_either s [] ys h = inr h
among_either s (x ∷ xs) ys (inl e) = inl (inl e)
among_either s (x ∷ xs) ys (inr h) = elim (among_either s xs ys h) [ inl k ↦ inl (inr k) | inr k ↦ inr k ]

among_left : (s : Source) (xs ys : List Operand) → IsAmong s xs → IsAmong s (xs ++ ys)
among_left s [] ys h = absurd h
among_left s (x ∷ xs) ys (inl e) = inl e
among_left s (x ∷ xs) ys (inr h) = inr (among_left s xs ys h)

among_right : (s : Source) (xs ys : List Operand) → IsAmong s ys → IsAmong s (xs ++ ys)
among_right s [] ys h = h
among_right s (x ∷ xs) ys h = inr (among_right s xs ys h)

among_take : (s : Source) (n : ℕ) (xs : List Operand) → IsAmong s (take n xs) → IsAmong s xs
among_take s zero [] h = absurd h
among_take s zero (x ∷ xs) h = absurd h
among_take s (suc n) [] h = absurd h
among_take s (suc n) (x ∷ xs) (inl e) = inl e
among_take s (suc n) (x ∷ xs) (inr h) = inr (among_take s n xs h)

among_args : (s : Source) (kind : OpKind) (args : List Operand) → IsAmong s (subscripts kind args) → IsAmong s args
among_args s o.Load args h = h
among_args s o.Store args h = among_take s (length args - 1) args h
among_args s kind args h = absurd h

-- ---- what is computed reaches

module _ (nodes : List NodeTree) where
  module _ (node : NodeTree) where
    handed_reach : (n : ℕ) (rest : List OpTree) (behind : List Operand) → ((k : ℕ) (op : OpTree) → slice_get rest k ≡ Some op → slice_get (body_in node).ops (n + k) ≡ Some op)
        → ((s : Source) → IsAmong s behind → ReachesSubscript nodes node s) → (s : Source) → IsAmong s (handed n rest behind) → ReachesSubscript nodes node s
    handed_reach n [] behind there known s h = known s h
    handed_reach n (op ∷ rest) behind there known s h =
        let later = handed_reach (suc n) rest behind (λ k x e. ap (slice_get (body_in node).ops) (let f : suc n + k ≡ n + suc k = omega arith in f) ∙ there (suc k) x e) known in
        let here : slice_get (body_in node).ops n ≡ Some op = ap (slice_get (body_in node).ops) (let f : n ≡ n + 0 = omega arith in f) ∙ there 0 op refl in
        let b = list_any (is_result n) (handed (suc n) rest behind) in
        elim (among_either s (op_hands b op) (handed (suc n) rest behind) h) [
          | inl k ↦ by_test here later b refl k
          | inr k ↦ later s k
        ]
      where
        by_test : slice_get (body_in node).ops n ≡ Some op → ((z : Source) → IsAmong z (handed (suc n) rest behind) → ReachesSubscript nodes node z) → (b : Bool) → list_any (is_result n) (handed (suc n) rest behind) ≡ b
            → IsAmong s (op_hands b op) → ReachesSubscript nodes node s
        by_test here later true e k = through_operation node s n op here k (later (result_ n) (result_among n (handed (suc n) rest behind) e))
        by_test here later false e k = directly node s n op here k

    outs_reach : (m : List Bool) → ((v : ℕ) → get_or m v false ≡ true → (i : ℕ) × (other : NodeTree) × (slice_get nodes i ≡ Some other) × ReachesSubscript nodes other (variable_ v)) → (j : ℕ) (outs : List Out)
        → ((k : ℕ) (x : Out) → slice_get outs k ≡ Some x → slice_get (body_in node).outs (j + k) ≡ Some x) → (s : Source) → IsAmong s (outs_hand m outs) → ReachesSubscript nodes node s
    outs_reach m known j [] there s h = absurd h
    outs_reach m known j (x ∷ xs) there s h =
        by_test (get_or m x.variable.0 false) refl h (outs_reach m known (suc j) xs (λ k y e. ap (slice_get (body_in node).outs) (let f : suc j + k ≡ j + suc k = omega arith in f) ∙ there (suc k) y e) s)
      where
        by_test : (b : Bool) → get_or m x.variable.0 false ≡ b → IsAmong s (if b then x.value ∷ outs_hand m xs else outs_hand m xs) → (IsAmong s (outs_hand m xs) → ReachesSubscript nodes node s) → ReachesSubscript nodes node s
        by_test true e (inl f) next = let r = known x.variable.0 e in through_variable node s (j + 0) r.0 x r.1 (there 0 x refl) f r.2 r.3
        by_test true e (inr k) next = next k
        by_test false e k next = next k

    body_reach : (m : List Bool) → ((v : ℕ) → get_or m v false ≡ true → (i : ℕ) × (other : NodeTree) × (slice_get nodes i ≡ Some other) × ReachesSubscript nodes other (variable_ v)) → (s : Source) → IsAmong s (body_hands m (body_in node))
        → ReachesSubscript nodes node s
    body_reach m known s h =
        handed_reach 0 (body_in node).ops (outs_hand m (body_in node).outs) (λ k op e. ap (slice_get (body_in node).ops) (let f : 0 + k ≡ k = omega arith in f) ∙ e)
        (outs_reach m known 0 (body_in node).outs (λ k x e. ap (slice_get (body_in node).outs) (let f : 0 + k ≡ k = omega arith in f) ∙ e)) s h

  some_node : (m : List Bool) (j : ℕ) (rest : List NodeTree) (s : Source) → ((k : ℕ) (x : NodeTree) → slice_get rest k ≡ Some x → slice_get nodes (j + k) ≡ Some x) → IsAmong s (nodes_hand m rest)
      → (i : ℕ) × (node : NodeTree) × (slice_get nodes i ≡ Some node) × IsAmong s (body_hands m (body_in node))
  some_node m j [] s there h = absurd h
  some_node m j (x ∷ xs) s there h =
      elim (among_either s (body_hands m (body_in x)) (nodes_hand m xs) h) [
        | inl k ↦ (j + 0, x, there 0 x refl, k)
        | inr k ↦ some_node m (suc j) xs s (λ n y e. ap (slice_get nodes) (let f : suc j + n ≡ j + suc n = omega arith in f) ∙ there (suc n) y e) k
      ]

  marked_among : (first count v : ℕ) (xs : List Operand) → get_or (variables_among first count xs) v false ≡ true → list_any (is_variable (first + v)) xs ≡ true
  marked_among first zero v xs e = false_true (sym (get_past [] v (omega arith)) ∙ e)
  marked_among first (suc count) zero xs e = ap (λ n. list_any (is_variable n) xs) (let f : first + 0 ≡ first = omega arith in f) ∙ e
  marked_among first (suc count) (suc v) xs e = ap (λ n. list_any (is_variable n) xs) (let f : first + suc v ≡ suc first + v = omega arith in f) ∙ marked_among (suc first) count v xs e

  round_reach : (count k v : ℕ) → get_or (reaching_within count k nodes) v false ≡ true → (i : ℕ) × (node : NodeTree) × (slice_get nodes i ≡ Some node) × ReachesSubscript nodes node (variable_ v)
  round_reach count zero v e = false_true (sym (none_marked count v) ∙ e)
  round_reach count (suc k) v e =
      let m = reaching_within count k nodes in
      let a = variable_among v (nodes_hand m nodes) (ap (λ n. list_any (is_variable n) (nodes_hand m nodes)) (let f : v ≡ 0 + v = omega arith in f) ∙ marked_among 0 count v (nodes_hand m nodes) e) in
      let r = some_node m 0 nodes (variable_ v) (λ n x f. ap (slice_get nodes) (let g : 0 + n ≡ n = omega arith in g) ∙ f) a in
      (r.0, r.1, r.2, body_reach r.1 m (λ w f. round_reach count k w f) (variable_ v) r.3)

-- ---- the rounds come to an end

abbrev ones : List Bool → ℕ
ones [] = zero
ones (true ∷ bs) = suc (ones bs)
ones (false ∷ bs) = ones bs

ones_below : (bs : List Bool) → ones bs ≤ length bs
ones_below [] = omega arith
ones_below (true ∷ bs) = let e = ones_below bs in omega (arith, e)
ones_below (false ∷ bs) = let e = ones_below bs in omega (arith, e)

-- as many or more, and if as many the same
more_ones : (m n : List Bool) → length m ≡ length n → Marked m n → (ones m ≤ ones n) × (ones n ≤ ones m → n ≡ m)
more_ones [] [] e h = (omega arith, λ f. refl)
more_ones [] (y ∷ ys) e h = absurd (omega (arith, e))
more_ones (x ∷ xs) [] e h = absurd (omega (arith, e))
more_ones (x ∷ xs) (y ∷ ys) e h = by_bits x y (h 0) (more_ones xs ys (omega (arith, e)) (λ v. h (suc v))) where
  by_bits : (a b : Bool) → (a ≡ true → b ≡ true) → (ones xs ≤ ones ys) × (ones ys ≤ ones xs → ys ≡ xs) → (ones (a ∷ xs) ≤ ones (b ∷ ys)) × (ones (b ∷ ys) ≤ ones (a ∷ xs) → b ∷ ys ≡ a ∷ xs)
  by_bits true true f k = (let p = k.0 in omega (arith, p), λ q. ap (λ l. true ∷ l) (k.1 (omega (arith, q))))
  by_bits true false f k = false_true (f refl)
  by_bits false true f k = (let p = k.0 in omega (arith, p), λ q. absurd (let p = k.0 in omega (arith, p, q)))
  by_bits false false f k = (k.0, λ q. ap (λ l. false ∷ l) (k.1 q))

round_ones : (count j : ℕ) (nodes : List NodeTree) → (ones (reaching_within count j nodes) ≤ ones (reaching_within count (suc j) nodes))
    × (ones (reaching_within count (suc j) nodes) ≤ ones (reaching_within count j nodes) → reaching_within count (suc j) nodes ≡ reaching_within count j nodes)
round_ones count j nodes = more_ones (reaching_within count j nodes) (reaching_within count (suc j) nodes) (within_count count j nodes ∙ sym (within_count count (suc j) nodes)) (round_up count j nodes)

-- A round finds no further variable, or there are many.
progress : (count k : ℕ) (nodes : List NodeTree) → (reaching_within count (suc k) nodes ≡ reaching_within count k nodes) ⊎ (suc k ≤ ones (reaching_within count (suc k) nodes))
progress count zero nodes =
    elim (cases_lt (ones (reaching_within count zero nodes)) (ones (reaching_within count 1 nodes))) [
      | inl less ↦ inr (omega (arith, less))
      | inr past ↦ inl ((round_ones count zero nodes).1 past)
    ]
progress count (suc k) nodes =
    elim (progress count k nodes) [
      | inl e ↦ inl (ap (λ r. variables_among 0 count (nodes_hand r nodes)) e)
      | inr h ↦ elim (cases_lt (ones (reaching_within count (suc k) nodes)) (ones (reaching_within count (suc (suc k)) nodes))) [
        | inl less ↦ inr (omega (arith, less, h))
        | inr past ↦ inl ((round_ones count (suc k) nodes).1 past)
      ]
    ]

-- One more round finds no further variable.
at_the_end : (count : ℕ) (nodes : List NodeTree) → reaching_within count (suc count) nodes ≡ reaching count nodes
at_the_end count nodes =
    elim (progress count count nodes) [
      | inl e ↦ e
      | inr h ↦ absurd (let a = ones_below (reaching_within count (suc count) nodes) in let b = within_count count (suc count) nodes in omega (arith, h, a, b))
    ]

-- ---- what reaches is computed

subscripts_handed : (s : Source) (b : Bool) (op : OpTree) → IsAmong s (subscripts_of op) → IsAmong s (op_hands b op)
subscripts_handed s true op h = among_args s op.kind op.args h
subscripts_handed s false op h = h

-- what is handed on after the operations is handed on before them
behind_handed : (s : Source) (n : ℕ) (rest : List OpTree) (behind : List Operand) → IsAmong s behind → IsAmong s (handed n rest behind)
behind_handed s n [] behind h = h
behind_handed s n (op ∷ rest) behind h = among_right s (op_hands (list_any (is_result n) (handed (suc n) rest behind)) op) (handed (suc n) rest behind) (behind_handed s (suc n) rest behind h)

-- and so are the subscripts of each operation
own_handed : (s : Source) (n k : ℕ) (rest : List OpTree) (behind : List Operand) (op : OpTree) → slice_get rest k ≡ Some op → IsAmong s (subscripts_of op) → IsAmong s (handed n rest behind)
own_handed s n k [] behind op e h = none_some e
own_handed s n zero (x ∷ rest) behind op e h =
    let b = list_any (is_result n) (handed (suc n) rest behind) in
    among_left s (op_hands b x) (handed (suc n) rest behind) (subscripts_handed s b x (subst (λ y. IsAmong s (subscripts_of y)) (sym (some_same e)) h))
own_handed s n (suc k) (x ∷ rest) behind op e h = among_right s (op_hands (list_any (is_result n) (handed (suc n) rest behind)) x) (handed (suc n) rest behind) (own_handed s (suc n) k rest behind op e h)

-- an operand that names earlier operations alone does not name operation n
not_before : (n m : ℕ) (xs : List Operand) → AllBefore m xs → m ≤ n → IsAmong (result_ n) xs → ⊥
not_before n m [] h le a = a
not_before n m (x ∷ xs) h le (inl e) = absurd (let b : n < m = subst (NamesBefore m) e h.0 in omega (arith, b, le))
not_before n m (x ∷ xs) h le (inr a) = not_before n m xs h.1 le a

hands_before : (n m : ℕ) (b : Bool) (op : OpTree) → AllBefore m op.args → m ≤ n → IsAmong (result_ n) (op_hands b op) → ⊥
hands_before n m true op h le a = not_before n m op.args h le a
hands_before n m false op h le a = not_before n m op.args h le (among_args (result_ n) op.kind op.args a)

-- where the result of an operation is handed on, all its arguments are
args_handed : (s : Source) (n k : ℕ) (rest : List OpTree) (behind : List Operand) (op : OpTree) → OpsForward n rest → slice_get rest k ≡ Some op → IsAmong s op.args → IsAmong (result_ (n + k)) (handed n rest behind) → IsAmong s (handed n rest behind)
args_handed s n k [] behind op forward e h a = none_some e
args_handed s n zero (x ∷ rest) behind op forward e h a =
    let later = handed (suc n) rest behind in
    let b = list_any (is_result n) later in
    let place : n + 0 ≡ n = omega arith in
    elim (among_either (result_ (n + 0)) (op_hands b x) later a) [
      | inl k ↦ absurd (hands_before (n + 0) n b x (before_left n x.args (option_to_list x.guard) forward.0) (omega arith) k)
      | inr k ↦
          let reads = among_result n later (subst (λ m. IsAmong (result_ m) later) place k) in
          among_left s (op_hands b x) later (subst (λ t. IsAmong s (op_hands t x)) (sym reads) (subst (λ y. IsAmong s y.args) (sym (some_same e)) h))
    ]
args_handed s n (suc k) (x ∷ rest) behind op forward e h a =
    let later = handed (suc n) rest behind in
    let b = list_any (is_result n) later in
    let place : n + suc k ≡ suc n + k = omega arith in
    elim (among_either (result_ (n + suc k)) (op_hands b x) later a) [
      | inl q ↦ absurd (hands_before (n + suc k) n b x (before_left n x.args (option_to_list x.guard) forward.0) (omega arith) q)
      | inr q ↦ among_right s (op_hands b x) later (args_handed s (suc n) k rest behind op forward.2 e h (subst (λ m. IsAmong (result_ m) later) place q))
    ]

out_handed : (m : List Bool) (k : ℕ) (outs : List Out) (x : Out) → slice_get outs k ≡ Some x → get_or m x.variable.0 false ≡ true → IsAmong x.value.value (outs_hand m outs)
out_handed m k [] x e h = none_some e
out_handed m zero (y ∷ ys) x e h =
    let f = some_same e in
    subst (λ z. IsAmong z.value.value (if get_or m y.variable.0 false then y.value ∷ outs_hand m ys else outs_hand m ys)) f
    (subst (λ b. IsAmong y.value.value (if b then y.value ∷ outs_hand m ys else outs_hand m ys)) (sym (ap (λ (z : Out). get_or m z.variable.0 false) f ∙ h)) (inl refl))
out_handed m (suc k) (y ∷ ys) x e h = by_test (get_or m y.variable.0 false) (out_handed m k ys x e h) where
  by_test : (b : Bool) → IsAmong x.value.value (outs_hand m ys) → IsAmong x.value.value (if b then y.value ∷ outs_hand m ys else outs_hand m ys)
  by_test true q = inr q
  by_test false q = q

among_marked : (first count v : ℕ) (xs : List Operand) → v < count → list_any (is_variable (first + v)) xs ≡ true → get_or (variables_among first count xs) v false ≡ true
among_marked first zero v xs h e = absurd (omega (arith, h))
among_marked first (suc count) zero xs h e = ap (λ n. list_any (is_variable n) xs) (let f : first ≡ first + 0 = omega arith in f) ∙ e
among_marked first (suc count) (suc v) xs h e =
    among_marked (suc first) count v xs (omega (arith, h)) (ap (λ n. list_any (is_variable n) xs) (let f : suc first + v ≡ first + suc v = omega arith in f) ∙ e)

nodes_have : (m : List Bool) (nodes : List NodeTree) (i : ℕ) (node : NodeTree) (s : Source) → slice_get nodes i ≡ Some node → IsAmong s (body_hands m (body_in node)) → IsAmong s (nodes_hand m nodes)
nodes_have m [] i node s e h = none_some e
nodes_have m (x ∷ xs) zero node s e h = among_left s (body_hands m (body_in x)) (nodes_hand m xs) (subst (λ y. IsAmong s (body_hands m (body_in y))) (sym (some_same e)) h)
nodes_have m (x ∷ xs) (suc i) node s e h = among_right s (body_hands m (body_in x)) (nodes_hand m xs) (nodes_have m xs i node s e h)

out_there : (variables k : ℕ) (outs : List Out) (x : Out) → OutsThere variables outs → slice_get outs k ≡ Some x → x.variable.0 < variables
out_there variables k [] x h e = none_some e
out_there variables zero (y ∷ ys) x h e = subst (λ (z : Out). z.variable.0 < variables) (some_same e) h.0
out_there variables (suc k) (y ∷ ys) x h e = out_there variables k ys x h.1 e

node_there : (variables : ℕ) (nodes : List NodeTree) (i : ℕ) (node : NodeTree) → NodesThere variables nodes → slice_get nodes i ≡ Some node → OutsThere variables (body_in node).outs
node_there variables [] i node h e = none_some e
node_there variables (x ∷ xs) zero node h e = subst (λ y. OutsThere variables (body_in y).outs) (some_same e) h.0
node_there variables (x ∷ xs) (suc i) node h e = node_there variables xs i node h.1 e

forward_node : (nodes : List NodeTree) (i : ℕ) (node : NodeTree) → NodesForward nodes → slice_get nodes i ≡ Some node → NodeForward node
forward_node [] i node h e = none_some e
forward_node (x ∷ xs) zero node h e = subst NodeForward (some_same e) h.0
forward_node (x ∷ xs) (suc i) node h e = forward_node xs i node h.1 e

module _ (variables : ℕ) (nodes : List NodeTree) (forward : NodesForward nodes) (there : NodesThere variables nodes) where
  abbrev marks : List Bool
  marks = reaching variables nodes

  -- a variable that some body hands on is marked
  variable_marked : (i : ℕ) (node : NodeTree) (v : ℕ) → slice_get nodes i ≡ Some node → v < variables → IsAmong (variable_ v) (body_hands marks (body_in node)) → get_or marks v false ≡ true
  variable_marked i node v at below h =
      ap (λ m. get_or m v false) (sym (at_the_end variables nodes))
      ∙ among_marked 0 variables v (nodes_hand marks nodes) below
      (ap (λ n. list_any (is_variable n) (nodes_hand marks nodes)) (let f : 0 + v ≡ v = omega arith in f) ∙ among_variable v (nodes_hand marks nodes) (nodes_have marks nodes i node (variable_ v) at h))

  found : (node : NodeTree) (s : Source) → ReachesSubscript nodes node s → (i : ℕ) → slice_get nodes i ≡ Some node → IsAmong s (body_hands marks (body_in node))
  found _ _ (directly node s n op at among) i here = own_handed s 0 n (body_in node).ops (outs_hand marks (body_in node).outs) op at among
  found _ _ (through_operation node s n op at among reaches) i here =
      args_handed s 0 n (body_in node).ops (outs_hand marks (body_in node).outs) op (ops_forward node (forward_node nodes i node forward here)) at among
      (subst (λ m. IsAmong (result_ m) (body_hands marks (body_in node))) (let f : n ≡ 0 + n = omega arith in f) (found node (result_ n) reaches i here))
  found _ _ (through_variable node s k j out other at same where_ reaches) i here =
      let below = out_there variables k (body_in node).outs out (node_there variables nodes i node there here) at in
      let marked = variable_marked j other out.variable.0 where_ below (found other (source.Variable out.variable) reaches j where_) in
      behind_handed s 0 (body_in node).ops (outs_hand marks (body_in node).outs) (subst (λ z. IsAmong z (outs_hand marks (body_in node).outs)) same (out_handed marks k (body_in node).outs out at marked))

pub reached : ReachingIsReached
reached variables nodes forward there i node at =
    let marks = reaching variables nodes in
    let hands = body_hands marks (body_in node) in
    let reaches = body_reach nodes node marks (λ v e. round_reach nodes variables variables v e) in
    record {
      result_reaches = λ u e. reaches (result_ u) (result_among u hands e);
      result_is_found = λ u h. among_result u hands (found variables nodes forward there node (result_ u) h i at);
      variable_reaches = λ v e. reaches (variable_ v) (variable_among v hands e);
      variable_is_found = λ v h. among_variable v hands (found variables nodes forward there node (variable_ v) h i at);
    }
