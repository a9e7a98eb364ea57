-- The variables that reach a subscript are the same after fusing.
use Rattle.std.proofs.Common.{◌≡◌, ◌∙◌, ℕ, zero, suc, ◌+◌, ◌-◌, ◌≤◌, Bool, true, false, List, [], ◌∷◌, ◌++◌, map, length, take, replicate, get_or, inl, inr, refl, sym, ap, ap₂, arith}
use Rattle.std.specs.Prelude.{◌||◌, if◌then◌else◌}
use Rattle.std.specs.List.{list_any}
use Rattle.std.proofs.lemmas.Bool.{cases_lt}
use Rattle.std.proofs.lemmas.List.{get_or-replicate, length-replicate}
use Rattle.std.proofs.lemmas.List.Folds.{list_any-append}
use Rattle.ir_core.specs.declared.body.OpKind.{OpKind}
use Rattle.ir_core.specs.declared.body.OpKind.TheVariants as o
use Rattle.ir_core.specs.declared.body.Operand.{Operand}
use Rattle.ir_core.specs.declared.body.Out.{Out}
use Rattle.ir_core.specs.Bodies.{OpTree}
use Rattle.ir_layout.specs.Nodes.{NodeTree}
use Rattle.op_chain.specs.Forward.{NodeForward, NodesForward}
use Rattle.op_chain.specs.Reads.{is_result, is_variable}
use Rattle.op_chain.specs.Subscripts.{subscripts, op_hands, handed, outs_hand, body_hands, body_in, nodes_hand, variables_among, reaching_within, reaching}
use Rattle.op_chain.specs.Fusing.{fused_node}
use Rattle.op_chain.proofs.Handing.{Free, moved_variable}
use Rattle.op_chain.proofs.NodeFacts.{ops, cs, made_, node_suits, node_free, hands_same}

-- each test that one of the first passes, one of the second passes
abbrev pub Sub : List Operand → List Operand → Type 0
Sub xs ys = (p : Operand → Bool) → list_any p xs ≡ true → list_any p ys ≡ true

abbrev pub Marked : List Bool → List Bool → Type 0
Marked m n = (v : ℕ) → get_or m v false ≡ true → get_or n v false ≡ true

false_true : {A : Type 0} → false ≡ true → A
false_true e = absurd cc

or_either : (a b c d : Bool) → (a ≡ true → c ≡ true) → (b ≡ true → d ≡ true) → (a || b) ≡ true → (c || d) ≡ true
or_either true b c d f g e = ap (λ x. x || d) (f refl)
or_either false b true d f g e = refl
or_either false b false d f g e = g e

sub_both : (xs ys us vs : List Operand) → Sub xs us → Sub ys vs → Sub (xs ++ ys) (us ++ vs)
sub_both xs ys us vs f g p e =
    list_any-append p us vs ∙ or_either (list_any p xs) (list_any p ys) (list_any p us) (list_any p vs) (f p) (g p) (sym (list_any-append p xs ys) ∙ e)

pub none_sub : (xs ys : List Operand) (p : Operand → Bool) → Sub xs ys → list_any p ys ≡ false → list_any p xs ≡ false
none_sub xs ys p f e = by_test (list_any p xs) refl where
  by_test : (b : Bool) → list_any p xs ≡ b → list_any p xs ≡ false
  by_test true g = false_true (sym e ∙ f p g)
  by_test false g = g

take_sub : (n : ℕ) (xs : List Operand) → Sub (take n xs) xs
take_sub zero [] p e = e
take_sub zero (x ∷ xs) p e = false_true e
take_sub (suc n) [] p e = e
take_sub (suc n) (x ∷ xs) p e = or_either (p x) (list_any p (take n xs)) (p x) (list_any p xs) (λ f. f) (take_sub n xs p) e

subscripts_sub : (kind : OpKind) (args : List Operand) → Sub (subscripts kind args) args
subscripts_sub o.Load args p e = e
subscripts_sub o.Store args p e = take_sub (length args - 1) args p e
subscripts_sub kind args p e = false_true e

hands_sub : (b c : Bool) (op : OpTree) → (b ≡ true → c ≡ true) → Sub (op_hands b op) (op_hands c op)
hands_sub true true op h p e = e
hands_sub true false op h p e = false_true (h refl)
hands_sub false true op h p e = subscripts_sub op.kind op.args p e
hands_sub false false op h p e = e

handed_sub : (n : ℕ) (os : List OpTree) (xs ys : List Operand) → Sub xs ys → Sub (handed n os xs) (handed n os ys)
handed_sub n [] xs ys f = f
handed_sub n (op ∷ os) xs ys f =
    let g = handed_sub (suc n) os xs ys f in
    sub_both (op_hands (list_any (is_result n) (handed (suc n) os xs)) op) (handed (suc n) os xs) (op_hands (list_any (is_result n) (handed (suc n) os ys)) op) (handed (suc n) os ys)
    (hands_sub (list_any (is_result n) (handed (suc n) os xs)) (list_any (is_result n) (handed (suc n) os ys)) op (g (is_result n))) g

outs_sub : (m n : List Bool) (outs : List Out) → Marked m n → Sub (outs_hand m outs) (outs_hand n outs)
outs_sub m n [] h p = λ e. e
outs_sub m n (x ∷ xs) h p = by_test (get_or m x.variable.0 false) (get_or n x.variable.0 false) (h x.variable.0) (outs_sub m n xs h p) where
  by_test : (b c : Bool) → (b ≡ true → c ≡ true) → (list_any p (outs_hand m xs) ≡ true → list_any p (outs_hand n xs) ≡ true)
      → list_any p (if b then x.value ∷ outs_hand m xs else outs_hand m xs) ≡ true → list_any p (if c then x.value ∷ outs_hand n xs else outs_hand n xs) ≡ true
  by_test true true f g e = or_either (p x.value) (list_any p (outs_hand m xs)) (p x.value) (list_any p (outs_hand n xs)) (λ k. k) g e
  by_test true false f g e = false_true (f refl)
  by_test false true f g e = or_either false (list_any p (outs_hand m xs)) (p x.value) (list_any p (outs_hand n xs)) (λ k. false_true k) g e
  by_test false false f g e = g e

pub body_sub : (m n : List Bool) (node : NodeTree) → Marked m n → Sub (body_hands m (body_in node)) (body_hands n (body_in node))
body_sub m n node h = handed_sub 0 (body_in node).ops (outs_hand m (body_in node).outs) (outs_hand n (body_in node).outs) (outs_sub m n (body_in node).outs h)

nodes_sub : (m n : List Bool) (nodes : List NodeTree) → Marked m n → Sub (nodes_hand m nodes) (nodes_hand n nodes)
nodes_sub m n [] h = λ p e. e
nodes_sub m n (node ∷ nodes) h =
    sub_both (body_hands m (body_in node)) (nodes_hand m nodes) (body_hands n (body_in node)) (nodes_hand n nodes) (body_sub m n node h) (nodes_sub m n nodes h)

among_sub : (v count : ℕ) (xs ys : List Operand) → Sub xs ys → Marked (variables_among v count xs) (variables_among v count ys)
among_sub v zero xs ys f w e = e
among_sub v (suc count) xs ys f zero e = f (is_variable v) e
among_sub v (suc count) xs ys f (suc w) e = among_sub (suc v) count xs ys f w e

pub get_past : (xs : List Bool) (v : ℕ) → length xs ≤ v → get_or xs v false ≡ false
get_past [] v h = refl
get_past (x ∷ xs) zero h = absurd (omega (arith, h))
get_past (x ∷ xs) (suc v) h = get_past xs v (omega (arith, h))

pub none_marked : (count v : ℕ) → get_or (replicate count false) v false ≡ false
none_marked count v =
    elim (cases_lt v count) [
      | inl less ↦ get_or-replicate count v false false less
      | inr past ↦ get_past (replicate count false) v (let e = length-replicate {A = Bool} count false in omega (arith, e, past))
    ]

pub round_up : (count k : ℕ) (nodes : List NodeTree) → Marked (reaching_within count k nodes) (reaching_within count (suc k) nodes)
round_up count zero nodes = λ v e. false_true (sym (none_marked count v) ∙ e)
round_up count (suc k) nodes =
    among_sub 0 count (nodes_hand (reaching_within count k nodes) nodes) (nodes_hand (reaching_within count (suc k) nodes) nodes)
    (nodes_sub (reaching_within count k nodes) (reaching_within count (suc k) nodes) nodes (round_up count k nodes))

rounds_up : (count k j : ℕ) (nodes : List NodeTree) → Marked (reaching_within count k nodes) (reaching_within count (j + k) nodes)
rounds_up count k zero nodes v e = ap (λ n. get_or (reaching_within count n nodes) v false) (let f : 0 + k ≡ k = omega arith in f) ∙ e
rounds_up count k (suc j) nodes v e =
    ap (λ n. get_or (reaching_within count n nodes) v false) (let f : suc j + k ≡ suc (j + k) = omega arith in f) ∙ round_up count (j + k) nodes v (rounds_up count k j nodes v e)

all_rounds : (count k : ℕ) (nodes : List NodeTree) → k ≤ count → Marked (reaching_within count k nodes) (reaching count nodes)
all_rounds count k nodes h v e =
    ap (λ n. get_or (reaching_within count n nodes) v false) (let f : count ≡ (count - k) + k = omega (arith, h) in f) ∙ rounds_up count k (count - k) nodes v e

among_same : (v count : ℕ) (xs ys : List Operand) → ((w : ℕ) → list_any (is_variable w) xs ≡ list_any (is_variable w) ys) → variables_among v count xs ≡ variables_among v count ys
among_same v zero xs ys h = refl
among_same v (suc count) xs ys h = ap₂ (λ b bs. b ∷ bs) (h v) (among_same (suc v) count xs ys h)

-- ---- fused nodes

module _ (period : ℕ) (marks : List Bool) where
  free_under : (m : List Bool) (node : NodeTree) (forward : NodeForward node) → Marked m marks
      → Free (ops period marks node forward) (cs period marks node forward) (node_suits period marks node forward) (body_hands m (body_in node))
  free_under m node forward h =
      let free = node_free period marks node forward in
      record {
        taken = λ n e. none_sub (body_hands m (body_in node)) (body_hands marks (body_in node)) (is_result n) (body_sub m marks node h) (free.taken n e);
        takers = λ n t e. none_sub (body_hands m (body_in node)) (body_hands marks (body_in node)) (is_result n) (body_sub m marks node h) (free.takers n t e);
      }

  node_variables : (m : List Bool) (v : ℕ) (node : NodeTree) → NodeForward node → Marked m marks → list_any (is_variable v) (body_hands m (body_in (fused_node period marks node))) ≡ list_any (is_variable v) (body_hands m (body_in node))
  node_variables m v node forward h =
      let s = hands_same period marks node forward m (free_under m node forward h) in
      ap (list_any (is_variable v)) s.same ∙ moved_variable (made_ period marks node forward).now v (body_hands m (body_in node))

  nodes_variables : (m : List Bool) (v : ℕ) (nodes : List NodeTree) → NodesForward nodes → Marked m marks → list_any (is_variable v) (nodes_hand m (map (fused_node period marks) nodes)) ≡ list_any (is_variable v) (nodes_hand m nodes)
  nodes_variables m v [] forward h = refl
  nodes_variables m v (node ∷ nodes) forward h =
      list_any-append (is_variable v) (body_hands m (body_in (fused_node period marks node))) (nodes_hand m (map (fused_node period marks) nodes))
      ∙ (ap₂ (λ a b. a || b) (node_variables m v node forward.0 h) (nodes_variables m v nodes forward.1 h) ∙ sym (list_any-append (is_variable v) (body_hands m (body_in node)) (nodes_hand m nodes)))

rounds_same : (period count k : ℕ) (nodes : List NodeTree) → NodesForward nodes → k ≤ count → reaching_within count k (map (fused_node period (reaching count nodes)) nodes) ≡ reaching_within count k nodes
rounds_same period count zero nodes forward h = refl
rounds_same period count (suc k) nodes forward h =
    let marks = reaching count nodes in
    let m = reaching_within count k nodes in
    ap (λ r. variables_among 0 count (nodes_hand r (map (fused_node period marks) nodes))) (rounds_same period count k nodes forward (omega (arith, h)))
    ∙ among_same 0 count (nodes_hand m (map (fused_node period marks) nodes)) (nodes_hand m nodes) (λ w. nodes_variables period marks m w nodes forward (all_rounds count k nodes (omega (arith, h))))

pub reaching_same : (period count : ℕ) (nodes : List NodeTree) → NodesForward nodes → reaching count (map (fused_node period (reaching count nodes)) nodes) ≡ reaching count nodes
reaching_same period count nodes forward = rounds_same period count count nodes forward (omega arith)
