-- What the code's counts and marks show.
use lib.Pointwise.{pointwise}
use mathlib.Core.Bool.{beq}
use Rattle.std.proofs.Common.{◌≡◌, ◌∙◌, ℕ, zero, suc, ◌+◌, ◌-◌, ◌<◌, ◌≤◌, Bool, true, false, List, [], ◌∷◌, ◌++◌, map, length, get_or, set, take, drop, replicate, Some, inl, inr, refl, sym, ap, ap₂, subst, arith, drop-cons}
use Rattle.std.specs.Prelude.{◌||◌, ◌==◌, if◌then◌else◌, slice_get}
use Rattle.std.specs.List.{list_any}
use Rattle.std.specs.Option.{option_map}
use Rattle.std.proofs.lemmas.Bool.{cases_eq, eq-eqb, ne_eqb, and_parts}
use Rattle.std.proofs.lemmas.Option.{slice_get-get_or, slice_get-map, slice_get_read}
use Rattle.std.proofs.lemmas.List.{take_at, append-nil, length-replicate, length-set, get_or-set_same, get_or-set_other, get_or-replicate}
use Rattle.std.proofs.lemmas.List.Folds.{list_any-append}
use Rattle.ir_core.specs.declared.body.Operand.{Operand}
use Rattle.ir_core.specs.declared.body.Source.{Source}
use Rattle.ir_core.specs.declared.body.Source.TheVariants as source
use Rattle.hls_base.specs.declared.number.NodeId.{NodeId}
use Rattle.ir_core.specs.declared.body.Op.{Op}
use Rattle.ir_core.specs.declared.stamp.Untimed.{Untimed}
use Rattle.ir_core.specs.Bodies.{OpTree, op_of}
use Rattle.ir_layout.specs.Nodes.{NodeTree, case_of}
use Rattle.op_chain.specs.Reads.{names_result, names_variable, is_result, is_variable, reads}
use Rattle.op_chain.specs.Subscripts.{op_hands, with_op, handed, variables_among, nodes_hand, reaching_within}
use Rattle.op_chain.proofs.Performing.{some_same}
use Rattle.op_chain.specs.Views.{one_more, capped, counted_source, counted, ShowsReads, marked_result, marked_results, marked_variable, marked_variables, ShowsResults, ShowsVariables}

-- ---- reads

pub counted_append : (counts : List ℕ) (xs ys : List Operand) → counted counts (xs ++ ys) ≡ counted (counted counts xs) ys
counted_append counts [] ys = refl
counted_append counts (x ∷ xs) ys = counted_append (counted_source counts x.value) xs ys

pub cases_first : (cases : List (Operand × NodeId)) → map (λ c. c.0) (map case_of cases) ≡ map (λ c. c.0) cases
cases_first [] = refl
cases_first (c ∷ cs) = ap (λ xs. c.0 ∷ xs) (cases_first cs)

source_count : (counts : List ℕ) (x : Source) → length (counted_source counts x) ≡ length counts
source_count counts (source.Constant w) = refl
source_count counts (source.Variable v) = refl
source_count counts (source.Result op) = length-set counts op.0 (one_more (get_or counts op.0 0))

pub counted_count : (counts : List ℕ) (xs : List Operand) → length (counted counts xs) ≡ length counts
counted_count counts [] = refl
counted_count counts (x ∷ xs) = counted_count (counted_source counts x.value) xs ∙ source_count counts x.value

more_capped : (n : ℕ) → one_more (capped n) ≡ capped (suc n)
more_capped zero = refl
more_capped (suc zero) = refl
more_capped (suc (suc n)) = refl

source_shows : (counts : List ℕ) (u n : ℕ) (x : Source) → u < length counts → get_or counts u 0 ≡ capped n → get_or (counted_source counts x) u 0 ≡ capped (if names_result u x then suc n else n)
source_shows counts u n (source.Constant w) h e = e
source_shows counts u n (source.Variable v) h e = e
source_shows counts u n (source.Result op) h e =
    elim (cases_eq op.0 u) [
      | inl same ↦
          ap (λ i. get_or (set counts op.0 (one_more (get_or counts op.0 0))) i 0) (sym same)
          ∙ (get_or-set_same counts op.0 (one_more (get_or counts op.0 0)) 0 (subst (λ i. i < length counts) (sym same) h)
          ∙ (ap one_more (ap (λ i. get_or counts i 0) same ∙ e) ∙ (more_capped n ∙ ap (λ b. capped (if b then suc n else n)) (sym (eq-eqb op.0 u same)))))
      | inr apart ↦
          get_or-set_other counts op.0 u (one_more (get_or counts op.0 0)) 0 (λ f. apart (sym f)) ∙ (e ∙ ap (λ b. capped (if b then suc n else n)) (sym (ne_eqb op.0 u apart)))
    ]

counted_shows : (counts : List ℕ) (u n m : ℕ) (xs : List Operand) → u < length counts → get_or counts u 0 ≡ capped n → n + reads u xs ≡ m → get_or (counted counts xs) u 0 ≡ capped m
counted_shows counts u n m [] h e f = e ∙ ap capped (let g : n ≡ m = omega (arith, f) in g)
counted_shows counts u n m (x ∷ xs) h e f =
    counted_shows (counted_source counts x.value) u (if is_result u x then suc n else n) m xs (subst (λ k. u < k) (sym (source_count counts x.value)) h) (source_shows counts u n x.value h e) (by_test (is_result u x) f)
  where
    by_test : (b : Bool) → n + (if b then suc (reads u xs) else reads u xs) ≡ m → (if b then suc n else n) + reads u xs ≡ m
    by_test true g = omega (arith, g)
    by_test false g = g

pub reads_shown : (count : ℕ) (xs : List Operand) → ShowsReads (counted (replicate count 0) xs) xs
reads_shown count xs u h =
    let below : u < count = (let a = counted_count (replicate count 0) xs in let b = length-replicate {A = ℕ} count 0 in omega (arith, a, b, h)) in
    counted_shows (replicate count 0) u 0 (reads u xs) xs (let b = length-replicate {A = ℕ} count 0 in omega (arith, b, below)) (get_or-replicate count u 0 0 below) (omega arith)

-- ---- marks

or_swap : (a b c : Bool) → (a || (b || c)) ≡ ((b || a) || c)
or_swap true true c = refl
or_swap true false c = refl
or_swap false true c = refl
or_swap false false c = refl

or_assoc : (a b c : Bool) → (a || (b || c)) ≡ ((a || b) || c)
or_assoc true b c = refl
or_assoc false b c = refl

or_false : (b : Bool) → (b || false) ≡ b
or_false true = refl
or_false false = refl

set_marked : (marks : List Bool) (i u : ℕ) → u < length marks → get_or (set marks i true) u false ≡ ((i == u) || get_or marks u false)
set_marked marks i u h =
    elim (cases_eq i u) [
      | inl same ↦
          ap (λ j. get_or (set marks j true) u false) same ∙ (get_or-set_same marks u true false h ∙ ap (λ b. b || get_or marks u false) (sym (eq-eqb i u same)))
      | inr apart ↦ get_or-set_other marks i u true false (λ f. apart (sym f)) ∙ ap (λ b. b || get_or marks u false) (sym (ne_eqb i u apart))
    ]

result_marked : (marks : List Bool) (u : ℕ) (x : Source) → u < length marks → get_or (marked_result marks x) u false ≡ (names_result u x || get_or marks u false)
result_marked marks u (source.Constant w) h = refl
result_marked marks u (source.Variable v) h = refl
result_marked marks u (source.Result op) h = set_marked marks op.0 u h

result_count : (marks : List Bool) (x : Source) → length (marked_result marks x) ≡ length marks
result_count marks (source.Constant w) = refl
result_count marks (source.Variable v) = refl
result_count marks (source.Result op) = length-set marks op.0 true

pub results_count : (marks : List Bool) (xs : List Operand) → length (marked_results marks xs) ≡ length marks
results_count marks [] = refl
results_count marks (x ∷ xs) = results_count (marked_result marks x.value) xs ∙ result_count marks x.value

results_marked : (marks : List Bool) (u : ℕ) (xs : List Operand) → u < length marks → get_or (marked_results marks xs) u false ≡ (list_any (is_result u) xs || get_or marks u false)
results_marked marks u [] h = refl
results_marked marks u (x ∷ xs) h =
    results_marked (marked_result marks x.value) u xs (subst (λ n. u < n) (sym (result_count marks x.value)) h)
    ∙ (ap (λ b. list_any (is_result u) xs || b) (result_marked marks u x.value h) ∙ or_swap (list_any (is_result u) xs) (is_result u x) (get_or marks u false))

pub results_shown : (marks : List Bool) (xs behind : List Operand) → ShowsResults marks behind → ShowsResults (marked_results marks xs) (xs ++ behind)
results_shown marks xs behind h u below =
    let within = subst (λ n. u < n) (results_count marks xs) below in
    results_marked marks u xs within ∙ (ap (λ b. list_any (is_result u) xs || b) (h u within) ∙ sym (list_any-append (is_result u) xs behind))

variable_marked : (marks : List Bool) (v : ℕ) (x : Source) → v < length marks → get_or (marked_variable marks x) v false ≡ (names_variable v x || get_or marks v false)
variable_marked marks v (source.Constant w) h = refl
variable_marked marks v (source.Result op) h = refl
variable_marked marks v (source.Variable variable) h = set_marked marks variable.0 v h

variable_count : (marks : List Bool) (x : Source) → length (marked_variable marks x) ≡ length marks
variable_count marks (source.Constant w) = refl
variable_count marks (source.Result op) = refl
variable_count marks (source.Variable variable) = length-set marks variable.0 true

pub variables_count : (marks : List Bool) (xs : List Operand) → length (marked_variables marks xs) ≡ length marks
variables_count marks [] = refl
variables_count marks (x ∷ xs) = variables_count (marked_variable marks x.value) xs ∙ variable_count marks x.value

variables_marked : (marks : List Bool) (v : ℕ) (xs : List Operand) → v < length marks → get_or (marked_variables marks xs) v false ≡ (list_any (is_variable v) xs || get_or marks v false)
variables_marked marks v [] h = refl
variables_marked marks v (x ∷ xs) h =
    variables_marked (marked_variable marks x.value) v xs (subst (λ n. v < n) (sym (variable_count marks x.value)) h)
    ∙ (ap (λ b. list_any (is_variable v) xs || b) (variable_marked marks v x.value h) ∙ or_swap (list_any (is_variable v) xs) (is_variable v x) (get_or marks v false))

pub variables_shown : (marks : List Bool) (before : ℕ → Bool) (xs behind : List Operand) → ShowsVariables marks before behind → ShowsVariables (marked_variables marks xs) before (xs ++ behind)
variables_shown marks before xs behind h v below =
    let within = subst (λ n. v < n) (variables_count marks xs) below in
    variables_marked marks v xs within
    ∙ (ap (λ b. list_any (is_variable v) xs || b) (h v within) ∙ (or_assoc (list_any (is_variable v) xs) (list_any (is_variable v) behind) (before v) ∙ ap (λ b. b || before v) (sym (list_any-append (is_variable v) xs behind))))

-- ---- operations from the back

pub results_step : (marks new : List Bool) (k left : ℕ) (op : OpTree) (all rest : List OpTree) (behind : List Operand) (reaches : Bool) → left ≡ suc k → all ≡ op ∷ rest → reaches ≡ list_any (is_result k) (handed left rest behind)
    → new ≡ marked_results marks (op_hands reaches op) → ShowsResults marks (handed left rest behind) → ShowsResults new (handed k all behind)
results_step marks new k left op all rest behind reaches place front is_it made h =
    let later : handed left rest behind ≡ handed (suc k) rest behind = ap (λ n. handed n rest behind) place in
    let same : handed k all behind ≡ op_hands reaches op ++ handed left rest behind =
    ap (λ xs. handed k xs behind) front ∙ (ap (with_op k op) (sym later) ∙ ap (λ b. op_hands b op ++ handed left rest behind) (sym is_it)) in
    subst (λ xs. ShowsResults new xs) (sym same) (subst (λ m. ShowsResults m (op_hands reaches op ++ handed left rest behind)) (sym made) (results_shown marks (op_hands reaches op) (handed left rest behind) h))

pub variables_step : (marks new : List Bool) (before : ℕ → Bool) (k left : ℕ) (op : OpTree) (all rest : List OpTree) (behind : List Operand) (reaches : Bool) → left ≡ suc k → all ≡ op ∷ rest
    → reaches ≡ list_any (is_result k) (handed left rest behind) → new ≡ marked_variables marks (op_hands reaches op) → ShowsVariables marks before (handed left rest behind) → ShowsVariables new before (handed k all behind)
variables_step marks new before k left op all rest behind reaches place front is_it made h =
    let later : handed left rest behind ≡ handed (suc k) rest behind = ap (λ n. handed n rest behind) place in
    let same : handed k all behind ≡ op_hands reaches op ++ handed left rest behind =
    ap (λ xs. handed k xs behind) front ∙ (ap (with_op k op) (sym later) ∙ ap (λ b. op_hands b op ++ handed left rest behind) (sym is_it)) in
    subst (λ xs. ShowsVariables new before xs) (sym same)
    (subst (λ m. ShowsVariables m before (op_hands reaches op ++ handed left rest behind)) (sym made) (variables_shown marks before (op_hands reaches op) (handed left rest behind) h))

pub nothing_marked : (count : ℕ) → ShowsResults (replicate count false) []
nothing_marked count u h = get_or-replicate count u false false (let b = length-replicate {A = Bool} count false in omega (arith, b, h))

pub outs_shown : (marks new : List Bool) (xs : List Operand) → new ≡ marked_results marks xs → ShowsResults marks [] → ShowsResults new xs
outs_shown marks new xs e h = subst (λ m. ShowsResults m xs) (sym e) (subst (ShowsResults (marked_results marks xs)) (append-nil xs) (results_shown marks xs [] h))

pub outs_shown_too : (marks new : List Bool) (before : ℕ → Bool) (xs : List Operand) → new ≡ marked_variables marks xs → ShowsVariables marks before [] → ShowsVariables new before xs
outs_shown_too marks new before xs e h = subst (λ m. ShowsVariables m before xs) (sym e) (subst (ShowsVariables (marked_variables marks xs) before) (append-nil xs) (variables_shown marks before xs [] h))

-- ---- rounds

among : (marks : List Bool) (v count : ℕ) (xs : List Operand) → length marks ≡ count → ((k : ℕ) → k < count → get_or marks k false ≡ list_any (is_variable (v + k)) xs) → marks ≡ variables_among v count xs
among [] v zero xs e h = refl
among [] v (suc count) xs e h = absurd (omega (arith, e))
among (m ∷ ms) v zero xs e h = absurd (omega (arith, e))
among (m ∷ ms) v (suc count) xs e h =
    ap₂ (λ b bs. b ∷ bs) (h 0 (omega arith) ∙ ap (λ n. list_any (is_variable n) xs) (let f : v + 0 ≡ v = omega arith in f))
    (among ms (suc v) count xs (omega (arith, e)) (λ k below. h (suc k) (omega (arith, below)) ∙ ap (λ n. list_any (is_variable n) xs) (let f : v + suc k ≡ suc v + k = omega arith in f)))

pub round_shown : (next old : List Bool) (count : ℕ) (xs : List Operand) → length next ≡ count → old ≡ replicate count false → ShowsVariables next (λ v. get_or old v false) xs → next ≡ variables_among 0 count xs
round_shown next old count xs e start h =
    among next 0 count xs e (λ k below.
    h k (omega (arith, e, below))
    ∙ (ap (λ b. list_any (is_variable k) xs || b) (ap (λ l. get_or l k false) start ∙ get_or-replicate count k false false below)
    ∙ (or_false (list_any (is_variable k) xs) ∙ ap (λ n. list_any (is_variable n) xs) (let f : k ≡ 0 + k = omega arith in f))))

among_count : (v count : ℕ) (xs : List Operand) → length (variables_among v count xs) ≡ count
among_count v zero xs = refl
among_count v (suc count) xs = ap suc (among_count (suc v) count xs)

pub within_count : (count rounds : ℕ) (nodes : List NodeTree) → length (reaching_within count rounds nodes) ≡ count
within_count count zero nodes = length-replicate {A = Bool} count false
within_count count (suc rounds) nodes = among_count 0 count (nodes_hand (reaching_within count rounds nodes) nodes)

settled_by : (count i k : ℕ) (nodes : List NodeTree) → reaching_within count (suc i) nodes ≡ reaching_within count i nodes → reaching_within count (k + i) nodes ≡ reaching_within count i nodes
settled_by count i zero nodes e = ap (λ n. reaching_within count n nodes) (let f : 0 + i ≡ i = omega arith in f)
settled_by count i (suc k) nodes e =
    ap (λ n. reaching_within count n nodes) (let f : suc k + i ≡ suc (k + i) = omega arith in f)
    ∙ (ap (λ r. variables_among 0 count (nodes_hand r nodes)) (settled_by count i k nodes e) ∙ e)

-- After a round that finds no further variable none does.
pub settled : (count i n : ℕ) (nodes : List NodeTree) → i ≤ n → reaching_within count (suc i) nodes ≡ reaching_within count i nodes → reaching_within count n nodes ≡ reaching_within count i nodes
settled count i n nodes h e =
    ap (λ m. reaching_within count m nodes) (let f : n ≡ (n - i) + i = omega (arith, h) in f) ∙ settled_by count i (n - i) nodes e

pub next_round : (count i : ℕ) (nodes : List NodeTree) (reaching_ next : List Bool) → reaching_ ≡ reaching_within count i nodes → next ≡ variables_among 0 (length reaching_) (nodes_hand reaching_ nodes)
    → next ≡ reaching_within count (suc i) nodes
next_round count i nodes reaching_ next e f =
    f ∙ ap₂ (λ n r. variables_among 0 n (nodes_hand r nodes)) (ap length e ∙ within_count count i nodes) e

-- ---- a list whose slice was written

pub written_back : {A : Type 0} (n : ℕ) (new old : List A) → length new ≡ n → take n (new ++ drop (length new) old) ≡ new
written_back n new old h = take_at new (drop (length new) old) n h

pub default_same : (marks : List Bool) (k : ℕ) (d e : Bool) → k < length marks → get_or marks k d ≡ get_or marks k e
default_same marks k d e h = some_same (sym (slice_get-get_or marks k d h) ∙ slice_get-get_or marks k e h)

-- ---- operations of the code

pub op_there : (ops : List (Op Untimed)) (k : ℕ) (one : OpTree) (x : Op Untimed) → k < length ops → slice_get (map op_of ops) k ≡ Some one → x ≡ get_or ops k x → op_of x ≡ one
op_there ops k one x h at e = some_same (sym (slice_get-map op_of ops k ∙ ap (option_map op_of) (slice_get_read ops (length ops) k x refl h e)) ∙ at)

pub op_at : (ops : List (Op Untimed)) (k : ℕ) (x : Op Untimed) → k < length ops → x ≡ get_or ops k x → slice_get (map op_of ops) k ≡ Some (op_of x)
op_at ops k x h e = slice_get-map op_of ops k ∙ ap (option_map op_of) (slice_get_read ops (length ops) k x refl h e)

pub ops_from : (ops : List (Op Untimed)) (k left : ℕ) (x : Op Untimed) → k < length ops → left ≡ suc k → x ≡ get_or ops k x → map op_of (drop k ops) ≡ op_of x ∷ map op_of (drop left ops)
ops_from ops k left x h place e =
    ap (map op_of) (drop-cons ops k x h) ∙ ap₂ (λ y n. op_of y ∷ map op_of (drop n ops)) (sym e) (sym place)

bit_same : (a b : Bool) → beq a b ≡ true → a ≡ b
bit_same true true e = refl
bit_same true false e = sym e
bit_same false true e = e
bit_same false false e = refl

pub all_same : (xs ys : List Bool) → pointwise beq xs ys ≡ true → xs ≡ ys
all_same [] [] e = refl
all_same [] (y ∷ ys) e = absurd cc
all_same (x ∷ xs) [] e = absurd cc
all_same (x ∷ xs) (y ∷ ys) e = let p = and_parts (beq x y) (pointwise beq xs ys) e in ap₂ (λ a bs. a ∷ bs) (bit_same x y p.0) (all_same xs ys p.1)
