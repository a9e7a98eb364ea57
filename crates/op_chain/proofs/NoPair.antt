-- No fusable pair is left in the new body.
use Rattle.std.proofs.Common.{◌≡◌, ◌∙◌, ℕ, zero, suc, ◌+◌, ◌<◌, ◌≤◌, Bool, true, false, not, List, [], ◌∷◌, ◌++◌, length, take, map, get_or, Option, Some, None, inl, inr, refl, sym, ap, ap₂, subst, arith}
use Rattle.std.specs.Prelude.{slice_get, is_none, ◌==◌, ◌&&◌, ◌||◌, if◌then◌else◌}
use Rattle.std.specs.Option.{option_map, option_to_list}
use Rattle.std.specs.List.{list_any}
use Rattle.std.proofs.lemmas.Bool.{cases_lt, eq-eqb, ne_eqb, eqb-true, and_parts, and_from}
use Rattle.std.proofs.lemmas.List.{append-nil, map-append}
use Rattle.std.proofs.lemmas.Option.{slice_get_within, slice_get-get_or}
use Rattle.ir_core.specs.declared.body.Operand.{Operand}
use Rattle.ir_core.specs.declared.body.Out.{Out}
use Rattle.ir_core.specs.declared.body.Simple.{Simple}
use Rattle.ir_core.specs.declared.body.Source.{Source}
use Rattle.ir_core.specs.declared.body.Source.TheVariants as source
use Rattle.ir_core.specs.Bodies.{OpTree}
use Rattle.ir_layout.specs.Nodes.{EndTree, jumps, branches, chooses, returns, NodeTree, plain, looped}
use Rattle.op_chain.specs.declared.choices.Taking.{Taking}
use Rattle.op_chain.specs.Forward.{NodeForward, NodesForward}
use Rattle.op_chain.specs.Reads.{op_operands, ops_operands, out_operands, end_operands, node_operands, names_result, is_result, is_result_now, reads}
use Rattle.op_chain.specs.Subscripts.{body_hands, body_in, reaching}
use Rattle.op_chain.specs.Pairs.{Scope, scope_of, simple_of, fit, are_alike, is_read_by, reaches_none, is_pair, is_pair_if, is_fusable}
use Rattle.op_chain.specs.Fusing.{paired, taking, taking_by, taking_through, or_else, choice, chosen, moved, moved_op, moved_out, moved_case, moved_end, is_taken, args_of, joined, fused_op, new_op, Made, made_by, node_with, fused_node}
use Rattle.op_chain.specs.Laws.{FusingLeavesNoPair}
use Rattle.op_chain.proofs.Performing.{none_some, some_same}
use Rattle.op_chain.proofs.Keeping.{Kept, AllKept, SidesFit, TakesIn, OpSuits, Suits, all_left}
use Rattle.op_chain.proofs.Counting.{reads_append, reads_at, reads_two, reads_some}
use Rattle.op_chain.proofs.Choosing.{chosen_at, chosen_count, get_take, take_count, taken_by}
use Rattle.op_chain.proofs.Suiting.{PairParts, pair_parts, taker_of, forward_at, two_args}
use Rattle.op_chain.proofs.Standing.{size, numbers, different, new_at, all_moved_same}
use Rattle.op_chain.proofs.Handing.{moved_named, any_moved, later}
use Rattle.op_chain.proofs.NodeFacts.{others, counts, ops_forward, node_suits, node_others, node_free, hands_same}
use Rattle.op_chain.proofs.Rounds.{reaching_same}
use Rattle.op_chain.proofs.StandingPairs.{Came, came, body_ops}

false_true : {A : Type 0} → false ≡ true → A
false_true e = absurd cc

-- ---- parts of a pair

pub pair_from : (scope : Scope) (u : ℕ) (one : OpTree) (v : ℕ) (two : OpTree) → PairParts scope u one v two → is_pair scope u one v two ≡ true
pair_from scope u one v two k =
    and_from (are_alike scope.period one two) (is_read_by scope.operands u two && (reaches_none scope.handed u && reaches_none scope.handed v))
    (and_from (one.bits == two.bits) ((is_none one.guard && is_none two.guard) && fit scope.period two.bits (simple_of one.kind) (simple_of two.kind)) (eq-eqb one.bits two.bits k.bits)
    (and_from (is_none one.guard && is_none two.guard) (fit scope.period two.bits (simple_of one.kind) (simple_of two.kind)) (and_from (is_none one.guard) (is_none two.guard) (ap is_none k.first_guard) (ap is_none k.second_guard)) k.fits))
    (and_from (is_read_by scope.operands u two) (reaches_none scope.handed u && reaches_none scope.handed v)
    (and_from (reads u scope.operands == 1) (list_any (is_result_now u) two.args) (eq-eqb (reads u scope.operands) 1 k.once) k.read) (and_from (reaches_none scope.handed u) (reaches_none scope.handed v) k.first_none k.second_none))

record Both (scope : Scope) (u v : ℕ) (a b : Option OpTree) : Type 0 where
  pub one : OpTree
  pub two : OpTree
  pub first : a ≡ Some one
  pub second : b ≡ Some two
  pub pair : is_pair scope u one v two ≡ true

both_there : (scope : Scope) (u v : ℕ) (a b : Option OpTree) → is_pair_if scope u a v b ≡ true → Both scope u v a b
both_there scope u v (Some one) (Some two) e = record { one = one; two = two; first = refl; second = refl; pair = e }
both_there scope u v (Some one) None e = false_true e
both_there scope u v None b e = false_true e

fit_both : (period bits : ℕ) (a b : Option Simple) → fit period bits a b ≡ true → (f : Simple) × (g : Simple) × (a ≡ Some f) × (b ≡ Some g)
fit_both period bits (Some f) (Some g) e = (f, g, refl, refl)
fit_both period bits (Some f) None e = false_true e
fit_both period bits None b e = false_true e

named_is : (u : ℕ) (s : Source) → names_result u s ≡ true → s ≡ source.Result (record { 0 = u })
named_is u (source.Constant w) e = false_true e
named_is u (source.Variable v) e = false_true e
named_is u (source.Result j) e = ap (λ n. source.Result (record { 0 = n })) (eqb-true j.0 u e)

now_is : (u : ℕ) (x : Operand) → is_result_now u x ≡ true → x.value ≡ source.Result (record { 0 = u })
now_is u x e = named_is u x.value (and_parts (is_result u x) (x.distance == 0) e).0

none_moved : (numbers_ : List ℕ) (guard : Option Operand) → option_map (moved numbers_) guard ≡ None → guard ≡ None
none_moved numbers_ None e = refl
none_moved numbers_ (Some x) e = absurd cc

get_take_back : {A : Type 0} (xs : List A) (n k : ℕ) (x : A) → k < n → slice_get xs k ≡ Some x → slice_get (take n xs) k ≡ Some x
get_take_back [] n k x h e = none_some e
get_take_back (y ∷ ys) zero k x h e = absurd (omega (arith, h))
get_take_back (y ∷ ys) (suc n) zero x h e = e
get_take_back (y ∷ ys) (suc n) (suc k) x h e = get_take_back ys n k x (omega (arith, h)) e

-- an operation that can take in another one takes in one
took : (scope : Scope) (ops : List OpTree) (choices : List (Option Taking)) (u : ℕ) (one two : OpTree) (f g : Simple) (a b : Operand) → two.args ≡ a ∷ b ∷ [] → list_any (is_result_now u) (a ∷ b ∷ []) ≡ true
    → slice_get ops u ≡ Some one → slice_get choices u ≡ Some None → is_pair scope u one (length choices) two ≡ true → simple_of one.kind ≡ Some f → simple_of two.kind ≡ Some g → (t : Taking) × (choice scope ops choices two ≡ Some t)
took scope ops choices u one two f g a b args named at free pair first second = by_first (is_result_now u a) refl named where
  through : (left : Bool) → taking scope left u (slice_get ops u) (slice_get choices u) (length choices) two ≡ Some (record { op = u; pairing = record { first = f; second = g; left = left } })
  through left =
      ap₂ (λ x c. taking scope left u x c (length choices) two) at free
      ∙ (ap (λ t. if t then paired u left (simple_of one.kind) (simple_of two.kind) else None) pair ∙ ap₂ (paired u left) first second)

  is_choice : choice scope ops choices two ≡ or_else (taking_by scope ops choices two true a.value) (taking_by scope ops choices two false b.value)
  is_choice = ap (λ xs. or_else (taking_through scope ops choices two true (slice_get xs 0)) (taking_through scope ops choices two false (slice_get xs 1))) args

  some_else : (x : Option Taking) (t : Taking) → (r : Taking) × (or_else x (Some t) ≡ Some r)
  some_else None t = (t, refl)
  some_else (Some x) t = (x, refl)

  by_second : is_result_now u b ≡ true → (t : Taking) × (choice scope ops choices two ≡ Some t)
  by_second e =
      let r = some_else (taking_by scope ops choices two true a.value) (record { op = u; pairing = record { first = f; second = g; left = false } }) in
      (r.0, is_choice ∙ (ap (or_else (taking_by scope ops choices two true a.value)) (ap (taking_by scope ops choices two false) (now_is u b e) ∙ through false) ∙ r.1))

  by_first : (d : Bool) → is_result_now u a ≡ d → (d || (is_result_now u b || false)) ≡ true → (t : Taking) × (choice scope ops choices two ≡ Some t)
  by_first true e h = (
    record { op = u; pairing = record { first = f; second = g; left = true } },
    is_choice ∙ ap (λ x. or_else x (taking_by scope ops choices two false b.value)) (ap (taking_by scope ops choices two true) (now_is u a e) ∙ through true),
  )
  by_first false e h = by_second (last (is_result_now u b) h) where
    last : (d : Bool) → (d || false) ≡ true → d ≡ true
    last true k = refl
    last false k = k

alone_none : (choices : List (Option Taking)) (n : ℕ) (c : Option Taking) → slice_get choices n ≡ Some c → ((t : Taking) → slice_get choices n ≡ Some (Some t) → ⊥) → slice_get choices n ≡ Some None
alone_none choices n None e f = e
alone_none choices n (Some t) e f = absurd (f t e)

-- ---- another operation that reads

other_reader : (u v : ℕ) (os : List OpTree) (two : OpTree) → slice_get os v ≡ Some two → reads u (op_operands two) < reads u (ops_operands os) → (w : ℕ) × (op : OpTree) × (w ≡ v → ⊥) × (slice_get os w ≡ Some op) × (1 ≤ reads u (op_operands op))
other_reader u v [] two at h = none_some at
other_reader u zero (x ∷ xs) two at h =
    let same = some_same at in
    let f = reads_append u (op_operands x) (ops_operands xs) in
    let g = ap (λ y. reads u (op_operands y)) same in
    let r = any_reader xs (omega (arith, f, g, h)) in (suc r.0, r.1, λ e. absurd (omega (arith, e)), r.2, r.3)
  where
    any_reader : (ys : List OpTree) → 1 ≤ reads u (ops_operands ys) → (w : ℕ) × (op : OpTree) × (slice_get ys w ≡ Some op) × (1 ≤ reads u (op_operands op))
    any_reader [] k = absurd (omega (arith, k))
    any_reader (y ∷ ys) k = elim (cases_lt 0 (reads u (op_operands y))) [
      | inl less ↦ (0, y, refl, omega (arith, less))
      | inr past ↦ (let f = reads_append u (op_operands y) (ops_operands ys) in let r = any_reader ys (omega (arith, f, past, k)) in (suc r.0, r.1, r.2, r.3))
    ]
other_reader u (suc v) (x ∷ xs) two at h =
    elim (cases_lt 0 (reads u (op_operands x))) [
      | inl less ↦ (0, x, λ e. absurd (omega (arith, e)), refl, omega (arith, less))
      | inr past ↦
          (let f = reads_append u (op_operands x) (ops_operands xs) in
          let r = other_reader u v xs two at (omega (arith, f, past, h)) in (suc r.0, r.1, λ e. r.2 (omega (arith, e)), r.3, r.4))
    ]

module _ (period : ℕ) (marks : List Bool) (node : NodeTree) (forward : NodeForward node) where
  abbrev scope : Scope
  scope = scope_of period marks node

  abbrev ops : List OpTree
  ops = (body_in node).ops

  abbrev cs : List (Option Taking)
  cs = chosen scope ops [] ops

  abbrev made_ : Made
  made_ = made_by ops cs

  suits : Suits ops cs
  suits = node_suits period marks node forward

  -- ---- operations that stay as they are

  record Plain (k : ℕ) (x : OpTree) : Type 0 where
    pub n : ℕ
    pub op : OpTree
    pub at : slice_get ops n ≡ Some op
    pub kept : is_taken cs n ≡ false
    pub place : k ≡ size ops cs n
    pub is_it : x ≡ moved_op (numbers ops cs n) op
    pub all : AllKept ops cs n (op_operands op)
    pub alone : (t : Taking) → slice_get cs n ≡ Some (Some t) → ⊥

  plain_came : (k : ℕ) (x : OpTree) (f : Simple) → simple_of x.kind ≡ Some f → Came ops cs k x → Plain k x
  plain_came k x f kind c = by_choice (slice_get cs c.n) refl c.is_it (subst (OpSuits ops cs c.n c.op (slice_get cs c.n)) c.kept (suits c.n c.op c.at)) where
    by_choice : (choice_ : Option (Option Taking)) → slice_get cs c.n ≡ choice_ → x ≡ new_op ops (numbers ops cs c.n) c.op choice_ → OpSuits ops cs c.n c.op (slice_get cs c.n) false → Plain k x
    by_choice (Some (Some t)) e g h = none_some (ap (λ (y : OpTree). simple_of y.kind) (sym g) ∙ kind)
    by_choice (Some None) e g h =
        record { n = c.n; op = c.op; at = c.at; kept = c.kept; place = c.place; is_it = g; all = subst (λ z. OpSuits ops cs c.n c.op z false) e h; alone = λ t z. none_some (some_same (sym e ∙ z)) }
    by_choice None e g h =
        record { n = c.n; op = c.op; at = c.at; kept = c.kept; place = c.place; is_it = g; all = subst (λ z. OpSuits ops cs c.n c.op z false) e h; alone = λ t z. none_some (sym e ∙ z) }

  -- ---- reads after fusing

  module _ (u : ℕ) (one : OpTree) (at : slice_get ops u ≡ Some one) (free : is_taken cs u ≡ false) where
    reads_moved : (xs : List Operand) → AllKept ops cs (length ops) xs → reads (size ops cs u) (map (moved made_.now) xs) ≡ reads u xs
    reads_moved [] k = refl
    reads_moved (x ∷ xs) k = ap₂ (λ b n. if b then suc n else n) (moved_named ops cs suits u one x.value at free k.0) (reads_moved xs k.1)

    reads_at_place : (z : ℕ) (op : OpTree) (xs : List Operand) → slice_get ops z ≡ Some op → AllKept ops cs z xs → reads (size ops cs u) (map (moved (numbers ops cs z)) xs) ≡ reads u xs
    reads_at_place z op xs there k =
        ap (reads (size ops cs u)) (all_moved_same ops cs z op xs there k) ∙ reads_moved xs (later ops cs suits z xs (slice_get_within ops z op there) k)

    operands_moved : (numbers_ : List ℕ) (op : OpTree) → op_operands (moved_op numbers_ op) ≡ map (moved numbers_) (op_operands op)
    operands_moved numbers_ op = by_guard op.guard where
      by_guard : (guard : Option Operand) → map (moved numbers_) op.args ++ option_to_list (option_map (moved numbers_) guard) ≡ map (moved numbers_) (op.args ++ option_to_list guard)
      by_guard None = sym (map-append (moved numbers_) op.args [])
      by_guard (Some x) = sym (map-append (moved numbers_) op.args (x ∷ []))

    plain_reads : (z : ℕ) (op : OpTree) → slice_get ops z ≡ Some op → AllKept ops cs z (op_operands op) → reads (size ops cs u) (op_operands (moved_op (numbers ops cs z) op)) ≡ reads u (op_operands op)
    plain_reads z op there k = ap (reads (size ops cs u)) (operands_moved (numbers ops cs z) op) ∙ reads_at_place z op (op_operands op) there k

    abbrev other_of : Bool → Operand → Operand → Operand
    other_of left a b = if left then b else a

    joined_is : (t : Taking) (first two : OpTree) (x y a b : Operand) → slice_get ops t.op ≡ Some first → first.args ≡ x ∷ y ∷ [] → two.args ≡ a ∷ b ∷ []
        → joined t.pairing.left (args_of (slice_get ops t.op)) two.args ≡ x ∷ y ∷ other_of t.pairing.left a b ∷ []
    joined_is t first two x y a b there e f =
        ap₂ (λ q ys. joined t.pairing.left (args_of q) ys) there f ∙ (ap (λ xs. joined t.pairing.left xs (a ∷ b ∷ [])) e ∙ by_side t.pairing.left)
      where
        by_side : (left : Bool) → joined left (x ∷ y ∷ []) (a ∷ b ∷ []) ≡ x ∷ y ∷ other_of left a b ∷ []
        by_side true = refl
        by_side false = refl

    earlier : (n z : ℕ) (s : Source) → n < z → Kept ops cs n s → Kept ops cs z s
    earlier n z (source.Constant w) h k = tt
    earlier n z (source.Variable v) h k = tt
    earlier n z (source.Result j) h k = (let e = k.0 in omega (arith, e, h), k.1)

    other_kept : (left : Bool) (taken_ z : ℕ) (a b : Operand) → SidesFit ops cs left taken_ z a.value b.value → Kept ops cs z (other_of left a b).value
    other_kept true taken_ z a b k = k.1
    other_kept false taken_ z a b k = k.1

    fused_reads : (z : ℕ) (two : OpTree) (t : Taking) → slice_get ops z ≡ Some two → (k : TakesIn ops cs z two t)
        → reads (size ops cs u) (op_operands (fused_op ops (numbers ops cs z) two t)) ≡ reads u (k.x ∷ k.y ∷ other_of t.pairing.left k.a k.b ∷ [])
    fused_reads z two t there k =
        let c = other_of t.pairing.left k.a k.b in
        let xs = k.x ∷ k.y ∷ c ∷ [] in
        ap (reads (size ops cs u)) (append-nil (map (moved (numbers ops cs z)) (joined t.pairing.left (args_of (slice_get ops t.op)) two.args)))
        ∙ (ap (λ l. reads (size ops cs u) (map (moved (numbers ops cs z)) l)) (joined_is t k.one two k.x k.y k.a k.b k.at k.taken.args k.args)
        ∙ reads_at_place z two xs there (earlier t.op z k.x.value k.below k.taken.first, (earlier t.op z k.y.value k.below k.taken.second, (other_kept t.pairing.left t.op z k.a k.b k.sides, tt))))

    -- what an operation of the old body reads, some operation of the new body reads, which is not this one
    record Reader (v : ℕ) : Type 0 where
      pub z : ℕ
      pub old : OpTree
      pub new_ : OpTree
      pub apart : z ≡ v → ⊥
      pub there : slice_get ops z ≡ Some old
      pub kept : is_taken cs z ≡ false
      pub stands : slice_get made_.ops (size ops cs z) ≡ Some new_
      pub reads_it : 1 ≤ reads (size ops cs u) (op_operands new_)

    -- an operation that takes in another one is not taken in
    taker_kept : (z : ℕ) (t : Taking) → slice_get cs z ≡ Some (Some t) → is_taken cs z ≡ false
    taker_kept z t e = by_test (is_taken cs z) refl where
      by_test : (b : Bool) → is_taken cs z ≡ b → is_taken cs z ≡ false
      by_test false f = f
      by_test true f =
          let k = taker_of scope ops (others node) (ops_forward node forward) (counts node) z f in
          let g = (get_take cs k.v z None (subst (λ n. slice_get (take k.v cs) n ≡ Some None) k.it.op k.it.chose_.free)).1 in
          none_some (some_same (sym g ∙ e))

    takes_of : (z : ℕ) (two : OpTree) (t : Taking) → slice_get ops z ≡ Some two → slice_get cs z ≡ Some (Some t) → TakesIn ops cs z two t
    takes_of z two t there e = subst (λ b. OpSuits ops cs z two (Some (Some t)) b) (taker_kept z t e) (subst (λ c. OpSuits ops cs z two c (is_taken cs z)) e (suits z two there))

    fused_reader : (v z : ℕ) (two : OpTree) (t : Taking) → (z ≡ v → ⊥) → (there : slice_get ops z ≡ Some two) (e : slice_get cs z ≡ Some (Some t))
        → 1 ≤ reads u ((takes_of z two t there e).x ∷ (takes_of z two t there e).y ∷ other_of t.pairing.left (takes_of z two t there e).a (takes_of z two t there e).b ∷ []) → Reader v
    fused_reader v z two t apart there e h = record {
      z = z;
      old = two;
      new_ = fused_op ops (numbers ops cs z) two t;
      apart = apart;
      there = there;
      kept = taker_kept z t e;
      stands = new_at ops cs z two there (taker_kept z t e) ∙ ap (λ c. Some (new_op ops (numbers ops cs z) two c)) e;
      reads_it = let f = fused_reads z two t there (takes_of z two t there e) in omega (arith, f, h);
    }

    -- the side that is taken in does not read an operation that is kept
    side_reads : (left : Bool) (j z : ℕ) (a b : Operand) → is_taken cs j ≡ true → SidesFit ops cs left j z a.value b.value → reads u (a ∷ b ∷ []) ≡ reads u (other_of left a b ∷ [])
    side_reads left j z a b taken_ k = by_side left k where
      unread : (x : Operand) → x.value ≡ source.Result (record { 0 = j }) → is_result u x ≡ false
      unread x e = ap (names_result u) e ∙ ne_eqb j u (λ same. absurd (let f = sym free ∙ (ap (is_taken cs) (sym same) ∙ taken_) in false_true f))

      by_side : (side : Bool) → SidesFit ops cs side j z a.value b.value → reads u (a ∷ b ∷ []) ≡ reads u (other_of side a b ∷ [])
      by_side true q = ap (λ t. if t then suc (reads u (b ∷ [])) else reads u (b ∷ [])) (unread a q.0)
      by_side false q = ap (λ n. if is_result u a then suc n else n) (ap (λ t. if t then suc zero else zero) (unread b q.0))

    new_reader : (v w : ℕ) (op : OpTree) → ((t : Taking) → slice_get cs v ≡ Some (Some t) → ⊥) → (w ≡ v → ⊥) → slice_get ops w ≡ Some op → 1 ≤ reads u (op_operands op) → Reader v
    new_reader v w op alone apart there h = by_taken (is_taken cs w) (slice_get cs w) refl refl where
      by_plain : (c : Option (Option Taking)) → is_taken cs w ≡ false → slice_get cs w ≡ c → new_op ops (numbers ops cs w) op c ≡ moved_op (numbers ops cs w) op → AllKept ops cs w (op_operands op) → Reader v
      by_plain c f g same k = record {
        z = w;
        old = op;
        new_ = moved_op (numbers ops cs w) op;
        apart = apart;
        there = there;
        kept = f;
        stands = new_at ops cs w op there f ∙ ap (λ x. Some x) (ap (new_op ops (numbers ops cs w) op) g ∙ same);
        reads_it = let e = plain_reads w op there k in omega (arith, e, h);
      }

      suited : (b : Bool) (c : Option (Option Taking)) → is_taken cs w ≡ b → slice_get cs w ≡ c → OpSuits ops cs w op c b
      suited b c f g = subst (λ z. OpSuits ops cs w op c z) f (subst (λ z. OpSuits ops cs w op z (is_taken cs w)) g (suits w op there))

      by_takes : (t : Taking) → slice_get cs w ≡ Some (Some t) → Reader v
      by_takes t g =
          let k = takes_of w op t there g in
          let c = other_of t.pairing.left k.a k.b in
          let a = ap (λ xs. reads u (xs ++ option_to_list op.guard)) k.args in
          let b = ap (λ y. reads u ((k.a ∷ k.b ∷ []) ++ option_to_list y)) k.guard in
          let d = side_reads t.pairing.left t.op w k.a k.b (taken_by cs w t g) k.sides in
          let e = reads_append u (k.x ∷ k.y ∷ []) (c ∷ []) in
          fused_reader v w op t apart there g (omega (arith, a, b, d, e, h))

      by_in : is_taken cs w ≡ true → Reader v
      by_in f =
          let q = taker_of scope ops (others node) (ops_forward node forward) (counts node) w f in
          let two = q.it.two in
          let k = takes_of q.v two q.t q.it.at q.it.chosen_ in
          let c = other_of q.t.pairing.left k.a k.b in
          let same : k.one ≡ op = some_same (sym (subst (λ n. slice_get ops n ≡ Some k.one) q.it.op k.at) ∙ there) in
          let a = ap (λ xs. reads u (xs ++ option_to_list k.one.guard)) k.taken.args in
          let b = ap (λ y. reads u ((k.x ∷ k.y ∷ []) ++ option_to_list y)) k.taken.guard in
          let d = ap (λ y. reads u (op_operands y)) same in
          let e = reads_append u (k.x ∷ k.y ∷ []) (c ∷ []) in
          fused_reader v q.v two q.t (λ z. alone q.t (subst (λ n. slice_get cs n ≡ Some (Some q.t)) z q.it.chosen_)) q.it.at q.it.chosen_ (omega (arith, a, b, d, e, h))

      by_taken : (b : Bool) (c : Option (Option Taking)) → is_taken cs w ≡ b → slice_get cs w ≡ c → Reader v
      by_taken true c f g = by_in f
      by_taken false (Some (Some t)) f g = by_takes t g
      by_taken false (Some None) f g = by_plain (Some None) f g refl (suited false (Some None) f g)
      by_taken false None f g = by_plain None f g refl (suited false None f g)

    -- An operation that is read twice, once by an operation that stays, is read twice after fusing.
    twice : (v : ℕ) (two : OpTree) → slice_get ops v ≡ Some two → is_taken cs v ≡ false → ((t : Taking) → slice_get cs v ≡ Some (Some t) → ⊥) → AllKept ops cs v (op_operands two) → 1 ≤ reads u (op_operands two)
        → 2 ≤ reads u (ops_operands ops) + reads u (others node) → 2 ≤ reads (size ops cs u) (ops_operands made_.ops) + reads (size ops cs u) (map (moved made_.now) (others node))
    twice v two there kept alone all once h =
        let x = moved_op (numbers ops cs v) two in
        let at_v : slice_get made_.ops (size ops cs v) ≡ Some x = new_at ops cs v two there kept ∙ ap (λ y. Some y) (stays (slice_get cs v) refl) in
        let same = plain_reads v two there all in
        let one_ = reads_at (size ops cs u) (size ops cs v) made_.ops x at_v in
        let rest = reads_moved (others node) (node_others period marks node forward) in
        let lower = reads_at u v ops two there in
        elim (cases_lt 1 (reads u (op_operands two))) [
          | inl more ↦ omega (arith, same, one_, more)
          | inr single ↦ elim (cases_lt 0 (reads u (others node))) [
            | inl some_ ↦ omega (arith, same, one_, rest, some_, once)
            | inr none ↦
                (let r = other_reader u v ops two there (omega (arith, single, none, h, lower)) in
                let q = new_reader v r.0 r.1 alone r.2 r.3 r.4 in
                let both = reads_two (size ops cs u) (size ops cs q.z) (size ops cs v) made_.ops q.new_ x (λ e. q.apart (different ops cs q.z v q.old two q.there there q.kept kept e)) q.stands at_v in
                let f = q.reads_it in omega (arith, same, both, f, once))
          ]
        ]
      where
        stays : (c : Option (Option Taking)) → slice_get cs v ≡ c → new_op ops (numbers ops cs v) two (slice_get cs v) ≡ moved_op (numbers ops cs v) two
        stays None e = ap (new_op ops (numbers ops cs v) two) e
        stays (Some None) e = ap (new_op ops (numbers ops cs v) two) e
        stays (Some (Some t)) e = absurd (alone t e)

  -- ---- the new node

  others_moved : (x : NodeTree) (m : Made) → others (node_with x m) ≡ map (moved m.now) (others x)
  others_moved (plain p b e) m =
      ap₂ (λ l r. l ++ r) (body_moved b.outs b.test) (end_moved e) ∙ sym (map-append (moved m.now) (out_operands b.outs ++ option_to_list b.test) (end_operands e))
    where
      outs_moved : (outs : List Out) → out_operands (map (moved_out m.now) outs) ≡ map (moved m.now) (out_operands outs)
      outs_moved [] = refl
      outs_moved (y ∷ ys) = ap (λ l. moved m.now y.value ∷ l) (outs_moved ys)

      list_moved : (y : Option Operand) → option_to_list (option_map (moved m.now) y) ≡ map (moved m.now) (option_to_list y)
      list_moved None = refl
      list_moved (Some y) = refl

      body_moved : (outs : List Out) (test : Option Operand) → out_operands (map (moved_out m.now) outs) ++ option_to_list (option_map (moved m.now) test) ≡ map (moved m.now) (out_operands outs ++ option_to_list test)
      body_moved outs test = ap₂ (λ l r. l ++ r) (outs_moved outs) (list_moved test) ∙ sym (map-append (moved m.now) (out_operands outs) (option_to_list test))

      cases_moved : (cases : List (Operand × ℕ)) → map (λ c. c.0) (map (moved_case m.now) cases) ≡ map (moved m.now) (map (λ c. c.0) cases)
      cases_moved [] = refl
      cases_moved (c ∷ cases) = ap (λ l. moved m.now c.0 ∷ l) (cases_moved cases)

      end_moved : (f : EndTree) → end_operands (moved_end m.now f) ≡ map (moved m.now) (end_operands f)
      end_moved (jumps target) = refl
      end_moved (branches test yes_ no_) = refl
      end_moved (chooses cases other) = cases_moved cases
      end_moved (returns value) = list_moved value
  others_moved (looped p b next) m = ap₂ (λ l r. l ++ r) (outs_moved b.outs) (list_moved b.test) ∙ sym (map-append (moved m.now) (out_operands b.outs) (option_to_list b.test)) where
    outs_moved : (outs : List Out) → out_operands (map (moved_out m.now) outs) ≡ map (moved m.now) (out_operands outs)
    outs_moved [] = refl
    outs_moved (y ∷ ys) = ap (λ l. moved m.now y.value ∷ l) (outs_moved ys)

    list_moved : (y : Option Operand) → option_to_list (option_map (moved m.now) y) ≡ map (moved m.now) (option_to_list y)
    list_moved None = refl
    list_moved (Some y) = refl

  abbrev after : NodeTree
  after = fused_node period marks node

  new_reads : (u : ℕ) → reads u (node_operands after) ≡ reads u (ops_operands made_.ops) + reads u (map (moved made_.now) (others node))
  new_reads u = counts after u ∙ ap₂ (λ xs ys. reads u (ops_operands xs) + reads u ys) (body_ops node made_) (others_moved node made_)

  named_before : (u v : ℕ) (xs : List Operand) → AllKept ops cs v xs → list_any (is_result_now u) xs ≡ true → u < v
  named_before u v [] k e = false_true e
  named_before u v (x ∷ xs) k e = by_test (is_result_now u x) refl e (λ f. named_before u v xs k.1 f) where
    here : is_result_now u x ≡ true → u < v
    here f = (subst (Kept ops cs v) (now_is u x f) k.0).0

    by_test : (b : Bool) → is_result_now u x ≡ b → (b || list_any (is_result_now u) xs) ≡ true → (list_any (is_result_now u) xs ≡ true → u < v) → u < v
    by_test true f g next = here f
    by_test false f g next = next g

  now_moved : (u : ℕ) (one : OpTree) (xs : List Operand) → slice_get ops u ≡ Some one → is_taken cs u ≡ false → AllKept ops cs (length ops) xs → list_any (is_result_now (size ops cs u)) (map (moved made_.now) xs) ≡ list_any (is_result_now u) xs
  now_moved u one [] at free k = refl
  now_moved u one (x ∷ xs) at free k =
      ap₂ (λ a b. a || b) (ap (λ t. t && (x.distance == 0)) (moved_named ops cs suits u one x.value at free k.0)) (now_moved u one xs at free k.1)

  unreached : (u k : ℕ) (one : OpTree) → slice_get ops u ≡ Some one → is_taken cs u ≡ false → k ≡ size ops cs u → reaches_none (body_hands marks (body_in after)) k ≡ true → reaches_none scope.handed u ≡ true
  unreached u k one at free place e =
      let s = hands_same period marks node forward marks (node_free period marks node forward) in
      ap not (sym (any_moved ops cs suits u one scope.handed at free s.kept)) ∙ (ap₂ (λ n xs. not (list_any (is_result n) xs)) (sym place) (sym s.same) ∙ e)

  contradicts : (k j : ℕ) (x y : OpTree) → slice_get made_.ops k ≡ Some x → slice_get made_.ops j ≡ Some y → is_pair (scope_of period marks after) k x j y ≡ true → ⊥
  contradicts k j x y at there pair =
      let parts = pair_parts (scope_of period marks after) k x j y pair in
      let kinds = fit_both period y.bits (simple_of x.kind) (simple_of y.kind) parts.fits in
      let p = plain_came k x kinds.0 kinds.2 (came ops cs k x at) in
      let q = plain_came j y kinds.1 kinds.3 (came ops cs j y there) in
      let args = all_left ops cs q.n q.op.args (option_to_list q.op.guard) q.all in
      let first : simple_of p.op.kind ≡ Some kinds.0 = ap (λ (z : OpTree). simple_of z.kind) (sym p.is_it) ∙ kinds.2 in
      let second : simple_of q.op.kind ≡ Some kinds.1 = ap (λ (z : OpTree). simple_of z.kind) (sym q.is_it) ∙ kinds.3 in
      let read : list_any (is_result_now p.n) q.op.args ≡ true =
      sym (now_moved p.n p.op q.op.args p.at p.kept (later ops cs suits q.n q.op.args (slice_get_within ops q.n q.op q.at) args))
      ∙ (ap (list_any (is_result_now (size ops cs p.n))) (sym (all_moved_same ops cs q.n q.op q.op.args q.at args)) ∙ (ap₂ (λ n (z : OpTree). list_any (is_result_now n) z.args) (sym p.place) (sym q.is_it) ∙ parts.read)) in
      let reads_one = reads_some p.n q.op.args read in
      let more = reads_append p.n q.op.args (option_to_list q.op.guard) in
      let least : 1 ≤ reads p.n (op_operands q.op) = omega (arith, reads_one, more) in
      let once_new : reads (size ops cs p.n) (ops_operands made_.ops) + reads (size ops cs p.n) (map (moved made_.now) (others node)) ≡ 1 =
      sym (new_reads (size ops cs p.n)) ∙ (ap (λ n. reads n (node_operands after)) (sym p.place) ∙ parts.once) in
      let low = reads_at p.n q.n ops q.op q.at in
      let once : reads p.n scope.operands ≡ 1 = counts node p.n ∙ elim (cases_lt 1 (reads p.n (ops_operands ops) + reads p.n (others node))) [
        | inl over ↦ absurd (let t = twice p.n p.op p.at p.kept q.n q.op q.at q.kept q.alone q.all least (omega (arith, over)) in omega (arith, t, once_new))
        | inr under ↦ omega (arith, under, least, low)
      ] in
      let is_old = pair_from scope p.n p.op q.n q.op (record {
        bits = ap (λ (z : OpTree). z.bits) (sym p.is_it) ∙ (parts.bits ∙ ap (λ (z : OpTree). z.bits) q.is_it);
        first_guard = none_moved (numbers ops cs p.n) p.op.guard (ap (λ (z : OpTree). z.guard) (sym p.is_it) ∙ parts.first_guard);
        second_guard = none_moved (numbers ops cs q.n) q.op.guard (ap (λ (z : OpTree). z.guard) (sym q.is_it) ∙ parts.second_guard);
        fits = ap₂ (λ (a b : OpTree). fit period b.bits (simple_of a.kind) (simple_of b.kind)) (sym p.is_it) (sym q.is_it) ∙ parts.fits;
        once = once;
        read = read;
        first_none = unreached p.n k p.op p.at p.kept p.place parts.first_none;
        second_none = unreached q.n j q.op q.at q.kept q.place parts.second_none;
      }) in
      let count = chosen_count scope ops [] ops in
      let in_u : p.n < length cs = (let e = slice_get_within ops p.n p.op p.at in omega (arith, count, e)) in
      let in_v : q.n < length cs = (let e = slice_get_within ops q.n q.op q.at in omega (arith, count, e)) in
      let none : slice_get cs p.n ≡ Some None = alone_none cs p.n (get_or cs p.n None) (slice_get-get_or cs p.n None in_u) p.alone in
      let lower = named_before p.n q.n q.op.args args read in
      let h = forward_at zero ops q.n q.op (ops_forward node forward) q.at in
      let two = two_args (simple_of q.op.kind) kinds.1 q.op.args second h.1 in
      let taken_ = took scope ops (take q.n cs) p.n p.op q.op kinds.0 kinds.1 two.0 two.1 two.2 (ap (list_any (is_result_now p.n)) (sym two.2) ∙ read) p.at (get_take_back cs q.n p.n None lower none)
      (subst (λ n. is_pair scope p.n p.op n q.op ≡ true) (sym (take_count cs q.n in_v)) is_old) first second in
      q.alone taken_.0 (chosen_at scope ops q.n q.op q.at ∙ ap (λ z. Some z) taken_.1)

  pub no_pair : (k j : ℕ) → is_fusable period marks after k j ≡ false
  no_pair k j = by_test (is_fusable period marks after k j) refl where
    by_test : (b : Bool) → is_fusable period marks after k j ≡ b → is_fusable period marks after k j ≡ false
    by_test false e = e
    by_test true e =
        let r = both_there (scope_of period marks after) k j (slice_get (body_in after).ops k) (slice_get (body_in after).ops j) e in
        absurd (contradicts k j r.one r.two (ap (λ l. slice_get l k) (sym (body_ops node made_)) ∙ r.first) (ap (λ l. slice_get l j) (sym (body_ops node made_)) ∙ r.second) r.pair)

-- ---- all nodes

forward_node : (nodes : List NodeTree) (i : ℕ) (node : NodeTree) → NodesForward nodes → slice_get nodes i ≡ Some node → NodeForward node
forward_node [] i node h e = none_some e
forward_node (x ∷ xs) zero node h e = subst NodeForward (some_same e) h.0
forward_node (x ∷ xs) (suc i) node h e = forward_node xs i node h.1 e

mapped : (F : NodeTree → NodeTree) (nodes : List NodeTree) (i : ℕ) (node : NodeTree) → slice_get (map F nodes) i ≡ Some node → (old : NodeTree) × (slice_get nodes i ≡ Some old) × (F old ≡ node)
mapped F [] i node e = none_some e
mapped F (x ∷ xs) zero node e = (x, refl, some_same e)
mapped F (x ∷ xs) (suc i) node e = mapped F xs i node e

pub none_left : FusingLeavesNoPair
none_left period variables nodes forward i node at u v =
    let marks = reaching variables nodes in
    let r = mapped (fused_node (suc period) marks) nodes i node at in
    ap₂ (λ m x. is_fusable (suc period) m x u v) (reaching_same (suc period) variables nodes forward) (sym r.2) ∙ no_pair (suc period) marks r.0 (forward_node nodes i r.0 forward r.1) u v
