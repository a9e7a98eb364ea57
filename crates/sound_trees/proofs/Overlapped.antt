-- The body of a loop that is overlapped is sound.
use Rattle.std.specs.Prelude.{◌==◌, ◌≢◌, slice_get, nat_lt, if◌then◌else◌}
use Rattle.std.proofs.Common.{◌≡◌, ◌∙◌, ◌<◌, ◌≤◌, inl, inr, ℕ, zero, suc, Bool, true, false, ◌||◌, refl, ap, sym, subst, arith, List, [], ◌∷◌, ◌++◌, map, length, length-append, Option, Some, None}
use Rattle.std.proofs.lemmas.Bool.{ltb-true, ltb-false}
use Rattle.hls_base.specs.declared.number.OpId.{OpId}
use Rattle.hls_base.specs.declared.number.VarId.{VarId}
use Rattle.ir_core.specs.declared.body.OpKind.TheVariants as o
use Rattle.ir_core.specs.declared.body.Operand.{Operand}
use Rattle.ir_core.specs.declared.body.Out.{Out}
use Rattle.ir_core.specs.declared.body.Source.{Source}
use Rattle.ir_core.specs.declared.body.Source.TheVariants as source
use Rattle.ir_core.specs.Bodies.{OpTree, Shapes}
use Rattle.ir_core.specs.Trees.{branch, BlockTree, SequenceTree, sequence, PartTrees, no_part, more_parts, ShapeTree, fork, loop, switch, land, overlapped}
use Rattle.ir_core.specs.TreeRuns.{tested_by}
use Rattle.passes.specs.Conversion.Outs.{entry_value, held_or, held, is_set, with_outs}
use Rattle.passes.specs.Conversion.Merging.{Branches, branches_of, opened, joined, first_of}
use Rattle.passes.specs.Conversion.Overlapping.{is_test, carried_from, carried, carried_op, carried_out, iteration}
use Rattle.passes.specs.Conversion.{Scope, going_on, part_before, behind, converted_sequence, converted_behind}
use Rattle.pass_runs.specs.ConvertRuns.Blocks.{Once}
use Rattle.pass_runs.specs.ConvertRuns.Typed.{IsEarly, ExitIsTyped}
use Rattle.pass_runs.proofs.ConvertRuns.Finding.{no_fork_found}
use Rattle.pass_runs.proofs.ConvertRuns.Joining.{has_early, all_sound}
use Rattle.pass_runs.proofs.ConvertRuns.Merged.{start_sound}
use Rattle.pass_runs.proofs.ConvertRuns.Opening.{turned_number, itself_number, same_number, left_false, right_false}
use Rattle.pass_runs.proofs.ConvertRuns.Tests.{sets_nothing}
use Rattle.dep_graph.specs.Offsets as graph
use Rattle.dep_graph.specs.Offsets.{maker}
use Rattle.clock_runs.specs.Premises.{Each, IsOperandAs, IsOperand, NamesResult, AreApart}
use Rattle.sound_trees.specs.Ready.{IsNear, OutsAreNear, ExitIsNear, IsChecked, OpsAreReady, BlockIsReady}
use Rattle.sound_trees.proofs.Renamed.{length_map}
use Rattle.sound_trees.specs.Loops.{TestsAlone, AreComputed, BodyIsSound}
use Rattle.sound_trees.proofs.Merged.{opened_ready, joined_ready}
use Rattle.sound_trees.proofs.ConvertedOwn.{Owns, same_name}
use Rattle.sound_trees.proofs.JoinedOwn.{overlapped_owns}
use Rattle.sound_trees.proofs.Sound.{mapped_at, ops_sound}

true_false : {A : Type 0} → true ≡ false → A
true_false e = cc

some_same : {A : Type 0} {x y : A} → Some x ≡ Some y → x ≡ y
some_same e = cc

none_some : {A B : Type 0} {x : A} → None ≡ Some x → B
none_some e = cc

-- ---- operands of earlier iterations

same_value : (outs : List Out) (x : Operand) → (carried outs x).value ≡ x.value
same_value outs x = at x.value refl where
  by : (v : VarId) → x.value ≡ source.Variable v → (c : Bool) → (if c then record x { distance = 1 } else x).value ≡ x.value
  by v e true = refl
  by v e false = refl

  at : (t : Source) → x.value ≡ t → (carried_from outs x t).value ≡ x.value
  at (source.Constant w) e = refl
  at (source.Variable v) e = by v e (is_set outs v)
  at (source.Result i) e = refl

-- a result is of the same iteration
result_stays : (outs : List Out) (x : Operand) (op : OpId) → x.value ≡ source.Result op → carried outs x ≡ x
result_stays outs x op e = ap (carried_from outs x) e

maker_set : (outs xs : List Out) (v : VarId) (d : Operand) (op : OpId) → is_set xs v ≡ true → (held_or xs v d).value ≡ source.Result op → maker (map (carried_out outs) xs) v.0 ≡ Some op
maker_set outs [] v d op s e = true_false (sym s)
maker_set outs (x ∷ xs) v d op s e = by (v.0 == x.variable.0) refl (λ a b. maker_set outs xs v d op a b) where
  by : (c : Bool) → (v.0 == x.variable.0) ≡ c → (is_set xs v ≡ true → (held_or xs v d).value ≡ source.Result op → maker (map (carried_out outs) xs) v.0 ≡ Some op) → (if x.variable.0 == v.0 then graph.result_of (carried outs x.value).value else maker (map (carried_out outs) xs) v.0) ≡ Some op
  by true q further =
      ap (λ c. if c then graph.result_of (carried outs x.value).value else maker (map (carried_out outs) xs) v.0) (turned_number x.variable.0 v.0 ∙ q)
      ∙ ap graph.result_of (same_value outs x.value ∙ sym (ap (λ c. (if c then x.value else held_or xs v d).value) q) ∙ e)
  by false q further =
      ap (λ c. if c then graph.result_of (carried outs x.value).value else maker (map (carried_out outs) xs) v.0) (turned_number x.variable.0 v.0 ∙ q)
      ∙ further (sym (ap (λ c. c || is_set xs v) q) ∙ s) (sym (ap (λ c. (if c then x.value else held_or xs v d).value) q) ∙ e)

maker_unset : (outs xs : List Out) (v : VarId) → is_set xs v ≡ false → maker (map (carried_out outs) xs) v.0 ≡ None
maker_unset outs [] v e = refl
maker_unset outs (x ∷ xs) v e =
    ap (λ c. if c then graph.result_of (carried outs x.value).value else maker (map (carried_out outs) xs) v.0) (turned_number x.variable.0 v.0 ∙ left_false (v.0 == x.variable.0) (is_set xs v) e)
    ∙ maker_unset outs xs v (right_false (v.0 == x.variable.0) (is_set xs v) e)

-- where each variable stands once, it holds what its out names
held_at : (xs : List Out) (i : ℕ) (x : Out) (d : Operand) → Once xs → slice_get xs i ≡ Some x → (is_set xs x.variable ≡ true) × (held_or xs x.variable d ≡ x.value)
held_at [] i x d h e = none_some e
held_at (y ∷ xs) zero x d h e = subst (λ (z : Out). (is_set (y ∷ xs) z.variable ≡ true) × (held_or (y ∷ xs) z.variable d ≡ z.value)) (some_same e) (ap (λ c. c || is_set xs y.variable) (itself_number y.variable.0), ap (λ c. if c then y.value else held_or xs y.variable d) (itself_number y.variable.0))
held_at (y ∷ xs) (suc i) x d h e = let q = held_at xs i x d h.1 e in by (x.variable.0 == y.variable.0) refl q where
  by : (c : Bool) → (x.variable.0 == y.variable.0) ≡ c → (is_set xs x.variable ≡ true) × (held_or xs x.variable d ≡ x.value) → (is_set (y ∷ xs) x.variable ≡ true) × (held_or (y ∷ xs) x.variable d ≡ x.value)
  by true k q =
      let p : is_set xs x.variable ≡ false = ap (is_set xs) (same_name x.variable y.variable (same_number x.variable.0 y.variable.0 k)) ∙ h.0 in
      true_false (sym q.0 ∙ p)
  by false k q = (ap (λ c. c || is_set xs x.variable) k ∙ q.0, ap (λ c. if c then y.value else held_or xs x.variable d) k ∙ q.1)

near_at : (xs : List Out) (i : ℕ) (x : Out) → OutsAreNear xs → slice_get xs i ≡ Some x → IsNear x.value
near_at [] i x h e = none_some e
near_at (y ∷ xs) zero x h e = subst (λ (z : Out). IsNear z.value) (some_same e) h.0
near_at (y ∷ xs) (suc i) x h e = near_at xs i x h.1 e

each_of : {A : Type 0} (P : A → Type 0) (xs : List A) → ((i : ℕ) (x : A) → slice_get xs i ≡ Some x → P x) → Each P xs
each_of P [] h = tt
each_of P (x ∷ xs) h = (h zero x refl, each_of P xs (λ i y e. h (suc i) y e))

-- ---- a block of results, each variable's own

module _ (shapes : Shapes) (words : List ℕ) (b : BlockTree) (h : BlockIsReady shapes words true b) (own : Owns (λ v. false) (λ v. true) b) where
  abbrev outs : List Out
  outs = map (carried_out b.outs) b.outs

  operand_fits : (k : ℕ) (x : Operand) → IsNear x → IsEarly k x.value → IsOperand outs k (carried b.outs x)
  operand_fits k x n l = at x.value refl l where
    by : (v : VarId) (c : Bool) → is_set b.outs v ≡ c → x.value ≡ source.Variable v → IsOperand outs k (if c then record x { distance = 1 } else x)
    by v true s e =
        let z = own.named v s refl in
        subst (λ t. IsOperandAs (map (carried_out b.outs) b.outs) k t 1) (sym e) (inr (refl, (z.0, maker_set b.outs b.outs v (entry_value v) z.0 s z.1)))
    by v false s e = subst (λ t. IsOperandAs (map (carried_out b.outs) b.outs) k t x.distance) (sym e) (inl (n, maker_unset b.outs b.outs v s))

    at : (t : Source) → x.value ≡ t → IsEarly k t → IsOperand outs k (carried_from b.outs x t)
    at (source.Constant w) e q = subst (λ t. IsOperandAs (map (carried_out b.outs) b.outs) k t x.distance) (sym e) tt
    at (source.Variable v) e q = by v (is_set b.outs v) refl e
    at (source.Result i) e q = subst (λ t. IsOperandAs (map (carried_out b.outs) b.outs) k t x.distance) (sym e) (n, q)

  -- what an out of the block names
  record IsResult (x : Out) : Type 0 where
    op : OpId
    names : x.value.value ≡ source.Result op
    early : op.0 < length b.ops
    near : IsNear x.value
    set_ : is_set b.outs x.variable ≡ true
    holds : (held b.outs x.variable).value ≡ x.value.value

  result_at : (i : ℕ) (x : Out) → slice_get b.outs i ≡ Some x → IsResult x
  result_at i x e =
      let q = held_at b.outs i x (entry_value x.variable) h.once e in
      let z = own.named x.variable q.0 refl in
      let v = ap (λ (y : Operand). y.value) q.1 in
      record { op = z.0; names = sym v ∙ z.1; early = z.2; near = near_at b.outs i x h.outs e; set_ = q.0; holds = v }

  names_result : (n : ℕ) → length b.ops ≡ n → (x : Out) → IsResult x → NamesResult n (carried_out b.outs x)
  names_result n l x r =
      let a = r.early in
      (r.op, (same_value b.outs x.value ∙ r.names, ap (λ (y : Operand). y.distance) (result_stays b.outs x.value r.op r.names) ∙ r.near, omega (arith, a, l)))

  apart_from : (x : Out) → IsResult x → (xs : List Out) → ((i : ℕ) (y : Out) → slice_get xs i ≡ Some y → IsResult y) → is_set xs x.variable ≡ false
      → Each (λ (y : Out). (y.variable.0 ≢ x.variable.0) × (y.value.value ≢ (carried b.outs x.value).value)) (map (carried_out b.outs) xs)
  apart_from x r [] f s = tt
  apart_from x r (y ∷ xs) f s =
      let ry = f zero y refl in
      let ne : y.variable.0 ≢ x.variable.0 = λ q. true_false (sym (ap (λ k. x.variable.0 == k) q ∙ itself_number x.variable.0) ∙ left_false (x.variable.0 == y.variable.0) (is_set xs x.variable) s) in (
        (ne, λ q. own.apart y.variable x.variable ne ry.set_ r.set_ refl refl (ry.holds ∙ sym (same_value b.outs y.value) ∙ q ∙ same_value b.outs x.value ∙ sym r.holds)),
        apart_from x r xs (λ i z e. f (suc i) z e) (right_false (x.variable.0 == y.variable.0) (is_set xs x.variable) s),
      )

  all_apart : (xs : List Out) → ((i : ℕ) (y : Out) → slice_get xs i ≡ Some y → IsResult y) → Once xs → AreApart (map (carried_out b.outs) xs)
  all_apart [] f o1 = tt
  all_apart (x ∷ xs) f o1 = (apart_from x (f zero x refl) xs (λ i z e. f (suc i) z e) o1.0, all_apart xs (λ i z e. f (suc i) z e) o1.1)

  -- the same as an iteration, where this operand is its test and nothing is stored before it
  pub iteration_sound : (test : Operand) → IsNear test → IsEarly (length b.ops) test.value → ((k : ℕ) (op : OpTree) → slice_get b.ops k ≡ Some op → op.kind ≡ o.Store → tested_by test.value ≤ k) → BodyIsSound shapes (iteration test b)
  iteration_sound test n l stores = record {
    ops = ops_sound shapes words outs (carried b.outs) (same_value b.outs) operand_fits b.ops h.typed.ops h.ops;
    outs = each_of (NamesResult (length (map (carried_op b.outs) b.ops))) (map (carried_out b.outs) b.outs)
        (λ i y e. let x = mapped_at (carried_out b.outs) b.outs i y e in subst (NamesResult (length (map (carried_op b.outs) b.ops))) x.2 (names_result (length (map (carried_op b.outs) b.ops)) count x.0 (result_at i x.0 x.1)));
    apart = all_apart b.outs result_at h.once;
    test = operand_fits (length (map (carried_op b.outs) b.ops)) test n (subst (λ k. IsEarly k test.value) count l);
    stores = λ k op e q.
        let x = mapped_at (carried_op b.outs) b.ops k op e in
        subst (λ t. tested_by t ≤ k) (sym (same_value b.outs test)) (stores k x.0 x.1 (ap (λ (y : OpTree). y.kind) x.2 ∙ q));
  } where
    count : length b.ops ≡ length (map (carried_op b.outs) b.ops)
    count = sym (length_map (carried_op b.outs) b.ops)

-- ---- the test

tested_within : (n : ℕ) (s : Source) → IsEarly n s → tested_by s ≤ n
tested_within n (source.Constant w) h = omega arith
tested_within n (source.Variable v) h = omega arith
tested_within n (source.Result i) h = omega (arith, h)

-- what stores nothing has no store
no_store : (shapes : Shapes) (words : List ℕ) (before ops : List OpTree) (k : ℕ) (op : OpTree) → OpsAreReady shapes words false before ops → slice_get ops k ≡ Some op → op.kind ≡ o.Store → ⊥
no_store shapes words before [] k op h e q = none_some e
no_store shapes words before (x ∷ ops) zero op h e q =
    let r = subst (IsChecked shapes words false before x) (ap (λ (y : OpTree). y.kind) (some_same e) ∙ q) h.0.kind in true_false (sym r.0)
no_store shapes words before (x ∷ ops) (suc k) op h e q = no_store shapes words (before ++ x ∷ []) ops k op h.1 e q

shorter_at : (xs ys : List OpTree) (k : ℕ) (op : OpTree) → slice_get (xs ++ ys) k ≡ Some op → k < length xs → slice_get xs k ≡ Some op
shorter_at [] ys k op e l = absurd (omega (arith, l))
shorter_at (x ∷ xs) ys zero op e l = e
shorter_at (x ∷ xs) ys (suc k) op e l = shorter_at xs ys k op e (omega (arith, l))

abbrev has_parts : SequenceTree → Bool
has_parts (sequence first no_part) = false
has_parts (sequence first (more_parts shape after rest)) = true

before_parts : (b : BlockTree) (shape : ShapeTree) (blocks : SequenceTree) → has_parts (sequence b (part_before shape blocks)) ≡ true
before_parts b shape (sequence first rest) = refl

alone_parts : (s : SequenceTree) → s ≡ sequence (first_of s) no_part → has_parts s ≡ false
alone_parts s e = ap has_parts e

module _ (shapes : Shapes) (words : List ℕ) (loops : Bool) where
  abbrev scope : Scope
  scope = record { widths = shapes.widths; loops = loops }

  -- the end of a call stays between blocks
  land_parts : (b after : BlockTree) (number : _) (rest : PartTrees) (x : Option Branches) → branches_of b.exit (land number) ≡ x → has_parts (behind b (land number) x (converted_behind scope (going_on shapes.widths b x after) rest)) ≡ true
  land_parts b after number rest None e = before_parts b (land number) (converted_behind scope (opened after) rest)
  land_parts b after number rest (Some f) e = absurd (no_fork_found b.exit (land number) f tt e)

  pub head_ready : (t : SequenceTree) → TestsAlone shapes words t → converted_sequence (record { widths = shapes.widths; loops = loops }) t ≡ sequence (first_of (converted_sequence (record { widths = shapes.widths; loops = loops }) t)) no_part
      → BlockIsReady shapes words false (first_of (converted_sequence (record { widths = shapes.widths; loops = loops }) t))
  head_ready (sequence first no_part) h a = opened_ready shapes words false first h
  head_ready (sequence first (more_parts (land number) after rest)) h a =
      true_false (sym (land_parts (opened first) after number rest (branches_of first.exit (land number)) refl) ∙ alone_parts (converted_sequence scope (sequence first (more_parts (land number) after rest))) a)
  head_ready (sequence first (more_parts (fork yes_ no_ c) after rest)) h a = absurd h
  head_ready (sequence first (more_parts (loop post t b s e) after rest)) h a = absurd h
  head_ready (sequence first (more_parts (switch dead targets other arms) after rest)) h a = absurd h
  head_ready (sequence first (more_parts (overlapped point body) after rest)) h a = absurd h

  -- a body behind a test that sets nothing
  pub overlapped_sound : (head body : BlockTree) (known : Operand) → BlockIsReady shapes words false head → BlockIsReady shapes words true head → head.exit ≡ branch known → is_test head known ≡ true
      → BlockIsReady shapes words true body → AreComputed body.ops → Owns (λ v. false) (λ v. true) body → BodyIsSound shapes (iteration known (joined shapes.widths (opened head) body))
  overlapped_sound head body known quiet h exit is_test_ b c own =
      let none = sets_nothing head known is_test_ in
      let bare : BlockTree = record head { outs = [] } in
      let same : bare ≡ opened head = λ i. record head { outs = bare_outs none i } in
      subst (λ (x : BlockTree). BodyIsSound shapes (iteration known (joined shapes.widths x body))) same bare_sound where
        bare_outs : head.outs ≡ [] → [] ≡ with_outs [] head.outs
        bare_outs e = sym (ap (with_outs []) e)

        bare_ready : BlockIsReady shapes words true (record head { outs = [] })
        bare_ready = record { typed = record { ops = h.typed.ops; outs = tt; exit = h.typed.exit }; once = tt; ops = h.ops; outs = tt; exit = h.exit }

        begins : (more : List OpTree) × ((joined shapes.widths (record head { outs = [] }) body).ops ≡ head.ops ++ more)
        begins =
            (all_sound shapes.widths words [] None head.ops body.ops [] (record { ops = head.ops; values = []; guards = [] }) (start_sound shapes.widths words [] None head.ops [] h.typed.ops tt tt (λ own x e. absurd cc)) b.typed.ops).begins

        near_known : IsNear known
        near_known = subst ExitIsNear exit h.exit

        early_known : IsEarly (length head.ops) known.value
        early_known = has_early shapes.widths words head.ops 1 known.value (subst (ExitIsTyped shapes.widths words head.ops) exit h.typed.exit)

        later_known : (t : Source) (m n : ℕ) → m ≤ n → IsEarly m t → IsEarly n t
        later_known (source.Constant w) m n l e = tt
        later_known (source.Variable v) m n l e = tt
        later_known (source.Result i) m n l e = omega (arith, l, e)

        bare_sound : BodyIsSound shapes (iteration known (joined shapes.widths (record head { outs = [] }) body))
        bare_sound =
            let l = length-append head.ops begins.0 in
            let m = ap length begins.1 in
            iteration_sound shapes words (joined shapes.widths (record head { outs = [] }) body) (joined_ready shapes words (record head { outs = [] }) body bare_ready b) (overlapped_owns shapes words head body b c own) known near_known
            (later_known known.value (length head.ops) (length (joined shapes.widths (record head { outs = [] }) body).ops) (omega (arith, l, m)) early_known)
            (λ k op at q. by_place k op at q (nat_lt k (length head.ops)) refl)
          where
            by_place : (k : ℕ) (op : OpTree) → slice_get (joined shapes.widths (record head { outs = [] }) body).ops k ≡ Some op → op.kind ≡ o.Store → (c1 : Bool) → nat_lt k (length head.ops) ≡ c1 → tested_by known.value ≤ k
            by_place k op at q true w = absurd (no_store shapes words [] head.ops k op quiet.ops (shorter_at head.ops begins.0 k op (sym (ap (λ l1. slice_get l1 k) begins.1) ∙ at) (ltb-true k (length head.ops) w)) q)
            by_place k op at q false w = let g = ltb-false k (length head.ops) w in let n = tested_within (length head.ops) known.value early_known in omega (arith, g, n)
