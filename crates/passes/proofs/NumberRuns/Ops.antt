-- The operations of a numbered block do what those of the block do.
use Rattle.std.proofs.Common.{◌≡◌, ◌∙◌, ◌≤◌, ℕ, suc, ◌+◌, Bool, true, false, ◌&&◌, refl, ap, sym, subst, arith, List, [], ◌∷◌, ◌++◌, append_assoc, map, length, length-append, Option, Some, None}
use Rattle.std.specs.Prelude.{slice_get, get_or}
use Rattle.ir_core.specs.declared.body.OpKind.TheVariants as o
use Rattle.ir_core.specs.declared.body.Operand.{Operand}
use Rattle.ir_core.specs.declared.body.Out.{Out}
use Rattle.ir_core.specs.Timing.{result_bits}
use Rattle.ir_core.specs.Value.{value, is_defined}
use Rattle.hls_base.specs.Valued.{Valued, is, faulty, and_then}
use Rattle.ir_core.specs.Bodies.{OpTree, Shapes, Words, Performed, performed, Ranged, operand, is_allowed, first_bits, bits_in, fault, fault_if, effect, perform, operations}
use Rattle.passes.specs.Numbering.Constants.{word_in, computed, computed_on}
use Rattle.passes.specs.Numbering as n
use Rattle.passes.specs.Numbering.{Value, Scope, Kept, Numbered, constant, result_of, renamed, renamed_op, ops_of, is_common, earlier, with_out, with_value, with_earlier, with_word, makes_out, numbered_op, numbered_ops}
use Rattle.passes.proofs.Equalities.{Alike, equal_alike}
use Rattle.passes.proofs.Growing.{with_out_stays}
use Rattle.passes.specs.NumberRuns.Ordered.{IsEarly, AreEarly, IsEarlyIfThere, HasItsOperands, OpIsOrdered, OpsAreOrdered}
use Rattle.passes.proofs.NumberRuns.Lists.{left_of, map_more}
use Rattle.passes.proofs.NumberRuns.Operands.{renamed_same, args_same, allowed_same, renamed_early, first_bits_same, renamed_bits, words_apart}
use Rattle.passes.proofs.NumberRuns.Meanings.{defined_performs, performs_defined, performs_stays, performs_same, is_widen, widens, from_free, no_constant, computes, alike_defined, alike_value, alike_first_bits}
use Rattle.passes.proofs.NumberRuns.Finding.{Earlier, earlier_found}
use Rattle.passes.proofs.NumberRuns.Steps.{Known, counted, gone, stays}

-- ---- the operations that a step adds

abbrev pub adds_earlier : OpTree → Option ℕ → List OpTree
adds_earlier op (Some j) = []
adds_earlier op None = op ∷ []

abbrev pub adds_word : Bool → Numbered → OpTree → Bool → Option ℕ → List OpTree
adds_word apart s op is_out (Some w) = []
adds_word apart s op is_out None = adds_earlier op (earlier (apart && is_out) op s.ops)

abbrev pub adds : Scope → List Out → Numbered → OpTree → List OpTree
adds scope outs s op =
    adds_word scope.apart s (renamed_op s.values op) (makes_out outs (length s.values))
    (computed (renamed_op s.values op) (n.first_bits scope.widths s.values op.bits op.args))

abbrev pub added : Scope → List Out → Numbered → List OpTree → List OpTree
added scope outs s [] = []
added scope outs s (op ∷ ops) = adds scope outs s op ++ added scope outs (numbered_op scope outs s op) ops

-- ---- what comes of operations

-- the same words, and what stands for each operand holds the same
abbrev pub Related : List Value → Valued Ranged → Valued Ranged → Type 0
Related values (is r) (is q) = (r.words ≡ q.words) × ((x : Operand) → IsEarly (length values) x.value → operand r.words r.results x ≡ operand r.words q.results (renamed values x))
Related values (faulty rule at) (faulty other place) = (rule ≡ other) × (at ≡ place)
Related values p q = ⊥

module _ (shapes : Shapes) (apart : Bool) (outs : List Out) (ops new : List OpTree) (variables : ℕ → ℕ) where
  abbrev scope : Scope
  scope = record { widths = shapes.widths; apart = apart }

  abbrev Runs : List OpTree → Type 0
  Runs rest = (s : Numbered) (results others : List ℕ) (t : Words) → Known shapes.widths ops new variables s results others → t.variables ≡ variables
      → OpsAreOrdered (length results) rest → ((k : ℕ) → slice_get ops (length results + k) ≡ slice_get rest k) → new ≡ ops_of s.ops ++ added scope outs s rest
      → Related (numbered_ops scope outs s rest).values (operations shapes ops rest results t) (operations shapes new (added scope outs s rest) others t)

  module _ (op : OpTree) (rest : List OpTree) (further : Runs rest) (s : Numbered) (results others : List ℕ) (t : Words) (known : Known shapes.widths ops new variables s results others) (same_variables : t.variables ≡ variables)
      (ordered : OpIsOrdered (length results) op) (rest_ordered : OpsAreOrdered (length results + 1) rest) (at : (k : ℕ) → slice_get ops (length results + k) ≡ slice_get (op ∷ rest) k) where
    abbrev after : OpTree
    after = renamed_op s.values op

    abbrev from : ℕ
    from = n.first_bits shapes.widths s.values op.bits op.args

    abbrev new_from : ℕ
    new_from = first_bits shapes.widths new after after.args

    abbrev args : List ℕ
    args = map (operand t others) after.args

    abbrev allowed : Bool
    allowed = is_allowed t others after.guard

    early : AreEarly (length s.values) op.args
    early = subst (λ k. AreEarly k op.args) (sym known.count) ordered.args

    here : slice_get ops (length results) ≡ Some op
    here = let e : length results + 0 ≡ length results = omega arith in ap (slice_get ops) (sym e) ∙ at 0

    abbrev performs_from : ℕ → Valued Performed
    performs_from m = fault_if allowed op.flag (fault shapes after args) (effect shapes after after.kind allowed m args t)

    performs_before : perform shapes ops op results t ≡ performs_from from
    performs_before =
        let p = args_same ops (ops_of s.ops) results others s.values known.stand t op.args early in
        let a = allowed_same ops (ops_of s.ops) results others s.values known.stand t op.guard (subst (λ k. IsEarlyIfThere k op.guard) (sym known.count) ordered.guard) in
        let f = first_bits_same ops (ops_of s.ops) results others s.values known.stand shapes.widths op op.args early in
        λ i. fault_if (a i) op.flag (fault shapes after (p i)) (effect shapes after after.kind (a i) (f i) (p i) t)

    -- ---- going on behind the operation

    next_ordered : (r : ℕ) → OpsAreOrdered (length (results ++ r ∷ [])) rest
    next_ordered r = subst (λ k. OpsAreOrdered k rest) (sym (length-append results (r ∷ []))) rest_ordered

    next_at : (r : ℕ) (k : ℕ) → slice_get ops (length (results ++ r ∷ []) + k) ≡ slice_get rest k
    next_at r k =
        let h = length-append results (r ∷ []) in
        let e : length (results ++ r ∷ []) + k ≡ length results + suc k = omega (arith, h) in
        ap (slice_get ops) e ∙ at (suc k)

    bits_here : (d : ℕ) → bits_in (slice_get ops (length results)) d ≡ result_bits op.kind op.bits
    bits_here d = ap (λ c. bits_in c d) here

    abbrev behind : Valued Performed → Valued Ranged
    behind q = and_then q (λ p. operations shapes ops rest (results ++ p.result ∷ []) p.words)

    -- ---- an operation that is computed

    by_constant : (w : ℕ) → computed after from ≡ Some w → new ≡ ops_of s.ops ++ added scope outs (with_value s s.ops after (constant w)) rest
        → Related (numbered_ops scope outs (with_value s s.ops after (constant w)) rest).values (operations shapes ops (op ∷ rest) results t) (operations shapes new (added scope outs (with_value s s.ops after (constant w)) rest) others t)
    by_constant w e whole =
        let c = computes after from w t others e in
        let done = performs_before ∙ defined_performs shapes after allowed from args t c.common c.defined ∙ ap (λ v. is (performed v t)) c.gives in
        subst (λ q. Related (numbered_ops scope outs (with_value s s.ops after (constant w)) rest).values (behind q) (operations shapes new (added scope outs (with_value s s.ops after (constant w)) rest) others t)) (sym done)
        (further (with_value s s.ops after (constant w)) (results ++ w ∷ []) others t
        (gone shapes.widths ops new variables s results others known s.ops refl w (record { operand = constant w; bits = result_bits op.kind op.bits }) (λ u. refl) bits_here tt)
        same_variables (next_ordered w) (next_at w) whole)

    -- ---- an operation that is not computed: the width of its first operand is kept where it counts

    module _ (not_computed : computed after from ≡ None) (begins : (j : ℕ) (k : OpTree) → slice_get (ops_of s.ops) j ≡ Some k → slice_get new j ≡ Some k) where
      widened_bits : op.kind ≡ o.Widen → (xs : List Operand) → length xs ≤ 1 → AreEarly (length s.values) xs
          → computed_on after from (word_in (slice_get (map (renamed s.values) xs) 0)) (word_in (slice_get (map (renamed s.values) xs) 1)) (word_in (slice_get (map (renamed s.values) xs) 2)) ≡ None
          → n.first_bits shapes.widths s.values op.bits xs ≡ first_bits shapes.widths new after (map (renamed s.values) xs)
      widened_bits e [] le h c = refl
      widened_bits e (x ∷ []) le h c =
          renamed_bits ops (ops_of s.ops) results others s.values known.stand new begins shapes.widths op.bits x h.0 (no_constant after from (renamed s.values x) e c)
      widened_bits e (x ∷ y ∷ xs) le h c = absurd (omega (arith, le))

      value_kept : (w : Bool) → is_widen op.kind ≡ w → value op.kind op.signed op.bits from args ≡ value op.kind op.signed op.bits new_from args
      value_kept false e = from_free op.kind op.signed op.bits from new_from args e
      value_kept true e =
          let k = widens op.kind e in
          ap (λ m. value op.kind op.signed op.bits m args) (widened_bits k op.args (subst (λ kind. HasItsOperands kind op.args) k ordered.operands) early not_computed)

      kept_value : value op.kind op.signed op.bits from args ≡ value op.kind op.signed op.bits new_from args
      kept_value = value_kept (is_widen op.kind) refl

      -- ---- it becomes one with an earlier one

      by_other : (j : ℕ) → Earlier after (ops_of s.ops) j → perform shapes ops op results t ≡ is (performed (get_or others j 0) t)
      by_other j found =
          let other = found.joins.other in
          let alike = equal_alike after other found.joins.equal in
          let keeps = known.keep j other found.joins.at in
          let gives = keeps.gives found.joins.open_ (subst (λ k. is_common k ≡ true) alike.kind found.common) t same_variables in
          let defined = alike_defined after other alike t others ∙ gives.0 in
          let bits = alike_first_bits shapes.widths new after other alike.bits after.args other.args alike.first in
          performs_before ∙ defined_performs shapes after allowed from args t found.common defined
          ∙ ap (λ v. is (performed v t)) (kept_value ∙ alike_value after other alike t others new_from (first_bits shapes.widths new other other.args) bits ∙ gives.1)

      abbrev joined_next : Bool → ℕ → Numbered
      joined_next is_out j = with_value s (with_out is_out s.ops j) after (result_of j)

      by_earlier : (is_out : Bool) (j : ℕ) → Earlier after (ops_of s.ops) j → new ≡ ops_of s.ops ++ added scope outs (joined_next is_out j) rest
          → Related (numbered_ops scope outs (joined_next is_out j) rest).values (operations shapes ops (op ∷ rest) results t) (operations shapes new (added scope outs (joined_next is_out j) rest) others t)
      by_earlier is_out j found whole =
          let other = found.joins.other in
          let alike = equal_alike after other found.joins.equal in
          let w = get_or others j 0 in
          let v : Value = record { operand = result_of j; bits = result_bits op.kind op.bits } in
          let stays_so = with_out_stays is_out s.ops j in
          subst (λ q. Related (numbered_ops scope outs (joined_next is_out j) rest).values (behind q) (operations shapes new (added scope outs (joined_next is_out j) rest) others t)) (sym (by_other j found))
          (further (joined_next is_out j) (results ++ w ∷ []) others t
          (gone shapes.widths ops new variables s results others known (with_out is_out s.ops j) stays_so w v (λ u. refl) bits_here (other, found.joins.at, sym (same_bits alike)))
          same_variables (next_ordered w) (next_at w) (whole ∙ ap (λ l. l ++ added scope outs (joined_next is_out j) rest) (sym stays_so))) where
            same_bits : {x : OpTree} → Alike after x → result_bits op.kind op.bits ≡ result_bits x.kind x.bits
            same_bits a = λ i. result_bits (a.kind i) (a.bits i)

      -- ---- it stays

      abbrev kept_next : Bool → Numbered
      kept_next is_out = with_value s (s.ops ++ record { op = after; makes_out = is_out } ∷ []) after (result_of (length s.ops))

      performs_after : perform shapes ops op results t ≡ perform shapes new after others t
      performs_after = performs_before ∙ performs_same shapes after allowed from new_from args t kept_value

      early_after : AreEarly (length others) after.args
      early_after = renamed_early ops (ops_of s.ops) results others s.values known.stand (counted shapes.widths ops new variables s results others known) op.args early

      gives_after : (p : Performed) → performs_from new_from ≡ is p → after.guard ≡ None → is_common after.kind ≡ true → (u : Words) → u.variables ≡ variables
          → (is_defined after.kind after.signed after.bits (map (operand u others) after.args) ≡ true) × (value after.kind after.signed after.bits new_from (map (operand u others) after.args) ≡ p.result)
      gives_after p e open_ common u h =
          let a = ap (is_allowed t others) open_ in
          let d = performs_defined shapes after new_from args t p common ordered.flag (ap (λ b. fault_if b op.flag (fault shapes after args) (effect shapes after after.kind b new_from args t)) (sym a) ∙ e) in
          let q = words_apart u t others after.args (h ∙ sym same_variables) in
          (ap (λ l. is_defined after.kind after.signed after.bits l) q ∙ d.0, ap (λ l. value after.kind after.signed after.bits new_from l) q ∙ d.1)

      by_result : (is_out : Bool) → new ≡ ops_of (kept_next is_out).ops ++ added scope outs (kept_next is_out) rest → (q : Valued Performed) → performs_from new_from ≡ q
          → Related (numbered_ops scope outs (kept_next is_out) rest).values (behind q) (and_then q (λ p. operations shapes new (added scope outs (kept_next is_out) rest) (others ++ p.result ∷ []) p.words))
      by_result is_out whole (faulty rule place) e = (refl, refl)
      by_result is_out whole (is p) e =
          further (kept_next is_out) (results ++ p.result ∷ []) (others ++ p.result ∷ []) p.words
          (stays shapes.widths ops new variables s results others known after is_out p.result bits_here early_after (gives_after p e))
          (performs_stays shapes after allowed new_from args t p e ∙ same_variables) (next_ordered p.result) (next_at p.result) whole

      by_itself : (is_out : Bool) → new ≡ ops_of (kept_next is_out).ops ++ added scope outs (kept_next is_out) rest
          → Related (numbered_ops scope outs (kept_next is_out) rest).values (operations shapes ops (op ∷ rest) results t) (operations shapes new (after ∷ added scope outs (kept_next is_out) rest) others t)
      by_itself is_out whole =
          subst (λ q. Related (numbered_ops scope outs (kept_next is_out) rest).values (behind q) (operations shapes new (after ∷ added scope outs (kept_next is_out) rest) others t)) (sym performs_after)
          (by_result is_out whole (performs_from new_from) refl)

      abbrev Does : Bool → Option ℕ → Type 0
      Does is_out d = new ≡ ops_of s.ops ++ (adds_earlier after d ++ added scope outs (with_earlier s after is_out d) rest)
          → Related (numbered_ops scope outs (with_earlier s after is_out d) rest).values (operations shapes ops (op ∷ rest) results t) (operations shapes new (adds_earlier after d ++ added scope outs (with_earlier s after is_out d) rest) others t)

      not_constant : (is_out : Bool) (d : Option ℕ) → earlier (apart && is_out) after s.ops ≡ d → Does is_out d
      not_constant is_out (Some j) e whole = by_earlier is_out j (earlier_found (apart && is_out) after s.ops j e) whole
      not_constant is_out None e whole =
          by_itself is_out (whole ∙ sym (append_assoc (ops_of s.ops) (after ∷ []) (added scope outs (kept_next is_out) rest))
          ∙ ap (λ l. l ++ added scope outs (kept_next is_out) rest) (sym (map_more (λ (k : Kept). k.op) s.ops (record { op = after; makes_out = is_out }))))

    -- ---- the operation, and those behind it

    begins_new : (more : List OpTree) → new ≡ ops_of s.ops ++ more → (j : ℕ) (k : OpTree) → slice_get (ops_of s.ops) j ≡ Some k → slice_get new j ≡ Some k
    begins_new more whole j k e = ap (λ l. slice_get l j) whole ∙ left_of (ops_of s.ops) more j k e

    by_word : (is_out : Bool) (c : Option ℕ) → computed after from ≡ c → new ≡ ops_of s.ops ++ (adds_word apart s after is_out c ++ added scope outs (with_word apart s after is_out c) rest)
        → Related (numbered_ops scope outs (with_word apart s after is_out c) rest).values (operations shapes ops (op ∷ rest) results t)
        (operations shapes new (adds_word apart s after is_out c ++ added scope outs (with_word apart s after is_out c) rest) others t)
    by_word is_out (Some w) e whole = by_constant w e whole
    by_word is_out None e whole =
        not_constant e (begins_new (adds_word apart s after is_out None ++ added scope outs (with_word apart s after is_out None) rest) whole) is_out (earlier (apart && is_out) after s.ops) refl whole

  pub runs : (rest : List OpTree) → Runs rest
  runs [] s results others t known e ordered at whole = (refl, λ x h. renamed_same ops (ops_of s.ops) results others s.values known.stand t x h)
  runs (op ∷ rest) s results others t known e ordered at whole =
      by_word op rest (runs rest) s results others t known e ordered.0 ordered.1 at (makes_out outs (length s.values))
      (computed (renamed_op s.values op) (n.first_bits shapes.widths s.values op.bits op.args)) refl whole
