-- What is joined to a valid block is valid.
use Rattle.std.specs.Prelude.{slice_get, if◌then◌else◌}
use Rattle.std.specs.Option.{option_map, option_eq}
use Rattle.std.proofs.Common.{◌≡◌, ◌∙◌, ◌<◌, ◌⊎◌, inl, inr, ℕ, Bool, true, false, refl, ap, sym, subst, arith, List, [], ◌∷◌, ◌++◌, append_assoc, append-nil, map, length, length-append, Option, Some, None, is_some}
use Rattle.ir_core.specs.declared.body.OpKind.{OpKind}
use Rattle.ir_core.specs.declared.body.OpKind.TheVariants as o
use Rattle.ir_core.specs.declared.body.Operand.{Operand}
use Rattle.ir_core.specs.declared.body.Out.{Out}
use Rattle.ir_core.specs.declared.body.Source.{Source}
use Rattle.ir_core.specs.declared.body.Source.TheVariants as source
use Rattle.ir_core.specs.Value.{count_of, value}
use Rattle.ir_core.specs.Timing.{result_bits}
use Rattle.ir_core.specs.Bodies.{OpTree}
use Rattle.ir_core.specs.Trees.{ExitTree, next, branch, choose, break_, continue_, leave}
use Rattle.passes.specs.Numbering.Equal.{operand_eq}
use Rattle.passes.specs.Numbering as n
use Rattle.passes.specs.Numbering.{Value, constant, result_of, operand_or}
use Rattle.passes.specs.Conversion.Outs.{held}
use Rattle.passes.specs.Conversion.Joining.{Guard, Joined, standing_for, renamed, renamed_op, renamed_out, renamed_exit, plain, bit_for, or_constant, bit_in, with_guard, with_taken, with_both, with_bit, needs_guard, with_op, guarded, staying, is_conversion, converted, first_word, by_word, joined_op, joined_ops}
use Rattle.pass_runs.specs.ConvertRuns.Typed.{HasBits}
use Rattle.pass_runs.proofs.ConvertRuns.Lists.{there, within, last_or}
use Rattle.pass_runs.proofs.ConvertRuns.Fitting.{is_access, value_fits}
use Rattle.pass_runs.proofs.ConvertRuns.Joining.{bit_grows}
use Rattle.valid_trees.specs.Shapes.{FrameShape, words_in}
use Rattle.valid_trees.specs.Operands.{IsOperand, IsOperandIf}
use Rattle.valid_trees.specs.Operations.{OpIsValid}
use Rattle.valid_trees.specs.Bodies.{OpsAreValid, OutsAreValid, ExitIsValid}
use Rattle.valid_trees.proofs.ValidNumbering.Adding.{ops_more, operand_more, next_operand, outs_more}
use Rattle.valid_trees.proofs.ValidNumbering.Renamed as r
use Rattle.valid_trees.proofs.ValidConversion.Outs.{entry_is}

some_same : {A : Type 0} {x y : A} → Some x ≡ Some y → x ≡ y
some_same e = cc

some_none : {A B : Type 0} {x : A} → Some x ≡ None → B
some_none e = cc

none_some : {A B : Type 0} {x : A} → None ≡ Some x → B
none_some e = cc

-- ---- bits of guards

bit_last : (gs : List Guard) (g : Guard) (own : Option Operand) (b : Operand) → bit_for (gs ++ g ∷ []) own ≡ Some b → (bit_for gs own ≡ Some b) ⊎ (g.bit ≡ b)
bit_last [] g own b e = by (option_eq operand_eq own g.own) e where
  by : (c : Bool) → (if c then Some g.bit else None) ≡ Some b → (bit_for [] own ≡ Some b) ⊎ (g.bit ≡ b)
  by true h = inr (some_same h)
  by false h = none_some h
bit_last (x ∷ gs) g own b e = by (option_eq operand_eq own x.own) (bit_last gs g own b) e where
  by : (c : Bool) → (bit_for (gs ++ g ∷ []) own ≡ Some b → (bit_for gs own ≡ Some b) ⊎ (g.bit ≡ b)) → (if c then Some x.bit else bit_for (gs ++ g ∷ []) own) ≡ Some b → ((if c then Some x.bit else bit_for gs own) ≡ Some b) ⊎ (g.bit ≡ b)
  by true further h = inl h
  by false further h = further h

-- ---- conversions of constants

conversion_plain : (kind : OpKind) → is_conversion kind ≡ true → is_access kind ≡ false
conversion_plain o.Load e = absurd cc
conversion_plain o.Store e = absurd cc
conversion_plain kind e = refl

word_fits : (op : OpTree) (from : ℕ) (x : Option ℕ) (w : ℕ) → converted op from x ≡ Some w → w < count_of (result_bits op.kind op.bits)
word_fits op from None w e = none_some e
word_fits op from (Some y) w e = by (is_conversion op.kind) refl e where
  by : (c : Bool) → is_conversion op.kind ≡ c → (if c then Some (value op.kind op.signed op.bits from (y ∷ [])) else None) ≡ Some w → w < count_of (result_bits op.kind op.bits)
  by true k q = subst (λ j. j < count_of (result_bits op.kind op.bits)) (some_same q) (value_fits op.kind op.signed op.bits from (y ∷ []) (conversion_plain op.kind k))
  by false k q = none_some q

-- a conversion that stays is not of a constant
stays_open : (op : OpTree) (from : ℕ) (x : Option ℕ) → converted op from x ≡ None → is_conversion op.kind ≡ true → x ≡ None
stays_open op from None e k = refl
stays_open op from (Some y) e k = some_none (sym (ap (λ c. if c then Some (value op.kind op.signed op.bits from (y ∷ [])) else None) k) ∙ e)

module _ (frame : FrameShape) where
  abbrev Is : List OpTree → ℕ → Operand → Type 0
  Is = IsOperand frame []

  abbrev Has : List OpTree → ℕ → Source → Type 0
  Has = HasBits frame.widths (words_in frame)

  -- behind the operations and outs of a block, in a branch of a fork with this test
  module _ (base : List OpTree) (outs_ : List Out) (test : Option Operand) (outs_here : OutsAreValid frame [] base outs_) (test_here : IsOperandIf frame [] base 1 test) where
    -- the operations with those of a block that are joined so far
    pub record Joins (done ops : List OpTree) (values : List Value) (guards : List Guard) : Type 0 where
      pub begins : (more : List OpTree) × (ops ≡ base ++ more)
      pub valid : OpsAreValid frame [] [] ops
      pub count : length values ≡ length done
      pub has : (j : ℕ) (op : OpTree) (v : Value) → slice_get done j ≡ Some op → slice_get values j ≡ Some v → Is ops (result_bits op.kind op.bits) v.operand
      pub bits : (own : Option Operand) (b : Operand) → bit_for guards own ≡ Some b → Is ops 1 b

    abbrev pub IsJoined : List OpTree → Joined → Type 0
    IsJoined done s = Joins done s.ops s.values s.guards

    module _ (done ops : List OpTree) (values : List Value) (guards : List Guard) (h : Joins done ops values guards) where
      pub raised : (n : ℕ) (x : Operand) → Is base n x → Is ops n x
      raised n x k = subst (λ l. Is l n x) (sym h.begins.1) (operand_more frame [] base h.begins.0 n x k)

      pub raised_outs : (xs : List Out) → OutsAreValid frame [] base xs → OutsAreValid frame [] ops xs
      raised_outs xs k = subst (λ l. OutsAreValid frame [] l xs) (sym h.begins.1) (outs_more frame [] base h.begins.0 xs k)

      -- ---- what stands for operands

      renamed_is : (x : Operand) (n : ℕ) → Is done n x → Is ops n (renamed outs_ values x)
      renamed_is x n z = by x.value refl where
        by : (s : Source) → x.value ≡ s → Is ops n (standing_for outs_ values x s)
        by (source.Constant w) e = record { has = subst (Has ops n) (sym e) (subst (Has done n) e z.has); distance = z.distance }
        by (source.Variable v) e = raised n (held outs_ v) (entry_is frame base outs_ outs_here v n (subst (Has done n) e z.has))
        by (source.Result i) e =
            let k = subst (Has done n) e z.has in
            let l = within done i.0 k.0 k.1 in
            let c = h.count in
            let v = there values i.0 (omega (arith, l, c)) in
            subst (λ y. Is ops n (operand_or y x)) (sym v.1) (subst (λ m. Is ops m v.0.operand) k.2 (h.has i.0 k.0 v.0 k.1 v.1))

      fixed : (x : Operand) (w : ℕ) → x.value ≡ source.Constant w → (renamed outs_ values x).value ≡ source.Constant w
      fixed x w e = ap (λ s. (standing_for outs_ values x s).value) e ∙ e

      guard_renamed : (x : Option Operand) → IsOperandIf frame [] done 1 x → IsOperandIf frame [] ops 1 (option_map (renamed outs_ values) x)
      guard_renamed x z = r.guard_renamed frame [] [] done ops (renamed outs_ values) renamed_is fixed 1 x z

      op_renamed : (op : OpTree) (g : Option Operand) → OpIsValid frame [] done op → IsOperandIf frame [] ops 1 g → (is_conversion op.kind ≡ true → first_word (map (renamed outs_ values) op.args) ≡ None)
          → OpIsValid frame [] ops (record (renamed_op outs_ values op) { guard = g })
      op_renamed op g z k e = r.valid_as frame [] [] done ops (renamed outs_ values) renamed_is fixed op g z k e

      pub outs_renamed : (xs : List Out) → OutsAreValid frame [] done xs → OutsAreValid frame [] ops (map (renamed_out outs_ values) xs)
      outs_renamed [] z = tt
      outs_renamed (x ∷ xs) z = (record { bits = z.0.bits; there = z.0.there; value = renamed_is x.value z.0.bits z.0.value }, outs_renamed xs z.1)

      pub exit_renamed : (e : ExitTree) → ExitIsValid frame done e → ExitIsValid frame ops (renamed_exit outs_ values e)
      exit_renamed next z = tt
      exit_renamed (branch x) z = renamed_is x 1 z
      exit_renamed (choose cases) z = r.all_renamed frame [] [] done ops (renamed outs_ values) renamed_is fixed 1 cases z
      exit_renamed break_ z = tt
      exit_renamed continue_ z = tt
      exit_renamed (leave number) z = tt

      bit_is : (own : Option Operand) → Is ops 1 (or_constant (bit_for guards own))
      bit_is own = by (bit_for guards own) refl where
        by : (x : Option Operand) → bit_for guards own ≡ x → Is ops 1 (or_constant x)
        by None e = record { has = omega arith; distance = refl }
        by (Some b) e = h.bits own b e

      -- ---- one operation more

      more_op : (op : OpTree) → OpIsValid frame [] ops op → Joins done (ops ++ op ∷ []) values guards
      more_op op k = record {
        begins = (h.begins.0 ++ op ∷ [], ap (λ l. l ++ op ∷ []) h.begins.1 ∙ append_assoc base h.begins.0 (op ∷ []));
        valid = ops_more frame [] [] ops op h.valid k;
        count = h.count;
        has = λ j p v e q. operand_more frame [] ops (op ∷ []) (result_bits p.kind p.bits) v.operand (h.has j p v e q);
        bits = λ own b e. operand_more frame [] ops (op ∷ []) 1 b (h.bits own b e);
      }

      more_guard : (g : Guard) → Is ops 1 g.bit → Joins done ops values (guards ++ g ∷ [])
      more_guard g k = record { begins = h.begins; valid = h.valid; count = h.count; has = h.has; bits = λ own b e. by own b (bit_last guards g own b e) } where
        by : (own : Option Operand) (b : Operand) → (bit_for guards own ≡ Some b) ⊎ (g.bit ≡ b) → Is ops 1 b
        by own b (inl e) = h.bits own b e
        by own b (inr e) = subst (Is ops 1) e k

      more_value : (op : OpTree) (x : Operand) (bits : ℕ) → Is ops (result_bits op.kind op.bits) x → Joins (done ++ op ∷ []) ops (values ++ record { operand = x; bits = bits } ∷ []) guards
      more_value op x bits k = record {
        begins = h.begins;
        valid = h.valid;
        count = let a = length-append values (v ∷ []) in let b = length-append done (op ∷ []) in let c = h.count in omega (arith, a, b, c);
        has = λ j p y e q. by j p y (last_or done op j p e) (last_or values v j y q);
        bits = h.bits;
      } where
        v : Value
        v = record { operand = x; bits = bits }

        by : (j : ℕ) (p : OpTree) (y : Value) → (slice_get done j ≡ Some p) ⊎ ((j ≡ length done) × (op ≡ p)) → (slice_get values j ≡ Some y) ⊎ ((j ≡ length values) × (v ≡ y)) → Is ops (result_bits p.kind p.bits) y.operand
        by j p y (inl e) (inl q) = h.has j p y e q
        by j p y (inl e) (inr q) = let a = within done j p e in let b = q.0 in let c = h.count in absurd (omega (arith, a, b, c))
        by j p y (inr e) (inl q) = let a = within values j y q in let b = e.0 in let c = h.count in absurd (omega (arith, a, b, c))
        by j p y (inr e) (inr q) = subst (λ (z : OpTree). Is ops (result_bits z.kind z.bits) y.operand) e.1 (subst (λ (z : Value). Is ops (result_bits op.kind op.bits) z.operand) q.1 k)

    -- ---- guards

    module _ (done : List OpTree) where
      guard_joined : (s : Joined) (own : Option Operand) (op : OpTree) → IsJoined done s → OpIsValid frame [] s.ops op → result_bits op.kind op.bits ≡ 1 → IsJoined done (with_guard s own op)
      guard_joined s own op h k e =
          more_guard done (s.ops ++ op ∷ []) s.values s.guards (more_op done s.ops s.values s.guards h op k) (record { own = own; bit = result_of (length s.ops) })
          (subst (λ j. Is (s.ops ++ op ∷ []) j (result_of (length s.ops))) e (next_operand frame [] s.ops op))

      taken_joined : (s : Joined) (x : Operand) → Is s.ops 1 x → IsJoined done s → IsJoined done (with_taken x s)
      taken_joined s x z h = by (is_some (bit_for s.guards None)) where
        by : (c : Bool) → IsJoined done (if c then s else with_guard s None (plain o.Not 1 (x ∷ [])))
        by true = h
        by false = guard_joined s None (plain o.Not 1 (x ∷ [])) h (record { width = refl; flag = refl; guard = tt; acts = (refl, (z, tt)) }) refl

      taken_more : (s : Joined) (x : Operand) (n : ℕ) (y : Operand) → Is s.ops n y → Is (with_taken x s).ops n y
      taken_more s x n y z = by (is_some (bit_for s.guards None)) where
        by : (c : Bool) → Is (if c then s else with_guard s None (plain o.Not 1 (x ∷ []))).ops n y
        by true = z
        by false = operand_more frame [] s.ops (plain o.Not 1 (x ∷ []) ∷ []) n y z

      both_joined : (s : Joined) (own : Operand) → Is s.ops 1 own → IsJoined done s → IsJoined done (with_both s own)
      both_joined s own z h =
          guard_joined s (Some own) (plain o.And 1 (bit_in s None ∷ own ∷ [])) h
          (record { width = refl; flag = refl; guard = tt; acts = (refl, (bit_is done s.ops s.values s.guards h None, (z, tt))) }) refl

      bit_joined : (s : Joined) (x : Operand) (own : Option Operand) → Is s.ops 1 x → IsOperandIf frame [] s.ops 1 own → IsJoined done s → IsJoined done (with_bit x s own)
      bit_joined s x None z g h = taken_joined s x z h
      bit_joined s x (Some own) z g h = by (is_some (bit_for s.guards (Some own))) where
        by : (c : Bool) → IsJoined done (if c then s else with_both (with_taken x s) own)
        by true = h
        by false = both_joined (with_taken x s) own (taken_more s x 1 own g) (taken_joined s x z h)

      -- ---- operations

      module _ (op : OpTree) (k : OpIsValid frame [] done op) where
        abbrev Open : List Value → Type 0
        Open values = is_conversion op.kind ≡ true → first_word (map (renamed outs_ values) op.args) ≡ None

        op_joined : (s : Joined) (values : List Value) (g : Option Operand) → s.values ≡ values → Open values → IsJoined done s → IsOperandIf frame [] s.ops 1 g → IsJoined (done ++ op ∷ []) (with_op s (renamed_op outs_ values op) g)
        op_joined s values g e open_ h z =
            let new : OpTree = record (renamed_op outs_ values op) { guard = g } in
            let valid = subst (λ l. OpIsValid frame [] s.ops (record (renamed_op outs_ l op) { guard = g })) e (op_renamed done s.ops s.values s.guards h op g k z (subst Open (sym e) open_)) in
            more_value done (s.ops ++ new ∷ []) s.values s.guards (more_op done s.ops s.values s.guards h new valid) op (result_of (length s.ops)) (result_bits op.kind op.bits) (next_operand frame [] s.ops new)

        staying_joined : (x : Option Operand) → x ≡ test → (s : Joined) → Open s.values → IsJoined done s → IsJoined (done ++ op ∷ []) (staying x s (renamed_op outs_ s.values op))
        staying_joined None e s open_ h = op_joined s s.values (option_map (renamed outs_ s.values) op.guard) refl open_ h (guard_renamed done s.ops s.values s.guards h op.guard k.guard)
        staying_joined (Some x) e s open_ h = by (needs_guard (renamed_op outs_ s.values op)) where
          own : Option Operand
          own = option_map (renamed outs_ s.values) op.guard

          u : Joined
          u = with_bit x s (option_map (renamed outs_ s.values) op.guard)

          z : Is s.ops 1 x
          z = raised done s.ops s.values s.guards h 1 x (subst (IsOperandIf frame [] base 1) (sym e) test_here)

          here : IsJoined done (with_bit x s (option_map (renamed outs_ s.values) op.guard))
          here = bit_joined s x (option_map (renamed outs_ s.values) op.guard) z (guard_renamed done s.ops s.values s.guards h op.guard k.guard) h

          by : (c : Bool)
              → IsJoined (done ++ op ∷ []) (if c then guarded (with_bit x s (option_map (renamed outs_ s.values) op.guard)) (renamed_op outs_ s.values op) else with_op s (renamed_op outs_ s.values op) (option_map (renamed outs_ s.values) op.guard))
          by true = op_joined u s.values (Some (bit_in u own)) (bit_grows frame.widths (words_in frame) outs_ test base done s x own) open_ here (bit_is done u.ops u.values u.guards here own)
          by false = op_joined s s.values own refl open_ h (guard_renamed done s.ops s.values s.guards h op.guard k.guard)

        step_joined : (s : Joined) → IsJoined done s → IsJoined (done ++ op ∷ []) (joined_op frame.widths outs_ test s op)
        step_joined s h = by (converted (renamed_op outs_ s.values op) (n.first_bits frame.widths s.values op.bits op.args) (first_word (map (renamed outs_ s.values) op.args))) refl where
          by : (x : Option ℕ) → converted (renamed_op outs_ s.values op) (n.first_bits frame.widths s.values op.bits op.args) (first_word (map (renamed outs_ s.values) op.args)) ≡ x
              → IsJoined (done ++ op ∷ []) (by_word test s (renamed_op outs_ s.values op) x)
          by (Some w) e =
              more_value done s.ops s.values s.guards h op (constant w) (result_bits op.kind op.bits)
              (record { has = word_fits (renamed_op outs_ s.values op) (n.first_bits frame.widths s.values op.bits op.args) (first_word (map (renamed outs_ s.values) op.args)) w e; distance = refl })
          by None e =
              staying_joined test refl s (stays_open (renamed_op outs_ s.values op) (n.first_bits frame.widths s.values op.bits op.args) (first_word (map (renamed outs_ s.values) op.args)) e) h

    -- all operations of a block
    pub all_joined : (rest done : List OpTree) (s : Joined) → IsJoined done s → OpsAreValid frame [] done rest → IsJoined (done ++ rest) (joined_ops frame.widths outs_ test s rest)
    all_joined [] done s h k = subst (λ l. IsJoined l s) (sym (append-nil done)) h
    all_joined (op ∷ rest) done s h k =
        subst (λ l. IsJoined l (joined_ops frame.widths outs_ test (joined_op frame.widths outs_ test s op) rest)) (append_assoc done (op ∷ []) rest)
        (all_joined rest (done ++ op ∷ []) (joined_op frame.widths outs_ test s op) (step_joined done op k.0 s h) k.1)

    -- the beginning of what is joined
    pub start_joined : (guards : List Guard) → OpsAreValid frame [] [] base → ((own : Option Operand) (b : Operand) → bit_for guards own ≡ Some b → Is base 1 b) → Joins [] base [] guards
    start_joined guards h g = record { begins = ([], sym (append-nil base)); valid = h; count = refl; has = λ j op v e q. none_some e; bits = g }
