-- What is joined has its widths.
use Rattle.std.proofs.Common.{◌≡◌, ◌∙◌, ◌<◌, ◌⊎◌, inl, inr, ℕ, Bool, true, false, refl, ap, sym, subst, arith, List, [], ◌∷◌, ◌++◌, append_assoc, append-nil, map, length, length-append, Option, Some, None, is_some}
use Rattle.std.specs.Prelude.{slice_get, if◌then◌else◌}
use Rattle.std.specs.Option.{option_map, option_eq}
use Rattle.hls_base.specs.declared.number.VarId.{VarId}
use Rattle.ir_core.specs.declared.body.OpKind.{OpKind}
use Rattle.ir_core.specs.declared.body.OpKind.TheVariants as o
use Rattle.ir_core.specs.declared.body.Operand.{Operand}
use Rattle.ir_core.specs.declared.body.Out.{Out}
use Rattle.ir_core.specs.declared.body.Source.{Source}
use Rattle.ir_core.specs.declared.body.Source.TheVariants as source
use Rattle.ir_core.specs.Value.{count_of, value}
use Rattle.ir_core.specs.Timing.{result_bits}
use Rattle.ir_core.specs.Bodies.{OpTree}
use Rattle.passes.specs.Numbering.Equal.{operand_eq}
use Rattle.passes.specs.Numbering as n
use Rattle.passes.specs.Numbering.{Value, constant, result_of, operand_or}
use Rattle.passes.specs.Conversion.Outs.{entry_value, held}
use Rattle.passes.specs.Conversion.Joining.{Guard, Joined, standing_for, renamed, renamed_op, renamed_out, plain, bit_for, or_constant, bit_in, with_guard, with_taken, with_both, with_bit, needs_guard, with_op, guarded, staying, is_conversion, converted, first_word, by_word, joined_op, joined_ops}
use Rattle.pass_runs.specs.ConvertRuns.Typed.{IsEarly, AreEarly, HasBits, GuardIsTyped, LastHas, AccessIsTyped, OpIsTyped, OpsAreTyped, OutsAreTyped}
use Rattle.pass_runs.proofs.ConvertRuns.Lists.{there, within, left_of, seam, last_or}
use Rattle.pass_runs.proofs.ConvertRuns.Fitting.{is_access, value_fits}

some_number : {x y : ℕ} → Some x ≡ Some y → x ≡ y
some_number e = cc

module _ (widths words : List ℕ) where
  -- ---- more operations

  pub has_more : (ops more : List OpTree) (n : ℕ) (x : Source) → HasBits widths words ops n x → HasBits widths words (ops ++ more) n x
  has_more ops more n (source.Constant w) h = h
  has_more ops more n (source.Variable v) h = h
  has_more ops more n (source.Result i) h = (h.0, left_of ops more i.0 h.0 h.1, h.2)

  pub has_early : (ops : List OpTree) (n : ℕ) (x : Source) → HasBits widths words ops n x → IsEarly (length ops) x
  has_early ops n (source.Constant w) h = tt
  has_early ops n (source.Variable v) h = tt
  has_early ops n (source.Result i) h = within ops i.0 h.0 h.1

  pub outs_more : (ops more : List OpTree) (os : List Out) → OutsAreTyped widths words ops os → OutsAreTyped widths words (ops ++ more) os
  outs_more ops more [] h = tt
  outs_more ops more (x ∷ os) h = ((h.0.0, h.0.1, has_more ops more h.0.0 x.value.value h.0.2), outs_more ops more os h.1)

  pub ops_more : (before xs : List OpTree) (op : OpTree) → OpsAreTyped widths words before xs → OpIsTyped widths words (before ++ xs) op → OpsAreTyped widths words before (xs ++ op ∷ [])
  ops_more before [] op h k = (subst (λ l. OpIsTyped widths words l op) (append-nil before) k, tt)
  ops_more before (x ∷ xs) op h k = (h.0, ops_more (before ++ x ∷ []) xs op h.1 (subst (λ l. OpIsTyped widths words l op) (sym (append_assoc before (x ∷ []) xs)) k))

  -- the result of the operation that comes next
  pub next_has : (ops : List OpTree) (op : OpTree) → HasBits widths words (ops ++ op ∷ []) (result_bits op.kind op.bits) (result_of (length ops)).value
  next_has ops op = (op, seam ops [] op, refl)

  -- ---- guards

  bit_last : (gs : List Guard) (g : Guard) (own : Option Operand) (b : Operand) → bit_for (gs ++ g ∷ []) own ≡ Some b → (bit_for gs own ≡ Some b) ⊎ (g.bit ≡ b)
  bit_last [] g own b e = by (option_eq operand_eq own g.own) e where
    by : (c : Bool) → (if c then Some g.bit else None) ≡ Some b → (bit_for [] own ≡ Some b) ⊎ (g.bit ≡ b)
    by true h = inr cc
    by false h = absurd cc
  bit_last (x ∷ gs) g own b e = by (option_eq operand_eq own x.own) (bit_last gs g own b) e where
    by : (c : Bool) → (bit_for (gs ++ g ∷ []) own ≡ Some b → (bit_for gs own ≡ Some b) ⊎ (g.bit ≡ b)) → (if c then Some x.bit else bit_for (gs ++ g ∷ []) own) ≡ Some b → ((if c then Some x.bit else bit_for gs own) ≡ Some b) ⊎ (g.bit ≡ b)
    by true further h = inl h
    by false further h = further h

  abbrev pub TestHas : List OpTree → Option Operand → Type 0
  TestHas ops None = Unit {0}
  TestHas ops (Some x) = HasBits widths words ops 1 x.value

  test_more : (ops more : List OpTree) (x : Option Operand) → TestHas ops x → TestHas (ops ++ more) x
  test_more ops more None h = tt
  test_more ops more (Some x) h = has_more ops more 1 x.value h

  module _ (outs_ : List Out) (test : Option Operand) (base : List OpTree) where
    -- what a variable holds
    abbrev pub Held : List OpTree → VarId → Type 0
    Held ops w = (held outs_ w ≡ entry_value w) ⊎ ((k : ℕ) × (slice_get widths w.0 ≡ Some k) × HasBits widths words ops k (held outs_ w).value)

    -- the operations with those of a block that are joined so far
    pub record Sound (done ops : List OpTree) (values : List Value) (guards : List Guard) : Type 0 where
      pub begins : (more : List OpTree) × (ops ≡ base ++ more)
      pub ops_typed : OpsAreTyped widths words [] ops
      pub holds : (w : VarId) → Held ops w
      pub tests : TestHas ops test
      pub count : length values ≡ length done
      pub has : (j : ℕ) (x : Value) → slice_get values j ≡ Some x → HasBits widths words ops x.bits x.operand.value
      pub bits : (j : ℕ) (op : OpTree) (x : Value) → slice_get done j ≡ Some op → slice_get values j ≡ Some x → x.bits ≡ result_bits op.kind op.bits
      pub guard_has : (own : Option Operand) (b : Operand) → bit_for guards own ≡ Some b → HasBits widths words ops 1 b.value

    abbrev pub IsSound : List OpTree → Joined → Type 0
    IsSound done s = Sound done s.ops s.values s.guards

    held_more : (ops more : List OpTree) (w : VarId) → Held ops w → Held (ops ++ more) w
    held_more ops more w (inl e) = inl e
    held_more ops more w (inr h) = inr (h.0, h.1, has_more ops more h.0 (held outs_ w).value h.2)

    more_ops : (done ops : List OpTree) (values : List Value) (guards : List Guard) (op : OpTree) → Sound done ops values guards → OpIsTyped widths words ops op → Sound done (ops ++ op ∷ []) values guards
    more_ops done ops values guards op h k = record {
      begins = (h.begins.0 ++ op ∷ [], ap (λ l. l ++ op ∷ []) h.begins.1 ∙ append_assoc base h.begins.0 (op ∷ []));
      ops_typed = ops_more [] ops op h.ops_typed k;
      holds = λ w. held_more ops (op ∷ []) w (h.holds w);
      tests = test_more ops (op ∷ []) test h.tests;
      count = h.count;
      has = λ j x e. has_more ops (op ∷ []) x.bits x.operand.value (h.has j x e);
      bits = h.bits;
      guard_has = λ own b e. has_more ops (op ∷ []) 1 b.value (h.guard_has own b e);
    }

    more_guard : (done ops : List OpTree) (values : List Value) (guards : List Guard) (g : Guard) → Sound done ops values guards → HasBits widths words ops 1 g.bit.value → Sound done ops values (guards ++ g ∷ [])
    more_guard done ops values guards g h k = record {
      begins = h.begins;
      ops_typed = h.ops_typed;
      holds = h.holds;
      tests = h.tests;
      count = h.count;
      has = h.has;
      bits = h.bits;
      guard_has = λ own b e. by own b (bit_last guards g own b e);
    } where
      by : (own : Option Operand) (b : Operand) → (bit_for guards own ≡ Some b) ⊎ (g.bit ≡ b) → HasBits widths words ops 1 b.value
      by own b (inl e) = h.guard_has own b e
      by own b (inr e) = subst (λ (x : Operand). HasBits widths words ops 1 x.value) e k

    more_value : (done ops : List OpTree) (values : List Value) (guards : List Guard) (op : OpTree) (x : Operand) → Sound done ops values guards → HasBits widths words ops (result_bits op.kind op.bits) x.value
        → Sound (done ++ op ∷ []) ops (values ++ record { operand = x; bits = result_bits op.kind op.bits } ∷ []) guards
    more_value done ops values guards op x h k = record {
      begins = h.begins;
      ops_typed = h.ops_typed;
      holds = h.holds;
      tests = h.tests;
      count = let a = length-append values (v ∷ []) in let b = length-append done (op ∷ []) in let c = h.count in omega (arith, a, b, c);
      has = λ j y e. by_has j y (last_or values v j y e);
      bits = λ j p y e q. by_bits j p y (last_or done op j p e) (last_or values v j y q);
      guard_has = h.guard_has;
    } where
      v : Value
      v = record { operand = x; bits = result_bits op.kind op.bits }

      by_has : (j : ℕ) (y : Value) → (slice_get values j ≡ Some y) ⊎ ((j ≡ length values) × (v ≡ y)) → HasBits widths words ops y.bits y.operand.value
      by_has j y (inl e) = h.has j y e
      by_has j y (inr e) = subst (λ (z : Value). HasBits widths words ops z.bits z.operand.value) e.1 k

      by_bits : (j : ℕ) (p : OpTree) (y : Value) → (slice_get done j ≡ Some p) ⊎ ((j ≡ length done) × (op ≡ p)) → (slice_get values j ≡ Some y) ⊎ ((j ≡ length values) × (v ≡ y)) → y.bits ≡ result_bits p.kind p.bits
      by_bits j p y (inl e) (inl q) = h.bits j p y e q
      by_bits j p y (inl e) (inr q) = let a = within done j p e in let b = q.0 in let c = h.count in absurd (omega (arith, a, b, c))
      by_bits j p y (inr e) (inl q) = let a = within values j y q in let b = e.0 in let c = h.count in absurd (omega (arith, a, b, c))
      by_bits j p y (inr e) (inr q) = sym (ap (λ (z : Value). z.bits) q.1) ∙ ap (λ (z : OpTree). result_bits z.kind z.bits) e.1

    -- ---- what stands for operands

    module _ (done ops : List OpTree) (values : List Value) (guards : List Guard) (h : Sound done ops values guards) where
      value_at : (i : ℕ) → i < length done → (x : Value) × (slice_get values i ≡ Some x)
      value_at i l = let c = h.count in there values i (omega (arith, l, c))

      standing_has : (x : Operand) (s : Source) (k : ℕ) → x.value ≡ s → HasBits widths words done k s → HasBits widths words ops k (standing_for outs_ values x s).value
      standing_has x (source.Constant w) k e z = subst (HasBits widths words ops k) (sym e) z
      standing_has x (source.Variable w) k e z = by (h.holds w) where
        by : Held ops w → HasBits widths words ops k (held outs_ w).value
        by (inl q) = subst (λ (y : Operand). HasBits widths words ops k y.value) (sym q) z
        by (inr q) = subst (λ j. HasBits widths words ops j (held outs_ w).value) (some_number (sym q.1 ∙ z)) q.2
      standing_has x (source.Result i) k e z =
          let v = value_at i.0 (within done i.0 z.0 z.1) in
          let b : v.0.bits ≡ k = h.bits i.0 z.0 v.0 z.1 v.1 ∙ z.2 in
          subst (λ c. HasBits widths words ops k (operand_or c x).value) (sym v.1) (subst (λ j. HasBits widths words ops j v.0.operand.value) b (h.has i.0 v.0 v.1))

      pub renamed_has : (x : Operand) (k : ℕ) → HasBits widths words done k x.value → HasBits widths words ops k (renamed outs_ values x).value
      renamed_has x k z = standing_has x x.value k refl z

      standing_early : (x : Operand) (s : Source) → x.value ≡ s → IsEarly (length done) s → IsEarly (length ops) (standing_for outs_ values x s).value
      standing_early x (source.Constant w) e z = subst (IsEarly (length ops)) (sym e) tt
      standing_early x (source.Variable w) e z = by (h.holds w) where
        by : Held ops w → IsEarly (length ops) (held outs_ w).value
        by (inl q) = subst (λ (y : Operand). IsEarly (length ops) y.value) (sym q) tt
        by (inr q) = has_early ops q.0 (held outs_ w).value q.2
      standing_early x (source.Result i) e z =
          let v = value_at i.0 z in
          subst (λ c. IsEarly (length ops) (operand_or c x).value) (sym v.1) (has_early ops v.0.bits v.0.operand.value (h.has i.0 v.0 v.1))

      renamed_early : (xs : List Operand) → AreEarly (length done) xs → AreEarly (length ops) (map (renamed outs_ values) xs)
      renamed_early [] z = tt
      renamed_early (x ∷ xs) z = (standing_early x x.value refl z.0, renamed_early xs z.1)

      pub guard_renamed : (g : Option Operand) → GuardIsTyped widths words done g → GuardIsTyped widths words ops (option_map (renamed outs_ values) g)
      guard_renamed None z = tt
      guard_renamed (Some x) z = renamed_has x 1 z

      last_renamed : (k : ℕ) (xs : List Operand) → LastHas widths words done k xs → LastHas widths words ops k (map (renamed outs_ values) xs)
      last_renamed k [] z = tt
      last_renamed k (x ∷ []) z = renamed_has x k z
      last_renamed k (x ∷ y ∷ ys) z = last_renamed k (y ∷ ys) z

      access_renamed : (op : OpTree) (g : Option Operand) (kind : OpKind) (a : Option _) → AccessIsTyped widths words done op kind a → AccessIsTyped widths words ops (record (renamed_op outs_ values op) { guard = g }) kind a
      access_renamed op g o.Store (Some a) z = (z.0, z.1, last_renamed z.0 op.args z.2)
      access_renamed op g o.Store None z = tt
      access_renamed op g o.Load (Some a) z = z
      access_renamed op g o.Load None z = tt
      access_renamed op g kind a z = tt

      -- with a guard of its own or of the branch
      pub op_renamed : (op : OpTree) (g : Option Operand) → OpIsTyped widths words done op → GuardIsTyped widths words ops g → OpIsTyped widths words ops (record (renamed_op outs_ values op) { guard = g })
      op_renamed op g z k = record { args = renamed_early op.args z.args; guard = k; access = access_renamed op g op.kind op.array z.access }

      pub outs_renamed : (os : List Out) → OutsAreTyped widths words done os → OutsAreTyped widths words ops (map (renamed_out outs_ values) os)
      outs_renamed [] z = tt
      outs_renamed (x ∷ os) z = ((z.0.0, z.0.1, renamed_has x.value z.0.0 z.0.2), outs_renamed os z.1)

      pub early_renamed : (xs : List Operand) → AreEarly (length done) xs → AreEarly (length ops) (map (renamed outs_ values) xs)
      early_renamed = renamed_early

      -- the bit of a guard
      pub bit_has : (own : Option Operand) (x : Option Operand) → bit_for guards own ≡ x → HasBits widths words ops 1 (or_constant x).value
      bit_has own None e = omega arith
      bit_has own (Some b) e = h.guard_has own b e

    -- ---- steps

    module _ (done : List OpTree) where
      guard_sound : (s : Joined) (own : Option Operand) (op : OpTree) → IsSound done s → OpIsTyped widths words s.ops op → result_bits op.kind op.bits ≡ 1 → IsSound done (with_guard s own op)
      guard_sound s own op h k e =
          more_guard done (s.ops ++ op ∷ []) s.values s.guards (record { own = own; bit = result_of (length s.ops) }) (more_ops done s.ops s.values s.guards op h k)
          (subst (λ j. HasBits widths words (s.ops ++ op ∷ []) j (result_of (length s.ops)).value) e (next_has s.ops op))

      pub taken_sound : (s : Joined) (x : Operand) → TestHas s.ops (Some x) → IsSound done s → IsSound done (with_taken x s)
      taken_sound s x z h = by (is_some (bit_for s.guards None)) where
        by : (c : Bool) → IsSound done (if c then s else with_guard s None (plain o.Not 1 (x ∷ [])))
        by true = h
        by false = guard_sound s None (plain o.Not 1 (x ∷ [])) h (record { args = (has_early s.ops 1 x.value z, tt); guard = tt; access = tt }) refl

      pub both_sound : (s : Joined) (own : Operand) → HasBits widths words s.ops 1 own.value → IsSound done s → IsSound done (with_both s own)
      both_sound s own z h =
          guard_sound s (Some own) (plain o.And 1 (bit_in s None ∷ own ∷ [])) h
          (record { args = (has_early s.ops 1 (bit_in s None).value (bit_has done s.ops s.values s.guards h None (bit_for s.guards None) refl), (has_early s.ops 1 own.value z, tt)); guard = tt; access = tt }) refl

      taken_more : (s : Joined) (x : Operand) (k : ℕ) (y : Source) → HasBits widths words s.ops k y → HasBits widths words (with_taken x s).ops k y
      taken_more s x k y z = by (is_some (bit_for s.guards None)) where
        by : (c : Bool) → HasBits widths words (if c then s else with_guard s None (plain o.Not 1 (x ∷ []))).ops k y
        by true = z
        by false = has_more s.ops (plain o.Not 1 (x ∷ []) ∷ []) k y z

      pub bit_sound : (s : Joined) (x : Operand) (own : Option Operand) → TestHas s.ops (Some x) → GuardIsTyped widths words s.ops own → IsSound done s → IsSound done (with_bit x s own)
      bit_sound s x None z g h = taken_sound s x z h
      bit_sound s x (Some own) z g h = by (is_some (bit_for s.guards (Some own))) where
        by : (c : Bool) → IsSound done (if c then s else with_both (with_taken x s) own)
        by true = h
        by false = both_sound (with_taken x s) own (taken_more s x 1 own.value g) (taken_sound s x z h)

      pub bit_grows : (s : Joined) (x : Operand) (own : Option Operand) → (with_bit x s own).values ≡ s.values
      bit_grows s x None = by (is_some (bit_for s.guards None)) where
        by : (c : Bool) → (if c then s else with_guard s None (plain o.Not 1 (x ∷ []))).values ≡ s.values
        by true = refl
        by false = refl
      bit_grows s x (Some own) = by (is_some (bit_for s.guards (Some own))) (bit_grows_taken (is_some (bit_for s.guards None))) where
        bit_grows_taken : (c : Bool) → (if c then s else with_guard s None (plain o.Not 1 (x ∷ []))).values ≡ s.values
        bit_grows_taken true = refl
        bit_grows_taken false = refl

        by : (c : Bool) → (with_taken x s).values ≡ s.values → (if c then s else with_both (with_taken x s) own).values ≡ s.values
        by true e = refl
        by false e = e

      -- an operation that stays
      op_sound : (s : Joined) (op : OpTree) (g : Option Operand) → IsSound done s → OpIsTyped widths words done op → GuardIsTyped widths words s.ops g → IsSound (done ++ op ∷ []) (with_op s (renamed_op outs_ s.values op) g)
      op_sound s op g h k z =
          let new = record (renamed_op outs_ s.values op) { guard = g } in
          more_value done (s.ops ++ new ∷ []) s.values s.guards op (result_of (length s.ops)) (more_ops done s.ops s.values s.guards new h (op_renamed done s.ops s.values s.guards h op g k z)) (next_has s.ops new)

      op_sound_as : (s : Joined) (values : List Value) (op : OpTree) (g : Option Operand) → s.values ≡ values → IsSound done s → OpIsTyped widths words done op → GuardIsTyped widths words s.ops g → IsSound (done ++ op ∷ []) (with_op s (renamed_op outs_ values op) g)
      op_sound_as s values op g e h k z = subst (λ l. IsSound (done ++ op ∷ []) (with_op s (renamed_op outs_ l op) g)) e (op_sound s op g h k z)

      staying_sound : (x : Option Operand) → x ≡ test → (s : Joined) (op : OpTree) → IsSound done s → OpIsTyped widths words done op → IsSound (done ++ op ∷ []) (staying x s (renamed_op outs_ s.values op))
      staying_sound None e s op h k = op_sound s op (option_map (renamed outs_ s.values) op.guard) h k (guard_renamed done s.ops s.values s.guards h op.guard k.guard)
      staying_sound (Some x) e s op h k = by (needs_guard (renamed_op outs_ s.values op)) where
        own : Option Operand
        own = option_map (renamed outs_ s.values) op.guard

        z : TestHas s.ops (Some x)
        z = subst (TestHas s.ops) (sym e) h.tests

        u : Joined
        u = with_bit x s (option_map (renamed outs_ s.values) op.guard)

        sound : IsSound done (with_bit x s (option_map (renamed outs_ s.values) op.guard))
        sound = bit_sound s x (option_map (renamed outs_ s.values) op.guard) z (guard_renamed done s.ops s.values s.guards h op.guard k.guard) h

        by : (c : Bool)
            → IsSound (done ++ op ∷ []) (if c then guarded (with_bit x s (option_map (renamed outs_ s.values) op.guard)) (renamed_op outs_ s.values op) else with_op s (renamed_op outs_ s.values op) (option_map (renamed outs_ s.values) op.guard))
        by true =
            op_sound_as u s.values op (Some (bit_in u own)) (bit_grows s x own) sound k (bit_has done u.ops u.values u.guards sound own (bit_for u.guards own) refl)
        by false = op_sound s op own h k (guard_renamed done s.ops s.values s.guards h op.guard k.guard)

      -- a conversion that is computed
      conversion_plain : (kind : OpKind) → is_conversion kind ≡ true → is_access kind ≡ false
      conversion_plain o.Load e = absurd cc
      conversion_plain o.Store e = absurd cc
      conversion_plain kind e = refl

      word_fits : (op : OpTree) (from : ℕ) (x : Option ℕ) (w : ℕ) → converted op from x ≡ Some w → w < count_of (result_bits op.kind op.bits)
      word_fits op from None w e = absurd cc
      word_fits op from (Some y) w e = by (is_conversion op.kind) refl e where
        by : (c : Bool) → is_conversion op.kind ≡ c → (if c then Some (value op.kind op.signed op.bits from (y ∷ [])) else None) ≡ Some w → w < count_of (result_bits op.kind op.bits)
        by true k q = subst (λ j. j < count_of (result_bits op.kind op.bits)) (some_number q) (value_fits op.kind op.signed op.bits from (y ∷ []) (conversion_plain op.kind k))
        by false k q = absurd cc

      pub joined_sound : (s : Joined) (op : OpTree) → IsSound done s → OpIsTyped widths words done op → IsSound (done ++ op ∷ []) (joined_op widths outs_ test s op)
      joined_sound s op h k = by (converted (renamed_op outs_ s.values op) (n.first_bits widths s.values op.bits op.args) (first_word (map (renamed outs_ s.values) op.args))) refl where
        by : (x : Option ℕ) → converted (renamed_op outs_ s.values op) (n.first_bits widths s.values op.bits op.args) (first_word (map (renamed outs_ s.values) op.args)) ≡ x
            → IsSound (done ++ op ∷ []) (by_word test s (renamed_op outs_ s.values op) x)
        by (Some w) e =
            more_value done s.ops s.values s.guards op (constant w) h
            (word_fits (renamed_op outs_ s.values op) (n.first_bits widths s.values op.bits op.args) (first_word (map (renamed outs_ s.values) op.args)) w e)
        by None e = staying_sound test refl s op h k

    -- all operations of a block
    pub all_sound : (rest done : List OpTree) (s : Joined) → IsSound done s → OpsAreTyped widths words done rest → IsSound (done ++ rest) (joined_ops widths outs_ test s rest)
    all_sound [] done s h k = subst (λ l. IsSound l s) (sym (append-nil done)) h
    all_sound (op ∷ rest) done s h k =
        subst (λ l. IsSound l (joined_ops widths outs_ test (joined_op widths outs_ test s op) rest)) (append_assoc done (op ∷ []) rest)
        (all_sound rest (done ++ op ∷ []) (joined_op widths outs_ test s op) (joined_sound done s op h k.0) k.1)
