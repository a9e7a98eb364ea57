-- Operations that are valid in a tree are valid in a program.
use Rattle.std.proofs.Common.{◌≡◌, ◌∙◌, ◌+◌, ℕ, zero, suc, Bool, true, false, ◌&&◌, refl, ap, sym, subst, List, [], ◌∷◌, ◌++◌, length, map, Option, Some, None}
use Rattle.std.specs.Prelude.{slice_get, is_some, is_none, if◌then◌else◌}
use Rattle.std.specs.List.{list_all}
use Rattle.std.proofs.lemmas.Bool.{and_from}
use Rattle.std.proofs.lemmas.List.{map-append}
use Rattle.std.proofs.lemmas.Option.{none-some, same_Some}
use Rattle.hls_base.specs.declared.number.ArrayId.{ArrayId}
use Rattle.ir_core.specs.declared.body.Op.{Op}
use Rattle.ir_core.specs.declared.body.OpKind.{OpKind}
use Rattle.ir_core.specs.declared.body.OpKind.TheVariants as o
use Rattle.ir_core.specs.declared.body.Operand.{Operand}
use Rattle.ir_core.specs.declared.body.Out.{Out}
use Rattle.ir_core.specs.declared.cfg.Frame.{Frame}
use Rattle.ir_core.specs.declared.cfg.Memory.{Memory}
use Rattle.dep_graph.specs.Meetings.{is_store}
use Rattle.ir_core.specs.Bodies.{op_of}
use Rattle.program_validity.specs.Operations.{may_be_undefined, is_flagged, converts, is_converted, memory_of, loads, stores, accesses_in, accesses, acts, is_operation}
use Rattle.program_validity.specs.Bodies.{are_operations, is_set, is_out}
use Rattle.valid_trees.specs.Shapes.{MemoryShape, memory_shape, frame_shape}
use Rattle.valid_trees.specs.Operations.{Converts, AreConverted, Loads, Stores, Accesses, Acts, OpIsValid}
use Rattle.valid_trees.specs.Bodies.{OpsAreValid, OutsAreValid}
use Rattle.valid_trees.proofs.ValidLayout.Operands.{equal_test, below_test, has_width, operand_holds, operand_if_holds, one_holds, two_hold, three_hold, subscripts_count, subscripts_hold, stored_count, stored_subscripts, stored_value}

-- ---- conversions

widened : (bits n : ℕ) → Converts o.Widen bits n → converts o.Widen bits (Some n) ≡ true
widened bits n h = and_from _ _ h.0 (below_test n bits h.1)

narrowed : (bits n : ℕ) → Converts o.Narrow bits n → converts o.Narrow bits (Some n) ≡ true
narrowed bits n h = below_test bits n h

tested : (bits n : ℕ) → Converts o.Truth bits n → converts o.Truth bits (Some n) ≡ true
tested bits n h = equal_test n bits h

no_store : {A : Type 0} (t : Option A) → is_some t ≡ false → is_none t ≡ true
no_store None e = refl
no_store (Some x) e = absurd cc

-- the memory with this shape
memory_there : (memories : List Memory) (k : ℕ) (m : MemoryShape) → slice_get (map memory_shape memories) k ≡ Some m → (x : Memory) × (slice_get memories k ≡ Some x) × (memory_shape x ≡ m)
memory_there [] k m e = absurd (none-some m e)
memory_there (x ∷ xs) zero m e = (x, refl, same_Some (memory_shape x) m e)
memory_there (x ∷ xs) (suc k) m e = memory_there xs k m e

module _ {S : Type 0} (f : Frame) (carried : List Out) (before : List (Op S)) where
  abbrev widths : List ℕ
  widths = f.variables.items

  converted_holds : (kind : OpKind) (bits : ℕ) → ((n : ℕ) → Converts kind bits n → converts kind bits (Some n) ≡ true) → (xs : List Operand) → AreConverted (frame_shape f) carried (map op_of before) kind bits xs
      → is_converted widths carried before kind bits xs ≡ true
  converted_holds kind bits to [] h = absurd h
  converted_holds kind bits to (x ∷ []) h = and_from _ _ (ap (converts kind bits) (has_width f before x.value h.from h.operand.has h.unknown) ∙ to h.from h.converts) h.operand.distance
  converted_holds kind bits to (x ∷ y ∷ ys) h = absurd h

  -- ---- accesses

  load_holds : (op : Op S) (m : Memory) → Loads (frame_shape f) carried (map op_of before) (op_of op) (memory_shape m) → loads widths carried before op m ≡ true
  load_holds op m h =
      and_from _ _ (equal_test m.bits op.bits h.bits)
      (and_from _ _ (equal_test (length op.args.items) (length m.dims.items) (subscripts_count f carried before m.dims.items op.args.items h.args)) (subscripts_hold f carried before m.dims.items op.args.items h.args))

  store_holds : (op : Op S) (m : Memory) → Stores (frame_shape f) carried (map op_of before) (op_of op) (memory_shape m) → stores widths carried before op m ≡ true
  store_holds op m h =
      and_from _ _ (and_from _ _ (equal_test m.bits op.bits h.bits)
      (and_from _ _ (no_store m.table h.changes) (equal_test (length op.args.items) (length m.dims.items + 1) (stored_count f carried before op.bits m.dims.items op.args.items h.args))))
      (and_from _ _ (stored_subscripts f carried before op.bits m.dims.items op.args.items h.args) (stored_value f carried before op.bits m.dims.items op.args.items h.args))

  load_there : (op : Op S) (array : Option ArrayId) → op.array ≡ array → op.kind ≡ o.Load → Accesses (frame_shape f) carried (map op_of before) (op_of op) o.Load array → accesses f carried before op ≡ true
  load_there op None e k h = absurd h
  load_there op (Some a) e k h =
      let m = memory_there f.memories.items a.0 h.0 h.1 in
      let holds = load_holds op m.0 (subst (λ s. Loads (frame_shape f) carried (map op_of before) (op_of op) s) (sym m.2) h.2) in
      ap (λ x. accesses_in widths carried before op (memory_of f.memories.items x)) e ∙ ap (accesses_in widths carried before op) m.1
      ∙ ap (λ kind. if is_store kind then stores widths carried before op m.0 else loads widths carried before op m.0) k ∙ holds

  store_there : (op : Op S) (array : Option ArrayId) → op.array ≡ array → op.kind ≡ o.Store → Accesses (frame_shape f) carried (map op_of before) (op_of op) o.Store array → accesses f carried before op ≡ true
  store_there op None e k h = absurd h
  store_there op (Some a) e k h =
      let m = memory_there f.memories.items a.0 h.0 h.1 in
      let holds = store_holds op m.0 (subst (λ s. Stores (frame_shape f) carried (map op_of before) (op_of op) s) (sym m.2) h.2) in
      ap (λ x. accesses_in widths carried before op (memory_of f.memories.items x)) e ∙ ap (accesses_in widths carried before op) m.1
      ∙ ap (λ kind. if is_store kind then stores widths carried before op m.0 else loads widths carried before op m.0) k ∙ holds

  -- ---- operations

  -- one that computes names no array
  computed : (op : Op S) {holds : Bool} → op.array ≡ None → holds ≡ true → (is_none op.array && holds) ≡ true
  computed op e h = and_from _ _ (ap is_none e) h

  acts_hold : (op : Op S) (kind : OpKind) → op.kind ≡ kind → Acts (frame_shape f) carried (map op_of before) (op_of op) kind → acts f carried before op kind ≡ true
  acts_hold op o.Load k h = load_there op op.array refl k h
  acts_hold op o.Store k h = store_there op op.array refl k h
  acts_hold op o.Not k h = computed op h.0 (one_holds f carried before op.bits op.args.items h.1)
  acts_hold op o.Neg k h = computed op h.0 (one_holds f carried before op.bits op.args.items h.1)
  acts_hold op o.Copy k h = computed op h.0 (one_holds f carried before op.bits op.args.items h.1)
  acts_hold op o.Widen k h = computed op h.0 (converted_holds o.Widen op.bits (widened op.bits) op.args.items h.1)
  acts_hold op o.Narrow k h = computed op h.0 (converted_holds o.Narrow op.bits (narrowed op.bits) op.args.items h.1)
  acts_hold op o.Truth k h = computed op h.0 (converted_holds o.Truth op.bits (tested op.bits) op.args.items h.1)
  acts_hold op o.Select k h = computed op h.0 (three_hold f carried before 1 op.bits op.args.items h.1)
  acts_hold op (o.Fused pairing) k h = computed op h.0 (three_hold f carried before op.bits op.bits op.args.items h.1)
  acts_hold op o.Add k h = computed op h.0 (two_hold f carried before op.bits op.args.items h.1)
  acts_hold op o.Sub k h = computed op h.0 (two_hold f carried before op.bits op.args.items h.1)
  acts_hold op o.Mul k h = computed op h.0 (two_hold f carried before op.bits op.args.items h.1)
  acts_hold op o.Div k h = computed op h.0 (two_hold f carried before op.bits op.args.items h.1)
  acts_hold op o.Rem k h = computed op h.0 (two_hold f carried before op.bits op.args.items h.1)
  acts_hold op o.And k h = computed op h.0 (two_hold f carried before op.bits op.args.items h.1)
  acts_hold op o.Or k h = computed op h.0 (two_hold f carried before op.bits op.args.items h.1)
  acts_hold op o.Xor k h = computed op h.0 (two_hold f carried before op.bits op.args.items h.1)
  acts_hold op o.Shl k h = computed op h.0 (two_hold f carried before op.bits op.args.items h.1)
  acts_hold op o.Shr k h = computed op h.0 (two_hold f carried before op.bits op.args.items h.1)
  acts_hold op o.Eq k h = computed op h.0 (two_hold f carried before op.bits op.args.items h.1)
  acts_hold op o.Ne k h = computed op h.0 (two_hold f carried before op.bits op.args.items h.1)
  acts_hold op o.Lt k h = computed op h.0 (two_hold f carried before op.bits op.args.items h.1)
  acts_hold op o.Le k h = computed op h.0 (two_hold f carried before op.bits op.args.items h.1)

  flagged : (op : Op S) → is_some op.flag ≡ may_be_undefined op.kind op.signed → is_flagged op ≡ true
  flagged op h = by (may_be_undefined op.kind op.signed) h where
    by : (c : Bool) → is_some op.flag ≡ c → (if c then is_some op.flag else is_none op.flag) ≡ true
    by true e = e
    by false e = no_store op.flag e

  operation_holds : (op : Op S) → OpIsValid (frame_shape f) carried (map op_of before) (op_of op) → is_operation f carried before op ≡ true
  operation_holds op h = and_from _ _ (and_from _ _ h.width (flagged op h.flag)) (and_from _ _ (operand_if_holds f carried before 1 op.guard h.guard) (acts_hold op op.kind refl h.acts))

pub operations_hold : {S : Type 0} (f : Frame) (carried : List Out) (before ops : List (Op S)) → OpsAreValid (frame_shape f) carried (map op_of before) (map op_of ops) → are_operations f carried before ops ≡ true
operations_hold f carried before [] h = refl
operations_hold f carried before (op ∷ ops) h =
    and_from _ _ (operation_holds f carried before op h.0)
    (operations_hold f carried (before ++ op ∷ []) ops (subst (λ l. OpsAreValid (frame_shape f) carried l (map op_of ops)) (sym (map-append op_of before (op ∷ []))) h.1))

pub outs_hold : {S : Type 0} (f : Frame) (carried : List Out) (ops : List (Op S)) (outs : List Out) → OutsAreValid (frame_shape f) carried (map op_of ops) outs → list_all (is_out f carried ops) outs ≡ true
outs_hold f carried ops [] h = refl
outs_hold f carried ops (x ∷ xs) h = and_from _ _ (ap (is_set f carried ops x) h.0.there ∙ operand_holds f carried ops h.0.bits x.value h.0.value) (outs_hold f carried ops xs h.1)
