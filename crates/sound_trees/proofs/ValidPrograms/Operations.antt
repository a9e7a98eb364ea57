-- Valid operations are sound. Used for the nodes of valid programs.
use Rattle.std.proofs.Common.{◌≡◌, ◌∙◌, ℕ, ◌+◌, ◌-◌, sym, refl, ap, Bool, true, false, ◌&&◌, List, [], length, map, take, get_or, arith}
use Rattle.std.specs.Prelude.{◌==◌, slice_get, Option, Some, None, is_some, is_none, if◌then◌else◌}
use Rattle.std.specs.List.{list_all}
use Rattle.std.specs.Option.{option_map}
use Rattle.std.proofs.lemmas.Bool.{eqb-true, false≢true}
use Rattle.std.proofs.lemmas.Option.{slice_get-map, get_or_from_slice_get}
use Rattle.hls_base.specs.declared.number.ArrayId.{ArrayId}
use Rattle.ir_core.specs.declared.body.Op.{Op}
use Rattle.ir_core.specs.declared.body.OpKind.{OpKind}
use Rattle.ir_core.specs.declared.body.OpKind.TheVariants as o
use Rattle.ir_core.specs.declared.body.Operand.{Operand}
use Rattle.ir_core.specs.declared.body.Out.{Out}
use Rattle.ir_core.specs.declared.cfg.Frame.{Frame}
use Rattle.ir_core.specs.declared.cfg.Memory.{Memory}
use Rattle.ir_core.specs.Bodies.{OpTree, dims_of, op_of}
use Rattle.ir_core.specs.FlatRuns.{shapes_of}
use Rattle.dep_graph.specs.Meetings.{is_store}
use Rattle.program_validity.specs.Operands.{is_operand_if, is_subscript}
use Rattle.program_validity.specs.Operations.{may_be_undefined, is_flagged, is_width_of, are_two, memory_of, loads, stores, accesses_in, accesses, acts, is_operation}
use Rattle.program_validity.proofs.Parts.{first_of_both, second_of_both}
use Rattle.program_validity.proofs.EachOperation.{AccessesArray, operation_between, load_accesses, store_accesses}
use Rattle.clock_runs.specs.Premises.{Each, IsSoundAccess, IsSoundSum, IsSoundAs, IsSoundOp}
use Rattle.sound_trees.proofs.ValidPrograms.Operands.{Names, arguments_name, subscripts_name, stored_name, operand_if_stands, operands_stand, two_wide}

dims_are : (memories : List Memory) (array : ℕ) (m : Memory) → slice_get memories array ≡ Some m → get_or (map (λ (x : Memory). x.dims.items) memories) array [] ≡ m.dims.items
dims_are memories array m at = get_or_from_slice_get (map (λ (x : Memory). x.dims.items) memories) array m.dims.items [] (slice_get-map (λ (x : Memory). x.dims.items) memories array ∙ ap (option_map (λ (x : Memory). x.dims.items)) at)

signed_if : (signed : Bool) (some_ none_ : Bool) → (if signed then some_ else none_) ≡ true → (none_ ≡ true → some_ ≡ true → ⊥) → some_ ≡ true → signed ≡ true
signed_if true some_ none_ h apart is = refl
signed_if false some_ none_ h apart is = absurd (apart h is)

not_both : {A : Type 0} (x : Option A) → is_none x ≡ true → is_some x ≡ true → ⊥
not_both None n s = false≢true s
not_both (Some y) n s = false≢true n

module _ {S : Type 0} (f : Frame) (carried : List Out) (before : List (Op S)) (op : Op S) (valid : is_operation f carried before op ≡ true) where
  -- ---- what validity says

  pub guarded : is_operand_if f.variables.items carried before 1 op.guard ≡ true
  guarded = first_of_both _ _ (second_of_both (is_width_of op.kind op.bits && is_flagged op) _ valid)

  pub acting : (kind : OpKind) → op.kind ≡ kind → acts f carried before op kind ≡ true
  acting kind is = ap (acts f carried before op) (sym is) ∙ second_of_both (is_operand_if f.variables.items carried before 1 op.guard) _ (second_of_both (is_width_of op.kind op.bits && is_flagged op) _ valid)

  flagged : (kind : OpKind) → op.kind ≡ kind → (if may_be_undefined kind op.signed then is_some op.flag else is_none op.flag) ≡ true
  flagged kind is =
      ap (λ (k : OpKind). if may_be_undefined k op.signed then is_some op.flag else is_none op.flag) (sym is) ∙ second_of_both (is_width_of op.kind op.bits) (is_flagged op) (first_of_both (is_width_of op.kind op.bits && is_flagged op) _ valid)

  -- ---- arguments

  abbrev AllName : List Operand → Type 0
  AllName = Each (Names f.variables.items carried before)

  loaded : (m : Memory) → loads f.variables.items carried before op m ≡ true → AllName op.args.items
  loaded m h = subscripts_name f.variables.items carried before op.args.items (second_of_both (length op.args.items == length m.dims.items) _ (second_of_both (m.bits == op.bits) _ h))

  stored : (m : Memory) → stores f.variables.items carried before op m ≡ true → AllName op.args.items
  stored m h =
      let shape = (m.bits == op.bits) && (is_none m.table && (length op.args.items == length m.dims.items + 1)) in
      let count : length op.args.items ≡ length m.dims.items + 1 = eqb-true _ _ (second_of_both (is_none m.table) _ (second_of_both (m.bits == op.bits) _ (first_of_both shape _ h))) in
      let args = second_of_both shape _ h in
      let subscripts = list_all (is_subscript f.variables.items carried before) (take (length m.dims.items) op.args.items) in
      stored_name f.variables.items carried before op.bits (length m.dims.items) op.args.items count (first_of_both subscripts _ args) (second_of_both subscripts _ args)

  accessed : accesses f carried before op ≡ true → AllName op.args.items
  accessed h = at (memory_of f.memories.items op.array) h where
    by : (m : Memory) (t : Bool) → (if t then stores f.variables.items carried before op m else loads f.variables.items carried before op m) ≡ true → AllName op.args.items
    by m true k = stored m k
    by m false k = loaded m k

    at : (m : Option Memory) → accesses_in f.variables.items carried before op m ≡ true → AllName op.args.items
    at None k = absurd (false≢true k)
    at (Some m) k = by m (is_store op.kind) k

  named_for : (kind : OpKind) → acts f carried before op kind ≡ true → AllName op.args.items
  named_for o.Load h = accessed h
  named_for o.Store h = accessed h
  named_for kind h = arguments_name f.variables.items carried before kind op.bits op.args.items (second_of_both (is_none op.array) _ h)

  pub all_name : AllName op.args.items
  all_name = named_for op.kind (acting op.kind refl)

  -- ---- accesses

  subscripts_fit : (more : ℕ) → AccessesArray f op more → (array : ArrayId) → op.array ≡ Some array → length op.args.items ≡ length (dims_of (shapes_of f) array) + more
  subscripts_fit more access array is =
      let same : access.array ≡ array = (let both : Some access.array ≡ Some array = sym access.named ∙ is in cc) in
      let dims : dims_of (shapes_of f) array ≡ access.memory.dims.items = ap (λ (a : ArrayId). dims_of (shapes_of f) a) (sym same) ∙ dims_are f.memories.items access.array.0 access.memory access.stands in
      access.count ∙ ap (λ (l : List ℕ). length l + more) (sym dims)

  load_sound : op.kind ≡ o.Load → IsSoundAccess (shapes_of f) (op_of op) (length op.args.items)
  load_sound is = record {
    flagged = flagged o.Load is;
    subscripted = λ array named. (let fit = subscripts_fit 0 (load_accesses f carried before op is valid) array named in omega (arith, fit));
  }

  store_sound : op.kind ≡ o.Store → IsSoundAccess (shapes_of f) (op_of op) (length op.args.items - 1)
  store_sound is = record {
    flagged = flagged o.Store is;
    subscripted = λ array named. (let fit = subscripts_fit 1 (store_accesses f carried before op is valid) array named in omega (arith, fit));
  }

  -- ---- sums

  -- among these operations, of which the first ones stand before
  module _ (ops : List OpTree) (within : (j : ℕ) (other : Op S) → slice_get before j ≡ Some other → slice_get ops j ≡ Some (op_of other)) where
    sum_sound : (if op.signed then is_some op.flag else is_none op.flag) ≡ true → are_two f.variables.items carried before op.bits op.args.items ≡ true → is_some op.flag ≡ true → IsSoundSum (shapes_of f) ops (op_of op)
    sum_sound may two is = record {
      signed = signed_if op.signed (is_some op.flag) (is_none op.flag) may (not_both op.flag) is;
      some = (operation_between f carried before op valid).0;
      widths = two_wide (shapes_of f) carried before ops within op.bits op.args.items two;
    }

    sound_as : (kind : OpKind) → op.kind ≡ kind → IsSoundAs (shapes_of f) ops (op_of op) kind
    sound_as o.Load is = load_sound is
    sound_as o.Store is = store_sound is
    sound_as o.Add is = sum_sound (flagged o.Add is) (second_of_both (is_none op.array) _ (acting o.Add is))
    sound_as o.Sub is = sum_sound (flagged o.Sub is) (second_of_both (is_none op.array) _ (acting o.Sub is))
    sound_as kind is = tt

    pub operation_sound : IsSoundOp (shapes_of f) carried ops (length before) (op_of op)
    operation_sound = record {
      args = operands_stand f.variables.items carried before op.args.items all_name;
      guard = operand_if_stands f.variables.items carried before 1 op.guard guarded;
      kind = sound_as op.kind refl;
    }
