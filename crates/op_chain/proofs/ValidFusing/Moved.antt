-- An operation on moved operands fits behind the new operations where it fitted behind the old ones.
use Rattle.std.proofs.Common.{◌≡◌, ◌∙◌, ◌+◌, ℕ, zero, suc, refl, sym, ap, ap₂, Bool, true, false, ◌&&◌, List, [], ◌∷◌, length, map, take, Option, Some, None}
use Rattle.std.specs.Prelude.{◌==◌, slice_get, is_some, is_none, if◌then◌else◌}
use Rattle.std.specs.List.{list_all}
use Rattle.std.specs.Option.{option_map}
use Rattle.std.proofs.lemmas.List.{length-map, take-map}
use Rattle.ir_core.specs.declared.body.OpKind.{OpKind}
use Rattle.ir_core.specs.declared.body.OpKind.TheVariants as o
use Rattle.ir_core.specs.declared.body.Operand.{Operand}
use Rattle.ir_core.specs.declared.body.Out.{Out}
use Rattle.ir_core.specs.declared.body.Source.{Source}
use Rattle.ir_core.specs.declared.body.Source.TheVariants as source
use Rattle.ir_core.specs.declared.cfg.Frame.{Frame}
use Rattle.ir_core.specs.declared.cfg.Memory.{Memory}
use Rattle.ir_core.specs.Bodies.{OpTree}
use Rattle.dep_graph.specs.Offsets.{result_of, maker}
use Rattle.dep_graph.specs.Meetings.{is_store}
use Rattle.program_validity.specs.Operands.{is_at, is_exactly, is_any_width}
use Rattle.program_validity.specs.Operations.{is_width_of, converts, memory_of}
use Rattle.op_chain.specs.Fusing.{moved_source, moved, moved_op, moved_out}
use Rattle.op_chain.proofs.ValidFusing.Trees as trees
use Rattle.op_chain.proofs.ValidFusing.Bridge.{both_same}

-- ---- distances

maker_some : (now : List ℕ) (v : ℕ) (outs : List Out) → is_some (maker (map (moved_out now) outs) v) ≡ is_some (maker outs v)
maker_some now v [] = refl
maker_some now v (x ∷ outs) = by (x.variable.0 == v) x.value.value (maker_some now v outs) where
  by : (c : Bool) (s : Source) → is_some (maker (map (moved_out now) outs) v) ≡ is_some (maker outs v)
      → is_some (if c then result_of (moved_source now s) else maker (map (moved_out now) outs) v) ≡ is_some (if c then result_of s else maker outs v)
  by true (source.Constant c) further = refl
  by true (source.Variable w) further = refl
  by true (source.Result j) further = refl
  by false s further = further

-- an operand keeps its distance
pub at_same : (whole now : List ℕ) (carried : List Out) (s : Source) (distance : ℕ) → is_at carried s distance ≡ is_at (map (moved_out whole) carried) (moved_source now s) distance
at_same whole now carried (source.Constant c) distance = refl
at_same whole now carried (source.Variable v) distance = ap (λ b. distance == (if b then 1 else 0)) (sym (maker_some whole v.0 carried))
at_same whole now carried (source.Result j) distance = refl

-- ---- operands

-- in a body that carries these outs, behind the old operations and behind the new ones, where the old results have these new numbers
module _ (widths : List ℕ) (carried : List Out) (whole : List ℕ) (before behind : List OpTree) (now : List ℕ) where
  abbrev outs : List Out
  outs = map (moved_out whole) carried

  -- the operand has the width that it had
  abbrev pub IsSame : Operand → Type 0
  IsSame x = trees.width_at widths carried before x.value ≡ trees.width_at widths (map (moved_out whole) carried) behind (moved_source now x.value)

  abbrev pub AllSame : List Operand → Type 0
  AllSame [] = Unit {0}
  AllSame (x ∷ xs) = IsSame x × AllSame xs

  abbrev pub IsSameIf : Option Operand → Type 0
  IsSameIf None = Unit {0}
  IsSameIf (Some x) = IsSame x

  bits_same : (bits : ℕ) (s : Source) → trees.width_at widths carried before s ≡ trees.width_at widths outs behind (moved_source now s) → trees.bits_fit widths carried before bits s ≡ trees.bits_fit widths outs behind bits (moved_source now s)
  bits_same bits (source.Constant c) h = refl
  bits_same bits (source.Variable v) h = ap (is_exactly bits) h
  bits_same bits (source.Result j) h = ap (is_exactly bits) h

  pub operand_same : (bits : ℕ) (x : Operand) → IsSame x → trees.operand_fits widths carried before bits x ≡ trees.operand_fits widths outs behind bits (moved now x)
  operand_same bits x h = both_same (bits_same bits x.value h) (at_same whole now carried x.value x.distance)

  pub operand_if_same : (bits : ℕ) (x : Option Operand) → IsSameIf x → trees.operand_if_fits widths carried before bits x ≡ trees.operand_if_fits widths outs behind bits (option_map (moved now) x)
  operand_if_same bits None h = refl
  operand_if_same bits (Some x) h = operand_same bits x h

  subscript_as_same : (s : Source) (distance : ℕ) → trees.width_at widths carried before s ≡ trees.width_at widths outs behind (moved_source now s)
      → trees.subscript_as_fits widths carried before s distance ≡ trees.subscript_as_fits widths outs behind (moved_source now s) distance
  subscript_as_same (source.Constant c) distance h = refl
  subscript_as_same (source.Variable v) distance h = both_same (ap is_any_width h) (at_same whole now carried (source.Variable v) distance)
  subscript_as_same (source.Result j) distance h = both_same (ap is_any_width h) refl

  subscripts_same : (xs : List Operand) → AllSame xs → list_all (trees.subscript_fits widths carried before) xs ≡ list_all (trees.subscript_fits widths outs behind) (map (moved now) xs)
  subscripts_same [] h = refl
  subscripts_same (x ∷ xs) h = both_same (subscript_as_same x.value x.distance h.0) (subscripts_same xs h.1)

  -- ---- arguments

  one_same : (bits : ℕ) (xs : List Operand) → AllSame xs → trees.one_fits widths carried before bits xs ≡ trees.one_fits widths outs behind bits (map (moved now) xs)
  one_same bits [] h = refl
  one_same bits (x ∷ []) h = operand_same bits x h.0
  one_same bits (x ∷ y ∷ ys) h = refl

  two_same : (bits : ℕ) (xs : List Operand) → AllSame xs → trees.two_fit widths carried before bits xs ≡ trees.two_fit widths outs behind bits (map (moved now) xs)
  two_same bits [] h = refl
  two_same bits (x ∷ []) h = refl
  two_same bits (x ∷ y ∷ []) h = both_same (operand_same bits x h.0) (operand_same bits y h.1.0)
  two_same bits (x ∷ y ∷ z ∷ zs) h = refl

  three_same : (first bits : ℕ) (xs : List Operand) → AllSame xs → trees.three_fit widths carried before first bits xs ≡ trees.three_fit widths outs behind first bits (map (moved now) xs)
  three_same first bits [] h = refl
  three_same first bits (x ∷ []) h = refl
  three_same first bits (x ∷ y ∷ []) h = refl
  three_same first bits (x ∷ y ∷ z ∷ []) h = both_same (operand_same first x h.0) (both_same (operand_same bits y h.1.0) (operand_same bits z h.1.1.0))
  three_same first bits (x ∷ y ∷ z ∷ t ∷ ts) h = refl

  converted_same : (kind : OpKind) (bits : ℕ) (xs : List Operand) → AllSame xs → trees.converted_fits widths carried before kind bits xs ≡ trees.converted_fits widths outs behind kind bits (map (moved now) xs)
  converted_same kind bits [] h = refl
  converted_same kind bits (x ∷ []) h = both_same (ap (converts kind bits) h.0) (at_same whole now carried x.value x.distance)
  converted_same kind bits (x ∷ y ∷ ys) h = refl

  arguments_same : (kind : OpKind) (bits : ℕ) (xs : List Operand) → AllSame xs → trees.arguments_fit widths carried before kind bits xs ≡ trees.arguments_fit widths outs behind kind bits (map (moved now) xs)
  arguments_same o.Not bits xs h = one_same bits xs h
  arguments_same o.Neg bits xs h = one_same bits xs h
  arguments_same o.Copy bits xs h = one_same bits xs h
  arguments_same o.Widen bits xs h = converted_same o.Widen bits xs h
  arguments_same o.Narrow bits xs h = converted_same o.Narrow bits xs h
  arguments_same o.Truth bits xs h = converted_same o.Truth bits xs h
  arguments_same o.Select bits xs h = three_same 1 bits xs h
  arguments_same (o.Fused pairing) bits xs h = three_same bits bits xs h
  arguments_same kind bits xs h = two_same bits xs h

  -- ---- accesses

  taken_same : (n : ℕ) (xs : List Operand) → AllSame xs → AllSame (take n xs)
  taken_same zero xs h = tt
  taken_same (suc n) [] h = tt
  taken_same (suc n) (x ∷ xs) h = (h.0, taken_same n xs h.1)

  load_same : (op : OpTree) (m : Memory) → AllSame op.args → trees.load_fits widths carried before op m ≡ trees.load_fits widths outs behind (moved_op now op) m
  load_same op m h =
      ap₂ (λ (n : ℕ) (b : Bool). (m.bits == op.bits) && ((n == length m.dims.items) && b)) (sym (length-map op.args (moved now))) (subscripts_same op.args h)

  stored_same : (bits n : ℕ) (xs : List Operand) → AllSame xs → trees.stored_fits widths carried before bits (slice_get xs n) ≡ trees.stored_fits widths outs behind bits (slice_get (map (moved now) xs) n)
  stored_same bits n [] h = refl
  stored_same bits zero (x ∷ xs) h = operand_same bits x h.0
  stored_same bits (suc n) (x ∷ xs) h = stored_same bits n xs h.1

  store_same : (op : OpTree) (m : Memory) → AllSame op.args → trees.store_fits widths carried before op m ≡ trees.store_fits widths outs behind (moved_op now op) m
  store_same op m h =
      let dims = length m.dims.items in
      both_same (ap (λ (n : ℕ). (m.bits == op.bits) && (is_none m.table && (n == dims + 1))) (sym (length-map op.args (moved now))))
      (both_same (subscripts_same (take dims op.args) (taken_same dims op.args h) ∙ ap (list_all (trees.subscript_fits widths outs behind)) (sym (take-map (moved now) dims op.args))) (stored_same op.bits dims op.args h))

  access_same : (op : OpTree) (m : Option Memory) → AllSame op.args → trees.access_fits widths carried before op m ≡ trees.access_fits widths outs behind (moved_op now op) m
  access_same op None h = refl
  access_same op (Some m) h = ap₂ (λ (p : Bool) (q : Bool). if is_store op.kind then p else q) (store_same op m h) (load_same op m h)

-- ---- operations

module _ (f : Frame) (carried : List Out) (whole : List ℕ) (before behind : List OpTree) (now : List ℕ) where
  acts_same : (op : OpTree) (kind : OpKind) → AllSame f.variables.items carried whole before behind now op.args → trees.acts_fit f carried before op kind ≡ trees.acts_fit f (map (moved_out whole) carried) behind (moved_op now op) kind
  acts_same op o.Load h = access_same f.variables.items carried whole before behind now op (memory_of f.memories.items op.array) h
  acts_same op o.Store h = access_same f.variables.items carried whole before behind now op (memory_of f.memories.items op.array) h
  acts_same op kind h = ap (λ b. is_none op.array && b) (arguments_same f.variables.items carried whole before behind now kind op.bits op.args h)

  pub operation_same : (op : OpTree) → AllSame f.variables.items carried whole before behind now op.args → IsSameIf f.variables.items carried whole before behind now op.guard
      → trees.operation_fits f carried before op ≡ trees.operation_fits f (map (moved_out whole) carried) behind (moved_op now op)
  operation_same op args guard =
      ap₂ (λ (b : Bool) (c : Bool). (is_width_of op.kind op.bits && trees.is_flagged op) && (b && c)) (operand_if_same f.variables.items carried whole before behind now 1 op.guard guard) (acts_same op op.kind args)
