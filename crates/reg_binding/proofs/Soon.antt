-- What the iterations of an early loop read, they read within 2^32 periods.
use Rattle.std.proofs.Common.{ℕ, zero, suc, ◌+◌, ◌-◌, ◌*◌, ◌^◌, ◌<◌, ◌≤◌, Bool, true, false, List, [], ◌∷◌, ◌++◌, arith}
use Rattle.std.specs.Prelude.{◌==◌, if◌then◌else◌, slice_get, Option, Some, None, IfSome, option_to_list}
use Rattle.std.specs.List.{All, flat_map}
use Rattle.std.proofs.Math.Nat.{mul-le-mul_right}
use Rattle.std.proofs.lemmas.List.Elements.{All-nil, All-cons, All-head, All-tail, All-append}
use Rattle.ir_core.specs.declared.body.Op.{Op}
use Rattle.ir_core.specs.declared.body.OpKind.{OpKind}
use Rattle.ir_core.specs.declared.body.OpKind.TheVariants as o
use Rattle.ir_core.specs.declared.body.Operand.{Operand}
use Rattle.ir_core.specs.declared.body.Out.{Out}
use Rattle.ir_core.specs.declared.body.Source.{Source}
use Rattle.ir_core.specs.declared.body.Source.TheVariants as source
use Rattle.ir_core.specs.declared.cfg.Loop.{Loop}
use Rattle.ir_core.specs.Timing.{latency}
use Rattle.ir_core.specs.declared.timed.Timed.{Timed}
use Rattle.reg_binding.specs.declared.life.Read.{Read}
use Rattle.reg_binding.specs.Lives as spec
use Rattle.reg_binding.specs.SmallTimes.{IsNear, IsNearOut, IsEarlyOp, IsEarlyLoop}

near_if_some : (x : Option Operand) → IfSome x IsNear → All IsNear (option_to_list x)
near_if_some None h = All-nil IsNear
near_if_some (Some x) h = All-cons IsNear x [] h (All-nil IsNear)

latency_low : (kind : OpKind) (bits : ℕ) → latency kind bits ≤ bits + 2
latency_low o.Mul bits = omega arith
latency_low o.Load bits = omega arith
latency_low o.Div bits = omega arith
latency_low o.Rem bits = omega arith
latency_low kind bits = omega arith

ready_early : (op : Op Timed) → IsEarlyOp op → spec.ready op ≤ 2 ^ 32 - 2 ^ 24
ready_early op h = omega (arith, h.start, h.narrow, latency_low op.kind op.bits)

ready_in_early : (ops : List (Op Timed)) (k : ℕ) → All IsEarlyOp ops → spec.ready_in (slice_get ops k) ≤ 2 ^ 32 - 2 ^ 24
ready_in_early [] k h = omega arith
ready_in_early (op ∷ ops) zero h = ready_early op (All-head IsEarlyOp op ops h)
ready_in_early (op ∷ ops) (suc k) h = ready_in_early ops k (All-tail IsEarlyOp op ops h)

known_early : (ops : List (Op Timed)) (x : Source) → All IsEarlyOp ops → spec.known ops x ≤ 2 ^ 32 - 2 ^ 24
known_early ops (source.Constant word) h = omega arith
known_early ops (source.Variable v) h = omega arith
known_early ops (source.Result op) h = ready_in_early ops op.0 h

-- ---- the last of reads that all come before a time

module _ (limit : ℕ) where
  abbrev IsBefore : Read → Type 0
  IsBefore read = read.time < limit

  later_before : (known : Option ℕ) (time : ℕ) → IfSome known (λ t. t < limit) → time < limit → spec.later known time < limit
  later_before None time h lt = lt
  later_before (Some before) time h lt = omega arith

  next_before : (b : Bool) (known : Option ℕ) (time : ℕ) → IfSome known (λ t. t < limit) → time < limit → IfSome (if b then Some (spec.later known time) else known) (λ t. t < limit)
  next_before true known time h lt = later_before known time h lt
  next_before false known time h lt = h

  last_from_before : (known : Option ℕ) (reads : List Read) (k : ℕ) → IfSome known (λ t. t < limit) → All IsBefore reads → IfSome (spec.last_from known reads k) (λ t. t < limit)
  last_from_before known [] k h all = h
  last_from_before known (r ∷ rs) k h all =
      last_from_before (if r.op == k then Some (spec.later known r.time) else known) rs k (next_before (r.op == k) known r.time h (All-head IsBefore r rs all)) (All-tail IsBefore r rs all)

-- ---- the reads of an early loop

module _ (region : Loop Timed) (early : IsEarlyLoop region) where
  abbrev limit : ℕ
  limit = 2 ^ 32 * spec.period region

  abbrev IsSoon : Read → Type 0
  IsSoon = IsBefore limit

  abbrev outs : List Out
  outs = region.body.outs.items

  abbrev reads_at : ℕ → Operand → List Read
  reads_at = spec.iteration_reads outs region.ii

  reach : (time distance : ℕ) → time ≤ 2 ^ 32 - 2 ^ 24 + region.ii → distance ≤ 2 ^ 16 → time + distance * region.ii < limit
  reach time distance soon near = omega (arith, soon, mul-le-mul_right region.ii near)

  made_soon : (made : Option ℕ) (time : ℕ) → time < limit → All IsSoon (spec.read_of made time)
  made_soon None time lt = All-nil IsSoon
  made_soon (Some op) time lt = All-cons IsSoon (record { op = op; time = time }) [] lt (All-nil IsSoon)

  operand_soon : (time : ℕ) → time ≤ 2 ^ 32 - 2 ^ 24 + region.ii → (x : Operand) → IsNear x → All IsSoon (reads_at time x)
  operand_soon time soon x near = made_soon (spec.source_maker outs x.value) (time + x.distance * region.ii) (reach time x.distance soon near)

  gathered : {A : Type 0} (P : A → Type 0) (f : A → List Read) → ((x : A) → P x → All IsSoon (f x)) → (xs : List A) → All P xs → All IsSoon (flat_map f xs)
  gathered P f each [] h = All-nil IsSoon
  gathered P f each (x ∷ xs) h = All-append IsSoon (f x) (flat_map f xs) (each x (All-head P x xs h)) (gathered P f each xs (All-tail P x xs h))

  operands_soon : (time : ℕ) → time ≤ 2 ^ 32 - 2 ^ 24 + region.ii → (xs : List Operand) → All IsNear xs → All IsSoon (flat_map (reads_at time) xs)
  operands_soon time soon xs near = gathered IsNear (reads_at time) (operand_soon time soon) xs near

  op_soon : (op : Op Timed) → IsEarlyOp op → All IsSoon (spec.iteration_op_reads outs region.ii op)
  op_soon op h =
      let soon : op.stamp.start ≤ 2 ^ 32 - 2 ^ 24 + region.ii = omega (arith, h.start) in
      All-append IsSoon (flat_map (reads_at op.stamp.start) (option_to_list op.guard)) (flat_map (reads_at op.stamp.start) op.args.items)
      (operands_soon op.stamp.start soon (option_to_list op.guard) (near_if_some op.guard h.guard)) (operands_soon op.stamp.start soon op.args.items h.args)

  test_soon : (x : Operand) → IsNear x → All IsSoon (spec.test_reads region x)
  test_soon x near = operand_soon (spec.known region.body.ops.items x.value) (omega (arith, known_early region.body.ops.items x.value early.body.ops)) x near

  if_soon : (b : Bool) (reads : List Read) → All IsSoon reads → All IsSoon (if b then reads else [])
  if_soon true reads h = h
  if_soon false reads h = All-nil IsSoon

  left_soon : (behind : ℕ → Bool) (out : Out) → IsNearOut out → All IsSoon (spec.left_reads behind outs region.ii (region.ii + region.exit) out)
  left_soon behind out near =
      if_soon (behind out.variable.0) (reads_at (region.ii + region.exit) out.value) (operand_soon (region.ii + region.exit) (omega (arith, early.exit)) out.value near)

  reads_soon : (behind : ℕ → Bool) → All IsSoon (spec.loop_reads behind region)
  reads_soon behind =
      let of_op = spec.iteration_op_reads outs region.ii in
      let of_test = spec.test_reads region in
      let of_out = spec.left_reads behind outs region.ii (region.ii + region.exit) in
      let made : All IsSoon (flat_map of_op region.body.ops.items) = gathered IsEarlyOp of_op op_soon region.body.ops.items early.body.ops in
      let tested : All IsSoon (flat_map of_test (option_to_list region.body.test)) =
      gathered IsNear of_test test_soon (option_to_list region.body.test) (near_if_some region.body.test early.body.test) in
      let left : All IsSoon (flat_map of_out outs) = gathered IsNearOut of_out (left_soon behind) outs early.body.outs in
      let inside = All-append IsSoon (flat_map of_op region.body.ops.items) (flat_map of_test (option_to_list region.body.test)) made tested in
      All-append IsSoon (flat_map of_op region.body.ops.items ++ flat_map of_test (option_to_list region.body.test)) (flat_map of_out outs) inside left

  pub last_soon : (behind : ℕ → Bool) (k : ℕ) → IfSome (spec.last_read (spec.loop_reads behind region) k) (λ time. time < limit)
  last_soon behind k = last_from_before limit None (spec.loop_reads behind region) k tt (reads_soon behind)
