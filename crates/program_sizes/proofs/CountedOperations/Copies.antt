-- Copies: at most one operation for each variable that a block of a loop's body sets; forks stay as they are.
use Rattle.std.proofs.Common.{◌≡◌, ◌≤◌, ℕ, ◌+◌, Bool, true, false, refl, arith, List, [], ◌∷◌, ◌++◌, length, length-append}
use Rattle.std.specs.Prelude.{if◌then◌else◌}
use Rattle.hls_base.specs.declared.number.VarId.{VarId}
use Rattle.c_value.specs.Values.{width}
use Rattle.ir_core.specs.declared.body.OpKind.TheVariants as o
use Rattle.ir_core.specs.declared.body.Out.{Out}
use Rattle.ir_core.specs.Trees.{BlockTree, SequenceTree, sequence, PartTrees, no_part, more_parts}
use Rattle.passes.specs.Lowering.Operations.{Emitted, gives, added, plain}
use Rattle.passes.specs.Lowering.Blocks.{Scope, variable_type}
use Rattle.passes.specs.Lowering.Copies.{Fixed, Copied, parts_set, needs_copy, own_operand, with_own, copied_out, copied_outs, copied_block, copied_parts, copied, fixed_in, fixed_behind, fixed_behind_shape}
use Rattle.passes.specs.Totals.{operations, settings, sequence_total, parts_total}
use Rattle.passes.specs.OperationCount.Forks.{sequence_additions, parts_additions}
use Rattle.program_sizes.proofs.CountedOperations.Conversions.{one_more}

-- ---- blocks

-- one operation more at most, and one variable more that is set
record AddsCopy (s t : Copied) (n : ℕ) : Type 0 where
  operations : length t.ops ≤ length s.ops + n
  settings : length t.outs ≡ length s.outs + n

own_operand_adds : (scope : Scope) (fixed : Fixed) (s : Copied) (x : Out) → length (own_operand scope fixed s x).ops ≤ length s.ops + 1
own_operand_adds scope fixed s x = by (needs_copy fixed s.taken x.value x.value.value) where
  by : (needs : Bool) → length (if needs then added s.ops (plain o.Copy (width (variable_type scope x.variable)) (x.value ∷ [])) else gives s.ops x.value).ops ≤ length s.ops + 1
  by true = one_more s.ops (plain o.Copy (width (variable_type scope x.variable)) (x.value ∷ []))
  by false = omega arith

copied_out_adds : (scope : Scope) (later : PartTrees) (fixed : Fixed) (s : Copied) (x : Out) → AddsCopy s (copied_out scope later fixed s x) 1
copied_out_adds scope later fixed s x = by (parts_set later x.variable) where
  own : Emitted
  own = own_operand scope fixed s x

  by : (again : Bool) → AddsCopy s (if again then record s { outs = s.outs ++ x ∷ [] } else with_own x.variable s own) 1
  by true = let e = length-append s.outs (x ∷ []) in record { operations = omega arith; settings = omega (arith, e) }
  by false = let e = length-append s.outs (record { variable = x.variable; value = own.operand } ∷ []) in record { operations = own_operand_adds scope fixed s x; settings = omega (arith, e) }

copied_outs_add : (scope : Scope) (later : PartTrees) (fixed : Fixed) (s : Copied) (xs : List Out) → AddsCopy s (copied_outs scope later fixed s xs) (length xs)
copied_outs_add scope later fixed s [] = record { operations = omega arith; settings = omega arith }
copied_outs_add scope later fixed s (x ∷ xs) =
    let one = copied_out_adds scope later fixed s x in
    let two = copied_outs_add scope later fixed (copied_out scope later fixed s x) xs in
    let a = one.operations in
    let b = one.settings in
    let c = two.operations in
    let d = two.settings in
    record { operations = omega (arith, a, c); settings = omega (arith, b, d) }

module _ (scope : Scope) where
  block_operations : (later : PartTrees) (variables : VarId → Bool) (b : BlockTree) → length (copied_block scope later variables b).ops ≤ length b.ops + length b.outs
  block_operations later variables b = (copied_outs_add scope later (fixed_in variables b) (record { ops = b.ops; outs = []; taken = [] }) b.outs).operations

  block_settings : (later : PartTrees) (variables : VarId → Bool) (b : BlockTree) → length (copied_block scope later variables b).outs ≡ length b.outs
  block_settings later variables b = let e = (copied_outs_add scope later (fixed_in variables b) (record { ops = b.ops; outs = []; taken = [] }) b.outs).settings in omega (arith, e)

  -- ---- parts

  parts_operations : (variables : VarId → Bool) (ps : PartTrees) → parts_total operations (copied_parts scope variables ps) ≤ parts_total operations ps + parts_total settings ps
  parts_operations variables no_part = omega arith
  parts_operations variables (more_parts shape after rest) =
      let one = block_operations rest (fixed_behind_shape shape variables) after in
      let more = parts_operations (fixed_behind rest (fixed_behind_shape shape variables) after) rest in
      omega (arith, one, more)

  parts_settings : (variables : VarId → Bool) (ps : PartTrees) → parts_total settings (copied_parts scope variables ps) ≡ parts_total settings ps
  parts_settings variables no_part = refl
  parts_settings variables (more_parts shape after rest) =
      let one = block_settings rest (fixed_behind_shape shape variables) after in
      let more = parts_settings (fixed_behind rest (fixed_behind_shape shape variables) after) rest in
      omega (arith, one, more)

  parts_forks : (variables : VarId → Bool) (ps : PartTrees) → parts_additions (copied_parts scope variables ps) ≡ parts_additions ps
  parts_forks variables no_part = refl
  parts_forks variables (more_parts shape after rest) = let more = parts_forks (fixed_behind rest (fixed_behind_shape shape variables) after) rest in omega (arith, more)

  -- ---- the body of a loop

  pub copied_operations : (s : SequenceTree) → sequence_total operations (copied scope s) ≤ sequence_total operations s + sequence_total settings s
  copied_operations (sequence first rest) =
      let one = block_operations rest (λ v. false) first in
      let more = parts_operations (fixed_behind rest (λ v. false) first) rest in
      omega (arith, one, more)

  pub copied_settings : (s : SequenceTree) → sequence_total settings (copied scope s) ≡ sequence_total settings s
  copied_settings (sequence first rest) =
      let one = block_settings rest (λ v. false) first in
      let more = parts_settings (fixed_behind rest (λ v. false) first) rest in
      omega (arith, one, more)

  pub copied_additions : (s : SequenceTree) → sequence_additions (copied scope s) ≡ sequence_additions s
  copied_additions (sequence first rest) = parts_forks (fixed_behind rest (λ v. false) first) rest
