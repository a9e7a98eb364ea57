-- When the body of a block or of a loop is valid.
use Rattle.std.specs.Prelude.{ℕ, ◌^◌, ◌==◌, ◌&&◌, not, nat_lt, Bool, true, false, List, [], ◌∷◌, ◌++◌, length, take, slice_get, Option, Some, None, is_none}
use Rattle.std.specs.List.{list_all, list_any}
use Rattle.ir_core.specs.declared.body.Body.{Body}
use Rattle.ir_core.specs.declared.body.Op.{Op}
use Rattle.ir_core.specs.declared.body.Out.{Out}
use Rattle.ir_core.specs.declared.body.Source.{Source}
use Rattle.ir_core.specs.declared.body.Source.TheVariants as source
use Rattle.ir_core.specs.declared.cfg.Frame.{Frame}
use Rattle.dep_graph.specs.Meetings.{is_store}
use Rattle.ir_core.specs.TreeRuns.{tested}
use Rattle.program_validity.specs.Operands.{is_operand, is_operand_if}
use Rattle.program_validity.specs.Operations.{is_operation}

-- ---- operations and outs

-- each operation, behind all that stand before it
abbrev pub are_operations : {S : Type 0} → Frame → List Out → List (Op S) → List (Op S) → Bool
are_operations f carried before [] = true
are_operations f carried before (op ∷ ops) = is_operation f carried before op && are_operations f carried (before ++ op ∷ []) ops

abbrev pub is_set : {S : Type 0} → Frame → List Out → List (Op S) → Out → Option ℕ → Bool
is_set f carried ops out None = false
is_set f carried ops out (Some bits) = is_operand f.variables.items carried ops bits out.value

-- an out sets a variable to a value of its width
abbrev pub is_out : {S : Type 0} → Frame → List Out → List (Op S) → Out → Bool
is_out f carried ops out = is_set f carried ops out (slice_get f.variables.items out.variable.0)

-- what a body does that carries these outs to its next iteration
abbrev pub is_body : {S : Type 0} → Frame → List Out → Body S → Bool
is_body f carried b =
    nat_lt (length b.ops.items) (2 ^ 32) && (are_operations f carried [] b.ops.items && list_all (is_out f carried b.ops.items) b.outs.items)

-- ---- blocks

abbrev pub is_block_body : {S : Type 0} → Frame → Body S → Bool
is_block_body f b = is_none b.test && is_body f [] b

-- ---- loops

abbrev pub names_result : Source → Source → Bool
names_result (source.Result j) (source.Result k) = j.0 == k.0
names_result s t = false

abbrev pub is_result : Source → Bool
is_result (source.Result j) = true
is_result s = false

abbrev pub is_result_out : Out → Bool
is_result_out out = is_result out.value.value

abbrev pub is_named_again : Out → List Out → Bool
is_named_again x xs = list_any (λ (y : Out). names_result x.value.value y.value.value) xs

-- no two outs name one operation
abbrev pub name_different : List Out → Bool
name_different [] = true
name_different (x ∷ xs) = not (is_named_again x xs) && name_different xs

abbrev pub is_no_store : {S : Type 0} → Op S → Bool
is_no_store op = not (is_store op.kind)

-- no store comes before the test is known
abbrev pub stores_wait : {S : Type 0} → Body S → Bool
stores_wait b = list_all is_no_store (take (tested b.test) b.ops.items)

abbrev pub is_loop_body : {S : Type 0} → Frame → Body S → Bool
is_loop_body f b =
    (is_body f b.outs.items b && is_operand_if f.variables.items b.outs.items b.ops.items 1 b.test)
    && ((list_all is_result_out b.outs.items && name_different b.outs.items) && stores_wait b)
