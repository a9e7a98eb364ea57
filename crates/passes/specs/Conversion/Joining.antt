-- The operations of one block behind those of another.
use Rattle.std.specs.Prelude.{ℕ, Bool, true, false, ◌||◌, List, [], ◌∷◌, ◌++◌, length, map, slice_get, Option, Some, None, is_some, if◌then◌else◌}
use Rattle.std.specs.Option.{option_map, option_eq}
use Rattle.ir_core.specs.declared.body.OpKind.{OpKind}
use Rattle.ir_core.specs.declared.body.OpKind.TheVariants as o
use Rattle.ir_core.specs.declared.body.Operand.{Operand}
use Rattle.ir_core.specs.declared.body.Out.{Out}
use Rattle.ir_core.specs.declared.body.Source.{Source}
use Rattle.ir_core.specs.declared.body.Source.TheVariants as source
use Rattle.ir_core.specs.Value.{value}
use Rattle.ir_core.specs.Timing.{result_bits}
use Rattle.ir_core.specs.Bodies.{OpTree}
use Rattle.ir_core.specs.Trees.{ExitTree, branch, choose}
use Rattle.passes.specs.Numbering.Equal.{operand_eq}
use Rattle.passes.specs.Numbering.Constants.{word_of}
use Rattle.passes.specs.Numbering.{Value, constant, result_of, operand_or, first_bits}
use Rattle.passes.specs.Conversion.Outs.{out, held}

-- a guard within a branch, or none, and the bit that says that the branch is taken and the guard holds
pub record Guard : Type 0 where
  pub own : Option Operand
  pub bit : Operand

-- a block to which another one is joined: the operations so far, what stands for the results of those that are joined, and the bits of guards that were made
pub record Joined : Type 0 where
  pub ops : List OpTree
  pub values : List Value
  pub guards : List Guard

-- ---- operands

abbrev pub standing_for : List Out → List Value → Operand → Source → Operand
standing_for outs values x (source.Constant word) = x
standing_for outs values x (source.Variable variable) = held outs variable
standing_for outs values x (source.Result op) = operand_or (slice_get values op.0) x

-- what stands for an operand of the block that is joined, behind these outs
abbrev pub renamed : List Out → List Value → Operand → Operand
renamed outs values x = standing_for outs values x x.value

abbrev pub renamed_op : List Out → List Value → OpTree → OpTree
renamed_op outs values op = record op { args = map (renamed outs values) op.args; guard = option_map (renamed outs values) op.guard }

abbrev pub renamed_out : List Out → List Value → Out → Out
renamed_out outs values x = out x.variable (renamed outs values x.value)

abbrev pub renamed_exit : List Out → List Value → ExitTree → ExitTree
renamed_exit outs values (branch test) = branch (renamed outs values test)
renamed_exit outs values (choose cases) = choose (map (renamed outs values) cases)
renamed_exit outs values exit = exit

-- ---- adding operations

abbrev pub with_one : List OpTree → OpTree → List OpTree
with_one ops op = ops ++ op ∷ []

-- the result of the operation that comes next
abbrev pub next_result : List OpTree → Operand
next_result ops = result_of (length ops)

abbrev pub with_result : Joined → Operand → ℕ → Joined
with_result s x bits = record s { values = s.values ++ record { operand = x; bits = bits } ∷ [] }

-- ---- guards

-- an operation of so many bits that C always gives a value
abbrev pub plain : OpKind → ℕ → List Operand → OpTree
plain kind bits args = record { kind = kind; signed = false; bits = bits; args = args; array = None; guard = None; flag = None }

abbrev pub bit_for : List Guard → Option Operand → Option Operand
bit_for [] own = None
bit_for (g ∷ gs) own = if option_eq operand_eq own g.own then Some g.bit else bit_for gs own

abbrev pub with_guard : Joined → Option Operand → OpTree → Joined
with_guard s own op = record s { ops = with_one s.ops op; guards = s.guards ++ record { own = own; bit = next_result s.ops } ∷ [] }

abbrev pub or_constant : Option Operand → Operand
or_constant None = constant 0
or_constant (Some x) = x

abbrev pub bit_in : Joined → Option Operand → Operand
bit_in s own = or_constant (bit_for s.guards own)

-- The bit of a branch for which the test is 1 is the test itself. That of the other one is made where an operation needs it first, ..
abbrev pub with_taken : Operand → Joined → Joined
with_taken test s = if is_some (bit_for s.guards None) then s else with_guard s None (plain o.Not 1 (test ∷ []))

-- .. and so is that of each guard within a branch.
abbrev pub with_both : Joined → Operand → Joined
with_both s own = with_guard s (Some own) (plain o.And 1 (bit_in s None ∷ own ∷ []))

abbrev pub with_bit : Operand → Joined → Option Operand → Joined
with_bit test s None = with_taken test s
with_bit test s (Some own) = if is_some (bit_for s.guards (Some own)) then s else with_both (with_taken test s) own

-- ---- operations

abbrev pub is_store : OpKind → Bool
is_store o.Store = true
is_store kind = false

-- An operation that may be undefined, and one that stores, may not run where control does not come to it.
abbrev pub needs_guard : OpTree → Bool
needs_guard op = is_some op.flag || is_store op.kind

abbrev pub with_value : Joined → OpTree → Operand → Joined
with_value s op x = with_result s x (result_bits op.kind op.bits)

abbrev pub with_op : Joined → OpTree → Option Operand → Joined
with_op s op guard = with_value (record s { ops = with_one s.ops (record op { guard = guard }) }) op (next_result s.ops)

abbrev pub guarded : Joined → OpTree → Joined
guarded s op = with_op s op (Some (bit_in s op.guard))

-- An operation that stays: in a branch of a fork with this test, or behind the fork, where control always comes.
abbrev pub staying : Option Operand → Joined → OpTree → Joined
staying None s op = with_op s op op.guard
staying (Some test) s op = if needs_guard op then guarded (with_bit test s op.guard) op else with_op s op op.guard

abbrev pub is_conversion : OpKind → Bool
is_conversion o.Widen = true
is_conversion o.Narrow = true
is_conversion o.Truth = true
is_conversion kind = false

abbrev pub converted : OpTree → ℕ → Option ℕ → Option ℕ
converted op from None = None
converted op from (Some word) = if is_conversion op.kind then Some (value op.kind op.signed op.bits from (word ∷ [])) else None

abbrev pub first_word : List Operand → Option ℕ
first_word [] = None
first_word (x ∷ xs) = word_of x.value

abbrev pub by_word : Option Operand → Joined → OpTree → Option ℕ → Joined
by_word test s op (Some word) = with_value s op (constant word)
by_word test s op None = staying test s op

-- One operation more, on what stands for its operands. The conversion of a constant is computed.
abbrev pub joined_op : List ℕ → List Out → Option Operand → Joined → OpTree → Joined
joined_op widths outs test s op =
    by_word test s (renamed_op outs s.values op) (converted op (first_bits widths s.values op.bits op.args) (first_word (map (renamed outs s.values) op.args)))

abbrev pub joined_ops : List ℕ → List Out → Option Operand → Joined → List OpTree → Joined
joined_ops widths outs test s [] = s
joined_ops widths outs test s (op ∷ ops) = joined_ops widths outs test (joined_op widths outs test s op) ops
