-- What numbering makes of a block, and of each block of a tree.
pub mod Equal
pub mod Constants
pub mod Examples
use Rattle.std.specs.Prelude.{ℕ, zero, suc, ◌+◌, ◌==◌, Bool, true, false, not, ◌&&◌, ◌||◌, List, [], ◌∷◌, ◌++◌, length, map, get_or, slice_get, Option, Some, None, is_some, if◌then◌else◌}
use Rattle.std.specs.Option.{option_map}
use Rattle.ir_core.specs.declared.body.OpKind.{OpKind}
use Rattle.ir_core.specs.declared.body.OpKind.TheVariants as o
use Rattle.ir_core.specs.declared.body.Operand.{Operand}
use Rattle.ir_core.specs.declared.body.Out.{Out}
use Rattle.ir_core.specs.declared.body.Source.{Source}
use Rattle.ir_core.specs.declared.body.Source.TheVariants as source
use Rattle.ir_core.specs.Timing.{result_bits}
use Rattle.ir_core.specs.Bodies.{OpTree}
use Rattle.ir_core.specs.Trees.{ExitTree, branch, choose, BlockTree, SequenceTree, sequence, PartTrees, no_part, more_parts, ShapeTree, fork, loop, switch, land, overlapped, SideTree, no_side, side, ArmTrees, no_arm, more_arms}
use Rattle.passes.specs.Numbering.Equal.{is_equal}
use Rattle.passes.specs.Numbering.Constants.{computed}

-- where a block stands: the widths of the variables, and whether two operations that each make an out stay two, as in a loop that may be overlapped
pub record Scope : Type 0 where
  pub widths : List ℕ
  pub apart : Bool

-- what stands for the result of an operation of the block before, and the width of this result
pub record Value : Type 0 where
  pub operand : Operand
  pub bits : ℕ

-- an operation that stays, and whether it makes an out of the block
pub record Kept : Type 0 where
  pub op : OpTree
  pub makes_out : Bool

-- a part of a block: the operations that stay, and what stands for each one of the block before
pub record Numbered : Type 0 where
  pub ops : List Kept
  pub values : List Value

-- ---- operands

abbrev pub constant : ℕ → Operand
constant word = record { value = source.Constant word; distance = 0 }

abbrev pub result_of : ℕ → Operand
result_of op = record { value = source.Result (record { 0 = op }); distance = 0 }

abbrev pub operand_or : Option Value → Operand → Operand
operand_or None x = x
operand_or (Some value) x = value.operand

abbrev pub standing_for : List Value → Operand → Source → Operand
standing_for values x (source.Result op) = operand_or (slice_get values op.0) x
standing_for values x s = x

-- what stands for an operand
abbrev pub renamed : List Value → Operand → Operand
renamed values x = standing_for values x x.value

abbrev pub renamed_op : List Value → OpTree → OpTree
renamed_op values op = record op { args = map (renamed values) op.args; guard = option_map (renamed values) op.guard }

-- ---- the width of an operation's first operand; a constant has that of its operation

abbrev pub bits_or : Option Value → ℕ → ℕ
bits_or None bits = bits
bits_or (Some value) bits = value.bits

abbrev pub source_bits : List ℕ → List Value → ℕ → Source → ℕ
source_bits widths values bits (source.Constant word) = bits
source_bits widths values bits (source.Variable variable) = get_or widths variable.0 bits
source_bits widths values bits (source.Result op) = bits_or (slice_get values op.0) bits

abbrev pub first_bits : List ℕ → List Value → ℕ → List Operand → ℕ
first_bits widths values bits [] = bits
first_bits widths values bits (x ∷ xs) = source_bits widths values bits x.value

-- ---- operations

-- the number of an operation, and whether it makes an out
pub record First : Type 0 where
  pub op : ℕ
  pub makes_out : Bool

-- the first one without a guard that is equal, where i stand before these
abbrev pub first_equal : OpTree → List Kept → ℕ → Option First
first_equal op [] i = None
first_equal op (k ∷ ks) i =
    if not (is_some k.op.guard) && is_equal op k.op then Some (record { op = i; makes_out = k.makes_out }) else first_equal op ks (i + 1)

-- equal ones give equal values whatever stands between them
abbrev pub is_common : OpKind → Bool
is_common o.Load = false
is_common o.Store = false
is_common kind = true

abbrev pub joined : Bool → Option First → Option ℕ
joined is_apart None = None
joined is_apart (Some first) = if is_apart && first.makes_out then None else Some first.op

-- the earlier operation that this one becomes, if there is one
abbrev pub earlier : Bool → OpTree → List Kept → Option ℕ
earlier is_apart op kept = if not (is_some op.guard) && is_common op.kind then joined is_apart (first_equal op kept 0) else None

-- the operation of this number makes an out too, if it is so
abbrev pub with_out : Bool → List Kept → ℕ → List Kept
with_out is_out [] i = []
with_out is_out (k ∷ ks) zero = record k { makes_out = k.makes_out || is_out } ∷ ks
with_out is_out (k ∷ ks) (suc i) = k ∷ with_out is_out ks i

abbrev pub with_value : Numbered → List Kept → OpTree → Operand → Numbered
with_value s ops op x = record { ops = ops; values = s.values ++ record { operand = x; bits = result_bits op.kind op.bits } ∷ [] }

-- an operation becomes one with this earlier one, or else stays
abbrev pub with_earlier : Numbered → OpTree → Bool → Option ℕ → Numbered
with_earlier s op is_out (Some i) = with_value s (with_out is_out s.ops i) op (result_of i)
with_earlier s op is_out None = with_value s (s.ops ++ record { op = op; makes_out = is_out } ∷ []) op (result_of (length s.ops))

-- an operation is computed to this word, or else not
abbrev pub with_word : Bool → Numbered → OpTree → Bool → Option ℕ → Numbered
with_word apart s op is_out (Some word) = with_value s s.ops op (constant word)
with_word apart s op is_out None = with_earlier s op is_out (earlier (apart && is_out) op s.ops)

abbrev pub is_result : ℕ → Source → Bool
is_result i (source.Result op) = op.0 == i
is_result i s = false

-- one of the outs is the result of the operation of this number
abbrev pub makes_out : List Out → ℕ → Bool
makes_out [] i = false
makes_out (x ∷ xs) i = is_result i x.value.value || makes_out xs i

-- one operation more, which makes an out or not
abbrev pub numbered_with : Scope → Numbered → OpTree → Bool → Numbered
numbered_with scope s op is_out =
    with_word scope.apart s (renamed_op s.values op) is_out (computed (renamed_op s.values op) (first_bits scope.widths s.values op.bits op.args))

abbrev pub numbered_op : Scope → List Out → Numbered → OpTree → Numbered
numbered_op scope outs s op = numbered_with scope s op (makes_out outs (length s.values))

abbrev pub numbered_ops : Scope → List Out → Numbered → List OpTree → Numbered
numbered_ops scope outs s [] = s
numbered_ops scope outs s (op ∷ ops) = numbered_ops scope outs (numbered_op scope outs s op) ops

-- ---- blocks

abbrev pub nothing : Numbered
nothing = record { ops = []; values = [] }

abbrev pub ops_of : List Kept → List OpTree
ops_of = map (λ k. k.op)

abbrev pub renamed_out : List Value → Out → Out
renamed_out values x = record x { value = renamed values x.value }

abbrev pub renamed_exit : List Value → ExitTree → ExitTree
renamed_exit values (branch test) = branch (renamed values test)
renamed_exit values (choose cases) = choose (map (renamed values) cases)
renamed_exit values exit = exit

abbrev pub block_with : BlockTree → Numbered → BlockTree
block_with b s = record b { ops = ops_of s.ops; outs = map (renamed_out s.values) b.outs; exit = renamed_exit s.values b.exit }

abbrev pub numbered_block : Scope → BlockTree → BlockTree
numbered_block scope b = block_with b (numbered_ops scope b.outs nothing b.ops)

-- ---- trees

abbrev pub in_loop : Scope → Bool → Scope
in_loop scope eligible = record scope { apart = scope.apart || eligible }

-- Loops that are overlapped already stay as they are.
abbrev mutual
  pub numbered_sequence : Scope → SequenceTree → SequenceTree
  numbered_sequence scope (sequence first rest) = sequence (numbered_block scope first) (numbered_parts scope rest)

  pub numbered_parts : Scope → PartTrees → PartTrees
  numbered_parts scope no_part = no_part
  numbered_parts scope (more_parts shape after rest) = more_parts (numbered_shape scope shape) (numbered_block scope after) (numbered_parts scope rest)

  pub numbered_shape : Scope → ShapeTree → ShapeTree
  numbered_shape scope (fork yes_ no_ convertible) = fork (numbered_side scope yes_) (numbered_side scope no_) convertible
  numbered_shape scope (loop post test body step eligible) =
      loop post (numbered_sequence (in_loop scope eligible) test) (numbered_sequence (in_loop scope eligible) body) (numbered_side (in_loop scope eligible) step) eligible
  numbered_shape scope (switch dead targets other arms) = switch (numbered_parts scope dead) targets other (numbered_arms scope arms)
  numbered_shape scope (land number) = land number
  numbered_shape scope (overlapped point body) = overlapped point body

  pub numbered_side : Scope → SideTree → SideTree
  numbered_side scope no_side = no_side
  numbered_side scope (side blocks) = side (numbered_sequence scope blocks)

  pub numbered_arms : Scope → ArmTrees → ArmTrees
  numbered_arms scope no_arm = no_arm
  numbered_arms scope (more_arms first rest) = more_arms (numbered_sequence scope first) (numbered_arms scope rest)
