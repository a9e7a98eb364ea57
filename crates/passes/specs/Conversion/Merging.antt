-- A fork whose branches are one block each, merged into the block before it.
use Rattle.std.specs.Prelude.{ℕ, Bool, true, false, not, ◌&&◌, List, [], ◌∷◌, ◌++◌, map, get_or, Option, Some, None, if◌then◌else◌}
use Rattle.std.specs.List.{filter}
use Rattle.hls_base.specs.declared.number.VarId.{VarId}
use Rattle.ir_core.specs.declared.body.OpKind.TheVariants as o
use Rattle.ir_core.specs.declared.body.Operand.{Operand}
use Rattle.ir_core.specs.declared.body.Out.{Out}
use Rattle.ir_core.specs.Bodies.{OpTree}
use Rattle.ir_core.specs.Trees.{ExitTree, next, branch, BlockTree, SequenceTree, sequence, no_part, more_parts, ShapeTree, fork, SideTree, no_side, side}
use Rattle.passes.specs.Conversion.Outs.{held_or, held, is_set, with_out, with_outs}
use Rattle.passes.specs.Conversion.Joining.{Guard, Joined, with_one, next_result, renamed_out, renamed_exit, plain, joined_ops}

-- the test of a fork, and its branches, which may have no block
pub record Branches : Type 0 where
  pub test : Operand
  pub yes_ : Option BlockTree
  pub no_ : Option BlockTree

-- a block to which others may be joined: each variable that it sets stands once, with its last value
abbrev pub opened : BlockTree → BlockTree
opened b = record b { outs = with_outs [] b.outs }

-- ---- which forks are merged

abbrev pub test_of : ExitTree → Option Operand
test_of (branch test) = Some test
test_of exit = None

abbrev pub leads_on : ExitTree → Bool
leads_on next = true
leads_on exit = false

-- the sequence has one block alone, which leads on
abbrev pub is_only : SequenceTree → Bool
is_only (sequence b no_part) = leads_on b.exit
is_only (sequence b (more_parts shape after rest)) = false

abbrev pub is_only_side : SideTree → Bool
is_only_side no_side = true
is_only_side (side blocks) = is_only blocks

abbrev pub first_of : SequenceTree → BlockTree
first_of (sequence b rest) = b

abbrev pub first_block : SideTree → Option BlockTree
first_block no_side = None
first_block (side blocks) = Some (first_of blocks)

abbrev pub forked : Operand → SideTree → SideTree → Bool → Option Branches
forked test yes_ no_ convertible =
    if convertible && (is_only_side yes_ && is_only_side no_) then Some (record { test = test; yes_ = first_block yes_; no_ = first_block no_ }) else None

abbrev pub branches_by : Option Operand → ShapeTree → Option Branches
branches_by (Some test) (fork yes_ no_ convertible) = forked test yes_ no_ convertible
branches_by test shape = None

-- the branches of a convertible fork behind a block with this exit, where each of its sides is one block at most
abbrev pub branches_of : ExitTree → ShapeTree → Option Branches
branches_of exit shape = branches_by (test_of exit) shape

-- ---- branches

-- operations with those of a branch, and what it sets
pub record Branched : Type 0 where
  pub ops : List OpTree
  pub outs : List Out

abbrev pub branched_by : List Out → Joined → List Out → Branched
branched_by outs s set_ = record { ops = s.ops; outs = with_outs [] (map (renamed_out outs s.values) set_) }

-- behind these operations and outs, in a branch of a fork with this test, where these bits of guards are there
abbrev pub branched_block : List ℕ → List OpTree → List Out → Option Operand → List Guard → BlockTree → Branched
branched_block widths ops outs test guards b = branched_by outs (joined_ops widths outs test (record { ops = ops; values = []; guards = guards }) b.ops) b.outs

abbrev pub branched : List ℕ → List OpTree → List Out → Option Operand → List Guard → Option BlockTree → Branched
branched widths ops outs test guards None = record { ops = ops; outs = [] }
branched widths ops outs test guards (Some b) = branched_block widths ops outs test guards b

-- the bit of the branch for 1
abbrev pub is_taken : Operand → List Guard
is_taken test = record { own = None; bit = test } ∷ []

-- ---- selections

-- a variable that one of the branches sets, and what it holds behind each of them
pub record Choice : Type 0 where
  pub variable : VarId
  pub yes_ : Operand
  pub no_ : Operand

abbrev pub choice : List Out → List Out → List Out → VarId → Choice
choice outs yes_ no_ variable = record { variable = variable; yes_ = held_or yes_ variable (held outs variable); no_ = held_or no_ variable (held outs variable) }

-- what the branch for 0 sets alone
abbrev pub others : List Out → List Out → List Out
others yes_ = filter (λ x. not (is_set yes_ x.variable))

abbrev pub choices_for : List Out → List Out → List Out → List Out → List Choice
choices_for outs yes_ no_ = map (λ x. choice outs yes_ no_ x.variable)

-- in the order in which the branches set them, the one for 1 first
abbrev pub choices : List Out → List Out → List Out → List Choice
choices outs yes_ no_ = choices_for outs yes_ no_ yes_ ++ choices_for outs yes_ no_ (others yes_ no_)

abbrev pub selected_bits : List ℕ → VarId → ℕ
selected_bits widths variable = get_or widths variable.0 64

abbrev pub with_selection : List ℕ → Operand → BlockTree → Choice → BlockTree
with_selection widths test b c =
    record b { ops = with_one b.ops (plain o.Select (selected_bits widths c.variable) (test ∷ c.yes_ ∷ c.no_ ∷ [])); outs = with_out b.outs c.variable (next_result b.ops) }

abbrev pub with_selections : List ℕ → Operand → BlockTree → List Choice → BlockTree
with_selections widths test b [] = b
with_selections widths test b (c ∷ cs) = with_selections widths test (with_selection widths test b c) cs

-- ---- blocks

abbrev pub merged_no : List ℕ → BlockTree → Branches → Branched → Branched → BlockTree
merged_no widths b f yes_ no_ = with_selections widths f.test (record b { ops = no_.ops }) (choices b.outs yes_.outs no_.outs)

abbrev pub merged_yes : List ℕ → BlockTree → Branches → Branched → BlockTree
merged_yes widths b f yes_ = merged_no widths b f yes_ (branched widths yes_.ops b.outs (Some f.test) [] f.no_)

-- The operations of both branches run, those that need it where their branch is taken, and then a selection for each variable that is set.
abbrev pub merged : List ℕ → BlockTree → Branches → BlockTree
merged widths b f = merged_yes widths b f (branched widths b.ops b.outs (Some f.test) (is_taken f.test) f.yes_)

abbrev pub joined_by : BlockTree → Joined → BlockTree → BlockTree
joined_by b s after =
    record b { ops = s.ops; outs = with_outs b.outs (map (renamed_out b.outs s.values) after.outs); exit = renamed_exit b.outs s.values after.exit }

-- a block, and the one behind it
abbrev pub joined : List ℕ → BlockTree → BlockTree → BlockTree
joined widths b after = joined_by b (joined_ops widths b.outs None (record { ops = b.ops; values = []; guards = [] }) after.ops) after
