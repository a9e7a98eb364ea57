-- The places of a numbered tree are those of the tree: where shapes begin, where jumps lead, and what is seen of the end of a block.
use Rattle.std.proofs.Common.{◌≡◌, ◌∙◌, ◌+◌, ℕ, zero, suc, refl, ap, ap₂, false, List, [], ◌∷◌, map, Option, Some, None}
use Rattle.std.specs.Prelude.{if◌then◌else◌}
use Rattle.std.specs.List.{zip}
use Rattle.ir_core.specs.declared.body.Operand.{Operand}
use Rattle.ir_core.specs.declared.body.Out.{Out}
use Rattle.ir_core.specs.Trees.{ExitTree, next, branch, choose, break_, continue_, leave, BlockTree, PartTrees, no_part, more_parts, ShapeTree, fork, loop, switch, land, overlapped, SideTree, no_side, side, ArmTrees, no_arm, more_arms}
use Rattle.passes.specs.Numbering as n
use Rattle.passes.specs.Numbering.{Value, nothing, renamed, renamed_out, renamed_exit, numbered_block, numbered_ops, numbered_sequence, numbered_parts, numbered_shape, numbered_side, numbered_arms}
use Rattle.ir_layout.specs.Sizes.{sequence_size, parts_size, side_size, arms_size}
use Rattle.ir_layout.specs.Layout.{Ahead, finish, onto, tested, by_case, Landing, Around, end_for, laid_block, side_start, arm_start, other_start, ahead_of, ahead_of_parts, behind_shape, with_land, lands_in, before_parts}
use Rattle.program_sizes.specs.KeptNodes.Seen.{seen, ahead_of_end}
use Rattle.program_sizes.proofs.KeptNodes.Sizes.{sequence_same, parts_same, shape_same, side_same, arms_same}

-- ---- how blocks end

cases_same : (f : Operand → Operand) (tests : List Operand) (cases : List ℕ) → map (λ c. c.1) (zip (map f tests) cases) ≡ map (λ c. c.1) (zip tests cases)
cases_same f [] cases = refl
cases_same f (x ∷ tests) [] = refl
cases_same f (x ∷ tests) (c ∷ cases) = ap (λ l. c ∷ l) (cases_same f tests cases)

end_seen : (around : Around) (values : List Value) (outs others : List Out) (ahead : Ahead) (exit : ExitTree) → ahead_of_end (end_for around others ahead (renamed_exit values exit)) ≡ ahead_of_end (end_for around outs ahead exit)
end_seen around values outs others finish next = refl
end_seen around values outs others (onto node) next = refl
end_seen around values outs others (tested yes_ no_) next = refl
end_seen around values outs others (by_case cases other) next = refl
end_seen around values outs others finish (branch test) = refl
end_seen around values outs others (onto node) (branch test) = refl
end_seen around values outs others (tested yes_ no_) (branch test) = refl
end_seen around values outs others (by_case cases other) (branch test) = refl
end_seen around values outs others finish (choose tests) = refl
end_seen around values outs others (onto node) (choose tests) = refl
end_seen around values outs others (tested yes_ no_) (choose tests) = refl
end_seen around values outs others (by_case cases other) (choose tests) = ap (λ l. by_case l other) (cases_same (renamed values) tests cases)
end_seen around values outs others ahead break_ = refl
end_seen around values outs others ahead continue_ = refl
end_seen around values outs others ahead (leave number) = refl

pub block_seen : (around : Around) (ahead : Ahead) (scope : n.Scope) (b : BlockTree) → seen (laid_block around ahead (numbered_block scope b)) ≡ seen (laid_block around ahead b)
block_seen around ahead scope b =
    let values = (numbered_ops scope b.outs nothing b.ops).values in
    ap (λ to. record { point = b.point; is_loop = false; leads = to }) (end_seen around values b.outs (map (renamed_out values) b.outs) ahead b.exit)

-- ---- where shapes begin

pub side_begins : (scope : n.Scope) (place after : ℕ) (s : SideTree) → side_start place after (numbered_side scope s) ≡ side_start place after s
side_begins scope place after no_side = refl
side_begins scope place after (side blocks) = refl

arm_begins : (scope : n.Scope) (place : ℕ) (arms : ArmTrees) (i : ℕ) → arm_start place (numbered_arms scope arms) i ≡ arm_start place arms i
arm_begins scope place no_arm i = refl
arm_begins scope place (more_arms first rest) zero = refl
arm_begins scope place (more_arms first rest) (suc i) =
    ap (λ m. arm_start (place + m) (numbered_arms scope rest) i) (sequence_same scope first) ∙ arm_begins scope (place + sequence_size first) rest i

arms_begin : (scope : n.Scope) (place : ℕ) (arms : ArmTrees) (targets : List ℕ) → map (arm_start place (numbered_arms scope arms)) targets ≡ map (arm_start place arms) targets
arms_begin scope place arms [] = refl
arms_begin scope place arms (i ∷ targets) = ap₂ (λ (x : ℕ) (l : List ℕ). x ∷ l) (arm_begins scope place arms i) (arms_begin scope place arms targets)

other_begins : (scope : n.Scope) (place after : ℕ) (arms : ArmTrees) (other : Option ℕ) → other_start place after (numbered_arms scope arms) other ≡ other_start place after arms other
other_begins scope place after arms None = refl
other_begins scope place after arms (Some i) = arm_begins scope place arms i

-- ---- what stands ahead of a block

-- with the sizes of the parts as numbers of their own
abbrev ahead_of_fork : ℕ → ℕ → ℕ → SideTree → SideTree → Ahead
ahead_of_fork place yes_size no_size yes_ no_ = tested (side_start place (place + (yes_size + no_size)) yes_) (side_start (place + yes_size) (place + (yes_size + no_size)) no_)

abbrev ahead_of_switch : ℕ → ℕ → ℕ → List ℕ → Option ℕ → ArmTrees → Ahead
ahead_of_switch place dead_size all_size targets other arms = by_case (map (arm_start (place + dead_size) arms) targets) (other_start (place + dead_size) (place + (dead_size + all_size)) arms other)

ahead_same : (scope : n.Scope) (place : ℕ) (shape : ShapeTree) → ahead_of place (numbered_shape scope shape) ≡ ahead_of place shape
ahead_same scope place (fork yes_ no_ convertible) =
    ap₂ (λ (k m : ℕ). ahead_of_fork place k m (numbered_side scope yes_) (numbered_side scope no_)) (side_same scope yes_) (side_same scope no_)
    ∙ ap₂ (λ (x y : ℕ). tested x y) (side_begins scope place (place + (side_size yes_ + side_size no_)) yes_) (side_begins scope (place + side_size yes_) (place + (side_size yes_ + side_size no_)) no_)
ahead_same scope place (loop post test body step eligible) = ap (λ m. onto (if post then place + m else place)) (sequence_same (n.in_loop scope eligible) test)
ahead_same scope place (switch dead targets other arms) =
    ap₂ (λ (k m : ℕ). ahead_of_switch place k m targets other (numbered_arms scope arms)) (parts_same scope dead) (arms_same scope arms)
    ∙ ap₂ (λ (l : List ℕ) (x : ℕ). by_case l x) (arms_begin scope (place + parts_size dead) arms targets) (other_begins scope (place + parts_size dead) (place + (parts_size dead + arms_size arms)) arms other)
ahead_same scope place (land number) = refl
ahead_same scope place (overlapped point body) = refl

pub ahead_of_parts_same : (scope : n.Scope) (place : ℕ) (parts : PartTrees) (ahead : Ahead) → ahead_of_parts place (numbered_parts scope parts) ahead ≡ ahead_of_parts place parts ahead
ahead_of_parts_same scope place no_part ahead = refl
ahead_of_parts_same scope place (more_parts shape after rest) ahead = ahead_same scope place shape

-- ---- where jumps lead

land_same : (scope : n.Scope) (place : ℕ) (shape : ShapeTree) (lands : List Landing) → with_land place (numbered_shape scope shape) lands ≡ with_land place shape lands
land_same scope place (fork yes_ no_ convertible) lands = refl
land_same scope place (loop post test body step eligible) lands = refl
land_same scope place (switch dead targets other arms) lands = refl
land_same scope place (land number) lands = refl
land_same scope place (overlapped point body) lands = refl

lands_same : (scope : n.Scope) (place : ℕ) (parts : PartTrees) (lands : List Landing) → lands_in place (numbered_parts scope parts) lands ≡ lands_in place parts lands
lands_same scope place no_part lands = refl
lands_same scope place (more_parts shape after rest) lands =
    let further = behind_shape place shape in
    ap (λ m. with_land (place + m) (numbered_shape scope shape) (lands_in (place + m + 1) (numbered_parts scope rest) lands)) (shape_same scope shape)
    ∙ (land_same scope further shape (lands_in (further + 1) (numbered_parts scope rest) lands) ∙ ap (λ l. with_land further shape l) (lands_same scope (further + 1) rest lands))

pub around_same : (scope : n.Scope) (place : ℕ) (parts : PartTrees) (around : Around) → before_parts place (numbered_parts scope parts) around ≡ before_parts place parts around
around_same scope place parts around = ap (λ l. record around { lands = l }) (lands_same scope place parts around.lands)
