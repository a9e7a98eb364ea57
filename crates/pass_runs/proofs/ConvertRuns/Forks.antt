-- Forks become one block, and simple loops loop nodes.
use Rattle.std.proofs.Common.{◌≡◌, ◌∙◌, Bool, true, false, ◌&&◌, refl, ap, sym, [], length, Option, Some, None}
use Rattle.std.specs.Prelude.{◌==◌, drop, if◌then◌else◌}
use Rattle.ir_core.specs.declared.body.Operand.{Operand}
use Rattle.ir_core.specs.declared.body.Out.{Out}
use Rattle.ir_core.specs.Trees.{ExitTree, branch, BlockTree, SequenceTree, sequence, PartTrees, no_part, more_parts, fork, loop, switch, land, overlapped, SideTree, no_side, side}
use Rattle.ir_core.specs.TreeRuns.{tested_by}
use Rattle.passes.specs.Conversion.Outs.{with_outs}
use Rattle.passes.specs.Conversion.Joining.{renamed, renamed_exit}
use Rattle.passes.specs.Conversion.Merging.{Branches, test_of, leads_on, is_only, is_only_side, first_block, opened, branches_of, merged, joined}
use Rattle.passes.specs.Conversion.Overlapping.{none_needs_guard, is_test, test_if, overlapped_test, loop_by}
use Rattle.passes.specs.Conversion.{Scope, going_on, behind, converted_sequence, converted_behind, converted_side}
use Rattle.pass_runs.proofs.ConvertRuns.Tests.{sets_nothing}
use Rattle.pass_runs.specs.ConvertRuns.Forks.{HoldsForks, ForksBehind, SideHoldsForks, ForksAreMerged, LoopsAreOverlapped}

-- operands of an exit that stand for others
renamed_forks : (outs : _) (values : _) (exit : ExitTree) (rest : PartTrees) → ForksBehind exit rest → ForksBehind (renamed_exit outs values exit) rest
renamed_forks outs values exit no_part h = ap (renamed_exit outs values) h
renamed_forks outs values exit (more_parts shape after rest) h = ((renamed outs values h.0.0, ap (renamed_exit outs values) h.0.1), h.1, h.2)

found : (test : Operand) (exit : ExitTree) (yes_ no_ : SideTree) (c : Bool) → exit ≡ branch test → c ≡ true → is_only_side yes_ ≡ true → is_only_side no_ ≡ true
    → branches_of exit (fork yes_ no_ c) ≡ Some (record { test = test; yes_ = first_block yes_; no_ = first_block no_ })
found test exit yes_ no_ c e k y n =
    ap (λ x. branches_of x (fork yes_ no_ c)) e
    ∙ (λ i. if k i && (y i && n i) then Some (record { test = test; yes_ = first_block yes_; no_ = first_block no_ }) else None)

module _ (scope : Scope) where
  mutual
    sequence_only : (s : SequenceTree) → HoldsForks s → is_only (converted_sequence scope s) ≡ true
    sequence_only (sequence first rest) h = behind_only rest (opened first) h

    behind_only : (rest : PartTrees) (b : BlockTree) → ForksBehind b.exit rest → is_only (converted_behind scope b rest) ≡ true
    behind_only no_part b h = ap leads_on h
    behind_only (more_parts (fork yes_ no_ c) after rest) b h =
        let e = found h.0.0 b.exit (converted_side scope yes_) (converted_side scope no_) c h.0.1 h.1.0 (side_only yes_ h.1.1) (side_only no_ h.1.2) in
        let f : Branches = record { test = h.0.0; yes_ = first_block (converted_side scope yes_); no_ = first_block (converted_side scope no_) } in
        ap (λ (x : Option Branches). is_only (behind b (fork (converted_side scope yes_) (converted_side scope no_) c) x (converted_behind scope (going_on scope.widths b x after) rest))) e
        ∙ behind_only rest (joined scope.widths (merged scope.widths b f) after) (renamed_forks _ _ after.exit rest h.2)
    behind_only (more_parts (loop post t b s e) after rest) block h = absurd h.1
    behind_only (more_parts (switch dead targets other arms) after rest) block h = absurd h.1
    behind_only (more_parts (land number) after rest) block h = absurd h.1
    behind_only (more_parts (overlapped point body) after rest) block h = absurd h.1

    side_only : (s : SideTree) → SideHoldsForks s → is_only_side (converted_side scope s) ≡ true
    side_only no_side h = refl
    side_only (side blocks) h = sequence_only blocks h

pub forks : ForksAreMerged
forks scope blocks h = sequence_only scope blocks h

-- ---- loops

-- a block that sets nothing stays as it is where it is opened
opened_test : (head : BlockTree) (test : Operand) → is_test head test ≡ true → is_test (opened head) test ≡ true
opened_test head test h =
    let none = sets_nothing head test h in
    let rest = none_needs_guard (drop (tested_by test.value) head.ops) in
    ap (λ l. (length (with_outs [] l) == 0) && rest) none ∙ sym (ap (λ l. (length l == 0) && rest) none) ∙ h

pub loops : LoopsAreOverlapped
loops scope head test body l e h k =
    ap (λ c. loop_by scope.widths (if c then overlapped_test false (sequence (opened head) no_part) (converted_sequence scope body) no_side else None) false (sequence (opened head) no_part) (converted_sequence scope body) no_side) l
    ∙ ap (λ c. loop_by scope.widths (if c then test_if (opened head) (test_of head.exit) else None) false (sequence (opened head) no_part) (converted_sequence scope body) no_side) (forks scope body k)
    ∙ ap (λ x. loop_by scope.widths (test_if (opened head) (test_of x)) false (sequence (opened head) no_part) (converted_sequence scope body) no_side) e
    ∙ ap (λ c. loop_by scope.widths (if c then Some test else None) false (sequence (opened head) no_part) (converted_sequence scope body) no_side) (opened_test head test h)
