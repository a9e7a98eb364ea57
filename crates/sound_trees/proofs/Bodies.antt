-- The body of a loop that is overlapped sets each variable to a result of its own.
use Rattle.std.proofs.Common.{◌≡◌, ◌∙◌, ℕ, Bool, true, false, not, ◌||◌, refl, ap, ap₂, sym, List, [], map, Option, Some, None}
use Rattle.hls_base.specs.declared.number.VarId.{VarId}
use Rattle.ir_core.specs.declared.body.Operand.{Operand}
use Rattle.ir_core.specs.declared.body.Out.{Out}
use Rattle.ir_core.specs.Bodies.{OpTree, Shapes}
use Rattle.ir_core.specs.Trees.{BlockTree, BodyTree, SequenceTree, sequence, PartTrees, no_part, more_parts, ShapeTree, fork, loop, switch, land, overlapped, SideTree, no_side, side}
use Rattle.passes.specs.Conversion.Outs.{is_set}
use Rattle.passes.specs.Conversion.Joining.{Guard, renamed_out, joined_ops}
use Rattle.passes.specs.Conversion.Merging.{Branches, branches_of, opened, branched, is_taken, choices, merged, joined, is_only, is_only_side, first_block, first_of}
use Rattle.passes.specs.Conversion.{Scope, going_on, part_before, behind, converted_sequence, converted_behind, converted_shape, converted_side}
use Rattle.passes.specs.Lowering.Copies.{fixed_behind, fixed_behind_shape, outs_set, parts_set, sequence_sets, shape_sets, side_sets}
use Rattle.pass_runs.proofs.ConvertRuns.Finding.{fork_found}
use Rattle.pass_runs.proofs.ConvertRuns.MergedBlocks.Selections.{names, chosen_set}
use Rattle.sound_trees.specs.Trees.{SequenceHas, PartsHave}
use Rattle.sound_trees.specs.Ready.{BlockIsReady}
use Rattle.sound_trees.specs.Loops.{PartsOwn, BodyOwns, AreComputed}
use Rattle.sound_trees.proofs.Names.{set_same}
use Rattle.sound_trees.proofs.Fixed.{from_both}
use Rattle.sound_trees.proofs.Merged.{opened_ready, joined_ready, merged_ready, merged_longer}
use Rattle.sound_trees.proofs.Computed.{merged_computed, joined_computed}
use Rattle.sound_trees.proofs.Converted.{by_option, fork_ready, shape_ready}
use Rattle.sound_trees.proofs.ConvertedOwn.{Owns, weaker, longer, opened_owns, without, without_says, selections_own, selections_set, set_map, set_outs}
use Rattle.sound_trees.proofs.JoinedOwn.{joined_owns}

true_false : {A : Type 0} → true ≡ false → A
true_false e = cc

or_nothing : (c : Bool) → (c || false) ≡ c
or_nothing true = refl
or_nothing false = refl

-- ---- which variables a block sets once forks are merged into it

abbrev set_in : Option BlockTree → VarId → Bool
set_in None v = false
set_in (Some b) v = is_set b.outs v

branch_sets : (widths : List ℕ) (ops : List OpTree) (outs : List Out) (test : Option Operand) (guards : List Guard) (x : Option BlockTree) (v : VarId) → set_in x v ≡ true → is_set (branched widths ops outs test guards x).outs v ≡ true
branch_sets widths ops outs test guards None v e = true_false (sym e)
branch_sets widths ops outs test guards (Some b) v e =
    let s = joined_ops widths outs test (record { ops = ops; values = []; guards = guards }) b.ops in
    set_outs [] (map (renamed_out outs s.values) b.outs) v ∙ or_nothing (is_set (map (renamed_out outs s.values) b.outs) v) ∙ set_map outs s.values b.outs v ∙ e

not_only : (b : BlockTree) (shape : ShapeTree) (blocks : SequenceTree) → is_only (sequence b (part_before shape blocks)) ≡ true → ⊥
not_only b shape (sequence first rest) e = cc

module _ (scope : Scope) where
  abbrev yes_outs : BlockTree → Branches → List Out
  yes_outs b f = (branched scope.widths b.ops b.outs (Some f.test) (is_taken f.test) f.yes_).outs

  abbrev no_outs : BlockTree → Branches → List Out
  no_outs b f = (branched scope.widths (branched scope.widths b.ops b.outs (Some f.test) (is_taken f.test) f.yes_).ops b.outs (Some f.test) [] f.no_).outs

  abbrev chosen : BlockTree → Branches → VarId → Bool
  chosen b f v = names (choices b.outs (yes_outs b f) (no_outs b f)) v.0

  merged_sets : (b : BlockTree) (f : Branches) (v : VarId) → is_set (merged scope.widths b f).outs v ≡ (chosen b f v || is_set b.outs v)
  merged_sets b f v =
      let yes_ = branched scope.widths b.ops b.outs (Some f.test) (is_taken f.test) f.yes_ in
      let no_ = branched scope.widths yes_.ops b.outs (Some f.test) [] f.no_ in
      selections_set scope.widths f.test (choices b.outs yes_.outs no_.outs) (record b { ops = no_.ops }) v

  joined_sets : (b after : BlockTree) (v : VarId) → is_set (joined scope.widths b after).outs v ≡ (is_set after.outs v || is_set b.outs v)
  joined_sets b after v =
      let s = joined_ops scope.widths b.outs None (record { ops = b.ops; values = []; guards = [] }) after.ops in
      set_outs b.outs (map (renamed_out b.outs s.values) after.outs) v ∙ ap (λ c. c || is_set b.outs v) (set_map b.outs s.values after.outs v)

  -- what stays set behind a fork and the block behind it
  still_set : (before fork_ after rest chosen_ : Bool) → (fork_ ≡ true → chosen_ ≡ true) → (before || (fork_ || (after || rest))) ≡ true → ((after || (chosen_ || before)) || rest) ≡ true
  still_set true fork_ true rest chosen_ h e = refl
  still_set true fork_ false rest true h e = refl
  still_set true fork_ false rest false h e = refl
  still_set false true true rest chosen_ h e = refl
  still_set false true false rest true h e = refl
  still_set false true false rest false h e = true_false (sym (h refl))
  still_set false false true rest chosen_ h e = refl
  still_set false false false true true h e = refl
  still_set false false false true false h e = refl
  still_set false false false false chosen_ h e = true_false (sym e)

  mutual
    sequence_set : (s : SequenceTree) → is_only (converted_sequence scope s) ≡ true → (v : VarId) → sequence_sets s v ≡ true → is_set (first_of (converted_sequence scope s)).outs v ≡ true
    sequence_set (sequence first rest) o v e =
        behind_set rest (opened first) o v (ap (λ c. c || parts_set rest v) (set_outs [] first.outs v ∙ or_nothing (is_set first.outs v) ∙ set_same first.outs v) ∙ e)

    behind_set : (ps : PartTrees) (b : BlockTree) → is_only (converted_behind scope b ps) ≡ true → (v : VarId) → (is_set b.outs v || parts_set ps v) ≡ true → is_set (first_of (converted_behind scope b ps)).outs v ≡ true
    behind_set no_part b o v e = sym (or_nothing (is_set b.outs v)) ∙ e
    behind_set (more_parts shape after rest) b o v e =
        by_option
        (λ x. is_only (behind b (converted_shape scope shape) x (converted_behind scope (going_on scope.widths b x after) rest)) ≡ true → is_set (first_of (behind b (converted_shape scope shape) x (converted_behind scope (going_on scope.widths b x after) rest))).outs v ≡ true)
        (branches_of b.exit (converted_shape scope shape)) (λ n o1. absurd (not_only b (converted_shape scope shape) (converted_behind scope (going_on scope.widths b None after) rest) o1))
        (λ f q o1.
        behind_set rest (joined scope.widths (merged scope.widths b f) after) o1 v
        (ap (λ c. c || parts_set rest v) (joined_sets (merged scope.widths b f) after v ∙ ap₂ (λ c d. c || d) (set_same after.outs v) (merged_sets b f v))
        ∙ still_set (is_set b.outs v) (shape_sets shape v) (outs_set after.outs v) (parts_set rest v) (chosen b f v) (fork_chosen b shape f q v) e)) o

    side_set : (s : SideTree) → is_only_side (converted_side scope s) ≡ true → (v : VarId) → side_sets s v ≡ true → set_in (first_block (converted_side scope s)) v ≡ true
    side_set no_side o v e = true_false (sym e)
    side_set (side blocks) o v e = sequence_set blocks o v e

    -- What a fork that is merged sets is selected.
    fork_chosen : (b : BlockTree) (shape : ShapeTree) (f : Branches) → branches_of b.exit (converted_shape scope shape) ≡ Some f → (v : VarId) → shape_sets shape v ≡ true → chosen b f v ≡ true
    fork_chosen b (fork yes_ no_ c) f q v e =
        let i = fork_found b.exit (converted_side scope yes_) (converted_side scope no_) c f q in
        let first = branched scope.widths b.ops b.outs (Some f.test) (is_taken f.test) f.yes_ in
        by_side (side_sets yes_ v) (λ k. chosen_set b.outs (yes_outs b f) (no_outs b f) true v (branch_sets scope.widths b.ops b.outs (Some f.test) (is_taken f.test) f.yes_ v (ap (λ x. set_in x v) i.yes_same ∙ side_set yes_ i.only_yes v k)))
        (λ k. chosen_set b.outs (yes_outs b f) (no_outs b f) false v (branch_sets scope.widths first.ops b.outs (Some f.test) [] f.no_ v (ap (λ x. set_in x v) i.no_same ∙ side_set no_ i.only_no v k))) (side_sets no_ v) refl refl e
      where
        by_side : (y : Bool) → (side_sets yes_ v ≡ true → chosen b f v ≡ true) → (side_sets no_ v ≡ true → chosen b f v ≡ true) → (n : Bool) → side_sets yes_ v ≡ y → side_sets no_ v ≡ n → (y || n) ≡ true → chosen b f v ≡ true
        by_side true h k n p r z = h p
        by_side false h k n p r z = k (r ∙ z)
    fork_chosen b (loop post t body s el) f q v e = true_false (sym e)
    fork_chosen b (switch dead targets other arms) f q v e = true_false (sym e)
    fork_chosen b (land number) f q v e = true_false (sym e)
    fork_chosen b (overlapped point body) f q v e = true_false (sym e)

-- ---- bodies

module _ (shapes : Shapes) (words : List ℕ) (loops : Bool) (N : SequenceTree → SequenceTree → Type 0) (O : BodyTree → Type 0) where
  abbrev here : Scope
  here = record { widths = shapes.widths; loops = loops }

  abbrev B : BlockTree → Type 0
  B = BlockIsReady shapes words true

  abbrev U : BodyTree → Type 0
  U b = Unit {0}

  -- a block with results of its own, whose conversions of constants are computed
  pub record IsOwnBlock (b : BlockTree) : Type 0 where
    pub owns : Owns (λ v. false) (λ v. true) b
    pub computed : AreComputed b.ops

  behind_own : (ps : PartTrees) (b : BlockTree) (fixed : VarId → Bool) → B b → AreComputed b.ops → Owns (parts_set ps) fixed b → PartsHave B N O ps → PartsOwn fixed ps → is_only (converted_behind here b ps) ≡ true → IsOwnBlock (first_of (converted_behind here b ps))
  behind_own no_part b fixed h c own k p o = record { owns = weaker (parts_set no_part) fixed (λ v. false) (λ v. true) b (λ v e. refl) (λ v e. refl) own; computed = c }
  behind_own (more_parts shape after rest) b fixed h c own k p o =
      by_option
      (λ x. is_only (behind b (converted_shape here shape) x (converted_behind here (going_on shapes.widths b x after) rest)) ≡ true → IsOwnBlock (first_of (behind b (converted_shape here shape) x (converted_behind here (going_on shapes.widths b x after) rest))))
      (branches_of b.exit (converted_shape here shape)) (λ n o1. absurd (not_only b (converted_shape here shape) (converted_behind here (going_on shapes.widths b None after) rest) o1)) (λ f q o1. merged_case (λ b1 f1 x1 x2 x3 x4 x5 x6. behind_own rest b1 f1 x1 x2 x3 x4 x5 x6) f q o1) o
    where
      later : VarId → Bool
      later = parts_set (more_parts shape after rest)

      narrow : VarId → Bool
      narrow = fixed_behind_shape shape fixed

      others : (f : Branches) → branches_of b.exit (converted_shape here shape) ≡ Some f → (v : VarId) → names (choices b.outs (yes_outs here b f) (no_outs here b f)) v.0 ≡ false → (c1 : Bool) → shape_sets shape v ≡ c1 → c1 ≡ false
      others f q v n false e = refl
      others f q v n true e = true_false (sym (fork_chosen here b shape f q v e) ∙ n)

      less_later : (f : Branches) → branches_of b.exit (converted_shape here shape) ≡ Some f → (v : VarId) → (outs_set after.outs v || parts_set rest v) ≡ false → (c1 : Bool) → without (choices b.outs (yes_outs here b f) (no_outs here b f)) later v ≡ c1 → c1 ≡ false
      less_later f q v e false w = refl
      less_later f q v e true w =
          let z = without_says (choices b.outs (yes_outs here b f) (no_outs here b f)) later v w in
          true_false (sym z.0 ∙ ap₂ (λ x y. x || y) (others f q v z.1 (shape_sets shape v) refl) e)

      more_fixed : (f : Branches) → branches_of b.exit (converted_shape here shape) ≡ Some f → (v : VarId) → without (choices b.outs (yes_outs here b f) (no_outs here b f)) fixed v ≡ true → narrow v ≡ true
      more_fixed f q v w =
          let z = without_says (choices b.outs (yes_outs here b f) (no_outs here b f)) fixed v w in from_both (fixed v) (not (shape_sets shape v)) z.0 (ap not (others f q v z.1 (shape_sets shape v) refl))

      merged_case : ((b1 : BlockTree) (fixed1 : VarId → Bool) → B b1 → AreComputed b1.ops → Owns (parts_set rest) fixed1 b1 → PartsHave B N O rest → PartsOwn fixed1 rest → is_only (converted_behind here b1 rest) ≡ true → IsOwnBlock (first_of (converted_behind here b1 rest)))
          → (f : Branches) → branches_of b.exit (converted_shape here shape) ≡ Some f → is_only (converted_behind here (joined shapes.widths (merged shapes.widths b f) after) rest) ≡ true
          → IsOwnBlock (first_of (converted_behind here (joined shapes.widths (merged shapes.widths b f) after) rest))
      merged_case further f q o1 =
          let shape_is = shape_ready shapes words loops N O U (λ body x. tt) (λ t1 b1 known x y z i. tt) shape k.0 in
          let i = fork_ready shapes words loops N O U (λ body x. tt) (λ t1 b1 known x y z j. tt) b shape f q shape_is in
          let m = merged shapes.widths b f in
          let ready = merged_ready shapes words b f h i.exit i.yes_ i.no_ in
          let yes_ = branched shapes.widths b.ops b.outs (Some f.test) (is_taken f.test) f.yes_ in
          let no_ = branched shapes.widths yes_.ops b.outs (Some f.test) [] f.no_ in
          let cs = choices b.outs yes_.outs no_.outs in
          let wide = selections_own shapes.widths f.test cs later fixed (record b { ops = no_.ops }) (longer later fixed b no_.ops (merged_longer shapes words b f h i.exit i.yes_ i.no_) own) in
          let mid = weaker (without cs later) (without cs fixed) (λ v. outs_set after.outs v || parts_set rest v) narrow m (λ v e. less_later f q v e (without cs later v) refl) (λ v w. more_fixed f q v w) wide in
          further (joined shapes.widths m after) (fixed_behind rest narrow after) (joined_ready shapes words m after ready k.1) (joined_computed shapes.widths m after (merged_computed shapes.widths b f c))
          (joined_owns shapes words m after k.1 (parts_set rest) narrow mid p.0) k.2 p.1 o1

  pub body_own : (s : SequenceTree) → SequenceHas B N O s → BodyOwns s → AreComputed (first_of s).ops → is_only (converted_sequence here s) ≡ true → IsOwnBlock (first_of (converted_sequence here s))
  body_own (sequence first rest) h own c o =
      behind_own rest (opened first) (fixed_behind rest (λ v. false) first) (opened_ready shapes words true first h.0) c (opened_owns (parts_set rest) (λ v. false) shapes words first h.0 own.0) h.1 own.1 o
