-- A merged block does what the block before and the branch that is taken do.
use Rattle.std.proofs.Common.{◌≡◌, ◌∙◌, ◌⊎◌, inl, inr, ℕ, Bool, true, false, not, refl, ap, sym, subst, arith, List, [], ◌∷◌, ◌++◌, append_assoc, append-nil, length, Option, Some}
use Rattle.std.specs.Prelude.{slice_get, if◌then◌else◌}
use Rattle.hls_base.specs.declared.place.Place.{Place}
use Rattle.hls_base.specs.declared.refusal.UbRule.{UbRule}
use Rattle.ir_core.specs.declared.body.OpKind.TheVariants as o
use Rattle.ir_core.specs.declared.body.Operand.{Operand}
use Rattle.ir_core.specs.declared.body.Out.{Out}
use Rattle.hls_base.specs.Steps.{goes, fails, then_}
use Rattle.hls_base.specs.Valued.{Valued, is, faulty, and_then, valued}
use Rattle.ir_core.specs.Bodies as b
use Rattle.ir_core.specs.Bodies.{OpTree, Shapes, Words, Ranged, operand, is_allowed, operations}
use Rattle.ir_core.specs.Trees.{next, branch, BlockTree}
use Rattle.ir_core.specs.TreeRuns.{on, way_of, block_left}
use Rattle.passes.specs.Conversion.Joining.{plain, bit_for}
use Rattle.passes.specs.Conversion.Merging.{Branches, Branched, Choice, branched, is_taken, choices, selected_bits, with_selection, with_selections, merged}
use Rattle.pass_runs.specs.ConvertRuns.Typed.{HasBits, OpsAreTyped, OutsAreTyped, ExitIsTyped, Fits}
use Rattle.pass_runs.specs.ConvertRuns.Blocks.{Once, IsOpen, BranchIsTyped, naked, part_or_on, branch_part}
use Rattle.pass_runs.proofs.ConvertRuns.Lists.{left_of}
use Rattle.pass_runs.proofs.ConvertRuns.Merged.{IsFine, choices_typed, test_has, taken_has, yes_fine, yes_outs, yes_test, no_fine, raised, no_test}
use Rattle.pass_runs.proofs.ConvertRuns.Behind.{ops_append, whole_more}
use Rattle.pass_runs.proofs.ConvertRuns.Whole.{trees as trees_from}
use Rattle.pass_runs.specs.ConvertRuns.MergedBlocks.{MergedBlocksAreKept, ConvertedTreesKeepRuns}
use Rattle.pass_runs.proofs.ConvertRuns.MergedBlocks.Guards.{gives, allowed_more}
use Rattle.pass_runs.proofs.ConvertRuns.MergedBlocks.Selections.{outs_same, all_picked, all_known, all_selected}
use Rattle.pass_runs.proofs.ConvertRuns.MergedBlocks.Branches.{results_grow, fault_stays, branched_once, first_bits_yes, first_bits_no, branch_idle, Ends, Faults, branch_taken}

selections_begin : (widths : List ℕ) (test : Operand) (cs : List Choice) (block : BlockTree) → (extra : List OpTree) × ((with_selections widths test block cs).ops ≡ block.ops ++ extra)
selections_begin widths test [] block = ([], sym (append-nil block.ops))
selections_begin widths test (c ∷ cs) block =
    let op = plain o.Select (selected_bits widths c.variable) (test ∷ c.yes_ ∷ c.no_ ∷ []) in
    let r = selections_begin widths test cs (with_selection widths test block c) in
    (op ∷ r.0, r.1 ∙ append_assoc block.ops (op ∷ []) r.0)

module _ (shapes : Shapes) (words : List ℕ) (block : BlockTree) (f : Branches) (open_ : IsOpen shapes.widths words block) (exit : block.exit ≡ branch f.test) (yes_typed : BranchIsTyped shapes.widths words f.yes_) (no_typed : BranchIsTyped shapes.widths words f.no_) (t : Words)
    (fits : Fits shapes.widths words t) where
  abbrev widths : List ℕ
  widths = shapes.widths

  abbrev yes_ : Branched
  yes_ = branched widths block.ops block.outs (Some f.test) (is_taken f.test) f.yes_

  abbrev no_ : Branched
  no_ = branched widths yes_.ops block.outs (Some f.test) [] f.no_

  abbrev chosen : List Choice
  chosen = choices block.outs yes_.outs no_.outs

  -- the block with the operations of both branches
  abbrev with_both : BlockTree
  with_both = record block { ops = no_.ops }

  abbrev whole : BlockTree
  whole = record (merged widths block f) { exit = next }

  abbrev w : List OpTree
  w = whole.ops

  abbrev R : List OpTree → List ℕ → Words → Type 0
  R ops results u = operations shapes w ops [] t ≡ is (record { results = results; words = u })

  -- ---- what is known of the parts

  yes_known : IsFine widths words block.ops yes_
  yes_known = yes_fine widths words block f open_ exit yes_typed no_typed

  no_known : IsFine widths words yes_.ops no_
  no_known = no_fine widths words block f open_ exit yes_typed no_typed

  has : HasBits widths words block.ops 1 f.test.value
  has = test_has widths words block f open_ exit yes_typed no_typed

  has_yes : HasBits widths words yes_.ops 1 f.test.value
  has_yes = yes_test widths words block f open_ exit yes_typed no_typed

  has_no : HasBits widths words no_.ops 1 f.test.value
  has_no = no_test widths words block f open_ exit yes_typed no_typed

  outs_yes : OutsAreTyped widths words yes_.ops block.outs
  outs_yes = yes_outs widths words block f open_ exit yes_typed no_typed

  to_no : (os : List Out) → OutsAreTyped widths words yes_.ops os → OutsAreTyped widths words no_.ops os
  to_no = raised widths words block f open_ exit yes_typed no_typed

  open_both : IsOpen widths words with_both
  open_both = record { typed = record { ops = no_known.ops_typed; outs = to_no block.outs outs_yes; exit = subst (ExitIsTyped widths words no_.ops) (sym exit) has_no }; once = open_.once }

  last : (extra : List OpTree) × (w ≡ no_.ops ++ extra)
  last = selections_begin widths f.test chosen with_both

  begins_no : (i : ℕ) (x : OpTree) → slice_get no_.ops i ≡ Some x → slice_get w i ≡ Some x
  begins_no i x e = ap (λ l. slice_get l i) last.1 ∙ left_of no_.ops last.0 i x e

  begins_yes : (i : ℕ) (x : OpTree) → slice_get yes_.ops i ≡ Some x → slice_get w i ≡ Some x
  begins_yes i x e = begins_no i x (ap (λ l. slice_get l i) no_known.begins.1 ∙ left_of yes_.ops no_known.begins.0 i x e)

  begins_block : (i : ℕ) (x : OpTree) → slice_get block.ops i ≡ Some x → slice_get w i ≡ Some x
  begins_block i x e = begins_yes i x (ap (λ l. slice_get l i) yes_known.begins.1 ∙ left_of block.ops yes_known.begins.0 i x e)

  first_same : operations shapes block.ops block.ops [] t ≡ operations shapes w block.ops [] t
  first_same = whole_more shapes words block.ops w begins_block [] block.ops open_.typed.ops (omega arith) [] t

  -- ---- faults

  no_faults : (rule : UbRule) (at : Place) (n : ℕ) → operations shapes w no_.ops [] t ≡ faulty rule at → fails rule at ≡ naked shapes whole t n
  no_faults rule at n e = sym (ap (λ (x : Valued Ranged). valued x (block_left whole) t n) (fault_stays shapes w no_.ops last.0 w t rule at last.1 e))

  yes_faults : (rule : UbRule) (at : Place) (n : ℕ) → operations shapes w yes_.ops [] t ≡ faulty rule at → fails rule at ≡ naked shapes whole t n
  yes_faults rule at n e = no_faults rule at n (fault_stays shapes w yes_.ops no_known.begins.0 no_.ops t rule at no_known.begins.1 e)

  block_faults : (rule : UbRule) (at : Place) (n : ℕ) → operations shapes block.ops block.ops [] t ≡ faulty rule at → fails rule at ≡ naked shapes whole t n
  block_faults rule at n e = yes_faults rule at n (fault_stays shapes w block.ops yes_known.begins.0 yes_.ops t rule at yes_known.begins.1 (sym first_same ∙ e))

  -- ---- what both branches leave

  variables_stay : (ops : List OpTree) (results : List ℕ) (u : Words) → OpsAreTyped widths words [] ops → R ops results u → u.variables ≡ t.variables
  variables_stay ops results u h e = (gives shapes words [] f.test [] w t fits ops results u h e).variables

  counted : (ops : List OpTree) (results : List ℕ) (u : Words) → OpsAreTyped widths words [] ops → R ops results u → length ops ≡ length results
  counted ops results u h e = (gives shapes words [] f.test [] w t fits ops results u h e).count

  -- The operations so far have their results still.
  later : (ops extra all : List OpTree) → all ≡ ops ++ extra → (results others : List ℕ) (u v : Words) → R ops results u → R all others v → (more : List ℕ) × (others ≡ results ++ more)
  later ops extra all e results others u v h k =
      results_grow shapes w extra results u (record { results = others; words = v })
      (sym (ap (λ l. operations shapes w l [] t) e ∙ ops_append shapes w ops extra [] t ∙ ap (λ (x : Valued Ranged). and_then x (λ q. operations shapes w extra q.results q.words)) h) ∙ k)

  outs_later : (ops extra all : List OpTree) → all ≡ ops ++ extra → OpsAreTyped widths words [] ops → OpsAreTyped widths words [] all → (results others : List ℕ) (u v : Words) → R ops results u → R all others v
      → (os : List Out) → OutsAreTyped widths words ops os → (g : ℕ → ℕ) → b.outs os v others g ≡ b.outs os u results g
  outs_later ops extra all e z y results others u v h k os q g =
      let m = later ops extra all e results others u v h k in
      ap (λ l. b.outs os v l g) m.1
      ∙ outs_same shapes words f.test w t fits ops results m.0 u v (counted ops results u z h) (variables_stay all others v y k ∙ sym (variables_stay ops results u z h)) os q g

  test_later : (ops extra all : List OpTree) → all ≡ ops ++ extra → OpsAreTyped widths words [] ops → OpsAreTyped widths words [] all → (results others : List ℕ) (u v : Words) → R ops results u → R all others v
      → HasBits widths words ops 1 f.test.value → is_allowed v others (Some f.test) ≡ is_allowed u results (Some f.test)
  test_later ops extra all e z y results others u v h k q =
      let m = later ops extra all e results others u v h k in
      ap (λ l. is_allowed v l (Some f.test)) m.1
      ∙ allowed_more shapes words [] f.test [] w t fits ops results m.0 u v (Some f.test) (counted ops results u z h) (variables_stay all others v y k ∙ sym (variables_stay ops results u z h)) q

  once_yes : Once yes_.outs
  once_yes = branched_once widths block.ops block.outs (Some f.test) (is_taken f.test) f.yes_

  once_no : Once no_.outs
  once_no = branched_once widths yes_.ops block.outs (Some f.test) [] f.no_

  abbrev left_by : Bool → List ℕ → Words → ℕ → ℕ
  left_by c results u = b.outs (if c then yes_.outs else no_.outs) u results (b.outs block.outs u results u.variables)

  -- Then the selections hold what the branch that is taken leaves.
  finished : (c : Bool) (results : List ℕ) (u : Words) → R no_.ops results u → is_allowed u results (Some f.test) ≡ c → (n : ℕ) → naked shapes whole t n ≡ goes on (record { variables = left_by c results u; memories = u.memories }) n
  finished c results u runs holds n =
      let known = choices_typed widths words no_.ops block.outs yes_.outs no_.outs (to_no block.outs outs_yes) (to_no yes_.outs yes_known.outs_typed) no_known.outs_typed in
      let picked = all_picked shapes words f.test w t fits u results block.outs yes_.outs no_.outs open_.once once_yes once_no c in
      let stays = all_known shapes words f.test w t fits u results block.outs yes_.outs no_.outs open_.once once_yes once_no c in
      let s = all_selected shapes words f.test w t fits u c (left_by c results u) chosen with_both results runs open_both has_no known holds picked stays in
      ap (λ (x : Valued Ranged). valued x (block_left whole) t n) s.1 ∙ ap (λ (g : ℕ → ℕ). goes on (record { variables = g; memories = u.memories }) n) s.2

  -- ---- the branch that is taken

  module _ (r : Ranged) (ran_ : operations shapes block.ops block.ops [] t ≡ is r) (n : ℕ) where
    abbrev left_ : Words
    left_ = b.with_outs block.outs r

    runs : R block.ops r.results r.words
    runs = sym first_same ∙ ran_

    to_both : (extra : List OpTree) × (no_.ops ≡ block.ops ++ extra)
    to_both = (yes_known.begins.0 ++ no_known.begins.0, no_known.begins.1 ∙ ap (λ l. l ++ no_known.begins.0) yes_known.begins.1 ∙ append_assoc block.ops yes_known.begins.0 no_known.begins.0)

    -- what the block before left, behind the operations of both branches
    left_still : (others : List ℕ) (u : Words) → R no_.ops others u → b.outs block.outs u others u.variables ≡ left_.variables
    left_still others u k =
        outs_later block.ops to_both.0 no_.ops to_both.1 open_.typed.ops no_known.ops_typed r.results others r.words u runs k block.outs open_.typed.outs u.variables
        ∙ ap (b.outs block.outs r.words r.results) (variables_stay no_.ops others u no_known.ops_typed k ∙ sym (variables_stay block.ops r.results r.words open_.typed.ops runs))

    still_holds : (c : Bool) → is_allowed r.words r.results (Some f.test) ≡ c → (others : List ℕ) (u : Words) → R no_.ops others u → is_allowed u others (Some f.test) ≡ c
    still_holds c e others u k = test_later block.ops to_both.0 no_.ops to_both.1 open_.typed.ops no_known.ops_typed r.results others r.words u runs k has ∙ e

    by_yes : is_allowed r.words r.results (Some f.test) ≡ true → part_or_on shapes f.yes_ left_ n ≡ naked shapes whole t n
    by_yes e =
        by (branch_taken shapes words block.outs f.test w t fits block.ops (is_taken f.test) r.results r.words open_.typed.ops open_.typed.outs has guard_has runs open_.once
        (first_bits_yes shapes words block.outs f.test w t fits true block.ops block.ops r.results r.words e) f.yes_ yes_typed begins_yes) where
          guard_has : (own : Option Operand) (x : Operand) → bit_for (is_taken f.test) own ≡ Some x → HasBits widths words block.ops 1 x.value
          guard_has = taken_has widths words block f open_ exit yes_typed no_typed

          by : Ends shapes words block.outs f.test w t fits block.ops (is_taken f.test) r.results r.words open_.typed.ops open_.typed.outs has guard_has runs f.yes_ yes_
              ⊎ Faults shapes words block.outs f.test w t fits block.ops (is_taken f.test) r.results r.words open_.typed.ops open_.typed.outs has guard_has runs f.yes_ yes_ → part_or_on shapes f.yes_ left_ n ≡ naked shapes whole t n
          by (inr x) = x.part n ∙ yes_faults x.rule x.at n x.ran_
          by (inl x) =
              let test_now : is_allowed x.after x.others (Some f.test) ≡ true =
              test_later block.ops yes_known.begins.0 yes_.ops yes_known.begins.1 open_.typed.ops yes_known.ops_typed r.results x.others r.words x.after runs x.ran_ has ∙ e in
              let i = branch_idle shapes words block.outs f.test w t fits yes_.ops [] x.others x.after yes_known.ops_typed outs_yes has_yes (λ own y q. absurd cc) x.ran_
              (first_bits_no shapes words block.outs f.test w t fits false yes_.ops yes_.ops x.others x.after (ap not test_now)) f.no_ no_typed in
              let others = x.others ++ i.0 in
              let outs = outs_later yes_.ops no_known.begins.0 no_.ops no_known.begins.1 yes_known.ops_typed no_known.ops_typed x.others others x.after x.after x.ran_ i.1 yes_.outs yes_known.outs_typed in
              x.part n ∙ ap (λ (g : ℕ → ℕ). goes on (record { variables = g; memories = x.after.memories }) n)
              (sym (outs left_.variables) ∙ ap (b.outs yes_.outs x.after others) (sym (left_still others x.after i.1))) ∙ sym (finished true others x.after i.1 (still_holds true e others x.after i.1) n)

    by_no : is_allowed r.words r.results (Some f.test) ≡ false → part_or_on shapes f.no_ left_ n ≡ naked shapes whole t n
    by_no e =
        ap (λ (g : ℕ → ℕ). part_or_on shapes f.no_ (record r.words { variables = g }) n) (sym left_now)
        ∙ by (branch_taken shapes words block.outs f.test w t fits yes_.ops [] results r.words yes_known.ops_typed outs_yes has_yes none_has idle.1 open_.once
        (first_bits_no shapes words block.outs f.test w t fits true yes_.ops yes_.ops results r.words (ap not (test_now ∙ e))) f.no_ no_typed begins_no) where
          idle : (more : List ℕ) × R yes_.ops (r.results ++ more) r.words
          idle =
              branch_idle shapes words block.outs f.test w t fits block.ops (is_taken f.test) r.results r.words open_.typed.ops open_.typed.outs has (taken_has widths words block f open_ exit yes_typed no_typed) runs
              (first_bits_yes shapes words block.outs f.test w t fits false block.ops block.ops r.results r.words e) f.yes_ yes_typed

          results : List ℕ
          results = r.results ++ idle.0

          none_has : (own : Option Operand) (x : Operand) → bit_for [] own ≡ Some x → HasBits widths words yes_.ops 1 x.value
          none_has own x q = absurd cc

          test_now : is_allowed r.words results (Some f.test) ≡ is_allowed r.words r.results (Some f.test)
          test_now = test_later block.ops yes_known.begins.0 yes_.ops yes_known.begins.1 open_.typed.ops yes_known.ops_typed r.results results r.words r.words runs idle.1 has

          left_now : b.outs block.outs r.words results r.words.variables ≡ left_.variables
          left_now = outs_later block.ops yes_known.begins.0 yes_.ops yes_known.begins.1 open_.typed.ops yes_known.ops_typed r.results results r.words r.words runs idle.1 block.outs open_.typed.outs r.words.variables

          by : Ends shapes words block.outs f.test w t fits yes_.ops [] results r.words yes_known.ops_typed outs_yes has_yes none_has idle.1 f.no_ no_
              ⊎ Faults shapes words block.outs f.test w t fits yes_.ops [] results r.words yes_known.ops_typed outs_yes has_yes none_has idle.1 f.no_ no_
              → part_or_on shapes f.no_ (record r.words { variables = b.outs block.outs r.words results r.words.variables }) n ≡ naked shapes whole t n
          by (inr x) = x.part n ∙ no_faults x.rule x.at n x.ran_
          by (inl x) =
              x.part n
              ∙ ap (λ (g : ℕ → ℕ). goes on (record { variables = b.outs no_.outs x.after x.others g; memories = x.after.memories }) n) (left_now ∙ sym (left_still x.others x.after x.ran_))
              ∙ sym (finished false x.others x.after x.ran_ (still_holds false e x.others x.after x.ran_) n)

    by_test : (c : Bool) → is_allowed r.words r.results (Some f.test) ≡ c → (if c then part_or_on shapes f.yes_ left_ n else part_or_on shapes f.no_ left_ n) ≡ naked shapes whole t n
    by_test true e = by_yes e
    by_test false e = by_no e

  same : (n : ℕ) → then_ (naked shapes block t n) (λ x t1 n1. branch_part shapes f x t1 n1) ≡ naked shapes whole t n
  same n = by (operations shapes block.ops block.ops [] t) refl where
    by : (x : Valued Ranged) → operations shapes block.ops block.ops [] t ≡ x → then_ (valued x (block_left block) t n) (λ y t1 n1. branch_part shapes f y t1 n1) ≡ naked shapes whole t n
    by (is r) e =
        ap (λ x. then_ (goes (way_of x r.words r.results) (b.with_outs block.outs r) n) (λ y t1 n1. branch_part shapes f y t1 n1)) exit
        ∙ by_test r e n (is_allowed r.words r.results (Some f.test)) refl
    by (faulty rule at) e = block_faults rule at n e

-- ---- the laws

pub kept : MergedBlocksAreKept
kept shapes words block f h e y z t fits n = same shapes words block f h e y z t fits n

pub trees : ConvertedTreesKeepRuns
trees shapes words = trees_from shapes words (kept shapes words)
