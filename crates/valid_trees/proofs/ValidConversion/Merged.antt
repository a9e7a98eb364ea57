-- Blocks that are opened, merged and joined are valid.
use Rattle.std.specs.Prelude.{slice_get, get_or}
use Rattle.std.specs.List.{list_all}
use Rattle.std.proofs.Common.{◌≡◌, ℕ, zero, suc, Bool, true, false, not, filter, refl, sym, subst, List, [], ◌∷◌, ◌++◌, append-nil, map, length, Option, Some, None, if◌then◌else◌}
use Rattle.ir_core.specs.declared.body.OpKind.TheVariants as o
use Rattle.ir_core.specs.declared.body.Operand.{Operand}
use Rattle.ir_core.specs.declared.body.Out.{Out}
use Rattle.ir_core.specs.Bodies.{OpTree}
use Rattle.ir_core.specs.Trees.{next, branch, BlockTree}
use Rattle.passes.specs.Numbering.{result_of}
use Rattle.passes.proofs.Equalities.{first, second}
use Rattle.passes.specs.Conversion.Outs.{held, is_set}
use Rattle.passes.specs.Conversion.Joining.{Guard, Joined, plain, bit_for, renamed_out, joined_ops}
use Rattle.passes.specs.Conversion.Merging.{Branches, Branched, Choice, opened, branched, is_taken, choices_for, choices, others, selected_bits, with_selection, with_selections, merged, joined}
use Rattle.program_validity.specs.Widths.{is_width}
use Rattle.valid_trees.specs.Shapes.{FrameShape}
use Rattle.valid_trees.specs.Operands.{IsOperand}
use Rattle.valid_trees.specs.Bodies.{OpsAreValid, OutsAreValid, ExitIsValid, BlockIsValid}
use Rattle.valid_trees.proofs.ValidNumbering.Adding.{ops_more, operand_more, next_operand, outs_more}
use Rattle.valid_trees.proofs.ValidConversion.Outs.{held_is, entry_is, valid_with, valid_all}
use Rattle.valid_trees.proofs.ValidConversion.Joining.{all_joined, start_joined, raised_outs, outs_renamed, exit_renamed}

some_same : {A : Type 0} {x y : A} → Some x ≡ Some y → x ≡ y
some_same e = cc

none_some : {A B : Type 0} {x : A} → None ≡ Some x → B
none_some e = cc

get_of : (xs : List ℕ) (i x d : ℕ) → slice_get xs i ≡ Some x → get_or xs i d ≡ x
get_of [] i x d e = none_some e
get_of (y ∷ xs) zero x d e = some_same e
get_of (y ∷ xs) (suc i) x d e = get_of xs i x d e

width_at : (xs : List ℕ) (i n : ℕ) → list_all is_width xs ≡ true → slice_get xs i ≡ Some n → is_width n ≡ true
width_at [] i n h e = none_some e
width_at (x ∷ xs) zero n h e = subst (λ m. is_width m ≡ true) (some_same e) (first (is_width x) (list_all is_width xs) h)
width_at (x ∷ xs) (suc i) n h e = width_at xs i n (second (is_width x) (list_all is_width xs) h) e

module _ (frame : FrameShape) where
  abbrev Is : List OpTree → ℕ → Operand → Type 0
  Is = IsOperand frame []

  abbrev B : BlockTree → Type 0
  B = BlockIsValid frame

  pub opened_valid : (b : BlockTree) → B b → B (opened b)
  opened_valid b h = record { ops = h.ops; outs = valid_all frame b.ops [] b.outs tt h.outs; exit = h.exit }

  -- ---- the block behind

  pub joined_valid : (b after : BlockTree) → B b → B after → B (joined frame.widths b after)
  joined_valid b after h a =
      let start : Joined = record { ops = b.ops; values = []; guards = [] } in
      let s = joined_ops frame.widths b.outs None start after.ops in
      let j = all_joined frame b.ops b.outs None h.outs tt after.ops [] start (start_joined frame b.ops b.outs None h.outs tt [] h.ops (λ own x e. none_some e)) a.ops in
      record {
        ops = j.valid;
        outs = valid_all frame s.ops b.outs (map (renamed_out b.outs s.values) after.outs) (raised_outs frame b.ops b.outs None h.outs tt after.ops s.ops s.values s.guards j b.outs h.outs)
            (outs_renamed frame b.ops b.outs None h.outs tt after.ops s.ops s.values s.guards j after.outs a.outs);
        exit = exit_renamed frame b.ops b.outs None h.outs tt after.ops s.ops s.values s.guards j after.exit a.exit;
      }

  -- its operations stand behind those of the block
  pub joined_begins : (b after : BlockTree) → B b → B after → (more : List OpTree) × ((joined frame.widths b after).ops ≡ b.ops ++ more)
  joined_begins b after h a =
      let start : Joined = record { ops = b.ops; values = []; guards = [] } in
      let j = all_joined frame b.ops b.outs None h.outs tt after.ops [] start (start_joined frame b.ops b.outs None h.outs tt [] h.ops (λ own x e. none_some e)) a.ops in j.begins

  -- ---- branches

  -- a block that may be there, and leads on
  abbrev pub BranchIsValid : Option BlockTree → Type 0
  BranchIsValid None = Unit {0}
  BranchIsValid (Some b) = B b × (b.exit ≡ next)

  record IsBranched (base : List OpTree) (r : Branched) : Type 0 where
    begins : (more : List OpTree) × (r.ops ≡ base ++ more)
    ops : OpsAreValid frame [] [] r.ops
    outs : OutsAreValid frame [] r.ops r.outs

  branch_valid : (outs : List Out) (test : Operand) (ops : List OpTree) (guards : List Guard) (x : Option BlockTree) → OpsAreValid frame [] [] ops → OutsAreValid frame [] ops outs → Is ops 1 test
      → ((own : Option Operand) (b : Operand) → bit_for guards own ≡ Some b → Is ops 1 b) → BranchIsValid x → IsBranched ops (branched frame.widths ops outs (Some test) guards x)
  branch_valid outs test ops guards None h k z g y = record { begins = ([], sym (append-nil ops)); ops = h; outs = tt }
  branch_valid outs test ops guards (Some b) h k z g y =
      let start : Joined = record { ops = ops; values = []; guards = guards } in
      let s = joined_ops frame.widths outs (Some test) start b.ops in
      let j = all_joined frame ops outs (Some test) k z b.ops [] start (start_joined frame ops outs (Some test) k z guards h g) y.0.ops in
      record {
        begins = j.begins;
        ops = j.valid;
        outs = valid_all frame s.ops [] (map (renamed_out outs s.values) b.outs) tt (outs_renamed frame ops outs (Some test) k z b.ops s.ops s.values s.guards j b.outs y.0.outs);
      }

  -- ---- selections

  record ChoiceIsValid (ops : List OpTree) (c : Choice) : Type 0 where
    bits : ℕ
    there : slice_get frame.widths c.variable.0 ≡ Some bits
    yes_ : Is ops bits c.yes_
    no_ : Is ops bits c.no_

  abbrev ChoicesAreValid : List OpTree → List Choice → Type 0
  ChoicesAreValid ops [] = Unit {0}
  ChoicesAreValid ops (c ∷ cs) = ChoiceIsValid ops c × ChoicesAreValid ops cs

  choices_more : (ops more : List OpTree) (cs : List Choice) → ChoicesAreValid ops cs → ChoicesAreValid (ops ++ more) cs
  choices_more ops more [] h = tt
  choices_more ops more (c ∷ cs) h =
      (record { bits = h.0.bits; there = h.0.there; yes_ = operand_more frame [] ops more h.0.bits c.yes_ h.0.yes_; no_ = operand_more frame [] ops more h.0.bits c.no_ h.0.no_ }, choices_more ops more cs h.1)

  choices_both : (ops : List OpTree) (cs ds : List Choice) → ChoicesAreValid ops cs → ChoicesAreValid ops ds → ChoicesAreValid ops (cs ++ ds)
  choices_both ops [] ds h k = k
  choices_both ops (c ∷ cs) ds h k = (h.0, choices_both ops cs ds h.1 k)

  others_valid : (ops : List OpTree) (p : Out → Bool) (xs : List Out) → OutsAreValid frame [] ops xs → OutsAreValid frame [] ops (filter p xs)
  others_valid ops p [] h = tt
  others_valid ops p (x ∷ xs) h = by (p x) (others_valid ops p xs h.1) where
    by : (c : Bool) → OutsAreValid frame [] ops (filter p xs) → OutsAreValid frame [] ops (if c then x ∷ filter p xs else filter p xs)
    by true q = (h.0, q)
    by false q = q

  module _ (ops : List OpTree) (outs yes_ no_ : List Out) (h : OutsAreValid frame [] ops outs) (y : OutsAreValid frame [] ops yes_) (z : OutsAreValid frame [] ops no_) where
    for_valid : (xs : List Out) → OutsAreValid frame [] ops xs → ChoicesAreValid ops (choices_for outs yes_ no_ xs)
    for_valid [] q = tt
    for_valid (x ∷ xs) q =
        let before = entry_is frame ops outs h x.variable q.0.bits q.0.there in (
          record {
            bits = q.0.bits;
            there = q.0.there;
            yes_ = held_is frame ops yes_ y x.variable q.0.bits q.0.there (held outs x.variable) before;
            no_ = held_is frame ops no_ z x.variable q.0.bits q.0.there (held outs x.variable) before;
          },
          for_valid xs q.1,
        )

    choices_valid : ChoicesAreValid ops (choices outs yes_ no_)
    choices_valid =
        choices_both ops (choices_for outs yes_ no_ yes_) (choices_for outs yes_ no_ (others yes_ no_)) (for_valid yes_ y) (for_valid (others yes_ no_) (others_valid ops (λ x. not (is_set yes_ x.variable)) no_ z))

  -- a block that is left by this test
  record IsSelected (test : Operand) (b : BlockTree) : Type 0 where
    ops : OpsAreValid frame [] [] b.ops
    outs : OutsAreValid frame [] b.ops b.outs
    exit : b.exit ≡ branch test
    test_ : Is b.ops 1 test

  module _ (all : list_all is_width frame.widths ≡ true) (test : Operand) where
    selection_valid : (b : BlockTree) (c : Choice) → ChoiceIsValid b.ops c → IsSelected test b → IsSelected test (with_selection frame.widths test b c)
    selection_valid b c k h =
        let op = plain o.Select (selected_bits frame.widths c.variable) (test ∷ c.yes_ ∷ c.no_ ∷ []) in
        let w : k.bits ≡ selected_bits frame.widths c.variable = sym (get_of frame.widths c.variable.0 k.bits 64 k.there) in
        let is : Is (b.ops ++ op ∷ []) (selected_bits frame.widths c.variable) (result_of (length b.ops)) = next_operand frame [] b.ops op in
        record {
          ops = ops_more frame [] [] b.ops op h.ops
              (record { width = subst (λ m. is_width m ≡ true) w (width_at frame.widths c.variable.0 k.bits all k.there); flag = refl; guard = tt; acts = (refl, (h.test_, (subst (λ m. Is b.ops m c.yes_) w k.yes_, (subst (λ m. Is b.ops m c.no_) w k.no_, tt)))) });
          outs = valid_with frame (b.ops ++ op ∷ []) b.outs c.variable (result_of (length b.ops)) (outs_more frame [] b.ops (op ∷ []) b.outs h.outs)
              (record { bits = k.bits; there = k.there; value = subst (λ m. Is (b.ops ++ op ∷ []) m (result_of (length b.ops))) (sym w) is });
          exit = h.exit;
          test_ = operand_more frame [] b.ops (op ∷ []) 1 test h.test_;
        }

    selections_valid : (cs : List Choice) (b : BlockTree) → ChoicesAreValid b.ops cs → IsSelected test b → IsSelected test (with_selections frame.widths test b cs)
    selections_valid [] b k h = h
    selections_valid (c ∷ cs) b k h =
        let op = plain o.Select (selected_bits frame.widths c.variable) (test ∷ c.yes_ ∷ c.no_ ∷ []) in
        selections_valid cs (with_selection frame.widths test b c) (choices_more b.ops (op ∷ []) cs k.1) (selection_valid b c k.0 h)

  -- ---- the whole

  raised : (base ops : List OpTree) (more : List OpTree) → ops ≡ base ++ more → (xs : List Out) → OutsAreValid frame [] base xs → OutsAreValid frame [] ops xs
  raised base ops more e xs h = subst (λ l. OutsAreValid frame [] l xs) (sym e) (outs_more frame [] base more xs h)

  raised_test : (base ops : List OpTree) (more : List OpTree) → ops ≡ base ++ more → (x : Operand) → Is base 1 x → Is ops 1 x
  raised_test base ops more e x h = subst (λ l. Is l 1 x) (sym e) (operand_more frame [] base more 1 x h)

  taken_is : (ops : List OpTree) (test : Operand) → Is ops 1 test → (own : Option Operand) (b : Operand) → bit_for (is_taken test) own ≡ Some b → Is ops 1 b
  taken_is ops test h None b e = subst (Is ops 1) (some_same e) h
  taken_is ops test h (Some own) b e = none_some e

  pub merged_valid : list_all is_width frame.widths ≡ true → (b : BlockTree) (f : Branches) → B b → b.exit ≡ branch f.test → BranchIsValid f.yes_ → BranchIsValid f.no_ → B (merged frame.widths b f)
  merged_valid all b f h e y z =
      let t : Is b.ops 1 f.test = subst (ExitIsValid frame b.ops) e h.exit in
      let yes_ = branched frame.widths b.ops b.outs (Some f.test) (is_taken f.test) f.yes_ in
      let ry = branch_valid b.outs f.test b.ops (is_taken f.test) f.yes_ h.ops h.outs t (taken_is b.ops f.test t) y in
      let outs1 = raised b.ops yes_.ops ry.begins.0 ry.begins.1 b.outs h.outs in
      let t1 = raised_test b.ops yes_.ops ry.begins.0 ry.begins.1 f.test t in
      let no_ = branched frame.widths yes_.ops b.outs (Some f.test) [] f.no_ in
      let rn = branch_valid b.outs f.test yes_.ops [] f.no_ ry.ops outs1 t1 (λ own x q. none_some q) z in
      let outs2 = raised yes_.ops no_.ops rn.begins.0 rn.begins.1 b.outs outs1 in
      let t2 = raised_test yes_.ops no_.ops rn.begins.0 rn.begins.1 f.test t1 in
      let found = choices_valid no_.ops b.outs yes_.outs no_.outs outs2 (raised yes_.ops no_.ops rn.begins.0 rn.begins.1 yes_.outs ry.outs) rn.outs in
      let s = selections_valid all f.test (choices b.outs yes_.outs no_.outs) (record b { ops = no_.ops }) found (record { ops = rn.ops; outs = outs2; exit = e; test_ = t2 }) in
      record { ops = s.ops; outs = s.outs; exit = subst (ExitIsValid frame (merged frame.widths b f).ops) (sym s.exit) s.test_ }
