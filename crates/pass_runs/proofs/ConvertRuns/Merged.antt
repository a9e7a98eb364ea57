-- A merged block has its widths.
use Rattle.std.proofs.Common.{◌≡◌, ◌∙◌, ◌⊎◌, inl, inr, ℕ, zero, suc, ◌+◌, Bool, true, false, not, filter, refl, ap, sym, subst, arith, List, [], ◌∷◌, ◌++◌, append-nil, map, length, length-append, Option, Some, None}
use Rattle.std.specs.Prelude.{slice_get, get_or, ◌==◌, if◌then◌else◌}
use Rattle.hls_base.specs.declared.number.VarId.{VarId}
use Rattle.ir_core.specs.declared.body.OpKind.TheVariants as o
use Rattle.ir_core.specs.declared.body.Operand.{Operand}
use Rattle.ir_core.specs.declared.body.Out.{Out}
use Rattle.ir_core.specs.declared.body.Source.{Source}
use Rattle.ir_core.specs.declared.body.Source.TheVariants as source
use Rattle.ir_core.specs.Bodies.{OpTree}
use Rattle.ir_core.specs.Trees.{ExitTree, next, branch, choose, break_, continue_, leave, BlockTree}
use Rattle.passes.specs.Numbering.{result_of}
use Rattle.passes.specs.Conversion.Outs.{entry_value, held_or, held, is_set}
use Rattle.passes.specs.Conversion.Joining.{Guard, renamed_out, renamed_exit, plain, bit_for, joined_ops}
use Rattle.passes.specs.Conversion.Merging.{Branches, Branched, Choice, branched, is_taken, choices_for, choices, others, selected_bits, with_selection, with_selections, merged, joined}
use Rattle.pass_runs.specs.ConvertRuns.Typed.{IsEarly, AreEarly, HasBits, OpsAreTyped, OutsAreTyped, ExitIsTyped, BlockIsTyped}
use Rattle.pass_runs.specs.ConvertRuns.Blocks.{IsOpen, BranchIsTyped}
use Rattle.pass_runs.proofs.ConvertRuns.Opening.{same_number, typed_with, typed_all, once_with, once_all}
use Rattle.pass_runs.proofs.ConvertRuns.Joining.{has_more, has_early, outs_more, ops_more, next_has, TestHas, Sound, all_sound, renamed_has, early_renamed, outs_renamed}

get_of : (xs : List ℕ) (i x d : ℕ) → slice_get xs i ≡ Some x → get_or xs i d ≡ x
get_of [] i x d e = absurd cc
get_of (y ∷ xs) zero x d e = cc
get_of (y ∷ xs) (suc i) x d e = get_of xs i x d e

module _ (widths words : List ℕ) where
  early_more : (n m : ℕ) (xs : List Operand) → AreEarly n xs → AreEarly (n + m) xs
  early_more n m [] h = tt
  early_more n m (x ∷ xs) h = (at x.value h.0, early_more n m xs h.1) where
    at : (s : Source) → IsEarly n s → IsEarly (n + m) s
    at (source.Constant w) e = tt
    at (source.Variable v) e = tt
    at (source.Result i) e = omega (arith, e)

  exit_more : (ops more : List OpTree) (e : ExitTree) → ExitIsTyped widths words ops e → ExitIsTyped widths words (ops ++ more) e
  exit_more ops more next h = tt
  exit_more ops more (branch test) h = has_more widths words ops more 1 test.value h
  exit_more ops more (choose cases) h = subst (λ n. AreEarly n cases) (sym (length-append ops more)) (early_more (length ops) (length more) cases h)
  exit_more ops more break_ h = tt
  exit_more ops more continue_ h = tt
  exit_more ops more (leave number) h = tt

  -- what a variable holds has its width
  held_of : (ops : List OpTree) (os : List Out) → OutsAreTyped widths words ops os → (w : VarId)
      → (held os w ≡ entry_value w) ⊎ ((k : ℕ) × (slice_get widths w.0 ≡ Some k) × HasBits widths words ops k (held os w).value)
  held_of ops [] h w = inl refl
  held_of ops (x ∷ os) h w = by (w.0 == x.variable.0) refl (held_of ops os h.1 w) where
    by : (c : Bool) → (w.0 == x.variable.0) ≡ c → (held os w ≡ entry_value w) ⊎ ((k : ℕ) × (slice_get widths w.0 ≡ Some k) × HasBits widths words ops k (held os w).value)
        → ((if c then x.value else held os w) ≡ entry_value w) ⊎ ((k : ℕ) × (slice_get widths w.0 ≡ Some k) × HasBits widths words ops k (if c then x.value else held os w).value)
    by true e q = inr (h.0.0, ap (slice_get widths) (same_number w.0 x.variable.0 e) ∙ h.0.1, h.0.2)
    by false e q = q

  held_has : (ops : List OpTree) (os : List Out) → OutsAreTyped widths words ops os → (w : VarId) (k : ℕ) → slice_get widths w.0 ≡ Some k → (x : Operand) → HasBits widths words ops k x.value → HasBits widths words ops k (held_or os w x).value
  held_has ops [] h w k e x z = z
  held_has ops (y ∷ os) h w k e x z = by (w.0 == y.variable.0) refl (held_has ops os h.1 w k e x z) where
    some_number : {a b : ℕ} → Some a ≡ Some b → a ≡ b
    some_number q = cc

    by : (c : Bool) → (w.0 == y.variable.0) ≡ c → HasBits widths words ops k (held_or os w x).value → HasBits widths words ops k (if c then y.value else held_or os w x).value
    by true q r = subst (λ j. HasBits widths words ops j y.value.value) (some_number (sym h.0.1 ∙ ap (slice_get widths) (sym (same_number w.0 y.variable.0 q)) ∙ e)) h.0.2
    by false q r = r

  -- ---- the beginning of what is joined

  pub start_sound : (os : List Out) (test : Option Operand) (ops : List OpTree) (guards : List Guard) → OpsAreTyped widths words [] ops → OutsAreTyped widths words ops os → TestHas widths words ops test
      → ((own : Option Operand) (b : Operand) → bit_for guards own ≡ Some b → HasBits widths words ops 1 b.value) → Sound widths words os test ops [] ops [] guards
  start_sound os test ops guards h k z g = record {
    begins = ([], sym (append-nil ops));
    ops_typed = h;
    holds = held_of ops os k;
    tests = z;
    count = refl;
    has = λ j x e. absurd cc;
    bits = λ j op x e q. absurd cc;
    guard_has = g;
  }

  -- ---- branches

  pub record IsFine (base : List OpTree) (r : Branched) : Type 0 where
    pub begins : (more : List OpTree) × (r.ops ≡ base ++ more)
    pub ops_typed : OpsAreTyped widths words [] r.ops
    pub outs_typed : OutsAreTyped widths words r.ops r.outs

  branch_fine : (os : List Out) (test : Operand) (ops : List OpTree) (guards : List Guard) (x : Option BlockTree) → OpsAreTyped widths words [] ops → OutsAreTyped widths words ops os → HasBits widths words ops 1 test.value
      → ((own : Option Operand) (b : Operand) → bit_for guards own ≡ Some b → HasBits widths words ops 1 b.value) → BranchIsTyped widths words x → IsFine ops (branched widths ops os (Some test) guards x)
  branch_fine os test ops guards None h k z g y = record { begins = ([], sym (append-nil ops)); ops_typed = h; outs_typed = tt }
  branch_fine os test ops guards (Some b) h k z g y =
      let s = all_sound widths words os (Some test) ops b.ops [] (record { ops = ops; values = []; guards = guards }) (start_sound os (Some test) ops guards h k z g) y.0.ops in
      let j = joined_ops widths os (Some test) (record { ops = ops; values = []; guards = guards }) b.ops in
      record {
        begins = s.begins;
        ops_typed = s.ops_typed;
        outs_typed = typed_all widths words j.ops [] (map (renamed_out os j.values) b.outs) tt (outs_renamed widths words os (Some test) ops b.ops j.ops j.values j.guards s b.outs y.0.outs);
      }

  -- ---- selections

  abbrev pub ChoiceIsTyped : List OpTree → Choice → Type 0
  ChoiceIsTyped ops c = (k : ℕ) × (slice_get widths c.variable.0 ≡ Some k) × HasBits widths words ops k c.yes_.value × HasBits widths words ops k c.no_.value

  abbrev pub ChoicesAreTyped : List OpTree → List Choice → Type 0
  ChoicesAreTyped ops [] = Unit {0}
  ChoicesAreTyped ops (c ∷ cs) = ChoiceIsTyped ops c × ChoicesAreTyped ops cs

  pub choices_more : (ops more : List OpTree) (cs : List Choice) → ChoicesAreTyped ops cs → ChoicesAreTyped (ops ++ more) cs
  choices_more ops more [] h = tt
  choices_more ops more (c ∷ cs) h = ((h.0.0, h.0.1, has_more widths words ops more h.0.0 c.yes_.value h.0.2, has_more widths words ops more h.0.0 c.no_.value h.0.3), choices_more ops more cs h.1)

  choices_both : (ops : List OpTree) (cs ds : List Choice) → ChoicesAreTyped ops cs → ChoicesAreTyped ops ds → ChoicesAreTyped ops (cs ++ ds)
  choices_both ops [] ds h k = k
  choices_both ops (c ∷ cs) ds h k = (h.0, choices_both ops cs ds h.1 k)

  others_typed : (ops : List OpTree) (p : Out → Bool) (xs : List Out) → OutsAreTyped widths words ops xs → OutsAreTyped widths words ops (filter p xs)
  others_typed ops p [] h = tt
  others_typed ops p (x ∷ xs) h = by (p x) (others_typed ops p xs h.1) where
    by : (c : Bool) → OutsAreTyped widths words ops (filter p xs) → OutsAreTyped widths words ops (if c then x ∷ filter p xs else filter p xs)
    by true q = (h.0, q)
    by false q = q

  module _ (ops : List OpTree) (os yes_ no_ : List Out) (h : OutsAreTyped widths words ops os) (y : OutsAreTyped widths words ops yes_) (z : OutsAreTyped widths words ops no_) where
    before_has : (w : VarId) (k : ℕ) → slice_get widths w.0 ≡ Some k → HasBits widths words ops k (held os w).value
    before_has w k e = held_has ops os h w k e (entry_value w) e

    for_typed : (xs : List Out) → OutsAreTyped widths words ops xs → ChoicesAreTyped ops (choices_for os yes_ no_ xs)
    for_typed [] q = tt
    for_typed (x ∷ xs) q = (
      (q.0.0, q.0.1, held_has ops yes_ y x.variable q.0.0 q.0.1 (held os x.variable) (before_has x.variable q.0.0 q.0.1), held_has ops no_ z x.variable q.0.0 q.0.1 (held os x.variable) (before_has x.variable q.0.0 q.0.1)),
      for_typed xs q.1,
    )

    pub choices_typed : ChoicesAreTyped ops (choices os yes_ no_)
    choices_typed =
        choices_both ops (choices_for os yes_ no_ yes_) (choices_for os yes_ no_ (others yes_ no_)) (for_typed yes_ y) (for_typed (others yes_ no_) (others_typed ops (λ x. not (is_set yes_ x.variable)) no_ z))

  pub selection_open : (test : Operand) (b : BlockTree) (c : Choice) → HasBits widths words b.ops 1 test.value → ChoiceIsTyped b.ops c → IsOpen widths words b → IsOpen widths words (with_selection widths test b c)
  selection_open test b c t k h =
      let op = plain o.Select (selected_bits widths c.variable) (test ∷ c.yes_ ∷ c.no_ ∷ []) in
      let w : selected_bits widths c.variable ≡ k.0 = get_of widths c.variable.0 k.0 64 k.1 in
      record {
        typed = record {
          ops = ops_more widths words [] b.ops op h.typed.ops
              (record { args = (has_early widths words b.ops 1 test.value t, (has_early widths words b.ops k.0 c.yes_.value k.2, (has_early widths words b.ops k.0 c.no_.value k.3, tt))); guard = tt; access = tt });
          outs = typed_with widths words (b.ops ++ op ∷ []) b.outs c.variable (result_of (length b.ops)) (outs_more widths words b.ops (op ∷ []) b.outs h.typed.outs)
              (k.0, k.1, subst (λ j. HasBits widths words (b.ops ++ op ∷ []) j (result_of (length b.ops)).value) w (next_has widths words b.ops op));
          exit = exit_more b.ops (op ∷ []) b.exit h.typed.exit;
        };
        once = once_with b.outs c.variable (result_of (length b.ops)) h.once;
      }

  selections_open : (test : Operand) (cs : List Choice) (b : BlockTree) → HasBits widths words b.ops 1 test.value → ChoicesAreTyped b.ops cs → IsOpen widths words b → IsOpen widths words (with_selections widths test b cs)
  selections_open test [] b t k h = h
  selections_open test (c ∷ cs) b t k h =
      let op = plain o.Select (selected_bits widths c.variable) (test ∷ c.yes_ ∷ c.no_ ∷ []) in
      selections_open test cs (with_selection widths test b c) (has_more widths words b.ops (op ∷ []) 1 test.value t) (choices_more b.ops (op ∷ []) cs k.1) (selection_open test b c t k.0 h)

  -- ---- the block behind

  exit_renamed : (os : List Out) (base done ops : List OpTree) (values : List _) (guards : List Guard) → Sound widths words os None base done ops values guards → (e : ExitTree) → ExitIsTyped widths words done e → ExitIsTyped widths words ops (renamed_exit os values e)
  exit_renamed os base done ops values guards s next h = tt
  exit_renamed os base done ops values guards s (branch test) h = renamed_has widths words os None base done ops values guards s test 1 h
  exit_renamed os base done ops values guards s (choose cases) h = early_renamed widths words os None base done ops values guards s cases h
  exit_renamed os base done ops values guards s break_ h = tt
  exit_renamed os base done ops values guards s continue_ h = tt
  exit_renamed os base done ops values guards s (leave number) h = tt

  pub joined_open : (b after : BlockTree) → IsOpen widths words b → BlockIsTyped widths words after → IsOpen widths words (joined widths b after)
  joined_open b after h a =
      let s = all_sound widths words b.outs None b.ops after.ops [] (record { ops = b.ops; values = []; guards = [] }) (start_sound b.outs None b.ops [] h.typed.ops h.typed.outs tt (λ own x e. absurd cc)) a.ops in
      let j = joined_ops widths b.outs None (record { ops = b.ops; values = []; guards = [] }) after.ops in
      let more : OutsAreTyped widths words j.ops b.outs = subst (λ l. OutsAreTyped widths words l b.outs) (sym s.begins.1) (outs_more widths words b.ops s.begins.0 b.outs h.typed.outs) in
      record {
        typed = record {
          ops = s.ops_typed;
          outs = typed_all widths words j.ops b.outs (map (renamed_out b.outs j.values) after.outs) more (outs_renamed widths words b.outs None b.ops after.ops j.ops j.values j.guards s after.outs a.outs);
          exit = exit_renamed b.outs b.ops after.ops j.ops j.values j.guards s after.exit a.exit;
        };
        once = once_all b.outs (map (renamed_out b.outs j.values) after.outs) h.once;
      }

  -- ---- the whole

  module _ (b : BlockTree) (f : Branches) (h : IsOpen widths words b) (e : b.exit ≡ branch f.test) (y : BranchIsTyped widths words f.yes_) (z : BranchIsTyped widths words f.no_) where
    pub test_has : HasBits widths words b.ops 1 f.test.value
    test_has = subst (ExitIsTyped widths words b.ops) e h.typed.exit

    pub taken_has : (own : Option Operand) (x : Operand) → bit_for (is_taken f.test) own ≡ Some x → HasBits widths words b.ops 1 x.value
    taken_has None x q = let p : f.test ≡ x = cc in subst (λ (w : Operand). HasBits widths words b.ops 1 w.value) p test_has
    taken_has (Some own) x q = absurd cc

    abbrev pub yes_part : Branched
    yes_part = branched widths b.ops b.outs (Some f.test) (is_taken f.test) f.yes_

    abbrev pub no_part : Branched
    no_part = branched widths yes_part.ops b.outs (Some f.test) [] f.no_

    pub yes_fine : IsFine b.ops yes_part
    yes_fine = branch_fine b.outs f.test b.ops (is_taken f.test) f.yes_ h.typed.ops h.typed.outs test_has taken_has y

    pub yes_outs : OutsAreTyped widths words yes_part.ops b.outs
    yes_outs = subst (λ l. OutsAreTyped widths words l b.outs) (sym yes_fine.begins.1) (outs_more widths words b.ops yes_fine.begins.0 b.outs h.typed.outs)

    pub yes_test : HasBits widths words yes_part.ops 1 f.test.value
    yes_test = subst (λ l. HasBits widths words l 1 f.test.value) (sym yes_fine.begins.1) (has_more widths words b.ops yes_fine.begins.0 1 f.test.value test_has)

    pub no_fine : IsFine yes_part.ops no_part
    no_fine = branch_fine b.outs f.test yes_part.ops [] f.no_ yes_fine.ops_typed yes_outs yes_test (λ own x q. absurd cc) z

    pub raised : (os : List Out) → OutsAreTyped widths words yes_part.ops os → OutsAreTyped widths words no_part.ops os
    raised os q = subst (λ l. OutsAreTyped widths words l os) (sym no_fine.begins.1) (outs_more widths words yes_part.ops no_fine.begins.0 os q)

    pub no_test : HasBits widths words no_part.ops 1 f.test.value
    no_test = subst (λ l. HasBits widths words l 1 f.test.value) (sym no_fine.begins.1) (has_more widths words yes_part.ops no_fine.begins.0 1 f.test.value yes_test)

    pub merged_open : IsOpen widths words (merged widths b f)
    merged_open =
        selections_open f.test (choices b.outs yes_part.outs no_part.outs) (record b { ops = no_part.ops }) no_test
        (choices_typed no_part.ops b.outs yes_part.outs no_part.outs (raised b.outs yes_outs) (raised yes_part.outs yes_fine.outs_typed) no_fine.outs_typed)
        (record { typed = record { ops = no_fine.ops_typed; outs = raised b.outs yes_outs; exit = subst (ExitIsTyped widths words no_part.ops) (sym e) no_test }; once = h.once })
