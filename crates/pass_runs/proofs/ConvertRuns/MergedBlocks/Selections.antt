-- Selections hold what the branch that is taken leaves.
use Rattle.std.proofs.Common.{◌≡◌, ◌∙◌, ◌<◌, ◌⊎◌, inl, inr, ℕ, zero, suc, Bool, true, false, not, ◌||◌, filter, refl, ap, ap₂, sym, subst, List, [], ◌∷◌, ◌++◌, append_assoc, append-nil, length, Some}
use Rattle.std.specs.Prelude.{slice_get, get_or, ◌==◌, if◌then◌else◌}
use Rattle.std.proofs.Math.Seq.{get_or-append_seam}
use Rattle.hls_base.specs.declared.number.VarId.{VarId}
use Rattle.ir_core.specs.declared.body.OpKind.TheVariants as o
use Rattle.ir_core.specs.declared.body.Operand.{Operand}
use Rattle.ir_core.specs.declared.body.Out.{Out}
use Rattle.ir_core.specs.Value.{count_of, value}
use Rattle.ir_core.specs.Bodies as b
use Rattle.ir_core.specs.Bodies.{OpTree, Shapes, Words, Performed, performed, Ranged, operand, with_word, first_bits, is_allowed}
use Rattle.ir_core.specs.Trees.{BlockTree}
use Rattle.passes.specs.Numbering.{result_of}
use Rattle.passes.specs.Conversion.Outs.{entry_value, held_or, held, is_set}
use Rattle.passes.specs.Conversion.Joining.{plain}
use Rattle.passes.specs.Conversion.Merging.{Choice, choices_for, choices, others, selected_bits, with_selection, with_selections}
use Rattle.pass_runs.specs.ConvertRuns.Typed.{HasBits, OutsAreTyped, Fits}
use Rattle.pass_runs.specs.ConvertRuns.Blocks.{Once, IsOpen}
use Rattle.pass_runs.proofs.ConvertRuns.Opening.{same_number, turned_number, outs_at, held_after, with_after}
use Rattle.pass_runs.proofs.ConvertRuns.Fitting.{GivesAll, word_fits}
use Rattle.pass_runs.proofs.ConvertRuns.Joining.{has_more}
use Rattle.pass_runs.proofs.ConvertRuns.Merged.{ChoiceIsTyped, ChoicesAreTyped, choices_more, selection_open}
use Rattle.pass_runs.proofs.ConvertRuns.MergedBlocks.Bits.{selected}
use Rattle.pass_runs.proofs.ConvertRuns.MergedBlocks.Guards.{Runs, gives, runs_more, operand_more, allowed_more}

get_of : (xs : List ℕ) (i x d : ℕ) → slice_get xs i ≡ Some x → get_or xs i d ≡ x
get_of [] i x d e = absurd cc
get_of (y ∷ xs) zero x d e = cc
get_of (y ∷ xs) (suc i) x d e = get_of xs i x d e

-- ---- which variables are chosen

abbrev pub names : List Choice → ℕ → Bool
names [] i = false
names (x ∷ xs) i = i == x.variable.0 || names xs i

names_both : (cs ds : List Choice) (i : ℕ) → names (cs ++ ds) i ≡ (names cs i || names ds i)
names_both [] ds i = refl
names_both (c ∷ cs) ds i = ap (λ x. i == c.variable.0 || x) (names_both cs ds i) ∙ assoc (i == c.variable.0) (names cs i) (names ds i) where
  assoc : (x y z : Bool) → (x || (y || z)) ≡ ((x || y) || z)
  assoc true y z = refl
  assoc false y z = refl

names_for : (outs yes_ no_ xs : List Out) (v : VarId) → names (choices_for outs yes_ no_ xs) v.0 ≡ is_set xs v
names_for outs yes_ no_ [] v = refl
names_for outs yes_ no_ (x ∷ xs) v = ap (λ y. v.0 == x.variable.0 || y) (names_for outs yes_ no_ xs v)

others_set : (yes_ no_ : List Out) (v : VarId) → is_set yes_ v ≡ false → is_set no_ v ≡ true → is_set (others yes_ no_) v ≡ true
others_set yes_ [] v e h = absurd cc
others_set yes_ (x ∷ xs) v e h = by (v.0 == x.variable.0) refl h (others_set yes_ xs v e) where
  stays : (c : Bool) → c ≡ false → is_set (if not c then x ∷ filter (λ y. not (is_set yes_ y.variable)) xs else filter (λ y. not (is_set yes_ y.variable)) xs) v ≡ (v.0 == x.variable.0 || is_set (others yes_ xs) v)
  stays true q = absurd cc
  stays false q = refl

  later : (c : Bool) → is_set (others yes_ xs) v ≡ true → is_set (if not c then x ∷ filter (λ y. not (is_set yes_ y.variable)) xs else filter (λ y. not (is_set yes_ y.variable)) xs) v ≡ true
  later true q = q
  later false q = ap (λ y. v.0 == x.variable.0 || y) q ∙ or_true (v.0 == x.variable.0) where
    or_true : (y : Bool) → (y || true) ≡ true
    or_true true = refl
    or_true false = refl

  by : (c : Bool) → (v.0 == x.variable.0) ≡ c → (c || is_set xs v) ≡ true → (is_set xs v ≡ true → is_set (others yes_ xs) v ≡ true) → is_set (others yes_ (x ∷ xs)) v ≡ true
  by true q k further =
      let n = same_number v.0 x.variable.0 q in
      stays (is_set yes_ x.variable) (ap (λ i. is_set yes_ (record { 0 = i })) (sym n) ∙ e) ∙ ap (λ c. c || is_set (others yes_ xs) v) q
  by false q k further = later (is_set yes_ x.variable) (further k)

-- what is set in the branch that is taken, is chosen
pub chosen_set : (outs yes_ no_ : List Out) (c : Bool) (v : VarId) → is_set (if c then yes_ else no_) v ≡ true → names (choices outs yes_ no_) v.0 ≡ true
chosen_set outs yes_ no_ c v h =
    names_both (choices_for outs yes_ no_ yes_) (choices_for outs yes_ no_ (others yes_ no_)) v.0 ∙ ap₂ (λ x y. x || y) (names_for outs yes_ no_ yes_ v) (names_for outs yes_ no_ (others yes_ no_) v) ∙ by c (is_set yes_ v) refl h where
      by : (c x : Bool) → is_set yes_ v ≡ x → is_set (if c then yes_ else no_) v ≡ true → (x || is_set (others yes_ no_) v) ≡ true
      by c true e k = refl
      by true false e k = absurd (no (sym e ∙ k)) where
        no : false ≡ true → ⊥
        no q = cc
      by false false e k = others_set yes_ no_ v e k

-- ---- what they hold

module _ (shapes : Shapes) (words : List ℕ) (test : Operand) (w : List OpTree) (t0 : Words) (fits : Fits shapes.widths words t0) where
  abbrev widths : List ℕ
  widths = shapes.widths

  abbrev R : List OpTree → List ℕ → Words → Type 0
  R ops results t = Runs shapes words [] test [] w t0 fits ops results t

  -- outs behind further operations
  pub outs_same : (ops : List OpTree) (results more : List ℕ) (t u : Words) → length ops ≡ length results → u.variables ≡ t.variables → (os : List Out) → OutsAreTyped widths words ops os → (f : ℕ → ℕ) → b.outs os u (results ++ more) f ≡ b.outs os t results f
  outs_same ops results more t u c e [] h f = refl
  outs_same ops results more t u c e (x ∷ os) h f =
      ap (λ n. b.outs os u (results ++ more) (with_word f x.variable.0 n)) (operand_more shapes words [] test [] w t0 fits ops results more t u h.0.0 x.value c e h.0.2)
      ∙ outs_same ops results more t u c e os h.1 (with_word f x.variable.0 (operand t results x.value))

  module _ (t : Words) (c : Bool) (g : ℕ → ℕ) where
    abbrev pub pick : Choice → Operand
    pick x = if c then x.yes_ else x.no_

    -- What is chosen is what the variables are to hold.
    abbrev pub Picked : List ℕ → List Choice → Type 0
    Picked results [] = Unit {0}
    Picked results (x ∷ xs) = (operand t results (pick x) ≡ g x.variable.0) × Picked results xs

    pick_has : (ops : List OpTree) (x : Choice) → (h : ChoiceIsTyped widths words ops x) → HasBits widths words ops h.0 (pick x).value
    pick_has ops x h = by c where
      by : (d : Bool) → HasBits widths words ops h.0 (if d then x.yes_ else x.no_).value
      by true = h.2
      by false = h.3

    picked_more : (ops : List OpTree) (results more : List ℕ) → length ops ≡ length results → (cs : List Choice) → ChoicesAreTyped widths words ops cs → Picked results cs → Picked (results ++ more) cs
    picked_more ops results more e [] h k = tt
    picked_more ops results more e (x ∷ cs) h k = (operand_more shapes words [] test [] w t0 fits ops results more t t h.0.0 (pick x) e refl (pick_has ops x h.0) ∙ k.0, picked_more ops results more e cs h.1 k.1)

    module _ (x : Choice) (block : BlockTree) (results : List ℕ) (runs : R block.ops results t) (open_ : IsOpen widths words block) (has : HasBits widths words block.ops 1 test.value) (typed : ChoiceIsTyped widths words block.ops x)
        (holds : is_allowed t results (Some test) ≡ c) (picked : operand t results (pick x) ≡ g x.variable.0) where
      abbrev bits : ℕ
      bits = selected_bits widths x.variable

      abbrev select : OpTree
      select = plain o.Select bits (test ∷ x.yes_ ∷ x.no_ ∷ [])

      abbrev result : ℕ
      result = value o.Select false bits (first_bits widths w select select.args) (operand t results test ∷ operand t results x.yes_ ∷ operand t results x.no_ ∷ [])

      all : GivesAll widths words block.ops t0 (record { results = results; words = t })
      all = gives shapes words [] test [] w t0 fits block.ops results t open_.typed.ops runs

      fits_at : (y : Operand) → HasBits widths words block.ops typed.0 y.value → operand t results y < count_of bits
      fits_at y h = subst (λ n. operand t results y < count_of n) (sym (get_of widths x.variable.0 typed.0 64 typed.1)) (word_fits widths words t block.ops results all.fits all.results y.value typed.0 h)

      result_is : result ≡ g x.variable.0
      result_is =
          selected (first_bits widths w select select.args) bits (operand t results test) (operand t results x.yes_) (operand t results x.no_) c holds (fits_at x.yes_ typed.2) (fits_at x.no_ typed.3)
          ∙ by c ∙ picked where
            by : (d : Bool) → (if d then operand t results x.yes_ else operand t results x.no_) ≡ operand t results (if d then x.yes_ else x.no_)
            by true = refl
            by false = refl

      pub select_runs : R (block.ops ++ select ∷ []) (results ++ result ∷ []) t
      select_runs = runs_more shapes words [] test [] w t0 fits block.ops results t select (performed result t) runs refl

      pub select_holds : (cs : List Choice) → ((i : ℕ) → (b.outs block.outs t results t.variables i ≡ g i) ⊎ (names (x ∷ cs) i ≡ true))
          → (i : ℕ) → (b.outs (with_selection widths test block x).outs t (results ++ result ∷ []) t.variables i ≡ g i) ⊎ (names cs i ≡ true)
      select_holds cs h i = by (x.variable.0 == i) refl (h i) where
        last : operand t (results ++ result ∷ []) (result_of (length block.ops)) ≡ result
        last = ap (λ k. get_or (results ++ result ∷ []) k 0) all.count ∙ get_or-append_seam results result [] 0

        now : b.outs (with_selection widths test block x).outs t (results ++ result ∷ []) t.variables i
            ≡ (if x.variable.0 == i then operand t (results ++ result ∷ []) (result_of (length block.ops)) else b.outs block.outs t (results ++ result ∷ []) t.variables i)
        now = with_after t (results ++ result ∷ []) block.outs open_.once x.variable (result_of (length block.ops)) t.variables i

        by : (d : Bool) → (x.variable.0 == i) ≡ d → (b.outs block.outs t results t.variables i ≡ g i) ⊎ (names (x ∷ cs) i ≡ true)
            → (b.outs (with_selection widths test block x).outs t (results ++ result ∷ []) t.variables i ≡ g i) ⊎ (names cs i ≡ true)
        by true e k =
            inl (now ∙ ap (λ d. if d then operand t (results ++ result ∷ []) (result_of (length block.ops)) else b.outs block.outs t (results ++ result ∷ []) t.variables i) e ∙ last ∙ result_is ∙ ap g (same_number x.variable.0 i e))
        by false e (inl k) =
            inl (now ∙ ap (λ d. if d then operand t (results ++ result ∷ []) (result_of (length block.ops)) else b.outs block.outs t (results ++ result ∷ []) t.variables i) e
            ∙ ap (λ (f : ℕ → ℕ). f i) (outs_same block.ops results (result ∷ []) t t all.count refl block.outs open_.typed.outs t.variables) ∙ k)
        by false e (inr k) = inr (sym (ap (λ d. d || names cs i) (turned_number i x.variable.0 ∙ e)) ∙ k)

    pub all_selected : (cs : List Choice) (block : BlockTree) (results : List ℕ) → R block.ops results t → IsOpen widths words block → HasBits widths words block.ops 1 test.value → ChoicesAreTyped widths words block.ops cs
        → is_allowed t results (Some test) ≡ c → Picked results cs → ((i : ℕ) → (b.outs block.outs t results t.variables i ≡ g i) ⊎ (names cs i ≡ true))
        → (more : List ℕ) × R (with_selections widths test block cs).ops (results ++ more) t × (b.outs (with_selections widths test block cs).outs t (results ++ more) t.variables ≡ g)
    all_selected [] block results runs open_ has typed holds picked h =
        let e = append-nil results in ([], subst (λ l. R block.ops l t) (sym e) runs, ap (λ l. b.outs block.outs t l t.variables) e ∙ (λ j i. known i (h i) j)) where
          known : (i : ℕ) → (b.outs block.outs t results t.variables i ≡ g i) ⊎ (false ≡ true) → b.outs block.outs t results t.variables i ≡ g i
          known i (inl k) = k
          known i (inr k) = absurd cc
    all_selected (x ∷ cs) block results runs open_ has typed holds picked h =
        let op = select x block results runs open_ has typed.0 holds picked.0 in
        let r = result x block results runs open_ has typed.0 holds picked.0 in
        let count = (all x block results runs open_ has typed.0 holds picked.0).count in
        let next = with_selection widths test block x in
        let rest = all_selected cs next (results ++ r ∷ []) (select_runs x block results runs open_ has typed.0 holds picked.0) (selection_open widths words test block x has typed.0 open_) (has_more widths words block.ops (op ∷ []) 1 test.value has)
        (choices_more widths words block.ops (op ∷ []) cs typed.1) (allowed_more shapes words [] test [] w t0 fits block.ops results (r ∷ []) t t (Some test) count refl has ∙ holds) (picked_more block.ops results (r ∷ []) count cs typed.1 picked.1)
        (select_holds x block results runs open_ has typed.0 holds picked.0 cs h) in
        let e = append_assoc results (r ∷ []) rest.0 in
        (r ∷ rest.0, subst (λ l. R (with_selections widths test next cs).ops l t) e rest.1, ap (λ l. b.outs (with_selections widths test next cs).outs t l t.variables) (sym e) ∙ rest.2)

  -- ---- the choices of a fork

  module _ (t : Words) (results : List ℕ) (outs yes_ no_ : List Out) (once : Once outs) (once_yes : Once yes_) (once_no : Once no_) (c : Bool) where
    abbrev before : ℕ → ℕ
    before = b.outs outs t results t.variables

    -- what the variables hold behind the branch that is taken
    abbrev pub behind : ℕ → ℕ
    behind = b.outs (if c then yes_ else no_) t results before

    held_before : (v : VarId) → operand t results (held outs v) ≡ before v.0
    held_before v = held_after t results outs once v (entry_value v) t.variables refl

    one_picked : (v : VarId) → operand t results (if c then held_or yes_ v (held outs v) else held_or no_ v (held outs v)) ≡ behind v.0
    one_picked v = by c where
      by : (d : Bool) → operand t results (if d then held_or yes_ v (held outs v) else held_or no_ v (held outs v)) ≡ b.outs (if d then yes_ else no_) t results before v.0
      by true = held_after t results yes_ once_yes v (held outs v) before (held_before v)
      by false = held_after t results no_ once_no v (held outs v) before (held_before v)

    for_picked : (xs : List Out) → Picked t c behind results (choices_for outs yes_ no_ xs)
    for_picked [] = tt
    for_picked (x ∷ xs) = (one_picked x.variable, for_picked xs)

    picked_both : (cs ds : List Choice) → Picked t c behind results cs → Picked t c behind results ds → Picked t c behind results (cs ++ ds)
    picked_both [] ds h k = k
    picked_both (x ∷ cs) ds h k = (h.0, picked_both cs ds h.1 k)

    pub all_picked : Picked t c behind results (choices outs yes_ no_)
    all_picked = picked_both (choices_for outs yes_ no_ yes_) (choices_for outs yes_ no_ (others yes_ no_)) (for_picked yes_) (for_picked (others yes_ no_))

    -- What is not chosen stays.
    pub all_known : (i : ℕ) → (before i ≡ behind i) ⊎ (names (choices outs yes_ no_) i ≡ true)
    all_known i = by (is_set (if c then yes_ else no_) (record { 0 = i })) refl where
      by : (d : Bool) → is_set (if c then yes_ else no_) (record { 0 = i }) ≡ d → (before i ≡ behind i) ⊎ (names (choices outs yes_ no_) i ≡ true)
      by true e = inr (chosen_set outs yes_ no_ c (record { 0 = i }) e)
      by false e = inl (sym (outs_at t results (if c then yes_ else no_) before (record { 0 = i }) e))
