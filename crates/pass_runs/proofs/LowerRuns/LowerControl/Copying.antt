-- Copies leave what a block does.
use Rattle.std.proofs.Common.{◌≡◌, ◌∙◌, ℕ, Bool, true, false, refl, ap, ap₂, sym, subst, pos, List, [], ◌∷◌, ◌++◌, append_assoc, append-nil, ◌||◌, inl, inr, length, if◌then◌else◌}
use Rattle.std.specs.Prelude.{◌==◌}
use Rattle.hls_base.specs.declared.number.VarId.{VarId}
use Rattle.c_token.specs.declared.ctype.CType.{CType}
use Rattle.c_value.specs.Values.{width}
use Rattle.ir_core.specs.declared.body.OpKind.TheVariants as o
use Rattle.ir_core.specs.declared.body.Operand.{Operand}
use Rattle.ir_core.specs.declared.body.Out.{Out}
use Rattle.ir_core.specs.Value as op
use Rattle.c_meaning.specs.PieceRuns.Values.{Store}
use Rattle.c_meaning.specs.PieceRuns.Pieces.{Frame}
use Rattle.ir_core.specs.Bodies.{OpTree, Shapes, Words, Ranged, operand, outs, with_word, with_outs}
use Rattle.ir_core.specs.Trees.{ExitTree, BlockTree, PartTrees}
use Rattle.ir_core.specs.TreeRuns.{parts_run, way_of}
use Rattle.passes.specs.Lowering.Operations.{Emitted, added, plain, entry_value}
use Rattle.passes.specs.Lowering.Outs.{operand_eq, held, without, own_out, with_out}
use Rattle.passes.specs.Lowering.Blocks.{type_of, variable_type}
use Rattle.passes.specs.Lowering.Copies.{outs_set, parts_set, Fixed, fixed_in, needs_copy, Copied, with_own, own_operand, copied_out, copied_outs, copied_block}
use Rattle.pass_runs.specs.LowerRuns.Early.{IsEarly}
use Rattle.pass_runs.specs.LowerRuns.OperatorWords.Words.{OperatorsAgree}
use Rattle.pass_runs.specs.LowerRuns.Standing.{Stands}
use Rattle.pass_runs.specs.LowerRuns.Suits.{shapes_of, scope_of}
use Rattle.pass_runs.specs.LowerRuns.Showing.{IsAt, without_number}
use Rattle.pass_runs.proofs.LowerRuns.Growing.{Grows, grows_nothing, grows_on, early_grows, word_grows}
use Rattle.pass_runs.proofs.LowerRuns.Adding.{adds}
use Rattle.pass_runs.specs.LowerRuns.Holding.{IsThere}
use Rattle.std.proofs.lemmas.Bool.{false≢true}
use Rattle.std.proofs.lemmas.Bool.Decides.{eqb_tells}
use Rattle.pass_runs.proofs.LowerRuns.LowerControl.Outs.{AreSingle, same_set}
use Rattle.pass_runs.proofs.LowerRuns.LowerControl.Cases.{self_same, or_true}
use Rattle.pass_runs.proofs.LowerRuns.LowerControl.Entering.{within_block, within_is}

-- ---- outs

abbrev pub AreEarlyOuts : ℕ → List Out → Type 0
AreEarlyOuts n [] = Unit {0}
AreEarlyOuts n (x ∷ xs) = IsEarly n x.value.value × AreEarlyOuts n xs

snoc_early : (n : ℕ) (xs : List Out) (x : Out) → AreEarlyOuts n xs → IsEarly n x.value.value → AreEarlyOuts n (xs ++ x ∷ [])
snoc_early n [] x h e = (e, tt)
snoc_early n (y ∷ ys) x h e = (h.0, snoc_early n ys x h.1 e)

snoc_outs : (xs : List Out) (x : Out) (t : Words) (results : List ℕ) (g : ℕ → ℕ) → outs (xs ++ x ∷ []) t results g ≡ with_word (outs xs t results g) x.variable.0 (operand t results x.value)
snoc_outs [] x t results g = refl
snoc_outs (y ∷ ys) x t results g = snoc_outs ys x t results (with_word g y.variable.0 (operand t results y.value))

module _ (shapes : Shapes) where
  outs_early : (ops ops' : List OpTree) (r r' : Ranged) → Grows shapes ops r ops' r' → (xs : List Out) → AreEarlyOuts (length r.results) xs → AreEarlyOuts (length r'.results) xs
  outs_early ops ops' r r' g [] h = tt
  outs_early ops ops' r r' g (x ∷ xs) h = (early_grows shapes ops ops' r r' g x.value.value h.0, outs_early ops ops' r r' g xs h.1)

  outs_grow : (ops ops' : List OpTree) (r r' : Ranged) → Grows shapes ops r ops' r' → (xs : List Out) → AreEarlyOuts (length r.results) xs → (g : ℕ → ℕ) → outs xs r'.words r'.results g ≡ outs xs r.words r.results g
  outs_grow ops ops' r r' grows [] h g = refl
  outs_grow ops ops' r r' grows (x ∷ xs) h g =
      outs_grow ops ops' r r' grows xs h.1 (with_word g x.variable.0 (operand r'.words r'.results x.value))
      ∙ ap (λ w. outs xs r.words r.results (with_word g x.variable.0 w)) (word_grows shapes ops ops' r r' grows x.value.value h.0)

-- ---- what each variable that is set holds is a pattern of its width

abbrev pub AreWorded : Frame → Ranged → List Out → Type 0
AreWorded f r [] = Unit {0}
AreWorded f r (x ∷ xs) = (IsEarly (length r.results) x.value.value × (op.pattern (width (variable_type (scope_of f) x.variable)) (pos (operand r.words r.results x.value)) ≡ operand r.words r.results x.value)) × AreWorded f r xs

module _ (f : Frame) (t : Words) (b : BlockTree) (r : Ranged) (later : PartTrees) (fixed : Fixed) where
  -- these outs were copied, each or not
  pub record Copies (those : List Out) (s : Copied) : Type 0 where
    pub next : Ranged
    pub stands : Stands (shapes_of f) t s.ops next
    pub grows : Grows (shapes_of f) b.ops r s.ops next
    pub early : AreEarlyOuts (length next.results) s.outs
    pub same : (g : ℕ → ℕ) → outs s.outs next.words next.results g ≡ outs those r.words r.results g

  -- an out with an operand that has the same word
  pub record Own (s : Copied) (c : Ranged) (x : Out) (y : Emitted) : Type 0 where
    pub next : Ranged
    pub stands : Stands (shapes_of f) t y.ops next
    pub grows : Grows (shapes_of f) s.ops c y.ops next
    pub early : IsEarly (length next.results) y.operand.value
    pub same : operand next.words next.results y.operand ≡ operand r.words r.results x.value

  with_one : (those : List Out) (s : Copied) (c : Copies those s) (x : Out) (y : Emitted) → Own s c.next x y → (taken : List Operand) → Copies (those ++ x ∷ []) (record { ops = y.ops; outs = s.outs ++ record { variable = x.variable; value = y.operand } ∷ []; taken = taken })
  with_one those s c x y h taken =
      let out1 : Out = record { variable = x.variable; value = y.operand } in record {
        next = h.next;
        stands = h.stands;
        grows = grows_on (shapes_of f) b.ops s.ops y.ops r c.next h.next c.grows h.grows;
        early = snoc_early (length h.next.results) s.outs out1 (outs_early (shapes_of f) s.ops y.ops c.next h.next h.grows s.outs c.early) h.early;
        same = λ g.
            (snoc_outs s.outs out1 h.next.words h.next.results g
            ∙ ap₂ (λ (m : ℕ → ℕ) (w : ℕ). with_word m x.variable.0 w) (outs_grow (shapes_of f) s.ops y.ops c.next h.next h.grows s.outs c.early g ∙ c.same g) h.same
            ∙ sym (snoc_outs those x r.words r.results g));
      }

  own_kept : (those : List Out) (s : Copied) (c : Copies those s) (x : Out) → IsEarly (length r.results) x.value.value → Own s c.next x (record { ops = s.ops; operand = x.value })
  own_kept those s c x early = record {
    next = c.next;
    stands = c.stands;
    grows = grows_nothing (shapes_of f) s.ops c.next;
    early = early_grows (shapes_of f) b.ops s.ops r c.next c.grows x.value.value early;
    same = word_grows (shapes_of f) b.ops s.ops r c.next c.grows x.value.value early;
  }

  own_copied : (those : List Out) (s : Copied) (c : Copies those s) (x : Out) → IsEarly (length r.results) x.value.value → (k : CType) → op.pattern (width k) (pos (operand r.words r.results x.value)) ≡ operand r.words r.results x.value
      → Own s c.next x (added s.ops (plain o.Copy (width k) (x.value ∷ [])))
  own_copied those s c x early k worded =
      let w = op.value o.Copy false (width k) 0 (operand c.next.words c.next.results x.value ∷ []) in
      let a = adds (shapes_of f) t s.ops c.next (plain o.Copy (width k) (x.value ∷ [])) w c.stands (λ more. refl) in record {
        next = a.next;
        stands = a.stands;
        grows = a.grows;
        early = a.fits.early;
        same = a.holds ∙ ap (λ n. op.pattern (width k) (pos n)) (word_grows (shapes_of f) b.ops s.ops r c.next c.grows x.value.value early) ∙ worded;
      }

  one_out : (those : List Out) (s : Copied) → Copies those s → (x : Out) → IsEarly (length r.results) x.value.value → op.pattern (width (variable_type (scope_of f) x.variable)) (pos (operand r.words r.results x.value)) ≡ operand r.words r.results x.value
      → Copies (those ++ x ∷ []) (copied_out (scope_of f) later fixed s x)
  one_out those s c x early worded = by (parts_set later x.variable) where
    own : (d : Bool) → Own s c.next x (if d then added s.ops (plain o.Copy (width (variable_type (scope_of f) x.variable)) (x.value ∷ [])) else record { ops = s.ops; operand = x.value })
    own true = own_copied those s c x early (variable_type (scope_of f) x.variable) worded
    own false = own_kept those s c x early

    by : (d : Bool) → Copies (those ++ x ∷ []) (if d then record s { outs = s.outs ++ x ∷ [] } else with_own x.variable s (own_operand (scope_of f) fixed s x))
    by true = with_one those s c x (record { ops = s.ops; operand = x.value }) (own_kept those s c x early) s.taken
    by false =
        let y = own_operand (scope_of f) fixed s x in with_one those s c x y (own (needs_copy fixed s.taken x.value x.value.value)) (s.taken ++ y.operand ∷ [])

  pub all_outs : (xs those : List Out) (s : Copied) → Copies those s → AreWorded f r xs → Copies (those ++ xs) (copied_outs (scope_of f) later fixed s xs)
  all_outs [] those s c h = subst (λ l. Copies l s) (sym (append-nil those)) c
  all_outs (x ∷ xs) those s c h =
      subst (λ l. Copies l (copied_outs (scope_of f) later fixed s (x ∷ xs))) (append_assoc those (x ∷ []) xs)
      (all_outs xs (those ++ x ∷ []) (copied_out (scope_of f) later fixed s x) (one_out those s c x h.0.0 h.0.1) h.1)

-- ---- the block with its copies

-- the way out does not hang on later operations
abbrev pub ExitKeeps : Frame → List OpTree → Ranged → ExitTree → Type 0
ExitKeeps f ops r exit = (ops' : List OpTree) (r' : Ranged) → Grows (shapes_of f) ops r ops' r' → way_of exit r'.words r'.results ≡ way_of exit r.words r.results

pub copied_within : (f : Frame) (t : Words) (b : BlockTree) (r : Ranged) (later : PartTrees) (variables : VarId → Bool) (parts : PartTrees) → Stands (shapes_of f) t b.ops r → AreWorded f r b.outs → ExitKeeps f b.ops r b.exit → (k : ℕ)
    → within_block (shapes_of f) (copied_block (scope_of f) later variables b) parts t k ≡ parts_run (shapes_of f) parts (way_of b.exit r.words r.results) (with_outs b.outs r) k
copied_within f t b r later variables parts stands worded keeps k =
    let fixed = fixed_in variables b in
    let first : Copied = record { ops = b.ops; outs = []; taken = [] } in
    let begin : Copies f t b r later fixed [] first = record { next = r; stands = stands; grows = grows_nothing (shapes_of f) b.ops r; early = tt; same = λ g. refl } in
    let c = all_outs f t b r later fixed b.outs [] first begin worded in
    let made = copied_outs (scope_of f) later fixed first b.outs in
    let words_same : c.next.words ≡ r.words = ap (λ (x : Ranged). x.words) c.grows.same in
    let same : with_outs made.outs c.next ≡ with_outs b.outs r =
    ap (λ m. record c.next.words { variables = m }) (c.same c.next.words.variables) ∙ ap (λ (w : Words). record w { variables = outs b.outs r.words r.results w.variables }) words_same in
    within_is (shapes_of f) (copied_block (scope_of f) later variables b) parts t c.next c.stands k
    ∙ ap₂ (λ w1 w2. parts_run (shapes_of f) parts w1 w2 k) (keeps made.ops c.next c.grows) same

-- ---- what is known of the outs of a block that is open

-- none of the variables that are set is hidden
abbrev pub AreSeen : Frame → (ℕ → Bool) → List Out → Type 0
AreSeen f hidden [] = Unit {0}
AreSeen f hidden (x ∷ xs) = ((hidden x.variable.0 ≡ false) × IsThere f x.variable) × AreSeen f hidden xs

held_first : (x : Out) (xs : List Out) → held (x ∷ xs) x.variable ≡ x.value
held_first x xs = ap (λ (c : Bool). if c then x.value else held xs x.variable) (self_same x.variable.0)

held_later : (x : Out) (xs : List Out) (y : VarId) → (x.variable.0 == y.0) ≡ false → held (x ∷ xs) y ≡ held xs y
held_later x xs y e = ap (λ (c : Bool). if c then x.value else held xs y) e

-- a variable that is set later is another one
apart : (x : Out) (xs : List Out) (y : VarId) → outs_set xs x.variable ≡ false → outs_set xs y ≡ true → (x.variable.0 == y.0) ≡ false
apart x xs y e set = elim (eqb_tells x.variable.0 y.0) [
  | inl h ↦ absurd (false≢true (sym (same_set xs x.variable y h.1 e) ∙ set))
  | inr h ↦ h.0
]

module _ (f : Frame) (operators : OperatorsAgree) (hidden : ℕ → Bool) (t : Words) (b : BlockTree) (r : Ranged) (s : Store) (at : IsAt f hidden t b r s) where
  -- an out that the block holds
  one_worded : (x : Out) → hidden x.variable.0 ≡ false → IsThere f x.variable → held b.outs x.variable ≡ x.value
      → IsEarly (length r.results) x.value.value × (op.pattern (width (variable_type (scope_of f) x.variable)) (pos (operand r.words r.results x.value)) ≡ operand r.words r.results x.value)
  one_worded x seen there e =
      let k = there.0 in
      let is_word = at.shows.variables x.variable k there.1 seen in
      let w = operand r.words r.results (held b.outs x.variable) in
      let kept = operators.kept k (s.variables x.variable.0) w is_word in (
        subst (λ z. IsEarly (length r.results) z.value) e (at.shows.fits x.variable k there.1).early,
        subst (λ z. op.pattern (width (variable_type (scope_of f) x.variable)) (pos (operand r.words r.results z)) ≡ operand r.words r.results z) e
            (subst (λ u. op.pattern (width (type_of u)) (pos w) ≡ w) (sym there.1) kept),
      )

  all_worded : (xs : List Out) → AreSingle xs → AreSeen f hidden xs → ((y : VarId) → outs_set xs y ≡ true → held b.outs y ≡ held xs y) → AreWorded f r xs
  all_worded [] single seen e = tt
  all_worded (x ∷ xs) single seen e = (
    one_worded x seen.0.0 seen.0.1 (e x.variable (ap (λ (c : Bool). c || outs_set xs x.variable) (self_same x.variable.0)) ∙ held_first x xs),
    all_worded xs single.1 seen.1 (λ y set. e y (or_true (x.variable.0 == y.0) (outs_set xs y) set) ∙ held_later x xs y (apart x xs y single.0 set)),
  )

  pub worded : AreSingle b.outs → AreSeen f hidden b.outs → AreWorded f r b.outs
  worded single seen = all_worded b.outs single seen (λ y set. refl)

-- ---- a variable that is set

worded_without : (f : Frame) (r : Ranged) (xs : List Out) (v : VarId) → AreWorded f r xs → AreWorded f r (without xs v)
worded_without f r [] v h = tt
worded_without f r (x ∷ xs) v h = by (x.variable.0 == v.0) (worded_without f r xs v h.1) where
  by : (c : Bool) → AreWorded f r (without xs v) → AreWorded f r (if c then without xs v else x ∷ without xs v)
  by true g = g
  by false g = (h.0, g)

worded_append : (f : Frame) (r : Ranged) (xs ys : List Out) → AreWorded f r xs → AreWorded f r ys → AreWorded f r (xs ++ ys)
worded_append f r [] ys h g = g
worded_append f r (x ∷ xs) ys h g = (h.0, worded_append f r xs ys h.1 g)

pub worded_set : (f : Frame) (r : Ranged) (xs : List Out) (v : VarId) (x : Operand) (c : Bool) → AreWorded f r xs → IsEarly (length r.results) x.value → op.pattern (width (variable_type (scope_of f) v)) (pos (operand r.words r.results x)) ≡ operand r.words r.results x
    → AreWorded f r (if c then with_out xs v x else xs)
worded_set f r xs v x false h early e = h
worded_set f r xs v x true h early e = by (operand_eq (held xs v) x) where
  own : (c : Bool) → AreWorded f r (if c then [] else record { variable = v; value = x } ∷ [])
  own true = tt
  own false = ((early, e), tt)

  by : (c : Bool) → AreWorded f r (if c then xs else without xs v ++ own_out v x)
  by true = h
  by false = worded_append f r (without xs v) (own_out v x) (worded_without f r xs v h) (own (operand_eq x (entry_value v)))

seen_without : (f : Frame) (hidden : ℕ → Bool) (xs : List Out) (v : VarId) → AreSeen f hidden xs → AreSeen f hidden (without xs v)
seen_without f hidden [] v h = tt
seen_without f hidden (x ∷ xs) v h = by (x.variable.0 == v.0) (seen_without f hidden xs v h.1) where
  by : (c : Bool) → AreSeen f hidden (without xs v) → AreSeen f hidden (if c then without xs v else x ∷ without xs v)
  by true g = g
  by false g = (h.0, g)

seen_append : (f : Frame) (hidden : ℕ → Bool) (xs ys : List Out) → AreSeen f hidden xs → AreSeen f hidden ys → AreSeen f hidden (xs ++ ys)
seen_append f hidden [] ys h g = g
seen_append f hidden (x ∷ xs) ys h g = (h.0, seen_append f hidden xs ys h.1 g)

seen_more : (f : Frame) (hidden : ℕ → Bool) (v : ℕ) (xs : List Out) → AreSeen f hidden xs → AreSeen f (without_number hidden v) xs
seen_more f hidden v [] h = tt
seen_more f hidden v (x ∷ xs) h = ((unhidden (v == x.variable.0) h.0.0, h.0.1), seen_more f hidden v xs h.1) where
  unhidden : (c : Bool) → hidden x.variable.0 ≡ false → (if c then false else hidden x.variable.0) ≡ false
  unhidden true e = refl
  unhidden false e = e

pub seen_set : (f : Frame) (hidden : ℕ → Bool) (xs : List Out) (v : VarId) (x : Operand) (c : Bool) → IsThere f v → AreSeen f hidden xs → AreSeen f (without_number hidden v.0) (if c then with_out xs v x else xs)
seen_set f hidden xs v x false there h = seen_more f hidden v.0 xs h
seen_set f hidden xs v x true there h = by (operand_eq (held xs v) x) where
  now : AreSeen f (without_number hidden v.0) xs
  now = seen_more f hidden v.0 xs h

  own : (c : Bool) → AreSeen f (without_number hidden v.0) (if c then [] else record { variable = v; value = x } ∷ [])
  own true = tt
  own false = ((ap (λ (d : Bool). if d then false else hidden v.0) (self_same v.0), there), tt)

  by : (c : Bool) → AreSeen f (without_number hidden v.0) (if c then xs else without xs v ++ own_out v x)
  by true = now
  by false = seen_append f (without_number hidden v.0) (without xs v) (own_out v x) (seen_without f (without_number hidden v.0) xs v now) (own (operand_eq x (entry_value v)))
