-- Expressions where the text is, and expressions as statements.
use Rattle.std.proofs.Common.{◌≡◌, ℕ, ◌≤◌, ◌∙◌, sym, refl, ap, subst, ℤ, Bool, true, false, true≢false, List, [], ◌∷◌, ◌++◌, length, Option, Some, None, le_refl, le_trans, arith}
use Rattle.std.proofs.lemmas.List.{append-nil, append_assoc}
use Rattle.hls_base.specs.declared.place.Place.{Place}
use Rattle.hls_base.specs.declared.number.ArrayId.{ArrayId}
use Rattle.pieces.specs.declared.resolved.expression.Cell.{Cell}
use Rattle.pieces.specs.Resolved.Core as core
use Rattle.pieces.specs.Resolved.Core.{CoreTree, CoreTrees, CoreActionTree}
use Rattle.piece_making.specs.declared.frame.Home.{Home}
use Rattle.piece_making.specs.Making.{State, Part, then_}
use Rattle.piece_making.specs.Calls.{Call}
use Rattle.c_expand.specs.Expressions.{Callee, expression, operands, discarded, is_call}
use Rattle.c_expand.specs.Statements.{valued, changed, action, actions}
use Rattle.c_meaning.specs.CoreRuns.Statements as ks
use Rattle.c_meaning.specs.CoreRuns.Statements.{action_tree}
use Rattle.c_meaning.specs.CoreRuns.Expressions as ce
use Rattle.pieces.specs.Trees as tree
use Rattle.c_meaning.specs.PieceRuns.Values.{value}
use Rattle.piece_making.specs.Assigning.{change, step, one}
use Rattle.expand_runs.proofs.Targets.{goes_behind}
use Rattle.pieces.specs.Trees.{row}
use Rattle.hls_base.specs.Steps as Steps
use Rattle.hls_base.specs.Steps.{Ran, goes}
use Rattle.hls_base.specs.Same.{Same}
use Rattle.hls_base.specs.Valued.{is}
use Rattle.piece_making.specs.Assigning.{apply, new_value, target_read}
use Rattle.expanded_programs.specs.Statements.Frames.{HomesIn, LivesIn, IsFrame, IsScene, Relates}
use Rattle.expanded_programs.specs.Statements.Scopes.{Setting, Reach, objects_in, IsSoundIn, ActionsSound}
use Rattle.expand_runs.specs.Calling.{CallsSame}
use Rattle.expanded_programs.proofs.StatementsLemmas.Scenes.{world_of, over_of, seen_cell}
use Rattle.expanded_programs.proofs.StatementsLemmas.Moving.{scene_grown, scene_later}
use Rattle.expand_runs.proofs.PartRuns.{Does, any_later, all_later, call_or_matters, discard_goes, discard_later, over_later}
use Rattle.expand_runs.proofs.Expressions.{expression_same, operands_same}
use Rattle.expand_runs.proofs.Assignments.{element_then, element_bump_then}
use Rattle.expand_runs.proofs.Targets.{target_scalar, applied_same, applied_bump}
use Rattle.expand_runs.proofs.Evaluating.{on_same, goes_first}
use Rattle.expand_runs.proofs.Sames.{goes_same, same_more}
use Rattle.expand_runs.proofs.Rows.{run_of}
use Rattle.expand_runs.proofs.FineExpressions.{CalleesKeep, any_fit, store_fine}
use Rattle.expanded_programs.proofs.StatementsLemmas.FineStatements.{action_keeps}
use Rattle.expand_runs.specs.Reading.{UnaryFits, BinaryFits, HasTypes}
use Rattle.c_meaning.specs.PieceRuns.Pieces.{Frame, Way, on}
use Rattle.c_meaning.specs.CoreRuns.Cells.{Here, Cells, Spot, spot_of}
use Rattle.expand_runs.proofs.Growing.{grown_both, grown_later, later_same, within_before, within_grown}
use Rattle.c_meaning.specs.CoreRuns.Kinds.{kind_of}
use Rattle.c_tree.specs.declared.operator.Binary.{Binary}
use Rattle.expand_runs.specs.Evaluating.{Evaluated, Matters}
use Rattle.c_meaning.specs.CoreRuns.Expressions.{CoreCalls}
use Rattle.pieces.specs.Trees.{PureTree, PureTrees}
use Rattle.c_meaning.specs.PieceRuns.Values.{Store}
use Rattle.expand_runs.specs.Growing.{IsGrown, IsLater, IsWithin}
use Rattle.c_token.specs.declared.ctype.CType.{CType}
use Rattle.piece_making.specs.Acting.{no_effects, effects}
use Rattle.expand_runs.specs.Showing.{Known}
use Rattle.expand_runs.specs.Fitting.{Anything}
use Rattle.pieces.specs.Kind.{kind}

module _ (unary_fits : UnaryFits) (binary_fits : BinaryFits) (f : Frame) (k : ℕ) (here : Here) (c : Call) (S : Setting) (Homes0 : Spot → Home → Type 0) (Lives0 : Spot → Type 0) (kinds : Known) (fresh_ base : ℕ) (frame : IsFrame f here c S Homes0 Lives0 kinds fresh_ base) (cc : CoreCalls) (g : Callee) (callees : (r : Reach) → CalleesKeep f (objects_in S r) g c) (calls : (r : Reach) (seen : ℕ → Option ArrayId) (st : State) → IsScene f c S Homes0 base r seen st → CallsSame k f here c (objects_in S r) (HomesIn here c Homes0 Lives0 seen) (LivesIn here c Homes0 Lives0 r) kinds base (length st.arrays) (seen_cell seen) cc g) where
  abbrev I : Reach → (ℕ → Option ArrayId) → Cells → Store → Type 0
  I = Relates f here c Homes0 Lives0 kinds

  -- Control goes on, and the value is there where it matters.
  pub record HasValue (used : Bool) (e : CoreTree) (x : PureTree) (r : Reach) (seen : ℕ → Option ArrayId) (v : ℤ) (s : Cells) (w : Way) (t : Store) : Type 0 where
    pub on_ : w ≡ on
    pub relates : I r seen s t
    pub value : Matters used e → (value f.arrays x t ≡ is v) × (kind x ≡ kind_of e) × HasTypes f x

  pub evaluated : (used : Bool) (e : CoreTree) (r : Reach) (seen : ℕ → Option ArrayId) (st : State) (scene : IsScene f c S Homes0 base r seen st) → IsSoundIn S r e → IsWithin (expression g c e st).state f → (s : Cells) (t : Store) (n : ℕ) → n ≤ k → I r seen s t
      → Same false k (HasValue used e (expression g c e st).value r seen) (ce.expression cc used e here s n) (run_of f (expression g c e st).pieces t n)
  evaluated used e r seen st scene sound within s t n le rel =
      same_more k k (Does unary_fits binary_fits f k here c (objects_in S r) (HomesIn here c Homes0 Lives0 seen) (LivesIn here c Homes0 Lives0 r) kinds base (world_of f here c S Homes0 Lives0 kinds fresh_ base frame r seen st scene) cc g (callees r) used e st (expression g c e st)) (HasValue used e (expression g c e st).value r seen) (ce.expression cc used e here s n) (run_of f (expression g c e st).pieces t n) (le_refl k)
      (λ v s1 w t1 a. record { on_ = a.done.on_; relates = (a.done.shown, a.done.typed); value = λ m. (let q = a.value m in (q.same, q.type, q.types)) })
      (expression_same unary_fits binary_fits f k here c (objects_in S r) (HomesIn here c Homes0 Lives0 seen) (LivesIn here c Homes0 Lives0 r) kinds base (world_of f here c S Homes0 Lives0 kinds fresh_ base frame r seen st scene) cc g (callees r) (calls r seen st scene) used e sound st (over_of f here c S Homes0 Lives0 kinds fresh_ base frame r seen st scene) within s t n le rel.0 rel.1)

  pub expression_later : (r : Reach) (seen : ℕ → Option ArrayId) (st : State) (scene : IsScene f c S Homes0 base r seen st) (e : CoreTree) → IsLater st (expression g c e st).state
  expression_later r seen st scene e = any_later unary_fits binary_fits f k here c (objects_in S r) (HomesIn here c Homes0 Lives0 seen) (LivesIn here c Homes0 Lives0 r) kinds base (world_of f here c S Homes0 Lives0 kinds fresh_ base frame r seen st scene) cc g (callees r) e st

  -- control goes on from stores that are related
  abbrev pub Goes_on : {A : Type 0} → Reach → (ℕ → Option ArrayId) → A → Cells → Way → Store → Type 0
  Goes_on r seen v s w t = (w ≡ on) × I r seen s t

  still_on : {A : Type 0} (r : Reach) (seen : ℕ → Option ArrayId) (v : A) (s : Cells) (w : Way) (t : Store) → Evaluated f (HomesIn here c Homes0 Lives0 seen) (LivesIn here c Homes0 Lives0 r) kinds s w t → Goes_on r seen v s w t
  still_on r seen v s w t h = (h.on_, (h.shown, h.typed))

  abbrev ActionRuns : CoreTree → Part (Unit {0}) → Reach → (ℕ → Option ArrayId) → Cells → Store → ℕ → Type 0
  ActionRuns e part r seen s t n = Same false k (λ (v : ℤ) s1 w t1. Goes_on r seen v s1 w t1) (ce.expression cc false e here s n) (run_of f part.pieces t n)

  valued_same : (e : CoreTree) (r : Reach) (seen : ℕ → Option ArrayId) (st : State) (scene : IsScene f c S Homes0 base r seen st) → IsSoundIn S r e → IsWithin (valued g c e st).state f → (s : Cells) (t : Store) (n : ℕ) → n ≤ k → I r seen s t → ActionRuns e (valued g c e st) r seen s t n
  unfolding valued then_
  valued_same e r seen st scene sound within s t n le rel =
      let x = expression g c e st in
      let u = discarded (is_call e) x.value x.state in
      let low = (scene_later f here c S Homes0 Lives0 kinds fresh_ base frame r seen st x.state (expression_later r seen st scene e) scene).low in
      let within1 = within_before x.state u.state f (discard_later unary_fits binary_fits f k here c (objects_in S r) (HomesIn here c Homes0 Lives0 seen) (LivesIn here c Homes0 Lives0 r) kinds base (world_of f here c S Homes0 Lives0 kinds fresh_ base frame r seen st scene) cc g (callees r) (is_call e) x.value x.state) within in
      let Q = λ (v : ℤ) (s1 : Cells) (w : Way) (t1 : Store). Goes_on r seen v s1 w t1 in
      subst (λ q. Same false k Q q (run_of f (x.pieces ++ u.pieces) t n)) (goes_behind (ce.expression cc false e here s n))
      (on_same f k (HasValue false e x.value r seen) Q x.pieces u.pieces (ce.expression cc false e here s n) (λ v s1 n1. goes v s1 n1) t n (evaluated false e r seen st scene sound within1 s t n le rel) (λ v s1 w t1 a. a.on_)
      (λ v s1 w t1 n1 le1 a.
      let d = discard_goes unary_fits binary_fits f k here c (objects_in S r) (HomesIn here c Homes0 Lives0 seen) (LivesIn here c Homes0 Lives0 r) kinds base (world_of f here c S Homes0 Lives0 kinds fresh_ base frame r seen st scene) cc g (callees r) (is_call e) x.value x.state s1 t1 low within a.relates.0 a.relates.1 (λ z. (let q = a.value (call_or_matters e z) in (v, q.0, q.2))) in
      subst (λ zs. Same false k Q (goes v s1 n1) (run_of f zs t1 n1)) (append-nil u.pieces)
      (goes_first f k Q u.pieces [] (goes v s1 n1) t1 d.0 n1 d.1 (goes_same k Q v s1 on d.0 n1 le1 (refl, (d.2, d.3))))))

  apply_later : (cell : Cell) (kd : CType) (place : Place) (xs : PureTrees) (op : Option Binary) (at : Place) (by : PureTree) (st : State) → IsLater st (apply c (change cell kd place xs op at) by st).state
  apply_later cell kd place xs op at by st =
      let t = change cell kd place xs op at in
      (store_fine f (λ t. Unit {0}) 0 (λ i le t x u. tt) c cell place xs (new_value t (target_read c t st) by) st (λ e t x u. tt) (λ t a i x u. tt)).later

  changed_same : (e : CoreTree) (r : Reach) (seen : ℕ → Option ArrayId) (st : State) (scene : IsScene f c S Homes0 base r seen st) → IsSoundIn S r e → IsWithin (changed g c e st).state f → (s : Cells) (t : Store) (n : ℕ) → n ≤ k → I r seen s t → ActionRuns e (changed g c e st) r seen s t n
  unfolding changed then_
  changed_same (core.assign (core.target cell core.none kd place) op v at) r seen st scene sound within s t n le rel =
      let by = expression g c v st in
      let part = apply c (change cell kd place tree.none op at) by.value by.state in
      let up = any_later unary_fits binary_fits f k here c (objects_in S r) (HomesIn here c Homes0 Lives0 seen) (LivesIn here c Homes0 Lives0 r) kinds base (world_of f here c S Homes0 Lives0 kinds fresh_ base frame r seen st scene) cc g (callees r) v st in
      let within1 = within_before by.state part.state f (apply_later cell kd place tree.none op at by.value by.state) within in
      let Q = λ (x : ℤ) (s1 : Cells) (w : Way) (t1 : Store). Goes_on r seen x s1 w t1 in
      let Ev = λ (x : ℤ) (s1 : Cells) (w : Way) (t1 : Store). Evaluated f (HomesIn here c Homes0 Lives0 seen) (LivesIn here c Homes0 Lives0 r) kinds s1 w t1 in
      on_same f k (HasValue true v by.value r seen) Q by.pieces part.pieces (ce.expression cc true v here s n) (λ x s2 n2. ce.assigned op (spot_of here cell) [] kd place (kind_of v) x at s2 n2) t n (evaluated true v r seen st scene sound.2 within1 s t n le rel) (λ x s1 w t1 a. a.on_)
      (λ x s1 w t1 n1 le1 a.
      same_more k k Ev Q (ce.assigned op (spot_of here cell) [] kd place (kind_of v) x at s1 n1) (run_of f part.pieces t1 n1) (le_refl k) (λ y s2 w2 t2 z. still_on r seen y s2 w2 t2 z)
      (applied_same unary_fits binary_fits f k here c (objects_in S r) (HomesIn here c Homes0 Lives0 seen) (LivesIn here c Homes0 Lives0 r) kinds base (world_of f here c S Homes0 Lives0 kinds fresh_ base frame r seen st scene) cell kd place tree.none [] op at by.value x (kind_of v) (length by.state.variables) by.state s1 t1 n1 le1 sound.4 (over_later unary_fits binary_fits f k here c (objects_in S r) (HomesIn here c Homes0 Lives0 seen) (LivesIn here c Homes0 Lives0 r) kinds base (world_of f here c S Homes0 Lives0 kinds fresh_ base frame r seen st scene) cc g (callees r) st by.state (over_of f here c S Homes0 Lives0 kinds fresh_ base frame r seen st scene) up).noted
      (target_scalar unary_fits binary_fits f k here c (objects_in S r) (HomesIn here c Homes0 Lives0 seen) (LivesIn here c Homes0 Lives0 r) kinds base (world_of f here c S Homes0 Lives0 kinds fresh_ base frame r seen st scene) cell kd place (length by.state.variables) s1 t1 sound.0 a.relates.0) a.relates.0 a.relates.1 (a.value tt).0 (a.value tt).1))
  changed_same (core.assign (core.target cell (core.more first rest) kd place) op v at) r seen st scene sound within s t n le rel =
      let over = over_of f here c S Homes0 Lives0 kinds fresh_ base frame r seen st scene in
      let all = operands g c (core.more first rest) (effects v) [] st in
      let by = expression g c v all.state in
      let part = apply c (change cell kd place (row all.value) op at) by.value by.state in
      let up = all_later unary_fits binary_fits f k here c (objects_in S r) (HomesIn here c Homes0 Lives0 seen) (LivesIn here c Homes0 Lives0 r) kinds base (world_of f here c S Homes0 Lives0 kinds fresh_ base frame r seen st scene) cc g (callees r) (core.more first rest) (effects v) [] st in
      let over1 = over_later unary_fits binary_fits f k here c (objects_in S r) (HomesIn here c Homes0 Lives0 seen) (LivesIn here c Homes0 Lives0 r) kinds base (world_of f here c S Homes0 Lives0 kinds fresh_ base frame r seen st scene) cc g (callees r) st all.state over up in
      let over2 = over_later unary_fits binary_fits f k here c (objects_in S r) (HomesIn here c Homes0 Lives0 seen) (LivesIn here c Homes0 Lives0 r) kinds base (world_of f here c S Homes0 Lives0 kinds fresh_ base frame r seen st scene) cc g (callees r) all.state by.state over1 (any_later unary_fits binary_fits f k here c (objects_in S r) (HomesIn here c Homes0 Lives0 seen) (LivesIn here c Homes0 Lives0 r) kinds base (world_of f here c S Homes0 Lives0 kinds fresh_ base frame r seen st scene) cc g (callees r) v all.state) in
      let within1 = within_before by.state part.state f (apply_later cell kd place (row all.value) op at by.value by.state) within in
      let Q = λ (x : ℤ) (s1 : Cells) (w : Way) (t1 : Store). Goes_on r seen x s1 w t1 in
      let Ev = λ (x : ℤ) (s1 : Cells) (w : Way) (t1 : Store). Evaluated f (HomesIn here c Homes0 Lives0 seen) (LivesIn here c Homes0 Lives0 r) kinds s1 w t1 in
      subst (λ zs. Same false k Q (ce.expression cc false (core.assign (core.target cell (core.more first rest) kd place) op v at) here s n) (run_of f (zs ++ (by.pieces ++ part.pieces)) t n)) (sym (append-nil all.pieces))
      (element_then unary_fits binary_fits f k here c (objects_in S r) (HomesIn here c Homes0 Lives0 seen) (LivesIn here c Homes0 Lives0 r) kinds base (world_of f here c S Homes0 Lives0 kinds fresh_ base frame r seen st scene) cc g (callees r) Q part.pieces (λ js x s2 n2. ce.assigned op (spot_of here cell) js kd place (kind_of v) x at s2 n2) cell first rest kd place op v at st s t n sound over
      (operands_same unary_fits binary_fits f k here c (objects_in S r) (HomesIn here c Homes0 Lives0 seen) (LivesIn here c Homes0 Lives0 r) kinds base (world_of f here c S Homes0 Lives0 kinds fresh_ base frame r seen st scene) cc g (callees r) (calls r seen st scene) (core.more first rest) sound.1 (effects v) [] [] st over (within_before all.state by.state f (any_later unary_fits binary_fits f k here c (objects_in S r) (HomesIn here c Homes0 Lives0 seen) (LivesIn here c Homes0 Lives0 r) kinds base (world_of f here c S Homes0 Lives0 kinds fresh_ base frame r seen st scene) cc g (callees r) v all.state) within1) s t n le rel.0 rel.1)
      (λ s1 t1 n1 le1 shown1 typed1. expression_same unary_fits binary_fits f k here c (objects_in S r) (HomesIn here c Homes0 Lives0 seen) (LivesIn here c Homes0 Lives0 r) kinds base (world_of f here c S Homes0 Lives0 kinds fresh_ base frame r seen st scene) cc g (callees r) (calls r seen st scene) true v sound.2 all.state over1 within1 s1 t1 n1 le1 shown1 typed1)
      (λ js x s2 t2 n2 le2 target shown typed there type.
      same_more k k Ev Q (ce.assigned op (spot_of here cell) js kd place (kind_of v) x at s2 n2) (run_of f part.pieces t2 n2) (le_refl k) (λ y s3 w3 t3 z. still_on r seen y s3 w3 t3 z)
      (applied_same unary_fits binary_fits f k here c (objects_in S r) (HomesIn here c Homes0 Lives0 seen) (LivesIn here c Homes0 Lives0 r) kinds base (world_of f here c S Homes0 Lives0 kinds fresh_ base frame r seen st scene) cell kd place (row all.value) js op at by.value x (kind_of v) (length by.state.variables) by.state s2 t2 n2 le2 sound.4 over2.noted target shown typed there type)))
  changed_same (core.bump (core.target cell core.none kd place) up post at) r seen st scene sound within s t n le rel =
      let Q = λ (x : ℤ) (s1 : Cells) (w : Way) (t1 : Store). Goes_on r seen x s1 w t1 in
      let Ev = λ (x : ℤ) (s1 : Cells) (w : Way) (t1 : Store). Evaluated f (HomesIn here c Homes0 Lives0 seen) (LivesIn here c Homes0 Lives0 r) kinds s1 w t1 in
      same_more k k Ev Q (ce.bumped up post (spot_of here cell) [] kd place at s n) (run_of f (apply c (change cell kd place tree.none (step up) at) one st).pieces t n) (le_refl k) (λ y s3 w3 t3 z. still_on r seen y s3 w3 t3 z)
      (applied_bump unary_fits binary_fits f k here c (objects_in S r) (HomesIn here c Homes0 Lives0 seen) (LivesIn here c Homes0 Lives0 r) kinds base (world_of f here c S Homes0 Lives0 kinds fresh_ base frame r seen st scene) cell kd place tree.none [] up post at (length st.variables) st s t n le (over_of f here c S Homes0 Lives0 kinds fresh_ base frame r seen st scene).noted (target_scalar unary_fits binary_fits f k here c (objects_in S r) (HomesIn here c Homes0 Lives0 seen) (LivesIn here c Homes0 Lives0 r) kinds base (world_of f here c S Homes0 Lives0 kinds fresh_ base frame r seen st scene) cell kd place (length st.variables) s t sound.0 rel.0) rel.0 rel.1)
  changed_same (core.bump (core.target cell (core.more first rest) kd place) up post at) r seen st scene sound within s t n le rel =
      let over = over_of f here c S Homes0 Lives0 kinds fresh_ base frame r seen st scene in
      let all = operands g c (core.more first rest) no_effects [] st in
      let part = apply c (change cell kd place (row all.value) (step up) at) one all.state in
      let later = all_later unary_fits binary_fits f k here c (objects_in S r) (HomesIn here c Homes0 Lives0 seen) (LivesIn here c Homes0 Lives0 r) kinds base (world_of f here c S Homes0 Lives0 kinds fresh_ base frame r seen st scene) cc g (callees r) (core.more first rest) no_effects [] st in
      let over1 = over_later unary_fits binary_fits f k here c (objects_in S r) (HomesIn here c Homes0 Lives0 seen) (LivesIn here c Homes0 Lives0 r) kinds base (world_of f here c S Homes0 Lives0 kinds fresh_ base frame r seen st scene) cc g (callees r) st all.state over later in
      let within1 = within_before all.state part.state f (apply_later cell kd place (row all.value) (step up) at one all.state) within in
      let Q = λ (x : ℤ) (s1 : Cells) (w : Way) (t1 : Store). Goes_on r seen x s1 w t1 in
      let Ev = λ (x : ℤ) (s1 : Cells) (w : Way) (t1 : Store). Evaluated f (HomesIn here c Homes0 Lives0 seen) (LivesIn here c Homes0 Lives0 r) kinds s1 w t1 in
      subst (λ zs. Same false k Q (ce.expression cc false (core.bump (core.target cell (core.more first rest) kd place) up post at) here s n) (run_of f (zs ++ part.pieces) t n)) (sym (append-nil all.pieces))
      (element_bump_then unary_fits binary_fits f k here c (objects_in S r) (HomesIn here c Homes0 Lives0 seen) (LivesIn here c Homes0 Lives0 r) kinds base (world_of f here c S Homes0 Lives0 kinds fresh_ base frame r seen st scene) cc g (callees r) Q part.pieces (λ js s1 n1. ce.bumped up post (spot_of here cell) js kd place at s1 n1) cell first rest kd place up post at st s t n sound over
      (operands_same unary_fits binary_fits f k here c (objects_in S r) (HomesIn here c Homes0 Lives0 seen) (LivesIn here c Homes0 Lives0 r) kinds base (world_of f here c S Homes0 Lives0 kinds fresh_ base frame r seen st scene) cc g (callees r) (calls r seen st scene) (core.more first rest) sound.1 no_effects [] [] st over within1 s t n le rel.0 rel.1)
      (λ js s1 t1 n1 le1 target shown typed.
      same_more k k Ev Q (ce.bumped up post (spot_of here cell) js kd place at s1 n1) (run_of f part.pieces t1 n1) (le_refl k) (λ y s3 w3 t3 z. still_on r seen y s3 w3 t3 z)
      (applied_bump unary_fits binary_fits f k here c (objects_in S r) (HomesIn here c Homes0 Lives0 seen) (LivesIn here c Homes0 Lives0 r) kinds base (world_of f here c S Homes0 Lives0 kinds fresh_ base frame r seen st scene) cell kd place (row all.value) js up post at (length all.state.variables) all.state s1 t1 n1 le1 over1.noted target shown typed)))
  changed_same (core.number v kd) r seen st scene sound within s t n le rel = valued_same (core.number v kd) r seen st scene sound within s t n le rel
  changed_same (core.scalar cell kd at) r seen st scene sound within s t n le rel = valued_same (core.scalar cell kd at) r seen st scene sound within s t n le rel
  changed_same (core.element name subscripts kd at) r seen st scene sound within s t n le rel = valued_same (core.element name subscripts kd at) r seen st scene sound within s t n le rel
  changed_same (core.call callee args kd at) r seen st scene sound within s t n le rel = valued_same (core.call callee args kd at) r seen st scene sound within s t n le rel
  changed_same (core.unary op arg kd at) r seen st scene sound within s t n le rel = valued_same (core.unary op arg kd at) r seen st scene sound within s t n le rel
  changed_same (core.binary op left right kd at) r seen st scene sound within s t n le rel = valued_same (core.binary op left right kd at) r seen st scene sound within s t n le rel
  changed_same (core.choice test left right kd at colon) r seen st scene sound within s t n le rel = valued_same (core.choice test left right kd at colon) r seen st scene sound within s t n le rel
  changed_same (core.cast to arg) r seen st scene sound within s t n le rel = valued_same (core.cast to arg) r seen st scene sound within s t n le rel
  changed_same (core.comma left right) r seen st scene sound within s t n le rel = valued_same (core.comma left right) r seen st scene sound within s t n le rel

  action_same : (a : CoreActionTree) (r : Reach) (seen : ℕ → Option ArrayId) (st : State) (scene : IsScene f c S Homes0 base r seen st) → IsSoundIn S r (action_tree a) → IsWithin (action g c a st).state f → (s : Cells) (t : Store) (n : ℕ) → n ≤ k → I r seen s t
      → ActionRuns (action_tree a) (action g c a st) r seen s t n
  action_same (core.change e) r seen st scene sound within s t n le rel = changed_same e r seen st scene sound within s t n le rel
  action_same (core.value e) r seen st scene sound within s t n le rel = valued_same e r seen st scene sound within s t n le rel

  action_grown : (a : CoreActionTree) (r : Reach) (st : State) → IsGrown (λ i. Unit {0}) st (action g c a st).state
  action_grown a r st =
      (action_keeps f (λ t. Unit {0}) (λ i. Unit {0}) 0 (λ i le t x u. tt) g c Anything (callees r).any (λ i lt t x u. tt) (λ t a i x u. tt) a st (omega arith) (any_fit (action_tree a), λ x d t y u. tt)).grown

  pub actions_grown : (list : List CoreActionTree) (r : Reach) (st : State) → IsGrown (λ i. Unit {0}) st (actions g c list st).state
  unfolding actions then_
  actions_grown [] r st = grown_later (λ i. Unit {0}) st st (later_same st)
  actions_grown (a ∷ rest) r st = grown_both (λ i. Unit {0}) st (action g c a st).state (actions g c rest (action g c a st).state).state (action_grown a r st) (actions_grown rest r (action g c a st).state)

  -- Expressions whose values are not used, one after another.
  pub actions_same : (list : List CoreActionTree) (r : Reach) (seen : ℕ → Option ArrayId) (st : State) → IsScene f c S Homes0 base r seen st → ActionsSound S r list → IsWithin (actions g c list st).state f → (s : Cells) (t : Store) (n : ℕ) → n ≤ k → I r seen s t
      → Same false k (λ (u : Unit {0}) s1 w t1. Goes_on r seen u s1 w t1) (ks.act_all cc list here s n) (run_of f (actions g c list st).pieces t n)
  unfolding actions then_
  actions_same [] r seen st scene sound within s t n le rel = goes_same k (λ (u : Unit {0}) s1 w t1. Goes_on r seen u s1 w t1) tt s on t n le (refl, rel)
  actions_same (a ∷ rest) r seen st scene sound within s t n le rel =
      let x = action g c a st in
      let y = actions g c rest x.state in
      let grown = action_grown a r st in
      let scene1 = scene_grown f here c S Homes0 Lives0 kinds fresh_ base frame (λ i. Unit {0}) r seen st x.state (λ i slot a e z. tt) grown scene in
      on_same f k (λ (v : ℤ) s1 w t1. Goes_on r seen v s1 w t1) (λ (u : Unit {0}) s1 w t1. Goes_on r seen u s1 w t1) x.pieces y.pieces (ce.expression cc false (action_tree a) here s n) (λ v s1 n1. ks.act_all cc rest here s1 n1) t n
      (action_same a r seen st scene sound.0 (within_grown (λ i. Unit {0}) x.state y.state f (actions_grown rest r x.state) within) s t n le rel) (λ v s1 w t1 a. a.0)
      (λ v s1 w t1 n1 le1 a. actions_same rest r seen x.state scene1 sound.1 within s1 t1 n1 le1 a.1)
