-- What the pieces of an expression keep.
use Rattle.std.proofs.lemmas.Bool.{false≢true}
use Rattle.std.proofs.Common.{◌≡◌, ℕ, ◌≤◌, ◌<◌, Bool, true, false, ◌||◌, ◌&&◌, ◌⊎◌, inl, inr, List, [], ◌∷◌, ◌++◌, length, ◌∙◌, sym, refl, ap, subst, le_refl, le_trans, arith, Option, if◌then◌else◌}
use Rattle.std.proofs.lemmas.List.{length-append, append-nil, append_assoc}
use Rattle.hls_base.specs.declared.number.VarId.{VarId}
use Rattle.hls_base.specs.declared.place.Place.{Place}
use Rattle.c_token.specs.declared.ctype.CType.{CType}
use Rattle.c_tree.specs.declared.operator.Binary.{Binary}
use Rattle.pieces.specs.declared.resolved.expression.Cell.{Cell}
use Rattle.pieces.specs.Resolved.Core as core
use Rattle.pieces.specs.Resolved.Core.{CoreTree, CoreTargetTree, CoreTrees, ArgumentTree, ArgumentTrees}
use Rattle.pieces.specs.Trees as tree
use Rattle.pieces.specs.Trees.{PureTree, PureTrees, PieceTree, piece_row, row}
use Rattle.pieces.specs.Kind.{kind}
use Rattle.piece_making.specs.declared.effects.Effects.{Effects}
use Rattle.piece_making.specs.Acting.{spoils, acts, either, no_effects, effects, effects_of_all, effects_of_argument, effects_of_arguments}
use Rattle.piece_making.specs.Making.{State, Part, gives, then_, emit, fresh, set_own}
use Rattle.piece_making.specs.Saving.{save, is_logical}
use Rattle.piece_making.specs.Calls.{Call, variable, array}
use Rattle.piece_making.specs.Assigning.{Change, change, store_at, store, assigned, bumped, bumped_behind, new_value, target_read, one, step}
use Rattle.c_meaning.specs.PieceRuns.Values.{Store}
use Rattle.c_meaning.specs.PieceRuns.Pieces.{Frame}
use Rattle.c_expand.specs.Expressions.{Given, Callee, value_given, is_call, may_be_unused, set_unused, discarded, comma_left, value_or_zero, arm, decided, to_bool, same, fork_of, is_or, forked, operated, chosen, expression, operands, targeted, argument, arguments}
use Rattle.expand_runs.specs.Sound.{Objects, IsSound, AreSound, ArgumentSound, ArgumentsSound, Changes, AnyChanges, ArgumentChanges, ArgumentsChange}
use Rattle.expand_runs.specs.Fitting.{HaveShape, CallsFit, AllFit, ArgumentFits, ArgumentsFit, Taken, Anything}
use Rattle.expand_runs.proofs.Reading.{or_left, or_right}
use Rattle.expand_runs.proofs.Fine.{Sets, Puts, AreAllowed, IsFine, IsFineWithin, fine_gives, fine_then, fine_emit, fine_set, fine_put, fine_fresh, fine_inside, within_fine, fine_own, fine_save}

abbrev IsMore : PureTrees → Type 0
IsMore tree.none = ⊥
IsMore (tree.more first rest) = Unit {0}

-- ---- effects of parts

pub spoils_or : (a b p q : Bool) → a || b ≡ true → (a || p) || (b || q) ≡ true
spoils_or true b p q e = refl
spoils_or false true p q e = or_right p true refl
spoils_or false false p q e = absurd (false≢true e)

pub spoils_or2 : (a b p q : Bool) → a || b ≡ true → (p || a) || (q || b) ≡ true
spoils_or2 true b p q e = or_left (p || true) (q || b) (or_right p true refl)
spoils_or2 false b p q e = or_right (p || false) (q || b) (or_right q b e)

module _ (f : Frame) (I : Store → Type 0) (low : ℕ) (own : (i : ℕ) → low ≤ i → Sets f I i) where
  -- What the objects that are changed, the calls and the writes of an expression may set.
  pub record Permits (c : Call) (C : Cell → Type 0) (e : Effects) : Type 0 where
    pub cells : (x : Cell) → C x → Sets f I (variable c x).0
    pub calls : e.calls ≡ true → (i : ℕ) → i < c.file_variables → Sets f I i
    pub puts : spoils e ≡ true → Puts f I

  permits_left : (c : Call) (C D : Cell → Type 0) (a b : Effects) → ((x : Cell) → D x → C x) → Permits c C (either a b) → Permits c D a
  permits_left c C D a b h p = record { cells = λ x d. p.cells x (h x d); calls = λ e. p.calls (or_left a.calls b.calls e); puts = λ e. p.puts (spoils_or a.calls a.changes b.calls b.changes e) }

  permits_right : (c : Call) (C D : Cell → Type 0) (a b : Effects) → ((x : Cell) → D x → C x) → Permits c C (either a b) → Permits c D b
  permits_right c C D a b h p = record { cells = λ x d. p.cells x (h x d); calls = λ e. p.calls (or_right a.calls b.calls e); puts = λ e. p.puts (spoils_or2 b.calls b.changes a.calls a.changes e) }

  -- calls of functions keep it
  abbrev pub CalleesFine : Callee → Call → (ℕ → ArgumentTrees → Type 0) → Type 0
  CalleesFine g c F = (callee : ℕ) (args : ArgumentTrees) (given : List Given) (at : Place) (s : State) → F callee args → HaveShape args given → low ≤ length s.variables → ((i : ℕ) → i < c.file_variables → Sets f I i) → Puts f I → IsFine f I s (g callee given c at s)

  abbrev IsFineThere : {A : Type 0} → (State → Part A) → Type 0
  IsFineThere part = (s : State) → low ≤ length s.variables → IsFine f I s (part s)

  pub further : {A : Type 0} (s : State) (part : Part A) → IsFine f I s part → low ≤ length s.variables → low ≤ length part.state.variables
  further s part h le = le_trans le h.later.more

  pub if_fine : {A : Type 0} (b : Bool) (x y : Part A) (s : State) → IsFine f I s x → IsFine f I s y → IsFine f I s (if b then x else y)
  if_fine true x y s h g = h
  if_fine false x y s h g = g

  pub set_fresh : (k : CType) (x : PureTree) (s : State) → low ≤ length s.variables → IsFine f I (fresh k s).state (emit (tree.set (fresh k s).value x) (fresh k s).state)
  unfolding fresh
  set_fresh k x s le = fine_set f I (fresh k s).value x (fresh k s).state (own (length s.variables) le)

  -- ---- forks

  arm_fine : (c : Call) (at : Place) (operand : State → Part PureTree) (converted : PureTree → PureTree) (name : VarId) (s : State) → low ≤ length s.variables → Sets f I name.0 → IsFineThere operand
      → IsFineWithin f I s (arm c at operand converted name s)
  arm_fine c at operand converted name s le set_ h =
      fine_inside f I (λ s0. then_ (emit (tree.mark _) s0) (λ u s1. then_ (operand s1) (λ value s2. emit (tree.set name (converted value)) s2))) s
      (λ s0 e.
      let marked = fine_emit f I (tree.mark _) s0 tt tt in
      let s1 = (emit (tree.mark _) s0).state in
      let le1 = further s0 (emit (tree.mark _) s0) marked (subst_le s0 e) in
      let g = h s1 le1 in
      fine_then f I s0 (emit (tree.mark _) s0) (λ u s1. then_ (operand s1) (λ value s2. emit (tree.set name (converted value)) s2)) marked
      (fine_then f I s1 (operand s1) (λ value s2. emit (tree.set name (converted value)) s2) g (fine_set f I name (converted (operand s1).value) (operand s1).state set_)))
    where
      subst_le : (s0 : State) → s0.variables ≡ s.variables → low ≤ length s0.variables
      subst_le s0 e = let z = ap length e in omega (arith, le, z)

  decided_fine : (is_one : Bool) (name : VarId) (s : State) → Sets f I name.0 → IsFineWithin f I s (decided is_one name s)
  decided_fine is_one name s set_ = fine_inside f I (λ s0. emit (tree.set name _) s0) s (λ s0 e. fine_set f I name _ s0 set_)

  fork_fine : (c : Call) (at : Place) (test : PureTree) (left right : List PieceTree) (name : VarId) (k : CType) (s : State) → AreAllowed f I left → AreAllowed f I right → IsFine f I s (fork_of c at test left right name k s)
  fork_fine c at test left right name k s h g =
      fine_then f I s (emit (tree.fork test (piece_row left) (piece_row right) _) s) (λ u s1. gives (tree.variable name k) s1) (fine_emit f I (tree.fork test (piece_row left) (piece_row right) _) s (h, g) tt) (fine_gives f I _ _)

  fresh_set : (k : CType) (s : State) → low ≤ length s.variables → Sets f I (fresh k s).value.0
  unfolding fresh
  fresh_set k s le = own (length s.variables) le

  forked_fine : (c : Call) (op : Binary) (k : CType) (at : Place) (test : PureTree) (right : State → Part PureTree) (s : State) → low ≤ length s.variables → IsFineThere right → IsFine f I s (forked c op k at test right s)
  forked_fine c op k at test right s le h =
      let o = fresh k s in
      let fo = fine_fresh f I k s in
      let le1 = further s o fo le in
      let set_ = fresh_set k s le in
      let reached = arm c at right to_bool o.value o.state in
      let fr = arm_fine c at right to_bool o.value o.state le1 set_ h in
      let other = decided (is_or op) o.value reached.state in
      let fd = decided_fine (is_or op) o.value reached.state set_ in
      fine_then f I s o (λ name s1. then_ (arm c at right to_bool name s1) (λ reached s2. then_ (decided (is_or op) name s2) (λ other s3.
      if is_or op then fork_of c at test other.pieces reached.pieces name k s3 else fork_of c at test reached.pieces other.pieces name k s3))) fo
      (fine_then f I o.state reached (λ reached s2. then_ (decided (is_or op) o.value s2) (λ other s3.
      if is_or op then fork_of c at test other.pieces reached.pieces o.value k s3 else fork_of c at test reached.pieces other.pieces o.value k s3)) (within_fine f I o.state reached fr)
      (fine_then f I reached.state other (λ other s3. if is_or op then fork_of c at test other.pieces reached.value.pieces o.value k s3 else fork_of c at test reached.value.pieces other.pieces o.value k s3) (within_fine f I reached.state other fd)
      (if_fine (is_or op) (fork_of c at test other.value.pieces reached.value.pieces o.value k other.state) (fork_of c at test reached.value.pieces other.value.pieces o.value k other.state) other.state
      (fork_fine c at test other.value.pieces reached.value.pieces o.value k other.state fd.inner fr.inner) (fork_fine c at test reached.value.pieces other.value.pieces o.value k other.state fr.inner fd.inner))))

  operated_fine : (c : Call) (op : Binary) (k : CType) (at : Place) (x : PureTree) (later : Effects) (right : State → Part PureTree) (s : State) → low ≤ length s.variables → IsFineThere right → IsFine f I s (operated c op k at x later right s)
  operated_fine c op k at x later right s le h =
      let left = save c.file_variables x later s in
      let fl = fine_save f I low own c.file_variables x later s le in
      let le1 = further s left fl le in
      fine_then f I s left (λ y s1. if (is_logical op && acts later) then forked c op k at y right s1 else then_ (right s1) (λ z s2. gives (tree.binary op y z k at) s2)) fl
      (if_fine (is_logical op && acts later) (forked c op k at left.value right left.state) (then_ (right left.state) (λ z s2. gives (tree.binary op left.value z k at) s2)) left.state
      (forked_fine c op k at left.value right left.state le1 h)
      (fine_then f I left.state (right left.state) (λ z s2. gives (tree.binary op left.value z k at) s2) (h left.state le1) (fine_gives f I _ _)))

  chosen_fine : (c : Call) (k : CType) (at colon : Place) (test : PureTree) (later : Effects) (left right : State → Part PureTree) (s : State) → low ≤ length s.variables → IsFineThere left → IsFineThere right
      → IsFine f I s (chosen c k at colon test later left right s)
  unfolding chosen
  chosen_fine c k at colon test later left right s le h g =
      let t = save c.file_variables test later s in
      let ft = fine_save f I low own c.file_variables test later s le in
      let le1 = further s t ft le in
      let o = fresh k t.state in
      let fo = fine_fresh f I k t.state in
      let le2 = further t.state o fo le1 in
      let set_ = fresh_set k t.state le1 in
      let first = arm c at left same o.value o.state in
      let fa = arm_fine c at left same o.value o.state le2 set_ h in
      let le3 = further o.state first (within_fine f I o.state first fa) le2 in
      let second = arm c colon right same o.value first.state in
      let fb = arm_fine c colon right same o.value first.state le3 set_ g in
      if_fine (acts later)
      (then_ (save c.file_variables test later s) (λ t s1. then_ (fresh k s1) (λ name s2. then_ (arm c at left same name s2) (λ first s3. then_ (arm c colon right same name s3) (λ second s4. fork_of c at t first.pieces second.pieces name k s4)))))
      (then_ (left s) (λ x s1. then_ (right s1) (λ y s2. gives (tree.choice test x y k) s2))) s
      (fine_then f I s t (λ t s1. then_ (fresh k s1) (λ name s2. then_ (arm c at left same name s2) (λ first s3. then_ (arm c colon right same name s3) (λ second s4. fork_of c at t first.pieces second.pieces name k s4)))) ft
      (fine_then f I t.state o (λ name s2. then_ (arm c at left same name s2) (λ first s3. then_ (arm c colon right same name s3) (λ second s4. fork_of c at t.value first.pieces second.pieces name k s4))) fo
      (fine_then f I o.state first (λ first s3. then_ (arm c colon right same o.value s3) (λ second s4. fork_of c at t.value first.pieces second.pieces o.value k s4)) (within_fine f I o.state first fa)
      (fine_then f I first.state second (λ second s4. fork_of c at t.value first.value.pieces second.pieces o.value k s4) (within_fine f I first.state second fb)
      (fork_fine c at t.value first.value.pieces second.value.pieces o.value k second.state fa.inner fb.inner)))))
      (fine_then f I s (left s) (λ x s1. then_ (right s1) (λ y s2. gives (tree.choice test x y k) s2)) (h s le)
      (fine_then f I (left s).state (right (left s).state) (λ y s2. gives (tree.choice test (left s).value y k) s2) (g (left s).state (further s (left s) (h s le) le)) (fine_gives f I _ _)))

  -- ---- assignments

  pub store_fine : (c : Call) (cell : Cell) (at : Place) (subscripts : PureTrees) (v : PureTree) (s : State) → (subscripts ≡ tree.none → Sets f I (variable c cell).0) → Puts f I → IsFine f I s (store_at c cell at subscripts v s)
  store_fine c cell at tree.none v s set_ puts = fine_set f I (variable c cell) v s (set_ refl)
  store_fine c cell at (tree.more first rest) v s set_ puts = fine_put f I _ (tree.more first rest) v at s puts

  pub assigned_fine : (c : Call) (t : Change) (by : PureTree) (s : State) → low ≤ length s.variables → (t.subscripts ≡ tree.none → Sets f I (variable c t.cell).0) → Puts f I → IsFine f I s (assigned c t by s)
  assigned_fine c t by s le set_ puts =
      let x = new_value t (target_read c t s) by in
      let o = fresh t.kind s in
      let e = emit (tree.set o.value x) o.state in
      fine_then f I s o (λ own s1. then_ (emit (tree.set own x) s1) (λ u s2. then_ (store c t (tree.variable own t.kind) s2) (λ v s3. gives (tree.variable own t.kind) s3))) (fine_fresh f I t.kind s)
      (fine_then f I o.state e (λ u s2. then_ (store c t (tree.variable o.value t.kind) s2) (λ v s3. gives (tree.variable o.value t.kind) s3)) (set_fresh t.kind x s le)
      (fine_then f I e.state (store c t (tree.variable o.value t.kind) e.state) (λ v s3. gives (tree.variable o.value t.kind) s3) (store_fine c t.cell t.target_at t.subscripts (tree.variable o.value t.kind) e.state set_ puts) (fine_gives f I _ _)))

  pub behind_fine : (c : Call) (t : Change) (s : State) → low ≤ length s.variables → (t.subscripts ≡ tree.none → Sets f I (variable c t.cell).0) → Puts f I → IsFine f I s (bumped_behind c t s)
  behind_fine c t s le set_ puts =
      let x = target_read c t s in
      let o = fresh t.kind s in
      let e = emit (tree.set o.value x) o.state in
      let y = new_value t (tree.variable o.value t.kind) one in
      fine_then f I s o (λ own s1. then_ (emit (tree.set own x) s1) (λ u s2. then_ (store c t (new_value t (tree.variable own t.kind) one) s2) (λ v s3. gives (tree.variable own t.kind) s3))) (fine_fresh f I t.kind s)
      (fine_then f I o.state e (λ u s2. then_ (store c t y s2) (λ v s3. gives (tree.variable o.value t.kind) s3)) (set_fresh t.kind x s le)
      (fine_then f I e.state (store c t y e.state) (λ v s3. gives (tree.variable o.value t.kind) s3) (store_fine c t.cell t.target_at t.subscripts y e.state set_ puts) (fine_gives f I _ _)))

  pub bumped_fine : (c : Call) (t : Change) (post : Bool) (s : State) → low ≤ length s.variables → (t.subscripts ≡ tree.none → Sets f I (variable c t.cell).0) → Puts f I → IsFine f I s (bumped c t post s)
  bumped_fine c t post s le set_ puts = if_fine post (bumped_behind c t s) (assigned c t one s) s (behind_fine c t s le set_ puts) (assigned_fine c t one s le set_ puts)

  pub unused_fine : (x : PureTree) (s : State) → low ≤ length s.variables → IsFine f I s (set_unused x s)
  unused_fine x s le = fine_then f I s (set_own (kind x) x s) (λ own s1. gives tt s1) (fine_own f I low own (kind x) x s le) (fine_gives f I _ _)

  pub discarded_fine : (b : Bool) (x : PureTree) (s : State) → low ≤ length s.variables → IsFine f I s (discarded b x s)
  discarded_fine b x s le = if_fine b (gives tt s) (set_unused x s) s (fine_gives f I tt s) (unused_fine x s le)

  pub comma_left_fine : (n : ℕ) (left : CoreTree) (x : PureTree) (later : Effects) (s : State) → low ≤ length s.variables → IsFine f I s (comma_left n left x later s)
  comma_left_fine n left x later s le =
      let y = save n x later s in
      let h = fine_save f I low own n x later s le in
      if_fine (is_call left) (gives tt s) (then_ y (λ z s1. discarded (may_be_unused left) z s1)) s (fine_gives f I tt s)
      (fine_then f I s y (λ z s1. discarded (may_be_unused left) z s1) h (discarded_fine (may_be_unused left) y.value y.state (further s y h le)))

  -- ---- expressions

  module _ (g : Callee) (c : Call) (F : ℕ → ArgumentTrees → Type 0) (callees : CalleesFine g c F) where
    pub target_fine : (cell : Cell) (subscripts : CoreTrees) (k : CType) (place : Place) (later : Effects) (op : Option Binary) (at : Place) (s : State) → IsFine f I s (operands g c subscripts later [] s)
        → IsFine f I s (targeted g c (core.target cell subscripts k place) later op at s)
    target_fine cell subscripts k place later op at s h = fine_then f I s (operands g c subscripts later [] s) (λ given s1. gives (change cell k place (row given) op at) s1) h (fine_gives f I _ _)

    -- There is an expression for each subscript.
    given_longer : (xs : CoreTrees) (later : Effects) (before : List PureTree) (s : State) → length before ≤ length (operands g c xs later before s).value
    unfolding then_
    given_longer core.none later before s = le_refl (length before)
    given_longer (core.more first rest) later before s =
        let x = expression g c first s in
        let y = save c.file_variables x.value (either (effects_of_all rest) later) x.state in
        let h = given_longer rest later (before ++ y.value ∷ []) y.state in
        let e = length-append before (y.value ∷ []) in
        omega (arith, h, e)

    pub some_given : (first : CoreTree) (rest : CoreTrees) (later : Effects) (s : State) → row (operands g c (core.more first rest) later [] s).value ≡ tree.none → ⊥
    unfolding then_
    some_given first rest later s e =
        let x = expression g c first s in
        let y = save c.file_variables x.value (either (effects_of_all rest) later) x.state in
        none_given (operands g c rest later (y.value ∷ []) y.state).value (given_longer rest later (y.value ∷ []) y.state) e
      where
        none_given : (ys : List PureTree) → 1 ≤ length ys → row ys ≡ tree.none → ⊥
        none_given [] le e = absurd (omega (arith, le))
        none_given (y ∷ ys) le e = subst IsMore e tt

    -- There is a number for each number and an array for each array.
    shaped : (args : ArgumentTrees) (before : List Given) (s : State) → (given : List Given) × ((arguments g c args before s).value ≡ before ++ given) × HaveShape args given
    unfolding then_
    shaped core.no_argument before s = ([], sym (append-nil before), tt)
    shaped (core.more_arguments (core.given v) rest) before s =
        let x = argument g c (core.given v) (effects_of_arguments rest) s in
        let q = shaped rest (before ++ x.value ∷ []) x.state in
        (x.value ∷ q.0, q.1 ∙ append_assoc before (x.value ∷ []) q.0, q.2)
    shaped (core.more_arguments (core.array cell) rest) before s =
        let x = argument g c (core.array cell) (effects_of_arguments rest) s in
        let q = shaped rest (before ++ x.value ∷ []) x.state in
        (x.value ∷ q.0, q.1 ∙ append_assoc before (x.value ∷ []) q.0, q.2)

    pub given_shaped : (args : ArgumentTrees) (s : State) → HaveShape args (arguments g c args [] s).value
    given_shaped args s = let q = shaped args [] s in subst (HaveShape args) (sym q.1) q.2

    mutual
      unfolding then_

      pub expression_fine : (e : CoreTree) (s : State) → low ≤ length s.variables → CallsFit F e → Permits c (λ x. Changes x e) (effects e) → IsFine f I s (expression g c e s)
      expression_fine (core.number v k) s le fit p = fine_gives f I _ s
      expression_fine (core.scalar cell k at) s le fit p = fine_gives f I _ s
      expression_fine (core.element name subscripts k at) s le fit p =
          let all = operands g c subscripts no_effects [] s in
          fine_then f I s all (λ given s1. gives (tree.element (array c name s1) (row given) k at) s1) (operands_fine subscripts no_effects [] s le fit p) (fine_gives f I _ _)
      expression_fine (core.call callee args k at) s le fit p =
          let all = arguments g c args [] s in
          let h = arguments_fine args [] s le fit.1 (record { cells = p.cells; calls = λ e. p.calls refl; puts = λ e. p.puts refl }) in
          fine_then f I s (then_ all (λ given s1. g callee given c at s1)) (λ v s2. gives (value_or_zero v) s2)
          (fine_then f I s all (λ given s1. g callee given c at s1) h (callees callee args all.value at all.state fit.0 (given_shaped args s) (further s all h le) (p.calls refl) (p.puts refl))) (fine_gives f I _ _)
      expression_fine (core.unary op arg k at) s le fit p = fine_then f I s (expression g c arg s) (λ x s1. gives (tree.unary op x k at) s1) (expression_fine arg s le fit p) (fine_gives f I _ _)
      expression_fine (core.binary op left right k at) s le fit p =
          let x = expression g c left s in
          let h = expression_fine left s le fit.0 (permits_left c _ (λ y. Changes y left) (effects left) (effects right) (λ y d. inl d) p) in
          fine_then f I s x (λ x s1. operated c op k at x (effects right) (expression g c right) s1) h
          (operated_fine c op k at x.value (effects right) (expression g c right) x.state (further s x h le)
          (λ s1 le1. expression_fine right s1 le1 fit.1 (permits_right c _ (λ y. Changes y right) (effects left) (effects right) (λ y d. inr d) p)))
      expression_fine (core.choice test left right k at colon) s le fit p =
          let t = expression g c test s in
          let both = either (either (effects test) (effects left)) (effects right) in
          let p1 : Permits c (λ y. Changes y test ⊎ Changes y left) (either (effects test) (effects left)) = permits_left c _ (λ y. Changes y test ⊎ Changes y left) (either (effects test) (effects left)) (effects right) (λ y d. elim d [ inl a ↦ inl a | inr b ↦ inr (inl b) ]) p in
          let h = expression_fine test s le fit.0 (permits_left c _ (λ y. Changes y test) (effects test) (effects left) (λ y d. inl d) p1) in
          fine_then f I s t (λ t s1. chosen c k at colon t (either (effects left) (effects right)) (expression g c left) (expression g c right) s1) h
          (chosen_fine c k at colon t.value (either (effects left) (effects right)) (expression g c left) (expression g c right) t.state (further s t h le)
          (λ s1 le1. expression_fine left s1 le1 fit.1 (permits_right c _ (λ y. Changes y left) (effects test) (effects left) (λ y d. inr d) p1))
          (λ s1 le1. expression_fine right s1 le1 fit.2 (permits_right c _ (λ y. Changes y right) (either (effects test) (effects left)) (effects right) (λ y d. inr (inr d)) p)))
      expression_fine (core.cast to arg) s le fit p = fine_then f I s (expression g c arg s) (λ x s1. gives (tree.cast to x) s1) (expression_fine arg s le fit p) (fine_gives f I _ _)
      expression_fine (core.assign (core.target cell core.none k place) op v at) s le fit p =
          let by = expression g c v s in
          let q = expression_fine v s le fit.1 (record { cells = λ x d. p.cells x (inr d); calls = p.calls; puts = λ e. p.puts (or_right _ true refl) }) in
          fine_then f I s (targeted g c (core.target cell core.none k place) (effects v) op at s) (λ t s1. then_ (expression g c v s1) (λ by s2. assigned c t by s2)) (target_fine cell core.none k place (effects v) op at s (fine_gives f I [] s))
          (fine_then f I s by (λ by s2. assigned c (change cell k place tree.none op at) by s2) q
          (assigned_fine c (change cell k place tree.none op at) by.value by.state (further s by q le) (λ e. p.cells cell (inl refl)) (p.puts (or_right _ true refl))))
      expression_fine (core.assign (core.target cell (core.more first rest) k place) op v at) s le fit p =
          let subscripts = core.more first rest in
          let t = targeted g c (core.target cell subscripts k place) (effects v) op at s in
          let permits : Permits c (λ x. (Changes x first ⊎ AnyChanges x rest) ⊎ Changes x v) (either (effects_of_all subscripts) (effects v)) = record { cells = p.cells; calls = p.calls; puts = λ e. p.puts (or_right _ true refl) } in
          let h = target_fine cell subscripts k place (effects v) op at s (operands_fine (core.more first rest) (effects v) [] s le fit.0 (permits_left c _ (λ x. Changes x first ⊎ AnyChanges x rest) (effects_of_all subscripts) (effects v) (λ x d. inl d) permits)) in
          let le1 = further s t h le in
          let by = expression g c v t.state in
          let q = expression_fine v t.state le1 fit.1 (permits_right c _ (λ x. Changes x v) (effects_of_all subscripts) (effects v) (λ x d. inr d) permits) in
          fine_then f I s t (λ t s1. then_ (expression g c v s1) (λ by s2. assigned c t by s2)) h
          (fine_then f I t.state by (λ by s2. assigned c t.value by s2) q
          (assigned_fine c t.value by.value by.state (further t.state by q le1) (λ e. absurd (some_given first rest (effects v) s e)) (p.puts (or_right _ true refl))))
      expression_fine (core.bump (core.target cell core.none k place) up post at) s le fit p =
          fine_then f I s (targeted g c (core.target cell core.none k place) no_effects (step up) at s) (λ t s1. bumped c t post s1) (target_fine cell core.none k place no_effects (step up) at s (fine_gives f I [] s))
          (bumped_fine c (change cell k place tree.none (step up) at) post s le (λ e. p.cells cell refl) (p.puts refl))
      expression_fine (core.bump (core.target cell (core.more first rest) k place) up post at) s le fit p =
          let subscripts = core.more first rest in
          let t = targeted g c (core.target cell subscripts k place) no_effects (step up) at s in
          let h = target_fine cell subscripts k place no_effects (step up) at s (operands_fine (core.more first rest) no_effects [] s le fit (record { cells = p.cells; calls = p.calls; puts = λ e. p.puts (or_right _ true refl) })) in
          fine_then f I s t (λ t s1. bumped c t post s1) h (bumped_fine c t.value post t.state (further s t h le) (λ e. absurd (some_given first rest no_effects s e)) (p.puts (or_right _ true refl)))
      expression_fine (core.comma left right) s le fit p =
          let x = expression g c left s in
          let q : Permits c (λ y. Changes y left ⊎ Changes y right) (either (effects left) (effects right)) = record { cells = p.cells; calls = p.calls; puts = p.puts } in
          let h = expression_fine left s le fit.0 (permits_left c _ (λ y. Changes y left) (effects left) (effects right) (λ y d. inl d) q) in
          let le1 = further s x h le in
          let u = comma_left c.file_variables left x.value (effects right) x.state in
          let d = comma_left_fine c.file_variables left x.value (effects right) x.state le1 in
          fine_then f I s x (λ x s1. then_ (comma_left c.file_variables left x (effects right) s1) (λ u s2. expression g c right s2)) h
          (fine_then f I x.state u (λ u s2. expression g c right s2) d
          (expression_fine right u.state (further x.state u d le1) fit.1 (permits_right c _ (λ y. Changes y right) (effects left) (effects right) (λ y d. inr d) q)))

      pub operands_fine : (xs : CoreTrees) (later : Effects) (before : List PureTree) (s : State) → low ≤ length s.variables → AllFit F xs → Permits c (λ x. AnyChanges x xs) (effects_of_all xs) → IsFine f I s (operands g c xs later before s)
      operands_fine core.none later before s le fit p = fine_gives f I before s
      operands_fine (core.more first rest) later before s le fit p =
          let x = expression g c first s in
          let h = expression_fine first s le fit.0 (permits_left c _ (λ y. Changes y first) (effects first) (effects_of_all rest) (λ y d. inl d) p) in
          let le1 = further s x h le in
          let y = save c.file_variables x.value (either (effects_of_all rest) later) x.state in
          let q = fine_save f I low own c.file_variables x.value (either (effects_of_all rest) later) x.state le1 in
          fine_then f I s x (λ x s1. then_ (save c.file_variables x (either (effects_of_all rest) later) s1) (λ y s2. operands g c rest later (before ++ y ∷ []) s2)) h
          (fine_then f I x.state y (λ y s2. operands g c rest later (before ++ y ∷ []) s2) q
          (operands_fine rest later (before ++ y.value ∷ []) y.state (further x.state y q le1) fit.1 (permits_right c _ (λ y. AnyChanges y rest) (effects first) (effects_of_all rest) (λ y d. inr d) p)))

      argument_fine : (a : ArgumentTree) (later : Effects) (s : State) → low ≤ length s.variables → ArgumentFits F a → Permits c (λ x. ArgumentChanges x a) (effects_of_argument a) → IsFine f I s (argument g c a later s)
      argument_fine (core.given e) later s le fit p =
          let x = expression g c e s in
          let h = expression_fine e s le fit p in
          fine_then f I s x (λ x s1. then_ (save c.file_variables x later s1) (λ y s2. gives (value_given y) s2)) h
          (fine_then f I x.state (save c.file_variables x.value later x.state) (λ y s2. gives (value_given y) s2) (fine_save f I low own c.file_variables x.value later x.state (further s x h le)) (fine_gives f I _ _))
      argument_fine (core.array cell) later s le fit p = fine_gives f I _ s

      pub arguments_fine : (args : ArgumentTrees) (before : List Given) (s : State) → low ≤ length s.variables → ArgumentsFit F args → Permits c (λ x. ArgumentsChange x args) (effects_of_arguments args) → IsFine f I s (arguments g c args before s)
      arguments_fine core.no_argument before s le fit p = fine_gives f I before s
      arguments_fine (core.more_arguments first rest) before s le fit p =
          let x = argument g c first (effects_of_arguments rest) s in
          let h = argument_fine first (effects_of_arguments rest) s le fit.0 (permits_left c _ (λ y. ArgumentChanges y first) (effects_of_argument first) (effects_of_arguments rest) (λ y d. inl d) p) in
          fine_then f I s x (λ a s1. arguments g c rest (before ++ a ∷ []) s1) h
          (arguments_fine rest (before ++ x.value ∷ []) x.state (further s x h le) fit.1 (permits_right c _ (λ y. ArgumentsChange y rest) (effects_of_argument first) (effects_of_arguments rest) (λ y d. inr d) p))

-- What calls keep: those that are in the text, whatever the variables of file scope and elements are allowed to hold.
pub record CalleesKeep (f : Frame) (o : Objects) (g : Callee) (c : Call) : Type 1 where
  pub any : CalleesFine f (λ t. Unit {0}) 0 (λ i le t x u. tt) g c Anything
  pub fine : (I : Store → Type 0) (low : ℕ) (own : (i : ℕ) → low ≤ i → Sets f I i) → CalleesFine f I low own g c (Taken o)

-- ---- which calls there are

mutual
  pub any_fit : (e : CoreTree) → CallsFit Anything e
  any_fit (core.number value k) = tt
  any_fit (core.scalar cell k at) = tt
  any_fit (core.element array subscripts k at) = all_fit subscripts
  any_fit (core.call callee args k at) = (tt, arguments_fit args)
  any_fit (core.unary op arg k at) = any_fit arg
  any_fit (core.binary op left right k at) = (any_fit left, any_fit right)
  any_fit (core.choice test left right k at colon) = (any_fit test, any_fit left, any_fit right)
  any_fit (core.cast to arg) = any_fit arg
  any_fit (core.assign (core.target cell subscripts k place) op v at) = (all_fit subscripts, any_fit v)
  any_fit (core.bump (core.target cell subscripts k place) up post at) = all_fit subscripts
  any_fit (core.comma left right) = (any_fit left, any_fit right)

  pub all_fit : (xs : CoreTrees) → AllFit Anything xs
  all_fit core.none = tt
  all_fit (core.more first rest) = (any_fit first, all_fit rest)

  argument_fits : (a : ArgumentTree) → ArgumentFits Anything a
  argument_fits (core.given v) = any_fit v
  argument_fits (core.array cell) = tt

  pub arguments_fit : (args : ArgumentTrees) → ArgumentsFit Anything args
  arguments_fit core.no_argument = tt
  arguments_fit (core.more_arguments first rest) = (argument_fits first, arguments_fit rest)

mutual
  pub sound_fits : (o : Objects) (e : CoreTree) → IsSound o e → CallsFit (Taken o) e
  sound_fits o (core.number value k) h = tt
  sound_fits o (core.scalar cell k at) h = tt
  sound_fits o (core.element array subscripts k at) h = sounds_fit o subscripts h.1
  sound_fits o (core.call callee args k at) h = ((k, h.0), sound_arguments o args h.1)
  sound_fits o (core.unary op arg k at) h = sound_fits o arg h.1
  sound_fits o (core.binary op left right k at) h = (sound_fits o left h.1, sound_fits o right h.2)
  sound_fits o (core.choice test left right k at colon) h = (sound_fits o test h.0, sound_fits o left h.1, sound_fits o right h.2)
  sound_fits o (core.cast to arg) h = sound_fits o arg h
  sound_fits o (core.assign (core.target cell subscripts k place) op v at) h = (sounds_fit o subscripts h.1, sound_fits o v h.2)
  sound_fits o (core.bump (core.target cell subscripts k place) up post at) h = sounds_fit o subscripts h.1
  sound_fits o (core.comma left right) h = (sound_fits o left h.0, sound_fits o right h.1)

  pub sounds_fit : (o : Objects) (xs : CoreTrees) → AreSound o xs → AllFit (Taken o) xs
  sounds_fit o core.none h = tt
  sounds_fit o (core.more first rest) h = (sound_fits o first h.0, sounds_fit o rest h.1)

  sound_argument : (o : Objects) (a : ArgumentTree) → ArgumentSound o a → ArgumentFits (Taken o) a
  sound_argument o (core.given v) h = sound_fits o v h
  sound_argument o (core.array cell) h = tt

  pub sound_arguments : (o : Objects) (args : ArgumentTrees) → ArgumentsSound o args → ArgumentsFit (Taken o) args
  sound_arguments o core.no_argument h = tt
  sound_arguments o (core.more_arguments first rest) h = (sound_argument o first h.0, sound_arguments o rest h.1)
