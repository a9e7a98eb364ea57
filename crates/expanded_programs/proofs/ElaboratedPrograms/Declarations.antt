-- Declarations of programs without faults become sound ones.
use Rattle.std.proofs.Common.{◌≡◌, ℕ, zero, suc, ◌+◌, ◌-◌, ◌*◌, ◌^◌, ◌≤◌, ◌==◌, sym, refl, subst, ◌∙◌, Bool, true, false, List, [], ◌∷◌, ◌++◌, map, length, replicate, Option, Some, None, option_map, arith, if◌then◌else◌}
use Rattle.std.specs.Prelude.{nat_le}
use Rattle.std.proofs.lemmas.Bool.{leb-true}
use Rattle.std.proofs.lemmas.List.{map-append, length-map}
use Rattle.hls_base.specs.ArrayAddress.{element_count}
use Rattle.c_tree.specs.Tree as tree
use Rattle.c_tree.specs.Tree.{Tree, ActionTree, InitTree, InitTrees, ObjectTree, ItemTree}
use Rattle.c_meaning.specs.Checks.Names.{Declared}
use Rattle.c_meaning.specs.Checks.Lengths.{lengths_of, usable, all_usable, form_faults}
use Rattle.c_meaning.specs.Checks.Faults.{fault_if}
use Rattle.c_meaning.specs.Checks.Names.{is_declared_since}
use Rattle.c_meaning.specs.Checks.Expressions.{expression_faults, actions_faults, optional_faults, lengths_faults, init_faults, inits_faults, optional_init_faults}
use Rattle.c_meaning.specs.Checks.Statements.{with_object, with_objects, object_faults, objects_faults}
use Rattle.c_meaning.specs.Checks.Recursion.{calls, optional_calls, actions_calls, init_calls, inits_calls, optional_init_calls, lengths_calls, object_calls, objects_calls}
use Rattle.c_meaning.specs.Store.{lengths_in, within_limits}
use Rattle.c_meaning.specs.Statement.{items_of, rows_of}
use Rattle.pieces.specs.Resolved.Core.{CoreTree, CoreObjectTree, CoreStmtTree, stmt_row}
use Rattle.c_elaborate.specs.declared.names.Binding.{Binding}
use Rattle.c_elaborate.specs.declared.blocks.Scene.{Scene}
use Rattle.c_elaborate.specs.declared.functions.Signature.{Signature}
use Rattle.c_elaborate.specs.Objects.{object_elaborated}
use Rattle.c_elaborate.specs.Scenes.{declared, all_declared}
use Rattle.c_elaborate.specs.Expressions.{elaborated, action_elaborated}
use Rattle.c_elaborate.specs.Statements.{written, init_elaborated, declarations}
use Rattle.c_elaborate.specs.Homes.{Each}
use Rattle.c_elaborate.specs.Resolved.{InitResolved, IsInitResolved, DeclarationsResolved}
use Rattle.c_elaborate.proofs.ElaborateRuns.Lists.{each-front}
use Rattle.c_elaborate.proofs.ElaborateRuns.Sizes.{left_nil, right_nil}
use Rattle.c_elaborate.proofs.ElaborateRuns.Initialisers.{count_items}
use Rattle.expanded_programs.specs.Statements.Scopes.{Setting, Reach, reach, behind_all, BeginsLoop, IsSoundIn, TestSound, ActionsSound, ItemsSound, InitSound, StmtsSound}
use Rattle.expanded_programs.specs.ElaboratedPrograms.Written.{IsWritten, OptionWritten, ActionsWritten, InitWritten, InitsWritten, OptionInitWritten, ObjectsWritten}
use Rattle.expanded_programs.proofs.ElaboratedPrograms.Lists.{each_back}
use Rattle.expanded_programs.proofs.ElaboratedPrograms.Naming.{some_lengths}
use Rattle.expanded_programs.proofs.ElaboratedPrograms.Clean.{clean}
use Rattle.expanded_programs.proofs.ElaboratedPrograms.Expressions.{Visible, AreThere, MayCall, sound}
use Rattle.expanded_programs.proofs.ElaboratedPrograms.Stages.{Pending, reached, Stage, stage_declared}

-- ---- elements

few_elements : (q : Option (List ℕ)) → element_count (within_limits q) ≤ 65536
few_elements None = omega arith
few_elements (Some ls) = by (nat_le (element_count ls) 65536) refl
  where
    by : (y : Bool) → nat_le (element_count ls) 65536 ≡ y → element_count (if y then ls else []) ≤ 65536
    by true e = leb-true (element_count ls) 65536 e
    by false e = omega arith

module _ (S : Setting) (r : Reach) where
  items_append : (xs ys : List (Option CoreTree)) → ItemsSound S r xs → ItemsSound S r ys → ItemsSound S r (xs ++ ys)
  items_append [] ys h g = g
  items_append (x ∷ xs) ys h g = (h.0, items_append xs ys h.1 g)

  items_missing : (f : Tree → CoreTree) (n : ℕ) → ItemsSound S r (map (option_map f) (replicate n None))
  items_missing f zero = tt
  items_missing f (suc n) = (tt, items_missing f n)

module _ (fs : List Signature) where
  pub behind_declarations : (scene : Scene) (os : List ObjectTree) (r : Reach) → behind_all (stmt_row (declarations fs scene os)) r ≡ reached scene.next os r
  behind_declarations scene [] r = refl
  behind_declarations scene (o ∷ os) r = behind_declarations (declared scene o) os (reach scene.next r)

  pub declarations_begin : (scene : Scene) (os : List ObjectTree) → BeginsLoop (stmt_row (declarations fs scene os))
  declarations_begin scene [] = tt
  declarations_begin scene (o ∷ os) = (tt, declarations_begin (declared scene o) os)

module _ (S : Setting) (items : List ItemTree) (bodies : List (List ℕ)) (fs : List Signature) (there : AreThere S items fs) where
  module _ (r : Reach) (names : List Declared) (rs : List Binding) (v : Visible S items bodies r names rs) where
    -- ---- expressions where they stand

    pub expression_sound : (used : Bool) (e : Tree) → expression_faults used bodies names e ≡ [] → IsWritten e → Each (MayCall S bodies fs) (calls names e) → IsSoundIn S r (elaborated fs rs e)
    expression_sound used e h w may = sound S items bodies fs there r names rs v e (clean items bodies names rs v.knows used e h) w may

    pub option_sound : (q : Option Tree) → optional_faults bodies names q ≡ [] → OptionWritten q → Each (MayCall S bodies fs) (optional_calls names q) → TestSound S r (option_map (elaborated fs rs) q)
    option_sound None h w may = tt
    option_sound (Some e) h w may = expression_sound true e h w may

    pub actions_sound : (actions : List ActionTree) → actions_faults bodies names actions ≡ [] → ActionsWritten actions → Each (MayCall S bodies fs) (actions_calls names actions) → ActionsSound S r (map (action_elaborated fs rs) actions)
    actions_sound [] h w may = tt
    actions_sound (tree.assignment place op value at ∷ more) h w may =
        let e = tree.assign place op value at in (
          expression_sound false e (left_nil (expression_faults false bodies names e) (actions_faults bodies names more) h) w.0 (each-front (MayCall S bodies fs) (calls names e) (actions_calls names more) may),
          actions_sound more (right_nil (expression_faults false bodies names e) (actions_faults bodies names more) h) w.1 (each_back (MayCall S bodies fs) (calls names e) (actions_calls names more) may),
        )
    actions_sound (tree.bumping place up at ∷ more) h w may =
        let e = tree.bump place up false at in (
          expression_sound false e (left_nil (expression_faults false bodies names e) (actions_faults bodies names more) h) w.0 (each-front (MayCall S bodies fs) (calls names e) (actions_calls names more) may),
          actions_sound more (right_nil (expression_faults false bodies names e) (actions_faults bodies names more) h) w.1 (each_back (MayCall S bodies fs) (calls names e) (actions_calls names more) may),
        )
    actions_sound (tree.evaluation e ∷ more) h w may = (
      expression_sound false e (left_nil (expression_faults false bodies names e) (actions_faults bodies names more) h) w.0 (each-front (MayCall S bodies fs) (calls names e) (actions_calls names more) may),
      actions_sound more (right_nil (expression_faults false bodies names e) (actions_faults bodies names more) h) w.1 (each_back (MayCall S bodies fs) (calls names e) (actions_calls names more) may),
    )

    -- ---- initialisers

    mutual
      items_sound : (ls : List ℕ) (init : InitTree) → init_faults bodies names init ≡ [] → InitWritten init → Each (MayCall S bodies fs) (init_calls names init) → ItemsSound S r (map (option_map (elaborated fs rs)) (items_of ls init))
      items_sound ls (tree.single e) h w may = (expression_sound true e h w may, tt)
      items_sound [] (tree.braced inits at) h w may = tt
      items_sound (l ∷ ls) (tree.braced inits at) h w may = rows_sound l ls inits h w may

      rows_sound : (l : ℕ) (ls : List ℕ) (inits : InitTrees) → inits_faults bodies names inits ≡ [] → InitsWritten inits → Each (MayCall S bodies fs) (inits_calls names inits) → ItemsSound S r (map (option_map (elaborated fs rs)) (rows_of l ls inits))
      rows_sound l ls tree.no_init h w may = items_missing S r (elaborated fs rs) (l * element_count ls)
      rows_sound l ls (tree.more_inits first rest) h w may =
          subst (ItemsSound S r) (sym (map-append (option_map (elaborated fs rs)) (items_of ls first) (rows_of (l - 1) ls rest)))
          (items_append S r (map (option_map (elaborated fs rs)) (items_of ls first)) (map (option_map (elaborated fs rs)) (rows_of (l - 1) ls rest))
          (items_sound ls first (left_nil (init_faults bodies names first) (inits_faults bodies names rest) h) w.0 (each-front (MayCall S bodies fs) (init_calls names first) (inits_calls names rest) may))
          (rows_sound (l - 1) ls rest (right_nil (init_faults bodies names first) (inits_faults bodies names rest) h) w.1 (each_back (MayCall S bodies fs) (init_calls names first) (inits_calls names rest) may)))

    written_sound : (o : CoreObjectTree) (ls : List ℕ) (init : InitTree) → o.lengths ≡ ls → element_count ls ≤ 65536 → InitResolved items rs ls init → ItemsSound S r (map (option_map (elaborated fs rs)) (items_of ls init)) → InitSound S r o (written fs rs ls init)
    written_sound o [] (tree.single e) is few known h = (is, h.0)
    written_sound o [] (tree.braced inits at) is few known h = tt
    written_sound o (l ∷ ls) init is few known h =
        let all = map (option_map (elaborated fs rs)) (items_of (l ∷ ls) init) in
        let count : length all ≡ element_count (l ∷ ls) = length-map (items_of (l ∷ ls) init) (option_map (elaborated fs rs)) ∙ count_items items rs (l ∷ ls) init known in
        let low : element_count (l ∷ ls) ≤ 2 ^ 31 = omega (arith, few) in
        let some : (length (l ∷ ls) == 0) ≡ false = grind arith in (
          λ none. absurd (some_lengths (l ∷ ls) some (sym is ∙ none)),
          subst (λ k. length all ≤ element_count k) (sym is) (omega (arith, count)),
          h,
          subst (λ k. element_count k ≤ 2 ^ 31) (sym is) low,
        )

    init_sound : (o : ObjectTree) (q : Option InitTree) → optional_init_faults bodies names q ≡ [] → OptionInitWritten q → Each (MayCall S bodies fs) (optional_init_calls names q) → IsInitResolved items rs (lengths_in o) q
        → InitSound S r (object_elaborated o) (init_elaborated fs rs (lengths_in o) q)
    init_sound o None h w may known = tt
    init_sound o (Some init) h w may known = written_sound (object_elaborated o) (lengths_in o) init refl (few_elements (all_usable (map usable (lengths_of o)))) known (items_sound (lengths_in o) init h w may)

  -- ---- declarations

  pub stage_behind : (os : List ObjectTree) (names : List Declared) (scene : Scene) (free : ℕ) (r : Reach) (Own : ℕ → Type 0) → DeclarationsResolved items scene os → Stage S items bodies scene.names scene.next free r names → scene.next + length os ≤ free
      → Pending S.objects r.Lives Own scene.next os → Stage S items bodies (all_declared scene os).names (all_declared scene os).next free (reached scene.next os r) (with_objects os names)
  stage_behind [] names scene free r Own known s le pending = s
  stage_behind (o ∷ os) names scene free r Own known s le pending =
      stage_behind os (with_object o names) (declared scene o) free (reach scene.next r) Own known.2
      (stage_declared S items bodies scene.names scene.next free r names o s (omega (arith, le)) known.0 pending.0.2 pending.0.1) (omega (arith, le)) pending.1

  -- Declarations are sound where what follows is.
  pub declarations_sound : (start : ℕ) (os : List ObjectTree) (rest : List CoreStmtTree) (names : List Declared) (scene : Scene) (free : ℕ) (r : Reach) (Own : ℕ → Type 0) (labels breaks continues : Bool)
      → objects_faults bodies false start names os ≡ [] → ObjectsWritten os → Each (MayCall S bodies fs) (objects_calls names os) → DeclarationsResolved items scene os → Stage S items bodies scene.names scene.next free r names → scene.next + length os ≤ free
      → Pending S.objects r.Lives Own scene.next os → StmtsSound S (reached scene.next os r) Own labels breaks continues (stmt_row rest) → StmtsSound S r Own labels breaks continues (stmt_row (declarations fs scene os ++ rest))
  declarations_sound start [] rest names scene free r Own labels breaks continues h w may known s le pending next = next
  declarations_sound start (o ∷ os) rest names scene free r Own labels breaks continues h w may known s le pending next =
      let a = object_faults bodies false start names o in
      let b = objects_faults bodies false start (with_object o names) os in
      let one = left_nil a b h in
      let d = fault_if (is_declared_since start o.name names) 8 o.at in
      let f = form_faults false o in
      let l = lengths_faults bodies names o.lengths in
      let i = optional_init_faults bodies (with_object o names) o.init in
      let inits = right_nil l i (right_nil f (l ++ i) (right_nil d (f ++ (l ++ i)) one)) in
      let mine = each-front (MayCall S bodies fs) (object_calls names o) (objects_calls (with_object o names) os) may in
      let its = each_back (MayCall S bodies fs) (lengths_calls names o.lengths) (optional_init_calls (with_object o names) o.init) mine in
      let s1 = stage_declared S items bodies scene.names scene.next free r names o s (omega (arith, le)) known.0 pending.0.2 pending.0.1 in (
        (
          pending.0.0,
          s.params,
          pending.0.1,
          λ before. let lt = s.ready scene.next before in absurd (omega (arith, lt)),
          (object_elaborated o, pending.0.2, init_sound (reach scene.next r) (with_object o names) (declared scene o).names s1.visible o o.init inits w.0 its known.1),
        ),
        declarations_sound start os rest (with_object o names) (declared scene o) free (reach scene.next r) Own labels breaks continues (right_nil a b h) w.1
            (each_back (MayCall S bodies fs) (object_calls names o) (objects_calls (with_object o names) os) may) known.2 s1 (omega (arith, le)) pending.1 next,
      )
