-- Statements of programs without faults become sound ones.
use Rattle.std.proofs.Common.{◌≡◌, ℕ, ◌+◌, ◌≤◌, ◌⊎◌, inl, inr, not, sym, refl, ap, subst, ◌∙◌, Bool, true, false, true≢false, append-nil, List, [], ◌∷◌, ◌++◌, length, Option, Some, None, option_map, arith}
use Rattle.std.proofs.lemmas.List.{length-append}
use Rattle.hls_base.specs.declared.place.Place.{Place}
use Rattle.c_token.specs.declared.ctype.CType.{CType}
use Rattle.c_tree.specs.Tree as tree
use Rattle.c_tree.specs.Tree.{Tree, ObjectTree, StmtTree, ElseTree, FirstTree, StmtTrees, ItemTree}
use Rattle.c_value.specs.Values.{promoted}
use Rattle.c_meaning.specs.Checks.Faults.{fault_if}
use Rattle.c_meaning.specs.Checks.Names.{Declared, kind_of}
use Rattle.c_meaning.specs.Checks.Labels.{Around, in_part, in_loop, in_switch, is_mismatched, return_faults, outside_faults, has_no_value, repeated_faults, block_labels}
use Rattle.c_meaning.specs.Checks.Expressions.{expression_faults, actions_faults, optional_faults}
use Rattle.c_meaning.specs.Checks.Statements.{with_objects, objects_faults, names_behind, names_in_for, statement_faults, else_faults, first_faults, block_faults}
use Rattle.c_meaning.specs.Checks.Recursion.{Called, calls, optional_calls, actions_calls, objects_calls, statement_calls, else_calls, first_calls, statements_calls}
use Rattle.c_meaning.specs.Store.{declared_by, declared_in, declared_first}
use Rattle.pieces.specs.Resolved.Core as core
use Rattle.pieces.specs.Resolved.Core.{CoreStmtTree, stmt_row}
use Rattle.c_elaborate.specs.declared.blocks.Scene.{Scene}
use Rattle.c_elaborate.specs.declared.names.Binding.{Binding}
use Rattle.c_elaborate.specs.declared.functions.Signature.{Signature}
use Rattle.c_elaborate.specs.Objects.{objects_of, else_objects, first_objects, objects_within, from}
use Rattle.c_elaborate.specs.Scenes.{opened, labelled_by, all_declared}
use Rattle.c_elaborate.specs.Expressions as ee
use Rattle.c_elaborate.specs.Expressions.{elaborated}
use Rattle.c_elaborate.specs.Statements.{declarations, item, statement, else_statement, first_statements, statements}
use Rattle.c_elaborate.specs.Homes.{Each, Has}
use Rattle.c_elaborate.specs.Grammatical.{DeclaresInBlocks, ElseDeclaresInBlocks, AllDeclareInBlocks}
use Rattle.c_elaborate.specs.Resolved.{DeclarationsResolved}
use Rattle.c_elaborate.proofs.ElaborateRuns.Lists.{each-front}
use Rattle.c_elaborate.proofs.ElaborateRuns.Sizes.{left_nil, right_nil, unbroken, holds}
use Rattle.c_elaborate.proofs.ElaborateRuns.FaultlessStatements.{behind, statement_resolved}
use Rattle.expanded_programs.specs.Statements.Scopes as scopes
use Rattle.expanded_programs.specs.Statements.Scopes.{Setting, Reach, Among, enter, behind_all, AreNew, BeginsLoop, ReturnSound, StmtSound, ElseSound, StmtsSound}
use Rattle.expanded_programs.specs.ElaboratedPrograms.Written.{StmtWritten, ElseWritten, HeadWritten, StmtsWritten, ObjectsWritten}
use Rattle.expanded_programs.proofs.ElaboratedPrograms.Lists.{each_back}
use Rattle.expanded_programs.proofs.ElaboratedPrograms.Expressions.{Visible, AreThere, MayCall}
use Rattle.expanded_programs.proofs.ElaboratedPrograms.Stages.{has_front, has_back, Pending, pending_among, pending_front, pending_back, reached, reached_lives, next_behind, Stage, stage_later, stage_entered, are_new}
use Rattle.expanded_programs.proofs.ElaboratedPrograms.Declarations.{behind_declarations, declarations_begin, expression_sound, option_sound, actions_sound, stage_behind, declarations_sound}

-- ---- jumps

stands_inside : (inside : Bool) (at : Place) → outside_faults inside at ≡ [] → inside ≡ true
stands_inside inside at h = holds inside (unbroken (not inside) 15 at h)

no_result : (result : Option CType) → is_mismatched result false ≡ false → result ≡ None
no_result None h = refl
no_result (Some kind) h = absurd (true≢false h)

some_result : (result : Option CType) → is_mismatched result true ≡ false → (kind : CType) × (result ≡ Some kind)
some_result None h = absurd (true≢false h)
some_result (Some kind) h = (kind, refl)

-- ---- declarations, and statements that declare nothing

abbrev IsNoDeclaration : CoreStmtTree → Type 0
IsNoDeclaration (core.declare object init) = ⊥
IsNoDeclaration stmt = Unit {0}

same_behind : (stmt : CoreStmtTree) → IsNoDeclaration stmt → (r : Reach) → scopes.behind stmt r ≡ r
same_behind (core.declare object init) h r = absurd h
same_behind (core.block objects body) h r = refl
same_behind (core.act actions) h r = refl
same_behind (core.if_ test body other at) h r = refl
same_behind (core.switch_ test objects body at) h r = refl
same_behind (core.case_ value body at) h r = refl
same_behind (core.while_ test body at) h r = refl
same_behind (core.do_ body test at) h r = refl
same_behind (core.for_ objects init test step body at) h r = refl
same_behind core.break_ h r = refl
same_behind core.continue_ h r = refl
same_behind (core.return_ value) h r = refl

abbrev IsStatement : List Signature → StmtTree → Type 0
IsStatement fs b = (declared_by b ≡ []) × ((scene : Scene) (free : ℕ) → IsNoDeclaration (statement fs scene free b))

item_view : (fs : List Signature) (b : StmtTree) → ((os : List ObjectTree) × (b ≡ tree.declare os)) ⊎ IsStatement fs b
item_view fs (tree.declare os) = inl (os, refl)
item_view fs (tree.block body) = inr (refl, λ scene free. tt)
item_view fs (tree.act actions) = inr (refl, λ scene free. tt)
item_view fs (tree.if_ test body other at) = inr (refl, λ scene free. tt)
item_view fs (tree.switch_ test body at) = inr (refl, λ scene free. tt)
item_view fs (tree.case_ v body at) = inr (refl, λ scene free. tt)
item_view fs (tree.while_ test body at) = inr (refl, λ scene free. tt)
item_view fs (tree.do_ body test at) = inr (refl, λ scene free. tt)
item_view fs (tree.for_ init test step body at) = inr (refl, λ scene free. tt)
item_view fs (tree.break_ at) = inr (refl, λ scene free. tt)
item_view fs (tree.continue_ at) = inr (refl, λ scene free. tt)
item_view fs (tree.return_ v at) = inr (refl, λ scene free. tt)

module _ (S : Setting) (items : List ItemTree) (bodies : List (List ℕ)) (fs : List Signature) (there : AreThere S items fs) where
  abbrev May : Called → Type 0
  May d = MayCall S bodies fs d

  return_sound : (result : Option CType) (v : Option Tree) (at : Place) (r : Reach) (names : List Declared) (rs : List Binding) → Visible S items bodies r names rs → result ≡ S.result → return_faults result v at ≡ [] → scopes.TestSound S r (option_map (elaborated fs rs) v)
      → ReturnSound S r (option_map (elaborated fs rs) v)
  return_sound result None at r names rs visible same h sound = sym same ∙ no_result result (unbroken (is_mismatched result false) 14 at h)
  return_sound result (Some e) at r names rs visible same h sound = let k = some_result result (unbroken (is_mismatched result true) 14 at h) in ((k.0, sym same ∙ k.1), sound)

  -- ---- the head of a `for`

  -- behind a head that is sound
  abbrev HeadSound : Scene → ℕ → Reach → (ℕ → Type 0) → List Declared → FirstTree → Type 0
  HeadSound scene free r Own names init =
      let row = stmt_row (first_statements fs scene free init) in
      (BeginsLoop row × StmtsSound S r Own false false false row)
      × Stage S items bodies (all_declared scene (declared_first init)).names (all_declared scene (declared_first init)).next free (behind_all row r) (names_in_for names init)

  objects_head : (around : Around) (start : ℕ) (os : List ObjectTree) (names : List Declared) (scene : Scene) (free : ℕ) (r : Reach) (Own : ℕ → Type 0) → objects_faults bodies false start names os ≡ [] → ObjectsWritten os → Each May (objects_calls names os)
      → Stage S items bodies scene.names scene.next free r names → scene.next + length os ≤ free → Pending S.objects r.Lives Own scene.next os → HeadSound scene free r Own names (tree.first (tree.declare os))
  objects_head around start [] names scene free r Own h w may s le pending = (((tt, tt), (tt, tt)), s)
  objects_head around start (o ∷ os) names scene free r Own h w may s le pending =
      let all = o ∷ os in
      let known : DeclarationsResolved items scene all = statement_resolved items bodies (tree.declare all) around start names scene free h tt s.visible.knows in
      let q : StmtsSound S r Own false false false (stmt_row (declarations fs scene all ++ [])) =
      declarations_sound S items bodies fs there start all [] names scene free r Own false false false h w may known s le pending tt in (
        (declarations_begin fs scene all, subst (λ l. StmtsSound S r Own false false false (stmt_row l)) (append-nil (declarations fs scene all)) q),
        subst (λ (z : Reach). Stage S items bodies (all_declared scene all).names (all_declared scene all).next free z (with_objects all names)) (sym (behind_declarations fs scene all r))
            (stage_behind S items bodies fs there all names scene free r Own known s le pending),
      )

  head_sound : (init : FirstTree) (around : Around) (start : ℕ) (names : List Declared) (scene : Scene) (free : ℕ) (r : Reach) (Own : ℕ → Type 0) → first_faults bodies around start names init ≡ [] → HeadWritten init → Each May (first_calls names init)
      → Stage S items bodies scene.names scene.next free r names → scene.next + length (declared_first init) ≤ free → Pending S.objects r.Lives Own scene.next (declared_first init) → HeadSound scene free r Own names init
  head_sound tree.no_first around start names scene free r Own h w may s le pending = ((tt, tt), s)
  head_sound (tree.first (tree.declare os)) around start names scene free r Own h w may s le pending = objects_head around start os names scene free r Own h w may s le pending
  head_sound (tree.first (tree.act actions)) around start names scene free r Own h w may s le pending = (((tt, tt), (actions_sound S items bodies fs there r names scene.names s.visible actions h w may, tt)), s)
  head_sound (tree.first (tree.block body)) around start names scene free r Own h w may s le pending = absurd w
  head_sound (tree.first (tree.if_ test body other at)) around start names scene free r Own h w may s le pending = absurd w
  head_sound (tree.first (tree.switch_ test body at)) around start names scene free r Own h w may s le pending = absurd w
  head_sound (tree.first (tree.case_ v body at)) around start names scene free r Own h w may s le pending = absurd w
  head_sound (tree.first (tree.while_ test body at)) around start names scene free r Own h w may s le pending = absurd w
  head_sound (tree.first (tree.do_ body test at)) around start names scene free r Own h w may s le pending = absurd w
  head_sound (tree.first (tree.for_ init test step body at)) around start names scene free r Own h w may s le pending = absurd w
  head_sound (tree.first (tree.break_ at)) around start names scene free r Own h w may s le pending = absurd w
  head_sound (tree.first (tree.continue_ at)) around start names scene free r Own h w may s le pending = absurd w
  head_sound (tree.first (tree.return_ v at)) around start names scene free r Own h w may s le pending = absurd w

  -- ---- one item of a block and those behind it

  module _ (around : Around) (start : ℕ) (Own : ℕ → Type 0) (rest : StmtTrees) where
    abbrev AllSound : Reach → List CoreStmtTree → Type 0
    AllSound r row = StmtsSound S r Own around.labels around.breaks around.continues (stmt_row row)

    -- the items behind are sound where they stand
    abbrev RestSound : List Declared → ℕ → Type 1
    RestSound names free =
        (scene : Scene) (r : Reach) → Stage S items bodies scene.names scene.next free r names → scene.next + length (declared_in rest) ≤ free → Pending S.objects r.Lives Own scene.next (declared_in rest) → AllSound r (statements fs scene free rest)

    abbrev ItemSound : List Declared → Scene → ℕ → Reach → StmtTree → Type 1
    ItemSound names scene free r b =
        statement_faults bodies around start names b ≡ [] → DeclaresInBlocks b → StmtWritten b → Each May (statement_calls names b) → scene.next + length (declared_by b ++ declared_in rest) ≤ free
        → Pending S.objects r.Lives Own scene.next (declared_by b ++ declared_in rest) → StmtSound S r Own around.labels around.breaks around.continues (statement fs scene free b) → RestSound (names_behind names b) (free + length (objects_of b))
        → AllSound r (item fs scene (declared_by b) (statement fs scene free b) ++ statements fs (all_declared scene (declared_by b)) (free + length (objects_of b)) rest)

    module _ (names : List Declared) (scene : Scene) (free : ℕ) (r : Reach) (s : Stage S items bodies scene.names scene.next free r names) where
      later_stage : (n : ℕ) → Stage S items bodies scene.names scene.next (free + n) r names
      later_stage n = stage_later S items bodies scene.names scene.next free (free + n) r names (omega arith) s

      declares : (os : List ObjectTree) → ItemSound names scene free r (tree.declare os)
      declares [] h d w may le pending one next = (tt, next scene r (later_stage 0) (omega (arith, le)) pending)
      declares (o ∷ os) h d w may le pending one next =
          let all = o ∷ os in
          let count = length-append all (declared_in rest) in
          let low : scene.next + length all ≤ free = omega (arith, le, count) in
          let known : DeclarationsResolved items scene all = statement_resolved items bodies (tree.declare all) around start names scene free h tt s.visible.knows in
          let front = pending_front S.objects r.Lives Own scene.next all (declared_in rest) pending in
          let back = pending_back S.objects r.Lives Own scene.next all (declared_in rest) pending in
          let scene1 = all_declared scene all in
          let r1 = reached scene.next all r in
          let at = next_behind scene all in
          let s1 = stage_later S items bodies scene1.names scene1.next free (free + 0) r1 (with_objects all names) (omega arith) (stage_behind S items bodies fs there all names scene free r Own known s low front) in
          let back1 = subst (λ (L : ℕ → Type 0). Pending S.objects L Own scene1.next (declared_in rest)) (sym (reached_lives scene.next all r)) (subst (λ k. Pending S.objects r.Lives Own k (declared_in rest)) (sym at) back) in
          declarations_sound S items bodies fs there start all (statements fs scene1 (free + 0) rest) names scene free r Own around.labels around.breaks around.continues h w may known s low front (next scene1 r1 s1 (omega (arith, le, count, at)) back1)

      stands : (b : StmtTree) → IsStatement fs b → ItemSound names scene free r b
      stands b is h d w may le pending one next =
          let n = length (objects_of b) in
          let same : names_behind names b ≡ names = behind b names d ∙ ap (λ os. with_objects os names) is.0 in
          let le1 : scene.next + length (declared_in rest) ≤ free = subst (λ os. scene.next + length (os ++ declared_in rest) ≤ free) is.0 le in
          let pending1 = subst (λ os. Pending S.objects r.Lives Own scene.next (os ++ declared_in rest)) is.0 pending in
          let more = next scene r (subst (λ l. Stage S items bodies scene.names scene.next (free + n) r l) (sym same) (later_stage n)) (omega (arith, le1)) pending1 in
          subst (λ os. AllSound r (item fs scene os (statement fs scene free b) ++ statements fs (all_declared scene os) (free + n) rest)) (sym is.0)
          (one, subst (λ (z : Reach). AllSound z (statements fs scene (free + n) rest)) (sym (same_behind (statement fs scene free b) (is.1 scene free) r)) more)

      pub item_sound : (b : StmtTree) → ItemSound names scene free r b
      item_sound b = elim (item_view fs b) [ inl e ↦ subst (ItemSound names scene free r) (sym e.1) (declares e.0) | inr is ↦ stands b is ]

  -- ---- statements

  -- a block that is entered, in a scene with these names whose next object is the first of the block
  abbrev BlockSound : Around → Scene → ℕ → Reach → StmtTrees → Type 0
  BlockSound around scene free r body =
      let objects = from free (length (declared_in body)) in
      AreNew S r objects × StmtsSound S (enter objects r) (λ i. Among objects i) around.labels around.breaks around.continues (stmt_row (statements fs scene (free + length (declared_in body)) body))

  block_of : (body : StmtTrees) (around : Around) (names : List Declared) (scene : Scene) (next free : ℕ) (r : Reach) → scene.next ≡ free → Stage S items bodies scene.names next free r names → Has S.objects free (declared_in body ++ objects_within body)
      → (Stage S items bodies scene.names scene.next (free + length (declared_in body)) (enter (from free (length (declared_in body))) r) names → scene.next + length (declared_in body) ≤ free + length (declared_in body)
      → Pending S.objects (enter (from free (length (declared_in body))) r).Lives (λ i. Among (from free (length (declared_in body))) i) scene.next (declared_in body) → Has S.objects (free + length (declared_in body)) (objects_within body)
      → StmtsSound S (enter (from free (length (declared_in body))) r) (λ i. Among (from free (length (declared_in body))) i) around.labels around.breaks around.continues (stmt_row (statements fs scene (free + length (declared_in body)) body)))
      → BlockSound around scene free r body
  block_of body around names scene next free r is s has inner =
      let os = declared_in body in
      let n = length os in
      let objects = from free n in
      let front = has_front S.objects free os (objects_within body) has in
      let s1 = subst (λ k. Stage S items bodies scene.names k (free + n) (enter objects r) names) (sym is) (stage_entered S items bodies scene.names next free n r names s) in
      let pending = pending_among S.objects (enter objects r).Lives (λ i. Among objects i) os free (λ i m. inl m) (λ i m. m) front in (
        are_new S items bodies scene.names next free r names os s front,
        inner s1 (omega (arith, is)) (subst (λ k. Pending S.objects (enter objects r).Lives (λ i. Among objects i) k os) (sym is) pending) (has_back S.objects free os (objects_within body) has),
      )

  mutual
    pub statement_sound : (b : StmtTree) (around : Around) (start : ℕ) (names : List Declared) (scene : Scene) (free : ℕ) (r : Reach) (Own : ℕ → Type 0) → statement_faults bodies around start names b ≡ [] → DeclaresInBlocks b → StmtWritten b → Each May (statement_calls names b)
        → Stage S items bodies scene.names scene.next free r names → Has S.objects free (objects_of b) → around.result ≡ S.result → StmtSound S r Own around.labels around.breaks around.continues (statement fs scene free b)
    statement_sound (tree.block body) around start names scene free r Own h d w may s has same =
        let n = length (declared_in body) in
        block_of body (in_part around) names (opened scene free) scene.next free r refl s has
        (λ s1 le pending has1. all_sound body (in_part around) (length names) names (opened scene free) (free + n) (enter (from free n) r) (λ i. Among (from free n) i) h d w may s1 le pending has1 same)
    statement_sound (tree.declare os) around start names scene free r Own h d w may s has same = tt
    statement_sound (tree.act actions) around start names scene free r Own h d w may s has same = actions_sound S items bodies fs there r names scene.names s.visible actions h w may
    statement_sound (tree.if_ test body other at) around start names scene free r Own h d w may s has same =
        let a = expression_faults true bodies names test in
        let b = statement_faults bodies (in_part around) (length names) names body in
        let e = else_faults bodies (in_part around) (length names) names other in
        let rest = right_nil a (b ++ e) h in
        let others = each_back May (calls names test) (statement_calls names body ++ else_calls names other) may in (
          expression_sound S items bodies fs there r names scene.names s.visible true test (left_nil a (b ++ e) h) w.0 (each-front May (calls names test) (statement_calls names body ++ else_calls names other) may),
          statement_sound body (in_part around) (length names) names scene free r (λ i. ⊥) (left_nil b e rest) d.1 w.1 (each-front May (statement_calls names body) (else_calls names other) others) s (has_front S.objects free (objects_of body) (else_objects other) has) same,
          else_sound other around (length names) names scene (free + length (objects_of body)) r (right_nil b e rest) d.2 w.2 (each_back May (statement_calls names body) (else_calls names other) others)
              (stage_later S items bodies scene.names scene.next free (free + length (objects_of body)) r names (omega arith) s) (has_back S.objects free (objects_of body) (else_objects other) has) same,
        )
    statement_sound (tree.switch_ test body at) around start names scene free r Own h d w may s has same =
        let a = expression_faults true bodies names test in
        let b = repeated_faults [] (block_labels (promoted (kind_of names test)) body) in
        let e = block_faults bodies (in_switch around) (length names) names body in
        let n = length (declared_in body) in
        let scene1 = labelled_by (promoted (ee.kind_of (elaborated fs scene.names test))) (opened scene free) in
        let block = block_of body (in_switch around) names scene1 scene.next free r refl s has
        (λ s1 le pending has1.
        all_sound body (in_switch around) (length names) names scene1 (free + n) (enter (from free n) r) (λ i. Among (from free n) i) (right_nil b e (right_nil a (b ++ e) h)) d w.1
        (each_back May (calls names test) (statements_calls names body) may) s1 le pending has1 same) in (
          expression_sound S items bodies fs there r names scene.names s.visible true test (left_nil a (b ++ e) h) w.0 (each-front May (calls names test) (statements_calls names body) may),
          block.0,
          block.1,
        )
    statement_sound (tree.case_ v body at) around start names scene free r Own h d w may s has same =
        let a = outside_faults around.labels at in
        let b = fault_if (has_no_value v) 17 at in
        let e = optional_faults bodies names v in
        let f = statement_faults bodies around start names body in (
          stands_inside around.labels at (left_nil a (b ++ (e ++ f)) h),
          statement_sound body around start names scene free r (λ i. ⊥) (right_nil e f (right_nil b (e ++ f) (right_nil a (b ++ (e ++ f)) h))) d.1 w (each_back May (optional_calls names v) (statement_calls names body) may) s has same,
        )
    statement_sound (tree.while_ test body at) around start names scene free r Own h d w may s has same =
        let a = expression_faults true bodies names test in
        let b = statement_faults bodies (in_loop around) (length names) names body in (
          expression_sound S items bodies fs there r names scene.names s.visible true test (left_nil a b h) w.0 (each-front May (calls names test) (statement_calls names body) may),
          statement_sound body (in_loop around) (length names) names scene free r (λ i. ⊥) (right_nil a b h) d.1 w.1 (each_back May (calls names test) (statement_calls names body) may) s has same,
        )
    statement_sound (tree.do_ body test at) around start names scene free r Own h d w may s has same =
        let a = expression_faults true bodies names test in
        let b = statement_faults bodies (in_loop around) (length names) names body in (
          expression_sound S items bodies fs there r names scene.names s.visible true test (right_nil b a h) w.0 (each_back May (statement_calls names body) (calls names test) may),
          statement_sound body (in_loop around) (length names) names scene free r (λ i. ⊥) (left_nil b a h) d.1 w.1 (each-front May (statement_calls names body) (calls names test) may) s has same,
        )
    statement_sound (tree.for_ init test step body at) around start names scene free r Own h d w may s has same =
        let inner = names_in_for names init in
        let a = first_faults bodies (in_part around) (length names) names init in
        let b = optional_faults bodies inner test in
        let e = actions_faults bodies inner step in
        let f = statement_faults bodies (in_loop around) (length inner) inner body in
        let rest = right_nil a (b ++ (e ++ f)) h in
        let rest2 = right_nil b (e ++ f) rest in
        let ca = first_calls names init in
        let cb = optional_calls inner test in
        let ce = actions_calls inner step in
        let cf = statement_calls inner body in
        let may1 = each_back May ca (cb ++ (ce ++ cf)) may in
        let may2 = each_back May cb (ce ++ cf) may1 in
        let os = declared_first init in
        let n = length os in
        let objects = from free n in
        let scene1 = opened scene free in
        let scene2 = all_declared scene1 os in
        let row = stmt_row (first_statements fs scene1 (free + n) init) in
        let has1 = has_front S.objects free (os ++ first_objects init) (objects_of body) has in
        let has2 = has_front S.objects free os (first_objects init) has1 in
        let s1 = stage_entered S items bodies scene.names scene.next free n r names s in
        let pending = pending_among S.objects (enter objects r).Lives (λ i. Among objects i) os free (λ i m. inl m) (λ i m. m) has2 in
        let head = head_sound init (in_part around) (length names) names scene1 (free + n) (enter objects r) (λ i. Among objects i) (left_nil a (b ++ (e ++ f)) h) w.0 (each-front May ca (cb ++ (ce ++ cf)) may) s1 (omega arith) pending in
        let s2 = head.1 in
        let r2 = behind_all row (enter objects r) in
        let later : free + n ≤ free + length (os ++ first_objects init) = let count = length-append os (first_objects init) in omega (arith, count) in (
          are_new S items bodies scene.names scene.next free r names os s has2,
          head.0,
          option_sound S items bodies fs there r2 inner scene2.names s2.visible test (left_nil b (e ++ f) rest) w.1 (each-front May cb (ce ++ cf) may1),
          actions_sound S items bodies fs there r2 inner scene2.names s2.visible step (left_nil e f rest2) w.2 (each-front May ce cf may2),
          statement_sound body (in_loop around) (length inner) inner scene2 (free + length (os ++ first_objects init)) r2 (λ i. ⊥) (right_nil e f rest2) d.2 w.3 (each_back May ce cf may2)
              (stage_later S items bodies scene2.names scene2.next (free + n) (free + length (os ++ first_objects init)) r2 inner later s2) (has_back S.objects free (os ++ first_objects init) (objects_of body) has) same,
        )
    statement_sound (tree.break_ at) around start names scene free r Own h d w may s has same = stands_inside around.breaks at h
    statement_sound (tree.continue_ at) around start names scene free r Own h d w may s has same = stands_inside around.continues at h
    statement_sound (tree.return_ v at) around start names scene free r Own h d w may s has same =
        let a = return_faults around.result v at in
        let b = optional_faults bodies names v in
        return_sound around.result v at r names scene.names s.visible same (left_nil a b h) (option_sound S items bodies fs there r names scene.names s.visible v (right_nil a b h) w may)

    else_sound : (b : ElseTree) (around : Around) (start : ℕ) (names : List Declared) (scene : Scene) (free : ℕ) (r : Reach) → else_faults bodies (in_part around) start names b ≡ [] → ElseDeclaresInBlocks b → ElseWritten b → Each May (else_calls names b)
        → Stage S items bodies scene.names scene.next free r names → Has S.objects free (else_objects b) → around.result ≡ S.result → ElseSound S r around.breaks around.continues (else_statement fs scene free b)
    else_sound tree.no_else around start names scene free r h d w may s has same = tt
    else_sound (tree.else_ at body) around start names scene free r h d w may s has same = statement_sound body (in_part around) start names scene free r (λ i. ⊥) h d.1 w may s has same

    all_sound : (body : StmtTrees) (around : Around) (start : ℕ) (names : List Declared) (scene : Scene) (free : ℕ) (r : Reach) (Own : ℕ → Type 0) → block_faults bodies around start names body ≡ [] → AllDeclareInBlocks body → StmtsWritten body
        → Each May (statements_calls names body) → Stage S items bodies scene.names scene.next free r names → scene.next + length (declared_in body) ≤ free → Pending S.objects r.Lives Own scene.next (declared_in body) → Has S.objects free (objects_within body)
        → around.result ≡ S.result → StmtsSound S r Own around.labels around.breaks around.continues (stmt_row (statements fs scene free body))
    all_sound tree.no_stmt around start names scene free r Own h d w may s le pending has same = tt
    all_sound (tree.more_stmts first rest) around start names scene free r Own h d w may s le pending has same =
        let a = statement_faults bodies around start names first in
        let b = block_faults bodies around start (names_behind names first) rest in
        let ca = statement_calls names first in
        let cb = statements_calls (names_behind names first) rest in
        item_sound around start Own rest names scene free r s first (left_nil a b h) d.0 w.0 (each-front May ca cb may) le pending
        (statement_sound first around start names scene free r Own (left_nil a b h) d.0 w.0 (each-front May ca cb may) s (has_front S.objects free (objects_of first) (objects_within rest) has) same)
        (λ scene1 r1 s1 le1 pending1.
        all_sound rest around start (names_behind names first) scene1 (free + length (objects_of first)) r1 Own (right_nil a b h) d.1 w.1 (each_back May ca cb may) s1 le1 pending1 (has_back S.objects free (objects_of first) (objects_within rest) has) same)

  pub block_sound : (body : StmtTrees) (around : Around) (start : ℕ) (names : List Declared) (scene : Scene) (next free : ℕ) (r : Reach) → block_faults bodies around start names body ≡ [] → AllDeclareInBlocks body → StmtsWritten body → Each May (statements_calls names body)
      → scene.next ≡ free → Stage S items bodies scene.names next free r names → Has S.objects free (declared_in body ++ objects_within body) → around.result ≡ S.result → BlockSound around scene free r body
  block_sound body around start names scene next free r h d w may is s has same =
      let n = length (declared_in body) in
      block_of body around names scene next free r is s has
      (λ s1 le pending has1. all_sound body around start names scene (free + n) (enter (from free n) r) (λ i. Among (from free n) i) h d w may s1 le pending has1 same)
