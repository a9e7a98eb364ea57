-- What holds of each sound expression holds of each expression of a sound statement.
use Rattle.std.proofs.Common.{◌≡◌, ℕ, ◌≤◌, inr, Bool, List, [], ◌∷◌, Option, Some, None, false, true}
use Rattle.c_token.specs.declared.ctype.CType.{CType}
use Rattle.pieces.specs.Resolved.Core as core
use Rattle.pieces.specs.Resolved.Core.{CoreTree, CoreObjectTree, CoreInitTree, CoreActionTree, CoreStmtTree, CoreStmtTrees, CoreElseTree}
use Rattle.expanded_programs.specs.Statements.Each.{IfThere, EachItem, InInit, EachAction, InStmt, InElse, InStmts, IfReturned, ReturnsIn, ElseReturnsIn, AllReturnIn}
use Rattle.expanded_programs.specs.Statements.Scopes.{Setting, Reach, enter, reach, behind, behind_all, IsSoundIn, TestSound, ReturnSound, ActionsSound, ItemsSound, InitSound, StmtSound, ElseSound, StmtsSound}

module _ (S : Setting) (P : CoreTree → Type 0) (D : ℕ → Type 0) (r0 : Reach) (expressions : (r : Reach) (e : CoreTree) → IsSoundIn S r e → P e)
    (declarations : (r : Reach) (i : ℕ) → ((j : ℕ) → r0.Ready j → r.Ready j) → S.params ≤ i → (r.Ready i → ⊥) → D i) where
  abbrev Over : Reach → Type 0
  Over r = (j : ℕ) → r0.Ready j → r.Ready j

  over_behind : (b : CoreStmtTree) (r : Reach) → Over r → Over (behind b r)
  over_behind (core.declare object init) r h j a = inr (h j a)
  over_behind (core.block objects body) r h j a = h j a
  over_behind (core.act actions) r h j a = h j a
  over_behind (core.if_ test body other at) r h j a = h j a
  over_behind (core.switch_ test objects body at) r h j a = h j a
  over_behind (core.case_ value body at) r h j a = h j a
  over_behind (core.while_ test body at) r h j a = h j a
  over_behind (core.do_ body test at) r h j a = h j a
  over_behind (core.for_ objects init test step body at) r h j a = h j a
  over_behind core.break_ r h j a = h j a
  over_behind core.continue_ r h j a = h j a
  over_behind (core.return_ value) r h j a = h j a

  over_all : (body : CoreStmtTrees) (r : Reach) → Over r → Over (behind_all body r)
  over_all core.no_stmt r h = h
  over_all (core.more_stmts first rest) r h = over_all rest (behind first r) (over_behind first r h)

  test_each : (r : Reach) (test : Option CoreTree) → TestSound S r test → IfThere P D test
  test_each r None h = tt
  test_each r (Some e) h = expressions r e h

  return_each : (r : Reach) (value : Option CoreTree) → ReturnSound S r value → IfThere P D value
  return_each r None h = tt
  return_each r (Some e) h = expressions r e h.1

  actions_each : (r : Reach) (list : List CoreActionTree) → ActionsSound S r list → EachAction P D list
  actions_each r [] h = tt
  actions_each r (a ∷ rest) h = (expressions r _ h.0, actions_each r rest h.1)

  items_each : (r : Reach) (items : List (Option CoreTree)) → ItemsSound S r items → EachItem P D items
  items_each r [] h = tt
  items_each r (item ∷ items) h = (test_each r item h.0, items_each r items h.1)

  init_each : (r : Reach) (o : CoreObjectTree) (init : CoreInitTree) → InitSound S r o init → InInit P D init
  init_each r o core.unwritten h = tt
  init_each r o (core.single v) h = expressions r v h.1
  init_each r o (core.elements items) h = items_each r items h.2

  mutual
    pub sound_each : (b : CoreStmtTree) (r : Reach) (Own : ℕ → Type 0) (labels breaks continues : Bool) → Over r → StmtSound S r Own labels breaks continues b → InStmt P D b
    sound_each (core.block objects body) r Own labels breaks continues over h = sounds_each body (enter objects r) _ false breaks continues over h.1
    sound_each (core.declare object init) r Own labels breaks continues over h = (declarations r object over h.1 h.3, init_each (reach object r) h.4.0 init h.4.2)
    sound_each (core.act actions) r Own labels breaks continues over h = actions_each r actions h
    sound_each (core.if_ test body other at) r Own labels breaks continues over h = (expressions r test h.0, sound_each body r _ false breaks continues over h.1, else_each other r breaks continues over h.2)
    sound_each (core.switch_ test objects body at) r Own labels breaks continues over h = (expressions r test h.0, sounds_each body (enter objects r) _ true true continues over h.2)
    sound_each (core.case_ value body at) r Own labels breaks continues over h = sound_each body r _ labels breaks continues over h.1
    sound_each (core.while_ test body at) r Own labels breaks continues over h = (expressions r test h.0, sound_each body r _ false true true over h.1)
    sound_each (core.do_ body test at) r Own labels breaks continues over h = (expressions r test h.0, sound_each body r _ false true true over h.1)
    sound_each (core.for_ objects init test step body at) r Own labels breaks continues over h =
        let r1 = behind_all init (enter objects r) in
        (sounds_each init (enter objects r) _ false false false over h.1.1, test_each r1 test h.2, actions_each r1 step h.3, sound_each body r1 _ false true true (over_all init (enter objects r) over) h.4)
    sound_each core.break_ r Own labels breaks continues over h = tt
    sound_each core.continue_ r Own labels breaks continues over h = tt
    sound_each (core.return_ value) r Own labels breaks continues over h = return_each r value h

    else_each : (other : CoreElseTree) (r : Reach) (breaks continues : Bool) → Over r → ElseSound S r breaks continues other → InElse P D other
    else_each core.no_else r breaks continues over h = tt
    else_each (core.else_ at body) r breaks continues over h = sound_each body r _ false breaks continues over h

    pub sounds_each : (body : CoreStmtTrees) (r : Reach) (Own : ℕ → Type 0) (labels breaks continues : Bool) → Over r → StmtsSound S r Own labels breaks continues body → InStmts P D body
    sounds_each core.no_stmt r Own labels breaks continues over h = tt
    sounds_each (core.more_stmts first rest) r Own labels breaks continues over h =
        (sound_each first r Own labels breaks continues over h.0, sounds_each rest (behind first r) Own labels breaks continues (over_behind first r over) h.1)

-- A value is returned only where the function has a result.
module _ (S : Setting) (V : Type 0) (values : (k : CType) → S.result ≡ Some k → V) where
  value_returned : (r : Reach) (value : Option CoreTree) → ReturnSound S r value → IfReturned V value
  value_returned r None h = tt
  value_returned r (Some e) h = values h.0.0 h.0.1

  mutual
    pub sound_returns : (b : CoreStmtTree) (r : Reach) (Own : ℕ → Type 0) (labels breaks continues : Bool) → StmtSound S r Own labels breaks continues b → ReturnsIn V b
    sound_returns (core.block objects body) r Own labels breaks continues h = sounds_return body (enter objects r) _ false breaks continues h.1
    sound_returns (core.declare object init) r Own labels breaks continues h = tt
    sound_returns (core.act actions) r Own labels breaks continues h = tt
    sound_returns (core.if_ test body other at) r Own labels breaks continues h = (sound_returns body r _ false breaks continues h.1, else_returns other r breaks continues h.2)
    sound_returns (core.switch_ test objects body at) r Own labels breaks continues h = sounds_return body (enter objects r) _ true true continues h.2
    sound_returns (core.case_ value body at) r Own labels breaks continues h = sound_returns body r _ labels breaks continues h.1
    sound_returns (core.while_ test body at) r Own labels breaks continues h = sound_returns body r _ false true true h.1
    sound_returns (core.do_ body test at) r Own labels breaks continues h = sound_returns body r _ false true true h.1
    sound_returns (core.for_ objects init test step body at) r Own labels breaks continues h =
        (sounds_return init (enter objects r) _ false false false h.1.1, sound_returns body (behind_all init (enter objects r)) _ false true true h.4)
    sound_returns core.break_ r Own labels breaks continues h = tt
    sound_returns core.continue_ r Own labels breaks continues h = tt
    sound_returns (core.return_ value) r Own labels breaks continues h = value_returned r value h

    else_returns : (other : CoreElseTree) (r : Reach) (breaks continues : Bool) → ElseSound S r breaks continues other → ElseReturnsIn V other
    else_returns core.no_else r breaks continues h = tt
    else_returns (core.else_ at body) r breaks continues h = sound_returns body r _ false breaks continues h

    pub sounds_return : (body : CoreStmtTrees) (r : Reach) (Own : ℕ → Type 0) (labels breaks continues : Bool) → StmtsSound S r Own labels breaks continues body → AllReturnIn V body
    sounds_return core.no_stmt r Own labels breaks continues h = tt
    sounds_return (core.more_stmts first rest) r Own labels breaks continues h = (sound_returns first r Own labels breaks continues h.0, sounds_return rest (behind first r) Own labels breaks continues h.1)
