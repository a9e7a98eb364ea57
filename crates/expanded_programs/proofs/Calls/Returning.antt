-- A return gives a number exactly where the function has a result.
use Rattle.std.proofs.Common.{◌≡◌, ℕ, zero, suc, sym, refl, subst, ℤ, Bool, true, false, List, [], ◌∷◌, Option, Some, None, if◌then◌else◌}
use Rattle.std.specs.Prelude.{◌&&◌}
use Rattle.hls_base.specs.declared.place.Place.{Place}
use Rattle.c_token.specs.declared.ctype.CType.{CType}
use Rattle.c_value.specs.Operators.{is_true}
use Rattle.c_meaning.specs.declared.value.Completion.{Completion}
use Rattle.c_meaning.specs.declared.value.Completion.TheVariants as end
use Rattle.c_meaning.specs.declared.value.Round.{Round}
use Rattle.c_meaning.specs.declared.value.Round.TheVariants as round
use Rattle.c_meaning.specs.Statement.{round_of, completion_of}
use Rattle.pieces.specs.Resolved.Core as core
use Rattle.pieces.specs.Resolved.Core.{CoreTree, CoreActionTree, CoreStmtTree, CoreStmtTrees, CoreElseTree}
use Rattle.hls_base.specs.Steps.{Outcome, went, undefined, waiting, Ran, goes, then_, after, pass}
use Rattle.c_meaning.specs.CoreRuns.Cells.{Cells, Here, entered}
use Rattle.c_meaning.specs.CoreRuns.Kinds.{kind_of}
use Rattle.c_meaning.specs.CoreRuns.Expressions.{CoreCalls, expression}
use Rattle.c_meaning.specs.CoreRuns.Statements as ks
use Rattle.expanded_programs.specs.Statements.Scopes.{Setting, Reach, enter, behind, behind_all, StmtSound, ElseSound, StmtsSound, ReturnSound}

-- what comes of a part has this property, where it ends
abbrev pub Comes : {A : Type 0} → (A → Type 0) → Outcome Cells A → Type 0
Comes P (went v s n) = P v
Comes P (undefined rule at) = Unit {0}
Comes P waiting = Unit {0}

pub then_comes : {A B : Type 0} (P : A → Type 0) (Q : B → Type 0) (q : Ran Cells A) (g : A → Cells → ℕ → Ran Cells B) → Comes P q.outcome → ((v : A) (s : Cells) (n : ℕ) → P v → Comes Q (g v s n).outcome) → Comes Q (then_ q g).outcome
then_comes {A} {B} P Q q g h next = comes_at q.outcome h
  where
    comes_at : (o : Outcome Cells A) → Comes P o → Comes Q (after o g).outcome
    comes_at (went v s n) h = next v s n h
    comes_at (undefined rule at) h = tt
    comes_at waiting h = tt

pub then_any : {A B : Type 0} (Q : B → Type 0) (q : Ran Cells A) (g : A → Cells → ℕ → Ran Cells B) → ((v : A) (s : Cells) (n : ℕ) → Comes Q (g v s n).outcome) → Comes Q (then_ q g).outcome
then_any {A} {B} Q q g next = any_at q.outcome
  where
    any_at : (o : Outcome Cells A) → Comes Q (after o g).outcome
    any_at (went v s n) = next v s n
    any_at (undefined rule at) = tt
    any_at waiting = tt

-- a number where there is a result, and else none
abbrev pub GivesResult : Option CType → Option ℤ → Type 0
GivesResult None v = v ≡ None
GivesResult (Some k) v = (x : ℤ) × (v ≡ Some x)

abbrev pub EndsWell : Option CType → Completion → Type 0
EndsWell result end.Normal = Unit {0}
EndsWell result end.Broke = Unit {0}
EndsWell result end.Continued = Unit {0}
EndsWell result (end.Returned v tail) = GivesResult result v

abbrev TurnsWell : Option CType → Round → Type 0
TurnsWell result round.Again = Unit {0}
TurnsWell result round.Over = Unit {0}
TurnsWell result (round.Out v) = GivesResult result v

module _ (S : Setting) (cc : CoreCalls) (here : Here) where
  abbrev E : Completion → Type 0
  E = EndsWell S.result

  abbrev R : Round → Type 0
  R = TurnsWell S.result

  if_comes : {A : Type 0} (P : A → Type 0) (b : Bool) (q r : Ran Cells A) → Comes P q.outcome → Comes P r.outcome → Comes P (if b then q else r).outcome
  if_comes P true q r h g = h
  if_comes P false q r h g = g

  on_comes : (x : Completion) (rest : Cells → ℕ → Ran Cells Completion) (s : Cells) (n : ℕ) → E x → ((s : Cells) (n : ℕ) → Comes E (rest s n).outcome) → Comes E (ks.go_on x rest s n).outcome
  on_comes end.Normal rest s n h next = next s n
  on_comes end.Broke rest s n h next = tt
  on_comes end.Continued rest s n h next = tt
  on_comes (end.Returned v tail) rest s n h next = h

  behind_comes : (x : Completion) (at : Place) (s : Cells) (n : ℕ) → E x → Comes E (ks.behind_if x at here s n).outcome
  behind_comes end.Normal at s n h = then_any E (pass _ s n) (λ p s1 n1. goes end.Normal s1 n1) (λ p s1 n1. tt)
  behind_comes end.Broke at s n h = tt
  behind_comes end.Continued at s n h = tt
  behind_comes (end.Returned v true) at s n h = then_any E (pass _ s n) (λ p s1 n1. goes (end.Returned v true) s1 n1) (λ p s1 n1. h)
  behind_comes (end.Returned v false) at s n h = h

  breakable_comes : (x : Completion) (at : Place) (s : Cells) (n : ℕ) → E x → Comes E (ks.behind_breakable x at here s n).outcome
  breakable_comes end.Normal at s n h = then_any E (pass _ s n) (λ p s1 n1. goes end.Normal s1 n1) (λ p s1 n1. tt)
  breakable_comes end.Broke at s n h = then_any E (pass _ s n) (λ p s1 n1. goes end.Normal s1 n1) (λ p s1 n1. tt)
  breakable_comes end.Continued at s n h = tt
  breakable_comes (end.Returned v tail) at s n h = h

  arm_comes : (at : Place) (part : Cells → ℕ → Ran Cells Completion) (s : Cells) (n : ℕ) → ((s : Cells) (n : ℕ) → Comes E (part s n).outcome) → Comes E (ks.arm at here part s n).outcome
  arm_comes at part s n h = then_any E (pass _ s n) (λ u s1 n1. part s1 n1) (λ u s1 n1. h s1 n1)

  -- ---- loops

  round_comes : (x : Completion) → E x → R (round_of x)
  round_comes end.Normal h = tt
  round_comes end.Broke h = tt
  round_comes end.Continued h = tt
  round_comes (end.Returned v tail) h = h

  completion_comes : (x : Round) → R x → E (completion_of x)
  completion_comes round.Again h = tt
  completion_comes round.Over h = tt
  completion_comes (round.Out v) h = h

  again_comes : (x : Round) (rest : Cells → ℕ → Ran Cells Round) (s : Cells) (n : ℕ) → R x → ((s : Cells) (n : ℕ) → Comes R (rest s n).outcome) → Comes R (ks.if_again x rest s n).outcome
  again_comes round.Again rest s n h next = next s n
  again_comes round.Over rest s n h next = tt
  again_comes (round.Out v) rest s n h next = h

  repeat_comes : (round_ : Cells → ℕ → Ran Cells Round) → ((s : Cells) (n : ℕ) → Comes R (round_ s n).outcome) → (fuel : ℕ) (s : Cells) (n : ℕ) → Comes R (ks.repeat fuel round_ s n).outcome
  repeat_comes round_ h zero s n = tt
  repeat_comes round_ h (suc fuel) s n = then_comes R R (round_ s n) (λ r s1 n1. ks.if_again r (ks.repeat fuel round_) s1 n1) (h s n) (λ x s1 n1 p. again_comes x (ks.repeat fuel round_) s1 n1 p (λ s2 n2. repeat_comes round_ h fuel s2 n2))

  loop_comes : (at : Place) (round_ : Cells → ℕ → Ran Cells Round) → ((s : Cells) (n : ℕ) → Comes R (round_ s n).outcome) → (s : Cells) (n : ℕ) → Comes E (ks.loop at here round_ s n).outcome
  loop_comes at round_ h s n = then_comes R E (ks.repeat n round_ s n) (λ r s1 n1. ks.behind_breakable (completion_of r) at here s1 n1) (repeat_comes round_ h n s n) (λ x s1 n1 p. breakable_comes (completion_of x) at s1 n1 (completion_comes x p))

  body_comes : (body : Cells → ℕ → Ran Cells Completion) (at : Place) (s : Cells) (n : ℕ) → ((s : Cells) (n : ℕ) → Comes E (body s n).outcome) → Comes R (ks.run_body body at here s n).outcome
  body_comes body at s n h =
      then_comes E R (then_ (pass _ s n) (λ u s1 n1. body s1 n1)) (λ r s1 n1. goes (round_of r) s1 n1) (then_any E (pass _ s n) (λ u s1 n1. body s1 n1) (λ u s1 n1. h s1 n1)) (λ x s1 n1 p. round_comes x p)

  step_comes : (step : List CoreActionTree) (at : Place) (s : Cells) (n : ℕ) → Comes R (ks.run_step cc step at here s n).outcome
  step_comes [] at s n = tt
  step_comes (a ∷ more) at s n = then_any R (then_ (pass _ s n) (λ u s1 n1. ks.act_all cc (a ∷ more) here s1 n1)) (λ u s1 n1. goes round.Again s1 n1) (λ u s1 n1. tt)

  first_comes : (test : Option CoreTree) (body : Cells → ℕ → Ran Cells Completion) (step : List CoreActionTree) (at : Place) → ((s : Cells) (n : ℕ) → Comes E (body s n).outcome) → (s : Cells) (n : ℕ) → Comes R (ks.test_first cc test body step at here s n).outcome
  first_comes test body step at h s n =
      then_any R (ks.tested cc test at here s n) (λ holds s1 n1. if holds then then_ (ks.run_body body at here s1 n1) (λ r s2 n2. ks.if_again r (ks.run_step cc step at here) s2 n2) else goes round.Over s1 n1)
      (λ holds s1 n1. if_comes R holds (then_ (ks.run_body body at here s1 n1) (λ r s2 n2. ks.if_again r (ks.run_step cc step at here) s2 n2)) (goes round.Over s1 n1)
      (then_comes R R (ks.run_body body at here s1 n1) (λ r s2 n2. ks.if_again r (ks.run_step cc step at here) s2 n2) (body_comes body at s1 n1 h) (λ x s2 n2 p. again_comes x (ks.run_step cc step at here) s2 n2 p (λ s3 n3. step_comes step at s3 n3))) tt)

  if_over : (holds : Bool) → R (if holds then round.Again else round.Over)
  if_over true = tt
  if_over false = tt

  last_comes : (test : CoreTree) (body : Cells → ℕ → Ran Cells Completion) (at : Place) → ((s : Cells) (n : ℕ) → Comes E (body s n).outcome) → (s : Cells) (n : ℕ) → Comes R (ks.test_last cc test body at here s n).outcome
  last_comes test body at h s n =
      let next = λ (s2 : Cells) (n2 : ℕ). then_ (ks.tested cc (Some test) at here s2 n2) (λ holds s3 n3. goes (if holds then round.Again else round.Over) s3 n3) in
      then_comes R R (ks.run_body body at here s n) (λ r s1 n1. ks.if_again r next s1 n1) (body_comes body at s n h)
      (λ x s1 n1 p. again_comes x next s1 n1 p (λ s2 n2. then_any R (ks.tested cc (Some test) at here s2 n2) (λ holds s3 n3. goes (if holds then round.Again else round.Over) s3 n3) (λ holds s3 n3. if_over holds)))

  -- ---- statements

  returned_comes : (value : Option CoreTree) (tail : Bool) (r : Reach) (s : Cells) (n : ℕ) → ReturnSound S r value → Comes E (then_ (ks.returned_number cc value here s n) (λ v s1 n1. goes (end.Returned v tail) s1 n1)).outcome
  returned_comes None tail r s n sound = subst (λ z. GivesResult z None) (sym sound) refl
  returned_comes (Some e) tail r s n sound =
      then_comes (λ v. GivesResult S.result v) E (ks.returned_number cc (Some e) here s n) (λ v s1 n1. goes (end.Returned v tail) s1 n1)
      (then_any (λ v. GivesResult S.result v) (expression cc true e here s n) (λ x s1 n1. goes (Some (ks.converted_result here.result x)) s1 n1) (λ x s1 n1. subst (λ z. GivesResult z (Some (ks.converted_result here.result x))) (sym sound.0.1) (ks.converted_result here.result x, refl)))
      (λ v s1 n1 p. p)

  mutual
    pub statement_comes : (b : CoreStmtTree) (tail : Bool) (r : Reach) (Own : ℕ → Type 0) (labels breaks continues : Bool) → StmtSound S r Own labels breaks continues b → (s : Cells) (n : ℕ) → Comes E (ks.statement cc tail b here s n).outcome
    statement_comes (core.block objects body) tail r Own labels breaks continues h s n = statements_come body tail (enter objects r) _ false breaks continues h.1 (entered here objects s) n
    statement_comes (core.declare object init) tail r Own labels breaks continues h s n = then_any E (ks.declare cc (here.spots object) _ init here s n) (λ u s1 n1. goes end.Normal s1 n1) (λ u s1 n1. tt)
    statement_comes (core.act actions) tail r Own labels breaks continues h s n = then_any E (ks.act_all cc actions here s n) (λ u s1 n1. goes end.Normal s1 n1) (λ u s1 n1. tt)
    statement_comes (core.if_ test body other at) tail r Own labels breaks continues h s n =
        then_any E (expression cc true test here s n) (λ x s1 n1. then_ (if is_true x then ks.arm at here (ks.statement cc tail body here) s1 n1 else ks.else_ cc tail other here s1 n1) (λ y s2 n2. ks.behind_if y at here s2 n2))
        (λ x s1 n1. then_comes E E (if is_true x then ks.arm at here (ks.statement cc tail body here) s1 n1 else ks.else_ cc tail other here s1 n1) (λ y s2 n2. ks.behind_if y at here s2 n2)
        (if_comes E (is_true x) (ks.arm at here (ks.statement cc tail body here) s1 n1) (ks.else_ cc tail other here s1 n1) (arm_comes at (ks.statement cc tail body here) s1 n1 (λ s2 n2. statement_comes body tail r _ false breaks continues h.1 s2 n2)) (else_comes other tail r breaks continues h.2 s1 n1))
        (λ y s2 n2 p. behind_comes y at s2 n2 p))
    statement_comes (core.switch_ test objects body at) tail r Own labels breaks continues h s n =
        then_any E (expression cc true test here s n) (λ x s1 n1. then_ (ks.jump cc (ks.target_label (ks.switch_word (kind_of test) x) body) body here (entered here objects s1) n1) (λ y s2 n2. ks.behind_breakable y at here s2 n2))
        (λ x s1 n1. then_comes E E (ks.jump cc (ks.target_label (ks.switch_word (kind_of test) x) body) body here (entered here objects s1) n1) (λ y s2 n2. ks.behind_breakable y at here s2 n2)
        (jump_comes (ks.target_label (ks.switch_word (kind_of test) x) body) body (enter objects r) _ true true continues h.2 (entered here objects s1) n1) (λ y s2 n2 p. breakable_comes y at s2 n2 p))
    statement_comes (core.case_ value body at) tail r Own labels breaks continues h s n = arm_comes at (ks.statement cc false body here) s n (λ s1 n1. statement_comes body false r _ labels breaks continues h.1 s1 n1)
    statement_comes (core.while_ test body at) tail r Own labels breaks continues h s n =
        loop_comes at (ks.test_first cc (Some test) (ks.statement cc false body here) [] at here) (λ s1 n1. first_comes (Some test) (ks.statement cc false body here) [] at (λ s2 n2. statement_comes body false r _ false true true h.1 s2 n2) s1 n1) s n
    statement_comes (core.do_ body test at) tail r Own labels breaks continues h s n =
        loop_comes at (ks.test_last cc test (ks.statement cc false body here) at here) (λ s1 n1. last_comes test (ks.statement cc false body here) at (λ s2 n2. statement_comes body false r _ false true true h.1 s2 n2) s1 n1) s n
    statement_comes (core.for_ objects init test step body at) tail r Own labels breaks continues h s n =
        then_any E (ks.statements cc false init here (entered here objects s) n) (λ u s1 n1. ks.loop at here (ks.test_first cc test (ks.statement cc false body here) step at here) s1 n1)
        (λ u s1 n1. loop_comes at (ks.test_first cc test (ks.statement cc false body here) step at here)
        (λ s2 n2. first_comes test (ks.statement cc false body here) step at (λ s3 n3. statement_comes body false (behind_all init (enter objects r)) _ false true true h.4 s3 n3) s2 n2) s1 n1)
    statement_comes core.break_ tail r Own labels breaks continues h s n = tt
    statement_comes core.continue_ tail r Own labels breaks continues h s n = tt
    statement_comes (core.return_ value) tail r Own labels breaks continues h s n = returned_comes value tail r s n h

    else_comes : (other : CoreElseTree) (tail : Bool) (r : Reach) (breaks continues : Bool) → ElseSound S r breaks continues other → (s : Cells) (n : ℕ) → Comes E (ks.else_ cc tail other here s n).outcome
    else_comes core.no_else tail r breaks continues h s n = tt
    else_comes (core.else_ at body) tail r breaks continues h s n = arm_comes at (ks.statement cc tail body here) s n (λ s1 n1. statement_comes body tail r _ false breaks continues h s1 n1)

    pub statements_come : (body : CoreStmtTrees) (tail : Bool) (r : Reach) (Own : ℕ → Type 0) (labels breaks continues : Bool) → StmtsSound S r Own labels breaks continues body → (s : Cells) (n : ℕ) → Comes E (ks.statements cc tail body here s n).outcome
    statements_come core.no_stmt tail r Own labels breaks continues h s n = tt
    statements_come (core.more_stmts first rest) tail r Own labels breaks continues h s n =
        then_comes E E (ks.statement cc (tail && ks.is_last rest) first here s n) (λ x s1 n1. ks.go_on x (ks.statements cc tail rest here) s1 n1) (statement_comes first (tail && ks.is_last rest) r Own labels breaks continues h.0 s n)
        (λ x s1 n1 p. on_comes x (ks.statements cc tail rest here) s1 n1 p (λ s2 n2. statements_come rest tail (behind first r) Own labels breaks continues h.1 s2 n2))

    jump_comes : (wanted : Option ℕ → Bool) (body : CoreStmtTrees) (r : Reach) (Own : ℕ → Type 0) (labels breaks continues : Bool) → StmtsSound S r Own labels breaks continues body → (s : Cells) (n : ℕ) → Comes E (ks.jump cc wanted body here s n).outcome
    jump_comes wanted core.no_stmt r Own labels breaks continues h s n = tt
    jump_comes wanted (core.more_stmts first rest) r Own labels breaks continues h s n =
        if_comes E (ks.has_label wanted first) (then_ (ks.labelled cc wanted first here s n) (λ x s1 n1. ks.go_on x (ks.statements cc false rest here) s1 n1)) (ks.jump cc wanted rest here s n)
        (then_comes E E (ks.labelled cc wanted first here s n) (λ x s1 n1. ks.go_on x (ks.statements cc false rest here) s1 n1) (labelled_comes wanted first r Own labels breaks continues h.0 s n)
        (λ x s1 n1 p. on_comes x (ks.statements cc false rest here) s1 n1 p (λ s2 n2. statements_come rest false (behind first r) Own labels breaks continues h.1 s2 n2)))
        (jump_comes wanted rest (behind first r) Own labels breaks continues h.1 s n)

    labelled_comes : (wanted : Option ℕ → Bool) (b : CoreStmtTree) (r : Reach) (Own : ℕ → Type 0) (labels breaks continues : Bool) → StmtSound S r Own labels breaks continues b → (s : Cells) (n : ℕ) → Comes E (ks.labelled cc wanted b here s n).outcome
    labelled_comes wanted (core.case_ value body at) r Own labels breaks continues h s n =
        if_comes E (wanted value) (ks.arm at here (ks.statement cc false body here) s n) (ks.labelled cc wanted body here s n) (arm_comes at (ks.statement cc false body here) s n (λ s1 n1. statement_comes body false r _ labels breaks continues h.1 s1 n1))
        (labelled_comes wanted body r _ labels breaks continues h.1 s n)
    labelled_comes wanted (core.block objects body) r Own labels breaks continues h s n = tt
    labelled_comes wanted (core.declare object init) r Own labels breaks continues h s n = tt
    labelled_comes wanted (core.act actions) r Own labels breaks continues h s n = tt
    labelled_comes wanted (core.if_ test body other at) r Own labels breaks continues h s n = tt
    labelled_comes wanted (core.switch_ test objects body at) r Own labels breaks continues h s n = tt
    labelled_comes wanted (core.while_ test body at) r Own labels breaks continues h s n = tt
    labelled_comes wanted (core.do_ body test at) r Own labels breaks continues h s n = tt
    labelled_comes wanted (core.for_ objects init test step body at) r Own labels breaks continues h s n = tt
    labelled_comes wanted core.break_ r Own labels breaks continues h s n = tt
    labelled_comes wanted core.continue_ r Own labels breaks continues h s n = tt
    labelled_comes wanted (core.return_ value) r Own labels breaks continues h s n = tt
