-- Which labels stand in front of statements, and the pieces that they name.
use Rattle.std.proofs.Common.{◌≡◌, ℕ, zero, suc, ◌+◌, ◌∙◌, sym, refl, ap, inl, inr, Bool, true, false, true≢false, List, [], ◌∷◌, ◌++◌, length, Option, Some, None, arith, if◌then◌else◌}
use Rattle.std.specs.Prelude.{drop}
use Rattle.std.proofs.lemmas.Bool.{cases_Bool, false≢true}
use Rattle.pieces.specs.Resolved.Core as core
use Rattle.pieces.specs.Resolved.Core.{CoreStmtTree, CoreStmtTrees, CoreElseTree}
use Rattle.pieces.specs.declared.piece.Label.{Label}
use Rattle.pieces.specs.Trees.{PieceTree, piece_row}
use Rattle.piece_making.specs.Making.{State, then_, emit, label}
use Rattle.piece_making.specs.Calls.{Call}
use Rattle.c_meaning.specs.CoreRuns.Statements.{is_label, is_default, has_label, any_label}
use Rattle.c_meaning.specs.PieceRuns.Values.{Store}
use Rattle.c_meaning.specs.PieceRuns.Pieces.{Frame, is_word, case_target, default_target, if_none, from_piece}
use Rattle.c_expand.specs.Expressions.{Callee}
use Rattle.c_expand.specs.Statements.{statement, statements}
use Rattle.expand_runs.specs.Counting.{IsCounted, CalleesCount, IsUnlabelled, ElseUnlabelled, AreUnlabelled}
use Rattle.expand_runs.proofs.PieceCounts.Statements.{statement_counted}
use Rattle.expand_runs.proofs.Rows.{run_of}
use Rattle.expanded_programs.specs.Statements.Scopes.{Setting, Reach, enter, behind, behind_all, StmtSound, ElseSound, StmtsSound}

abbrev pub IsCase : CoreStmtTree → Type 0
IsCase (core.case_ value body at) = Unit {0}
IsCase (core.block objects body) = ⊥
IsCase (core.declare object init) = ⊥
IsCase (core.act actions) = ⊥
IsCase (core.if_ test body other at) = ⊥
IsCase (core.switch_ test objects body at) = ⊥
IsCase (core.while_ test body at) = ⊥
IsCase (core.do_ body test at) = ⊥
IsCase (core.for_ objects init test step body at) = ⊥
IsCase core.break_ = ⊥
IsCase core.continue_ = ⊥
IsCase (core.return_ value) = ⊥

-- ---- statements without labels

module _ (S : Setting) where
  mutual
    -- labels stand only directly in a switch
    pub unlabelled : (b : CoreStmtTree) (r : Reach) (Own : ℕ → Type 0) (labels breaks continues : Bool) → (labels ≡ true → IsCase b → ⊥) → StmtSound S r Own labels breaks continues b → IsUnlabelled b
    unlabelled (core.block objects body) r Own labels breaks continues no_ h = all_unlabelled body (enter objects r) _ breaks continues h.1
    unlabelled (core.declare object init) r Own labels breaks continues no_ h = tt
    unlabelled (core.act actions) r Own labels breaks continues no_ h = tt
    unlabelled (core.if_ test body other at) r Own labels breaks continues no_ h = (unlabelled body r _ false breaks continues (λ e. absurd (false≢true e)) h.1, else_unlabelled other r breaks continues h.2)
    unlabelled (core.switch_ test objects body at) r Own labels breaks continues no_ h = tt
    unlabelled (core.case_ value body at) r Own labels breaks continues no_ h = absurd (no_ h.0 tt)
    unlabelled (core.while_ test body at) r Own labels breaks continues no_ h = unlabelled body r _ false true true (λ e. absurd (false≢true e)) h.1
    unlabelled (core.do_ body test at) r Own labels breaks continues no_ h = unlabelled body r _ false true true (λ e. absurd (false≢true e)) h.1
    unlabelled (core.for_ objects init test step body at) r Own labels breaks continues no_ h =
        (all_unlabelled init (enter objects r) _ false false h.1.1, unlabelled body (behind_all init (enter objects r)) _ false true true (λ e. absurd (false≢true e)) h.4)
    unlabelled core.break_ r Own labels breaks continues no_ h = tt
    unlabelled core.continue_ r Own labels breaks continues no_ h = tt
    unlabelled (core.return_ value) r Own labels breaks continues no_ h = tt

    else_unlabelled : (other : CoreElseTree) (r : Reach) (breaks continues : Bool) → ElseSound S r breaks continues other → ElseUnlabelled other
    else_unlabelled core.no_else r breaks continues h = tt
    else_unlabelled (core.else_ at body) r breaks continues h = unlabelled body r _ false breaks continues (λ e. absurd (false≢true e)) h

    pub all_unlabelled : (body : CoreStmtTrees) (r : Reach) (Own : ℕ → Type 0) (breaks continues : Bool) → StmtsSound S r Own false breaks continues body → AreUnlabelled body
    all_unlabelled core.no_stmt r Own breaks continues h = tt
    all_unlabelled (core.more_stmts first rest) r Own breaks continues h = (unlabelled first r Own false breaks continues (λ e. absurd (false≢true e)) h.0, all_unlabelled rest (behind first r) Own breaks continues h.1)

-- ---- targets

-- the piece that the first label of this kind names
abbrev pub first_target : (Option ℕ → Bool) → List Label → Option ℕ
first_target wanted [] = None
first_target wanted (l ∷ ls) = if wanted l.value then Some l.target else first_target wanted ls

pub first_behind : (wanted : Option ℕ → Bool) (xs ys : List Label) → first_target wanted xs ≡ None → first_target wanted (xs ++ ys) ≡ first_target wanted ys
first_behind wanted [] ys h = refl
first_behind wanted (l ∷ ls) ys h = elim (cases_Bool (wanted l.value)) [
  | inl e ↦ absurd (let q : Some l.target ≡ None = sym (ap (λ z. if z then Some l.target else first_target wanted ls) e) ∙ h in cc)
  | inr e ↦
      ap (λ z. if z then Some l.target else first_target wanted (ls ++ ys)) e
      ∙ first_behind wanted ls ys (sym (ap (λ z. if z then Some l.target else first_target wanted ls) e) ∙ h)
]

pub first_here : (wanted : Option ℕ → Bool) (xs ys : List Label) (j : ℕ) → first_target wanted xs ≡ Some j → first_target wanted (xs ++ ys) ≡ Some j
first_here wanted [] ys j h = absurd (let q : None ≡ Some j = h in cc)
first_here wanted (l ∷ ls) ys j h = elim (cases_Bool (wanted l.value)) [
  | inl e ↦ ap (λ z. if z then Some l.target else first_target wanted (ls ++ ys)) e ∙ (sym (ap (λ z. if z then Some l.target else first_target wanted ls) e) ∙ h)
  | inr e ↦
      ap (λ z. if z then Some l.target else first_target wanted (ls ++ ys)) e
      ∙ first_here wanted ls ys j (sym (ap (λ z. if z then Some l.target else first_target wanted ls) e) ∙ h)
]

word_same : (word : ℕ) (v : Option ℕ) → is_word word v ≡ is_label word v
word_same word None = refl
word_same word (Some v) = refl

pub case_is_first : (word : ℕ) (ls : List Label) → case_target word ls ≡ first_target (is_label word) ls
case_is_first word [] = refl
case_is_first word (l ∷ ls) =
    ap (λ z. if z then Some l.target else case_target word ls) (word_same word l.value) ∙ ap (λ z. if is_label word l.value then Some l.target else z) (case_is_first word ls)

none_is : (v : Option ℕ) (j : ℕ) (x y : Option ℕ) → x ≡ y → if_none v j x ≡ (if is_default v then Some j else y)
none_is None j x y e = refl
none_is (Some v) j x y e = e

pub default_is_first : (ls : List Label) → default_target ls ≡ first_target is_default ls
default_is_first [] = refl
default_is_first (l ∷ ls) = none_is l.value l.target (default_target ls) (first_target is_default ls) (default_is_first ls)

-- from a piece on
pub from_drop : (f : Frame) (xs : List PieceTree) (j : ℕ) (t : Store) (n : ℕ) → from_piece f (piece_row xs) j t n ≡ run_of f (drop j xs) t n
from_drop f [] zero t n = refl
from_drop f [] (suc j) t n = refl
from_drop f (x ∷ xs) zero t n = refl
from_drop f (x ∷ xs) (suc j) t n = from_drop f xs j t n

-- ---- labels in front of a statement of a switch

module _ (S : Setting) (g : Callee) (c : Call) (counts : CalleesCount g c) where
  abbrev Counted : CoreStmtTree → State → Type 0
  Counted b s = (statement g c b false s).state.made ≡ s.made + length (statement g c b false s).pieces

  plain_counted : (b : CoreStmtTree) (s : State) (r : Reach) (Own : ℕ → Type 0) (breaks continues : Bool) → (IsCase b → ⊥) → StmtSound S r Own true breaks continues b → IsCounted s (statement g c b false s)
  plain_counted b s r Own breaks continues no_ h = statement_counted g c counts b false s (unlabelled S b r Own true breaks continues (λ e. no_) h)

  -- Its pieces are counted.
  pub front_counted : (b : CoreStmtTree) (s : State) (r : Reach) (Own : ℕ → Type 0) (breaks continues : Bool) → StmtSound S r Own true breaks continues b → Counted b s
  unfolding then_ emit label
  front_counted (core.case_ value body at) s r Own breaks continues h = let q = front_counted body (record s { made = s.made + 1 }) r _ breaks continues h.1 in omega (arith, q)
  front_counted (core.block objects body) s r Own breaks continues h = (plain_counted (core.block objects body) s r Own breaks continues (λ z. z) h).made
  front_counted (core.declare object init) s r Own breaks continues h = (plain_counted (core.declare object init) s r Own breaks continues (λ z. z) h).made
  front_counted (core.act actions) s r Own breaks continues h = (plain_counted (core.act actions) s r Own breaks continues (λ z. z) h).made
  front_counted (core.if_ test body other at) s r Own breaks continues h = (plain_counted (core.if_ test body other at) s r Own breaks continues (λ z. z) h).made
  front_counted (core.switch_ test objects body at) s r Own breaks continues h = (plain_counted (core.switch_ test objects body at) s r Own breaks continues (λ z. z) h).made
  front_counted (core.while_ test body at) s r Own breaks continues h = (plain_counted (core.while_ test body at) s r Own breaks continues (λ z. z) h).made
  front_counted (core.do_ body test at) s r Own breaks continues h = (plain_counted (core.do_ body test at) s r Own breaks continues (λ z. z) h).made
  front_counted (core.for_ objects init test step body at) s r Own breaks continues h = (plain_counted (core.for_ objects init test step body at) s r Own breaks continues (λ z. z) h).made
  front_counted core.break_ s r Own breaks continues h = (plain_counted core.break_ s r Own breaks continues (λ z. z) h).made
  front_counted core.continue_ s r Own breaks continues h = (plain_counted core.continue_ s r Own breaks continues (λ z. z) h).made
  front_counted (core.return_ value) s r Own breaks continues h = (plain_counted (core.return_ value) s r Own breaks continues (λ z. z) h).made

  abbrev Named : (Option ℕ → Bool) → CoreStmtTree → State → Option ℕ
  Named wanted b s = first_target wanted (statement g c b false s).labels

  plain_front : (wanted : Option ℕ → Bool) (b : CoreStmtTree) (s : State) (r : Reach) (Own : ℕ → Type 0) (breaks continues : Bool) → (IsCase b → ⊥) → StmtSound S r Own true breaks continues b → Named wanted b s ≡ None
  plain_front wanted b s r Own breaks continues no_ h = ap (first_target wanted) (plain_counted b s r Own breaks continues no_ h).labels

  -- No piece is named where no label in front is wanted.
  pub no_front : (wanted : Option ℕ → Bool) (b : CoreStmtTree) (s : State) (r : Reach) (Own : ℕ → Type 0) (breaks continues : Bool) → StmtSound S r Own true breaks continues b → has_label wanted b ≡ false → Named wanted b s ≡ None
  unfolding then_ emit label
  no_front wanted (core.case_ value body at) s r Own breaks continues h e = elim (cases_Bool (wanted value)) [
    | inl is ↦ absurd (true≢false (sym (ap (λ z. if z then true else has_label wanted body) is) ∙ e))
    | inr is ↦
        let s1 = record s { made = s.made + 1 } in
        ap (λ z. if z then Some s.made else Named wanted body s1) is
        ∙ no_front wanted body s1 r _ breaks continues h.1 (sym (ap (λ z. if z then true else has_label wanted body) is) ∙ e)
  ]
  no_front wanted (core.block objects body) s r Own breaks continues h e = plain_front wanted (core.block objects body) s r Own breaks continues (λ z. z) h
  no_front wanted (core.declare object init) s r Own breaks continues h e = plain_front wanted (core.declare object init) s r Own breaks continues (λ z. z) h
  no_front wanted (core.act actions) s r Own breaks continues h e = plain_front wanted (core.act actions) s r Own breaks continues (λ z. z) h
  no_front wanted (core.if_ test body other at) s r Own breaks continues h e = plain_front wanted (core.if_ test body other at) s r Own breaks continues (λ z. z) h
  no_front wanted (core.switch_ test objects body at) s r Own breaks continues h e = plain_front wanted (core.switch_ test objects body at) s r Own breaks continues (λ z. z) h
  no_front wanted (core.while_ test body at) s r Own breaks continues h e = plain_front wanted (core.while_ test body at) s r Own breaks continues (λ z. z) h
  no_front wanted (core.do_ body test at) s r Own breaks continues h e = plain_front wanted (core.do_ body test at) s r Own breaks continues (λ z. z) h
  no_front wanted (core.for_ objects init test step body at) s r Own breaks continues h e = plain_front wanted (core.for_ objects init test step body at) s r Own breaks continues (λ z. z) h
  no_front wanted core.break_ s r Own breaks continues h e = plain_front wanted core.break_ s r Own breaks continues (λ z. z) h
  no_front wanted core.continue_ s r Own breaks continues h e = plain_front wanted core.continue_ s r Own breaks continues (λ z. z) h
  no_front wanted (core.return_ value) s r Own breaks continues h e = plain_front wanted (core.return_ value) s r Own breaks continues (λ z. z) h

  pub no_fronts : (wanted : Option ℕ → Bool) (body : CoreStmtTrees) (s : State) (r : Reach) (Own : ℕ → Type 0) (breaks continues : Bool) → StmtsSound S r Own true breaks continues body → any_label wanted body ≡ false
      → first_target wanted (statements g c body false s).labels ≡ None
  unfolding then_
  no_fronts wanted core.no_stmt s r Own breaks continues h e = refl
  no_fronts wanted (core.more_stmts first rest) s r Own breaks continues h e = elim (cases_Bool (has_label wanted first)) [
    | inl is ↦ absurd (true≢false (sym (ap (λ z. if z then true else any_label wanted rest) is) ∙ e))
    | inr is ↦
        let x = statement g c first false s in
        first_behind wanted x.labels (statements g c rest false x.state).labels (no_front wanted first s r Own breaks continues h.0 is)
        ∙ no_fronts wanted rest x.state (behind first r) Own breaks continues h.1 (sym (ap (λ z. if z then true else any_label wanted rest) is) ∙ e)
  ]
