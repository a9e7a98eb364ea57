-- The goals take each token of a statement.
use Rattle.std.proofs.Common.{◌≡◌, ℕ, Bool, true, false, List, [], ◌∷◌, ◌++◌, codes, Option, None, refl, ap, sym, ◌∙◌, append_assoc}
use Rattle.std.specs.Prelude.{if◌then◌else◌}
use Rattle.hls_base.specs.declared.place.Place.{Place}
use Rattle.c_token.specs.declared.punct.Punct.TheVariants as p
use Rattle.c_tree.specs.Terminals.{Terminal, sign, word}
use Rattle.c_tree.specs.Tree.{Tree, ActionTree, ObjectTree, StmtTree, StmtTrees, FirstTree}
use Rattle.c_tree.specs.Grammar as g
use Rattle.c_tree.specs.Grammar.{Derives, DerivesActions, DerivesDeclaration, DerivesStatement, DerivesFirst, DerivesBlock, DerivesBody, ends_open}
use Rattle.c_tree.specs.Limits.{plain, closing, held, pair, whole, marks, optional_marks, action_list_marks, actions_marks, declaration_marks, statement_marks, first_marks, body_marks}
use Rattle.c_syntax.specs.declared.steps.goal.Goal.{Goal}
use Rattle.c_syntax.specs.declared.steps.goal.Goal.TheVariants as G
use Rattle.c_syntax.specs.declared.steps.goal.Spot.{Spot}
use Rattle.c_syntax.specs.declared.sorts.sort.Sort.{Sort}
use Rattle.c_syntax.specs.declared.sorts.sort.Sort.TheVariants as o
use Rattle.c_syntax.specs.Sorts.{sort_of, begins_operand, begins_kind}
use Rattle.c_syntax.specs.Steps.{deeper, fresh, opened, step_of, taken_or, next, behind, kind, object_goals, declaration, statement, body, first, first_action}
use Rattle.c_syntax.proofs.Noting.{Noted}
use Rattle.c_syntax.proofs.Marking.{run, going, put, put_at, put-append, put-pair, SomeMarks, marks_more, from_plain, opening, put_opened, put_opened-append, put-held, put-held-plain}
use Rattle.c_syntax.proofs.Completing.{at_first, spot_at, skip, run_opened}
use Rattle.c_syntax.proofs.CompletingTypes.{StartsKind, kind_starts}
use Rattle.c_syntax.proofs.CompletingExpressions.{taken_behind}
use Rattle.c_syntax.proofs.CompletingObjects.{Passes, via, same_tokens, same_notes, at_once, after_run, expression_pass, choice_pass, optional_expression_pass, then_acts, opened_actions_pass, all_actions_pass, action_list_some, action_list_starts, actions_pass, declaration_run}

-- ---- an expression in parentheses

test_pass : {ts : List Terminal} {e : Tree} (d : Derives 15 ts e) (opens closes : Place) (depth count : ℕ) (goals : List Goal) (noted : List Noted) (us : List Terminal)
    → Passes (sign p.LeftParen opens ∷ (ts ++ sign p.RightParen closes ∷ us)) (G.OpenParen depth ∷ G.Expression (deeper depth) ∷ G.CloseParen depth 0 ∷ goals) count noted
    us goals (put_at depth closing ∷ put (deeper depth) (whole (marks d)) (put_at depth plain ∷ noted))
test_pass d opens closes depth count goals noted us =
    after_run refl (via (expression_pass d (deeper depth) (G.CloseParen depth 0 ∷ goals) (put_at depth plain ∷ noted) (sign p.RightParen closes ∷ us) refl) (λ c. at_once 0 refl))

-- ---- what a statement begins with

abbrev pub no_else : Sort → Bool
no_else o.Else = false
no_else _ = true

abbrev begins_statement : Sort → Bool
begins_statement o.LeftBrace = true
begins_statement o.Semicolon = true
begins_statement o.Case = true
begins_statement o.Default = true
begins_statement o.Break = true
begins_statement o.Continue = true
begins_statement o.Return = true
begins_statement o.If = true
begins_statement o.Switch = true
begins_statement o.While = true
begins_statement o.Do = true
begins_statement o.For = true
begins_statement sort = begins_operand sort

record StartsStatement (ts : List Terminal) : Type 0 where
  first : Terminal
  rest : List Terminal
  shape : ts ≡ first ∷ rest
  begins : begins_statement (sort_of first.kind) ≡ true

operand_statement : (sort : Sort) → begins_operand sort ≡ true → begins_statement sort ≡ true
operand_statement o.Name e = refl
operand_statement o.Number e = refl
operand_statement o.LeftParen e = refl
operand_statement o.Prefix e = refl
operand_statement o.Sign e = refl
operand_statement o.Bump e = refl
operand_statement _ e = absurd cc

act_starts : {ts : List Terminal} {all : List ActionTree} → DerivesActions ts all → (at : Place) → StartsStatement (ts ++ sign p.Semicolon at ∷ [])
act_starts g.no_action at = record { first = sign p.Semicolon at; rest = []; shape = refl; begins = refl }
act_starts (g.actions ts all d) at =
    let s = action_list_starts d in
    record { first = s.first; rest = s.rest ++ sign p.Semicolon at ∷ []; shape = ap (λ x. x ++ sign p.Semicolon at ∷ []) s.shape; begins = operand_statement (sort_of s.first.kind) s.begins }

statement_starts : {ts : List Terminal} {stmt : StmtTree} → DerivesStatement ts stmt → StartsStatement ts
statement_starts (g.a_block _ _ (g.braces opens closes ts _ _)) = record { first = sign p.LeftBrace opens; rest = ts ++ sign p.RightBrace closes ∷ []; shape = refl; begins = refl }
statement_starts (g.an_act ends ts all d) = act_starts d ends
statement_starts (g.an_if at opens closes ts ys _ _ _ _) = record { first = word (codes "if") at; rest = _; shape = refl; begins = refl }
statement_starts (g.an_if_else at opens closes other ts ys ns _ _ _ _ _ _ _) = record { first = word (codes "if") at; rest = _; shape = refl; begins = refl }
statement_starts (g.a_switch at opens closes ts us _ _ _ _) = record { first = word (codes "switch") at; rest = _; shape = refl; begins = refl }
statement_starts (g.a_case at colon ts us _ _ _ _) = record { first = word (codes "case") at; rest = _; shape = refl; begins = refl }
statement_starts (g.a_default at colon us _ _) = record { first = word (codes "default") at; rest = _; shape = refl; begins = refl }
statement_starts (g.a_while at opens closes ts us _ _ _ _) = record { first = word (codes "while") at; rest = _; shape = refl; begins = refl }
statement_starts (g.a_do at again opens closes ends us ts _ _ _ _) = record { first = word (codes "do") at; rest = _; shape = refl; begins = refl }
statement_starts (g.a_for at opens ends closes is ts ss us _ _ _ _ _ _ _ _) = record { first = word (codes "for") at; rest = _; shape = refl; begins = refl }
statement_starts (g.a_break at ends) = record { first = word (codes "break") at; rest = _; shape = refl; begins = refl }
statement_starts (g.a_continue at ends) = record { first = word (codes "continue") at; rest = _; shape = refl; begins = refl }
statement_starts (g.a_return at ends ts _ _) = record { first = word (codes "return") at; rest = _; shape = refl; begins = refl }

declaration_starts : {ts : List Terminal} {all : List ObjectTree} → DerivesDeclaration ts all → StartsKind ts
declaration_starts (g.a_declaration type constant ks ts objects ends c d) =
    let s = kind_starts c in
    record { first = s.first; rest = s.rest ++ (ts ++ sign p.Semicolon ends ∷ []); shape = ap (λ x. x ++ (ts ++ sign p.Semicolon ends ∷ [])) s.shape; begins = s.begins }

-- ---- the goals of a body

body_statement : (depth : ℕ) (goals : List Goal) (spot : Spot) (sort : Sort) (noted : List Noted) (F : List Goal → ℕ → List Noted → Option (List Noted)) → begins_statement sort ≡ true
    → going (next (G.Body depth ∷ goals) spot sort) noted F ≡ going (next (G.Statement depth ∷ G.Body depth ∷ goals) spot sort) noted F
body_statement depth goals spot o.LeftBrace noted F e = refl
body_statement depth goals spot o.Semicolon noted F e = refl
body_statement depth goals spot o.Case noted F e = refl
body_statement depth goals spot o.Default noted F e = refl
body_statement depth goals spot o.Break noted F e = refl
body_statement depth goals spot o.Continue noted F e = refl
body_statement depth goals spot o.Return noted F e = refl
body_statement depth goals spot o.If noted F e = refl
body_statement depth goals spot o.Switch noted F e = refl
body_statement depth goals spot o.While noted F e = refl
body_statement depth goals spot o.Do noted F e = refl
body_statement depth goals spot o.For noted F e = refl
body_statement depth goals spot o.Name noted F e = refl
body_statement depth goals spot o.Number noted F e = refl
body_statement depth goals spot o.LeftParen noted F e = refl
body_statement depth goals spot o.Prefix noted F e = refl
body_statement depth goals spot o.Sign noted F e = refl
body_statement depth goals spot o.Bump noted F e = refl
body_statement depth goals spot _ noted F e = absurd cc

body_kind : (spot : Spot) (depth : ℕ) (sort : Sort) → begins_kind sort ≡ true → body spot depth sort ≡ behind (G.Body depth ∷ []) (declaration spot depth sort)
body_kind spot depth (o.Specifier v) e = ap (λ b. behind (G.Body depth ∷ []) (if b then declaration spot depth (o.Specifier v) else statement spot depth (o.Specifier v))) e
body_kind spot depth o.TypeName e = refl
body_kind spot depth o.Const e = refl
body_kind spot depth _ e = absurd cc

first_kind : (spot : Spot) (depth : ℕ) (sort : Sort) → begins_kind sort ≡ true → first spot depth sort ≡ declaration spot depth sort
first_kind spot depth (o.Specifier v) e = ap (λ b. if b then declaration spot depth (o.Specifier v) else first_action spot depth (o.Specifier v)) e
first_kind spot depth o.TypeName e = refl
first_kind spot depth o.Const e = refl
first_kind spot depth _ e = absurd cc

body_declaration : (us : List Terminal) → StartsKind us → (depth : ℕ) (goals : List Goal) (count : ℕ) (noted : List Noted)
    → run us (G.Body depth ∷ goals) count noted ≡ run us (G.Kind depth ∷ G.Object depth ∷ G.MoreObjects depth ∷ G.Semicolon depth ∷ G.Body depth ∷ goals) count noted
body_declaration us s depth goals count noted =
    let spot = spot_at noted count in let sort = sort_of s.first.kind in
    ap (λ x. run x (G.Body depth ∷ goals) count noted) s.shape
    ∙ ap (λ x. going (taken_or x false goals (next goals spot sort)) noted (run s.rest)) (body_kind spot depth sort s.begins)
    ∙ ap (λ x. going x noted (run s.rest)) (taken_behind (declaration spot depth sort) (G.Body depth ∷ []) goals (next goals spot sort) (next goals spot sort))
    ∙ ap (λ x. going x noted (run s.rest)) (taken_behind (kind spot depth sort) (object_goals depth) (G.Body depth ∷ goals) (next goals spot sort)
    (next (G.Object depth ∷ G.MoreObjects depth ∷ G.Semicolon depth ∷ G.Body depth ∷ goals) spot sort))
    ∙ ap (λ x. run x (G.Kind depth ∷ G.Object depth ∷ G.MoreObjects depth ∷ G.Semicolon depth ∷ G.Body depth ∷ goals) count noted) (sym s.shape)

first_declaration : (us : List Terminal) → StartsKind us → (depth : ℕ) (goals : List Goal) (count : ℕ) (noted : List Noted)
    → run us (G.First depth ∷ goals) count noted ≡ run us (G.Kind depth ∷ G.Object depth ∷ G.MoreObjects depth ∷ G.Semicolon depth ∷ goals) count noted
first_declaration us s depth goals count noted =
    let spot = spot_at noted count in let sort = sort_of s.first.kind in
    ap (λ x. run x (G.First depth ∷ goals) count noted) s.shape
    ∙ ap (λ x. going (taken_or x false goals (next goals spot sort)) noted (run s.rest)) (first_kind spot depth sort s.begins)
    ∙ ap (λ x. going x noted (run s.rest)) (taken_behind (kind spot depth sort) (object_goals depth) goals (next goals spot sort)
    (next (G.Object depth ∷ G.MoreObjects depth ∷ G.Semicolon depth ∷ goals) spot sort))
    ∙ ap (λ x. run x (G.Kind depth ∷ G.Object depth ∷ G.MoreObjects depth ∷ G.Semicolon depth ∷ goals) count noted) (sym s.shape)

-- ---- actions that are a statement, or the first part of a `for`

statement_action : (depth : ℕ) (goals : List Goal) (spot : Spot) (sort : Sort) (noted : List Noted) (F : List Goal → ℕ → List Noted → Option (List Noted)) → begins_operand sort ≡ true
    → going (next (G.Statement depth ∷ goals) spot sort) noted F ≡ going (opened depth (next (G.Action (deeper depth) ∷ G.MoreActions (deeper depth) ∷ G.Semicolon (deeper depth) ∷ goals) (fresh spot) sort)) noted F
statement_action depth goals spot o.Name noted F e = refl
statement_action depth goals spot o.Number noted F e = refl
statement_action depth goals spot o.LeftParen noted F e = refl
statement_action depth goals spot o.Prefix noted F e = refl
statement_action depth goals spot o.Sign noted F e = refl
statement_action depth goals spot o.Bump noted F e = refl
statement_action depth goals spot _ noted F e = absurd cc

first_actions : (depth : ℕ) (goals : List Goal) (spot : Spot) (sort : Sort) (noted : List Noted) (F : List Goal → ℕ → List Noted → Option (List Noted)) → begins_operand sort ≡ true
    → going (next (G.First depth ∷ goals) spot sort) noted F ≡ going (next (G.Action depth ∷ G.MoreActions depth ∷ G.Semicolon depth ∷ goals) spot sort) noted F
first_actions depth goals spot o.Name noted F e = refl
first_actions depth goals spot o.Number noted F e = refl
first_actions depth goals spot o.LeftParen noted F e = refl
first_actions depth goals spot o.Prefix noted F e = refl
first_actions depth goals spot o.Sign noted F e = refl
first_actions depth goals spot o.Bump noted F e = refl
first_actions depth goals spot _ noted F e = absurd cc

act_marks : {ts : List Terminal} {all : List ActionTree} (d : DerivesActions ts all) → SomeMarks (actions_marks d ++ plain ∷ [])
act_marks g.no_action = from_plain []
act_marks (g.actions ts all d) = marks_more (action_list_marks d) (plain ∷ []) (action_list_some d)

act_pass : {ts : List Terminal} {all : List ActionTree} (d : DerivesActions ts all) (ends : Place) (depth count : ℕ) (goals : List Goal) (noted : List Noted) (us : List Terminal)
    → Passes ((ts ++ sign p.Semicolon ends ∷ []) ++ us) (G.Statement depth ∷ goals) count noted us goals (put_opened depth (deeper depth) (actions_marks d ++ plain ∷ []) noted)
act_pass g.no_action ends depth count goals noted us = at_once 0 refl
act_pass (g.actions ts all d) ends depth count goals noted us =
    let inner = deeper depth in let left = G.Semicolon inner ∷ goals in let s = action_list_starts d in let w = s.rest ++ sign p.Semicolon ends ∷ us in
    same_tokens (append_assoc ts (sign p.Semicolon ends ∷ []) us)
    (same_notes (via (then_acts (ap (λ x. run (x ++ sign p.Semicolon ends ∷ us) (G.Statement depth ∷ goals) count noted) s.shape
    ∙ statement_action depth goals (spot_at noted count) (sort_of s.first.kind) noted (run w) s.begins
    ∙ ap (λ x. run_opened depth (x ++ sign p.Semicolon ends ∷ us) (G.Action inner ∷ G.MoreActions inner ∷ left) 0 noted) (sym s.shape))
    (opened_actions_pass d depth inner left noted (sign p.Semicolon ends ∷ us) refl)) (λ c. at_once 0 refl))
    (sym (put_opened-append depth inner (action_list_marks d) (plain ∷ []) noted (action_list_some d))))

-- the first part of a `for`
first_run : {ts : List Terminal} {f : FirstTree} (d : DerivesFirst ts f) (depth : ℕ) (goals : List Goal) (noted : List Noted) (us : List Terminal)
    → run (ts ++ us) (G.First depth ∷ goals) 0 noted ≡ run us goals 0 (put depth (first_marks d) noted)
first_run (g.nothing_first ends) depth goals noted us = refl
first_run (g.actions_first ends ts all d) depth goals noted us =
    let left = G.Semicolon depth ∷ goals in let s = action_list_starts d in let w = s.rest ++ sign p.Semicolon ends ∷ us in let a = all_actions_pass d depth left noted (sign p.Semicolon ends ∷ us) refl in
    ap (λ x. run x (G.First depth ∷ goals) 0 noted) (append_assoc ts (sign p.Semicolon ends ∷ []) us)
    ∙ ap (λ x. run (x ++ sign p.Semicolon ends ∷ us) (G.First depth ∷ goals) 0 noted) s.shape
    ∙ first_actions depth goals (spot_at noted 0) (sort_of s.first.kind) noted (run w) s.begins
    ∙ ap (λ x. run (x ++ sign p.Semicolon ends ∷ us) (G.Action depth ∷ G.MoreActions depth ∷ left) 0 noted) (sym s.shape)
    ∙ a.same
    ∙ ap (λ x. run us goals 0 x) (sym (put-append depth (action_list_marks d) (plain ∷ []) noted))
first_run (g.objects_first ts all d) depth goals noted us =
    let s = declaration_starts d in
    first_declaration (ts ++ us) (record { first = s.first; rest = s.rest ++ us; shape = ap (λ x. x ++ us) s.shape; begins = s.begins }) depth goals 0 noted
    ∙ declaration_run d depth 0 goals noted us

-- ---- statements

statement_no_else : (sort : Sort) → begins_statement sort ≡ true → no_else sort ≡ true
statement_no_else o.Else e = absurd cc
statement_no_else _ e = refl

kind_no_else : (sort : Sort) → begins_kind sort ≡ true → no_else sort ≡ true
kind_no_else o.Else e = absurd cc
kind_no_else _ e = refl

body_no_else : {ts : List Terminal} {b : StmtTrees} → DerivesBody ts b → (closes : Place) (us : List Terminal) → at_first no_else (ts ++ sign p.RightBrace closes ∷ us) ≡ true
body_no_else g.nothing closes us = refl
body_no_else (g.a_statement ts vs stmt rest d ds) closes us =
    let s = statement_starts d in ap (λ x. at_first no_else ((x ++ vs) ++ sign p.RightBrace closes ∷ us)) s.shape ∙ statement_no_else (sort_of s.first.kind) s.begins
body_no_else (g.local_objects ts vs all rest d ds) closes us =
    let s = declaration_starts d in ap (λ x. at_first no_else ((x ++ vs) ++ sign p.RightBrace closes ∷ us)) s.shape ∙ kind_no_else (sort_of s.first.kind) s.begins

else_end : (depth : ℕ) (spot : Spot) (sort : Sort) → no_else sort ≡ true → step_of (G.Else depth) spot sort ≡ None
else_end depth spot o.Else e = absurd cc
else_end depth spot _ e = refl

-- no `else` follows that would be the statement's
abbrev Closed : StmtTree → List Terminal → Type 0
Closed stmt us = ends_open stmt ≡ true → at_first no_else us ≡ true

for_tokens : (is ts ss us vs : List Terminal) (ends closes : Place)
    → ((is ++ (ts ++ sign p.Semicolon ends ∷ ss)) ++ sign p.RightParen closes ∷ us) ++ vs ≡ is ++ (ts ++ sign p.Semicolon ends ∷ (ss ++ sign p.RightParen closes ∷ (us ++ vs)))
for_tokens is ts ss us vs ends closes =
    append_assoc (is ++ (ts ++ sign p.Semicolon ends ∷ ss)) (sign p.RightParen closes ∷ us) vs
    ∙ append_assoc is (ts ++ sign p.Semicolon ends ∷ ss) (sign p.RightParen closes ∷ (us ++ vs))
    ∙ ap (λ x. is ++ x) (append_assoc ts (sign p.Semicolon ends ∷ ss) (sign p.RightParen closes ∷ (us ++ vs)))

mutual
  pub statement_pass : {ts : List Terminal} {stmt : StmtTree} (d : DerivesStatement ts stmt) (depth count : ℕ) (goals : List Goal) (noted : List Noted) (us : List Terminal) → Closed stmt us
      → Passes (ts ++ us) (G.Statement depth ∷ goals) count noted us goals (put depth (statement_marks d) noted)
  statement_pass (g.a_block _ _ (g.braces opens closes ts b d)) depth count goals noted us end =
      let inner = deeper depth in
      same_notes (after_run (ap (λ x. run x (G.Body inner ∷ goals) 0 (opening depth ∷ noted)) (append_assoc ts (sign p.RightBrace closes ∷ []) us))
      (body_pass d inner 0 goals (opening depth ∷ noted) closes us))
      (sym (put-held-plain depth (body_marks d ++ plain ∷ []) noted))
  statement_pass (g.an_act ends ts all d) depth count goals noted us end =
      same_notes (act_pass d ends depth count goals noted us) (sym (put-held depth (actions_marks d ++ plain ∷ []) noted (act_marks d)))
  statement_pass (g.an_if at opens closes ts ys test b d e) depth count goals noted us end =
      let inner = deeper depth in let left = G.Statement inner ∷ G.Else inner ∷ goals in let front = opening depth ∷ noted in
      same_notes (after_run (ap (λ x. run (sign p.LeftParen opens ∷ x) (G.OpenParen inner ∷ G.Expression (deeper inner) ∷ G.CloseParen inner 0 ∷ left) 0 front) (append_assoc ts (sign p.RightParen closes ∷ ys) us))
      (via (test_pass d opens closes inner 0 left front (ys ++ us)) (λ c.
      via (statement_pass e inner c (G.Else inner ∷ goals) (put_at inner closing ∷ put (deeper inner) (whole (marks d)) (put_at inner plain ∷ front)) us (λ h. end refl)) (λ k.
      at_once k (skip no_else (G.Else inner) refl (else_end inner) us (end refl) goals k
      (put inner (statement_marks e) (put_at inner closing ∷ put (deeper inner) (whole (marks d)) (put_at inner plain ∷ front))))))))
      (sym (put-held-plain depth (pair (whole (marks d)) (statement_marks e)) noted ∙ put-pair inner (whole (marks d)) (statement_marks e) front))
  statement_pass (g.an_if_else at opens closes other ts ys ns test b second d e h f) depth count goals noted us end =
      let inner = deeper depth in let left = G.Statement inner ∷ G.Else inner ∷ goals in let front = opening depth ∷ noted in
      let tested = put_at inner closing ∷ put (deeper inner) (whole (marks d)) (put_at inner plain ∷ front) in
      same_notes (after_run (ap (λ x. run (sign p.LeftParen opens ∷ x) (G.OpenParen inner ∷ G.Expression (deeper inner) ∷ G.CloseParen inner 0 ∷ left) 0 front)
      (append_assoc ts (sign p.RightParen closes ∷ (ys ++ word (codes "else") other ∷ ns)) us ∙ ap (λ x. ts ++ sign p.RightParen closes ∷ x) (append_assoc ys (word (codes "else") other ∷ ns) us)))
      (via (test_pass d opens closes inner 0 left front (ys ++ word (codes "else") other ∷ (ns ++ us))) (λ c.
      via (statement_pass e inner c (G.Else inner ∷ goals) tested (word (codes "else") other ∷ (ns ++ us)) (λ k. absurd (let x : true ≡ false = sym k ∙ h in cc))) (λ k.
      after_run refl (statement_pass f inner k goals (put_at inner plain ∷ put inner (statement_marks e) tested) us end)))))
      (sym (put-held-plain depth (pair (whole (marks d)) (statement_marks e ++ plain ∷ statement_marks f)) noted ∙ put-pair inner (whole (marks d)) (statement_marks e ++ plain ∷ statement_marks f) front
      ∙ put-append inner (statement_marks e) (plain ∷ statement_marks f) tested))
  statement_pass (g.a_switch at opens closes ts _ test _ d (g.braces lb rb us' b e)) depth count goals noted us end =
      let inner = deeper depth in let left = G.Block inner ∷ goals in let front = opening depth ∷ noted in
      let tested = put_at inner closing ∷ put (deeper inner) (whole (marks d)) (put_at inner plain ∷ front) in
      same_notes (after_run (ap (λ x. run (sign p.LeftParen opens ∷ x) (G.OpenParen inner ∷ G.Expression (deeper inner) ∷ G.CloseParen inner 0 ∷ left) 0 front)
      (append_assoc ts (sign p.RightParen closes ∷ sign p.LeftBrace lb ∷ (us' ++ sign p.RightBrace rb ∷ [])) us))
      (via (test_pass d opens closes inner 0 left front (sign p.LeftBrace lb ∷ ((us' ++ sign p.RightBrace rb ∷ []) ++ us))) (λ c.
      after_run (ap (λ x. run x (G.Body (deeper inner) ∷ goals) c (opening inner ∷ tested)) (append_assoc us' (sign p.RightBrace rb ∷ []) us))
      (body_pass e (deeper inner) c goals (opening inner ∷ tested) rb us))))
      (sym (put-held-plain depth (pair (whole (marks d)) (held (plain ∷ (body_marks e ++ plain ∷ [])))) noted
      ∙ put-pair inner (whole (marks d)) (held (plain ∷ (body_marks e ++ plain ∷ []))) front ∙ put-held-plain inner (body_marks e ++ plain ∷ []) tested))
  statement_pass (g.a_case at colon ts us' value b d e) depth count goals noted us end =
      let inner = deeper depth in let left = G.LabelColon inner ∷ G.Statement inner ∷ goals in let front = opening depth ∷ noted in
      same_notes (after_run (ap (λ x. run x (G.Choice inner ∷ left) 0 front) (append_assoc ts (sign p.Colon colon ∷ us') us))
      (via (choice_pass d inner left front (sign p.Colon colon ∷ (us' ++ us)) refl) (λ c.
      after_run refl (statement_pass e inner 0 goals (put_at inner plain ∷ put inner (whole (marks d)) front) us end))))
      (sym (put-held-plain depth (whole (marks d) ++ plain ∷ statement_marks e) noted ∙ put-append inner (whole (marks d)) (plain ∷ statement_marks e) front))
  statement_pass (g.a_default at colon us' b e) depth count goals noted us end =
      let inner = deeper depth in
      same_notes (after_run refl (statement_pass e inner 0 goals (put_at inner plain ∷ opening depth ∷ noted) us end)) (sym (put-held-plain depth (plain ∷ statement_marks e) noted))
  statement_pass (g.a_while at opens closes ts us' test b d e) depth count goals noted us end =
      let inner = deeper depth in let left = G.Statement inner ∷ goals in let front = opening depth ∷ noted in
      same_notes (after_run (ap (λ x. run (sign p.LeftParen opens ∷ x) (G.OpenParen inner ∷ G.Expression (deeper inner) ∷ G.CloseParen inner 0 ∷ left) 0 front) (append_assoc ts (sign p.RightParen closes ∷ us') us))
      (via (test_pass d opens closes inner 0 left front (us' ++ us)) (λ c.
      statement_pass e inner c goals (put_at inner closing ∷ put (deeper inner) (whole (marks d)) (put_at inner plain ∷ front)) us end)))
      (sym (put-held-plain depth (pair (whole (marks d)) (statement_marks e)) noted ∙ put-pair inner (whole (marks d)) (statement_marks e) front))
  statement_pass (g.a_do at again opens closes ends us' ts b test d e) depth count goals noted us end =
      let inner = deeper depth in let front = opening depth ∷ noted in
      let rest = G.Again inner ∷ G.OpenParen inner ∷ G.Expression (deeper inner) ∷ G.CloseParen inner 0 ∷ G.Semicolon inner ∷ goals in
      let middle = put_at inner plain ∷ put inner (statement_marks d) front in
      let tail = word (codes "while") again ∷ sign p.LeftParen opens ∷ (ts ++ sign p.RightParen closes ∷ sign p.Semicolon ends ∷ us) in
      same_notes (after_run (ap (λ x. run x (G.Statement inner ∷ rest) 0 front)
      (append_assoc us' (word (codes "while") again ∷ sign p.LeftParen opens ∷ (ts ++ sign p.RightParen closes ∷ sign p.Semicolon ends ∷ [])) us
      ∙ ap (λ x. us' ++ word (codes "while") again ∷ sign p.LeftParen opens ∷ x) (append_assoc ts (sign p.RightParen closes ∷ sign p.Semicolon ends ∷ []) us)))
      (via (statement_pass d inner 0 rest front tail (λ k. refl)) (λ c.
      after_run refl (via (test_pass e opens closes inner 0 (G.Semicolon inner ∷ goals) middle (sign p.Semicolon ends ∷ us)) (λ k. at_once 0 refl)))))
      (sym (put-held-plain depth (statement_marks d ++ plain ∷ pair (whole (marks e)) (plain ∷ [])) noted
      ∙ put-append inner (statement_marks d) (plain ∷ pair (whole (marks e)) (plain ∷ [])) front ∙ put-pair inner (whole (marks e)) (plain ∷ []) middle))
  statement_pass (g.a_for at opens ends closes is ts ss us' init test step b di dt ds e) depth count goals noted us end =
      let inner = deeper depth in let deep = deeper inner in let front = opening depth ∷ noted in let opened = put_at inner plain ∷ front in
      let after_first = G.OptionalExpression deep ∷ G.Semicolon deep ∷ G.Actions deep ∷ G.CloseParen inner 0 ∷ G.Statement inner ∷ goals in
      let after_test = G.Semicolon deep ∷ G.Actions deep ∷ G.CloseParen inner 0 ∷ G.Statement inner ∷ goals in
      let behind_test = ss ++ sign p.RightParen closes ∷ (us' ++ us) in
      let one = put deep (first_marks di) opened in let two = put_at deep plain ∷ put deep (optional_marks dt) one in let three = put deep (actions_marks ds) two in
      let ms = first_marks di ++ (optional_marks dt ++ plain ∷ actions_marks ds) in
      same_notes (after_run (ap (λ x. run (sign p.LeftParen opens ∷ x) (G.OpenParen inner ∷ G.First deep ∷ after_first) 0 front) (for_tokens is ts ss us' us ends closes)
      ∙ first_run di deep after_first opened (ts ++ sign p.Semicolon ends ∷ behind_test))
      (via (optional_expression_pass dt deep after_test one (sign p.Semicolon ends ∷ behind_test) refl refl) (λ c.
      after_run refl (via (actions_pass ds deep (G.CloseParen inner 0 ∷ G.Statement inner ∷ goals) two (sign p.RightParen closes ∷ (us' ++ us)) refl refl) (λ k.
      after_run refl (statement_pass e inner 0 goals (put_at inner closing ∷ three) us end))))))
      (sym (put-held-plain depth (pair ms (statement_marks e)) noted ∙ put-pair inner ms (statement_marks e) front
      ∙ ap (λ x. put inner (statement_marks e) (put_at inner closing ∷ x)) (put-append deep (first_marks di) (optional_marks dt ++ plain ∷ actions_marks ds) opened ∙ put-append deep (optional_marks dt) (plain ∷ actions_marks ds) one)))
  statement_pass (g.a_break at ends) depth count goals noted us end = at_once 0 refl
  statement_pass (g.a_continue at ends) depth count goals noted us end = at_once 0 refl
  statement_pass (g.a_return at ends ts value d) depth count goals noted us end =
      let inner = deeper depth in let front = opening depth ∷ noted in
      same_notes (after_run (ap (λ x. run x (G.OptionalExpression inner ∷ G.Semicolon inner ∷ goals) 0 front) (append_assoc ts (sign p.Semicolon ends ∷ []) us))
      (via (optional_expression_pass d inner (G.Semicolon inner ∷ goals) front (sign p.Semicolon ends ∷ us) refl refl) (λ c. at_once 0 refl)))
      (sym (put-held-plain depth (optional_marks d ++ plain ∷ []) noted ∙ put-append inner (optional_marks d) (plain ∷ []) front))

  pub body_pass : {ts : List Terminal} {b : StmtTrees} (d : DerivesBody ts b) (depth count : ℕ) (goals : List Goal) (noted : List Noted) (closes : Place) (us : List Terminal)
      → Passes (ts ++ sign p.RightBrace closes ∷ us) (G.Body depth ∷ goals) count noted us goals (put depth (body_marks d ++ plain ∷ []) noted)
  body_pass g.nothing depth count goals noted closes us = at_once count refl
  body_pass (g.a_statement ts vs stmt rest d ds) depth count goals noted closes us =
      let s = statement_starts d in let w = vs ++ sign p.RightBrace closes ∷ us in
      same_tokens (append_assoc ts vs (sign p.RightBrace closes ∷ us))
      (same_notes (after_run (ap (λ x. run (x ++ w) (G.Body depth ∷ goals) count noted) s.shape
      ∙ body_statement depth goals (spot_at noted count) (sort_of s.first.kind) noted (run (s.rest ++ w)) s.begins
      ∙ ap (λ x. run (x ++ w) (G.Statement depth ∷ G.Body depth ∷ goals) count noted) (sym s.shape))
      (via (statement_pass d depth count (G.Body depth ∷ goals) noted w (λ h. body_no_else ds closes us)) (λ c. body_pass ds depth c goals (put depth (statement_marks d) noted) closes us)))
      (sym (ap (λ x. put depth x noted) (append_assoc (statement_marks d) (body_marks ds) (plain ∷ [])) ∙ put-append depth (statement_marks d) (body_marks ds ++ plain ∷ []) noted)))
  body_pass (g.local_objects ts vs all rest d ds) depth count goals noted closes us =
      let s = declaration_starts d in let w = vs ++ sign p.RightBrace closes ∷ us in
      same_tokens (append_assoc ts vs (sign p.RightBrace closes ∷ us))
      (same_notes (after_run (body_declaration (ts ++ w) (record { first = s.first; rest = s.rest ++ w; shape = ap (λ x. x ++ w) s.shape; begins = s.begins }) depth goals count noted
      ∙ declaration_run d depth count (G.Body depth ∷ goals) noted w)
      (body_pass ds depth 0 goals (put depth (declaration_marks d) noted) closes us))
      (sym (ap (λ x. put depth x noted) (append_assoc (declaration_marks d) (body_marks ds) (plain ∷ [])) ∙ put-append depth (declaration_marks d) (body_marks ds ++ plain ∷ []) noted)))
