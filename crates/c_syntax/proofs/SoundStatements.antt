-- A goal reads a token and what the goals read that it leaves: statements and items.
use Rattle.std.proofs.Common.{◌≡◌, ℕ, List, [], ◌∷◌, ◌++◌, codes, Some, None, refl, ap, sym, ◌∙◌, subst, append_assoc, append-nil}
use Rattle.hls_base.specs.declared.place.Place.{Place}
use Rattle.c_token.specs.declared.punct.Punct.TheVariants as p
use Rattle.c_tree.specs.Terminals.{Terminal, sign, word}
use Rattle.c_tree.specs.Tree as tree
use Rattle.c_tree.specs.Tree.{StmtTrees}
use Rattle.c_tree.specs.Grammar as g
use Rattle.c_tree.specs.Grammar.{unary_level, choice_level, assign_level, comma_level, DerivesBody}
use Rattle.c_syntax.specs.declared.steps.goal.Goal.{Goal}
use Rattle.c_syntax.specs.declared.steps.goal.Goal.TheVariants as G
use Rattle.c_syntax.specs.declared.steps.goal.Spot.{Spot}
use Rattle.c_syntax.specs.declared.sorts.sort.Sort.{Sort}
use Rattle.c_syntax.specs.Sorts.{begins_kind}
use Rattle.c_syntax.specs.Steps.{fresh, deeper, first_action, selection, iteration, inner_statement, statement, other_branch, block, statement_or_declaration, body, first, action, declaration}
use Rattle.c_syntax.proofs.Seen.{Seen}
use Rattle.c_syntax.proofs.Seen as seen
use Rattle.c_syntax.proofs.Attach.{Is, IsStatement, if_with_else}
use Rattle.c_syntax.proofs.Outlines.{IsAction}
use Rattle.c_syntax.proofs.Reading.{IsSign, the_sign, IsKeyword, the_keyword, IsElse, no_else, an_else, IsMoreBody, body_end, IsDeclaration, IsOptional, IsActionList, AreActions, IsBlock, IsFirst, ReadsAll}
use Rattle.c_syntax.proofs.Sound.{Sound, at_end, one, two, behind_sound, opened_sound, other_sound, either_sound, sound_action}
use Rattle.c_syntax.proofs.SoundTypes.{sound_declaration}

-- ---- actions with their semicolon

ended : (P : List Terminal → Type 0) → ((ends : Place) (ts : List Terminal) → IsActionList ts → P (ts ++ sign p.Semicolon ends ∷ [])) → (front : List Terminal) → IsAction front → {d e : ℕ} {ts : List Terminal}
    → ReadsAll (G.MoreActions d ∷ G.Semicolon e ∷ []) ts → P (front ++ ts)
ended P make front a r = two (λ x. P (front ++ x)) r (λ ms cs f c. subst P (append_assoc front ms cs) (put (front ++ ms) (f front a) (one c)))
  where
    put : (us : List Terminal) → IsActionList us → {cs : List Terminal} → IsSign p.Semicolon cs → P (us ++ cs)
    put us u (the_sign ends) = make ends us u

act : (ends : Place) (ts : List Terminal) → IsActionList ts → IsStatement (ts ++ sign p.Semicolon ends ∷ [])
act ends ts l = (tree.act l.0, g.an_act ends ts l.0 (g.actions ts l.0 l.1))

first_act : (ends : Place) (ts : List Terminal) → IsActionList ts → IsFirst (ts ++ sign p.Semicolon ends ∷ [])
first_act ends ts l = (tree.first (tree.act l.0), g.actions_first ends ts l.0 l.1)

sound_first_action : (P : List Terminal → Type 0) → ((ends : Place) (ts : List Terminal) → IsActionList ts → P (ts ++ sign p.Semicolon ends ∷ []))
    → (spot : Spot) (depth : ℕ) (sort : Sort) (t : Terminal) → Seen sort t → Sound P (first_action spot depth sort) t
sound_first_action P make spot depth sort t s =
    behind_sound IsAction P (G.MoreActions depth ∷ G.Semicolon depth ∷ []) (action spot depth sort) t (sound_action spot depth sort t s) (λ us vs i r. ended P make (t ∷ us) i r)

-- ---- an expression in parentheses

record Tested (next : Goal) (rest : List Goal) (vs : List Terminal) : Type 0 where
  opens : Place
  closes : Place
  inner : List Terminal
  left : List Terminal
  shape : vs ≡ sign p.LeftParen opens ∷ (inner ++ sign p.RightParen closes ∷ left)
  is : Is comma_level inner
  reads : ReadsAll (next ∷ rest) left

in_parentheses : (next : Goal) (rest : List Goal) {os : List Terminal} → IsSign p.LeftParen os → (es : List Terminal) → Is comma_level es → {cs : List Terminal} → IsSign p.RightParen cs
    → (vs : List Terminal) → ReadsAll (next ∷ rest) vs → Tested next rest (os ++ (es ++ (cs ++ vs)))
in_parentheses next rest (the_sign opens) es e (the_sign closes) vs r = record { opens = opens; closes = closes; inner = es; left = vs; shape = refl; is = e; reads = r }

tested : (next : Goal) (rest : List Goal) {d e f count : ℕ} {vs : List Terminal} → ReadsAll (G.OpenParen d ∷ G.Expression e ∷ G.CloseParen f count ∷ next ∷ rest) vs → Tested next rest vs
tested next rest r =
    two (Tested next rest) r (λ os x o y. two (λ z. Tested next rest (os ++ z)) y (λ es z e w. two (λ q. Tested next rest (os ++ (es ++ q))) w (λ cs q c v. in_parentheses next rest o es e c q v)))

-- ---- statements

if_read : (at opens closes : Place) (ts : List Terminal) → Is comma_level ts → (us : List Terminal) → IsStatement us → {vs : List Terminal} → IsElse vs
    → IsStatement (word (codes "if") at ∷ sign p.LeftParen opens ∷ (ts ++ sign p.RightParen closes ∷ (us ++ vs)))
if_read at opens closes ts e us u no_else =
    subst (λ x. IsStatement (word (codes "if") at ∷ sign p.LeftParen opens ∷ (ts ++ sign p.RightParen closes ∷ x))) (sym (append-nil us))
    (tree.if_ e.0 u.0 tree.no_else at, g.an_if at opens closes ts us e.0 u.0 e.1 u.1)
if_read at opens closes ts e us u (an_else other ns n) = if_with_else at opens closes other ts us ns e u n

sound_selection : (spot : Spot) (depth : ℕ) (sort : Sort) (t : Terminal) → Seen sort t → Sound IsStatement (selection spot depth sort) t
sound_selection spot depth _ _ (seen.if_ at) = λ ts r.
    let x = tested (G.Statement depth) (G.Else depth ∷ []) r in
    subst (λ y. IsStatement (word (codes "if") at ∷ y)) (sym x.shape)
    (two (λ y. IsStatement (word (codes "if") at ∷ sign p.LeftParen x.opens ∷ (x.inner ++ sign p.RightParen x.closes ∷ y))) x.reads (λ us vs u e. if_read at x.opens x.closes x.inner x.is us u (one e)))
sound_selection spot depth _ _ (seen.switch_ at) = λ ts r.
    let x = tested (G.Block depth) [] r in let b = one x.reads in
    subst (λ y. IsStatement (word (codes "switch") at ∷ y)) (sym x.shape)
    (tree.switch_ x.is.0 b.0 at, g.a_switch at x.opens x.closes x.inner x.left x.is.0 b.0 x.is.1 b.1)
sound_selection spot depth sort t s = sound_first_action IsStatement act spot depth sort t s

do_read : (at : Place) (us : List Terminal) → IsStatement us → {ks : List Terminal} → IsKeyword (codes "while") ks → (opens closes : Place) (ts : List Terminal) → Is comma_level ts
    → {cs : List Terminal} → IsSign p.Semicolon cs → IsStatement (word (codes "do") at ∷ (us ++ (ks ++ (sign p.LeftParen opens ∷ (ts ++ sign p.RightParen closes ∷ cs)))))
do_read at us u (the_keyword again) opens closes ts e (the_sign ends) = (tree.do_ u.0 e.0 at, g.a_do at again opens closes ends us ts u.0 e.0 u.1 e.1)

for_read : (at : Place) {os : List Terminal} → IsSign p.LeftParen os → (is : List Terminal) → IsFirst is → (ts : List Terminal) → IsOptional comma_level ts → {cs : List Terminal} → IsSign p.Semicolon cs
    → (ss : List Terminal) → AreActions ss → {ds : List Terminal} → IsSign p.RightParen ds → (us : List Terminal) → IsStatement us
    → IsStatement (word (codes "for") at ∷ (os ++ (is ++ (ts ++ (cs ++ (ss ++ (ds ++ us)))))))
for_read at (the_sign opens) is i ts e (the_sign ends) ss a (the_sign closes) us u =
    subst (λ x. IsStatement (word (codes "for") at ∷ sign p.LeftParen opens ∷ x))
    (append_assoc is (ts ++ sign p.Semicolon ends ∷ ss) (sign p.RightParen closes ∷ us) ∙ ap (λ x. is ++ x) (append_assoc ts (sign p.Semicolon ends ∷ ss) (sign p.RightParen closes ∷ us)))
    (tree.for_ i.0 e.0 a.0 u.0 at, g.a_for at opens ends closes is ts ss us i.0 e.0 a.0 u.0 i.1 e.1 a.1 u.1)

sound_iteration : (spot : Spot) (depth : ℕ) (sort : Sort) (t : Terminal) → Seen sort t → Sound IsStatement (iteration spot depth sort) t
sound_iteration spot depth _ _ (seen.while_ at) = λ ts r.
    let x = tested (G.Statement depth) [] r in let b = one x.reads in
    subst (λ y. IsStatement (word (codes "while") at ∷ y)) (sym x.shape)
    (tree.while_ x.is.0 b.0 at, g.a_while at x.opens x.closes x.inner x.left x.is.0 b.0 x.is.1 b.1)
sound_iteration spot depth _ _ (seen.do_ at) = λ ts r.
    two (λ x. IsStatement (word (codes "do") at ∷ x)) r (λ us vs u a. two (λ x. IsStatement (word (codes "do") at ∷ (us ++ x))) a (λ ks ws w y.
    let x = tested (G.Semicolon depth) [] y in
    subst (λ y. IsStatement (word (codes "do") at ∷ (us ++ (ks ++ y)))) (sym x.shape) (do_read at us u w x.opens x.closes x.inner x.is (one x.reads))))
sound_iteration spot depth _ _ (seen.for_ at) = λ ts r.
    two (λ x. IsStatement (word (codes "for") at ∷ x)) r (λ os x o a.
    two (λ x. IsStatement (word (codes "for") at ∷ (os ++ x))) a (λ is x i b.
    two (λ x. IsStatement (word (codes "for") at ∷ (os ++ (is ++ x)))) b (λ es x e c.
    two (λ x. IsStatement (word (codes "for") at ∷ (os ++ (is ++ (es ++ x))))) c (λ cs x k d.
    two (λ x. IsStatement (word (codes "for") at ∷ (os ++ (is ++ (es ++ (cs ++ x)))))) d (λ ss x m e'.
    two (λ x. IsStatement (word (codes "for") at ∷ (os ++ (is ++ (es ++ (cs ++ (ss ++ x))))))) e' (λ ds us n f. for_read at o is i es e k ss m n us (one f)))))))
sound_iteration spot depth sort t s = sound_selection spot depth sort t s

case_read : (at : Place) (ts : List Terminal) → Is choice_level ts → {cs : List Terminal} → IsSign p.Colon cs → (us : List Terminal) → IsStatement us → IsStatement (word (codes "case") at ∷ (ts ++ (cs ++ us)))
case_read at ts e (the_sign colon) us u = (tree.case_ (Some e.0) u.0 at, g.a_case at colon ts us e.0 u.0 e.1 u.1)

default_read : (at : Place) {cs : List Terminal} → IsSign p.Colon cs → (us : List Terminal) → IsStatement us → IsStatement (word (codes "default") at ∷ (cs ++ us))
default_read at (the_sign colon) us u = (tree.case_ None u.0 at, g.a_default at colon us u.0 u.1)

break_read : (at : Place) {cs : List Terminal} → IsSign p.Semicolon cs → IsStatement (word (codes "break") at ∷ cs)
break_read at (the_sign ends) = (tree.break_ at, g.a_break at ends)

continue_read : (at : Place) {cs : List Terminal} → IsSign p.Semicolon cs → IsStatement (word (codes "continue") at ∷ cs)
continue_read at (the_sign ends) = (tree.continue_ at, g.a_continue at ends)

return_read : (at : Place) (ts : List Terminal) → IsOptional comma_level ts → {cs : List Terminal} → IsSign p.Semicolon cs → IsStatement (word (codes "return") at ∷ (ts ++ cs))
return_read at ts e (the_sign ends) = (tree.return_ e.0 at, g.a_return at ends ts e.0 e.1)

pub block_read : (at : Place) {ts : List Terminal} → IsMoreBody ts → IsBlock (sign p.LeftBrace at ∷ ts)
block_read at (body_end ts body closes d) = (body, g.braces at closes ts body d)

sound_inner_statement : (spot : Spot) (depth : ℕ) (sort : Sort) (t : Terminal) → Seen sort t → Sound IsStatement (inner_statement spot depth sort) t
sound_inner_statement spot depth _ _ (seen.left_brace at) = λ ts r. let b = block_read at (one r) in (tree.block b.0, g.a_block (sign p.LeftBrace at ∷ ts) b.0 b.1)
sound_inner_statement spot depth _ _ (seen.semicolon at) = λ ts r. at_end (λ x. IsStatement (sign p.Semicolon at ∷ x)) r (tree.act [], g.an_act at [] [] g.no_action)
sound_inner_statement spot depth _ _ (seen.case_ at) = λ ts r.
    two (λ x. IsStatement (word (codes "case") at ∷ x)) r (λ es x e a. two (λ x. IsStatement (word (codes "case") at ∷ (es ++ x))) a (λ cs us c u. case_read at es e c us (one u)))
sound_inner_statement spot depth _ _ (seen.default_ at) = λ ts r. two (λ x. IsStatement (word (codes "default") at ∷ x)) r (λ cs us c u. default_read at c us (one u))
sound_inner_statement spot depth _ _ (seen.break_ at) = λ ts r. break_read at (one r)
sound_inner_statement spot depth _ _ (seen.continue_ at) = λ ts r. continue_read at (one r)
sound_inner_statement spot depth _ _ (seen.return_ at) = λ ts r. two (λ x. IsStatement (word (codes "return") at ∷ x)) r (λ es cs e c. return_read at es e (one c))
sound_inner_statement spot depth sort t s = sound_iteration spot depth sort t s

pub sound_statement : (spot : Spot) (depth : ℕ) (sort : Sort) (t : Terminal) → Seen sort t → Sound IsStatement (statement spot depth sort) t
sound_statement spot depth sort t s =
    opened_sound IsStatement depth (inner_statement (fresh spot) (deeper depth) sort) t (sound_inner_statement (fresh spot) (deeper depth) sort t s)

pub sound_other_branch : (spot : Spot) (depth : ℕ) (sort : Sort) (t : Terminal) → Seen sort t → Sound IsElse (other_branch spot depth sort) t
sound_other_branch spot depth _ _ (seen.else_ at) = λ ts r. an_else at ts (one r)
sound_other_branch spot depth _ _ _ = tt

pub sound_block : (spot : Spot) (depth : ℕ) (sort : Sort) (t : Terminal) → Seen sort t → Sound IsBlock (block spot depth sort) t
sound_block spot depth _ _ (seen.left_brace at) = λ ts r. block_read at (one r)
sound_block spot depth _ _ _ = tt

-- what stands before the rest of a body

abbrev BeforeBody : List Terminal → Type 0
BeforeBody ts = (us : List Terminal) → IsMoreBody us → IsMoreBody (ts ++ us)

statement_before : (ts : List Terminal) → IsStatement ts → BeforeBody ts
statement_before ts s _ (body_end us body at d) =
    subst IsMoreBody (append_assoc ts us (sign p.RightBrace at ∷ [])) (body_end (ts ++ us) (tree.more_stmts s.0 body) at (g.a_statement ts us s.0 body s.1 d))

declaration_before : (ts : List Terminal) → IsDeclaration ts → BeforeBody ts
declaration_before ts s _ (body_end us body at d) =
    subst IsMoreBody (append_assoc ts us (sign p.RightBrace at ∷ [])) (body_end (ts ++ us) (tree.more_stmts (tree.declare s.0) body) at (g.local_objects ts us s.0 body s.1 d))

sound_entry : (spot : Spot) (depth : ℕ) (sort : Sort) (t : Terminal) → Seen sort t → Sound BeforeBody (statement_or_declaration spot depth sort) t
sound_entry spot depth sort t s =
    either_sound BeforeBody (begins_kind sort) (declaration spot depth sort) (statement spot depth sort) t
    (other_sound IsDeclaration BeforeBody (declaration spot depth sort) t (sound_declaration spot depth sort t s) (λ us d. declaration_before (t ∷ us) d))
    (other_sound IsStatement BeforeBody (statement spot depth sort) t (sound_statement spot depth sort t s) (λ us d. statement_before (t ∷ us) d))

pub sound_body : (spot : Spot) (depth : ℕ) (sort : Sort) (t : Terminal) → Seen sort t → Sound IsMoreBody (body spot depth sort) t
sound_body spot depth _ _ (seen.right_brace at) = λ ts r. at_end (λ x. IsMoreBody (sign p.RightBrace at ∷ x)) r (body_end [] tree.no_stmt at g.nothing)
sound_body spot depth sort t s =
    behind_sound BeforeBody IsMoreBody (G.Body depth ∷ []) (statement_or_declaration spot depth sort) t (sound_entry spot depth sort t s) (λ us vs f r. f vs (one r))

pub sound_first : (spot : Spot) (depth : ℕ) (sort : Sort) (t : Terminal) → Seen sort t → Sound IsFirst (first spot depth sort) t
sound_first spot depth _ _ (seen.semicolon at) = λ ts r. at_end (λ x. IsFirst (sign p.Semicolon at ∷ x)) r (tree.no_first, g.nothing_first at)
sound_first spot depth sort t s =
    either_sound IsFirst (begins_kind sort) (declaration spot depth sort) (first_action spot depth sort) t
    (other_sound IsDeclaration IsFirst (declaration spot depth sort) t (sound_declaration spot depth sort t s) (λ us d. (tree.first (tree.declare d.0), g.objects_first (t ∷ us) d.0 d.1)))
    (sound_first_action IsFirst first_act spot depth sort t s)
