-- What the parser finds of a statement, part by part.
use Rattle.std.proofs.Common.{◌≡◌, ◌∙◌, ℕ, sym, refl, ap, subst, true, false, List, [], ◌∷◌, ◌++◌, codes, Some, None, Result}
use Rattle.hls_base.specs.declared.place.Place.{Place}
use Rattle.c_token.specs.declared.punct.Punct.TheVariants as p
use Rattle.std.specs.Prelude.{bytes_eq, IfOk}
use Rattle.c_tree.specs.declared.statement.Stmt.{Stmt}
use Rattle.c_tree.specs.View.{stmt_of}
use Rattle.c_parser.specs.declared.cursor.stop.Stop.{Stop}
use Rattle.c_parser.specs.Cursor.Stops.{IfAbsent}
use Rattle.std.proofs.lemmas.Slice.Eq.{bytes_eq-Decides}
use Rattle.c_token.specs.declared.token.TokenKind.{TokenKind}
use Rattle.c_token.specs.declared.token.TokenKind.TheVariants as k
use Rattle.c_tree.specs.Tree as tree
use Rattle.c_tree.specs.Tree.{Tree, ActionTree, ObjectTree, StmtTree, FirstTree, stmt_row}
use Rattle.c_tree.specs.Terminals.{Terminal, sign, word}
use Rattle.c_tree.specs.Grammar.{DerivesFirst, ends_open}
use Rattle.c_tree.specs.Grammar as g
use Rattle.c_parser.specs.Cursor.Readings.{Found, Never, Anywhere, Sequence, Closed, Sign, Lacks, LacksWord, Listed, snd}
use Rattle.c_parser.specs.Cursor.Types.{starts_kind}
use Rattle.c_parser.specs.Objects.{OptionalExpression, ADeclaration, AnAction, ActionsUpTo}
use Rattle.c_parser.specs.Cursor.Keywords.{keyword_text, keyword_of, lead}
use Rattle.c_parser.specs.declared.cursor.keyword.Keyword.{Keyword}
use Rattle.c_parser.specs.Statements.{Statement, begins_else, ElseFits, Block, Local, ClosesBlock, BodyUpTo, First, Branches, DoTail, Ended, Returned, Behind}
use Rattle.c_parser.specs.Statements as s
use Rattle.c_parser.proofs.CursorLemmas.Readings.{signs, words, sign_no_word, Step, repeated_last}
use Rattle.c_parser.proofs.Declarations.{declaration_starts}
use Rattle.c_parser.proofs.Beginnings.{starts_expression, kind_no_expression}
use Rattle.c_parser.proofs.Actions.{ActionsForm, no_actions, some_actions, actions_form, listed_starts, list_of_listed, listed_of_opened}
use Rattle.c_parser.proofs.StatementForms.{StatementForm, by_keyword, is_block, is_act, statement_form, keyword_text_of, keyword_back, block_statement, act_statement, keyword_leads, keyword_of_keyword, act_no_word, brace_no_act, statement_no_kind, block_form, block_back}

-- ---- where anything may follow

pub found_any : {A : Type 0} {R : List Terminal → A → List Terminal → Type 0} {E : A → List Terminal → Type 0} (tokens rest : List Terminal) (a : A) → Found R Anywhere tokens a rest → Found R E tokens a rest
found_any tokens rest a q = record { reads = q.reads; only = λ others b end e r ends. q.only others b end e r tt }

pub never_any : {A : Type 0} {R : List Terminal → A → List Terminal → Type 0} {E : A → List Terminal → Type 0} (tokens : List Terminal) → Never R Anywhere tokens → Never R E tokens
never_any tokens q = record { none = λ others b end e r ends. q.none others b end e r tt }

-- ---- which statement

as_form : (others tokens rest : List Terminal) (stmt : StmtTree) → others ≡ tokens → Statement others stmt rest → StatementForm tokens stmt rest
as_form others tokens rest stmt same d = statement_form tokens rest stmt (subst (λ y. Statement y stmt rest) same d)

pub keyword_step : (text : List ℕ) (at : Place) (keyword : Keyword) (tokens behind : List Terminal) → tokens ≡ word text at ∷ behind → keyword_of text ≡ Some keyword → Step Statement ElseFits tokens (Behind keyword at) ElseFits behind (λ stmt. stmt)
keyword_step text at keyword tokens behind f e = record {
  into = λ others stmt end same d ends. (stmt, refl, go stmt end (as_form others tokens end stmt same d), ends);
  back = λ stmt end b. keyword_back keyword at tokens behind end stmt (f ∙ ap (λ y. word y at ∷ behind) text_is) b;
}
  where
    text_is : text ≡ keyword_text keyword
    text_is = keyword_text_of text keyword e

    go : (stmt : StmtTree) (end : List Terminal) → StatementForm tokens stmt end → Behind keyword at behind stmt end
    go stmt end (by_keyword other at' behind' h b) =
        let w = words (keyword_text other) text at' at behind' behind (sym h ∙ f) in
        let both : Some other ≡ Some keyword = sym (keyword_leads other) ∙ ap keyword_of w.0 ∙ e in
        let same : other ≡ keyword = cc in
        subst (λ y. Behind y at behind stmt end) same (subst (λ y. Behind other y behind stmt end) w.1 (subst (λ y. Behind other at' y stmt end) w.2 b))
    go stmt end (is_block at' inside body h l is) = sign_no_word p.LeftBrace text at' at inside behind (sym h ∙ f)
    go stmt end (is_act all c is) = act_no_word text at behind tokens end all f (keyword_of_keyword text keyword e) c

pub block_step : (tokens inside : List Terminal) (at : Place) → tokens ≡ sign p.LeftBrace at ∷ inside → Step Statement ElseFits tokens BodyUpTo Anywhere inside (λ body. tree.block (stmt_row body))
block_step tokens inside at f = record {
  into = λ others stmt end same d ends. go stmt end (as_form others tokens end stmt same d);
  back = λ body end l. block_statement tokens inside end at body f l;
}
  where
    go : (stmt : StmtTree) (end : List Terminal) → StatementForm tokens stmt end → (body : List StmtTree) × (stmt ≡ tree.block (stmt_row body)) × BodyUpTo inside body end × Unit {0}
    go stmt end (by_keyword other at' behind h b) = sign_no_word p.LeftBrace (keyword_text other) at at' inside behind (sym f ∙ h)
    go stmt end (is_block at' inside' body h l is) = let q = signs p.LeftBrace p.LeftBrace at' at inside' inside (sym h ∙ f) in (body, is, subst (λ y. BodyUpTo y body end) q.2 l, tt)
    go stmt end (is_act all c is) = brace_no_act at inside tokens end all f c

pub act_step : (tokens here : List Terminal) → here ≡ tokens → lead tokens ≡ None → Lacks p.LeftBrace tokens → Step Statement ElseFits tokens (ActionsUpTo p.Semicolon) Anywhere here tree.act
act_step tokens here same_here none lacks = record {
  into = λ others stmt end same d ends. go stmt end (as_form others tokens end stmt same d);
  back = λ all end c. act_statement tokens end all (subst (λ y. ActionsUpTo p.Semicolon y all end) same_here c);
}
  where
    go : (stmt : StmtTree) (end : List Terminal) → StatementForm tokens stmt end → (all : List ActionTree) × (stmt ≡ tree.act all) × ActionsUpTo p.Semicolon here all end × Unit {0}
    go stmt end (by_keyword other at behind h b) = absurd (let both : None ≡ Some other = sym none ∙ ap lead h ∙ keyword_leads other in cc)
    go stmt end (is_block at inside body h l is) = absurd (lacks at inside h)
    go stmt end (is_act all c is) = (all, is, subst (λ y. ActionsUpTo p.Semicolon y all end) (sym same_here) c, tt)

-- ---- blocks

abbrev pub BlockParts : List Terminal → List StmtTree → List Terminal → Type 0
BlockParts = Sequence (Sign p.LeftBrace) (λ at. BodyUpTo) snd

pub block_parts_step : (tokens : List Terminal) → Step Block Anywhere tokens BlockParts Anywhere tokens (λ body. body)
block_parts_step tokens = record {
  into = λ others body end same d ends.
      let b = block_form tokens end body (subst (λ y. Block y body end) same d) in
      (body, refl, record { first = b.at; second = body; middle = b.inside; begins = b.opens; goes_on = b.listed; whole = refl }, tt);
  back = λ body end q. subst (λ y. Block tokens y end) (sym q.whole) (block_back tokens q.middle end q.first q.second q.begins q.goes_on);
}

pub local_objects_step : (tokens : List Terminal) → starts_kind tokens ≡ true → Step Local ElseFits tokens ADeclaration Anywhere tokens tree.declare
local_objects_step tokens e = record {
  into = λ others stmt end same d ends. go stmt end (subst (λ y. Local y stmt end) same d);
  back = λ all end d. s.objects all d refl;
}
  where
    go : (stmt : StmtTree) (end : List Terminal) → Local tokens stmt end → (all : List ObjectTree) × (stmt ≡ tree.declare all) × ADeclaration tokens all end × Unit {0}
    go stmt end (s.a_statement d) = absurd (let both : false ≡ true = sym (statement_no_kind tokens end stmt d) ∙ e in cc)
    go stmt end (s.objects all d is) = (all, is, d, tt)

pub local_statement_step : (tokens : List Terminal) → starts_kind tokens ≡ false → Step Local ElseFits tokens Statement ElseFits tokens (λ stmt. stmt)
local_statement_step tokens e = record {
  into = λ others stmt end same d ends. (stmt, refl, go stmt end (subst (λ y. Local y stmt end) same d), ends);
  back = λ stmt end d. s.a_statement d;
}
  where
    go : (stmt : StmtTree) (end : List Terminal) → Local tokens stmt end → Statement tokens stmt end
    go stmt end (s.a_statement d) = d
    go stmt end (s.objects all d is) = absurd (let both : true ≡ false = sym (declaration_starts tokens end all d) ∙ e in cc)

brace_closes : (tokens rest : List Terminal) (at : Place) → tokens ≡ sign p.RightBrace at ∷ rest → (stmt : StmtTree) (end : List Terminal) → Local tokens stmt end → ⊥
brace_closes tokens rest at f stmt end (s.a_statement d) = go (statement_form tokens end stmt d)
  where
    act : (all : List ActionTree) → ActionsForm p.Semicolon tokens all end → ⊥
    act all (no_actions at' e i) = let h : p.RightBrace ≡ p.Semicolon = (signs p.RightBrace p.Semicolon at at' rest end (sym f ∙ e)).0 in cc
    act all (some_actions l) = let both : false ≡ true = ap starts_expression (sym f) ∙ listed_starts p.Semicolon l in cc

    go : StatementForm tokens stmt end → ⊥
    go (by_keyword other at' behind h b) = sign_no_word p.RightBrace (keyword_text other) at at' rest behind (sym f ∙ h)
    go (is_block at' inside body h l is) = let q : p.RightBrace ≡ p.LeftBrace = (signs p.RightBrace p.LeftBrace at at' rest inside (sym f ∙ h)).0 in cc
    go (is_act all c is) = act all (actions_form p.Semicolon tokens end all c)
brace_closes tokens rest at f stmt end (s.objects all d is) = let both : false ≡ true = ap starts_kind (sym f) ∙ declaration_starts tokens end all d in cc

pub body_end : (tokens rest : List Terminal) (at : Place) → tokens ≡ sign p.RightBrace at ∷ rest → Found BodyUpTo Anywhere tokens [] rest
body_end tokens rest at f = repeated_last tokens rest (at, f) (λ end c. (signs p.RightBrace p.RightBrace c.0 at end rest (sym c.1 ∙ f)).2) (λ stmt middle l. brace_closes tokens rest at f stmt middle l)

pub body_goes_on : (tokens here : List Terminal) → here ≡ tokens → Lacks p.RightBrace tokens → (end : List Terminal) → ClosesBlock here end → ⊥
body_goes_on tokens here is lacks end c = lacks c.0 end (sym is ∙ c.1)

-- ---- the branches of an `if`

module _ (test : Tree) (at : Place) (tokens middle : List Terminal) (body : StmtTree) (q : Found Statement ElseFits tokens body middle) where
  -- a branch without `else` is the whole statement's end
  alone : (b : StmtTree) (end : List Terminal) → (begins_else end ≡ true → true ≡ false) → Statement tokens b end → (end ≡ middle) × (b ≡ body)
  alone b end ends d = q.only tokens b end refl d (λ e. absurd (let both : true ≡ false = ends e in cc))

  else_into : (other : Place) (inside : List Terminal) {start : List Terminal} {stmt : StmtTree} {end : List Terminal} → start ≡ tokens → middle ≡ word (codes "else") other ∷ inside → ElseFits stmt end → Branches test at start stmt end → (second : StmtTree) × (stmt ≡ tree.if_ test body (tree.else_ other second) at) × Statement inside second end × ElseFits second end
  else_into other inside same m ends (s.one start b end d) =
      let o = alone b end ends (subst (λ y. Statement y b end) same d) in
      absurd (let both : true ≡ false = ends (ap begins_else (o.0 ∙ m)) in cc)
  else_into other inside same m ends (s.two start b mid other' inside' second end d e fits h) =
      let o = q.only tokens b mid refl (subst (λ y. Statement y b mid) same d) (λ x. fits) in
      let w = words (codes "else") (codes "else") other' other inside' inside (sym e ∙ o.0 ∙ m) in
      (second, ap (λ y. tree.if_ test y (tree.else_ other' second) at) o.1 ∙ ap (λ y. tree.if_ test body (tree.else_ y second) at) w.1, subst (λ y. Statement y second end) w.2 h, ends)

  one_only : {start : List Terminal} {stmt : StmtTree} {end : List Terminal} → start ≡ tokens → LacksWord (codes "else") middle → ElseFits stmt end → Branches test at start stmt end → (end ≡ middle) × (stmt ≡ tree.if_ test body tree.no_else at)
  one_only same lacks ends (s.one start b end d) = let o = alone b end ends (subst (λ y. Statement y b end) same d) in (o.0, ap (λ y. tree.if_ test y tree.no_else at) o.1)
  one_only same lacks ends (s.two start b mid other' inside' second end d e fits h) =
      let o = q.only tokens b mid refl (subst (λ y. Statement y b mid) same d) (λ x. fits) in absurd (lacks other' inside' (sym o.0 ∙ e))

pub else_step : (test : Tree) (at : Place) (tokens middle inside : List Terminal) (body : StmtTree) (other : Place) → Found Statement ElseFits tokens body middle → ElseFits body middle → middle ≡ word (codes "else") other ∷ inside → Step (Branches test at) ElseFits tokens Statement ElseFits inside (λ second. tree.if_ test body (tree.else_ other second) at)
else_step test at tokens middle inside body other q fits m = record {
  into = λ others stmt end same b ends. else_into test at tokens middle body q other inside same m ends b;
  back = λ second end d. s.two tokens body middle other inside second end q.reads m (fits (ap begins_else m)) d;
}

pub one_found : (test : Tree) (at : Place) (tokens middle new : List Terminal) (body whole : StmtTree) → whole ≡ tree.if_ test body tree.no_else at → new ≡ middle → LacksWord (codes "else") middle → Found Statement ElseFits tokens body middle → Found (Branches test at) ElseFits tokens whole new
one_found test at tokens middle new body whole is same lacks q = subst (λ y. Found (Branches test at) ElseFits tokens y new) (sym is) (subst (λ y. Found (Branches test at) ElseFits tokens (tree.if_ test body tree.no_else at) y) (sym same) (record {
  reads = s.one tokens body middle q.reads;
  only = λ others stmt end e b ends. one_only test at tokens middle body q e lacks ends b;
}))

no_branches : (test : Tree) (at : Place) (tokens : List Terminal) {start : List Terminal} {stmt : StmtTree} {end : List Terminal} → Never Statement ElseFits tokens → start ≡ tokens → ElseFits stmt end → Branches test at start stmt end → ⊥
no_branches test at tokens q same ends (s.one start b end d) = q.none start b end same d (λ e. absurd (let both : true ≡ false = ends e in cc))
no_branches test at tokens q same ends (s.two start b mid other' inside' second end d e fits h) = q.none start b mid same d (λ x. fits)

pub branches_never : (test : Tree) (at : Place) (tokens : List Terminal) → Never Statement ElseFits tokens → Never (Branches test at) ElseFits tokens
branches_never test at tokens q = record { none = λ others stmt end same b ends. no_branches test at tokens q same ends b }

else_word : (tokens : List Terminal) → LacksWord (codes "else") tokens → begins_else tokens ≡ true → ⊥
else_word [] lacks e = cc
else_word (t ∷ ts) lacks e = go t.kind refl
  where
    go : (kind : TokenKind) → t.kind ≡ kind → ⊥
    go (k.Word text) f =
        let b : bytes_eq text (codes "else") ≡ true = ap s.else_kind (sym f) ∙ e in
        lacks t.at ts (ap (λ x. record { kind = x; at = t.at } ∷ ts) (f ∙ ap k.Word ((bytes_eq-Decides text (codes "else")).0 b)))
    go (k.Number value kind) f = let both : false ≡ true = ap s.else_kind (sym f) ∙ e in cc
    go (k.Punct punct) f = let both : false ≡ true = ap s.else_kind (sym f) ∙ e in cc
    go (k.TypeWord kind) f = let both : false ≡ true = ap s.else_kind (sym f) ∙ e in cc

pub no_else_fits : (stmt : StmtTree) (new middle : List Terminal) → new ≡ middle → LacksWord (codes "else") middle → ElseFits stmt new
no_else_fits stmt new middle is lacks e = absurd (else_word middle lacks (ap begins_else (sym is) ∙ e))

-- ---- simple statements

pub ended_found : (whole stmt : StmtTree) (tokens rest : List Terminal) (ends : Place) → stmt ≡ whole → Found (Sign p.Semicolon) Anywhere tokens ends rest → Found (Ended whole) ElseFits tokens stmt rest
ended_found whole stmt tokens rest ends is q = record {
  reads = (ends, q.reads, is);
  only = λ others b end e r fits. let o = q.only others r.0 end e r.1 tt in (o.0, r.2 ∙ sym is);
}

pub ended_never : (whole : StmtTree) (tokens : List Terminal) → Never (Sign p.Semicolon) Anywhere tokens → Never (Ended whole) ElseFits tokens
ended_never whole tokens q = record { none = λ others b end e r fits. q.none others r.0 end e r.1 tt }

pub returned_step : (at : Place) (tokens : List Terminal) → Step (Returned at) ElseFits tokens (Closed (OptionalExpression 15) p.Semicolon) Anywhere tokens (λ value. tree.return_ value at)
returned_step at tokens = record {
  into = λ others stmt end same r ends. (r.0, r.2, subst (λ y. Closed (OptionalExpression 15) p.Semicolon y r.0 end) same r.1, tt);
  back = λ value end c. (value, c, refl);
}

-- what follows the body of a `do`
pub do_apart : (body : StmtTree) (test : Tree) (here end : List Terminal) → DoTail here test end → ElseFits body here
do_apart body test here end t e = absurd (let both : false ≡ true = ap begins_else (sym t.begins) ∙ e in cc)

-- ---- the first part of a `for`

data FirstForm (tokens : List Terminal) (first : FirstTree) (rest : List Terminal) : Type 0 where
  empty : (at : Place) → tokens ≡ sign p.Semicolon at ∷ rest → first ≡ tree.no_first → FirstForm tokens first rest
  acts : (all : List ActionTree) → Listed AnAction p.Semicolon tokens all rest → first ≡ tree.first (tree.act all) → FirstForm tokens first rest
  declares : (all : List ObjectTree) → ADeclaration tokens all rest → first ≡ tree.first (tree.declare all) → FirstForm tokens first rest

first_form : (tokens rest : List Terminal) (first : FirstTree) → First tokens first rest → FirstForm tokens first rest
first_form tokens rest first d = go d.split d.derives
  where
    go : {ts : List Terminal} {x : FirstTree} → tokens ≡ ts ++ rest → DerivesFirst ts x → FirstForm tokens x rest
    go f (g.nothing_first ends) = empty ends f refl
    go f (g.actions_first ends ts all a) = acts all (listed_of_opened p.Semicolon tokens rest all (record { ts = ts; at = ends; split = f; derives = a })) refl
    go f (g.objects_first ts all a) = declares all (record { taken = ts; split = f; derives = a }) refl

pub first_none : (tokens new : List Terminal) (at : Place) → tokens ≡ sign p.Semicolon at ∷ new → Found First Anywhere tokens tree.no_first new
first_none tokens new at f = record {
  reads = record { taken = sign p.Semicolon at ∷ []; split = f; derives = g.nothing_first at };
  only = λ others first end same d ends. go first end (first_form tokens end first (subst (λ y. First y first end) same d));
}
  where
    go : (first : FirstTree) (end : List Terminal) → FirstForm tokens first end → (end ≡ new) × (first ≡ tree.no_first)
    go first end (empty at' h is) = ((signs p.Semicolon p.Semicolon at' at end new (sym h ∙ f)).2, is)
    go first end (acts all l is) = absurd (let both : false ≡ true = ap starts_expression (sym f) ∙ listed_starts p.Semicolon l in cc)
    go first end (declares all d is) = absurd (let both : false ≡ true = ap starts_kind (sym f) ∙ declaration_starts tokens end all d in cc)

pub first_objects_step : (tokens here : List Terminal) → here ≡ tokens → starts_kind here ≡ true → Step First Anywhere tokens ADeclaration Anywhere here (λ all. tree.first (tree.declare all))
first_objects_step tokens here is e = record {
  into = λ others first end same d ends. go first end (first_form here end first (subst (λ y. First y first end) (same ∙ sym is) d));
  back = λ all end d. let d' = subst (λ y. ADeclaration y all end) is d in record { taken = d'.taken; split = d'.split; derives = g.objects_first d'.taken all d'.derives };
}
  where
    go : (first : FirstTree) (end : List Terminal) → FirstForm here first end → (all : List ObjectTree) × (first ≡ tree.first (tree.declare all)) × ADeclaration here all end × Unit {0}
    go first end (empty at h i) = absurd (let both : false ≡ true = ap starts_kind (sym h) ∙ e in cc)
    go first end (acts all l i) = absurd (kind_no_expression here e (listed_starts p.Semicolon l))
    go first end (declares all d i) = (all, i, d, tt)

pub first_actions_step : (tokens here : List Terminal) → here ≡ tokens → Lacks p.Semicolon tokens → starts_kind here ≡ false → Step First Anywhere tokens (Listed AnAction p.Semicolon) Anywhere here (λ all. tree.first (tree.act all))
first_actions_step tokens here is lacks e = record {
  into = λ others first end same d ends. go first end (first_form here end first (subst (λ y. First y first end) (same ∙ sym is) d));
  back = λ all end l. let o = list_of_listed p.Semicolon (subst (λ y. Listed AnAction p.Semicolon y all end) is l) in
      record { taken = o.ts ++ sign p.Semicolon o.at ∷ []; split = o.split; derives = g.actions_first o.at o.ts all o.derives };
}
  where
    go : (first : FirstTree) (end : List Terminal) → FirstForm here first end → (all : List ActionTree) × (first ≡ tree.first (tree.act all)) × Listed AnAction p.Semicolon here all end × Unit {0}
    go first end (empty at h i) = absurd (lacks at end (sym is ∙ h))
    go first end (acts all l i) = (all, i, l, tt)
    go first end (declares all d i) = absurd (let both : true ≡ false = sym (declaration_starts here end all d) ∙ e in cc)

-- at a keyword that is known
pub at_keyword_found : (keyword other : Keyword) (at : Place) (tokens rest : List Terminal) (result : Result Stmt Stop) → keyword ≡ other → IfOk result (λ stmt. Found (Behind other at) ElseFits tokens (stmt_of stmt) rest) → IfOk result (λ stmt. Found (Behind keyword at) ElseFits tokens (stmt_of stmt) rest)
at_keyword_found keyword other at tokens rest result is q = subst (λ y. IfOk result (λ stmt. Found (Behind y at) ElseFits tokens (stmt_of stmt) rest)) (sym is) q

pub at_keyword_absent : (keyword other : Keyword) (at : Place) (tokens : List Terminal) (result : Result Stmt Stop) → keyword ≡ other → IfAbsent result (Never (Behind other at) ElseFits tokens) → IfAbsent result (Never (Behind keyword at) ElseFits tokens)
at_keyword_absent keyword other at tokens result is q = subst (λ y. IfAbsent result (Never (Behind y at) ElseFits tokens)) (sym is) q
