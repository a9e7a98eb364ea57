-- The printed tokens of a statement are this statement: each production.
use Rattle.std.proofs.Common.{◌≡◌, ℕ, ◌∙◌, sym, refl, ap, Bool, true, false, List, [], ◌∷◌, ◌++◌, map, codes, Option, Some, None, append_assoc}
use Rattle.std.specs.Option.{option_map}
use Rattle.std.proofs.lemmas.List.{append-nil}
use Rattle.hls_base.specs.declared.place.Place.{Place}
use Rattle.c_token.specs.Characters.{is_letter, is_digit}
use Rattle.c_token.specs.declared.punct.Punct.TheVariants as p
use Rattle.c_token.specs.declared.token.TokenKind.{TokenKind}
use Rattle.c_token.specs.declared.token.TokenKind.TheVariants as k
use Rattle.c_tree.specs.declared.print.row.Written.TheVariants as w
use Rattle.c_tree.specs.Tree as tree
use Rattle.c_tree.specs.Tree.{Tree, ActionTree, ObjectTree, StmtTree, ElseTree, FirstTree, StmtTrees}
use Rattle.c_tree.specs.Terminals.{Terminal, sign, word}
use Rattle.c_tree.specs.Grammar as g
use Rattle.c_tree.specs.Grammar.{Derives, DerivesOptional, DerivesActionList, DerivesActions, DerivesDeclaration, DerivesStatement, DerivesFirst, DerivesBlock, DerivesBody, ends_open, choice_level, comma_level}
use Rattle.c_tree.specs.Places.{nowhere, unplaced, unplaced_action, unplaced_object, unplaced_stmt, unplaced_first, unplaced_stmts}
use Rattle.c_tree.specs.Rows as rows
use Rattle.c_tree.specs.Rows.{Row, expression_row}
use Rattle.c_tree.specs.StatementRows.{actions_row, declaration_row, deeper, is_block, is_tight, gap, depth_in, line_of, head_row, spaced_optional, spaced_actions, stmt_row, first_row, body_row, block_row}
use Rattle.c_tree.proofs.Matching.{Matches, Spelled}
use Rattle.c_tree.proofs.Again.{split, last_token, spelled_both, Again, Printed}
use Rattle.c_tree.proofs.Words.{word_spelled}
use Rattle.c_tree.proofs.Productions.{At, at_tokens}
use Rattle.c_tree.proofs.Actions.{ActionList, Actions}
use Rattle.c_tree.proofs.Objects.{Optional, Declaration}
use Rattle.c_tree.proofs.Branches.{ends_open_alone}

-- at each depth
abbrev pub Stmt : StmtTree → Type 0
Stmt stmt = (depth : ℕ) → Printed DerivesStatement unplaced_stmt stmt (stmt_row stmt depth)

abbrev pub Block : StmtTrees → Type 0
Block body = (depth : ℕ) → Printed DerivesBlock unplaced_stmts body (block_row body depth)

abbrev pub Body : StmtTrees → Type 0
Body body = (depth : ℕ) → Printed DerivesBody unplaced_stmts body (body_row body depth)

abbrev pub First : FirstTree → Type 0
First init = Printed DerivesFirst unplaced_first init (first_row init)

-- ---- parts

-- white space has no tokens
without_gap : (tight : Bool) (depth : ℕ) (row : Row) (ts : List Terminal) → Matches ts (gap tight depth ∷ row) → Matches ts row
without_gap true depth row ts m = m
without_gap false depth row ts m = m

spelled_gap : (tight : Bool) (depth : ℕ) (row : Row) → Spelled row → Spelled (gap tight depth ∷ row)
spelled_gap true depth row s = s
spelled_gap false depth row s = s

-- a controlling expression, and what stands behind it
record Headed (test : Tree) (others : Row) (ts : List Terminal) : Type 0 where
  opens : Place
  closes : Place
  inner : List Terminal
  rest : List Terminal
  is : ts ≡ sign p.LeftParen opens ∷ (inner ++ sign p.RightParen closes ∷ rest)
  value : Again (Derives comma_level) unplaced test inner
  second : Matches rest others

headed : (test : Tree) (others : Row) → At comma_level test → (ts : List Terminal) → Matches ts (head_row test ++ others) → Headed test others ts
headed test others a ts m =
    let c = split (head_row test) others ts m in
    let h = c.first in
    let e = split (expression_row comma_level test) (rows.sign p.RightParen ∷ []) h.1 h.3 in
    record {
      opens = h.0;
      closes = e.second.0;
      inner = e.before;
      rest = c.behind;
      is = c.is
          ∙ ap (λ us. us ++ c.behind) (h.2 ∙ ap (λ us. sign p.LeftParen h.0 ∷ us) (e.is ∙ ap (λ us. e.before ++ us) (last_token (k.Punct p.RightParen) e.behind e.second)))
          ∙ ap (λ us. sign p.LeftParen h.0 ∷ us) (append_assoc e.before (sign p.RightParen e.second.0 ∷ []) c.behind);
      value = a.again e.before e.first;
      second = c.second;
    }

head_spelled : (test : Tree) (others : Row) → At comma_level test → Spelled others → Spelled (head_row test ++ others)
head_spelled test others a s =
    spelled_both (head_row test) others (refl, spelled_both (expression_row comma_level test) (rows.sign p.RightParen ∷ []) a.spelled (refl, tt)) s

abbrev pub SpacedOptional : Option Tree → Type 0
SpacedOptional e = Printed (DerivesOptional comma_level) (option_map unplaced) e (spaced_optional e)

pub spaced : (e : Option Tree) → Optional comma_level e → SpacedOptional e
spaced None a = record { again = a.again; spelled = a.spelled }
spaced (Some e) a = record { again = a.again; spelled = a.spelled }

spaced_step : (all : List ActionTree) → Actions all → Printed DerivesActions (map unplaced_action) all (spaced_actions all)
spaced_step [] a = record { again = a.again; spelled = a.spelled }
spaced_step (action ∷ actions) a = record { again = a.again; spelled = a.spelled }

-- a row and a sign behind it
record Ended (sign_kind : TokenKind) (row : Row) (ts : List Terminal) : Type 0 where
  before : List Terminal
  ends : Place
  is : ts ≡ before ++ record { kind = sign_kind; at = ends } ∷ []
  first : Matches before row

ended : (kind : TokenKind) (row : Row) (ts : List Terminal) → Matches ts (row ++ w.Token kind ∷ []) → Ended kind row ts
ended kind row ts m =
    let c = split row (w.Token kind ∷ []) ts m in
    record { before = c.before; ends = c.second.0; is = c.is ∙ ap (λ us. c.before ++ us) (last_token kind c.behind c.second); first = c.first }

ended_spelled : (row : Row) → Spelled row → Spelled (row ++ rows.sign p.Semicolon ∷ [])
ended_spelled row s = spelled_both row (rows.sign p.Semicolon ∷ []) s (refl, tt)

-- ---- statements

pub printed_block : (body : StmtTrees) → Block body → Stmt (tree.block body)
printed_block body a depth = record {
  again = λ ts m. let x = (a depth).again ts m in record { found = tree.block x.found; derived = g.a_block ts x.found x.derived; same = ap tree.block x.same };
  spelled = (a depth).spelled;
}

pub printed_act : (all : List ActionTree) → Actions all → Stmt (tree.act all)
printed_act all a depth = record {
  again = λ ts m.
      let c = ended (k.Punct p.Semicolon) (actions_row all) ts m in
      let x = a.again c.before c.first in
      at_tokens ts (c.before ++ sign p.Semicolon c.ends ∷ []) c.is
      (record { found = tree.act x.found; derived = g.an_act c.ends c.before x.found x.derived; same = ap tree.act x.same });
  spelled = ended_spelled (actions_row all) a.spelled;
}

pub printed_if : (test : Tree) (body : StmtTree) (at : Place) → At comma_level test → Stmt body → Stmt (tree.if_ test body tree.no_else at)
unfolding is_letter is_digit
printed_if test body at a b depth =
    let inner = depth_in (is_block body) depth in
    let others = stmt_row body inner ++ [] in
    let line = gap (is_block body) (deeper depth) in
    record {
      again = λ ts m.
          let h = headed test (line ∷ others) a m.1 m.3 in
          let c = split (stmt_row body inner) [] h.rest (without_gap (is_block body) (deeper depth) others h.rest h.second) in
          let x = h.value in
          let y = (b inner).again c.before c.first in
          at_tokens ts (word (codes "if") m.0 ∷ sign p.LeftParen h.opens ∷ (h.inner ++ sign p.RightParen h.closes ∷ c.before))
          (m.2
          ∙ ap (λ us. word (codes "if") m.0 ∷ us)
          (h.is ∙ ap (λ us. sign p.LeftParen h.opens ∷ (h.inner ++ sign p.RightParen h.closes ∷ us)) (c.is ∙ ap (λ us. c.before ++ us) c.second ∙ append-nil c.before)))
          (record {
            found = tree.if_ x.found y.found tree.no_else m.0;
            derived = g.an_if m.0 h.opens h.closes h.inner c.before x.found y.found x.derived y.derived;
            same = ap (λ z. tree.if_ z (unplaced_stmt y.found) tree.no_else nowhere) x.same ∙ ap (λ z. tree.if_ (unplaced test) z tree.no_else nowhere) y.same;
          });
      spelled = (
        word_spelled (codes "if") refl,
        head_spelled test (line ∷ others) a (spelled_gap (is_block body) (deeper depth) others (spelled_both (stmt_row body inner) [] (b inner).spelled tt)),
      );
    }

pub printed_if_else : (test : Tree) (body second : StmtTree) (at other : Place) → At comma_level test → Stmt body → ends_open body ≡ false → Stmt second
    → Stmt (tree.if_ test body (tree.else_ other second) at)
unfolding is_letter is_digit
printed_if_else test body second at other a b closed d depth =
    let inner = depth_in (is_block body) depth in
    let outer = depth_in (is_tight second) depth in
    let last = stmt_row second outer in
    let third = rows.word (codes "else") ∷ gap (is_tight second) (deeper depth) ∷ last in
    let behind = gap (is_block body) depth ∷ third in
    let others = stmt_row body inner ++ behind in
    let line = gap (is_block body) (deeper depth) in
    record {
      again = λ ts m.
          let h = headed test (line ∷ others) a m.1 m.3 in
          let c = split (stmt_row body inner) behind h.rest (without_gap (is_block body) (deeper depth) others h.rest h.second) in
          let e = without_gap (is_block body) depth third c.behind c.second in
          let x = h.value in
          let y = (b inner).again c.before c.first in
          let z = (d outer).again e.1 (without_gap (is_tight second) (deeper depth) last e.1 e.3) in
          at_tokens ts (word (codes "if") m.0 ∷ sign p.LeftParen h.opens ∷ (h.inner ++ sign p.RightParen h.closes ∷ (c.before ++ word (codes "else") e.0 ∷ e.1)))
          (m.2
          ∙ ap (λ us. word (codes "if") m.0 ∷ us)
          (h.is ∙ ap (λ us. sign p.LeftParen h.opens ∷ (h.inner ++ sign p.RightParen h.closes ∷ us)) (c.is ∙ ap (λ us. c.before ++ us) e.2)))
          (record {
            found = tree.if_ x.found y.found (tree.else_ e.0 z.found) m.0;
            derived = g.an_if_else m.0 h.opens h.closes e.0 h.inner c.before e.1 x.found y.found z.found x.derived y.derived
                (sym (ends_open_alone y.found) ∙ ap ends_open y.same ∙ ends_open_alone body ∙ closed) z.derived;
            same = ap (λ v. tree.if_ v (unplaced_stmt y.found) (tree.else_ nowhere (unplaced_stmt z.found)) nowhere) x.same
                ∙ ap (λ v. tree.if_ (unplaced test) v (tree.else_ nowhere (unplaced_stmt z.found)) nowhere) y.same
                ∙ ap (λ v. tree.if_ (unplaced test) (unplaced_stmt body) (tree.else_ nowhere v) nowhere) z.same;
          });
      spelled = (
        word_spelled (codes "if") refl,
        head_spelled test (line ∷ others) a
            (spelled_gap (is_block body) (deeper depth) others
            (spelled_both (stmt_row body inner) behind (b inner).spelled
            (spelled_gap (is_block body) depth third (word_spelled (codes "else") refl, spelled_gap (is_tight second) (deeper depth) last (d outer).spelled)))),
      );
    }

pub printed_switch : (test : Tree) (body : StmtTrees) (at : Place) → At comma_level test → Block body → Stmt (tree.switch_ test body at)
unfolding is_letter is_digit
printed_switch test body at a b depth =
    let others = w.Space ∷ block_row body depth in
    record {
      again = λ ts m.
          let h = headed test others a m.1 m.3 in
          let x = h.value in
          let y = (b depth).again h.rest h.second in
          at_tokens ts (word (codes "switch") m.0 ∷ sign p.LeftParen h.opens ∷ (h.inner ++ sign p.RightParen h.closes ∷ h.rest))
          (m.2 ∙ ap (λ us. word (codes "switch") m.0 ∷ us) h.is)
          (record {
            found = tree.switch_ x.found y.found m.0;
            derived = g.a_switch m.0 h.opens h.closes h.inner h.rest x.found y.found x.derived y.derived;
            same = ap (λ z. tree.switch_ z (unplaced_stmts y.found) nowhere) x.same ∙ ap (λ z. tree.switch_ (unplaced test) z nowhere) y.same;
          });
      spelled = (word_spelled (codes "switch") refl, head_spelled test others a (b depth).spelled);
    }

pub printed_case : (value : Tree) (body : StmtTree) (at : Place) → At choice_level value → Stmt body → Stmt (tree.case_ (Some value) body at)
unfolding is_letter is_digit
printed_case value body at a b depth =
    let front = expression_row choice_level value ++ rows.sign p.Colon ∷ [] in
    record {
      again = λ ts m.
          let c = split front (line_of depth body ∷ stmt_row body depth) m.1 m.3 in
          let e = ended (k.Punct p.Colon) (expression_row choice_level value) c.before c.first in
          let x = a.again e.before e.first in
          let y = (b depth).again c.behind c.second in
          at_tokens ts (word (codes "case") m.0 ∷ (e.before ++ sign p.Colon e.ends ∷ c.behind))
          (m.2 ∙ ap (λ us. word (codes "case") m.0 ∷ us) (c.is ∙ ap (λ us. us ++ c.behind) e.is ∙ append_assoc e.before (sign p.Colon e.ends ∷ []) c.behind))
          (record {
            found = tree.case_ (Some x.found) y.found m.0;
            derived = g.a_case m.0 e.ends e.before c.behind x.found y.found x.derived y.derived;
            same = ap (λ z. tree.case_ (Some z) (unplaced_stmt y.found) nowhere) x.same ∙ ap (λ z. tree.case_ (Some (unplaced value)) z nowhere) y.same;
          });
      spelled = (
        word_spelled (codes "case") refl,
        spelled_both front (line_of depth body ∷ stmt_row body depth) (spelled_both (expression_row choice_level value) (rows.sign p.Colon ∷ []) a.spelled (refl, tt)) (b depth).spelled,
      );
    }

pub printed_default : (body : StmtTree) (at : Place) → Stmt body → Stmt (tree.case_ None body at)
unfolding is_letter is_digit
printed_default body at b depth = record {
  again = λ ts m.
      let c = m.3 in
      let y = (b depth).again c.1 c.3 in
      at_tokens ts (word (codes "default") m.0 ∷ sign p.Colon c.0 ∷ c.1) (m.2 ∙ ap (λ us. word (codes "default") m.0 ∷ us) c.2)
      (record { found = tree.case_ None y.found m.0; derived = g.a_default m.0 c.0 c.1 y.found y.derived; same = ap (λ z. tree.case_ None z nowhere) y.same });
  spelled = (word_spelled (codes "default") refl, (refl, (b depth).spelled));
}

pub printed_while : (test : Tree) (body : StmtTree) (at : Place) → At comma_level test → Stmt body → Stmt (tree.while_ test body at)
unfolding is_letter is_digit
printed_while test body at a b depth =
    let inner = depth_in (is_block body) depth in
    let line = gap (is_block body) (deeper depth) in
    record {
      again = λ ts m.
          let h = headed test (line ∷ stmt_row body inner) a m.1 m.3 in
          let x = h.value in
          let y = (b inner).again h.rest (without_gap (is_block body) (deeper depth) (stmt_row body inner) h.rest h.second) in
          at_tokens ts (word (codes "while") m.0 ∷ sign p.LeftParen h.opens ∷ (h.inner ++ sign p.RightParen h.closes ∷ h.rest))
          (m.2 ∙ ap (λ us. word (codes "while") m.0 ∷ us) h.is)
          (record {
            found = tree.while_ x.found y.found m.0;
            derived = g.a_while m.0 h.opens h.closes h.inner h.rest x.found y.found x.derived y.derived;
            same = ap (λ z. tree.while_ z (unplaced_stmt y.found) nowhere) x.same ∙ ap (λ z. tree.while_ (unplaced test) z nowhere) y.same;
          });
      spelled = (word_spelled (codes "while") refl, head_spelled test (line ∷ stmt_row body inner) a (spelled_gap (is_block body) (deeper depth) (stmt_row body inner) (b inner).spelled));
    }

pub printed_do : (body : StmtTree) (test : Tree) (at : Place) → Stmt body → At comma_level test → Stmt (tree.do_ body test at)
unfolding is_letter is_digit
printed_do body test at b a depth =
    let inner = depth_in (is_block body) depth in
    let line = gap (is_block body) (deeper depth) in
    let third = rows.word (codes "while") ∷ (head_row test ++ rows.sign p.Semicolon ∷ []) in
    let behind = gap (is_block body) depth ∷ third in
    let others = stmt_row body inner ++ behind in
    record {
      again = λ ts m.
          let c = split (stmt_row body inner) behind m.1 (without_gap (is_block body) (deeper depth) others m.1 m.3) in
          let e = without_gap (is_block body) depth third c.behind c.second in
          let h = headed test (rows.sign p.Semicolon ∷ []) a e.1 e.3 in
          let x = h.value in
          let y = (b inner).again c.before c.first in
          at_tokens ts (word (codes "do") m.0 ∷ (c.before ++ word (codes "while") e.0 ∷ sign p.LeftParen h.opens ∷ (h.inner ++ sign p.RightParen h.closes ∷ sign p.Semicolon h.second.0 ∷ [])))
          (m.2
          ∙ ap (λ us. word (codes "do") m.0 ∷ us)
          (c.is
          ∙ ap (λ us. c.before ++ us)
          (e.2
          ∙ ap (λ us. word (codes "while") e.0 ∷ us)
          (h.is ∙ ap (λ us. sign p.LeftParen h.opens ∷ (h.inner ++ sign p.RightParen h.closes ∷ us)) (last_token (k.Punct p.Semicolon) h.rest h.second)))))
          (record {
            found = tree.do_ y.found x.found m.0;
            derived = g.a_do m.0 e.0 h.opens h.closes h.second.0 c.before h.inner y.found x.found y.derived x.derived;
            same = ap (λ z. tree.do_ z (unplaced x.found) nowhere) y.same ∙ ap (λ z. tree.do_ (unplaced_stmt body) z nowhere) x.same;
          });
      spelled = (
        word_spelled (codes "do") refl,
        spelled_gap (is_block body) (deeper depth) others
            (spelled_both (stmt_row body inner) behind (b inner).spelled
            (spelled_gap (is_block body) depth third (word_spelled (codes "while") refl, head_spelled test (rows.sign p.Semicolon ∷ []) a (refl, tt)))),
      );
    }

for_tokens : (is ts ss us : List Terminal) (ends closes : Terminal) → is ++ (ts ++ ends ∷ (ss ++ closes ∷ us)) ≡ (is ++ (ts ++ ends ∷ ss)) ++ closes ∷ us
for_tokens is ts ss us ends closes =
    ap (λ vs. is ++ vs) (sym (append_assoc ts (ends ∷ ss) (closes ∷ us))) ∙ sym (append_assoc is (ts ++ ends ∷ ss) (closes ∷ us))

pub printed_for : (init : FirstTree) (test : Option Tree) (step : List ActionTree) (body : StmtTree) (at : Place) → First init → Optional comma_level test → Actions step → Stmt body
    → Stmt (tree.for_ init test step body at)
unfolding is_letter is_digit
printed_for init test step body at i t s b depth =
    let inner = depth_in (is_block body) depth in
    let line = gap (is_block body) (deeper depth) in
    let fourth = rows.sign p.RightParen ∷ line ∷ stmt_row body inner in
    let third = rows.sign p.Semicolon ∷ (spaced_actions step ++ fourth) in
    let second = spaced_optional test ++ third in
    let tested = spaced test t in
    let stepped = spaced_step step s in
    record {
      again = λ ts m.
          let o = m.3 in
          let c = split (first_row init) second o.1 o.3 in
          let e = split (spaced_optional test) third c.behind c.second in
          let h = split (spaced_actions step) fourth e.second.1 e.second.3 in
          let x = i.again c.before c.first in
          let y = tested.again e.before e.first in
          let z = stepped.again h.before h.first in
          let v = (b inner).again h.second.1 (without_gap (is_block body) (deeper depth) (stmt_row body inner) h.second.1 h.second.3) in
          at_tokens ts (word (codes "for") m.0 ∷ sign p.LeftParen o.0 ∷ ((c.before ++ (e.before ++ sign p.Semicolon e.second.0 ∷ h.before)) ++ sign p.RightParen h.second.0 ∷ h.second.1))
          (m.2
          ∙ ap (λ us. word (codes "for") m.0 ∷ us)
          (o.2
          ∙ ap (λ us. sign p.LeftParen o.0 ∷ us)
          (c.is
          ∙ ap (λ us. c.before ++ us)
          (e.is ∙ ap (λ us. e.before ++ us) (e.second.2 ∙ ap (λ us. sign p.Semicolon e.second.0 ∷ us) (h.is ∙ ap (λ us. h.before ++ us) h.second.2)))
          ∙ for_tokens c.before e.before h.before h.second.1 (sign p.Semicolon e.second.0) (sign p.RightParen h.second.0))))
          (record {
            found = tree.for_ x.found y.found z.found v.found m.0;
            derived = g.a_for m.0 o.0 e.second.0 h.second.0 c.before e.before h.before h.second.1 x.found y.found z.found v.found x.derived y.derived z.derived v.derived;
            same = ap (λ q. tree.for_ q (option_map unplaced y.found) (map unplaced_action z.found) (unplaced_stmt v.found) nowhere) x.same
                ∙ ap (λ q. tree.for_ (unplaced_first init) q (map unplaced_action z.found) (unplaced_stmt v.found) nowhere) y.same
                ∙ ap (λ q. tree.for_ (unplaced_first init) (option_map unplaced test) q (unplaced_stmt v.found) nowhere) z.same
                ∙ ap (λ q. tree.for_ (unplaced_first init) (option_map unplaced test) (map unplaced_action step) q nowhere) v.same;
          });
      spelled = (
        word_spelled (codes "for") refl,
        (
          refl,
          spelled_both (first_row init) second i.spelled
              (spelled_both (spaced_optional test) third tested.spelled
              (refl, spelled_both (spaced_actions step) fourth stepped.spelled (refl, spelled_gap (is_block body) (deeper depth) (stmt_row body inner) (b inner).spelled))),
        ),
      );
    }

pub printed_break : (at : Place) → Stmt (tree.break_ at)
unfolding is_letter is_digit
printed_break at depth = record {
  again = λ ts m.
      at_tokens ts (word (codes "break") m.0 ∷ sign p.Semicolon m.3.0 ∷ []) (m.2 ∙ ap (λ us. word (codes "break") m.0 ∷ us) (last_token (k.Punct p.Semicolon) m.1 m.3))
      (record { found = tree.break_ m.0; derived = g.a_break m.0 m.3.0; same = refl });
  spelled = (word_spelled (codes "break") refl, (refl, tt));
}

pub printed_continue : (at : Place) → Stmt (tree.continue_ at)
unfolding is_letter is_digit
printed_continue at depth = record {
  again = λ ts m.
      at_tokens ts (word (codes "continue") m.0 ∷ sign p.Semicolon m.3.0 ∷ []) (m.2 ∙ ap (λ us. word (codes "continue") m.0 ∷ us) (last_token (k.Punct p.Semicolon) m.1 m.3))
      (record { found = tree.continue_ m.0; derived = g.a_continue m.0 m.3.0; same = refl });
  spelled = (word_spelled (codes "continue") refl, (refl, tt));
}

pub printed_return : (value : Option Tree) (at : Place) → Optional comma_level value → Stmt (tree.return_ value at)
unfolding is_letter is_digit
printed_return value at o depth =
    let a = spaced value o in
    record {
      again = λ ts m.
          let c = ended (k.Punct p.Semicolon) (spaced_optional value) m.1 m.3 in
          let x = a.again c.before c.first in
          at_tokens ts (word (codes "return") m.0 ∷ (c.before ++ sign p.Semicolon c.ends ∷ [])) (m.2 ∙ ap (λ us. word (codes "return") m.0 ∷ us) c.is)
          (record { found = tree.return_ x.found m.0; derived = g.a_return m.0 c.ends c.before x.found x.derived; same = ap (λ z. tree.return_ z nowhere) x.same });
      spelled = (word_spelled (codes "return") refl, ended_spelled (spaced_optional value) a.spelled);
    }

-- ---- first parts and blocks

pub nothing_first : First tree.no_first
nothing_first = record {
  again = λ ts m.
      at_tokens ts (sign p.Semicolon m.0 ∷ []) (last_token (k.Punct p.Semicolon) ts m) (record { found = tree.no_first; derived = g.nothing_first m.0; same = refl });
  spelled = (refl, tt);
}

pub actions_first : (all : List ActionTree) → ActionList all → First (tree.first (tree.act all))
actions_first all a = record {
  again = λ ts m.
      let c = ended (k.Punct p.Semicolon) (actions_row all) ts m in
      let x = a.printed.again c.before c.first in
      at_tokens ts (c.before ++ sign p.Semicolon c.ends ∷ []) c.is
      (record { found = tree.first (tree.act x.found); derived = g.actions_first c.ends c.before x.found x.derived; same = ap (λ z. tree.first (tree.act z)) x.same });
  spelled = ended_spelled (actions_row all) a.printed.spelled;
}

pub objects_first : (all : List ObjectTree) → Declaration all → First (tree.first (tree.declare all))
objects_first all a = record {
  again = λ ts m.
      let x = a.again ts m in
      record { found = tree.first (tree.declare x.found); derived = g.objects_first ts x.found x.derived; same = ap (λ z. tree.first (tree.declare z)) x.same };
  spelled = a.spelled;
}

pub printed_braces : (body : StmtTrees) → Body body → Block body
printed_braces body a depth =
    let inner = deeper depth in
    let behind = w.Line depth ∷ rows.sign p.RightBrace ∷ [] in
    record {
      again = λ ts m.
          let c = split (body_row body inner) behind m.1 m.3 in
          let x = (a inner).again c.before c.first in
          at_tokens ts (sign p.LeftBrace m.0 ∷ (c.before ++ sign p.RightBrace c.second.0 ∷ []))
          (m.2 ∙ ap (λ us. sign p.LeftBrace m.0 ∷ us) (c.is ∙ ap (λ us. c.before ++ us) (last_token (k.Punct p.RightBrace) c.behind c.second)))
          (record { found = x.found; derived = g.braces m.0 c.second.0 c.before x.found x.derived; same = x.same });
      spelled = (refl, spelled_both (body_row body inner) behind (a inner).spelled (refl, tt));
    }

pub empty_body : Body tree.no_stmt
empty_body depth = record { again = λ ts m. at_tokens ts [] m (record { found = tree.no_stmt; derived = g.nothing; same = refl }); spelled = tt }

pub a_statement_more : (stmt : StmtTree) (rest : StmtTrees) → Stmt stmt → Body rest → Body (tree.more_stmts stmt rest)
a_statement_more stmt rest a b depth = record {
  again = λ ts m.
      let c = split (stmt_row stmt depth) (body_row rest depth) ts m in
      let x = (a depth).again c.before c.first in
      let y = (b depth).again c.behind c.second in
      at_tokens ts (c.before ++ c.behind) c.is
      (record {
        found = tree.more_stmts x.found y.found;
        derived = g.a_statement c.before c.behind x.found y.found x.derived y.derived;
        same = ap (λ z. tree.more_stmts z (unplaced_stmts y.found)) x.same ∙ ap (λ z. tree.more_stmts (unplaced_stmt stmt) z) y.same;
      });
  spelled = spelled_both (stmt_row stmt depth) (body_row rest depth) (a depth).spelled (b depth).spelled;
}

pub a_declaration_more : (all : List ObjectTree) (rest : StmtTrees) → Declaration all → Body rest → Body (tree.more_stmts (tree.declare all) rest)
a_declaration_more all rest a b depth = record {
  again = λ ts m.
      let c = split (declaration_row all) (body_row rest depth) ts m in
      let x = a.again c.before c.first in
      let y = (b depth).again c.behind c.second in
      at_tokens ts (c.before ++ c.behind) c.is
      (record {
        found = tree.more_stmts (tree.declare x.found) y.found;
        derived = g.local_objects c.before c.behind x.found y.found x.derived y.derived;
        same = ap (λ z. tree.more_stmts (tree.declare z) (unplaced_stmts y.found)) x.same ∙ ap (λ z. tree.more_stmts (tree.declare (map unplaced_object all)) z) y.same;
      });
  spelled = spelled_both (declaration_row all) (body_row rest depth) a.spelled (b depth).spelled;
}
