-- What a statement is, by its keyword or its first sign.
use Rattle.std.proofs.Common.{◌≡◌, ◌∙◌, ℕ, sym, refl, ap, subst, Bool, true, false, List, [], ◌∷◌, ◌++◌, codes, Some, None, append_assoc}
use Rattle.std.specs.Prelude.{is_some, not, bytes_eq}
use Rattle.std.proofs.lemmas.Slice.Eq.{bytes_eq-Decides}
use Rattle.hls_base.specs.declared.place.Place.{Place}
use Rattle.c_token.specs.declared.punct.Punct.TheVariants as p
use Rattle.c_token.specs.declared.token.TokenKind.{TokenKind}
use Rattle.c_token.specs.declared.token.TokenKind.TheVariants as k
use Rattle.c_tree.specs.Tree as tree
use Rattle.c_tree.specs.Tree.{Tree, ActionTree, ObjectTree, StmtTree, FirstTree, StmtTrees, stmt_row}
use Rattle.c_tree.specs.Terminals.{Terminal, sign, word, is_keyword}
use Rattle.c_tree.specs.Grammar.{Derives, DerivesStatement, DerivesFirst, DerivesBlock, DerivesBody, ends_open}
use Rattle.c_tree.specs.Grammar as g
use Rattle.c_parser.specs.Cursor.Readings.{Reads, Found, Never, Anywhere, Ends, Sequence, Closed, Sign, Word, Lacks, LacksWord, Listed, Repeated}
use Rattle.c_parser.specs.Cursor.Readings as r
use Rattle.c_parser.specs.Cursor.Types.{starts_kind, kind_word_of_text}
use Rattle.c_parser.specs.Objects.{ActionsUpTo}
use Rattle.c_parser.specs.Cursor.Keywords.{keyword_text, keyword_of}
use Rattle.c_parser.specs.declared.cursor.keyword.Keyword.{Keyword}
use Rattle.c_parser.specs.declared.cursor.keyword.Keyword.TheVariants as w
use Rattle.c_parser.specs.Statements.{Statement, begins_else, ElseFits, DerivesBlockRow, Block, Local, ClosesBlock, BodyUpTo, First, Condition, Branches, DoTail, Behind}
use Rattle.c_parser.specs.Statements as s
use Rattle.c_parser.proofs.CursorLemmas.Readings.{signs, sign_no_word}
use Rattle.c_parser.proofs.ExpressionForms.{shut, unshut}
use Rattle.c_parser.proofs.Beginnings.{starts_expression, kind_no_expression}
use Rattle.c_parser.proofs.Declarations.{declaration_starts}
use Rattle.c_parser.proofs.Actions.{ActionsForm, no_actions, some_actions, actions_form, listed_starts}

abbrev pub unrow_stmts : StmtTrees → List StmtTree
unrow_stmts tree.no_stmt = []
unrow_stmts (tree.more_stmts stmt rest) = stmt ∷ unrow_stmts rest

pub row-unrow_stmts : (ss : StmtTrees) → stmt_row (unrow_stmts ss) ≡ ss
row-unrow_stmts tree.no_stmt = refl
row-unrow_stmts (tree.more_stmts stmt rest) = ap (tree.more_stmts stmt) (row-unrow_stmts rest)

-- ---- blocks

body_of : {ts : List Terminal} {body : StmtTrees} (closes : Place) (rest : List Terminal) → DerivesBody ts body → BodyUpTo (ts ++ sign p.RightBrace closes ∷ rest) (unrow_stmts body) rest
body_of closes rest g.nothing = r.stop _ rest (closes, refl)
body_of closes rest (g.a_statement ts us stmt others d ds) =
    let behind = us ++ sign p.RightBrace closes ∷ rest in
    r.more _ stmt behind (unrow_stmts others) rest (s.a_statement (record { taken = ts; split = append_assoc ts us (sign p.RightBrace closes ∷ rest); derives = d })) (body_of closes rest ds)
body_of closes rest (g.local_objects ts us all others d ds) =
    let behind = us ++ sign p.RightBrace closes ∷ rest in
    r.more _ (tree.declare all) behind (unrow_stmts others) rest (s.objects all (record { taken = ts; split = append_assoc ts us (sign p.RightBrace closes ∷ rest); derives = d }) refl) (body_of closes rest ds)

record Bodied (tokens : List Terminal) (body : List StmtTree) (rest : List Terminal) : Type 0 where
  ts : List Terminal
  at : Place
  split : tokens ≡ (ts ++ sign p.RightBrace at ∷ []) ++ rest
  derives : DerivesBody ts (stmt_row body)

bodied : {tokens : List Terminal} {body : List StmtTree} {rest : List Terminal} → BodyUpTo tokens body rest → Bodied tokens body rest
bodied (r.stop tokens rest c) = record { ts = []; at = c.0; split = c.1; derives = g.nothing }
bodied (r.more tokens a middle others rest l b) = go l (bodied b)
  where
    joined : (ts us : List Terminal) (at : Place) → tokens ≡ ts ++ middle → middle ≡ (us ++ sign p.RightBrace at ∷ []) ++ rest → tokens ≡ ((ts ++ us) ++ sign p.RightBrace at ∷ []) ++ rest
    joined ts us at e f = e ∙ ap (λ y. ts ++ y) f ∙ sym (append_assoc ts (us ++ sign p.RightBrace at ∷ []) rest) ∙ ap (λ y. y ++ rest) (sym (append_assoc ts us (sign p.RightBrace at ∷ [])))

    go : Local tokens a middle → Bodied middle others rest → Bodied tokens (a ∷ others) rest
    go (s.a_statement d) q = record { ts = d.taken ++ q.ts; at = q.at; split = joined d.taken q.ts q.at d.split q.split; derives = g.a_statement d.taken q.ts a (stmt_row others) d.derives q.derives }
    go (s.objects all d is) q = record {
      ts = d.taken ++ q.ts;
      at = q.at;
      split = joined d.taken q.ts q.at d.split q.split;
      derives = subst (λ y. DerivesBody (d.taken ++ q.ts) (tree.more_stmts y (stmt_row others))) (sym is) (g.local_objects d.taken q.ts all (stmt_row others) d.derives q.derives);
    }

-- a brace and what is inside
pub record Braced (tokens : List Terminal) (body : List StmtTree) (rest : List Terminal) : Type 0 where
  pub at : Place
  pub inside : List Terminal
  pub opens : tokens ≡ sign p.LeftBrace at ∷ inside
  pub listed : BodyUpTo inside body rest

braced_of : {ts : List Terminal} {body : StmtTrees} (tokens rest : List Terminal) → tokens ≡ ts ++ rest → DerivesBlock ts body → Braced tokens (unrow_stmts body) rest
braced_of tokens rest f (g.braces opens closes ts body d) = record {
  at = opens;
  inside = (ts ++ sign p.RightBrace closes ∷ []) ++ rest;
  opens = f;
  listed = subst (λ y. BodyUpTo y (unrow_stmts body) rest) (sym (append_assoc ts (sign p.RightBrace closes ∷ []) rest)) (body_of closes rest d);
}

unrow_stmts-row : (ss : List StmtTree) → unrow_stmts (stmt_row ss) ≡ ss
unrow_stmts-row [] = refl
unrow_stmts-row (x ∷ ss) = ap (λ y. x ∷ y) (unrow_stmts-row ss)

pub block_form : (tokens rest : List Terminal) (body : List StmtTree) → Block tokens body rest → Braced tokens body rest
block_form tokens rest body d = subst (λ y. Braced tokens y rest) (unrow_stmts-row body) (braced_of tokens rest d.split d.derives)

pub block_back : (tokens inside rest : List Terminal) (at : Place) (body : List StmtTree) → tokens ≡ sign p.LeftBrace at ∷ inside → BodyUpTo inside body rest → Block tokens body rest
block_back tokens inside rest at body f l = let q = bodied l in record {
  taken = sign p.LeftBrace at ∷ (q.ts ++ sign p.RightBrace q.at ∷ []);
  split = f ∙ ap (λ y. sign p.LeftBrace at ∷ y) q.split;
  derives = g.braces at q.at q.ts (stmt_row body) q.derives;
}

-- ---- conditions

condition_at : (opens closes : Place) (ts us rest : List Terminal) (test : Tree) → Derives 15 ts test → Condition (sign p.LeftParen opens ∷ ((ts ++ sign p.RightParen closes ∷ us) ++ rest)) test (us ++ rest)
condition_at opens closes ts us rest test d = record {
  first = opens;
  second = test;
  middle = (ts ++ sign p.RightParen closes ∷ us) ++ rest;
  begins = refl;
  goes_on = record {
    first = test;
    second = closes;
    middle = sign p.RightParen closes ∷ (us ++ rest);
    begins = record { taken = ts; split = append_assoc ts (sign p.RightParen closes ∷ us) rest; derives = d };
    goes_on = refl;
    whole = refl;
  };
  whole = refl;
}

record Conditioned (tokens : List Terminal) (test : Tree) (us rest : List Terminal) : Type 0 where
  opens : Place
  closes : Place
  ts : List Terminal
  split : tokens ≡ sign p.LeftParen opens ∷ ((ts ++ sign p.RightParen closes ∷ us) ++ rest)
  derives : Derives 15 ts test

conditioned : (tokens middle us rest : List Terminal) (test : Tree) → Condition tokens test middle → middle ≡ us ++ rest → Conditioned tokens test us rest
conditioned tokens middle us rest test c f =
    let o = unshut p.RightParen c.middle middle c.second c.goes_on in
    record {
      opens = c.first;
      closes = o.at;
      ts = o.ts;
      split = c.begins ∙ ap (λ y. sign p.LeftParen c.first ∷ y)
          (o.split ∙ append_assoc o.ts (sign p.RightParen o.at ∷ []) middle ∙ ap (λ y. o.ts ++ sign p.RightParen o.at ∷ y) f ∙ sym (append_assoc o.ts (sign p.RightParen o.at ∷ us) rest));
      derives = subst (λ y. Derives 15 o.ts y) (sym c.whole) o.derives;
    }

-- ---- the forms of a statement

pub data StatementForm (tokens : List Terminal) (stmt : StmtTree) (rest : List Terminal) : Type 0 where
  by_keyword : (keyword : Keyword) (at : Place) (behind : List Terminal) → tokens ≡ word (keyword_text keyword) at ∷ behind → Behind keyword at behind stmt rest → StatementForm tokens stmt rest
  is_block : (at : Place) (inside : List Terminal) (body : List StmtTree) → tokens ≡ sign p.LeftBrace at ∷ inside → BodyUpTo inside body rest → stmt ≡ tree.block (stmt_row body) → StatementForm tokens stmt rest
  is_act : (all : List ActionTree) → ActionsUpTo p.Semicolon tokens all rest → stmt ≡ tree.act all → StatementForm tokens stmt rest

pub statement_form : (tokens rest : List Terminal) (stmt : StmtTree) → Statement tokens stmt rest → StatementForm tokens stmt rest
statement_form tokens rest stmt d = go d.split d.derives
  where
    go : {ts : List Terminal} {x : StmtTree} → tokens ≡ ts ++ rest → DerivesStatement ts x → StatementForm tokens x rest
    go f (g.a_block ts body b) = let q = braced_of tokens rest f b in is_block q.at q.inside (unrow_stmts body) q.opens q.listed (ap tree.block (sym (row-unrow_stmts body)))
    go f (g.an_act ends ts all a) = is_act all (shut p.Semicolon ends ts rest tokens all f a) refl
    go f (g.an_if at opens closes ts ys test body t b) = by_keyword w.If at (sign p.LeftParen opens ∷ ((ts ++ sign p.RightParen closes ∷ ys) ++ rest)) f (record {
      first = test;
      second = tree.if_ test body tree.no_else at;
      middle = ys ++ rest;
      begins = condition_at opens closes ts ys rest test t;
      goes_on = s.one (ys ++ rest) body rest (record { taken = ys; split = refl; derives = b });
      whole = refl;
    })
    go f (g.an_if_else at opens closes other ts ys ns test body second t b fits e) =
        let us = ys ++ word (codes "else") other ∷ ns in
        by_keyword w.If at (sign p.LeftParen opens ∷ ((ts ++ sign p.RightParen closes ∷ us) ++ rest)) f (record {
          first = test;
          second = tree.if_ test body (tree.else_ other second) at;
          middle = us ++ rest;
          begins = condition_at opens closes ts us rest test t;
          goes_on = s.two (us ++ rest) body (word (codes "else") other ∷ (ns ++ rest)) other (ns ++ rest) second rest
              (record { taken = ys; split = append_assoc ys (word (codes "else") other ∷ ns) rest; derives = b }) refl fits (record { taken = ns; split = refl; derives = e });
          whole = refl;
        })
    go f (g.a_switch at opens closes ts us test body t b) = by_keyword w.Switch at (sign p.LeftParen opens ∷ ((ts ++ sign p.RightParen closes ∷ us) ++ rest)) f (record {
      first = test;
      second = unrow_stmts body;
      middle = us ++ rest;
      begins = condition_at opens closes ts us rest test t;
      goes_on = record { taken = us; split = refl; derives = subst (λ y. DerivesBlock us y) (sym (row-unrow_stmts body)) b };
      whole = ap (λ y. tree.switch_ test y at) (sym (row-unrow_stmts body));
    })
    go f (g.a_case at colon ts us value body v b) = by_keyword w.Case at ((ts ++ sign p.Colon colon ∷ us) ++ rest) f (record {
      first = value;
      second = body;
      middle = us ++ rest;
      begins = record {
        first = value;
        second = colon;
        middle = sign p.Colon colon ∷ (us ++ rest);
        begins = record { taken = ts; split = append_assoc ts (sign p.Colon colon ∷ us) rest; derives = v };
        goes_on = refl;
        whole = refl;
      };
      goes_on = record { taken = us; split = refl; derives = b };
      whole = refl;
    })
    go f (g.a_default at colon us body b) = by_keyword w.Default at (sign p.Colon colon ∷ (us ++ rest)) f (record {
      first = colon;
      second = body;
      middle = us ++ rest;
      begins = refl;
      goes_on = record { taken = us; split = refl; derives = b };
      whole = refl;
    })
    go f (g.a_while at opens closes ts us test body t b) = by_keyword w.While at (sign p.LeftParen opens ∷ ((ts ++ sign p.RightParen closes ∷ us) ++ rest)) f (record {
      first = test;
      second = body;
      middle = us ++ rest;
      begins = condition_at opens closes ts us rest test t;
      goes_on = record { taken = us; split = refl; derives = b };
      whole = refl;
    })
    go f (g.a_do at again opens closes ends us ts body test b t) =
        let tail = word (codes "while") again ∷ sign p.LeftParen opens ∷ (ts ++ sign p.RightParen closes ∷ sign p.Semicolon ends ∷ []) in
        by_keyword w.Do at ((us ++ tail) ++ rest) f (record {
          first = body;
          second = test;
          middle = tail ++ rest;
          begins = record { taken = us; split = append_assoc us tail rest; derives = b };
          goes_on = record {
            first = again;
            second = test;
            middle = sign p.LeftParen opens ∷ ((ts ++ sign p.RightParen closes ∷ sign p.Semicolon ends ∷ []) ++ rest);
            begins = refl;
            goes_on = record {
              first = test;
              second = ends;
              middle = sign p.Semicolon ends ∷ rest;
              begins = condition_at opens closes ts (sign p.Semicolon ends ∷ []) rest test t;
              goes_on = refl;
              whole = refl;
            };
            whole = refl;
          };
          whole = refl;
        })
    go f (g.a_for at opens ends closes is ts ss us init test step body i t a b) =
        let behind = sign p.RightParen closes ∷ (us ++ rest) in
        let inside = ((is ++ (ts ++ sign p.Semicolon ends ∷ ss)) ++ sign p.RightParen closes ∷ us) ++ rest in
        let flat : inside ≡ is ++ ((ts ++ sign p.Semicolon ends ∷ ss) ++ behind) =
        append_assoc (is ++ (ts ++ sign p.Semicolon ends ∷ ss)) (sign p.RightParen closes ∷ us) rest ∙ append_assoc is (ts ++ sign p.Semicolon ends ∷ ss) behind in
        by_keyword w.For at (sign p.LeftParen opens ∷ inside) f (record {
          first = (init, test, step);
          second = body;
          middle = us ++ rest;
          begins = record {
            first = opens;
            second = (init, test, step);
            middle = inside;
            begins = refl;
            goes_on = record {
              first = init;
              second = (init, test, step);
              middle = (ts ++ sign p.Semicolon ends ∷ ss) ++ behind;
              begins = record { taken = is; split = flat; derives = i };
              goes_on = record {
                first = test;
                second = step;
                middle = ss ++ behind;
                begins = record {
                  first = test;
                  second = ends;
                  middle = sign p.Semicolon ends ∷ (ss ++ behind);
                  begins = record { taken = ts; split = append_assoc ts (sign p.Semicolon ends ∷ ss) behind; derives = t };
                  goes_on = refl;
                  whole = refl;
                };
                goes_on = record { first = step; second = closes; middle = behind; begins = record { taken = ss; split = refl; derives = a }; goes_on = refl; whole = refl };
                whole = refl;
              };
              whole = refl;
            };
            whole = refl;
          };
          goes_on = record { taken = us; split = refl; derives = b };
          whole = refl;
        })
    go f (g.a_break at ends) = by_keyword w.Break at (sign p.Semicolon ends ∷ rest) f (ends, refl, refl)
    go f (g.a_continue at ends) = by_keyword w.Continue at (sign p.Semicolon ends ∷ rest) f (ends, refl, refl)
    go f (g.a_return at ends ts value v) = by_keyword w.Return at ((ts ++ sign p.Semicolon ends ∷ []) ++ rest) f (value, shut p.Semicolon ends ts rest _ value refl v, refl)

-- ---- and back

if_back : (at : Place) (tokens behind middle : List Terminal) (test : Tree) {start : List Terminal} {stmt : StmtTree} {rest : List Terminal} → tokens ≡ word (codes "if") at ∷ behind → Condition behind test middle → middle ≡ start → Branches test at start stmt rest → Statement tokens stmt rest
if_back at tokens behind middle test f c m (s.one start body rest d) =
    let q = conditioned behind middle d.taken rest test c (m ∙ d.split) in record {
      taken = word (codes "if") at ∷ sign p.LeftParen q.opens ∷ (q.ts ++ sign p.RightParen q.closes ∷ d.taken);
      split = f ∙ ap (λ y. word (codes "if") at ∷ y) q.split;
      derives = g.an_if at q.opens q.closes q.ts d.taken test body q.derives d.derives;
    }
if_back at tokens behind middle test f c m (s.two start body here other inside second rest d e fits h) =
    let us = d.taken ++ word (codes "else") other ∷ h.taken in
    let split : middle ≡ us ++ rest = m ∙ d.split ∙ ap (λ y. d.taken ++ y) (e ∙ ap (λ y. word (codes "else") other ∷ y) h.split) ∙ sym (append_assoc d.taken (word (codes "else") other ∷ h.taken) rest) in
    let q = conditioned behind middle us rest test c split in record {
      taken = word (codes "if") at ∷ sign p.LeftParen q.opens ∷ (q.ts ++ sign p.RightParen q.closes ∷ us);
      split = f ∙ ap (λ y. word (codes "if") at ∷ y) q.split;
      derives = g.an_if_else at q.opens q.closes other q.ts d.taken h.taken test body second q.derives d.derives fits h.derives;
    }

pub keyword_back : (keyword : Keyword) (at : Place) (tokens behind rest : List Terminal) (stmt : StmtTree) → tokens ≡ word (keyword_text keyword) at ∷ behind → Behind keyword at behind stmt rest → Statement tokens stmt rest
keyword_back w.If at tokens behind rest stmt f b = subst (λ y. Statement tokens y rest) (sym b.whole) (if_back at tokens behind b.middle b.first f b.begins refl b.goes_on)
keyword_back w.Switch at tokens behind rest stmt f b =
    let d = b.goes_on in
    let q = conditioned behind b.middle d.taken rest b.first b.begins d.split in
    let ts = word (codes "switch") at ∷ sign p.LeftParen q.opens ∷ (q.ts ++ sign p.RightParen q.closes ∷ d.taken) in record {
      taken = ts;
      split = f ∙ ap (λ y. word (codes "switch") at ∷ y) q.split;
      derives = subst (λ y. DerivesStatement ts y) (sym b.whole) (g.a_switch at q.opens q.closes q.ts d.taken b.first (stmt_row b.second) q.derives d.derives);
    }
keyword_back w.Case at tokens behind rest stmt f b =
    let d = b.goes_on in
    let o = unshut p.Colon behind b.middle b.first b.begins in
    let ts = word (codes "case") at ∷ (o.ts ++ sign p.Colon o.at ∷ d.taken) in record {
      taken = ts;
      split = f ∙ ap (λ y. word (codes "case") at ∷ y)
          (o.split ∙ append_assoc o.ts (sign p.Colon o.at ∷ []) b.middle ∙ ap (λ y. o.ts ++ sign p.Colon o.at ∷ y) d.split ∙ sym (append_assoc o.ts (sign p.Colon o.at ∷ d.taken) rest));
      derives = subst (λ y. DerivesStatement ts y) (sym b.whole) (g.a_case at o.at o.ts d.taken b.first b.second o.derives d.derives);
    }
keyword_back w.Default at tokens behind rest stmt f b =
    let d = b.goes_on in
    let ts = word (codes "default") at ∷ sign p.Colon b.first ∷ d.taken in record {
      taken = ts;
      split = f ∙ ap (λ y. word (codes "default") at ∷ y) (b.begins ∙ ap (λ y. sign p.Colon b.first ∷ y) d.split);
      derives = subst (λ y. DerivesStatement ts y) (sym b.whole) (g.a_default at b.first d.taken b.second d.derives);
    }
keyword_back w.While at tokens behind rest stmt f b =
    let d = b.goes_on in
    let q = conditioned behind b.middle d.taken rest b.first b.begins d.split in
    let ts = word (codes "while") at ∷ sign p.LeftParen q.opens ∷ (q.ts ++ sign p.RightParen q.closes ∷ d.taken) in record {
      taken = ts;
      split = f ∙ ap (λ y. word (codes "while") at ∷ y) q.split;
      derives = subst (λ y. DerivesStatement ts y) (sym b.whole) (g.a_while at q.opens q.closes q.ts d.taken b.first b.second q.derives d.derives);
    }
keyword_back w.Do at tokens behind rest stmt f b =
    let d = b.begins in
    let t = b.goes_on in
    let u = t.goes_on in
    let ends = u.second in
    let q = conditioned t.middle u.middle (sign p.Semicolon ends ∷ []) rest u.first u.begins u.goes_on in
    let tail = word (codes "while") t.first ∷ sign p.LeftParen q.opens ∷ (q.ts ++ sign p.RightParen q.closes ∷ sign p.Semicolon ends ∷ []) in
    let ts = word (codes "do") at ∷ (d.taken ++ tail) in record {
      taken = ts;
      split = f ∙ ap (λ y. word (codes "do") at ∷ y)
          (d.split ∙ ap (λ y. d.taken ++ y) (t.begins ∙ ap (λ y. word (codes "while") t.first ∷ y) q.split) ∙ sym (append_assoc d.taken tail rest));
      derives = subst (λ y. DerivesStatement ts y) (sym (b.whole ∙ ap (λ y. tree.do_ b.first y at) (t.whole ∙ u.whole)))
          (g.a_do at t.first q.opens q.closes ends d.taken q.ts b.first u.first d.derives q.derives);
    }
keyword_back w.For at tokens behind rest stmt f b =
    let h = b.begins in
    let i = h.goes_on in
    let t = i.goes_on in
    let d = b.goes_on in
    let first = i.begins in
    let o = unshut p.Semicolon i.middle t.middle t.first t.begins in
    let c = unshut p.RightParen t.middle b.middle t.second t.goes_on in
    let closer = sign p.RightParen c.at ∷ (d.taken ++ rest) in
    let semi = sign p.Semicolon o.at ∷ c.ts in
    let steps : t.middle ≡ c.ts ++ closer = c.split ∙ append_assoc c.ts (sign p.RightParen c.at ∷ []) b.middle ∙ ap (λ y. c.ts ++ sign p.RightParen c.at ∷ y) d.split in
    let tests : i.middle ≡ (o.ts ++ semi) ++ closer =
    o.split ∙ append_assoc o.ts (sign p.Semicolon o.at ∷ []) t.middle ∙ ap (λ y. o.ts ++ sign p.Semicolon o.at ∷ y) steps ∙ sym (append_assoc o.ts semi closer) in
    let inits : h.middle ≡ ((first.taken ++ (o.ts ++ semi)) ++ sign p.RightParen c.at ∷ d.taken) ++ rest =
    first.split ∙ ap (λ y. first.taken ++ y) tests ∙ sym (append_assoc first.taken (o.ts ++ semi) closer) ∙ sym (append_assoc (first.taken ++ (o.ts ++ semi)) (sign p.RightParen c.at ∷ d.taken) rest) in
    let ts = word (codes "for") at ∷ sign p.LeftParen h.first ∷ ((first.taken ++ (o.ts ++ semi)) ++ sign p.RightParen c.at ∷ d.taken) in record {
      taken = ts;
      split = f ∙ ap (λ y. word (codes "for") at ∷ y) (h.begins ∙ ap (λ y. sign p.LeftParen h.first ∷ y) inits);
      derives = subst (λ y. DerivesStatement ts y) (sym (b.whole ∙ ap (λ parts. tree.for_ parts.0 parts.1 parts.2 b.second at) (h.whole ∙ i.whole ∙ t.whole)))
          (g.a_for at h.first o.at c.at first.taken o.ts c.ts d.taken i.first t.first t.second b.second first.derives o.derives c.derives d.derives);
    }
keyword_back w.Break at tokens behind rest stmt f b = record {
  taken = word (codes "break") at ∷ sign p.Semicolon b.0 ∷ [];
  split = f ∙ ap (λ y. word (codes "break") at ∷ y) b.1;
  derives = subst (λ y. DerivesStatement (word (codes "break") at ∷ sign p.Semicolon b.0 ∷ []) y) (sym b.2) (g.a_break at b.0);
}
keyword_back w.Continue at tokens behind rest stmt f b = record {
  taken = word (codes "continue") at ∷ sign p.Semicolon b.0 ∷ [];
  split = f ∙ ap (λ y. word (codes "continue") at ∷ y) b.1;
  derives = subst (λ y. DerivesStatement (word (codes "continue") at ∷ sign p.Semicolon b.0 ∷ []) y) (sym b.2) (g.a_continue at b.0);
}
keyword_back w.Return at tokens behind rest stmt f b =
    let o = unshut p.Semicolon behind rest b.0 b.1 in
    let ts = word (codes "return") at ∷ (o.ts ++ sign p.Semicolon o.at ∷ []) in record {
      taken = ts;
      split = f ∙ ap (λ y. word (codes "return") at ∷ y) o.split;
      derives = subst (λ y. DerivesStatement ts y) (sym b.2) (g.a_return at o.at o.ts b.0 o.derives);
    }

pub block_statement : (tokens inside rest : List Terminal) (at : Place) (body : List StmtTree) → tokens ≡ sign p.LeftBrace at ∷ inside → BodyUpTo inside body rest → Statement tokens (tree.block (stmt_row body)) rest
block_statement tokens inside rest at body f l = let d = block_back tokens inside rest at body f l in record { taken = d.taken; split = d.split; derives = g.a_block d.taken (stmt_row body) d.derives }

pub act_statement : (tokens rest : List Terminal) (all : List ActionTree) → ActionsUpTo p.Semicolon tokens all rest → Statement tokens (tree.act all) rest
act_statement tokens rest all c = let o = unshut p.Semicolon tokens rest all c in record { taken = o.ts ++ sign p.Semicolon o.at ∷ []; split = o.split; derives = g.an_act o.at o.ts all o.derives }

-- ---- what a statement begins with

keyword_is_keyword : (keyword : Keyword) → is_keyword (keyword_text keyword) ≡ true
keyword_is_keyword w.If = refl
keyword_is_keyword w.Switch = refl
keyword_is_keyword w.Case = refl
keyword_is_keyword w.Default = refl
keyword_is_keyword w.While = refl
keyword_is_keyword w.Do = refl
keyword_is_keyword w.For = refl
keyword_is_keyword w.Break = refl
keyword_is_keyword w.Continue = refl
keyword_is_keyword w.Return = refl

pub keyword_leads : (keyword : Keyword) → keyword_of (keyword_text keyword) ≡ Some keyword
keyword_leads w.If = refl
keyword_leads w.Switch = refl
keyword_leads w.Case = refl
keyword_leads w.Default = refl
keyword_leads w.While = refl
keyword_leads w.Do = refl
keyword_leads w.For = refl
keyword_leads w.Break = refl
keyword_leads w.Continue = refl
keyword_leads w.Return = refl

keyword_no_kind : (keyword : Keyword) → is_some (kind_word_of_text (keyword_text keyword)) ≡ false
keyword_no_kind w.If = refl
keyword_no_kind w.Switch = refl
keyword_no_kind w.Case = refl
keyword_no_kind w.Default = refl
keyword_no_kind w.While = refl
keyword_no_kind w.Do = refl
keyword_no_kind w.For = refl
keyword_no_kind w.Break = refl
keyword_no_kind w.Continue = refl
keyword_no_kind w.Return = refl

keyword_no_else : (keyword : Keyword) → bytes_eq (keyword_text keyword) (codes "else") ≡ false
keyword_no_else w.If = refl
keyword_no_else w.Switch = refl
keyword_no_else w.Case = refl
keyword_no_else w.Default = refl
keyword_no_else w.While = refl
keyword_no_else w.Do = refl
keyword_no_else w.For = refl
keyword_no_else w.Break = refl
keyword_no_else w.Continue = refl
keyword_no_else w.Return = refl

-- the text of a keyword that is found in the table
pub keyword_text_of : (text : List ℕ) (keyword : Keyword) → keyword_of text ≡ Some keyword → text ≡ keyword_text keyword
keyword_text_of text keyword e =
    step w.If (λ a. step w.Switch (λ b. step w.Case (λ c. step w.Default (λ d. step w.While (λ f. step w.Do (λ h. step w.For (λ i. step w.Break (λ j. step w.Continue (λ l. step w.Return (λ m.
    absurd (let bare : keyword_of text ≡ None = rw (a, b, c, d, f, h, i, j, l, m) in let both : None ≡ Some keyword = sym bare ∙ e in cc)))))))))))
  where
    step : (other : Keyword) → (bytes_eq text (keyword_text other) ≡ false → text ≡ keyword_text keyword) → text ≡ keyword_text keyword
    step other next = go (bytes_eq text (keyword_text other)) refl
      where
        go : (b : Bool) → bytes_eq text (keyword_text other) ≡ b → text ≡ keyword_text keyword
        go true f =
            let is : text ≡ keyword_text other = (bytes_eq-Decides text (keyword_text other)).0 f in
            let both : Some other ≡ Some keyword = sym (keyword_leads other) ∙ ap keyword_of (sym is) ∙ e in
            let same : other ≡ keyword = cc in is ∙ ap keyword_text same
        go false f = next f

word_starts : (text : List ℕ) (at : Place) (behind tokens : List Terminal) → tokens ≡ word text at ∷ behind → starts_expression tokens ≡ true → is_keyword text ≡ false
word_starts text at behind tokens f e = go (is_keyword text) refl
  where
    go : (b : Bool) → is_keyword text ≡ b → is_keyword text ≡ false
    go true h = absurd (let both : false ≡ true = ap not (sym h) ∙ sym (ap starts_expression f) ∙ e in cc)
    go false h = h

-- an expression statement begins with no keyword
pub act_no_word : {P : Type 0} (text : List ℕ) (at : Place) (behind tokens rest : List Terminal) (all : List ActionTree) → tokens ≡ word text at ∷ behind → is_keyword text ≡ true → ActionsUpTo p.Semicolon tokens all rest → P
act_no_word text at behind tokens rest all f kw c = absurd (go (actions_form p.Semicolon tokens rest all c))
  where
    go : ActionsForm p.Semicolon tokens all rest → ⊥
    go (no_actions at' e i) = sign_no_word p.Semicolon text at' at rest behind (sym e ∙ f)
    go (some_actions l) = let both : true ≡ false = sym kw ∙ word_starts text at behind tokens f (listed_starts p.Semicolon l) in cc

pub keyword_of_keyword : (text : List ℕ) (keyword : Keyword) → keyword_of text ≡ Some keyword → is_keyword text ≡ true
keyword_of_keyword text keyword e = ap is_keyword (keyword_text_of text keyword e) ∙ keyword_is_keyword keyword

brace_no_expression : {P : Type 0} (at : Place) (inside tokens rest : List Terminal) (all : List ActionTree) → tokens ≡ sign p.LeftBrace at ∷ inside → ActionsUpTo p.Semicolon tokens all rest → P
brace_no_expression at inside tokens rest all f c = absurd (go (actions_form p.Semicolon tokens rest all c))
  where
    go : ActionsForm p.Semicolon tokens all rest → ⊥
    go (no_actions at' e i) = let h : p.LeftBrace ≡ p.Semicolon = (signs p.LeftBrace p.Semicolon at at' inside rest (sym f ∙ e)).0 in cc
    go (some_actions l) = let both : false ≡ true = ap starts_expression (sym f) ∙ listed_starts p.Semicolon l in cc

pub brace_no_act : {P : Type 0} (at : Place) (inside tokens rest : List Terminal) (all : List ActionTree) → tokens ≡ sign p.LeftBrace at ∷ inside → ActionsUpTo p.Semicolon tokens all rest → P
brace_no_act at inside tokens rest all f c = brace_no_expression at inside tokens rest all f c

act_no_kind : (tokens rest : List Terminal) (all : List ActionTree) → ActionsUpTo p.Semicolon tokens all rest → starts_kind tokens ≡ false
act_no_kind tokens rest all c = go (actions_form p.Semicolon tokens rest all c)
  where
    either : (b : Bool) → starts_kind tokens ≡ b → starts_expression tokens ≡ true → starts_kind tokens ≡ false
    either true h e = absurd (kind_no_expression tokens h e)
    either false h e = h

    go : ActionsForm p.Semicolon tokens all rest → starts_kind tokens ≡ false
    go (no_actions at e i) = ap starts_kind e
    go (some_actions l) = either (starts_kind tokens) refl (listed_starts p.Semicolon l)

pub statement_no_kind : (tokens rest : List Terminal) (stmt : StmtTree) → Statement tokens stmt rest → starts_kind tokens ≡ false
statement_no_kind tokens rest stmt d = go (statement_form tokens rest stmt d)
  where
    go : StatementForm tokens stmt rest → starts_kind tokens ≡ false
    go (by_keyword keyword at behind f b) = ap starts_kind f ∙ keyword_no_kind keyword
    go (is_block at inside body f l is) = ap starts_kind f
    go (is_act all c is) = act_no_kind tokens rest all c

-- an expression does not begin with `else`
expression_no_else : (tokens : List Terminal) → starts_expression tokens ≡ true → begins_else tokens ≡ false
expression_no_else [] e = refl
expression_no_else (t ∷ ts) e = go t.kind refl
  where
    text_case : (text : List ℕ) → t.kind ≡ k.Word text → (b : Bool) → bytes_eq text (codes "else") ≡ b → s.else_kind (k.Word text) ≡ false
    text_case text f true h =
        let kw : is_keyword text ≡ true = ap is_keyword ((bytes_eq-Decides text (codes "else")).0 h) in
        absurd (let both : false ≡ true = ap not (sym kw) ∙ ap (λ x. starts_expression (record { kind = x; at = t.at } ∷ ts)) (sym f) ∙ e in cc)
    text_case text f false h = h

    go : (kind : TokenKind) → t.kind ≡ kind → s.else_kind t.kind ≡ false
    go (k.Word text) f = ap s.else_kind f ∙ text_case text f (bytes_eq text (codes "else")) refl
    go (k.Number value kind) f = ap s.else_kind f
    go (k.Punct punct) f = ap s.else_kind f
    go (k.TypeWord kind) f = ap s.else_kind f

kind_no_else : (tokens : List Terminal) → starts_kind tokens ≡ true → begins_else tokens ≡ false
kind_no_else [] e = refl
kind_no_else (t ∷ ts) e = go t.kind refl
  where
    text_case : (text : List ℕ) → t.kind ≡ k.Word text → (b : Bool) → bytes_eq text (codes "else") ≡ b → s.else_kind (k.Word text) ≡ false
    text_case text f true h =
        let is : text ≡ codes "else" = (bytes_eq-Decides text (codes "else")).0 h in
        absurd (let both : false ≡ true = ap (λ x. is_some (kind_word_of_text x)) (sym is) ∙ ap (λ x. starts_kind (record { kind = x; at = t.at } ∷ ts)) (sym f) ∙ e in cc)
    text_case text f false h = h

    go : (kind : TokenKind) → t.kind ≡ kind → s.else_kind t.kind ≡ false
    go (k.Word text) f = ap s.else_kind f ∙ text_case text f (bytes_eq text (codes "else")) refl
    go (k.Number value kind) f = ap s.else_kind f
    go (k.Punct punct) f = ap s.else_kind f
    go (k.TypeWord kind) f = ap s.else_kind f

act_no_else : (tokens rest : List Terminal) (all : List ActionTree) → ActionsUpTo p.Semicolon tokens all rest → begins_else tokens ≡ false
act_no_else tokens rest all c = go (actions_form p.Semicolon tokens rest all c)
  where
    go : ActionsForm p.Semicolon tokens all rest → begins_else tokens ≡ false
    go (no_actions at e i) = ap begins_else e
    go (some_actions l) = expression_no_else tokens (listed_starts p.Semicolon l)

statement_no_else : (tokens rest : List Terminal) (stmt : StmtTree) → StatementForm tokens stmt rest → begins_else tokens ≡ false
statement_no_else tokens rest stmt (by_keyword keyword at behind f b) = ap begins_else f ∙ keyword_no_else keyword
statement_no_else tokens rest stmt (is_block at inside body f l is) = ap begins_else f
statement_no_else tokens rest stmt (is_act all c is) = act_no_else tokens rest all c

local_no_else : {tokens : List Terminal} {stmt : StmtTree} {rest : List Terminal} → Local tokens stmt rest → begins_else tokens ≡ false
local_no_else {tokens} {stmt} {rest} (s.a_statement d) = statement_no_else tokens rest stmt (statement_form tokens rest stmt d)
local_no_else {tokens} {stmt} {rest} (s.objects all d is) = kind_no_else tokens (declaration_starts tokens rest all d)

body_no_else : {here : List Terminal} {all : List StmtTree} {end : List Terminal} → BodyUpTo here all end → begins_else here ≡ false
body_no_else (r.stop here end c) = ap begins_else c.1
body_no_else (r.more here a middle others end l b) = local_no_else l

-- what follows a statement in a block is no `else`
pub body_apart : (a : StmtTree) (here : List Terminal) (all : List StmtTree) (end : List Terminal) → BodyUpTo here all end → ElseFits a here
body_apart a here all end b e = absurd (let both : false ≡ true = sym (body_no_else b) ∙ e in cc)
