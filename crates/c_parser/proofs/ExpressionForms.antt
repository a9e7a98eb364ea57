-- What an expression of each level is, and what it begins with.
use Rattle.std.proofs.Common.{◌≡◌, ◌∙◌, ℕ, suc, sym, refl, ap, subst, Bool, true, false, List, [], ◌∷◌, ◌++◌, Option, Some, append_assoc, arith}
use Rattle.hls_base.specs.declared.place.Place.{Place}
use Rattle.c_token.specs.declared.ctype.CType.{CType}
use Rattle.c_token.specs.declared.punct.Punct.{Punct}
use Rattle.c_token.specs.declared.punct.Punct.TheVariants as p
use Rattle.c_token.specs.declared.token.TokenKind.TheVariants as k
use Rattle.c_tree.specs.declared.operator.Unary.{Unary}
use Rattle.c_tree.specs.declared.operator.Binary.{Binary}
use Rattle.c_tree.specs.Tree as tree
use Rattle.c_tree.specs.Tree.{Tree, TargetTree, Trees, row}
use Rattle.c_tree.specs.Terminals.{Terminal, terminal, sign, word, is_keyword, prefix_of, assignment_of, bump_of}
use Rattle.c_tree.specs.Grammar.{level_of, Derives, DerivesTarget, DerivesSubscripts, DerivesArguments, DerivesList}
use Rattle.c_tree.specs.Grammar as g
use Rattle.c_parser.specs.Cursor.Readings.{Reads, Closed}
use Rattle.c_parser.specs.Expressions.{Expression, Lvalue, Subscripts, Arguments, Named, Chosen, Cast, element, bare_target, target_in}
use Rattle.c_parser.specs.Expressions as x
use Rattle.c_parser.proofs.Levels.{level-long, level-short}

-- ---- rows of trees

abbrev pub unrow : Trees → List Tree
unrow tree.none = []
unrow (tree.more t ts) = t ∷ unrow ts

pub row-unrow : (ts : Trees) → row (unrow ts) ≡ ts
row-unrow tree.none = refl
row-unrow (tree.more t ts) = ap (tree.more t) (row-unrow ts)

-- ---- what a sign closes

pub shut : {A : Type 0} {P : List Terminal → A → Type 0} (closer : Punct) (at : Place) (ts rest inside : List Terminal) (a : A) → inside ≡ (ts ++ sign closer at ∷ []) ++ rest → P ts a → Closed (Reads P) closer inside a rest
shut closer at ts rest inside a e d = record {
  first = a;
  second = at;
  middle = sign closer at ∷ rest;
  begins = record { taken = ts; split = e ∙ append_assoc ts (sign closer at ∷ []) rest; derives = d };
  goes_on = refl;
  whole = refl;
}

pub record Opened {A : Type 0} (P : List Terminal → A → Type 0) (closer : Punct) (inside : List Terminal) (a : A) (rest : List Terminal) : Type 0 where
  pub ts : List Terminal
  pub at : Place
  pub split : inside ≡ (ts ++ sign closer at ∷ []) ++ rest
  pub derives : P ts a

pub unshut : {A : Type 0} {P : List Terminal → A → Type 0} (closer : Punct) (inside rest : List Terminal) (a : A) → Closed (Reads P) closer inside a rest → Opened P closer inside a rest
unshut {P = P} closer inside rest a c = record {
  ts = c.begins.taken;
  at = c.second;
  split = c.begins.split ∙ ap (λ m. c.begins.taken ++ m) c.goes_on ∙ sym (append_assoc c.begins.taken (sign closer c.second ∷ []) rest);
  derives = subst (λ y. P c.begins.taken y) (sym c.whole) c.begins.derives;
}

-- ---- the forms

pub data Primary (tokens : List Terminal) (e : Tree) (rest : List Terminal) : Type 0 where
  is_number : (value : ℕ) (kind : CType) (at : Place) → tokens ≡ terminal (k.Number value kind) at ∷ rest → e ≡ tree.number value kind at → Primary tokens e rest
  is_named : (text : List ℕ) (at : Place) (behind : List Terminal) → tokens ≡ word text at ∷ behind → is_keyword text ≡ false → Named text at behind e rest → Primary tokens e rest
  is_group : (opens : Place) (inside : List Terminal) → tokens ≡ sign p.LeftParen opens ∷ inside → Closed (Expression 15) p.RightParen inside e rest → Primary tokens e rest

pub primary_form : {n : ℕ} {ts : List Terminal} {e : Tree} (tokens rest : List Terminal) → n ≡ 0 → tokens ≡ ts ++ rest → Derives n ts e → Primary tokens e rest
primary_form tokens rest z e (g.a_number value kind at) = is_number value kind at e refl
primary_form tokens rest z e (g.a_name text at kw) = is_named text at rest e kw (x.alone rest [] rest (record { taken = []; split = refl; derives = g.no_subscript }))
primary_form tokens rest z e (g.an_element text at ts first others kw d) = is_named text at (ts ++ rest) e kw
    (subst (λ y. Named text at (ts ++ rest) (tree.index text (tree.more first y) at) rest) (row-unrow others)
    (x.alone (ts ++ rest) (first ∷ unrow others) rest (record { taken = ts; split = refl; derives = subst (λ y. DerivesSubscripts ts (tree.more first y)) (sym (row-unrow others)) d })))
primary_form tokens rest z e (g.a_call callee at opens closes ts args kw d) =
    let inside = (ts ++ sign p.RightParen closes ∷ []) ++ rest in
    is_named callee at (sign p.LeftParen opens ∷ inside) e kw
    (subst (λ y. Named callee at (sign p.LeftParen opens ∷ inside) (tree.call callee y at) rest) (row-unrow args)
    (x.called (sign p.LeftParen opens ∷ inside) opens inside (unrow args) rest refl
    (shut p.RightParen closes ts rest inside (unrow args) refl (subst (λ y. DerivesArguments ts y) (sym (row-unrow args)) d))))
primary_form tokens rest z e (g.a_group opens closes ts inner d) = is_group opens ((ts ++ sign p.RightParen closes ∷ []) ++ rest) e (shut p.RightParen closes ts rest _ inner refl d)
primary_form tokens rest z e (g.a_bump_behind punct up at ts lvalue b d) = absurd (omega arith)
primary_form tokens rest z e (g.a_prefix punct op at ts arg o d) = absurd (omega arith)
primary_form tokens rest z e (g.a_bump_before punct up at ts lvalue b d) = absurd (omega arith)
primary_form tokens rest z e (g.a_cast at closes ks ts kind constant arg kd d) = absurd (omega arith)
primary_form tokens rest z e (g.an_operator punct op at n ls rs left right o l d f) = absurd (omega arith)
primary_form tokens rest z e (g.a_choice at colon ts ys ns test left right d f h) = absurd (omega arith)
primary_form tokens rest z e (g.an_assignment punct op at ts vs lvalue value a d f) = absurd (omega arith)
primary_form tokens rest z e (g.a_comma at ls rs left right d f) = absurd (omega arith)
primary_form tokens rest z e (g.a_tighter n ts inner d) = absurd (omega arith)

none_taken : {ts : List Terminal} {es : Trees} → es ≡ tree.none → DerivesSubscripts ts es → ts ≡ []
none_taken e g.no_subscript = refl
none_taken e (g.a_subscript opens closes ts us first rest d ds) = absurd cc

named_back : {behind : List Terminal} {e : Tree} {rest : List Terminal} (text : List ℕ) (at : Place) (tokens : List Terminal) → tokens ≡ word text at ∷ behind → is_keyword text ≡ false → Named text at behind e rest → Expression 0 tokens e rest
named_back text at tokens f kw (x.called behind opens inside args rest i c) =
    let o = unshut p.RightParen inside rest args c in record {
      taken = word text at ∷ sign p.LeftParen opens ∷ (o.ts ++ sign p.RightParen o.at ∷ []);
      split = f ∙ ap (λ y. word text at ∷ y) (i ∙ ap (λ y. sign p.LeftParen opens ∷ y) o.split);
      derives = g.a_call text at opens o.at o.ts (row args) kw o.derives;
    }
named_back text at tokens f kw (x.alone behind [] rest s) =
    let bare : behind ≡ rest = s.split ∙ ap (λ y. y ++ rest) (none_taken refl s.derives) in record {
      taken = word text at ∷ [];
      split = f ∙ ap (λ y. word text at ∷ y) bare;
      derives = g.a_name text at kw;
    }
named_back text at tokens f kw (x.alone behind (first ∷ others) rest s) = record {
  taken = word text at ∷ s.taken;
  split = f ∙ ap (λ y. word text at ∷ y) s.split;
  derives = g.an_element text at s.taken first (row others) kw s.derives;
}

pub primary_back : (tokens : List Terminal) (e : Tree) (rest : List Terminal) → Primary tokens e rest → Expression 0 tokens e rest
primary_back tokens e rest (is_number value kind at f is) = record {
  taken = terminal (k.Number value kind) at ∷ [];
  split = f;
  derives = subst (λ y. Derives 0 (terminal (k.Number value kind) at ∷ []) y) (sym is) (g.a_number value kind at);
}
primary_back tokens e rest (is_named text at behind f kw n) = named_back text at tokens f kw n
primary_back tokens e rest (is_group opens inside f c) =
    let o = unshut p.RightParen inside rest e c in record {
      taken = sign p.LeftParen opens ∷ (o.ts ++ sign p.RightParen o.at ∷ []);
      split = f ∙ ap (λ y. sign p.LeftParen opens ∷ y) o.split;
      derives = g.a_group opens o.at o.ts e o.derives;
    }

tight : (n m : ℕ) {ts : List Terminal} {e : Tree} (tokens rest : List Terminal) → n ≡ m → tokens ≡ ts ++ rest → Derives n ts e → Expression m tokens e rest
tight n m {ts} {e} tokens rest z f d = record { taken = ts; split = f; derives = subst (λ j. Derives j ts e) z d }

pub loosened : (n : ℕ) (tokens : List Terminal) (e : Tree) (rest : List Terminal) → Expression n tokens e rest → Expression (suc n) tokens e rest
loosened n tokens e rest r = record { taken = r.taken; split = r.split; derives = g.a_tighter n r.taken e r.derives }

-- `++` or `--` behind
pub data Postfix (tokens : List Terminal) (e : Tree) (rest : List Terminal) : Type 0 where
  bumped : (punct : Punct) (up : Bool) (at : Place) (lvalue : TargetTree) → bump_of punct ≡ Some up → Lvalue tokens lvalue (sign punct at ∷ rest) → e ≡ tree.bump lvalue up true at → Postfix tokens e rest
  plain : Expression 0 tokens e rest → Postfix tokens e rest

pub postfix_form : {n : ℕ} {ts : List Terminal} {e : Tree} (tokens rest : List Terminal) → n ≡ 1 → tokens ≡ ts ++ rest → Derives n ts e → Postfix tokens e rest
postfix_form tokens rest z e (g.a_number value kind at) = absurd (omega arith)
postfix_form tokens rest z e (g.a_name text at kw) = absurd (omega arith)
postfix_form tokens rest z e (g.an_element text at ts first others kw d) = absurd (omega arith)
postfix_form tokens rest z e (g.a_call callee at opens closes ts args kw d) = absurd (omega arith)
postfix_form tokens rest z e (g.a_group opens closes ts inner d) = absurd (omega arith)
postfix_form tokens rest z e (g.a_bump_behind punct up at ts lvalue b d) = bumped punct up at lvalue b (record { taken = ts; split = e ∙ append_assoc ts (sign punct at ∷ []) rest; derives = d }) refl
postfix_form tokens rest z e (g.a_prefix punct op at ts arg o d) = absurd (omega arith)
postfix_form tokens rest z e (g.a_bump_before punct up at ts lvalue b d) = absurd (omega arith)
postfix_form tokens rest z e (g.a_cast at closes ks ts kind constant arg kd d) = absurd (omega arith)
postfix_form tokens rest z e (g.an_operator punct op at n ls rs left right o l d f) = absurd (omega (arith, level-long op))
postfix_form tokens rest z e (g.a_choice at colon ts ys ns test left right d f h) = absurd (omega arith)
postfix_form tokens rest z e (g.an_assignment punct op at ts vs lvalue value a d f) = absurd (omega arith)
postfix_form tokens rest z e (g.a_comma at ls rs left right d f) = absurd (omega arith)
postfix_form tokens rest z e (g.a_tighter n ts inner d) = plain (tight n 0 tokens rest (omega arith) e d)

pub bumped_back : (punct : Punct) (up : Bool) (at : Place) (lvalue : TargetTree) (tokens rest : List Terminal) → bump_of punct ≡ Some up → Lvalue tokens lvalue (sign punct at ∷ rest) → Expression 1 tokens (tree.bump lvalue up true at) rest
bumped_back punct up at lvalue tokens rest b l = record {
  taken = l.taken ++ sign punct at ∷ [];
  split = l.split ∙ sym (append_assoc l.taken (sign punct at ∷ []) rest);
  derives = g.a_bump_behind punct up at l.taken lvalue b l.derives;
}

-- operators and casts before
pub data Before (tokens : List Terminal) (e : Tree) (rest : List Terminal) : Type 0 where
  prefixed : (punct : Punct) (op : Unary) (at : Place) (inside : List Terminal) (arg : Tree) → tokens ≡ sign punct at ∷ inside → prefix_of punct ≡ Some op → Expression 2 inside arg rest → e ≡ tree.unary op arg at → Before tokens e rest
  bumped_first : (punct : Punct) (up : Bool) (at : Place) (inside : List Terminal) (lvalue : TargetTree) → tokens ≡ sign punct at ∷ inside → bump_of punct ≡ Some up → Lvalue inside lvalue rest → e ≡ tree.bump lvalue up false at → Before tokens e rest
  is_cast : (at : Place) (inside : List Terminal) → tokens ≡ sign p.LeftParen at ∷ inside → Cast at inside e rest → Before tokens e rest
  unprefixed : Expression 1 tokens e rest → Before tokens e rest

pub before_form : {n : ℕ} {ts : List Terminal} {e : Tree} (tokens rest : List Terminal) → n ≡ 2 → tokens ≡ ts ++ rest → Derives n ts e → Before tokens e rest
before_form tokens rest z e (g.a_number value kind at) = absurd (omega arith)
before_form tokens rest z e (g.a_name text at kw) = absurd (omega arith)
before_form tokens rest z e (g.an_element text at ts first others kw d) = absurd (omega arith)
before_form tokens rest z e (g.a_call callee at opens closes ts args kw d) = absurd (omega arith)
before_form tokens rest z e (g.a_group opens closes ts inner d) = absurd (omega arith)
before_form tokens rest z e (g.a_bump_behind punct up at ts lvalue b d) = absurd (omega arith)
before_form tokens rest z e (g.a_prefix punct op at ts arg o d) = prefixed punct op at (ts ++ rest) arg e o (record { taken = ts; split = refl; derives = d }) refl
before_form tokens rest z e (g.a_bump_before punct up at ts lvalue b d) = bumped_first punct up at (ts ++ rest) lvalue e b (record { taken = ts; split = refl; derives = d }) refl
before_form tokens rest z e (g.a_cast at closes ks ts kind constant arg kd d) = is_cast at ((ks ++ sign p.RightParen closes ∷ ts) ++ rest) e (record {
  first = record { kind = kind; constant = constant };
  second = arg;
  middle = ts ++ rest;
  begins = record {
    first = record { kind = kind; constant = constant };
    second = closes;
    middle = sign p.RightParen closes ∷ (ts ++ rest);
    begins = record { taken = ks; split = append_assoc ks (sign p.RightParen closes ∷ ts) rest; derives = kd };
    goes_on = refl;
    whole = refl;
  };
  goes_on = record { taken = ts; split = refl; derives = d };
  whole = refl;
})
before_form tokens rest z e (g.an_operator punct op at n ls rs left right o l d f) = absurd (omega (arith, level-long op))
before_form tokens rest z e (g.a_choice at colon ts ys ns test left right d f h) = absurd (omega arith)
before_form tokens rest z e (g.an_assignment punct op at ts vs lvalue value a d f) = absurd (omega arith)
before_form tokens rest z e (g.a_comma at ls rs left right d f) = absurd (omega arith)
before_form tokens rest z e (g.a_tighter n ts inner d) = unprefixed (tight n 1 tokens rest (omega arith) e d)

pub prefixed_back : (punct : Punct) (op : Unary) (at : Place) (tokens inside rest : List Terminal) (arg : Tree) → tokens ≡ sign punct at ∷ inside → prefix_of punct ≡ Some op → Expression 2 inside arg rest → Expression 2 tokens (tree.unary op arg at) rest
prefixed_back punct op at tokens inside rest arg e o r = record { taken = sign punct at ∷ r.taken; split = e ∙ ap (λ y. sign punct at ∷ y) r.split; derives = g.a_prefix punct op at r.taken arg o r.derives }

pub bumped_first_back : (punct : Punct) (up : Bool) (at : Place) (tokens inside rest : List Terminal) (lvalue : TargetTree) → tokens ≡ sign punct at ∷ inside → bump_of punct ≡ Some up → Lvalue inside lvalue rest → Expression 2 tokens (tree.bump lvalue up false at) rest
bumped_first_back punct up at tokens inside rest lvalue e b r = record { taken = sign punct at ∷ r.taken; split = e ∙ ap (λ y. sign punct at ∷ y) r.split; derives = g.a_bump_before punct up at r.taken lvalue b r.derives }

pub cast_back : (at : Place) (tokens inside rest : List Terminal) (e : Tree) → tokens ≡ sign p.LeftParen at ∷ inside → Cast at inside e rest → Expression 2 tokens e rest
cast_back at tokens inside rest e f c =
    let o = unshut p.RightParen inside c.middle c.first c.begins in
    let r = c.goes_on in
    let split : inside ≡ (o.ts ++ sign p.RightParen o.at ∷ r.taken) ++ rest =
    o.split ∙ append_assoc o.ts (sign p.RightParen o.at ∷ []) c.middle ∙ ap (λ y. o.ts ++ sign p.RightParen o.at ∷ y) r.split ∙ sym (append_assoc o.ts (sign p.RightParen o.at ∷ r.taken) rest) in
    record {
      taken = sign p.LeftParen at ∷ (o.ts ++ sign p.RightParen o.at ∷ r.taken);
      split = f ∙ ap (λ y. sign p.LeftParen at ∷ y) split;
      derives = subst (λ y. Derives 2 (sign p.LeftParen at ∷ (o.ts ++ sign p.RightParen o.at ∷ r.taken)) y) (sym c.whole)
          (g.a_cast at o.at o.ts r.taken c.first.kind c.first.constant c.second o.derives r.derives);
    }

-- `?:`
pub data Either (tokens : List Terminal) (e : Tree) (rest : List Terminal) : Type 0 where
  by_test : (test : Tree) (at : Place) (inside : List Terminal) → Expression 12 tokens test (sign p.Question at ∷ inside) → Chosen test at inside e rest → Either tokens e rest
  without : Expression 12 tokens e rest → Either tokens e rest

pub either_form : {n : ℕ} {ts : List Terminal} {e : Tree} (tokens rest : List Terminal) → n ≡ 13 → tokens ≡ ts ++ rest → Derives n ts e → Either tokens e rest
either_form tokens rest z e (g.a_number value kind at) = absurd (omega arith)
either_form tokens rest z e (g.a_name text at kw) = absurd (omega arith)
either_form tokens rest z e (g.an_element text at ts first others kw d) = absurd (omega arith)
either_form tokens rest z e (g.a_call callee at opens closes ts args kw d) = absurd (omega arith)
either_form tokens rest z e (g.a_group opens closes ts inner d) = absurd (omega arith)
either_form tokens rest z e (g.a_bump_behind punct up at ts lvalue b d) = absurd (omega arith)
either_form tokens rest z e (g.a_prefix punct op at ts arg o d) = absurd (omega arith)
either_form tokens rest z e (g.a_bump_before punct up at ts lvalue b d) = absurd (omega arith)
either_form tokens rest z e (g.a_cast at closes ks ts kind constant arg kd d) = absurd (omega arith)
either_form tokens rest z e (g.an_operator punct op at n ls rs left right o l d f) = absurd (omega (arith, level-short op))
either_form tokens rest z e (g.a_choice at colon ts ys ns test left right d f h) = by_test test at ((ys ++ sign p.Colon colon ∷ ns) ++ rest)
    (record { taken = ts; split = e ∙ append_assoc ts (sign p.Question at ∷ (ys ++ sign p.Colon colon ∷ ns)) rest; derives = d })
    (record {
      first = left;
      second = tree.choice test left right at colon;
      middle = sign p.Colon colon ∷ (ns ++ rest);
      begins = record { taken = ys; split = append_assoc ys (sign p.Colon colon ∷ ns) rest; derives = f };
      goes_on = record { first = colon; second = right; middle = ns ++ rest; begins = refl; goes_on = record { taken = ns; split = refl; derives = h }; whole = refl };
      whole = refl;
    })
either_form tokens rest z e (g.an_assignment punct op at ts vs lvalue value a d f) = absurd (omega arith)
either_form tokens rest z e (g.a_comma at ls rs left right d f) = absurd (omega arith)
either_form tokens rest z e (g.a_tighter n ts inner d) = without (tight n 12 tokens rest (omega arith) e d)

pub by_test_back : (test : Tree) (at : Place) (tokens inside rest : List Terminal) (e : Tree) → Expression 12 tokens test (sign p.Question at ∷ inside) → Chosen test at inside e rest → Expression 13 tokens e rest
by_test_back test at tokens inside rest e r c =
    let y = c.begins in
    let s = c.goes_on in
    let n = s.goes_on in
    let middle : c.middle ≡ sign p.Colon s.first ∷ (n.taken ++ rest) = s.begins ∙ ap (λ z. sign p.Colon s.first ∷ z) n.split in
    let behind : inside ≡ (y.taken ++ sign p.Colon s.first ∷ n.taken) ++ rest =
    y.split ∙ ap (λ z. y.taken ++ z) middle ∙ sym (append_assoc y.taken (sign p.Colon s.first ∷ n.taken) rest) in
    let all = r.taken ++ sign p.Question at ∷ (y.taken ++ sign p.Colon s.first ∷ n.taken) in
    record {
      taken = all;
      split = r.split ∙ ap (λ z. r.taken ++ sign p.Question at ∷ z) behind ∙ sym (append_assoc r.taken (sign p.Question at ∷ (y.taken ++ sign p.Colon s.first ∷ n.taken)) rest);
      derives = subst (λ z. Derives 13 all z) (sym (c.whole ∙ s.whole)) (g.a_choice at s.first r.taken y.taken n.taken test c.first s.second r.derives y.derives n.derives);
    }

-- assignment
pub data Setting (tokens : List Terminal) (e : Tree) (rest : List Terminal) : Type 0 where
  set : (punct : Punct) (op : Option Binary) (at : Place) (inside : List Terminal) (lvalue : TargetTree) (value : Tree) → assignment_of punct ≡ Some op → Lvalue tokens lvalue (sign punct at ∷ inside) → Expression 14 inside value rest → e ≡ tree.assign lvalue op value at → Setting tokens e rest
  unset : Expression 13 tokens e rest → Setting tokens e rest

pub setting_form : {n : ℕ} {ts : List Terminal} {e : Tree} (tokens rest : List Terminal) → n ≡ 14 → tokens ≡ ts ++ rest → Derives n ts e → Setting tokens e rest
setting_form tokens rest z e (g.a_number value kind at) = absurd (omega arith)
setting_form tokens rest z e (g.a_name text at kw) = absurd (omega arith)
setting_form tokens rest z e (g.an_element text at ts first others kw d) = absurd (omega arith)
setting_form tokens rest z e (g.a_call callee at opens closes ts args kw d) = absurd (omega arith)
setting_form tokens rest z e (g.a_group opens closes ts inner d) = absurd (omega arith)
setting_form tokens rest z e (g.a_bump_behind punct up at ts lvalue b d) = absurd (omega arith)
setting_form tokens rest z e (g.a_prefix punct op at ts arg o d) = absurd (omega arith)
setting_form tokens rest z e (g.a_bump_before punct up at ts lvalue b d) = absurd (omega arith)
setting_form tokens rest z e (g.a_cast at closes ks ts kind constant arg kd d) = absurd (omega arith)
setting_form tokens rest z e (g.an_operator punct op at n ls rs left right o l d f) = absurd (omega (arith, level-short op))
setting_form tokens rest z e (g.a_choice at colon ts ys ns test left right d f h) = absurd (omega arith)
setting_form tokens rest z e (g.an_assignment punct op at ts vs lvalue value a d f) = set punct op at (vs ++ rest) lvalue value a
    (record { taken = ts; split = e ∙ append_assoc ts (sign punct at ∷ vs) rest; derives = d }) (record { taken = vs; split = refl; derives = f }) refl
setting_form tokens rest z e (g.a_comma at ls rs left right d f) = absurd (omega arith)
setting_form tokens rest z e (g.a_tighter n ts inner d) = unset (tight n 13 tokens rest (omega arith) e d)

pub set_back : (punct : Punct) (op : Option Binary) (at : Place) (tokens inside rest : List Terminal) (lvalue : TargetTree) (value : Tree) → assignment_of punct ≡ Some op → Lvalue tokens lvalue (sign punct at ∷ inside) → Expression 14 inside value rest → Expression 14 tokens (tree.assign lvalue op value at) rest
set_back punct op at tokens inside rest lvalue value a l r = record {
  taken = l.taken ++ sign punct at ∷ r.taken;
  split = l.split ∙ ap (λ z. l.taken ++ sign punct at ∷ z) r.split ∙ sym (append_assoc l.taken (sign punct at ∷ r.taken) rest);
  derives = g.an_assignment punct op at l.taken r.taken lvalue value a l.derives r.derives;
}
