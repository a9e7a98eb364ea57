-- Lists of expressions: arguments and subscripts.
use Rattle.std.proofs.Common.{◌≡◌, ◌∙◌, ◌<◌, sym, refl, ap, subst, true, false, List, [], ◌∷◌, ◌++◌, append_assoc, arith}
use Rattle.hls_base.specs.declared.place.Place.{Place}
use Rattle.c_token.specs.declared.punct.Punct.{Punct}
use Rattle.c_token.specs.declared.punct.Punct.TheVariants as p
use Rattle.c_tree.specs.Tree as tree
use Rattle.c_tree.specs.Tree.{Tree, Trees, row}
use Rattle.c_tree.specs.Terminals.{Terminal, sign}
use Rattle.c_tree.specs.Grammar.{Derives, DerivesSubscripts, DerivesArguments, DerivesList}
use Rattle.c_tree.specs.Grammar as g
use Rattle.c_parser.specs.Cursor.Readings.{Reads, Found, Never, Anywhere, Ends, Sequence, Closed, Sign, Lacks, Listed, Repeated, joins, snd}
use Rattle.c_parser.specs.Cursor.Readings as r
use Rattle.c_parser.specs.Expressions.{Expression, Subscripts, Arguments, DerivesArgumentList}
use Rattle.c_parser.proofs.CursorLemmas.Readings.{signs, Step, repeated_last}
use Rattle.c_parser.proofs.ExpressionForms.{unrow, shut, Opened, unshut}
use Rattle.c_parser.proofs.Beginnings.{starts_expression, expression_starts}

-- ---- arguments

-- one argument or more
pub listed_of_list : {ts : List Terminal} {args : Trees} (closer : Punct) (closes : Place) (rest : List Terminal) → DerivesList ts args → Listed (Expression 14) closer (ts ++ sign closer closes ∷ rest) (unrow args) rest
listed_of_list closer closes rest (g.last ts arg d) = r.last _ arg closes rest (record { taken = ts; split = refl; derives = d })
listed_of_list closer closes rest (g.and_more at ts us arg args d ds) =
    r.more _ arg at (us ++ sign closer closes ∷ rest) (unrow args) rest (record { taken = ts; split = append_assoc ts (sign p.Comma at ∷ us) (sign closer closes ∷ rest); derives = d }) (listed_of_list closer closes rest ds)

abbrev pub DerivesRow : List Terminal → List Tree → Type 0
DerivesRow ts es = DerivesList ts (row es)

pub list_of_listed : (closer : Punct) {tokens : List Terminal} {es : List Tree} {rest : List Terminal} → Listed (Expression 14) closer tokens es rest → Opened DerivesRow closer tokens es rest
list_of_listed closer (r.last tokens a at rest d) = record {
  ts = d.taken;
  at = at;
  split = d.split ∙ sym (append_assoc d.taken (sign closer at ∷ []) rest);
  derives = g.last d.taken a d.derives;
}
list_of_listed closer (r.more tokens a at middle others rest d l) =
    let o = list_of_listed closer l in
    let ts = d.taken ++ sign p.Comma at ∷ o.ts in
    record {
      ts = ts;
      at = o.at;
      split = d.split ∙ ap (λ y. d.taken ++ sign p.Comma at ∷ y) o.split ∙ sym (append_assoc d.taken (sign p.Comma at ∷ (o.ts ++ sign closer o.at ∷ [])) rest)
          ∙ ap (λ y. y ++ rest) (sym (append_assoc d.taken (sign p.Comma at ∷ o.ts) (sign closer o.at ∷ [])));
      derives = g.and_more at d.taken o.ts a (row others) d.derives o.derives;
    }

arguments_into : (tokens : List Terminal) (es : List Tree) (end : List Terminal) → Lacks p.RightParen tokens → Opened DerivesArgumentList p.RightParen tokens es end → Listed (Expression 14) p.RightParen tokens es end
arguments_into tokens es end lacks o = go o.split refl o.derives
  where
    flat : (ts : List Terminal) → tokens ≡ (ts ++ sign p.RightParen o.at ∷ []) ++ end → tokens ≡ ts ++ sign p.RightParen o.at ∷ end
    flat ts e = e ∙ append_assoc ts (sign p.RightParen o.at ∷ []) end

    unrow-row : (xs : List Tree) → unrow (row xs) ≡ xs
    unrow-row [] = refl
    unrow-row (x ∷ xs) = ap (λ y. x ∷ y) (unrow-row xs)

    go : {ts : List Terminal} {us : Trees} → tokens ≡ (ts ++ sign p.RightParen o.at ∷ []) ++ end → us ≡ row es → DerivesArguments ts us → Listed (Expression 14) p.RightParen tokens es end
    go e is g.no_argument = absurd (lacks o.at end e)
    go e is (g.arguments ts us d) =
        subst (λ y. Listed (Expression 14) p.RightParen y es end) (sym (flat ts e))
        (subst (λ y. Listed (Expression 14) p.RightParen (ts ++ sign p.RightParen o.at ∷ end) y end) (ap unrow is ∙ unrow-row es) (listed_of_list p.RightParen o.at end d))

pub arguments_step : (tokens here : List Terminal) → here ≡ tokens → Lacks p.RightParen tokens → Step Arguments Anywhere tokens (Listed (Expression 14) p.RightParen) Anywhere here (λ es. es)
arguments_step tokens here is lacks = record {
  into = λ others es end same a ends.
      let a' = subst (λ y. Arguments y es end) (same ∙ sym is) a in
      (es, refl, arguments_into here es end (subst (λ y. Lacks p.RightParen y) (sym is) lacks) (unshut p.RightParen here end es a'), tt);
  back = λ es end l. let o = list_of_listed p.RightParen (subst (λ y. Listed (Expression 14) p.RightParen y es end) is l) in
      shut p.RightParen o.at o.ts end tokens es o.split (g.arguments o.ts (row es) o.derives);
}

no_list : {ts : List Terminal} {es : Trees} (rest : List Terminal) → DerivesList ts es → starts_expression (ts ++ rest) ≡ true
no_list rest (g.last ts arg d) = expression_starts 14 (ts ++ rest) arg rest (record { taken = ts; split = refl; derives = d })
no_list rest (g.and_more at ts us arg args d ds) =
    expression_starts 14 ((ts ++ sign p.Comma at ∷ us) ++ rest) arg _ (record { taken = ts; split = append_assoc ts (sign p.Comma at ∷ us) rest; derives = d })

none_only : (tokens new : List Terminal) (at : Place) (es : List Tree) (end : List Terminal) → tokens ≡ sign p.RightParen at ∷ new → Opened DerivesArgumentList p.RightParen tokens es end → (end ≡ new) × (es ≡ [])
none_only tokens new at es end f o = go o.split refl o.derives
  where
    empty : (xs : List Tree) → tree.none ≡ row xs → xs ≡ []
    empty [] e = refl
    empty (x ∷ xs) e = absurd cc

    go : {ts : List Terminal} {us : Trees} → tokens ≡ (ts ++ sign p.RightParen o.at ∷ []) ++ end → us ≡ row es → DerivesArguments ts us → (end ≡ new) × (es ≡ [])
    go e is g.no_argument = ((signs p.RightParen p.RightParen o.at at end new (sym e ∙ f)).2, empty es is)
    go e is (g.arguments ts us d) =
        absurd (let both : true ≡ false = sym (no_list (sign p.RightParen o.at ∷ end) d) ∙ ap starts_expression (sym (append_assoc ts (sign p.RightParen o.at ∷ []) end) ∙ sym e ∙ f) in cc)

pub no_arguments : (tokens new : List Terminal) (at : Place) (es : List Tree) → es ≡ [] → tokens ≡ sign p.RightParen at ∷ new → Found Arguments Anywhere tokens es new
no_arguments tokens new at es is f = subst (λ y. Found Arguments Anywhere tokens y new) (sym is) (record {
  reads = shut p.RightParen at [] new tokens [] f g.no_argument;
  only = λ others b end same a ends. none_only tokens new at b end f (unshut p.RightParen tokens end b (subst (λ y. Arguments y b end) same a));
})

-- ---- subscripts

abbrev pub Subscript : List Terminal → Tree → List Terminal → Type 0
Subscript = Sequence (Sign p.LeftBracket) (λ at. Closed (Expression 15) p.RightBracket) snd

abbrev pub NoBracket : List Terminal → List Terminal → Type 0
NoBracket tokens rest = (rest ≡ tokens) × Lacks p.LeftBracket tokens

-- all subscripts that come next
abbrev pub SubscriptSigns : List Terminal → List Tree → List Terminal → Type 0
SubscriptSigns = Repeated Subscript NoBracket

bracket_ends : (end : List Terminal) → 0 < joins end → Lacks p.LeftBracket end
bracket_ends end e at rest f = omega (arith, ap joins f)

signs_of : {ts : List Terminal} {es : Trees} (end : List Terminal) → 0 < joins end → DerivesSubscripts ts es → SubscriptSigns (ts ++ end) (unrow es) end
signs_of end e g.no_subscript = r.stop end end (refl, bracket_ends end e)
signs_of end e (g.a_subscript opens closes ts us first others d ds) =
    r.more _ first (us ++ end) (unrow others) end
    (record {
      first = opens;
      second = first;
      middle = (ts ++ sign p.RightBracket closes ∷ us) ++ end;
      begins = refl;
      goes_on = record {
        first = first;
        second = closes;
        middle = sign p.RightBracket closes ∷ (us ++ end);
        begins = record { taken = ts; split = append_assoc ts (sign p.RightBracket closes ∷ us) end; derives = d };
        goes_on = refl;
        whole = refl;
      };
      whole = refl;
    })
    (signs_of end e ds)

pub of_signs : {tokens : List Terminal} {es : List Tree} {end : List Terminal} → SubscriptSigns tokens es end → Subscripts tokens es end
of_signs (r.stop tokens rest s) = record { taken = []; split = sym s.0; derives = g.no_subscript }
of_signs (r.more tokens a middle others rest s l) =
    let o = unshut p.RightBracket s.middle middle s.second s.goes_on in
    let m = of_signs l in
    let ts = sign p.LeftBracket s.first ∷ (o.ts ++ sign p.RightBracket o.at ∷ m.taken) in
    record {
      taken = ts;
      split = s.begins ∙ ap (λ y. sign p.LeftBracket s.first ∷ y)
          (o.split ∙ ap (λ y. (o.ts ++ sign p.RightBracket o.at ∷ []) ++ y) m.split ∙ append_assoc o.ts (sign p.RightBracket o.at ∷ []) (m.taken ++ rest)
          ∙ sym (append_assoc o.ts (sign p.RightBracket o.at ∷ m.taken) rest));
      derives = subst (λ y. DerivesSubscripts ts (tree.more y (row others))) (sym s.whole) (g.a_subscript s.first o.at o.ts m.taken s.second (row others) o.derives m.derives);
    }

unrow-row : (xs : List Tree) → unrow (row xs) ≡ xs
unrow-row [] = refl
unrow-row (x ∷ xs) = ap (λ y. x ∷ y) (unrow-row xs)

pub signs_step : (tokens : List Terminal) → Step Subscripts (Ends 0) tokens SubscriptSigns Anywhere tokens (λ es. es)
signs_step tokens = record {
  into = λ others es end same s ends.
      (es, refl, subst (λ y. SubscriptSigns y es end) (sym s.split ∙ same) (subst (λ y. SubscriptSigns (s.taken ++ end) y end) (unrow-row es) (signs_of end ends s.derives)), tt);
  back = λ es end l. of_signs l;
}

pub no_stop : (tokens inside : List Terminal) (at : Place) → tokens ≡ sign p.LeftBracket at ∷ inside → (end : List Terminal) → NoBracket tokens end → ⊥
no_stop tokens inside at e end s = s.1 at inside e

pub subscripts_end : (tokens rest : List Terminal) → rest ≡ tokens → Lacks p.LeftBracket tokens → Found SubscriptSigns Anywhere tokens [] rest
subscripts_end tokens rest e lacks = repeated_last tokens rest (e, lacks) (λ end s. s.0 ∙ sym e) (λ a middle s. lacks s.first s.middle s.begins)

pub subscripts_apart : (a : Tree) (here : List Terminal) (all : List Tree) (end : List Terminal) → SubscriptSigns here all end → Anywhere a here
subscripts_apart a here all end l = tt

-- what follows an expression in a list
pub comma_ends : {A : Type 0} (a : A) (at : Place) (rest : List Terminal) → Ends 14 a (sign p.Comma at ∷ rest)
comma_ends a at rest = omega arith

pub paren_ends : {A : Type 0} (a : A) (at : Place) (rest : List Terminal) → Ends 14 a (sign p.RightParen at ∷ rest)
paren_ends a at rest = omega arith

pub paren_no_comma : p.Comma ≡ p.RightParen → ⊥
paren_no_comma e = cc
