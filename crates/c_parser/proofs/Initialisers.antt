-- Initialisers, one by one and in braces.
use Rattle.std.proofs.Common.{◌≡◌, ◌∙◌, ◌<◌, sym, refl, ap, subst, Bool, true, false, List, [], ◌∷◌, ◌++◌, Option, Some, None, append_assoc, arith}
use Rattle.hls_base.specs.declared.place.Place.{Place}
use Rattle.c_token.specs.declared.punct.Punct.TheVariants as p
use Rattle.c_tree.specs.Tree as tree
use Rattle.c_tree.specs.Tree.{Tree, InitTree, InitTrees, init_row}
use Rattle.c_tree.specs.Terminals.{Terminal, sign}
use Rattle.c_tree.specs.Grammar.{Derives, DerivesInit, DerivesInits, DerivesInitialiser}
use Rattle.c_tree.specs.Grammar as g
use Rattle.c_parser.specs.Cursor.Readings.{Found, Never, Anywhere, Ends, Lacks, joins}
use Rattle.c_parser.specs.Expressions.{Expression}
use Rattle.c_parser.specs.Objects.{AnInit, InitItems, DerivesInitRow, AnInitialiser, Separator}
use Rattle.c_parser.specs.Objects as o
use Rattle.c_parser.proofs.CursorLemmas.Readings.{signs, Step, Grows}
use Rattle.c_parser.proofs.ExpressionForms.{shut, Opened, unshut}
use Rattle.c_parser.proofs.Beginnings.{starts_expression, expression_starts}

abbrev pub unrow_inits : InitTrees → List InitTree
unrow_inits tree.no_init = []
unrow_inits (tree.more_inits i is) = i ∷ unrow_inits is

row-unrow_inits : (is : InitTrees) → init_row (unrow_inits is) ≡ is
row-unrow_inits tree.no_init = refl
row-unrow_inits (tree.more_inits i is) = ap (tree.more_inits i) (row-unrow_inits is)

unrow_inits-row : (is : List InitTree) → unrow_inits (init_row is) ≡ is
unrow_inits-row [] = refl
unrow_inits-row (i ∷ is) = ap (λ y. i ∷ y) (unrow_inits-row is)

-- ---- one initialiser

data InitForm (tokens : List Terminal) (i : InitTree) (rest : List Terminal) : Type 0 where
  is_single : (e : Tree) → Expression 14 tokens e rest → i ≡ tree.single e → InitForm tokens i rest
  is_braced : (at : Place) (inside : List Terminal) (items : List InitTree) → tokens ≡ sign p.LeftBrace at ∷ inside → InitItems inside items rest → i ≡ tree.braced (init_row items) at → InitForm tokens i rest

init_form : (tokens rest : List Terminal) (i : InitTree) → AnInit tokens i rest → InitForm tokens i rest
init_form tokens rest i r = go r.split r.derives
  where
    go : {ts : List Terminal} {j : InitTree} → tokens ≡ ts ++ rest → DerivesInit ts j → InitForm tokens j rest
    go f (g.a_single ts value d) = is_single value (record { taken = ts; split = f; derives = d }) refl
    go f (g.a_braced at closes ts items d) = is_braced at ((ts ++ sign p.RightBrace closes ∷ []) ++ rest) (unrow_inits items) f
        (shut p.RightBrace closes ts rest _ (unrow_inits items) refl (subst (λ y. DerivesInits ts y) (sym (row-unrow_inits items)) d))
        (ap (λ y. tree.braced y at) (sym (row-unrow_inits items)))

init_starts : (tokens rest : List Terminal) (i : InitTree) → AnInit tokens i rest → ((at : Place) (others : List Terminal) → tokens ≡ sign p.RightBrace at ∷ others → ⊥)
init_starts tokens rest i r = go (init_form tokens rest i r)
  where
    go : InitForm tokens i rest → (at : Place) (others : List Terminal) → tokens ≡ sign p.RightBrace at ∷ others → ⊥
    go (is_single e d j) at others f = let both : false ≡ true = ap starts_expression (sym f) ∙ expression_starts 14 tokens e rest d in cc
    go (is_braced at' inside items h c j) at others f = let h : p.LeftBrace ≡ p.RightBrace = (signs p.LeftBrace p.RightBrace at' at inside others (sym h ∙ f)).0 in cc

pub brace_step : (tokens inside : List Terminal) (at : Place) → tokens ≡ sign p.LeftBrace at ∷ inside → Step AnInit (Ends 14) tokens InitItems Anywhere inside (λ items. tree.braced (init_row items) at)
brace_step tokens inside at f = record {
  into = λ others i end same d ends. go i end (init_form tokens end i (subst (λ y. AnInit y i end) same d));
  back = λ items end c. let q = unshut p.RightBrace inside end items c in record {
    taken = sign p.LeftBrace at ∷ (q.ts ++ sign p.RightBrace q.at ∷ []);
    split = f ∙ ap (λ y. sign p.LeftBrace at ∷ y) q.split;
    derives = g.a_braced at q.at q.ts (init_row items) q.derives;
  };
}
  where
    go : (i : InitTree) (end : List Terminal) → InitForm tokens i end → (items : List InitTree) × (i ≡ tree.braced (init_row items) at) × InitItems inside items end × Unit {0}
    go i end (is_single e d j) = absurd (let both : false ≡ true = ap starts_expression (sym f) ∙ expression_starts 14 tokens e end d in cc)
    go i end (is_braced at' inside' items h c j) =
        let s = signs p.LeftBrace p.LeftBrace at' at inside' inside (sym h ∙ f) in
        (items, j ∙ ap (λ y. tree.braced (init_row items) y) s.1, subst (λ y. InitItems y items end) s.2 c, tt)

pub single_step : (tokens here : List Terminal) → here ≡ tokens → Lacks p.LeftBrace tokens → Step AnInit (Ends 14) tokens (Expression 14) (Ends 14) here tree.single
single_step tokens here is lacks = record {
  into = λ others i end same d ends. go i end ends (init_form tokens end i (subst (λ y. AnInit y i end) same d));
  back = λ e end d. record { taken = d.taken; split = sym is ∙ d.split; derives = g.a_single d.taken e d.derives };
}
  where
    go : (i : InitTree) (end : List Terminal) → 14 < joins end → InitForm tokens i end → (e : Tree) × (i ≡ tree.single e) × Expression 14 here e end × (14 < joins end)
    go i end ends (is_single e d j) = (e, j, subst (λ y. Expression 14 y e end) (sym is) d, ends)
    go i end ends (is_braced at inside items h c j) = absurd (lacks at inside h)

-- ---- in braces

pub data InitList : List Terminal → List InitTree → List Terminal → Type 0 where
  at_end : (tokens : List Terminal) (i : InitTree) (middle rest : List Terminal) → AnInit tokens i middle → Separator middle false rest → InitList tokens (i ∷ []) rest
  going_on : (tokens : List Terminal) (i : InitTree) (middle next : List Terminal) (others : List InitTree) (rest : List Terminal) → AnInit tokens i middle → Separator middle true next → InitList next others rest → InitList tokens (i ∷ others) rest

inits_start : {ts : List Terminal} {is : InitTrees} (rest : List Terminal) → DerivesInits ts is → (at : Place) (others : List Terminal) → ts ++ rest ≡ sign p.RightBrace at ∷ others → ⊥
inits_start rest (g.last_init ts i d) = init_starts (ts ++ rest) rest i (record { taken = ts; split = refl; derives = d })
inits_start rest (g.last_init_comma at ts i d) = init_starts _ (sign p.Comma at ∷ rest) i (record { taken = ts; split = append_assoc ts (sign p.Comma at ∷ []) rest; derives = d })
inits_start rest (g.another_init at ts us i is d ds) = init_starts _ (sign p.Comma at ∷ (us ++ rest)) i (record { taken = ts; split = append_assoc ts (sign p.Comma at ∷ us) rest; derives = d })

list_of_inits : {ts : List Terminal} {is : InitTrees} (closes : Place) (rest : List Terminal) → DerivesInits ts is → InitList (ts ++ sign p.RightBrace closes ∷ rest) (unrow_inits is) rest
list_of_inits closes rest (g.last_init ts i d) = at_end _ i (sign p.RightBrace closes ∷ rest) rest (record { taken = ts; split = refl; derives = d }) (o.closed _ closes rest refl)
list_of_inits closes rest (g.last_init_comma at ts i d) =
    at_end _ i (sign p.Comma at ∷ sign p.RightBrace closes ∷ rest) rest
    (record { taken = ts; split = append_assoc ts (sign p.Comma at ∷ []) (sign p.RightBrace closes ∷ rest); derives = d }) (o.closed_comma _ at closes rest refl)
list_of_inits closes rest (g.another_init at ts us i is d ds) =
    let behind = us ++ sign p.RightBrace closes ∷ rest in
    going_on _ i (sign p.Comma at ∷ behind) behind (unrow_inits is) rest
    (record { taken = ts; split = append_assoc ts (sign p.Comma at ∷ us) (sign p.RightBrace closes ∷ rest); derives = d })
    (o.another _ at behind refl (inits_start (sign p.RightBrace closes ∷ rest) ds)) (list_of_inits closes rest ds)

-- what a separator is at the end of a list
ended : {b : Bool} {middle rest : List Terminal} (tokens : List Terminal) (i : InitTree) → b ≡ false → Separator middle b rest → AnInit tokens i middle → Opened DerivesInitRow p.RightBrace tokens (i ∷ []) rest
ended tokens i e (o.another middle at rest f lacks) d = absurd cc
ended tokens i e (o.closed middle closes rest f) d = record {
  ts = d.taken;
  at = closes;
  split = d.split ∙ ap (λ y. d.taken ++ y) f ∙ sym (append_assoc d.taken (sign p.RightBrace closes ∷ []) rest);
  derives = g.last_init d.taken i d.derives;
}
ended tokens i e (o.closed_comma middle at closes rest f) d = record {
  ts = d.taken ++ sign p.Comma at ∷ [];
  at = closes;
  split = d.split ∙ ap (λ y. d.taken ++ y) f ∙ sym (append_assoc d.taken (sign p.Comma at ∷ sign p.RightBrace closes ∷ []) rest)
      ∙ ap (λ y. y ++ rest) (sym (append_assoc d.taken (sign p.Comma at ∷ []) (sign p.RightBrace closes ∷ [])));
  derives = g.last_init_comma at d.taken i d.derives;
}

continued : {b : Bool} {middle next : List Terminal} (tokens rest : List Terminal) (i : InitTree) (others : List InitTree) → b ≡ true → Separator middle b next → AnInit tokens i middle → Opened DerivesInitRow p.RightBrace next others rest → Opened DerivesInitRow p.RightBrace tokens (i ∷ others) rest
continued tokens rest i others e (o.another middle at next f lacks) d q = record {
  ts = d.taken ++ sign p.Comma at ∷ q.ts;
  at = q.at;
  split = d.split ∙ ap (λ y. d.taken ++ y) (f ∙ ap (λ y. sign p.Comma at ∷ y) q.split) ∙ sym (append_assoc d.taken (sign p.Comma at ∷ (q.ts ++ sign p.RightBrace q.at ∷ [])) rest)
      ∙ ap (λ y. y ++ rest) (sym (append_assoc d.taken (sign p.Comma at ∷ q.ts) (sign p.RightBrace q.at ∷ [])));
  derives = g.another_init at d.taken q.ts i (init_row others) d.derives q.derives;
}
continued tokens rest i others e (o.closed middle closes next f) d q = absurd cc
continued tokens rest i others e (o.closed_comma middle at closes next f) d q = absurd cc

inits_of_list : {tokens : List Terminal} {is : List InitTree} {rest : List Terminal} → InitList tokens is rest → Opened DerivesInitRow p.RightBrace tokens is rest
inits_of_list (at_end tokens i middle rest d s) = ended tokens i refl s d
inits_of_list (going_on tokens i middle next others rest d s l) = continued tokens rest i others refl s d (inits_of_list l)

pub items_step : (tokens : List Terminal) → Step InitItems Anywhere tokens InitList Anywhere tokens (λ is. is)
items_step tokens = record {
  into = λ others is end same c ends.
      let q = unshut p.RightBrace tokens end is (subst (λ y. InitItems y is end) same c) in
      let flat : tokens ≡ q.ts ++ sign p.RightBrace q.at ∷ end = q.split ∙ append_assoc q.ts (sign p.RightBrace q.at ∷ []) end in
      (is, refl, subst (λ y. InitList y is end) (sym flat) (subst (λ y. InitList (q.ts ++ sign p.RightBrace q.at ∷ end) y end) (unrow_inits-row is) (list_of_inits q.at end q.derives)), tt);
  back = λ is end l. let q = inits_of_list l in shut p.RightBrace q.at q.ts end tokens is q.split q.derives;
}

separator_ends : {b : Bool} {middle rest : List Terminal} → Separator middle b rest → 14 < joins middle
separator_ends (o.another middle at rest f lacks) = omega (arith, ap joins f)
separator_ends (o.closed middle closes rest f) = omega (arith, ap joins f)
separator_ends (o.closed_comma middle at closes rest f) = omega (arith, ap joins f)

comma_no_brace : {P : Type 0} (a b : Place) (xs ys : List Terminal) → sign p.Comma a ∷ xs ≡ sign p.RightBrace b ∷ ys → P
comma_no_brace a b xs ys e = absurd (let h : p.Comma ≡ p.RightBrace = (signs p.Comma p.RightBrace a b xs ys e).0 in cc)

separator_only : {b c : Bool} {m n rest end : List Terminal} → m ≡ n → Separator m b rest → Separator n c end → (b ≡ c) × (rest ≡ end)
separator_only e (o.another m at rest f lacks) (o.another n at' end f' lacks') = (refl, (signs p.Comma p.Comma at at' rest end (sym f ∙ e ∙ f')).2)
separator_only e (o.another m at rest f lacks) (o.closed n closes end f') = comma_no_brace at closes rest end (sym f ∙ e ∙ f')
separator_only e (o.another m at rest f lacks) (o.closed_comma n at' closes end f') = absurd (lacks closes end (signs p.Comma p.Comma at at' rest _ (sym f ∙ e ∙ f')).2)
separator_only e (o.closed m closes rest f) (o.another n at' end f' lacks') = comma_no_brace at' closes end rest (sym f' ∙ sym e ∙ f)
separator_only e (o.closed m closes rest f) (o.closed n closes' end f') = (refl, (signs p.RightBrace p.RightBrace closes closes' rest end (sym f ∙ e ∙ f')).2)
separator_only e (o.closed m closes rest f) (o.closed_comma n at' closes' end f') = comma_no_brace at' closes _ rest (sym f' ∙ sym e ∙ f)
separator_only e (o.closed_comma m at closes rest f) (o.another n at' end f' lacks') = absurd (lacks' closes rest (signs p.Comma p.Comma at' at end _ (sym f' ∙ sym e ∙ f)).2)
separator_only e (o.closed_comma m at closes rest f) (o.closed n closes' end f') = comma_no_brace at closes' _ end (sym f ∙ e ∙ f')
separator_only e (o.closed_comma m at closes rest f) (o.closed_comma n at' closes' end f') =
    (refl, (signs p.RightBrace p.RightBrace closes closes' rest end (signs p.Comma p.Comma at at' _ _ (sym f ∙ e ∙ f')).2).2)

module _ (here middle : List Terminal) (i : InitTree) (q : Found AnInit (Ends 14) here i middle) where
  more_into : (next : List Terminal) {others : List Terminal} {all : List InitTree} {end : List Terminal} → Separator middle true next → others ≡ here → InitList others all end → (more : List InitTree) × (all ≡ i ∷ more) × InitList next more end
  more_into next s e (at_end ts j m end d s') =
      let h = q.only ts j m e d (separator_ends s') in absurd (let both : true ≡ false = (separator_only (sym h.0) s s').0 in cc)
  more_into next s e (going_on ts j m n others end d s' l) =
      let h = q.only ts j m e d (separator_ends s') in
      let k = separator_only (sym h.0) s s' in
      (others, ap (λ x. x ∷ others) h.1, subst (λ x. InitList x others end) (sym k.1) l)

  end_only : (rest : List Terminal) {others : List Terminal} {all : List InitTree} {end : List Terminal} → Separator middle false rest → others ≡ here → InitList others all end → (end ≡ rest) × (all ≡ i ∷ [])
  end_only rest s e (at_end ts j m end d s') = let h = q.only ts j m e d (separator_ends s') in (sym (separator_only (sym h.0) s s').1, ap (λ x. x ∷ []) h.1)
  end_only rest s e (going_on ts j m n others end d s' l) = let h = q.only ts j m e d (separator_ends s') in absurd (let both : false ≡ true = (separator_only (sym h.0) s s').0 in cc)

  separated : {b : Bool} {m rest : List Terminal} → m ≡ middle → Lacks p.Comma middle → Lacks p.RightBrace middle → Separator m b rest → ⊥
  separated e no_comma no_brace (o.another m at rest f lacks) = no_comma at rest (sym e ∙ f)
  separated e no_comma no_brace (o.closed m closes rest f) = no_brace closes rest (sym e ∙ f)
  separated e no_comma no_brace (o.closed_comma m at closes rest f) = no_comma at _ (sym e ∙ f)

  none_list : {others : List Terminal} {all : List InitTree} {end : List Terminal} → Lacks p.Comma middle → Lacks p.RightBrace middle → others ≡ here → InitList others all end → ⊥
  none_list no_comma no_brace e (at_end ts j m end d s') = let h = q.only ts j m e d (separator_ends s') in separated h.0 no_comma no_brace s'
  none_list no_comma no_brace e (going_on ts j m n others end d s' l) = let h = q.only ts j m e d (separator_ends s') in separated h.0 no_comma no_brace s'

pub items_more : (here middle next : List Terminal) (i : InitTree) → Found AnInit (Ends 14) here i middle → Separator middle true next → Grows InitList here (i ∷ []) next
items_more here middle next i q s = record {
  into = λ others all end e l. more_into here middle i q next s e l;
  back = λ more end l. going_on here i middle next more end q.reads s l;
}

pub items_last : (here middle rest : List Terminal) (i : InitTree) → Found AnInit (Ends 14) here i middle → Separator middle false rest → Found InitList Anywhere here (i ∷ []) rest
items_last here middle rest i q s = record {
  reads = at_end here i middle rest q.reads s;
  only = λ others all end e l ends. end_only here middle i q rest s e l;
}

pub items_stuck : (here middle : List Terminal) (i : InitTree) → Found AnInit (Ends 14) here i middle → Lacks p.Comma middle × Lacks p.RightBrace middle → Never InitList Anywhere here
items_stuck here middle i q lacks = record { none = λ others all end e l ends. none_list here middle i q lacks.0 lacks.1 e l }

no_first : {here others : List Terminal} {all : List InitTree} {end : List Terminal} → Never AnInit (Ends 14) here → others ≡ here → InitList others all end → ⊥
no_first q e (at_end ts j m end d s') = q.none ts j m e d (separator_ends s')
no_first q e (going_on ts j m n others end d s' l) = q.none ts j m e d (separator_ends s')

pub items_never : (here : List Terminal) → Never AnInit (Ends 14) here → Never InitList Anywhere here
items_never here q = record { none = λ others all end e l ends. no_first q e l }

-- ---- behind an object

data InitialiserForm (tokens : List Terminal) (i : Option InitTree) (rest : List Terminal) : Type 0 where
  is_none : rest ≡ tokens → i ≡ None → InitialiserForm tokens i rest
  is_some : (at : Place) (inside : List Terminal) (init : InitTree) → tokens ≡ sign p.Equal at ∷ inside → AnInit inside init rest → i ≡ Some init → InitialiserForm tokens i rest

initialiser_form : (tokens rest : List Terminal) (i : Option InitTree) → AnInitialiser tokens i rest → InitialiserForm tokens i rest
initialiser_form tokens rest i r = go r.split r.derives
  where
    go : {ts : List Terminal} {j : Option InitTree} → tokens ≡ ts ++ rest → DerivesInitialiser ts j → InitialiserForm tokens j rest
    go f g.no_initialiser = is_none (sym f) refl
    go f (g.an_initialiser at ts init d) = is_some at (ts ++ rest) init f (record { taken = ts; split = refl; derives = d }) refl

pub equal_step : (tokens inside : List Terminal) (at : Place) → tokens ≡ sign p.Equal at ∷ inside → Step AnInitialiser (Ends 14) tokens AnInit (Ends 14) inside Some
equal_step tokens inside at f = record {
  into = λ others i end same d ends. go i end ends (initialiser_form tokens end i (subst (λ y. AnInitialiser y i end) same d));
  back = λ init end d. record { taken = sign p.Equal at ∷ d.taken; split = f ∙ ap (λ y. sign p.Equal at ∷ y) d.split; derives = g.an_initialiser at d.taken init d.derives };
}
  where
    go : (i : Option InitTree) (end : List Terminal) → 14 < joins end → InitialiserForm tokens i end → (init : InitTree) × (i ≡ Some init) × AnInit inside init end × (14 < joins end)
    go i end ends (is_none h j) = absurd (omega (arith, ap joins (h ∙ f)))
    go i end ends (is_some at' inside' init h d j) = let s = signs p.Equal p.Equal at' at inside' inside (sym h ∙ f) in (init, j, subst (λ y. AnInit y init end) s.2 d, ends)

pub no_initialiser_found : (tokens new : List Terminal) → new ≡ tokens → Lacks p.Equal tokens → Found AnInitialiser (Ends 14) tokens None new
no_initialiser_found tokens new is lacks = record {
  reads = record { taken = []; split = sym is; derives = g.no_initialiser };
  only = λ others i end same d ends. go i end (initialiser_form tokens end i (subst (λ y. AnInitialiser y i end) same d));
}
  where
    go : (i : Option InitTree) (end : List Terminal) → InitialiserForm tokens i end → (end ≡ new) × (i ≡ None)
    go i end (is_none h j) = (h ∙ sym is, j)
    go i end (is_some at inside init h d j) = absurd (lacks at inside h)

-- what follows the lengths of an object
pub initialiser_apart : (i : Option InitTree) (here end : List Terminal) → AnInitialiser here i end → 14 < joins end → 0 < joins here
initialiser_apart i here end d ends = go (initialiser_form here end i d)
  where
    go : InitialiserForm here i end → 0 < joins here
    go (is_none h j) = omega (arith, ap joins h)
    go (is_some at inside init h d j) = omega (arith, ap joins h)
