-- Actions, from expressions.
use Rattle.std.proofs.Common.{◌≡◌, ◌∙◌, ℕ, ◌<◌, sym, refl, ap, subst, Bool, true, false, List, [], ◌∷◌, ◌++◌, Option, Some, None, append_assoc, arith}
use Rattle.hls_base.specs.declared.place.Place.{Place}
use Rattle.c_token.specs.declared.punct.Punct.{Punct}
use Rattle.c_token.specs.declared.punct.Punct.TheVariants as p
use Rattle.c_token.specs.declared.token.TokenKind.{TokenKind}
use Rattle.c_token.specs.declared.token.TokenKind.TheVariants as k
use Rattle.c_tree.specs.Tree as tree
use Rattle.c_tree.specs.Tree.{Tree, TargetTree, ActionTree}
use Rattle.c_tree.specs.Terminals.{Terminal, sign}
use Rattle.c_tree.specs.Grammar.{Derives, DerivesTarget, DerivesChange, DerivesAction, DerivesActionList, DerivesActions}
use Rattle.c_tree.specs.Grammar as g
use Rattle.c_parser.specs.Cursor.Readings.{Reads, Found, Never, Anywhere, Ends, Sequence, Closed, Sign, Lacks, Listed, joins, is_paren, opens_paren}
use Rattle.c_parser.specs.Cursor.Readings as r
use Rattle.c_parser.specs.Expressions.{Expression}
use Rattle.c_parser.specs.Cursor.Tokens.{separates_kind, separates}
use Rattle.c_parser.specs.Objects.{Separated, change_in, bare_change, change_or, action_in, AnAction, closes_actions, ActionsUpTo}
use Rattle.c_parser.proofs.CursorLemmas.Readings.{signs, Step}
use Rattle.c_parser.proofs.ExpressionForms.{shut, Opened, unshut}
use Rattle.c_parser.proofs.Beginnings.{expression_sign, starts_expression, expression_starts}
use Rattle.c_parser.proofs.Levels.{bump_no_paren, level-short}

-- ---- changes as expressions

-- a change is an expression in no parentheses that is that change
pub record ChangeReads (tokens : List Terminal) (a : ActionTree) (rest : List Terminal) : Type 0 where
  pub e : Tree
  pub reads : Expression 14 tokens e rest
  pub bare : bare_change (opens_paren tokens) e ≡ Some a

bump_1_to_14 : {ts : List Terminal} {e : Tree} → Derives 2 ts e → Derives 14 ts e
bump_1_to_14 d = g.a_tighter 13 _ _ (g.a_tighter 12 _ _ (g.a_tighter 11 _ _ (g.a_tighter 10 _ _ (g.a_tighter 9 _ _ (g.a_tighter 8 _ _ (g.a_tighter 7 _ _ (g.a_tighter 6 _ _ (g.a_tighter 5 _ _ (g.a_tighter 4 _ _ (g.a_tighter 3 _ _ (g.a_tighter 2 _ _ d)))))))))))

target_no_paren : {ts : List Terminal} {t : TargetTree} (rest : List Terminal) → DerivesTarget ts t → opens_paren (ts ++ rest) ≡ false
target_no_paren rest (g.a_target text at ts subscripts kw d) = refl

change_reads : {ts : List Terminal} {a : ActionTree} (rest : List Terminal) → DerivesChange ts a → ChangeReads (ts ++ rest) a rest
change_reads rest (g.assigned punct op at ts vs t value a d f) = record {
  e = tree.assign t op value at;
  reads = record { taken = ts ++ sign punct at ∷ vs; split = refl; derives = g.an_assignment punct op at ts vs t value a d f };
  bare = ap (λ b. bare_change b (tree.assign t op value at)) (ap opens_paren (append_assoc ts (sign punct at ∷ vs) rest) ∙ target_no_paren (sign punct at ∷ (vs ++ rest)) d);
}
change_reads rest (g.bumped_behind punct up at ts t b d) = record {
  e = tree.bump t up true at;
  reads = record { taken = ts ++ sign punct at ∷ []; split = refl; derives = bump_1_to_14 (g.a_tighter 1 _ _ (g.a_bump_behind punct up at ts t b d)) };
  bare = ap (λ c. bare_change c (tree.bump t up true at)) (ap opens_paren (append_assoc ts (sign punct at ∷ []) rest) ∙ target_no_paren (sign punct at ∷ rest) d);
}
change_reads rest (g.bumped_before punct up at ts t b d) = record {
  e = tree.bump t up false at;
  reads = record { taken = sign punct at ∷ ts; split = refl; derives = bump_1_to_14 (g.a_bump_before punct up at ts t b d) };
  bare = ap (λ c. bare_change c (tree.bump t up false at)) (bump_no_paren punct up b);
}

-- an expression in no parentheses that is a change
bare_derives : {n : ℕ} {ts : List Terminal} {e : Tree} (rest : List Terminal) (a : ActionTree) → change_in e ≡ Some a → opens_paren (ts ++ rest) ≡ false → Derives n ts e → DerivesChange ts a
bare_derives rest a e f (g.a_number value kind at) = absurd cc
bare_derives rest a e f (g.a_name text at kw) = absurd cc
bare_derives rest a e f (g.an_element text at ts first others kw d) = absurd cc
bare_derives rest a e f (g.a_call callee at opens closes ts args kw d) = absurd cc
bare_derives rest a e f (g.a_group opens closes ts inner d) = absurd cc
bare_derives rest a e f (g.a_bump_behind punct up at ts t b d) = let same : tree.bumping t up at ≡ a = cc in subst (λ x. DerivesChange (ts ++ sign punct at ∷ []) x) same (g.bumped_behind punct up at ts t b d)
bare_derives rest a e f (g.a_prefix punct op at ts arg o d) = absurd cc
bare_derives rest a e f (g.a_bump_before punct up at ts t b d) = let same : tree.bumping t up at ≡ a = cc in subst (λ x. DerivesChange (sign punct at ∷ ts) x) same (g.bumped_before punct up at ts t b d)
bare_derives rest a e f (g.a_cast at closes ks ts kind constant arg kd d) = absurd cc
bare_derives rest a e f (g.an_operator punct op at n ls rs left right o l d h) = absurd cc
bare_derives rest a e f (g.a_choice at colon ts ys ns test left right d h i) = absurd cc
bare_derives rest a e f (g.an_assignment punct op at ts vs t value q d h) = let same : tree.assignment t op value at ≡ a = cc in subst (λ x. DerivesChange (ts ++ sign punct at ∷ vs) x) same (g.assigned punct op at ts vs t value q d h)
bare_derives rest a e f (g.a_comma at ls rs left right d h) = absurd cc
bare_derives rest a e f (g.a_tighter n ts inner d) = bare_derives rest a e f d

bare_parts : (b : Bool) (e : Tree) (a : ActionTree) → bare_change b e ≡ Some a → (b ≡ false) × (change_in e ≡ Some a)
bare_parts true e a h = absurd cc
bare_parts false e a h = (refl, h)

-- the derivation of a tighter expression takes the same tokens
record Tighter (ts : List Terminal) (e : Tree) : Type 0 where
  derives : Derives 13 ts e

tighter_derives : {n : ℕ} {ts : List Terminal} {e : Tree} (rest : List Terminal) → n ≡ 14 → bare_change (opens_paren (ts ++ rest)) e ≡ None → Derives n ts e → Tighter ts e
tighter_derives rest z f (g.a_number value kind at) = absurd (omega arith)
tighter_derives rest z f (g.a_name text at kw) = absurd (omega arith)
tighter_derives rest z f (g.an_element text at ts first others kw d) = absurd (omega arith)
tighter_derives rest z f (g.a_call callee at opens closes ts args kw d) = absurd (omega arith)
tighter_derives rest z f (g.a_group opens closes ts inner d) = absurd (omega arith)
tighter_derives rest z f (g.a_bump_behind punct up at ts t b d) = absurd (omega arith)
tighter_derives rest z f (g.a_prefix punct op at ts arg o d) = absurd (omega arith)
tighter_derives rest z f (g.a_bump_before punct up at ts t b d) = absurd (omega arith)
tighter_derives rest z f (g.a_cast at closes ks ts kind constant arg kd d) = absurd (omega arith)
tighter_derives rest z f (g.an_operator punct op at n ls rs left right o l d h) = absurd (omega (arith, level-short op))
tighter_derives rest z f (g.a_choice at colon ts ys ns test left right d h i) = absurd (omega arith)
tighter_derives rest z f (g.an_assignment punct op at ts vs t value q d h) =
    let b : opens_paren ((ts ++ sign punct at ∷ vs) ++ rest) ≡ false = ap opens_paren (append_assoc ts (sign punct at ∷ vs) rest) ∙ target_no_paren (sign punct at ∷ (vs ++ rest)) d in
    absurd (let both : Some (tree.assignment t op value at) ≡ None = ap (λ y. bare_change y (tree.assign t op value at)) (sym b) ∙ f in cc)
tighter_derives rest z f (g.a_comma at ls rs left right d h) = absurd (omega arith)
tighter_derives {ts = us} rest z f (g.a_tighter n ts inner d) = record { derives = subst (λ i. Derives i ts inner) (let same : n ≡ 13 = omega arith in same) d }

-- ---- what an action is

-- every action is an expression
pub record ActionReads (tokens : List Terminal) (a : ActionTree) (rest : List Terminal) : Type 0 where
  pub e : Tree
  pub reads : Expression 14 tokens e rest
  pub is : a ≡ action_in (opens_paren tokens) e

pub action_form : (tokens rest : List Terminal) (a : ActionTree) → AnAction tokens a rest → ActionReads tokens a rest
action_form tokens rest a r = go r.split r.derives
  where
    value_is : (ts : List Terminal) (value : Tree) → ((action : ActionTree) → DerivesChange ts action → ⊥) → Derives 13 ts value → tree.evaluation value ≡ action_in (opens_paren (ts ++ rest)) value
    value_is ts value none d = other (bare_change (opens_paren (ts ++ rest)) value) refl
      where
        other : (c : Option ActionTree) → bare_change (opens_paren (ts ++ rest)) value ≡ c → tree.evaluation value ≡ action_in (opens_paren (ts ++ rest)) value
        other None h = sym (ap (λ c. change_or c value) h)
        other (Some b) h = let q = bare_parts (opens_paren (ts ++ rest)) value b h in absurd (none b (bare_derives rest b q.1 q.0 d))

    go : {ts : List Terminal} {b : ActionTree} → tokens ≡ ts ++ rest → DerivesAction ts b → ActionReads tokens b rest
    go f (g.a_change ts action d) =
        let c = change_reads rest d in
        record { e = c.e; reads = subst (λ y. Expression 14 y c.e rest) (sym f) c.reads; is = sym (ap (λ y. change_or y c.e) (ap (λ y. bare_change (opens_paren y) c.e) f ∙ c.bare)) }
    go f (g.a_value ts value none d) =
        record { e = value; reads = record { taken = ts; split = f; derives = g.a_tighter 13 ts value d }; is = value_is ts value none d ∙ ap (λ y. action_in (opens_paren y) value) (sym f) }

pub separated_ends : (rest : List Terminal) → separates rest ≡ true → 14 < joins rest
separated_ends [] e = omega arith
separated_ends (t ∷ ts) e = go t.kind e
  where
    sign_ends : (punct : Punct) → separates_kind (k.Punct punct) ≡ true → 14 < r.sign_level punct
    sign_ends p.Comma f = omega arith
    sign_ends p.Semicolon f = omega arith
    sign_ends p.RightParen f = omega arith
    sign_ends _ f = absurd cc

    go : (kind : TokenKind) → separates_kind kind ≡ true → 14 < r.joins_kind kind
    go (k.Punct punct) f = sign_ends punct f
    go (k.Word text) f = absurd cc
    go (k.Number value kind) f = absurd cc
    go (k.TypeWord kind) f = absurd cc

pub action_found : (tokens rest : List Terminal) (grouped : Bool) (e : Tree) (a : ActionTree) → grouped ≡ opens_paren tokens → a ≡ action_in grouped e → separates rest ≡ true → Found (Expression 14) (Ends 14) tokens e rest → Found AnAction Separated tokens a rest
action_found tokens rest grouped e a same is sep q = record {
  reads = record { taken = d.taken; split = d.split; derives = subst (λ y. DerivesAction d.taken y) (sym a_is) (derived (bare_change (opens_paren tokens) e) refl) };
  only = λ others b end h r ends.
      let f = action_form tokens end b (subst (λ y. AnAction y b end) h r) in
      let o = q.only tokens f.e end refl f.reads (separated_ends end ends) in
      (o.0, f.is ∙ ap (action_in (opens_paren tokens)) o.1 ∙ sym a_is);
}
  where
    d : Expression 14 tokens e rest
    d = q.reads

    a_is : a ≡ action_in (opens_paren tokens) e
    a_is = is ∙ ap (λ b. action_in b e) same

    -- no change takes the same tokens
    none : bare_change (opens_paren tokens) e ≡ None → (action : ActionTree) → DerivesChange d.taken action → ⊥
    none h action c =
        let s = change_reads rest c in
        let o = q.only (d.taken ++ rest) s.e rest (sym d.split) s.reads (separated_ends rest sep) in
        let both : Some action ≡ None = sym s.bare ∙ ap (λ y. bare_change (opens_paren y) s.e) (sym d.split) ∙ ap (bare_change (opens_paren tokens)) o.1 ∙ h in cc

    derived : (c : Option ActionTree) → bare_change (opens_paren tokens) e ≡ c → DerivesAction d.taken (action_in (opens_paren tokens) e)
    derived (Some b) h =
        let x = bare_parts (opens_paren tokens) e b h in
        subst (λ y. DerivesAction d.taken y) (sym (ap (λ c. change_or c e) h)) (g.a_change d.taken b (bare_derives rest b x.1 (ap opens_paren (sym d.split) ∙ x.0) d.derives))
    derived None h =
        let t = tighter_derives rest refl (ap (λ y. bare_change (opens_paren y) e) (sym d.split) ∙ h) d.derives in
        subst (λ y. DerivesAction d.taken y) (sym (ap (λ c. change_or c e) h)) (g.a_value d.taken e (none h) t.derives)

pub unseparated_never : (tokens rest : List Terminal) (e : Tree) → separates rest ≡ false → Found (Expression 14) (Ends 14) tokens e rest → Never AnAction Separated tokens
unseparated_never tokens rest e sep q = record {
  none = λ others b end h r ends.
      let f = action_form tokens end b (subst (λ y. AnAction y b end) h r) in
      let o = q.only tokens f.e end refl f.reads (separated_ends end ends) in
      let both : true ≡ false = sym ends ∙ ap separates o.0 ∙ sep in cc;
}

pub action_never : (tokens : List Terminal) → Never (Expression 14) (Ends 14) tokens → Never AnAction Separated tokens
action_never tokens q = record {
  none = λ others b end h r ends.
      let f = action_form tokens end b (subst (λ y. AnAction y b end) h r) in q.none tokens f.e end refl f.reads (separated_ends end ends);
}

pub action_starts : (tokens rest : List Terminal) (a : ActionTree) → AnAction tokens a rest → starts_expression tokens ≡ true
action_starts tokens rest a r = let f = action_form tokens rest a r in expression_starts 14 tokens f.e rest f.reads

-- ---- lists of actions

listed_of_list : (closer : Punct) {ts : List Terminal} {all : List ActionTree} (at : Place) (rest : List Terminal) → DerivesActionList ts all → Listed AnAction closer (ts ++ sign closer at ∷ rest) all rest
listed_of_list closer at rest (g.last_action ts action d) = r.last _ action at rest (record { taken = ts; split = refl; derives = d })
listed_of_list closer at rest (g.more_actions comma ts us action others d ds) =
    r.more _ action comma (us ++ sign closer at ∷ rest) others rest (record { taken = ts; split = append_assoc ts (sign p.Comma comma ∷ us) (sign closer at ∷ rest); derives = d }) (listed_of_list closer at rest ds)

pub list_of_listed : (closer : Punct) {tokens : List Terminal} {all : List ActionTree} {rest : List Terminal} → Listed AnAction closer tokens all rest → Opened DerivesActionList closer tokens all rest
list_of_listed closer (r.last tokens a at rest d) = record { ts = d.taken; at = at; split = d.split ∙ sym (append_assoc d.taken (sign closer at ∷ []) rest); derives = g.last_action d.taken a d.derives }
list_of_listed closer (r.more tokens a at middle others rest d l) =
    let o = list_of_listed closer l in
    record {
      ts = d.taken ++ sign p.Comma at ∷ o.ts;
      at = o.at;
      split = d.split ∙ ap (λ y. d.taken ++ sign p.Comma at ∷ y) o.split ∙ sym (append_assoc d.taken (sign p.Comma at ∷ (o.ts ++ sign closer o.at ∷ [])) rest)
          ∙ ap (λ y. y ++ rest) (sym (append_assoc d.taken (sign p.Comma at ∷ o.ts) (sign closer o.at ∷ [])));
      derives = g.more_actions at d.taken o.ts a others d.derives o.derives;
    }

pub listed_of_opened : (closer : Punct) (tokens rest : List Terminal) (all : List ActionTree) → Opened DerivesActionList closer tokens all rest → Listed AnAction closer tokens all rest
listed_of_opened closer tokens rest all o = subst (λ y. Listed AnAction closer y all rest) (sym (o.split ∙ append_assoc o.ts (sign closer o.at ∷ []) rest)) (listed_of_list closer o.at rest o.derives)

pub listed_starts : (closer : Punct) {tokens : List Terminal} {all : List ActionTree} {rest : List Terminal} → Listed AnAction closer tokens all rest → starts_expression tokens ≡ true
listed_starts closer (r.last tokens a at rest d) = action_starts tokens (sign closer at ∷ rest) a d
listed_starts closer (r.more tokens a at middle others rest d l) = action_starts tokens (sign p.Comma at ∷ middle) a d

closer_sign : (punct : Punct) → closes_actions punct ≡ true → expression_sign punct ≡ false
closer_sign p.Semicolon e = refl
closer_sign p.RightParen e = refl
closer_sign _ e = absurd cc

-- no actions, or a list of them
pub data ActionsForm (closer : Punct) (tokens : List Terminal) (all : List ActionTree) (rest : List Terminal) : Type 0 where
  no_actions : (at : Place) → tokens ≡ sign closer at ∷ rest → all ≡ [] → ActionsForm closer tokens all rest
  some_actions : Listed AnAction closer tokens all rest → ActionsForm closer tokens all rest

pub actions_form : (closer : Punct) (tokens rest : List Terminal) (all : List ActionTree) → ActionsUpTo closer tokens all rest → ActionsForm closer tokens all rest
actions_form closer tokens rest all c = let o = unshut closer tokens rest all c in go o.at o.split o.derives
  where
    go : {ts : List Terminal} {bs : List ActionTree} (at : Place) → tokens ≡ (ts ++ sign closer at ∷ []) ++ rest → DerivesActions ts bs → ActionsForm closer tokens bs rest
    go at f g.no_action = no_actions at f refl
    go at f (g.actions ts bs d) = some_actions (listed_of_opened closer tokens rest bs (record { ts = ts; at = at; split = f; derives = d }))

pub actions_back : (closer : Punct) (tokens rest : List Terminal) (all : List ActionTree) → Listed AnAction closer tokens all rest → ActionsUpTo closer tokens all rest
actions_back closer tokens rest all l = let o = list_of_listed closer l in shut closer o.at o.ts rest tokens all o.split (g.actions o.ts all o.derives)

pub no_actions_found : (closer : Punct) (tokens new : List Terminal) (at : Place) (all : List ActionTree) → closes_actions closer ≡ true → all ≡ [] → tokens ≡ sign closer at ∷ new → Found (ActionsUpTo closer) Anywhere tokens all new
no_actions_found closer tokens new at all h is f = subst (λ y. Found (ActionsUpTo closer) Anywhere tokens y new) (sym is) (record {
  reads = shut closer at [] new tokens [] f g.no_action;
  only = λ others bs end same c ends. go bs end (actions_form closer tokens end bs (subst (λ y. ActionsUpTo closer y bs end) same c));
})
  where
    go : (bs : List ActionTree) (end : List Terminal) → ActionsForm closer tokens bs end → (end ≡ new) × (bs ≡ [])
    go bs end (no_actions at' e i) = ((signs closer closer at' at end new (sym e ∙ f)).2, i)
    go bs end (some_actions l) = absurd (let both : false ≡ true = sym (closer_sign closer h) ∙ ap starts_expression (sym f) ∙ listed_starts closer l in cc)

pub actions_step : (closer : Punct) (tokens here : List Terminal) → here ≡ tokens → Lacks closer tokens → Step (ActionsUpTo closer) Anywhere tokens (Listed AnAction closer) Anywhere here (λ all. all)
actions_step closer tokens here is lacks = record {
  into = λ others bs end same c ends. go bs end (actions_form closer tokens end bs (subst (λ y. ActionsUpTo closer y bs end) same c));
  back = λ bs end l. actions_back closer tokens end bs (subst (λ y. Listed AnAction closer y bs end) is l);
}
  where
    go : (bs : List ActionTree) (end : List Terminal) → ActionsForm closer tokens bs end → (cs : List ActionTree) × (bs ≡ cs) × Listed AnAction closer here cs end × Unit {0}
    go bs end (no_actions at e i) = absurd (lacks at end e)
    go bs end (some_actions l) = (bs, refl, subst (λ y. Listed AnAction closer y bs end) (sym is) l, tt)

-- what ends an action in a list
pub comma_separates : {A : Type 0} (a : A) (at : Place) (rest : List Terminal) → Separated a (sign p.Comma at ∷ rest)
comma_separates a at rest = refl

pub closer_separates : (closer : Punct) → closes_actions closer ≡ true → {A : Type 0} (a : A) (at : Place) (rest : List Terminal) → Separated a (sign closer at ∷ rest)
closer_separates p.Semicolon e a at rest = refl
closer_separates p.RightParen e a at rest = refl
closer_separates _ e a at rest = absurd cc

pub closer_no_comma : (closer : Punct) → closes_actions closer ≡ true → p.Comma ≡ closer → ⊥
closer_no_comma closer h e = let both : false ≡ true = ap closes_actions e ∙ h in cc
