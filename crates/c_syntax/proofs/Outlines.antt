-- Whether an expression is a change by its own operator: seen by what stands outside its brackets.
use Rattle.std.proofs.Common.{◌≡◌, ℕ, zero, suc, ◌≤◌, Bool, true, false, List, [], ◌∷◌, ◌++◌, Option, Some, None, ◌⊎◌, inl, inr, refl, ap, sym, ◌∙◌, arith, append_assoc, append-nil}
use Rattle.std.specs.Prelude.{is_some}
use Rattle.hls_base.specs.declared.place.Place.{Place}
use Rattle.c_token.specs.declared.ctype.CType.{CType}
use Rattle.c_token.specs.declared.punct.Punct.{Punct}
use Rattle.c_token.specs.declared.punct.Punct.TheVariants as p
use Rattle.c_token.specs.declared.token.TokenKind.{TokenKind}
use Rattle.c_token.specs.declared.token.TokenKind.TheVariants as k
use Rattle.c_tree.specs.declared.operator.Unary.{Unary}
use Rattle.c_tree.specs.declared.operator.Binary.{Binary}
use Rattle.c_tree.specs.declared.specifier.Specifier.{Specifier}
use Rattle.c_tree.specs.Terminals.{Terminal, sign, word, prefix_of, operator_of, assignment_of, bump_of}
use Rattle.c_tree.specs.Tree.{Tree, TargetTree, Trees, ActionTree}
use Rattle.c_tree.specs.Tree as tree
use Rattle.c_tree.specs.Kinds.{DerivesWords, DerivesKind}
use Rattle.c_tree.specs.Kinds as kinds
use Rattle.c_tree.specs.Grammar as g
use Rattle.c_tree.specs.Grammar.{Derives, DerivesTarget, DerivesSubscripts, DerivesArguments, DerivesList, DerivesChange, DerivesAction, choice_level}
use Rattle.c_syntax.proofs.Attach.{Is}

-- ---- what stands outside brackets

data Bracket : Type 0 where
  opens : Bracket
  closes : Bracket
  neither : Bracket

abbrev bracket_of : TokenKind → Bracket
bracket_of (k.Punct p.LeftBracket) = opens
bracket_of (k.Punct p.RightBracket) = closes
bracket_of _ = neither

abbrev lower : ℕ → ℕ
lower zero = zero
lower (suc n) = n

abbrev kept : ℕ → Terminal → List Terminal → List Terminal
kept zero t ts = t ∷ ts
kept (suc n) t ts = ts

abbrev step : Bracket → ℕ → Terminal → (ℕ → List Terminal) → List Terminal
step opens n t rest = rest (suc n)
step closes n t rest = rest (lower n)
step neither n t rest = kept n t (rest n)

-- so many brackets are open
abbrev outside : ℕ → List Terminal → List Terminal
outside n [] = []
outside n (t ∷ ts) = step (bracket_of t.kind) n t (λ m. outside m ts)

-- Each bracket is closed.
record Closed (ts : List Terminal) : Type 0 where
  inside : (n : ℕ) (us : List Terminal) → outside (suc n) (ts ++ us) ≡ outside (suc n) us
  along : (us : List Terminal) → outside zero (ts ++ us) ≡ outside zero ts ++ outside zero us

closed_nil : Closed []
closed_nil = record { inside = λ n us. refl; along = λ us. refl }

closed_join : (ts us : List Terminal) → Closed ts → Closed us → Closed (ts ++ us)
closed_join ts us c d = record {
  inside = λ n vs. ap (outside (suc n)) (append_assoc ts us vs) ∙ c.inside n (us ++ vs) ∙ d.inside n vs;
  along = λ vs. ap (outside zero) (append_assoc ts us vs) ∙ c.along (us ++ vs) ∙ ap (λ x. outside zero ts ++ x) (d.along vs)
      ∙ sym (append_assoc (outside zero ts) (outside zero us) (outside zero vs)) ∙ ap (λ x. x ++ outside zero vs) (sym (c.along us));
}

closed_put : (t : Terminal) (ts : List Terminal) → bracket_of t.kind ≡ neither → Closed ts → Closed (t ∷ ts)
closed_put t ts e c = record {
  inside = λ n us. ap (λ b. step b (suc n) t (λ m. outside m (ts ++ us))) e ∙ c.inside n us;
  along = λ us. ap (λ b. step b zero t (λ m. outside m (ts ++ us))) e ∙ ap (λ x. t ∷ x) (c.along us) ∙ ap (λ x. x ++ outside zero us) (sym (ap (λ b. step b zero t (λ m. outside m ts)) e));
}

closed_brackets : (at to : Place) (ts us : List Terminal) → Closed ts → Closed us → Closed (sign p.LeftBracket at ∷ (ts ++ sign p.RightBracket to ∷ us))
closed_brackets at to ts us c d = record {
  inside = λ n vs. ap (outside (suc (suc n))) (append_assoc ts (sign p.RightBracket to ∷ us) vs) ∙ c.inside (suc n) (sign p.RightBracket to ∷ (us ++ vs)) ∙ d.inside n vs;
  along = λ vs. ap (outside (suc zero)) (append_assoc ts (sign p.RightBracket to ∷ us) vs) ∙ c.inside zero (sign p.RightBracket to ∷ (us ++ vs)) ∙ d.along vs
      ∙ ap (λ x. x ++ outside zero vs) (sym (c.inside zero (sign p.RightBracket to ∷ us)));
}

-- ---- signs of one kind are none of another

abbrev plain_sign : Punct → Bool
plain_sign p.LeftBracket = false
plain_sign p.RightBracket = false
plain_sign _ = true

plain_neither : (punct : Punct) (at : Place) → plain_sign punct ≡ true → bracket_of (k.Punct punct) ≡ neither
plain_neither p.LeftBracket at e = absurd cc
plain_neither p.RightBracket at e = absurd cc
plain_neither _ at e = refl

prefix_plain : (punct : Punct) (op : Unary) → prefix_of punct ≡ Some op → (plain_sign punct ≡ true) × (bump_of punct ≡ None) × (assignment_of punct ≡ None)
prefix_plain p.Plus op e = (refl, refl, refl)
prefix_plain p.Minus op e = (refl, refl, refl)
prefix_plain p.Tilde op e = (refl, refl, refl)
prefix_plain p.Bang op e = (refl, refl, refl)
prefix_plain _ op e = absurd cc

bump_plain : (punct : Punct) (up : Bool) → bump_of punct ≡ Some up → (plain_sign punct ≡ true) × (assignment_of punct ≡ None)
bump_plain p.PlusPlus up e = (refl, refl)
bump_plain p.MinusMinus up e = (refl, refl)
bump_plain _ up e = absurd cc

operator_plain : (punct : Punct) (op : Binary) → operator_of punct ≡ Some op → (plain_sign punct ≡ true) × (assignment_of punct ≡ None)
operator_plain p.Star op e = (refl, refl)
operator_plain p.Slash op e = (refl, refl)
operator_plain p.Percent op e = (refl, refl)
operator_plain p.Plus op e = (refl, refl)
operator_plain p.Minus op e = (refl, refl)
operator_plain p.ShiftLeft op e = (refl, refl)
operator_plain p.ShiftRight op e = (refl, refl)
operator_plain p.Less op e = (refl, refl)
operator_plain p.Greater op e = (refl, refl)
operator_plain p.LessEqual op e = (refl, refl)
operator_plain p.GreaterEqual op e = (refl, refl)
operator_plain p.EqualEqual op e = (refl, refl)
operator_plain p.BangEqual op e = (refl, refl)
operator_plain p.Amp op e = (refl, refl)
operator_plain p.Caret op e = (refl, refl)
operator_plain p.Bar op e = (refl, refl)
operator_plain p.AmpAmp op e = (refl, refl)
operator_plain p.BarBar op e = (refl, refl)
operator_plain _ op e = absurd cc

assignment_plain : (punct : Punct) (op : Option Binary) → assignment_of punct ≡ Some op → plain_sign punct ≡ true
assignment_plain p.LeftBracket op e = absurd cc
assignment_plain p.RightBracket op e = absurd cc
assignment_plain _ op e = refl

-- ---- expressions are closed

closed_words : {ts : List Terminal} {words : List Specifier} {constant : Bool} → DerivesWords ts words constant → Closed ts
closed_words kinds.no_word = closed_nil
closed_words (kinds.a_const at ts words constant d) = closed_put _ ts refl (closed_words d)
closed_words (kinds.a_specifier text w at ts words constant e d) = closed_put _ ts refl (closed_words d)

closed_kind : {ts : List Terminal} {kind : Option CType} {constant : Bool} → DerivesKind ts kind constant → Closed ts
closed_kind (kinds.of_words ts words kind constant d e) = closed_words d
closed_kind (kinds.of_name ls rs kind at before behind d e) = closed_join ls _ (closed_words d) (closed_put _ rs refl (closed_words e))

closed_sign : (punct : Punct) (at : Place) (ts : List Terminal) → plain_sign punct ≡ true → Closed ts → Closed (sign punct at ∷ ts)
closed_sign punct at ts e c = closed_put (sign punct at) ts (plain_neither punct at e) c

mutual
  closed : {n : ℕ} {ts : List Terminal} {e : Tree} → Derives n ts e → Closed ts
  closed (g.a_number _ _ _) = closed_put _ [] refl closed_nil
  closed (g.a_name _ _ _) = closed_put _ [] refl closed_nil
  closed (g.an_element _ _ ts _ _ _ d) = closed_put _ ts refl (closed_subscripts d)
  closed (g.a_call _ _ _ _ ts _ _ d) = closed_put _ _ refl (closed_put _ _ refl (closed_join ts _ (closed_arguments d) (closed_put _ [] refl closed_nil)))
  closed (g.a_group _ _ ts _ d) = closed_put _ _ refl (closed_join ts _ (closed d) (closed_put _ [] refl closed_nil))
  closed (g.a_bump_behind punct up at ts _ e d) = closed_join ts _ (closed_target d) (closed_sign punct at [] (bump_plain punct up e).0 closed_nil)
  closed (g.a_prefix punct op at ts _ e d) = closed_sign punct at ts (prefix_plain punct op e).0 (closed d)
  closed (g.a_bump_before punct up at ts _ e d) = closed_sign punct at ts (bump_plain punct up e).0 (closed_target d)
  closed (g.a_cast _ _ ks ts _ _ _ c d) = closed_put _ _ refl (closed_join ks _ (closed_kind c) (closed_put _ ts refl (closed d)))
  closed (g.an_operator punct op at _ ls rs _ _ o _ d e) = closed_join ls _ (closed d) (closed_sign punct at rs (operator_plain punct op o).0 (closed e))
  closed (g.a_choice _ _ ts ys ns _ _ _ d e f) = closed_join ts _ (closed d) (closed_put _ _ refl (closed_join ys _ (closed e) (closed_put _ ns refl (closed f))))
  closed (g.an_assignment punct op at ts vs _ _ e d f) = closed_join ts _ (closed_target d) (closed_sign punct at vs (assignment_plain punct op e) (closed f))
  closed (g.a_comma _ ls rs _ _ d e) = closed_join ls _ (closed d) (closed_put _ rs refl (closed e))
  closed (g.a_tighter _ _ _ d) = closed d

  closed_target : {ts : List Terminal} {target : TargetTree} → DerivesTarget ts target → Closed ts
  closed_target (g.a_target _ _ ts _ _ d) = closed_put _ ts refl (closed_subscripts d)

  closed_subscripts : {ts : List Terminal} {es : Trees} → DerivesSubscripts ts es → Closed ts
  closed_subscripts g.no_subscript = closed_nil
  closed_subscripts (g.a_subscript at to ts us _ _ d ds) = closed_brackets at to ts us (closed d) (closed_subscripts ds)

  closed_arguments : {ts : List Terminal} {es : Trees} → DerivesArguments ts es → Closed ts
  closed_arguments g.no_argument = closed_nil
  closed_arguments (g.arguments _ _ ds) = closed_list ds

  closed_list : {ts : List Terminal} {es : Trees} → DerivesList ts es → Closed ts
  closed_list (g.last _ _ d) = closed d
  closed_list (g.and_more _ ts us _ _ d ds) = closed_join ts _ (closed d) (closed_put _ us refl (closed_list ds))

-- subscripts leave nothing
subscripts_gone : {ts : List Terminal} {es : Trees} → DerivesSubscripts ts es → (us : List Terminal) → outside zero (ts ++ us) ≡ outside zero us
subscripts_gone g.no_subscript us = refl
subscripts_gone (g.a_subscript at to ts vs _ _ d ds) us =
    ap (outside (suc zero)) (append_assoc ts (sign p.RightBracket to ∷ vs) us) ∙ (closed d).inside zero (sign p.RightBracket to ∷ (vs ++ us)) ∙ subscripts_gone ds us

-- a target is a name
record Named (ts : List Terminal) : Type 0 where
  text : List ℕ
  at : Place
  alone : (us : List Terminal) → outside zero (ts ++ us) ≡ word text at ∷ outside zero us

target_named : {ts : List Terminal} {target : TargetTree} → DerivesTarget ts target → Named ts
target_named (g.a_target text at ts _ _ d) = record { text = text; at = at; alone = λ us. ap (λ x. word text at ∷ x) (subscripts_gone d us) }

sign_outside : (punct : Punct) (at : Place) (us : List Terminal) → plain_sign punct ≡ true → outside zero (sign punct at ∷ us) ≡ sign punct at ∷ outside zero us
sign_outside punct at us e = ap (λ b. step b zero (sign punct at) (λ m. outside m us)) (plain_neither punct at e)

-- ---- the outline of a change, and of an expression that is none

-- what may stand behind the name of a change, and behind its `++` or `--`
abbrev behind_name_of : Option Bool → Option (Option Binary) → List Terminal → Bool
behind_name_of (Some up) a [] = true
behind_name_of (Some up) a (u ∷ us) = false
behind_name_of None (Some op) us = true
behind_name_of None None us = false

abbrev is_alone : List Terminal → Bool → Bool
is_alone [] b = b
is_alone (u ∷ us) b = false

abbrev is_name : TokenKind → Bool
is_name (k.Word text) = true
is_name _ = false

abbrev behind_bump_of : Option Bool → List Terminal → Bool
behind_bump_of (Some up) (u ∷ us) = is_alone us (is_name u.kind)
behind_bump_of (Some up) [] = false
behind_bump_of None us = false

abbrev behind_name : TokenKind → List Terminal → Bool
behind_name (k.Punct punct) us = behind_name_of (bump_of punct) (assignment_of punct) us
behind_name _ us = false

-- `++a`, `a++`, or `a =` with what follows
abbrev changes_from : TokenKind → List Terminal → Bool
changes_from (k.Word text) [] = false
changes_from (k.Word text) (u ∷ us) = behind_name u.kind us
changes_from (k.Punct punct) us = behind_bump_of (bump_of punct) us
changes_from _ us = false

abbrev changes : List Terminal → Bool
changes [] = false
changes (t ∷ ts) = changes_from t.kind ts

abbrev is_assigning : TokenKind → Bool
is_assigning (k.Punct punct) = is_some (assignment_of punct)
is_assigning _ = false

-- `a =` with what follows
abbrev assigns_from : TokenKind → List Terminal → Bool
assigns_from (k.Word text) [] = false
assigns_from (k.Word text) (u ∷ us) = is_assigning u.kind
assigns_from _ us = false

abbrev assigns : List Terminal → Bool
assigns [] = false
assigns (t ∷ ts) = assigns_from t.kind ts

assignment_no_bump : (punct : Punct) (op : Option Binary) → assignment_of punct ≡ Some op → bump_of punct ≡ None
assignment_no_bump p.PlusPlus op e = absurd cc
assignment_no_bump p.MinusMinus op e = absurd cc
assignment_no_bump _ op e = refl

operator_no_bump : (punct : Punct) (op : Binary) → operator_of punct ≡ Some op → bump_of punct ≡ None
operator_no_bump p.PlusPlus op e = absurd cc
operator_no_bump p.MinusMinus op e = absurd cc
operator_no_bump _ op e = refl

abbrev pub IsChange : List Terminal → Type 0
IsChange ts = (action : ActionTree) × DerivesChange ts action

change_outline : {ts : List Terminal} {action : ActionTree} → DerivesChange ts action → changes (outside zero ts) ≡ true
change_outline (g.assigned punct op at ts vs what value e d f) =
    let n = target_named d in
    ap changes (n.alone (sign punct at ∷ vs) ∙ ap (λ x. word n.text n.at ∷ x) (sign_outside punct at vs (assignment_plain punct op e)))
    ∙ ap (λ b. behind_name_of b (assignment_of punct) (outside zero vs)) (assignment_no_bump punct op e) ∙ ap (λ a. behind_name_of None a (outside zero vs)) e
change_outline (g.bumped_behind punct up at ts what e d) =
    let n = target_named d in
    ap changes (n.alone (sign punct at ∷ []) ∙ ap (λ x. word n.text n.at ∷ x) (sign_outside punct at [] (bump_plain punct up e).0))
    ∙ ap (λ b. behind_name_of b (assignment_of punct) []) e
change_outline (g.bumped_before punct up at ts what e d) =
    let n = target_named d in
    ap changes (sign_outside punct at ts (bump_plain punct up e).0 ∙ ap (λ x. sign punct at ∷ x) (ap (outside zero) (sym (append-nil ts)) ∙ n.alone []))
    ∙ ap (λ b. behind_bump_of b (word n.text n.at ∷ [])) e

assigns_behind : (kind : TokenKind) (os : List Terminal) (punct : Punct) (at : Place) (us : List Terminal) → assigns_from kind os ≡ false → assignment_of punct ≡ None → assigns_from kind (os ++ sign punct at ∷ us) ≡ false
assigns_behind (k.Word text) [] punct at us h e = ap (λ a. is_some a) e
assigns_behind (k.Word text) (o ∷ os) punct at us h e = h
assigns_behind (k.Number value kind) os punct at us h e = refl
assigns_behind (k.Punct sign) os punct at us h e = refl
assigns_behind (k.TypeWord kind) os punct at us h e = refl

assigns_join : (os : List Terminal) (punct : Punct) (at : Place) (us : List Terminal) → assigns os ≡ false → assignment_of punct ≡ None → assigns (os ++ sign punct at ∷ us) ≡ false
assigns_join [] punct at us h e = refl
assigns_join (o ∷ os) punct at us h e = assigns_behind o.kind os punct at us h e

alone_more : (os : List Terminal) (t : Terminal) (us : List Terminal) (b : Bool) → is_alone (os ++ t ∷ us) b ≡ false
alone_more [] t us b = refl
alone_more (o ∷ os) t us b = refl

bump_more : (b : Option Bool) (os : List Terminal) (punct : Punct) (at : Place) (us : List Terminal) → behind_bump_of b (os ++ sign punct at ∷ us) ≡ false
bump_more None os punct at us = refl
bump_more (Some up) [] punct at us = alone_if us
  where
    alone_if : (us : List Terminal) → is_alone us false ≡ false
    alone_if [] = refl
    alone_if (u ∷ us) = refl
bump_more (Some up) (o ∷ os) punct at us = alone_more os (sign punct at) us (is_name o.kind)

name_of_more : (b : Option Bool) (a : Option (Option Binary)) (os : List Terminal) (t : Terminal) (us : List Terminal) → is_some a ≡ false → behind_name_of b a (os ++ t ∷ us) ≡ false
name_of_more None None os t us h = refl
name_of_more None (Some op) os t us h = absurd cc
name_of_more (Some up) a [] t us h = refl
name_of_more (Some up) a (o ∷ os) t us h = refl

name_more : (kind : TokenKind) (os : List Terminal) (t : Terminal) (us : List Terminal) → is_assigning kind ≡ false → behind_name kind (os ++ t ∷ us) ≡ false
name_more (k.Word text) os t us h = refl
name_more (k.Number value kind) os t us h = refl
name_more (k.Punct punct) os t us h = name_of_more (bump_of punct) (assignment_of punct) os t us h
name_more (k.TypeWord kind) os t us h = refl

changes_behind : (kind : TokenKind) (os : List Terminal) (punct : Punct) (at : Place) (us : List Terminal) → assigns_from kind os ≡ false → bump_of punct ≡ None → assignment_of punct ≡ None
    → changes_from kind (os ++ sign punct at ∷ us) ≡ false
changes_behind (k.Word text) [] punct at us h b a = ap (λ x. behind_name_of x (assignment_of punct) us) b ∙ ap (λ x. behind_name_of None x us) a
changes_behind (k.Word text) (o ∷ os) punct at us h b a = name_more o.kind os (sign punct at) us h
changes_behind (k.Number value kind) os punct at us h b a = refl
changes_behind (k.Punct front) os punct at us h b a = bump_more (bump_of front) os punct at us
changes_behind (k.TypeWord kind) os punct at us h b a = refl

changes_join : (os : List Terminal) (punct : Punct) (at : Place) (us : List Terminal) → assigns os ≡ false → bump_of punct ≡ None → assignment_of punct ≡ None → changes (os ++ sign punct at ∷ us) ≡ false
changes_join [] punct at us h b a = ap (λ x. behind_bump_of x us) b
changes_join (o ∷ os) punct at us h b a = changes_behind o.kind os punct at us h b a

-- the outline of a name with subscripts
name_outline : (text : List ℕ) (at : Place) {ts : List Terminal} {es : Trees} → DerivesSubscripts ts es → outside zero (word text at ∷ ts) ≡ word text at ∷ []
name_outline text at {ts} d = ap (λ x. word text at ∷ x) (ap (outside zero) (sym (append-nil ts)) ∙ subscripts_gone d [])

no_assigning : {n : ℕ} {ts : List Terminal} {e : Tree} → Derives n ts e → n ≤ 13 → assigns (outside zero ts) ≡ false
no_assigning (g.a_number _ _ _) le = refl
no_assigning (g.a_name _ _ _) le = refl
no_assigning (g.an_element text at ts _ _ _ d) le = ap assigns (name_outline text at d)
no_assigning (g.a_call _ _ _ _ _ _ _ _) le = refl
no_assigning (g.a_group _ _ _ _ _) le = refl
no_assigning (g.a_bump_behind punct up at ts _ e d) le =
    let n = target_named d in
    ap assigns (n.alone (sign punct at ∷ []) ∙ ap (λ x. word n.text n.at ∷ x) (sign_outside punct at [] (bump_plain punct up e).0)) ∙ ap (λ a. is_some a) (bump_plain punct up e).1
no_assigning (g.a_prefix punct op at ts _ e d) le = ap assigns (sign_outside punct at ts (prefix_plain punct op e).0)
no_assigning (g.a_bump_before punct up at ts _ e d) le = ap assigns (sign_outside punct at ts (bump_plain punct up e).0)
no_assigning (g.a_cast _ _ _ _ _ _ _ _ _) le = refl
no_assigning (g.an_operator punct op at n ls rs _ _ o l d e) le =
    let c = closed d in let f = operator_plain punct op o in
    ap assigns (c.along (sign punct at ∷ rs) ∙ ap (λ x. outside zero ls ++ x) (sign_outside punct at rs f.0))
    ∙ assigns_join (outside zero ls) punct at (outside zero rs) (no_assigning d le) f.1
no_assigning (g.a_choice at colon ts ys ns _ _ _ d e f) le =
    ap assigns ((closed d).along (sign p.Question at ∷ (ys ++ sign p.Colon colon ∷ ns)))
    ∙ assigns_join (outside zero ts) p.Question at (outside zero (ys ++ sign p.Colon colon ∷ ns)) (no_assigning d (omega arith)) refl
no_assigning (g.an_assignment _ _ _ _ _ _ _ _ _ _) le = absurd (omega (arith, le))
no_assigning (g.a_comma _ _ _ _ _ _ _) le = absurd (omega (arith, le))
no_assigning (g.a_tighter n _ _ d) le = no_assigning d (omega (arith, le))

decide : {n : ℕ} {ts : List Terminal} {e : Tree} → Derives n ts e → n ≤ 13 → IsChange ts ⊎ (changes (outside zero ts) ≡ false)
decide (g.a_number _ _ _) le = inr refl
decide (g.a_name _ _ _) le = inr refl
decide (g.an_element text at ts _ _ _ d) le = inr (ap changes (name_outline text at d))
decide (g.a_call _ _ _ _ _ _ _ _) le = inr refl
decide (g.a_group _ _ _ _ _) le = inr refl
decide (g.a_bump_behind punct up at ts what e d) le = inl (tree.bumping what up at, g.bumped_behind punct up at ts what e d)
decide (g.a_prefix punct op at ts _ e d) le =
    inr (ap changes (sign_outside punct at ts (prefix_plain punct op e).0) ∙ ap (λ x. behind_bump_of x (outside zero ts)) (prefix_plain punct op e).1)
decide (g.a_bump_before punct up at ts what e d) le = inl (tree.bumping what up at, g.bumped_before punct up at ts what e d)
decide (g.a_cast _ _ _ _ _ _ _ _ _) le = inr refl
decide (g.an_operator punct op at n ls rs _ _ o l d e) le =
    let f = operator_plain punct op o in
    inr (ap changes ((closed d).along (sign punct at ∷ rs) ∙ ap (λ x. outside zero ls ++ x) (sign_outside punct at rs f.0))
    ∙ changes_join (outside zero ls) punct at (outside zero rs) (no_assigning d le) (operator_no_bump punct op o) f.1)
decide (g.a_choice at colon ts ys ns _ _ _ d e f) le =
    inr (ap changes ((closed d).along (sign p.Question at ∷ (ys ++ sign p.Colon colon ∷ ns)))
    ∙ changes_join (outside zero ts) p.Question at (outside zero (ys ++ sign p.Colon colon ∷ ns)) (no_assigning d (omega arith)) refl refl)
decide (g.an_assignment _ _ _ _ _ _ _ _ _ _) le = absurd (omega (arith, le))
decide (g.a_comma _ _ _ _ _ _ _) le = absurd (omega (arith, le))
decide (g.a_tighter n _ _ d) le = decide d (omega (arith, le))

abbrev pub IsAction : List Terminal → Type 0
IsAction ts = (action : ActionTree) × DerivesAction ts action

pub change_is : (ts : List Terminal) → IsChange ts → IsAction ts
change_is ts c = (c.0, g.a_change ts c.0 c.1)

pub value_is : (ts : List Terminal) → Is choice_level ts → IsAction ts
value_is ts v = elim (decide v.1 (omega arith)) [
  | inl c ↦ change_is ts c
  | inr none ↦ (tree.evaluation v.0, g.a_value ts v.0 (λ action c. let h : true ≡ false = sym (change_outline c) ∙ none in cc) v.1)
]
