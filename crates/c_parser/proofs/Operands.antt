-- What the parser finds of an expression, part by part.
use Rattle.std.proofs.Common.{◌≡◌, ◌∙◌, ℕ, ◌<◌, sym, refl, ap, subst, Bool, true, false, List, [], ◌∷◌, ◌++◌, Option, Some, None, arith}
use Rattle.std.specs.Prelude.{not}
use Rattle.hls_base.specs.declared.place.Place.{Place}
use Rattle.c_token.specs.declared.ctype.CType.{CType}
use Rattle.c_token.specs.declared.punct.Punct.{Punct}
use Rattle.c_token.specs.declared.punct.Punct.TheVariants as p
use Rattle.c_token.specs.declared.token.TokenKind.{TokenKind}
use Rattle.c_token.specs.declared.token.TokenKind.TheVariants as k
use Rattle.c_tree.specs.declared.operator.Unary.{Unary}
use Rattle.c_tree.specs.declared.operator.Binary.{Binary}
use Rattle.c_tree.specs.Tree as tree
use Rattle.c_tree.specs.Tree.{Tree, TargetTree, row}
use Rattle.c_tree.specs.Terminals.{Terminal, terminal, sign, word, is_keyword, prefix_of, assignment_of, bump_of}
use Rattle.c_tree.specs.Grammar.{DerivesSubscripts}
use Rattle.c_tree.specs.Grammar as g
use Rattle.c_parser.specs.Cursor.Readings.{Found, Never, Anywhere, Ends, Closed, Sign, Lacks, is_paren, opens_paren, joins, sign_level}
use Rattle.c_parser.specs.Cursor.Types.{starts_kind, opens_cast}
use Rattle.c_parser.specs.Expressions.{Expression, Lvalue, Subscripts, Arguments, Named, Chosen, Cast, element, bare_target, target_in}
use Rattle.c_parser.specs.Expressions as x
use Rattle.c_parser.proofs.CursorLemmas.Readings.{heads, signs, words, sign_no_word, Step}
use Rattle.c_parser.proofs.CursorLemmas.WordLists.{no_paren}
use Rattle.c_parser.proofs.CursorLemmas.TypeWords.{value_starts}
use Rattle.c_parser.proofs.Levels.{prefix_no_bump, prefix_no_paren, bump_no_paren, bump-level, assignment-level, Ends-tighter}
use Rattle.c_parser.proofs.ExpressionForms.{Primary, is_number, is_named, is_group, primary_form, primary_back, Postfix, bumped, plain, postfix_form, bumped_back, loosened, Before, prefixed, bumped_first, is_cast, unprefixed, before_form, prefixed_back, bumped_first_back, cast_back, Either, by_test, without, either_form, by_test_back, Setting, set, unset, setting_form, set_back}
use Rattle.c_parser.proofs.Beginnings.{primary_kind, starts_primary, primary_starts, lvalue_word, postfix_starts, expression_starts, kind_no_expression, target_tree, lvalue_reads, lvalue_bare, bare_lvalue}

-- ---- numbers, names, parentheses

as_primary : (others tokens : List Terminal) (e : Tree) (rest : List Terminal) → others ≡ tokens → Expression 0 others e rest → Primary tokens e rest
as_primary others tokens e rest same r = primary_form tokens rest refl (sym same ∙ r.split) r.derives

number_only : (value : ℕ) (kind : CType) (at : Place) (tokens new : List Terminal) (e : Tree) (end : List Terminal) → tokens ≡ terminal (k.Number value kind) at ∷ new → Primary tokens e end → (end ≡ new) × (e ≡ tree.number value kind at)
number_only value kind at tokens new e end f (is_number v c a h is) =
    let i = heads (terminal (k.Number v c) a) (terminal (k.Number value kind) at) end new (sym h ∙ f) in
    let x : v ≡ value = (let kinds : k.Number v c ≡ k.Number value kind = i.0 in cc) in
    let y : c ≡ kind = (let kinds : k.Number v c ≡ k.Number value kind = i.0 in cc) in
    let z : a ≡ at = i.1 in
    (i.2, is ∙ cc)
number_only value kind at tokens new e end f (is_named text a behind h kw n) =
    absurd (let kinds : k.Word text ≡ k.Number value kind = (heads (word text a) (terminal (k.Number value kind) at) behind new (sym h ∙ f)).0 in cc)
number_only value kind at tokens new e end f (is_group opens inside h c) =
    absurd (let kinds : k.Punct p.LeftParen ≡ k.Number value kind = (heads (sign p.LeftParen opens) (terminal (k.Number value kind) at) inside new (sym h ∙ f)).0 in cc)

pub number_found : (t : Terminal) (value : ℕ) (kind : CType) (tokens new : List Terminal) (e : Tree) → tokens ≡ t ∷ new → t.kind ≡ k.Number value kind → e ≡ tree.number value kind t.at → Found (Expression 0) (Ends 0) tokens e new
number_found t value kind tokens new e f is whole =
    let here : tokens ≡ terminal (k.Number value kind) t.at ∷ new = f ∙ ap (λ x. terminal x t.at ∷ new) is in
    record {
      reads = primary_back tokens e new (is_number value kind t.at here whole);
      only = λ others b end same r ends. let o = number_only value kind t.at tokens new b end here (as_primary others tokens b end same r) in (o.0, o.1 ∙ sym whole);
    }

-- no expression begins so
pub primary_never : (tokens : List Terminal) → starts_primary tokens ≡ false → Never (Expression 0) (Ends 0) tokens
primary_never tokens e = record {
  none = λ others b end same r ends.
      let both : false ≡ true = sym e ∙ primary_starts tokens b end (as_primary others tokens b end same r) in cc;
}

pub empty_never : (tokens : List Terminal) → tokens ≡ [] → Never (Expression 0) (Ends 0) tokens
empty_never tokens e = primary_never tokens (ap starts_primary e)

pub token_never : (t : Terminal) (kind : TokenKind) (tokens new : List Terminal) → tokens ≡ t ∷ new → t.kind ≡ kind → primary_kind kind ≡ false → Never (Expression 0) (Ends 0) tokens
token_never t kind tokens new e is h = primary_never tokens (ap starts_primary e ∙ ap primary_kind is ∙ h)

pub keyword_never : (t : Terminal) (text : List ℕ) (tokens new : List Terminal) → tokens ≡ t ∷ new → t.kind ≡ k.Word text → is_keyword text ≡ true → Never (Expression 0) (Ends 0) tokens
keyword_never t text tokens new e is h = token_never t (k.Word text) tokens new e is (ap not h)

pub sign_never_here : (t : Terminal) (punct : Punct) (tokens new : List Terminal) → tokens ≡ t ∷ new → t.kind ≡ k.Punct punct → (punct ≡ p.LeftParen → ⊥) → Never (Expression 0) (Ends 0) tokens
sign_never_here t punct tokens new e is h = token_never t (k.Punct punct) tokens new e is (no_paren punct h)

named_into : (text : List ℕ) (at : Place) (tokens behind : List Terminal) (e : Tree) (end : List Terminal) → tokens ≡ word text at ∷ behind → Primary tokens e end → Named text at behind e end
named_into text at tokens behind e end f (is_number v c a h is) =
    absurd (let kinds : k.Number v c ≡ k.Word text = (heads (terminal (k.Number v c) a) (word text at) end behind (sym h ∙ f)).0 in cc)
named_into text at tokens behind e end f (is_named text' a behind' h kw n) =
    let w = words text' text a at behind' behind (sym h ∙ f) in
    subst (λ y. Named y at behind e end) w.0 (subst (λ y. Named text' y behind e end) w.1 (subst (λ y. Named text' a y e end) w.2 n))
named_into text at tokens behind e end f (is_group opens inside h c) = sign_no_word p.LeftParen text opens at inside behind (sym h ∙ f)

pub named_step : (t : Terminal) (text : List ℕ) (tokens behind : List Terminal) → tokens ≡ t ∷ behind → t.kind ≡ k.Word text → is_keyword text ≡ false → Step (Expression 0) (Ends 0) tokens (Named text t.at) (Ends 0) behind (λ e. e)
named_step t text tokens behind e is kw =
    let here : tokens ≡ word text t.at ∷ behind = e ∙ ap (λ x. terminal x t.at ∷ behind) is in
    record {
      into = λ others a end same r ends. (a, refl, named_into text t.at tokens behind a end here (as_primary others tokens a end same r), ends);
      back = λ b end n. primary_back tokens b end (is_named text t.at behind here kw n);
    }

group_into : (at : Place) (tokens inside : List Terminal) (e : Tree) (end : List Terminal) → tokens ≡ sign p.LeftParen at ∷ inside → Primary tokens e end → Closed (Expression 15) p.RightParen inside e end
group_into at tokens inside e end f (is_number v c a h is) =
    absurd (let kinds : k.Number v c ≡ k.Punct p.LeftParen = (heads (terminal (k.Number v c) a) (sign p.LeftParen at) end inside (sym h ∙ f)).0 in cc)
group_into at tokens inside e end f (is_named text a behind h kw n) = sign_no_word p.LeftParen text at a inside behind (sym f ∙ h)
group_into at tokens inside e end f (is_group opens inside' h c) = let s = signs p.LeftParen p.LeftParen opens at inside' inside (sym h ∙ f) in subst (λ y. Closed (Expression 15) p.RightParen y e end) s.2 c

pub group_step : (t : Terminal) (punct : Punct) (tokens inside : List Terminal) → tokens ≡ t ∷ inside → t.kind ≡ k.Punct punct → punct ≡ p.LeftParen → Step (Expression 0) (Ends 0) tokens (Closed (Expression 15) p.RightParen) Anywhere inside (λ e. e)
group_step t punct tokens inside e is paren =
    let here : tokens ≡ sign p.LeftParen t.at ∷ inside = e ∙ ap (λ x. terminal x t.at ∷ inside) (is ∙ ap k.Punct paren) in
    record {
      into = λ others a end same r ends. (a, refl, group_into t.at tokens inside a end here (as_primary others tokens a end same r), tt);
      back = λ b end c. primary_back tokens b end (is_group t.at inside here c);
    }

-- ---- behind a name

-- subscripts begin with their bracket, if there is one
pub subscripts_bare : (tokens rest : List Terminal) (es : List Tree) → Lacks p.LeftBracket tokens → Subscripts tokens es rest → (rest ≡ tokens) × (es ≡ [])
subscripts_bare tokens rest es lacks s = go es s.split s.derives
  where
    go : {ts : List Terminal} (us : List Tree) → tokens ≡ ts ++ rest → DerivesSubscripts ts (row us) → (rest ≡ tokens) × (us ≡ [])
    go [] e d = (sym (e ∙ ap (λ y. y ++ rest) (none d refl)), refl)
      where
        none : {ts : List Terminal} {vs : tree.Trees} → DerivesSubscripts ts vs → vs ≡ tree.none → ts ≡ []
        none g.no_subscript f = refl
        none (g.a_subscript opens closes ts us first others d ds) f = absurd cc
    go (u ∷ us) e d = absurd (some d e refl)
      where
        some : {ts : List Terminal} {vs : tree.Trees} → DerivesSubscripts ts vs → tokens ≡ ts ++ rest → vs ≡ tree.more u (row us) → ⊥
        some g.no_subscript f h = cc
        some (g.a_subscript opens closes ts us' first others d ds) f h = lacks opens _ f

paren_no_bracket : (tokens inside : List Terminal) (at : Place) → tokens ≡ sign p.LeftParen at ∷ inside → Lacks p.LeftBracket tokens
paren_no_bracket tokens inside at e opens rest f = let h : p.LeftParen ≡ p.LeftBracket = (signs p.LeftParen p.LeftBracket at opens inside rest (sym e ∙ f)).0 in cc

call_into : (text : List ℕ) (at opens : Place) (inside : List Terminal) {tokens : List Terminal} {e : Tree} {end : List Terminal} → tokens ≡ sign p.LeftParen opens ∷ inside → 0 < joins end → Named text at tokens e end → (args : List Tree) × (e ≡ tree.call text (row args) at) × Arguments inside args end × Unit {0}
call_into text at opens inside f ends (x.called tokens o i args end h c) =
    let s = signs p.LeftParen p.LeftParen o opens i inside (sym h ∙ f) in (args, refl, subst (λ y. Arguments y args end) s.2 c, tt)
call_into text at opens inside f ends (x.alone tokens subscripts end s) =
    let h = subscripts_bare tokens end subscripts (paren_no_bracket tokens inside opens f) s in
    absurd (omega (arith, ap joins (h.0 ∙ f)))

pub call_step : (text : List ℕ) (at opens : Place) (tokens inside : List Terminal) → tokens ≡ sign p.LeftParen opens ∷ inside → Step (Named text at) (Ends 0) tokens Arguments Anywhere inside (λ args. tree.call text (row args) at)
call_step text at opens tokens inside f = record {
  into = λ others a end same n ends. call_into text at opens inside f ends (subst (λ y. Named text at y a end) same n);
  back = λ args end c. x.called tokens opens inside args end f c;
}

alone_into : (text : List ℕ) (at : Place) {tokens : List Terminal} {e : Tree} {end : List Terminal} → Lacks p.LeftParen tokens → 0 < joins end → Named text at tokens e end → (es : List Tree) × (e ≡ element text es at) × Subscripts tokens es end × (0 < joins end)
alone_into text at lacks ends (x.called tokens o i args end h c) = absurd (lacks o i h)
alone_into text at lacks ends (x.alone tokens subscripts end s) = (subscripts, refl, s, ends)

pub alone_step : (text : List ℕ) (at : Place) (tokens here : List Terminal) → here ≡ tokens → Lacks p.LeftParen tokens → Step (Named text at) (Ends 0) tokens Subscripts (Ends 0) here (λ es. element text es at)
alone_step text at tokens here is lacks = record {
  into = λ others a end same n ends.
      let i = alone_into text at lacks ends (subst (λ y. Named text at y a end) same n) in (i.0, i.1, subst (λ y. Subscripts y i.0 end) (sym is) i.2, ends);
  back = λ es end s. x.alone tokens es end (subst (λ y. Subscripts y es end) is s);
}

-- ---- what is changed

-- a target as an expression that is found
module _ (n : ℕ) (tokens middle : List Terminal) (e : Tree) (q : Found (Expression n) (Ends n) tokens e middle) (reads : (others rest : List Terminal) (t : TargetTree) → Lvalue others t rest → Expression n others (target_tree t) rest) where
  lvalue_only : (others rest : List Terminal) (t : TargetTree) → others ≡ tokens → Lvalue others t rest → n < joins rest → (rest ≡ middle) × (target_tree t ≡ e) × (bare_target (opens_paren tokens) e ≡ Some t)
  lvalue_only others rest t same l ends =
      let o = q.only others (target_tree t) rest same (reads others rest t l) ends in
      (o.0, o.1, ap (bare_target (opens_paren tokens)) (sym o.1) ∙ ap (λ y. bare_target (opens_paren y) (target_tree t)) (sym same) ∙ lvalue_bare others rest t l)

pub target_found : (tokens rest : List Terminal) (grouped : Bool) (e : Tree) (t : TargetTree) → grouped ≡ opens_paren tokens → Found (Expression 0) (Ends 0) tokens e rest → bare_target grouped e ≡ Some t → Found Lvalue (Ends 0) tokens t rest
target_found tokens rest grouped e t is q b =
    let b' : bare_target (opens_paren tokens) e ≡ Some t = ap (λ y. bare_target y e) (sym is) ∙ b in
    record {
      reads = bare_lvalue 0 tokens e rest t b' q.reads;
      only = λ others u end same l ends.
          let o = lvalue_only 0 tokens rest e q lvalue_reads others end u same l ends in
          (o.0, let both : Some u ≡ Some t = sym o.2 ∙ b' in cc);
    }

pub target_absent : (tokens rest : List Terminal) (grouped : Bool) (e : Tree) → grouped ≡ opens_paren tokens → Found (Expression 0) (Ends 0) tokens e rest → bare_target grouped e ≡ None → Never Lvalue (Ends 0) tokens
target_absent tokens rest grouped e is q b = record {
  none = λ others u end same l ends.
      let o = lvalue_only 0 tokens rest e q lvalue_reads others end u same l ends in
      let both : Some u ≡ None = sym o.2 ∙ ap (λ y. bare_target y e) (sym is) ∙ b in cc;
}

pub target_never : (tokens : List Terminal) → Never (Expression 0) (Ends 0) tokens → Never Lvalue (Ends 0) tokens
target_never tokens q = record { none = λ others u end same l ends. q.none others (target_tree u) end same (lvalue_reads others end u l) ends }

-- ---- `++` and `--` behind

as_postfix : (others tokens : List Terminal) (e : Tree) (rest : List Terminal) → others ≡ tokens → Expression 1 others e rest → Postfix tokens e rest
as_postfix others tokens e rest same r = postfix_form tokens rest refl (sym same ∙ r.split) r.derives

module _ (tokens middle : List Terminal) (e : Tree) (q : Found (Expression 0) (Ends 0) tokens e middle) where
  bump_end : (punct : Punct) (up : Bool) (at : Place) (end : List Terminal) → bump_of punct ≡ Some up → 0 < joins (sign punct at ∷ end)
  bump_end punct up at end b = omega (arith, bump-level punct up b)

  module _ (new : List Terminal) (punct : Punct) (up : Bool) (at : Place) (m : middle ≡ sign punct at ∷ new) (b : bump_of punct ≡ Some up) where
    bumped_only : (t : TargetTree) (f : Tree) (end : List Terminal) → bare_target (opens_paren tokens) e ≡ Some t → 1 < joins end → Postfix tokens f end → (end ≡ new) × (f ≡ tree.bump t up true at)
    bumped_only t f end bare ends (bumped punct' up' at' u b' l is) =
        let o = lvalue_only 0 tokens middle e q lvalue_reads tokens (sign punct' at' ∷ end) u refl l (bump_end punct' up' at' end b') in
        let s = signs punct' punct at' at end new (o.0 ∙ m) in
        let x : up' ≡ up = (let both : Some up' ≡ Some up = sym b' ∙ ap bump_of s.0 ∙ b in cc) in
        let y : u ≡ t = (let both : Some u ≡ Some t = sym o.2 ∙ bare in cc) in
        let z : at' ≡ at = s.1 in
        (s.2, is ∙ cc)
    bumped_only t f end bare ends (plain r) =
        let o = q.only tokens f end refl r (Ends-tighter 0 1 end (omega arith) ends) in
        absurd (omega (arith, ap joins (o.0 ∙ m), bump-level punct up b))

    no_target : (f : Tree) (end : List Terminal) → bare_target (opens_paren tokens) e ≡ None → 1 < joins end → Postfix tokens f end → ⊥
    no_target f end bare ends (bumped punct' up' at' u b' l is) =
        let o = lvalue_only 0 tokens middle e q lvalue_reads tokens (sign punct' at' ∷ end) u refl l (bump_end punct' up' at' end b') in
        let both : Some u ≡ None = sym o.2 ∙ bare in cc
    no_target f end bare ends (plain r) =
        let o = q.only tokens f end refl r (Ends-tighter 0 1 end (omega arith) ends) in
        omega (arith, ap joins (o.0 ∙ m), bump-level punct up b)

  unbumped_only : (f : Tree) (end : List Terminal) → ((punct : Punct) (at : Place) (rest : List Terminal) (up : Bool) → middle ≡ sign punct at ∷ rest → bump_of punct ≡ Some up → ⊥) → 1 < joins end → Postfix tokens f end → (end ≡ middle) × (f ≡ e)
  unbumped_only f end bare ends (bumped punct up at u b l is) =
      let o = lvalue_only 0 tokens middle e q lvalue_reads tokens (sign punct at ∷ end) u refl l (bump_end punct up at end b) in
      absurd (bare punct at end up (sym o.0) b)
  unbumped_only f end bare ends (plain r) = q.only tokens f end refl r (Ends-tighter 0 1 end (omega arith) ends)

pub bump_found : (tokens middle new : List Terminal) (grouped : Bool) (e : Tree) (punct : Punct) (up : Bool) (at : Place) (t : TargetTree) (whole : Tree) → grouped ≡ opens_paren tokens → Found (Expression 0) (Ends 0) tokens e middle → middle ≡ sign punct at ∷ new → bump_of punct ≡ Some up → bare_target grouped e ≡ Some t → whole ≡ tree.bump t up true at → Found (Expression 1) (Ends 1) tokens whole new
bump_found tokens middle new grouped e punct up at t whole is q m b bare w =
    let bare' : bare_target (opens_paren tokens) e ≡ Some t = ap (λ y. bare_target y e) (sym is) ∙ bare in
    let l = subst (λ y. Lvalue tokens t y) m (bare_lvalue 0 tokens e middle t bare' q.reads) in
    record {
      reads = subst (λ y. Expression 1 tokens y new) (sym w) (bumped_back punct up at t tokens new b l);
      only = λ others f end same r ends. let o = bumped_only tokens middle e q new punct up at m b t f end bare' ends (as_postfix others tokens f end same r) in (o.0, o.1 ∙ sym w);
    }

pub bump_absent : (tokens middle new : List Terminal) (grouped : Bool) (e : Tree) (punct : Punct) (up : Bool) (at : Place) → grouped ≡ opens_paren tokens → Found (Expression 0) (Ends 0) tokens e middle → middle ≡ sign punct at ∷ new → bump_of punct ≡ Some up → bare_target grouped e ≡ None → Never (Expression 1) (Ends 1) tokens
bump_absent tokens middle new grouped e punct up at is q m b bare = record {
  none = λ others f end same r ends.
      no_target tokens middle e q new punct up at m b f end (ap (λ y. bare_target y e) (sym is) ∙ bare) ends (as_postfix others tokens f end same r);
}

pub bump_none : (tokens middle new : List Terminal) (e : Tree) → new ≡ middle → Found (Expression 0) (Ends 0) tokens e middle → ((punct : Punct) (at : Place) (rest : List Terminal) (up : Bool) → middle ≡ sign punct at ∷ rest → bump_of punct ≡ Some up → ⊥) → Found (Expression 1) (Ends 1) tokens e new
bump_none tokens middle new e is q bare = subst (λ y. Found (Expression 1) (Ends 1) tokens e y) (sym is) (record {
  reads = loosened 0 tokens e middle q.reads;
  only = λ others f end same r ends. unbumped_only tokens middle e q f end bare ends (as_postfix others tokens f end same r);
})

no_postfix : (tokens : List Terminal) (f : Tree) (end : List Terminal) → Never (Expression 0) (Ends 0) tokens → 1 < joins end → Postfix tokens f end → ⊥
no_postfix tokens f end q ends (bumped punct up at u b l is) = q.none tokens (target_tree u) (sign punct at ∷ end) refl (lvalue_reads tokens _ u l) (let h = bump-level punct up b in omega (arith, h))
no_postfix tokens f end q ends (plain r) = q.none tokens f end refl r (Ends-tighter 0 1 end (omega arith) ends)

pub postfix_never : (tokens : List Terminal) → Never (Expression 0) (Ends 0) tokens → Never (Expression 1) (Ends 1) tokens
postfix_never tokens q = record { none = λ others f end same r ends. no_postfix tokens f end q ends (as_postfix others tokens f end same r) }

-- ---- operators and casts before an operand

as_before : (others tokens : List Terminal) (e : Tree) (rest : List Terminal) → others ≡ tokens → Expression 2 others e rest → Before tokens e rest
as_before others tokens e rest same r = before_form tokens rest refl (sym same ∙ r.split) r.derives

-- an operand begins with no other sign than a parenthesis
operand_sign : {P : Type 0} (punct : Punct) (at : Place) (tokens inside : List Terminal) (e : Tree) (end : List Terminal) → tokens ≡ sign punct at ∷ inside → is_paren (k.Punct punct) ≡ false → Expression 1 tokens e end → P
operand_sign punct at tokens inside e end f h r = absurd (let both : false ≡ true = sym h ∙ ap starts_primary (sym f) ∙ postfix_starts tokens e end r in cc)

paren_no_prefix : (op : Unary) (punct : Punct) → punct ≡ p.LeftParen → prefix_of punct ≡ Some op → ⊥
paren_no_prefix op punct e f = let both : None ≡ Some op = ap prefix_of (sym e) ∙ f in cc

paren_no_bump : (up : Bool) (punct : Punct) → punct ≡ p.LeftParen → bump_of punct ≡ Some up → ⊥
paren_no_bump up punct e f = let both : None ≡ Some up = ap bump_of (sym e) ∙ f in cc

prefix_into : (punct : Punct) (op : Unary) (at : Place) (tokens inside : List Terminal) (e : Tree) (end : List Terminal) → tokens ≡ sign punct at ∷ inside → prefix_of punct ≡ Some op → 2 < joins end → Before tokens e end → (arg : Tree) × (e ≡ tree.unary op arg at) × Expression 2 inside arg end × (2 < joins end)
prefix_into punct op at tokens inside e end f o ends (prefixed punct' op' at' inside' arg h o' r is) =
    let s = signs punct' punct at' at inside' inside (sym h ∙ f) in
    let x : op' ≡ op = (let both : Some op' ≡ Some op = sym o' ∙ ap prefix_of s.0 ∙ o in cc) in
    let y : at' ≡ at = s.1 in
    (arg, is ∙ cc, subst (λ z. Expression 2 z arg end) s.2 r, ends)
prefix_into punct op at tokens inside e end f o ends (bumped_first punct' up at' inside' u h b l is) =
    let s = signs punct' punct at' at inside' inside (sym h ∙ f) in absurd (prefix_no_bump punct op up o (ap bump_of (sym s.0) ∙ b))
prefix_into punct op at tokens inside e end f o ends (is_cast at' inside' h c) =
    let s = signs p.LeftParen punct at' at inside' inside (sym h ∙ f) in absurd (paren_no_prefix op punct (sym s.0) o)
prefix_into punct op at tokens inside e end f o ends (unprefixed r) = operand_sign punct at tokens inside e end f (prefix_no_paren punct op o) r

pub prefix_step : (punct : Punct) (op : Unary) (at : Place) (tokens inside : List Terminal) → tokens ≡ sign punct at ∷ inside → prefix_of punct ≡ Some op → Step (Expression 2) (Ends 2) tokens (Expression 2) (Ends 2) inside (λ arg. tree.unary op arg at)
prefix_step punct op at tokens inside f o = record {
  into = λ others a end same r ends. prefix_into punct op at tokens inside a end f o ends (as_before others tokens a end same r);
  back = λ arg end r. prefixed_back punct op at tokens inside end arg f o r;
}

bump_into : (punct : Punct) (up : Bool) (at : Place) (tokens inside : List Terminal) (e : Tree) (end : List Terminal) → tokens ≡ sign punct at ∷ inside → bump_of punct ≡ Some up → 2 < joins end → Before tokens e end → (t : TargetTree) × (e ≡ tree.bump t up false at) × Lvalue inside t end × (0 < joins end)
bump_into punct up at tokens inside e end f b ends (prefixed punct' op at' inside' arg h o r is) =
    let s = signs punct' punct at' at inside' inside (sym h ∙ f) in absurd (prefix_no_bump punct op up (ap prefix_of (sym s.0) ∙ o) b)
bump_into punct up at tokens inside e end f b ends (bumped_first punct' up' at' inside' u h b' l is) =
    let s = signs punct' punct at' at inside' inside (sym h ∙ f) in
    let x : up' ≡ up = (let both : Some up' ≡ Some up = sym b' ∙ ap bump_of s.0 ∙ b in cc) in
    let y : at' ≡ at = s.1 in
    (u, is ∙ cc, subst (λ z. Lvalue z u end) s.2 l, Ends-tighter 0 2 end (omega arith) ends)
bump_into punct up at tokens inside e end f b ends (is_cast at' inside' h c) =
    let s = signs p.LeftParen punct at' at inside' inside (sym h ∙ f) in absurd (paren_no_bump up punct (sym s.0) b)
bump_into punct up at tokens inside e end f b ends (unprefixed r) = operand_sign punct at tokens inside e end f (bump_no_paren punct up b) r

pub bump_step : (punct : Punct) (up : Bool) (at : Place) (tokens inside : List Terminal) → tokens ≡ sign punct at ∷ inside → bump_of punct ≡ Some up → Step (Expression 2) (Ends 2) tokens Lvalue (Ends 0) inside (λ t. tree.bump t up false at)
bump_step punct up at tokens inside f b = record {
  into = λ others a end same r ends. bump_into punct up at tokens inside a end f b ends (as_before others tokens a end same r);
  back = λ t end l. bumped_first_back punct up at tokens inside end t f b l;
}

-- what begins with `(` and a word of a type is no operand
operand_no_kind : {P : Type 0} (at : Place) (tokens inside : List Terminal) (e : Tree) (end : List Terminal) → tokens ≡ sign p.LeftParen at ∷ inside → starts_kind inside ≡ true → Expression 1 tokens e end → P
operand_no_kind at tokens inside e end f h r = absurd (go (postfix_form tokens end refl r.split r.derives))
  where
    group : (a : Tree) (rest : List Terminal) → Primary tokens a rest → ⊥
    group a rest q = let c = group_into at tokens inside a rest f q in kind_no_expression inside h (expression_starts 15 inside c.first c.middle c.begins)

    go : Postfix tokens e end → ⊥
    go (bumped punct up at' u b l is) = let w = lvalue_word tokens _ u l in sign_no_word p.LeftParen w.0 at w.1 inside w.2 (sym f ∙ w.3)
    go (plain s) = group e end (primary_form tokens end refl s.split s.derives)

cast_into : (at : Place) (tokens inside : List Terminal) (e : Tree) (end : List Terminal) → tokens ≡ sign p.LeftParen at ∷ inside → starts_kind inside ≡ true → 2 < joins end → Before tokens e end → (c : Tree) × (e ≡ c) × Cast at inside c end × (2 < joins end)
cast_into at tokens inside e end f h ends (prefixed punct op at' inside' arg i o r is) =
    let s = signs punct p.LeftParen at' at inside' inside (sym i ∙ f) in absurd (paren_no_prefix op punct s.0 o)
cast_into at tokens inside e end f h ends (bumped_first punct up at' inside' u i b l is) =
    let s = signs punct p.LeftParen at' at inside' inside (sym i ∙ f) in absurd (paren_no_bump up punct s.0 b)
cast_into at tokens inside e end f h ends (is_cast at' inside' i c) =
    let s = signs p.LeftParen p.LeftParen at' at inside' inside (sym i ∙ f) in
    (e, refl, subst (λ y. Cast y inside e end) s.1 (subst (λ y. Cast at' y e end) s.2 c), ends)
cast_into at tokens inside e end f h ends (unprefixed r) = operand_no_kind at tokens inside e end f h r

pub cast_step : (at : Place) (tokens inside : List Terminal) → tokens ≡ sign p.LeftParen at ∷ inside → starts_kind inside ≡ true → Step (Expression 2) (Ends 2) tokens (Cast at) (Ends 2) inside (λ e. e)
cast_step at tokens inside f h = record {
  into = λ others a end same r ends. cast_into at tokens inside a end f h ends (as_before others tokens a end same r);
  back = λ e end c. cast_back at tokens inside end e f c;
}

bare_into : (tokens : List Terminal) (e : Tree) (end : List Terminal) → ((punct : Punct) (at : Place) (rest : List Terminal) (op : Unary) → tokens ≡ sign punct at ∷ rest → prefix_of punct ≡ Some op → ⊥) → ((punct : Punct) (at : Place) (rest : List Terminal) (up : Bool) → tokens ≡ sign punct at ∷ rest → bump_of punct ≡ Some up → ⊥) → opens_cast tokens ≡ false → Before tokens e end → Expression 1 tokens e end
bare_into tokens e end no_prefix no_bump no_cast (prefixed punct op at inside arg i o r is) = absurd (no_prefix punct at inside op i o)
bare_into tokens e end no_prefix no_bump no_cast (bumped_first punct up at inside u i b l is) = absurd (no_bump punct at inside up i b)
bare_into tokens e end no_prefix no_bump no_cast (is_cast at inside i c) =
    absurd (let both : false ≡ true = sym no_cast ∙ ap opens_cast i ∙ value_starts inside c.begins.first c.begins.middle c.begins.begins in cc)
bare_into tokens e end no_prefix no_bump no_cast (unprefixed r) = r

pub bare_step : (tokens here : List Terminal) → here ≡ tokens → ((punct : Punct) (at : Place) (rest : List Terminal) (op : Unary) → tokens ≡ sign punct at ∷ rest → prefix_of punct ≡ Some op → ⊥) → ((punct : Punct) (at : Place) (rest : List Terminal) (up : Bool) → tokens ≡ sign punct at ∷ rest → bump_of punct ≡ Some up → ⊥) → opens_cast tokens ≡ false → Step (Expression 2) (Ends 2) tokens (Expression 1) (Ends 1) here (λ e. e)
bare_step tokens here is no_prefix no_bump no_cast = record {
  into = λ others a end same r ends.
      (a, refl, subst (λ y. Expression 1 y a end) (sym is) (bare_into tokens a end no_prefix no_bump no_cast (as_before others tokens a end same r)), Ends-tighter 1 2 end (omega arith) ends);
  back = λ e end r. loosened 1 tokens e end (subst (λ y. Expression 1 y e end) is r);
}

-- ---- `?:`

as_either : (others tokens : List Terminal) (e : Tree) (rest : List Terminal) → others ≡ tokens → Expression 13 others e rest → Either tokens e rest
as_either others tokens e rest same r = either_form tokens rest refl (sym same ∙ r.split) r.derives

module _ (tokens middle : List Terminal) (test : Tree) (q : Found (Expression 12) (Ends 12) tokens test middle) where
  chosen_into : (at : Place) (inside : List Terminal) (e : Tree) (end : List Terminal) → middle ≡ sign p.Question at ∷ inside → 13 < joins end → Either tokens e end → (c : Tree) × (e ≡ c) × Chosen test at inside c end × (13 < joins end)
  chosen_into at inside e end m ends (by_test test' at' inside' r c) =
      let o = q.only tokens test' (sign p.Question at' ∷ inside') refl r (omega arith) in
      let s = signs p.Question p.Question at' at inside' inside (o.0 ∙ m) in
      (e, refl, subst (λ y. Chosen test y inside e end) s.1 (subst (λ y. Chosen test at' y e end) s.2 (subst (λ y. Chosen y at' inside' e end) o.1 c)), ends)
  chosen_into at inside e end m ends (without r) =
      let o = q.only tokens e end refl r (Ends-tighter 12 13 end (omega arith) ends) in
      absurd (omega (arith, ap joins (o.0 ∙ m)))

  unchosen_only : (e : Tree) (end : List Terminal) → Lacks p.Question middle → 13 < joins end → Either tokens e end → (end ≡ middle) × (e ≡ test)
  unchosen_only e end lacks ends (by_test test' at' inside' r c) =
      let o = q.only tokens test' (sign p.Question at' ∷ inside') refl r (omega arith) in absurd (lacks at' inside' (sym o.0))
  unchosen_only e end lacks ends (without r) = q.only tokens e end refl r (Ends-tighter 12 13 end (omega arith) ends)

pub chosen_step : (tokens middle inside : List Terminal) (test : Tree) (at : Place) → Found (Expression 12) (Ends 12) tokens test middle → middle ≡ sign p.Question at ∷ inside → Step (Expression 13) (Ends 13) tokens (Chosen test at) (Ends 13) inside (λ e. e)
chosen_step tokens middle inside test at q m = record {
  into = λ others a end same r ends. chosen_into tokens middle test q at inside a end m ends (as_either others tokens a end same r);
  back = λ e end c. by_test_back test at tokens inside end e (subst (λ y. Expression 12 tokens test y) m q.reads) c;
}

pub unchosen_found : (tokens middle new : List Terminal) (test : Tree) → new ≡ middle → Lacks p.Question middle → Found (Expression 12) (Ends 12) tokens test middle → Found (Expression 13) (Ends 13) tokens test new
unchosen_found tokens middle new test is lacks q = subst (λ y. Found (Expression 13) (Ends 13) tokens test y) (sym is) (record {
  reads = loosened 12 tokens test middle q.reads;
  only = λ others a end same r ends. unchosen_only tokens middle test q a end lacks ends (as_either others tokens a end same r);
})

no_either : (tokens : List Terminal) (e : Tree) (end : List Terminal) → Never (Expression 12) (Ends 12) tokens → 13 < joins end → Either tokens e end → ⊥
no_either tokens e end q ends (by_test test at inside r c) = q.none tokens test (sign p.Question at ∷ inside) refl r (omega arith)
no_either tokens e end q ends (without r) = q.none tokens e end refl r (Ends-tighter 12 13 end (omega arith) ends)

pub either_never : (tokens : List Terminal) → Never (Expression 12) (Ends 12) tokens → Never (Expression 13) (Ends 13) tokens
either_never tokens q = record { none = λ others a end same r ends. no_either tokens a end q ends (as_either others tokens a end same r) }

-- ---- assignment

as_setting : (others tokens : List Terminal) (e : Tree) (rest : List Terminal) → others ≡ tokens → Expression 14 others e rest → Setting tokens e rest
as_setting others tokens e rest same r = setting_form tokens rest refl (sym same ∙ r.split) r.derives

loosened_to_13 : (tokens : List Terminal) (e : Tree) (rest : List Terminal) → Expression 0 tokens e rest → Expression 13 tokens e rest
loosened_to_13 tokens e rest r =
    loosened 12 _ _ _ (loosened 11 _ _ _ (loosened 10 _ _ _ (loosened 9 _ _ _ (loosened 8 _ _ _ (loosened 7 _ _ _ (loosened 6 _ _ _ (loosened 5 _ _ _
    (loosened 4 _ _ _ (loosened 3 _ _ _ (loosened 2 _ _ _ (loosened 1 _ _ _ (loosened 0 _ _ _ r))))))))))))

lvalue_13 : (tokens rest : List Terminal) (t : TargetTree) → Lvalue tokens t rest → Expression 13 tokens (target_tree t) rest
lvalue_13 tokens rest t l = loosened_to_13 tokens (target_tree t) rest (lvalue_reads tokens rest t l)

assignment_end : (punct : Punct) (op : Option Binary) (at : Place) (end : List Terminal) → assignment_of punct ≡ Some op → 13 < joins (sign punct at ∷ end)
assignment_end punct op at end a = omega (arith, assignment-level punct op a)

module _ (tokens middle : List Terminal) (e : Tree) (q : Found (Expression 13) (Ends 13) tokens e middle) where
  set_into : (inside : List Terminal) (punct : Punct) (op : Option Binary) (at : Place) (t : TargetTree) (f : Tree) (end : List Terminal) → middle ≡ sign punct at ∷ inside → assignment_of punct ≡ Some op → bare_target (opens_paren tokens) e ≡ Some t → 14 < joins end → Setting tokens f end → (value : Tree) × (f ≡ tree.assign t op value at) × Expression 14 inside value end × (14 < joins end)
  set_into inside punct op at t f end m a bare ends (set punct' op' at' inside' u value a' l r is) =
      let o = lvalue_only 13 tokens middle e q lvalue_13 tokens (sign punct' at' ∷ inside') u refl l (assignment_end punct' op' at' inside' a') in
      let s = signs punct' punct at' at inside' inside (o.0 ∙ m) in
      let x : op' ≡ op = (let both : Some op' ≡ Some op = sym a' ∙ ap assignment_of s.0 ∙ a in cc) in
      let y : u ≡ t = (let both : Some u ≡ Some t = sym o.2 ∙ bare in cc) in
      let z : at' ≡ at = s.1 in
      (value, is ∙ cc, subst (λ i. Expression 14 i value end) s.2 r, ends)
  set_into inside punct op at t f end m a bare ends (unset r) =
      let o = q.only tokens f end refl r (Ends-tighter 13 14 end (omega arith) ends) in
      absurd (omega (arith, ap joins (o.0 ∙ m), assignment-level punct op a))

  no_setting : (inside : List Terminal) (punct : Punct) (op : Option Binary) (at : Place) (f : Tree) (end : List Terminal) → middle ≡ sign punct at ∷ inside → assignment_of punct ≡ Some op → bare_target (opens_paren tokens) e ≡ None → 14 < joins end → Setting tokens f end → ⊥
  no_setting inside punct op at f end m a bare ends (set punct' op' at' inside' u value a' l r is) =
      let o = lvalue_only 13 tokens middle e q lvalue_13 tokens (sign punct' at' ∷ inside') u refl l (assignment_end punct' op' at' inside' a') in
      let both : Some u ≡ None = sym o.2 ∙ bare in cc
  no_setting inside punct op at f end m a bare ends (unset r) =
      let o = q.only tokens f end refl r (Ends-tighter 13 14 end (omega arith) ends) in
      omega (arith, ap joins (o.0 ∙ m), assignment-level punct op a)

  unset_only : (f : Tree) (end : List Terminal) → ((punct : Punct) (at : Place) (rest : List Terminal) (op : Option Binary) → middle ≡ sign punct at ∷ rest → assignment_of punct ≡ Some op → ⊥) → 14 < joins end → Setting tokens f end → (end ≡ middle) × (f ≡ e)
  unset_only f end none ends (set punct op at inside u value a l r is) =
      let o = lvalue_only 13 tokens middle e q lvalue_13 tokens (sign punct at ∷ inside) u refl l (assignment_end punct op at inside a) in
      absurd (none punct at inside op (sym o.0) a)
  unset_only f end none ends (unset r) = q.only tokens f end refl r (Ends-tighter 13 14 end (omega arith) ends)

pub set_step : (tokens middle inside : List Terminal) (grouped : Bool) (e : Tree) (punct : Punct) (op : Option Binary) (at : Place) (t : TargetTree) → grouped ≡ opens_paren tokens → Found (Expression 13) (Ends 13) tokens e middle → middle ≡ sign punct at ∷ inside → assignment_of punct ≡ Some op → bare_target grouped e ≡ Some t → Step (Expression 14) (Ends 14) tokens (Expression 14) (Ends 14) inside (λ value. tree.assign t op value at)
set_step tokens middle inside grouped e punct op at t is q m a bare =
    let bare' : bare_target (opens_paren tokens) e ≡ Some t = ap (λ y. bare_target y e) (sym is) ∙ bare in
    record {
      into = λ others f end same r ends. set_into tokens middle e q inside punct op at t f end m a bare' ends (as_setting others tokens f end same r);
      back = λ value end r. set_back punct op at tokens inside end t value a (subst (λ y. Lvalue tokens t y) m (bare_lvalue 13 tokens e middle t bare' q.reads)) r;
    }

pub set_absent : (tokens middle inside : List Terminal) (grouped : Bool) (e : Tree) (punct : Punct) (op : Option Binary) (at : Place) → grouped ≡ opens_paren tokens → Found (Expression 13) (Ends 13) tokens e middle → middle ≡ sign punct at ∷ inside → assignment_of punct ≡ Some op → bare_target grouped e ≡ None → Never (Expression 14) (Ends 14) tokens
set_absent tokens middle inside grouped e punct op at is q m a bare = record {
  none = λ others f end same r ends.
      no_setting tokens middle e q inside punct op at f end m a (ap (λ y. bare_target y e) (sym is) ∙ bare) ends (as_setting others tokens f end same r);
}

pub unset_found : (tokens middle new : List Terminal) (e : Tree) → new ≡ middle → Found (Expression 13) (Ends 13) tokens e middle → ((punct : Punct) (at : Place) (rest : List Terminal) (op : Option Binary) → middle ≡ sign punct at ∷ rest → assignment_of punct ≡ Some op → ⊥) → Found (Expression 14) (Ends 14) tokens e new
unset_found tokens middle new e is q none = subst (λ y. Found (Expression 14) (Ends 14) tokens e y) (sym is) (record {
  reads = loosened 13 tokens e middle q.reads;
  only = λ others f end same r ends. unset_only tokens middle e q f end none ends (as_setting others tokens f end same r);
})

no_set : (tokens : List Terminal) (f : Tree) (end : List Terminal) → Never (Expression 13) (Ends 13) tokens → 14 < joins end → Setting tokens f end → ⊥
no_set tokens f end q ends (set punct op at inside u value a l r is) = q.none tokens (target_tree u) (sign punct at ∷ inside) refl (lvalue_13 tokens _ u l) (assignment_end punct op at inside a)
no_set tokens f end q ends (unset r) = q.none tokens f end refl r (Ends-tighter 13 14 end (omega arith) ends)

pub setting_never : (tokens : List Terminal) → Never (Expression 13) (Ends 13) tokens → Never (Expression 14) (Ends 14) tokens
setting_never tokens q = record { none = λ others f end same r ends. no_set tokens f end q ends (as_setting others tokens f end same r) }

-- ---- what a sign closes

pub closes_apart : (n : ℕ) (closer : Punct) → n < sign_level closer → {A : Type 0} (a : A) (at : Place) (here end : List Terminal) → Sign closer here at end → Ends n a here
closes_apart n closer h a at here end s = omega (arith, ap joins s)
