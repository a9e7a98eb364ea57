-- Parameters, functions and items.
use Rattle.std.proofs.Common.{◌≡◌, ◌∙◌, ℕ, ◌<◌, ◌⊎◌, inl, inr, sym, refl, ap, subst, Bool, true, false, List, [], ◌∷◌, ◌++◌, codes, Option, Some, None, append_assoc, arith, length, map}
use Rattle.std.specs.Prelude.{bytes_eq, MatchBool}
use Rattle.std.specs.Option.{option_map}
use Rattle.hls_base.specs.declared.place.Place.{Place}
use Rattle.c_token.specs.declared.ctype.CType.{CType}
use Rattle.c_token.specs.declared.punct.Punct.TheVariants as p
use Rattle.c_token.specs.declared.token.TokenKind.{TokenKind}
use Rattle.c_token.specs.declared.token.TokenKind.TheVariants as k
use Rattle.c_tree.specs.Tree as tree
use Rattle.c_tree.specs.Tree.{Tree, ObjectTree, StmtTree, StmtTrees, stmt_row, ParamTree, FunctionTree, ItemTree, ProgramTree}
use Rattle.c_tree.specs.Terminals.{Terminal, sign, word}
use Rattle.c_tree.specs.Kinds.{DerivesKind}
use Rattle.c_tree.specs.Grammar.{DerivesLengths, DerivesParam, DerivesParamList, DerivesParams, DerivesDefinition, DerivesItem, DerivesItems, DerivesProgram}
use Rattle.c_tree.specs.Grammar as g
use Rattle.c_parser.specs.Cursor.Readings.{Reads, Found, Never, Anywhere, Sequence, Closed, Sign, Word, Lacks, LacksWord, Listed, Repeated, joins, opens_paren, snd}
use Rattle.c_parser.specs.Cursor.Readings as r
use Rattle.c_parser.specs.declared.cursor.types.Kind.{Kind}
use Rattle.c_parser.specs.declared.cursor.types.ValueKind.{ValueKind}
use Rattle.c_parser.specs.Cursor.Types.{SomeKind, AValueKind, KindEnds, starts_kind}
use Rattle.c_parser.specs.Cursor.Tokens.{Name, separates}
use Rattle.c_parser.specs.Objects.{Lengths, AnObject, Separated}
use Rattle.c_parser.specs.Statements.{Block}
use Rattle.c_parser.specs.Cursor.Tokens.{opens_call}
use Rattle.c_parser.specs.Functions.{AParam, Params, ADefinition, function_with, AFunction, ParamBehind, named, unnamed, AnItem, ItemBehind, some_objects, a_function, AtEnd, Items, body_trees}
use Rattle.std.specs.declared.alloc.Global.{Global}
use Rattle.std.specs.declared.vec.Vec.{Vec}
use Rattle.c_tree.specs.declared.statement.Stmt.{Stmt}
use Rattle.c_tree.specs.declared.function.Function.{Function}
use Rattle.c_tree.specs.View.{param_of, body_of, function_of}
use Rattle.c_parser.proofs.CursorLemmas.Readings.{heads, signs, words, sign_no_word, Step, repeated_last}
use Rattle.c_parser.proofs.ExpressionForms.{shut, Opened, unshut}
use Rattle.c_parser.proofs.CursorLemmas.TypeWords.{void_first, kind_starts, value_starts}
use Rattle.c_parser.proofs.Actions.{separated_ends}
use Rattle.c_parser.proofs.Declarations.{name_no_kind, objects_of_listed, listed_of_objects, object_form}
use Rattle.c_parser.proofs.StatementForms.{unrow_stmts, row-unrow_stmts}

-- ---- a parameter

-- lengths begin with their bracket, if there is one
lengths_begin : (tokens rest : List Terminal) (ls : List (Option Tree)) → Lengths tokens ls rest → (rest ≡ tokens) ⊎ ((at : Place) × (more : List Terminal) × (tokens ≡ sign p.LeftBracket at ∷ more))
lengths_begin tokens rest ls d = go d.split d.derives
  where
    go : {ts : List Terminal} {xs : List (Option Tree)} → tokens ≡ ts ++ rest → DerivesLengths ts xs → (rest ≡ tokens) ⊎ ((at : Place) × (more : List Terminal) × (tokens ≡ sign p.LeftBracket at ∷ more))
    go f g.no_length = inl (sym f)
    go f (g.a_length opens closes ts us length lengths l ds) = inr (opens, (ts ++ sign p.RightBracket closes ∷ us) ++ rest, f)

separated_no_kind : (ts : List Terminal) → separates ts ≡ true → starts_kind ts ≡ false
separated_no_kind [] e = refl
separated_no_kind (x ∷ ts) e = go x.kind refl
  where
    go : (kind : TokenKind) → x.kind ≡ kind → starts_kind (x ∷ ts) ≡ false
    go (k.Punct punct) f = ap (λ y. starts_kind (record { kind = y; at = x.at } ∷ ts)) f
    go (k.Word text) f = absurd (let both : false ≡ true = ap (λ y. separates (record { kind = y; at = x.at } ∷ ts)) (sym f) ∙ e in cc)
    go (k.Number value kind) f = ap (λ y. starts_kind (record { kind = y; at = x.at } ∷ ts)) f
    go (k.TypeWord kind) f = absurd (let both : false ≡ true = ap (λ y. separates (record { kind = y; at = x.at } ∷ ts)) (sym f) ∙ e in cc)

pub param_apart : (start : Place) (kind : ValueKind) (param : ParamTree) (here end : List Terminal) → ParamBehind start kind here param end → Separated param end → KindEnds kind here
param_apart start kind param here end (named text at behind ls n l is) sep = name_no_kind text at behind here n.0 n.1
param_apart start kind param here end (unnamed ls l is) sep = go (lengths_begin here end ls l)
  where
    go : ((end ≡ here) ⊎ ((at : Place) × (more : List Terminal) × (here ≡ sign p.LeftBracket at ∷ more))) → starts_kind here ≡ false
    go (inl e) = ap starts_kind (sym e) ∙ separated_no_kind end sep
    go (inr b) = ap starts_kind b.2

param_into : (first : Terminal) (more tokens rest : List Terminal) (param : ParamTree) → tokens ≡ first ∷ more → AParam tokens param rest → Sequence AValueKind (ParamBehind first.at) snd tokens param rest
param_into first more tokens rest param f d = go d.split d.derives
  where
    go : {ts : List Terminal} {x : ParamTree} → tokens ≡ ts ++ rest → DerivesParam ts x → Sequence AValueKind (ParamBehind first.at) snd tokens x rest
    go {x = x} e (g.named_param kind constant ks ls text at lengths dk kw dl) = record {
      first = record { kind = kind; constant = constant };
      second = x;
      middle = word text at ∷ (ls ++ rest);
      begins = record { taken = ks; split = e ∙ append_assoc ks (word text at ∷ ls) rest; derives = dk };
      goes_on = named text at (ls ++ rest) lengths (refl, kw) (record { taken = ls; split = refl; derives = dl }) refl;
      whole = refl;
    }
    go {x = x} e (g.unnamed_param kind constant u ks ls lengths dk dl) =
        let at_is : u.at ≡ first.at = (heads u first ((ks ++ ls) ++ rest) more (sym e ∙ f)).1 in record {
          first = record { kind = kind; constant = constant };
          second = x;
          middle = ls ++ rest;
          begins = record { taken = u ∷ ks; split = e ∙ ap (λ y. u ∷ y) (append_assoc ks ls rest); derives = dk };
          goes_on = unnamed lengths (record { taken = ls; split = refl; derives = dl })
              (ap (λ y. record { object = record { name = []; at = y; kind = kind; constant = constant; lengths = lengths; init = None }; named = false }) at_is);
          whole = refl;
        }

param_back : (first : Terminal) (more tokens rest : List Terminal) (param : ParamTree) → tokens ≡ first ∷ more → Sequence AValueKind (ParamBehind first.at) snd tokens param rest → AParam tokens param rest
param_back first more tokens rest param f s = subst (λ y. AParam tokens y rest) (sym s.whole) (go s.goes_on)
  where
    kd : AValueKind tokens s.first s.middle
    kd = s.begins

    bare : (ts : List Terminal) (x : ParamTree) (ls : List (Option Tree)) → tokens ≡ ts ++ s.middle → DerivesKind ts (Some s.first.kind) s.first.constant → Lengths s.middle ls rest
        → x ≡ record { object = record { name = []; at = first.at; kind = s.first.kind; constant = s.first.constant; lengths = ls; init = None }; named = false } → AParam tokens x rest
    bare [] x ls e d l is = absurd (let both : false ≡ true = kind_starts [] d in cc)
    bare (u ∷ ks) x ls e d l is =
        let at_is : u.at ≡ first.at = (heads u first (ks ++ s.middle) more (sym e ∙ f)).1 in
        record {
          taken = u ∷ (ks ++ l.taken);
          split = e ∙ ap (λ y. u ∷ y) (ap (λ y. ks ++ y) l.split ∙ sym (append_assoc ks l.taken rest));
          derives = subst (λ y. DerivesParam (u ∷ (ks ++ l.taken)) y)
              (ap (λ y. record { object = record { name = []; at = y; kind = s.first.kind; constant = s.first.constant; lengths = ls; init = None }; named = false }) at_is ∙ sym is)
              (g.unnamed_param s.first.kind s.first.constant u ks l.taken ls d l.derives);
        }

    go : ParamBehind first.at s.first s.middle s.second rest → AParam tokens s.second rest
    go (named text at behind ls n l is) =
        let ts = kd.taken ++ word text at ∷ l.taken in record {
          taken = ts;
          split = kd.split ∙ ap (λ y. kd.taken ++ y) (n.0 ∙ ap (λ y. word text at ∷ y) l.split) ∙ sym (append_assoc kd.taken (word text at ∷ l.taken) rest);
          derives = subst (λ y. DerivesParam ts y) (sym is) (g.named_param s.first.kind s.first.constant kd.taken l.taken text at ls kd.derives n.1 l.derives);
        }
    go (unnamed ls l is) = bare kd.taken s.second ls kd.split kd.derives l is

pub param_step : (first : Terminal) (more tokens : List Terminal) → tokens ≡ first ∷ more → Step AParam Separated tokens (Sequence AValueKind (ParamBehind first.at) snd) Separated tokens (λ x. x)
param_step first more tokens f = record {
  into = λ others x end same d ends. (x, refl, param_into first more tokens end x f (subst (λ y. AParam y x end) same d), ends);
  back = λ x end s. param_back first more tokens end x f s;
}

-- no parameter begins at the end
pub no_param_here : (tokens : List Terminal) → tokens ≡ [] → Never AParam Separated tokens
no_param_here tokens f = record { none = λ others x end same d ends. go end d.derives (sym f ∙ sym same ∙ d.split) }
  where
    nothing : (ts rest : List Terminal) (u : Terminal) → [] ≡ (u ∷ ts) ++ rest → ⊥
    nothing ts rest u e = cc

    start : (ks more rest : List Terminal) {kind : Option CType} {constant : Bool} → DerivesKind ks kind constant → [] ≡ (ks ++ more) ++ rest → ⊥
    start [] more rest d e = let both : false ≡ true = kind_starts [] d in cc
    start (u ∷ ks) more rest d e = nothing (ks ++ more) rest u e

    go : {ts : List Terminal} {x : ParamTree} (end : List Terminal) → DerivesParam ts x → [] ≡ ts ++ end → ⊥
    go end (g.named_param kind constant ks ls text at lengths dk kw dl) e = start ks (word text at ∷ ls) end dk e
    go end (g.unnamed_param kind constant u ks ls lengths dk dl) e = nothing (ks ++ ls) end u e

pub named_param_step : (start : Place) (kind : ValueKind) (text : List ℕ) (at : Place) (tokens behind : List Terminal) → Name tokens (text, at) behind
    → Step (ParamBehind start kind) Separated tokens Lengths (r.Ends 0) behind (λ ls. record { object = record { name = text; at = at; kind = kind.kind; constant = kind.constant; lengths = ls; init = None }; named = true })
named_param_step start kind text at tokens behind n = record {
  into = λ others x end same d ends. go x end ends (subst (λ y. ParamBehind start kind y x end) same d);
  back = λ ls end l. named text at behind ls n l refl;
}
  where
    none : (end : List Terminal) (ls : List (Option Tree)) → separates end ≡ true → ((end ≡ tokens) ⊎ ((a : Place) × (more : List Terminal) × (tokens ≡ sign p.LeftBracket a ∷ more))) → ⊥
    none end ls sep (inl e) = let both : false ≡ true = ap separates (sym n.0 ∙ sym e) ∙ sep in cc
    none end ls sep (inr b) = sign_no_word p.LeftBracket text b.0 at b.1 behind (sym b.2 ∙ n.0)

    go : (x : ParamTree) (end : List Terminal) → separates end ≡ true → ParamBehind start kind tokens x end → (ls : List (Option Tree))
        × (x ≡ record { object = record { name = text; at = at; kind = kind.kind; constant = kind.constant; lengths = ls; init = None }; named = true }) × Lengths behind ls end × (0 < joins end)
    go x end sep (named text' at' behind' ls m l is) =
        let q = words text' text at' at behind' behind (sym m.0 ∙ n.0) in (
          ls,
          is ∙ ap (λ y. record { object = record { name = y; at = at'; kind = kind.kind; constant = kind.constant; lengths = ls; init = None }; named = true }) q.0
              ∙ ap (λ y. record { object = record { name = text; at = y; kind = kind.kind; constant = kind.constant; lengths = ls; init = None }; named = true }) q.1,
          subst (λ y. Lengths y ls end) q.2 l,
          let h = separated_ends end sep in omega (arith, h),
        )
    go x end sep (unnamed ls l is) = absurd (none end ls sep (lengths_begin tokens end ls l))

pub unnamed_param_step : (start : Place) (kind : ValueKind) (tokens here : List Terminal) → here ≡ tokens → ((n : List ℕ × Place) (rest : List Terminal) → Name tokens n rest → ⊥)
    → Step (ParamBehind start kind) Separated tokens Lengths (r.Ends 0) here (λ ls. record { object = record { name = []; at = start; kind = kind.kind; constant = kind.constant; lengths = ls; init = None }; named = false })
unnamed_param_step start kind tokens here same_here none = record {
  into = λ others x end same d ends. go x end ends (subst (λ y. ParamBehind start kind y x end) same d);
  back = λ ls end l. unnamed ls (subst (λ y. Lengths y ls end) same_here l) refl;
}
  where
    go : (x : ParamTree) (end : List Terminal) → separates end ≡ true → ParamBehind start kind tokens x end → (ls : List (Option Tree))
        × (x ≡ record { object = record { name = []; at = start; kind = kind.kind; constant = kind.constant; lengths = ls; init = None }; named = false }) × Lengths here ls end × (0 < joins end)
    go x end sep (named text at behind ls n l is) = absurd (none (text, at) behind n)
    go x end sep (unnamed ls l is) = (ls, is, subst (λ y. Lengths y ls end) (sym same_here) l, let h = separated_ends end sep in omega (arith, h))

-- ---- parameters

listed_of_params : {ts : List Terminal} {all : List ParamTree} (at : Place) (rest : List Terminal) → DerivesParamList ts all → Listed AParam p.RightParen (ts ++ sign p.RightParen at ∷ rest) all rest
listed_of_params at rest (g.last_param ts param d) = r.last _ param at rest (record { taken = ts; split = refl; derives = d })
listed_of_params at rest (g.more_params comma ts us param others d ds) =
    r.more _ param comma (us ++ sign p.RightParen at ∷ rest) others rest (record { taken = ts; split = append_assoc ts (sign p.Comma comma ∷ us) (sign p.RightParen at ∷ rest); derives = d }) (listed_of_params at rest ds)

params_of_listed : {tokens : List Terminal} {all : List ParamTree} {rest : List Terminal} → Listed AParam p.RightParen tokens all rest → Opened DerivesParamList p.RightParen tokens all rest
params_of_listed (r.last tokens a at rest d) = record { ts = d.taken; at = at; split = d.split ∙ sym (append_assoc d.taken (sign p.RightParen at ∷ []) rest); derives = g.last_param d.taken a d.derives }
params_of_listed (r.more tokens a at middle others rest d l) =
    let o = params_of_listed l in record {
      ts = d.taken ++ sign p.Comma at ∷ o.ts;
      at = o.at;
      split = d.split ∙ ap (λ y. d.taken ++ sign p.Comma at ∷ y) o.split ∙ sym (append_assoc d.taken (sign p.Comma at ∷ (o.ts ++ sign p.RightParen o.at ∷ [])) rest)
          ∙ ap (λ y. y ++ rest) (sym (append_assoc d.taken (sign p.Comma at ∷ o.ts) (sign p.RightParen o.at ∷ [])));
      derives = g.more_params at d.taken o.ts a others d.derives o.derives;
    }

data ParamsForm (tokens : List Terminal) (all : List ParamTree) (rest : List Terminal) : Type 0 where
  empty : (at : Place) → tokens ≡ sign p.RightParen at ∷ rest → all ≡ [] → ParamsForm tokens all rest
  void_only : (at closes : Place) → tokens ≡ word (codes "void") at ∷ sign p.RightParen closes ∷ rest → all ≡ [] → ParamsForm tokens all rest
  some : Listed AParam p.RightParen tokens all rest → ParamsForm tokens all rest

params_form : (tokens rest : List Terminal) (all : List ParamTree) → Params tokens all rest → ParamsForm tokens all rest
params_form tokens rest all c = let o = unshut p.RightParen tokens rest all c in go o.at o.split o.derives
  where
    go : {ts : List Terminal} {xs : List ParamTree} (at : Place) → tokens ≡ (ts ++ sign p.RightParen at ∷ []) ++ rest → DerivesParams ts xs → ParamsForm tokens xs rest
    go at f g.no_param = empty at f refl
    go at f (g.void_alone v) = void_only v at f refl
    go {ts} at f (g.params us xs d) = some (subst (λ y. Listed AParam p.RightParen y xs rest) (sym (f ∙ append_assoc us (sign p.RightParen at ∷ []) rest)) (listed_of_params at rest d))

-- a parameter begins with a word of a type that has values
param_value : (tokens rest : List Terminal) (x : ParamTree) → AParam tokens x rest → (v : ValueKind) × (middle : List Terminal) × AValueKind tokens v middle
param_value tokens rest x d = go d.split d.derives
  where
    go : {ts : List Terminal} {y : ParamTree} → tokens ≡ ts ++ rest → DerivesParam ts y → (v : ValueKind) × (middle : List Terminal) × AValueKind tokens v middle
    go e (g.named_param kind constant ks ls text at lengths dk kw dl) =
        (record { kind = kind; constant = constant }, word text at ∷ (ls ++ rest), record { taken = ks; split = e ∙ append_assoc ks (word text at ∷ ls) rest; derives = dk })
    go e (g.unnamed_param kind constant u ks ls lengths dk dl) =
        (record { kind = kind; constant = constant }, ls ++ rest, record { taken = u ∷ ks; split = e ∙ ap (λ y. u ∷ y) (append_assoc ks ls rest); derives = dk })

listed_value : {tokens : List Terminal} {all : List ParamTree} {rest : List Terminal} → Listed AParam p.RightParen tokens all rest → (v : ValueKind) × (middle : List Terminal) × AValueKind tokens v middle
listed_value (r.last tokens a at rest d) = param_value tokens (sign p.RightParen at ∷ rest) a d
listed_value (r.more tokens a at middle others rest d l) = param_value tokens (sign p.Comma at ∷ middle) a d

pub no_params_found : (tokens new : List Terminal) (at : Place) (all : List ParamTree) → all ≡ [] → tokens ≡ sign p.RightParen at ∷ new → Found Params Anywhere tokens all new
no_params_found tokens new at all is f = subst (λ y. Found Params Anywhere tokens y new) (sym is) (record {
  reads = shut p.RightParen at [] new tokens [] f g.no_param;
  only = λ others xs end same c ends. go xs end (params_form tokens end xs (subst (λ y. Params y xs end) same c));
})
  where
    go : (xs : List ParamTree) (end : List Terminal) → ParamsForm tokens xs end → (end ≡ new) × (xs ≡ [])
    go xs end (empty at' e i) = ((signs p.RightParen p.RightParen at' at end new (sym e ∙ f)).2, i)
    go xs end (void_only at' c e i) = sign_no_word p.RightParen (codes "void") at at' new _ (sym f ∙ e)
    go xs end (some l) = let v = listed_value l in absurd (let both : false ≡ true = ap starts_kind (sym f) ∙ value_starts tokens v.0 v.1 v.2 in cc)

-- `void` alone
pub void_step : (tokens inside here : List Terminal) (at : Place) → here ≡ tokens → here ≡ word (codes "void") at ∷ inside → Step Params Anywhere tokens (Sign p.RightParen) Anywhere inside (λ closes. [])
void_step tokens inside here at same_here f = record {
  into = λ others xs end same c ends. go xs end (params_form here end xs (subst (λ y. Params y xs end) (same ∙ sym same_here) c));
  back = λ closes end s. shut p.RightParen closes (word (codes "void") at ∷ []) end tokens [] (sym same_here ∙ f ∙ ap (λ y. word (codes "void") at ∷ y) s) (g.void_alone at);
}
  where
    go : (xs : List ParamTree) (end : List Terminal) → ParamsForm here xs end → (closes : Place) × (xs ≡ []) × Sign p.RightParen inside closes end × Unit {0}
    go xs end (empty at' e i) = sign_no_word p.RightParen (codes "void") at' at end inside (sym e ∙ f)
    go xs end (void_only at' c e i) = (c, i, sym (words (codes "void") (codes "void") at' at _ inside (sym e ∙ f)).2, tt)
    go xs end (some l) = let v = listed_value l in absurd (void_first at here inside v.1 v.0 f v.2)

pub params_step : (tokens here next : List Terminal) → here ≡ tokens → Lacks p.RightParen tokens → next ≡ here → LacksWord (codes "void") here → Step Params Anywhere tokens (Listed AParam p.RightParen) Anywhere next (λ all. all)
params_step tokens here next same_here lacks same_next no_void = record {
  into = λ others xs end same c ends. go xs end (params_form tokens end xs (subst (λ y. Params y xs end) same c));
  back = λ xs end l. let o = params_of_listed (subst (λ y. Listed AParam p.RightParen y xs end) to l) in shut p.RightParen o.at o.ts end tokens xs o.split (g.params o.ts xs o.derives);
}
  where
    to : next ≡ tokens
    to = same_next ∙ same_here

    go : (xs : List ParamTree) (end : List Terminal) → ParamsForm tokens xs end → (ys : List ParamTree) × (xs ≡ ys) × Listed AParam p.RightParen next ys end × Unit {0}
    go xs end (empty at e i) = absurd (lacks at end e)
    go xs end (void_only at c e i) = absurd (no_void at _ (same_here ∙ e))
    go xs end (some l) = (xs, refl, subst (λ y. Listed AParam p.RightParen y xs end) (sym to) l, tt)

-- ---- functions

data DefinitionForm (tokens : List Terminal) (body : Option (List StmtTree)) (rest : List Terminal) : Type 0 where
  declared : (at : Place) → tokens ≡ sign p.Semicolon at ∷ rest → body ≡ None → DefinitionForm tokens body rest
  defined : (all : List StmtTree) → Block tokens all rest → body ≡ Some all → DefinitionForm tokens body rest

definition_form : (tokens rest : List Terminal) (body : Option (List StmtTree)) → ADefinition tokens body rest → DefinitionForm tokens body rest
definition_form tokens rest body d = go body d.split d.derives refl
  where
    unrow-row : (ss : List StmtTree) → unrow_stmts (stmt_row ss) ≡ ss
    unrow-row [] = refl
    unrow-row (x ∷ ss) = ap (λ y. x ∷ y) (unrow-row ss)

    go : {ts : List Terminal} {x : Option StmtTrees} (o : Option (List StmtTree)) → tokens ≡ ts ++ rest → DerivesDefinition ts x → x ≡ option_map stmt_row o → DefinitionForm tokens o rest
    go None f (g.declared_only ends) e = declared ends f refl
    go (Some ss) f (g.declared_only ends) e = absurd cc
    go None f (g.defined ts b d') e = absurd cc
    go (Some ss) f (g.defined ts b d') e =
        let same : b ≡ stmt_row ss = cc in defined ss (record { taken = ts; split = f; derives = subst (λ y. g.DerivesBlock ts y) same d' }) refl

pub declared_found : (tokens new : List Terminal) (at : Place) → tokens ≡ sign p.Semicolon at ∷ new → Found ADefinition Anywhere tokens None new
declared_found tokens new at f = record {
  reads = record { taken = sign p.Semicolon at ∷ []; split = f; derives = g.declared_only at };
  only = λ others o end same d ends. go o end (definition_form tokens end o (subst (λ y. ADefinition y o end) same d));
}
  where
    go : (o : Option (List StmtTree)) (end : List Terminal) → DefinitionForm tokens o end → (end ≡ new) × (o ≡ None)
    go o end (declared at' e i) = ((signs p.Semicolon p.Semicolon at' at end new (sym e ∙ f)).2, i)
    go o end (defined all b i) = absurd (brace b.split b.derives)
      where
        brace : {ts : List Terminal} {x : StmtTrees} → tokens ≡ ts ++ end → g.DerivesBlock ts x → ⊥
        brace e (g.braces opens closes ts body d) = let h : p.Semicolon ≡ p.LeftBrace = (signs p.Semicolon p.LeftBrace at opens new _ (sym f ∙ e)).0 in cc

pub defined_step : (tokens here : List Terminal) → here ≡ tokens → Lacks p.Semicolon tokens → Step ADefinition Anywhere tokens Block Anywhere here Some
defined_step tokens here is lacks = record {
  into = λ others o end same d ends. go o end (definition_form tokens end o (subst (λ y. ADefinition y o end) same d));
  back = λ all end b. record { taken = b.taken; split = sym is ∙ b.split; derives = g.defined b.taken (stmt_row all) b.derives };
}
  where
    go : (o : Option (List StmtTree)) (end : List Terminal) → DefinitionForm tokens o end → (all : List StmtTree) × (o ≡ Some all) × Block here all end × Unit {0}
    go o end (declared at e i) = absurd (lacks at end e)
    go o end (defined all b i) = (all, i, subst (λ y. Block y all end) (sym is) b, tt)

pub name_found : (tokens rest : List Terminal) (n : List ℕ × Place) → Name tokens n rest → Found Name Anywhere tokens n rest
name_found tokens rest n h = record {
  reads = h;
  only = λ others m end same d ends. let q = words m.0 n.0 m.1 n.1 end rest (sym d.0 ∙ same ∙ h.0) in (q.2, ap (λ y. (y, m.1)) q.0 ∙ ap (λ y. (n.0, y)) q.1);
}

pub name_never : (tokens : List Terminal) → ((n : List ℕ × Place) (rest : List Terminal) → Name tokens n rest → ⊥) → Never Name Anywhere tokens
name_never tokens none = record { none = λ others m end same d ends. none m end (sym same ∙ d.0, d.1) }

-- ---- items

data ItemForm (tokens : List Terminal) (item : ItemTree) (rest : List Terminal) : Type 0 where
  is_static : (at : Place) (inside : List Terminal) → tokens ≡ word (codes "static") at ∷ inside → AnItem inside item rest → ItemForm tokens item rest
  is_inline : (at : Place) (inside : List Terminal) → tokens ≡ word (codes "inline") at ∷ inside → AnItem inside item rest → ItemForm tokens item rest
  is_bare : Sequence SomeKind ItemBehind snd tokens item rest → ItemForm tokens item rest

item_form : (tokens rest : List Terminal) (item : ItemTree) → AnItem tokens item rest → ItemForm tokens item rest
item_form tokens rest item d = go d.split d.derives
  where
    declares : {ts : List Terminal} {os : List ObjectTree} → tokens ≡ ts ++ rest → g.DerivesDeclaration ts os → Sequence SomeKind ItemBehind snd tokens (tree.objects os) rest
    declares f (g.a_declaration kind constant ks ts os ends dk dos) = record {
      first = record { kind = Some kind; constant = constant };
      second = tree.objects os;
      middle = (ts ++ sign p.Semicolon ends ∷ []) ++ rest;
      begins = record { taken = ks; split = f ∙ append_assoc ks (ts ++ sign p.Semicolon ends ∷ []) rest; derives = dk };
      goes_on = some_objects kind os refl (subst (λ y. Listed (AnObject (record { kind = kind; constant = constant })) p.Semicolon y os rest) (sym (append_assoc ts (sign p.Semicolon ends ∷ []) rest)) (listed_of_objects ends rest dos)) refl;
      whole = refl;
    }

    rows : (b : Option StmtTrees) → option_map stmt_row (option_map unrow_stmts b) ≡ b
    rows None = refl
    rows (Some ss) = ap Some (row-unrow_stmts ss)

    go : {ts : List Terminal} {x : ItemTree} → tokens ≡ ts ++ rest → DerivesItem ts x → ItemForm tokens x rest
    go f (g.a_static at ts x d') = is_static at (ts ++ rest) f (record { taken = ts; split = refl; derives = d' })
    go f (g.an_inline at ts x d') = is_inline at (ts ++ rest) f (record { taken = ts; split = refl; derives = d' })
    go f (g.some_objects ts all d') = is_bare (declares f d')
    go f (g.a_function result constant ks ps bs text at opens closes all body dk kw dp db) =
        let behind = (ps ++ sign p.RightParen closes ∷ bs) ++ rest in
        let whole : record { name = text; at = at; result = result; params = all; body = body } ≡ function_with result (text, at) all (option_map unrow_stmts body) =
        ap (λ y. record { name = text; at = at; result = result; params = all; body = y }) (sym (rows body)) in
        is_bare (record {
          first = record { kind = result; constant = constant };
          second = tree.function (record { name = text; at = at; result = result; params = all; body = body });
          middle = word text at ∷ sign p.LeftParen opens ∷ behind;
          begins = record { taken = ks; split = f ∙ append_assoc ks (word text at ∷ sign p.LeftParen opens ∷ (ps ++ sign p.RightParen closes ∷ bs)) rest; derives = dk };
          goes_on = a_function (record { name = text; at = at; result = result; params = all; body = body }) (record {
            first = (text, at);
            second = record { name = text; at = at; result = result; params = all; body = body };
            middle = sign p.LeftParen opens ∷ behind;
            begins = (refl, kw);
            goes_on = record {
              first = opens;
              second = record { name = text; at = at; result = result; params = all; body = body };
              middle = behind;
              begins = refl;
              goes_on = record {
                first = all;
                second = option_map unrow_stmts body;
                middle = bs ++ rest;
                begins = record { first = all; second = closes; middle = sign p.RightParen closes ∷ (bs ++ rest); begins = record { taken = ps; split = append_assoc ps (sign p.RightParen closes ∷ bs) rest; derives = dp }; goes_on = refl; whole = refl };
                goes_on = record { taken = bs; split = refl; derives = subst (λ y. DerivesDefinition bs y) (sym (rows body)) db };
                whole = whole;
              };
              whole = refl;
            };
            whole = refl;
          }) refl;
          whole = refl;
        })

bare_back : (tokens rest : List Terminal) (item : ItemTree) → Sequence SomeKind ItemBehind snd tokens item rest → AnItem tokens item rest
bare_back tokens rest item s = subst (λ y. AnItem tokens y rest) (sym s.whole) (go s.goes_on)
  where
    kd : SomeKind tokens s.first s.middle
    kd = s.begins

    go : ItemBehind s.first s.middle s.second rest → AnItem tokens s.second rest
    go (some_objects value all is l e) =
        let o = objects_of_listed (record { kind = value; constant = s.first.constant }) l in
        let ts = kd.taken ++ (o.ts ++ sign p.Semicolon o.at ∷ []) in record {
          taken = ts;
          split = kd.split ∙ ap (λ y. kd.taken ++ y) o.split ∙ sym (append_assoc kd.taken (o.ts ++ sign p.Semicolon o.at ∷ []) rest);
          derives = subst (λ y. DerivesItem ts y) (sym e) (g.some_objects ts all
              (g.a_declaration value s.first.constant kd.taken o.ts all o.at (subst (λ y. DerivesKind kd.taken y s.first.constant) is kd.derives) o.derives));
        }
    go (a_function function f e) =
        let n = f.begins in
        let a = f.goes_on in
        let b = a.goes_on in
        let c = b.begins in
        let d = b.goes_on in
        let o = unshut p.RightParen a.middle b.middle b.first c in
        let us = o.ts ++ sign p.RightParen o.at ∷ d.taken in
        let vs = word f.first.0 f.first.1 ∷ sign p.LeftParen a.first ∷ us in
        let ts = kd.taken ++ vs in
        let inner : a.middle ≡ us ++ rest = o.split ∙ append_assoc o.ts (sign p.RightParen o.at ∷ []) b.middle ∙ ap (λ y. o.ts ++ sign p.RightParen o.at ∷ y) d.split ∙ sym (append_assoc o.ts (sign p.RightParen o.at ∷ d.taken) rest) in
        record {
          taken = ts;
          split = kd.split ∙ ap (λ y. kd.taken ++ y) (n.0 ∙ ap (λ y. word f.first.0 f.first.1 ∷ y) (a.begins ∙ ap (λ y. sign p.LeftParen a.first ∷ y) inner)) ∙ sym (append_assoc kd.taken vs rest);
          derives = subst (λ y. DerivesItem ts y) (sym (e ∙ ap tree.function (f.whole ∙ a.whole ∙ b.whole)))
              (g.a_function s.first.kind s.first.constant kd.taken o.ts d.taken f.first.0 f.first.1 a.first o.at b.first (option_map stmt_row b.second) kd.derives n.1 o.derives d.derives);
        }

-- `static` and `inline` are passed over
static_no_kind : (tokens inside : List Terminal) (at : Place) → tokens ≡ word (codes "static") at ∷ inside → starts_kind tokens ≡ false
static_no_kind tokens inside at f = ap starts_kind f

inline_no_kind : (tokens inside : List Terminal) (at : Place) → tokens ≡ word (codes "inline") at ∷ inside → starts_kind tokens ≡ false
inline_no_kind tokens inside at f = ap starts_kind f

some_starts : (tokens rest : List Terminal) (kind : Kind) → SomeKind tokens kind rest → starts_kind tokens ≡ true
some_starts tokens rest kind d = ap starts_kind d.split ∙ kind_starts rest d.derives

pub static_step : (tokens inside : List Terminal) (at : Place) → tokens ≡ word (codes "static") at ∷ inside → Step AnItem Anywhere tokens AnItem Anywhere inside (λ item. item)
static_step tokens inside at f = record {
  into = λ others item end same d ends. (item, refl, go item end (item_form tokens end item (subst (λ y. AnItem y item end) same d)), tt);
  back = λ item end d. record { taken = word (codes "static") at ∷ d.taken; split = f ∙ ap (λ y. word (codes "static") at ∷ y) d.split; derives = g.a_static at d.taken item d.derives };
}
  where
    go : (item : ItemTree) (end : List Terminal) → ItemForm tokens item end → AnItem inside item end
    go item end (is_static at' inside' e d) = subst (λ y. AnItem y item end) (words (codes "static") (codes "static") at' at inside' inside (sym e ∙ f)).2 d
    go item end (is_inline at' inside' e d) = absurd (let both : false ≡ true = ap (λ y. bytes_eq y (codes "static")) (words (codes "inline") (codes "static") at' at inside' inside (sym e ∙ f)).0 in cc)
    go item end (is_bare s) = absurd (let both : false ≡ true = sym (static_no_kind tokens inside at f) ∙ some_starts tokens s.middle s.first s.begins in cc)

pub inline_step : (tokens inside : List Terminal) (at : Place) → tokens ≡ word (codes "inline") at ∷ inside → Step AnItem Anywhere tokens AnItem Anywhere inside (λ item. item)
inline_step tokens inside at f = record {
  into = λ others item end same d ends. (item, refl, go item end (item_form tokens end item (subst (λ y. AnItem y item end) same d)), tt);
  back = λ item end d. record { taken = word (codes "inline") at ∷ d.taken; split = f ∙ ap (λ y. word (codes "inline") at ∷ y) d.split; derives = g.an_inline at d.taken item d.derives };
}
  where
    go : (item : ItemTree) (end : List Terminal) → ItemForm tokens item end → AnItem inside item end
    go item end (is_static at' inside' e d) = absurd (let both : false ≡ true = ap (λ y. bytes_eq y (codes "inline")) (words (codes "static") (codes "inline") at' at inside' inside (sym e ∙ f)).0 in cc)
    go item end (is_inline at' inside' e d) = subst (λ y. AnItem y item end) (words (codes "inline") (codes "inline") at' at inside' inside (sym e ∙ f)).2 d
    go item end (is_bare s) = absurd (let both : false ≡ true = sym (inline_no_kind tokens inside at f) ∙ some_starts tokens s.middle s.first s.begins in cc)

pub bare_step : (tokens here : List Terminal) → here ≡ tokens → LacksWord (codes "static") tokens → LacksWord (codes "inline") tokens → Step AnItem Anywhere tokens (Sequence SomeKind ItemBehind snd) Anywhere here (λ item. item)
bare_step tokens here same_here no_static no_inline = record {
  into = λ others item end same d ends. (item, refl, subst (λ y. Sequence SomeKind ItemBehind snd y item end) (sym same_here) (go item end (item_form tokens end item (subst (λ y. AnItem y item end) same d))), tt);
  back = λ item end s. bare_back tokens end item (subst (λ y. Sequence SomeKind ItemBehind snd y item end) same_here s);
}
  where
    go : (item : ItemTree) (end : List Terminal) → ItemForm tokens item end → Sequence SomeKind ItemBehind snd tokens item end
    go item end (is_static at inside e d) = absurd (no_static at inside e)
    go item end (is_inline at inside e d) = absurd (no_inline at inside e)
    go item end (is_bare s) = s

-- one of them
abbrev pub Passed : List Terminal → List Terminal → Type 0
Passed tokens inside = (at : Place) × ((tokens ≡ word (codes "static") at ∷ inside) ⊎ (tokens ≡ word (codes "inline") at ∷ inside))

pub passed_inline : (tokens middle inside : List Terminal) (b : Bool) → middle ≡ tokens → LacksWord (codes "static") tokens → MatchBool b ((at : Place) × (middle ≡ word (codes "inline") at ∷ inside)) ((inside ≡ middle) × LacksWord (codes "inline") middle)
    → MatchBool b (Passed tokens inside) ((inside ≡ tokens) × LacksWord (codes "static") tokens × LacksWord (codes "inline") tokens)
passed_inline tokens middle inside true e lacks h = (h.0, inr (sym e ∙ h.1))
passed_inline tokens middle inside false e lacks h = (h.0 ∙ e, lacks, λ at rest f. h.1 at rest (e ∙ f))

pub passed_step : (tokens inside : List Terminal) → Passed tokens inside → Step AnItem Anywhere tokens AnItem Anywhere inside (λ item. item)
passed_step tokens inside h = go h.1
  where
    go : ((tokens ≡ word (codes "static") h.0 ∷ inside) ⊎ (tokens ≡ word (codes "inline") h.0 ∷ inside)) → Step AnItem Anywhere tokens AnItem Anywhere inside (λ item. item)
    go (inl e) = static_step tokens inside h.0 e
    go (inr e) = inline_step tokens inside h.0 e

pub passed_shorter : (tokens inside : List Terminal) → Passed tokens inside → length inside < length tokens
passed_shorter tokens inside h = go h.1
  where
    go : ((tokens ≡ word (codes "static") h.0 ∷ inside) ⊎ (tokens ≡ word (codes "inline") h.0 ∷ inside)) → length inside < length tokens
    go (inl e) = omega (arith, ap length e)
    go (inr e) = omega (arith, ap length e)

pub items_same : (tokens : List Terminal) → Step AnItem Anywhere tokens AnItem Anywhere tokens (λ item. item)
items_same tokens = record { into = λ others item end same d ends. (item, refl, subst (λ y. AnItem y item end) same d, tt); back = λ item end d. d }

pub items_then : (tokens here next : List Terminal) → Step AnItem Anywhere tokens AnItem Anywhere here (λ item. item) → Step AnItem Anywhere here AnItem Anywhere next (λ item. item) → Step AnItem Anywhere tokens AnItem Anywhere next (λ item. item)
items_then tokens here next s t = record {
  into = λ others item end same d ends. let i = s.into others item end same d ends in let j = t.into here i.0 end refl i.2 tt in (j.0, i.1 ∙ j.1, j.2, tt);
  back = λ item end d. s.back item end (t.back item end d);
}

-- ---- behind the type of an item

-- behind the name of an object stands no parenthesis
object_name : (kind : ValueKind) (tokens rest : List Terminal) (o : ObjectTree) → opens_paren rest ≡ false → AnObject kind tokens o rest → opens_call tokens ≡ false
object_name kind tokens rest o end d =
    let h = object_form kind tokens rest o d in
    let s = h.parts in
    ap opens_call h.named ∙ lengths_first h.behind s.middle s.first s.begins (init_first s.middle s.second s.goes_on.split s.goes_on.derives)
  where
    init_first : {ts : List Terminal} (middle : List Terminal) (i : Option tree.InitTree) → middle ≡ ts ++ rest → g.DerivesInitialiser ts i → opens_paren middle ≡ false
    init_first middle i e g.no_initialiser = ap opens_paren e ∙ end
    init_first middle i e (g.an_initialiser at ts init d') = ap opens_paren e

    lengths_first : (behind middle : List Terminal) (ls : List (Option Tree)) → Lengths behind ls middle → opens_paren middle ≡ false → opens_paren behind ≡ false
    lengths_first behind middle ls l f = go (lengths_begin behind middle ls l)
      where
        go : ((middle ≡ behind) ⊎ ((at : Place) × (more : List Terminal) × (behind ≡ sign p.LeftBracket at ∷ more))) → opens_paren behind ≡ false
        go (inl e) = ap opens_paren (sym e) ∙ f
        go (inr b) = ap opens_paren b.2

objects_call : (kind : ValueKind) {here : List Terminal} {all : List ObjectTree} {end : List Terminal} → Listed (AnObject kind) p.Semicolon here all end → opens_call here ≡ false
objects_call kind (r.last here a at end d) = object_name kind here (sign p.Semicolon at ∷ end) a refl d
objects_call kind (r.more here a at middle others end d l) = object_name kind here (sign p.Comma at ∷ middle) a refl d

objects_begin : (kind : ValueKind) {here : List Terminal} {all : List ObjectTree} {end : List Terminal} → Listed (AnObject kind) p.Semicolon here all end → starts_kind here ≡ false
objects_begin kind (r.last here a at end d) = let h = object_form kind here (sign p.Semicolon at ∷ end) a d in name_no_kind h.text h.at h.behind here h.named h.free
objects_begin kind (r.more here a at middle others end d l) = let h = object_form kind here (sign p.Comma at ∷ middle) a d in name_no_kind h.text h.at h.behind here h.named h.free

function_call : (result : Option CType) (here end : List Terminal) (f : FunctionTree) → AFunction result here f end → opens_call here ≡ true
function_call result here end f s = ap opens_call (s.begins.0 ∙ ap (λ y. word s.first.0 s.first.1 ∷ y) s.goes_on.begins)

pub item_apart : (kind : Kind) (item : ItemTree) (here end : List Terminal) → ItemBehind kind here item end → KindEnds kind here
item_apart kind item here end (some_objects value all is l e) = objects_begin (record { kind = value; constant = kind.constant }) l
item_apart kind item here end (a_function function f e) = name_no_kind f.first.0 f.first.1 f.middle here f.begins.0 f.begins.1

pub function_step : (kind : Kind) (tokens : List Terminal) → opens_call tokens ≡ true → Step (ItemBehind kind) Anywhere tokens (AFunction kind.kind) Anywhere tokens tree.function
function_step kind tokens call = record {
  into = λ others item end same d ends. go item end (subst (λ y. ItemBehind kind y item end) same d);
  back = λ f end s. a_function f s refl;
}
  where
    go : (item : ItemTree) (end : List Terminal) → ItemBehind kind tokens item end → (f : FunctionTree) × (item ≡ tree.function f) × AFunction kind.kind tokens f end × Unit {0}
    go item end (some_objects value all is l e) = absurd (let both : false ≡ true = sym (objects_call (record { kind = value; constant = kind.constant }) l) ∙ call in cc)
    go item end (a_function f s e) = (f, e, s, tt)

pub objects_step : (kind : Kind) (v : ValueKind) (tokens : List Terminal) → opens_call tokens ≡ false → kind.kind ≡ Some v.kind → v.constant ≡ kind.constant → Step (ItemBehind kind) Anywhere tokens (Listed (AnObject v) p.Semicolon) Anywhere tokens tree.objects
objects_step kind v tokens no_call is const_is = record {
  into = λ others item end same d ends. go item end (subst (λ y. ItemBehind kind y item end) same d);
  back = λ all end l. some_objects v.kind all is (subst (λ y. Listed (AnObject (record { kind = v.kind; constant = y })) p.Semicolon tokens all end) const_is l) refl;
}
  where
    go : (item : ItemTree) (end : List Terminal) → ItemBehind kind tokens item end → (all : List ObjectTree) × (item ≡ tree.objects all) × Listed (AnObject v) p.Semicolon tokens all end × Unit {0}
    go item end (some_objects value all is' l e) =
        let both : Some value ≡ Some v.kind = sym is' ∙ is in
        let same : value ≡ v.kind = cc in (
          all,
          e,
          subst (λ y. Listed (AnObject (record { kind = v.kind; constant = y })) p.Semicolon tokens all end) (sym const_is)
              (subst (λ y. Listed (AnObject (record { kind = y; constant = kind.constant })) p.Semicolon tokens all end) same l),
          tt,
        )
    go item end (a_function f s e) = absurd (let both : true ≡ false = sym (function_call kind.kind tokens end f s) ∙ no_call in cc)

pub void_objects_never : (kind : Kind) (tokens : List Terminal) → opens_call tokens ≡ false → kind.kind ≡ None → Never (ItemBehind kind) Anywhere tokens
void_objects_never kind tokens no_call is = record { none = λ others item end same d ends. go item end (subst (λ y. ItemBehind kind y item end) same d) }
  where
    go : (item : ItemTree) (end : List Terminal) → ItemBehind kind tokens item end → ⊥
    go item end (some_objects value all is' l e) = let both : None ≡ Some value = sym is ∙ is' in cc
    go item end (a_function f s e) = let both : true ≡ false = sym (function_call kind.kind tokens end f s) ∙ no_call in cc

-- ---- programs

item_some : (rest : List Terminal) (item : ItemTree) → AnItem [] item rest → ⊥
item_some rest item d = go (item_form [] rest item d)
  where
    go : ItemForm [] item rest → ⊥
    go (is_static at inside e d') = cc
    go (is_inline at inside e d') = cc
    go (is_bare s) = let both : false ≡ true = some_starts [] s.middle s.first s.begins in cc

pub items_end : (tokens : List Terminal) → tokens ≡ [] → Found Items Anywhere tokens [] tokens
items_end tokens f = repeated_last tokens tokens (f, f) (λ end s. s.1 ∙ sym f) (λ item middle d. item_some middle item (subst (λ y. AnItem y item middle) f d))

pub items_go_on : (t : Terminal) (tokens more : List Terminal) → tokens ≡ t ∷ more → (end : List Terminal) → AtEnd tokens end → ⊥
items_go_on t tokens more f end s = let both : [] ≡ t ∷ more = sym s.0 ∙ f in cc

pub items_apart : (item : ItemTree) (here : List Terminal) (all : List ItemTree) (end : List Terminal) → Items here all end → Anywhere item here
items_apart item here all end l = tt

items_of : {ts : List Terminal} {all : List ItemTree} → DerivesItems ts all → Items ts all []
items_of g.no_item = r.stop [] [] (refl, refl)
items_of (g.more_items ts us item others d ds) = r.more (ts ++ us) item us others [] (record { taken = ts; split = refl; derives = d }) (items_of ds)

of_items : {ts : List Terminal} {all : List ItemTree} {end : List Terminal} → Items ts all end → DerivesItems ts all
of_items (r.stop ts end s) = subst (λ y. DerivesItems y []) (sym s.0) g.no_item
of_items (r.more ts item middle others end d l) = subst (λ y. DerivesItems y (item ∷ others)) (sym d.split) (g.more_items d.taken middle item others d.derives (of_items l))

pub program_derives : (start tokens rest : List Terminal) (end at : Place) (all : List ItemTree) → start ≡ tokens → at ≡ end → Found Items Anywhere start all rest → DerivesProgram tokens end (record { items = all; end = at })
program_derives start tokens rest end at all same is q = (subst (λ y. DerivesItems y all) same (of_items q.reads), is)

pub program_only : (start tokens rest : List Terminal) (end at : Place) (all : List ItemTree) → start ≡ tokens → at ≡ end → Found Items Anywhere start all rest → (other : ProgramTree) → DerivesProgram tokens end other → other ≡ record { items = all; end = at }
program_only start tokens rest end at all same is q other d =
    let o = q.only tokens other.items [] (sym same) (items_of d.0) tt in
    ap (λ y. record { items = y; end = other.end }) o.1 ∙ ap (λ y. record { items = all; end = y }) (d.1 ∙ sym is)

pub program_never : (start tokens : List Terminal) (end : Place) → start ≡ tokens → Never Items Anywhere start → (other : ProgramTree) → DerivesProgram tokens end other → ⊥
program_never start tokens end same q other d = q.none tokens other.items [] (sym same) (items_of d.0) tt

-- ---- the tree of a function

body_rows : (b : Option (Vec Stmt Global)) → body_of b ≡ option_map stmt_row (option_map body_trees b)
body_rows None = refl
body_rows (Some body) = refl

pub function_whole : (f : Function) (text : List ℕ) → f.name ≡ text → function_of f ≡ function_with f.result (text, f.at) (map param_of f.params.items) (option_map body_trees f.body)
function_whole f text e =
    ap (λ y. record { name = y; at = f.at; result = f.result; params = map param_of f.params.items; body = body_of f.body }) e
    ∙ ap (λ y. record { name = text; at = f.at; result = f.result; params = map param_of f.params.items; body = y }) (body_rows f.body)
