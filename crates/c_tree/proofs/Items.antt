-- The printed tokens of each function and of each program are it.
use Rattle.std.proofs.Common.{◌≡◌, ℕ, ◌∙◌, sym, refl, ap, subst, Bool, true, false, List, [], ◌∷◌, ◌++◌, map, codes, Option, Some, None}
use Rattle.std.specs.Option.{option_map}
use Rattle.std.specs.List.{flat_map}
use Rattle.std.proofs.lemmas.List.{append-nil}
use Rattle.hls_base.specs.declared.place.Place.{Place}
use Rattle.c_token.specs.Characters.{is_letter, is_digit}
use Rattle.c_token.specs.declared.ctype.CType.{CType}
use Rattle.c_token.specs.declared.punct.Punct.TheVariants as p
use Rattle.c_token.specs.declared.token.TokenKind.TheVariants as k
use Rattle.c_tree.specs.declared.print.row.Written.TheVariants as w
use Rattle.c_tree.specs.Tree as tree
use Rattle.c_tree.specs.Tree.{Tree, StmtTrees, ObjectTree, ParamTree, FunctionTree, ItemTree}
use Rattle.c_tree.specs.Terminals.{Terminal, sign, word, is_keyword}
use Rattle.c_tree.specs.Kinds.{DerivesKind}
use Rattle.c_tree.specs.Grammar as g
use Rattle.c_tree.specs.Grammar.{DerivesLengths, DerivesParam, DerivesParamList, DerivesParams, DerivesDefinition, DerivesItem, DerivesItems}
use Rattle.c_tree.specs.Places.{nowhere, unplaced, unplaced_stmts, unplaced_param, unplaced_item}
use Rattle.c_tree.specs.Rows as rows
use Rattle.c_tree.specs.Rows.{Row, kind_row}
use Rattle.c_tree.specs.StatementRows.{listed, lengths_row, param_row, params_row, result_row, definition_row, item_row}
use Rattle.c_tree.proofs.Firsts.{kind_first}
use Rattle.c_tree.proofs.Matching.{IsSpelled}
use Rattle.c_tree.proofs.Again.{split, last_token, spelled_both, Again, Printed, Fit, fit_parts}
use Rattle.c_tree.proofs.KindsAgain.{PrintedKind, kind_is_type, printed_kind, printed_result}
use Rattle.c_tree.proofs.Words.{word_spelled}
use Rattle.c_tree.proofs.Productions.{at_tokens}
use Rattle.c_tree.proofs.Lists.{ListRules, PrintedList, one_listed, more_listed}
use Rattle.c_tree.proofs.Objects.{Lengths, lengths_again, declaration_again}
use Rattle.c_tree.proofs.StatementsAgain.{block_again}

-- ---- parameters

abbrev Param : ParamTree → Type 0
Param param = Printed DerivesParam unplaced_param param (param_row param)

abbrev param_of : List ℕ → Place → CType → Bool → List (Option Tree) → Bool → ParamTree
param_of text at kind constant lengths named = record {
  object = record { name = text; at = at; kind = kind; constant = constant; lengths = lengths; init = None };
  named = named;
}

printed_named : (kind : CType) (constant : Bool) (text : List ℕ) (at : Place) (lengths : List (Option Tree)) → PrintedKind constant (Some kind) (kind_row constant kind) → is_keyword text ≡ false
    → IsSpelled (k.Word text) → Lengths lengths → Param (param_of text at kind constant lengths true)
printed_named kind constant text at lengths a plain s b =
    let behind = w.Space ∷ rows.word text ∷ lengths_row lengths in
    record {
      again = λ ts m.
          let c = split (kind_row constant kind) behind ts m in
          let x = b.again c.second.1 c.second.3 in
          at_tokens ts (c.before ++ word text c.second.0 ∷ c.second.1) (c.is ∙ ap (λ us. c.before ++ us) c.second.2)
          (record {
            found = param_of text c.second.0 kind constant x.found true;
            derived = g.named_param kind constant c.before c.second.1 text c.second.0 x.found (a.again c.before c.first) plain x.derived;
            same = ap (λ z. param_of text nowhere kind constant z true) x.same;
          });
      spelled = spelled_both (kind_row constant kind) behind a.spelled (s, b.spelled);
    }

unnamed_from : (kind : CType) (constant : Bool) (at : Place) (lengths found : List (Option Tree)) (ks ls : List Terminal) → DerivesKind ks (Some kind) constant → DerivesLengths ls found
    → map (option_map unplaced) found ≡ map (option_map unplaced) lengths → Again DerivesParam unplaced_param (param_of [] at kind constant lengths false) (ks ++ ls)
unnamed_from kind constant at lengths found [] ls d e same = absurd (let none : false ≡ true = kind_first d in cc)
unnamed_from kind constant at lengths found (t ∷ ks) ls d e same = record {
  found = param_of [] t.at kind constant found false;
  derived = g.unnamed_param kind constant t ks ls found d e;
  same = ap (λ z. param_of [] nowhere kind constant z false) same;
}

printed_unnamed : (kind : CType) (constant : Bool) (at : Place) (lengths : List (Option Tree)) → PrintedKind constant (Some kind) (kind_row constant kind) → Lengths lengths
    → Param (param_of [] at kind constant lengths false)
printed_unnamed kind constant at lengths a b = record {
  again = λ ts m.
      let c = split (kind_row constant kind) (lengths_row lengths) ts m in
      let x = b.again c.behind c.second in
      at_tokens ts (c.before ++ c.behind) c.is (unnamed_from kind constant at lengths x.found c.before c.behind (a.again c.before c.first) x.derived x.same);
  spelled = spelled_both (kind_row constant kind) (lengths_row lengths) a.spelled b.spelled;
}

param_again : {ts : List Terminal} {param : ParamTree} → DerivesParam ts param → Fit ts → Param param
param_again (g.named_param kind constant ks ls text at lengths dk plain d) f =
    let parts = fit_parts ks (word text at ∷ ls) f in
    printed_named kind constant text at lengths (printed_kind constant kind (kind_is_type dk parts.0)) plain parts.1.0 (lengths_again d parts.1.1)
param_again (g.unnamed_param kind constant t ks ls lengths dk d) f =
    let parts = fit_parts (t ∷ ks) ls f in
    printed_unnamed kind constant t.at lengths (printed_kind constant kind (kind_is_type dk parts.0)) (lengths_again d parts.1)

param_rules : ListRules DerivesParam DerivesParamList
param_rules = record { last = g.last_param; more = g.more_params }

param_list_again : {ts : List Terminal} {all : List ParamTree} → DerivesParamList ts all → Fit ts → PrintedList DerivesParamList unplaced_param param_row all
param_list_again (g.last_param ts param d) f = one_listed DerivesParam DerivesParamList param_rules unplaced_param param_row param (param_again d f)
param_list_again (g.more_params at ts us param rest d e) f =
    let parts = fit_parts ts (sign p.Comma at ∷ us) f in
    more_listed DerivesParam DerivesParamList param_rules unplaced_param param_row param rest (param_again d parts.0) (param_list_again e parts.1.1)

abbrev Params : List ParamTree → Type 0
Params all = Printed DerivesParams (map unplaced_param) all (params_row all)

no_params : Params []
unfolding is_letter is_digit
no_params = record {
  again = λ ts m. at_tokens ts (word (codes "void") m.0 ∷ []) (last_token (k.Word (codes "void")) ts m) (record { found = []; derived = g.void_alone m.0; same = refl });
  spelled = (word_spelled (codes "void") refl, tt);
}

some_params : {ts : List Terminal} {all : List ParamTree} → DerivesParamList ts all → params_row all ≡ listed param_row all
some_params (g.last_param ts param d) = refl
some_params (g.more_params at ts us param rest d e) = refl

params_again : {ts : List Terminal} {all : List ParamTree} → DerivesParams ts all → Fit ts → Params all
params_again g.no_param f = no_params
params_again (g.void_alone at) f = no_params
params_again (g.params ts all d) f =
    let l = (param_list_again d f).printed in
    subst (λ row. Printed DerivesParams (map unplaced_param) all row) (sym (some_params d))
    (record { again = λ us m. let x = l.again us m in record { found = x.found; derived = g.params us x.found x.derived; same = x.same }; spelled = l.spelled })

-- ---- functions

abbrev Definition : Option StmtTrees → Type 0
Definition body = Printed DerivesDefinition (option_map unplaced_stmts) body (definition_row body)

definition_again : {ts : List Terminal} {body : Option StmtTrees} → DerivesDefinition ts body → Fit ts → Definition body
definition_again (g.declared_only ends) f = record {
  again = λ ts m.
      at_tokens ts (sign p.Semicolon m.0 ∷ []) (last_token (k.Punct p.Semicolon) ts m) (record { found = None; derived = g.declared_only m.0; same = refl });
  spelled = (refl, tt);
}
definition_again (g.defined ts body d) f =
    let a = block_again d f 0 in
    record { again = λ us m. let x = a.again us m in record { found = Some x.found; derived = g.defined us x.found x.derived; same = ap Some x.same }; spelled = a.spelled }

abbrev Item : ItemTree → Type 0
Item item = Printed DerivesItem unplaced_item item (item_row item)

abbrev function_with : List ℕ → Place → Option CType → List ParamTree → Option StmtTrees → ItemTree
function_with text at result params body = tree.function (record { name = text; at = at; result = result; params = params; body = body })

printed_function : (result : Option CType) (text : List ℕ) (at : Place) (all : List ParamTree) (body : Option StmtTrees) → PrintedKind false result (result_row result) → is_keyword text ≡ false
    → IsSpelled (k.Word text) → Params all → Definition body → Item (function_with text at result all body)
printed_function result text at all body a plain s b d =
    let third = rows.sign p.RightParen ∷ definition_row body in
    let behind = w.Space ∷ rows.word text ∷ rows.sign p.LeftParen ∷ (params_row all ++ third) in
    record {
      again = λ ts m.
          let c = split (result_row result) behind ts m in
          let o = c.second.3 in
          let e = split (params_row all) third o.1 o.3 in
          let x = b.again e.before e.first in
          let y = d.again e.second.1 e.second.3 in
          at_tokens ts (c.before ++ word text c.second.0 ∷ sign p.LeftParen o.0 ∷ (e.before ++ sign p.RightParen e.second.0 ∷ e.second.1))
          (c.is
          ∙ ap (λ us. c.before ++ us)
          (c.second.2 ∙ ap (λ us. word text c.second.0 ∷ us) (o.2 ∙ ap (λ us. sign p.LeftParen o.0 ∷ us) (e.is ∙ ap (λ us. e.before ++ us) e.second.2))))
          (record {
            found = function_with text c.second.0 result x.found y.found;
            derived = g.a_function result false c.before e.before e.second.1 text c.second.0 o.0 e.second.0 x.found y.found (a.again c.before c.first) plain x.derived y.derived;
            same = ap (λ z. function_with text nowhere result z (option_map unplaced_stmts y.found)) x.same
                ∙ ap (λ z. function_with text nowhere result (map unplaced_param all) z) y.same;
          });
      spelled = spelled_both (result_row result) behind a.spelled (s, (refl, spelled_both (params_row all) third b.spelled (refl, d.spelled)));
    }

item_again : {ts : List Terminal} {item : ItemTree} → DerivesItem ts item → Fit ts → Item item
item_again (g.a_static at ts item d) f = item_again d f.1
item_again (g.an_inline at ts item d) f = item_again d f.1
item_again (g.some_objects ts all d) f =
    let a = declaration_again d f in
    record {
      again = λ us m. let x = a.again us m in record { found = tree.objects x.found; derived = g.some_objects us x.found x.derived; same = ap tree.objects x.same };
      spelled = a.spelled;
    }
item_again (g.a_function result constant ks ps bs text at opens closes all body dk plain d e) f =
    let parts = fit_parts ks (word text at ∷ sign p.LeftParen opens ∷ (ps ++ sign p.RightParen closes ∷ bs)) f in
    let others = fit_parts ps (sign p.RightParen closes ∷ bs) parts.1.1.1 in
    printed_function result text at all body (printed_result result (kind_is_type dk parts.0)) plain parts.1.0 (params_again d others.0) (definition_again e others.1.1)

-- ---- programs

abbrev pub items_row : List ItemTree → Row
items_row items = flat_map (λ item. item_row item ++ w.Line 0 ∷ []) items

abbrev pub Items : List ItemTree → Type 0
Items items = Printed DerivesItems (map unplaced_item) items (items_row items)

one_item : (item : ItemTree) (items : List ItemTree) → Item item → Items items → Items (item ∷ items)
one_item item items a b =
    let line = item_row item ++ w.Line 0 ∷ [] in
    record {
      again = λ ts m.
          let c = split line (items_row items) ts m in
          let e = split (item_row item) (w.Line 0 ∷ []) c.before c.first in
          let x = a.again e.before e.first in
          let y = b.again c.behind c.second in
          at_tokens ts (e.before ++ c.behind) (c.is ∙ ap (λ us. us ++ c.behind) (e.is ∙ ap (λ us. e.before ++ us) e.second ∙ append-nil e.before))
          (record {
            found = x.found ∷ y.found;
            derived = g.more_items e.before c.behind x.found y.found x.derived y.derived;
            same = ap (λ z. z ∷ map unplaced_item y.found) x.same ∙ ap (λ z. unplaced_item item ∷ z) y.same;
          });
      spelled = spelled_both line (items_row items) (spelled_both (item_row item) (w.Line 0 ∷ []) a.spelled tt) b.spelled;
    }

pub items_again : {ts : List Terminal} {items : List ItemTree} → DerivesItems ts items → Fit ts → Items items
items_again g.no_item f = record { again = λ ts m. at_tokens ts [] m (record { found = []; derived = g.no_item; same = refl }); spelled = tt }
items_again (g.more_items ts us item rest d e) f = let parts = fit_parts ts us f in one_item item rest (item_again d parts.0) (items_again e parts.1)
