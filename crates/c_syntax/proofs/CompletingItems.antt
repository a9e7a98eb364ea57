-- The goals take each token of a program.
use Rattle.std.proofs.Common.{◌≡◌, ℕ, Bool, true, false, List, [], ◌∷◌, ◌++◌, codes, length, Option, Some, None, refl, ap, sym, ◌∙◌, append_assoc}
use Rattle.std.specs.Prelude.{is_some}
use Rattle.hls_base.specs.declared.place.Place.{Place}
use Rattle.c_token.specs.declared.ctype.CType.{CType}
use Rattle.c_token.specs.declared.punct.Punct.TheVariants as p
use Rattle.c_token.specs.declared.token.TokenKind.TheVariants as k
use Rattle.c_tree.specs.declared.specifier.Specifier.{Specifier}
use Rattle.c_tree.specs.declared.specifier.Specifier.TheVariants as s
use Rattle.c_tree.specs.Terminals.{Terminal, terminal, sign, word, is_keyword}
use Rattle.c_tree.specs.Tree.{Tree, ObjectTree, InitTree, ParamTree, ItemTree, StmtTrees}
use Rattle.c_tree.specs.Kinds.{DerivesWords, DerivesKind, type_of_words}
use Rattle.c_tree.specs.Kinds as kinds
use Rattle.c_tree.specs.Grammar as g
use Rattle.c_tree.specs.Grammar.{DerivesInitialiser, DerivesLengths, DerivesObjects, DerivesDeclaration, DerivesParam, DerivesParamList, DerivesParams, DerivesDefinition, DerivesItem, DerivesItems}
use Rattle.c_tree.specs.Limits.{plain, closing, pair, flat, length_marks, initialiser_marks, objects_marks, param_marks, param_list_marks, params_marks, definition_marks, item_marks, item_list_marks}
use Rattle.c_syntax.specs.declared.steps.goal.Goal.{Goal}
use Rattle.c_syntax.specs.declared.steps.goal.Goal.TheVariants as G
use Rattle.c_syntax.specs.declared.steps.goal.Spot.{Spot}
use Rattle.c_syntax.specs.declared.sorts.sort.Sort.{Sort}
use Rattle.c_syntax.specs.declared.sorts.sort.Sort.TheVariants as o
use Rattle.c_syntax.specs.Sorts.{sort_of, begins_kind}
use Rattle.c_syntax.specs.Steps.{deeper, step_of, taken_or, next, behind, kind, params, param_goals, item}
use Rattle.c_syntax.proofs.Seen.{name_sort, specifier_sort}
use Rattle.c_syntax.proofs.Noting.{Noted}
use Rattle.c_syntax.proofs.Marking.{run, going, put, put_at, put-append, put-pair, put-flat}
use Rattle.c_syntax.proofs.Completing.{at_first, spot_at, run_as, skip, weaker}
use Rattle.c_syntax.proofs.CompletingTypes.{StartsKind, kind_starts, kind_run, anywhere, in_item, no_kind}
use Rattle.c_syntax.proofs.CompletingExpressions.{taken_optional}
use Rattle.c_syntax.proofs.CompletingObjects.{Passes, via, same_tokens, same_notes, at_once, after_run, no_length, ends_object, lengths_pass, tail_pass, objects_pass}
use Rattle.c_syntax.proofs.CompletingStatements.{body_pass}

-- ---- parameters

kind_some : (spot : Spot) (depth : ℕ) (sort : Sort) → begins_kind sort ≡ true → is_some (kind spot depth sort) ≡ true
kind_some spot depth (o.Specifier s.Void) e = absurd cc
kind_some spot depth (o.Specifier s.Bool) e = refl
kind_some spot depth (o.Specifier s.Char) e = refl
kind_some spot depth (o.Specifier s.Short) e = refl
kind_some spot depth (o.Specifier s.Int) e = refl
kind_some spot depth (o.Specifier s.Long) e = refl
kind_some spot depth (o.Specifier s.Signed) e = refl
kind_some spot depth (o.Specifier s.Unsigned) e = refl
kind_some spot depth o.TypeName e = refl
kind_some spot depth o.Const e = refl
kind_some spot depth _ e = absurd cc

params_kind : (spot : Spot) (sort : Sort) → begins_kind sort ≡ true → params spot sort ≡ behind param_goals (kind spot (deeper 0) sort)
params_kind spot (o.Specifier s.Void) e = absurd cc
params_kind spot (o.Specifier s.Bool) e = refl
params_kind spot (o.Specifier s.Char) e = refl
params_kind spot (o.Specifier s.Short) e = refl
params_kind spot (o.Specifier s.Int) e = refl
params_kind spot (o.Specifier s.Long) e = refl
params_kind spot (o.Specifier s.Signed) e = refl
params_kind spot (o.Specifier s.Unsigned) e = refl
params_kind spot o.TypeName e = refl
params_kind spot o.Const e = refl
params_kind spot _ e = absurd cc

params_goal : (us : List Terminal) → StartsKind us → (goals : List Goal) (count : ℕ) (noted : List Noted)
    → run us (G.Params ∷ goals) count noted ≡ run us (G.Kind (deeper 0) ∷ G.OptionalName (deeper 0) ∷ G.Lengths (deeper 0) ∷ G.MoreParams ∷ goals) count noted
params_goal us s goals count noted =
    let spot = spot_at noted count in let sort = sort_of s.first.kind in
    ap (λ x. run x (G.Params ∷ goals) count noted) s.shape
    ∙ ap (λ x. going (taken_or x true goals (next goals spot sort)) noted (run s.rest)) (params_kind spot sort s.begins)
    ∙ ap (λ x. going x noted (run s.rest)) (taken_optional (kind spot (deeper 0) sort) (kind_some spot (deeper 0) sort s.begins) param_goals goals (next goals spot sort) (next (param_goals ++ goals) spot sort))
    ∙ ap (λ x. run x (G.Kind (deeper 0) ∷ G.OptionalName (deeper 0) ∷ G.Lengths (deeper 0) ∷ G.MoreParams ∷ goals) count noted) (sym s.shape)

-- a parameter ends before a comma or the closing parenthesis
abbrev ends_param : Sort → Bool
ends_param o.Comma = true
ends_param o.RightParen = true
ends_param _ = false

param_kind : (sort : Sort) → ends_param sort ≡ true → no_kind sort ≡ true
param_kind o.Comma e = refl
param_kind o.RightParen e = refl
param_kind _ e = absurd cc

param_length : (sort : Sort) → ends_param sort ≡ true → no_length sort ≡ true
param_length o.Comma e = refl
param_length o.RightParen e = refl
param_length _ e = absurd cc

abbrev no_name : Sort → Bool
no_name o.Name = false
no_name _ = true

param_name : (sort : Sort) → ends_param sort ≡ true → no_name sort ≡ true
param_name o.Comma e = refl
param_name o.RightParen e = refl
param_name _ e = absurd cc

name_end : (depth : ℕ) (spot : Spot) (sort : Sort) → no_name sort ≡ true → step_of (G.OptionalName depth) spot sort ≡ None
name_end depth spot o.Name e = absurd cc
name_end depth spot _ e = refl

lengths_kind : {ts : List Terminal} {all : List (Option Tree)} → DerivesLengths ts all → (us : List Terminal) → at_first ends_param us ≡ true → (at_first no_kind (ts ++ us) ≡ true) × (at_first no_name (ts ++ us) ≡ true)
lengths_kind g.no_length us end = (weaker ends_param no_kind param_kind us end, weaker ends_param no_name param_name us end)
lengths_kind (g.a_length opens closes ts vs length lengths d ds) us end = (refl, refl)

param_pass : {ts : List Terminal} {param : ParamTree} (d : DerivesParam ts param) (count : ℕ) (goals : List Goal) (noted : List Noted) (us : List Terminal) → at_first ends_param us ≡ true
    → Passes (ts ++ us) (G.Kind (deeper 0) ∷ G.OptionalName (deeper 0) ∷ G.Lengths (deeper 0) ∷ goals) count noted us goals (put (deeper 0) (param_marks d) noted)
param_pass (g.named_param type constant ks ls text at lengths c free d) count goals noted us end =
    let depth = deeper 0 in let left = G.OptionalName depth ∷ G.Lengths depth ∷ goals in let front = put depth (flat ks) noted in
    same_tokens (append_assoc ks (word text at ∷ ls) us)
    (same_notes (after_run (kind_run c (anywhere depth) tt left count noted (word text at ∷ (ls ++ us)) (ap no_kind (name_sort text free))
    ∙ ap (λ x. run (word text at ∷ (ls ++ us)) left count x) (put-flat depth count ks noted)
    ∙ run_as (word text at) o.Name (ls ++ us) left count front (name_sort text free))
    (lengths_pass d depth count goals (put_at depth plain ∷ front) us (weaker ends_param no_length param_length us end)))
    (sym (put-append depth (flat ks) (plain ∷ length_marks d) noted)))
param_pass (g.unnamed_param type constant t ks ls lengths c d) count goals noted us end =
    let depth = deeper 0 in let left = G.OptionalName depth ∷ G.Lengths depth ∷ goals in let front = put depth (flat (t ∷ ks)) noted in let h = lengths_kind d us end in
    same_tokens (append_assoc (t ∷ ks) ls us)
    (same_notes (after_run (kind_run c (anywhere depth) tt left count noted (ls ++ us) h.0
    ∙ ap (λ x. run (ls ++ us) left count x) (put-flat depth count (t ∷ ks) noted)
    ∙ skip no_name (G.OptionalName depth) refl (name_end depth) (ls ++ us) h.1 (G.Lengths depth ∷ goals) count front)
    (lengths_pass d depth count goals front us (weaker ends_param no_length param_length us end)))
    (sym (put-append depth (flat (t ∷ ks)) (length_marks d) noted)))

param_list_pass : {ts : List Terminal} {all : List ParamTree} (d : DerivesParamList ts all) (count : ℕ) (goals : List Goal) (noted : List Noted) (closes : Place) (us : List Terminal)
    → Passes (ts ++ sign p.RightParen closes ∷ us) (G.Kind (deeper 0) ∷ G.OptionalName (deeper 0) ∷ G.Lengths (deeper 0) ∷ G.MoreParams ∷ goals) count noted
    (sign p.RightParen closes ∷ us) goals (put (deeper 0) (param_list_marks d) noted)
param_list_pass (g.last_param ts param d) count goals noted closes us = via (param_pass d count (G.MoreParams ∷ goals) noted (sign p.RightParen closes ∷ us) refl) (λ c. at_once c refl)
param_list_pass (g.more_params at ts vs param rest d ds) count goals noted closes us =
    let depth = deeper 0 in
    same_tokens (append_assoc ts (sign p.Comma at ∷ vs) (sign p.RightParen closes ∷ us))
    (same_notes (via (param_pass d count (G.MoreParams ∷ goals) noted (sign p.Comma at ∷ (vs ++ sign p.RightParen closes ∷ us)) refl) (λ c.
    after_run refl (param_list_pass ds c goals (put_at depth plain ∷ put depth (param_marks d) noted) closes us)))
    (sym (put-append depth (param_marks d) (plain ∷ param_list_marks ds) noted)))

param_starts : {ts : List Terminal} {param : ParamTree} → DerivesParam ts param → StartsKind ts
param_starts (g.named_param type constant ks ls text at lengths c free d) =
    let s = kind_starts c in record { first = s.first; rest = s.rest ++ word text at ∷ ls; shape = ap (λ x. x ++ word text at ∷ ls) s.shape; begins = s.begins }
param_starts (g.unnamed_param type constant t ks ls lengths c d) =
    let s = kind_starts c in record { first = s.first; rest = s.rest ++ ls; shape = ap (λ x. x ++ ls) s.shape; begins = s.begins }

param_list_starts : {ts : List Terminal} {all : List ParamTree} → DerivesParamList ts all → StartsKind ts
param_list_starts (g.last_param ts param d) = param_starts d
param_list_starts (g.more_params at ts vs param rest d ds) =
    let s = param_starts d in record { first = s.first; rest = s.rest ++ sign p.Comma at ∷ vs; shape = ap (λ x. x ++ sign p.Comma at ∷ vs) s.shape; begins = s.begins }

params_pass : {ts : List Terminal} {all : List ParamTree} (d : DerivesParams ts all) (count : ℕ) (goals : List Goal) (noted : List Noted) (closes : Place) (us : List Terminal)
    → Passes (ts ++ sign p.RightParen closes ∷ us) (G.Params ∷ G.CloseParen 0 0 ∷ goals) count noted us goals (put_at 0 closing ∷ put (deeper 0) (params_marks d) noted)
params_pass g.no_param count goals noted closes us = at_once 0 refl
params_pass (g.void_alone at) count goals noted closes us = at_once 0 refl
params_pass (g.params ts all d) count goals noted closes us =
    let s = param_list_starts d in let w = sign p.RightParen closes ∷ us in
    after_run (params_goal (ts ++ w) (record { first = s.first; rest = s.rest ++ w; shape = ap (λ x. x ++ w) s.shape; begins = s.begins }) (G.CloseParen 0 0 ∷ goals) count noted)
    (via (param_list_pass d count (G.CloseParen 0 0 ∷ goals) noted closes us) (λ c. at_once 0 refl))

definition_pass : {ts : List Terminal} {body : Option StmtTrees} (d : DerivesDefinition ts body) (count : ℕ) (goals : List Goal) (noted : List Noted) (us : List Terminal)
    → Passes (ts ++ us) (G.Definition ∷ goals) count noted us goals (put 0 (definition_marks d) noted)
definition_pass (g.declared_only ends) count goals noted us = at_once count refl
definition_pass (g.defined _ _ (g.braces opens closes ts body d)) count goals noted us =
    after_run (ap (λ x. run x (G.Body 0 ∷ goals) count (put_at 0 plain ∷ noted)) (append_assoc ts (sign p.RightBrace closes ∷ []) us)) (body_pass d 0 count goals (put_at 0 plain ∷ noted) closes us)

-- ---- objects of an item

abbrev after_name : Sort → Bool
after_name o.LeftBracket = true
after_name o.Equal = true
after_name o.Comma = true
after_name o.Semicolon = true
after_name _ = false

declarator_tail : (goals : List Goal) (spot other : Spot) (sort : Sort) (noted : List Noted) (F : List Goal → ℕ → List Noted → Option (List Noted)) → other.count ≡ 0 → after_name sort ≡ true
    → going (next (G.AfterDeclarator ∷ goals) spot sort) noted F ≡ going (next (G.Lengths 0 ∷ G.Initialiser 0 ∷ G.MoreObjects 0 ∷ G.Semicolon 0 ∷ goals) other sort) noted F
declarator_tail goals spot other o.LeftBracket noted F c e = refl
declarator_tail goals spot other o.Equal noted F c e = refl
declarator_tail goals spot other o.Comma noted F c e = ap (λ x. going (next (G.MoreObjects 0 ∷ G.Semicolon 0 ∷ goals) (record other { count = x }) o.Comma) noted F) (sym c)
declarator_tail goals spot other o.Semicolon noted F c e = refl
declarator_tail goals spot other _ noted F c e = absurd cc

declarator_run : (us : List Terminal) → (us ≡ [] → ⊥) → at_first after_name us ≡ true → (goals : List Goal) (count : ℕ) (noted : List Noted)
    → run us (G.AfterDeclarator ∷ goals) count noted ≡ run us (G.Lengths 0 ∷ G.Initialiser 0 ∷ G.MoreObjects 0 ∷ G.Semicolon 0 ∷ goals) 0 noted
declarator_run [] some e goals count noted = absurd (some refl)
declarator_run (t ∷ ts) some e goals count noted = declarator_tail goals (spot_at noted count) (spot_at noted 0) (sort_of t.kind) noted (run ts) refl e

object_after : (sort : Sort) → ends_object sort ≡ true → after_name sort ≡ true
object_after o.Comma e = refl
object_after o.Semicolon e = refl
object_after _ e = absurd cc

initialiser_after : {ts : List Terminal} {i : Option InitTree} → DerivesInitialiser ts i → (t : Terminal) (us : List Terminal) → ends_object (sort_of t.kind) ≡ true
    → (at_first after_name (ts ++ t ∷ us) ≡ true) × ((ts ++ t ∷ us) ≡ [] → ⊥)
initialiser_after g.no_initialiser t us end = (object_after (sort_of t.kind) end, λ e. cc)
initialiser_after (g.an_initialiser at ts i d) t us end = (refl, λ e. cc)

tail_after : {ts vs : List Terminal} {lengths : List (Option Tree)} {i : Option InitTree} → DerivesLengths ts lengths → DerivesInitialiser vs i → (t : Terminal) (us : List Terminal) → ends_object (sort_of t.kind) ≡ true
    → (at_first after_name ((ts ++ vs) ++ t ∷ us) ≡ true) × (((ts ++ vs) ++ t ∷ us) ≡ [] → ⊥)
tail_after g.no_length d t us end = initialiser_after d t us end
tail_after (g.a_length _ _ _ _ _ _ _ _) d t us end = (refl, λ e. cc)

item_objects : {type : CType} {constant : Bool} {ts : List Terminal} {all : List ObjectTree} (d : DerivesObjects type constant ts all) (count : ℕ) (goals : List Goal) (noted : List Noted) (at : Place) (us : List Terminal)
    → Passes (ts ++ sign p.Semicolon at ∷ us) (G.Declarator ∷ goals) count noted us goals (put 0 (objects_marks d ++ plain ∷ []) noted)
item_objects (g.last_object type constant _ _ (g.an_object _ _ text to ts vs lengths i free d e)) count goals noted at us =
    let w = sign p.Semicolon at ∷ us in let h = tail_after d e (sign p.Semicolon at) us refl in let front = put_at 0 plain ∷ noted in
    same_notes (after_run (run_as (word text to) o.Name ((ts ++ vs) ++ w) (G.Declarator ∷ goals) count noted (name_sort text free) ∙ declarator_run ((ts ++ vs) ++ w) h.1 h.0 goals count front)
    (via (tail_pass d e 0 0 (G.MoreObjects 0 ∷ G.Semicolon 0 ∷ goals) front w refl) (λ c. at_once 0 refl)))
    (sym (put-append 0 (length_marks d ++ initialiser_marks e) (plain ∷ []) front))
item_objects (g.more_objects type constant to _ vs' _ rest (g.an_object _ _ text start ts vs lengths i free d e) ds) count goals noted at us =
    let w = sign p.Comma to ∷ (vs' ++ sign p.Semicolon at ∷ us) in let h = tail_after d e (sign p.Comma to) (vs' ++ sign p.Semicolon at ∷ us) refl in let front = put_at 0 plain ∷ noted in
    let placed = put 0 (length_marks d ++ initialiser_marks e) front in
    same_tokens (append_assoc (word text start ∷ (ts ++ vs)) (sign p.Comma to ∷ vs') (sign p.Semicolon at ∷ us))
    (same_notes (after_run (run_as (word text start) o.Name ((ts ++ vs) ++ w) (G.Declarator ∷ goals) count noted (name_sort text free) ∙ declarator_run ((ts ++ vs) ++ w) h.1 h.0 goals count front)
    (via (tail_pass d e 0 0 (G.MoreObjects 0 ∷ G.Semicolon 0 ∷ goals) front w refl) (λ c.
    after_run refl (via (objects_pass ds 0 c (G.Semicolon 0 ∷ goals) (put_at 0 plain ∷ placed) at us) (λ k. at_once 0 refl)))))
    (sym (ap (λ x. put 0 x front) (append_assoc (length_marks d ++ initialiser_marks e) (plain ∷ objects_marks ds) (plain ∷ []))
    ∙ put-append 0 (length_marks d ++ initialiser_marks e) (plain ∷ (objects_marks ds ++ plain ∷ [])) front ∙ put-append 0 (objects_marks ds) (plain ∷ []) (put_at 0 plain ∷ placed))))

objects_name : {type : CType} {constant : Bool} {ts : List Terminal} {all : List ObjectTree} → DerivesObjects type constant ts all → (us : List Terminal) → at_first no_kind (ts ++ us) ≡ true
objects_name (g.last_object type constant _ _ (g.an_object _ _ text to ts vs lengths i free d e)) us = ap no_kind (name_sort text free)
objects_name (g.more_objects type constant to _ vs' _ rest (g.an_object _ _ text start ts vs lengths i free d e) ds) us = ap no_kind (name_sort text free)

-- ---- items

-- what stands behind the type of a function
abbrev behind_result : Option CType → List Goal → List Goal
behind_result None goals = G.FunctionName ∷ goals
behind_result (Some type) goals = G.Declarator ∷ goals

function_name : (result : Option CType) (text : List ℕ) (at opens : Place) → is_keyword text ≡ false → (us : List Terminal) (goals : List Goal) (count : ℕ) (noted : List Noted)
    → run (word text at ∷ sign p.LeftParen opens ∷ us) (behind_result result goals) count noted
    ≡ run us (G.Params ∷ G.CloseParen 0 0 ∷ G.Definition ∷ goals) 0 (put_at 0 plain ∷ put_at 0 plain ∷ noted)
function_name None text at opens free us goals count noted = run_as (word text at) o.Name (sign p.LeftParen opens ∷ us) (G.FunctionName ∷ goals) count noted (name_sort text free)
function_name (Some type) text at opens free us goals count noted = run_as (word text at) o.Name (sign p.LeftParen opens ∷ us) (G.Declarator ∷ goals) count noted (name_sort text free)

item_pass : {ts : List Terminal} {i : ItemTree} (d : DerivesItem ts i) (count : ℕ) (goals : List Goal) (noted : List Noted) (us : List Terminal)
    → Passes (ts ++ us) (G.Item false ∷ goals) count noted us goals (put 0 (item_marks d) noted)
item_pass (g.a_static at ts i d) count goals noted us = after_run refl (item_pass d count goals (put_at 0 plain ∷ noted) us)
item_pass (g.an_inline at ts i d) count goals noted us = after_run refl (item_pass d count goals (put_at 0 plain ∷ noted) us)
item_pass (g.some_objects _ _ (g.a_declaration type constant ks ts objects ends c d)) count goals noted us =
    let front = put 0 (flat ks) noted in let w = ts ++ sign p.Semicolon ends ∷ us in
    same_tokens (append_assoc ks (ts ++ sign p.Semicolon ends ∷ []) us ∙ ap (λ x. ks ++ x) (append_assoc ts (sign p.Semicolon ends ∷ []) us))
    (same_notes (after_run (kind_run c (in_item false) tt goals count noted w (objects_name d (sign p.Semicolon ends ∷ us)) ∙ ap (λ x. run w (G.Declarator ∷ goals) count x) (put-flat 0 count ks noted))
    (item_objects d count goals front ends us))
    (sym (put-append 0 (flat ks) (objects_marks d ++ plain ∷ []) noted)))
item_pass (g.a_function result constant ks ps bs text at opens closes all body c free d e) count goals noted us =
    let front = put 0 (flat ks) noted in let w = word text at ∷ sign p.LeftParen opens ∷ (ps ++ sign p.RightParen closes ∷ (bs ++ us)) in let named = put_at 0 plain ∷ put_at 0 plain ∷ front in
    same_tokens (append_assoc ks (word text at ∷ sign p.LeftParen opens ∷ (ps ++ sign p.RightParen closes ∷ bs)) us
    ∙ ap (λ x. ks ++ word text at ∷ sign p.LeftParen opens ∷ x) (append_assoc ps (sign p.RightParen closes ∷ bs) us))
    (same_notes (after_run (kind_run c (in_item false) tt goals count noted w (ap no_kind (name_sort text free)) ∙ ap (λ x. run w (behind_result result goals) count x) (put-flat 0 count ks noted)
    ∙ function_name result text at opens free (ps ++ sign p.RightParen closes ∷ (bs ++ us)) goals count front)
    (via (params_pass d 0 (G.Definition ∷ goals) named closes (bs ++ us)) (λ k. definition_pass e k goals (put_at 0 closing ∷ put (deeper 0) (params_marks d) named) us)))
    (sym (put-append 0 (flat ks) (plain ∷ pair (params_marks d) (definition_marks e)) noted ∙ put-pair 0 (params_marks d) (definition_marks e) (put_at 0 plain ∷ front))))

-- what an item begins with
abbrev begins_item : Sort → Bool
begins_item (o.Specifier v) = true
begins_item o.Static = true
begins_item o.Inline = true
begins_item o.Const = true
begins_item o.TypeName = true
begins_item _ = false

item_some : (spot : Spot) (sort : Sort) → begins_item sort ≡ true → is_some (item spot false sort) ≡ true
item_some spot (o.Specifier s.Void) e = refl
item_some spot (o.Specifier s.Bool) e = refl
item_some spot (o.Specifier s.Char) e = refl
item_some spot (o.Specifier s.Short) e = refl
item_some spot (o.Specifier s.Int) e = refl
item_some spot (o.Specifier s.Long) e = refl
item_some spot (o.Specifier s.Signed) e = refl
item_some spot (o.Specifier s.Unsigned) e = refl
item_some spot o.Static e = refl
item_some spot o.Inline e = refl
item_some spot o.Const e = refl
item_some spot o.TypeName e = refl
item_some spot _ e = absurd cc

record StartsItem (ts : List Terminal) : Type 0 where
  first : Terminal
  rest : List Terminal
  shape : ts ≡ first ∷ rest
  begins : begins_item (sort_of first.kind) ≡ true

item_more : (ts us : List Terminal) → StartsItem ts → StartsItem (ts ++ us)
item_more ts us s = record { first = s.first; rest = s.rest ++ us; shape = ap (λ x. x ++ us) s.shape; begins = s.begins }

words_item : {ts : List Terminal} {ws : List Specifier} {constant : Bool} → DerivesWords ts ws constant → (kind : Option CType) → type_of_words ws ≡ Some kind → StartsItem ts
words_item kinds.no_word kind e = absurd (let h : None ≡ Some kind = e in cc)
words_item (kinds.a_const at ts ws constant d) kind e = record { first = word (codes "const") at; rest = ts; shape = refl; begins = refl }
words_item (kinds.a_specifier text v at ts ws constant sp d) kind e = record { first = word text at; rest = ts; shape = refl; begins = ap begins_item (specifier_sort text v sp) }

name_item : {ls : List Terminal} {ws : List Specifier} {constant : Bool} → DerivesWords ls ws constant → (kind : CType) (at : Place) (rs : List Terminal) → StartsItem (ls ++ terminal (k.TypeWord kind) at ∷ rs)
name_item kinds.no_word kind at rs = record { first = terminal (k.TypeWord kind) at; rest = rs; shape = refl; begins = refl }
name_item (kinds.a_const to ts ws constant d) kind at rs = record { first = word (codes "const") to; rest = ts ++ terminal (k.TypeWord kind) at ∷ rs; shape = refl; begins = refl }
name_item (kinds.a_specifier text v to ts ws constant sp d) kind at rs = record { first = word text to; rest = ts ++ terminal (k.TypeWord kind) at ∷ rs; shape = refl; begins = ap begins_item (specifier_sort text v sp) }

kind_item : {ts : List Terminal} {result : Option CType} {constant : Bool} → DerivesKind ts result constant → StartsItem ts
kind_item (kinds.of_words ts words result constant d e) = words_item d result e
kind_item (kinds.of_name ls rs kind at before behind d e) = name_item d kind at rs

item_starts : {ts : List Terminal} {i : ItemTree} → DerivesItem ts i → StartsItem ts
item_starts (g.a_static at ts i d) = record { first = word (codes "static") at; rest = ts; shape = refl; begins = refl }
item_starts (g.an_inline at ts i d) = record { first = word (codes "inline") at; rest = ts; shape = refl; begins = refl }
item_starts (g.some_objects _ _ (g.a_declaration type constant ks ts objects ends c d)) = item_more ks (ts ++ sign p.Semicolon ends ∷ []) (kind_item c)
item_starts (g.a_function result constant ks ps bs text at opens closes all body c free d e) = item_more ks (word text at ∷ sign p.LeftParen opens ∷ (ps ++ sign p.RightParen closes ∷ bs)) (kind_item c)

-- what is noted of a program is the marks of its derivation
pub items_run : {ts : List Terminal} {all : List ItemTree} (d : DerivesItems ts all) (count : ℕ) (noted : List Noted) → run ts (G.Items ∷ []) count noted ≡ Some (put 0 (item_list_marks d) noted)
items_run g.no_item count noted = refl
items_run (g.more_items ts us i rest d ds) count noted =
    let s = item_starts d in let w = s.rest ++ us in let spot = spot_at noted count in let sort = sort_of s.first.kind in let a = item_pass d count (G.Items ∷ []) noted us in
    ap (λ x. run (x ++ us) (G.Items ∷ []) count noted) s.shape
    ∙ ap (λ x. going x noted (run w)) (taken_optional (item spot false sort) (item_some spot sort s.begins) (G.Items ∷ []) [] None (next (G.Items ∷ []) spot sort))
    ∙ ap (λ x. run (x ++ us) (G.Item false ∷ G.Items ∷ []) count noted) (sym s.shape)
    ∙ a.same
    ∙ items_run ds a.final (put 0 (item_marks d) noted)
    ∙ ap Some (sym (put-append 0 (item_marks d) (item_list_marks ds) noted))
