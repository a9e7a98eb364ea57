-- The grammar and the limits at small token lists.
use Rattle.std.proofs.Common.{◌≡◌, ℕ, zero, suc, ◌||◌, Bool, true, false, List, [], ◌∷◌, ◌++◌, codes, Option, Some, None, is_some, ◌⊎◌, refl, ap, sym, ◌∙◌, map, ◌<◌, inl, inr, arith}
use Rattle.hls_base.specs.declared.place.Place.{Place}
use Rattle.c_token.specs.declared.ctype.CType.{CType}
use Rattle.c_token.specs.declared.punct.Punct.TheVariants as p
use Rattle.c_token.specs.declared.token.TokenKind.{TokenKind}
use Rattle.c_token.specs.declared.token.TokenKind.TheVariants as k
use Rattle.c_token.specs.Constants.{integer}
use Rattle.c_token.specs.Replacement.{is_in}
use Rattle.c_tree.specs.declared.operator.Binary.TheVariants as b
use Rattle.c_tree.specs.declared.specifier.Specifier.TheVariants as s
use Rattle.c_tree.specs.declared.specifier.Specifier.{Specifier}
use Rattle.c_tree.specs.Tree.{Tree, TargetTree, ActionTree, StmtTree, ParamTree, ItemTree}
use Rattle.c_tree.specs.Tree as tree
use Rattle.c_tree.specs.Terminals.{Terminal, terminal, sign, word}
use Rattle.c_tree.specs.Kinds.{DerivesWords, DerivesKind, type_of_words, specifier_of}
use Rattle.c_tree.specs.Kinds as kinds
use Rattle.c_tree.specs.Grammar.{Derives, DerivesItem, DerivesItems, DerivesStatement, DerivesParams, DerivesDefinition, DerivesLengths, choice_level, comma_level, DerivesChange, DerivesAction}
use Rattle.c_tree.specs.Grammar as g
use Rattle.c_tree.specs.Limits.{Mark, marks, whole, statement_marks, item_list_marks, mark_at, exceeds}
use Rattle.c_tree.specs.Refusal.{Begins, Reaches, IsFull, NoneBeyond, IsFaultOf, refusal, rule_of}
use Rattle.c_tree.specs.Refusal as r
use Rattle.c_tree.proofs.Firsts.{items_first}

abbrev place : ℕ → Place
place column = record { line = 1; column = column; part = 0 }

abbrev int_type : CType
int_type = integer true 32

-- ---- types

unsigned_long_int_in_any_order : type_of_words (s.Int ∷ s.Unsigned ∷ s.Long ∷ []) ≡ Some (Some (integer false 64))
unsigned_long_int_in_any_order = refl

no_short_char : type_of_words (s.Short ∷ s.Char ∷ []) ≡ None
no_short_char = refl

-- ---- operators

abbrev lift : ℕ → ℕ → ℕ
lift zero n = n
lift (suc k) n = suc (lift k n)

-- an expression stands where a looser one may
abbrev loosen : (k : ℕ) {n : ℕ} {ts : List Terminal} {e : Tree} → Derives n ts e → Derives (lift k n) ts e
loosen zero d = d
loosen (suc k) d = g.a_tighter _ _ _ (loosen k d)

abbrev named : List ℕ → ℕ → Tree
named text column = tree.name text (place column)

abbrev numbered : ℕ → ℕ → Tree
numbered value column = tree.number value int_type (place column)

abbrev number_token : ℕ → ℕ → Terminal
number_token value column = terminal (k.Number value int_type) (place column)

-- the `a-1-2` of `int f(int a){return a-1-2;}`
abbrev first_difference : List Terminal
first_difference = word (codes "a") (place 21) ∷ sign p.Minus (place 22) ∷ number_token 1 23 ∷ []

abbrev differences : List Terminal
differences = first_difference ++ sign p.Minus (place 24) ∷ number_token 2 25 ∷ []

abbrev first_difference_tree : Tree
first_difference_tree = tree.binary b.Sub (named (codes "a") 21) (numbered 1 23) (place 22)

abbrev differences_tree : Tree
differences_tree = tree.binary b.Sub first_difference_tree (numbered 2 25) (place 24)

abbrev a_minus_1 : Derives 4 first_difference first_difference_tree
a_minus_1 = g.an_operator p.Minus b.Sub (place 22) 3 (word (codes "a") (place 21) ∷ []) (number_token 1 23 ∷ []) (named (codes "a") 21) (numbered 1 23) refl refl
    (loosen 4 (g.a_name (codes "a") (place 21) refl)) (loosen 3 (g.a_number 1 int_type (place 23)))

abbrev groups_to_the_left : Derives comma_level differences differences_tree
groups_to_the_left = loosen 11 (g.an_operator p.Minus b.Sub (place 24) 3 first_difference (number_token 2 25 ∷ []) first_difference_tree (numbered 2 25) refl refl
    a_minus_1 (loosen 3 (g.a_number 2 int_type (place 25))))

-- `a?b:c?d:e`
abbrev inner_choice : List Terminal
inner_choice = word (codes "c") (place 5) ∷ sign p.Question (place 6) ∷ word (codes "d") (place 7) ∷ sign p.Colon (place 8) ∷ word (codes "e") (place 9) ∷ []

abbrev inner_choice_tree : Tree
inner_choice_tree = tree.choice (named (codes "c") 5) (named (codes "d") 7) (named (codes "e") 9) (place 6) (place 8)

abbrev inner_choice_derived : Derives choice_level inner_choice inner_choice_tree
inner_choice_derived = g.a_choice (place 6) (place 8) (word (codes "c") (place 5) ∷ []) (word (codes "d") (place 7) ∷ []) (word (codes "e") (place 9) ∷ [])
    (named (codes "c") 5) (named (codes "d") 7) (named (codes "e") 9)
    (loosen 12 (g.a_name (codes "c") (place 5) refl)) (loosen 15 (g.a_name (codes "d") (place 7) refl)) (loosen 13 (g.a_name (codes "e") (place 9) refl))

abbrev choices : List Terminal
choices = word (codes "a") (place 1) ∷ sign p.Question (place 2) ∷ word (codes "b") (place 3) ∷ sign p.Colon (place 4) ∷ inner_choice

abbrev choices_group_to_the_right : Derives choice_level choices (tree.choice (named (codes "a") 1) (named (codes "b") 3) inner_choice_tree (place 2) (place 4))
choices_group_to_the_right = g.a_choice (place 2) (place 4) (word (codes "a") (place 1) ∷ []) (word (codes "b") (place 3) ∷ []) inner_choice
    (named (codes "a") 1) (named (codes "b") 3) inner_choice_tree
    (loosen 12 (g.a_name (codes "a") (place 1) refl)) (loosen 15 (g.a_name (codes "b") (place 3) refl)) inner_choice_derived

-- the operands of `?:` hold their tokens
choices_nest : map (λ m. m.nesting) (marks choices_group_to_the_right) ≡ 1 ∷ 0 ∷ 1 ∷ 0 ∷ 2 ∷ 1 ∷ 2 ∷ 1 ∷ 2 ∷ []
choices_nest = refl

-- ---- a program

abbrev int_derived : (column : ℕ) → DerivesKind (word (codes "int") (place column) ∷ []) (Some int_type) false
int_derived column = kinds.of_words (word (codes "int") (place column) ∷ []) (s.Int ∷ []) (Some int_type) false
    (kinds.a_specifier (codes "int") s.Int (place column) [] [] false refl kinds.no_word) refl

abbrev returned : List Terminal
returned = word (codes "return") (place 14) ∷ (differences ++ sign p.Semicolon (place 26) ∷ [])

abbrev returned_tree : StmtTree
returned_tree = tree.return_ (Some differences_tree) (place 14)

abbrev returned_derived : DerivesStatement returned returned_tree
returned_derived = g.a_return (place 14) (place 26) differences (Some differences_tree) (g.present comma_level differences differences_tree groups_to_the_left)

abbrev body : List Terminal
body = sign p.LeftBrace (place 13) ∷ (returned ++ sign p.RightBrace (place 27) ∷ [])

abbrev body_derived : DerivesDefinition body (Some (tree.more_stmts returned_tree tree.no_stmt))
body_derived = g.defined body (tree.more_stmts returned_tree tree.no_stmt)
    (g.braces (place 13) (place 27) returned (tree.more_stmts returned_tree tree.no_stmt) (g.a_statement returned [] returned_tree tree.no_stmt returned_derived g.nothing))

abbrev params : List Terminal
params = word (codes "int") (place 7) ∷ word (codes "a") (place 11) ∷ []

abbrev param_tree : ParamTree
param_tree = record {
  object = record { name = codes "a"; at = place 11; kind = int_type; constant = false; lengths = []; init = None };
  named = true;
}

abbrev params_derived : DerivesParams params (param_tree ∷ [])
params_derived = g.params params (param_tree ∷ []) (g.last_param params param_tree
    (g.named_param int_type false (word (codes "int") (place 7) ∷ []) [] (codes "a") (place 11) [] (int_derived 7) refl g.no_length))

-- `int f(int a){return a-1-2;}`
abbrev source : List Terminal
source = word (codes "int") (place 1) ∷ word (codes "f") (place 5) ∷ sign p.LeftParen (place 6) ∷ (params ++ sign p.RightParen (place 12) ∷ body)

abbrev source_tree : ItemTree
source_tree = tree.function (record {
  name = codes "f";
  at = place 5;
  result = Some int_type;
  params = param_tree ∷ [];
  body = Some (tree.more_stmts returned_tree tree.no_stmt);
})

abbrev source_derived : DerivesItems source (source_tree ∷ [])
source_derived = g.more_items source [] source_tree []
    (g.a_function (Some int_type) false (word (codes "int") (place 1) ∷ []) params body (codes "f") (place 5) (place 6) (place 12) (param_tree ∷ []) (Some (tree.more_stmts returned_tree tree.no_stmt))
    (int_derived 1) refl params_derived body_derived)
    g.no_item

-- the parameter list and the statement hold their tokens, and the block of the body holds none
source_nests : map (λ m. m.nesting) (item_list_marks source_derived) ≡ 0 ∷ 0 ∷ 0 ∷ 1 ∷ 1 ∷ 0 ∷ 0 ∷ 1 ∷ 1 ∷ 1 ∷ 1 ∷ 1 ∷ 1 ∷ 1 ∷ 0 ∷ []
source_nests = refl

-- ---- the limits

-- `a` in so many parentheses
abbrev grouped : ℕ → List Terminal
grouped zero = word (codes "a") (place 21) ∷ []
grouped (suc n) = sign p.LeftParen (place 21) ∷ (grouped n ++ sign p.RightParen (place 21) ∷ [])

abbrev grouped_derived : (n : ℕ) → Derives 0 (grouped n) (named (codes "a") 21)
grouped_derived zero = g.a_name (codes "a") (place 21) refl
grouped_derived (suc n) = g.a_group (place 21) (place 21) (grouped n) (named (codes "a") 21) (loosen 15 (grouped_derived n))

-- the mark of that `a` in a return statement
abbrev returned_mark : ℕ → Mark
returned_mark n = mark_at (statement_marks (g.a_return (place 14) (place 26) (grouped n) (Some (named (codes "a") 21))
    (g.present comma_level (grouped n) (named (codes "a") 21) (loosen 15 (grouped_derived n))))) (suc n)

in_63_parentheses : exceeds (returned_mark 63) ≡ false
in_63_parentheses = refl

in_64_parentheses : exceeds (returned_mark 64) ≡ true
in_64_parentheses = refl

-- `a+a+..` with so many operators
abbrev sum : ℕ → List Terminal
sum zero = word (codes "a") (place 21) ∷ []
sum (suc n) = sum n ++ sign p.Plus (place 22) ∷ word (codes "a") (place 21) ∷ []

abbrev sum_tree : ℕ → Tree
sum_tree zero = named (codes "a") 21
sum_tree (suc n) = tree.binary b.Add (sum_tree n) (named (codes "a") 21) (place 22)

abbrev sum_derived : (n : ℕ) → Derives 4 (sum n) (sum_tree n)
sum_derived zero = loosen 4 (g.a_name (codes "a") (place 21) refl)
sum_derived (suc n) = g.an_operator p.Plus b.Add (place 22) 3 (sum n) (word (codes "a") (place 21) ∷ []) (sum_tree n) (named (codes "a") 21) refl refl
    (sum_derived n) (loosen 3 (g.a_name (codes "a") (place 21) refl))

operator_256 : exceeds (mark_at (whole (marks (sum_derived 257))) 511) ≡ false
operator_256 = refl

operator_257 : exceeds (mark_at (whole (marks (sum_derived 257))) 513) ≡ true
operator_257 = refl

-- ---- an `else` belongs to the nearest `if`

an_else_is_the_inner_one : g.ends_open (tree.while_ (named (codes "a") 1) (tree.if_ (named (codes "b") 2) (tree.act []) tree.no_else (place 3)) (place 4)) ≡ true
an_else_is_the_inner_one = refl

-- ---- what is both a change and an expression

abbrev bumped : List Terminal
bumped = word (codes "a") (place 1) ∷ sign p.PlusPlus (place 2) ∷ []

abbrev bumped_target : TargetTree
bumped_target = tree.target (codes "a") tree.none (place 1)

bumped_by_its_operator : DerivesChange bumped (tree.bumping bumped_target true (place 2))
bumped_by_its_operator = g.bumped_behind p.PlusPlus true (place 2) (word (codes "a") (place 1) ∷ []) bumped_target refl
    (g.a_target (codes "a") (place 1) [] tree.none refl g.no_subscript)

no_evaluation : {ts : List Terminal} {action : ActionTree} → DerivesChange ts action → (value : Tree) → action ≡ tree.evaluation value → ⊥
no_evaluation (g.assigned _ _ _ _ _ _ _ _ _ _) value e = cc
no_evaluation (g.bumped_behind _ _ _ _ _ _ _) value e = cc
no_evaluation (g.bumped_before _ _ _ _ _ _ _) value e = cc

evaluations_are_no_changes : {ts : List Terminal} {action : ActionTree} → DerivesAction ts action → (value : Tree) → action ≡ tree.evaluation value → (other : ActionTree) → DerivesChange ts other → ⊥
evaluations_are_no_changes (g.a_change _ _ d) value e other c = no_evaluation d value e
evaluations_are_no_changes (g.a_value _ _ none d) value e other c = none other c

-- the statement `a++;` is a change, and not an expression
bumped_is_no_evaluation : (value : Tree) → DerivesAction bumped (tree.evaluation value) → ⊥
bumped_is_no_evaluation value d = evaluations_are_no_changes d value refl _ bumped_by_its_operator

-- ---- rules of tokens

rules_of_tokens : (rule_of (k.Word (codes "goto")) ≡ 20) × (rule_of (k.Word (codes "while")) ≡ 6) × (rule_of (k.Punct p.ShiftLeftEqual) ≡ 23) × (rule_of (k.Punct p.MinusMinus) ≡ 23)
    × (rule_of (k.Punct p.Comma) ≡ 6) × (rule_of (k.Punct p.EqualEqual) ≡ 6)
rules_of_tokens = (refl, refl, refl, refl, refl, refl)

-- ---- a refusal

none_below : (i : ℕ) → i < 0 → ⊥
none_below i below = omega arith

not_full : 64 < 0 → ⊥
not_full full = omega arith

enum_begins_none : {others : List Terminal} {items : List ItemTree} → DerivesItems (word (codes "enum") (place 1) ∷ others) items → ⊥
enum_begins_none d = let e : false ≡ true = items_first d (λ empty. cc) in cc

abbrev enum_item : List Terminal
enum_item = word (codes "enum") (place 1) ∷ word (codes "e") (place 6) ∷ sign p.Semicolon (place 7) ∷ []

enum_stops : ¬ Begins (word (codes "enum") (place 1) ∷ [])
enum_stops begun = enum_begins_none begun.2

-- `enum e;` is refused by rule 20 at its first token
enum_is_refused : IsFaultOf enum_item (place 8) (refusal 20 (place 1))
enum_is_refused = r.at_stop [] enum_item
    (record { split = refl; begins = ([], [], g.no_item); stops = enum_stops })
    (λ i below. absurd (none_below i below))
    (inr ((λ full. absurd (not_full (full [] [] g.no_item))), refl))
