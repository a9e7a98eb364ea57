-- Which tokens are which expression, statement and program: C11 6.5 to 6.9, with what this compiler takes of them.
use Rattle.std.specs.Prelude.{◌≡◌, ℕ, suc, Bool, true, false, List, [], ◌∷◌, ◌++◌, codes, Option, Some, None}
use Rattle.hls_base.specs.declared.place.Place.{Place}
use Rattle.c_token.specs.declared.ctype.CType.{CType}
use Rattle.c_token.specs.declared.punct.Punct.{Punct}
use Rattle.c_token.specs.declared.punct.Punct.TheVariants as p
use Rattle.c_token.specs.declared.token.TokenKind.TheVariants as k
use Rattle.c_tree.specs.declared.operator.Unary.{Unary}
use Rattle.c_tree.specs.declared.operator.Binary.{Binary}
use Rattle.c_tree.specs.declared.operator.Binary.TheVariants as b
use Rattle.c_tree.specs.Terminals.{Terminal, terminal, sign, word, is_keyword, prefix_of, operator_of, assignment_of, bump_of}
use Rattle.c_tree.specs.Kinds.{DerivesKind}
use Rattle.c_tree.specs.Tree as tree
use Rattle.c_tree.specs.Tree.{Tree, TargetTree, Trees, ActionTree, InitTree, InitTrees, ObjectTree, StmtTree, ElseTree, FirstTree, StmtTrees, ParamTree, FunctionTree, ItemTree, ProgramTree}

-- ---- expressions

-- How loosely an expression holds together: what stands alone, `++` and `--` behind a target, prefix operators and casts, the ten levels of binary operators, `?:`, assignment, comma.
abbrev pub primary_level : ℕ
primary_level = 0

abbrev pub postfix_level : ℕ
postfix_level = 1

abbrev pub unary_level : ℕ
unary_level = 2

-- C11 6.5.5 to 6.5.14
abbrev pub level_of : Binary → ℕ
level_of b.Mul = 3
level_of b.Div = 3
level_of b.Rem = 3
level_of b.Add = 4
level_of b.Sub = 4
level_of b.Shl = 5
level_of b.Shr = 5
level_of b.Lt = 6
level_of b.Gt = 6
level_of b.Le = 6
level_of b.Ge = 6
level_of b.Eq = 7
level_of b.Ne = 7
level_of b.And = 8
level_of b.Xor = 9
level_of b.Or = 10
level_of b.LogAnd = 11
level_of b.LogOr = 12

abbrev pub binary_level : ℕ
binary_level = 12

abbrev pub choice_level : ℕ
choice_level = 13

abbrev pub assign_level : ℕ
assign_level = 14

abbrev pub comma_level : ℕ
comma_level = 15

mutual
  -- The tokens are the expression, and outside parentheses, subscripts and arguments hold together as tightly as this level.
  pub data Derives : ℕ → List Terminal → Tree → Type 0 where
    -- C11 6.5.1, 6.5.2
    a_number : (value : ℕ) (kind : CType) (at : Place) → Derives primary_level (terminal (k.Number value kind) at ∷ []) (tree.number value kind at)
    a_name : (text : List ℕ) (at : Place) → is_keyword text ≡ false → Derives primary_level (word text at ∷ []) (tree.name text at)
    an_element : (text : List ℕ) (at : Place) (ts : List Terminal) (first : Tree) (rest : Trees) → is_keyword text ≡ false
        → DerivesSubscripts ts (tree.more first rest) → Derives primary_level (word text at ∷ ts) (tree.index text (tree.more first rest) at)
    a_call : (callee : List ℕ) (at opens closes : Place) (ts : List Terminal) (args : Trees) → is_keyword callee ≡ false → DerivesArguments ts args
        → Derives primary_level (word callee at ∷ sign p.LeftParen opens ∷ (ts ++ sign p.RightParen closes ∷ [])) (tree.call callee args at)
    a_group : (opens closes : Place) (ts : List Terminal) (inner : Tree) → Derives comma_level ts inner
        → Derives primary_level (sign p.LeftParen opens ∷ (ts ++ sign p.RightParen closes ∷ [])) inner
    -- C11 6.5.2.4
    a_bump_behind : (punct : Punct) (up : Bool) (at : Place) (ts : List Terminal) (target : TargetTree) → bump_of punct ≡ Some up → DerivesTarget ts target
        → Derives postfix_level (ts ++ sign punct at ∷ []) (tree.bump target up true at)
    -- C11 6.5.3, 6.5.4
    a_prefix : (punct : Punct) (op : Unary) (at : Place) (ts : List Terminal) (arg : Tree) → prefix_of punct ≡ Some op → Derives unary_level ts arg
        → Derives unary_level (sign punct at ∷ ts) (tree.unary op arg at)
    a_bump_before : (punct : Punct) (up : Bool) (at : Place) (ts : List Terminal) (target : TargetTree) → bump_of punct ≡ Some up → DerivesTarget ts target
        → Derives unary_level (sign punct at ∷ ts) (tree.bump target up false at)
    a_cast : (at closes : Place) (ks ts : List Terminal) (kind : CType) (constant : Bool) (arg : Tree) → DerivesKind ks (Some kind) constant → Derives unary_level ts arg
        → Derives unary_level (sign p.LeftParen at ∷ (ks ++ sign p.RightParen closes ∷ ts)) (tree.cast kind arg at)
    -- C11 6.5.5 to 6.5.14: operators of one level group to the left
    an_operator : (punct : Punct) (op : Binary) (at : Place) (n : ℕ) (ls rs : List Terminal) (left right : Tree) → operator_of punct ≡ Some op → level_of op ≡ suc n
        → Derives (suc n) ls left → Derives n rs right → Derives (suc n) (ls ++ sign punct at ∷ rs) (tree.binary op left right at)
    -- C11 6.5.15: to the right
    a_choice : (at colon : Place) (ts ys ns : List Terminal) (test left right : Tree) → Derives binary_level ts test → Derives comma_level ys left → Derives choice_level ns right
        → Derives choice_level (ts ++ sign p.Question at ∷ (ys ++ sign p.Colon colon ∷ ns)) (tree.choice test left right at colon)
    -- C11 6.5.16: to the right
    an_assignment : (punct : Punct) (op : Option Binary) (at : Place) (ts vs : List Terminal) (target : TargetTree) (value : Tree) → assignment_of punct ≡ Some op
        → DerivesTarget ts target → Derives assign_level vs value → Derives assign_level (ts ++ sign punct at ∷ vs) (tree.assign target op value at)
    -- C11 6.5.17: to the left
    a_comma : (at : Place) (ls rs : List Terminal) (left right : Tree) → Derives comma_level ls left → Derives assign_level rs right
        → Derives comma_level (ls ++ sign p.Comma at ∷ rs) (tree.comma left right at)
    a_tighter : (n : ℕ) (ts : List Terminal) (inner : Tree) → Derives n ts inner → Derives (suc n) ts inner

  -- a scalar, or an element of an array, that is changed
  pub data DerivesTarget : List Terminal → TargetTree → Type 0 where
    a_target : (text : List ℕ) (at : Place) (ts : List Terminal) (subscripts : Trees) → is_keyword text ≡ false → DerivesSubscripts ts subscripts
        → DerivesTarget (word text at ∷ ts) (tree.target text subscripts at)

  -- subscripts in brackets, C11 6.5.2.1
  pub data DerivesSubscripts : List Terminal → Trees → Type 0 where
    no_subscript : DerivesSubscripts [] tree.none
    a_subscript : (opens closes : Place) (ts us : List Terminal) (first : Tree) (rest : Trees) → Derives comma_level ts first → DerivesSubscripts us rest
        → DerivesSubscripts (sign p.LeftBracket opens ∷ (ts ++ sign p.RightBracket closes ∷ us)) (tree.more first rest)

  -- what stands between the parentheses of a call, C11 6.5.2.2
  pub data DerivesArguments : List Terminal → Trees → Type 0 where
    no_argument : DerivesArguments [] tree.none
    arguments : (ts : List Terminal) (args : Trees) → DerivesList ts args → DerivesArguments ts args

  -- one expression or more, with commas between
  pub data DerivesList : List Terminal → Trees → Type 0 where
    last : (ts : List Terminal) (arg : Tree) → Derives assign_level ts arg → DerivesList ts (tree.more arg tree.none)
    and_more : (at : Place) (ts us : List Terminal) (arg : Tree) (args : Trees) → Derives assign_level ts arg → DerivesList us args
        → DerivesList (ts ++ sign p.Comma at ∷ us) (tree.more arg args)

-- an expression, or none
pub data DerivesOptional : ℕ → List Terminal → Option Tree → Type 0 where
  absent : (n : ℕ) → DerivesOptional n [] None
  present : (n : ℕ) (ts : List Terminal) (inner : Tree) → Derives n ts inner → DerivesOptional n ts (Some inner)

-- ---- actions: the expression of a statement and of `for`, C11 6.8.3 and 6.8.5.3

-- a change by its own operator, outside parentheses
pub data DerivesChange : List Terminal → ActionTree → Type 0 where
  assigned : (punct : Punct) (op : Option Binary) (at : Place) (ts vs : List Terminal) (target : TargetTree) (value : Tree) → assignment_of punct ≡ Some op
      → DerivesTarget ts target → Derives assign_level vs value → DerivesChange (ts ++ sign punct at ∷ vs) (tree.assignment target op value at)
  bumped_behind : (punct : Punct) (up : Bool) (at : Place) (ts : List Terminal) (target : TargetTree) → bump_of punct ≡ Some up → DerivesTarget ts target
      → DerivesChange (ts ++ sign punct at ∷ []) (tree.bumping target up at)
  bumped_before : (punct : Punct) (up : Bool) (at : Place) (ts : List Terminal) (target : TargetTree) → bump_of punct ≡ Some up → DerivesTarget ts target
      → DerivesChange (sign punct at ∷ ts) (tree.bumping target up at)

-- what is both a change and an expression counts as a change
pub data DerivesAction : List Terminal → ActionTree → Type 0 where
  a_change : (ts : List Terminal) (action : ActionTree) → DerivesChange ts action → DerivesAction ts action
  a_value : (ts : List Terminal) (value : Tree) → ((action : ActionTree) → DerivesChange ts action → ⊥) → Derives choice_level ts value
      → DerivesAction ts (tree.evaluation value)

-- one action or more, with commas between
pub data DerivesActionList : List Terminal → List ActionTree → Type 0 where
  last_action : (ts : List Terminal) (action : ActionTree) → DerivesAction ts action → DerivesActionList ts (action ∷ [])
  more_actions : (at : Place) (ts us : List Terminal) (action : ActionTree) (rest : List ActionTree) → DerivesAction ts action → DerivesActionList us rest
      → DerivesActionList (ts ++ sign p.Comma at ∷ us) (action ∷ rest)

pub data DerivesActions : List Terminal → List ActionTree → Type 0 where
  no_action : DerivesActions [] []
  actions : (ts : List Terminal) (all : List ActionTree) → DerivesActionList ts all → DerivesActions ts all

-- ---- objects, C11 6.7.6 and 6.7.9

mutual
  pub data DerivesInit : List Terminal → InitTree → Type 0 where
    a_single : (ts : List Terminal) (value : Tree) → Derives assign_level ts value → DerivesInit ts (tree.single value)
    a_braced : (at closes : Place) (ts : List Terminal) (items : InitTrees) → DerivesInits ts items
        → DerivesInit (sign p.LeftBrace at ∷ (ts ++ sign p.RightBrace closes ∷ [])) (tree.braced items at)

  -- one initialiser or more, with commas between, and maybe one behind
  pub data DerivesInits : List Terminal → InitTrees → Type 0 where
    last_init : (ts : List Terminal) (init : InitTree) → DerivesInit ts init → DerivesInits ts (tree.more_inits init tree.no_init)
    last_init_comma : (at : Place) (ts : List Terminal) (init : InitTree) → DerivesInit ts init → DerivesInits (ts ++ sign p.Comma at ∷ []) (tree.more_inits init tree.no_init)
    another_init : (at : Place) (ts us : List Terminal) (init : InitTree) (inits : InitTrees) → DerivesInit ts init → DerivesInits us inits
        → DerivesInits (ts ++ sign p.Comma at ∷ us) (tree.more_inits init inits)

pub data DerivesInitialiser : List Terminal → Option InitTree → Type 0 where
  no_initialiser : DerivesInitialiser [] None
  an_initialiser : (at : Place) (ts : List Terminal) (init : InitTree) → DerivesInit ts init → DerivesInitialiser (sign p.Equal at ∷ ts) (Some init)

-- the lengths of an array, each in brackets
pub data DerivesLengths : List Terminal → List (Option Tree) → Type 0 where
  no_length : DerivesLengths [] []
  a_length : (opens closes : Place) (ts us : List Terminal) (length : Option Tree) (lengths : List (Option Tree)) → DerivesOptional choice_level ts length → DerivesLengths us lengths
      → DerivesLengths (sign p.LeftBracket opens ∷ (ts ++ sign p.RightBracket closes ∷ us)) (length ∷ lengths)

-- an object of this type
pub data DerivesObject : CType → Bool → List Terminal → ObjectTree → Type 0 where
  an_object : (kind : CType) (constant : Bool) (text : List ℕ) (at : Place) (ts us : List Terminal) (lengths : List (Option Tree)) (init : Option InitTree)
      → is_keyword text ≡ false → DerivesLengths ts lengths → DerivesInitialiser us init
      → DerivesObject kind constant (word text at ∷ (ts ++ us))
      (record { name = text; at = at; kind = kind; constant = constant; lengths = lengths; init = init })

-- one object or more, with commas between
pub data DerivesObjects : CType → Bool → List Terminal → List ObjectTree → Type 0 where
  last_object : (kind : CType) (constant : Bool) (ts : List Terminal) (object : ObjectTree) → DerivesObject kind constant ts object
      → DerivesObjects kind constant ts (object ∷ [])
  more_objects : (kind : CType) (constant : Bool) (at : Place) (ts us : List Terminal) (object : ObjectTree) (rest : List ObjectTree) → DerivesObject kind constant ts object
      → DerivesObjects kind constant us rest → DerivesObjects kind constant (ts ++ sign p.Comma at ∷ us) (object ∷ rest)

-- a type and its objects, C11 6.7
pub data DerivesDeclaration : List Terminal → List ObjectTree → Type 0 where
  a_declaration : (kind : CType) (constant : Bool) (ks ts : List Terminal) (objects : List ObjectTree) (ends : Place) → DerivesKind ks (Some kind) constant
      → DerivesObjects kind constant ts objects → DerivesDeclaration (ks ++ (ts ++ sign p.Semicolon ends ∷ [])) objects

-- ---- statements, C11 6.8

-- The statement ends with an `if` that has no `else`, so that an `else` behind it would be that one's, C11 6.8.4.1 paragraph 3.
abbrev mutual
  pub ends_open : StmtTree → Bool
  ends_open (tree.if_ test body other at) = else_open other
  ends_open (tree.case_ value body at) = ends_open body
  ends_open (tree.while_ test body at) = ends_open body
  ends_open (tree.for_ init test step body at) = ends_open body
  ends_open _ = false

  pub else_open : ElseTree → Bool
  else_open tree.no_else = true
  else_open (tree.else_ at body) = ends_open body

abbrev pub keyword : List ℕ → Place → Terminal
keyword = word

mutual
  pub data DerivesStatement : List Terminal → StmtTree → Type 0 where
    -- C11 6.8.2, 6.8.3
    a_block : (ts : List Terminal) (body : StmtTrees) → DerivesBlock ts body → DerivesStatement ts (tree.block body)
    an_act : (ends : Place) (ts : List Terminal) (all : List ActionTree) → DerivesActions ts all → DerivesStatement (ts ++ sign p.Semicolon ends ∷ []) (tree.act all)
    -- C11 6.8.4
    an_if : (at opens closes : Place) (ts ys : List Terminal) (test : Tree) (body : StmtTree) → Derives comma_level ts test → DerivesStatement ys body
        → DerivesStatement (keyword (codes "if") at ∷ sign p.LeftParen opens ∷ (ts ++ sign p.RightParen closes ∷ ys)) (tree.if_ test body tree.no_else at)
    an_if_else : (at opens closes other : Place) (ts ys ns : List Terminal) (test : Tree) (body second : StmtTree) → Derives comma_level ts test → DerivesStatement ys body
        → ends_open body ≡ false → DerivesStatement ns second
        → DerivesStatement (keyword (codes "if") at ∷ sign p.LeftParen opens ∷ (ts ++ sign p.RightParen closes ∷ (ys ++ keyword (codes "else") other ∷ ns)))
        (tree.if_ test body (tree.else_ other second) at)
    a_switch : (at opens closes : Place) (ts us : List Terminal) (test : Tree) (body : StmtTrees) → Derives comma_level ts test → DerivesBlock us body
        → DerivesStatement (keyword (codes "switch") at ∷ sign p.LeftParen opens ∷ (ts ++ sign p.RightParen closes ∷ us)) (tree.switch_ test body at)
    -- C11 6.8.1
    a_case : (at colon : Place) (ts us : List Terminal) (value : Tree) (body : StmtTree) → Derives choice_level ts value → DerivesStatement us body
        → DerivesStatement (keyword (codes "case") at ∷ (ts ++ sign p.Colon colon ∷ us)) (tree.case_ (Some value) body at)
    a_default : (at colon : Place) (us : List Terminal) (body : StmtTree) → DerivesStatement us body
        → DerivesStatement (keyword (codes "default") at ∷ sign p.Colon colon ∷ us) (tree.case_ None body at)
    -- C11 6.8.5
    a_while : (at opens closes : Place) (ts us : List Terminal) (test : Tree) (body : StmtTree) → Derives comma_level ts test → DerivesStatement us body
        → DerivesStatement (keyword (codes "while") at ∷ sign p.LeftParen opens ∷ (ts ++ sign p.RightParen closes ∷ us)) (tree.while_ test body at)
    a_do : (at again opens closes ends : Place) (us ts : List Terminal) (body : StmtTree) (test : Tree) → DerivesStatement us body → Derives comma_level ts test
        → DerivesStatement (keyword (codes "do") at ∷ (us ++ keyword (codes "while") again ∷ sign p.LeftParen opens ∷ (ts ++ sign p.RightParen closes ∷ sign p.Semicolon ends ∷ [])))
        (tree.do_ body test at)
    a_for : (at opens ends closes : Place) (is ts ss us : List Terminal) (init : FirstTree) (test : Option Tree) (step : List ActionTree) (body : StmtTree) → DerivesFirst is init
        → DerivesOptional comma_level ts test → DerivesActions ss step → DerivesStatement us body
        → DerivesStatement (keyword (codes "for") at ∷ sign p.LeftParen opens ∷ ((is ++ (ts ++ sign p.Semicolon ends ∷ ss)) ++ sign p.RightParen closes ∷ us))
        (tree.for_ init test step body at)
    -- C11 6.8.6
    a_break : (at ends : Place) → DerivesStatement (keyword (codes "break") at ∷ sign p.Semicolon ends ∷ []) (tree.break_ at)
    a_continue : (at ends : Place) → DerivesStatement (keyword (codes "continue") at ∷ sign p.Semicolon ends ∷ []) (tree.continue_ at)
    a_return : (at ends : Place) (ts : List Terminal) (value : Option Tree) → DerivesOptional comma_level ts value
        → DerivesStatement (keyword (codes "return") at ∷ (ts ++ sign p.Semicolon ends ∷ [])) (tree.return_ value at)

  -- the first part of a `for`, with its semicolon
  pub data DerivesFirst : List Terminal → FirstTree → Type 0 where
    nothing_first : (ends : Place) → DerivesFirst (sign p.Semicolon ends ∷ []) tree.no_first
    actions_first : (ends : Place) (ts : List Terminal) (all : List ActionTree) → DerivesActionList ts all
        → DerivesFirst (ts ++ sign p.Semicolon ends ∷ []) (tree.first (tree.act all))
    objects_first : (ts : List Terminal) (all : List ObjectTree) → DerivesDeclaration ts all → DerivesFirst ts (tree.first (tree.declare all))

  pub data DerivesBlock : List Terminal → StmtTrees → Type 0 where
    braces : (opens closes : Place) (ts : List Terminal) (body : StmtTrees) → DerivesBody ts body
        → DerivesBlock (sign p.LeftBrace opens ∷ (ts ++ sign p.RightBrace closes ∷ [])) body

  -- statements and declarations
  pub data DerivesBody : List Terminal → StmtTrees → Type 0 where
    nothing : DerivesBody [] tree.no_stmt
    a_statement : (ts us : List Terminal) (stmt : StmtTree) (rest : StmtTrees) → DerivesStatement ts stmt → DerivesBody us rest
        → DerivesBody (ts ++ us) (tree.more_stmts stmt rest)
    local_objects : (ts us : List Terminal) (all : List ObjectTree) (rest : StmtTrees) → DerivesDeclaration ts all → DerivesBody us rest
        → DerivesBody (ts ++ us) (tree.more_stmts (tree.declare all) rest)

-- ---- functions and programs, C11 6.7.6.3 and 6.9

-- A parameter. One without a name stands at the first token of its type.
pub data DerivesParam : List Terminal → ParamTree → Type 0 where
  named_param : (kind : CType) (constant : Bool) (ks ls : List Terminal) (text : List ℕ) (at : Place) (lengths : List (Option Tree)) → DerivesKind ks (Some kind) constant
      → is_keyword text ≡ false → DerivesLengths ls lengths
      → DerivesParam (ks ++ word text at ∷ ls)
      (record { object = record { name = text; at = at; kind = kind; constant = constant; lengths = lengths; init = None }; named = true })
  unnamed_param : (kind : CType) (constant : Bool) (t : Terminal) (ks ls : List Terminal) (lengths : List (Option Tree)) → DerivesKind (t ∷ ks) (Some kind) constant
      → DerivesLengths ls lengths
      → DerivesParam (t ∷ (ks ++ ls))
      (record { object = record { name = []; at = t.at; kind = kind; constant = constant; lengths = lengths; init = None }; named = false })

-- one parameter or more, with commas between
pub data DerivesParamList : List Terminal → List ParamTree → Type 0 where
  last_param : (ts : List Terminal) (param : ParamTree) → DerivesParam ts param → DerivesParamList ts (param ∷ [])
  more_params : (at : Place) (ts us : List Terminal) (param : ParamTree) (rest : List ParamTree) → DerivesParam ts param → DerivesParamList us rest
      → DerivesParamList (ts ++ sign p.Comma at ∷ us) (param ∷ rest)

pub data DerivesParams : List Terminal → List ParamTree → Type 0 where
  no_param : DerivesParams [] []
  void_alone : (at : Place) → DerivesParams (keyword (codes "void") at ∷ []) []
  params : (ts : List Terminal) (all : List ParamTree) → DerivesParamList ts all → DerivesParams ts all

-- a declaration ends with `;`, a definition has its body
pub data DerivesDefinition : List Terminal → Option StmtTrees → Type 0 where
  declared_only : (ends : Place) → DerivesDefinition (sign p.Semicolon ends ∷ []) None
  defined : (ts : List Terminal) (body : StmtTrees) → DerivesBlock ts body → DerivesDefinition ts (Some body)

pub data DerivesItem : List Terminal → ItemTree → Type 0 where
  -- `static` and `inline` change nothing, C11 6.7.1 and 6.7.4
  a_static : (at : Place) (ts : List Terminal) (item : ItemTree) → DerivesItem ts item → DerivesItem (keyword (codes "static") at ∷ ts) item
  an_inline : (at : Place) (ts : List Terminal) (item : ItemTree) → DerivesItem ts item → DerivesItem (keyword (codes "inline") at ∷ ts) item
  some_objects : (ts : List Terminal) (all : List ObjectTree) → DerivesDeclaration ts all → DerivesItem ts (tree.objects all)
  a_function : (result : Option CType) (constant : Bool) (ks ps bs : List Terminal) (text : List ℕ) (at opens closes : Place) (all : List ParamTree) (body : Option StmtTrees)
      → DerivesKind ks result constant → is_keyword text ≡ false → DerivesParams ps all → DerivesDefinition bs body
      → DerivesItem (ks ++ word text at ∷ sign p.LeftParen opens ∷ (ps ++ sign p.RightParen closes ∷ bs))
      (tree.function (record { name = text; at = at; result = result; params = all; body = body }))

pub data DerivesItems : List Terminal → List ItemTree → Type 0 where
  no_item : DerivesItems [] []
  more_items : (ts us : List Terminal) (item : ItemTree) (rest : List ItemTree) → DerivesItem ts item → DerivesItems us rest → DerivesItems (ts ++ us) (item ∷ rest)

-- the tokens, and then the end of the source, are the program
abbrev pub DerivesProgram : List Terminal → Place → ProgramTree → Type 0
DerivesProgram ts end program = DerivesItems ts program.items × (program.end ≡ end)
