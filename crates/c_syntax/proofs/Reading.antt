-- What each goal reads: the tokens that may stand for it, behind what was read before.
use Rattle.std.proofs.Common.{◌≡◌, ℕ, Bool, true, false, List, [], ◌∷◌, ◌++◌, codes, Option, Some}
use Rattle.hls_base.specs.declared.place.Place.{Place}
use Rattle.c_token.specs.declared.ctype.CType.{CType}
use Rattle.c_token.specs.declared.punct.Punct.{Punct}
use Rattle.c_token.specs.declared.punct.Punct.TheVariants as p
use Rattle.c_token.specs.declared.token.TokenKind.TheVariants as k
use Rattle.c_tree.specs.declared.specifier.Specifier.{Specifier}
use Rattle.c_tree.specs.Terminals.{Terminal, terminal, sign, word, is_keyword, bump_of}
use Rattle.c_tree.specs.Kinds.{DerivesWords, DerivesKind}
use Rattle.c_tree.specs.Tree.{Tree, Trees, InitTree, InitTrees, ObjectTree, StmtTrees, FirstTree, ParamTree, ItemTree, ActionTree}
use Rattle.c_tree.specs.Grammar.{DerivesSubscripts, DerivesArguments, DerivesList, DerivesOptional, DerivesActionList, DerivesActions, DerivesInit, DerivesInits, DerivesInitialiser, DerivesLengths, DerivesObject, DerivesObjects, DerivesDeclaration, DerivesFirst, DerivesBlock, DerivesBody, DerivesParam, DerivesParamList, DerivesParams, DerivesDefinition, DerivesItem, DerivesItems, unary_level, binary_level, choice_level, assign_level, comma_level}
use Rattle.c_syntax.specs.declared.steps.goal.Goal.{Goal}
use Rattle.c_syntax.specs.declared.steps.goal.Goal.TheVariants as G
use Rattle.c_syntax.specs.declared.sorts.words.Words.{Words}
use Rattle.c_syntax.specs.declared.sorts.words.Words.TheVariants as w
use Rattle.c_syntax.proofs.TypeWords.{Same, words_of, is_state}
use Rattle.c_syntax.proofs.Attach.{Is, IsTarget, IsStatement}
use Rattle.c_syntax.proofs.Outlines.{IsAction}

-- ---- one token

pub data IsSign (punct : Punct) : List Terminal → Type 0 where
  the_sign : (at : Place) → IsSign punct (sign punct at ∷ [])

pub data IsKeyword (text : List ℕ) : List Terminal → Type 0 where
  the_keyword : (at : Place) → IsKeyword text (word text at ∷ [])

pub data IsOptionalName : List Terminal → Type 0 where
  no_name : IsOptionalName []
  a_name : (text : List ℕ) (at : Place) → is_keyword text ≡ false → IsOptionalName (word text at ∷ [])

pub data IsElse : List Terminal → Type 0 where
  no_else : IsElse []
  an_else : (at : Place) (ts : List Terminal) → IsStatement ts → IsElse (word (codes "else") at ∷ ts)

pub data IsChoiceColon : List Terminal → Type 0 where
  a_colon : (at : Place) (ts : List Terminal) → Is choice_level ts → IsChoiceColon (sign p.Colon at ∷ ts)

pub data IsMoreBody : List Terminal → Type 0 where
  body_end : (ts : List Terminal) (body : StmtTrees) (at : Place) → DerivesBody ts body → IsMoreBody (ts ++ sign p.RightBrace at ∷ [])

-- ---- types

-- some type, that of a value or any
abbrev pub IsKind : List Terminal → Type 0
IsKind ts = (kind : CType) × (constant : Bool) × DerivesKind ts (Some kind) constant

abbrev pub IsResult : List Terminal → Type 0
IsResult ts = (result : Option CType) × (constant : Bool) × DerivesKind ts result constant

-- the words that a state stands for were read
pub record HasWords (words : Words) (ts : List Terminal) : Type 0 where
  pub state : is_state words ≡ true
  pub all : List Specifier
  pub constant : Bool
  pub derives : DerivesWords ts all constant
  pub same : Same all (words_of words)

-- a name of `stdint.h`, and any `const`
pub record HasName (ts : List Terminal) : Type 0 where
  pub before : List Terminal
  pub behind : List Terminal
  pub kind : CType
  pub at : Place
  pub const_before : Bool
  pub const_behind : Bool
  pub shape : ts ≡ before ++ terminal (k.TypeWord kind) at ∷ behind
  pub derives_before : DerivesWords before [] const_before
  pub derives_behind : DerivesWords behind [] const_behind

abbrev pub HasRead : Words → List Terminal → Type 0
HasRead w.Named ts = HasName ts
HasRead words ts = HasWords words ts

-- what the words are once they are all read
abbrev pub IsType : Words → List Terminal → Type 0
IsType w.Void ts = IsResult ts
IsType words ts = IsKind ts

abbrev pub AreConst : List Terminal → Type 0
AreConst ts = (constant : Bool) × DerivesWords ts [] constant

-- ---- each goal

abbrev pub IsObject : CType → Bool → List Terminal → Type 0
IsObject kind constant ts = (object : ObjectTree) × DerivesObject kind constant ts object

abbrev pub AreObjects : CType → Bool → List Terminal → Type 0
AreObjects kind constant ts = (objects : List ObjectTree) × DerivesObjects kind constant ts objects

abbrev pub IsDeclaration : List Terminal → Type 0
IsDeclaration ts = (objects : List ObjectTree) × DerivesDeclaration ts objects

abbrev pub IsInit : List Terminal → Type 0
IsInit ts = (init : InitTree) × DerivesInit ts init

abbrev pub AreInits : List Terminal → Type 0
AreInits ts = (inits : InitTrees) × DerivesInits ts inits

abbrev pub AreLengths : List Terminal → Type 0
AreLengths ts = (lengths : List (Option Tree)) × DerivesLengths ts lengths

abbrev pub IsInitialiser : List Terminal → Type 0
IsInitialiser ts = (init : Option InitTree) × DerivesInitialiser ts init

abbrev pub IsOptional : ℕ → List Terminal → Type 0
IsOptional n ts = (e : Option Tree) × DerivesOptional n ts e

abbrev pub IsList : List Terminal → Type 0
IsList ts = (args : Trees) × DerivesList ts args

abbrev pub AreArguments : List Terminal → Type 0
AreArguments ts = (args : Trees) × DerivesArguments ts args

abbrev pub AreSubscripts : List Terminal → Type 0
AreSubscripts ts = (es : Trees) × DerivesSubscripts ts es

abbrev pub IsActionList : List Terminal → Type 0
IsActionList ts = (all : List ActionTree) × DerivesActionList ts all

abbrev pub AreActions : List Terminal → Type 0
AreActions ts = (all : List ActionTree) × DerivesActions ts all

abbrev pub IsBlock : List Terminal → Type 0
IsBlock ts = (body : StmtTrees) × DerivesBlock ts body

abbrev pub IsFirst : List Terminal → Type 0
IsFirst ts = (first : FirstTree) × DerivesFirst ts first

abbrev pub IsParam : List Terminal → Type 0
IsParam ts = (param : ParamTree) × DerivesParam ts param

abbrev pub IsParamList : List Terminal → Type 0
IsParamList ts = (all : List ParamTree) × DerivesParamList ts all

abbrev pub AreParams : List Terminal → Type 0
AreParams ts = (all : List ParamTree) × DerivesParams ts all

abbrev pub IsDefinition : List Terminal → Type 0
IsDefinition ts = (body : Option StmtTrees) × DerivesDefinition ts body

abbrev pub IsItem : List Terminal → Type 0
IsItem ts = (item : ItemTree) × DerivesItem ts item

abbrev pub AreItems : List Terminal → Type 0
AreItems ts = (items : List ItemTree) × DerivesItems ts items

-- An action, or an expression, begins with what was read.
abbrev pub Wanted : Bool → List Terminal → Type 0
Wanted true ts = IsAction ts
Wanted false ts = Is assign_level ts

abbrev pub BehindName : (List Terminal → Type 0) → List Terminal → Type 0
BehindName P ts = (text : List ℕ) (at : Place) → is_keyword text ≡ false → P (word text at ∷ ts)

abbrev pub BehindTarget : (List Terminal → Type 0) → List Terminal → Type 0
BehindTarget P ts = (us : List Terminal) → IsTarget us → P (us ++ ts)

abbrev pub Behind : (List Terminal → Type 0) → (List Terminal → Type 0) → List Terminal → Type 0
Behind P Q ts = (us : List Terminal) → P us → Q (us ++ ts)

abbrev pub BehindBump : (List Terminal → Type 0) → List Terminal → Type 0
BehindBump P ts = (punct : Punct) (up : Bool) (at : Place) → bump_of punct ≡ Some up → P (sign punct at ∷ ts)

abbrev pub Reads : Goal → List Terminal → Type 0
Reads (G.Operand depth) ts = Is unary_level ts
Reads (G.Target depth) ts = IsTarget ts
Reads (G.Subscripts depth) ts = AreSubscripts ts
Reads (G.AfterOperand true depth) ts = BehindName (Is unary_level) ts
Reads (G.AfterOperand false depth) ts = BehindTarget (Is unary_level) ts
Reads (G.Group depth) ts = (at : Place) → Is unary_level (sign p.LeftParen at ∷ ts)
Reads (G.Arguments depth) ts = AreArguments ts
Reads (G.MoreArguments depth) ts = Behind (Is assign_level) IsList ts
Reads (G.Expression depth) ts = Is comma_level ts
Reads (G.Assign depth) ts = Is assign_level ts
Reads (G.Choice depth) ts = Is choice_level ts
Reads (G.Commas depth) ts = Behind (Is comma_level) (Is comma_level) ts
Reads (G.AfterTarget true action depth first) ts = BehindName (Wanted action) ts
Reads (G.AfterTarget false action depth first) ts = BehindTarget (Wanted action) ts
Reads (G.Operators depth first) ts = Behind (Is binary_level) (Is choice_level) ts
Reads (G.ChoiceColon depth) ts = IsChoiceColon ts
Reads (G.OptionalChoice depth) ts = IsOptional choice_level ts
Reads (G.OptionalExpression depth) ts = IsOptional comma_level ts
Reads (G.Action depth) ts = IsAction ts
Reads (G.Actions depth) ts = AreActions ts
Reads (G.MoreActions depth) ts = Behind IsAction IsActionList ts
Reads (G.ActionTarget depth first) ts = BehindBump IsAction ts
Reads (G.ActionSubscripts depth first) ts = (us : List Terminal) → IsTarget us → BehindBump IsAction (us ++ ts)
Reads (G.CloseParen depth count) ts = IsSign p.RightParen ts
Reads (G.CloseBracket depth count) ts = IsSign p.RightBracket ts
Reads (G.CloseBrace depth) ts = IsSign p.RightBrace ts
Reads (G.OpenParen depth) ts = IsSign p.LeftParen ts
Reads (G.Semicolon depth) ts = IsSign p.Semicolon ts
Reads (G.LabelColon depth) ts = IsSign p.Colon ts
Reads (G.Kind depth) ts = Behind AreConst IsKind ts
Reads (G.KindWords words depth) ts = Behind (HasRead words) (IsType words) ts
Reads (G.Object depth) ts = (kind : CType) (constant : Bool) → IsObject kind constant ts
Reads (G.MoreObjects depth) ts = (kind : CType) (constant : Bool) → Behind (IsObject kind constant) (AreObjects kind constant) ts
Reads (G.Lengths depth) ts = AreLengths ts
Reads (G.Initialiser depth) ts = IsInitialiser ts
Reads (G.Init depth) ts = IsInit ts
Reads (G.MoreInits depth) ts = Behind IsInit AreInits ts
Reads (G.OptionalInit depth) ts = (us : List Terminal) (at : Place) → IsInit us → AreInits (us ++ sign p.Comma at ∷ ts)
Reads (G.Statement depth) ts = IsStatement ts
Reads (G.Else depth) ts = IsElse ts
Reads (G.Again depth) ts = IsKeyword (codes "while") ts
Reads (G.Block depth) ts = IsBlock ts
Reads (G.Body depth) ts = IsMoreBody ts
Reads (G.First depth) ts = IsFirst ts
Reads G.Params ts = AreParams ts
Reads G.MoreParams ts = Behind IsParam IsParamList ts
Reads (G.OptionalName depth) ts = IsOptionalName ts
Reads G.Items ts = AreItems ts
Reads (G.Item false) ts = IsItem ts
Reads (G.Item true) ts = Behind AreConst IsItem ts
Reads G.FunctionName ts = Behind IsResult IsItem ts
Reads G.Declarator ts = Behind IsKind IsItem ts
Reads G.AfterDeclarator ts = (us : List Terminal) → IsKind us → BehindName (λ vs. IsItem (us ++ vs)) ts
Reads G.Definition ts = IsDefinition ts

-- the goals read the tokens one after another
pub data ReadsAll : List Goal → List Terminal → Type 0 where
  done : ReadsAll [] []
  only : (goal : Goal) (ts : List Terminal) → Reads goal ts → ReadsAll (goal ∷ []) ts
  and : (goal other : Goal) (goals : List Goal) (ts us : List Terminal) → Reads goal ts → ReadsAll (other ∷ goals) us → ReadsAll (goal ∷ other ∷ goals) (ts ++ us)
