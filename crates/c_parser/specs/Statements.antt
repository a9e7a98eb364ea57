-- The pieces of statements, as the parser reads them.
use Rattle.std.specs.Prelude.{◌≡◌, Bool, true, false, List, [], ◌∷◌, codes, bytes_eq, Option, Some, None, map}
use Rattle.hls_base.specs.declared.place.Place.{Place}
use Rattle.c_token.specs.declared.punct.Punct.TheVariants as p
use Rattle.c_token.specs.declared.token.TokenKind.{TokenKind}
use Rattle.c_token.specs.declared.token.TokenKind.TheVariants as k
use Rattle.c_tree.specs.Tree as tree
use Rattle.c_tree.specs.Tree.{Tree, ActionTree, ObjectTree, StmtTree, FirstTree, stmt_row}
use Rattle.c_tree.specs.Terminals.{Terminal, sign, word}
use Rattle.c_tree.specs.Grammar.{DerivesStatement, DerivesFirst, DerivesBlock, ends_open}
use Rattle.c_parser.specs.Cursor.Readings.{Reads, Sequence, Closed, Sign, Word, Repeated, fst, snd}
use Rattle.c_parser.specs.Expressions.{Expression}
use Rattle.c_parser.specs.Objects.{OptionalExpression, ADeclaration, ActionsUpTo}
use Rattle.std.specs.Option.{option_map}
use Rattle.c_tree.specs.View.{tree_of, action_of, stmt_of, first_part}
use Rattle.c_parser.specs.declared.statement.Head.{Head}
use Rattle.c_parser.specs.declared.cursor.keyword.Keyword.{Keyword}
use Rattle.c_parser.specs.declared.cursor.keyword.Keyword.TheVariants as w

abbrev pub Statement : List Terminal → StmtTree → List Terminal → Type 0
Statement = Reads DerivesStatement

abbrev pub else_kind : TokenKind → Bool
else_kind (k.Word text) = bytes_eq text (codes "else")
else_kind _ = false

abbrev pub begins_else : List Terminal → Bool
begins_else [] = false
begins_else (t ∷ ts) = else_kind t.kind

-- no `else` follows that would be the statement's own
abbrev pub ElseFits : StmtTree → List Terminal → Type 0
ElseFits stmt rest = begins_else rest ≡ true → ends_open stmt ≡ false

abbrev pub DerivesBlockRow : List Terminal → List StmtTree → Type 0
DerivesBlockRow ts body = DerivesBlock ts (stmt_row body)

abbrev pub Block : List Terminal → List StmtTree → List Terminal → Type 0
Block = Reads DerivesBlockRow

-- a statement or a declaration in a block
pub data Local (tokens : List Terminal) (stmt : StmtTree) (rest : List Terminal) : Type 0 where
  a_statement : Statement tokens stmt rest → Local tokens stmt rest
  objects : (all : List ObjectTree) → ADeclaration tokens all rest → stmt ≡ tree.declare all → Local tokens stmt rest

abbrev pub ClosesBlock : List Terminal → List Terminal → Type 0
ClosesBlock tokens rest = (at : Place) × (tokens ≡ sign p.RightBrace at ∷ rest)

-- what stands between the braces of a block, and the closing one
abbrev pub BodyUpTo : List Terminal → List StmtTree → List Terminal → Type 0
BodyUpTo = Repeated Local ClosesBlock

abbrev pub First : List Terminal → FirstTree → List Terminal → Type 0
First = Reads DerivesFirst

-- an expression in parentheses
abbrev pub Condition : List Terminal → Tree → List Terminal → Type 0
Condition = Sequence (Sign p.LeftParen) (λ opens. Closed (Expression 15) p.RightParen) snd

-- the branches of an `if`
pub data Branches (test : Tree) (at : Place) : List Terminal → StmtTree → List Terminal → Type 0 where
  one : (tokens : List Terminal) (body : StmtTree) (rest : List Terminal) → Statement tokens body rest → Branches test at tokens (tree.if_ test body tree.no_else at) rest
  two : (tokens : List Terminal) (body : StmtTree) (middle : List Terminal) (other : Place) (inside : List Terminal) (second : StmtTree) (rest : List Terminal) → Statement tokens body middle
      → middle ≡ word (codes "else") other ∷ inside → ends_open body ≡ false → Statement inside second rest → Branches test at tokens (tree.if_ test body (tree.else_ other second) at) rest

-- behind the body of a `do`
abbrev pub DoTail : List Terminal → Tree → List Terminal → Type 0
DoTail = Sequence (Word (codes "while")) (λ again. Sequence Condition (λ test. Sign p.Semicolon) fst) snd

-- the three parts of a `for`
abbrev pub ForParts : Type 0
ForParts = FirstTree × Option Tree × List ActionTree

-- the parts of a `for` in their parentheses
abbrev pub ForHead : List Terminal → ForParts → List Terminal → Type 0
ForHead = Sequence (Sign p.LeftParen)
    (λ opens. Sequence First (λ init. Sequence (Closed (OptionalExpression 15) p.Semicolon) (λ test. ActionsUpTo p.RightParen) (λ test step. (init, test, step))) snd) snd

abbrev pub head_of : Head → ForParts
head_of head = (first_part (option_map stmt_of head.init), option_map tree_of head.test, map action_of head.step.items)

-- the semicolon behind a keyword
abbrev pub Ended : StmtTree → List Terminal → StmtTree → List Terminal → Type 0
Ended whole tokens stmt rest = (ends : Place) × (tokens ≡ sign p.Semicolon ends ∷ rest) × (stmt ≡ whole)

abbrev pub Returned : Place → List Terminal → StmtTree → List Terminal → Type 0
Returned at tokens stmt rest = (value : Option Tree) × Closed (OptionalExpression 15) p.Semicolon tokens value rest × (stmt ≡ tree.return_ value at)

-- what stands behind the keyword of a statement
abbrev pub Behind : Keyword → Place → List Terminal → StmtTree → List Terminal → Type 0
Behind w.If at = Sequence Condition (λ test. Branches test at) snd
Behind w.Switch at = Sequence Condition (λ test. Block) (λ test body. tree.switch_ test (stmt_row body) at)
Behind w.Case at = Sequence (Closed (Expression 13) p.Colon) (λ value. Statement) (λ value body. tree.case_ (Some value) body at)
Behind w.Default at = Sequence (Sign p.Colon) (λ colon. Statement) (λ colon body. tree.case_ None body at)
Behind w.While at = Sequence Condition (λ test. Statement) (λ test body. tree.while_ test body at)
Behind w.Do at = Sequence Statement (λ body. DoTail) (λ body test. tree.do_ body test at)
Behind w.For at = Sequence ForHead (λ head. Statement) (λ head body. tree.for_ head.0 head.1 head.2 body at)
Behind w.Break at = Ended (tree.break_ at)
Behind w.Continue at = Ended (tree.continue_ at)
Behind w.Return at = Returned at
