-- The pieces of an expression, as the parser reads them.
use Rattle.std.specs.Prelude.{◌≡◌, ℕ, Bool, true, false, List, [], ◌∷◌, Option, Some, None}
use Rattle.hls_base.specs.declared.place.Place.{Place}
use Rattle.c_token.specs.declared.punct.Punct.TheVariants as p
use Rattle.c_tree.specs.Tree as tree
use Rattle.c_tree.specs.Tree.{Tree, TargetTree, Trees, row}
use Rattle.c_tree.specs.Terminals.{Terminal, sign}
use Rattle.c_tree.specs.Grammar.{comma_level, choice_level, unary_level, Derives, DerivesTarget, DerivesSubscripts, DerivesArguments}
use Rattle.c_parser.specs.Cursor.Readings.{Reads, Sequence, Closed, Sign, snd}
use Rattle.c_parser.specs.Cursor.Types.{AValueKind}
use Rattle.c_parser.specs.declared.cursor.joiner.Joiner.{Joiner}
use Rattle.c_parser.specs.declared.cursor.joiner.Joiner.TheVariants as j

abbrev pub Expression : ℕ → List Terminal → Tree → List Terminal → Type 0
Expression n = Reads (Derives n)

-- ---- the operators that group to the left

abbrev pub joined : Joiner → Tree → Tree → Place → Tree
joined (j.Binary op) left right at = tree.binary op left right at
joined j.Comma left right at = tree.comma left right at

-- ---- targets

-- a name alone, or with subscripts
abbrev pub element : List ℕ → List Tree → Place → Tree
element text [] at = tree.name text at
element text (first ∷ rest) at = tree.index text (tree.more first (row rest)) at

abbrev pub target_in : Tree → Option TargetTree
target_in (tree.name text at) = Some (tree.target text tree.none at)
target_in (tree.index text subscripts at) = Some (tree.target text subscripts at)
target_in _ = None

-- the target that an expression is, which does not stand in parentheses
abbrev pub bare_target : Bool → Tree → Option TargetTree
bare_target true e = None
bare_target false e = target_in e

abbrev pub Lvalue : List Terminal → TargetTree → List Terminal → Type 0
Lvalue = Reads DerivesTarget

-- ---- what stands behind a name

abbrev pub DerivesSubscriptList : List Terminal → List Tree → Type 0
DerivesSubscriptList ts es = DerivesSubscripts ts (row es)

abbrev pub Subscripts : List Terminal → List Tree → List Terminal → Type 0
Subscripts = Reads DerivesSubscriptList

abbrev pub DerivesArgumentList : List Terminal → List Tree → Type 0
DerivesArgumentList ts es = DerivesArguments ts (row es)

-- what stands between the parentheses of a call, and the closing one
abbrev pub Arguments : List Terminal → List Tree → List Terminal → Type 0
Arguments = Closed (Reads DerivesArgumentList) p.RightParen

pub data Named (text : List ℕ) (at : Place) : List Terminal → Tree → List Terminal → Type 0 where
  called : (tokens : List Terminal) (opens : Place) (inside : List Terminal) (args : List Tree) (rest : List Terminal) → tokens ≡ sign p.LeftParen opens ∷ inside → Arguments inside args rest
      → Named text at tokens (tree.call text (row args) at) rest
  alone : (tokens : List Terminal) (subscripts : List Tree) (rest : List Terminal) → Subscripts tokens subscripts rest → Named text at tokens (element text subscripts at) rest

-- the other operands of `?:` behind its sign
abbrev pub Chosen : Tree → Place → List Terminal → Tree → List Terminal → Type 0
Chosen test at = Sequence (Expression comma_level) (λ yes. Sequence (Sign p.Colon) (λ colon. Expression choice_level) (λ colon other. tree.choice test yes other at colon)) snd

-- a cast behind its parenthesis
abbrev pub Cast : Place → List Terminal → Tree → List Terminal → Type 0
Cast at = Sequence (Closed AValueKind p.RightParen) (λ kind. Expression unary_level) (λ kind arg. tree.cast kind.kind arg at)
