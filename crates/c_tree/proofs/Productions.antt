-- The printed tokens of an expression are this expression: each production.
use Rattle.std.proofs.Common.{◌≡◌, ℕ, zero, suc, ◌+◌, ◌-◌, ◌≤◌, ◌∙◌, sym, refl, ap, subst, Bool, true, false, List, [], ◌∷◌, ◌++◌, Option, Some, None, arith}
use Rattle.std.specs.Prelude.{nat_le}
use Rattle.std.proofs.lemmas.Bool.{leb-true}
use Rattle.hls_base.specs.declared.place.Place.{Place}
use Rattle.c_token.specs.declared.ctype.CType.{CType}
use Rattle.c_token.specs.declared.punct.Punct.{Punct}
use Rattle.c_token.specs.declared.punct.Punct.TheVariants as p
use Rattle.c_token.specs.declared.token.TokenKind.TheVariants as k
use Rattle.c_token.specs.SourceText.{is_hash}
use Rattle.c_tree.specs.declared.operator.Unary.{Unary}
use Rattle.c_tree.specs.declared.operator.Unary.TheVariants as u
use Rattle.c_tree.specs.declared.operator.Binary.{Binary}
use Rattle.c_tree.specs.declared.operator.Binary.TheVariants as b
use Rattle.c_tree.specs.Tree as tree
use Rattle.c_tree.specs.Tree.{Tree, TargetTree, Trees}
use Rattle.c_tree.specs.Terminals.{Terminal, terminal, sign, word, is_keyword, prefix_of, operator_of, assignment_of, bump_of}
use Rattle.c_tree.specs.Grammar as g
use Rattle.c_tree.specs.Grammar.{Derives, DerivesTarget, DerivesSubscripts, DerivesArguments, DerivesList, primary_level, postfix_level, unary_level, level_of, binary_level, choice_level, assign_level, comma_level}
use Rattle.c_tree.specs.Places.{unplaced, unplaced_target, unplaced_row}
use Rattle.c_tree.specs.Rows as rows
use Rattle.c_tree.specs.Rows.{Row, prefix_sign, operator_sign, assignment_sign, bump_sign, kind_row, own_level, grouped, infix_row, comma_row, own_row, target_row, subscripts_row, list_row, list_behind, expression_row}
use Rattle.c_tree.proofs.Matching.{IsSpelled}
use Rattle.c_tree.proofs.Again.{split, last_token, spelled_both, Again, Printed}

-- an expression without parentheses around it, and where one of a level may stand
abbrev pub Own : Tree → Type 0
Own e = Printed (Derives (own_level e)) unplaced e (own_row e)

abbrev pub At : ℕ → Tree → Type 0
At level e = Printed (Derives level) unplaced e (expression_row level e)

abbrev pub Target : TargetTree → Type 0
Target t = Printed DerivesTarget unplaced_target t (target_row t)

abbrev pub Subscripts : Trees → Type 0
Subscripts es = Printed DerivesSubscripts unplaced_row es (subscripts_row es)

abbrev pub ArgumentList : Trees → Type 0
ArgumentList es = Printed DerivesList unplaced_row es (list_row es)

-- the same tokens
pub at_tokens : {X : Type 0} {D : List Terminal → X → Type 0} {alone : X → X} {x : X} (ts us : List Terminal) → ts ≡ us → Again D alone x us → Again D alone x ts
at_tokens {X} {D} {alone} {x} ts us e a = subst (Again D alone x) (sym e) a

-- ---- levels

raise : (d m n : ℕ) {ts : List Terminal} {e : Tree} → n ≡ d + m → Derives m ts e → Derives n ts e
raise zero m n {ts} {e} is x = subst (λ l. Derives l ts e) (let same : m ≡ n = omega (arith, is) in same) x
raise (suc d) m n {ts} {e} is x = subst (λ l. Derives l ts e) (let same : suc (d + m) ≡ n = omega (arith, is) in same) (g.a_tighter (d + m) ts e (raise d m (d + m) refl x))

-- an expression stands where a looser one may
pub loosen : (m n : ℕ) {ts : List Terminal} {e : Tree} → m ≤ n → Derives m ts e → Derives n ts e
loosen m n le x = raise (n - m) m n (omega arith) x

pub operator_level : (op : Binary) → (1 ≤ level_of op) × (level_of op ≤ binary_level)
operator_level b.Mul = (omega arith, omega arith)
operator_level b.Div = (omega arith, omega arith)
operator_level b.Rem = (omega arith, omega arith)
operator_level b.Add = (omega arith, omega arith)
operator_level b.Sub = (omega arith, omega arith)
operator_level b.Shl = (omega arith, omega arith)
operator_level b.Shr = (omega arith, omega arith)
operator_level b.Lt = (omega arith, omega arith)
operator_level b.Gt = (omega arith, omega arith)
operator_level b.Le = (omega arith, omega arith)
operator_level b.Ge = (omega arith, omega arith)
operator_level b.Eq = (omega arith, omega arith)
operator_level b.Ne = (omega arith, omega arith)
operator_level b.And = (omega arith, omega arith)
operator_level b.Xor = (omega arith, omega arith)
operator_level b.Or = (omega arith, omega arith)
operator_level b.LogAnd = (omega arith, omega arith)
operator_level b.LogOr = (omega arith, omega arith)

own_level-le : (e : Tree) → own_level e ≤ comma_level
own_level-le (tree.number _ _ _) = omega arith
own_level-le (tree.name _ _) = omega arith
own_level-le (tree.index _ _ _) = omega arith
own_level-le (tree.call _ _ _) = omega arith
own_level-le (tree.unary _ _ _) = omega arith
own_level-le (tree.binary op _ _ _) = let r = operator_level op in omega (arith, r.1)
own_level-le (tree.choice _ _ _ _ _) = omega arith
own_level-le (tree.cast _ _ _) = omega arith
own_level-le (tree.assign _ _ _ _) = omega arith
own_level-le (tree.bump _ _ true _) = omega arith
own_level-le (tree.bump _ _ false _) = omega arith
own_level-le (tree.comma _ _ _) = omega arith

-- in parentheses unless the level fits
pub grouped_at : (level : ℕ) (e : Tree) (fits : Bool) → (fits ≡ true → own_level e ≤ level) → Own e → Printed (Derives level) unplaced e (grouped fits (own_row e))
grouped_at level e true le o = record {
  again = λ ts m. let x = o.again ts m in record { found = x.found; derived = loosen (own_level e) level (le refl) x.derived; same = x.same };
  spelled = o.spelled;
}
grouped_at level e false le o = record {
  again = λ ts m.
      let c = split (own_row e) (rows.sign p.RightParen ∷ []) m.1 m.3 in
      let x = o.again c.before c.first in
      at_tokens ts (sign p.LeftParen m.0 ∷ (c.before ++ sign p.RightParen c.second.0 ∷ []))
      (m.2 ∙ ap (λ us. sign p.LeftParen m.0 ∷ us) (c.is ∙ ap (λ us. c.before ++ us) (last_token (k.Punct p.RightParen) c.behind c.second)))
      (record {
        found = x.found;
        derived = loosen primary_level level (omega arith)
            (g.a_group m.0 c.second.0 c.before x.found (loosen (own_level e) comma_level (own_level-le e) x.derived));
        same = x.same;
      });
  spelled = (refl, spelled_both (own_row e) (rows.sign p.RightParen ∷ []) o.spelled (refl, tt));
}

pub at_level : (level : ℕ) (e : Tree) → Own e → At level e
at_level level e o = grouped_at level e (nat_le (own_level e) level) (leb-true (own_level e) level) o

-- ---- operators

pub prefix-is : (op : Unary) → prefix_of (prefix_sign op) ≡ Some op
prefix-is u.Plus = refl
prefix-is u.Minus = refl
prefix-is u.Not = refl
prefix-is u.LogNot = refl

pub prefix-plain : (op : Unary) → is_hash (k.Punct (prefix_sign op)) ≡ false
prefix-plain u.Plus = refl
prefix-plain u.Minus = refl
prefix-plain u.Not = refl
prefix-plain u.LogNot = refl

pub bump-is : (up : Bool) → bump_of (bump_sign up) ≡ Some up
bump-is true = refl
bump-is false = refl

pub bump-plain : (up : Bool) → is_hash (k.Punct (bump_sign up)) ≡ false
bump-plain true = refl
bump-plain false = refl

pub operator-is : (op : Binary) → operator_of (operator_sign op) ≡ Some op
operator-is b.Mul = refl
operator-is b.Div = refl
operator-is b.Rem = refl
operator-is b.Add = refl
operator-is b.Sub = refl
operator-is b.Shl = refl
operator-is b.Shr = refl
operator-is b.Lt = refl
operator-is b.Gt = refl
operator-is b.Le = refl
operator-is b.Ge = refl
operator-is b.Eq = refl
operator-is b.Ne = refl
operator-is b.And = refl
operator-is b.Xor = refl
operator-is b.Or = refl
operator-is b.LogAnd = refl
operator-is b.LogOr = refl

pub operator-plain : (op : Binary) → is_hash (k.Punct (operator_sign op)) ≡ false
operator-plain b.Mul = refl
operator-plain b.Div = refl
operator-plain b.Rem = refl
operator-plain b.Add = refl
operator-plain b.Sub = refl
operator-plain b.Shl = refl
operator-plain b.Shr = refl
operator-plain b.Lt = refl
operator-plain b.Gt = refl
operator-plain b.Le = refl
operator-plain b.Ge = refl
operator-plain b.Eq = refl
operator-plain b.Ne = refl
operator-plain b.And = refl
operator-plain b.Xor = refl
operator-plain b.Or = refl
operator-plain b.LogAnd = refl
operator-plain b.LogOr = refl

-- an operator with an assignment is written as that assignment
pub assignment-is : (punct : Punct) (op : Option Binary) → assignment_of punct ≡ Some op → assignment_of (assignment_sign op) ≡ Some op
assignment-is p.LeftParen op e = absurd cc
assignment-is p.RightParen op e = absurd cc
assignment-is p.LeftBracket op e = absurd cc
assignment-is p.RightBracket op e = absurd cc
assignment-is p.LeftBrace op e = absurd cc
assignment-is p.RightBrace op e = absurd cc
assignment-is p.Semicolon op e = absurd cc
assignment-is p.Comma op e = absurd cc
assignment-is p.Colon op e = absurd cc
assignment-is p.Question op e = absurd cc
assignment-is p.Tilde op e = absurd cc
assignment-is p.Bang op e = absurd cc
assignment-is p.Plus op e = absurd cc
assignment-is p.Minus op e = absurd cc
assignment-is p.Star op e = absurd cc
assignment-is p.Slash op e = absurd cc
assignment-is p.Percent op e = absurd cc
assignment-is p.Amp op e = absurd cc
assignment-is p.Bar op e = absurd cc
assignment-is p.Caret op e = absurd cc
assignment-is p.Less op e = absurd cc
assignment-is p.Greater op e = absurd cc
assignment-is p.Equal op e = let is : ◌≡◌ {A = Option Binary} None op = cc in subst (λ x. assignment_of (assignment_sign x) ≡ Some x) is refl
assignment-is p.Dot op e = absurd cc
assignment-is p.Ellipsis op e = absurd cc
assignment-is p.Arrow op e = absurd cc
assignment-is p.PlusPlus op e = absurd cc
assignment-is p.MinusMinus op e = absurd cc
assignment-is p.ShiftLeft op e = absurd cc
assignment-is p.ShiftRight op e = absurd cc
assignment-is p.LessEqual op e = absurd cc
assignment-is p.GreaterEqual op e = absurd cc
assignment-is p.EqualEqual op e = absurd cc
assignment-is p.BangEqual op e = absurd cc
assignment-is p.AmpAmp op e = absurd cc
assignment-is p.BarBar op e = absurd cc
assignment-is p.PlusEqual op e = let is : Some b.Add ≡ op = cc in subst (λ x. assignment_of (assignment_sign x) ≡ Some x) is refl
assignment-is p.MinusEqual op e = let is : Some b.Sub ≡ op = cc in subst (λ x. assignment_of (assignment_sign x) ≡ Some x) is refl
assignment-is p.StarEqual op e = let is : Some b.Mul ≡ op = cc in subst (λ x. assignment_of (assignment_sign x) ≡ Some x) is refl
assignment-is p.SlashEqual op e = let is : Some b.Div ≡ op = cc in subst (λ x. assignment_of (assignment_sign x) ≡ Some x) is refl
assignment-is p.PercentEqual op e = let is : Some b.Rem ≡ op = cc in subst (λ x. assignment_of (assignment_sign x) ≡ Some x) is refl
assignment-is p.AmpEqual op e = let is : Some b.And ≡ op = cc in subst (λ x. assignment_of (assignment_sign x) ≡ Some x) is refl
assignment-is p.BarEqual op e = let is : Some b.Or ≡ op = cc in subst (λ x. assignment_of (assignment_sign x) ≡ Some x) is refl
assignment-is p.CaretEqual op e = let is : Some b.Xor ≡ op = cc in subst (λ x. assignment_of (assignment_sign x) ≡ Some x) is refl
assignment-is p.ShiftLeftEqual op e = let is : Some b.Shl ≡ op = cc in subst (λ x. assignment_of (assignment_sign x) ≡ Some x) is refl
assignment-is p.ShiftRightEqual op e = let is : Some b.Shr ≡ op = cc in subst (λ x. assignment_of (assignment_sign x) ≡ Some x) is refl
assignment-is p.HashHash op e = absurd cc
assignment-is p.Hash op e = absurd cc

pub assignment-plain : (op : Option Binary) → is_hash (k.Punct (assignment_sign op)) ≡ false
assignment-plain None = refl
assignment-plain (Some b.Mul) = refl
assignment-plain (Some b.Div) = refl
assignment-plain (Some b.Rem) = refl
assignment-plain (Some b.Add) = refl
assignment-plain (Some b.Sub) = refl
assignment-plain (Some b.Shl) = refl
assignment-plain (Some b.Shr) = refl
assignment-plain (Some b.Lt) = refl
assignment-plain (Some b.Gt) = refl
assignment-plain (Some b.Le) = refl
assignment-plain (Some b.Ge) = refl
assignment-plain (Some b.Eq) = refl
assignment-plain (Some b.Ne) = refl
assignment-plain (Some b.And) = refl
assignment-plain (Some b.Xor) = refl
assignment-plain (Some b.Or) = refl
assignment-plain (Some b.LogAnd) = refl
assignment-plain (Some b.LogOr) = refl

-- ---- primary expressions

pub printed_number : (value : ℕ) (kind : CType) (at : Place) → IsSpelled (k.Number value kind) → Own (tree.number value kind at)
printed_number value kind at s = record {
  again = λ ts m.
      at_tokens ts (terminal (k.Number value kind) m.0 ∷ []) (last_token (k.Number value kind) ts m)
      (record { found = tree.number value kind m.0; derived = g.a_number value kind m.0; same = refl });
  spelled = (s, tt);
}

pub printed_name : (text : List ℕ) (at : Place) → is_keyword text ≡ false → IsSpelled (k.Word text) → Own (tree.name text at)
printed_name text at plain s = record {
  again = λ ts m. at_tokens ts (word text m.0 ∷ []) (last_token (k.Word text) ts m) (record { found = tree.name text m.0; derived = g.a_name text m.0 plain; same = refl });
  spelled = (s, tt);
}
