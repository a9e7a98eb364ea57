-- Which tokens fit a class, by their kinds.
use Rattle.std.proofs.Common.{◌≡◌, ◌≢◌, ◌↔◌, inl, inr, Bor, ℕ, Bool, true, false, IsTrue, cond, List, [], ◌∷◌, Option, Some, None, codes, refl, sym, ap, ◌∙◌}
use Rattle.std.specs.Option.{is_some}
use Rattle.std.specs.List.{Contains}
use Rattle.std.proofs.lemmas.Bool.{false≢true}
use Rattle.std.proofs.lemmas.Option.{none-some, same_Some}
use Rattle.std.proofs.lemmas.List.Elements.{All-contains}
use Rattle.rtl_core.specs.declared.design.Pair.{Pair}
use Rattle.rtl_core.specs.declared.design.Pair.TheVariants as pair
use Rattle.rtl_core.specs.Valid.{IsName, reserved_words}
use Rattle.rtl_core.specs.ModuleTokens.{Word, Number, Sign as SignToken}
use Rattle.rtl_core.specs.ModuleSyntax.{operator}
use Rattle.rtl_core.proofs.Tokens.{same_text, has_true}
use Rattle.rtl_core.proofs.Checks.{refuted, confirmed}
use Rattle.verilog_syntax.specs.declared.token.Keyword.{Keyword}
use Rattle.verilog_syntax.specs.declared.token.Keyword.TheVariants as k
use Rattle.verilog_syntax.specs.declared.token.Sign.{Sign}
use Rattle.verilog_syntax.specs.declared.token.Sign.TheVariants as s
use Rattle.verilog_syntax.specs.declared.token.Kind.{Kind}
use Rattle.verilog_syntax.specs.declared.token.Kind.TheVariants as kind
use Rattle.verilog_syntax.specs.declared.form.Class.TheVariants as c
use Rattle.verilog_syntax.specs.Signs.{keyword_text, sign_text, single_sign, double_sign}
use Rattle.verilog_syntax.specs.Operators.{operator_of}
use Rattle.verilog_syntax.specs.Views.{token_of, IsProper}
use Rattle.verilog_syntax.specs.Forms.{FitsClass, IsNameToken}

-- ---- texts of words and signs

pub keyword_reserved : (k : Keyword) → Contains reserved_words (keyword_text k)
keyword_reserved k.Module = has_true reserved_words (codes "module") refl
keyword_reserved k.Clock = has_true reserved_words (codes "clk") refl
keyword_reserved k.Input = has_true reserved_words (codes "input") refl
keyword_reserved k.Output = has_true reserved_words (codes "output") refl
keyword_reserved k.Reg = has_true reserved_words (codes "reg") refl
keyword_reserved k.Wire = has_true reserved_words (codes "wire") refl
keyword_reserved k.Assign = has_true reserved_words (codes "assign") refl
keyword_reserved k.Always = has_true reserved_words (codes "always") refl
keyword_reserved k.Posedge = has_true reserved_words (codes "posedge") refl
keyword_reserved k.If = has_true reserved_words (codes "if") refl
keyword_reserved k.Begin = has_true reserved_words (codes "begin") refl
keyword_reserved k.End = has_true reserved_words (codes "end") refl
keyword_reserved k.Endmodule = has_true reserved_words (codes "endmodule") refl

abbrev word_here : List ℕ → List (List ℕ) → List Keyword → Keyword
word_here t [] ks = k.Module
word_here t (w ∷ ws) [] = k.Module
word_here t (w ∷ ws) (k ∷ ks) = cond (same_text w t) k (word_here t ws ks)

abbrev keyword_back : List ℕ → Keyword
keyword_back t = word_here t reserved_words (k.Module ∷ k.Clock ∷ k.Input ∷ k.Output ∷ k.Reg ∷ k.Wire ∷ k.Assign ∷ k.Always ∷ k.Posedge ∷ k.If ∷ k.Begin ∷ k.End ∷ k.Endmodule ∷ [])

keyword_is_back : (k : Keyword) → keyword_back (keyword_text k) ≡ k
keyword_is_back k.Module = refl
keyword_is_back k.Clock = refl
keyword_is_back k.Input = refl
keyword_is_back k.Output = refl
keyword_is_back k.Reg = refl
keyword_is_back k.Wire = refl
keyword_is_back k.Assign = refl
keyword_is_back k.Always = refl
keyword_is_back k.Posedge = refl
keyword_is_back k.If = refl
keyword_is_back k.Begin = refl
keyword_is_back k.End = refl
keyword_is_back k.Endmodule = refl

pub same_keyword : (j k : Keyword) → keyword_text j ≡ keyword_text k → j ≡ k
same_keyword j k e = sym (keyword_is_back j) ∙ (ap keyword_back e ∙ keyword_is_back k)

abbrev sign_back : List ℕ → Option Sign
sign_back [] = None
sign_back (a ∷ []) = single_sign a
sign_back (a ∷ b ∷ cs) = double_sign a b

sign_is_back : (s : Sign) → sign_back (sign_text s) ≡ Some s
sign_is_back s.LeftParen = refl
sign_is_back s.RightParen = refl
sign_is_back s.LeftBracket = refl
sign_is_back s.RightBracket = refl
sign_is_back s.LeftBrace = refl
sign_is_back s.RightBrace = refl
sign_is_back s.Semicolon = refl
sign_is_back s.Comma = refl
sign_is_back s.Colon = refl
sign_is_back s.Question = refl
sign_is_back s.Equal = refl
sign_is_back s.At = refl
sign_is_back s.Tilde = refl
sign_is_back s.Plus = refl
sign_is_back s.Minus = refl
sign_is_back s.Star = refl
sign_is_back s.Ampersand = refl
sign_is_back s.Bar = refl
sign_is_back s.Caret = refl
sign_is_back s.EqualEqual = refl
sign_is_back s.Less = refl
sign_is_back s.LessEqual = refl
sign_is_back s.ShiftLeft = refl
sign_is_back s.ShiftRight = refl

pub same_sign : (x y : Sign) → sign_text x ≡ sign_text y → x ≡ y
same_sign x y e = same_Some x y (sym (sign_is_back x) ∙ (ap sign_back e ∙ sign_is_back y))

-- ---- words

pub word_text : (x y : List ℕ) → Word x ≡ Word y → x ≡ y
word_text x y e = cc

pub sign_token_text : (x y : List ℕ) → SignToken x ≡ SignToken y → x ≡ y
sign_token_text x y e = cc

pub name_no_keyword : (text : List ℕ) (k : Keyword) → IsName text → text ≡ keyword_text k → ⊥
name_no_keyword text k name e = All-contains (λ word. word ≢ text) reserved_words (keyword_text k) name.free (keyword_reserved k) (sym e)

pub keyword_when : (b : Bool) (j k : Keyword) → IsTrue b ↔ (j ≡ k) → IsTrue b ↔ FitsClass (c.Word k) (token_of (kind.Keyword j))
keyword_when b j k iff = (λ t. ap (λ x. Word (keyword_text x)) (iff.0 t), λ e. iff.1 (same_keyword j k (word_text _ _ e)))

pub no_keyword : (x : Kind) (k : Keyword) → IsProper x → ((j : Keyword) → x ≡ kind.Keyword j → ⊥) → IsTrue false ↔ FitsClass (c.Word k) (token_of x)
no_keyword (kind.Keyword j) k proper other = absurd (other j refl)
no_keyword (kind.Name text) k proper other = refuted (λ e. name_no_keyword text.now k proper (word_text _ _ e))
no_keyword (kind.Number ds) k proper other = refuted (λ e. cc)
no_keyword (kind.Constant bits ds) k proper other = refuted (λ e. cc)
no_keyword (kind.Sign s) k proper other = refuted (λ e. cc)

pub mark_when : (b : Bool) (x y : Sign) → IsTrue b ↔ (x ≡ y) → IsTrue b ↔ FitsClass (c.Mark y) (token_of (kind.Sign x))
mark_when b x y iff = (λ t. ap (λ z. SignToken (sign_text z)) (iff.0 t), λ e. iff.1 (same_sign x y (sign_token_text _ _ e)))

pub no_mark : (x : Kind) (y : Sign) → ((s : Sign) → x ≡ kind.Sign s → ⊥) → IsTrue false ↔ FitsClass (c.Mark y) (token_of x)
no_mark (kind.Keyword j) y other = refuted (λ e. cc)
no_mark (kind.Name text) y other = refuted (λ e. cc)
no_mark (kind.Number ds) y other = refuted (λ e. cc)
no_mark (kind.Constant bits ds) y other = refuted (λ e. cc)
no_mark (kind.Sign s) y other = absurd (other s refl)

pub name_fits : (text : Bor (List ℕ)) → IsProper (kind.Name text) → IsTrue true ↔ FitsClass c.Name (token_of (kind.Name text))
name_fits text proper = confirmed (text.now, refl, proper)

pub keyword_no_name : (k : Keyword) → IsNameToken (Word (keyword_text k)) → ⊥
keyword_no_name k h = name_no_keyword h.0 k h.2 (sym (word_text _ _ h.1))

no_name_token : (x : Kind) → ((text : Bor (List ℕ)) → x ≡ kind.Name text → ⊥) → IsNameToken (token_of x) → ⊥
no_name_token (kind.Keyword j) other h = keyword_no_name j h
no_name_token (kind.Name text) other h = other text refl
no_name_token (kind.Number ds) other h = (let e = h.1 in cc)
no_name_token (kind.Constant bits ds) other h = (let e = h.1 in cc)
no_name_token (kind.Sign s) other h = (let e = h.1 in cc)

pub no_name : (x : Kind) → ((text : Bor (List ℕ)) → x ≡ kind.Name text → ⊥) → IsTrue false ↔ FitsClass c.Name (token_of x)
no_name x other = refuted (no_name_token x other)

pub no_number : (x : Kind) → ((ds : Bor (List ℕ)) → x ≡ kind.Number ds → ⊥) → IsTrue false ↔ FitsClass c.Number (token_of x)
no_number (kind.Keyword j) other = refuted (λ h. let e = h.1 in cc)
no_number (kind.Name text) other = refuted (λ h. let e = h.1 in cc)
no_number (kind.Number ds) other = absurd (other ds refl)
no_number (kind.Constant bits ds) other = refuted (λ h. let e = h.1 in cc)
no_number (kind.Sign s) other = refuted (λ h. let e = h.1 in cc)

number_text : (x y : List ℕ) → Number x ≡ Number y → x ≡ y
number_text x y e = cc

pub zero_when : (b : Bool) (ds : Bor (List ℕ)) → IsTrue b ↔ (ds.now ≡ codes "0") → IsTrue b ↔ FitsClass c.Zero (token_of (kind.Number ds))
zero_when b ds iff = (λ t. ap Number (iff.0 t), λ e. iff.1 (number_text _ _ e))

pub no_zero : (x : Kind) → ((ds : Bor (List ℕ)) → x ≡ kind.Number ds → ⊥) → IsTrue false ↔ FitsClass c.Zero (token_of x)
no_zero (kind.Keyword j) other = refuted (λ e. cc)
no_zero (kind.Name text) other = refuted (λ e. cc)
no_zero (kind.Number ds) other = absurd (other ds refl)
no_zero (kind.Constant bits ds) other = refuted (λ e. cc)
no_zero (kind.Sign s) other = refuted (λ e. cc)

pub name_is_operand : (text : Bor (List ℕ)) → IsProper (kind.Name text) → IsTrue true ↔ FitsClass c.Operand (token_of (kind.Name text))
name_is_operand text proper = confirmed (inl (text.now, refl, proper))

pub constant_is_operand : (bits : ℕ) (ds : Bor (List ℕ)) → IsTrue true ↔ FitsClass c.Operand (token_of (kind.Constant bits ds))
constant_is_operand bits ds = confirmed (inr (bits, _, refl))

pub no_operand : (x : Kind) → ((text : Bor (List ℕ)) → x ≡ kind.Name text → ⊥) → ((bits : ℕ) (ds : Bor (List ℕ)) → x ≡ kind.Constant bits ds → ⊥) → IsTrue false ↔ FitsClass c.Operand (token_of x)
no_operand (kind.Keyword j) name constant = refuted (λ h. elim h [ inl e ↦ keyword_no_name j e | inr e ↦ (let q = e.2 in cc) ])
no_operand (kind.Name text) name constant = absurd (name text refl)
no_operand (kind.Number ds) name constant = refuted (λ h. elim h [ inl e ↦ (let q = e.1 in cc) | inr e ↦ (let q = e.2 in cc) ])
no_operand (kind.Constant bits ds) name constant = absurd (constant bits ds refl)
no_operand (kind.Sign s) name constant = refuted (λ h. elim h [ inl e ↦ (let q = e.1 in cc) | inr e ↦ (let q = e.2 in cc) ])

-- ---- operators

pub operator_text : (s : Sign) (op : Pair) → operator_of s ≡ Some op → sign_text s ≡ operator op
operator_text s.LeftParen op e = absurd (none-some op e)
operator_text s.RightParen op e = absurd (none-some op e)
operator_text s.LeftBracket op e = absurd (none-some op e)
operator_text s.RightBracket op e = absurd (none-some op e)
operator_text s.LeftBrace op e = absurd (none-some op e)
operator_text s.RightBrace op e = absurd (none-some op e)
operator_text s.Semicolon op e = absurd (none-some op e)
operator_text s.Comma op e = absurd (none-some op e)
operator_text s.Colon op e = absurd (none-some op e)
operator_text s.Question op e = absurd (none-some op e)
operator_text s.Equal op e = absurd (none-some op e)
operator_text s.At op e = absurd (none-some op e)
operator_text s.Tilde op e = absurd (none-some op e)
operator_text s.Plus op e = ap operator (same_Some pair.Add op e)
operator_text s.Minus op e = ap operator (same_Some pair.Sub op e)
operator_text s.Star op e = ap operator (same_Some pair.Mul op e)
operator_text s.Ampersand op e = ap operator (same_Some pair.And op e)
operator_text s.Bar op e = ap operator (same_Some pair.Or op e)
operator_text s.Caret op e = ap operator (same_Some pair.Xor op e)
operator_text s.EqualEqual op e = ap operator (same_Some pair.Equal op e)
operator_text s.Less op e = ap operator (same_Some pair.Below op e)
operator_text s.LessEqual op e = absurd (none-some op e)
operator_text s.ShiftLeft op e = ap operator (same_Some pair.Left op e)
operator_text s.ShiftRight op e = ap operator (same_Some pair.Right op e)

pub operator_some : (op : Pair) (x : Sign) → sign_text x ≡ operator op → is_some (operator_of x) ≡ true
operator_some pair.Add x e = ap (λ y. is_some (operator_of y)) (same_sign x s.Plus e)
operator_some pair.Sub x e = ap (λ y. is_some (operator_of y)) (same_sign x s.Minus e)
operator_some pair.Mul x e = ap (λ y. is_some (operator_of y)) (same_sign x s.Star e)
operator_some pair.And x e = ap (λ y. is_some (operator_of y)) (same_sign x s.Ampersand e)
operator_some pair.Or x e = ap (λ y. is_some (operator_of y)) (same_sign x s.Bar e)
operator_some pair.Xor x e = ap (λ y. is_some (operator_of y)) (same_sign x s.Caret e)
operator_some pair.Equal x e = ap (λ y. is_some (operator_of y)) (same_sign x s.EqualEqual e)
operator_some pair.Below x e = ap (λ y. is_some (operator_of y)) (same_sign x s.Less e)
operator_some pair.Left x e = ap (λ y. is_some (operator_of y)) (same_sign x s.ShiftLeft e)
operator_some pair.Right x e = ap (λ y. is_some (operator_of y)) (same_sign x s.ShiftRight e)

some_operator : (s : Sign) (o : Option Pair) → operator_of s ≡ o → is_some o ≡ true → (op : Pair) × (SignToken (sign_text s) ≡ SignToken (operator op))
some_operator s None e h = absurd (false≢true h)
some_operator s (Some op) e h = (op, ap SignToken (operator_text s op e))

pub operator_when : (s : Sign) → IsTrue (is_some (operator_of s)) ↔ FitsClass c.Operator (token_of (kind.Sign s))
operator_when s = (λ t. some_operator s (operator_of s) refl t, λ h. operator_some h.0 s (sign_token_text _ _ h.1))

pub no_operator : (x : Kind) → ((s : Sign) → x ≡ kind.Sign s → ⊥) → IsTrue false ↔ FitsClass c.Operator (token_of x)
no_operator (kind.Keyword j) other = refuted (λ h. let e = h.1 in cc)
no_operator (kind.Name text) other = refuted (λ h. let e = h.1 in cc)
no_operator (kind.Number ds) other = refuted (λ h. let e = h.1 in cc)
no_operator (kind.Constant bits ds) other = refuted (λ h. let e = h.1 in cc)
no_operator (kind.Sign s) other = absurd (other s refl)
