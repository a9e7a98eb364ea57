-- The marks of the tokens of a form, and rows of marks.
use Rattle.std.proofs.Common.{◌≡◌, inl, inr, ℕ, zero, suc, ◌+◌, ◌<◌, Bool, true, false, not, ◌||◌, List, [], ◌∷◌, ◌++◌, length, drop, get_or, codes, append_assoc, append-nil, refl, sym, ap, ◌∙◌, subst, arith, drop-cons, Some, None}
use Rattle.std.specs.Prelude.{unwrap_or, Option}
use Rattle.std.specs.Option.{is_some}
use Rattle.std.proofs.lemmas.Bool.{false≢true, and_parts}
use Rattle.std.proofs.lemmas.List.{drop_all}
use Rattle.rtl_core.specs.declared.design.Pair.{Pair}
use Rattle.rtl_core.specs.declared.design.Pair.TheVariants as pair
use Rattle.rtl_core.specs.Valid.{IsName}
use Rattle.rtl_core.specs.ModuleTokens.{Word, Number, Sign as SignToken}
use Rattle.rtl_core.specs.ModuleSyntax.{operator}
use Rattle.verilog_syntax.specs.declared.token.Kind.{Kind}
use Rattle.verilog_syntax.specs.declared.token.Kind.TheVariants as kind
use Rattle.verilog_syntax.specs.declared.token.Sign.{Sign}
use Rattle.verilog_syntax.specs.declared.token.Sign.TheVariants as s
use Rattle.verilog_syntax.specs.declared.token.Token.{Token}
use Rattle.verilog_syntax.specs.declared.form.Class.{Class}
use Rattle.verilog_syntax.specs.declared.form.Class.TheVariants as c
use Rattle.verilog_syntax.specs.Signs.{keyword_text, sign_text}
use Rattle.verilog_syntax.specs.Operators.{operator_of}
use Rattle.verilog_syntax.specs.Views.{token_of, lexeme_of, lexemes_of}
use Rattle.verilog_syntax.specs.Lexemes.{Lexeme}
use Rattle.verilog_syntax.specs.Forms.{IsNameToken, FitsClass, FitsAll}
use Rattle.verilog_syntax.specs.PlacedSyntax.{Drive}
use Rattle.verilog_syntax.specs.Marks.{Mark, fixed, at, Stands, Stand, operand_token, drive_marks, opens, goes_on, in_blocks, end_before, is_open_behind, open_marks, all_marks}
use Rattle.verilog_syntax.specs.ModuleViews.{nth, blank, text_in, operand_kind, pair_kind}
use Rattle.verilog_syntax.specs.Parsing.{tokens_in}
use Rattle.verilog_syntax.proofs.Classes.{keyword_no_name, word_text, sign_token_text, operator_text, operator_some}

abbrev pub mark_of : Class → Token → Mark
mark_of (c.Word k) t = fixed (Word (keyword_text k))
mark_of (c.Mark s.Tilde) t = at (SignToken (sign_text s.Tilde)) t.place
mark_of (c.Mark s.LeftBrace) t = at (SignToken (sign_text s.LeftBrace)) t.place
mark_of (c.Mark s) t = fixed (SignToken (sign_text s))
mark_of c.Name t = at (Word (text_in t.kind)) t.place
mark_of c.Number t = fixed (Number (text_in t.kind))
mark_of c.Zero t = fixed (Number (codes "0"))
mark_of c.Operand t = at (operand_token (operand_kind t.kind)) t.place
mark_of c.Operator t = fixed (SignToken (operator (pair_kind t.kind)))

pub name_text : (k : Kind) → IsNameToken (token_of k) → (token_of k ≡ Word (text_in k)) × IsName (text_in k)
name_text (kind.Keyword k) h = absurd (keyword_no_name k h)
name_text (kind.Name text) h = (refl, subst IsName (sym (word_text text.now h.0 h.1)) h.2)
name_text (kind.Number ds) (u, e, n) = absurd cc
name_text (kind.Constant bits ds) (u, e, n) = absurd cc
name_text (kind.Sign s) (u, e, n) = absurd cc

pub number_text : (k : Kind) → (ds : List ℕ) × (token_of k ≡ Number ds) → token_of k ≡ Number (text_in k)
number_text (kind.Keyword k) (ds, e) = absurd cc
number_text (kind.Name text) (ds, e) = absurd cc
number_text (kind.Number x) (ds, e) = refl
number_text (kind.Constant bits x) (ds, e) = absurd cc
number_text (kind.Sign s) (ds, e) = absurd cc

pub operand_text : (k : Kind) → FitsClass c.Operand (token_of k) → token_of k ≡ operand_token (operand_kind k)
operand_text (kind.Keyword k) (inl h) = absurd (keyword_no_name k h)
operand_text (kind.Keyword k) (inr (b, v, e)) = absurd cc
operand_text (kind.Name text) h = refl
operand_text (kind.Number ds) (inl (u, e, n)) = absurd cc
operand_text (kind.Number ds) (inr (b, v, e)) = absurd cc
operand_text (kind.Constant bits ds) h = refl
operand_text (kind.Sign s) (inl (u, e, n)) = absurd cc
operand_text (kind.Sign s) (inr (b, v, e)) = absurd cc

pub some_pair : (x : Sign) (o : Option Pair) → operator_of x ≡ o → is_some o ≡ true → SignToken (sign_text x) ≡ SignToken (operator (unwrap_or o pair.Add))
some_pair x None e h = absurd (false≢true h)
some_pair x (Some op) e h = ap SignToken (operator_text x op e)

pub pair_text : (k : Kind) → FitsClass c.Operator (token_of k) → token_of k ≡ SignToken (operator (pair_kind k))
pair_text (kind.Keyword k) (op, e) = absurd cc
pair_text (kind.Name text) (op, e) = absurd cc
pair_text (kind.Number ds) (op, e) = absurd cc
pair_text (kind.Constant bits ds) (op, e) = absurd cc
pair_text (kind.Sign x) (op, e) = some_pair x (operator_of x) refl (operator_some op x (sign_token_text (sign_text x) (operator op) e))

pub sign_stands : (x : Sign) (t : Token) → token_of t.kind ≡ SignToken (sign_text x) → Stands (lexeme_of t) (mark_of (c.Mark x) t)
sign_stands s.Tilde t h = (h, refl)
sign_stands s.LeftBrace t h = (h, refl)
sign_stands _ t h = h

pub stands_one : (x : Class) (t : Token) → FitsClass x (token_of t.kind) → Stands (lexeme_of t) (mark_of x t)
stands_one (c.Word k) t h = h
stands_one (c.Mark x) t h = sign_stands x t h
stands_one c.Name t h = ((name_text t.kind h).0, refl)
stands_one c.Number t h = number_text t.kind h
stands_one c.Zero t h = h
stands_one c.Operand t h = (operand_text t.kind h, refl)
stands_one c.Operator t h = pair_text t.kind h

abbrev pub marks_of : List Class → List Token → List Mark
marks_of [] ts = []
marks_of (x ∷ xs) [] = []
marks_of (x ∷ xs) (t ∷ ts) = mark_of x t ∷ marks_of xs ts

pub stand_all : (cs : List Class) (ts : List Token) → FitsAll cs (tokens_in ts) → Stand (lexemes_of ts) (marks_of cs ts)
stand_all [] [] h = tt
stand_all [] (t ∷ ts) h = absurd h
stand_all (x ∷ xs) [] h = absurd h
stand_all (x ∷ xs) (t ∷ ts) h = (stands_one x t h.0, stand_all xs ts h.1)

pub fits_long : (cs : List Class) (ts : List Token) → FitsAll cs (tokens_in ts) → length ts ≡ length cs
fits_long [] [] h = refl
fits_long [] (t ∷ ts) h = absurd h
fits_long (x ∷ xs) [] h = absurd h
fits_long (x ∷ xs) (t ∷ ts) h = ap suc (fits_long xs ts h.1)

-- the class at a place
abbrev pub class_at : List Class → ℕ → Class
class_at cs k = get_or cs k c.Number

pub fits_at : (cs : List Class) (ts : List Token) (k : ℕ) → FitsAll cs (tokens_in ts) → k < length cs → FitsClass (class_at cs k) (token_of (nth ts k).kind)
fits_at [] ts k h below = absurd (omega (arith, below))
fits_at (x ∷ xs) [] k h below = absurd h
fits_at (x ∷ xs) (t ∷ ts) zero h below = h.0
fits_at (x ∷ xs) (t ∷ ts) (suc k) h below = fits_at xs ts k h.1 (omega (arith, below))

-- ---- a list by its elements

abbrev pub spread : ℕ → ℕ → List Token → List Token
spread k zero ts = []
spread k (suc n) ts = nth ts k ∷ spread (suc k) n ts

pub spread_is : (k n : ℕ) (ts : List Token) → length ts ≡ k + n → drop k ts ≡ spread k n ts
spread_is k zero ts e = drop_all k ts (omega (arith, e))
spread_is k (suc n) ts e = drop-cons ts k blank (omega (arith, e)) ∙ ap (λ x. nth ts k ∷ x) (spread_is (suc k) n ts (omega (arith, e)))

pub spread_whole : (n : ℕ) (ts : List Token) → length ts ≡ n → ts ≡ spread 0 n ts
spread_whole n ts e = spread_is 0 n ts (omega (arith, e))

-- ---- rows of marks

pub stand_append : (ls ks : List Lexeme) (ms ns : List Mark) → Stand ls ms → Stand ks ns → Stand (ls ++ ks) (ms ++ ns)
stand_append [] ks [] ns h k = k
stand_append [] ks (m ∷ ms) ns h k = absurd h
stand_append (l ∷ ls) ks [] ns h k = absurd h
stand_append (l ∷ ls) ks (m ∷ ms) ns h k = (h.0, stand_append ls ks ms ns h.1 k)

pub all_more : {A : Type 0} (marks : A → List Mark) (xs : List A) (x : A) → all_marks marks (xs ++ x ∷ []) ≡ all_marks marks xs ++ marks x
all_more marks [] x = append-nil (marks x)
all_more marks (y ∷ ys) x = ap (λ z. marks y ++ z) (all_more marks ys x) ∙ sym (append_assoc (marks y) (all_marks marks ys) (marks x))

pub open_more : (is_open : Bool) (ds : List Drive) (d : Drive) → open_marks is_open (ds ++ d ∷ []) ≡ open_marks is_open ds ++ (end_before (is_open_behind is_open ds) d ++ drive_marks d)
open_more is_open [] d = ap (λ x. end_before is_open d ++ x) (append-nil (drive_marks d))
open_more is_open (e ∷ es) d =
    ap (λ x. end_before is_open e ++ (drive_marks e ++ x)) (open_more (opens e) es d)
    ∙ (ap (λ x. end_before is_open e ++ x) (sym (append_assoc (drive_marks e) (open_marks (opens e) es) (end_before (is_open_behind (opens e) es) d ++ drive_marks d)))
    ∙ sym (append_assoc (end_before is_open e) (drive_marks e ++ open_marks (opens e) es) (end_before (is_open_behind (opens e) es) d ++ drive_marks d)))

pub open_behind : (is_open : Bool) (ds : List Drive) (d : Drive) → is_open_behind is_open (ds ++ d ∷ []) ≡ opens d
open_behind is_open [] d = refl
open_behind is_open (e ∷ es) d = open_behind (opens e) es d

pub or_true : (b : Bool) → (b || true) ≡ true
or_true false = refl
or_true true = refl

pub in_blocks_more : (is_open : Bool) (ds : List Drive) (d : Drive) → in_blocks is_open ds ≡ true → (is_open_behind is_open ds || not (goes_on d)) ≡ true → in_blocks is_open (ds ++ d ∷ []) ≡ true
in_blocks_more is_open [] d h k = rw k refl
in_blocks_more is_open (e ∷ es) d h k =
    let p = and_parts (is_open || not (goes_on e)) (in_blocks (opens e) es) h in rw (p.0, in_blocks_more (opens e) es d p.1 k) refl

-- a part that grows where nothing stands behind it
pub last_part : (part item rest : List Mark) → rest ≡ [] → (part ++ item) ++ rest ≡ (part ++ rest) ++ item
last_part part item rest e = ap (λ x. (part ++ item) ++ x) e ∙ (append-nil (part ++ item) ∙ ap (λ x. x ++ item) (sym (append-nil part) ∙ ap (λ x. part ++ x) (sym e)))

pub deeper : (part rest item new : List Mark) → new ≡ rest ++ item → part ++ new ≡ (part ++ rest) ++ item
deeper part rest item new e = ap (λ x. part ++ x) e ∙ sym (append_assoc part rest item)
