-- Each printed item spells the item's tokens.
use Rattle.std.proofs.Common.{◌≡◌, ◌⊎◌, inl, inr, ℕ, ◌^◌, ◌<◌, refl, subst, Bool, true, ◌&&◌, ◌||◌, List, [], ◌∷◌, ◌++◌, append_assoc, arith}
use Rattle.std.specs.Prelude.{codes, nat_le, ◌==◌}
use Rattle.std.specs.Fmt.{decimal}
use Rattle.std.specs.List.{All, list_all, flat_map}
use Rattle.std.proofs.lemmas.Bool.{or_cases, and_parts, leb-true, eqb-true}
use Rattle.std.proofs.lemmas.List.Elements.{All-nil, All-cons, All-head, All-tail, All-weaker}
use Rattle.rtl_core.specs.declared.design.Pair.{Pair}
use Rattle.rtl_core.specs.declared.design.Pair.TheVariants as pair
use Rattle.rtl_core.specs.Valid.{IsIdentifier, IsLetter, IsDigit, IsBetween}
use Rattle.rtl_core.specs.ModuleTokens.{Word, IsNumber, IsConstantText, Spells}
use Rattle.rtl_core.specs.ModuleSyntax.{Operand, Named, Fixed, Expression, Alone, Inverted, Between, Chosen, Joined, Slice, WordOf, Declared, DeclaredMemory, DeclaredWire, Assign, Write, Always, Register, Writes, Syntax, word, sign, number, operator, operand_tokens, expression_tokens, declared_tokens, memory_tokens, wire_tokens, assign_tokens, test_tokens, write_tokens, all_tokens, block_tokens, always_tokens, header_tokens, syntax_tokens}
use Rattle.verilog_print.specs.PrintedText.{hexadecimal, operand_text, expression_text, declared_text, memory_text, wire_text, assign_text, test_text, write_text, block_text, always_text, header_text, syntax_text}
use Rattle.verilog_print.proofs.Bytes.{Breaks}
use Rattle.verilog_print.proofs.Digits.{IsNumber-decimal, number_value-decimal, hexadecimal_text}
use Rattle.verilog_print.proofs.Spelling.{Reads, Anything, StartsBreak, join, then, break, nothing, loosely, space, line_end, word_reads, number_reads, constant_reads, sign_reads, spaced_sign_reads, each_reads, spells_all}

-- ---- words of which each byte is known

abbrev is_letter : ℕ → Bool
is_letter c = (nat_le 65 c && nat_le c 90) || ((nat_le 97 c && nat_le c 122) || (c == 95))

is_letter-true : (c : ℕ) → is_letter c ≡ true → IsLetter c
is_letter-true c h = elim (or_cases (nat_le 65 c && nat_le c 90) ((nat_le 97 c && nat_le c 122) || (c == 95)) h) [
  | inl capital ↦ inl (let p = and_parts (nat_le 65 c) (nat_le c 90) capital in (leb-true 65 c p.0, leb-true c 90 p.1))
  | inr other ↦ elim (or_cases (nat_le 97 c && nat_le c 122) (c == 95) other) [
    | inl small ↦ inr (inl (let p = and_parts (nat_le 97 c) (nat_le c 122) small in (leb-true 97 c p.0, leb-true c 122 p.1)))
    | inr line ↦ inr (inr (eqb-true c 95 line))
  ]
]

all_letters : (cs : List ℕ) → list_all is_letter cs ≡ true → All (λ c. IsLetter c ⊎ IsDigit c) cs
all_letters [] h = All-nil (λ c. IsLetter c ⊎ IsDigit c)
all_letters (c ∷ cs) h =
    let p = and_parts (is_letter c) (list_all is_letter cs) h in
    All-cons (λ c. IsLetter c ⊎ IsDigit c) c cs (inl (is_letter-true c p.0)) (all_letters cs p.1)

-- a word of letters alone
pub letters : (c : ℕ) (cs : List ℕ) → list_all is_letter (c ∷ cs) ≡ true → IsIdentifier (c ∷ cs)
letters c cs h = let p = and_parts (is_letter c) (list_all is_letter cs) h in (is_letter-true c p.0, all_letters cs p.1)

keyword : (c : ℕ) (cs : List ℕ) → list_all is_letter (c ∷ cs) ≡ true → Reads Breaks (c ∷ cs) (Word (c ∷ cs) ∷ [])
keyword c cs h = word_reads (c ∷ cs) (letters c cs h)

-- ---- signs

left_paren : Reads Anything (codes "(") (sign (codes "("))
left_paren = sign_reads (codes "(") (0, omega arith, refl) refl refl

right_paren : Reads Anything (codes ")") (sign (codes ")"))
right_paren = sign_reads (codes ")") (1, omega arith, refl) refl refl

left_bracket : Reads Anything (codes "[") (sign (codes "["))
left_bracket = sign_reads (codes "[") (2, omega arith, refl) refl refl

right_bracket : Reads Anything (codes "]") (sign (codes "]"))
right_bracket = sign_reads (codes "]") (3, omega arith, refl) refl refl

left_brace : Reads Anything (codes "{") (sign (codes "{"))
left_brace = sign_reads (codes "{") (4, omega arith, refl) refl refl

right_brace : Reads Anything (codes "}") (sign (codes "}"))
right_brace = sign_reads (codes "}") (5, omega arith, refl) refl refl

semicolon : Reads Anything (codes ";") (sign (codes ";"))
semicolon = sign_reads (codes ";") (6, omega arith, refl) refl refl

comma : Reads Anything (codes ", ") (sign (codes ","))
comma = then (sign_reads (codes ",") (7, omega arith, refl) refl refl) space

colon : Reads Anything (codes ":") (sign (codes ":"))
colon = sign_reads (codes ":") (8, omega arith, refl) refl refl

question : Reads Anything (codes " ? ") (sign (codes "?"))
question = then space (then (sign_reads (codes "?") (9, omega arith, refl) refl refl) space)

equals : Reads Anything (codes " = ") (sign (codes "="))
equals = then space (spaced_sign_reads (codes "=") (10, omega arith, refl) refl)

at_sign : Reads Anything (codes "@") (sign (codes "@"))
at_sign = sign_reads (codes "@") (11, omega arith, refl) refl refl

tilde : Reads Anything (codes "~") (sign (codes "~"))
tilde = sign_reads (codes "~") (12, omega arith, refl) refl refl

takes : Reads Anything (codes "<= ") (sign (codes "<="))
takes = then (sign_reads (codes "<=") (21, omega arith, refl) refl refl) space

item_end : Reads Anything (codes ";\n") (sign (codes ";"))
item_end = then semicolon line_end

operator_reads : (op : Pair) → Reads Anything (operator op ++ codes " ") (sign (operator op))
operator_reads pair.Add = spaced_sign_reads (codes "+") (13, omega arith, refl) refl
operator_reads pair.Sub = spaced_sign_reads (codes "-") (14, omega arith, refl) refl
operator_reads pair.Mul = spaced_sign_reads (codes "*") (15, omega arith, refl) refl
operator_reads pair.And = spaced_sign_reads (codes "&") (16, omega arith, refl) refl
operator_reads pair.Or = spaced_sign_reads (codes "|") (17, omega arith, refl) refl
operator_reads pair.Xor = spaced_sign_reads (codes "^") (18, omega arith, refl) refl
operator_reads pair.Equal = spaced_sign_reads (codes "==") (19, omega arith, refl) refl
operator_reads pair.Below = spaced_sign_reads (codes "<") (20, omega arith, refl) refl
operator_reads pair.Left = spaced_sign_reads (codes "<<") (22, omega arith, refl) refl
operator_reads pair.Right = spaced_sign_reads (codes ">>") (23, omega arith, refl) refl

-- ---- operands and expressions

-- the operand can be written
abbrev pub CanWrite : Operand → Type 0
CanWrite (Named name) = IsIdentifier name
CanWrite (Fixed bits value) = IsBetween 1 128 bits × (value < 2 ^ 128)

constant_text : (bits value : ℕ) → CanWrite (Fixed bits value) → IsConstantText (operand_text (Fixed bits value)) bits value
constant_text bits value h =
    let hex = hexadecimal_text value (omega (arith, h.1)) in
    record {
      size = decimal bits;
      digits = hexadecimal value;
      split = refl;
      is_number = IsNumber-decimal bits (omega (arith, h.0.1));
      bits_are = number_value-decimal bits (omega (arith, h.0.1));
      in_range = h.0;
      some = hex.some;
      hex = hex.hex;
      value_is = hex.value;
    }

pub operand_reads : (o : Operand) → CanWrite o → Reads Breaks (operand_text o) (operand_tokens o)
operand_reads (Named name) h = word_reads name h
operand_reads (Fixed bits value) h = constant_reads (operand_text (Fixed bits value)) bits value (constant_text bits value h)

abbrev pub CanWriteNet : Expression → Type 0
CanWriteNet (Alone a) = CanWrite a
CanWriteNet (Inverted a) = CanWrite a
CanWriteNet (Between op a b) = CanWrite a × CanWrite b
CanWriteNet (Chosen test a b) = CanWrite test × CanWrite a × CanWrite b
CanWriteNet (Joined high low) = CanWrite high × CanWrite low
CanWriteNet (Slice name high low) = IsIdentifier name × IsNumber high × IsNumber low
CanWriteNet (WordOf memory address) = IsIdentifier memory × CanWrite address

pub expression_reads : (e : Expression) → CanWriteNet e → Reads Breaks (expression_text e) (expression_tokens e)
expression_reads (Alone a) h = operand_reads a h
expression_reads (Inverted a) h = then tilde (operand_reads a h)
expression_reads (Between op a b) h =
    let behind : Reads Breaks (operator op ++ (codes " " ++ operand_text b)) (sign (operator op) ++ operand_tokens b) =
    subst (λ text. Reads Breaks text (sign (operator op) ++ operand_tokens b)) (append_assoc (operator op) (codes " ") (operand_text b)) (then (operator_reads op) (operand_reads b h.1)) in
    break (operand_reads a h.0) (then space behind) refl
expression_reads (Chosen test a b) h =
    break (operand_reads test h.0) (then question (break (operand_reads a h.1) (then space (then colon (then space (operand_reads b h.2)))) refl)) refl
expression_reads (Joined high low) h =
    then left_brace (break (operand_reads high h.0) (then comma (break (operand_reads low h.1) (loosely right_brace) refl)) refl)
expression_reads (Slice name high low) h =
    break (word_reads name h.0) (then left_bracket (break (number_reads high h.1) (then colon (break (number_reads low h.2) (loosely right_bracket) refl)) refl)) refl
expression_reads (WordOf memory address) h =
    break (word_reads memory h.0) (then left_bracket (break (operand_reads address h.1) (loosely right_bracket) refl)) refl

-- ---- items

zero_digit : IsNumber (codes "0")
zero_digit = (omega arith, All-cons IsDigit 48 [] (omega arith, omega arith) (All-nil IsDigit))

range_end : Reads Anything (codes ":0] ") (sign (codes ":") ++ (number (codes "0") ++ sign (codes "]")))
range_end = then colon (break (number_reads (codes "0") zero_digit) (then right_bracket space) refl)

abbrev pub CanDeclare : Declared → Type 0
CanDeclare x = IsNumber x.high × IsIdentifier x.name

pub declared_reads : (keyword : List ℕ) → IsIdentifier keyword → (x : Declared) → CanDeclare x → Reads Anything (declared_text keyword x) (declared_tokens keyword x)
declared_reads keyword k x h =
    break (word_reads keyword k) (then space (then left_bracket (break (number_reads x.high h.0) (then range_end (break (word_reads x.name h.1) item_end refl)) refl))) refl

abbrev pub CanDeclareMemory : DeclaredMemory → Type 0
CanDeclareMemory x = IsNumber x.high × IsIdentifier x.name × IsNumber x.last

opens_reg : Reads Anything (codes "reg [") (word (codes "reg") ++ sign (codes "["))
opens_reg = break (keyword 114 (codes "eg") refl) (then space left_bracket) refl

opens_wire : Reads Anything (codes "wire [") (word (codes "wire") ++ sign (codes "["))
opens_wire = break (keyword 119 (codes "ire") refl) (then space left_bracket) refl

opens_depth : Reads Anything (codes " [0:") (sign (codes "[") ++ (number (codes "0") ++ sign (codes ":")))
opens_depth = then space (then left_bracket (break (number_reads (codes "0") zero_digit) colon refl))

pub memory_reads : (x : DeclaredMemory) → CanDeclareMemory x → Reads Anything (memory_text x) (memory_tokens x)
memory_reads x h =
    then opens_reg (break (number_reads x.high h.0) (then range_end (break (word_reads x.name h.1) (then opens_depth (break (number_reads x.last h.2) (then right_bracket item_end) refl)) refl)) refl)

abbrev pub CanDeclareWire : DeclaredWire → Type 0
CanDeclareWire x = IsNumber x.high × IsIdentifier x.name × CanWriteNet x.net

pub wire_reads : (x : DeclaredWire) → CanDeclareWire x → Reads Anything (wire_text x) (wire_tokens x)
wire_reads x h =
    then opens_wire (break (number_reads x.high h.0) (then range_end (break (word_reads x.name h.1) (then equals (break (expression_reads x.net h.2) item_end refl)) refl)) refl)

abbrev pub CanAssign : Assign → Type 0
CanAssign x = IsIdentifier x.name × CanWrite x.from

pub assign_reads : (x : Assign) → CanAssign x → Reads Anything (assign_text x) (assign_tokens x)
assign_reads x h =
    break (keyword 97 (codes "ssign") refl) (then space (break (word_reads x.name h.0) (then equals (break (operand_reads x.from h.1) item_end refl)) refl)) refl

-- ---- blocks

test_reads : (enable : Operand) → CanWrite enable → Reads Anything (test_text enable) (test_tokens enable)
test_reads enable h =
    break (keyword 105 (codes "f") refl) (then space (then left_paren (break (operand_reads enable h) (then right_paren space) refl))) refl

abbrev pub CanWritePort : Write → Type 0
CanWritePort x = CanWrite x.enable × IsIdentifier x.memory × CanWrite x.address × CanWrite x.value

pub write_reads : (x : Write) → CanWritePort x → Reads Anything (write_text x) (write_tokens x)
write_reads x h =
    then (test_reads x.enable h.0)
    (break (word_reads x.memory h.1) (then left_bracket (break (operand_reads x.address h.2)
    (then right_bracket (then space (then takes (break (operand_reads x.value h.3) (then semicolon space) refl)))) refl)) refl)

abbrev pub CanWriteBlock : Always → Type 0
CanWriteBlock (Register enable name next) = CanWrite enable × IsIdentifier name × CanWrite next
CanWriteBlock (Writes first others) = CanWritePort first × All CanWritePort others

block_reads : (x : Always) → CanWriteBlock x → Reads Anything (block_text x) (block_tokens x)
block_reads (Register enable name next) h =
    then (test_reads enable h.0) (break (word_reads name h.1) (then space (then takes (break (operand_reads next h.2) item_end refl))) refl)
block_reads (Writes first others) h =
    break (keyword 98 (codes "egin") refl) (then space (then (write_reads first h.0)
    (then (each_reads write_text write_tokens others (All-weaker CanWritePort (λ x. Reads Anything (write_text x) (write_tokens x)) write_reads others h.1))
    (break (keyword 101 (codes "nd") refl) line_end refl)))) refl

clock_edge : Reads Anything (codes "always @(posedge clk) ") (word (codes "always") ++ (sign (codes "@") ++ (sign (codes "(") ++ (word (codes "posedge") ++ (word (codes "clk") ++ sign (codes ")"))))))
clock_edge =
    break (keyword 97 (codes "lways") refl) (then space (then at_sign (then left_paren (break (keyword 112 (codes "osedge") refl)
    (then space (break (keyword 99 (codes "lk") refl) (then right_paren space) refl)) refl)))) refl

pub always_reads : (x : Always) → CanWriteBlock x → Reads Anything (always_text x) (always_tokens x)
always_reads x h = then clock_edge (block_reads x h)

-- ---- the whole text

name_reads : (name : List ℕ) → IsIdentifier name → Reads Breaks (header_text name) (header_tokens name)
name_reads name h = then comma (word_reads name h)

header_breaks : (names rest : List (List ℕ)) (after : List ℕ) → Breaks after → Breaks (flat_map header_text names ++ after)
header_breaks [] rest after h = h
header_breaks (name ∷ names) rest after h = refl

header_reads : (names : List (List ℕ)) → All IsIdentifier names → Reads Breaks (flat_map header_text names) (all_tokens header_tokens names)
header_reads [] h = loosely nothing
header_reads (name ∷ names) h =
    join (λ rest g. header_breaks names [] rest g) (name_reads name (All-head IsIdentifier name names h)) (header_reads names (All-tail IsIdentifier name names h))

header_starts : (names : List (List ℕ)) (after : List ℕ) → StartsBreak (flat_map header_text names ++ (codes ");\ninput clk;\n" ++ after))
header_starts [] after = refl
header_starts (name ∷ names) after = refl

opens_header : Reads Breaks (codes " (clk") (sign (codes "(") ++ word (codes "clk"))
opens_header = then space (then left_paren (keyword 99 (codes "lk") refl))

ends_header : Reads Anything (codes ");\ninput clk;\n") (sign (codes ")") ++ (sign (codes ";") ++ (word (codes "input") ++ (word (codes "clk") ++ sign (codes ";")))))
ends_header =
    then right_paren (then item_end (break (keyword 105 (codes "nput") refl) (then space (break (keyword 99 (codes "lk") refl) item_end refl)) refl))

-- all of it can be written
pub record CanPrint (s : Syntax) : Type 0 where
  pub name : IsIdentifier s.name
  pub header : All IsIdentifier s.header
  pub inputs : All CanDeclare s.inputs
  pub outputs : All CanDeclare s.outputs
  pub regs : All CanDeclare s.regs
  pub mems : All CanDeclareMemory s.mems
  pub wires : All CanDeclareWire s.wires
  pub assigns : All CanAssign s.assigns
  pub blocks : All CanWriteBlock s.blocks

all_declared : (c : ℕ) (cs : List ℕ) → list_all is_letter (c ∷ cs) ≡ true → (xs : List Declared) → All CanDeclare xs → Reads Anything (flat_map (declared_text (c ∷ cs)) xs) (all_tokens (declared_tokens (c ∷ cs)) xs)
all_declared c cs k xs h =
    each_reads (declared_text (c ∷ cs)) (declared_tokens (c ∷ cs)) xs
    (All-weaker CanDeclare (λ x. Reads Anything (declared_text (c ∷ cs) x) (declared_tokens (c ∷ cs) x)) (declared_reads (c ∷ cs) (letters c cs k)) xs h)

items_read : (s : Syntax) → CanPrint s → Reads Anything (syntax_text s) (syntax_tokens s)
items_read s h =
    let mems = each_reads memory_text memory_tokens s.mems (All-weaker CanDeclareMemory (λ x. Reads Anything (memory_text x) (memory_tokens x)) memory_reads s.mems h.mems) in
    let wires = each_reads wire_text wire_tokens s.wires (All-weaker CanDeclareWire (λ x. Reads Anything (wire_text x) (wire_tokens x)) wire_reads s.wires h.wires) in
    let assigns = each_reads assign_text assign_tokens s.assigns (All-weaker CanAssign (λ x. Reads Anything (assign_text x) (assign_tokens x)) assign_reads s.assigns h.assigns) in
    let blocks = each_reads always_text always_tokens s.blocks (All-weaker CanWriteBlock (λ x. Reads Anything (always_text x) (always_tokens x)) always_reads s.blocks h.blocks) in
    let ends = break (keyword 101 (codes "ndmodule") refl) line_end refl in
    let items =
    then (all_declared 105 (codes "nput") refl s.inputs h.inputs) (then (all_declared 111 (codes "utput") refl s.outputs h.outputs)
    (then (all_declared 114 (codes "eg") refl s.regs h.regs) (then mems (then wires (then assigns (then blocks ends)))))) in
    break (keyword 109 (codes "odule") refl) (then space (break (word_reads s.name h.name)
    (break opens_header (break (header_reads s.header h.header) (then ends_header items) refl) (header_starts s.header _)) refl)) refl

pub spelled : (s : Syntax) → CanPrint s → Spells (syntax_text s) (syntax_tokens s)
spelled s h = spells_all (syntax_text s) (syntax_tokens s) (items_read s h)
