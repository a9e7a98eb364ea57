-- What a module says, without its places, and that its tokens are those of that.
use Rattle.std.proofs.Common.{◌≡◌, ℕ, Bool, true, false, List, [], ◌∷◌, ◌++◌, map, codes, append_assoc, refl, sym, ap, ◌∙◌}
use Rattle.std.proofs.lemmas.Bool.{false≢true}
use Rattle.std.proofs.lemmas.List.{map-append}
use Rattle.hls_base.specs.declared.place.Place.{Place}
use Rattle.rtl_core.specs.ModuleTokens.{Token, Word, Sign}
use Rattle.rtl_core.specs.ModuleSyntax.{Operand, Named, Fixed, Expression, Alone, Inverted, Between, Chosen, Joined, Slice, WordOf, Declared, DeclaredMemory, DeclaredWire, Assign, Write, Always, Register, Writes, Syntax, operator, sign, operand_tokens, expression_tokens, declared_tokens, memory_tokens, wire_tokens, assign_tokens, write_tokens, all_tokens, always_tokens, header_tokens, syntax_tokens}
use Rattle.rtl_core.specs.ModuleSyntax as syntax
use Rattle.verilog_syntax.specs.Lexemes.{Lexeme, tokens_of}
use Rattle.verilog_syntax.specs.PlacedSyntax.{PlacedName, PlacedOperand, PlacedNet, alone, inverted, between, chosen, joined, slice, word_of, PlacedDeclared, PlacedMemory, PlacedWire, PlacedAssign, PlacedWrite, Drive, register, first, further, PlacedModule}
use Rattle.verilog_syntax.specs.Marks.{Mark, fixed, at, Stand, operand_token, declared_marks, memory_marks, net_marks, wire_marks, assign_marks, write_marks, drive_marks, opens, in_blocks, end_marks, is_open_behind, open_marks, all_marks, header_mark, head_marks, clock_marks, item_marks, module_marks}

-- ---- what is said

abbrev pub declared_plain : PlacedDeclared → Declared
declared_plain x = record { high = x.high; name = x.name.text }

abbrev pub memory_plain : PlacedMemory → DeclaredMemory
memory_plain x = record { high = x.high; name = x.name.text; last = x.last }

abbrev pub net_plain : PlacedNet → Expression
net_plain (alone a) = Alone a.operand
net_plain (inverted a) = Inverted a.operand
net_plain (between op a b) = Between op a.operand b.operand
net_plain (chosen a b c) = Chosen a.operand b.operand c.operand
net_plain (joined a b) = Joined a.operand b.operand
net_plain (slice name high low) = Slice name.text high low
net_plain (word_of memory a) = WordOf memory.text a.operand

abbrev pub wire_plain : PlacedWire → DeclaredWire
wire_plain x = record { high = x.high; name = x.name.text; net = net_plain x.net }

abbrev pub assign_plain : PlacedAssign → Assign
assign_plain x = record { name = x.name.text; from = x.from.operand }

abbrev pub write_plain : PlacedWrite → Write
write_plain x = record { enable = x.enable.operand; memory = x.memory.text; address = x.address.operand; value = x.value.operand }

-- the further ports of a block
abbrev pub others_plain : List Drive → List Write
others_plain [] = []
others_plain (register enable name next ∷ ds) = []
others_plain (first x ∷ ds) = []
others_plain (further x ∷ ds) = write_plain x ∷ others_plain ds

abbrev pub blocks_plain : List Drive → List Always
blocks_plain [] = []
blocks_plain (register enable name next ∷ ds) = Register enable.operand name.text next.operand ∷ blocks_plain ds
blocks_plain (first x ∷ ds) = Writes (write_plain x) (others_plain ds) ∷ blocks_plain ds
blocks_plain (further x ∷ ds) = blocks_plain ds

abbrev pub name_plain : PlacedName → List ℕ
name_plain x = x.text

abbrev pub syntax_of : PlacedModule → Syntax
syntax_of m = record {
  name = m.name.text;
  header = map name_plain m.header;
  inputs = map declared_plain m.inputs;
  outputs = map declared_plain m.outputs;
  regs = map declared_plain m.regs;
  mems = map memory_plain m.mems;
  wires = map wire_plain m.wires;
  assigns = map assign_plain m.assigns;
  blocks = blocks_plain m.drives;
}

-- ---- its tokens

abbrev pub mark_token : Mark → Token
mark_token (fixed token) = token
mark_token (at token place) = token

pub stand_tokens : (ls : List Lexeme) (ms : List Mark) → Stand ls ms → tokens_of ls ≡ map mark_token ms
stand_tokens [] [] h = refl
stand_tokens [] (m ∷ ms) h = absurd h
stand_tokens (l ∷ ls) [] h = absurd h
stand_tokens (l ∷ ls) (fixed token ∷ ms) h = ap (λ t. t ∷ tokens_of ls) h.0 ∙ ap (λ ts. token ∷ ts) (stand_tokens ls ms h.1)
stand_tokens (l ∷ ls) (at token place ∷ ms) h = ap (λ t. t ∷ tokens_of ls) h.0.0 ∙ ap (λ ts. token ∷ ts) (stand_tokens ls ms h.1)

one : (x : Operand) → operand_token x ∷ [] ≡ operand_tokens x
one (Named name) = refl
one (Fixed bits value) = refl

abbrev Row : Type 0
Row = List Token

by_one : (f : Row → Row) (a : Operand) → f (operand_token a ∷ []) ≡ f (operand_tokens a)
by_one f a = ap f (one a)

by_two : (f : Row → Row → Row) (a b : Operand) → f (operand_token a ∷ []) (operand_token b ∷ []) ≡ f (operand_tokens a) (operand_tokens b)
by_two f a b = ap (λ x. f x (operand_token b ∷ [])) (one a) ∙ ap (f (operand_tokens a)) (one b)

by_three : (f : Row → Row → Row → Row) (a b c : Operand)
    → f (operand_token a ∷ []) (operand_token b ∷ []) (operand_token c ∷ []) ≡ f (operand_tokens a) (operand_tokens b) (operand_tokens c)
by_three f a b c = by_two (λ x y. f x y (operand_token c ∷ [])) a b ∙ ap (f (operand_tokens a) (operand_tokens b)) (one c)

net_is : (place : Place) (n : PlacedNet) → map mark_token (net_marks place n) ≡ expression_tokens (net_plain n) ++ sign (codes ";")
net_is place (alone a) = by_one (λ x. x ++ sign (codes ";")) a.operand
net_is place (inverted a) = by_one (λ x. (sign (codes "~") ++ x) ++ sign (codes ";")) a.operand
net_is place (between op a b) = by_two (λ x y. (x ++ (sign (operator op) ++ y)) ++ sign (codes ";")) a.operand b.operand
net_is place (chosen a b c) = by_three (λ x y z. (x ++ (sign (codes "?") ++ (y ++ (sign (codes ":") ++ z)))) ++ sign (codes ";")) a.operand b.operand c.operand
net_is place (joined a b) = by_two (λ x y. (sign (codes "{") ++ (x ++ (sign (codes ",") ++ (y ++ sign (codes "}"))))) ++ sign (codes ";")) a.operand b.operand
net_is place (slice name high low) = refl
net_is place (word_of memory a) = by_one (λ x. (syntax.word memory.text ++ (sign (codes "[") ++ (x ++ sign (codes "]")))) ++ sign (codes ";")) a.operand

wire_is : (x : PlacedWire) → map mark_token (wire_marks x) ≡ wire_tokens (wire_plain x)
wire_is x =
    ap (λ ts. syntax.word (codes "wire") ++ (syntax.range_tokens x.high ++ (syntax.word x.name.text ++ (sign (codes "=") ++ ts)))) (net_is x.place x.net)

assign_is : (x : PlacedAssign) → map mark_token (assign_marks x) ≡ assign_tokens (assign_plain x)
assign_is x = by_one (λ a. syntax.word (codes "assign") ++ (syntax.word x.name.text ++ (sign (codes "=") ++ (a ++ sign (codes ";"))))) x.from.operand

abbrev testing : Row → Row
testing enable = syntax.word (codes "if") ++ (sign (codes "(") ++ (enable ++ sign (codes ")")))

write_is : (x : PlacedWrite) → map mark_token (write_marks x) ≡ write_tokens (write_plain x)
write_is x =
    by_three (λ e a v. testing e ++ (syntax.word x.memory.text ++ (sign (codes "[") ++ (a ++ (sign (codes "]") ++ (sign (codes "<=") ++ (v ++ sign (codes ";")))))))) x.enable.operand x.address.operand x.value.operand

all_is : {A B : Type 0} (marks : A → List Mark) (tokens : B → Row) (plain : A → B) → ((x : A) → map mark_token (marks x) ≡ tokens (plain x)) → (xs : List A)
    → map mark_token (all_marks marks xs) ≡ all_tokens tokens (map plain xs)
all_is marks tokens plain same [] = refl
all_is marks tokens plain same (x ∷ xs) =
    map-append mark_token (marks x) (all_marks marks xs) ∙ (ap (λ ts. ts ++ map mark_token (all_marks marks xs)) (same x)
    ∙ ap (λ ts. tokens (plain x) ++ ts) (all_is marks tokens plain same xs))

-- what stands behind the drives so far: the rest of a block that is open, and the blocks behind it
abbrev behind : Bool → List Drive → Row
behind false ds = all_tokens always_tokens (blocks_plain ds)
behind true ds = all_tokens write_tokens (others_plain ds) ++ (syntax.word (codes "end") ++ all_tokens always_tokens (blocks_plain ds))

abbrev edge : Row → Row
edge rest = syntax.word (codes "always") ++ (sign (codes "@") ++ (sign (codes "(") ++ (syntax.word (codes "posedge") ++ (syntax.word (codes "clk") ++ (sign (codes ")") ++ rest)))))

register_is : (enable : PlacedOperand) (name : PlacedName) (next : PlacedOperand) → map mark_token (drive_marks (register enable name next)) ≡ always_tokens (Register enable.operand name.text next.operand)
register_is enable name next =
    by_two (λ e v. edge (testing e ++ (syntax.word name.text ++ (sign (codes "<=") ++ (v ++ sign (codes ";")))))) enable.operand next.operand

first_is : (x : PlacedWrite) (others : List Write) (rest : Row)
    → map mark_token (drive_marks (first x)) ++ (all_tokens write_tokens others ++ (syntax.word (codes "end") ++ rest)) ≡ always_tokens (Writes (write_plain x) others) ++ rest
first_is x others rest =
    ap (λ ts. edge (syntax.word (codes "begin") ++ (ts ++ (all_tokens write_tokens others ++ (syntax.word (codes "end") ++ rest))))) (write_is x)
    ∙ ap (λ ts. edge (syntax.word (codes "begin") ++ ts))
    (ap (λ ts. write_tokens (write_plain x) ++ ts) (sym (append_assoc (all_tokens write_tokens others) (syntax.word (codes "end")) rest))
    ∙ sym (append_assoc (write_tokens (write_plain x)) (all_tokens write_tokens others ++ syntax.word (codes "end")) rest))

on_drive : (d : Drive) (ds : List Drive) (right : Row) → map mark_token (open_marks (opens d) ds ++ end_marks (is_open_behind (opens d) ds)) ≡ right
    → map mark_token ((drive_marks d ++ open_marks (opens d) ds) ++ end_marks (is_open_behind (opens d) ds)) ≡ map mark_token (drive_marks d) ++ right
on_drive d ds right h =
    ap (map mark_token) (append_assoc (drive_marks d) (open_marks (opens d) ds) (end_marks (is_open_behind (opens d) ds)))
    ∙ (map-append mark_token (drive_marks d) (open_marks (opens d) ds ++ end_marks (is_open_behind (opens d) ds)) ∙ ap (λ ts. map mark_token (drive_marks d) ++ ts) h)

drives_are : (is_open : Bool) (ds : List Drive) → in_blocks is_open ds ≡ true → map mark_token (open_marks is_open ds ++ end_marks (is_open_behind is_open ds)) ≡ behind is_open ds
drives_are false [] h = refl
drives_are true [] h = refl
drives_are false (register enable name next ∷ ds) h =
    on_drive (register enable name next) ds (behind false ds) (drives_are false ds h) ∙ ap (λ ts. ts ++ behind false ds) (register_is enable name next)
drives_are true (register enable name next ∷ ds) h =
    ap (λ ts. Word (codes "end") ∷ ts) (on_drive (register enable name next) ds (behind false ds) (drives_are false ds h) ∙ ap (λ ts. ts ++ behind false ds) (register_is enable name next))
drives_are false (first x ∷ ds) h =
    on_drive (first x) ds (behind true ds) (drives_are true ds h) ∙ first_is x (others_plain ds) (behind false ds)
drives_are true (first x ∷ ds) h =
    ap (λ ts. Word (codes "end") ∷ ts) (on_drive (first x) ds (behind true ds) (drives_are true ds h) ∙ first_is x (others_plain ds) (behind false ds))
drives_are false (further x ∷ ds) h = absurd (false≢true h)
drives_are true (further x ∷ ds) h =
    on_drive (further x) ds (behind true ds) (drives_are true ds h) ∙ (ap (λ ts. ts ++ behind true ds) (write_is x)
    ∙ sym (append_assoc (write_tokens (write_plain x)) (all_tokens write_tokens (others_plain ds)) (syntax.word (codes "end") ++ behind false ds)))

-- ---- the whole

-- a list of marks before others
split_tokens : (xs ys : List Mark) (t u : Row) → map mark_token xs ≡ t → map mark_token ys ≡ u → map mark_token (xs ++ ys) ≡ t ++ u
split_tokens xs ys t u e f = map-append mark_token xs ys ∙ (ap (λ a. a ++ map mark_token ys) e ∙ ap (λ b. t ++ b) f)

pub module_tokens : (m : PlacedModule) → in_blocks false m.drives ≡ true → map mark_token (module_marks m) ≡ syntax_tokens (syntax_of m)
module_tokens m h =
    let s = syntax_of m in
    let end : List Mark = end_marks (is_open_behind false m.drives) in
    let last : List Mark = fixed (Word (codes "endmodule")) ∷ [] in
    let headers = all_is header_mark header_tokens name_plain (λ x. refl) m.header in
    let inputs = all_is (declared_marks (codes "input")) (declared_tokens (codes "input")) declared_plain (λ x. refl) m.inputs in
    let outputs = all_is (declared_marks (codes "output")) (declared_tokens (codes "output")) declared_plain (λ x. refl) m.outputs in
    let regs = all_is (declared_marks (codes "reg")) (declared_tokens (codes "reg")) declared_plain (λ x. refl) m.regs in
    let mems = all_is memory_marks memory_tokens memory_plain (λ x. refl) m.mems in
    let wires = all_is wire_marks wire_tokens wire_plain wire_is m.wires in
    let assigns = all_is assign_marks assign_tokens assign_plain assign_is m.assigns in
    let i = all_marks (declared_marks (codes "input")) m.inputs in
    let o = all_marks (declared_marks (codes "output")) m.outputs in
    let r = all_marks (declared_marks (codes "reg")) m.regs in
    let e = all_marks memory_marks m.mems in
    let w = all_marks wire_marks m.wires in
    let a = all_marks assign_marks m.assigns in
    let d = open_marks false m.drives in
    let tail : map mark_token (item_marks m ++ (end ++ last)) ≡ map mark_token (i ++ (o ++ (r ++ (e ++ (w ++ (a ++ ((d ++ end) ++ last))))))) =
    ap (map mark_token)
    (append_assoc i (o ++ (r ++ (e ++ (w ++ (a ++ d))))) (end ++ last)
    ∙ ap (λ x. i ++ x) (append_assoc o (r ++ (e ++ (w ++ (a ++ d)))) (end ++ last)
    ∙ ap (λ x. o ++ x) (append_assoc r (e ++ (w ++ (a ++ d))) (end ++ last)
    ∙ ap (λ x. r ++ x) (append_assoc e (w ++ (a ++ d)) (end ++ last)
    ∙ ap (λ x. e ++ x) (append_assoc w (a ++ d) (end ++ last)
    ∙ ap (λ x. w ++ x) (append_assoc a d (end ++ last)
    ∙ ap (λ x. a ++ x) (sym (append_assoc d end last)))))))) in
    let items =
    tail
    ∙ split_tokens i _ _ _ inputs (split_tokens o _ _ _ outputs (split_tokens r _ _ _ regs (split_tokens e _ _ _ mems (split_tokens w _ _ _ wires (split_tokens a _ _ _ assigns
    (split_tokens (d ++ end) last _ _ (drives_are false m.drives h) refl)))))) in
    split_tokens (head_marks m) (clock_marks ++ (item_marks m ++ (end ++ last))) _ _
    (ap (λ x. Word (codes "module") ∷ Word m.name.text ∷ Sign (codes "(") ∷ Word (codes "clk") ∷ x) headers)
    (split_tokens clock_marks (item_marks m ++ (end ++ last)) _ _ refl items)
