-- A row of tokens is that of one syntax.
use Rattle.std.proofs.Common.{◌≡◌, ℕ, zero, suc, Bool, true, false, ◌&&◌, List, [], ◌∷◌, ◌++◌, codes, append_assoc, refl, sym, ap, ◌∙◌}
use Rattle.std.specs.Prelude.{bytes_eq}
use Rattle.std.proofs.lemmas.Bool.{false≢true}
use Rattle.rtl_core.specs.declared.design.Pair.{Pair}
use Rattle.rtl_core.specs.declared.design.Pair.TheVariants as pair
use Rattle.rtl_core.specs.ModuleTokens.{Token, Word, Number, Constant, Sign}
use Rattle.rtl_core.specs.ModuleSyntax.{Operand, Named, Fixed, Expression, Alone, Inverted, Between, Chosen, Joined, Slice, WordOf, Declared, DeclaredMemory, DeclaredWire, Assign, Write, Always, Register, Writes, Syntax, word, sign, operator, operand_tokens, expression_tokens, range_tokens, declared_tokens, memory_tokens, wire_tokens, assign_tokens, test_tokens, write_tokens, all_tokens, block_tokens, always_tokens, header_tokens, syntax_tokens}
use Rattle.verilog_syntax.proofs.OneReading.{same_front}

abbrev Row : Type 0
Row = List Token

-- ---- operands

abbrev operand_back : Token → Operand
operand_back (Word text) = Named text
operand_back (Constant bits value) = Fixed bits value
operand_back (Number digits) = Named []
operand_back (Sign text) = Named []

abbrev one_token : Operand → Token
one_token (Named name) = Word name
one_token (Fixed bits value) = Constant bits value

one : (x : Operand) → operand_tokens x ≡ one_token x ∷ []
one (Named name) = refl
one (Fixed bits value) = refl

back_one : (x : Operand) → operand_back (one_token x) ≡ x
back_one (Named name) = refl
back_one (Fixed bits value) = refl

-- ---- what a net begins with

abbrev is_sign : List ℕ → Token → Bool
is_sign text (Sign s) = bytes_eq text s
is_sign text (Word w) = false
is_sign text (Number ds) = false
is_sign text (Constant bits value) = false

abbrev is_number : Token → Bool
is_number (Number ds) = true
is_number (Word w) = false
is_number (Constant bits value) = false
is_number (Sign s) = false

abbrev is_word : List ℕ → Token → Bool
is_word text (Word w) = bytes_eq text w
is_word text (Number ds) = false
is_word text (Constant bits value) = false
is_word text (Sign s) = false

abbrev text_of : Token → List ℕ
text_of (Word w) = w
text_of (Number ds) = ds
text_of (Constant bits value) = []
text_of (Sign s) = s

abbrev if_so : {A : Type 0} → Bool → A → A → A
if_so true x y = x
if_so false x y = y

abbrev pair_back : List ℕ → Pair
pair_back text =
    if_so (bytes_eq text (codes "+")) pair.Add (if_so (bytes_eq text (codes "-")) pair.Sub (if_so (bytes_eq text (codes "*")) pair.Mul (if_so (bytes_eq text (codes "&")) pair.And
    (if_so (bytes_eq text (codes "|")) pair.Or (if_so (bytes_eq text (codes "^")) pair.Xor (if_so (bytes_eq text (codes "==")) pair.Equal (if_so (bytes_eq text (codes "<")) pair.Below
    (if_so (bytes_eq text (codes "<<")) pair.Left pair.Right))))))))

back_pair : (op : Pair) → pair_back (operator op) ≡ op
back_pair pair.Add = refl
back_pair pair.Sub = refl
back_pair pair.Mul = refl
back_pair pair.And = refl
back_pair pair.Or = refl
back_pair pair.Xor = refl
back_pair pair.Equal = refl
back_pair pair.Below = refl
back_pair pair.Left = refl
back_pair pair.Right = refl

-- the token at a place
abbrev nth : Row → ℕ → Token
nth [] k = Word []
nth (t ∷ ts) zero = t
nth (t ∷ ts) (suc k) = nth ts k

-- the net behind which a semicolon stands
abbrev behind_name : Row → Expression
behind_name ts =
    if_so (is_sign (codes ";") (nth ts 1)) (Alone (operand_back (nth ts 0))) (if_so (is_sign (codes "?") (nth ts 1)) (Chosen (operand_back (nth ts 0)) (operand_back (nth ts 2)) (operand_back (nth ts 4)))
    (if_so (is_sign (codes "[") (nth ts 1))
    (if_so (is_number (nth ts 2)) (Slice (text_of (nth ts 0)) (text_of (nth ts 2)) (text_of (nth ts 4))) (WordOf (text_of (nth ts 0)) (operand_back (nth ts 2))))
    (Between (pair_back (text_of (nth ts 1))) (operand_back (nth ts 0)) (operand_back (nth ts 2)))))

abbrev net_back : Row → Expression
net_back ts =
    if_so (is_sign (codes "~") (nth ts 0)) (Inverted (operand_back (nth ts 1))) (if_so (is_sign (codes "{") (nth ts 0)) (Joined (operand_back (nth ts 1)) (operand_back (nth ts 3))) (behind_name ts))

abbrev closed : Expression → Row → Row
closed x rest = expression_tokens x ++ (sign (codes ";") ++ rest)

by_one : {A : Type 0} (f : Row → A) (a : Operand) → f (operand_tokens a) ≡ f (one_token a ∷ [])
by_one f a = ap f (one a)

back_between : (op : Pair) (a : Operand) (b : Token) (rest : Row) → net_back (one_token a ∷ Sign (operator op) ∷ b ∷ rest) ≡ Between op a (operand_back b)
back_between pair.Add (Named n) b rest = refl
back_between pair.Sub (Named n) b rest = refl
back_between pair.Mul (Named n) b rest = refl
back_between pair.And (Named n) b rest = refl
back_between pair.Or (Named n) b rest = refl
back_between pair.Xor (Named n) b rest = refl
back_between pair.Equal (Named n) b rest = refl
back_between pair.Below (Named n) b rest = refl
back_between pair.Left (Named n) b rest = refl
back_between pair.Right (Named n) b rest = refl
back_between pair.Add (Fixed n v) b rest = refl
back_between pair.Sub (Fixed n v) b rest = refl
back_between pair.Mul (Fixed n v) b rest = refl
back_between pair.And (Fixed n v) b rest = refl
back_between pair.Or (Fixed n v) b rest = refl
back_between pair.Xor (Fixed n v) b rest = refl
back_between pair.Equal (Fixed n v) b rest = refl
back_between pair.Below (Fixed n v) b rest = refl
back_between pair.Left (Fixed n v) b rest = refl
back_between pair.Right (Fixed n v) b rest = refl

back_chosen : (a : Operand) (b c : Token) (rest : Row) → net_back (one_token a ∷ Sign (codes "?") ∷ b ∷ Sign (codes ":") ∷ c ∷ rest) ≡ Chosen a (operand_back b) (operand_back c)
back_chosen (Named n) b c rest = refl
back_chosen (Fixed n v) b c rest = refl

back_word : (memory : List ℕ) (a : Operand) (rest : Row) → net_back (Word memory ∷ Sign (codes "[") ∷ one_token a ∷ rest) ≡ WordOf memory a
back_word memory (Named n) rest = refl
back_word memory (Fixed n v) rest = refl

back_net : (x : Expression) (rest : Row) → net_back (closed x rest) ≡ x
back_net (Alone (Named n)) rest = refl
back_net (Alone (Fixed n v)) rest = refl
back_net (Inverted a) rest = by_one (λ t. net_back ((sign (codes "~") ++ t) ++ (sign (codes ";") ++ rest))) a ∙ ap Inverted (back_one a)
back_net (Between op a b) rest =
    by_one (λ t. net_back ((t ++ (sign (operator op) ++ operand_tokens b)) ++ (sign (codes ";") ++ rest))) a
    ∙ (by_one (λ t. net_back ((one_token a ∷ (sign (operator op) ++ t)) ++ (sign (codes ";") ++ rest))) b
    ∙ (back_between op a (one_token b) (sign (codes ";") ++ rest) ∙ ap (Between op a) (back_one b)))
back_net (Chosen a b c) rest =
    by_one (λ t. net_back ((t ++ (sign (codes "?") ++ (operand_tokens b ++ (sign (codes ":") ++ operand_tokens c)))) ++ (sign (codes ";") ++ rest))) a
    ∙ (by_one (λ t. net_back ((one_token a ∷ (sign (codes "?") ++ (t ++ (sign (codes ":") ++ operand_tokens c)))) ++ (sign (codes ";") ++ rest))) b
    ∙ (by_one (λ t. net_back ((one_token a ∷ Sign (codes "?") ∷ one_token b ∷ (sign (codes ":") ++ t)) ++ (sign (codes ";") ++ rest))) c
    ∙ (back_chosen a (one_token b) (one_token c) (sign (codes ";") ++ rest) ∙ (ap (λ x. Chosen a x (operand_back (one_token c))) (back_one b) ∙ ap (Chosen a b) (back_one c)))))
back_net (Joined a b) rest =
    by_one (λ t. net_back ((sign (codes "{") ++ (t ++ (sign (codes ",") ++ (operand_tokens b ++ sign (codes "}"))))) ++ (sign (codes ";") ++ rest))) a
    ∙ (by_one (λ t. net_back ((Sign (codes "{") ∷ one_token a ∷ (sign (codes ",") ++ (t ++ sign (codes "}")))) ++ (sign (codes ";") ++ rest))) b
    ∙ (ap (λ x. Joined x (operand_back (one_token b))) (back_one a) ∙ ap (Joined a) (back_one b)))
back_net (Slice name high low) rest = refl
back_net (WordOf memory a) rest =
    by_one (λ t. net_back ((word memory ++ (sign (codes "[") ++ (t ++ sign (codes "]")))) ++ (sign (codes ";") ++ rest))) a
    ∙ back_word memory a (sign (codes "]") ++ (sign (codes ";") ++ rest))

same_net : (x y : Expression) (r q : Row) → closed x r ≡ closed y q → (x ≡ y) × (r ≡ q)
same_net x y r q e =
    let same : x ≡ y = sym (back_net x r) ∙ (ap net_back e ∙ back_net y q) in
    let rest : sign (codes ";") ++ r ≡ sign (codes ";") ++ q = same_front (expression_tokens x) (sign (codes ";") ++ r) (sign (codes ";") ++ q) (e ∙ ap (λ z. closed z q) (sym same)) in
    (same, same_front (sign (codes ";")) r q rest)

-- ---- rows of items

-- an operand, and what follows
same_operand : (a b : Operand) (r q : Row) → operand_tokens a ++ r ≡ operand_tokens b ++ q → (a ≡ b) × (r ≡ q)
same_operand a b r q e =
    let f : one_token a ∷ r ≡ one_token b ∷ q = ap (λ t. t ++ r) (sym (one a)) ∙ (e ∙ ap (λ t. t ++ q) (one b)) in
    let head : one_token a ≡ one_token b = ap (λ t. nth t 0) f in
    (sym (back_one a) ∙ (ap operand_back head ∙ back_one b), same_front (one_token a ∷ []) r q (f ∙ ap (λ t. t ∷ q) (sym head)))

abbrev Same : {A : Type 0} → (A → Row) → A → A → Row → Row → Type 0
Same tokens x y r q = tokens x ++ r ≡ tokens y ++ q → (x ≡ y) × (r ≡ q)

-- items that can be told from what follows them
all_same : {A : Type 0} (tokens : A → Row) (test : Row → Bool) → ((x : A) (r : Row) → test (tokens x ++ r) ≡ true) → ((x y : A) (r q : Row) → Same tokens x y r q)
    → (xs ys : List A) (r q : Row) → test r ≡ false → test q ≡ false → all_tokens tokens xs ++ r ≡ all_tokens tokens ys ++ q → (xs ≡ ys) × (r ≡ q)
all_same tokens test is same [] [] r q hr hq e = (refl, e)
all_same tokens test is same [] (y ∷ ys) r q hr hq e =
    absurd (false≢true (sym hr ∙ (ap test (e ∙ append_assoc (tokens y) (all_tokens tokens ys) q) ∙ is y (all_tokens tokens ys ++ q))))
all_same tokens test is same (x ∷ xs) [] r q hr hq e =
    absurd (false≢true (sym hq ∙ (ap test (sym e ∙ append_assoc (tokens x) (all_tokens tokens xs) r) ∙ is x (all_tokens tokens xs ++ r))))
all_same tokens test is same (x ∷ xs) (y ∷ ys) r q hr hq e =
    let s = same x y (all_tokens tokens xs ++ r) (all_tokens tokens ys ++ q) (sym (append_assoc (tokens x) (all_tokens tokens xs) r) ∙ (e ∙ append_assoc (tokens y) (all_tokens tokens ys) q)) in
    let t = all_same tokens test is same xs ys r q hr hq s.1 in
    (ap (λ z. z ∷ xs) s.0 ∙ ap (λ zs. y ∷ zs) t.0, t.1)

-- ---- each item

same_declared : (keyword : List ℕ) (x y : Declared) (r q : Row) → Same (declared_tokens keyword) x y r q
same_declared keyword x y r q e =
    let high : x.high ≡ y.high = ap (λ t. text_of (nth t 2)) e in
    let name : x.name ≡ y.name = ap (λ t. text_of (nth t 6)) e in
    let same : x ≡ y = ap (λ h. record { high = h; name = x.name }) high ∙ ap (λ n. record { high = y.high; name = n }) name in
    (same, same_front (declared_tokens keyword x) r q (e ∙ ap (λ z. declared_tokens keyword z ++ q) (sym same)))

same_memory : (x y : DeclaredMemory) (r q : Row) → Same memory_tokens x y r q
same_memory x y r q e =
    let high : x.high ≡ y.high = ap (λ t. text_of (nth t 2)) e in
    let name : x.name ≡ y.name = ap (λ t. text_of (nth t 6)) e in
    let last : x.last ≡ y.last = ap (λ t. text_of (nth t 10)) e in
    let same : x ≡ y =
    ap (λ h. record { high = h; name = x.name; last = x.last }) high ∙ (ap (λ n. record { high = y.high; name = n; last = x.last }) name ∙ ap (λ l. record { high = y.high; name = y.name; last = l }) last) in
    (same, same_front (memory_tokens x) r q (e ∙ ap (λ z. memory_tokens z ++ q) (sym same)))

abbrev drop8 : Row → Row
drop8 (a ∷ b ∷ c ∷ d ∷ e ∷ f ∷ g ∷ h ∷ rest) = rest
drop8 ts = ts

-- the tokens of a wire up to its net
abbrev wire_front : DeclaredWire → Row → Row
wire_front x rest = word (codes "wire") ++ (range_tokens x.high ++ (word x.name ++ (sign (codes "=") ++ rest)))

wire_is : (x : DeclaredWire) (r : Row) → wire_tokens x ++ r ≡ wire_front x (closed x.net r)
wire_is x r = ap (wire_front x) (append_assoc (expression_tokens x.net) (sign (codes ";")) r)

same_wire : (x y : DeclaredWire) (r q : Row) → Same wire_tokens x y r q
same_wire x y r q e =
    let f : wire_front x (closed x.net r) ≡ wire_front y (closed y.net q) = sym (wire_is x r) ∙ (e ∙ wire_is y q) in
    let high : x.high ≡ y.high = ap (λ t. text_of (nth t 2)) f in
    let name : x.name ≡ y.name = ap (λ t. text_of (nth t 6)) f in
    let net = same_net x.net y.net r q (ap drop8 f) in
    (ap (λ h. record { high = h; name = x.name; net = x.net }) high ∙ (ap (λ n. record { high = y.high; name = n; net = x.net }) name ∙ ap (λ t. record { high = y.high; name = y.name; net = t }) net.0), net.1)

abbrev drop3 : Row → Row
drop3 (a ∷ b ∷ c ∷ rest) = rest
drop3 ts = ts

same_assign : (x y : Assign) (r q : Row) → Same assign_tokens x y r q
same_assign x y r q e =
    let name : x.name ≡ y.name = ap (λ t. text_of (nth t 1)) e in
    let f = ap drop3 e in
    let from = same_operand x.from y.from (sign (codes ";") ++ r) (sign (codes ";") ++ q) (sym (append_assoc (operand_tokens x.from) (sign (codes ";")) r) ∙ (f ∙ append_assoc (operand_tokens y.from) (sign (codes ";")) q)) in
    (ap (λ n. record { name = n; from = x.from }) name ∙ ap (λ a. record { name = y.name; from = a }) from.0, same_front (sign (codes ";")) r q from.1)

abbrev drop2 : Row → Row
drop2 (a ∷ b ∷ rest) = rest
drop2 ts = ts

abbrev drop1 : Row → Row
drop1 (a ∷ rest) = rest
drop1 [] = []

-- `if (enable) name` and what follows
abbrev tested : Operand → List ℕ → Row → Row
tested enable name rest = word (codes "if") ++ (sign (codes "(") ++ (operand_tokens enable ++ (sign (codes ")") ++ (word name ++ rest))))

same_tested : (a b : Operand) (n p : List ℕ) (r q : Row) → tested a n r ≡ tested b p q → (a ≡ b) × (n ≡ p) × (r ≡ q)
same_tested a b n p r q e =
    let o = same_operand a b (sign (codes ")") ++ (word n ++ r)) (sign (codes ")") ++ (word p ++ q)) (ap drop2 e) in (o.0, ap (λ t. text_of (nth t 1)) o.1, ap drop2 o.1)

test_is : (a : Operand) (rest : Row) → test_tokens a ++ rest ≡ word (codes "if") ++ (sign (codes "(") ++ (operand_tokens a ++ (sign (codes ")") ++ rest)))
test_is a rest = ap (λ t. word (codes "if") ++ (sign (codes "(") ++ t)) (append_assoc (operand_tokens a) (sign (codes ")")) rest)

abbrev write_behind : Write → Row → Row
write_behind x r = sign (codes "[") ++ (operand_tokens x.address ++ (sign (codes "]") ++ (sign (codes "<=") ++ (operand_tokens x.value ++ (sign (codes ";") ++ r)))))

write_is : (x : Write) (r : Row) → write_tokens x ++ r ≡ tested x.enable x.memory (write_behind x r)
write_is x r =
    let value = sign (codes ";") in
    let tail = sign (codes "]") ++ (sign (codes "<=") ++ (operand_tokens x.value ++ value)) in
    append_assoc (test_tokens x.enable) (word x.memory ++ (sign (codes "[") ++ (operand_tokens x.address ++ tail))) r
    ∙ (test_is x.enable ((word x.memory ++ (sign (codes "[") ++ (operand_tokens x.address ++ tail))) ++ r)
    ∙ (ap (λ t. tested x.enable x.memory (sign (codes "[") ++ t)) (append_assoc (operand_tokens x.address) tail r)
    ∙ ap (λ t. tested x.enable x.memory (sign (codes "[") ++ (operand_tokens x.address ++ (sign (codes "]") ++ (sign (codes "<=") ++ t))))) (append_assoc (operand_tokens x.value) value r)))

same_write : (x y : Write) (r q : Row) → Same write_tokens x y r q
same_write x y r q e =
    let t = same_tested x.enable y.enable x.memory y.memory (write_behind x r) (write_behind y q) (sym (write_is x r) ∙ (e ∙ write_is y q)) in
    let a = same_operand x.address y.address _ _ (ap drop1 t.2) in
    let v = same_operand x.value y.value _ _ (ap drop2 a.1) in (
      ap (λ z. record { enable = z; memory = x.memory; address = x.address; value = x.value }) t.0
          ∙ (ap (λ z. record { enable = y.enable; memory = z; address = x.address; value = x.value }) t.1
          ∙ (ap (λ z. record { enable = y.enable; memory = y.memory; address = z; value = x.value }) a.0
          ∙ ap (λ z. record { enable = y.enable; memory = y.memory; address = y.address; value = z }) v.0)),
      ap drop1 v.1,
    )

-- ---- blocks

abbrev begins_if : Row → Bool
begins_if ts = is_word (codes "if") (nth ts 0)

is_write : (x : Write) (r : Row) → begins_if (write_tokens x ++ r) ≡ true
is_write x r = refl

register_is : (enable : Operand) (name : List ℕ) (next : Operand) (r : Row) → block_tokens (Register enable name next) ++ r ≡ tested enable name (sign (codes "<=") ++ (operand_tokens next ++ (sign (codes ";") ++ r)))
register_is enable name next r =
    append_assoc (test_tokens enable) (word name ++ (sign (codes "<=") ++ (operand_tokens next ++ sign (codes ";")))) r
    ∙ (test_is enable ((word name ++ (sign (codes "<=") ++ (operand_tokens next ++ sign (codes ";")))) ++ r)
    ∙ ap (λ t. tested enable name (sign (codes "<=") ++ t)) (append_assoc (operand_tokens next) (sign (codes ";")) r))

writes_is : (first : Write) (others : List Write) (r : Row) → block_tokens (Writes first others) ++ r ≡ word (codes "begin") ++ (write_tokens first ++ (all_tokens write_tokens others ++ (word (codes "end") ++ r)))
writes_is first others r =
    ap (λ t. word (codes "begin") ++ t)
    (append_assoc (write_tokens first) (all_tokens write_tokens others ++ word (codes "end")) r ∙ ap (λ t. write_tokens first ++ t) (append_assoc (all_tokens write_tokens others) (word (codes "end")) r))

begins_register : (enable : Operand) (name : List ℕ) (next : Operand) (r : Row) → begins_if (block_tokens (Register enable name next) ++ r) ≡ true
begins_register enable name next r = refl

begins_writes : (first : Write) (others : List Write) (r : Row) → begins_if (block_tokens (Writes first others) ++ r) ≡ false
begins_writes first others r = refl

same_block : (x y : Always) (r q : Row) → Same block_tokens x y r q
same_block (Register a n v) (Register b p w) r q e =
    let t = same_tested a b n p _ _ (sym (register_is a n v r) ∙ (e ∙ register_is b p w q)) in
    let u = same_operand v w (sign (codes ";") ++ r) (sign (codes ";") ++ q) (ap drop1 t.2) in
    (ap (λ z. Register z n v) t.0 ∙ (ap (λ z. Register b z v) t.1 ∙ ap (Register b p) u.0), ap drop1 u.1)
same_block (Writes x xs) (Writes y ys) r q e =
    let f = sym (writes_is x xs r) ∙ (e ∙ writes_is y ys q) in
    let one = same_write x y (all_tokens write_tokens xs ++ (word (codes "end") ++ r)) (all_tokens write_tokens ys ++ (word (codes "end") ++ q)) (ap drop1 f) in
    let all = all_same write_tokens begins_if is_write same_write xs ys (word (codes "end") ++ r) (word (codes "end") ++ q) refl refl one.1 in
    (ap (λ z. Writes z xs) one.0 ∙ ap (Writes y) all.0, ap drop1 all.1)
same_block (Register a n v) (Writes y ys) r q e = absurd (false≢true (sym (sym (begins_register a n v r) ∙ (ap begins_if e ∙ begins_writes y ys q))))
same_block (Writes x xs) (Register b p w) r q e = absurd (false≢true (sym (begins_writes x xs r) ∙ (ap begins_if e ∙ begins_register b p w q)))

abbrev drop6 : Row → Row
drop6 (a ∷ b ∷ c ∷ d ∷ e ∷ f ∷ rest) = rest
drop6 ts = ts

same_always : (x y : Always) (r q : Row) → Same always_tokens x y r q
same_always x y r q e = same_block x y r q (ap drop6 e)

-- ---- the whole

abbrev begins_comma : Row → Bool
begins_comma ts = is_sign (codes ",") (nth ts 0)

same_header : (x y : List ℕ) (r q : Row) → Same header_tokens x y r q
same_header x y r q e = (ap (λ t. text_of (nth t 1)) e, ap drop2 e)

abbrev begins_with : List ℕ → Row → Bool
begins_with keyword ts = is_word keyword (nth ts 0)

-- a register's declaration, which a memory's is not
abbrev begins_register_declaration : Row → Bool
begins_register_declaration ts = is_word (codes "reg") (nth ts 0) && is_sign (codes ";") (nth ts 7)

abbrev end_row : Row
end_row = word (codes "endmodule")

abbrev blocks_row : Syntax → Row
blocks_row s = all_tokens always_tokens s.blocks ++ end_row

abbrev assigns_row : Syntax → Row
assigns_row s = all_tokens assign_tokens s.assigns ++ blocks_row s

abbrev wires_row : Syntax → Row
wires_row s = all_tokens wire_tokens s.wires ++ assigns_row s

abbrev mems_row : Syntax → Row
mems_row s = all_tokens memory_tokens s.mems ++ wires_row s

abbrev regs_row : Syntax → Row
regs_row s = all_tokens (declared_tokens (codes "reg")) s.regs ++ mems_row s

abbrev outputs_row : Syntax → Row
outputs_row s = all_tokens (declared_tokens (codes "output")) s.outputs ++ regs_row s

abbrev inputs_row : Syntax → Row
inputs_row s = all_tokens (declared_tokens (codes "input")) s.inputs ++ outputs_row s

-- a row of items that pass no test, before a row that does not
not_all : {A : Type 0} (tokens : A → Row) (test : Row → Bool) → ((x : A) (r : Row) → test (tokens x ++ r) ≡ false) → (xs : List A) (r : Row) → test r ≡ false → test (all_tokens tokens xs ++ r) ≡ false
not_all tokens test h [] r k = k
not_all tokens test h (x ∷ xs) r k = ap test (append_assoc (tokens x) (all_tokens tokens xs) r) ∙ h x (all_tokens tokens xs ++ r)

blocks_not : (test : Row → Bool) → ((x : Always) (r : Row) → test (always_tokens x ++ r) ≡ false) → test end_row ≡ false → (s : Syntax) → test (blocks_row s) ≡ false
blocks_not test b e s = not_all always_tokens test b s.blocks end_row e

assigns_not : (test : Row → Bool) → ((x : Assign) (r : Row) → test (assign_tokens x ++ r) ≡ false) → ((x : Always) (r : Row) → test (always_tokens x ++ r) ≡ false) → test end_row ≡ false → (s : Syntax) → test (assigns_row s) ≡ false
assigns_not test a b e s = not_all assign_tokens test a s.assigns (blocks_row s) (blocks_not test b e s)

wires_not : (test : Row → Bool) → ((x : DeclaredWire) (r : Row) → test (wire_tokens x ++ r) ≡ false) → ((x : Assign) (r : Row) → test (assign_tokens x ++ r) ≡ false) → ((x : Always) (r : Row) → test (always_tokens x ++ r) ≡ false)
    → test end_row ≡ false → (s : Syntax) → test (wires_row s) ≡ false
wires_not test w a b e s = not_all wire_tokens test w s.wires (assigns_row s) (assigns_not test a b e s)

mems_not : (test : Row → Bool) → ((x : DeclaredMemory) (r : Row) → test (memory_tokens x ++ r) ≡ false) → ((x : DeclaredWire) (r : Row) → test (wire_tokens x ++ r) ≡ false) → ((x : Assign) (r : Row) → test (assign_tokens x ++ r) ≡ false)
    → ((x : Always) (r : Row) → test (always_tokens x ++ r) ≡ false) → test end_row ≡ false → (s : Syntax) → test (mems_row s) ≡ false
mems_not test k w a b e s = not_all memory_tokens test k s.mems (wires_row s) (wires_not test w a b e s)

regs_not : (test : Row → Bool) → ((x : Declared) (r : Row) → test (declared_tokens (codes "reg") x ++ r) ≡ false) → ((x : DeclaredMemory) (r : Row) → test (memory_tokens x ++ r) ≡ false) → ((x : DeclaredWire) (r : Row) → test (wire_tokens x ++ r) ≡ false)
    → ((x : Assign) (r : Row) → test (assign_tokens x ++ r) ≡ false) → ((x : Always) (r : Row) → test (always_tokens x ++ r) ≡ false) → test end_row ≡ false → (s : Syntax) → test (regs_row s) ≡ false
regs_not test d k w a b e s = not_all (declared_tokens (codes "reg")) test d s.regs (mems_row s) (mems_not test k w a b e s)

abbrev drop5 : Row → Row
drop5 (a ∷ b ∷ c ∷ d ∷ e ∷ rest) = rest
drop5 ts = ts

abbrev drop4 : Row → Row
drop4 (a ∷ b ∷ c ∷ d ∷ rest) = rest
drop4 ts = ts

pub same_syntax : (s t : Syntax) → syntax_tokens s ≡ syntax_tokens t → s ≡ t
same_syntax s t e =
    let name : s.name ≡ t.name = ap (λ r. text_of (nth r 1)) e in
    let header = all_same header_tokens begins_comma (λ x r. refl) same_header s.header t.header _ _ refl refl (ap drop4 e) in
    let input = codes "input" in
    let output = codes "output" in
    let wire = codes "wire" in
    let assign = codes "assign" in
    let always = codes "always" in
    let inputs = all_same (declared_tokens input) (begins_with input) (λ x r. refl) (same_declared input) s.inputs t.inputs (outputs_row s) (outputs_row t)
    (not_all (declared_tokens output) (begins_with input) (λ x r. refl) s.outputs (regs_row s) (regs_not (begins_with input) (λ x r. refl) (λ x r. refl) (λ x r. refl) (λ x r. refl) (λ x r. refl) refl s))
    (not_all (declared_tokens output) (begins_with input) (λ x r. refl) t.outputs (regs_row t) (regs_not (begins_with input) (λ x r. refl) (λ x r. refl) (λ x r. refl) (λ x r. refl) (λ x r. refl) refl t)) (ap drop5 header.1) in
    let outputs = all_same (declared_tokens output) (begins_with output) (λ x r. refl) (same_declared output) s.outputs t.outputs (regs_row s) (regs_row t)
    (regs_not (begins_with output) (λ x r. refl) (λ x r. refl) (λ x r. refl) (λ x r. refl) (λ x r. refl) refl s) (regs_not (begins_with output) (λ x r. refl) (λ x r. refl) (λ x r. refl) (λ x r. refl) (λ x r. refl) refl t) inputs.1 in
    let regs = all_same (declared_tokens (codes "reg")) begins_register_declaration (λ x r. refl) (same_declared (codes "reg")) s.regs t.regs (mems_row s) (mems_row t)
    (mems_not begins_register_declaration (λ x r. refl) (λ x r. refl) (λ x r. refl) (λ x r. refl) refl s) (mems_not begins_register_declaration (λ x r. refl) (λ x r. refl) (λ x r. refl) (λ x r. refl) refl t) outputs.1 in
    let mems = all_same memory_tokens (begins_with (codes "reg")) (λ x r. refl) same_memory s.mems t.mems (wires_row s) (wires_row t)
    (wires_not (begins_with (codes "reg")) (λ x r. refl) (λ x r. refl) (λ x r. refl) refl s) (wires_not (begins_with (codes "reg")) (λ x r. refl) (λ x r. refl) (λ x r. refl) refl t) regs.1 in
    let wires = all_same wire_tokens (begins_with wire) (λ x r. refl) same_wire s.wires t.wires (assigns_row s) (assigns_row t)
    (assigns_not (begins_with wire) (λ x r. refl) (λ x r. refl) refl s) (assigns_not (begins_with wire) (λ x r. refl) (λ x r. refl) refl t) mems.1 in
    let assigns = all_same assign_tokens (begins_with assign) (λ x r. refl) same_assign s.assigns t.assigns (blocks_row s) (blocks_row t)
    (blocks_not (begins_with assign) (λ x r. refl) refl s) (blocks_not (begins_with assign) (λ x r. refl) refl t) wires.1 in
    let blocks = all_same always_tokens (begins_with always) (λ x r. refl) same_always s.blocks t.blocks end_row end_row refl refl assigns.1 in
    ap (λ z. record { name = z; header = s.header; inputs = s.inputs; outputs = s.outputs; regs = s.regs; mems = s.mems; wires = s.wires; assigns = s.assigns; blocks = s.blocks }) name
    ∙ (ap (λ z. record { name = t.name; header = z; inputs = s.inputs; outputs = s.outputs; regs = s.regs; mems = s.mems; wires = s.wires; assigns = s.assigns; blocks = s.blocks }) header.0
    ∙ (ap (λ z. record { name = t.name; header = t.header; inputs = z; outputs = s.outputs; regs = s.regs; mems = s.mems; wires = s.wires; assigns = s.assigns; blocks = s.blocks }) inputs.0
    ∙ (ap (λ z. record { name = t.name; header = t.header; inputs = t.inputs; outputs = z; regs = s.regs; mems = s.mems; wires = s.wires; assigns = s.assigns; blocks = s.blocks }) outputs.0
    ∙ (ap (λ z. record { name = t.name; header = t.header; inputs = t.inputs; outputs = t.outputs; regs = z; mems = s.mems; wires = s.wires; assigns = s.assigns; blocks = s.blocks }) regs.0
    ∙ (ap (λ z. record { name = t.name; header = t.header; inputs = t.inputs; outputs = t.outputs; regs = t.regs; mems = z; wires = s.wires; assigns = s.assigns; blocks = s.blocks }) mems.0
    ∙ (ap (λ z. record { name = t.name; header = t.header; inputs = t.inputs; outputs = t.outputs; regs = t.regs; mems = t.mems; wires = z; assigns = s.assigns; blocks = s.blocks }) wires.0
    ∙ (ap (λ z. record { name = t.name; header = t.header; inputs = t.inputs; outputs = t.outputs; regs = t.regs; mems = t.mems; wires = t.wires; assigns = z; blocks = s.blocks }) assigns.0
    ∙ ap (λ z. record { name = t.name; header = t.header; inputs = t.inputs; outputs = t.outputs; regs = t.regs; mems = t.mems; wires = t.wires; assigns = t.assigns; blocks = z }) blocks.0)))))))
