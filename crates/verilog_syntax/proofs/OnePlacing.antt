-- Tokens at their places say one module, with its places.
use Rattle.std.proofs.Common.{◌≡◌, ℕ, zero, suc, Bool, true, false, List, [], ◌∷◌, ◌++◌, map, codes, append_assoc, refl, sym, ap, ◌∙◌, subst}
use Rattle.std.specs.List.{All}
use Rattle.std.proofs.lemmas.Bool.{false≢true}
use Rattle.std.proofs.lemmas.List.Elements.{All-head, All-tail}
use Rattle.hls_base.specs.declared.place.Place.{Place}
use Rattle.rtl_core.specs.ModuleTokens.{Word, Sign}
use Rattle.rtl_core.specs.ModuleSyntax.{Operand, Expression, Alone, Inverted, Between, Chosen, Joined, Slice, WordOf, Declared, DeclaredMemory, DeclaredWire, Assign, Write, Register, Syntax}
use Rattle.hls_base.specs.TextPlaces.{text_start}
use Rattle.verilog_syntax.specs.Lexemes.{Lexeme}
use Rattle.verilog_syntax.specs.PlacedSyntax.{PlacedName, PlacedOperand, PlacedNet, alone, inverted, between, chosen, joined, slice, word_of, PlacedDeclared, PlacedMemory, PlacedWire, PlacedAssign, PlacedWrite, Drive, register, first, further, PlacedModule}
use Rattle.verilog_syntax.specs.Marks.{Mark, fixed, Stands, Stand, NetStands, declared_marks, memory_marks, net_marks, wire_marks, assign_marks, write_marks, drive_marks, opens, in_blocks, end_marks, is_open_behind, open_marks, all_marks, header_mark, clock_marks, item_marks, module_marks}
use Rattle.verilog_syntax.proofs.Unplaced.{declared_plain, memory_plain, net_plain, wire_plain, assign_plain, write_plain, others_plain, blocks_plain, name_plain, syntax_of}

abbrev Line : Type 0
Line = List Lexeme

-- ---- the first tokens of a line

abbrev first_of : Line → Lexeme
first_of [] = record { token = Sign []; place = text_start }
first_of (l ∷ ls) = l

abbrev rest_of : Line → Line
rest_of [] = []
rest_of (l ∷ ls) = ls

abbrev past : ℕ → Line → Line
past zero ls = ls
past (suc n) ls = past n (rest_of ls)

abbrev place_at : Line → ℕ → Place
place_at ls n = (first_of (past n ls)).place

-- the token behind n others and its place are those of its mark
abbrev StandsAt : ℕ → Line → List Mark → Type 0
StandsAt n ls [] = Unit {0}
StandsAt zero ls (m ∷ ms) = Stands (first_of ls) m
StandsAt (suc n) ls (m ∷ ms) = StandsAt n (rest_of ls) ms

stands_at : (n : ℕ) (ls : Line) (ms : List Mark) → Stand ls ms → StandsAt n ls ms
stands_at n ls [] h = tt
stands_at zero [] (m ∷ ms) h = absurd h
stands_at (suc n) [] (m ∷ ms) h = absurd h
stands_at zero (l ∷ ls) (m ∷ ms) h = h.0
stands_at (suc n) (l ∷ ls) (m ∷ ms) h = stands_at n ls ms h.1

-- so are all behind n others
abbrev StandPast : ℕ → Line → List Mark → Type 0
StandPast zero ls ms = Stand ls ms
StandPast (suc n) ls [] = Unit {0}
StandPast (suc n) ls (m ∷ ms) = StandPast n (rest_of ls) ms

stand_past : (n : ℕ) (ls : Line) (ms : List Mark) → Stand ls ms → StandPast n ls ms
stand_past zero ls ms h = h
stand_past (suc n) ls [] h = tt
stand_past (suc n) [] (m ∷ ms) h = absurd h
stand_past (suc n) (l ∷ ls) (m ∷ ms) h = stand_past n ls ms h.1

-- the line behind some marks
abbrev behind : List Mark → Line → Line
behind [] ls = ls
behind (m ∷ ms) ls = behind ms (rest_of ls)

stands_behind : (ms r : List Mark) (ls : Line) → Stand ls (ms ++ r) → Stand (behind ms ls) r
stands_behind [] r ls h = h
stands_behind (m ∷ ms) r [] h = absurd h
stands_behind (m ∷ ms) r (l ∷ ls) h = stands_behind ms r ls h.1

-- ---- items at their places

abbrev name_at : List ℕ → Place → PlacedName
name_at text place = record { text = text; place = place }

abbrev operand_at : Operand → Place → PlacedOperand
operand_at operand place = record { operand = operand; place = place }

abbrev header_at : List ℕ → Line → PlacedName
header_at text ls = name_at text (place_at ls 1)

header_is : (x : PlacedName) (r : List Mark) (ls : Line) → Unit {0} → Stand ls (header_mark x ++ r) → header_at (name_plain x) ls ≡ x
header_is x r ls g s = ap (name_at x.text) (stands_at 1 ls (header_mark x ++ r) s).1

abbrev declared_at : Declared → Line → PlacedDeclared
declared_at x ls = record { high = x.high; name = name_at x.name (place_at ls 6) }

declared_is : (keyword : List ℕ) (x : PlacedDeclared) (r : List Mark) (ls : Line) → Unit {0} → Stand ls (declared_marks keyword x ++ r) → declared_at (declared_plain x) ls ≡ x
declared_is keyword x r ls g s =
    let made : Place → PlacedDeclared = λ p. record { high = x.high; name = name_at x.name.text p } in ap made (stands_at 6 ls (declared_marks keyword x ++ r) s).1

abbrev memory_at : DeclaredMemory → Line → PlacedMemory
memory_at x ls = record { high = x.high; name = name_at x.name (place_at ls 6); last = x.last }

memory_is : (x : PlacedMemory) (r : List Mark) (ls : Line) → Unit {0} → Stand ls (memory_marks x ++ r) → memory_at (memory_plain x) ls ≡ x
memory_is x r ls g s =
    let made : Place → PlacedMemory = λ p. record { high = x.high; name = name_at x.name.text p; last = x.last } in ap made (stands_at 6 ls (memory_marks x ++ r) s).1

abbrev assign_at : Assign → Line → PlacedAssign
assign_at x ls = record { name = name_at x.name (place_at ls 1); from = operand_at x.from (place_at ls 3) }

assign_is : (x : PlacedAssign) (r : List Mark) (ls : Line) → Unit {0} → Stand ls (assign_marks x ++ r) → assign_at (assign_plain x) ls ≡ x
assign_is x r ls g s =
    let made : Place → Place → PlacedAssign = λ p q. record { name = name_at x.name.text p; from = operand_at x.from.operand q } in
    ap (λ p. made p (place_at ls 3)) (stands_at 1 ls (assign_marks x ++ r) s).1 ∙ ap (made x.name.place) (stands_at 3 ls (assign_marks x ++ r) s).1

abbrev net_at : Expression → Line → PlacedNet
net_at (Alone a) ls = alone (operand_at a (place_at ls 0))
net_at (Inverted a) ls = inverted (operand_at a (place_at ls 1))
net_at (Between op a b) ls = between op (operand_at a (place_at ls 0)) (operand_at b (place_at ls 2))
net_at (Chosen a b c) ls = chosen (operand_at a (place_at ls 0)) (operand_at b (place_at ls 2)) (operand_at c (place_at ls 4))
net_at (Joined a b) ls = joined (operand_at a (place_at ls 1)) (operand_at b (place_at ls 3))
net_at (Slice name high low) ls = slice (name_at name (place_at ls 0)) high low
net_at (WordOf memory a) ls = word_of (name_at memory (place_at ls 0)) (operand_at a (place_at ls 2))

by_two : {A : Type 0} (f : Place → Place → A) (p q x y : Place) → p ≡ x → q ≡ y → f p q ≡ f x y
by_two f p q x y e h = ap (λ z. f z q) e ∙ ap (f x) h

by_three : {A : Type 0} (f : Place → Place → Place → A) (p q s x y z : Place) → p ≡ x → q ≡ y → s ≡ z → f p q s ≡ f x y z
by_three f p q s x y z e h k = by_two (λ a b. f a b s) p q x y e h ∙ ap (f x y) k

net_is : (n : PlacedNet) (place : Place) (r : List Mark) (ls : Line) → NetStands place n → Stand ls (net_marks place n ++ r) → (net_at (net_plain n) ls ≡ n) × (place_at ls 0 ≡ place)
net_is (alone a) place r ls g s = (ap (λ p. alone (operand_at a.operand p)) (stands_at 0 ls (net_marks place (alone a) ++ r) s).1, (stands_at 0 ls (net_marks place (alone a) ++ r) s).1 ∙ sym g)
net_is (inverted a) place r ls g s = (ap (λ p. inverted (operand_at a.operand p)) (stands_at 1 ls (net_marks place (inverted a) ++ r) s).1, (stands_at 0 ls (net_marks place (inverted a) ++ r) s).1)
net_is (between op a b) place r ls g s =
    (by_two (λ p q. between op (operand_at a.operand p) (operand_at b.operand q)) (place_at ls 0) (place_at ls 2) a.place b.place (stands_at 0 ls (net_marks place (between op a b) ++ r) s).1 (stands_at 2 ls (net_marks place (between op a b) ++ r) s).1, (stands_at 0 ls (net_marks place (between op a b) ++ r) s).1 ∙ sym g)
net_is (chosen a b c) place r ls g s = (
  by_three (λ p q t. chosen (operand_at a.operand p) (operand_at b.operand q) (operand_at c.operand t)) (place_at ls 0) (place_at ls 2) (place_at ls 4) a.place b.place c.place (stands_at 0 ls (net_marks place (chosen a b c) ++ r) s).1 (stands_at 2 ls (net_marks place (chosen a b c) ++ r) s).1 (stands_at 4 ls (net_marks place (chosen a b c) ++ r) s).1,
  (stands_at 0 ls (net_marks place (chosen a b c) ++ r) s).1 ∙ sym g,
)
net_is (joined a b) place r ls g s =
    (by_two (λ p q. joined (operand_at a.operand p) (operand_at b.operand q)) (place_at ls 1) (place_at ls 3) a.place b.place (stands_at 1 ls (net_marks place (joined a b) ++ r) s).1 (stands_at 3 ls (net_marks place (joined a b) ++ r) s).1, (stands_at 0 ls (net_marks place (joined a b) ++ r) s).1)
net_is (slice name high low) place r ls g s =
    (ap (λ p. slice (name_at name.text p) high low) (stands_at 0 ls (net_marks place (slice name high low) ++ r) s).1, (stands_at 0 ls (net_marks place (slice name high low) ++ r) s).1 ∙ sym g)
net_is (word_of memory a) place r ls g s =
    (by_two (λ p q. word_of (name_at memory.text p) (operand_at a.operand q)) (place_at ls 0) (place_at ls 2) memory.place a.place (stands_at 0 ls (net_marks place (word_of memory a) ++ r) s).1 (stands_at 2 ls (net_marks place (word_of memory a) ++ r) s).1, (stands_at 0 ls (net_marks place (word_of memory a) ++ r) s).1 ∙ sym g)

abbrev wire_at : DeclaredWire → Line → PlacedWire
wire_at x ls = record { high = x.high; name = name_at x.name (place_at ls 6); net = net_at x.net (past 8 ls); place = place_at (past 8 ls) 0 }

wire_is : (x : PlacedWire) (r : List Mark) (ls : Line) → NetStands x.place x.net → Stand ls (wire_marks x ++ r) → wire_at (wire_plain x) ls ≡ x
wire_is x r ls g s =
    let n = net_is x.net x.place r (past 8 ls) g (stand_past 8 ls (wire_marks x ++ r) s) in
    let made : Place → PlacedNet → Place → PlacedWire = λ p y q. record { high = x.high; name = name_at x.name.text p; net = y; place = q } in
    ap (λ p. made p (net_at (net_plain x.net) (past 8 ls)) (place_at (past 8 ls) 0)) (stands_at 6 ls (wire_marks x ++ r) s).1
    ∙ (ap (λ y. made x.name.place y (place_at (past 8 ls) 0)) n.0 ∙ ap (made x.name.place x.net) n.1)

abbrev write_at : Write → Line → PlacedWrite
write_at x ls = record { enable = operand_at x.enable (place_at ls 2); memory = name_at x.memory (place_at ls 4); address = operand_at x.address (place_at ls 6); value = operand_at x.value (place_at ls 9) }

write_is : (x : PlacedWrite) (r : List Mark) (ls : Line) → Stand ls (write_marks x ++ r) → write_at (write_plain x) ls ≡ x
write_is x r ls s =
    let made : Place → Place → Place → Place → PlacedWrite =
    λ p q t u. record { enable = operand_at x.enable.operand p; memory = name_at x.memory.text q; address = operand_at x.address.operand t; value = operand_at x.value.operand u } in
    by_three (λ p q t. made p q t (place_at ls 9)) (place_at ls 2) (place_at ls 4) (place_at ls 6) x.enable.place x.memory.place x.address.place (stands_at 2 ls (write_marks x ++ r) s).1 (stands_at 4 ls (write_marks x ++ r) s).1 (stands_at 6 ls (write_marks x ++ r) s).1
    ∙ ap (made x.enable.place x.memory.place x.address.place) (stands_at 9 ls (write_marks x ++ r) s).1

-- ---- rows of items

-- what is the same, and a line that both rows stand on from there
record Same (P : Type 0) (r q : List Mark) : Type 0 where
  is_same : P
  line : Line
  left : Stand line r
  right : Stand line q

same_items : {A B : Type 0} (marks : A → List Mark) (plain : A → B) (made : B → Line → A) (Good : A → Type 0)
    → ((x : A) (r : List Mark) (ls : Line) → Good x → Stand ls (marks x ++ r) → made (plain x) ls ≡ x) → (xs ys : List A) (r q : List Mark) (ls : Line) → All Good xs → All Good ys
    → map plain xs ≡ map plain ys → Stand ls (all_marks marks xs ++ r) → Stand ls (all_marks marks ys ++ q) → Same (xs ≡ ys) r q
same_items marks plain made Good is [] [] r q ls g f e h k = record { is_same = refl; line = ls; left = h; right = k }
same_items marks plain made Good is [] (y ∷ ys) r q ls g f e h k = absurd cc
same_items marks plain made Good is (x ∷ xs) [] r q ls g f e h k = absurd cc
same_items marks plain made Good is (x ∷ xs) (y ∷ ys) r q ls g f e h k =
    let one : plain x ≡ plain y = cc in
    let others : map plain xs ≡ map plain ys = cc in
    let left = subst (Stand ls) (append_assoc (marks x) (all_marks marks xs) r) h in
    let right = subst (Stand ls) (append_assoc (marks y) (all_marks marks ys) q) k in
    let same : x ≡ y =
    sym (is x (all_marks marks xs ++ r) ls (All-head Good x xs g) left) ∙ (ap (λ p. made p ls) one ∙ is y (all_marks marks ys ++ q) ls (All-head Good y ys f) right) in
    let rest =
    same_items marks plain made Good is xs ys r q (behind (marks x) ls) (All-tail Good x xs g) (All-tail Good y ys f) others (stands_behind (marks x) (all_marks marks xs ++ r) ls left)
    (subst (λ z. Stand (behind (marks z) ls) (all_marks marks ys ++ q)) (sym same) (stands_behind (marks y) (all_marks marks ys ++ q) ls right)) in
    record { is_same = ap (λ z. z ∷ xs) same ∙ ap (λ zs. y ∷ zs) rest.is_same; line = rest.line; left = rest.left; right = rest.right }

any : {A : Type 0} (xs : List A) → All (λ (x : A). Unit {0}) xs
any xs = λ i x h. tt

-- items before others that stand before some marks
same_next : {A B : Type 0} (marks : A → List Mark) (plain : A → B) (made : B → Line → A) (Good : A → Type 0)
    → ((x : A) (r : List Mark) (ls : Line) → Good x → Stand ls (marks x ++ r) → made (plain x) ls ≡ x) → (xs ys : List A) (r q t u : List Mark) (ls : Line) → All Good xs → All Good ys
    → map plain xs ≡ map plain ys → Stand ls ((all_marks marks xs ++ r) ++ t) → Stand ls ((all_marks marks ys ++ q) ++ u) → Same (xs ≡ ys) (r ++ t) (q ++ u)
same_next marks plain made Good is xs ys r q t u ls g f e h k =
    same_items marks plain made Good is xs ys (r ++ t) (q ++ u) ls g f e (subst (Stand ls) (append_assoc (all_marks marks xs) r t) h) (subst (Stand ls) (append_assoc (all_marks marks ys) q u) k)

-- ---- edges

abbrev register_at : Operand → List ℕ → Operand → Line → Drive
register_at enable name next ls = register (operand_at enable (place_at ls 8)) (name_at name (place_at ls 10)) (operand_at next (place_at ls 12))

register_is : (enable : PlacedOperand) (name : PlacedName) (next : PlacedOperand) (r : List Mark) (ls : Line) → Stand ls (drive_marks (register enable name next) ++ r)
    → register_at enable.operand name.text next.operand ls ≡ register enable name next
register_is enable name next r ls s =
    by_three (λ p q t. register (operand_at enable.operand p) (name_at name.text q) (operand_at next.operand t)) (place_at ls 8) (place_at ls 10) (place_at ls 12) enable.place name.place next.place (stands_at 8 ls (drive_marks (register enable name next) ++ r) s).1 (stands_at 10 ls (drive_marks (register enable name next) ++ r) s).1 (stands_at 12 ls (drive_marks (register enable name next) ++ r) s).1

first_is : (x : PlacedWrite) (r : List Mark) (ls : Line) → Stand ls (drive_marks (first x) ++ r) → first (write_at (write_plain x) (past 7 ls)) ≡ first x
first_is x r ls s = ap first (write_is x r (past 7 ls) (stand_past 7 ls (drive_marks (first x) ++ r) s))

-- the further ports of a block that is open
abbrev others_in : Bool → List Drive → List Write
others_in false ds = []
others_in true ds = others_plain ds

-- one edge before others
abbrev Step : Drive → Drive → List Drive → List Drive → List Mark → List Mark → Type 0
Step d e ds es t u = Same (d ≡ e) (open_marks (opens d) ds ++ t) (open_marks (opens e) es ++ u)

step : (d e : Drive) (ds es : List Drive) (t u : List Mark) (ls : Line) → ((r q : List Mark) → Stand ls (drive_marks d ++ r) → Stand ls (drive_marks e ++ q) → d ≡ e)
    → Stand ls ((drive_marks d ++ open_marks (opens d) ds) ++ t) → Stand ls ((drive_marks e ++ open_marks (opens e) es) ++ u) → Step d e ds es t u
step d e ds es t u ls is h k =
    let left = subst (Stand ls) (append_assoc (drive_marks d) (open_marks (opens d) ds) t) h in
    let right = subst (Stand ls) (append_assoc (drive_marks e) (open_marks (opens e) es) u) k in
    let same : d ≡ e = is (open_marks (opens d) ds ++ t) (open_marks (opens e) es ++ u) left right in record {
      is_same = same;
      line = behind (drive_marks d) ls;
      left = stands_behind (drive_marks d) (open_marks (opens d) ds ++ t) ls left;
      right = subst (λ z. Stand (behind (drive_marks z) ls) (open_marks (opens e) es ++ u)) (sym same) (stands_behind (drive_marks e) (open_marks (opens e) es ++ u) ls right);
    }

same_register : (a : PlacedOperand) (n : PlacedName) (b c : PlacedOperand) (m : PlacedName) (d : PlacedOperand) (ls : Line) → Register a.operand n.text b.operand ≡ Register c.operand m.text d.operand
    → (r q : List Mark) → Stand ls (drive_marks (register a n b) ++ r) → Stand ls (drive_marks (register c m d) ++ q) → register a n b ≡ register c m d
same_register a n b c m d ls e r q h k =
    let enable : a.operand ≡ c.operand = cc in
    let name : n.text ≡ m.text = cc in
    let next : b.operand ≡ d.operand = cc in
    sym (register_is a n b r ls h)
    ∙ (ap (λ z. register_at z n.text b.operand ls) enable ∙ (ap (λ z. register_at c.operand z b.operand ls) name ∙ (ap (λ z. register_at c.operand m.text z ls) next ∙ register_is c m d q ls k)))

same_first : (x y : PlacedWrite) (ls : Line) → write_plain x ≡ write_plain y → (r q : List Mark) → Stand ls (drive_marks (first x) ++ r) → Stand ls (drive_marks (first y) ++ q) → first x ≡ first y
same_first x y ls e r q h k = sym (first_is x r ls h) ∙ (ap (λ w. first (write_at w (past 7 ls))) e ∙ first_is y q ls k)

same_further : (x y : PlacedWrite) (ls : Line) → write_plain x ≡ write_plain y → (r q : List Mark) → Stand ls (drive_marks (further x) ++ r) → Stand ls (drive_marks (further y) ++ q) → further x ≡ further y
same_further x y ls e r q h k = ap further (sym (write_is x r ls h) ∙ (ap (λ w. write_at w ls) e ∙ write_is y q ls k))

joined_drives : (d e : Drive) (ds es : List Drive) → d ≡ e → ds ≡ es → d ∷ ds ≡ e ∷ es
joined_drives d e ds es h k = ap (λ z. z ∷ ds) h ∙ ap (λ zs. e ∷ zs) k

abbrev SameDrives : Bool → List Drive → List Drive → Type 0
SameDrives o ds es =
    (t u : List Mark) (ls : Line) → in_blocks o ds ≡ true → in_blocks o es ≡ true → others_in o ds ≡ others_in o es → blocks_plain ds ≡ blocks_plain es → Stand ls (open_marks o ds ++ t)
    → Stand ls (open_marks o es ++ u) → ds ≡ es

-- a line without the `end` that stands first
without_end : (ls : Line) (ms : List Mark) → Stand ls (fixed (Word (codes "end")) ∷ ms) → Stand (rest_of ls) ms
without_end ls ms h = stands_behind (fixed (Word (codes "end")) ∷ []) ms ls h

same_drives : (o : Bool) (ds es : List Drive) → SameDrives o ds es
same_drives o [] [] t u ls i j a b h k = refl
same_drives o [] (register c m d ∷ es) t u ls i j a b h k = absurd cc
same_drives o [] (first y ∷ es) t u ls i j a b h k = absurd cc
same_drives false [] (further y ∷ es) t u ls i j a b h k = absurd (false≢true j)
same_drives true [] (further y ∷ es) t u ls i j a b h k = absurd cc
same_drives o (register c m d ∷ ds) [] t u ls i j a b h k = absurd cc
same_drives o (first x ∷ ds) [] t u ls i j a b h k = absurd cc
same_drives false (further x ∷ ds) [] t u ls i j a b h k = absurd (false≢true i)
same_drives true (further x ∷ ds) [] t u ls i j a b h k = absurd cc
same_drives o (register c m d ∷ ds) (first y ∷ es) t u ls i j a b h k = absurd cc
same_drives o (first x ∷ ds) (register c m d ∷ es) t u ls i j a b h k = absurd cc
same_drives false (register c m d ∷ ds) (further y ∷ es) t u ls i j a b h k = absurd (false≢true j)
same_drives true (register c m d ∷ ds) (further y ∷ es) t u ls i j a b h k = absurd cc
same_drives false (first x ∷ ds) (further y ∷ es) t u ls i j a b h k = absurd (false≢true j)
same_drives true (first x ∷ ds) (further y ∷ es) t u ls i j a b h k = absurd cc
same_drives false (further x ∷ ds) (register c m d ∷ es) t u ls i j a b h k = absurd (false≢true i)
same_drives true (further x ∷ ds) (register c m d ∷ es) t u ls i j a b h k = absurd cc
same_drives false (further x ∷ ds) (first y ∷ es) t u ls i j a b h k = absurd (false≢true i)
same_drives true (further x ∷ ds) (first y ∷ es) t u ls i j a b h k = absurd cc
same_drives false (register a1 n1 b1 ∷ ds) (register a2 n2 b2 ∷ es) t u ls i j a b h k =
    let one : Register a1.operand n1.text b1.operand ≡ Register a2.operand n2.text b2.operand = cc in
    let others : blocks_plain ds ≡ blocks_plain es = cc in
    let s = step (register a1 n1 b1) (register a2 n2 b2) ds es t u ls (same_register a1 n1 b1 a2 n2 b2 ls one) h k in
    joined_drives (register a1 n1 b1) (register a2 n2 b2) ds es s.is_same (same_drives false ds es t u s.line i j refl others s.left s.right)
same_drives true (register a1 n1 b1 ∷ ds) (register a2 n2 b2 ∷ es) t u ls i j a b h k =
    let one : Register a1.operand n1.text b1.operand ≡ Register a2.operand n2.text b2.operand = cc in
    let others : blocks_plain ds ≡ blocks_plain es = cc in
    let s = step (register a1 n1 b1) (register a2 n2 b2) ds es t u (rest_of ls) (same_register a1 n1 b1 a2 n2 b2 (rest_of ls) one) (without_end ls _ h) (without_end ls _ k) in
    joined_drives (register a1 n1 b1) (register a2 n2 b2) ds es s.is_same (same_drives false ds es t u s.line i j refl others s.left s.right)
same_drives false (first x ∷ ds) (first y ∷ es) t u ls i j a b h k =
    let one : write_plain x ≡ write_plain y = cc in
    let ports : others_plain ds ≡ others_plain es = cc in
    let others : blocks_plain ds ≡ blocks_plain es = cc in
    let s = step (first x) (first y) ds es t u ls (same_first x y ls one) h k in
    joined_drives (first x) (first y) ds es s.is_same (same_drives true ds es t u s.line i j ports others s.left s.right)
same_drives true (first x ∷ ds) (first y ∷ es) t u ls i j a b h k =
    let one : write_plain x ≡ write_plain y = cc in
    let ports : others_plain ds ≡ others_plain es = cc in
    let others : blocks_plain ds ≡ blocks_plain es = cc in
    let s = step (first x) (first y) ds es t u (rest_of ls) (same_first x y (rest_of ls) one) (without_end ls _ h) (without_end ls _ k) in
    joined_drives (first x) (first y) ds es s.is_same (same_drives true ds es t u s.line i j ports others s.left s.right)
same_drives false (further x ∷ ds) (further y ∷ es) t u ls i j a b h k = absurd (false≢true i)
same_drives true (further x ∷ ds) (further y ∷ es) t u ls i j a b h k =
    let one : write_plain x ≡ write_plain y = cc in
    let ports : others_plain ds ≡ others_plain es = cc in
    let s = step (further x) (further y) ds es t u ls (same_further x y ls one) h k in
    joined_drives (further x) (further y) ds es s.is_same (same_drives true ds es t u s.line i j ports b s.left s.right)

-- ---- the whole

pub one_module : (m n : PlacedModule) (ls : Line) → Stand ls (module_marks m) → Stand ls (module_marks n) → in_blocks false m.drives ≡ true → in_blocks false n.drives ≡ true
    → All (λ (x : PlacedWire). NetStands x.place x.net) m.wires → All (λ (x : PlacedWire). NetStands x.place x.net) n.wires → syntax_of m ≡ syntax_of n → m ≡ n
one_module m n ls h k i j f g e =
    let t = end_marks (is_open_behind false m.drives) ++ fixed (Word (codes "endmodule")) ∷ [] in
    let u = end_marks (is_open_behind false n.drives) ++ fixed (Word (codes "endmodule")) ∷ [] in
    let name : m.name ≡ n.name =
    sym (ap (name_at m.name.text) (stands_at 1 ls (module_marks m) h).1) ∙ (ap (λ (s : Syntax). name_at s.name (place_at ls 1)) e ∙ ap (name_at n.name.text) (stands_at 1 ls (module_marks n) k).1) in
    let header = same_items header_mark name_plain header_at (λ (x : PlacedName). Unit {0}) header_is m.header n.header _ _ (past 4 ls) (any m.header) (any n.header) (ap (λ (s : Syntax). s.header) e) (stand_past 4 ls (module_marks m) h) (stand_past 4 ls (module_marks n) k) in
    let inputs =
    same_next (declared_marks (codes "input")) declared_plain declared_at (λ (x : PlacedDeclared). Unit {0}) (declared_is (codes "input")) m.inputs n.inputs _ _ t u (behind clock_marks header.line) (any m.inputs) (any n.inputs)
    (ap (λ (s : Syntax). s.inputs) e) (stands_behind clock_marks (item_marks m ++ t) header.line header.left) (stands_behind clock_marks (item_marks n ++ u) header.line header.right) in
    let outputs =
    same_next (declared_marks (codes "output")) declared_plain declared_at (λ (x : PlacedDeclared). Unit {0}) (declared_is (codes "output")) m.outputs n.outputs _ _ t u inputs.line (any m.outputs) (any n.outputs)
    (ap (λ (s : Syntax). s.outputs) e) inputs.left inputs.right in
    let regs =
    same_next (declared_marks (codes "reg")) declared_plain declared_at (λ (x : PlacedDeclared). Unit {0}) (declared_is (codes "reg")) m.regs n.regs _ _ t u outputs.line (any m.regs) (any n.regs)
    (ap (λ (s : Syntax). s.regs) e) outputs.left outputs.right in
    let mems =
    same_next memory_marks memory_plain memory_at (λ (x : PlacedMemory). Unit {0}) memory_is m.mems n.mems _ _ t u regs.line (any m.mems) (any n.mems) (ap (λ (s : Syntax). s.mems) e) regs.left regs.right in
    let wires =
    same_next wire_marks wire_plain wire_at (λ (x : PlacedWire). NetStands x.place x.net) wire_is m.wires n.wires _ _ t u mems.line f g (ap (λ (s : Syntax). s.wires) e) mems.left mems.right in
    let assigns =
    same_next assign_marks assign_plain assign_at (λ (x : PlacedAssign). Unit {0}) assign_is m.assigns n.assigns (open_marks false m.drives) (open_marks false n.drives) t u wires.line (any m.assigns) (any n.assigns)
    (ap (λ (s : Syntax). s.assigns) e) wires.left wires.right in
    let drives = same_drives false m.drives n.drives t u assigns.line i j refl (ap (λ (s : Syntax). s.blocks) e) assigns.left assigns.right in
    ap (λ z. record { name = z; header = m.header; inputs = m.inputs; outputs = m.outputs; regs = m.regs; mems = m.mems; wires = m.wires; assigns = m.assigns; drives = m.drives }) name
    ∙ (ap (λ z. record { name = n.name; header = z; inputs = m.inputs; outputs = m.outputs; regs = m.regs; mems = m.mems; wires = m.wires; assigns = m.assigns; drives = m.drives }) header.is_same
    ∙ (ap (λ z. record { name = n.name; header = n.header; inputs = z; outputs = m.outputs; regs = m.regs; mems = m.mems; wires = m.wires; assigns = m.assigns; drives = m.drives }) inputs.is_same
    ∙ (ap (λ z. record { name = n.name; header = n.header; inputs = n.inputs; outputs = z; regs = m.regs; mems = m.mems; wires = m.wires; assigns = m.assigns; drives = m.drives }) outputs.is_same
    ∙ (ap (λ z. record { name = n.name; header = n.header; inputs = n.inputs; outputs = n.outputs; regs = z; mems = m.mems; wires = m.wires; assigns = m.assigns; drives = m.drives }) regs.is_same
    ∙ (ap (λ z. record { name = n.name; header = n.header; inputs = n.inputs; outputs = n.outputs; regs = n.regs; mems = z; wires = m.wires; assigns = m.assigns; drives = m.drives }) mems.is_same
    ∙ (ap (λ z. record { name = n.name; header = n.header; inputs = n.inputs; outputs = n.outputs; regs = n.regs; mems = n.mems; wires = z; assigns = m.assigns; drives = m.drives }) wires.is_same
    ∙ (ap (λ z. record { name = n.name; header = n.header; inputs = n.inputs; outputs = n.outputs; regs = n.regs; mems = n.mems; wires = n.wires; assigns = z; drives = m.drives }) assigns.is_same
    ∙ ap (λ z. record { name = n.name; header = n.header; inputs = n.inputs; outputs = n.outputs; regs = n.regs; mems = n.mems; wires = n.wires; assigns = n.assigns; drives = z }) drives)))))))
