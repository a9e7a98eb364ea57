-- The tokens of a text that means a circuit are those of a module in the grammar.
use Rattle.std.proofs.Common.{◌≡◌, inl, inr, ℕ, ◌+◌, ◌-◌, ◌<◌, ◌≤◌, List, [], ◌∷◌, ◌++◌, length, map, drop, get_or, codes, Some, append_assoc, refl, sym, ap, ◌∙◌, subst, arith, get_or-drop}
use Rattle.std.specs.Prelude.{slice_get}
use Rattle.std.specs.List.{All, Contains}
use Rattle.std.proofs.lemmas.List.{length-drop}
use Rattle.std.proofs.lemmas.List.Sorted.{Contains-permutation}
use Rattle.std.proofs.lemmas.List.Elements.{All-nil, All-cons, All-head, All-tail, All-append, All-contains, Contains-get_or}
use Rattle.rtl_core.specs.declared.design.Atom.{Atom}
use Rattle.rtl_core.specs.declared.design.Atom.TheVariants as atom
use Rattle.rtl_core.specs.declared.design.Net.{Net}
use Rattle.rtl_core.specs.declared.design.Wire.{Wire}
use Rattle.rtl_core.specs.declared.design.Port.{Port}
use Rattle.rtl_core.specs.Netlist.{Netlist}
use Rattle.rtl_core.specs.Valid.{IsName}
use Rattle.rtl_core.specs.ModuleTokens.{Token, Word, Constant}
use Rattle.rtl_core.specs.ModuleSyntax.{Operand, Named, Fixed, Expression, Alone, Inverted, Between, Chosen, Joined, Slice, WordOf, Declared, DeclaredMemory, DeclaredWire, Assign, Write, Always, Register, Writes, Syntax, word, sign, operator, range_tokens, operand_tokens, expression_tokens, declared_tokens, memory_tokens, wire_tokens, assign_tokens, write_tokens, all_tokens, always_tokens, header_tokens, syntax_tokens}
use Rattle.rtl_core.specs.ModuleText.{Names, names_in, output_names, declared_name, OperandMeans, ExpressionMeans, WireMeans, InOrder, none, another, AssignMeans, WriteMeans, BlockMeans, Means}
use Rattle.rtl_core.proofs.Checks.{All-left, All-right, All-map_back}
use Rattle.verilog_syntax.specs.declared.form.Class.{Class}
use Rattle.verilog_syntax.specs.declared.form.Class.TheVariants as c
use Rattle.verilog_syntax.specs.declared.form.Form.{Form}
use Rattle.verilog_syntax.specs.declared.form.Form.TheVariants as f
use Rattle.verilog_syntax.specs.Forms.{FitsClass, FitsAll, classes_of, items, followers_of, Goes, ended, goes, IsModule}
use Rattle.verilog_syntax.proofs.Places.{by_places, All-place, place_contains, get_map}

abbrev Row : Type 0
Row = List Token

-- ---- names

abbrev pub ProperOperand : Operand → Type 0
ProperOperand (Named name) = IsName name
ProperOperand (Fixed bits value) = Unit {0}

abbrev pub ProperNet : Expression → Type 0
ProperNet (Alone a) = ProperOperand a
ProperNet (Inverted a) = ProperOperand a
ProperNet (Between op a b) = ProperOperand a × ProperOperand b
ProperNet (Chosen a b c) = ProperOperand a × ProperOperand b × ProperOperand c
ProperNet (Joined a b) = ProperOperand a × ProperOperand b
ProperNet (Slice name high low) = IsName name
ProperNet (WordOf memory a) = IsName memory × ProperOperand a

abbrev pub ProperWrite : Write → Type 0
ProperWrite x = ProperOperand x.enable × IsName x.memory × ProperOperand x.address × ProperOperand x.value

abbrev pub ProperBlock : Always → Type 0
ProperBlock (Register enable name next) = ProperOperand enable × IsName name × ProperOperand next
ProperBlock (Writes first others) = ProperWrite first × All ProperWrite others

pub record Proper (s : Syntax) : Type 0 where
  pub name : IsName s.name
  pub header : All IsName s.header
  pub inputs : All (λ (x : Declared). IsName x.name) s.inputs
  pub outputs : All (λ (x : Declared). IsName x.name) s.outputs
  pub regs : All (λ (x : Declared). IsName x.name) s.regs
  pub mems : All (λ (x : DeclaredMemory). IsName x.name) s.mems
  pub wires : All (λ (x : DeclaredWire). IsName x.name × ProperNet x.net) s.wires
  pub assigns : All (λ (x : Assign). IsName x.name × ProperOperand x.from) s.assigns
  pub blocks : All ProperBlock s.blocks

-- ---- the names of a text that means a circuit are names

module _ (s : Syntax) (d : Netlist) (p : Means s d) where
  abbrev n : Names
  n = names_in s

  ins : All IsName (names_in s).inputs
  ins = All-left IsName n.inputs _ p.names

  outs : All IsName (output_names s)
  outs = All-left IsName (output_names s) _ (All-right IsName n.inputs _ p.names)

  state : All IsName ((names_in s).regs ++ ((names_in s).mems ++ (names_in s).wires))
  state = All-right IsName (output_names s) _ (All-right IsName n.inputs _ p.names)

  reg_names : All IsName (names_in s).regs
  reg_names = All-left IsName n.regs _ state

  mem_names : All IsName (names_in s).mems
  mem_names = All-left IsName n.mems n.wires (All-right IsName n.regs _ state)

  wire_names : All IsName (names_in s).wires
  wire_names = All-right IsName n.mems n.wires (All-right IsName n.regs _ state)

  operand_proper : (x : Operand) (a : Atom) → OperandMeans (names_in s) x a → ProperOperand x
  operand_proper (Fixed bits value) a h = tt
  operand_proper (Named z) (atom.Constant b v) h = absurd h
  operand_proper (Named z) (atom.Input k) h = All-place IsName n.inputs k z ins h
  operand_proper (Named z) (atom.Reg k) h = All-place IsName n.regs k z reg_names h
  operand_proper (Named z) (atom.Wire k) h = All-place IsName n.wires k z wire_names h

  net_proper : (x : Expression) (t : Net) → ExpressionMeans (names_in s) x t → ProperNet x
  net_proper (Alone a) t h = operand_proper a h.0 h.2
  net_proper (Inverted a) t h = operand_proper a h.0 h.2
  net_proper (Between op a b) t h = (operand_proper a h.0 h.3, operand_proper b h.1 h.4)
  net_proper (Chosen a b c) t h = (operand_proper a h.0 h.4, operand_proper b h.1 h.5, operand_proper c h.2 h.6)
  net_proper (Joined a b) t h = (operand_proper a h.0 h.3, operand_proper b h.1 h.4)
  net_proper (Slice name high low) t h = operand_proper (Named name) h.0 h.2
  net_proper (WordOf memory a) t h = (All-place IsName n.mems h.0 memory mem_names h.3, operand_proper a h.1 h.4)

  wires_proper : (xs : List DeclaredWire) (ws : List Wire) → All (λ (x : DeclaredWire). IsName x.name) xs → InOrder (WireMeans (names_in s)) xs ws → All (λ (x : DeclaredWire). IsName x.name × ProperNet x.net) xs
  wires_proper _ _ all none = All-nil (λ (x : DeclaredWire). IsName x.name × ProperNet x.net)
  wires_proper _ _ all (another x w xs ws h hs) =
      All-cons (λ (x : DeclaredWire). IsName x.name × ProperNet x.net) x xs (All-head (λ (x : DeclaredWire). IsName x.name) x xs all, net_proper x.net w.net h.net)
      (wires_proper xs ws (All-tail (λ (x : DeclaredWire). IsName x.name) x xs all) hs)

  write_proper : (memory : List ℕ) (x : Write) (q : Port) → IsName memory → WriteMeans (names_in s) memory x q → ProperWrite x
  write_proper memory x q named h =
      (operand_proper x.enable q.enable h.enable, subst IsName (sym h.target) named, operand_proper x.address q.addr h.address, operand_proper x.value q.value h.value)

  writes_proper : (memory : List ℕ) (xs : List Write) (qs : List Port) → IsName memory → InOrder (WriteMeans (names_in s) memory) xs qs → All ProperWrite xs
  writes_proper memory _ _ named none = All-nil ProperWrite
  writes_proper memory _ _ named (another x q xs qs h hs) = All-cons ProperWrite x xs (write_proper memory x q named h) (writes_proper memory xs qs named hs)

  block_proper : (x : Always) → BlockMeans (names_in s) d x → ProperBlock x
  block_proper (Register enable name next) h =
      (operand_proper enable h.register.enable h.enable_is, All-place IsName n.regs h.place name reg_names h.named, operand_proper next h.register.next h.next_is)
  block_proper (Writes first others) h =
      let all = writes_proper first.memory (first ∷ others) h.memory.ports (All-place IsName n.mems h.place first.memory mem_names h.named) h.ports in
      (All-head ProperWrite first others all, All-tail ProperWrite first others all)

  assign_proper : (k : ℕ) (x : Assign) → slice_get s.assigns k ≡ Some x → IsName x.name × ProperOperand x.from
  assign_proper k x e =
      let names = map (λ (z : Assign). z.name) s.assigns in
      let there = Contains-permutation names (output_names s) x.name p.assigned_once (place_contains names k x.name (get_map (λ (z : Assign). z.name) s.assigns k x e)) in
      let a = All-place (AssignMeans (names_in s) d.outputs) s.assigns k x p.assigns e in
      (All-contains IsName (output_names s) x.name outs there, operand_proper x.from a.output.from a.from)

  pub proper : IsName s.name → Proper s
  proper named = record {
    name = named;
    header = subst (All IsName) (sym p.header) (All-append IsName n.inputs (output_names s) ins outs);
    inputs = All-map_back IsName declared_name s.inputs ins;
    outputs = All-map_back IsName declared_name s.outputs outs;
    regs = All-map_back IsName declared_name s.regs reg_names;
    mems = All-map_back IsName (λ (x : DeclaredMemory). x.name) s.mems mem_names;
    wires = wires_proper s.wires d.wires (All-map_back IsName (λ (x : DeclaredWire). x.name) s.wires wire_names) p.wires;
    assigns = by_places (λ (x : Assign). IsName x.name × ProperOperand x.from) s.assigns assign_proper;
    blocks = by_places ProperBlock s.blocks (λ k x e. block_proper x (All-place (BlockMeans (names_in s) d) s.blocks k x p.blocks e));
  }

-- ---- one token of an operand

abbrev one_token : Operand → Token
one_token (Named name) = Word name
one_token (Fixed bits value) = Constant bits value

one : (x : Operand) → one_token x ∷ [] ≡ operand_tokens x
one (Named name) = refl
one (Fixed bits value) = refl

operand_fits : (x : Operand) → ProperOperand x → FitsClass c.Operand (one_token x)
operand_fits (Named name) h = inl (name, refl, h)
operand_fits (Fixed bits value) h = inr (bits, value, refl)

abbrev IsFit : List Class → Row → Type 0
IsFit cs ts = FitsAll cs ts

by_one : (cs : List Class) (g : Row → Row) (a : Operand) → FitsAll cs (g (one_token a ∷ [])) → FitsAll cs (g (operand_tokens a))
by_one cs g a h = subst (λ t. FitsAll cs (g t)) (one a) h

by_two : (cs : List Class) (g : Row → Row → Row) (a b : Operand) → FitsAll cs (g (one_token a ∷ []) (one_token b ∷ [])) → FitsAll cs (g (operand_tokens a) (operand_tokens b))
by_two cs g a b h = by_one cs (g (operand_tokens a)) b (by_one cs (λ t. g t (one_token b ∷ [])) a h)

by_three : (cs : List Class) (g : Row → Row → Row → Row) (a b e : Operand) → FitsAll cs (g (one_token a ∷ []) (one_token b ∷ []) (one_token e ∷ [])) → FitsAll cs (g (operand_tokens a) (operand_tokens b) (operand_tokens e))
by_three cs g a b e h = by_one cs (g (operand_tokens a) (operand_tokens b)) e (by_two cs (λ t u. g t u (one_token e ∷ [])) a b h)

-- ---- forms

-- the forms of the items from a place on may stand behind the form
pub record Open (form : Form) (n : ℕ) : Type 0 where
  pub start : ℕ
  pub low : start ≤ n
  pub is : followers_of form ≡ drop start items

open_up : (form : Form) (n k : ℕ) → n ≤ k → Open form n → Open form k
open_up form n k h o = record { start = o.start; low = omega (arith, h, o.low); is = o.is }

may_follow : (form : Form) (n i : ℕ) → Open form n → n ≤ i → i < 15 → Contains (followers_of form) (get_or items i f.Start)
may_follow form n i o low high =
    let far : i - o.start < length (drop o.start items) = omega (arith, length-drop o.start items, o.low, low, high) in
    let place : o.start + (i - o.start) ≡ i = omega (arith, o.low, low) in
    subst (λ fs. Contains fs (get_or items i f.Start)) (sym o.is)
    (subst (Contains (drop o.start items)) (get_or-drop o.start items (i - o.start) f.Start ∙ ap (λ k. get_or items k f.Start) place) (Contains-get_or (drop o.start items) (i - o.start) f.Start far))

abbrev Behind : ℕ → Row → Type 0
Behind n rest = (form : Form) → Open form n → Goes form rest

behind_up : (n k : ℕ) (rest : Row) → n ≤ k → Behind k rest → Behind n rest
behind_up n k rest h b form o = b form (open_up form n k h o)

-- the form of an item, which stands among the items from a place on
record ItemForm (ts : Row) (n : ℕ) : Type 0 where
  place : ℕ
  low : n ≤ place
  high : place < 15
  fits : FitsAll (classes_of (get_or items place f.Start)) ts
  opens : Open (get_or items place f.Start) n

section : {A : Type 0} (P : A → Type 0) (tokens : A → Row) (n : ℕ) → ((x : A) → P x → ItemForm (tokens x) n) → (xs : List A) → All P xs → (rest : Row) → Behind n rest → Behind n (all_tokens tokens xs ++ rest)
section P tokens n h [] all rest b = b
section P tokens n h (x ∷ xs) all rest b = λ form o.
    let i = h x (All-head P x xs all) in
    subst (Goes form) (sym (append_assoc (tokens x) (all_tokens tokens xs) rest))
    (goes form (get_or items i.place f.Start) (tokens x) (all_tokens tokens xs ++ rest) (may_follow form n i.place o i.low i.high) i.fits
    (section P tokens n h xs (All-tail P x xs all) rest b (get_or items i.place f.Start) i.opens))

-- ---- the forms of items

input_form : (x : Declared) → IsName x.name → ItemForm (declared_tokens (codes "input") x) 0
input_form x h = record { place = 0; low = omega arith; high = omega arith; fits = (refl, (refl, ((x.high, refl), (refl, (refl, (refl, ((x.name, refl, h), (refl, tt)))))))); opens = record { start = 0; low = omega arith; is = refl } }

output_form : (x : Declared) → IsName x.name → ItemForm (declared_tokens (codes "output") x) 1
output_form x h = record { place = 1; low = omega arith; high = omega arith; fits = (refl, (refl, ((x.high, refl), (refl, (refl, (refl, ((x.name, refl, h), (refl, tt)))))))); opens = record { start = 1; low = omega arith; is = refl } }

register_form : (x : Declared) → IsName x.name → ItemForm (declared_tokens (codes "reg") x) 2
register_form x h = record { place = 2; low = omega arith; high = omega arith; fits = (refl, (refl, ((x.high, refl), (refl, (refl, (refl, ((x.name, refl, h), (refl, tt)))))))); opens = record { start = 2; low = omega arith; is = refl } }

memory_form : (x : DeclaredMemory) → IsName x.name → ItemForm (memory_tokens x) 3
memory_form x h = record {
  place = 3;
  low = omega arith;
  high = omega arith;
  fits = (refl, (refl, ((x.high, refl), (refl, (refl, (refl, ((x.name, refl, h), (refl, (refl, (refl, ((x.last, refl), (refl, (refl, tt)))))))))))));
  opens = record { start = 3; low = omega arith; is = refl };
}

abbrev wire_row : List ℕ → List ℕ → Row → Row
wire_row high name net = word (codes "wire") ++ (range_tokens high ++ (word name ++ (sign (codes "=") ++ (net ++ sign (codes ";")))))

wire_form : (high name : List ℕ) (x : Expression) → IsName name → ProperNet x → ItemForm (wire_row high name (expression_tokens x)) 4
wire_form high name (Alone a) h p = record {
  place = 4;
  low = omega arith;
  high = omega arith;
  fits = by_one (classes_of f.CopyWire) (λ t. wire_row high name t) a (refl, (refl, ((high, refl), (refl, (refl, (refl, ((name, refl, h), (refl, (operand_fits a p, (refl, tt))))))))));
  opens = record { start = 4; low = omega arith; is = refl };
}
wire_form high name (Inverted a) h p = record {
  place = 5;
  low = omega arith;
  high = omega arith;
  fits = by_one (classes_of f.NotWire) (λ t. wire_row high name (sign (codes "~") ++ t)) a (refl, (refl, ((high, refl), (refl, (refl, (refl, ((name, refl, h), (refl, (refl, (operand_fits a p, (refl, tt)))))))))));
  opens = record { start = 4; low = omega arith; is = refl };
}
wire_form high name (Between op a b) h p = record {
  place = 6;
  low = omega arith;
  high = omega arith;
  fits = by_two (classes_of f.PairWire) (λ t u. wire_row high name (t ++ (sign (operator op) ++ u))) a b
      (refl, (refl, ((high, refl), (refl, (refl, (refl, ((name, refl, h), (refl, (operand_fits a p.0, ((op, refl), (operand_fits b p.1, (refl, tt))))))))))));
  opens = record { start = 4; low = omega arith; is = refl };
}
wire_form high name (Chosen a b e) h p = record {
  place = 7;
  low = omega arith;
  high = omega arith;
  fits = by_three (classes_of f.PickWire) (λ t u v. wire_row high name (t ++ (sign (codes "?") ++ (u ++ (sign (codes ":") ++ v))))) a b e
      (refl, (refl, ((high, refl), (refl, (refl, (refl, ((name, refl, h), (refl, (operand_fits a p.0, (refl, (operand_fits b p.1, (refl, (operand_fits e p.2, (refl, tt))))))))))))));
  opens = record { start = 4; low = omega arith; is = refl };
}
wire_form high name (Joined a b) h p = record {
  place = 8;
  low = omega arith;
  high = omega arith;
  fits = by_two (classes_of f.JoinWire) (λ t u. wire_row high name (sign (codes "{") ++ (t ++ (sign (codes ",") ++ (u ++ sign (codes "}")))))) a b
      (refl, (refl, ((high, refl), (refl, (refl, (refl, ((name, refl, h), (refl, (refl, (operand_fits a p.0, (refl, (operand_fits b p.1, (refl, (refl, tt))))))))))))));
  opens = record { start = 4; low = omega arith; is = refl };
}
wire_form high name (Slice z top low) h p = record {
  place = 9;
  low = omega arith;
  high = omega arith;
  fits = (refl, (refl, ((high, refl), (refl, (refl, (refl, ((name, refl, h), (refl, ((z, refl, p), (refl, ((top, refl), (refl, ((low, refl), (refl, (refl, tt)))))))))))))));
  opens = record { start = 4; low = omega arith; is = refl };
}
wire_form high name (WordOf z a) h p = record {
  place = 10;
  low = omega arith;
  high = omega arith;
  fits = by_one (classes_of f.WordWire) (λ t. wire_row high name (word z ++ (sign (codes "[") ++ (t ++ sign (codes "]"))))) a
      (refl, (refl, ((high, refl), (refl, (refl, (refl, ((name, refl, h), (refl, ((z, refl, p.0), (refl, (operand_fits a p.1, (refl, (refl, tt)))))))))))));
  opens = record { start = 4; low = omega arith; is = refl };
}

assign_form : (x : Assign) → IsName x.name × ProperOperand x.from → ItemForm (assign_tokens x) 11
assign_form x h = record {
  place = 11;
  low = omega arith;
  high = omega arith;
  fits = by_one (classes_of f.Assign) (λ t. word (codes "assign") ++ (word x.name ++ (sign (codes "=") ++ (t ++ sign (codes ";"))))) x.from (refl, ((x.name, refl, h.0), (refl, (operand_fits x.from h.1, (refl, tt)))));
  opens = record { start = 11; low = omega arith; is = refl };
}

-- ---- blocks

abbrev edge : Row → Row
edge rest = word (codes "always") ++ (sign (codes "@") ++ (sign (codes "(") ++ (word (codes "posedge") ++ (word (codes "clk") ++ (sign (codes ")") ++ rest)))))

abbrev testing : Row → Row
testing enable = word (codes "if") ++ (sign (codes "(") ++ (enable ++ sign (codes ")")))

abbrev write_row : List ℕ → Row → Row → Row → Row
write_row memory e a v = testing e ++ (word memory ++ (sign (codes "[") ++ (a ++ (sign (codes "]") ++ (sign (codes "<=") ++ (v ++ sign (codes ";")))))))

port_fits : (x : Write) → ProperWrite x → FitsAll (classes_of f.Port) (write_tokens x)
port_fits x p =
    by_three (classes_of f.Port) (write_row x.memory) x.enable x.address x.value
    (refl, (refl, (operand_fits x.enable p.0, (refl, ((x.memory, refl, p.1), (refl, (operand_fits x.address p.2, (refl, (refl, (operand_fits x.value p.3, (refl, tt)))))))))))

first_fits : (x : Write) → ProperWrite x → FitsAll (classes_of f.MemoryBlock) (edge (word (codes "begin") ++ write_tokens x))
first_fits x p =
    by_three (classes_of f.MemoryBlock) (λ e a v. edge (word (codes "begin") ++ write_row x.memory e a v)) x.enable x.address x.value
    (refl, (refl, (refl, (refl, (refl, (refl, (refl, (refl, (refl, (operand_fits x.enable p.0, (refl, ((x.memory, refl, p.1), (refl, (operand_fits x.address p.2, (refl, (refl, (operand_fits x.value p.3, (refl, tt))))))))))))))))))

register_fits : (enable : Operand) (name : List ℕ) (next : Operand) → ProperBlock (Register enable name next) → FitsAll (classes_of f.RegisterBlock) (always_tokens (Register enable name next))
register_fits enable name next p =
    by_two (classes_of f.RegisterBlock) (λ e v. edge (testing e ++ (word name ++ (sign (codes "<=") ++ (v ++ sign (codes ";")))))) enable next
    (refl, (refl, (refl, (refl, (refl, (refl, (refl, (refl, (operand_fits enable p.0, (refl, ((name, refl, p.1), (refl, (operand_fits next p.2, (refl, tt))))))))))))))

-- the further ports of a block, and its end
ports_go : (form : Form) (xs : List Write) (rest : Row) → followers_of form ≡ f.Port ∷ f.BlockEnd ∷ [] → All ProperWrite xs → Goes f.BlockEnd rest → Goes form (all_tokens write_tokens xs ++ (word (codes "end") ++ rest))
ports_go form [] rest is all b =
    goes form f.BlockEnd (word (codes "end")) rest (subst (λ fs. Contains fs f.BlockEnd) (sym is) (1, omega arith, refl)) (refl, tt) b
ports_go form (x ∷ xs) rest is all b =
    subst (Goes form) (sym (append_assoc (write_tokens x) (all_tokens write_tokens xs) (word (codes "end") ++ rest)))
    (goes form f.Port (write_tokens x) (all_tokens write_tokens xs ++ (word (codes "end") ++ rest)) (subst (λ fs. Contains fs f.Port) (sym is) (0, omega arith, refl)) (port_fits x (All-head ProperWrite x xs all))
    (ports_go f.Port xs rest refl (All-tail ProperWrite x xs all) b))

abbrev end_row : Row
end_row = word (codes "endmodule")

writes_row : (first : Write) (others : List Write) (rest : Row) → always_tokens (Writes first others) ++ rest ≡ edge (word (codes "begin") ++ write_tokens first) ++ (all_tokens write_tokens others ++ (word (codes "end") ++ rest))
writes_row first others rest =
    ap (λ t. edge (word (codes "begin") ++ t)) (append_assoc (write_tokens first) (all_tokens write_tokens others ++ word (codes "end")) rest
    ∙ ap (λ t. write_tokens first ++ t) (append_assoc (all_tokens write_tokens others) (word (codes "end")) rest))

blocks_go : (xs : List Always) → All ProperBlock xs → Behind 12 (all_tokens always_tokens xs ++ end_row)
blocks_go [] all form o = goes form f.ModuleEnd end_row [] (may_follow form 12 14 o (omega arith) (omega arith)) (refl, tt) ended
blocks_go (Register enable name next ∷ xs) all form o =
    subst (Goes form) (sym (append_assoc (always_tokens (Register enable name next)) (all_tokens always_tokens xs) end_row))
    (goes form f.RegisterBlock (always_tokens (Register enable name next)) (all_tokens always_tokens xs ++ end_row) (may_follow form 12 12 o (omega arith) (omega arith))
    (register_fits enable name next (All-head ProperBlock (Register enable name next) xs all))
    (blocks_go xs (All-tail ProperBlock (Register enable name next) xs all) f.RegisterBlock (record { start = 12; low = omega arith; is = refl })))
blocks_go (Writes first others ∷ xs) all form o =
    let h = All-head ProperBlock (Writes first others) xs all in
    let rest = all_tokens always_tokens xs ++ end_row in
    subst (Goes form) (sym (append_assoc (always_tokens (Writes first others)) (all_tokens always_tokens xs) end_row ∙ writes_row first others rest))
    (goes form f.MemoryBlock (edge (word (codes "begin") ++ write_tokens first)) (all_tokens write_tokens others ++ (word (codes "end") ++ rest)) (may_follow form 12 13 o (omega arith) (omega arith)) (first_fits first h.0)
    (ports_go f.MemoryBlock others rest refl h.1 (blocks_go xs (All-tail ProperBlock (Writes first others) xs all) f.BlockEnd (record { start = 12; low = omega arith; is = refl }))))

-- ---- the whole

headers_go : (form : Form) (xs : List (List ℕ)) (rest : Row) → followers_of form ≡ f.HeaderName ∷ f.Clock ∷ [] → All IsName xs → ((g : Form) → followers_of g ≡ f.HeaderName ∷ f.Clock ∷ [] → Goes g rest) → Goes form (all_tokens header_tokens xs ++ rest)
headers_go form [] rest is all b = b form is
headers_go form (x ∷ xs) rest is all b =
    goes form f.HeaderName (header_tokens x) (all_tokens header_tokens xs ++ rest) (subst (λ fs. Contains fs f.HeaderName) (sym is) (0, omega arith, refl)) (refl, ((x, refl, All-head IsName x xs all), tt))
    (headers_go f.HeaderName xs rest refl (All-tail IsName x xs all) b)

pub syntax_is_module : (s : Syntax) → Proper s → IsModule (syntax_tokens s)
syntax_is_module s p =
    let blocks = blocks_go s.blocks p.blocks in
    let assigns = section (λ (x : Assign). IsName x.name × ProperOperand x.from) assign_tokens 11 assign_form s.assigns p.assigns _ (behind_up 11 12 _ (omega arith) blocks) in
    let wires = section (λ (x : DeclaredWire). IsName x.name × ProperNet x.net) wire_tokens 4 (λ x h. wire_form x.high x.name x.net h.0 h.1) s.wires p.wires _ (behind_up 4 11 _ (omega arith) assigns) in
    let mems = section (λ (x : DeclaredMemory). IsName x.name) memory_tokens 3 memory_form s.mems p.mems _ (behind_up 3 4 _ (omega arith) wires) in
    let regs = section (λ (x : Declared). IsName x.name) (declared_tokens (codes "reg")) 2 register_form s.regs p.regs _ (behind_up 2 3 _ (omega arith) mems) in
    let outputs = section (λ (x : Declared). IsName x.name) (declared_tokens (codes "output")) 1 output_form s.outputs p.outputs _ (behind_up 1 2 _ (omega arith) regs) in
    let inputs = section (λ (x : Declared). IsName x.name) (declared_tokens (codes "input")) 0 input_form s.inputs p.inputs _ (behind_up 0 1 _ (omega arith) outputs) in
    let clock = sign (codes ")") ++ (sign (codes ";") ++ (word (codes "input") ++ (word (codes "clk") ++ sign (codes ";")))) in
    goes f.Start f.Head (word (codes "module") ++ (word s.name ++ (sign (codes "(") ++ word (codes "clk")))) _ (0, omega arith, refl) (refl, ((s.name, refl, p.name), (refl, (refl, tt))))
    (headers_go f.Head s.header _ refl p.header
    (λ g is. goes g f.Clock clock _ (subst (λ fs. Contains fs f.Clock) (sym is) (1, omega arith, refl)) (refl, (refl, (refl, (refl, (refl, tt))))) (inputs f.Clock (record { start = 0; low = omega arith; is = refl }))))
