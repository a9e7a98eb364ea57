-- The constants of a text have 1 to 128 bits, and there are no more memories than bytes.
use Rattle.std.proofs.Common.{◌≡◌, ℕ, zero, suc, ◌<◌, ◌≤◌, ◌^◌, Bool, false, List, [], ◌∷◌, ◌++◌, length, map, codes, Some, refl, ap, subst, arith, length-append}
use Rattle.std.specs.Prelude.{slice_get}
use Rattle.std.specs.List.{All}
use Rattle.std.proofs.lemmas.Option.{none-some, same_Some}
use Rattle.std.proofs.lemmas.List.Elements.{All-drop}
use Rattle.hls_base.specs.declared.place.Place.{Place}
use Rattle.rtl_core.specs.ModuleTokens.{Word}
use Rattle.rtl_core.specs.ModuleSyntax.{Operand, Named, Fixed}
use Rattle.rtl_core.proofs.Checks.{All-left, All-right, All-map_back}
use Rattle.verilog_syntax.specs.Lexemes.{Lexeme, Reads}
use Rattle.verilog_syntax.specs.PlacedSyntax.{PlacedNet, alone, inverted, between, chosen, joined, slice, word_of, PlacedWire, PlacedAssign, PlacedWrite, Drive, register, first, further, PlacedModule}
use Rattle.verilog_syntax.specs.Marks.{Mark, Stand, fixed, operand_token, declared_marks, memory_marks, net_marks, wire_marks, assign_marks, drive_marks, opens, end_marks, end_before, is_open_behind, open_marks, all_marks, head_marks, clock_marks, item_marks, module_marks}
use Rattle.verilog_syntax.proofs.Unplaced.{mark_token, stand_tokens}
use Rattle.verilog_read.proofs.Operands.{Sized}
use Rattle.verilog_read.proofs.Nets.{SizedNet}
use Rattle.verilog_syntax.proofs.TokenSizes.{SizedToken, read_sized, no_more_lexemes}

-- ---- the parts of a text

abbrev IsSized : Mark → Type 0
IsSized mark = SizedToken (mark_token mark)

all_parts : {A : Type 0} (marks : A → List Mark) (xs : List A) → All IsSized (all_marks marks xs) → (k : ℕ) (x : A) → slice_get xs k ≡ Some x → All IsSized (marks x)
all_parts marks [] h k x e = absurd (none-some x e)
all_parts marks (y ∷ ys) h zero x e = subst (λ z. All IsSized (marks z)) (same_Some y x e) (All-left IsSized (marks y) (all_marks marks ys) h)
all_parts marks (y ∷ ys) h (suc k) x e = all_parts marks ys (All-right IsSized (marks y) (all_marks marks ys) h) k x e

drive_parts : (is_open : Bool) (ds : List Drive) → All IsSized (open_marks is_open ds) → (k : ℕ) (d : Drive) → slice_get ds k ≡ Some d → All IsSized (drive_marks d)
drive_parts is_open [] h k d e = absurd (none-some d e)
drive_parts is_open (x ∷ xs) h zero d e =
    subst (λ y. All IsSized (drive_marks y)) (same_Some x d e)
    (All-left IsSized (drive_marks x) (open_marks (opens x) xs) (All-right IsSized (end_before is_open x) (drive_marks x ++ open_marks (opens x) xs) h))
drive_parts is_open (x ∷ xs) h (suc k) d e =
    drive_parts (opens x) xs (All-right IsSized (drive_marks x) (open_marks (opens x) xs) (All-right IsSized (end_before is_open x) (drive_marks x ++ open_marks (opens x) xs) h)) k d e

operand_sized : (x : Operand) → SizedToken (operand_token x) → Sized x
operand_sized (Named name) h = tt
operand_sized (Fixed bits value) h = h

abbrev none : Mark
none = fixed (Word [])

net_sized : (place : Place) (n : PlacedNet) → All IsSized (net_marks place n) → SizedNet n
net_sized place (alone a) h = operand_sized a.operand (h 0 none (omega arith))
net_sized place (inverted a) h = operand_sized a.operand (h 1 none (omega arith))
net_sized place (between op a b) h = (operand_sized a.operand (h 0 none (omega arith)), operand_sized b.operand (h 2 none (omega arith)))
net_sized place (chosen a b c) h =
    (operand_sized a.operand (h 0 none (omega arith)), operand_sized b.operand (h 2 none (omega arith)), operand_sized c.operand (h 4 none (omega arith)))
net_sized place (joined a b) h = (operand_sized a.operand (h 1 none (omega arith)), operand_sized b.operand (h 3 none (omega arith)))
net_sized place (slice name high low) h = tt
net_sized place (word_of memory a) h = operand_sized a.operand (h 2 none (omega arith))

pub record SizedWrite (x : PlacedWrite) : Type 0 where
  pub enable : Sized x.enable.operand
  pub address : Sized x.address.operand
  pub value : Sized x.value.operand

abbrev pub SizedDrive : Drive → Type 0
SizedDrive (register enable name next) = Sized enable.operand × Sized next.operand
SizedDrive (first x) = SizedWrite x
SizedDrive (further x) = SizedWrite x

drive_sized : (d : Drive) → All IsSized (drive_marks d) → SizedDrive d
drive_sized (register enable name next) h = (operand_sized enable.operand (h 8 none (omega arith)), operand_sized next.operand (h 12 none (omega arith)))
drive_sized (first x) h = record {
  enable = operand_sized x.enable.operand (h 9 none (omega arith));
  address = operand_sized x.address.operand (h 13 none (omega arith));
  value = operand_sized x.value.operand (h 16 none (omega arith));
}
drive_sized (further x) h = record {
  enable = operand_sized x.enable.operand (h 2 none (omega arith));
  address = operand_sized x.address.operand (h 6 none (omega arith));
  value = operand_sized x.value.operand (h 9 none (omega arith));
}

-- all constants of a module have 1 to 128 bits, and its memories can be numbered by 32 bits
pub record IsSizedModule (m : PlacedModule) : Type 0 where
  pub wires : (k : ℕ) (x : PlacedWire) → slice_get m.wires k ≡ Some x → SizedNet x.net
  pub assigns : (k : ℕ) (x : PlacedAssign) → slice_get m.assigns k ≡ Some x → Sized x.from.operand
  pub drives : (k : ℕ) (d : Drive) → slice_get m.drives k ≡ Some d → SizedDrive d
  pub mems : length m.mems < 2 ^ 32

long_marks : {A : Type 0} (marks : A → List Mark) → ((x : A) → 0 < length (marks x)) → (xs : List A) → length xs ≤ length (all_marks marks xs)
long_marks marks some [] = omega arith
long_marks marks some (x ∷ xs) = omega (arith, some x, long_marks marks some xs, length-append (marks x) (all_marks marks xs))

long_map : {A B : Type 0} (f : A → B) (xs : List A) → length (map f xs) ≡ length xs
long_map f [] = refl
long_map f (x ∷ xs) = ap suc (long_map f xs)

long_mems : (m : PlacedModule) → length m.mems ≤ length (module_marks m)
long_mems m =
    let inputs = all_marks (declared_marks (codes "input")) m.inputs in
    let outputs = all_marks (declared_marks (codes "output")) m.outputs in
    let regs = all_marks (declared_marks (codes "reg")) m.regs in
    let mems = all_marks memory_marks m.mems in
    let rest = all_marks wire_marks m.wires ++ (all_marks assign_marks m.assigns ++ open_marks false m.drives) in
    let end : List Mark = end_marks (is_open_behind false m.drives) ++ (fixed (Word (codes "endmodule")) ∷ []) in
    let one = long_marks memory_marks (λ x. let k : 0 < length (memory_marks x) = omega arith in k) m.mems in
    let two : length mems ≤ length (item_marks m) =
    omega (arith, length-append inputs (outputs ++ (regs ++ (mems ++ rest))), length-append outputs (regs ++ (mems ++ rest)), length-append regs (mems ++ rest), length-append mems rest) in
    let three : length (item_marks m) ≤ length (module_marks m) =
    omega (arith, length-append (head_marks m) (clock_marks ++ (item_marks m ++ end)), length-append clock_marks (item_marks m ++ end), length-append (item_marks m) end) in
    omega (arith, one, two, three)

pub sized_module : (bytes : List ℕ) (place end : Place) (ls : List Lexeme) (m : PlacedModule) → length bytes ≤ 67108864 → Reads bytes place ls [] end → Stand ls (module_marks m) → IsSizedModule m
sized_module bytes place end ls m few r s =
    let tokens = stand_tokens ls (module_marks m) s in
    let all : All IsSized (module_marks m) = All-map_back SizedToken mark_token (module_marks m) (subst (All SizedToken) tokens (read_sized bytes place ls [] end r)) in
    let items = All-left IsSized (item_marks m) _ (All-right IsSized clock_marks _ (All-right IsSized (head_marks m) _ all)) in
    let behind_inputs = All-right IsSized (all_marks (declared_marks (codes "input")) m.inputs) _ items in
    let behind_outputs = All-right IsSized (all_marks (declared_marks (codes "output")) m.outputs) _ behind_inputs in
    let behind_regs = All-right IsSized (all_marks (declared_marks (codes "reg")) m.regs) _ behind_outputs in
    let behind_mems = All-right IsSized (all_marks memory_marks m.mems) _ behind_regs in
    let wires = All-left IsSized (all_marks wire_marks m.wires) _ behind_mems in
    let behind_wires = All-right IsSized (all_marks wire_marks m.wires) _ behind_mems in
    let assigns = All-left IsSized (all_marks assign_marks m.assigns) _ behind_wires in
    let drives = All-right IsSized (all_marks assign_marks m.assigns) _ behind_wires in
    record {
      wires = λ k x e. net_sized x.place x.net (All-drop IsSized 8 (wire_marks x) (all_parts wire_marks m.wires wires k x e));
      assigns = λ k x e. operand_sized x.from.operand (all_parts assign_marks m.assigns assigns k x e 3 none (omega arith));
      drives = λ k d e. drive_sized d (drive_parts false m.drives drives k d e);
      mems = omega (arith, few, no_more_lexemes bytes place ls [] end r, long_mems m, ap length tokens, long_map (λ (l : Lexeme). l.token) ls, long_map mark_token (module_marks m));
    }
