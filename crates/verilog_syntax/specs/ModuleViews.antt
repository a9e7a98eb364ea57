-- The module of the code without where it lies in memory, and what a form's tokens add to it.
use Rattle.std.specs.Prelude.{ℕ, List, [], ◌∷◌, ◌++◌, map, slice_index_or, unwrap_or}
use Rattle.rtl_core.specs.declared.design.Pair.{Pair}
use Rattle.rtl_core.specs.declared.design.Pair.TheVariants as pair
use Rattle.rtl_core.specs.ModuleTokens.{value_behind}
use Rattle.rtl_core.specs.ModuleSyntax.{Operand, Named, Fixed}
use Rattle.verilog_syntax.specs.declared.token.Kind.{Kind}
use Rattle.verilog_syntax.specs.declared.token.Kind.TheVariants as kind
use Rattle.verilog_syntax.specs.declared.token.Sign.TheVariants as s
use Rattle.verilog_syntax.specs.declared.token.Token.{Token}
use Rattle.verilog_syntax.specs.declared.form.Form.{Form}
use Rattle.verilog_syntax.specs.declared.form.Form.TheVariants as f
use Rattle.verilog_syntax.specs.declared.module.Name.{Name}
use Rattle.verilog_syntax.specs.declared.module.Value.{Value}
use Rattle.verilog_syntax.specs.declared.module.Value.TheVariants as value
use Rattle.verilog_syntax.specs.declared.module.Operand.{Operand as CodeOperand}
use Rattle.verilog_syntax.specs.declared.module.Expression.{Expression}
use Rattle.verilog_syntax.specs.declared.module.Expression.TheVariants as net
use Rattle.verilog_syntax.specs.declared.module.Declared.{Declared}
use Rattle.verilog_syntax.specs.declared.module.DeclaredMemory.{DeclaredMemory}
use Rattle.verilog_syntax.specs.declared.module.DeclaredWire.{DeclaredWire}
use Rattle.verilog_syntax.specs.declared.module.Assign.{Assign}
use Rattle.verilog_syntax.specs.declared.module.Write.{Write}
use Rattle.verilog_syntax.specs.declared.module.Drive.{Drive as CodeDrive}
use Rattle.verilog_syntax.specs.declared.module.Drive.TheVariants as drive
use Rattle.verilog_syntax.specs.declared.module.Module.{Module}
use Rattle.verilog_syntax.specs.Operators.{operator_of}
use Rattle.hls_base.specs.TextPlaces.{text_start}
use Rattle.verilog_syntax.specs.PlacedSyntax.{PlacedName, PlacedOperand, PlacedNet, alone, inverted, between, chosen, joined, slice, word_of, PlacedDeclared, PlacedMemory, PlacedWire, PlacedAssign, PlacedWrite, Drive, register, first, further, PlacedModule}

-- ---- views

abbrev pub name_view : Name → PlacedName
name_view x = record { text = x.text.now; place = x.place }

abbrev pub value_view : Value → Operand
value_view (value.Named text) = Named text.now
value_view (value.Fixed bits digits) = Fixed bits (value_behind 16 0 digits.now)

abbrev pub operand_view : CodeOperand → PlacedOperand
operand_view x = record { operand = value_view x.value; place = x.place }

abbrev pub net_view : Expression → PlacedNet
net_view (net.Alone a) = alone (operand_view a)
net_view (net.Inverted a) = inverted (operand_view a)
net_view (net.Between op a b) = between op (operand_view a) (operand_view b)
net_view (net.Chosen a b c) = chosen (operand_view a) (operand_view b) (operand_view c)
net_view (net.Joined a b) = joined (operand_view a) (operand_view b)
net_view (net.Slice name high low) = slice (name_view name) high.now low.now
net_view (net.WordOf memory a) = word_of (name_view memory) (operand_view a)

abbrev pub declared_view : Declared → PlacedDeclared
declared_view x = record { high = x.high.now; name = name_view x.name }

abbrev pub memory_view : DeclaredMemory → PlacedMemory
memory_view x = record { high = x.high.now; name = name_view x.name; last = x.last.now }

abbrev pub wire_view : DeclaredWire → PlacedWire
wire_view x = record { high = x.high.now; name = name_view x.name; net = net_view x.net; place = x.place }

abbrev pub assign_view : Assign → PlacedAssign
assign_view x = record { name = name_view x.name; from = operand_view x.from }

abbrev pub write_view : Write → PlacedWrite
write_view x = record { enable = operand_view x.enable; memory = name_view x.memory; address = operand_view x.address; value = operand_view x.value }

abbrev pub drive_view : CodeDrive → Drive
drive_view (drive.Register enable name next) = register (operand_view enable) (name_view name) (operand_view next)
drive_view (drive.First x) = first (write_view x)
drive_view (drive.Further x) = further (write_view x)

abbrev pub module_view : Module → PlacedModule
module_view m = record {
  name = name_view m.name;
  header = map name_view m.header.items;
  inputs = map declared_view m.inputs.items;
  outputs = map declared_view m.outputs.items;
  regs = map declared_view m.regs.items;
  mems = map memory_view m.mems.items;
  wires = map wire_view m.wires.items;
  assigns = map assign_view m.assigns.items;
  drives = map drive_view m.drives.items;
}

-- ---- what the tokens of a form say

abbrev pub blank : Token
blank = record { kind = kind.Sign s.Semicolon; place = text_start }

abbrev pub nth : List Token → ℕ → Token
nth tokens k = slice_index_or tokens k blank

abbrev pub text_in : Kind → List ℕ
text_in (kind.Name text) = text.now
text_in (kind.Number digits) = digits.now
text_in _ = []

abbrev pub name_in : Token → PlacedName
name_in t = record { text = text_in t.kind; place = t.place }

abbrev pub operand_kind : Kind → Operand
operand_kind (kind.Constant bits digits) = Fixed bits (value_behind 16 0 digits.now)
operand_kind k = Named (text_in k)

abbrev pub operand_in : Token → PlacedOperand
operand_in t = record { operand = operand_kind t.kind; place = t.place }

abbrev pub pair_kind : Kind → Pair
pair_kind (kind.Sign s) = unwrap_or (operator_of s) pair.Add
pair_kind _ = pair.Add

abbrev pub declared_in : List Token → PlacedDeclared
declared_in ts = record { high = text_in (nth ts 2).kind; name = name_in (nth ts 6) }

abbrev pub memory_in : List Token → PlacedMemory
memory_in ts = record { high = text_in (nth ts 2).kind; name = name_in (nth ts 6); last = text_in (nth ts 10).kind }

abbrev pub net_in : Form → List Token → PlacedNet
net_in f.NotWire ts = inverted (operand_in (nth ts 9))
net_in f.PairWire ts = between (pair_kind (nth ts 9).kind) (operand_in (nth ts 8)) (operand_in (nth ts 10))
net_in f.PickWire ts = chosen (operand_in (nth ts 8)) (operand_in (nth ts 10)) (operand_in (nth ts 12))
net_in f.JoinWire ts = joined (operand_in (nth ts 9)) (operand_in (nth ts 11))
net_in f.PartWire ts = slice (name_in (nth ts 8)) (text_in (nth ts 10).kind) (text_in (nth ts 12).kind)
net_in f.WordWire ts = word_of (name_in (nth ts 8)) (operand_in (nth ts 10))
net_in _ ts = alone (operand_in (nth ts 8))

abbrev pub wire_in : Form → List Token → PlacedWire
wire_in form ts = record { high = text_in (nth ts 2).kind; name = name_in (nth ts 6); net = net_in form ts; place = (nth ts 8).place }

abbrev pub assign_in : List Token → PlacedAssign
assign_in ts = record { name = name_in (nth ts 1); from = operand_in (nth ts 3) }

-- a port that begins behind so many tokens
abbrev pub write_behind : PlacedOperand → PlacedName → PlacedOperand → PlacedOperand → PlacedWrite
write_behind enable memory address value = record { enable = enable; memory = memory; address = address; value = value }

abbrev pub first_in : List Token → PlacedWrite
first_in ts = write_behind (operand_in (nth ts 9)) (name_in (nth ts 11)) (operand_in (nth ts 13)) (operand_in (nth ts 16))

abbrev pub further_in : List Token → PlacedWrite
further_in ts = write_behind (operand_in (nth ts 2)) (name_in (nth ts 4)) (operand_in (nth ts 6)) (operand_in (nth ts 9))

abbrev pub register_in : List Token → Drive
register_in ts = register (operand_in (nth ts 8)) (name_in (nth ts 10)) (operand_in (nth ts 12))

-- the module with what a form's tokens say
abbrev pub added : Form → List Token → PlacedModule → PlacedModule
added f.Start ts m = m
added f.Head ts m = record m { name = name_in (nth ts 1) }
added f.HeaderName ts m = record m { header = m.header ++ name_in (nth ts 1) ∷ [] }
added f.Clock ts m = m
added f.Input ts m = record m { inputs = m.inputs ++ declared_in ts ∷ [] }
added f.Output ts m = record m { outputs = m.outputs ++ declared_in ts ∷ [] }
added f.Register ts m = record m { regs = m.regs ++ declared_in ts ∷ [] }
added f.Memory ts m = record m { mems = m.mems ++ memory_in ts ∷ [] }
added f.Assign ts m = record m { assigns = m.assigns ++ assign_in ts ∷ [] }
added f.RegisterBlock ts m = record m { drives = m.drives ++ register_in ts ∷ [] }
added f.MemoryBlock ts m = record m { drives = m.drives ++ first (first_in ts) ∷ [] }
added f.Port ts m = record m { drives = m.drives ++ further (further_in ts) ∷ [] }
added f.BlockEnd ts m = m
added f.ModuleEnd ts m = m
added form ts m = record m { wires = m.wires ++ wire_in form ts ∷ [] }

abbrev pub no_module : PlacedModule
no_module = record { name = record { text = []; place = text_start }; header = []; inputs = []; outputs = []; regs = []; mems = []; wires = []; assigns = []; drives = [] }
