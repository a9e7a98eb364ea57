-- What the names of a module stand for.
use Rattle.std.specs.Prelude.{ℕ, Bool, true, false, ◌+◌, List, [], ◌∷◌, ◌++◌, Option, Some, None, if◌then◌else◌, bytes_eq, is_some, min, ◌^◌, ◌-◌}
use Rattle.std.specs.Option.{option_and_then, option_map, option_map_or}
use Rattle.rtl_core.specs.declared.design.Atom.{Atom}
use Rattle.rtl_core.specs.declared.design.Atom.TheVariants as atom
use Rattle.rtl_core.specs.ModuleSyntax.{Operand, Named, Fixed}
use Rattle.verilog_read.specs.declared.names.Sort.{Sort}
use Rattle.verilog_read.specs.declared.names.Sort.TheVariants as sort
use Rattle.verilog_read.specs.declared.names.Entry.{Entry}
use Rattle.verilog_read.specs.declared.names.Meaning.{Meaning}
use Rattle.verilog_read.specs.Numbers.{declared_bits, depth_of}
use Rattle.verilog_syntax.specs.PlacedSyntax.{PlacedName, PlacedDeclared, PlacedMemory, PlacedWire, PlacedModule}

-- what each name stands for, if anything
abbrev pub Scope : Type 0
Scope = List ℕ → Option Entry

pub record Declaration : Type 0 where
  pub name : PlacedName
  pub entry : Entry

-- the declarations of one sort, numbered from k on
abbrev pub declared_from : Sort → ℕ → List PlacedDeclared → List Declaration
declared_from sort k [] = []
declared_from sort k (x ∷ xs) = record { name = x.name; entry = record { sort = sort; number = k; bits = declared_bits x.high; depth = None } } ∷ declared_from sort (k + 1) xs

abbrev pub memories_from : ℕ → List PlacedMemory → List Declaration
memories_from k [] = []
memories_from k (x ∷ xs) = record { name = x.name; entry = record { sort = sort.Memory; number = k; bits = declared_bits x.high; depth = depth_of x.last } } ∷ memories_from (k + 1) xs

abbrev pub wires_from : ℕ → List PlacedWire → List Declaration
wires_from k [] = []
wires_from k (x ∷ xs) = record { name = x.name; entry = record { sort = sort.Wire; number = k; bits = declared_bits x.high; depth = None } } ∷ wires_from (k + 1) xs

abbrev pub pins : PlacedModule → List Declaration
pins m = declared_from sort.Input 0 m.inputs ++ declared_from sort.Output 0 m.outputs

-- all declarations, which are in one scope (IEEE 1364-2005, 12.7)
abbrev pub declarations : PlacedModule → List Declaration
declarations m = pins m ++ (declared_from sort.Register 0 m.regs ++ (memories_from 0 m.mems ++ wires_from 0 m.wires))

-- the scope with one entry more, which counts where its name is new
abbrev pub with_entry : Scope → List ℕ → Entry → Scope
with_entry scope name entry q = if is_some (scope q) then scope q else (if bytes_eq q name then Some entry else None)

-- a name stands for its first declaration
abbrev pub first_of : List Declaration → Scope
first_of [] name = None
first_of (d ∷ ds) name = if bytes_eq name d.name.text then Some d.entry else first_of ds name

abbrev pub scope_of : PlacedModule → Scope
scope_of m = first_of (declarations m)

-- what it stands for, if that is of this sort
abbrev pub same_sort : Sort → Sort → Bool
same_sort sort.Input sort.Input = true
same_sort sort.Output sort.Output = true
same_sort sort.Register sort.Register = true
same_sort sort.Memory sort.Memory = true
same_sort sort.Wire sort.Wire = true
same_sort _ _ = false

abbrev pub of_sort : Sort → Entry → Option Entry
of_sort wanted e = if same_sort e.sort wanted then Some e else None

abbrev pub find_sort : Scope → List ℕ → Sort → Option Entry
find_sort scope name wanted = option_and_then (of_sort wanted) (scope name)

abbrev pub atom_of : Sort → ℕ → Option Atom
atom_of sort.Input k = Some (atom.Input k)
atom_of sort.Register k = Some (atom.Reg k)
atom_of sort.Wire k = Some (atom.Wire k)
atom_of sort.Output k = None
atom_of sort.Memory k = None

-- inputs, registers and wires have values
abbrev pub entry_meaning : Entry → Option Meaning
entry_meaning e = option_map (λ a. record { atom = a; bits = e.bits }) (atom_of e.sort e.number)

abbrev pub named : Scope → List ℕ → Option Meaning
named scope name = option_and_then entry_meaning (scope name)

-- what an operand stands for; a value that has more than 128 bits is too large for every width, and the largest of 128 bits stands for it
abbrev pub meaning : Scope → Operand → Option Meaning
meaning scope (Named name) = named scope name
meaning scope (Fixed bits value) = Some (record { atom = atom.Constant bits (min value (2 ^ 128 - 1)); bits = bits })

-- the atom of an operand, where it stands for one
abbrev pub atom_in : Scope → Operand → Atom
atom_in scope x = option_map_or (λ (m : Meaning). m.atom) (meaning scope x) (atom.Constant 1 0)
