-- Which form may stand behind which, and what is seen behind each.
use Rattle.std.proofs.Common.{◌≡◌, ℕ, ◌<◌, ◌≤◌, Bool, true, false, ◌&&◌, leb, List, [], ◌++◌, refl}
use Rattle.std.specs.List.{All, Contains}
use Rattle.std.proofs.lemmas.Bool.{and_parts, leb-true}
use Rattle.std.proofs.lemmas.List.Elements.{All-contains}
use Rattle.rtl_core.specs.Valid.{IsName}
use Rattle.rtl_core.proofs.Tokens.{every, every_true}
use Rattle.verilog_syntax.specs.declared.token.Token.{Token}
use Rattle.verilog_syntax.specs.declared.form.Form.{Form}
use Rattle.verilog_syntax.specs.declared.form.Form.TheVariants as f
use Rattle.verilog_syntax.specs.Views.{lexemes_of}
use Rattle.verilog_syntax.specs.Forms.{followers_of}
use Rattle.verilog_syntax.specs.PlacedSyntax.{PlacedDeclared, PlacedMemory, PlacedWire, PlacedModule}
use Rattle.verilog_syntax.specs.Marks.{NetStands, Mark, Stand, in_blocks, end_marks, is_open_behind, head_marks, clock_marks, item_marks, module_marks}

abbrev pub phase : Form → ℕ
phase f.Start = 0
phase f.Head = 1
phase f.HeaderName = 1
phase f.Clock = 2
phase f.Input = 2
phase f.Output = 3
phase f.Register = 4
phase f.Memory = 5
phase f.CopyWire = 6
phase f.NotWire = 6
phase f.PairWire = 6
phase f.PickWire = 6
phase f.JoinWire = 6
phase f.PartWire = 6
phase f.WordWire = 6
phase f.Assign = 7
phase f.RegisterBlock = 8
phase f.MemoryBlock = 10
phase f.Port = 10
phase f.BlockEnd = 9
phase f.ModuleEnd = 11

abbrev pub low : Form → ℕ
low f.Start = 12
low f.Head = 0
low f.HeaderName = 1
low f.Clock = 1
low f.Input = 2
low f.Output = 2
low f.Register = 2
low f.Memory = 2
low f.CopyWire = 2
low f.NotWire = 2
low f.PairWire = 2
low f.PickWire = 2
low f.JoinWire = 2
low f.PartWire = 2
low f.WordWire = 2
low f.Assign = 2
low f.RegisterBlock = 2
low f.MemoryBlock = 2
low f.Port = 10
low f.BlockEnd = 10
low f.ModuleEnd = 2

abbrev pub high : Form → ℕ
high f.Start = 0
high f.Head = 0
high f.HeaderName = 1
high f.Clock = 1
high f.Input = 2
high f.Output = 3
high f.Register = 4
high f.Memory = 5
high f.CopyWire = 6
high f.NotWire = 6
high f.PairWire = 6
high f.PickWire = 6
high f.JoinWire = 6
high f.PartWire = 6
high f.WordWire = 6
high f.Assign = 7
high f.RegisterBlock = 9
high f.MemoryBlock = 9
high f.Port = 10
high f.BlockEnd = 10
high f.ModuleEnd = 9

abbrev pub within : Form → Form → Bool
within form next = leb (low next) (phase form) && leb (phase form) (high next)

pub all_within : (form : Form) → every (within form) (followers_of form) ≡ true
all_within f.Start = refl
all_within f.Head = refl
all_within f.HeaderName = refl
all_within f.Clock = refl
all_within f.Input = refl
all_within f.Output = refl
all_within f.Register = refl
all_within f.Memory = refl
all_within f.CopyWire = refl
all_within f.NotWire = refl
all_within f.PairWire = refl
all_within f.PickWire = refl
all_within f.JoinWire = refl
all_within f.PartWire = refl
all_within f.WordWire = refl
all_within f.Assign = refl
all_within f.RegisterBlock = refl
all_within f.MemoryBlock = refl
all_within f.Port = refl
all_within f.BlockEnd = refl
all_within f.ModuleEnd = refl

pub bounds : (form next : Form) → Contains (followers_of form) next → (low next ≤ phase form) × (phase form ≤ high next)
bounds form next may =
    let p = and_parts (leb (low next) (phase form)) (leb (phase form) (high next)) (All-contains (λ x. within form x ≡ true) (followers_of form) next (every_true (within form) (followers_of form) (all_within form)) may) in
    (leb-true (low next) (phase form) p.0, leb-true (phase form) (high next) p.1)

-- what stands behind the items
abbrev pub tail : Form → List Mark
tail f.BlockEnd = end_marks true
tail _ = []

abbrev pub body : Form → PlacedModule → List Mark
body form m = head_marks m ++ (clock_marks ++ (item_marks m ++ tail form))

abbrev pub seen_marks : Form → PlacedModule → List Mark
seen_marks f.Start m = []
seen_marks f.Head m = head_marks m
seen_marks f.HeaderName m = head_marks m
seen_marks f.ModuleEnd m = module_marks m
seen_marks form m = body form m

abbrev pub is_block : Form → Bool
is_block f.MemoryBlock = true
is_block f.Port = true
is_block f.BlockEnd = true
is_block _ = false

-- nothing is there yet of what comes later
pub record Later (n : ℕ) (m : PlacedModule) : Type 0 where
  pub header : n < 1 → m.header ≡ []
  pub inputs : n < 2 → m.inputs ≡ []
  pub outputs : n < 3 → m.outputs ≡ []
  pub regs : n < 4 → m.regs ≡ []
  pub mems : n < 5 → m.mems ≡ []
  pub wires : n < 6 → m.wires ≡ []
  pub assigns : n < 7 → m.assigns ≡ []
  pub drives : n < 8 → m.drives ≡ []

-- the module's name is there behind its head
abbrev pub NamedSoFar : Form → PlacedModule → Type 0
NamedSoFar f.Start m = Unit {0}
NamedSoFar _ m = IsName m.name.text

pub record Seen (form : Form) (tokens : List Token) (m : PlacedModule) : Type 0 where
  pub stand : Stand (lexemes_of tokens) (seen_marks form m)
  pub later : Later (phase form) m
  pub block : phase form < 11 → is_open_behind false m.drives ≡ is_block form
  pub blocks : in_blocks false m.drives ≡ true
  pub name : NamedSoFar form m
  pub inputs : All (λ (x : PlacedDeclared). IsName x.name.text) m.inputs
  pub outputs : All (λ (x : PlacedDeclared). IsName x.name.text) m.outputs
  pub regs : All (λ (x : PlacedDeclared). IsName x.name.text) m.regs
  pub mems : All (λ (x : PlacedMemory). IsName x.name.text) m.mems
  pub wires : All (λ (x : PlacedWire). IsName x.name.text) m.wires
  pub nets : All (λ (x : PlacedWire). NetStands x.place x.net) m.wires
