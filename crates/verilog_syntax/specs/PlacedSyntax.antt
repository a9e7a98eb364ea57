-- What a module's text says, with the places at which a fault may stand.
use Rattle.std.specs.Prelude.{ℕ, List}
use Rattle.hls_base.specs.declared.place.Place.{Place}
use Rattle.rtl_core.specs.declared.design.Pair.{Pair}
use Rattle.rtl_core.specs.ModuleSyntax.{Operand}

pub record PlacedName : Type 0 where
  pub text : List ℕ
  pub place : Place

pub record PlacedOperand : Type 0 where
  pub operand : Operand
  pub place : Place

pub data PlacedNet : Type 0 where
  alone : PlacedOperand → PlacedNet
  inverted : PlacedOperand → PlacedNet
  between : Pair → PlacedOperand → PlacedOperand → PlacedNet
  chosen : (test then_value else_value : PlacedOperand) → PlacedNet
  joined : (high low : PlacedOperand) → PlacedNet
  slice : (name : PlacedName) (high low : List ℕ) → PlacedNet
  word_of : (memory : PlacedName) (address : PlacedOperand) → PlacedNet

pub record PlacedDeclared : Type 0 where
  pub high : List ℕ
  pub name : PlacedName

pub record PlacedMemory : Type 0 where
  pub high : List ℕ
  pub name : PlacedName
  pub last : List ℕ

-- a wire, and the place of its net's first token
pub record PlacedWire : Type 0 where
  pub high : List ℕ
  pub name : PlacedName
  pub net : PlacedNet
  pub place : Place

pub record PlacedAssign : Type 0 where
  pub name : PlacedName
  pub from : PlacedOperand

pub record PlacedWrite : Type 0 where
  pub enable : PlacedOperand
  pub memory : PlacedName
  pub address : PlacedOperand
  pub value : PlacedOperand

-- What happens at an edge, in order: a register is set, a block begins with its first port, or it goes on with a further one.
pub data Drive : Type 0 where
  register : (enable : PlacedOperand) (name : PlacedName) (next : PlacedOperand) → Drive
  first : PlacedWrite → Drive
  further : PlacedWrite → Drive

pub record PlacedModule : Type 0 where
  pub name : PlacedName
  pub header : List PlacedName
  pub inputs : List PlacedDeclared
  pub outputs : List PlacedDeclared
  pub regs : List PlacedDeclared
  pub mems : List PlacedMemory
  pub wires : List PlacedWire
  pub assigns : List PlacedAssign
  pub drives : List Drive
