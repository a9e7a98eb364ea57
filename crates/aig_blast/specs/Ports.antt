-- The writes of a memory's ports by their literals.
use Rattle.std.specs.Prelude.{◌≡◌, ℕ, ◌<◌, ◌^◌, List, length, slice_index}
use Rattle.std.specs.List.{All}
use Rattle.aig_graph.specs.Making.{Gates, IsSound}
use Rattle.aig_graph.specs.declared.memory.Write.{Write}
use Rattle.aig_graph.specs.Words.{AreWords, MakesWords, numbers}
use Rattle.rtl_core.specs.declared.design.Port.{Port}
use Rattle.rtl_core.specs.ClockStep.{written_words}
use Rattle.aig_blast.specs.declared.literals.Literals.{Literals}
use Rattle.aig_blast.specs.Literals.{literals_of, shown, AreOf}

-- the literals of what a port reads
pub record IsWriteOf (t : Literals) (p : Port) (x : Write) : Type 0 where
  pub enable : x.enable ≡ slice_index (literals_of t p.enable) 0
  pub address : x.address.items ≡ literals_of t p.addr
  pub value : x.value.items ≡ literals_of t p.value

-- the widths of what a port reads
pub record PortIsWide (t : Literals) (n depth : ℕ) (p : Port) : Type 0 where
  pub enable : length (literals_of t p.enable) ≡ 1
  pub address : length (literals_of t p.addr) ≡ depth
  pub value : length (literals_of t p.value) ≡ n

-- words of n bits that these ports can write
pub record CanWrite (e : Gates) (t : Literals) (ps : List Port) (lss : List (List ℕ)) (n depth : ℕ) : Type 0 where
  pub sound : IsSound e
  pub fits : AreOf e t
  pub some : 0 < length ps
  pub count : length lss ≡ 2 ^ depth
  pub words : AreWords e n lss
  pub ports : All (PortIsWide t n depth) ps

-- words after the writes of these ports, in order
abbrev pub WritesAll : Gates → Gates → Literals → List Port → List (List ℕ) → ℕ → List (List ℕ) → Type 0
WritesAll d e t ports words n lss = MakesWords d e lss (length words) n (λ w lss. numbers w lss ≡ written_words (shown t w) ports (numbers w words))
