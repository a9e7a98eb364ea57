-- What the registers of the controller hold: where a run is.
use Rattle.std.specs.Prelude.{◌≡◌, ◌≢◌, ℕ, ◌%◌, Bool, true, slice_get, Option, Some, None}
use Rattle.clock_ir.specs.ClockRuns.{TimedNode, block, overlapped, Phase, starting, loading, inside, ended}
use Rattle.datapath.specs.Plans.{Plan, span}
use Rattle.datapath.specs.Cycles.{Ready, Done, Initial, Time, Active, Load, Contents, bit}

-- no node is under way, and none is to begin
pub record IsStill (x : Contents) : Type 0 where
  pub time : x.regs Time ≡ 0
  pub active : (j : ℕ) → x.regs (Active j) ≡ 0
  pub load : (j : ℕ) → x.regs (Load j) ≡ 0

-- no run is under way; done tells whether one has ended since the reset
pub record IsWaiting (done : Bool) (x : Contents) : Type 0 where
  pub ready : x.regs Ready ≡ 1
  pub done_ : x.regs Done ≡ bit done
  pub initial : x.regs Initial ≡ 0
  pub still : IsStill x

-- the initial sequence is at this time
pub record IsInSequence (time_ : ℕ) (x : Contents) : Type 0 where
  pub ready : x.regs Ready ≡ 0
  pub done_ : x.regs Done ≡ 0
  pub initial : x.regs Initial ≡ 1
  pub time : x.regs Time ≡ time_
  pub active : (j : ℕ) → x.regs (Active j) ≡ 0
  pub load : (j : ℕ) → x.regs (Load j) ≡ 0

-- a run is under way
pub record IsBusy (x : Contents) : Type 0 where
  pub ready : x.regs Ready ≡ 0
  pub done_ : x.regs Done ≡ 0
  pub initial : x.regs Initial ≡ 0

-- the first values of a loop are taken in this cycle
pub record IsLoading (i : ℕ) (x : Contents) : Type 0 where
  pub busy : IsBusy x
  pub time : x.regs Time ≡ 0
  pub load : x.regs (Load i) ≡ 1
  pub others : (j : ℕ) → j ≢ i → x.regs (Load j) ≡ 0
  pub active : (j : ℕ) → x.regs (Active j) ≡ 0

-- this node is under way, and no other
pub record IsInside (i time_ : ℕ) (x : Contents) : Type 0 where
  pub busy : IsBusy x
  pub time : x.regs Time ≡ time_
  pub active : x.regs (Active i) ≡ 1
  pub others : (j : ℕ) → j ≢ i → x.regs (Active j) ≡ 0
  pub load : (j : ℕ) → x.regs (Load j) ≡ 0

-- the cycle in which a node is entered
abbrev pub IsEnteredAs : ℕ → Option TimedNode → Contents → Type 0
IsEnteredAs i (Some (block body end_)) x = IsInside i 0 x
IsEnteredAs i (Some (overlapped body exit next)) x = IsLoading i x
IsEnteredAs i None x = IsBusy x × IsStill x

abbrev pub IsEntered : Plan → ℕ → Contents → Type 0
IsEntered p i x = IsEnteredAs i (slice_get p.program.nodes i) x

-- the controller is where the clocked run is
abbrev pub StandsAt : Plan → Phase → Contents → Type 0
StandsAt p (starting words) x = (done : Bool) × IsWaiting done x
StandsAt p (loading i words) x = IsLoading i x
StandsAt p (inside i flow) x = IsInside i (flow.time % span p i) x
StandsAt p (ended word words) x = IsWaiting true x
