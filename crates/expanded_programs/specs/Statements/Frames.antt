-- What stands for the objects of a call that is under way, over those of the calls that lead to it.
use Rattle.std.specs.Prelude.{◌≡◌, ◌≢◌, ℕ, ◌<◌, ◌≤◌, ◌==◌, ◌⊎◌, Bool, true, false, [], length, slice_get, Option, Some, None, if◌then◌else◌, ◌&&◌}
use Rattle.hls_base.specs.declared.number.VarId.{VarId}
use Rattle.hls_base.specs.declared.number.ArrayId.{ArrayId}
use Rattle.c_token.specs.declared.ctype.CType.{CType}
use Rattle.c_value.specs.Values.{number_of}
use Rattle.pieces.specs.declared.resolved.expression.Cell.{Cell}
use Rattle.pieces.specs.declared.resolved.expression.Scope.{Scope}
use Rattle.pieces.specs.declared.resolved.expression.Scope.TheVariants as scope
use Rattle.pieces.specs.Resolved.Core as core
use Rattle.pieces.specs.Resolved.Core.{CoreObjectTree, FileObjectTree, CoreStmtTree, CoreStmtTrees}
use Rattle.piece_making.specs.declared.frame.Home.{Home}
use Rattle.piece_making.specs.declared.frame.Home.TheVariants as home
use Rattle.piece_making.specs.declared.work.Slot.{Slot}
use Rattle.piece_making.specs.Making.{State, array_number}
use Rattle.piece_making.specs.Calls.{Call}
use Rattle.c_meaning.specs.CoreRuns.Cells.{Spot, spot, Cells, Here}
use Rattle.c_meaning.specs.PieceRuns.Values.{Store, lengths_in}
use Rattle.c_meaning.specs.PieceRuns.Pieces.{Frame, kind_at}
use Rattle.c_expand.specs.Expressions.{Callee}
use Rattle.c_expand.specs.Statements.{statement}
use Rattle.piece_making.specs.Leaving.{is_empty}
use Rattle.expand_runs.specs.Reading.{IsTyped, IsNumber, variable_type}
use Rattle.expand_runs.specs.Showing.{Known, IsShown, IsApart, AreBelow}
use Rattle.expanded_programs.specs.Statements.Scopes.{Setting, Reach, IsScalar, IsArray}

-- ---- what stands for an object of the call

-- an array is what its declaration made, once that was reached
abbrev pub local_home : Option ArrayId → Slot → Home
local_home None slot = home.Local slot
local_home (Some a) slot = home.Array a

-- a parameter that is an array stands for no object of its own
abbrev pub OwnHome : Option ArrayId → Option Home → Home → Type 0
OwnHome seen (Some (home.Variable own)) h = h ≡ home.Variable own
OwnHome seen (Some (home.Local slot)) h = h ≡ local_home seen slot
OwnHome seen _ h = ⊥

module _ (here : Here) (c : Call) (Homes0 : Spot → Home → Type 0) (Lives0 : Spot → Type 0) where
  abbrev pub HomesIn : (ℕ → Option ArrayId) → Spot → Home → Type 0
  HomesIn seen x h = Homes0 x h ⊎ ((i : ℕ) × (x ≡ spot here.frame i) × OwnHome (seen i) (slice_get c.homes i) h)

  abbrev pub LivesIn : Reach → Spot → Type 0
  LivesIn r x = Lives0 x ⊎ ((i : ℕ) × (x ≡ spot here.frame i) × r.Lives i)

-- ---- the call

abbrev pub FileStands : Frame → Known → Call → (Spot → Home → Type 0) → ℕ → FileObjectTree → Type 0
FileStands f kinds c Homes0 i o =
    (IsScalar o.object × (((own : VarId) × (slice_get c.file i ≡ Some (home.Variable own)) × Homes0 (spot 0 i) (home.Variable own) × (variable_type f own.0 ≡ o.object.kind))
    ⊎ ((o.object.constant ≡ true) × (word : ℕ) × (slice_get c.file i ≡ Some (home.Constant word)) × Homes0 (spot 0 i) (home.Constant word) × (kinds.types (spot 0 i) ≡ o.object.kind) × IsNumber o.object.kind (number_of o.object.kind word))))
    ⊎ (IsArray o.object × (a : ArrayId) × (slice_get c.file i ≡ Some (home.Array a)) × Homes0 (spot 0 i) (home.Array a) × (kind_at f.arrays a.0 ≡ o.object.kind))

abbrev pub OwnStands : Frame → Here → Call → Setting → (Spot → Home → Type 0) → (Spot → Type 0) → ℕ → CoreObjectTree → Type 0
OwnStands f here c S Homes0 Lives0 i o =
    (IsScalar o × (own : VarId) × (slice_get c.homes i ≡ Some (home.Variable own)) × (variable_type f own.0 ≡ o.kind) × (here.spots i ≡ spot here.frame i))
    ⊎ ((IsArray o × (i < S.params) × (a : ArrayId) × (slice_get c.homes i ≡ Some (home.Array a)) × Homes0 (here.spots i) (home.Array a) × Lives0 (here.spots i) × (kind_at f.arrays a.0 ≡ o.kind))
    ⊎ (IsArray o × (S.params ≤ i) × (slot : Slot) × (slice_get c.homes i ≡ Some (home.Local slot))))

-- The call has variables of its own, from `fresh` on. No other object stands in its frame, but for the arrays that the host gives the top function.
pub record IsFrame (f : Frame) (here : Here) (c : Call) (S : Setting) (Homes0 : Spot → Home → Type 0) (Lives0 : Spot → Type 0) (kinds : Known) (fresh base : ℕ) : Type 0 where
  pub path : c.path ≡ here.path
  pub file_low : c.file_variables ≤ fresh
  pub low : fresh ≤ base
  pub apart : IsApart Homes0
  pub below : AreBelow Homes0 fresh
  pub frames : (x : Spot) (h : Home) (i : ℕ) → Homes0 x h → x ≡ spot here.frame i → (a : ArrayId) × (slice_get c.homes i ≡ Some (home.Array a))
  pub lives : (x : Spot) (i : ℕ) → Lives0 x → x ≡ spot here.frame i → (a : ArrayId) × (slice_get c.homes i ≡ Some (home.Array a))
  pub file : (i : ℕ) (o : FileObjectTree) → slice_get S.file i ≡ Some o → FileStands f kinds c Homes0 i o × Lives0 (spot 0 i)
  pub file_names : (i j : ℕ) (own own' : VarId) → slice_get c.file i ≡ Some (home.Variable own) → slice_get c.file j ≡ Some (home.Variable own') → own.0 ≡ own'.0 → i ≡ j
  pub file_bounded : (i : ℕ) (own : VarId) → slice_get c.file i ≡ Some (home.Variable own) → own.0 < fresh
  pub file_slots : (i : ℕ) (slot : Slot) → slice_get c.file i ≡ Some (home.Local slot) → ⊥
  pub own : (i : ℕ) (o : CoreObjectTree) → slice_get S.objects i ≡ Some o → OwnStands f here c S Homes0 Lives0 i o
  pub own_names : (i j : ℕ) (own own' : VarId) → slice_get c.homes i ≡ Some (home.Variable own) → slice_get c.homes j ≡ Some (home.Variable own') → own.0 ≡ own'.0 → i ≡ j
  pub own_bounded : (i : ℕ) (own : VarId) → slice_get c.homes i ≡ Some (home.Variable own) → (fresh ≤ own.0) × (own.0 < base)
  pub own_slots : (i j : ℕ) (slot slot' : Slot) → slice_get c.homes i ≡ Some (home.Local slot) → slice_get c.homes j ≡ Some (home.Local slot') → slot.0 ≡ slot'.0 → i ≡ j
  pub spots : (i : ℕ) → S.params ≤ i → here.spots i ≡ spot here.frame i
  pub objects : here.objects ≡ S.objects
  pub call_objects : c.objects ≡ S.objects
  pub result : here.result ≡ S.result
  pub set : (k : CType) → S.result ≡ Some k → (own : VarId) × (c.result ≡ Some own) × (fresh ≤ own.0) × (own.0 < base) × (variable_type f own.0 ≡ k)
  pub whole : (i : ℕ) → S.params ≤ i → kinds.Whole (spot here.frame i) → ⊥
  pub declared : (i : ℕ) (o : CoreObjectTree) → kinds.Declared (spot here.frame i) o → slice_get S.objects i ≡ Some o
  pub declares : (i : ℕ) (o : CoreObjectTree) → S.params ≤ i → slice_get S.objects i ≡ Some o → kinds.Declared (spot here.frame i) o

-- ---- where the text is

-- The arrays of the declarations that were reached were made, each for itself.
pub record IsScene (f : Frame) (c : Call) (S : Setting) (Homes0 : Spot → Home → Type 0) (base : ℕ) (r : Reach) (seen : ℕ → Option ArrayId) (st : State) : Type 0 where
  pub low : base ≤ length st.variables
  pub called : c.call.0 < st.calls
  pub slots : (i : ℕ) (slot : Slot) → slice_get c.homes i ≡ Some (home.Local slot) → slot.0 < length st.slots
  pub noted : (i : ℕ) (slot : Slot) (a : ArrayId) → slice_get c.homes i ≡ Some (home.Local slot) → seen i ≡ Some a → slice_get st.slots slot.0 ≡ Some (Some a)
  pub arrays : (x : Spot) (a : ArrayId) → Homes0 x (home.Array a) → a.0 < length st.arrays
  pub seen_low : (i : ℕ) (a : ArrayId) → seen i ≡ Some a → a.0 < length st.arrays
  pub seen_apart : (x : Spot) (a : ArrayId) (i : ℕ) (b : ArrayId) → Homes0 x (home.Array a) → seen i ≡ Some b → a.0 ≢ b.0
  pub seen_own : (i j : ℕ) (a b : ArrayId) → seen i ≡ Some a → seen j ≡ Some b → a.0 ≡ b.0 → i ≡ j
  pub seen_fits : (i : ℕ) (a : ArrayId) (o : CoreObjectTree) → seen i ≡ Some a → slice_get S.objects i ≡ Some o → (kind_at f.arrays a.0 ≡ o.kind) × (lengths_in (slice_get f.arrays a.0) ≡ o.lengths)
  pub ready : (i : ℕ) (slot : Slot) → slice_get c.homes i ≡ Some (home.Local slot) → r.Ready i → (a : ArrayId) × (seen i ≡ Some a)
  pub unready : (i : ℕ) (a : ArrayId) → seen i ≡ Some a → r.Ready i

-- the array of one more declaration
abbrev pub with_seen : (ℕ → Option ArrayId) → ℕ → Option ArrayId → ℕ → Option ArrayId
with_seen seen i a j = if i == j then a else seen j

abbrev pub made_for : Option Home → State → Option ArrayId
made_for (Some (home.Local slot)) st = Some (array_number (length st.arrays))
made_for _ st = None

-- the arrays that are seen behind a statement, which is made in this state
abbrev pub seen_behind : Call → CoreStmtTree → State → (ℕ → Option ArrayId) → ℕ → Option ArrayId
seen_behind c (core.declare object init) st seen = with_seen seen object (made_for (slice_get c.homes object) st)
seen_behind c (core.block objects body) st seen = seen
seen_behind c (core.act actions) st seen = seen
seen_behind c (core.if_ test body other at) st seen = seen
seen_behind c (core.switch_ test objects body at) st seen = seen
seen_behind c (core.case_ value body at) st seen = seen
seen_behind c (core.while_ test body at) st seen = seen
seen_behind c (core.do_ body test at) st seen = seen
seen_behind c (core.for_ objects init test step body at) st seen = seen
seen_behind c core.break_ st seen = seen
seen_behind c core.continue_ st seen = seen
seen_behind c (core.return_ value) st seen = seen

abbrev pub seen_all : Callee → Call → CoreStmtTrees → Bool → State → (ℕ → Option ArrayId) → ℕ → Option ArrayId
seen_all g c core.no_stmt tail st seen = seen
seen_all g c (core.more_stmts first rest) tail st seen = seen_all g c rest tail (statement g c first (tail && is_empty rest) st).state (seen_behind c first st seen)

-- ---- stores

-- what relates the stores where the text is
abbrev pub Relates : Frame → Here → Call → (Spot → Home → Type 0) → (Spot → Type 0) → Known → Reach → (ℕ → Option ArrayId) → Cells → Store → Type 0
Relates f here c Homes0 Lives0 kinds r seen s t = IsShown f (HomesIn here c Homes0 Lives0 seen) (LivesIn here c Homes0 Lives0 r) kinds s t × IsTyped f t

-- the objects that live outside live inside too, with the same arrays
pub record IsInner (r : Reach) (seen : ℕ → Option ArrayId) (r0 : Reach) (seen0 : ℕ → Option ArrayId) : Type 0 where
  pub lives : (i : ℕ) → r0.Lives i → r.Lives i
  pub same : (i : ℕ) → r0.Lives i → seen i ≡ seen0 i
