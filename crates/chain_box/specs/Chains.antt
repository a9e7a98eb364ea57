-- The chain box: boxes joined by queues of at most `depth` items. Everything in a cycle reads the state at its beginning, and all changes take effect together.
use Rattle.std.specs.Prelude.{◌≡◌, ℕ, Bool, true, false, not, ◌&&◌, ◌||◌, List, [], ◌∷◌, ◌++◌, map, length, nat_lt, get_or, drop, Option, Some, if◌then◌else◌}
use Rattle.std.specs.Option.{option_and_then}
use Rattle.rtl_core.specs.Box.{Box}
use Rattle.rtl_core.specs.Agreement.{IsBroken}
use Rattle.chain_box.specs.StageBoxes.{StageBox, StageStep, begun_box, is_ready, is_done, given_result, ComesTo}

-- A stage, its box, and the queue after it. A result is fresh until it is appended to that queue.
pub record Link : Type 0 where
  pub stage : StageBox
  pub box : Box
  pub fresh : Bool
  pub queue : List ℕ

-- the queue before the first stage, and the stages
pub record Chain : Type 0 where
  pub entry : List ℕ
  pub links : List Link

-- the pins in a cycle
pub record Pins : Type 0 where
  pub in_valid : Bool
  pub in_data : ℕ
  pub out_take : Bool

abbrev pub is_some_item : List ℕ → Bool
is_some_item [] = false
is_some_item (x ∷ xs) = true

abbrev pub first : List ℕ → ℕ
first q = get_or q 0 0

abbrev pub has_room : ℕ → List ℕ → Bool
has_room depth q = nat_lt (length q) depth

-- the stage's result is appended to the queue after it
abbrev pub gives : ℕ → Link → Bool
gives depth l = is_done l.box.phase && (l.fresh && has_room depth l.queue)

-- the stage is started with the first item of the queue before it
abbrev pub starts : ℕ → List ℕ → Link → Bool
starts depth front l = is_ready l.box.phase && ((not l.fresh || gives depth l) && is_some_item front)

-- the first item of this queue is removed, by the stage after it or by the user
abbrev pub taken : ℕ → Bool → List ℕ → List Link → Bool
taken depth take front [] = take && is_some_item front
taken depth take front (l ∷ ls) = starts depth front l

abbrev pub popped : Bool → List ℕ → List ℕ
popped b q = if b then drop 1 q else q

abbrev pub pushed : Bool → ℕ → List ℕ → List ℕ
pushed b x q = if b then q ++ x ∷ [] else q

-- A start makes the result fresh; appending it ends that, unless the stage is started again.
abbrev pub fresh_after : Bool → Bool → Bool → Bool
fresh_after start give fresh = start || (fresh && not give)

-- One stage in a cycle; `take` says whether the first item of the queue after it is removed. The box may take any step that its answers allow.
pub record LinkStep (depth : ℕ) (front : List ℕ) (take : Bool) (old new : Link) : Type 0 where
  pub stage : new.stage ≡ old.stage
  pub box : StageStep old.stage old.box (starts depth front old) (first front) new.box
  pub fresh : new.fresh ≡ fresh_after (starts depth front old) (gives depth old) old.fresh
  pub queue : new.queue ≡ pushed (gives depth old) (given_result old.box.phase) (popped take old.queue)

abbrev pub LinksStep : ℕ → Bool → List ℕ → List Link → List Link → Type 0
LinksStep depth take front [] [] = Unit {0}
LinksStep depth take front [] (m ∷ ms) = ⊥
LinksStep depth take front (l ∷ ls) [] = ⊥
LinksStep depth take front (l ∷ ls) (m ∷ ms) = LinkStep depth front (taken depth take l.queue ls) l m × LinksStep depth take l.queue ls ms

pub record ChainStep (depth : ℕ) (p : Pins) (old new : Chain) : Type 0 where
  pub entry : new.entry ≡ pushed (p.in_valid && has_room depth old.entry) p.in_data (popped (taken depth p.out_take old.entry old.links) old.entry)
  pub links : LinksStep depth p.out_take old.entry old.links new.links

-- the queue after the last stage
abbrev pub last : List ℕ → List Link → List ℕ
last front [] = front
last front (l ∷ ls) = last l.queue ls

pub record Outs : Type 0 where
  pub in_room : Bool
  pub out_valid : Bool
  pub out_data : ℕ

-- `out_data` is the first item, or 0 if there is none.
abbrev pub chain_outs : ℕ → Chain → Outs
chain_outs depth c = record { in_room = has_room depth c.entry; out_valid = is_some_item (last c.entry c.links); out_data = first (last c.entry c.links) }

-- the initial state: no items, and each box as it is after a reset
abbrev pub begun_link : StageBox → Link
begun_link b = record { stage = b; box = begun_box b; fresh = false; queue = [] }

abbrev pub begun : List StageBox → Chain
begun stages = record { entry = []; links = map begun_link stages }

-- no box is broken
abbrev pub AreSound : List Link → Type 0
AreSound [] = Unit {0}
AreSound (l ∷ ls) = (¬ IsBroken l.box.phase) × AreSound ls

-- ---- runs

-- With these pins the chain can show these outputs, cycle by cycle.
abbrev pub ChainRuns : ℕ → Chain → List Pins → List Outs → Type 0
ChainRuns depth c [] [] = Unit {0}
ChainRuns depth c [] (o ∷ os) = ⊥
ChainRuns depth c (p ∷ ps) [] = ⊥
ChainRuns depth c (p ∷ ps) (o ∷ os) = (o ≡ chain_outs depth c) × ((next : Chain) × ChainStep depth p c next × ChainRuns depth next ps os)

-- the item, if there is one
abbrev pub item_if : Bool → ℕ → List ℕ
item_if b x = if b then x ∷ [] else []

-- the items put in and taken out in a cycle
abbrev pub put_in : Pins → Outs → List ℕ
put_in p o = item_if (p.in_valid && o.in_room) p.in_data

abbrev pub taken_out : Pins → Outs → List ℕ
taken_out p o = item_if (p.out_take && o.out_valid) o.out_data

-- the items of all cycles, in order
abbrev pub items_in : List Pins → List Outs → List ℕ
items_in [] os = []
items_in (p ∷ ps) [] = []
items_in (p ∷ ps) (o ∷ os) = put_in p o ++ items_in ps os

abbrev pub items_out : List Pins → List Outs → List ℕ
items_out [] os = []
items_out (p ∷ ps) [] = []
items_out (p ∷ ps) (o ∷ os) = taken_out p o ++ items_out ps os

-- one function for each stage: the result of a start with an item, if there is one
abbrev pub ComeTo : List StageBox → List (ℕ → Option ℕ) → Type 0
ComeTo [] [] = Unit {0}
ComeTo [] (f ∷ results) = ⊥
ComeTo (b ∷ stages) [] = ⊥
ComeTo (b ∷ stages) (f ∷ results) = ComesTo b f × ComeTo stages results

-- the composition of these functions, if each of them gives a result
abbrev pub composed : List (ℕ → Option ℕ) → ℕ → Option ℕ
composed [] x = Some x
composed (f ∷ results) x = option_and_then (composed results) (f x)
