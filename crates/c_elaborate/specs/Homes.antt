-- Where the objects of a run of a program are in a run of its core program.
use Rattle.std.specs.Prelude.{◌≡◌, ◌≢◌, ℕ, ◌+◌, ◌<◌, ◌==◌, ◌⊎◌, not, true, false, List, [], ◌∷◌, map, length, slice_get, Option, Some, None}
use Rattle.c_token.specs.declared.ctype.CType.{CType}
use Rattle.c_tree.specs.Tree.{ObjectTree, ParamTree, FunctionTree}
use Rattle.c_meaning.specs.declared.names.Binding.{Binding}
use Rattle.c_meaning.specs.declared.value.Argument.{Argument}
use Rattle.c_meaning.specs.declared.value.Argument.TheVariants as argument
use Rattle.c_meaning.specs.Store.{Object, Environment, lengths_in, find_name}
use Rattle.pieces.specs.Resolved.Core.{CoreObjectTree}
use Rattle.c_meaning.specs.CoreRuns.Cells.{Spot, spot, Cells, Given, number_given, array_given, Here, spot_of}
use Rattle.c_elaborate.specs.declared.names.Known.{Known}
use Rattle.c_elaborate.specs.declared.names.Binding.{Binding as Resolution}
use Rattle.c_elaborate.specs.Names.{object_found}
use Rattle.c_elaborate.specs.Objects.{object_elaborated}

-- Each element of a list has a property.
abbrev pub Each : {A : Type 0} → (A → Type 0) → List A → Type 0
Each P [] = Unit {0}
Each P (x ∷ xs) = P x × Each P xs

-- ---- homes

-- The home of an object is the spot where it is, with the type and the lengths that it has as long as it lives.
pub record Home : Type 0 where
  pub spot : Spot
  pub kind : CType
  pub lengths : List ℕ

abbrev pub home : Spot → CType → List ℕ → Home
home at kind lengths = record { spot = at; kind = kind; lengths = lengths }

abbrev pub held : Cells → Home → Object
held t h = t h.spot

abbrev pub IsShaped : Cells → Home → Type 0
IsShaped t h = ((t h.spot).kind ≡ h.kind) × ((t h.spot).lengths ≡ h.lengths)

-- The homes are in the order of the objects, and each has the object.
abbrev pub Alike : List Home → List Object → Cells → Type 0
Alike homes s t = (s ≡ map (held t) homes) × Each (IsShaped t) homes

abbrev pub IsElsewhere : Spot → Home → Type 0
IsElsewhere x h = h.spot ≢ x

abbrev pub IsDistinct : List Home → Type 0
IsDistinct [] = Unit {0}
IsDistinct (h ∷ hs) = Each (IsElsewhere h.spot) hs × IsDistinct hs

-- in an outer frame, or in this frame with a number below
abbrev pub IsBelow : ℕ → ℕ → Home → Type 0
IsBelow frame free h = (h.spot.frame < frame) ⊎ ((h.spot.frame ≡ frame) × (h.spot.number < free))

-- where a text of the program stands in a call of the core program
abbrev pub placed : ℕ → (ℕ → Spot) → List CoreObjectTree → Environment → Here
placed frame spots objects env = record { frame = frame; spots = spots; objects = objects; path = env.path; result = env.result }

-- ---- names

-- The object has a home, where it is resolved to, and of the type and form that are known.
pub record IsAt (homes : List Home) (here : Here) (position : ℕ) (known : Known) : Type 0 where
  pub lengths : List ℕ
  pub at : slice_get homes position ≡ Some (home (spot_of here known.cell) known.kind lengths)
  pub form : known.is_array ≡ not (length lengths == 0)

-- the object of a name, among the inner names and those of file scope
abbrev pub found_in : Option ℕ → Option ℕ → Option ℕ
found_in (Some object) outer = Some object
found_in None outer = outer

abbrev pub found : List Binding → List Binding → List ℕ → Option ℕ
found file inner name = found_in (find_name inner name) (find_name file name)

abbrev pub Finds : List Home → Here → Option ℕ → Option Known → Type 0
Finds homes here None None = Unit {0}
Finds homes here None (Some known) = ⊥
Finds homes here (Some i) None = ⊥
Finds homes here (Some i) (Some known) = IsAt homes here i known

-- Each name stands for the object that it is resolved to.
abbrev pub Named : List Home → Here → List Binding → List Binding → List Resolution → Type 0
Named homes here file inner names = (name : List ℕ) → Finds homes here (found file inner name) (object_found name names)

-- No two objects have one home; in this frame the numbers from `free` on are no object's; and the names of file scope are resolved in each call.
pub record Stands (file : List Binding) (names : List Resolution) (homes : List Home) (frame free : ℕ) : Type 0 where
  pub distinct : IsDistinct homes
  pub below : Each (IsBelow frame free) homes
  pub resolved : (here : Here) → Named homes here file [] names

-- ---- objects of a function

-- The function has these objects, from this number on.
abbrev pub Has : List CoreObjectTree → ℕ → List ObjectTree → Type 0
Has objects number [] = Unit {0}
Has objects number (o ∷ os) = (slice_get objects number ≡ Some (object_elaborated o)) × Has objects (number + 1) os

-- the homes of new objects in this frame
abbrev pub new_homes : ℕ → ℕ → List ObjectTree → List Home
new_homes frame number [] = []
new_homes frame number (o ∷ os) = home (spot frame number) o.kind (lengths_in o) ∷ new_homes frame (number + 1) os

-- The objects of a block that are still to be declared have homes, and the function has them.
abbrev pub Awaits : List Home → Here → ℕ → ℕ → List ObjectTree → Type 0
Awaits homes here position number [] = Unit {0}
Awaits homes here position number (o ∷ os) =
    (slice_get homes position ≡ Some (home (here.spots number) o.kind (lengths_in o)))
    × (slice_get here.objects number ≡ Some (object_elaborated o))
    × Awaits homes here (position + 1) (number + 1) os

-- ---- arguments

-- what is given for a parameter in both runs: the same number, or an array and its home
abbrev pub IsGiven : List Home → ObjectTree → Argument → Given → Type 0
IsGiven homes o (argument.Number n) (number_given m) = (n ≡ m) × (length o.lengths == 0 ≡ true)
IsGiven homes o (argument.Number n) (array_given x) = ⊥
IsGiven homes o (argument.Array i) (number_given m) = ⊥
IsGiven homes o (argument.Array i) (array_given x) =
    (lengths : List ℕ) × (slice_get homes i ≡ Some (home x o.kind lengths)) × (length lengths == 0 ≡ false) × (length o.lengths == 0 ≡ false)

abbrev pub AreGiven : List Home → List ParamTree → List Argument → List Given → Type 0
AreGiven homes [] [] [] = Unit {0}
AreGiven homes (p ∷ ps) (a ∷ as_) (b ∷ bs) = IsGiven homes p.object a b × AreGiven homes ps as_ bs
AreGiven homes _ _ _ = ⊥

abbrev pub AreTaken : List Home → Option FunctionTree → List Argument → List Given → Type 0
AreTaken homes None given given' = ⊥
AreTaken homes (Some f) given given' = AreGiven homes f.params given given'
