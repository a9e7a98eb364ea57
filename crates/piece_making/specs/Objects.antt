-- Objects, and what stands for them.
use Rattle.std.specs.Prelude.{ℕ, ◌+◌, ◌/◌, ◌^◌, Bool, true, false, List, [], ◌∷◌, Option, Some, None, if◌then◌else◌}
use Rattle.hls_base.specs.declared.number.ArrayId.{ArrayId}
use Rattle.hls_base.specs.ArrayAddress.{address_bits}
use Rattle.c_token.specs.declared.ctype.CType.{CType}
use Rattle.pieces.specs.Resolved.Core.{CoreObjectTree, FileObjectTree}
use Rattle.pieces.specs.Program.{ArrayTree}
use Rattle.piece_making.specs.declared.frame.Home.{Home}
use Rattle.piece_making.specs.declared.frame.Home.TheVariants as home
use Rattle.piece_making.specs.Making.{State, Part, gives, then_, fresh, new_slot, add_array, declared}

-- the weight of an array of these lengths: 1, and 1 for each 64 words of its memory
abbrev pub array_weight : List ℕ → ℕ
array_weight lengths = 1 + (2 ^ address_bits lengths) / 64

abbrev pub array_like : CoreObjectTree → Option (List ℕ) → Option (List ℕ) → Bool → ArrayTree
array_like o table initial host = record { name = o.name; kind = o.kind; lengths = o.lengths; table = table; initial = initial; host = host }

-- an array that the host reaches
abbrev pub host_array : CoreObjectTree → State → Part Home
host_array o s = then_ (add_array (array_like o None None true) s) (λ a s1. gives (home.Array a) s1)

-- an object of file scope: a table where it is const
abbrev pub file_info : FileObjectTree → ArrayTree
file_info o = if o.object.constant then array_like o.object (Some o.first) None false else array_like o.object None (Some o.first) false

abbrev pub file_array : FileObjectTree → State → Part Home
file_array o s =
    then_ (declared (array_weight o.object.lengths) s) (λ counted s1.
    then_ (add_array (file_info o) s1) (λ a s2. gives (home.Array a) s2))

-- an array of a call, whose declaration is reached
abbrev pub local_array : CoreObjectTree → State → Part ArrayId
local_array o s = then_ (declared (array_weight o.lengths) s) (λ counted s1. add_array (array_like o None None false) s1)

-- what stands for an object of a call that is no parameter: an array is made when its declaration is reached
abbrev pub local_of : List ℕ → CType → State → Part Home
local_of [] kind s = then_ (fresh kind s) (λ own s1. gives (home.Variable own) s1)
local_of (len ∷ lengths) kind s = then_ (new_slot s) (λ slot s1. gives (home.Local slot) s1)

abbrev pub local : CoreObjectTree → State → Part Home
local o s = local_of o.lengths o.kind s

-- the value that a scalar of file scope has at first
abbrev pub first_value : List ℕ → ℕ
first_value [] = 0
first_value (n ∷ ns) = n
