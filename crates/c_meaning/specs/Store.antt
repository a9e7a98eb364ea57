-- The objects of a run, and the names that stand for them: C11 6.2.1, 6.2.4, 6.5.2.1, 6.7.9.
use Rattle.std.specs.Prelude.{ℕ, ◌+◌, ◌*◌, nat_lt, nat_le, List, [], ◌∷◌, ◌++◌, map, length, take, replicate, slice_get, slice_set, ℤ, pos, negsuc, Option, Some, None, bytes_eq, if◌then◌else◌}
use Rattle.hls_base.specs.declared.place.Place.{Place}
use Rattle.hls_base.specs.ArrayAddress.{element_count}
use Rattle.c_token.specs.declared.ctype.CType.{CType}
use Rattle.c_tree.specs.Tree as tree
use Rattle.c_tree.specs.Tree.{Tree, ObjectTree, StmtTree, FirstTree, StmtTrees}
use Rattle.c_value.specs.Values.{int_type}
use Rattle.c_meaning.specs.declared.names.Binding.{Binding}
use Rattle.c_meaning.specs.Checks.Lengths.{lengths_of, usable, all_usable}

-- ---- objects

-- An object: its type, the lengths of its dimensions, and the numbers of its elements, row by row. A scalar has no lengths and one element. An element that was not written has no number.
pub record Object : Type 0 where
  pub kind : CType
  pub lengths : List ℕ
  pub elements : List (Option ℤ)

-- Lengths are 1 to 65,536, and so is the number of elements; an object where that fails, which no program without faults has, counts as a scalar.
abbrev pub within_limits : Option (List ℕ) → List ℕ
within_limits None = []
within_limits (Some lengths) = if nat_le (element_count lengths) 65536 then lengths else []

abbrev pub lengths_in : ObjectTree → List ℕ
lengths_in o = within_limits (all_usable (map usable (lengths_of o)))

-- an object as it is when its lifetime begins, C11 6.2.4 paragraph 6
abbrev pub fresh : CType → List ℕ → Object
fresh kind lengths = record { kind = kind; lengths = lengths; elements = replicate (element_count lengths) None }

abbrev pub unwritten : ObjectTree → Object
unwritten o = fresh o.kind (lengths_in o)

abbrev pub scalar : CType → ℤ → Object
scalar kind n = record { kind = kind; lengths = []; elements = Some n ∷ [] }

-- What a run has at a moment: its objects, of which those whose lifetime began last stand last, and how many more points it may pass.
pub record State : Type 0 where
  pub objects : List Object
  pub left : ℕ

-- An object is named by its number among the objects.
abbrev pub kind_in : Option Object → CType
kind_in None = int_type
kind_in (Some o) = o.kind

abbrev pub lengths_at : Option Object → List ℕ
lengths_at None = []
lengths_at (Some o) = o.lengths

abbrev pub element_in : Option (Option ℤ) → Option ℤ
element_in None = None
element_in (Some element) = element

abbrev pub elements_in : Option Object → List (Option ℤ)
elements_in None = []
elements_in (Some o) = o.elements

abbrev pub kind_of_object : State → ℕ → CType
kind_of_object s object = kind_in (slice_get s.objects object)

abbrev pub lengths_of_object : State → ℕ → List ℕ
lengths_of_object s object = lengths_at (slice_get s.objects object)

-- the number of an element, which is counted row by row, if it was written
abbrev pub read_element : State → ℕ → ℕ → Option ℤ
read_element s object element = element_in (slice_get (elements_in (slice_get s.objects object)) element)

abbrev pub with_element : ℕ → ℤ → Object → Object
with_element element n o = record o { elements = slice_set o.elements element (Some n) }

abbrev pub changed : (Object → Object) → List Object → ℕ → Option Object → List Object
changed f objects object None = objects
changed f objects object (Some o) = slice_set objects object (f o)

abbrev pub write_element : State → ℕ → ℕ → ℤ → State
write_element s object element n = record s { objects = changed (with_element element n) s.objects object (slice_get s.objects object) }

-- no element of the object is written any more
abbrev pub forgotten : Object → Object
forgotten o = fresh o.kind o.lengths

abbrev pub forget : State → ℕ → State
forget s object = record s { objects = changed forgotten s.objects object (slice_get s.objects object) }

-- The place of an element among all of the array, row by row, where each subscript is within its dimension (C11 6.5.2.1).
abbrev pub subscript_in : ℤ → ℕ → Option ℕ
subscript_in (pos i) len = if nat_lt i len then Some i else None
subscript_in (negsuc i) len = None

abbrev pub place_in_rows : Option ℕ → List ℕ → Option ℕ → Option ℕ
place_in_rows None lengths rest = None
place_in_rows (Some i) lengths None = None
place_in_rows (Some i) lengths (Some rest) = Some (i * element_count lengths + rest)

abbrev pub element_place : List ℕ → List ℤ → Option ℕ
element_place [] [] = Some 0
element_place [] (i ∷ is) = None
element_place (len ∷ lengths) [] = None
element_place (len ∷ lengths) (i ∷ is) = place_in_rows (subscript_in i len) lengths (element_place lengths is)

-- ---- names

-- What the meaning of a text depends on besides the state: the names of file scope, and those of the inner scopes from the outermost to the innermost; the calls that lead from the top function to it; the type of the function's result; and the number of the object that is declared next.
pub record Environment : Type 0 where
  pub file : List Binding
  pub names : List Binding
  pub path : List Place
  pub result : Option CType
  pub next : ℕ

-- The innermost declaration of a name is the one that counts (C11 6.2.1 paragraph 4).
abbrev pub inner_or : Option ℕ → Binding → List ℕ → Option ℕ
inner_or (Some object) b name = Some object
inner_or None b name = if bytes_eq b.name name then Some b.object else None

abbrev pub find_name : List Binding → List ℕ → Option ℕ
find_name [] name = None
find_name (b ∷ bs) name = inner_or (find_name bs name) b name

-- Every name of a program without faults is declared.
abbrev pub object_found : Option ℕ → Option ℕ → ℕ
object_found (Some object) outer = object
object_found None (Some object) = object
object_found None None = 0

abbrev pub object_named : Environment → List ℕ → ℕ
object_named env name = object_found (find_name env.names name) (find_name env.file name)

-- the name of a declaration stands for the next object of its block, from behind its declarator on (C11 6.2.1 paragraph 7)
abbrev pub declared : Environment → List ℕ → Environment
declared env name = record env { names = env.names ++ record { name = name; object = env.next } ∷ []; next = env.next + 1 }

abbrev pub all_declared : Environment → List ObjectTree → Environment
all_declared env [] = env
all_declared env (o ∷ os) = all_declared (declared env o.name) os

-- ---- the objects of a block, in the order of their declarations

abbrev pub declared_by : StmtTree → List ObjectTree
declared_by (tree.declare objects) = objects
declared_by _ = []

abbrev pub declared_in : StmtTrees → List ObjectTree
declared_in tree.no_stmt = []
declared_in (tree.more_stmts first rest) = declared_by first ++ declared_in rest

abbrev pub declared_first : FirstTree → List ObjectTree
declared_first tree.no_first = []
declared_first (tree.first part) = declared_by part

-- Their lifetimes begin, all unwritten, when the block is entered, and end with it (C11 6.2.4 paragraphs 5 and 6).
abbrev pub entered : List ObjectTree → State → State
entered os s = record s { objects = s.objects ++ map unwritten os }

abbrev pub inside : State → Environment → Environment
inside s env = record env { next = length s.objects }

abbrev pub left_block : ℕ → State → State
left_block count s = record s { objects = take count s.objects }
