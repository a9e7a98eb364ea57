-- The faults of small programs. A place is a column of line 1.
use Rattle.std.proofs.Common.{◌≡◌, ℕ, zero, suc, ◌+◌, Bool, true, false, List, [], ◌∷◌, ◌++◌, codes, Option, Some, None, refl}
use Rattle.hls_base.specs.declared.place.Place.{Place}
use Rattle.hls_base.specs.declared.refusal.Refusal.{Refusal}
use Rattle.c_token.specs.declared.ctype.CType.{CType}
use Rattle.c_tree.specs.declared.operator.Binary.TheVariants as b
use Rattle.c_tree.specs.declared.operator.Unary.TheVariants as u
use Rattle.c_tree.specs.Tree as tree
use Rattle.c_tree.specs.Tree.{Tree, Trees, row, TargetTree, ActionTree, InitTree, init_row, ObjectTree, StmtTree, StmtTrees, stmt_row, ParamTree, FunctionTree, ItemTree, ProgramTree}
use Rattle.c_value.specs.Values.{integer, int_type}
use Rattle.c_meaning.specs.Checks.Faults.{fault, least}
use Rattle.c_meaning.specs.Checks.Programs.{program_faults, is_well_formed}

abbrev column : ℕ → Place
column n = record { line = 1; column = n; part = 0 }

abbrev here : ℕ → ℕ → Option Refusal
here rule n = Some (fault rule (column n))

-- ---- trees

abbrev num : ℕ → ℕ → Tree
num n at = tree.number n int_type (column at)

abbrev var : List ℕ → ℕ → Tree
var x at = tree.name x (column at)

abbrev to : List ℕ → ℕ → TargetTree
to x at = tree.target x tree.none (column at)

abbrev minus : ℕ → ℕ → Tree
minus n at = tree.unary u.Minus (num n (at + 1)) (column at)

abbrev param : List ℕ → ℕ → CType → Bool → List (Option Tree) → ParamTree
param x at kind constant lengths = record {
  object = record { name = x; at = column at; kind = kind; constant = constant; lengths = lengths; init = None };
  named = true;
}

abbrev int_param : List ℕ → ℕ → ParamTree
int_param x at = param x at int_type false []

abbrev unnamed : ℕ → ParamTree
unnamed at = record {
  object = record { name = []; at = column at; kind = int_type; constant = false; lengths = []; init = None };
  named = false;
}

abbrev variable : List ℕ → ℕ → Bool → List (Option Tree) → Option InitTree → ObjectTree
variable x at constant lengths init = record { name = x; at = column at; kind = int_type; constant = constant; lengths = lengths; init = init }

abbrev scalar : List ℕ → ℕ → ObjectTree
scalar x at = variable x at false [] None

abbrev declared : List ℕ → ℕ → List ParamTree → ItemTree
declared x at params = tree.function (record { name = x; at = column at; result = Some int_type; params = params; body = None })

abbrev defined : Option CType → List ℕ → ℕ → List ParamTree → List StmtTree → ItemTree
defined result x at params body = tree.function (record { name = x; at = column at; result = result; params = params; body = Some (stmt_row body) })

abbrev int_function : List ℕ → ℕ → List ParamTree → List StmtTree → ItemTree
int_function x at params body = defined (Some int_type) x at params body

abbrev void_function : List ℕ → ℕ → List ParamTree → List StmtTree → ItemTree
void_function x at params body = defined None x at params body

abbrev returning : Tree → StmtTree
returning e = tree.return_ (Some e) (column 9)

abbrev acting : Tree → StmtTree
acting e = tree.act (tree.evaluation e ∷ [])

abbrev call : List ℕ → ℕ → List Tree → Tree
call x at args = tree.call x (row args) (column at)

abbrev program : List ItemTree → ProgramTree
program items = record { items = items; end = column 99 }

abbrev first : List ItemTree → Option Refusal
first items = least (program_faults (program items) (codes "f"))

-- `int f(int a)` with this body
abbrev in_f : List StmtTree → List ItemTree
in_f body = int_function (codes "f") 5 (int_param (codes "a") 11 ∷ []) body ∷ []

abbrev a : ℕ → Tree
a at = var (codes "a") at

abbrev plus : Tree → Tree → ℕ → Tree
plus left right at = tree.binary b.Add left right (column at)

abbrev array_of : ℕ → List (Option Tree)
array_of n = Some (num n 14) ∷ []

-- ---- no fault

taken : first (in_f (returning (plus (a 20) (num 1 22) 21) ∷ [])) ≡ None
taken = refl

taken_is_well_formed : is_well_formed (program (in_f (returning (a 20) ∷ []))) 0 ≡ true
taken_is_well_formed = refl

a_declaration_is_no_top : is_well_formed (program (declared (codes "f") 1 [] ∷ in_f (returning (a 20) ∷ []))) 0 ≡ false
a_declaration_is_no_top = refl

-- ---- rule 7

not_declared : first (in_f (returning (var (codes "x") 20) ∷ [])) ≡ here 7 20
not_declared = refl

-- each call of a function without a body
never_defined : first (declared (codes "g") 1 [] ∷ in_f (returning (call (codes "g") 20 []) ∷ [])) ≡ here 7 20
never_defined = refl

-- a call before the first declaration
called_too_early : first (in_f (returning (call (codes "g") 20 []) ∷ []) ++ int_function (codes "g") 30 [] (returning (num 1 40) ∷ []) ∷ []) ≡ here 7 20
called_too_early = refl

-- an object is visible in its own initialiser
itself : first (in_f (tree.declare (variable (codes "x") 15 false [] (Some (tree.single (var (codes "x") 17))) ∷ []) ∷ returning (num 1 20) ∷ [])) ≡ None
itself = refl

-- ---- rule 8

declared_twice : first (in_f (tree.declare (scalar (codes "x") 15 ∷ scalar (codes "x") 17 ∷ []) ∷ returning (num 1 20) ∷ [])) ≡ here 8 17
declared_twice = refl

-- a parameter and the outermost block are one scope, an inner block is another
hides_a_parameter : first (in_f (tree.declare (scalar (codes "a") 15 ∷ []) ∷ returning (num 1 20) ∷ [])) ≡ here 8 15
hides_a_parameter = refl

in_an_inner_block : first (in_f (tree.block (stmt_row (tree.declare (scalar (codes "a") 15 ∷ []) ∷ [])) ∷ returning (num 1 20) ∷ [])) ≡ None
in_an_inner_block = refl

-- a `for` is a scope, its block another
in_a_for : first (in_f (tree.for_ (tree.first (tree.declare (scalar (codes "a") 15 ∷ []))) None [] (tree.block (stmt_row (tree.declare (scalar (codes "a") 18 ∷ []) ∷ []))) (column 12)
    ∷ returning (num 1 20) ∷ [])) ≡ None
in_a_for = refl

two_bodies : first (in_f (returning (num 1 20) ∷ []) ++ int_function (codes "f") 30 (int_param (codes "a") 35 ∷ []) (returning (num 1 40) ∷ []) ∷ []) ≡ here 8 30
two_bodies = refl

other_parameters : first (declared (codes "f") 1 (param (codes "a") 2 (integer true 64) false [] ∷ []) ∷ in_f (returning (num 1 20) ∷ [])) ≡ here 8 5
other_parameters = refl

-- const of a scalar is no difference, const of an array's elements is one
const_scalar : first (declared (codes "f") 1 (param (codes "a") 2 int_type true [] ∷ []) ∷ in_f (returning (num 1 20) ∷ [])) ≡ None
const_scalar = refl

const_elements : first (declared (codes "f") 1 (param (codes "a") 2 int_type true (array_of 4) ∷ [])
    ∷ int_function (codes "f") 5 (param (codes "a") 11 int_type false (array_of 4) ∷ []) (returning (num 1 20) ∷ []) ∷ []) ≡ here 8 5
const_elements = refl

-- a length at fault equals no length: rule 8 stands before rule 13
faulty_length_disagrees : first (declared (codes "f") 1 (param (codes "a") 2 int_type false (array_of 4) ∷ [])
    ∷ int_function (codes "f") 5 (param (codes "a") 11 int_type false (array_of 0) ∷ []) (returning (num 1 20) ∷ []) ∷ []) ≡ here 8 5
faulty_length_disagrees = refl

-- ---- rules 9 and 10

abbrev with_array : List StmtTree → List ItemTree
with_array body = int_function (codes "f") 5 (param (codes "t") 11 int_type false (Some (num 2 12) ∷ Some (num 3 14) ∷ []) ∷ []) body ∷ []

array_as_value : first (with_array (returning (var (codes "t") 20) ∷ [])) ≡ here 9 20
array_as_value = refl

scalar_with_subscript : first (in_f (returning (tree.index (codes "a") (row (num 0 22 ∷ [])) (column 20)) ∷ [])) ≡ here 9 20
scalar_with_subscript = refl

too_few_subscripts : first (with_array (returning (tree.index (codes "t") (row (num 0 22 ∷ [])) (column 20)) ∷ [])) ≡ here 10 20
too_few_subscripts = refl

object_called : first (in_f (returning (call (codes "a") 20 []) ∷ [])) ≡ here 9 20
object_called = refl

function_as_object : first (in_f (returning (var (codes "f") 20) ∷ [])) ≡ here 9 20
function_as_object = refl

unnamed_parameter : first (int_function (codes "f") 5 (unnamed 7 ∷ []) (returning (num 1 20) ∷ []) ∷ []) ≡ here 9 7
unnamed_parameter = refl

unnamed_in_a_declaration : first (declared (codes "f") 1 (unnamed 3 ∷ []) ∷ in_f (returning (num 1 20) ∷ [])) ≡ None
unnamed_in_a_declaration = refl

void_as_value : first (void_function (codes "g") 1 [] [] ∷ in_f (returning (call (codes "g") 20 []) ∷ [])) ≡ here 9 20
void_as_value = refl

-- the left operand of a comma may be a void call, the right one of an inner comma not
void_on_the_left : first (void_function (codes "g") 1 [] [] ∷ in_f (returning (tree.comma (call (codes "g") 20 []) (num 1 25) (column 24)) ∷ [])) ≡ None
void_on_the_left = refl

void_in_the_middle : first (void_function (codes "g") 1 [] []
    ∷ in_f (returning (tree.comma (tree.comma (call (codes "g") 20 []) (call (codes "g") 24 []) (column 23)) (num 1 29) (column 28)) ∷ [])) ≡ here 9 24
void_in_the_middle = refl

too_many_arguments : first (int_function (codes "g") 1 [] (returning (num 1 3) ∷ []) ∷ in_f (returning (call (codes "g") 20 (num 1 22 ∷ [])) ∷ [])) ≡ here 10 20
too_many_arguments = refl

-- ---- rule 11

abbrev takes_array : Bool → ItemTree
takes_array constant = int_function (codes "g") 1 (param (codes "t") 2 int_type constant (array_of 4) ∷ []) (returning (num 1 3) ∷ [])

abbrev gives_array : Bool → List (Option Tree) → List Tree → ItemTree
gives_array constant lengths args = int_function (codes "f") 5 (param (codes "t") 11 int_type constant lengths ∷ []) (returning (call (codes "g") 20 args) ∷ [])

same_array : first (takes_array false ∷ gives_array false (array_of 4) (var (codes "t") 22 ∷ []) ∷ []) ≡ None
same_array = refl

other_length : first (takes_array false ∷ gives_array false (array_of 5) (var (codes "t") 22 ∷ []) ∷ []) ≡ here 11 20
other_length = refl

const_is_lost : first (takes_array false ∷ gives_array true (array_of 4) (var (codes "t") 22 ∷ []) ∷ []) ≡ here 11 20
const_is_lost = refl

const_is_added : first (takes_array true ∷ gives_array false (array_of 4) (var (codes "t") 22 ∷ []) ∷ []) ≡ None
const_is_added = refl

-- an argument that is not declared is rule 11 at the called name, which stands before it
undeclared_array : first (takes_array false ∷ gives_array false (array_of 4) (var (codes "x") 22 ∷ []) ∷ []) ≡ here 11 20
undeclared_array = refl

array_for_a_scalar : first (int_function (codes "g") 1 (int_param (codes "x") 2 ∷ []) (returning (num 1 3) ∷ []) ∷ gives_array false (array_of 4) (var (codes "t") 22 ∷ []) ∷ []) ≡ here 9 22
array_for_a_scalar = refl

-- ---- rule 12

const_assigned : first (tree.objects (variable (codes "c") 1 true [] None ∷ []) ∷ in_f (tree.act (tree.assignment (to (codes "c") 20) None (num 1 22) (column 21) ∷ []) ∷ returning (num 1 24) ∷ [])) ≡ here 12 20
const_assigned = refl

-- ---- rules 13 and 17

abbrev with_lengths : List (Option Tree) → Option InitTree → Option Refusal
with_lengths lengths init = first (in_f (tree.declare (variable (codes "t") 15 false lengths init ∷ []) ∷ returning (num 1 30) ∷ []))

length_65536 : with_lengths (Some (num 65536 17) ∷ []) None ≡ None
length_65536 = refl

length_65537 : with_lengths (Some (num 65537 17) ∷ []) None ≡ here 13 15
length_65537 = refl

length_0 : with_lengths (Some (num 0 17) ∷ []) None ≡ here 13 15
length_0 = refl

length_below_0 : with_lengths (Some (minus 1 17) ∷ []) None ≡ here 13 15
length_below_0 = refl

length_missing : with_lengths (None ∷ []) None ≡ here 13 15
length_missing = refl

length_by_items : with_lengths (None ∷ []) (Some (tree.braced (init_row (tree.single (num 1 20) ∷ [])) (column 19))) ≡ None
length_by_items = refl

-- 300 is rounded up to 512
product_of_lengths : with_lengths (Some (num 300 17) ∷ Some (num 128 21) ∷ []) None ≡ None
product_of_lengths = refl

product_too_large : with_lengths (Some (num 300 17) ∷ Some (num 129 21) ∷ []) None ≡ here 13 15
product_too_large = refl

length_undefined : with_lengths (Some (tree.binary b.Div (num 1 17) (num 0 19) (column 18)) ∷ []) None ≡ here 17 15
length_undefined = refl

length_variable : with_lengths (Some (a 17) ∷ []) None ≡ here 17 15
length_variable = refl

-- an operand that is not evaluated may be undefined
length_by_choice : with_lengths (Some (tree.choice (num 1 17) (num 2 19) (tree.binary b.Div (num 1 21) (num 0 23) (column 22)) (column 18) (column 20)) ∷ []) None ≡ None
length_by_choice = refl

file_scope_variable : first (tree.objects (scalar (codes "n") 1 ∷ variable (codes "m") 2 false [] (Some (tree.single (var (codes "n") 3))) ∷ []) ∷ in_f (returning (num 1 20) ∷ [])) ≡ here 17 2
file_scope_variable = refl

case_variable : first (in_f (tree.switch_ (a 14) (stmt_row (tree.case_ (Some (a 18)) (tree.act []) (column 16) ∷ [])) (column 12) ∷ returning (num 1 30) ∷ [])) ≡ here 17 16
case_variable = refl

-- ---- rule 14

value_from_void : first (void_function (codes "f") 5 [] (returning (num 1 20) ∷ []) ∷ []) ≡ here 14 9
value_from_void = refl

no_value : first (in_f (tree.return_ None (column 13) ∷ [])) ≡ here 14 13
no_value = refl

-- ---- rule 15

break_outside : first (in_f (tree.break_ (column 13) ∷ [])) ≡ here 15 13
break_outside = refl

continue_in_a_switch : first (in_f (tree.switch_ (a 14) (stmt_row (tree.break_ (column 15) ∷ tree.continue_ (column 16) ∷ [])) (column 12) ∷ [])) ≡ here 15 16
continue_in_a_switch = refl

continue_in_a_loop : first (in_f (tree.while_ (a 14) (tree.switch_ (a 15) (stmt_row (tree.continue_ (column 16) ∷ [])) (column 13)) (column 12) ∷ [])) ≡ None
continue_in_a_loop = refl

-- a label of a label stands in the block, one in an inner block does not
label_of_a_label : first (in_f (tree.switch_ (a 14) (stmt_row (tree.case_ (Some (num 1 18)) (tree.case_ None (tree.act []) (column 19)) (column 16) ∷ [])) (column 12) ∷ [])) ≡ None
label_of_a_label = refl

label_in_a_block : first (in_f (tree.switch_ (a 14) (stmt_row (tree.case_ (Some (num 1 18)) (tree.block (stmt_row (tree.case_ None (tree.act []) (column 19) ∷ []))) (column 16) ∷ [])) (column 12) ∷ [])) ≡ here 15 19
label_in_a_block = refl

-- ---- rule 16

two_defaults : first (in_f (tree.switch_ (a 14) (stmt_row (tree.case_ None (tree.act []) (column 16) ∷ tree.case_ None (tree.act []) (column 18) ∷ [])) (column 12) ∷ [])) ≡ here 16 18
two_defaults = refl

-- 2^32 + 1 becomes 1 in an int
equal_when_converted : first (in_f (tree.switch_ (a 14) (stmt_row (tree.case_ (Some (num 1 17)) (tree.act []) (column 16)
    ∷ tree.case_ (Some (tree.number 4294967297 (integer true 64) (column 19))) (tree.act []) (column 18) ∷ [])) (column 12) ∷ [])) ≡ here 16 18
equal_when_converted = refl

-- ---- rule 18

calls_itself : first (in_f (returning (call (codes "f") 20 (num 1 22 ∷ [])) ∷ [])) ≡ here 18 20
calls_itself = refl

-- f calls g, g calls h, and h calls f: the last call is at fault
abbrev three : List ItemTree
three = declared (codes "g") 1 [] ∷ declared (codes "h") 2 []
    ∷ int_function (codes "f") 5 [] (returning (call (codes "g") 10 []) ∷ [])
    ∷ int_function (codes "g") 20 [] (returning (call (codes "h") 25 []) ∷ [])
    ∷ int_function (codes "h") 30 [] (returning (call (codes "f") 35 []) ∷ []) ∷ []

through_a_third : first three ≡ here 18 35
through_a_third = refl

-- ---- rule 19

no_top : least (program_faults (program (in_f (returning (a 20) ∷ []))) (codes "g")) ≡ here 19 99
no_top = refl

-- ---- rule 21

abbrev kept : ℕ → List (Option Tree) → ObjectTree
kept at lengths = variable (codes "x") at false lengths None

-- `int x[40000]; int y[10];`: the rounded lengths are 65,536 and 16
sum_too_large : first (tree.objects (variable (codes "x") 5 false (Some (num 40000 7) ∷ []) None ∷ []) ∷ tree.objects (variable (codes "y") 19 false (Some (num 10 21) ∷ []) None ∷ [])
    ∷ int_function (codes "f") 30 [] (returning (num 0 40) ∷ []) ∷ []) ≡ here 21 19
sum_too_large = refl

const_does_not_count : first (tree.objects (variable (codes "x") 5 false (Some (num 40000 7) ∷ []) None ∷ []) ∷ tree.objects (variable (codes "y") 19 true (Some (num 10 21) ∷ []) None ∷ [])
    ∷ int_function (codes "f") 30 [] (returning (num 0 40) ∷ []) ∷ []) ≡ None
const_does_not_count = refl

-- ---- rule 22

braces_at_a_scalar : with_lengths [] (Some (tree.braced (init_row (tree.single (num 1 20) ∷ [])) (column 19))) ≡ here 22 15
braces_at_a_scalar = refl

no_braces_at_an_array : with_lengths (array_of 2) (Some (tree.single (num 1 20))) ≡ here 22 15
no_braces_at_an_array = refl

too_many_items : with_lengths (array_of 1) (Some (tree.braced (init_row (tree.single (num 1 20) ∷ tree.single (num 2 22) ∷ [])) (column 19))) ≡ here 22 15
too_many_items = refl

-- ---- rule 24

abbrev bump : List ℕ → ℕ → ℕ → Tree
bump x at operator = tree.bump (to x at) true true (column operator)

abbrev element : Tree → ℕ → Tree
element subscript at = tree.index (codes "t") (row (subscript ∷ [])) (column at)

abbrev of_element : Tree → ℕ → TargetTree
of_element subscript at = tree.target (codes "t") (row (subscript ∷ [])) (column at)

abbrev in_g : List Tree → Option Refusal
in_g es = first (int_function (codes "g") 1 (int_param (codes "x") 2 ∷ int_param (codes "y") 3 ∷ []) (returning (num 1 4) ∷ [])
    ∷ int_function (codes "f") 5 (int_param (codes "a") 11 ∷ param (codes "t") 12 int_type false (array_of 4) ∷ param (codes "s") 16 int_type false (Some (num 2 17) ∷ Some (num 2 18) ∷ []) ∷ [])
    (each es) ∷ [])
  where
    each : List Tree → List StmtTree
    each [] = returning (num 1 50) ∷ []
    each (e ∷ es) = acting e ∷ each es

-- `a++ + a`
two_operands : in_g (plus (bump (codes "a") 20 21) (a 24) 23 ∷ []) ≡ here 24 21
two_operands = refl

-- `a++ && a`
operands_in_order : in_g (tree.binary b.LogAnd (bump (codes "a") 20 21) (a 24) (column 23) ∷ []) ≡ None
operands_in_order = refl

-- `(a++ && 1) + a`
inside_an_operand : in_g (plus (tree.binary b.LogAnd (bump (codes "a") 20 21) (num 1 24) (column 23)) (a 28) 27 ∷ []) ≡ here 24 21
inside_an_operand = refl

-- `s[a++][a]`
two_subscripts : in_g (tree.index (codes "s") (row (bump (codes "a") 22 23 ∷ a 26 ∷ [])) (column 20) ∷ []) ≡ here 24 23
two_subscripts = refl

-- `g(a, ++a)`
two_arguments : in_g (call (codes "g") 20 (a 22 ∷ tree.bump (to (codes "a") 26) true false (column 24) ∷ []) ∷ []) ≡ here 24 24
two_arguments = refl

-- `t[a] = a++`
subscript_and_value : in_g (tree.assign (of_element (a 22) 20) None (bump (codes "a") 26 27) (column 25) ∷ []) ≡ here 24 27
subscript_and_value = refl

-- `a = a++` is at fault at both operators, the first of which counts
own_value : in_g (tree.assign (to (codes "a") 20) None (bump (codes "a") 24 25) (column 22) ∷ []) ≡ here 24 22
own_value = refl

-- `t[t[0]++] = 1`, and `t[t[0]] = 1` which is none
own_subscript : in_g (tree.assign (of_element (tree.bump (of_element (num 0 24) 22) true true (column 26)) 20) None (num 1 32) (column 30) ∷ []) ≡ here 24 26
own_subscript = refl

read_in_own_subscript : in_g (tree.assign (of_element (element (num 0 24) 22) 20) None (num 1 32) (column 30) ∷ []) ≡ None
read_in_own_subscript = refl

-- `a = a + 1`
read_in_own_value : in_g (tree.assign (to (codes "a") 20) None (plus (a 24) (num 1 26) 25) (column 22) ∷ []) ≡ None
read_in_own_value = refl

-- `t[t[0]++]`
read_of_an_element : in_g (element (tree.bump (of_element (num 0 24) 22) true true (column 26)) 20 ∷ []) ≡ here 24 26
read_of_an_element = refl

-- `a++, a`
comma_orders : in_g (tree.comma (bump (codes "a") 20 21) (a 24) (column 23) ∷ []) ≡ None
comma_orders = refl

-- ---- limits

abbrev times : ℕ → ParamTree → List ParamTree
times zero p = []
times (suc n) p = p ∷ times n p

abbrev functions : ℕ → List ItemTree → List ItemTree
functions zero items = items
functions (suc n) items = declared (codes "g" ++ n ∷ []) (n + 100) [] ∷ functions n items

-- 63 functions and f, and 64 functions and f, where f comes last
functions_64 : first (functions 63 (int_function (codes "f") 200 [] (returning (num 1 10) ∷ []) ∷ [])) ≡ None
functions_64 = refl

functions_65 : first (functions 64 (int_function (codes "f") 200 [] (returning (num 1 10) ∷ []) ∷ [])) ≡ here 33 200
functions_65 = refl

params_32 : first (declared (codes "g") 1 (times 32 (unnamed 7)) ∷ in_f (returning (num 1 20) ∷ [])) ≡ None
params_32 = refl

params_33 : first (declared (codes "g") 1 (times 33 (unnamed 7)) ∷ in_f (returning (num 1 20) ∷ [])) ≡ here 34 7
params_33 = refl

abbrev arrays : ℕ → List StmtTree → List StmtTree
arrays zero rest = rest
arrays (suc n) rest = tree.block (stmt_row (tree.declare (variable (codes "t") (n + 100) false (array_of 2) None ∷ []) ∷ [])) ∷ arrays n rest

arrays_32 : first (in_f (arrays 32 (returning (num 1 20) ∷ []))) ≡ None
arrays_32 = refl

arrays_33 : first (in_f (arrays 33 (returning (num 1 20) ∷ []))) ≡ here 35 100
arrays_33 = refl
