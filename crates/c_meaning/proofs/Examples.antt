-- Runs of small programs.
use Rattle.std.specs.Prelude.{◌≡◌, true, false, [], ◌∷◌, codes, Some, None, refl}
use Rattle.hls_base.specs.declared.point.PointKind.TheVariants as point
use Rattle.hls_base.specs.declared.refusal.UbRule.TheVariants as ub
use Rattle.c_tree.specs.declared.operator.Binary.{Binary}
use Rattle.c_tree.specs.declared.operator.Binary.TheVariants as b
use Rattle.c_tree.specs.Tree as tree
use Rattle.c_tree.specs.Tree.{Tree, StmtTree, ProgramTree, row, init_row, stmt_row}
use Rattle.c_value.specs.Values.{integer, int_type}
use Rattle.c_meaning.specs.Run.{c_run}
use Rattle.c_meaning.proofs.SmallPrograms.{at, number, name, element, binary, scalar_target, set, object, local, give, function_of, int_param, program_of, int_function, run_first, value, fault, more, found, trace_of, kept_of, passed, columns}

-- `unsigned f(unsigned a, unsigned b) { return a + b; }`
abbrev unsigned_sum : ProgramTree
unsigned_sum = program_of (function_of (codes "f") 10 (Some (integer false 32)) (object (integer false 32) (codes "a") [] None ∷ object (integer false 32) (codes "b") [] None ∷ [])
    (give (binary b.Add (name (codes "a") 1) (name (codes "b") 2) 3) ∷ []) ∷ [])

unsigned_sums_wrap : found (run_first unsigned_sum (4294967295 ∷ 1 ∷ []) [] 10) ≡ value (Some 0)
unsigned_sums_wrap = refl

its_points : columns (trace_of (run_first unsigned_sum (4294967295 ∷ 1 ∷ []) [] 10)) ≡ 10 ∷ 10 ∷ []
its_points = refl

two_points_suffice : found (run_first unsigned_sum (1 ∷ 1 ∷ []) [] 2) ≡ value (Some 2)
two_points_suffice = refl

one_point_does_not : found (run_first unsigned_sum (1 ∷ 1 ∷ []) [] 1) ≡ more
one_point_does_not = refl

-- `int f(int n) { int s = 0; for (int i = 0; i < n; i++) s = s + i; return s; }`
abbrev counted_sum : ProgramTree
counted_sum = int_function (codes "n" ∷ [])
    (local (codes "s") (Some (tree.single (number 0)))
    ∷ tree.for_ (tree.first (local (codes "i") (Some (tree.single (number 0))))) (Some (binary b.Lt (name (codes "i") 1) (name (codes "n") 2) 3))
    (tree.bumping (scalar_target (codes "i") 4) true (at 5) ∷ []) (set (scalar_target (codes "s") 6) (binary b.Add (name (codes "s") 7) (name (codes "i") 8) 47) 9) (at 23)
    ∷ give (name (codes "s") 10) ∷ [])

sum_to_ten : found (run_first counted_sum (10 ∷ []) [] 100) ≡ value (Some 45)
sum_to_ten = refl

its_tests : passed point.Test 23 (run_first counted_sum (10 ∷ []) [] 100) ≡ 11
its_tests = refl

its_bodies : passed point.Body 23 (run_first counted_sum (10 ∷ []) [] 100) ≡ 10
its_bodies = refl

its_steps : passed point.Step 23 (run_first counted_sum (10 ∷ []) [] 100) ≡ 10
its_steps = refl

its_end : passed point.End 23 (run_first counted_sum (10 ∷ []) [] 100) ≡ 1
its_end = refl

no_iteration : found (run_first counted_sum (4294967291 ∷ []) [] 100) ≡ value (Some 0)
no_iteration = refl

-- 1 and 1, and then 11 tests, 10 bodies and 10 steps
thirty_four_points : found (run_first counted_sum (10 ∷ []) [] 34) ≡ value (Some 45)
thirty_four_points = refl

thirty_three_points : found (run_first counted_sum (10 ∷ []) [] 33) ≡ more
thirty_three_points = refl

-- `int f(int a, int b) { return a / b; }` and with other operators
abbrev operator_program : Binary → ProgramTree
operator_program op = int_function (codes "a" ∷ codes "b" ∷ []) (give (binary op (name (codes "a") 1) (name (codes "b") 2) 28) ∷ [])

quotient : found (run_first (operator_program b.Div) (4294967289 ∷ 2 ∷ []) [] 10) ≡ value (Some 4294967293)
quotient = refl

remainder : found (run_first (operator_program b.Rem) (4294967289 ∷ 2 ∷ []) [] 10) ≡ value (Some 4294967295)
remainder = refl

quotient_out_of_range : found (run_first (operator_program b.Div) (2147483648 ∷ 4294967295 ∷ []) [] 10) ≡ fault ub.QuotientRange (at 28)
quotient_out_of_range = refl

quotient_by_zero : found (run_first (operator_program b.Div) (1 ∷ 0 ∷ []) [] 10) ≡ fault ub.DivideByZero (at 28)
quotient_by_zero = refl

shift_count : found (run_first (operator_program b.Shr) (4294967288 ∷ 32 ∷ []) [] 10) ≡ fault ub.ShiftCount (at 28)
shift_count = refl

-- `int f(int a, int b) { return b != 0 && a / b > 2; }`
abbrev guarded_quotient : ProgramTree
guarded_quotient = int_function (codes "a" ∷ codes "b" ∷ [])
    (give (binary b.LogAnd (binary b.Ne (name (codes "b") 1) (number 0) 2) (binary b.Gt (binary b.Div (name (codes "a") 3) (name (codes "b") 4) 5) (number 2) 6) 7) ∷ [])

not_divided : found (run_first guarded_quotient (9 ∷ 0 ∷ []) [] 10) ≡ value (Some 0)
not_divided = refl

divided : found (run_first guarded_quotient (9 ∷ 3 ∷ []) [] 10) ≡ value (Some 1)
divided = refl

-- `int f(int a[4], int x) { int i; for (i = 0; i < 4; i++) { if (a[i] == x) break; } return i; }`
abbrev search : ProgramTree
search = program_of (function_of (codes "f") 5 (Some int_type) (object int_type (codes "a") (Some (number 4) ∷ []) None ∷ int_param (codes "x") ∷ [])
    (local (codes "i") None
    ∷ tree.for_ (tree.first (set (scalar_target (codes "i") 1) (number 0) 2)) (Some (binary b.Lt (name (codes "i") 3) (number 4) 4)) (tree.bumping (scalar_target (codes "i") 5) true (at 6) ∷ [])
    (tree.block (stmt_row (tree.if_ (binary b.Eq (element (codes "a") (name (codes "i") 7) 8) (name (codes "x") 9) 10) (tree.break_ (at 11)) tree.no_else (at 12) ∷ []))) (at 13)
    ∷ give (name (codes "i") 14) ∷ []) ∷ [])

found_at_two : found (run_first search (7 ∷ []) ((5 ∷ 6 ∷ 7 ∷ 8 ∷ []) ∷ []) 100) ≡ value (Some 2)
found_at_two = refl

-- an `if` that a break leaves passes no End
its_if_ends : passed point.End 12 (run_first search (7 ∷ []) ((5 ∷ 6 ∷ 7 ∷ 8 ∷ []) ∷ []) 100) ≡ 2
its_if_ends = refl

its_if_arms : passed point.Arm 12 (run_first search (7 ∷ []) ((5 ∷ 6 ∷ 7 ∷ 8 ∷ []) ∷ []) 100) ≡ 1
its_if_arms = refl

-- `unsigned char f(unsigned char a) { a += 200; return a; }`
abbrev byte_sum : ProgramTree
byte_sum = program_of (function_of (codes "f") 15 (Some (integer false 8)) (object (integer false 8) (codes "a") [] None ∷ [])
    (tree.act (tree.assignment (scalar_target (codes "a") 1) (Some b.Add) (number 200) (at 2) ∷ []) ∷ give (name (codes "a") 3) ∷ []) ∷ [])

bytes_wrap : found (run_first byte_sum (100 ∷ []) [] 10) ≡ value (Some 44)
bytes_wrap = refl

-- `int f(int a, int b) { return g(a) + g(b); }` behind `int g(int x) { return x * x; }`
abbrev squares : ProgramTree
squares = program_of (function_of (codes "g") 5 (Some int_type) (int_param (codes "x") ∷ []) (give (binary b.Mul (name (codes "x") 1) (name (codes "x") 2) 3) ∷ [])
    ∷ function_of (codes "f") 33 (Some int_type) (int_param (codes "a") ∷ int_param (codes "b") ∷ [])
    (give (binary b.Add (tree.call (codes "g") (row (name (codes "a") 1 ∷ [])) (at 54)) (tree.call (codes "g") (row (name (codes "b") 2 ∷ [])) (at 59)) 58) ∷ []) ∷ [])

sum_of_squares : found (c_run squares 1 (record { scalars = []; arrays = [] }) (3 ∷ 4 ∷ []) [] 100) ≡ value (Some 25)
sum_of_squares = refl

-- each call has its place in the path of its points
points_of_calls : trace_of (c_run squares 1 (record { scalars = []; arrays = [] }) (3 ∷ 4 ∷ []) [] 100)
    ≡ record { path = []; at = at 33; kind = point.Begin }
    ∷ record { path = at 54 ∷ []; at = at 5; kind = point.Begin } ∷ record { path = at 54 ∷ []; at = at 5; kind = point.End }
    ∷ record { path = at 59 ∷ []; at = at 5; kind = point.Begin } ∷ record { path = at 59 ∷ []; at = at 5; kind = point.End }
    ∷ record { path = []; at = at 33; kind = point.End } ∷ []
points_of_calls = refl

-- `int f(int i) { return t[i]; }` behind `const unsigned char t[4] = {1, 2};`
abbrev table : ProgramTree
table = program_of (function_of (codes "f") 5 (Some int_type) (int_param (codes "i") ∷ []) (give (element (codes "t") (name (codes "i") 1) 53) ∷ [])
    ∷ tree.objects (record { name = codes "t"; at = at 0; kind = integer false 8; constant = true; lengths = Some (number 4) ∷ []; init = Some (tree.braced (init_row (tree.single (number 1) ∷ tree.single (number 2) ∷ [])) (at 0)) } ∷ []) ∷ [])

table_element : found (run_first table (1 ∷ []) [] 10) ≡ value (Some 2)
table_element = refl

table_rest_is_zero : found (run_first table (3 ∷ []) [] 10) ≡ value (Some 0)
table_rest_is_zero = refl

outside_the_table : found (run_first table (4 ∷ []) [] 10) ≡ fault ub.Index (at 53)
outside_the_table = refl

below_the_table : found (run_first table (4294967295 ∷ []) [] 10) ≡ fault ub.Index (at 53)
below_the_table = refl

-- `int f(int k) { n = n + k; return n; }` behind `int n;`
abbrev counter : ProgramTree
counter = program_of (function_of (codes "f") 5 (Some int_type) (int_param (codes "k") ∷ [])
    (set (scalar_target (codes "n") 1) (binary b.Add (name (codes "n") 2) (name (codes "k") 3) 4) 5 ∷ give (name (codes "n") 6) ∷ [])
    ∷ tree.objects (object int_type (codes "n") [] None ∷ []) ∷ [])

counts_five : found (run_first counter (5 ∷ []) [] 10) ≡ value (Some 5)
counts_five = refl

counts_on : found (c_run counter 0 (kept_of (run_first counter (5 ∷ []) [] 10)) (7 ∷ []) [] 10) ≡ value (Some 12)
counts_on = refl

-- `int f(int a) { return a = 1; }`
value_of_an_assignment : found (run_first (int_function (codes "a" ∷ []) (give (tree.assign (scalar_target (codes "a") 1) None (number 1) (at 2)) ∷ [])) (5 ∷ []) [] 10) ≡ value (Some 1)
value_of_an_assignment = refl

-- `int f(int n) { int s = 0; while (n--) s = s + n; return s; }`
counted_down : found (run_first (int_function (codes "n" ∷ []) (local (codes "s") (Some (tree.single (number 0)))
    ∷ tree.while_ (tree.bump (scalar_target (codes "n") 1) false true (at 2)) (set (scalar_target (codes "s") 3) (binary b.Add (name (codes "s") 4) (name (codes "n") 5) 6) 7) (at 8)
    ∷ give (name (codes "s") 9) ∷ [])) (4 ∷ []) [] 100) ≡ value (Some 6)
counted_down = refl

-- `int f(int i) { return i++ && i; }`
abbrev raised_and_read : ProgramTree
raised_and_read = int_function (codes "i" ∷ []) (give (binary b.LogAnd (tree.bump (scalar_target (codes "i") 1) true true (at 2)) (name (codes "i") 3) 4) ∷ [])

raised_to_zero : found (run_first raised_and_read (4294967295 ∷ []) [] 10) ≡ value (Some 0)
raised_to_zero = refl

raised_to_four : found (run_first raised_and_read (3 ∷ []) [] 10) ≡ value (Some 1)
raised_to_four = refl

-- `int f(int n) { int s = 0; switch (n) { case 1: s = 1; case 2: s = s + 2; break; default: s = 9; } return s; }`
abbrev falling : ProgramTree
falling = int_function (codes "n" ∷ [])
    (local (codes "s") (Some (tree.single (number 0)))
    ∷ tree.switch_ (name (codes "n") 1) (stmt_row (tree.case_ (Some (number 1)) (set (scalar_target (codes "s") 2) (number 1) 3) (at 4)
    ∷ tree.case_ (Some (number 2)) (set (scalar_target (codes "s") 5) (binary b.Add (name (codes "s") 6) (number 2) 7) 8) (at 9)
    ∷ tree.break_ (at 10) ∷ tree.case_ None (set (scalar_target (codes "s") 11) (number 9) 12) (at 13) ∷ [])) (at 14)
    ∷ give (name (codes "s") 15) ∷ [])

falls_through : found (run_first falling (1 ∷ []) [] 20) ≡ value (Some 3)
falls_through = refl

points_of_falling : columns (trace_of (run_first falling (1 ∷ []) [] 20)) ≡ 5 ∷ 4 ∷ 9 ∷ 14 ∷ 5 ∷ []
points_of_falling = refl

second_case : found (run_first falling (2 ∷ []) [] 20) ≡ value (Some 2)
second_case = refl

default_case : found (run_first falling (7 ∷ []) [] 20) ≡ value (Some 9)
default_case = refl

-- `int f(void) { int x = x; return x; }`
unset : found (run_first (int_function [] (local (codes "x") (Some (tree.single (name (codes "x") 22))) ∷ give (name (codes "x") 25) ∷ [])) [] [] 10) ≡ fault ub.Unset (at 22)
unset = refl

-- `int f(int i) { int a[2] = {5, a[0]}; return a[i]; }`
element_by_element : found (run_first (int_function (codes "i" ∷ []) (tree.declare (object int_type (codes "a") (Some (number 2) ∷ [])
    (Some (tree.braced (init_row (tree.single (number 5) ∷ tree.single (element (codes "a") (number 0) 1) ∷ [])) (at 2))) ∷ []) ∷ give (element (codes "a") (name (codes "i") 3) 4) ∷ [])) (1 ∷ []) [] 10) ≡ value (Some 5)
element_by_element = refl

-- `int f(int i) { int a[2]; return a[i]; }`
unset_element : found (run_first (int_function (codes "i" ∷ []) (tree.declare (object int_type (codes "a") (Some (number 2) ∷ []) None ∷ []) ∷ give (element (codes "a") (name (codes "i") 3) 4) ∷ [])) (1 ∷ []) [] 10)
    ≡ fault ub.UnsetElement (at 4)
unset_element = refl

-- `int f(int n) { int s = 0; while (n--) { int x; if (n) x = 5; s = x; } return s; }`: x is unwritten in every iteration anew
fresh_in_every_iteration : found (run_first (int_function (codes "n" ∷ []) (local (codes "s") (Some (tree.single (number 0)))
    ∷ tree.while_ (tree.bump (scalar_target (codes "n") 1) false true (at 2)) (tree.block (stmt_row (local (codes "x") None
    ∷ tree.if_ (name (codes "n") 3) (set (scalar_target (codes "x") 4) (number 5) 5) tree.no_else (at 6) ∷ set (scalar_target (codes "s") 7) (name (codes "x") 70) 9 ∷ []))) (at 8)
    ∷ give (name (codes "s") 9) ∷ [])) (2 ∷ []) [] 100) ≡ fault ub.Unset (at 70)
fresh_in_every_iteration = refl

-- `int f(int n) { if (n) return 1; }`
no_return : found (run_first (int_function (codes "n" ∷ []) (tree.if_ (name (codes "n") 1) (give (number 1)) tree.no_else (at 2) ∷ [])) (0 ∷ []) [] 10) ≡ fault ub.NoReturn (at 5)
no_return = refl

-- a return in a tail position passes the End of the `if`
tail_return : columns (trace_of (run_first (int_function (codes "n" ∷ []) (tree.if_ (name (codes "n") 1) (give (number 1)) tree.no_else (at 2) ∷ [])) (3 ∷ []) [] 10)) ≡ 5 ∷ 2 ∷ 2 ∷ 5 ∷ []
tail_return = refl

-- and one before another statement does not
early_return : columns (trace_of (run_first (int_function (codes "n" ∷ []) (tree.if_ (name (codes "n") 1) (give (number 1)) tree.no_else (at 2) ∷ give (number 2) ∷ [])) (3 ∷ []) [] 10)) ≡ 5 ∷ 2 ∷ 5 ∷ []
early_return = refl
