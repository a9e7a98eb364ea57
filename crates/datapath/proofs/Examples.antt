-- Circuits of small programs, run by hand.
use Rattle.std.proofs.Common.{◌≡◌, ℕ, ◌+◌, ◌*◌, true, false, List, [], ◌∷◌, map, length, get_or, Some, None, refl}
use Rattle.std.specs.Prelude.{if◌then◌else◌, ◌==◌, slice_index}
use Rattle.std.specs.List.{range_with_len}
use Rattle.ir_core.specs.declared.body.OpKind.{OpKind}
use Rattle.ir_core.specs.declared.body.OpKind.TheVariants as o
use Rattle.ir_core.specs.declared.body.Operand.{Operand}
use Rattle.ir_core.specs.declared.body.Out.{Out}
use Rattle.ir_core.specs.declared.body.Source.TheVariants as source
use Rattle.ir_core.specs.declared.cfg.End.TheVariants as end
use Rattle.reg_binding.specs.declared.registers.Held.{Held}
use Rattle.clock_ir.specs.Flows.{TimedOp}
use Rattle.clock_ir.specs.ClockRuns.{block, overlapped}
use Rattle.datapath.specs.Plans.{Plan, Savings}
use Rattle.datapath.specs.Cycles.{Register, Ready, Done, Initial, Time, Active, Load, Gate, Passed, Waited, Variable, Value, Result, Left, Right, Product, Steps, Dividend, Remainder, Divisor, QuotientSign, RemainderSign, Word, Named, Contents}
use Rattle.datapath.specs.Ports.{changed_with, store_unit}
use Rattle.datapath.proofs.Evaluating.{first_after}

-- ---- contents by lists

abbrev register_number : Register → ℕ
register_number Ready = 0
register_number Done = 1
register_number Initial = 2
register_number Time = 3
register_number Waited = 4
register_number Result = 5
register_number Named = 6
register_number (Active i) = 10 + 20 * i
register_number (Load i) = 11 + 20 * i
register_number (Gate n) = 12 + 20 * n
register_number (Passed n) = 13 + 20 * n
register_number (Variable v) = 14 + 20 * v
register_number (Value k) = 15 + 20 * k
register_number (Left bits n) = 16 + 20 * n
register_number (Right bits n) = 17 + 20 * n
register_number (Product bits n) = 25 + 20 * n
register_number (Steps bits n) = 18 + 20 * n
register_number (Dividend bits n) = 19 + 20 * n
register_number (Remainder bits n) = 20 + 20 * n
register_number (Divisor bits n) = 21 + 20 * n
register_number (QuotientSign bits n) = 22 + 20 * n
register_number (RemainderSign bits n) = 23 + 20 * n
register_number (Word a n) = 24 + 20 * (a + n)

abbrev found : List Register → List ℕ → ℕ → ℕ
found [] xs k = 0
found (r ∷ rs) [] k = 0
found (r ∷ rs) (x ∷ xs) k = if register_number r == k then x else found rs xs k

record Listed : Type 0 where
  values : List ℕ
  words : List (List ℕ)

abbrev contents : List Register → Listed → Contents
contents names l = record { regs = λ r. found names l.values (register_number r); memories = λ a address. slice_index (get_or l.words a []) address }

abbrev rows : Contents → ℕ → List (List ℕ) → List (List ℕ)
rows x a [] = []
rows x a (w ∷ ws) = map (x.memories a) (range_with_len 0 (length w)) ∷ rows x (a + 1) ws

abbrev listed : List Register → List (List ℕ) → Contents → Listed
listed names words x = record { values = map x.regs names; words = rows x 0 words }

-- the contents behind cycles with these pins
abbrev run : Plan → List Register → Listed → List (List ℕ) → Listed
run p names l [] = l
run p names l (pins ∷ rest) = run p names (listed names l.words (first_after p (contents names l) pins)) rest

-- ---- pins

abbrev reset : List ℕ
reset = 1 ∷ 0 ∷ 0 ∷ 0 ∷ 0 ∷ 0 ∷ 0 ∷ 0 ∷ 0 ∷ []

abbrev start : ℕ → ℕ → List ℕ
start a b = 0 ∷ 1 ∷ 0 ∷ 0 ∷ 0 ∷ 0 ∷ 0 ∷ a ∷ b ∷ []

abbrev quiet : List ℕ
quiet = 0 ∷ 0 ∷ 0 ∷ 0 ∷ 0 ∷ 0 ∷ 0 ∷ 0 ∷ 0 ∷ []

-- the host reads an element of array 0, or writes it
abbrev reads : ℕ → List ℕ
reads address = 0 ∷ 0 ∷ 1 ∷ 0 ∷ 0 ∷ address ∷ 0 ∷ 0 ∷ 0 ∷ []

abbrev writes : ℕ → ℕ → List ℕ
writes address x = 0 ∷ 0 ∷ 1 ∷ 1 ∷ 0 ∷ address ∷ x ∷ 0 ∷ 0 ∷ []

-- ---- programs

abbrev constant : ℕ → Operand
constant w = record { value = source.Constant w; distance = 0 }

abbrev variable : ℕ → Operand
variable v = record { value = source.Variable (record { 0 = v }); distance = 0 }

-- what the iteration before gave the variable
abbrev carried : ℕ → Operand
carried v = record { value = source.Variable (record { 0 = v }); distance = 1 }

abbrev result : ℕ → Operand
result k = record { value = source.Result (record { 0 = k }); distance = 0 }

abbrev operation : OpKind → ℕ → List Operand → TimedOp
operation kind at_ args = record { op = record { kind = kind; signed = false; bits = 32; args = args; array = None; guard = None; flag = None }; start = at_ }

abbrev store : ℕ → List Operand → TimedOp
store at_ args = record { op = record { kind = o.Store; signed = false; bits = 32; args = args; array = Some (record { 0 = 0 }); guard = None; flag = None }; start = at_ }

abbrev takes : ℕ → Operand → Out
takes v x = record { variable = record { 0 = v }; value = x }

abbrev held : ℕ → ℕ → ℕ → Held
held op place k = record { node = record { 0 = 0 }; op = record { 0 = op }; place = place; register = k }

abbrev nothing_saved : Savings
nothing_saved = record { behind = λ i v. true; read = λ v. true; exclusive = λ i. false }

-- ---- a block: the product of two parameters, and the first of them. One register holds the product and then the sum.

abbrev product : Plan
product = record {
  program = record {
    shapes = record { widths = 32 ∷ 32 ∷ []; dims = [] };
    nodes = block (record {
      ops = operation o.Mul 0 (variable 0 ∷ variable 1 ∷ []) ∷ operation o.Add 2 (result 0 ∷ variable 0 ∷ []) ∷ [];
      outs = [];
      test = None;
      interval = 4;
    }) (end.Return (Some (result 1))) ∷ [];
    first = 0;
  };
  units = (0 ∷ 0 ∷ []) ∷ [];
  parameters = record { 0 = 0 } ∷ record { 0 = 1 } ∷ [];
  kept = [];
  result = 32;
  arrays = [];
  widths = 32 ∷ [];
  held = held 0 0 0 ∷ held 1 0 0 ∷ [];
  savings = nothing_saved;
}

abbrev product_names : List Register
product_names = Ready ∷ Done ∷ Result ∷ Time ∷ Active 0 ∷ Variable 0 ∷ Variable 1 ∷ Value 0 ∷ Left 32 0 ∷ Right 32 0 ∷ []

-- whatever stands in the registers at first
abbrev product_first : Listed
product_first = record { values = 0 ∷ 1 ∷ 9 ∷ 3 ∷ 1 ∷ 5 ∷ 4 ∷ 3 ∷ 2 ∷ 1 ∷ []; words = [] }

abbrev product_run : List (List ℕ) → List ℕ
product_run pins = (run product product_names product_first pins).values

-- a reset ends what was under way
is_reset : product_run (reset ∷ []) ≡ 1 ∷ 0 ∷ 3 ∷ 0 ∷ 0 ∷ 5 ∷ 4 ∷ 3 ∷ 0 ∷ 0 ∷ []
is_reset = refl

-- the arguments are taken, and the factors at time 0
is_started : product_run (reset ∷ start 6 7 ∷ []) ≡ 0 ∷ 0 ∷ 3 ∷ 0 ∷ 1 ∷ 6 ∷ 7 ∷ 3 ∷ 0 ∷ 0 ∷ []
is_started = refl

has_product : product_run (reset ∷ start 6 7 ∷ quiet ∷ quiet ∷ []) ≡ 0 ∷ 0 ∷ 3 ∷ 2 ∷ 1 ∷ 6 ∷ 7 ∷ 42 ∷ 0 ∷ 0 ∷ []
has_product = refl

-- the start stands in cycle 1, and the run has ended in cycle 6, with the sum
is_done : product_run (reset ∷ start 6 7 ∷ quiet ∷ quiet ∷ quiet ∷ quiet ∷ []) ≡ 1 ∷ 1 ∷ 48 ∷ 0 ∷ 0 ∷ 6 ∷ 7 ∷ 48 ∷ 0 ∷ 0 ∷ []
is_done = refl

-- a second start, in the cycle in which the first run has ended
starts_again : product_run (reset ∷ start 6 7 ∷ quiet ∷ quiet ∷ quiet ∷ quiet ∷ start 5 5 ∷ quiet ∷ quiet ∷ quiet ∷ quiet ∷ []) ≡ 1 ∷ 1 ∷ 30 ∷ 0 ∷ 0 ∷ 5 ∷ 5 ∷ 30 ∷ 0 ∷ 0 ∷ []
starts_again = refl

-- ---- a division with signs, of numbers of 4 bits

abbrev division : OpKind → Plan
division kind = record {
  program = record {
    shapes = record { widths = 4 ∷ 4 ∷ []; dims = [] };
    nodes = block (record {
      ops = record { op = record { kind = kind; signed = true; bits = 4; args = variable 0 ∷ variable 1 ∷ []; array = None; guard = None; flag = None }; start = 0 } ∷ [];
      outs = [];
      test = None;
      interval = 7;
    }) (end.Return (Some (result 0))) ∷ [];
    first = 0;
  };
  units = (0 ∷ []) ∷ [];
  parameters = record { 0 = 0 } ∷ record { 0 = 1 } ∷ [];
  kept = [];
  result = 4;
  arrays = [];
  widths = 4 ∷ [];
  held = held 0 0 0 ∷ [];
  savings = nothing_saved;
}

abbrev division_names : List Register
division_names =
    Result ∷ Ready ∷ Done ∷ Time ∷ Active 0 ∷ Variable 0 ∷ Variable 1 ∷ Value 0 ∷ Steps 4 0 ∷ Dividend 4 0 ∷ Remainder 4 0 ∷ Divisor 4 0 ∷ QuotientSign 4 0 ∷ RemainderSign 4 0 ∷ []

abbrev divided : OpKind → ℕ → ℕ → ℕ
divided kind a b =
    get_or (run (division kind) division_names (record { values = []; words = [] })
    (reset ∷ start a b ∷ quiet ∷ quiet ∷ quiet ∷ quiet ∷ quiet ∷ quiet ∷ quiet ∷ [])).values 0 0

-- -7 / 2 is -3, and -1 is left
quotient_below_zero : divided o.Div 9 2 ≡ 13
quotient_below_zero = refl

remainder_below_zero : divided o.Rem 9 2 ≡ 15
remainder_below_zero = refl

-- by 0
quotient_by_zero : divided o.Div 5 0 ≡ 15
quotient_by_zero = refl

remainder_by_zero : divided o.Rem 5 0 ≡ 5
remainder_by_zero = refl

-- ---- a loop that begins an iteration in each cycle, and stores: while (x != 5) { a[x] = x; s = s + x * x * x; x = x + 1; } return s;
-- Variable 0 is s and variable 1 is x. The test is true again in iterations that do not run.

abbrev cubing : Plan
cubing = record {
  program = record {
    shapes = record { widths = 32 ∷ 32 ∷ []; dims = (8 ∷ []) ∷ [] };
    nodes = overlapped (record {
      ops =
          operation o.Ne 0 (carried 1 ∷ constant 5 ∷ [])
          ∷ store 1 (carried 1 ∷ carried 1 ∷ [])
          ∷ operation o.Mul 0 (carried 1 ∷ carried 1 ∷ [])
          ∷ operation o.Mul 2 (result 2 ∷ carried 1 ∷ [])
          ∷ operation o.Add 0 (carried 1 ∷ constant 1 ∷ [])
          ∷ operation o.Add 4 (carried 0 ∷ result 3 ∷ [])
          ∷ [];
      outs = takes 0 (result 5) ∷ takes 1 (result 4) ∷ [];
      test = Some (result 0);
      interval = 1;
    }) 4 1
        ∷ block (record { ops = []; outs = []; test = None; interval = 1 }) (end.Return (Some (variable 0)))
        ∷ [];
    first = 0;
  };
  units = (0 ∷ 0 ∷ 0 ∷ 1 ∷ 0 ∷ 0 ∷ []) ∷ [] ∷ [];
  parameters = record { 0 = 0 } ∷ record { 0 = 1 } ∷ [];
  kept = [];
  result = 32;
  arrays = record { bits = 32; dims = 8 ∷ []; table = None; first = None; host = true } ∷ [];
  widths = 1 ∷ 32 ∷ 32 ∷ 32 ∷ 32 ∷ 32 ∷ 32 ∷ [];
  held = held 0 0 0 ∷ held 2 0 1 ∷ held 3 0 2 ∷ held 4 0 3 ∷ held 4 1 4 ∷ held 4 2 5 ∷ held 5 0 6 ∷ [];
  savings = record { behind = λ i v. v == 0; read = λ v. true; exclusive = λ i. false };
}

abbrev cubing_names : List Register
cubing_names =
    Ready ∷ Done ∷ Result ∷ Word 0 0 ∷ Named ∷ Time ∷ Active 0 ∷ Load 0 ∷ Active 1 ∷ Gate 0 ∷ Passed 1 ∷ Passed 2 ∷ Passed 3 ∷ Passed 4 ∷ Waited ∷ Variable 0 ∷ Variable 1 ∷ Value 0
    ∷ Value 1 ∷ Value 2 ∷ Value 3 ∷ Value 4 ∷ Value 5 ∷ Value 6 ∷ Left 32 0 ∷ Right 32 0 ∷ Left 32 1 ∷ Right 32 1 ∷ []

abbrev cubing_first : Listed
cubing_first = record { values = []; words = (0 ∷ 0 ∷ 0 ∷ 0 ∷ 0 ∷ 0 ∷ 0 ∷ 0 ∷ []) ∷ [] }

abbrev shown : Listed → List ℕ
shown l = get_or l.values 0 0 ∷ get_or l.values 1 0 ∷ get_or l.values 2 0 ∷ get_or l.values 3 0 ∷ []

-- the host writes 7 to element 6; then the loop runs from 2 on
abbrev cubed : List (List ℕ) → Listed
cubed rest =
    run cubing cubing_names cubing_first (reset ∷ writes 6 7 ∷ start 0 2 ∷ quiet ∷ quiet ∷ quiet ∷ quiet ∷ quiet ∷ quiet ∷ quiet ∷ quiet ∷ quiet ∷ rest)

-- not before the tenth cycle behind the start
is_under_way : get_or (cubed []).values 0 0 ≡ 0
is_under_way = refl

is_cubed : get_or (cubed (quiet ∷ [])).values 2 0 ≡ 99
is_cubed = refl

-- the gate lets the stores of three iterations through
has_stored : (cubed (quiet ∷ [])).words ≡ (0 ∷ 0 ∷ 2 ∷ 3 ∷ 4 ∷ 0 ∷ 7 ∷ 0 ∷ []) ∷ []
has_stored = refl

-- the host reads an element: ready, done, the result, and the word
is_read : shown (cubed (quiet ∷ reads 3 ∷ [])) ≡ 1 ∷ 1 ∷ 99 ∷ 3 ∷ []
is_read = refl

-- ---- a scalar and an array of file scope: n = n + t[k]; t[k] = n; return n;
-- Variable 0 is n, which is 4 at first, and variable 1 is k; t begins with 7, 8 and 9.

abbrev access : OpKind → ℕ → List Operand → TimedOp
access kind at_ args = record { op = record { kind = kind; signed = false; bits = 32; args = args; array = Some (record { 0 = 0 }); guard = None; flag = None }; start = at_ }

abbrev keeping : Plan
keeping = record {
  program = record {
    shapes = record { widths = 32 ∷ 32 ∷ []; dims = (3 ∷ []) ∷ [] };
    nodes = block (record {
      ops = access o.Load 0 (variable 1 ∷ []) ∷ operation o.Add 2 (variable 0 ∷ result 0 ∷ []) ∷ access o.Store 3 (variable 1 ∷ result 1 ∷ []) ∷ [];
      outs = takes 0 (result 1) ∷ [];
      test = None;
      interval = 4;
    }) (end.Return (Some (result 1))) ∷ [];
    first = 0;
  };
  units = (0 ∷ 0 ∷ 0 ∷ []) ∷ [];
  parameters = record { 0 = 1 } ∷ [];
  kept = record { variable = record { 0 = 0 }; value = 4 } ∷ [];
  result = 32;
  arrays = record { bits = 32; dims = 3 ∷ []; table = None; first = Some (7 ∷ 8 ∷ 9 ∷ []); host = false } ∷ [];
  widths = 32 ∷ 32 ∷ [];
  held = held 0 0 0 ∷ held 1 0 1 ∷ [];
  savings = nothing_saved;
}

abbrev keeping_names : List Register
keeping_names = Ready ∷ Done ∷ Result ∷ Word 0 0 ∷ Initial ∷ Time ∷ Active 0 ∷ Variable 0 ∷ Variable 1 ∷ Value 0 ∷ Value 1 ∷ []

abbrev kept : List (List ℕ) → Listed
kept rest = run keeping keeping_names (record { values = []; words = (5 ∷ 5 ∷ 5 ∷ 5 ∷ []) ∷ [] }) (reset ∷ quiet ∷ start 2 0 ∷ quiet ∷ rest)

-- a start in the initial sequence is not taken
is_not_ready : get_or (kept []).values 0 0 ≡ 0
is_not_ready = refl

has_first_words : kept (quiet ∷ []) ≡ record { values = 1 ∷ 0 ∷ 0 ∷ 5 ∷ 0 ∷ 0 ∷ 0 ∷ 4 ∷ 0 ∷ 0 ∷ 0 ∷ []; words = (7 ∷ 8 ∷ 9 ∷ 0 ∷ []) ∷ [] }
has_first_words = refl

has_kept : (kept (quiet ∷ start 1 0 ∷ quiet ∷ quiet ∷ quiet ∷ quiet ∷ [])).words ≡ (7 ∷ 12 ∷ 9 ∷ 0 ∷ []) ∷ []
has_kept = refl

-- the second start goes on with what the first one left; the word was read in the cycle before the store
goes_on : shown (kept (quiet ∷ start 1 0 ∷ quiet ∷ quiet ∷ quiet ∷ quiet ∷ start 1 0 ∷ quiet ∷ quiet ∷ quiet ∷ quiet ∷ [])) ≡ 1 ∷ 1 ∷ 24 ∷ 9 ∷ []
goes_on = refl

-- ---- a load on unit 0 and a store on unit 1 that start together: the store is at port 0, and the load at port 1

abbrev both : List TimedOp
both = access o.Load 4 (variable 1 ∷ []) ∷ access o.Store 8 (variable 1 ∷ variable 0 ∷ []) ∷ []

store_is_found : store_unit 0 4 0 both (0 ∷ 1 ∷ []) ≡ Some 1
store_is_found = refl

-- in no other cycle
none_is_found : store_unit 0 4 1 both (0 ∷ 1 ∷ []) ≡ None
none_is_found = refl

store_is_first : changed_with 1 1 ≡ 0
store_is_first = refl

load_is_beside : changed_with 1 0 ≡ 1
load_is_beside = refl
