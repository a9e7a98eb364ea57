-- The circuit of a timed program: for each register and each signal the guarded writes to it, and so which contents follow in a cycle on which, whatever the pins.
use Rattle.std.specs.Prelude.{◌≡◌, ℕ, zero, suc, ◌%◌, ◌^◌, ◌<◌, ◌-◌, List, [], ◌∷◌, length, slice_index, Option, Some, None, true}
use Rattle.ir_core.specs.declared.timing.UnitClass.TheVariants as u
use Rattle.rtl_core.specs.Interface.{select_of, ready_of, done_of, read_data_of, ret_of}
use Rattle.datapath.specs.Plans.{Plan, array_at, host_arrays, bits_of}
use Rattle.datapath.specs.Cycles as c
use Rattle.datapath.specs.Cycles.{Register, Contents, Signal, Cycle, in_cycle, bit}
use Rattle.rtl_logic.specs.Choosing.{Write, where_, Takes}
use Rattle.datapath.specs.Control.{next_ready, next_done, next_initial, next_time, time_bits, next_active, next_load, gate_writes, passed_write, waited_write, wait_bits}
use Rattle.datapath.specs.Units.{argument_writes, signed_writes, product, steps_writes, dividend_writes, remainder_writes, divisor_writes, quotient_sign_writes, remainder_sign_writes}
use Rattle.datapath.specs.Values.{value_writes, variable_writes, result_writes}
use Rattle.datapath.specs.Ports.{address_writes, stored_writes, outside_address, outside_word, next_words, is_reading, read_word}

-- ---- signals

abbrev pub signal_writes : Plan → Cycle → Signal → List Write
signal_writes p cycle (c.LeftOf class n) = argument_writes p cycle class n 0
signal_writes p cycle (c.RightOf class n) = argument_writes p cycle class n 1
signal_writes p cycle (c.SignedOf class n) = signed_writes p cycle class n
signal_writes p cycle (c.AddressOf a n) = address_writes p cycle a n
signal_writes p cycle (c.StoredOf a n) = stored_writes p cycle a n

-- what the signal is where no operation gives it a value, if anything is said of that
abbrev pub signal_else : Plan → Cycle → Signal → Option ℕ
signal_else p cycle (c.AddressOf a n) = outside_address p cycle a n
signal_else p cycle (c.StoredOf a n) = outside_word p cycle a n
signal_else p cycle signal = None

-- ---- registers

-- taken in each cycle
abbrev pub always : ℕ → List Write
always x = where_ true x ∷ []

abbrev pub named_bits : Plan → ℕ
named_bits p = bits_of (length (host_arrays p) - 1)

abbrev pub register_writes : Plan → Cycle → Register → List Write
register_writes p cycle c.Ready = always (bit (next_ready p cycle))
register_writes p cycle c.Done = always (bit (next_done p cycle))
register_writes p cycle c.Initial = always (bit (next_initial p cycle))
register_writes p cycle c.Time = always (next_time p cycle)
register_writes p cycle (c.Active i) = always (bit (next_active p cycle i))
register_writes p cycle (c.Load i) = always (bit (next_load p cycle i))
register_writes p cycle (c.Gate tests) = gate_writes p cycle tests
register_writes p cycle (c.Passed intervals) = passed_write p cycle intervals ∷ []
register_writes p cycle c.Waited = waited_write p cycle ∷ []
register_writes p cycle (c.Variable v) = variable_writes p cycle v
register_writes p cycle (c.Value k) = value_writes p cycle k
register_writes p cycle c.Result = result_writes p cycle
register_writes p cycle (c.Left bits n) = always (cycle.signals (c.LeftOf (u.Multiplier bits) n))
register_writes p cycle (c.Right bits n) = always (cycle.signals (c.RightOf (u.Multiplier bits) n))
register_writes p cycle (c.Product bits n) = always (product cycle bits n)
register_writes p cycle (c.Steps bits n) = steps_writes p cycle bits n
register_writes p cycle (c.Dividend bits n) = dividend_writes p cycle bits n
register_writes p cycle (c.Remainder bits n) = remainder_writes p cycle bits n
register_writes p cycle (c.Divisor bits n) = divisor_writes p cycle bits n
register_writes p cycle (c.QuotientSign bits n) = quotient_sign_writes p cycle bits n
register_writes p cycle (c.RemainderSign bits n) = remainder_sign_writes p cycle bits n
register_writes p cycle (c.Word a n) = where_ (is_reading p cycle a n) (read_word p cycle a n) ∷ []
register_writes p cycle c.Named = always (select_of cycle.pins % 2 ^ named_bits p)

abbrev pub width : Plan → Register → ℕ
width p c.Time = time_bits p
width p c.Waited = wait_bits p
width p (c.Variable v) = slice_index p.program.shapes.widths v
width p (c.Value k) = slice_index p.widths k
width p c.Result = p.result
width p (c.Left bits n) = bits
width p (c.Right bits n) = bits
width p (c.Product bits n) = bits
width p (c.Steps bits n) = bits_of bits
width p (c.Dividend bits n) = bits
width p (c.Remainder bits n) = bits
width p (c.Divisor bits n) = bits
width p (c.Word a n) = (array_at p a).bits
width p c.Named = named_bits p
width p register = 1

-- ---- one cycle

-- the signals have what they are given in this cycle
abbrev pub IsCycle : Plan → Cycle → Type 0
IsCycle p cycle = (signal : Signal) → Takes (signal_writes p cycle signal) (signal_else p cycle signal) (cycle.signals signal)

-- behind the edge that ends this cycle each register has what it is given, and else what it had, and the arrays have what the ports write
pub record IsAfter (p : Plan) (cycle : Cycle) (x : Contents) : Type 0 where
  pub regs : (r : Register) → Takes (register_writes p cycle r) (Some (cycle.regs r)) (x.regs r)
  pub memories : (a address : ℕ) → x.memories a address ≡ next_words p cycle a address

-- what follows in a cycle with these pins
pub record Step (p : Plan) (x : Contents) (pins : List ℕ) (y : Contents) : Type 0 where
  pub signals : Signal → ℕ
  pub is_cycle : IsCycle p (in_cycle x signals pins)
  pub is_after : IsAfter p (in_cycle x signals pins) y

-- ---- outputs

abbrev pub ShowsReturn : ℕ → ℕ → ℕ → Type 0
ShowsReturn zero x ret = Unit {0}
ShowsReturn (suc bits) x ret = ret ≡ x

-- The pins show the registers: for the host the word that was read at the array that it named in the cycle before.
pub record Shows (p : Plan) (x : Contents) (outs : List ℕ) : Type 0 where
  pub ready : ready_of outs ≡ x.regs c.Ready
  pub done : done_of outs ≡ x.regs c.Done
  pub result : ShowsReturn p.result (x.regs c.Result) (ret_of outs)
  pub element : x.regs c.Named < length (host_arrays p) → read_data_of outs ≡ x.regs (c.Word (x.regs c.Named) 0)
