-- What a timed body does, cycle by cycle. In a loop an iteration begins each `interval` cycles, and the iterations overlap; a block is one iteration, with its length for the interval.
use Rattle.std.specs.Prelude.{ℕ, zero, suc, ◌+◌, ◌-◌, ◌*◌, ◌/◌, ◌%◌, ◌==◌, nat_le, Bool, true, false, not, ◌&&◌, List, [], ◌∷◌, map, slice_get, Option, Some, None, if◌then◌else◌}
use Rattle.hls_base.specs.declared.number.OpId.{OpId}
use Rattle.ir_core.specs.declared.body.Body.{Body}
use Rattle.ir_core.specs.declared.body.Op.{Op}
use Rattle.ir_core.specs.declared.body.Operand.{Operand}
use Rattle.ir_core.specs.declared.body.Out.{Out}
use Rattle.ir_core.specs.declared.body.Source.{Source}
use Rattle.ir_core.specs.declared.body.Source.TheVariants as source
use Rattle.ir_core.specs.Timing as timing
use Rattle.ir_core.specs.declared.timed.Timed.{Timed}
use Rattle.dep_graph.specs.Dependences.{maker_of, test_maker}
use Rattle.ir_core.specs.Bodies.{OpTree, op_of, Shapes, Words, Performed, first_bits, effect, word, with_word}

-- an operation, and the time of its iteration at which it starts
pub record TimedOp : Type 0 where
  pub op : OpTree
  pub start : ℕ

pub record TimedBody : Type 0 where
  pub ops : List TimedOp
  pub outs : List Out
  pub test : Option Operand
  pub interval : ℕ

abbrev pub timed_op : Op Timed → TimedOp
timed_op op = record { op = op_of op; start = op.stamp.start }

abbrev pub timed_body : ℕ → Body Timed → TimedBody
timed_body interval b = record { ops = map timed_op b.ops.items; outs = b.outs.items; test = b.test; interval = interval }

-- ---- times

abbrev pub latency : TimedOp → ℕ
latency o = timing.latency o.op.kind o.op.bits

abbrev pub ready_in : Option TimedOp → ℕ
ready_in None = 0
ready_in (Some o) = o.start + latency o

-- the time of an iteration from which the value of an operation is there
abbrev pub ready : TimedBody → OpId → ℕ
ready b op = ready_in (slice_get b.ops op.0)

-- in this cycle some iteration is at its time t
abbrev pub is_at : ℕ → ℕ → ℕ → Bool
is_at interval t time = nat_le t time && ((time - t) % interval == 0)

-- the place in its chain at which a value that is there at time a is read at time t, so many iterations later
abbrev pub place : ℕ → ℕ → ℕ → ℕ → ℕ
place interval a t distance = (t + distance * interval - a) / interval

abbrev pub ready_if : TimedBody → Option OpId → ℕ
ready_if b None = 0
ready_if b (Some op) = ready b op

-- the time of an iteration at which its test is known
abbrev pub known : TimedBody → ℕ
known b = ready_if b (test_maker b.test)

-- ---- what is held in a cycle

-- The time counts from the first cycle of the body. For each operation there are its last values, the last one first, and what it gave if it started one cycle ago, two cycles ago, and so on. The gates tell of the last iterations whose test is known whether they run, the last one first.
pub record Flow : Type 0 where
  pub time : ℕ
  pub entry : ℕ → ℕ
  pub chain : ℕ → ℕ → ℕ
  pub under_way : ℕ → ℕ → ℕ
  pub gates : ℕ → Bool
  pub memories : ℕ → ℕ → ℕ

-- a line with one more in front
abbrev pub pushed : {A : Type 0} → A → (ℕ → A) → ℕ → A
pushed x line zero = x
pushed x line (suc j) = line j

abbrev pub held : TimedBody → Flow → ℕ → Operand → Option OpId → ℕ
held b f t x (Some op) = f.chain op.0 (place b.interval (ready b op) t x.distance)
held b f t x None = word (record { variables = f.entry; memories = f.memories }) [] x.value

-- what an operand holds for an iteration that is at its time t
abbrev pub operand_at : TimedBody → Flow → ℕ → Operand → ℕ
operand_at b f t x = held b f t x (maker_of b.outs x)

-- ---- which iterations run

abbrev pub holds_at : TimedBody → Flow → ℕ → Option Operand → Bool
holds_at b f t None = true
holds_at b f t (Some x) = not (operand_at b f t x == 0)

-- Where the test of an iteration is known in this cycle, the iteration runs if the test holds and the one before it runs. So none runs behind one that does not.
abbrev pub gates_now : TimedBody → Flow → ℕ → Bool
gates_now b f = if is_at b.interval (known b) f.time then pushed (f.gates 0 && holds_at b f (known b) b.test) f.gates else f.gates

-- whether the iteration runs that is at its time t
abbrev pub runs_at : TimedBody → Flow → ℕ → Bool
runs_at b f t = gates_now b f (place b.interval (known b) t 0)

-- ---- operations

-- what an operation does that starts in this cycle, on these memories
abbrev pub performed : Shapes → TimedBody → Flow → TimedOp → (ℕ → ℕ → ℕ) → Performed
performed shapes b f o memories =
    effect shapes o.op o.op.kind (holds_at b f o.start o.op.guard) (first_bits shapes.widths (map (λ (p : TimedOp). p.op) b.ops) o.op o.op.args) (map (operand_at b f o.start) o.op.args)
    (record { variables = f.entry; memories = memories })

-- What it gives: loads read the words from before this cycle. Loads and arithmetic run whether or not their iteration does.
abbrev pub given : Shapes → TimedBody → Flow → TimedOp → ℕ
given shapes b f o = (performed shapes b f o f.memories).result

abbrev pub starts : TimedBody → Flow → TimedOp → Bool
starts b f o = is_at b.interval o.start f.time && runs_at b f o.start

-- the words behind the stores of this cycle, of iterations that run
abbrev pub behind_stores : Shapes → TimedBody → Flow → List TimedOp → (ℕ → ℕ → ℕ) → ℕ → ℕ → ℕ
behind_stores shapes b f [] memories = memories
behind_stores shapes b f (o ∷ os) memories =
    behind_stores shapes b f os (if starts b f o then (performed shapes b f o memories).words.memories else memories)

-- ---- one cycle

abbrev pub chain_behind : Shapes → TimedBody → Flow → ℕ → Option TimedOp → ℕ → ℕ
chain_behind shapes b f k None = f.chain k
chain_behind shapes b f k (Some o) =
    if is_at b.interval (o.start + latency o) (suc f.time) then pushed (pushed (given shapes b f o) (f.under_way k) (latency o - 1)) (f.chain k) else f.chain k

abbrev pub under_way_behind : Shapes → TimedBody → Flow → ℕ → Option TimedOp → ℕ → ℕ
under_way_behind shapes b f k None = f.under_way k
under_way_behind shapes b f k (Some o) = pushed (given shapes b f o) (f.under_way k)

unfoldable pub tick : Shapes → TimedBody → Flow → Flow
tick shapes b f = record {
  time = suc f.time;
  entry = f.entry;
  chain = λ k. chain_behind shapes b f k (slice_get b.ops k);
  under_way = λ k. under_way_behind shapes b f k (slice_get b.ops k);
  gates = gates_now b f;
  memories = behind_stores shapes b f b.ops f.memories;
}

abbrev pub is_result : ℕ → Source → Bool
is_result k (source.Result op) = op.0 == k
is_result k _ = false

-- the value at entry of the variable whose next value the operation makes
abbrev pub entered : List Out → (ℕ → ℕ) → ℕ → ℕ
entered [] variables k = 0
entered (x ∷ xs) variables k = if is_result k x.value.value then variables x.variable.0 else entered xs variables k

-- the first cycle: the chains begin with what the variables hold
unfoldable pub first_flow : TimedBody → Words → Flow
first_flow b t = record {
  time = 0;
  entry = t.variables;
  chain = λ k. pushed (entered b.outs t.variables k) (λ j. 0);
  under_way = λ k j. 0;
  gates = λ j. true;
  memories = t.memories;
}

-- the variables take their values, all from those before
abbrev pub taken : (Operand → ℕ) → List Out → (ℕ → ℕ) → ℕ → ℕ
taken read [] variables = variables
taken read (x ∷ xs) variables = taken read xs (with_word variables x.variable.0 (read x.value))
