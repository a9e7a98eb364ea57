-- What an action reads, gives and stores is what its operation does in this cycle.
use Rattle.std.proofs.Common.{◌≡◌, ℕ, ◌+◌, ◌-◌, ◌*◌, ◌<◌, ◌≤◌, ◌^◌, inl, inr, Bool, true, false, not, ltb, ◌&&◌, ◌||◌, List, [], ◌∷◌, map, slice_get, Option, Some, None, refl, sym, ap, ap₂, ◌∙◌, subst, arith}
use Rattle.std.specs.Option.{option_map}
use Rattle.std.specs.Prelude.{◌==◌}
use Rattle.std.proofs.Math.Nat.{div-le_self}
use Rattle.std.proofs.lemmas.Bool.{cases_Bool, cond-true, cond-false}
use Rattle.ir_core.specs.declared.body.OpKind.TheVariants as o
use Rattle.ir_core.specs.declared.body.Operand.{Operand}
use Rattle.ir_core.specs.Bodies.{Shapes, Words, Performed, effect, first_bits}
use Rattle.clock_ir.specs.Flows.{TimedOp, TimedBody, Flow, operand_at, holds_at, place, known, gates_now, runs_at, is_at, starts, performed}
use Rattle.clock_machine.specs.declared.lines.program.Action.{Action}
use Rattle.clock_machine.specs.declared.lines.program.Line.{Line}
use Rattle.clock_machine.specs.declared.lines.program.Work.{Work}
use Rattle.clock_machine.specs.declared.lines.registers.Registers.{Registers}
use Rattle.clock_machine.specs.Lines.Forms.{op_trees}
use Rattle.clock_machine.specs.Lines.Reads.{Each, EachIf, IsCovered, read_of}
use Rattle.clock_machine.specs.Lines.Registers.{ReadIsWithin, held, word_read}
use Rattle.clock_machine.specs.Lines.Showing.{Shows, ShowsGates}
use Rattle.clock_machine.proofs.LinesLemmas.Reading.{reads_operand}
use Rattle.clock_machine.specs.Acts.{ReadsAreWithin, ReadIsWithinIf, guard_holds, is_store, is_open, allows, op_in}
use Rattle.clock_machine.specs.Keeping.{IsForm}
use Rattle.clock_machine.specs.Starting.{stored_by}
use Rattle.clock_machine.proofs.Effects.{same_effect, changes_none}

module _ (shapes : Shapes) (b : TimedBody) (w : Work) (f : Flow) (r : Registers) (form : IsForm shapes.widths b w r) (shows : Shows b w.lines.items r f) where
  abbrev lines : List Line
  lines = w.lines.items

  -- ---- operands

  pub reads : (t : ℕ) (x : Operand) → IsCovered form.depth (read_of b t x) → ReadIsWithin r lines (read_of b t x) × (word_read r lines (read_of b t x) ≡ operand_at b f t x)
  reads t x covered = reads_operand b w r f form.depth form.size form.work.count form.deep form.few shows t x covered

  pub reads_all : (t : ℕ) (xs : List Operand) → Each (IsCovered form.depth) (map (read_of b t) xs)
      → ReadsAreWithin r lines (map (read_of b t) xs) × (map (word_read r lines) (map (read_of b t) xs) ≡ map (operand_at b f t) xs)
  reads_all t [] covered = (tt, refl)
  reads_all t (x ∷ xs) covered =
      let one = reads t x covered.0 in
      let more = reads_all t xs covered.1 in
      ((one.0, more.0), ap₂ (λ y ys. y ∷ ys) one.1 more.1)

  pub reads_if : (t : ℕ) (x : Option Operand) → EachIf (IsCovered form.depth) (option_map (read_of b t) x)
      → ReadIsWithinIf r lines (option_map (read_of b t) x) × (guard_holds r lines (option_map (read_of b t) x) ≡ holds_at b f t x)
  reads_if t None covered = (tt, refl)
  reads_if t (Some x) covered = (let one = reads t x covered in (one.0, ap (λ y. not (y == 0)) one.1))

  -- ---- an operation

  module _ (k : ℕ) (op : TimedOp) (a : Action) (op_is : slice_get b.ops k ≡ Some op) (a_is : slice_get w.actions.items k ≡ Some a) where
    pub args_read : ReadsAreWithin r lines a.args.items × (map (word_read r lines) a.args.items ≡ map (operand_at b f op.start) op.op.args)
    args_read =
        let is = (form.work.actions k op a op_is a_is).args in
        let cover = (form.deep.actions k a a_is).0 in
        subst (λ xs. ReadsAreWithin r lines xs × (map (word_read r lines) xs ≡ map (operand_at b f op.start) op.op.args)) (sym is)
        (reads_all op.start op.op.args (subst (Each (IsCovered form.depth)) is cover))

    pub guard_read : ReadIsWithinIf r lines a.guard × (guard_holds r lines a.guard ≡ holds_at b f op.start op.op.guard)
    guard_read =
        let is = (form.work.actions k op a op_is a_is).guard in
        let cover = (form.deep.actions k a a_is).1 in
        subst (λ x. ReadIsWithinIf r lines x × (guard_holds r lines x ≡ holds_at b f op.start op.op.guard)) (sym is)
        (reads_if op.start op.op.guard (subst (EachIf (IsCovered form.depth)) is cover))

    abbrev words : (ℕ → ℕ → ℕ) → Words
    words memories = record { variables = held r.variables.items; memories = memories }

    abbrev pub does_by : Bool → (ℕ → ℕ → ℕ) → Performed
    does_by allowed memories =
        effect shapes op.op op.op.kind allowed (first_bits shapes.widths (op_trees b) op.op op.op.args) (map (operand_at b f op.start) op.op.args) (record { variables = f.entry; memories = memories })

    pub effect_is : (allowed : Bool) (memories : ℕ → ℕ → ℕ) → effect shapes (op_in a) a.kind allowed a.from_bits (map (word_read r lines) a.args.items) (words memories) ≡ does_by allowed memories
    effect_is allowed memories =
        let act = form.work.actions k op a op_is a_is in
        let from = a.from_bits in
        let args = map (word_read r lines) a.args.items in
        let t = words memories in
        same_effect shapes (op_in a) op.op from args t act.array act.signed act.bits a.kind allowed
        ∙ ap (λ x. effect shapes op.op x allowed from args t) act.kind
        ∙ ap (λ x. effect shapes op.op op.op.kind allowed x args t) act.from_bits
        ∙ ap (λ x. effect shapes op.op op.op.kind allowed (first_bits shapes.widths (op_trees b) op.op op.op.args) x t) args_read.1
        ∙ ap (λ x. effect shapes op.op op.op.kind allowed (first_bits shapes.widths (op_trees b) op.op op.op.args) (map (operand_at b f op.start) op.op.args) (record { variables = x; memories = memories })) shows.entry

    -- ---- a store

    -- the iteration's gate
    opens : (failed : ℕ) → ShowsGates (gates_now b f) failed → a.kind ≡ o.Store → is_open failed a ≡ runs_at b f op.start
    opens failed gates store =
        let act = form.work.actions k op a op_is a_is in
        let early = form.early k op op_is in
        let near : place b.interval (known b) op.start 0 ≤ op.start + 0 * b.interval - known b = div-le_self (op.start + 0 * b.interval - known b) b.interval in
        let small : a.gate < 2 ^ 64 - 1 = omega (arith, near, early, act.gate) in
        ap (λ x. not (is_store x) || not (ltb a.gate failed)) store ∙ sym (gates a.gate small) ∙ ap (gates_now b f) act.gate

    pub stores : (failed : ℕ) → ShowsGates (gates_now b f) failed → a.kind ≡ o.Store → is_at b.interval op.start f.time ≡ true → (memories : ℕ → ℕ → ℕ)
        → (effect shapes (op_in a) a.kind (allows r lines failed a) a.from_bits (map (word_read r lines) a.args.items) (words memories)).words.memories ≡ stored_by shapes b f op memories
    stores failed gates store on memories =
        let open_is = opens failed gates store in
        let kind : op.op.kind ≡ o.Store = sym (form.work.actions k op a op_is a_is).kind ∙ store in
        elim (cases_Bool (runs_at b f op.start)) [
          | inl runs ↦
              let allowed : allows r lines failed a ≡ holds_at b f op.start op.op.guard = ap₂ (λ x y. x && y) (open_is ∙ runs) guard_read.1 in
              ap (λ (p : Performed). p.words.memories) (effect_is (allows r lines failed a) memories)
              ∙ ap (λ x. (does_by x memories).words.memories) allowed
              ∙ sym (cond-true (starts b f op) (performed shapes b f op memories).words.memories memories (ap₂ (λ x y. x && y) on runs))
          | inr off ↦
              let allowed : allows r lines failed a ≡ false = ap (λ x. x && guard_holds r lines a.guard) (open_is ∙ off) in
              ap (λ (p : Performed). p.words.memories) (effect_is (allows r lines failed a) memories)
              ∙ ap (λ x. (does_by x memories).words.memories) allowed
              ∙ ap (λ x. (effect shapes op.op x false (first_bits shapes.widths (op_trees b) op.op op.op.args) (map (operand_at b f op.start) op.op.args) (record { variables = f.entry; memories = memories })).words.memories) kind
              ∙ sym (cond-false (starts b f op) (performed shapes b f op memories).words.memories memories (ap₂ (λ x y. x && y) on off))
        ]

    -- what is no store
    pub stores_none : is_store a.kind ≡ false → (memories : ℕ → ℕ → ℕ) → stored_by shapes b f op memories ≡ memories
    stores_none other memories =
        let kind : is_store op.op.kind ≡ false = ap is_store (sym (form.work.actions k op a op_is a_is).kind) ∙ other in
        let stays : (performed shapes b f op memories).words.memories ≡ memories =
        ap (λ (t : Words). t.memories)
        (changes_none shapes op.op op.op.kind (holds_at b f op.start op.op.guard) (first_bits shapes.widths (op_trees b) op.op op.op.args) (map (operand_at b f op.start) op.op.args) (record { variables = f.entry; memories = memories }) kind) in
        elim (cases_Bool (starts b f op)) [
          | inl on ↦ cond-true (starts b f op) (performed shapes b f op memories).words.memories memories on ∙ stays
          | inr off ↦ cond-false (starts b f op) (performed shapes b f op memories).words.memories memories off
        ]

-- an operation that does not start in this cycle
pub rests : (shapes : Shapes) (b : TimedBody) (f : Flow) (op : TimedOp) (memories : ℕ → ℕ → ℕ) → is_at b.interval op.start f.time ≡ false → stored_by shapes b f op memories ≡ memories
rests shapes b f op memories off = cond-false (starts b f op) (performed shapes b f op memories).words.memories memories (ap (λ x. x && runs_at b f op.start) off)
