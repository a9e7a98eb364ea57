-- What is taken along from a body, and where control goes from a block.
use Rattle.std.proofs.Common.{◌≡◌, ℕ, ◌+◌, ◌<◌, Bool, true, false, not, List, [], ◌∷◌, length, map, Option, Some, None, refl, sym, ap, ap₂, ◌∙◌, subst}
use Rattle.std.specs.Prelude.{◌==◌, if◌then◌else◌}
use Rattle.std.specs.Option.{option_map}
use Rattle.hls_base.specs.declared.number.NodeId.{NodeId}
use Rattle.ir_core.specs.declared.body.Operand.{Operand}
use Rattle.ir_core.specs.declared.body.Out.{Out}
use Rattle.ir_core.specs.declared.cfg.End.{End}
use Rattle.ir_core.specs.declared.cfg.End.TheVariants as end
use Rattle.ir_core.specs.Bodies.{Shapes, with_word}
use Rattle.ir_core.specs.FlatRuns.{to, ends}
use Rattle.clock_ir.specs.Flows.{TimedBody, taken}
use Rattle.clock_ir.specs.ClockRuns.{chosen_by, going_by}
use Rattle.clock_machine.specs.declared.lines.program.Assignment.{Assignment}
use Rattle.clock_machine.specs.declared.lines.program.Case.{Case}
use Rattle.clock_machine.specs.declared.lines.program.Line.{Line}
use Rattle.clock_machine.specs.declared.lines.program.Way.{Way}
use Rattle.clock_machine.specs.declared.lines.program.Way.TheVariants as way
use Rattle.clock_machine.specs.declared.lines.registers.Registers.{Registers}
use Rattle.clock_machine.specs.Lines.Forms.{assignment_of, case_of, IsWayOf}
use Rattle.clock_machine.specs.Lines.Reads.{Each, EachIf, IsCovered, CoversWay, read_at, read_of}
use Rattle.clock_machine.specs.Lines.Registers.{ReadIsWithin, word_read}
use Rattle.clock_machine.specs.Leaving.{AssignmentsAreWithin, AssignmentsAreThere, assigned, CasesAreWithin, chosen_in, WayIsWithin, going_in}
use Rattle.clock_machine.specs.Standing.{IsOutOf}

-- the variables that take values are there
pub outs_there : (shapes : Shapes) (b : TimedBody) (time further count ops : ℕ) (outs : List Out) → count ≡ length shapes.widths → Each (IsOutOf shapes ops) outs → AssignmentsAreThere (map (assignment_of b time further) outs) count
outs_there shapes b time further count ops [] same h = tt
outs_there shapes b time further count ops (x ∷ xs) same h = (subst (λ n. x.variable.0 < n) (sym same) h.0.0, outs_there shapes b time further count ops xs same h.1)

-- ---- values that are taken

module _ (b : TimedBody) (r : Registers) (lines : List Line) (depth time further : ℕ) (value : Operand → ℕ)
    (reads : (x : Operand) → IsCovered depth (read_at b time (x.distance + further) x.value) → ReadIsWithin r lines (read_at b time (x.distance + further) x.value) × (word_read r lines (read_at b time (x.distance + further) x.value) ≡ value x)) where
  pub outs_within : (outs : List Out) → Each (λ (x : Assignment). IsCovered depth x.value) (map (assignment_of b time further) outs) → AssignmentsAreWithin r lines (map (assignment_of b time further) outs)
  outs_within [] covers = tt
  outs_within (x ∷ xs) covers = ((reads x.value covers.0).0, outs_within xs covers.1)

  pub outs_taken : (outs : List Out) (variables : ℕ → ℕ) → Each (λ (x : Assignment). IsCovered depth x.value) (map (assignment_of b time further) outs)
      → assigned (word_read r lines) (map (assignment_of b time further) outs) variables ≡ taken value outs variables
  outs_taken [] variables covers = refl
  outs_taken (x ∷ xs) variables covers =
      outs_taken xs (with_word variables x.variable.0 (word_read r lines (read_at b time (x.value.distance + further) x.value.value))) covers.1
      ∙ ap (λ v. taken value xs (with_word variables x.variable.0 v)) (reads x.value covers.0).1

-- ---- where control goes

module _ (b : TimedBody) (r : Registers) (lines : List Line) (depth time : ℕ) (value : Operand → ℕ)
    (reads : (x : Operand) → IsCovered depth (read_of b time x) → ReadIsWithin r lines (read_of b time x) × (word_read r lines (read_of b time x) ≡ value x)) where
  abbrev Covers : List Case → Type 0
  Covers cases = Each (λ (c : Case). IsCovered depth c.test) cases

  cases_within : (cases : List (Operand × NodeId)) → Covers (map (case_of b time) cases) → CasesAreWithin r lines (map (case_of b time) cases)
  cases_within [] covers = tt
  cases_within (c ∷ cs) covers = ((reads c.0 covers.0).0, cases_within cs covers.1)

  cases_chosen : (cases : List (Operand × NodeId)) (other : NodeId) → Covers (map (case_of b time) cases) → (chosen_in (word_read r lines) (map (case_of b time) cases) other).0 ≡ chosen_by value cases other
  cases_chosen [] other covers = refl
  cases_chosen (c ∷ cs) other covers =
      node_if (not (word_read r lines (read_of b time c.0) == 0)) c.1 (chosen_in (word_read r lines) (map (case_of b time) cs) other)
      ∙ ap₂ (λ x y. if not (x == 0) then c.1.0 else y) (reads c.0 covers.0).1 (cases_chosen cs other covers.1)
    where
      node_if : (it : Bool) (x y : NodeId) → (if it then x else y).0 ≡ (if it then x.0 else y.0)
      node_if true x y = refl
      node_if false x y = refl

  case_list : (items : List Case) (cs : List (Operand × NodeId)) → items ≡ map (case_of b time) cs → Covers items → CasesAreWithin r lines items
  case_list items cs is covers = subst (CasesAreWithin r lines) (sym is) (cases_within cs (subst Covers is covers))

  goes_list : (items : List Case) (cs : List (Operand × NodeId)) (other n : NodeId) → items ≡ map (case_of b time) cs → other ≡ n → Covers items → (chosen_in (word_read r lines) items other).0 ≡ chosen_by value cs n
  goes_list items cs other n is same covers =
      ap₂ (λ xs x. (chosen_in (word_read r lines) xs x).0) is same ∙ cases_chosen cs n (subst Covers is covers)

  word_within : (x : Option Operand) → EachIf (IsCovered depth) (option_map (read_of b time) x) → WayIsWithin r lines (way.Return (option_map (read_of b time) x))
  word_within None covers = tt
  word_within (Some x) covers = (reads x covers).0

  word_goes : (x : Option Operand) → EachIf (IsCovered depth) (option_map (read_of b time) x) → option_map (word_read r lines) (option_map (read_of b time) x) ≡ option_map value x
  word_goes None covers = refl
  word_goes (Some x) covers = ap Some (reads x covers).1

  pub way_within : (e : End) (way_ : Way) → IsWayOf b time e way_ → CoversWay depth way_ → WayIsWithin r lines way_
  way_within (end.Jump n) (way.Choose cases other) is covers = case_list cases.items [] is.0 covers
  way_within (end.Branch test left right) (way.Choose cases other) is covers = case_list cases.items ((test, left) ∷ []) is.0 covers
  way_within (end.Choose cs n) (way.Choose cases other) is covers = case_list cases.items cs.items is.0 covers
  way_within (end.Return x) (way.Return value_) is covers = subst (λ v. WayIsWithin r lines (way.Return v)) (sym is) (word_within x (subst (EachIf (IsCovered depth)) is covers))
  way_within e way_ is covers = absurd is

  pub way_goes : (e : End) (way_ : Way) → IsWayOf b time e way_ → CoversWay depth way_ → going_in (word_read r lines) way_ ≡ going_by value e
  way_goes (end.Jump n) (way.Choose cases other) is covers = ap to (goes_list cases.items [] other n is.0 is.1 covers)
  way_goes (end.Branch test left right) (way.Choose cases other) is covers = ap to (goes_list cases.items ((test, left) ∷ []) other right is.0 is.1 covers)
  way_goes (end.Choose cs n) (way.Choose cases other) is covers = ap to (goes_list cases.items cs.items other n is.0 is.1 covers)
  way_goes (end.Return x) (way.Return value_) is covers = ap (λ v. ends (option_map (word_read r lines) v)) is ∙ ap ends (word_goes x (subst (EachIf (IsCovered depth)) is covers))
  way_goes e way_ is covers = absurd is
