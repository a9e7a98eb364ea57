-- The outs and the test of an iteration are of the same iteration, or of the one before.
use Rattle.std.proofs.Common.{ℕ, ◌≤◌, subst, Bool, true, false, List, [], ◌∷◌, map, arith}
use Rattle.std.specs.Prelude.{IfSome, if◌then◌else◌}
use Rattle.std.specs.List.{All}
use Rattle.std.proofs.lemmas.List.Elements.{All-nil, All-cons}
use Rattle.ir_core.specs.declared.body.Operand.{Operand}
use Rattle.ir_core.specs.declared.body.Out.{Out}
use Rattle.ir_core.specs.declared.body.Source.{Source}
use Rattle.ir_core.specs.declared.body.Source.TheVariants as source
use Rattle.ir_core.specs.Bodies.{Shapes}
use Rattle.ir_core.specs.Trees.{BlockTree, BodyTree, SequenceTree}
use Rattle.passes.specs.Conversion.Outs.{is_set}
use Rattle.passes.specs.Conversion.Merging.{opened, joined, first_of}
use Rattle.passes.specs.Conversion.Overlapping.{carried_from, carried, carried_out, iteration}
use Rattle.passes.specs.Conversion.{Scope, converted_sequence}
use Rattle.reg_binding.specs.SmallTimes.{IsNear, IsNearOut}
use Rattle.sound_trees.specs.Trees.{SequenceHas}
use Rattle.sound_trees.specs.Ready as ready
use Rattle.sound_trees.specs.Ready.{ExitIsNear, BlockIsReady}
use Rattle.sound_trees.specs.Loops.{NumberedLoopIsReady}
use Rattle.sound_trees.proofs.Converted as converted
use Rattle.sound_trees.proofs.Converted.{LoopsFit}

-- ---- operands

carried_low : (outs : List Out) (x : Operand) → ready.IsNear x → (carried outs x).distance ≤ 1
carried_low outs x h = at x.value where
  by : (t : Bool) → (if t then record x { distance = 1 } else x).distance ≤ 1
  by true = omega arith
  by false = omega (arith, h)

  at : (s : Source) → (carried_from outs x s).distance ≤ 1
  at (source.Constant w) = omega (arith, h)
  at (source.Variable v) = by (is_set outs v)
  at (source.Result op) = omega (arith, h)

carried_near : (outs : List Out) (x : Operand) → ready.IsNear x → IsNear (carried outs x)
carried_near outs x h = (let low = carried_low outs x h in omega (arith, low))

-- ---- outs

abbrev pub BodyOutsAreNear : BodyTree → Type 0
BodyOutsAreNear b = All IsNearOut b.outs

pub own_outs : (outs : List Out) → ready.OutsAreNear outs → All IsNearOut outs
own_outs [] h = All-nil IsNearOut
own_outs (x ∷ xs) h = All-cons IsNearOut x xs (let own = h.0 in omega (arith, own)) (own_outs xs h.1)

carried_outs : (outs xs : List Out) → ready.OutsAreNear xs → All IsNearOut (map (carried_out outs) xs)
carried_outs outs [] h = All-nil IsNearOut
carried_outs outs (x ∷ xs) h = All-cons IsNearOut (carried_out outs x) (map (carried_out outs) xs) (carried_near outs x.value h.0) (carried_outs outs xs h.1)

pub iteration_outs : (known : Operand) (b : BlockTree) → ready.OutsAreNear b.outs → BodyOutsAreNear (iteration known b)
iteration_outs known b h = carried_outs b.outs b.outs h

-- ---- tests

abbrev pub BodyTestIsNear : BodyTree → Type 0
BodyTestIsNear b = IfSome b.test IsNear

iteration_test : (known : Operand) (b : BlockTree) → ready.IsNear known → BodyTestIsNear (iteration known b)
iteration_test known b h = carried_near b.outs known h

-- the test of a loop that is overlapped is that of a block
module _ (shapes : Shapes) (words : List ℕ) (loops : Bool) where
  abbrev N : SequenceTree → SequenceTree → Type 0
  N = NumberedLoopIsReady shapes words

  -- none is overlapped before conversion
  abbrev O : BodyTree → Type 0
  O b = ⊥

  all_ready : (s : SequenceTree) → SequenceHas (BlockIsReady shapes words true) N O s → SequenceHas (BlockIsReady shapes words true) (λ t b. Unit {0}) (λ b. Unit {0}) (converted_sequence (record { widths = shapes.widths; loops = loops }) s)
  all_ready s h = converted.sequence_ready shapes words loops N O (λ b. Unit {0}) (λ b x. tt) (λ t b known x y z i. tt) s h

  first_has : (s : SequenceTree) → SequenceHas (BlockIsReady shapes words true) (λ t b. Unit {0}) (λ b. Unit {0}) s → BlockIsReady shapes words true (first_of s)
  first_has s h = converted.first_ready shapes words loops N O (λ b. Unit {0}) (λ b x. tt) (λ t b known x y z i. tt) s h

  pub tests_fit : LoopsFit shapes words loops N O BodyTestIsNear
  tests_fit t b known ht hb n i =
      let scope : Scope = record { widths = shapes.widths; loops = loops } in
      let head = first_of (converted_sequence scope t) in
      let body = first_of (converted_sequence scope b) in
      let first = first_has (converted_sequence scope t) (all_ready t ht) in
      iteration_test known (joined shapes.widths (opened head) body) (subst ExitIsNear i.exit_ first.exit)
