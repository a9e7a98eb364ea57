-- An iteration of an overlapped loop does what the blocks of test and body do.
use Rattle.std.proofs.Common.{◌≡◌, ◌∙◌, ℕ, zero, suc, Bool, true, false, not, refl, ap, ap₂, sym, subst, arith, List, [], ◌∷◌, ◌++◌, append_assoc, map, length, length-append, take-append-drop, Option, Some, None}
use Rattle.std.specs.Prelude.{slice_get, ◌==◌, if◌then◌else◌, take, drop}
use Rattle.std.specs.Option.{option_map}
use Rattle.hls_base.specs.declared.point.Point.{Point}
use Rattle.ir_core.specs.declared.body.Operand.{Operand}
use Rattle.ir_core.specs.declared.body.Out.{Out}
use Rattle.ir_core.specs.declared.body.Source.{Source}
use Rattle.ir_core.specs.declared.body.Source.TheVariants as source
use Rattle.hls_base.specs.Steps.{Ran, goes, then_, reached}
use Rattle.hls_base.specs.Valued.{Valued, is, faulty, and_then, valued}
use Rattle.ir_core.specs.Bodies as b
use Rattle.ir_core.specs.Bodies.{OpTree, Shapes, Words, Ranged, word, operand, bits_in, operand_bits, first_bits, is_allowed, fault, fault_if, effect, perform, operations, with_word}
use Rattle.ir_core.specs.Trees.{next, branch, BlockTree, BodyTree}
use Rattle.ir_core.specs.TreeRuns.{Way, Turn, again, over, tested_by, tested, goes_round, iterated, iteration, block_left, is_taken, holds, way_of}
use Rattle.passes.specs.Conversion.Outs as o
use Rattle.passes.specs.Conversion.Outs.{is_set}
use Rattle.passes.specs.Conversion.Merging.{opened, joined}
use Rattle.passes.specs.Conversion.Overlapping as v
use Rattle.passes.specs.Conversion.Overlapping.{is_test, carried_from, carried, carried_op, carried_out}
use Rattle.pass_runs.specs.ConvertRuns.Typed.{IsEarly, OpsAreTyped, BlockIsTyped, Fits}
use Rattle.pass_runs.specs.ConvertRuns.Blocks.{IsOpen, naked, turn_of_blocks}
use Rattle.pass_runs.proofs.ConvertRuns.Opening.{opened_open}
use Rattle.pass_runs.proofs.ConvertRuns.Lists.{left_of}
use Rattle.pass_runs.proofs.ConvertRuns.Fitting.{operations_give}
use Rattle.pass_runs.proofs.ConvertRuns.Behind.{ops_append, whole_more, word_more}
use Rattle.pass_runs.proofs.ConvertRuns.Tests.{sets_nothing, none_behind, tested_early, first_typed, tested_end, none_changes}
use Rattle.pass_runs.proofs.ConvertRuns.Rounds.{joined_goes, sound}

-- ---- operands of the iteration before hold the same

module _ (os : List Out) where
  carried_value : (x : Operand) (s : Source) → x.value ≡ s → (carried_from os x s).value ≡ s
  carried_value x (source.Constant c) e = e
  carried_value x (source.Result i) e = e
  carried_value x (source.Variable u) e = by (is_set os u) where
    by : (c : Bool) → (if c then record x { distance = 1 } else x).value ≡ source.Variable u
    by true = e
    by false = e

  pub carried_same : (x : Operand) → (carried os x).value ≡ x.value
  carried_same x = carried_value x x.value refl

  module _ (shapes : Shapes) where
    args_same : (t : Words) (results : List ℕ) (xs : List Operand) → map (operand t results) (map (carried os) xs) ≡ map (operand t results) xs
    args_same t results [] = refl
    args_same t results (x ∷ xs) = ap₂ (λ a as_. a ∷ as_) (ap (word t results) (carried_same x)) (args_same t results xs)

    guard_same : (t : Words) (results : List ℕ) (g : Option Operand) → is_allowed t results (option_map (carried os) g) ≡ is_allowed t results g
    guard_same t results None = refl
    guard_same t results (Some x) = ap (λ s. not (word t results s == 0)) (carried_same x)

    bits_same : (ops : List OpTree) (i d : ℕ) → bits_in (slice_get (map (carried_op os) ops) i) d ≡ bits_in (slice_get ops i) d
    bits_same [] i d = refl
    bits_same (op ∷ ops) zero d = refl
    bits_same (op ∷ ops) (suc i) d = bits_same ops i d

    source_same : (widths : List ℕ) (ops : List OpTree) (d : ℕ) (s : Source) → operand_bits widths (map (carried_op os) ops) d s ≡ operand_bits widths ops d s
    source_same widths ops d (source.Constant c) = refl
    source_same widths ops d (source.Variable u) = refl
    source_same widths ops d (source.Result i) = bits_same ops i.0 d

    first_bits_same : (widths : List ℕ) (ops : List OpTree) (op : OpTree) (xs : List Operand) → first_bits widths (map (carried_op os) ops) (carried_op os op) (map (carried os) xs) ≡ first_bits widths ops op xs
    first_bits_same widths ops op [] = refl
    first_bits_same widths ops op (x ∷ xs) = ap (operand_bits widths (map (carried_op os) ops) op.bits) (carried_same x) ∙ source_same widths ops op.bits x.value

    perform_same : (ops : List OpTree) (op : OpTree) (results : List ℕ) (t : Words) → perform shapes (map (carried_op os) ops) (carried_op os op) results t ≡ perform shapes ops op results t
    perform_same ops op results t =
        let a = args_same t results op.args in
        let g = guard_same t results op.guard in
        let f = first_bits_same shapes.widths ops op op.args in
        λ i. fault_if (g i) op.flag (fault shapes op (a i)) (effect shapes op op.kind (g i) (f i) (a i) t)

    pub ops_same : (ops xs : List OpTree) (results : List ℕ) (t : Words) → operations shapes (map (carried_op os) ops) (map (carried_op os) xs) results t ≡ operations shapes ops xs results t
    ops_same ops [] results t = refl
    ops_same ops (x ∷ xs) results t = λ i. and_then (perform_same ops x results t i) (λ p. ops_same ops xs (results ++ p.result ∷ []) p.words i)

  pub outs_same : (xs : List Out) (t : Words) (results : List ℕ) (f : ℕ → ℕ) → b.outs (map (carried_out os) xs) t results f ≡ b.outs xs t results f
  outs_same [] t results f = refl
  outs_same (x ∷ xs) t results f = ap (λ s. b.outs (map (carried_out os) xs) t results (with_word f x.variable.0 (word t results s))) (carried_same x.value) ∙ outs_same xs t results (with_word f x.variable.0 (operand t results x.value))

-- ---- the first operations, and the others

take_first : {A B : Type 0} (f : A → B) (xs ys : List A) → take (length xs) (map f (xs ++ ys)) ≡ map f xs
take_first f [] ys = refl
take_first f (x ∷ xs) ys = ap (λ l. f x ∷ l) (take_first f xs ys)

drop_first : {A B : Type 0} (f : A → B) (xs ys : List A) → drop (length xs) (map f (xs ++ ys)) ≡ map f ys
drop_first f [] ys = refl
drop_first f (x ∷ xs) ys = drop_first f xs ys

module _ (shapes : Shapes) (words : List ℕ) (head body : BlockTree) (test : Operand) (h : BlockIsTyped shapes.widths words head) (k : BlockIsTyped shapes.widths words body) (exit_ : head.exit ≡ branch test) (tests : is_test head test ≡ true) (on_ : body.exit ≡ next)
    (point : Point) (t : Words) (fits : Fits shapes.widths words t) where
  abbrev first : BlockTree
  first = opened head

  abbrev whole : BlockTree
  whole = joined shapes.widths first body

  abbrev made : BodyTree
  made = v.iteration test whole

  is_open : IsOpen shapes.widths words first
  is_open = opened_open shapes.widths words head h

  none : head.outs ≡ []
  none = sets_nothing head test tests

  -- the operations up to the test, and those behind it
  abbrev front : List OpTree
  front = take (tested_by test.value) head.ops

  abbrev back : List OpTree
  back = drop (tested_by test.value) head.ops

  split : head.ops ≡ front ++ back
  split = sym (take-append-drop (tested_by test.value) head.ops)

  end : tested_by test.value ≡ length front
  end = tested_end shapes.widths words head test h exit_

  front_typed : OpsAreTyped shapes.widths words [] front
  front_typed = first_typed shapes.widths words [] head.ops (tested_by test.value) h.ops

  begins_sound : (more_ : List OpTree) × (whole.ops ≡ first.ops ++ more_)
  begins_sound = (sound shapes words first body is_open k t fits).begins

  abbrev more : List OpTree
  more = begins_sound.0

  begins_block : (i : ℕ) (x : OpTree) → slice_get head.ops i ≡ Some x → slice_get whole.ops i ≡ Some x
  begins_block i x e = ap (λ l. slice_get l i) begins_sound.1 ∙ left_of head.ops more i x e

  begins_front : whole.ops ≡ front ++ (back ++ more)
  begins_front = begins_sound.1 ∙ ap (λ l. l ++ more) split ∙ append_assoc front back more

  known_behind : tested (Some (carried whole.outs test)) ≡ length front
  known_behind = ap tested_by (carried_same whole.outs test) ∙ end

  taken_ops : take (tested (Some (carried whole.outs test))) (map (carried_op whole.outs) whole.ops) ≡ map (carried_op whole.outs) front
  taken_ops = ap₂ (λ n l. take n (map (carried_op whole.outs) l)) known_behind begins_front ∙ take_first (carried_op whole.outs) front (back ++ more)

  dropped_ops : drop (tested (Some (carried whole.outs test))) (map (carried_op whole.outs) whole.ops) ≡ map (carried_op whole.outs) (back ++ more)
  dropped_ops = ap₂ (λ n l. drop n (map (carried_op whole.outs) l)) known_behind begins_front ∙ drop_first (carried_op whole.outs) front (back ++ more)

  -- the operations up to the test run as they did, ..
  front_same : operations shapes head.ops front [] t ≡ operations shapes whole.ops front [] t
  front_same = let l = ap length split in let m = length-append front back in whole_more shapes words head.ops whole.ops begins_block [] front front_typed (omega (arith, l, m)) [] t

  first_ran : operations shapes (map (carried_op whole.outs) whole.ops) (take (tested (Some (carried whole.outs test))) (map (carried_op whole.outs) whole.ops)) [] t ≡ operations shapes head.ops front [] t
  first_ran = ap (λ l. operations shapes (map (carried_op whole.outs) whole.ops) l [] t) taken_ops ∙ ops_same whole.outs shapes whole.ops front [] t ∙ sym front_same

  -- .. and those behind it follow them.
  abbrev and_back : Ranged → Valued Ranged
  and_back q = operations shapes head.ops back q.results q.words

  head_ran : operations shapes head.ops head.ops [] t ≡ and_then (operations shapes head.ops front [] t) and_back
  head_ran = ap (λ l. operations shapes head.ops l [] t) split ∙ ops_append shapes head.ops front back [] t

  abbrev behind_ : Ranged → Words → ℕ → Ran Words Turn
  behind_ r t1 n1 = if goes_round (Some (carried whole.outs test)) r.words r.results then reached point (iterated shapes made r) r.words n1 else goes over r.words n1

  abbrev rounds : Words → ℕ → Ran Words Turn
  rounds t1 n1 = reached point (λ t2 n2. then_ (naked shapes body t2 n2) (λ w3 t3 n3. goes again t3 n3)) t1 n1

  -- an iteration behind the operations of its test
  abbrev turn : ℕ → Valued Ranged → Ran Words Turn
  turn n x = then_ (valued x (block_left head) t n) (λ w t1 n1. if is_taken w then rounds t1 n1 else goes over t1 n1)

  -- what follows the test
  module _ (r : Ranged) (ran_ : operations shapes head.ops front [] t ≡ is r) where
    bits : (more_ : List ℕ) × (and_back r ≡ is (record { results = r.results ++ more_; words = r.words }))
    bits = none_changes shapes head.ops back r.results r.words (none_behind head test tests)

    abbrev later : Ranged
    later = record { results = r.results ++ bits.0; words = r.words }

    all_ran : operations shapes head.ops head.ops [] t ≡ is later
    all_ran = head_ran ∙ ap (λ (x : Valued Ranged). and_then x and_back) ran_ ∙ bits.1

    early : IsEarly (length r.results) test.value
    early =
        subst (λ n. IsEarly n test.value) (end ∙ (operations_give shapes.widths words shapes head.ops [] front [] t refl fits (λ i op e. absurd cc) front_typed r ran_).count) (tested_early test.value)

    round_test : goes_round (Some (carried whole.outs test)) r.words r.results ≡ holds r.words later.results test
    round_test = ap (λ s. not (word r.words r.results s == 0)) (carried_same whole.outs test) ∙ sym (ap (λ w. not (w == 0)) (word_more r.words r.results bits.0 test.value early))

    left_same : b.with_outs head.outs later ≡ r.words
    left_same = ap (λ l. b.with_outs l later) none

    first_left : b.with_outs first.outs later ≡ r.words
    first_left = ap (λ l. b.with_outs (o.with_outs [] l) later) none

    rest_ran : operations shapes (map (carried_op whole.outs) whole.ops) (drop (tested (Some (carried whole.outs test))) (map (carried_op whole.outs) whole.ops)) r.results r.words ≡ operations shapes whole.ops whole.ops [] t
    rest_ran =
        ap (λ l. operations shapes (map (carried_op whole.outs) whole.ops) l r.results r.words) dropped_ops ∙ ops_same whole.outs shapes whole.ops (back ++ more) r.results r.words
        ∙ sym (ap (λ l. operations shapes whole.ops l [] t) begins_front ∙ ops_append shapes whole.ops front (back ++ more) [] t
        ∙ ap (λ (x : Valued Ranged). and_then x (λ q. operations shapes whole.ops (back ++ more) q.results q.words)) (sym front_same ∙ ran_))

    again_same : (x : Valued Ranged) (u : Words) (n : ℕ) → valued x (λ r1 t1 n1. goes again (b.with_outs (map (carried_out whole.outs) whole.outs) r1) n1) u n ≡ then_ (valued x (block_left whole) t n) (λ w t1 n1. goes again t1 n1)
    again_same (is q) u n = ap (λ f. goes again (record q.words { variables = f }) n) (outs_same whole.outs whole.outs q.words q.results q.words.variables)
    again_same (faulty rule at) u n = refl

    body_same : (n : ℕ) → then_ (naked shapes body r.words n) (λ w t1 n1. goes again t1 n1) ≡ iterated shapes made r r.words n
    body_same n =
        ap (λ (x : Ran Words Way). then_ x (λ w t1 n1. goes again t1 n1)) (ap (λ u. naked shapes body u n) (sym first_left) ∙ joined_goes shapes words first body is_open k t fits later all_ran n)
        ∙ sym (again_same (operations shapes whole.ops whole.ops [] t) r.words n)
        ∙ sym (ap (λ (x : Valued Ranged). valued x (λ r1 t1 n1. goes again (b.with_outs (map (carried_out whole.outs) whole.outs) r1) n1) r.words n) rest_ran)

    by_test : (c : Bool) (n : ℕ) → (if c then rounds (b.with_outs head.outs later) n else goes over (b.with_outs head.outs later) n) ≡ (if c then reached point (iterated shapes made r) r.words n else goes over r.words n)
    by_test true zero = refl
    by_test true (suc n) = ap (λ (x : Ran Words Turn). ran_behind x) (ap (λ u. then_ (naked shapes body u n) (λ w3 t3 n3. goes again t3 n3)) left_same ∙ body_same n) where
      ran_behind : Ran Words Turn → Ran Words Turn
      ran_behind x = record { trace = point ∷ x.trace; outcome = x.outcome }
    by_test false n = ap (λ u. goes over u n) left_same

    turn_same : (n : ℕ) → then_ (block_left head later t n) (λ w t1 n1. if is_taken w then rounds t1 n1 else goes over t1 n1) ≡ behind_ r t n
    turn_same n =
        ap (λ c. if is_taken c then rounds (b.with_outs head.outs later) n else goes over (b.with_outs head.outs later) n) (ap (λ x. way_of x r.words later.results) exit_)
        ∙ by_test (holds r.words later.results test) n
        ∙ ap (λ c. if c then reached point (iterated shapes made r) r.words n else goes over r.words n) (sym round_test)

  pub round_same : (n : ℕ) → turn_of_blocks shapes head body point t n ≡ iteration shapes point made t n
  round_same n = by (operations shapes head.ops front [] t) refl ∙ sym (ap (λ (x : Valued Ranged). valued x behind_ t n) first_ran) where
    by : (x : Valued Ranged) → operations shapes head.ops front [] t ≡ x → turn n (operations shapes head.ops head.ops [] t) ≡ valued x behind_ t n
    by (faulty rule at) e = ap (turn n) (head_ran ∙ ap (λ (x : Valued Ranged). and_then x and_back) e)
    by (is r) e = ap (turn n) (all_ran r e) ∙ turn_same r e n
