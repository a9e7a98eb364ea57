-- A block joined to another one, and an iteration.
use Rattle.std.proofs.Common.{◌≡◌, ◌∙◌, ℕ, ◌+◌, not, refl, ap, ap₂, sym, arith, List, [], ◌∷◌, map, length, Some, None}
use Rattle.std.specs.Prelude.{slice_get, ◌==◌, if◌then◌else◌}
use Rattle.ir_core.specs.declared.body.Operand.{Operand}
use Rattle.ir_core.specs.declared.body.Out.{Out}
use Rattle.hls_base.specs.Steps.{goes, fails, then_}
use Rattle.hls_base.specs.Valued.{Valued, is, faulty, and_then, valued}
use Rattle.ir_core.specs.Bodies as b
use Rattle.ir_core.specs.Bodies.{OpTree, Shapes, Words, Ranged, operand, operations, with_word}
use Rattle.ir_core.specs.Trees.{ExitTree, next, branch, choose, break_, continue_, leave, BlockTree}
use Rattle.ir_core.specs.TreeRuns.{taken, cased, first_case, way_of, block_left}
use Rattle.passes.specs.Conversion.Outs.{entry_value, with_outs}
use Rattle.passes.specs.Conversion.Joining.{Joined, renamed, renamed_out, renamed_exit, joined_ops}
use Rattle.passes.specs.Conversion.Merging.{joined}
use Rattle.pass_runs.specs.ConvertRuns.Typed.{IsEarly, AreEarly, OutsAreTyped, ExitIsTyped, BlockIsTyped, Fits}
use Rattle.pass_runs.specs.ConvertRuns.Blocks.{IsOpen, naked}
use Rattle.pass_runs.proofs.ConvertRuns.Lists.{left_of}
use Rattle.pass_runs.proofs.ConvertRuns.Opening.{held_after, all_after}
use Rattle.pass_runs.proofs.ConvertRuns.Fitting.{GivesAll, operations_give}
use Rattle.pass_runs.proofs.ConvertRuns.Joining.{has_early, Sound, all_sound}
use Rattle.pass_runs.proofs.ConvertRuns.Merged.{start_sound}
use Rattle.pass_runs.proofs.ConvertRuns.Behind.{ops_append, whole_more, Shows, Related, renamed_same, runs_all}

-- ---- what a block leaves

module _ (k : ℕ) (v t : Words) (results others : List ℕ) (f : Operand → Operand) (same : (x : Operand) → IsEarly k x.value → operand v results x ≡ operand t others (f x)) where
  cases_same : (xs : List Operand) → AreEarly k xs → (i : ℕ) → first_case v results xs i ≡ first_case t others (map f xs) i
  cases_same [] h i = refl
  cases_same (x ∷ xs) h i = ap₂ (λ c r. if c then Some i else r) (ap (λ w. not (w == 0)) (same x h.0)) (cases_same xs h.1 (i + 1))

module _ (shapes : Shapes) (words : List ℕ) (block after : BlockTree) (open_ : IsOpen shapes.widths words block) (typed : BlockIsTyped shapes.widths words after) (t : Words) (fits : Fits shapes.widths words t) where
  abbrev widths : List ℕ
  widths = shapes.widths

  abbrev start : Joined
  start = record { ops = block.ops; values = []; guards = [] }

  abbrev made : Joined
  made = joined_ops widths block.outs None start after.ops

  pub sound : Sound widths words block.outs None block.ops after.ops made.ops made.values made.guards
  sound =
      all_sound widths words block.outs None block.ops after.ops [] start
      (start_sound widths words block.outs None block.ops [] open_.typed.ops open_.typed.outs tt (λ own x e. absurd cc)) typed.ops

  begins_block : (i : ℕ) (x : OpTree) → slice_get block.ops i ≡ Some x → slice_get made.ops i ≡ Some x
  begins_block i x e = ap (λ l. slice_get l i) sound.begins.1 ∙ left_of block.ops sound.begins.0 i x e

  -- the operations of the block before run as they did
  pub first_same : operations shapes block.ops block.ops [] t ≡ operations shapes made.ops block.ops [] t
  first_same = whole_more shapes words block.ops made.ops begins_block [] block.ops open_.typed.ops (omega arith) [] t

  module _ (r : Ranged) (ran_ : operations shapes block.ops block.ops [] t ≡ is r) where
    gives : GivesAll widths words block.ops t r
    gives = operations_give widths words shapes block.ops [] block.ops [] t refl fits (λ i op e. absurd cc) open_.typed.ops r ran_

    abbrev left_ : Words
    left_ = b.with_outs block.outs r

    begun : Shows shapes words block.outs block.ops after.ops made.ops t [] start [] left_ r.results r.words
    begun = record {
      runs = sym first_same ∙ ran_;
      count = gives.count;
      done_count = refl;
      reads = λ u. sym (held_after r.words r.results block.outs open_.once u (entry_value u) r.words.variables refl);
      stand = λ j x e. absurd cc;
      memories = refl;
      stays = gives.variables;
    }

    related : Related shapes words block.outs block.ops after.ops made.ops t after.ops made left_ (operations shapes after.ops after.ops [] left_) (operations shapes made.ops made.ops [] t)
    related =
        runs_all shapes words block.outs block.ops after.ops made.ops t after.ops [] start [] left_ r.results r.words
        (start_sound widths words block.outs None block.ops [] open_.typed.ops open_.typed.outs tt (λ own x e. absurd cc)) begun typed.ops refl (λ i x e. e)

    module _ (q p : Ranged) (h : Shows shapes words block.outs block.ops after.ops made.ops t after.ops made q.results q.words p.results p.words) (stays : q.words.variables ≡ left_.variables) where
      same_operand : (x : Operand) → IsEarly (length after.ops) x.value → operand q.words q.results x ≡ operand p.words p.results (renamed block.outs made.values x)
      same_operand x e = renamed_same shapes words block.outs block.ops after.ops made.ops t after.ops made q.results q.words p.results p.words sound h x e

      way_same : (exit : ExitTree) → ExitIsTyped widths words after.ops exit → way_of exit q.words q.results ≡ way_of (renamed_exit block.outs made.values exit) p.words p.results
      way_same next e = refl
      way_same (branch test) e = ap (λ w. taken (not (w == 0))) (same_operand test (has_early widths words after.ops 1 test.value e))
      way_same (choose cases) e = ap cased (cases_same (length after.ops) q.words p.words q.results p.results (renamed block.outs made.values) same_operand cases e 0)
      way_same break_ e = refl
      way_same continue_ e = refl
      way_same (leave number) e = refl

      outs_same : (xs : List Out) → OutsAreTyped widths words after.ops xs → (f : ℕ → ℕ) → b.outs xs q.words q.results f ≡ b.outs (map (renamed_out block.outs made.values) xs) p.words p.results f
      outs_same [] e f = refl
      outs_same (x ∷ xs) e f =
          ap (λ w. b.outs xs q.words q.results (with_word f x.variable.0 w)) (same_operand x.value (has_early widths words after.ops e.0.0 x.value.value e.0.2))
          ∙ outs_same xs e.1 (with_word f x.variable.0 (operand p.words p.results (renamed block.outs made.values x.value)))

      variables_same : b.outs after.outs q.words q.results q.words.variables ≡ b.outs (with_outs block.outs (map (renamed_out block.outs made.values) after.outs)) p.words p.results p.words.variables
      variables_same =
          outs_same after.outs typed.outs q.words.variables
          ∙ ap (b.outs (map (renamed_out block.outs made.values) after.outs) p.words p.results)
          (λ i j. (h.reads (record { 0 = j }) ∙ held_after p.words p.results block.outs open_.once (record { 0 = j }) (entry_value (record { 0 = j })) p.words.variables refl) i)
          ∙ sym (all_after p.words p.results block.outs (map (renamed_out block.outs made.values) after.outs) open_.once p.words.variables)

      pub left_same : (n : ℕ) → block_left after q left_ n ≡ block_left (joined widths block after) p t n
      left_same n =
          let way = way_same after.exit typed.exit in
          let variables = variables_same in
          let memories = h.memories in
          λ i. goes (way i) (record { variables = variables i; memories = memories i }) n

    -- the block behind, from what the one before left
    pub joined_goes : (n : ℕ) → naked shapes after left_ n ≡ naked shapes (joined widths block after) t n
    joined_goes n = by (operations shapes after.ops after.ops [] left_) (operations shapes made.ops made.ops [] t) related where
      by : (x y : Valued Ranged) → Related shapes words block.outs block.ops after.ops made.ops t after.ops made left_ x y → valued x (block_left after) left_ n ≡ valued y (block_left (joined widths block after)) t n
      by (is q) (is p) h = left_same q p h.0 h.1 n
      by (faulty rule at) (faulty other place) h = λ i. fails (h.0 i) (h.1 i)
      by (is q) (faulty rule at) h = absurd h
      by (faulty rule at) (is p) h = absurd h

  pub joined_fails : (rule : _) (at : _) → operations shapes block.ops block.ops [] t ≡ faulty rule at → operations shapes made.ops made.ops [] t ≡ faulty rule at
  joined_fails rule at e =
      ap (λ l. operations shapes made.ops l [] t) sound.begins.1 ∙ ops_append shapes made.ops block.ops sound.begins.0 [] t
      ∙ ap (λ (x : Valued Ranged). and_then x (λ q. operations shapes made.ops sound.begins.0 q.results q.words)) (sym first_same ∙ e)

  -- a block that leads on, and the one behind it
  pub joined_same : (n : ℕ) → then_ (naked shapes (record block { exit = next }) t n) (λ w t1 n1. naked shapes after t1 n1) ≡ naked shapes (joined widths block after) t n
  joined_same n = by (operations shapes block.ops block.ops [] t) refl where
    by : (x : Valued Ranged) → operations shapes block.ops block.ops [] t ≡ x → then_ (valued x (block_left (record block { exit = next })) t n) (λ w t1 n1. naked shapes after t1 n1) ≡ naked shapes (joined widths block after) t n
    by (is r) e = joined_goes r e n
    by (faulty rule at) e = sym (ap (λ (y : Valued Ranged). valued y (block_left (joined widths block after)) t n) (joined_fails rule at e))
