-- Blocks without the points that they pass, and the ways in which they are left.
use Rattle.std.proofs.Common.{◌≡◌, ◌∙◌, ℕ, true, refl, ap, sym, List, []}
use Rattle.hls_base.specs.declared.point.Point.{Point}
use Rattle.hls_base.specs.Steps.{Outcome, went, Ran, ran, goes, then_, pass, reached}
use Rattle.hls_base.specs.Valued.{Valued, is, faulty, valued}
use Rattle.ir_core.specs.Bodies.{Shapes, Words, Ranged, operations}
use Rattle.ir_core.specs.Trees.{ExitTree, next, branch, choose, break_, continue_, leave, BlockTree, SequenceTree, sequence, PartTrees, no_part, more_parts}
use Rattle.ir_core.specs.TreeRuns.{Way, on, taken, cased, broke, continued, left, way_of, block_left, sequence_run, parts_run}
use Rattle.passes.specs.Conversion.Merging.{first_of}
use Rattle.passes.specs.Conversion.Joining.{renamed_exit}
use Rattle.pass_runs.specs.ConvertRuns.Typed.{leads_on, ends_plain}
use Rattle.pass_runs.specs.ConvertRuns.Blocks.{naked}
use Rattle.pass_runs.proofs.ConvertRuns.Sims.{then_assoc}

module _ (shapes : Shapes) where
  abbrev pub naked_run : SequenceTree → Words → ℕ → Ran Words Way
  naked_run (sequence first rest) t n = then_ (naked shapes first t n) (λ w t1 n1. parts_run shapes rest w t1 n1)

  pub run_reached : (s : SequenceTree) (t : Words) (n : ℕ) → sequence_run shapes s t n ≡ reached (first_of s).point (naked_run s) t n
  run_reached (sequence first rest) t n = then_assoc (pass first.point t n) (λ u s1 n1. naked shapes first s1 n1) (λ w t1 n1. parts_run shapes rest w t1 n1)

  pub alone_same : (b : BlockTree) (t : Words) (n : ℕ) → naked_run (sequence b no_part) t n ≡ naked shapes b t n
  alone_same b t n = by (operations shapes b.ops b.ops [] t) where
    by : (x : Valued _) → then_ (valued x (block_left b) t n) (λ w t1 n1. goes w t1 n1) ≡ valued x (block_left b) t n
    by (is r) = refl
    by (faulty rule at) = refl

  -- a block that leads on
  pub naked_on : (b : BlockTree) → b.exit ≡ next → (t : Words) (n : ℕ) (tr : List Point) (v : Way) (u : Words) (k : ℕ) → naked shapes b t n ≡ ran tr (went v u k) → v ≡ on
  naked_on b e t n tr v u k h = by (operations shapes b.ops b.ops [] t) h where
    value_of : Outcome Words Way → Way
    value_of (went w s m) = w
    value_of o = on

    by : (x : Valued Ranged) → valued x (block_left b) t n ≡ ran tr (went v u k) → v ≡ on
    by (is r) q = sym (ap (λ (y : Ran Words Way). value_of y.outcome) q) ∙ ap (λ x. way_of x r.words r.results) e
    by (faulty rule at) q = sym (ap (λ (y : Ran Words Way). value_of y.outcome) q)

-- ---- ways

-- the way is one in which a block with this exit is left
abbrev pub Leaves : ExitTree → Way → Type 0
Leaves next on = Unit {0}
Leaves (branch test) (taken t) = Unit {0}
Leaves (choose cases) (cased c) = Unit {0}
Leaves break_ broke = Unit {0}
Leaves continue_ continued = Unit {0}
Leaves (leave number) (left n) = Unit {0}
Leaves exit w = ⊥

abbrev pub Plain : Way → Type 0
Plain (taken test) = ⊥
Plain (cased c) = ⊥
Plain w = Unit {0}

-- what a sequence comes to, whose last block is that of these parts, or has this exit
abbrev pub Ends : ExitTree → PartTrees → Way → Type 0
Ends exit rest w = ends_plain exit rest ≡ true → Plain w

pub leaves_plain : (exit : ExitTree) (w : Way) → Leaves exit w → leads_on exit ≡ true → Plain w
leaves_plain next on h e = tt
leaves_plain next (taken t) h e = absurd h
leaves_plain next (cased c) h e = absurd h
leaves_plain next broke h e = tt
leaves_plain next continued h e = tt
leaves_plain next (left n) h e = tt
leaves_plain (branch test) w h e = absurd cc
leaves_plain (choose cases) w h e = absurd cc
leaves_plain break_ broke h e = tt
leaves_plain break_ on h e = tt
leaves_plain break_ continued h e = tt
leaves_plain break_ (left n) h e = tt
leaves_plain break_ (taken t) h e = absurd h
leaves_plain break_ (cased c) h e = absurd h
leaves_plain continue_ continued h e = tt
leaves_plain continue_ on h e = tt
leaves_plain continue_ broke h e = tt
leaves_plain continue_ (left n) h e = tt
leaves_plain continue_ (taken t) h e = absurd h
leaves_plain continue_ (cased c) h e = absurd h
leaves_plain (leave number) (left n) h e = tt
leaves_plain (leave number) on h e = tt
leaves_plain (leave number) broke h e = tt
leaves_plain (leave number) continued h e = tt
leaves_plain (leave number) (taken t) h e = absurd h
leaves_plain (leave number) (cased c) h e = absurd h

pub plain_ends : (exit : ExitTree) (rest : PartTrees) (w : Way) → Plain w → Ends exit rest w
plain_ends exit rest w h e = h

pub leaves_on : (w : Way) → Leaves next w → w ≡ on
leaves_on on h = refl
leaves_on (taken t) h = absurd h
leaves_on (cased c) h = absurd h
leaves_on broke h = absurd h
leaves_on continued h = absurd h
leaves_on (left n) h = absurd h

-- operands of an exit that stand for others
pub leads_renamed : (outs : _) (values : _) (exit : ExitTree) → leads_on (renamed_exit outs values exit) ≡ leads_on exit
leads_renamed outs values next = refl
leads_renamed outs values (branch test) = refl
leads_renamed outs values (choose cases) = refl
leads_renamed outs values break_ = refl
leads_renamed outs values continue_ = refl
leads_renamed outs values (leave number) = refl

pub ends_renamed : (outs : _) (values : _) (exit : ExitTree) (rest : PartTrees) → ends_plain (renamed_exit outs values exit) rest ≡ ends_plain exit rest
ends_renamed outs values exit no_part = leads_renamed outs values exit
ends_renamed outs values exit (more_parts shape after rest) = refl

pub leaves_renamed : (outs : _) (values : _) (exit : ExitTree) → Leaves exit ≡ Leaves (renamed_exit outs values exit)
leaves_renamed outs values next = refl
leaves_renamed outs values (branch test) = λ i w. at w i where
  at : (w : Way) → Leaves (branch test) w ≡ Leaves (renamed_exit outs values (branch test)) w
  at on = refl
  at (taken t) = refl
  at (cased c) = refl
  at broke = refl
  at continued = refl
  at (left n) = refl
leaves_renamed outs values (choose cases) = λ i w. at w i where
  at : (w : Way) → Leaves (choose cases) w ≡ Leaves (renamed_exit outs values (choose cases)) w
  at on = refl
  at (taken t) = refl
  at (cased c) = refl
  at broke = refl
  at continued = refl
  at (left n) = refl
leaves_renamed outs values break_ = refl
leaves_renamed outs values continue_ = refl
leaves_renamed outs values (leave number) = refl
