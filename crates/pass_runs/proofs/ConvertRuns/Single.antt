-- What a block does alone, and an open one.
use Rattle.std.proofs.Common.{◌≡◌, ℕ, ◌+◌, Bool, refl, ap, sym, arith, List, [], length}
use Rattle.hls_base.specs.declared.point.Point.{Point}
use Rattle.hls_base.specs.Steps.{goes}
use Rattle.hls_base.specs.Valued.{Valued, is, faulty, valued}
use Rattle.ir_core.specs.Bodies.{Shapes, Words, Ranged, operations}
use Rattle.ir_core.specs.Bodies as b
use Rattle.ir_core.specs.Trees.{ExitTree, next, branch, choose, break_, continue_, leave, BlockTree}
use Rattle.ir_core.specs.TreeRuns.{Way, way_of, block_left}
use Rattle.passes.specs.Conversion.Merging.{opened}
use Rattle.pass_runs.specs.ConvertRuns.Kept.{Matches, IsKept, IsKeptOf}
use Rattle.pass_runs.specs.ConvertRuns.Typed.{BlockIsTyped, Fits}
use Rattle.pass_runs.specs.ConvertRuns.Blocks.{naked}
use Rattle.pass_runs.proofs.ConvertRuns.Sims.{Sim, With}
use Rattle.pass_runs.proofs.ConvertRuns.Naked.{Leaves}
use Rattle.pass_runs.proofs.ConvertRuns.Opening.{all_after}
use Rattle.pass_runs.proofs.ConvertRuns.Fitting.{operations_give, leaves_fit}

way_leaves : (exit : ExitTree) (t : Words) (results : List ℕ) → Leaves exit (way_of exit t results)
way_leaves next t results = tt
way_leaves (branch test) t results = tt
way_leaves (choose cases) t results = tt
way_leaves break_ t results = tt
way_leaves continue_ t results = tt
way_leaves (leave number) t results = tt

module _ (shapes : Shapes) (words : List ℕ) (kept : Point → Bool) (block : BlockTree) (h : BlockIsTyped shapes.widths words block) where
  abbrev P : Words → Type 0
  P = Fits shapes.widths words

  abbrev known : Way → Words → Type 0
  known = With kept P (Leaves block.exit)

  itself : (R : List Point → List Point → Type 0) → R [] [] → (t : Words) → P t → (n : ℕ) → (x : Valued Ranged) → operations shapes block.ops block.ops [] t ≡ x
      → Matches R known (valued x (block_left block) t n).trace (valued x (block_left block) t n).outcome (λ k. valued x (block_left block) t k)
  itself R none t f n (is r) e =
      let g = operations_give shapes.widths words shapes block.ops [] block.ops [] t refl f (λ i op q. absurd cc) h.ops r e in (
        (way_leaves block.exit r.words r.results, leaves_fit shapes.widths words block.ops r g.fits g.results block.outs h.outs),
        [],
        none,
        λ k. let q : length {A = Point} [] + k ≡ k = omega arith in ap (λ m. goes (way_of block.exit r.words r.results) (b.with_outs block.outs r) m) q,
      )
  itself R none t f n (faulty rule at) e = ([], none, λ k. refl)

  pub naked_fits : Sim kept P (Leaves block.exit) (naked shapes block) (naked shapes block)
  naked_fits = record {
    forth = λ t f n. itself (IsKept kept) refl t f n (operations shapes block.ops block.ops [] t) refl;
    back = λ t f n. itself (IsKeptOf kept) refl t f n (operations shapes block.ops block.ops [] t) refl;
  }

pub opened_same : (shapes : Shapes) (block : BlockTree) (t : Words) (n : ℕ) → naked shapes block t n ≡ naked shapes (opened block) t n
opened_same shapes block t n = by (operations shapes block.ops block.ops [] t) where
  by : (x : Valued Ranged) → valued x (block_left block) t n ≡ valued x (block_left (opened block)) t n
  by (is r) = λ i. goes (way_of block.exit r.words r.results) (record r.words { variables = sym (all_after r.words r.results [] block.outs tt r.words.variables) i }) n
  by (faulty rule at) = refl
