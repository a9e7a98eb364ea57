-- The law.
use Rattle.std.proofs.Common.{◌≡◌, ◌∙◌, ap, sym, ℕ, Bool, List}
use Rattle.hls_base.specs.declared.point.Point.{Point}
use Rattle.hls_base.specs.Steps.{Outcome, went, undefined, waiting, Ran, then_}
use Rattle.ir_core.specs.Bodies.{Shapes, Words}
use Rattle.ir_core.specs.Trees.{BlockTree, next, branch, sequence}
use Rattle.ir_core.specs.TreeRuns.{Way}
use Rattle.pass_runs.specs.ConvertRuns.Kept.{Matches, IsKept, IsKeptOf}
use Rattle.passes.specs.Conversion.Merging.{Branches, merged, joined}
use Rattle.pass_runs.specs.ConvertRuns.Typed.{BlockIsTyped, Fits}
use Rattle.pass_runs.specs.ConvertRuns.Blocks.{IsOpen, BranchIsTyped, naked, branch_part, MergesKeepBlocks}
use Rattle.pass_runs.specs.ConvertRuns.{TreesKeepRuns}
use Rattle.pass_runs.proofs.ConvertRuns.Sims.{then_assoc}
use Rattle.pass_runs.proofs.ConvertRuns.Opening.{opened_open}
use Rattle.pass_runs.proofs.ConvertRuns.Merged.{merged_open, joined_open}
use Rattle.pass_runs.proofs.ConvertRuns.Rounds.{joined_same}
use Rattle.pass_runs.proofs.ConvertRuns.Iterations.{round_same}
use Rattle.pass_runs.proofs.ConvertRuns.Single.{naked_fits, opened_same}
use Rattle.pass_runs.proofs.ConvertRuns.Trees.{Blocks, tree_sim}

fit_alone : (R : List Point → List Point → Type 0) (K L : Way → Words → Type 0) → ((w : Way) (t : Words) → K w t → L w t) → (tr : List Point) (o : Outcome Words Way) (r : ℕ → Ran Words Way) → Matches R K tr o r → Matches R L tr o r
fit_alone R K L h tr (went w t n) r m = (h w t m.0, m.1, m.2, m.3)
fit_alone R K L h tr (undefined rule at) r m = m
fit_alone R K L h tr waiting r m = m

module _ (shapes : Shapes) (words : List ℕ) (merges : MergesKeepBlocks shapes words) where
  merged_both : (b after : BlockTree) (f : Branches) → IsOpen shapes.widths words b → b.exit ≡ branch f.test → BranchIsTyped shapes.widths words f.yes_ → BranchIsTyped shapes.widths words f.no_ → BlockIsTyped shapes.widths words after
      → (t : Words) → Fits shapes.widths words t → (n : ℕ)
      → then_ (naked shapes b t n) (λ w t1 n1. then_ (branch_part shapes f w t1 n1) (λ w2 t2 n2. naked shapes after t2 n2)) ≡ naked shapes (joined shapes.widths (merged shapes.widths b f) after) t n
  merged_both b after f h e y z a t fits n =
      let m = merged_open shapes.widths words b f h e y z in
      let on_ : IsOpen shapes.widths words (record (merged shapes.widths b f) { exit = next }) = record { typed = record { ops = m.typed.ops; outs = m.typed.outs; exit = tt }; once = m.once } in
      sym (then_assoc (naked shapes b t n) (λ w t1 n1. branch_part shapes f w t1 n1) (λ w2 t2 n2. naked shapes after t2 n2))
      ∙ ap (λ (x : Ran Words Way). then_ x (λ w2 t2 n2. naked shapes after t2 n2)) (merges b f h e y z t fits n)
      ∙ joined_same shapes words (record (merged shapes.widths b f) { exit = next }) after on_ a t fits n

  blocks_of : (kept : Point → Bool) → Blocks shapes words kept
  blocks_of kept = record {
    opened_typed = λ b h. opened_open shapes.widths words b h;
    merged_typed = λ b after f h e y z a. joined_open shapes.widths words (merged shapes.widths b f) after (merged_open shapes.widths words b f h e y z) a;
    fits = λ b h. naked_fits shapes words kept b h;
    opened_same = λ b h t n. opened_same shapes b t n;
    merged_same = merged_both;
    round_same = λ head body test h k e q on_ point t fits n. round_same shapes words head body test h k e q on_ point t fits n;
  }

pub trees : TreesKeepRuns
trees shapes words m loops (sequence first rest) kept h k t f =
    let s = tree_sim shapes words kept loops (blocks_of shapes words m kept) first rest h k in
    record {
      forth = λ n. fit_alone (IsKept kept) _ (λ w u. Fits shapes.widths words u) (λ w u z. z.1) _ _ _ (s.forth t f n);
      back = λ n. fit_alone (IsKeptOf kept) _ (λ w u. Fits shapes.widths words u) (λ w u z. z.1) _ _ _ (s.back t f n);
    }
