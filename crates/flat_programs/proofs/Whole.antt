-- The flat program of a whole tree.
use Rattle.std.proofs.Common.{◌∙◌, ◌+◌, ◌*◌, ℕ, refl, ap, arith, List, [], map, Option, None, false}
use Rattle.hls_base.specs.declared.number.VarId.{VarId}
use Rattle.hls_base.specs.Steps.{goes}
use Rattle.ir_core.specs.Bodies.{Shapes}
use Rattle.ir_core.specs.TreeRuns.{on, taken, cased, broke, continued, left}
use Rattle.ir_core.specs.FlatRuns.{shapes_of}
use Rattle.ir_layout.specs.Nodes.{NodeTree, node_of}
use Rattle.ir_layout.specs.Layout.{finish, Around, laid_out}
use Rattle.ir_layout.specs.WellFormed.{Inside, one_way}
use Rattle.flat_programs.specs.Laws.{LayoutKeepsRuns}
use Rattle.flat_programs.proofs.Ends.{word_of, led, WayFits}
use Rattle.flat_programs.proofs.Places.{has_itself}
use Rattle.flat_programs.proofs.Entering.{plain_from, from_same, Leads}
use Rattle.flat_programs.proofs.Looping.{false_true}
use Rattle.flat_programs.proofs.Trees.{sequence_does}

abbrev pub nowhere : Option VarId → Around
nowhere returned = record { leave = None; again = None; lands = []; returned = returned }

abbrev outside : Inside
outside = record { leave = false; again = false; lands = [] }

ending : (shapes : Shapes) (nodes : List NodeTree) (returned : Option VarId) (m : ℕ) → Leads shapes nodes (WayFits outside one_way) (led (nowhere returned) finish) m (λ w t n. goes (word_of returned t) t n)
ending shapes nodes returned m on t n k le enough fits = refl
ending shapes nodes returned m (taken test) t n k le enough fits = elim fits [ ]
ending shapes nodes returned m (cased i) t n k le enough fits = elim fits [ ]
ending shapes nodes returned m broke t n k le enough fits = false_true fits
ending shapes nodes returned m continued t n k le enough fits = false_true fits
ending shapes nodes returned m (left number) t n k le enough fits = false_true fits

pub layout_kept : LayoutKeepsRuns
layout_kept cfg blocks returned nodes first fits t n =
    let shapes = shapes_of cfg.frame in
    let all = laid_out blocks returned in
    from_same (2 * n + 2) shapes cfg.nodes.items cfg.first.0 t n
    ∙ ap (λ i. plain_from (2 * n + 2) shapes (map node_of cfg.nodes.items) i t n) first
    ∙ ap (λ ns. plain_from (2 * n + 2) shapes ns 0 t n) nodes
    ∙ sequence_does shapes all outside (nowhere returned) finish 0 blocks fits (has_itself [] all 0 refl) n (λ w t1 n1. goes (word_of returned t1) t1 n1) (ending shapes all returned n) (2 * n + 2) t n (omega arith) (omega arith)
