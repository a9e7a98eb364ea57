-- Loops of a report and those of its plain form stand at the same points.
use Rattle.std.proofs.Common.{◌≡◌, List, [], ◌∷◌, map}
use Rattle.std.specs.List.{All}
use Rattle.std.proofs.lemmas.List.Elements.{All-cons, All-nil, All-head, All-tail}
use Rattle.hls_base.specs.declared.point.PointKind.TheVariants.{Body}
use Rattle.cycle_report.specs.declared.report.LoopRow.{LoopRow}
use Rattle.cycle_report.specs.PlainReport.{PlainLoop, loop_of}

abbrev AtBody : LoopRow → Type 0
AtBody l = l.point.kind ≡ Body

abbrev PlainAtBody : PlainLoop → Type 0
PlainAtBody l = l.point.kind ≡ Body

pub plain_bodies : (loops : List LoopRow) → All (λ (l : LoopRow). l.point.kind ≡ Body) loops → All (λ (l : PlainLoop). l.point.kind ≡ Body) (map loop_of loops)
plain_bodies [] h = All-nil PlainAtBody
plain_bodies (l ∷ ls) h = All-cons PlainAtBody (loop_of l) (map loop_of ls) (All-head AtBody l ls h) (plain_bodies ls (All-tail AtBody l ls h))

pub bodies_plain : (loops : List LoopRow) → All (λ (l : PlainLoop). l.point.kind ≡ Body) (map loop_of loops) → All (λ (l : LoopRow). l.point.kind ≡ Body) loops
bodies_plain [] h = All-nil AtBody
bodies_plain (l ∷ ls) h = All-cons AtBody l ls (All-head PlainAtBody (loop_of l) (map loop_of ls) h) (bodies_plain ls (All-tail PlainAtBody (loop_of l) (map loop_of ls) h))
