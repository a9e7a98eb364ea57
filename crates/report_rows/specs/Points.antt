-- The order of points in a report: by path, then by place, then by kind.
use Rattle.std.specs.Prelude.{◌≡◌, ℕ, List}
use Rattle.std.specs.declared.cmp.Ordering.{Ordering}
use Rattle.std.specs.declared.cmp.Ordering.TheVariants.{Less}
use Rattle.std.specs.Ordering.{nat_cmp, ordering_then}
use Rattle.std.specs.Cmp.Lexicographic.{slice_cmp}
use Rattle.hls_base.specs.declared.place.Place.{Place}
use Rattle.hls_base.specs.declared.point.Point.{Point}
use Rattle.hls_base.specs.declared.point.PointKind.{PointKind}
use Rattle.hls_base.specs.declared.point.PointKind.TheVariants as kind

-- by line, then by column, then by the number of the token within what a macro name was replaced by
abbrev pub place_order : Place → Place → Ordering
place_order p q = ordering_then (nat_cmp p.line q.line) (ordering_then (nat_cmp p.column q.column) (nat_cmp p.part q.part))

-- paths: the first place that differs decides, and a path stands before those that it begins
abbrev pub path_order : List Place → List Place → Ordering
path_order = slice_cmp place_order

abbrev pub kind_number : PointKind → ℕ
kind_number kind.Begin = 0
kind_number kind.Test = 1
kind_number kind.Body = 2
kind_number kind.Step = 3
kind_number kind.End = 4
kind_number kind.Arm = 5

abbrev pub point_order : Point → Point → Ordering
point_order p q =
    ordering_then (path_order p.path q.path)
    (ordering_then (place_order p.at q.at) (nat_cmp (kind_number p.kind) (kind_number q.kind)))

abbrev pub IsBefore : Point → Point → Type 0
IsBefore p q = point_order p q ≡ Less
