-- Which points are the same, and how often each was passed.
use Rattle.std.specs.Prelude.{◌≡◌, ℕ, ◌==◌, ◌&&◌, Bool, true, false, List, [], ◌∷◌, slice_get, Some, if◌then◌else◌}
use Rattle.hls_base.specs.declared.place.Place.{Place}
use Rattle.hls_base.specs.declared.point.Point.{Point}
use Rattle.hls_base.specs.declared.point.PointKind.{PointKind}
use Rattle.hls_base.specs.declared.point.PointKind.TheVariants as kind

abbrev pub same_kind : PointKind → PointKind → Bool
same_kind kind.Begin kind.Begin = true
same_kind kind.Test kind.Test = true
same_kind kind.Body kind.Body = true
same_kind kind.Step kind.Step = true
same_kind kind.End kind.End = true
same_kind kind.Arm kind.Arm = true
same_kind j k = false

abbrev pub same_place : Place → Place → Bool
same_place p q = (p.line == q.line) && ((p.column == q.column) && (p.part == q.part))

abbrev pub same_path : List Place → List Place → Bool
same_path [] [] = true
same_path [] (q ∷ qs) = false
same_path (p ∷ ps) [] = false
same_path (p ∷ ps) (q ∷ qs) = same_place p q && same_path ps qs

abbrev pub same_point : Point → Point → Bool
same_point p q = same_kind p.kind q.kind && (same_place p.at q.at && same_path p.path q.path)

-- the count of a point in counts, 0 where it is not listed
abbrev pub count_in : List (Point × ℕ) → Point → ℕ
count_in [] p = 0
count_in (entry ∷ entries) p = if same_point entry.0 p then entry.1 else count_in entries p

-- no point stands twice
abbrev pub HasDistinctPoints : List (Point × ℕ) → Type 0
HasDistinctPoints counts =
    (i j : ℕ) (p q : Point × ℕ) → slice_get counts i ≡ Some p → slice_get counts j ≡ Some q → p.0 ≡ q.0 → i ≡ j
