-- How often each point was passed.
use Rattle.std.specs.Prelude.{ℕ, ◌+◌, List, [], ◌∷◌, if◌then◌else◌}
use Rattle.hls_base.specs.declared.point.Point.{Point}
use Rattle.hls_base.specs.Tallies.{same_point}

-- one more passing of a point, in counts that list the points in the order in which they were first passed
abbrev pub count_point : Point → List (Point × ℕ) → List (Point × ℕ)
count_point p [] = (p, 1) ∷ []
count_point p (c ∷ counts) = if same_point c.0 p then (c.0, c.1 + 1) ∷ counts else c ∷ count_point p counts

abbrev pub count_all : List Point → List (Point × ℕ) → List (Point × ℕ)
count_all [] counts = counts
count_all (p ∷ ps) counts = count_all ps (count_point p counts)

-- how often each point of a trace stands in it
abbrev pub tally_of : List Point → List (Point × ℕ)
tally_of trace = count_all trace []

-- how often a point stands in a trace
abbrev pub times : List Point → Point → ℕ
times [] p = 0
times (q ∷ trace) p = if same_point q p then times trace p + 1 else times trace p
