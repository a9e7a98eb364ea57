-- What a sort by the order of points gives.
use Rattle.std.proofs.Common.{◌≡◌, Bool, List, ap}
use denote.Ref.{Bor}
use denote.Param.Members.{Mut}
use Rattle.std.specs.declared.cmp.Ordering.{Ordering}
use Rattle.std.specs.Ordering.{is_lt}
use Rattle.std.specs.Cmp.{IsStrictWeakOrder}
use Rattle.std.specs.Fn.{Called, ComparesAs}
use Rattle.std.specs.List.Sorted.{IsSortedBy}
use Rattle.std.proofs.lemmas.Fn.{always_returns_same}
use Rattle.std.proofs.lemmas.List.Sorted.{ranks_by}
use Rattle.hls_base.specs.declared.point.Point.{Point}
use Rattle.report_rows.specs.Points.{point_order}
use Rattle.report_rows.proofs.PointOrder.{point_total}

pub sorted_by_point : {X : Type 0} (point : X → Point) {F : Type 0} {g : Mut F (Bor X × (Bor X × Unit {0})) Ordering} {f : F} (xs : List X)
    → ((lt : X → X → Bool) → IsStrictWeakOrder lt → ComparesAs g lt f → IsSortedBy lt xs)
    → ((a : Bor X × (Bor X × Unit {0})) (r : Ordering) (f' : F) → Called g f a r f' → (r ≡ point_order (point a.0.now) (point a.1.0.now)) × (f' ≡ f))
    → IsSortedBy (λ x y. is_lt (point_order (point x) (point y))) xs
sorted_by_point point {g = g} {f = f} xs up h =
    up (λ x y. is_lt (point_order (point x) (point y))) (ranks_by point_total point)
    (always_returns_same g (λ a r. is_lt r ≡ is_lt (point_order (point a.0.now) (point a.1.0.now))) f (λ a r f' k. (ap is_lt (h a r f' k).0, (h a r f' k).1)))
