-- The order of points is a total order, under which only a point itself is level with it.
use Rattle.std.proofs.Common.{◌≡◌, ℕ, zero, suc, false, List, [], ◌∷◌, refl, sym, ap, ◌∙◌}
use Rattle.std.specs.declared.cmp.Ordering.{Ordering}
use Rattle.std.specs.declared.cmp.Ordering.TheVariants.{Less, Equal, Greater}
use Rattle.std.specs.Ordering.{nat_cmp, ordering_then, ordering_reverse, is_lt, is_gt}
use Rattle.std.specs.Cmp.{IsTotalOrder}
use Rattle.std.proofs.lemmas.Cmp.{ranked, nat_cmp_total, on_total, then_total, lists_total, alike_right}
use Rattle.hls_base.specs.declared.place.Place.{Place}
use Rattle.hls_base.specs.declared.point.Point.{Point}
use Rattle.hls_base.specs.declared.point.PointKind.{PointKind}
use Rattle.hls_base.specs.declared.point.PointKind.TheVariants as kind
use Rattle.report_rows.specs.Points.{place_order, path_order, kind_number, point_order}

pub place_total : IsTotalOrder place_order
place_total = then_total (on_total (λ (p : Place). p.line) nat_cmp_total) (then_total (on_total (λ (p : Place). p.column) nat_cmp_total) (on_total (λ (p : Place). p.part) nat_cmp_total))

pub point_total : IsTotalOrder point_order
point_total = then_total (on_total (λ (p : Point). p.path) (lists_total place_total)) (then_total (on_total (λ (p : Point). p.at) place_total) (on_total (λ (p : Point). kind_number p.kind) nat_cmp_total))

-- ---- level points are the same

level_numbers : (x y : ℕ) → nat_cmp x y ≡ Equal → x ≡ y
level_numbers x y h = ranked x y Equal (sym h)

first_level : (a b : Ordering) → ordering_then a b ≡ Equal → a ≡ Equal
first_level Less b h = h
first_level Equal b h = refl
first_level Greater b h = h

second_level : (a b : Ordering) → ordering_then a b ≡ Equal → b ≡ Equal
second_level Less b h = absurd (cc)
second_level Equal b h = h
second_level Greater b h = absurd (cc)

place_from : {a b c x y z : ℕ} → a ≡ x → b ≡ y → c ≡ z → ◌≡◌ {A = Place} (record { line = a; column = b; part = c }) (record { line = x; column = y; part = z })
place_from p q r = cc

level_places : (p q : Place) → place_order p q ≡ Equal → p ≡ q
level_places p q h =
    let rest = second_level (nat_cmp p.line q.line) (ordering_then (nat_cmp p.column q.column) (nat_cmp p.part q.part)) h in
    place_from
    (level_numbers p.line q.line (first_level (nat_cmp p.line q.line) (ordering_then (nat_cmp p.column q.column) (nat_cmp p.part q.part)) h))
    (level_numbers p.column q.column (first_level (nat_cmp p.column q.column) (nat_cmp p.part q.part) rest))
    (level_numbers p.part q.part (second_level (nat_cmp p.column q.column) (nat_cmp p.part q.part) rest))

level_paths : (ps qs : List Place) → path_order ps qs ≡ Equal → ps ≡ qs
level_paths [] [] h = refl
level_paths [] (q ∷ qs) h = absurd (cc)
level_paths (p ∷ ps) [] h = absurd (cc)
level_paths (p ∷ ps) (q ∷ qs) h =
    let head : p ≡ q = level_places p q (first_level (place_order p q) (path_order ps qs) h) in
    let tail : ps ≡ qs = level_paths ps qs (second_level (place_order p q) (path_order ps qs) h) in
    cc

kind_of : ℕ → PointKind
kind_of zero = kind.Begin
kind_of (suc zero) = kind.Test
kind_of (suc (suc zero)) = kind.Body
kind_of (suc (suc (suc zero))) = kind.Step
kind_of (suc (suc (suc (suc zero)))) = kind.End
kind_of (suc (suc (suc (suc (suc n))))) = kind.Arm

kind_again : (k : PointKind) → kind_of (kind_number k) ≡ k
unfolding kind_of
kind_again kind.Begin = refl
kind_again kind.Test = refl
kind_again kind.Body = refl
kind_again kind.Step = refl
kind_again kind.End = refl
kind_again kind.Arm = refl

level_kinds : (j k : PointKind) → kind_number j ≡ kind_number k → j ≡ k
level_kinds j k h = sym (kind_again j) ∙ (ap kind_of h ∙ kind_again k)

point_from : {a x : List Place} {b y : Place} {c z : PointKind} → a ≡ x → b ≡ y → c ≡ z → ◌≡◌ {A = Point} (record { path = a; at = b; kind = c }) (record { path = x; at = y; kind = z })
point_from p q r = cc

pub level_points : (p q : Point) → point_order p q ≡ Equal → p ≡ q
level_points p q h =
    let rest = second_level (path_order p.path q.path) (ordering_then (place_order p.at q.at) (nat_cmp (kind_number p.kind) (kind_number q.kind))) h in
    point_from
    (level_paths p.path q.path (first_level (path_order p.path q.path) (ordering_then (place_order p.at q.at) (nat_cmp (kind_number p.kind) (kind_number q.kind))) h))
    (level_places p.at q.at (first_level (place_order p.at q.at) (nat_cmp (kind_number p.kind) (kind_number q.kind)) rest))
    (level_kinds p.kind q.kind (level_numbers (kind_number p.kind) (kind_number q.kind) (second_level (place_order p.at q.at) (nat_cmp (kind_number p.kind) (kind_number q.kind)) rest)))

-- ---- before and not after

abbrev pub NotAfter : Point → Point → Type 0
NotAfter p q = is_gt (point_order p q) ≡ false

turned : (o : Ordering) → is_gt (ordering_reverse o) ≡ is_lt o
turned Less = refl
turned Equal = refl
turned Greater = refl

pub not_after : (p q : Point) → is_lt (point_order q p) ≡ false → NotAfter p q
not_after p q h = ap is_gt (point_total.antisymm p q) ∙ (turned (point_order q p) ∙ h)

goes_on : (p q r : Point) (o : Ordering) → point_order p q ≡ Less → point_order q r ≡ o → is_gt o ≡ false → point_order p r ≡ Less
goes_on p q r Less h e n = point_total.trans p q r h e
goes_on p q r Equal h e n = sym (alike_right point_total q r p e) ∙ h
goes_on p q r Greater h e n = absurd (cc)

pub before_then : (p q r : Point) → point_order p q ≡ Less → NotAfter q r → point_order p r ≡ Less
before_then p q r h n = goes_on p q r (point_order q r) h refl n
