-- Points that are the same by their fields are one point.
use Rattle.std.proofs.Common.{◌≡◌, ◌≢◌, sym, refl, ap, List, [], ◌∷◌, Bool, true, false, ◌&&◌, Decides, true≢false, ◌∙◌, inl, inr}
use Rattle.std.specs.Prelude.{◌==◌}
use Rattle.std.proofs.lemmas.Bool.{cases_Bool}
use Rattle.std.proofs.lemmas.Bool.Decides.{Decides-and, Decides-eqb}
use Rattle.hls_base.specs.declared.place.Place.{Place}
use Rattle.hls_base.specs.declared.point.Point.{Point}
use Rattle.hls_base.specs.declared.point.PointKind.{PointKind}
use Rattle.hls_base.specs.declared.point.PointKind.TheVariants as kind
use Rattle.hls_base.specs.Tallies.{same_kind, same_place, same_path, same_point}

all_three : {P Q R : Type 0} (x y z : Bool) → Decides x P → Decides y Q → Decides z R → Decides (x && (y && z)) (P × Q × R)
all_three x y z dx dy dz =
    let d = Decides-and x (y && z) dx (Decides-and y z dy dz) in
    (λ e. let h = d.0 e in (h.0, h.1.0, h.1.1), λ h. d.1 (h.0, (h.1, h.2)))

place_parts : (p q : Place) → (p.line ≡ q.line) × (p.column ≡ q.column) × (p.part ≡ q.part) → p ≡ q
place_parts p q h = λ i. record { line = h.0 i; column = h.1 i; part = h.2 i }

pub same_place-Decides : (p q : Place) → Decides (same_place p q) (p ≡ q)
same_place-Decides p q =
    let d = all_three (p.line == q.line) (p.column == q.column) (p.part == q.part) (Decides-eqb p.line q.line) (Decides-eqb p.column q.column) (Decides-eqb p.part q.part) in
    (λ e. place_parts p q (d.0 e), λ e. d.1 (ap (λ (r : Place). r.line) e, ap (λ (r : Place). r.column) e, ap (λ (r : Place). r.part) e))

pub same_path-Decides : (ps qs : List Place) → Decides (same_path ps qs) (ps ≡ qs)
same_path-Decides [] [] = (λ e. refl, λ e. refl)
same_path-Decides [] (q ∷ qs) = (λ e. absurd cc, λ e. absurd cc)
same_path-Decides (p ∷ ps) [] = (λ e. absurd cc, λ e. absurd cc)
same_path-Decides (p ∷ ps) (q ∷ qs) =
    let d = Decides-and (same_place p q) (same_path ps qs) (same_place-Decides p q) (same_path-Decides ps qs) in
    (λ e. let h = d.0 e in λ i. h.0 i ∷ h.1 i, λ e. d.1 (cc, cc))

same_kind-self : (k : PointKind) → same_kind k k ≡ true
same_kind-self kind.Begin = refl
same_kind-self kind.Test = refl
same_kind-self kind.Body = refl
same_kind-self kind.Step = refl
same_kind-self kind.End = refl
same_kind-self kind.Arm = refl

kind_same : (j k : PointKind) → same_kind j k ≡ true → j ≡ k
kind_same kind.Begin kind.Begin e = refl
kind_same kind.Begin kind.Test e = absurd (true≢false (sym e))
kind_same kind.Begin kind.Body e = absurd (true≢false (sym e))
kind_same kind.Begin kind.Step e = absurd (true≢false (sym e))
kind_same kind.Begin kind.End e = absurd (true≢false (sym e))
kind_same kind.Begin kind.Arm e = absurd (true≢false (sym e))
kind_same kind.Test kind.Begin e = absurd (true≢false (sym e))
kind_same kind.Test kind.Test e = refl
kind_same kind.Test kind.Body e = absurd (true≢false (sym e))
kind_same kind.Test kind.Step e = absurd (true≢false (sym e))
kind_same kind.Test kind.End e = absurd (true≢false (sym e))
kind_same kind.Test kind.Arm e = absurd (true≢false (sym e))
kind_same kind.Body kind.Begin e = absurd (true≢false (sym e))
kind_same kind.Body kind.Test e = absurd (true≢false (sym e))
kind_same kind.Body kind.Body e = refl
kind_same kind.Body kind.Step e = absurd (true≢false (sym e))
kind_same kind.Body kind.End e = absurd (true≢false (sym e))
kind_same kind.Body kind.Arm e = absurd (true≢false (sym e))
kind_same kind.Step kind.Begin e = absurd (true≢false (sym e))
kind_same kind.Step kind.Test e = absurd (true≢false (sym e))
kind_same kind.Step kind.Body e = absurd (true≢false (sym e))
kind_same kind.Step kind.Step e = refl
kind_same kind.Step kind.End e = absurd (true≢false (sym e))
kind_same kind.Step kind.Arm e = absurd (true≢false (sym e))
kind_same kind.End kind.Begin e = absurd (true≢false (sym e))
kind_same kind.End kind.Test e = absurd (true≢false (sym e))
kind_same kind.End kind.Body e = absurd (true≢false (sym e))
kind_same kind.End kind.Step e = absurd (true≢false (sym e))
kind_same kind.End kind.End e = refl
kind_same kind.End kind.Arm e = absurd (true≢false (sym e))
kind_same kind.Arm kind.Begin e = absurd (true≢false (sym e))
kind_same kind.Arm kind.Test e = absurd (true≢false (sym e))
kind_same kind.Arm kind.Body e = absurd (true≢false (sym e))
kind_same kind.Arm kind.Step e = absurd (true≢false (sym e))
kind_same kind.Arm kind.End e = absurd (true≢false (sym e))
kind_same kind.Arm kind.Arm e = refl

same_kind-Decides : (j k : PointKind) → Decides (same_kind j k) (j ≡ k)
same_kind-Decides j k = (kind_same j k, λ e. ap (same_kind j) (sym e) ∙ same_kind-self j)

point_parts : (p q : Point) → (p.kind ≡ q.kind) × (p.at ≡ q.at) × (p.path ≡ q.path) → p ≡ q
point_parts p q h = λ i. record { path = h.2 i; at = h.1 i; kind = h.0 i }

pub same_point-Decides : (p q : Point) → Decides (same_point p q) (p ≡ q)
same_point-Decides p q =
    let d = all_three (same_kind p.kind q.kind) (same_place p.at q.at) (same_path p.path q.path) (same_kind-Decides p.kind q.kind) (same_place-Decides p.at q.at) (same_path-Decides p.path q.path) in
    (λ e. point_parts p q (d.0 e), λ e. d.1 (ap (λ (r : Point). r.kind) e, ap (λ (r : Point). r.at) e, ap (λ (r : Point). r.path) e))

pub same_point-self : (p : Point) → same_point p p ≡ true
same_point-self p = (same_point-Decides p p).1 refl

pub same_point-other : (p q : Point) → p ≢ q → same_point p q ≡ false
same_point-other p q h = elim (cases_Bool (same_point p q)) [ inl t ↦ absurd (h ((same_point-Decides p q).0 t)) | inr f ↦ f ]
