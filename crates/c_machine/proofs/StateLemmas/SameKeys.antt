-- Comparisons of calls and of numbered points decide whether they are the same.
use Rattle.std.proofs.Common.{◌≡◌, ℕ, ◌∙◌, sym, refl, ap, Bool, ◌&&◌, Option, Some, None, Decides}
use Rattle.std.specs.Prelude.{nat_eq, ◌==◌}
use Rattle.std.specs.Option.{option_eq}
use Rattle.std.proofs.lemmas.Bool.Decides.{Decides-and, Decides-eqb}
use Rattle.hls_base.specs.declared.place.Place.{Place}
use Rattle.hls_base.specs.declared.point.PointKind.{PointKind}
use Rattle.hls_base.specs.declared.point.PointKind.TheVariants as point
use Rattle.hls_base.specs.contracts.place.PlacePartialEq.TheImpl as place_impl
use Rattle.hls_base.specs.contracts.point.PointKindPartialEq.TheImpl as kind_impl
use Rattle.c_machine.specs.declared.state.meter.Call.{Call}
use Rattle.c_machine.specs.declared.state.meter.NumberedPoint.{NumberedPoint}
use Rattle.c_machine.specs.contracts.state.meter.CallPartialEq.TheImpl as call_impl
use Rattle.c_machine.specs.contracts.state.meter.NumberedPointPartialEq.TheImpl as point_impl

abbrev pub place_eq : Place → Place → Bool
place_eq = place_impl.eq-value.it

abbrev pub kind_eq : PointKind → PointKind → Bool
kind_eq = kind_impl.eq-value.it

abbrev pub call_eq : Call → Call → Bool
call_eq = call_impl.eq-value.it

abbrev pub point_eq : NumberedPoint → NumberedPoint → Bool
point_eq = point_impl.eq-value.it

place_eq-Decides : (p q : Place) → Decides (place_eq p q) (p ≡ q)
place_eq-Decides p q =
    let d = Decides-and (p.line == q.line) ((p.column == q.column) && (p.part == q.part)) (Decides-eqb p.line q.line)
    (Decides-and (p.column == q.column) (p.part == q.part) (Decides-eqb p.column q.column) (Decides-eqb p.part q.part)) in (
      λ e. let h = d.0 e in λ i. record { line = h.0 i; column = h.1.0 i; part = h.1.1 i },
      λ e. d.1 (ap (λ (r : Place). r.line) e, (ap (λ (r : Place). r.column) e, ap (λ (r : Place). r.part) e)),
    )

kind_eq-Decides : (k l : PointKind) → Decides (kind_eq k l) (k ≡ l)
kind_eq-Decides point.Begin point.Begin = (λ e. refl, λ e. refl)
kind_eq-Decides point.Test point.Test = (λ e. refl, λ e. refl)
kind_eq-Decides point.Body point.Body = (λ e. refl, λ e. refl)
kind_eq-Decides point.Step point.Step = (λ e. refl, λ e. refl)
kind_eq-Decides point.End point.End = (λ e. refl, λ e. refl)
kind_eq-Decides point.Arm point.Arm = (λ e. refl, λ e. refl)
kind_eq-Decides k l = (λ e. absurd cc, λ e. absurd cc)

number_eq-Decides : (m n : Option ℕ) → Decides (option_eq nat_eq m n) (m ≡ n)
number_eq-Decides None None = (λ e. refl, λ e. refl)
number_eq-Decides None (Some y) = (λ e. absurd cc, λ e. absurd cc)
number_eq-Decides (Some x) None = (λ e. absurd cc, λ e. absurd cc)
number_eq-Decides (Some x) (Some y) = let d = Decides-eqb x y in (λ e. ap (λ k. Some k) (d.0 e), λ e. d.1 cc)

call_parts : (c d : Call) → call_eq c d ≡ (option_eq nat_eq c.caller d.caller && place_eq c.at d.at)
call_parts c d = refl

pub call_eq-Decides : (c d : Call) → Decides (call_eq c d) (c ≡ d)
call_eq-Decides c d =
    let all = Decides-and (option_eq nat_eq c.caller d.caller) (place_eq c.at d.at) (number_eq-Decides c.caller d.caller) (place_eq-Decides c.at d.at) in (
      λ e. let h = all.0 (sym (call_parts c d) ∙ e) in λ i. record { caller = h.0 i; at = h.1 i },
      λ e. call_parts c d ∙ all.1 (ap (λ (r : Call). r.caller) e, ap (λ (r : Call). r.at) e),
    )

point_parts : (p q : NumberedPoint) → point_eq p q ≡ (option_eq nat_eq p.path q.path && (place_eq p.at q.at && kind_eq p.kind q.kind))
point_parts p q = refl

pub point_eq-Decides : (p q : NumberedPoint) → Decides (point_eq p q) (p ≡ q)
point_eq-Decides p q =
    let all = Decides-and (option_eq nat_eq p.path q.path) (place_eq p.at q.at && kind_eq p.kind q.kind) (number_eq-Decides p.path q.path)
    (Decides-and (place_eq p.at q.at) (kind_eq p.kind q.kind) (place_eq-Decides p.at q.at) (kind_eq-Decides p.kind q.kind)) in (
      λ e. let h = all.0 (sym (point_parts p q) ∙ e) in λ i. record { path = h.0 i; at = h.1.0 i; kind = h.1.1 i },
      λ e. point_parts p q ∙ all.1 (ap (λ (r : NumberedPoint). r.path) e, (ap (λ (r : NumberedPoint). r.at) e, ap (λ (r : NumberedPoint). r.kind) e)),
    )
