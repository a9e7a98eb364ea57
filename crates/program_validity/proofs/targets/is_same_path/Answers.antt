use Rattle.std.proofs.Common.{◌≡◌, Bool, List, [], ◌∷◌, ◌&&◌, ap, ◌∙◌, refl}
use Rattle.hls_base.specs.declared.place.Place.{Place}
use Rattle.hls_base.specs.contracts.place.PlacePartialEq.TheImpl as impl
use lib.Pointwise.{pointwise}
use Rattle.hls_base.specs.Tallies.{same_path, same_place}
use Rattle.program_validity.proofs.targets.is_same_path.Goals as goal

abbrev eq : Place → Place → Bool
eq = impl.eq-value.it

same : (p q : Place) → eq p q ≡ same_place p q
same p q = refl

same_all : (ps qs : List Place) → pointwise eq ps qs ≡ same_path ps qs
same_all [] [] = refl
same_all [] (q ∷ qs) = refl
same_all (p ∷ ps) [] = refl
same_all (p ∷ ps) (q ∷ qs) = ap (λ b. b && pointwise eq ps qs) (same p q) ∙ ap (λ b. same_place p q && b) (same_all ps qs)

pub returns : goal.returns
returns c = c.eq.ensures ∙ same_all c.args.one.now c.args.other.now
