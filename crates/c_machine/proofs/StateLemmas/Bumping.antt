-- The parts of `++` and `--`.
use Rattle.std.proofs.Common.{◌≡◌, ◌∙◌, sym, ap, ℕ, ℤ, pos, List, Bool, if◌then◌else◌}
use Rattle.hls_base.specs.declared.place.Place.{Place}
use Rattle.c_tree.specs.declared.operator.Binary.TheVariants as b
use Rattle.c_value.specs.Values.{int_type}
use Rattle.c_meaning.specs.declared.value.Value.{Value}
use Rattle.c_meaning.specs.Store.{State}
use Rattle.c_meaning.specs.Steps.{Ran, goes, then_}
use Rattle.c_meaning.specs.Expression.{value, operated, read_object, store_object, bumped}

pub bumped-value : (up post : Bool) (object : ℕ) (subscripts : List ℤ) (place at : Place) (s s1 : State) (x r v w : Value)
    → read_object object subscripts place s ≡ goes x s
    → operated (if up then b.Add else b.Sub) x (value int_type (pos 1)) at s ≡ goes r s
    → store_object object subscripts r.number place s ≡ goes v s1
    → w ≡ (if post then x else v)
    → bumped up post object subscripts place at s ≡ goes w s1
bumped-value up post object subscripts place at s s1 x r v w read raised stored is =
    ap (λ (q : Ran Value). then_ q (λ x1 s2. then_ (operated (if up then b.Add else b.Sub) x1 (value int_type (pos 1)) at s2)
    (λ r1 s3. then_ (store_object object subscripts r1.number place s3) (λ v1 s4. goes (if post then x1 else v1) s4)))) read
    ∙ ap (λ (q : Ran Value). then_ q (λ r1 s3. then_ (store_object object subscripts r1.number place s3) (λ v1 s4. goes (if post then x else v1) s4))) raised
    ∙ ap (λ (q : Ran Value). then_ q (λ v1 s4. goes (if post then x else v1) s4)) stored
    ∙ ap (λ q. goes q s1) (sym is)
