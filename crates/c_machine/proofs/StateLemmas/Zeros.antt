-- Elements that become 0 one after another.
use Rattle.std.proofs.Common.{◌≡◌, ℕ, suc, ◌+◌, ◌-◌, ◌<◌, ◌∙◌, sym, ap, List, pos, arith}
use Rattle.std.specs.Prelude.{slice_get}
use Rattle.c_meaning.specs.Store.{Object, State, changed, with_element, write_element}
use Rattle.c_meaning.specs.Statement.{zeros}
use Rattle.c_machine.specs.State.Objects.{state}

one-more : (n m object element element' : ℕ) (s : State) → n ≡ suc m → element' ≡ element + 1 → zeros n object element s ≡ zeros m object element' (write_element s object element (pos 0))
one-more n m object element element' s e f = ap (λ k. zeros k object element s) e ∙ ap (λ k. zeros m object k (write_element s object element (pos 0))) (sym f)

pub zeros-next : (count k object element left : ℕ) (old new : List Object) → k < count → new ≡ changed (with_element (element + k) (pos 0)) old object (slice_get old object)
    → zeros (count - (k + 1)) object (element + (k + 1)) (state new left) ≡ zeros (count - k) object (element + k) (state old left)
zeros-next count k object element left old new lt e =
    ap (λ os. zeros (count - (k + 1)) object (element + (k + 1)) (state os left)) e
    ∙ sym (one-more (count - k) (count - (k + 1)) object (element + k) (element + (k + 1)) (state old left) (omega arith) (omega arith))
