-- A row has no more elements than its array.
use Rattle.std.proofs.Common.{◌≡◌, ◌≢◌, ◌∙◌, sym, refl, ap, ℕ, zero, suc, ◌+◌, ◌-◌, ◌*◌, ◌<◌, ◌≤◌, nat_le, List, [], ◌∷◌, length, map, take, drop, Option, Some, None, Bool, true, false, if◌then◌else◌, arith}
use Rattle.std.proofs.lemmas.Bool.Decides.{nat_tests}
use Rattle.std.specs.List.{All}
use Rattle.std.proofs.Math.Nat.{le-mul_of_pos_right}
use Rattle.std.proofs.Math.Seq.{take-length}
use Rattle.std.proofs.Math.ListN.{drop_of_length-le}
use Rattle.std.proofs.lemmas.List.{length-drop}
use Rattle.hls_base.specs.ArrayAddress.{element_count}
use Rattle.c_tree.specs.Tree as tree
use Rattle.c_tree.specs.Tree.{InitTree, InitTrees, ObjectTree}
use Rattle.c_meaning.specs.Checks.Lengths.{lengths_of, usable, all_usable}
use Rattle.c_meaning.specs.declared.value.Completion.TheVariants as end
use Rattle.c_meaning.specs.Limits.{IsWithinLimits}
use Rattle.c_meaning.specs.Store.{within_limits, lengths_in}
use Rattle.c_machine.specs.Waiting.Shown.{first_of}
use Rattle.c_machine.specs.Frames as f
use Rattle.c_machine.specs.Frames.{Configuration}
use Rattle.c_machine.specs.Moves.{going, pushed, next_row, rows_begun}

pub count-drop : (d : ℕ) (ls : List ℕ) → All (λ n. 0 < n) ls → element_count (drop d ls) ≤ element_count ls
count-drop zero ls h = omega arith
count-drop (suc d) [] h = omega arith
count-drop (suc d) (l ∷ ls) h =
    let first : 0 < l = h zero l (omega arith) in
    let inner = count-drop d ls (λ k x lt. h (suc k) x (omega arith)) in
    let whole = le-mul_of_pos_right {m = l} (element_count ls) first in
    omega (arith, inner, whole)

pub row-within : (d : ℕ) (ls : List ℕ) → IsWithinLimits ls → element_count (drop d ls) ≤ 65536
row-within d ls h = let e = count-drop d ls h.positive in omega (arith, e, h.count)

limited_by : (test : Bool) (ls : List ℕ) → (test ≡ true → element_count ls ≤ 65536) → element_count (if test then ls else []) ≤ 65536
limited_by true ls h = h refl
limited_by false ls h = omega arith

within-limited : (found : Option (List ℕ)) → element_count (within_limits found) ≤ 65536
within-limited None = omega arith
within-limited (Some ls) = limited_by (nat_le (element_count ls) 65536) ls (λ e. grind (arith, nat_tests))

pub lengths-limited : (o : ObjectTree) → element_count (lengths_in o) ≤ 65536
lengths-limited o = within-limited (all_usable (map usable (lengths_of o)))

more_rows : (count size : ℕ) → size + count * size ≡ suc count * size
more_rows count size = omega arith

-- one row less
pub row-left : (count size : ℕ) → count ≢ 0 → size + (count - 1) * size ≡ count * size
row-left zero size h = absurd (h refl)
row-left (suc count) size h =
    let e : suc count - 1 ≡ count = omega arith in
    ap (λ k. size + k * size) e ∙ more_rows count size

pub row-fits : (count size : ℕ) → count ≢ 0 → size ≤ count * size
row-fits count size h = let e = row-left count size h in omega (arith, e)

pub next_row-none : (object count : ℕ) (ls : List ℕ) (first : InitTree) (others : InitTrees) (element : ℕ) (m : Configuration) → count ≡ 0
    → next_row object count ls (tree.more_inits first others) element m ≡ going (f.complete end.Normal) m
next_row-none object count ls first others element m e = rw e refl

pub next_row-some : (object count : ℕ) (ls : List ℕ) (first : InitTree) (others : InitTrees) (element : ℕ) (m : Configuration) → count ≢ 0
    → next_row object count ls (tree.more_inits first others) element m
    ≡ going (f.initialise object ls first element) (pushed (f.on_end (f.rows object (count - 1) ls others (element + element_count ls))) m)
next_row-some object zero ls first others element m h = absurd (h refl)
next_row-some object (suc count) ls first others element m h =
    let e : count ≡ suc count - 1 = omega arith in
    ap (λ n. going (f.initialise object ls first element) (pushed (f.on_end (f.rows object n ls others (element + element_count ls))) m)) e

-- the dimension at a depth, and those behind it
pub dimension-more : (d : ℕ) (ls : List ℕ) (n : ℕ) → Some n ≡ first_of (drop d ls) → drop d ls ≡ n ∷ drop (d + 1) ls
dimension-more zero [] n e = cc
dimension-more zero (l ∷ ls) n e = let same : l ≡ n = cc in ap (λ k. k ∷ ls) same
dimension-more (suc d) [] n e = cc
dimension-more (suc d) (l ∷ ls) n e =
    let k : suc (d + 1) ≡ suc d + 1 = omega arith in
    dimension-more d ls n e ∙ ap (λ j. n ∷ drop j (l ∷ ls)) k

pub dimension-count : (d : ℕ) (ls : List ℕ) (n : ℕ) → Some n ≡ first_of (drop d ls) → element_count (drop d ls) ≡ n * element_count (drop (d + 1) ls)
dimension-count d ls n e = ap element_count (dimension-more d ls n e)

pub rows_begun-some : (object : ℕ) (d : ℕ) (ls : List ℕ) (n : ℕ) (items : InitTrees) (element : ℕ) (m : Configuration) → Some n ≡ first_of (drop d ls)
    → rows_begun object (drop d ls) items element m ≡ going (f.complete end.Normal) (pushed (f.on_end (f.rows object n (drop (d + 1) ls) items element)) m)
rows_begun-some object d ls n items element m e = ap (λ xs. rows_begun object xs items element m) (dimension-more d ls n e)

pub rows_begun-none : (object : ℕ) (ls : List ℕ) (items : InitTrees) (element : ℕ) (m : Configuration) → None ≡ first_of ls → rows_begun object ls items element m ≡ going (f.complete end.Normal) m
rows_begun-none object [] items element m e = refl
rows_begun-none object (l ∷ ls) items element m e = cc

-- what is behind the first ones
pub behind-all : (ls : List ℕ) (d : ℕ) → take (length ls - d) (drop d ls) ≡ drop d ls
behind-all ls d = ap (λ k. take k (drop d ls)) (sym (length-drop d ls)) ∙ take-length (drop d ls)

pub behind-none : (ls : List ℕ) (d : ℕ) → length ls ≤ d → drop d ls ≡ []
behind-none ls d le = drop_of_length-le ls le

pub ruleset behind_first = (behind-all, behind-none)

pub ruleset rowing = (row-within, lengths-limited, row-left, row-fits, next_row-none, next_row-some, dimension-count, rows_begun-some, rows_begun-none)
