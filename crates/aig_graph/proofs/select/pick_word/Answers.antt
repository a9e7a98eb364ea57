use Rattle.std.proofs.Common.{◌≡◌, ◌+◌, ◌<◌, Bool, true, false, cond, List, [], ◌∷◌, ◌++◌, length, get_or, take, sym, ap, ◌∙◌, arith}
use Rattle.std.proofs.lemmas.List.Elements.{All-get_or}
use Rattle.aig_graph.specs.Graphs.{literal}
use Rattle.aig_graph.specs.Making.{gates_of, IsLiteral, is_picked}
use Rattle.aig_graph.proofs.Growing.{fits_later}
use Rattle.aig_graph.specs.Words.{bits}
use Rattle.aig_graph.proofs.Numbers.{take_bits}
use Rattle.aig_graph.proofs.Making.{word_more}
use Rattle.aig_graph.proofs.select.pick_word.Goals as goal

picked_more : (t x y : Bool) (bs xs ys : List Bool) (b : Bool) → bs ≡ cond t xs ys → b ≡ is_picked t x y → bs ++ b ∷ [] ≡ cond t (xs ++ x ∷ []) (ys ++ y ∷ [])
picked_more true x y bs xs ys b e f = ap (λ z. z ++ b ∷ []) e ∙ ap (λ z. xs ++ z ∷ []) f
picked_more false x y bs xs ys b e f = ap (λ z. z ++ b ∷ []) e ∙ ap (λ z. ys ++ z ∷ []) f

pub loop-i-preserved : goal.loop-i-preserved
loop-i-preserved c =
    let d = gates_of c.args.graph.now in
    let i = c.loop-i.i in
    let xs = c.args.xs.now in
    let ys = c.args.ys.now in
    let inv = c.loop-i.invariant in
    let same : length xs ≡ length ys = c.requires.same in
    let h : i < length xs = omega arith in
    let k : i < length ys = omega arith in
    let x = fits_later _ _ inv.extends _ (All-get_or (IsLiteral d) xs i 0 h c.requires.first) in
    let y = fits_later _ _ inv.extends _ (All-get_or (IsLiteral d) ys i 0 k c.requires.second) in
    let m = c.in_ok-bit.ensures inv.sound (fits_later _ _ inv.extends _ c.requires.test) x y in
    word_more _ _ _ _ _ _ _ _ _ _ inv c.in_ok-push.ensures.items m.extends m.sound m.shows.fits m.shows.value
    (λ w p r.
    picked_more (literal w c.args.test) (literal w (get_or xs i 0)) (literal w (get_or ys i 0)) _ _ _ _ p r
    ∙ (ap (λ z. cond (literal w c.args.test) z (bits w (take i ys) ++ literal w (get_or ys i 0) ∷ [])) (sym (take_bits w xs i h))
    ∙ ap (λ z. cond (literal w c.args.test) (bits w (take (i + 1) xs)) z) (sym (take_bits w ys i k))))
