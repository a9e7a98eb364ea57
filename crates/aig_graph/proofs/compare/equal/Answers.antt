use Rattle.std.proofs.Common.{◌≡◌, ◌+◌, ◌<◌, ◌^◌, ◌==◌, ◌&&◌, not, length, get_or, take, sym, ap, ◌∙◌, arith}
use Rattle.std.proofs.lemmas.List.Elements.{All-get_or}
use Rattle.aig_graph.specs.Graphs.{literal, values}
use Rattle.aig_graph.specs.Making.{gates_of, IsLiteral}
use Rattle.aig_graph.proofs.Growing.{goes_on, fits_later, shown, stays, literal_true}
use Rattle.aig_graph.specs.Words.{bits, number, worth}
use Rattle.aig_graph.proofs.Numbers.{take_number, taken_below, equal_more}
use Rattle.aig_graph.proofs.compare.equal.Goals as goal

pub loop-i-init : goal.loop-i-init
loop-i-init c = record {
  extends = stays _;
  sound = c.requires.sound;
  shows = record { fits = (omega arith); value = λ f bs x same. literal_true bs f.ands };
}

pub loop-i-preserved : goal.loop-i-preserved
loop-i-preserved c =
    let d = gates_of c.args.graph.now in
    let i = c.loop-i.i in
    let xs = c.args.xs.now in
    let ys = c.args.ys.now in
    let inv = c.loop-i.invariant in
    let same : length xs ≡ length ys = c.requires.same in
    let h : i < length xs = omega arith in
    let k : i < length ys = omega arith in
    let x = fits_later _ _ inv.extends _ (All-get_or (IsLiteral d) xs i 0 h c.requires.first) in
    let y = fits_later _ _ inv.extends _ (All-get_or (IsLiteral d) ys i 0 k c.requires.second) in
    let m1 = c.in_ok-differs.ensures inv.sound x y in
    let m2 = c.in_ok-all.ensures m1.sound (fits_later _ _ m1.extends _ inv.shows.fits) (c.not.ensures.within _ m1.shows.fits) in
    let y1 = goes_on _ _ _ m1.extends m2.extends in
    record {
      extends = goes_on _ _ _ inv.extends y1;
      sound = m2.sound;
      shows = record {
        fits = m2.shows.fits;
        value = λ f bs o len.
            let w = values _ f.ands in
            let u = literal w (get_or xs i 0) in
            let v = literal w (get_or ys i 0) in
            let X = number (bits w (take i xs)) in
            let Y = number (bits w (take i ys)) in
            let before = shown _ _ _ _ y1 inv.shows f bs o len in
            let differs = shown _ _ _ _ m2.extends m1.shows f bs o len in
            let all = m2.shows.value f bs o len in
            all ∙ (ap (λ z. z && literal w c.not.result) before
            ∙ (ap (λ z. (X == Y) && z) (c.not.ensures.value w ∙ ap not differs)
            ∙ (equal_more X Y (2 ^ i) u v (taken_below w xs i (omega arith)) (taken_below w ys i (omega arith))
            ∙ (ap (λ z. z == Y + worth v (2 ^ i)) (sym (take_number w xs i h)) ∙ ap (λ z. number (bits w (take (i + 1) xs)) == z) (sym (take_number w ys i k))))));
      };
    }
