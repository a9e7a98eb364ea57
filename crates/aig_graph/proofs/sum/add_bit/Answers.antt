use Rattle.std.proofs.Common.{◌+◌, ◌&&◌, ◌||◌, ap, ◌∙◌}
use Rattle.aig_graph.specs.Graphs.{literal, values}
use Rattle.aig_graph.specs.Making.{is_xor}
use Rattle.aig_graph.proofs.Growing.{goes_on, fits_later, shown}
use Rattle.aig_graph.specs.Words.{worth}
use Rattle.aig_graph.proofs.Numbers.{full_sum}
use Rattle.aig_graph.proofs.sum.add_bit.Goals as goal

pub returns : goal.returns
returns c = λ sound x y z.
    let m1 = c.in_ok-either.ensures sound x y in
    let m2 = c.in_ok-bit.ensures m1.sound m1.shows.fits (fits_later _ _ m1.extends _ z) in
    let x2 = goes_on _ _ _ m1.extends m2.extends in
    let m3 = c.in_ok-both.ensures m2.sound (fits_later _ _ x2 _ x) (fits_later _ _ x2 _ y) in
    let x3 = goes_on _ _ _ x2 m3.extends in
    let m4 = c.in_ok-through.ensures m3.sound (fits_later _ _ (goes_on _ _ _ m2.extends m3.extends) _ m1.shows.fits) (fits_later _ _ x3 _ z) in
    let m5 = c.in_ok-carry.ensures m4.sound (fits_later _ _ m4.extends _ m3.shows.fits) m4.shows.fits in
    let y4 = goes_on _ _ _ m4.extends m5.extends in
    let y3 = goes_on _ _ _ m3.extends y4 in
    let y2 = goes_on _ _ _ m2.extends y3 in
    record {
      extends = goes_on _ _ _ m1.extends y2;
      sound = m5.sound;
      bit = fits_later _ _ y3 _ m2.shows.fits;
      carry = m5.shows.fits;
      value = λ f bs o same.
          let w = values _ f.ands in
          let X = literal w c.args.x in
          let Y = literal w c.args.y in
          let C = literal w c.args.carry in
          let e = shown _ _ _ _ y2 m1.shows f bs o same in
          let b = shown _ _ _ _ y3 m2.shows f bs o same in
          let p = shown _ _ _ _ y4 m3.shows f bs o same in
          let t = shown _ _ _ _ m5.extends m4.shows f bs o same in
          let k = m5.shows.value f bs o same in
          ap (λ z. worth z 1 + worth (literal w c.in_ok-carry.carry) 2) (b ∙ ap (λ z. is_xor z C) e)
          ∙ (ap (λ z. worth (is_xor (is_xor X Y) C) 1 + worth z 2) (k ∙ (ap (λ z. z || literal w c.in_ok-through.through) p ∙ ap (λ z. (X && Y) || z) (t ∙ ap (λ z. z && C) e)))
          ∙ full_sum X Y C);
    }
