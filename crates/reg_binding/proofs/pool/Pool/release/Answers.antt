use Rattle.std.proofs.Common.{◌≡◌, ℕ, ◌≤◌, ◌∷◌, length, refl, ap, arith}
use Rattle.std.proofs.lemmas.Option.{slice_get_within}
use Rattle.reg_binding.proofs.Members.{front, each, up_to, pair_cmp}
use Rattle.std.specs.BTreeMap.Range.{IsLeBy}
use Rattle.reg_binding.proofs.Pools.{IsPool-later, IsPool-freed}
use Rattle.reg_binding.proofs.pool.Pool.release.Goals as goal

pub loop-turn-init : goal.loop-turn-init
loop-turn-init c = record {
  width = refl;
  left = omega arith;
  pool = λ lives n choices widths before le p. IsPool-later lives n choices widths before c.args.time c.args.self.now le p;
}

pub loop-turn-preserved : goal.loop-turn-preserved
loop-turn-preserved c =
    let keys = c.loop-turn.self.busy.keys in
    let rest = c.pop_first.new.self.keys in
    let end_ = c.in-Some-pop_first.field-0-0 in
    let r = c.in-Some-pop_first.register in
    let removal : keys ≡ (end_, r) ∷ rest = c.in-Some-pop_first.ensures.removal in
    let due : end_ ≤ c.args.time = (let is : (end_, r) ≡ c.in-Some.first.now = front keys rest (end_, r) c.in-Some.first.now removal c.in-Some.ensures.first in omega (arith, ap (λ (x : ℕ × ℕ). x.0) is, c.if-time-first.false)) in
    record {
      width = c.loop-turn.invariant.width;
      left = omega (arith, ap length removal, c.loop-turn.invariant.left);
      pool = λ lives n choices widths before le p.
          IsPool-freed lives n choices widths c.args.time end_ r c.loop-turn.self _ refl refl removal c.in_ok-insert.ensures.keys due (c.loop-turn.invariant.pool lives n choices widths before le p);
    }

pub returns-then-time-first-clause-later : goal.returns-then-time-first-clause-later
returns-then-time-first-clause-later c = λ r end_ found.
    (let le : c.in-Some.first.now.0 ≤ end_ = up_to c.in-Some.first.now (end_, r) (each (IsLeBy pair_cmp c.in-Some.first.now) c.loop-turn.self.busy.keys c.in-Some.ensures.all_from (end_, r) found) in
    omega (arith, c.if-time-first.true, le))

pub returns-clause-later : goal.returns-clause-later
returns-clause-later c = λ r end_ found. absurd (omega (arith, slice_get_within c.loop-turn.self.busy.keys found.0 (end_, r) found.1, c.loop-turn.invariant.left, c.loop-turn-test.false, c.loop-turn.auto._turn-end, c.len-turn-end.ensures.len))
