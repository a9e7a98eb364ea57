use Rattle.std.proofs.Common.{◌≡◌, ℕ, ◌+◌, ◌<◌, ◌++◌, ◌∷◌, [], ◌⊎◌, List, sym, ap, subst, ◌∙◌, arith}
use Rattle.std.specs.BTreeSet.{insert_key}
use Rattle.reg_binding.specs.declared.life.Life.{Life}
use Rattle.reg_binding.specs.Sharing.{life_at}
use Rattle.reg_binding.specs.Pools.{IsPool, Has, PicksFree, PicksNew, Takes}
use Rattle.reg_binding.proofs.Members.{pair_cmp}
use Rattle.reg_binding.proofs.Pools.{takes_there, takes_new}
use Rattle.reg_binding.proofs.pool.Pool.take.Goals as goal

pub returns-in_ok-push-clause-taken : goal.returns-in_ok-push-clause-taken
returns-in_ok-push-clause-taken c = λ lives n choices time is order width le shared p.
    let old = c.release.new.self in
    let mid = c.pick-register.new.self in
    let r = c.pick-register.result in
    let widths = c.args.widths.now.items in
    let back : c.args.life.now ≡ life_at lives n = sym is in
    let picked : PicksFree old mid r ⊎ PicksNew widths old mid r = rw c.deref.ensures.value at c.pick-register.ensures.picked in
    let busy = c.in_ok-insert.ensures.keys ∙ ap (λ ks. insert_key pair_cmp ks (c.args.life.now.start + c.args.life.now.length, r)) c.pick-register.ensures.busy in
    subst (λ (ws : List ℕ). Takes lives n choices widths ws (record { width = mid.width; free = mid.free; busy = c.insert.new.self; next = mid.next }) r) (ap (λ (l : Life). widths ++ l.width ∷ []) is ∙ sym c.in_ok-push.ensures.items)
    (takes_new lives n choices widths old mid c.insert.new.self r order
    (c.release.ensures.width ∙ width ∙ ap (λ (l : Life). l.width) back) shared
    (subst (λ (l : Life). IsPool lives n choices widths l.start old) back (c.in_ok-release.ensures.pool lives n choices widths time le p))
    (subst (λ (l : Life). (k end_ : ℕ) → Has old.busy.keys (end_, k) → l.start < end_) back c.in_ok-release.ensures.later)
    c.pick-register.ensures.width
    (subst (λ (l : Life). c.insert.new.self.keys ≡ insert_key pair_cmp old.busy.keys (l.start + l.length, r)) back busy)
    picked (omega (arith, c.if-register-len.true, c.len.ensures)))

pub returns-else-register-len-clause-taken : goal.returns-else-register-len-clause-taken
returns-else-register-len-clause-taken c = λ lives n choices time is order width le shared p.
    let old = c.release.new.self in
    let mid = c.pick-register.new.self in
    let r = c.pick-register.result in
    let widths = c.args.widths.now.items in
    let back : c.args.life.now ≡ life_at lives n = sym is in
    let picked : PicksFree old mid r ⊎ PicksNew widths old mid r = rw c.deref.ensures.value at c.pick-register.ensures.picked in
    let busy = c.in_ok-insert.ensures.keys ∙ ap (λ ks. insert_key pair_cmp ks (c.args.life.now.start + c.args.life.now.length, r)) c.pick-register.ensures.busy in
    takes_there lives n choices widths old mid c.insert.new.self r order
    (c.release.ensures.width ∙ width ∙ ap (λ (l : Life). l.width) back) shared
    (subst (λ (l : Life). IsPool lives n choices widths l.start old) back (c.in_ok-release.ensures.pool lives n choices widths time le p))
    (subst (λ (l : Life). (k end_ : ℕ) → Has old.busy.keys (end_, k) → l.start < end_) back c.in_ok-release.ensures.later)
    c.pick-register.ensures.width
    (subst (λ (l : Life). c.insert.new.self.keys ≡ insert_key pair_cmp old.busy.keys (l.start + l.length, r)) back busy)
    picked (omega (arith, c.if-register-len.false, c.len.ensures))
