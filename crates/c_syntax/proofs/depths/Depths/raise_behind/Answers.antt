use Rattle.std.proofs.Common.{suc, ◌+◌, ◌≡◌, subst, arith}
use Rattle.c_syntax.specs.Notes.{Shows, hold_from}
use Rattle.c_syntax.proofs.Holding.{shows_behind, shows_none_behind}
use Rattle.c_syntax.proofs.depths.Depths.raise_behind.Goals as goal

pub returns-then-first-len : goal.returns-then-first-len
returns-then-first-len c = λ noted s.
    shows_behind c.args.first c.raise.new.self.nestings.items c.raise.new.self.beyond noted
    (subst (λ k. Shows c.raise.new.self.nestings.items c.raise.new.self.beyond (hold_from k noted)) (let e : c.args.first + 1 ≡ suc c.args.first = omega arith in e) (c.raise.ensures noted s))

pub returns-else-first-len : goal.returns-else-first-len
returns-else-first-len c = λ noted s.
    let h = c.if-first-len.false in let l = c.len.ensures in
    shows_none_behind c.args.first c.args.self.now.nestings.items c.args.self.now.beyond noted (omega (arith, h, l)) s
