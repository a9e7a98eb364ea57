use Rattle.std.proofs.Common.{◌∷◌, [], List, ℕ, arith, get_or}
use Rattle.std.specs.Prelude.{nat_lt}
use Rattle.std.proofs.lemmas.Bool.{lt-ltb, le-ltb}
use Rattle.std.proofs.lemmas.List.Sums.{count_by_more_yes, count_by_more_no}
use Rattle.report_rows.proofs.initial.subscript_bits.Goals as goal
use Rattle.report_rows.proofs.initial.subscript_bits.Goals.{then-power-length, else-power-length}

abbrev powers : List ℕ
powers = 2 ∷ 4 ∷ 8 ∷ 16 ∷ 32 ∷ 64 ∷ 128 ∷ 256 ∷ 512 ∷ 1024 ∷ 2048 ∷ 4096 ∷ 8192 ∷ 16384 ∷ 32768 ∷ []

pub loop-power-preserved : goal.loop-power-preserved
loop-power-preserved c = elim c.if-power-length.branch [
  | then-power-length w ↦ omega (
    arith,
    w.bits-is,
    c.loop-power.invariant,
    count_by_more_yes (λ power. nat_lt power c.args.length) powers c.loop-power.power-index 0 c.loop-power-test.true (lt-ltb (get_or powers c.loop-power.power-index 0) c.args.length w.if-power-length.true),
  )
  | else-power-length w ↦ omega (
    arith,
    w.bits-is,
    c.loop-power.invariant,
    count_by_more_no (λ power. nat_lt power c.args.length) powers c.loop-power.power-index 0 c.loop-power-test.true (le-ltb (get_or powers c.loop-power.power-index 0) c.args.length w.if-power-length.false),
  )
]
