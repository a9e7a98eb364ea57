-- One step at small nodes.
use Rattle.std.proofs.Common.{◌≡◌, ℕ, ◌==◌, true, false, [], ◌∷◌, refl, arith}
use Rattle.hls_base.specs.declared.number.VarId.{VarId}
use Rattle.ir_core.specs.declared.body.Out.{Out}
use Rattle.ir_core.specs.declared.body.Source.TheVariants as source
use Rattle.reg_binding.specs.Liveness.{Summary, Flow, IsLive, is_entered, goes, stays}

abbrev variable : ℕ → VarId
variable n = record { 0 = n }

abbrev into : ℕ → ℕ → Out
into to from = record { variable = variable to; value = record { value = source.Variable (variable from); distance = 0 } }

-- a block that reads variable 2, puts variable 1 into variable 0, and returns
abbrev block : Summary
block = record { reads = variable 2 ∷ []; outs = into 0 1 ∷ []; next = []; returns = true }

read : is_entered block (λ n. false) 2 ≡ true
read = refl

set_before_it_is_read : is_entered block (λ n. n == 0) 0 ≡ false
set_before_it_is_read = refl

goes_into_a_live_one : is_entered block (λ n. n == 0) 1 ≡ true
goes_into_a_live_one = refl

goes_into_a_dead_one : is_entered block (λ n. false) 1 ≡ false
goes_into_a_dead_one = refl

-- where variable 0 stays for the next run, variable 1 is live
abbrev flow : Flow
flow = record { summaries = block ∷ []; kept = variable 0 ∷ []; variables = 3 }

is_live : IsLive flow block 1
is_live = goes 0 (into 0 1) refl refl (omega arith) (stays refl refl)
