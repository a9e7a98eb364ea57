-- When a part of a run of a core program does what a part of a run of the program does.
use Rattle.std.specs.Prelude.{◌≡◌, List, ℤ}
use Rattle.hls_base.specs.declared.point.Point.{Point}
use Rattle.c_token.specs.declared.ctype.CType.{CType}
use Rattle.c_meaning.specs.declared.value.Value.{Value}
use Rattle.c_meaning.specs.Store.{Object}
use Rattle.c_meaning.specs.Steps as c
use Rattle.c_meaning.specs.Expression.{value}
use Rattle.hls_base.specs.Steps as core
use Rattle.c_meaning.specs.CoreRuns.Cells.{Cells}

-- Where the first one ends, the second one ends behind the same points, with as many that may still be passed, and with values, objects and a store that are related. Where behaviour is undefined in the first one, it is so in the second by the same rule and at the same place, and where the first one waits, so does the second.
abbrev pub Follows : {A B : Type 0} → (A → List Object → B → Cells → Type 0) → List Point → c.Outcome A → core.Ran Cells B → Type 0
Follows {A} {B} R trace (c.went v s) r = (w : B) × (t : Cells) × (r ≡ core.ran trace (core.went w t s.left)) × R v s.objects w t
Follows R trace (c.undefined rule at) r = r ≡ core.ran trace (core.undefined rule at)
Follows R trace c.waiting r = r ≡ core.ran trace core.waiting

abbrev pub Same : {A B : Type 0} → (A → List Object → B → Cells → Type 0) → c.Ran A → core.Ran Cells B → Type 0
Same R q r = Follows R q.trace q.outcome r

-- the same value, and objects and a store that are related
abbrev pub Equal : {A : Type 0} → (List Object → Cells → Type 0) → A → List Object → A → Cells → Type 0
Equal I v s w t = (v ≡ w) × I s t

-- a value of this type and its number
abbrev pub Valued : (List Object → Cells → Type 0) → CType → Value → List Object → ℤ → Cells → Type 0
Valued I kind v s w t = (v ≡ value kind w) × I s t
