-- The order in which requests for units are served is that of their fields.
use Rattle.std.proofs.Common.{◌≡◌, ℕ, refl}
use denote.Param.{read}
use Rattle.std.specs.declared.cmp.Ordering.{Ordering}
use Rattle.std.specs.declared.cmp.Ord.Ghosts.{cmp}
use Rattle.ir_core.specs.declared.timing.UnitClass.{UnitClass}
use Rattle.ir_core.specs.declared.timing.UnitClass.TheVariants as u
use Rattle.unit_binding.specs.declared.bind.Request.{Request}
use Rattle.unit_binding.specs.contracts.bind.RequestOrd.TheImpl as impl
use Rattle.report_rows.specs.Timing.{request_order}

abbrev pub serving : Request → Request → Ordering
serving = read (cmp {X-1 = Request}) impl.ghosts

abbrev request : UnitClass → ℕ → ℕ → ℕ → Request
request class time op occupancy = record { class = class; time = time; op = op; occupancy = occupancy }

by_class : (c d : UnitClass) (t o k t' o' k' : ℕ) → serving (request c t o k) (request d t' o' k') ≡ request_order (request c t o k) (request d t' o' k')
by_class (u.Multiplier x) (u.Multiplier y) t o k t' o' k' = refl
by_class (u.Multiplier x) (u.Divider y) t o k t' o' k' = refl
by_class (u.Multiplier x) (u.Port y) t o k t' o' k' = refl
by_class (u.Divider x) (u.Multiplier y) t o k t' o' k' = refl
by_class (u.Divider x) (u.Divider y) t o k t' o' k' = refl
by_class (u.Divider x) (u.Port y) t o k t' o' k' = refl
by_class (u.Port x) (u.Multiplier y) t o k t' o' k' = refl
by_class (u.Port x) (u.Divider y) t o k t' o' k' = refl
by_class (u.Port x) (u.Port y) t o k t' o' k' = refl

pub serving_is : serving ≡ request_order
serving_is = λ i p q. by_class p.class q.class p.time p.op p.occupancy q.time q.op q.occupancy i
