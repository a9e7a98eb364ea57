-- The lines and the status of a verdict.
use Rattle.std.specs.Prelude.{ℕ, ℤ, List, [], ◌∷◌, ◌++◌, codes, Option, Some, None}
use Rattle.std.specs.Fmt.{decimal, signed_decimal}
use Rattle.hls_base.specs.PlaceText.{place_text}
use Rattle.hls_base.specs.declared.place.Place.{Place}
use Rattle.hls_base.specs.declared.refusal.Refusal.{Refusal}
use Rattle.hls_base.specs.declared.refusal.UbRule.{UbRule}
use Rattle.hls_base.specs.declared.refusal.UbRule.TheVariants as ub
use Rattle.cosim_levels.specs.declared.verdict.Item.{Item}
use Rattle.cosim_levels.specs.declared.verdict.Item.TheVariants as item
use Rattle.cosim_levels.specs.declared.verdict.Level.{Level}
use Rattle.cosim_levels.specs.declared.verdict.Level.TheVariants as level
use Rattle.cosim_levels.specs.declared.verdict.Difference.{Difference}
use Rattle.cosim_levels.specs.Verdicts as verdict
use Rattle.cosim_levels.specs.Verdicts.{ShownArray, PlainVerdict}

abbrev pub rule_name : UbRule → List ℕ
rule_name ub.Overflow = codes "Overflow"
rule_name ub.DivideByZero = codes "DivideByZero"
rule_name ub.QuotientRange = codes "QuotientRange"
rule_name ub.ShiftCount = codes "ShiftCount"
rule_name ub.ShiftLeft = codes "ShiftLeft"
rule_name ub.Index = codes "Index"
rule_name ub.Unset = codes "Unset"
rule_name ub.UnsetElement = codes "UnsetElement"
rule_name ub.NoReturn = codes "NoReturn"

abbrev pub level_name : Level → List ℕ
level_name level.C = codes "c"
level_name level.Verilog = codes "verilog"

-- an element is told by its array and its number, counted row by row
abbrev pub item_words : Item → List ℕ
item_words item.Ret = codes "ret"
item_words (item.Element name index) = name ++ (codes " " ++ decimal index)
item_words item.Cycles = codes "cycles"

-- each number behind a blank
abbrev pub numbers : List ℤ → List ℕ
numbers [] = []
numbers (n ∷ ns) = codes " " ++ (signed_decimal n ++ numbers ns)

abbrev pub result_word : Option ℤ → List ℕ
result_word None = codes "-"
result_word (Some n) = signed_decimal n

abbrev pub result_line : Option ℤ → List ℕ
result_line result = codes "c ret " ++ (result_word result ++ codes "\n")

abbrev pub array_line : ShownArray → List ℕ
array_line a = codes "array " ++ (a.name ++ (numbers a.values ++ codes "\n"))

abbrev pub array_lines : List ShownArray → List ℕ
array_lines [] = []
array_lines (a ∷ arrays) = array_line a ++ array_lines arrays

-- the cycles of the formula, the steps of the clocked machine, and the cycles of the module
abbrev pub count_lines : ℕ → ℕ → List ℕ
count_lines cycles clock =
    codes "formula " ++ (decimal cycles ++ (codes "\nclock " ++ (decimal clock ++ (codes "\nverilog " ++ (decimal cycles ++ codes "\nagree\n")))))

abbrev pub differ_line : Difference → List ℕ
differ_line d = codes "differ verilog " ++ (item_words d.item ++ (codes " " ++ (signed_decimal d.expected ++ (codes " " ++ (signed_decimal d.found ++ codes "\n")))))

abbrev pub waiting_line : Level → ℕ → List ℕ
waiting_line l limit = codes "running " ++ (level_name l ++ (codes " " ++ (decimal limit ++ codes "\n")))

abbrev pub file_line : List ℕ → Refusal → List ℕ
file_line name r = name ++ (codes " rule " ++ (decimal r.rule ++ (codes " at " ++ (place_text r.place ++ codes "\n"))))

abbrev pub undefined_line : UbRule → Place → List ℕ
undefined_line rule at = codes "undefined " ++ (rule_name rule ++ (codes " at " ++ (place_text at ++ codes "\n")))

abbrev pub verdict_lines : PlainVerdict → List ℕ
verdict_lines (verdict.agree result arrays cycles clock) = result_line result ++ (array_lines arrays ++ count_lines cycles clock)
verdict_lines (verdict.differ difference) = differ_line difference
verdict_lines (verdict.waiting l limit) = waiting_line l limit
verdict_lines (verdict.run_line line) = codes "run line " ++ (decimal line ++ codes "\n")
verdict_lines (verdict.module_bad refusal) = file_line (codes "module") refusal
verdict_lines (verdict.report_bad refusal) = file_line (codes "report") refusal
verdict_lines (verdict.undefined rule at) = undefined_line rule at

abbrev pub verdict_status : PlainVerdict → ℕ
verdict_status (verdict.agree result arrays cycles clock) = 0
verdict_status (verdict.differ difference) = 5
verdict_status (verdict.waiting l limit) = 6
verdict_status (verdict.run_line line) = 7
verdict_status (verdict.module_bad refusal) = 8
verdict_status (verdict.report_bad refusal) = 8
verdict_status (verdict.undefined rule at) = 9
