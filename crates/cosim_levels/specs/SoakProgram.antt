-- The program that is made from a number, and what it is run on. All is drawn from the number, one after another.
use Rattle.std.specs.Prelude.{ℕ, zero, suc, ◌+◌, ◌*◌, ◌/◌, ◌%◌, ◌^◌, ◌==◌, List, [], ◌∷◌, ◌++◌, codes, if◌then◌else◌}
use Rattle.std.specs.Fmt.{decimal}

-- ---- draws

-- the number behind x
abbrev pub next : ℕ → ℕ
next x = (x * 6364136223846793005 + 1442695040888963407) % 2 ^ 64

-- what is drawn behind x
abbrev pub draw : ℕ → ℕ
draw x = next x / 2 ^ 33

-- the number behind so many draws
unfoldable pub behind : ℕ → ℕ → ℕ
behind x zero = x
behind x (suc n) = behind (next x) n

-- so many draws, each modulo 65,536
unfoldable pub drawn : ℕ → ℕ → List ℕ
drawn x zero = []
drawn x (suc n) = draw x % 65536 ∷ drawn (next x) n

-- ---- the text

-- the operator of a draw
abbrev pub sign : ℕ → List ℕ
sign n =
    if n == 0 then codes "+"
    else (if n == 1 then codes "-"
    else (if n == 2 then codes "*"
    else (if n == 3 then codes "^"
    else (if n == 4 then codes "|"
    else codes "&"))))

-- a loop that changes each element
unfoldable pub loop_line : ℕ → ℕ → List ℕ
loop_line operator constant = codes "for (int i = 0; i < 64; i++) a[i] = (a[i] " ++ (sign operator ++ (codes " k) + " ++ (decimal constant ++ codes "u;\n")))

-- so many loops, each with a drawn operator and a drawn constant
unfoldable pub loop_lines : ℕ → ℕ → List ℕ
loop_lines x zero = []
loop_lines x (suc n) = loop_line (draw x % 6) (draw (next x) % 1000) ++ loop_lines (next (next x)) n

-- how many of them multiply
unfoldable pub count_products : ℕ → ℕ → ℕ
count_products x zero = 0
count_products x (suc n) = (if draw x % 6 == 2 then 1 else 0) + count_products (next (next x)) n

abbrev pub program_text : ℕ → List ℕ
program_text number =
    codes "unsigned f(unsigned a[64], unsigned k) {\nunsigned s = 0;\n"
    ++ (loop_lines number 40 ++ codes "for (int i = 0; i < 64; i++) s = s + a[i];\nreturn s;\n}\n")

-- ---- the inputs, which are drawn behind the loops

abbrev pub elements : ℕ → List ℕ
elements number = drawn (behind number 80) 64

abbrev pub argument : ℕ → ℕ
argument number = draw (behind (behind number 80) 64) % 65536
