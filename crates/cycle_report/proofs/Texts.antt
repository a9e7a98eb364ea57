-- The lines of a report, as one piece after another.
use Rattle.std.proofs.Common.{◌≡◌, ℕ, zero, suc, Bool, true, false, List, ◌∷◌, ◌++◌, codes, refl, append_assoc}
use Rattle.std.specs.Fmt.{decimal}
use Rattle.hls_base.specs.declared.settings.Settings.{Settings}
use Rattle.hls_base.specs.PlaceText.{part_text}
use Rattle.cycle_report.specs.ReportText.{line, flag_text, period_words, some_number, head_lines, last_lines}

pub some_part : (n : ℕ) → some_number (codes ".") n ≡ part_text n
some_part zero = refl
some_part (suc n) = refl

pub flag_period : (b : Bool) (p : ℕ) → line (flag_text b ∷ period_words p) ≡ flag_text b ++ (some_number (codes " period ") p ++ codes "\n")
flag_period true zero = refl
flag_period true (suc p) = refl
flag_period false zero = refl
flag_period false (suc p) = refl

flatten : (w0 t n w1 m w2 d w3 p w4 x f q b : List ℕ) → x ≡ f ++ (q ++ n) →
    w0 ++ ((t ++ n) ++ ((w1 ++ (m ++ (w2 ++ (d ++ (w3 ++ (p ++ (w4 ++ x))))))) ++ b))
    ≡ w0 ++ (t ++ (n ++ (w1 ++ (m ++ (w2 ++ (d ++ (w3 ++ (p ++ (w4 ++ (f ++ (q ++ (n ++ b))))))))))))
flatten w0 t n w1 m w2 d w3 p w4 x f q b e = rw e (simp append_assoc)

-- the lines before the costs
abbrev pub head_pieces : Settings → ℕ → List ℕ
head_pieces s base =
    codes "hls-report 1\ntop " ++ (s.top
    ++ (codes "\nsettings mul " ++ (decimal s.mul
    ++ (codes " div " ++ (decimal s.div
    ++ (codes " ports " ++ (decimal s.ports
    ++ (codes " plain " ++ (flag_text s.plain
    ++ (some_number (codes " period ") s.period
    ++ (codes "\nbase " ++ (decimal base ++ codes "\n"))))))))))))

pub head_flat : (s : Settings) (base : ℕ) → head_lines s base ≡ head_pieces s base
head_flat s base = flatten (codes "hls-report 1\ntop ") s.top (codes "\n") (codes "settings mul ") (decimal s.mul) (codes " div ") (decimal s.div)
    (codes " ports ") (decimal s.ports) (codes " plain ") (line (flag_text s.plain ∷ period_words s.period)) (flag_text s.plain) (some_number (codes " period ") s.period)
    (codes "base " ++ (decimal base ++ codes "\n")) (flag_period s.plain s.period)

flatten_last : (w d n e : List ℕ) → (w ++ (d ++ n)) ++ e ≡ w ++ (d ++ (n ++ e))
flatten_last w d n e = simp append_assoc

pub last_flat : (n : ℕ) → last_lines n ≡ codes "registers " ++ (decimal n ++ codes "\nend\n")
last_flat n = flatten_last (codes "registers ") (decimal n) (codes "\n") (codes "end\n")
