-- One line that is put, and perhaps the last line after it.
use Rattle.std.proofs.Common.{ℕ, List, ◌++◌, take, Option, Result, Ok, Err, OnOk, OnErr, ap, ◌∙◌, append_assoc}
use Rattle.hls_base.specs.Outside.{WhereTold, PutsAll, PutsPrefix}
use Rattle.hls_base.proofs.OutsideLemmas.{WhereTold-then, WhereTold-weaker, PutsPrefix-whole}
use Rattle.hls_cli.specs.SynthRun.{PutsCutLine}

-- whether all was put or not
pub tried : {A E : Type 0} (r : Result A E) (line : List ℕ) (old new : Option (List ℕ)) → OnOk r (WhereTold (PutsAll line) old new) → OnErr r (WhereTold (PutsPrefix line) old new) →
    WhereTold (PutsPrefix line) old new
tried (Ok x) line old new all cut = WhereTold-weaker old new all (PutsPrefix-whole line)
tried (Err e) line old new all cut = cut

two_prefixes : (line last x y z : List ℕ) → PutsPrefix line x y → PutsPrefix last y z → PutsCutLine line last x z
two_prefixes line last x y z (n, e) (k, f) = (n, k, f ∙ (ap (λ w. w ++ take k last) e ∙ append_assoc x (take n line) (take k last)))

pub cut_line : (line last : List ℕ) (old between new : Option (List ℕ)) → WhereTold (PutsPrefix line) old between → WhereTold (PutsPrefix last) between new →
    WhereTold (PutsCutLine line last) old new
cut_line line last old between new first second = WhereTold-then old between new first second (two_prefixes line last)
