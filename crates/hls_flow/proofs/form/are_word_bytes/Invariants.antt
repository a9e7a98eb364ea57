use Rattle.std.proofs.Common.{◌≡◌, take, true}
use Rattle.std.specs.List.{list_all}
use Rattle.cycle_report.specs.ReportForm.{is_word_byte}
use Rattle.hls_flow.proofs.form.are_word_bytes.Given as goal

abbrev pub invariant-loop-byte : goal.invariant-loop-byte
invariant-loop-byte l =
    list_all (is_word_byte) (take l.byte-index l.bytes) ≡ true
