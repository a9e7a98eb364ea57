-- What words show as a run begins and as it ends.
pub mod Contents
pub mod FirstWords
use Rattle.std.specs.Prelude.{◌≡◌, ℕ, List, Option}
use Rattle.hls_base.specs.FileScope.{FileScope}
use Rattle.hls_base.specs.declared.inputs.Inputs.{Inputs}
use Rattle.hls_base.specs.declared.point.Point.{Point}
use Rattle.c_meaning.specs.Run.{ended}
use Rattle.pieces.specs.declared.expanded.Expanded.{Expanded}
use Rattle.pieces.specs.Program.{ExpandedTree, expanded_of}
use Rattle.hls_base.specs.Steps.{went}
use Rattle.c_meaning.specs.PieceRuns.Values.{Store}
use Rattle.c_meaning.specs.PieceRuns.Pieces.{Way}
use Rattle.c_meaning.specs.PieceRuns.Runs.{frame_of, started, answer_of}
use Rattle.ir_core.specs.declared.cfg.Frame.{Frame}
use Rattle.ir_lower.specs.Frames as frames
use Rattle.ir_lower.specs.Frames.{frame_view}
use Rattle.ir_core.specs.Bodies.{Words}
use Rattle.ir_core.specs.FirstContents.{first_words}
use Rattle.pass_runs.specs.ConvertRuns.Typed.{Fits}
use Rattle.pass_runs.specs.ConvertRuns.LoweredConversions.Suiting.{widths_of, words_of}
use Rattle.pass_runs.specs.LowerRuns.Suits.{scope_of}
use Rattle.pass_runs.specs.LowerRuns.Holding.{Holds, none_hidden, ArraysAreShort}
use Rattle.timed_pieces.specs.FlatRuns.{AreDone}
use Rattle.expand_runs.specs.Reading.{IsTyped}
use Rattle.timed_pieces.specs.StartedWords.Contents.{Begins, HostsAreApart, ResultIsThere, KeptAreThere, host_words, file_words}
use Rattle.timed_pieces.specs.StartedWords.FirstWords.{first_file, FillVariables, FillHosts, HasFirstContents}

-- Words that begin with these inputs and have their widths show the store that the run starts with, for the numbers of the words that happen to be elsewhere.
abbrev pub StartedWordsHold : Type 0
StartedWordsHold = (e : ExpandedTree) (kept : FileScope) (scalars : List ℕ) (arrays : List (List ℕ)) (t : Words) → ArraysAreShort (frame_of e) → HostsAreApart e.arrays
    → Fits (widths_of (scope_of (frame_of e))) (words_of (scope_of (frame_of e))) t → Begins e kept scalars arrays t
    → (first : Store) × IsTyped (frame_of e) first × Holds (frame_of e) none_hidden (started e first kept scalars arrays) t

-- Where a run of pieces has ended and words show its store, the answer is the word returned, the elements in the memories that the host reaches, and what the words of file scope are.
abbrev pub EndedWordsShow : Type 0
EndedWordsShow = (e : ExpandedTree) (way : Way) (s : Store) (value : Option ℕ) (t : Words) (trace : List Point) (left : ℕ) → ArraysAreShort (frame_of e) → KeptAreThere e → ResultIsThere e.variables e.ret e.result
    → AreDone (frame_of e) e.result way s value t → answer_of e trace (went way s left) ≡ ended value (host_words e.arrays 0 t.memories) (file_words e t) trace

-- The first contents of a program's frame begin with its inputs and with what file scope keeps at first.
abbrev pub FirstWordsBegin : Type 0
FirstWordsBegin = (x : Expanded) (frame : Frame) (inputs : Inputs) → frame_view frame ≡ frames.frame_of x → ArraysAreShort (frame_of (expanded_of x)) → HasFirstContents (expanded_of x)
    → FillVariables (expanded_of x) x.params.items inputs.scalars → FillHosts (expanded_of x).arrays inputs.arrays
    → Begins (expanded_of x) (first_file (expanded_of x)) inputs.scalars inputs.arrays (first_words frame inputs)

-- They have the widths of their variables and memories.
abbrev pub FirstWordsFit : Type 0
FirstWordsFit = (x : Expanded) (frame : Frame) (inputs : Inputs) → frame_view frame ≡ frames.frame_of x → ArraysAreShort (frame_of (expanded_of x)) → HasFirstContents (expanded_of x)
    → FillVariables (expanded_of x) x.params.items inputs.scalars → FillHosts (expanded_of x).arrays inputs.arrays
    → Fits (widths_of (scope_of (frame_of (expanded_of x)))) (words_of (scope_of (frame_of (expanded_of x)))) (first_words frame inputs)
