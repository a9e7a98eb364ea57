use Rattle.std.proofs.Common.{sym, subst}
use Rattle.hls_base.specs.TextPlaces.{text_start}
use Rattle.verilog_syntax.proofs.Progress.{Progress, Moves, begun, gap_moved, token_moved}
use Rattle.verilog_syntax.proofs.lexer.lex.Goals as goal
use Rattle.verilog_syntax.proofs.lexer.lex.Goals.{in-Gap, in-Lexeme+in_ok-push-in-Lexeme}

pub loop-left-init : goal.loop-left-init
loop-left-init c = subst (λ x. Progress c.args.bytes.now x c.args.bytes.now text_start) (sym c.new-tokens.ensures.items) (begun c.args.bytes.now)

pub loop-left-preserved : goal.loop-left-preserved
loop-left-preserved c =
    let moves : Moves c.loop-left.left.now c.split_at.result.0.now c.split_at.result.1.now c.match-piece_at.n c.loop-left.place c.place_after-place.result = record {
      front = c.split_at.ensures.front;
      back = c.split_at.ensures.back;
      value = c.place_after-place.ensures.value;
      line = c.place_after-place.ensures.line;
      column = c.place_after-place.ensures.column;
    } in
    elim c.match-piece_at.branch [
      | in-Gap w ↦
          gap_moved c.args.bytes.now c.loop-left.tokens.items c.match-piece_at.tokens.items c.loop-left.left.now c.split_at.result.0.now c.split_at.result.1.now c.loop-left.place c.place_after-place.result
          w.in-Gap.n c.match-piece_at.n w.in-Gap.ensures w.n-is (let h = w.tokens-is in cc) moves c.loop-left.invariant
      | in-Lexeme+in_ok-push-in-Lexeme w ↦
          token_moved c.args.bytes.now c.loop-left.tokens.items c.match-piece_at.tokens.items c.loop-left.left.now c.split_at.result.0.now c.split_at.result.1.now c.loop-left.place c.place_after-place.result
          w.in-Lexeme.kind w.in-Lexeme.n c.match-piece_at.n w.in-Lexeme.ensures w.n-is (let h = w.tokens-is in let k = w.in_ok-push-in-Lexeme.ensures.items in cc) moves c.loop-left.invariant
    ]
