use Rattle.std.proofs.Common.{refl}
use Rattle.flat_programs.specs.Memory.Contents.{words_in}
use Rattle.clock_machine.specs.declared.state.Position.TheVariants as position
use Rattle.clock_machine.specs.declared.state.State.{State}
use Rattle.clock_machine.specs.Standing.{KeepsRoom}
use Rattle.clock_machine.specs.Starts.{words_of}
use Rattle.clock_machine.proofs.Beginning.{first_moment, first_gates, first_memories}
use Rattle.clock_machine.proofs.Staying.{body_stays}
use Rattle.clock_machine.proofs.state.State.begin.Goals as goal

pub returns-clause-begins : goal.returns-clause-begins
returns-clause-begins c = λ shapes b body.
    let s0 = c.args.self.now in
    let t = words_of s0 in
    let w = c.args.work.now in
    let s1 : State = record s0 { registers = c.begin_lines.new.registers; moment = record { time = 0; phase = 0; failed = 0 }; position = position.Inside c.args.node } in
    let room : KeepsRoom s0 s1 = record { registers = c.begin_lines.ensures.sizes; args = refl; fresh = refl; dims = refl; first = refl } in record {
      at = record {
        body = body_stays shapes b w s0 s1 room body;
        shows = c.begin_lines.ensures.shows shapes b (words_in s0.memories) body.form body.room.lines body.whole;
        moment = first_moment b t body.form.positive;
      };
      gates = first_gates b t;
      memories = first_memories b t;
    }
