-- Reading what is kept of a document.
use Rattle.std.specs.Prelude.{ℕ, nat_lt, if◌then◌else◌, List, length, codes, Option, Result, Ok, Err}
use Rattle.std.specs.Option.{option_map}
use Rattle.sal_mail.specs.declared.effects.Actor.{Actor}
use Rattle.sal_ast.specs.declared.program.Program.{Program}
use Rattle.sal_document.specs.declared.constants.TheConstants.{LONGEST_DOCUMENT}
use Rattle.sal_document.specs.declared.shown.Replay.{Replay}
use Rattle.sal_document.specs.Documents.{Words}
use Rattle.sal_document.specs.code.Reading.{Place, ◌>>>◌, output_of, actor_of, step_of, fault_of, answer_of, head_at, section_at, tail_at, end_at}

-- a printed text without its theatre
abbrev pub printed_of : Words → Option (List ℕ)
printed_of words = option_map (λ x. x.1) (output_of words)

-- an actor with its next number, without its theatre
abbrev pub actor_kept : Program → Words → Option (Actor × ℕ)
actor_kept p words = option_map (λ x. (x.0, x.1)) (actor_of p words)

-- what is kept of the whole document
unfoldable pub replay_at : Program → Place → Result Replay ℕ
replay_at p place =
    head_at place >>> λ hash.
    section_at (codes "trace") (step_of p) hash.1 >>> λ trace.
    section_at (codes "output") printed_of trace.1 >>> λ output.
    section_at (codes "faults") fault_of output.1 >>> λ faults.
    section_at (codes "answers") answer_of faults.1 >>> λ answers.
    section_at (codes "actors") (actor_kept p) answers.1 >>> λ actors.
    tail_at actors.1 >>> λ last.
    end_at last.1 >>> λ over.
    Ok (record {
      hash = hash.0;
      trace = trace.0;
      output = output.0;
      faults = faults.0;
      answers = answers.0;
      actors = actors.0;
      pending = last.0.0;
    })

-- the same of a text, which has at most so many bytes
unfoldable pub replay_of : Program → List ℕ → Result Replay ℕ
replay_of p text = if nat_lt LONGEST_DOCUMENT (length text) then Err 1 else replay_at p (1, text)
