-- What the answer to a line does.
use Rattle.std.specs.Prelude.{◌≡◌, [], Result, Ok, Err}
use Rattle.nn_host.specs.Moments.{State as Host}
use Rattle.nn_host.specs.declared.host.Failed.{Failed}
use Rattle.nn_script.specs.Answers.{State, Reply}
use Rattle.nn_server.specs.declared.session.Unsaid.{Unsaid}
use Rattle.nn_server.specs.declared.session.Unsaid.TheVariants.{Memory, Output}
use Rattle.nn_say.specs.Saying.{SaysAll, BreaksOff, pieces_of}

-- the output failed over it, or it was said whole
abbrev pub unless_failed : Result (Unit {0}) Failed → Result (Unit {0}) Unsaid
unless_failed (Ok done) = Ok done
unless_failed (Err failed) = Err Output

-- it was said whole, and the script is in the state behind it; or nothing was said for want of memory; or the output failed over it
abbrev pub Answered : Type 0 → Host → Host → Reply → State → Result (Unit {0}) Unsaid → Type 0
Answered told old new reply after (Ok done) = SaysAll told old new (pieces_of reply.text) × (after ≡ reply.after)
Answered told old new reply after (Err Memory) = SaysAll told old new []
Answered told old new reply after (Err Output) = BreaksOff told old new (pieces_of reply.text)
