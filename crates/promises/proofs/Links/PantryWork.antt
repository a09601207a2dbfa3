-- From the contracts of `pantry_work` in the source to the definitions that the demands cite.
-- Assumes nothing.
use Rattle.wire.specs.Answer.{Kept}
use Rattle.collection.specs.Answer.{told}
use Rattle.finish.specs.Finish.{Closed}
use Rattle.pantry_work.specs.Steps.{resuming, answered}
use Rattle.pantry_work.proofs.resume as pantry-work-resume
use Rattle.pantry_work.proofs.answer as pantry-work-answer
use Rattle.promises.specs.Calls.{Call}

pub pantry_work_resume_link : (k : Call pantry-work-resume.Kinds.ps pantry-work-resume.Kinds.r pantry-work-resume.Reads.Learnt)
    → Kept (resuming k.args.0.phase k.args.1.1.0.now k.args.1.0.now) k.args.1.1.0.now k.left.1.1.0 (told k.answer)
pantry_work_resume_link k = k.kept

pub pantry_work_answer_link : (k : Call pantry-work-answer.Kinds.ps pantry-work-answer.Kinds.r pantry-work-answer.Reads.Learnt)
    → Closed (answered k.args.0.phase k.args.1.0.now k.args.1.1.0.now) k.args.1.1.0.now k.left.1.1.0 k.answer
pantry_work_answer_link k = k.kept
