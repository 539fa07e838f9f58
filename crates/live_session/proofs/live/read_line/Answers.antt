use Rattle.live_session.proofs.StepTexts.{step_of_no_text, step_of_text}
use Rattle.live_session.proofs.live.read_line.Goals as goal

pub returns-in-Ok : goal.returns-in-Ok
returns-in-Ok c = step_of_text c.args.line.now c.in-Ok.text.now c.read_step.result c.in-Ok.ensures.cases.0 c.in-Ok.ensures.cases.1 c.read_step.ensures

pub returns-in-Err : goal.returns-in-Err
returns-in-Err c = step_of_no_text c.args.line.now c.in-Err.ensures.cases.0
