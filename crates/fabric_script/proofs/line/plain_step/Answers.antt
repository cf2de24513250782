use Rattle.fabric_script.proofs.StepsRead.{begins_so}
use Rattle.fabric_script.proofs.line.plain_step.Goals as goal

pub returns : goal.returns
returns c =
    let cases = c.in_ok-word.ensures.cases in
    begins_so c.args.line.now c.as_slice.result.now c.in_ok-word.word.now c.read_packet.result c.as_slice.ensures cases.0 cases.1 c.read_packet.ensures
