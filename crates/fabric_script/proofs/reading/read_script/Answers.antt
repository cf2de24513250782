use Rattle.text_parts.specs.TextLines.{text_lines}
use Rattle.text_parts.proofs.WholeLists.{one_line_error, reading_tells}
use Rattle.fabric_script.specs.steps.Taking.{error_of, wrong}
use Rattle.fabric_script.proofs.LeastRoom.{read_has_room}
use Rattle.fabric_script.proofs.LinesSay.{script_means}
use Rattle.fabric_script.proofs.reading.read_script.Goals as goal

pub returns : goal.returns
returns c =
    let tells = reading_tells script_means (text_lines c.args.bytes.now) error_of (one_line_error error_of (λ number place same. cc) (λ number same. cc))
    c.text_of.result c.text_of.ensures c.script_or_fault.result c.script_or_fault.ensures in
    record {
      found = tells.found;
      only = tells.only;
      room = read_has_room (text_lines c.args.bytes.now) c.script_or_fault.result tells.found;
      fault = λ line. tells.fault line wrong;
      faulty = λ line. tells.faulty line wrong;
    }
