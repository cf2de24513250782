use Rattle.text_parts.proofs.WholeLists.{either_line, never_both_line, one_line_of, one_text_of}
use Rattle.flood.proofs.LinesSay.{script_means}
use Rattle.flood.proofs.script_law.lines_are_a_flood_script_or_have_a_fault.Goals as goal

pub returns : goal.returns
returns c = record { either = either_line script_means; never_both = never_both_line script_means; one_script = one_text_of script_means; one_fault = one_line_of script_means }
