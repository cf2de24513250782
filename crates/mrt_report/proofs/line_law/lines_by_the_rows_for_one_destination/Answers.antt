use Rattle.mrt_report.proofs.AgreeingRows.{same_line}
use Rattle.mrt_report.proofs.line_law.lines_by_the_rows_for_one_destination.Goals as goal

pub returns : goal.returns
returns c = λ area island link_of rows others source to same primary text. same_line area island link_of source to rows others same primary text
