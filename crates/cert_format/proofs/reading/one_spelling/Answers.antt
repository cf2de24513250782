use Rattle.cert_format.proofs.GoesOn.{no_fault}
use Rattle.cert_format.proofs.SpellingLength.{longest_one, longest_spelling}
use Rattle.cert_format.proofs.Finished.{one_file}
use Rattle.cert_format.proofs.reading.one_spelling.Goals as goal

pub returns : goal.returns
returns c = record { one = one_file; faultless = no_fault; longest = longest_spelling; longest_one = longest_one }
