use Rattle.std.proofs.Common.{rules}
use Rattle.mrt_args.proofs.reading.read_file.Goals as goal

pub returns-in-Ok : goal.returns-in-Ok
returns-in-Ok g c = search rules

pub returns-in-Err-Failed : goal.returns-in-Err-Failed
returns-in-Err-Failed g c = search rules

pub returns-in-Err-TooLong : goal.returns-in-Err-TooLong
returns-in-Err-TooLong g c = search rules
