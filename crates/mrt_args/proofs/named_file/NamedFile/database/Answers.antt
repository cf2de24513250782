use Rattle.std.proofs.Common.{ap}
use Rattle.mrt_args.specs.Files.{database_file}
use Rattle.mrt_args.proofs.named_file.NamedFile.database.Goals as goal

pub returns : goal.returns
returns c = ap database_file c.word.ensures
