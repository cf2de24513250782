-- Files that are lent.
use Rattle.std.specs.Prelude.{List, find}
use Rattle.std.specs.Option.{option_map}
use Rattle.std.specs.Str.{bytes_eq}
use Rattle.mrt_io.specs.Holding.{Files}
use Rattle.mrt_lent.specs.declared.mrt_file.MrtFile.{MrtFile}

-- the bytes of the first file of this name
abbrev pub held_in : List MrtFile → Files
held_in files name = option_map (λ file. file.bytes.data.now) (find (λ file. bytes_eq file.name.data.now name) files)
