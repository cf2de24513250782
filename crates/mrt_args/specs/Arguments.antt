-- What comes of the program's arguments.
use Rattle.std.specs.Prelude.{ℕ, List, drop, map}
use Rattle.std.specs.String.{string_bytes}
use Rattle.std.specs.declared.alloc.Global.{Global}
use Rattle.std.specs.declared.io.ErrorKind.{ErrorKind}
use Rattle.std.specs.declared.io.ErrorKind.TheVariants.{OutOfMemory}
use Rattle.std.specs.declared.string.String.{String}
use Rattle.mrt_exit.specs.declared.exit.Exit.{Exit}
use Rattle.mrt_exit.specs.declared.exit.Exit.TheVariants.{Usage, NoMemory}

-- the words: the arguments after the program's name
abbrev pub words_of : List (String Global) → List (List ℕ)
words_of arguments = map string_bytes (drop 1 arguments)

-- the exit where the arguments were not read: for want of memory, or else since one of them is no text, which is no
-- word of any form
abbrev pub exit_of : ErrorKind → Exit
exit_of OutOfMemory = NoMemory
exit_of _ = Usage
