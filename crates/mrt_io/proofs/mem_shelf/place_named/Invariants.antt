use Rattle.std.proofs.Common.{◌≡◌, drop}
use Rattle.mrt_io.specs.Memory.{file_of}
use Rattle.mrt_io.specs.Named.{named}
use Rattle.mrt_io.proofs.mem_shelf.place_named.Given as goal

-- No file so far has the name.
abbrev pub invariant-loop-place : goal.invariant-loop-place
invariant-loop-place l = file_of (named (drop l.place l.files)) l.name ≡ file_of (named l.files) l.name
