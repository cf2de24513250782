-- The other direction.
use Rattle.block_spf.specs.declared.reach.Dir.{Dir}
use Rattle.block_spf.specs.declared.reach.Dir.TheVariants.{Down, Up}

abbrev pub against : Dir → Dir
against Up = Down
against Down = Up
