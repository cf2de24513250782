-- Which role a link has.
use Rattle.std.specs.Prelude.{Bool, true, false}
use Rattle.mrt_graph.specs.declared.cert.Role.{Role}
use Rattle.mrt_graph.specs.declared.cert.Role.TheVariants.{Plain, Sole, Closing}

-- neither its block's one link nor its closing link
abbrev pub is_plain : Role → Bool
is_plain Plain = true
is_plain Sole = false
is_plain Closing = false

-- its block's one link
abbrev pub is_sole : Role → Bool
is_sole Plain = false
is_sole Sole = true
is_sole Closing = false

-- the closing link of its block
abbrev pub is_closing : Role → Bool
is_closing Plain = false
is_closing Sole = false
is_closing Closing = true
