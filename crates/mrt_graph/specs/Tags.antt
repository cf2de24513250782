-- Which tag a row has. The tags are this project's; the next hops that they stand for are those of RFC 7811, section 5.7.
use Rattle.std.specs.Prelude.{◌==◌, ℕ, Bool, not}
use Rattle.mrt_graph.specs.declared.cert.Row.{Row}
use Rattle.mrt_graph.specs.declared.cert.Tag.{Tag}
use Rattle.mrt_graph.specs.declared.cert.Tag.TheVariants.{Sole, Head, Top, Below, Above, Unordered, Carried}

-- the tags in their order, from 0
abbrev pub tag_number : Tag → ℕ
tag_number Sole = 0
tag_number Head = 1
tag_number Top = 2
tag_number Below = 3
tag_number Above = 4
tag_number Unordered = 5
tag_number Carried = 6

-- whether two tags are one
abbrev pub same_tag : Tag → Tag → Bool
same_tag tag other = tag_number tag == tag_number other

-- a row is near where it is not Carried
abbrev pub is_near : Row → Bool
is_near row = not (same_tag row.tag Carried)

-- the row with the same links, Carried
abbrev pub carried : Row → Row
carried row = record { blue = row.blue; red = row.red; tag = Carried }
