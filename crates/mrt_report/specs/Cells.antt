-- The texts of a row's tag and of its colors.
use Rattle.std.specs.Prelude.{ℕ, List, Option, Some, None, codes}
use Rattle.mrt_graph.specs.declared.cert.Color.{Color}
use Rattle.mrt_graph.specs.declared.cert.Color.TheVariants.{Blue, Red}
use Rattle.mrt_graph.specs.declared.cert.Tag.{Tag}
use Rattle.mrt_graph.specs.declared.cert.Tag.TheVariants.{Sole, Head, Top, Below, Above, Unordered, Carried}

-- a row's tag, in lower case
abbrev pub tag_text : Tag → List ℕ
tag_text Sole = codes "sole"
tag_text Head = codes "head"
tag_text Top = codes "top"
tag_text Below = codes "below"
tag_text Above = codes "above"
tag_text Unordered = codes "unordered"
tag_text Carried = codes "carried"

-- the color that repairs a failure, or that none does
abbrev pub letter_text : Option Color → List ℕ
letter_text (Some Blue) = codes "b"
letter_text (Some Red) = codes "r"
letter_text None = codes "-"
