-- The table of colors: by the tag of the row of s for t, and by what is told of what has failed. The rules are this
-- project's.
use Rattle.std.specs.Prelude.{◌&&◌, Bool, nat_le, nat_lt, if◌then◌else◌, ⊤}
use Rattle.mrt_graph.specs.declared.cert.Color.{Color}
use Rattle.mrt_graph.specs.declared.cert.Color.TheVariants.{Blue, Red}
use Rattle.mrt_graph.specs.declared.cert.Tag.{Tag}
use Rattle.mrt_graph.specs.declared.cert.Tag.TheVariants.{Above, Below, Carried, Head, Sole, Top, Unordered}
use Rattle.order_repair.specs.declared.order_tests.OrderTests.{OrderTests}

-- red where this holds, else blue; and blue where it holds, else red
abbrev pub red_where : Bool → Color
red_where holds = if holds then Red else Blue

abbrev pub blue_where : Bool → Color
blue_where holds = if holds then Blue else Red

-- where no path leads from s to t, up or down: red for what is under s, else blue for what is over it, else blue for what
-- comes later than t
abbrev pub beside_color : OrderTests → Bool → Color
beside_color x later = if x.under then Red else (if x.over then Blue else blue_where later)

-- where a node of their block has failed
abbrev pub node_color : Tag → OrderTests → Color
node_color Head x = red_where (nat_lt x.source x.from)
node_color Top x = red_where (nat_lt x.from x.to)
node_color Below x = red_where (nat_lt x.source x.from && nat_lt x.from x.to)
node_color Above x = blue_where (nat_lt x.to x.from && nat_lt x.from x.source)
node_color Unordered x = beside_color x (nat_lt x.to x.from)
node_color tag x = Blue

-- where a plain link of their block has failed
abbrev pub plain_color : Tag → OrderTests → Color
plain_color Head x = red_where (nat_le x.source x.from)
plain_color Top x = red_where (nat_le x.onto x.to)
plain_color Below x = red_where (nat_le x.source x.from && nat_le x.onto x.to)
plain_color Above x = blue_where (nat_le x.to x.from && nat_le x.onto x.source)
plain_color Unordered x = beside_color x (nat_le x.to x.from)
plain_color tag x = Blue

-- where their block's closing link has failed
abbrev pub closing_color : Tag → Color
closing_color Head = Red
closing_color Above = Red
closing_color tag = Blue

-- the tags of which the table speaks: with the others s and t have no block of more than one link in common
abbrev pub IsOfTable : Tag → Type 0
IsOfTable Sole = ⊥
IsOfTable Carried = ⊥
IsOfTable tag = ⊤
