-- What the mark of a link says, at one of its nodes.
use Rattle.std.proofs.Common.{◌≡◌, ◌⊎◌, ◌<◌, ℕ, true, false, List, Some, slice_get, inl, inr, arith}
use Rattle.std.proofs.lemmas.Bool.{ltb-true, ltb-false}
use Rattle.std.proofs.lemmas.Option.{same_Some, slice_get_within}
use Rattle.mrt_graph.specs.declared.gadag.Mark.{Mark}
use Rattle.mrt_graph.specs.declared.gadag.Way.{Way}
use Rattle.mrt_graph.specs.declared.gadag.Way.TheVariants.{AToB, BToA, Unset}
use Rattle.mrt_graph.specs.declared.link.End.{End}
use Rattle.mrt_graph.specs.declared.link.Link.{Link}
use Rattle.mrt_graph.specs.DirectedLists.{DirectedLists}
use Rattle.mrt_graph.specs.GraphInvariant.{IsTopology}
use Rattle.mrt_graph.specs.Tails.{tail_of}
use Rattle.mrt_graph.specs.Topology.{Topology}
use Rattle.mrt_graph.proofs.EndsAt.{end_leads}
use Rattle.link_direction.specs.Directions.{Directions, Says}
use Rattle.block_spf.specs.declared.reach.Dir.{Dir}
use Rattle.block_spf.specs.declared.reach.Dir.TheVariants.{Down, Up}
use Rattle.block_spf.specs.Path.{LeadsOn}
use Rattle.block_spf.specs.steps.Offers.{goes_on}
use Rattle.link_direction.proofs.LinkNodes.{link_over, link_within}

-- the direction in terms of the tail
abbrev Onward : Dir → ℕ → ℕ → ℕ → Type 0
Onward Up tail x to = tail ≡ x
Onward Down tail x to = tail ≡ to

some_same : (a b : ℕ) → Some a ≡ Some b → a ≡ b
some_same a b is = cc

on_true : (dir : Dir) (way : Way) (link : Link) (tail x to : ℕ) → link.a < link.b → tail_of link way ≡ Some tail
    → ((link.a ≡ x) × (link.b ≡ to)) ⊎ ((link.b ≡ x) × (link.a ≡ to)) → goes_on dir way x to ≡ true → Onward dir tail x to
on_true Up Unset link tail x to up is ends holds = cc
on_true Down Unset link tail x to up is ends holds = cc
on_true Up AToB link tail x to up is (inl e) holds = omega (arith, some_same link.a tail is, e.0)
on_true Up AToB link tail x to up is (inr e) holds = omega (arith, up, e.0, e.1, ltb-true x to holds)
on_true Up BToA link tail x to up is (inl e) holds = omega (arith, up, e.0, e.1, ltb-true to x holds)
on_true Up BToA link tail x to up is (inr e) holds = omega (arith, some_same link.b tail is, e.0)
on_true Down AToB link tail x to up is (inl e) holds = omega (arith, up, e.0, e.1, ltb-true to x holds)
on_true Down AToB link tail x to up is (inr e) holds = omega (arith, some_same link.a tail is, e.1)
on_true Down BToA link tail x to up is (inl e) holds = omega (arith, some_same link.b tail is, e.1)
on_true Down BToA link tail x to up is (inr e) holds = omega (arith, up, e.0, e.1, ltb-true x to holds)

on_false : (dir : Dir) (way : Way) (link : Link) (tail x to : ℕ) → link.a < link.b → tail_of link way ≡ Some tail
    → ((link.a ≡ x) × (link.b ≡ to)) ⊎ ((link.b ≡ x) × (link.a ≡ to)) → goes_on dir way x to ≡ false → Onward dir tail x to → ⊥
on_false Up Unset link tail x to up is ends fails on = cc
on_false Down Unset link tail x to up is ends fails on = cc
on_false Up AToB link tail x to up is (inl e) fails on = omega (arith, up, e.0, e.1, ltb-false x to fails)
on_false Up AToB link tail x to up is (inr e) fails on = omega (arith, up, e.0, e.1, some_same link.a tail is, on)
on_false Up BToA link tail x to up is (inl e) fails on = omega (arith, up, e.0, e.1, some_same link.b tail is, on)
on_false Up BToA link tail x to up is (inr e) fails on = omega (arith, up, e.0, e.1, ltb-false to x fails)
on_false Down AToB link tail x to up is (inl e) fails on = omega (arith, up, e.0, e.1, some_same link.a tail is, on)
on_false Down AToB link tail x to up is (inr e) fails on = omega (arith, up, e.0, e.1, ltb-false to x fails)
on_false Down BToA link tail x to up is (inl e) fails on = omega (arith, up, e.0, e.1, ltb-false x to fails)
on_false Down BToA link tail x to up is (inr e) fails on = omega (arith, up, e.0, e.1, some_same link.b tail is, on)

on_leads : (dir : Dir) (w : Directions) (x : ℕ) (end : End) → Onward dir (w.tail end.link) x end.to → LeadsOn w dir x end
on_leads Up w x end on = on
on_leads Down w x end on = on

leads_on : (dir : Dir) (w : Directions) (x : ℕ) (end : End) → LeadsOn w dir x end → Onward dir (w.tail end.link) x end.to
leads_on Up w x end on = on
leads_on Down w x end on = on

-- an end of node x at a place, with the mark of its link
pub record IsMarkedEnd (g : Topology) (d : DirectedLists) (x place : ℕ) (ends : List End) (end : End) (mark : Mark) : Type 0 where
  pub list : slice_get g.ends x ≡ Some ends
  pub there : slice_get ends place ≡ Some end
  pub marked : slice_get d.marks end.link ≡ Some mark

marked_tail : (g : Topology) (d : DirectedLists) (w : Directions) (e : ℕ) (link : Link) (mark : Mark) → Says g d w → slice_get g.links e ≡ Some link
    → slice_get d.marks e ≡ Some mark → tail_of link mark.way ≡ Some (w.tail e)
marked_tail g d w e link mark says at marked =
    let tail = says.tails e (slice_get_within g.links e link at) in rw (at, marked) at tail

-- the test tells whether the end leads on
pub test_leads_on : (g : Topology) (d : DirectedLists) (w : Directions) (dir : Dir) (x place : ℕ) (ends : List End) (end : End) (mark : Mark)
    → IsTopology g → Says g d w → IsMarkedEnd g d x place ends end mark → goes_on dir mark.way x end.to ≡ true → LeadsOn w dir x end
test_leads_on g d w dir x place ends end mark kept says is holds =
    let over = link_over g end.link x end.to kept (end_leads g x place ends end kept is.list is.there) in
    on_leads dir w x end
    (on_true dir mark.way over.link (w.tail end.link) x end.to over.ascending (marked_tail g d w end.link over.link mark says over.there is.marked) over.ends holds)

pub test_leads_back : (g : Topology) (d : DirectedLists) (w : Directions) (dir : Dir) (x place : ℕ) (ends : List End) (end : End) (mark : Mark)
    → IsTopology g → Says g d w → IsMarkedEnd g d x place ends end mark → goes_on dir mark.way x end.to ≡ false → LeadsOn w dir x end → ⊥
test_leads_back g d w dir x place ends end mark kept says is fails on =
    let over = link_over g end.link x end.to kept (end_leads g x place ends end kept is.list is.there) in
    on_false dir mark.way over.link (w.tail end.link) x end.to over.ascending (marked_tail g d w end.link over.link mark says over.there is.marked) over.ends fails
    (leads_on dir w x end on)

-- the block and the role of its link
pub marked_block : (g : Topology) (d : DirectedLists) (w : Directions) (x place : ℕ) (ends : List End) (end : End) (mark : Mark) → IsTopology g → Says g d w
    → IsMarkedEnd g d x place ends end mark → mark.block ≡ w.lies_in end.link
marked_block g d w x place ends end mark kept says is =
    let block = says.link_blocks end.link (link_within g end.link x end.to kept (end_leads g x place ends end kept is.list is.there)) in
    same_Some mark.block (w.lies_in end.link) (rw is.marked at block)

pub marked_role : (g : Topology) (d : DirectedLists) (w : Directions) (x place : ℕ) (ends : List End) (end : End) (mark : Mark) → IsTopology g → Says g d w
    → IsMarkedEnd g d x place ends end mark → mark.role ≡ w.role end.link
marked_role g d w x place ends end mark kept says is =
    let role = says.roles end.link (link_within g end.link x end.to kept (end_leads g x place ends end kept is.list is.there)) in
    same_Some mark.role (w.role end.link) (rw is.marked at role)
