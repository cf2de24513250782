-- Two directions that a GADAG says are alike, so that what holds of one holds of the other.
use Rattle.std.proofs.Common.{◌≡◌, ◌<◌, ◌∙◌, ℕ, Some, length, inl, inr, sym, ap, subst, arith}
use Rattle.std.proofs.lemmas.Option.{same_Some}
use Rattle.mrt_graph.specs.DirectedLists.{DirectedLists}
use Rattle.mrt_graph.specs.GraphInvariant.{IsTopology}
use Rattle.mrt_graph.specs.Leads.{leads}
use Rattle.mrt_graph.specs.Topology.{Topology}
use Rattle.link_direction.specs.CommonBlock.{HaveCommonBlock, Peers, ToHead, FromHead}
use Rattle.link_direction.specs.Directions.{Directions, Says}
use Rattle.link_direction.specs.OrderedGadag.{AreHeads, AreLinks, AreOrders, HasClosingLink, HasSoleLink, IsEntered, IsLeft, IsOrderedGadag}
use Rattle.link_direction.proofs.LinkNodes.{leads_within, link_within}

-- one says of the nodes and links of the graph what the other says
pub record AreAlike (g : Topology) (w v : Directions) : Type 0 where
  pub orders : (x : ℕ) → x < length g.ids → w.order x ≡ v.order x
  pub heads : (x : ℕ) → x < length g.ids → w.head x ≡ v.head x
  pub blocks : (x : ℕ) → x < length g.ids → w.block x ≡ v.block x
  pub tails : (e : ℕ) → e < length g.links → w.tail e ≡ v.tail e
  pub roles : (e : ℕ) → e < length g.links → w.role e ≡ v.role e
  pub link_blocks : (e : ℕ) → e < length g.links → w.lies_in e ≡ v.lies_in e

pub said_alike : (g : Topology) (d : DirectedLists) (w v : Directions) → Says g d w → Says g d v → AreAlike g w v
said_alike g d w v one other = record {
  orders = λ x within. same_Some (w.order x) (v.order x) (sym (one.orders x within) ∙ other.orders x within);
  heads = λ x within. same_Some (w.head x) (v.head x) (sym (one.heads x within) ∙ other.heads x within);
  blocks = λ x within. same_Some (w.block x) (v.block x) (sym (one.blocks x within) ∙ other.blocks x within);
  tails = λ e within. same_Some (w.tail e) (v.tail e) (sym (one.tails e within) ∙ other.tails e within);
  roles = λ e within. same_Some (w.role e) (v.role e) (sym (one.roles e within) ∙ other.roles e within);
  link_blocks = λ e within. same_Some (w.lies_in e) (v.lies_in e) (sym (one.link_blocks e within) ∙ other.link_blocks e within);
}

pub alike_back : (g : Topology) (w v : Directions) → AreAlike g w v → AreAlike g v w
alike_back g w v alike = record {
  orders = λ a a_within. sym (alike.orders a a_within);
  heads = λ a a_within. sym (alike.heads a a_within);
  blocks = λ a a_within. sym (alike.blocks a a_within);
  tails = λ e e_within. sym (alike.tails e e_within);
  roles = λ e e_within. sym (alike.roles e e_within);
  link_blocks = λ e e_within. sym (alike.link_blocks e e_within);
}

orders_too : (g : Topology) (root : ℕ) (w v : Directions) → AreAlike g w v → root < length g.ids → AreOrders (length g.ids) root w → AreOrders (length g.ids) root v
orders_too g root w v alike within are = record {
  first = sym (alike.orders root within) ∙ are.first;
  from_one = λ x inside. omega (arith, are.from_one x inside, alike.orders x inside);
  to_n = λ x inside. omega (arith, are.to_n x inside, alike.orders x inside);
  differ = λ x y inside_x inside_y same. are.differ x y inside_x inside_y (alike.orders x inside_x ∙ same ∙ sym (alike.orders y inside_y));
}

heads_too : (g : Topology) (root : ℕ) (w v : Directions) → AreAlike g w v → root < length g.ids → AreHeads (length g.ids) root w → AreHeads (length g.ids) root v
heads_too g root w v alike within are = record {
  head_within = λ x inside. subst (λ (y : ℕ). y < length g.ids) (alike.heads x inside) (are.head_within x inside);
  block_within = λ x inside. subst (λ (y : ℕ). y < length g.ids) (alike.blocks x inside) (are.block_within x inside);
  root_head = sym (alike.heads root within) ∙ are.root_head;
  root_block = sym (alike.blocks root within) ∙ are.root_block;
  alone = λ x inside other same. are.alone x inside other (alike.blocks x inside ∙ same);
  lower = λ x inside other.
      omega (
        arith,
        are.lower x inside other,
        alike.orders x inside,
        alike.orders (w.head x) (are.head_within x inside),
        ap v.order (alike.heads x inside),
      );
  one_head = λ x y inside_x inside_y same.
      sym (alike.heads x inside_x) ∙ are.one_head x y inside_x inside_y (alike.blocks x inside_x ∙ same ∙ sym (alike.blocks y inside_y)) ∙ alike.heads y inside_y;
}

pub common_too : (g : Topology) (w v : Directions) (x y k h : ℕ) → AreAlike g w v → x < length g.ids → y < length g.ids → HaveCommonBlock w x y k h → HaveCommonBlock v x y k h
common_too g w v x y k h alike inside_x inside_y (Peers at_x at_y head) =
    Peers (sym (alike.blocks x inside_x) ∙ at_x) (sym (alike.blocks y inside_y) ∙ at_y) (sym (alike.heads x inside_x) ∙ head)
common_too g w v x y k h alike inside_x inside_y (ToHead at_x head is_head) =
    ToHead (sym (alike.blocks x inside_x) ∙ at_x) (sym (alike.heads x inside_x) ∙ head) is_head
common_too g w v x y k h alike inside_x inside_y (FromHead at_y head is_head) =
    FromHead (sym (alike.blocks y inside_y) ∙ at_y) (sym (alike.heads y inside_y) ∙ head) is_head

links_too : (g : Topology) (w v : Directions) → IsTopology g → AreAlike g w v → AreLinks g w → AreLinks g v
links_too g w v kept alike are = record {
  directed = λ e within.
      let to = are.directed e within in (to.0, subst (λ (x : ℕ). leads g.links e x ≡ Some to.0) (alike.tails e within) to.1);
  common = λ e x y onward.
      let inside = leads_within g e x y kept onward in
      let it = are.common e x y onward in (
        it.0,
        subst (λ (k : ℕ). HaveCommonBlock v x y k it.0) (alike.link_blocks e (link_within g e x y kept onward))
            (common_too g w v x y (w.lies_in e) it.0 alike inside.0 inside.1 it.1),
      );
  forward = λ e x y onward away not_closing.
      let inside = leads_within g e x y kept onward in
      let within = link_within g e x y kept onward in
      omega (
        arith,
        are.forward e x y onward (alike.tails e within ∙ away) (λ closing. not_closing (sym (alike.roles e within) ∙ closing)),
        alike.orders x inside.0,
        alike.orders y inside.1,
      );
}

sole_too : (g : Topology) (w v : Directions) (m : ℕ) → AreAlike g w v → m < length g.ids → HasSoleLink g w m → HasSoleLink g v m
sole_too g w v m alike inside has = record {
  link = has.link;
  within = has.within;
  in_block = sym (alike.link_blocks has.link has.within) ∙ has.in_block ∙ alike.blocks m inside;
  no_other_link = λ e within same. has.no_other_link e within (alike.link_blocks e within ∙ same ∙ sym (alike.blocks m inside));
  sole = sym (alike.roles has.link has.within) ∙ has.sole;
  no_other_node = λ x within same. has.no_other_node x within (alike.blocks x within ∙ same ∙ sym (alike.blocks m inside));
}

closing_too : (g : Topology) (w v : Directions) (m : ℕ) → IsTopology g → AreAlike g w v → m < length g.ids → HasClosingLink g w m → HasClosingLink g v m
closing_too g w v m kept alike inside has = record {
  link = has.link;
  greatest = has.greatest;
  over = record {
    leads_on = has.over.leads_on ∙ ap (λ (x : ℕ). Some x) (alike.heads m inside);
    in_block = sym (alike.link_blocks has.link within) ∙ has.over.in_block ∙ alike.blocks m inside;
  };
  away = sym (alike.tails has.link within) ∙ has.away;
  closing = sym (alike.roles has.link within) ∙ has.closing;
  no_other = λ e inside_e same closing. has.no_other e inside_e (block_back e inside_e same) (alike.roles e inside_e ∙ closing);
  none_sole = λ e inside_e same sole. has.none_sole e inside_e (block_back e inside_e same) (alike.roles e inside_e ∙ sole);
  another = has.another;
  another_within = has.another_within;
  another_in_block = sym (alike.link_blocks has.another has.another_within) ∙ has.another_in_block ∙ alike.blocks m inside;
  another_link = has.another_link;
  greatest_in_block = sym (alike.blocks has.greatest ends.0) ∙ has.greatest_in_block ∙ alike.blocks m inside;
  none_greater = λ x within_x same.
      omega (arith, has.none_greater x within_x (node_back x within_x same), alike.orders x within_x, alike.orders has.greatest ends.0);
  entered = λ x within_x same. entered x within_x (has.entered x within_x (node_back x within_x same));
  left = λ x within_x same other. left x within_x (has.left x within_x (node_back x within_x same) other);
}
  where
    within : has.link < length g.links
    within = link_within g has.link has.greatest (w.head m) kept has.over.leads_on

    ends : (has.greatest < length g.ids) × (w.head m < length g.ids)
    ends = leads_within g has.link has.greatest (w.head m) kept has.over.leads_on

    block_back : (e : ℕ) → e < length g.links → v.lies_in e ≡ v.block m → w.lies_in e ≡ w.block m
    block_back e inside_e same = alike.link_blocks e inside_e ∙ same ∙ sym (alike.blocks m inside)

    node_back : (x : ℕ) → x < length g.ids → v.block x ≡ v.block m → w.block x ≡ w.block m
    node_back x within_x same = alike.blocks x within_x ∙ same ∙ sym (alike.blocks m inside)

    entered : (x : ℕ) → x < length g.ids → IsEntered g w x → IsEntered g v x
    entered x within_x it =
        let both = leads_within g it.link it.from x kept it.over.leads_on in
        record {
          from = it.from;
          link = it.link;
          over = record {
            leads_on = it.over.leads_on;
            in_block = sym (alike.link_blocks it.link (link_within g it.link it.from x kept it.over.leads_on)) ∙ it.over.in_block ∙ alike.blocks x within_x;
          };
          away = sym (alike.tails it.link (link_within g it.link it.from x kept it.over.leads_on)) ∙ it.away;
          lower = omega (arith, it.lower, alike.orders it.from both.0, alike.orders x within_x);
        }

    left : (x : ℕ) → x < length g.ids → IsLeft g w x → IsLeft g v x
    left x within_x it =
        let both = leads_within g it.link x it.to kept it.over.leads_on in
        record {
          to = it.to;
          link = it.link;
          over = record {
            leads_on = it.over.leads_on;
            in_block = sym (alike.link_blocks it.link (link_within g it.link x it.to kept it.over.leads_on)) ∙ it.over.in_block ∙ alike.blocks x within_x;
          };
          away = sym (alike.tails it.link (link_within g it.link x it.to kept it.over.leads_on)) ∙ it.away;
          greater = omega (arith, it.greater, alike.orders it.to both.1, alike.orders x within_x);
        }

pub ordered_too : (g : Topology) (root : ℕ) (w v : Directions) → IsTopology g → AreAlike g w v → IsOrderedGadag g root w → IsOrderedGadag g root v
ordered_too g root w v kept alike is = record {
  root_within = is.root_within;
  orders = orders_too g root w v alike is.root_within is.orders;
  heads = heads_too g root w v alike is.root_within is.heads;
  links = links_too g w v kept alike is.links;
  blocks = λ m within other. elim (is.blocks m within other) [
    | inl sole ↦ inl (sole_too g w v m alike within sole)
    | inr closing ↦ inr (closing_too g w v m kept alike within closing)
  ];
}
