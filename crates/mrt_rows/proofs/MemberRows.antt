-- The rows that first links make.
use Rattle.std.proofs.Common.{◌≡◌, ◌≢◌, ◌<◌, ℕ, length, refl, sym, subst}
use Rattle.mrt_graph.specs.declared.cert.Tag.TheVariants as tags
use Rattle.link_direction.specs.CommonBlock.{FromHead, ToHead}
use Rattle.block_spf.specs.declared.reach.Dir.{Dir}
use Rattle.block_spf.specs.declared.reach.Dir.TheVariants.{Down, Up}
use Rattle.block_spf.specs.FirstLink.{Begins, BeginsNone, IsFirstLink, no_link}
use Rattle.mrt_rows.specs.declared.row_over.FirstLinks.{FirstLinks}
use Rattle.mrt_rows.specs.Put.{AreFirstLinks, AreInCommonBlockOfMoreLinks}
use Rattle.mrt_rows.specs.steps.Put.{IsMemberRow, IsOwnRow, NoneOfOneLink}
use Rattle.mrt_rows.specs.RowLines.{AreMembers, BeginsOver, NoWay}
use Rattle.mrt_rows.proofs.HeadWays.{way_from_head, way_home}
use Rattle.mrt_rows.proofs.LinesHold.{has_head, with_head}
use Rattle.mrt_rows.proofs.NearRows.{are_members, member_ring, ring_by}
use Rattle.mrt_rows.proofs.OrderedGraphs.{OrderedGraph}
use Rattle.mrt_rows.proofs.Sharing.{none_of_peers}
use Rattle.mrt_rows.proofs.Ways.{Ring, Way, inside_itself}
use Rattle.mrt_rows.proofs.WaysBegun.{Sharing, no_way, share}

-- where a way leads on, the first link begins the least one
first_begins : (og : OrderedGraph) (m : ℕ) (dir : Dir) (s v link : ℕ) → Ring og m → Sharing og m s v → Way og m dir s v
    → IsFirstLink og.g og.w dir s v link → BeginsOver og.g og.w dir s v link
first_begins og m dir s v link ring sharing way (Begins hop is over other) = record { hop = hop; reached = is; over = over }
first_begins og m dir s v link ring sharing way (BeginsNone none over) =
    absurd (no_way og m dir s v (share og m s v ring sharing) none way)

-- a link that is one begins the least path; where it is none, no way leads on
begins_over : (og : OrderedGraph) (dir : Dir) (s t link : ℕ) → link ≢ no_link → IsFirstLink og.g og.w dir s t link
    → BeginsOver og.g og.w dir s t link
begins_over og dir s t link other (Begins hop is over some) = record { hop = hop; reached = is; over = over }
begins_over og dir s t link other (BeginsNone none over) = absurd (other over)

none_over : (og : OrderedGraph) (dir : Dir) (s t link : ℕ) → link ≡ no_link → IsFirstLink og.g og.w dir s t link
    → NoWay og.g og.w dir s t
none_over og dir s t link same (Begins hop is over some) = absurd (some same)
none_over og dir s t link same (BeginsNone none over) = none

module _ (og : OrderedGraph) (s t : ℕ) (s_within : s < length og.g.ids) (t_within : t < length og.g.ids) (two : s ≢ t) where
  -- the row for the head, and the row of the head
  module _ (more : NoneOfOneLink og.g og.w s t) where
    pub head_row : (a b : ℕ) → IsFirstLink og.g og.w Up s t a → IsFirstLink og.g og.w Down s t b → og.w.head s ≡ t
        → IsOwnRow og.g og.root og.w s t (record { blue = a; red = b; tag = tags.Head })
    head_row a b is_a is_b head =
        let ring = ring_by og s t s_within t_within two more s t s_within (has_head og s t two head) (ToHead refl head refl) in
        let sharing : Sharing og s s t =
        record { source = s_within; target = t_within; two = two; common = ToHead refl head (sym head) } in
        record {
          line = λ rows. record {
            block = og.w.block s;
            head = og.w.head s;
            share = share og s s t ring sharing;
            at_head = sym head;
            blue = first_begins og s Up s t a ring sharing (subst (λ (x : ℕ). Way og s Up s x) head (way_home og s Up ring)) is_a;
            red = first_begins og s Down s t b ring sharing (subst (λ (x : ℕ). Way og s Down s x) head (way_home og s Down ring)) is_b;
          };
        }

    pub top_row : (a b : ℕ) → IsFirstLink og.g og.w Up s t a → IsFirstLink og.g og.w Down s t b → og.w.head t ≡ s
        → IsOwnRow og.g og.root og.w s t (record { blue = a; red = b; tag = tags.Top })
    top_row a b is_a is_b head =
        let ring =
        ring_by og s t s_within t_within two more t s t_within (has_head og t s (λ same. two (sym same)) head) (FromHead refl head refl) in
        let sharing : Sharing og t s t =
        record { source = s_within; target = t_within; two = two; common = FromHead refl head (sym head) } in
        record {
          line = λ rows. record {
            block = og.w.block t;
            head = og.w.head t;
            share = share og t s t ring sharing;
            at_head = sym head;
            blue = first_begins og t Up s t a ring sharing (subst (λ (x : ℕ). Way og t Up x t) head (way_from_head og t Up ring)) is_a;
            red = first_begins og t Down s t b ring sharing (subst (λ (x : ℕ). Way og t Down x t) head (way_from_head og t Down ring)) is_b;
          };
        }

  -- another node of the block
  module _ (same_block : og.w.block s ≡ og.w.block t) (links home : FirstLinks) (first : AreFirstLinks og.g og.w s t links)
      (is_home : AreFirstLinks og.g og.w s (og.w.head s) home) where
    more : NoneOfOneLink og.g og.w s t
    more = none_of_peers og s t s_within t_within two same_block

    ring_here : Ring og s
    ring_here = member_ring og s t s_within t_within two more same_block

    members : AreMembers og.g og.w s t (og.w.block s) (og.w.head s)
    members = are_members og s t s_within t_within two more same_block

    shares : AreInCommonBlockOfMoreLinks og.g og.w s t
    shares = record { block = og.w.block s; head = og.w.head s; share = members.share }

    with_home : Sharing og s s (og.w.head s)
    with_home = with_head og s s ring_here (inside_itself og s ring_here)

    home_shares : AreInCommonBlockOfMoreLinks og.g og.w s (og.w.head s)
    home_shares = record { block = og.w.block s; head = og.w.head s; share = share og s s (og.w.head s) ring_here with_home }

    home_begins : (dir : Dir) (link : ℕ) → IsFirstLink og.g og.w dir s (og.w.head s) link → BeginsOver og.g og.w dir s (og.w.head s) link
    home_begins dir link is = first_begins og s dir s (og.w.head s) link ring_here with_home (way_home og s dir ring_here) is

    pub below_row : links.up ≢ no_link → IsOwnRow og.g og.root og.w s t (record { blue = links.up; red = home.down; tag = tags.Below })
    below_row other = record {
      line = λ rows. record {
        block = og.w.block s;
        head = og.w.head s;
        members = members;
        blue = begins_over og Up s t links.up other (first.up shares);
        red = home_begins Down home.down (is_home.down home_shares);
      };
    }

    pub above_row : links.up ≡ no_link → links.down ≢ no_link
        → IsOwnRow og.g og.root og.w s t (record { blue = home.up; red = links.down; tag = tags.Above })
    above_row none other = record {
      line = λ rows. record {
        block = og.w.block s;
        head = og.w.head s;
        members = members;
        none_up = none_over og Up s t links.up none (first.up shares);
        blue = home_begins Up home.up (is_home.up home_shares);
        red = begins_over og Down s t links.down other (first.down shares);
      };
    }

    pub unordered_row : links.up ≡ no_link → links.down ≡ no_link
        → IsOwnRow og.g og.root og.w s t (record { blue = home.down; red = home.up; tag = tags.Unordered })
    unordered_row none_up none_down = record {
      line = λ rows. record {
        block = og.w.block s;
        head = og.w.head s;
        members = members;
        none_up = none_over og Up s t links.up none_up (first.up shares);
        none_down = none_over og Down s t links.down none_down (first.down shares);
        blue = home_begins Down home.down (is_home.down home_shares);
        red = home_begins Up home.up (is_home.up home_shares);
      };
    }

pub member_below : (links home : FirstLinks) → links.up ≢ no_link
    → IsMemberRow links home (record { blue = links.up; red = home.down; tag = tags.Below })
member_below links home other = record {
  own = λ g root s t w kept ordered s_within t_within two same first is_home.
      below_row (record { g = g; root = root; w = w; kept = kept; ordered = ordered }) s t s_within t_within two same links home first is_home other;
}

pub member_above : (links home : FirstLinks) → links.up ≡ no_link → links.down ≢ no_link
    → IsMemberRow links home (record { blue = home.up; red = links.down; tag = tags.Above })
member_above links home none other = record {
  own = λ g root s t w kept ordered s_within t_within two same first is_home.
      above_row (record { g = g; root = root; w = w; kept = kept; ordered = ordered }) s t s_within t_within two same links home first is_home
      none other;
}

pub member_unordered : (links home : FirstLinks) → links.up ≡ no_link → links.down ≡ no_link
    → IsMemberRow links home (record { blue = home.down; red = home.up; tag = tags.Unordered })
member_unordered links home none_up none_down = record {
  own = λ g root s t w kept ordered s_within t_within two same first is_home.
      unordered_row (record { g = g; root = root; w = w; kept = kept; ordered = ordered }) s t s_within t_within two same links home first is_home
      none_up none_down;
}
