-- A graph from its root, with the directions that lists say.
use Rattle.std.proofs.Common.{◌≡◌, ◌≢◌, ◌∙◌, ◌<◌, ℕ, List, Option, length, slice_get, sym, ap, arith}
use Rattle.std.proofs.lemmas.Option.{slice_get-get_or}
use Rattle.mrt_graph.specs.declared.cert.Role.TheVariants.{Plain}
use Rattle.mrt_graph.specs.declared.cert.Row.{Row}
use Rattle.mrt_graph.specs.DirectedLists.{DirectedLists}
use Rattle.mrt_graph.specs.GadagFields.{block_at, head_at, link_block_at, role_at}
use Rattle.mrt_graph.specs.GraphInvariant.{IsTopology}
use Rattle.mrt_graph.specs.Tails.{tail_at}
use Rattle.mrt_graph.specs.Topology.{Topology}
use Rattle.link_direction.specs.Directions.{Directions, Says}
use Rattle.link_direction.specs.OrderedGadag.{SaysOrdered}
use Rattle.link_direction.proofs.SameDirections.{AreAlike, ordered_too, said_alike}
use Rattle.block_spf.specs.declared.reach.Dir.{Dir}
use Rattle.block_spf.specs.HasDirections.{AreDirections, HasDirections}
use Rattle.block_spf.specs.Turns.{AreTurns, turn_at, turn_of}
use Rattle.mrt_rows.specs.ColumnOf.{IsColumnOf}
use Rattle.mrt_rows.specs.RowsOf.{HasRow}
use Rattle.mrt_rows.specs.ListedDirections.{AreRooted, directions_of}
use Rattle.mrt_rows.proofs.Agreeing.{line_too}
use Rattle.mrt_rows.proofs.OrderedGraphs.{OrderedGraph}
use Rattle.link_direction.proofs.SaidOf.{there_or}

-- lists that say some directions say those that are read there
says_itself : (g : Topology) (d : DirectedLists) (w : Directions) → Says g d w → Says g d (directions_of g d)
unfolding directions_of
says_itself g d w says = record {
  one_order_each = says.one_order_each;
  one_place_each = says.one_place_each;
  one_mark_each = says.one_mark_each;
  orders = λ v within. slice_get-get_or d.orders v 0 (omega (arith, within, says.one_order_each));
  heads = λ v within. there_or (head_at d.places v) (w.head v) 0 (says.heads v within);
  blocks = λ v within. there_or (block_at d.places v) (w.block v) 0 (says.blocks v within);
  tails = λ e within. there_or (tail_at g.links d.marks e) (w.tail e) 0 (says.tails e within);
  roles = λ e within. there_or (role_at d.marks e) (w.role e) Plain (says.roles e within);
  link_blocks = λ e within. there_or (link_block_at d.marks e) (w.lies_in e) 0 (says.link_blocks e within);
}

pub rooted_by : (g : Topology) (root : ℕ) (d : DirectedLists) → IsTopology g → SaysOrdered g root d → AreRooted g root d
rooted_by g root d kept has =
    let says = says_itself g d has.directions has.says in
    record {
      kept = kept;
      says = says;
      ordered = ordered_too g root has.directions (directions_of g d) kept (said_alike g d has.directions (directions_of g d) has.says says)
          has.ordered;
    }

-- the graph with what is said of it
abbrev pub og_of : {g : Topology} {root : ℕ} {d : DirectedLists} → AreRooted g root d → OrderedGraph
og_of {g} {root} {d} it = record { g = g; root = root; w = directions_of g d; kept = it.kept; ordered = it.ordered }

pub are_directions : {g : Topology} {root : ℕ} {d : DirectedLists} → AreRooted g root d → AreDirections g d root (directions_of g d)
are_directions it = record { says = it.says; ordered = it.ordered }

pub has_directions : {g : Topology} {root : ℕ} {d : DirectedLists} → AreRooted g root d → HasDirections g d
has_directions {g} {root} {d} it = record { root = root; directions = directions_of g d; are = are_directions it }

-- what holds of these directions holds of all that the lists say
module _ {g : Topology} {root : ℕ} {d : DirectedLists} (it : AreRooted g root d) (w : Directions) (says : Says g d w) where
  abbrev alike : AreAlike g (directions_of g d) w
  alike = said_alike g d (directions_of g d) w it.says says

  pub turns_too : (dir : Dir) (turns : List ℕ) → AreTurns g (directions_of g d) dir turns → AreTurns g w dir turns
  turns_too dir turns are = record {
    one_each = are.one_each;
    of_each = λ v v_within. ap (λ (i : ℕ). slice_get turns i) (same v v_within) ∙ are.of_each v v_within;
    within = are.within;
    by_turn = λ i v at. same v (are.within i v at) ∙ are.by_turn i v at;
  }
    where
      same : (v : ℕ) → v < length g.ids → turn_of dir (length g.ids) w v ≡ turn_of dir (length g.ids) (directions_of g d) v
      same v v_within = ap (λ (order : ℕ). turn_at dir (length g.ids) order) (sym (alike.orders v v_within))

  pub row_too : (s t : ℕ) (rows : ℕ → Option Row) → s < length g.ids → t < length g.ids → HasRow g root (directions_of g d) s rows t → HasRow g root w s rows t
  row_too s t rows s_within t_within has = record {
    row = has.row;
    is = has.is;
    line = line_too g it.kept (directions_of g d) w alike s t s_within t_within (it.ordered.heads.head_within s s_within) has.row.tag root rows has.row has.line;
  }

  pub column_too : (t : ℕ) (column : List (Option Row)) → IsColumnOf g root (directions_of g d) t column → IsColumnOf g root w t column
  column_too t column is = record {
    one_each = is.one_each;
    at_destination = is.at_destination;
    each = λ s s_within two.
        let has = is.each s s_within two in
        record { rows = has.rows; by_table = by_rows s has.rows s_within has.by_table; stands = has.stands };
  }
    where
      by_rows : (s : ℕ) (rows : ℕ → Option Row) → s < length g.ids
          → ((u : ℕ) → u < length g.ids → s ≢ u → HasRow g root (directions_of g d) s rows u)
          → (u : ℕ) → u < length g.ids → s ≢ u → HasRow g root w s rows u
      by_rows s rows s_within has u u_within two = row_too s u rows s_within u_within (has u u_within two)
