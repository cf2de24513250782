-- Two accounts of one GADAG agree on its nodes and links, and so do the rows by them.
use Rattle.std.proofs.Common.{◌≡◌, ◌∙◌, ◌<◌, ℕ, List, [], ◌∷◌, Option, Some, None, length, sym, ap, subst}
use Rattle.std.proofs.lemmas.Option.{slice_get_within}
use Rattle.mrt_graph.specs.declared.cert.CertFile.{CertFile}
use Rattle.mrt_graph.specs.declared.cert.CertLink.{CertLink}
use Rattle.mrt_graph.specs.declared.cert.CertNode.{CertNode}
use Rattle.mrt_graph.specs.declared.cert.Row.{Row}
use Rattle.mrt_graph.specs.declared.cert.Tag.{Tag}
use Rattle.mrt_graph.specs.declared.cert.Tag.TheVariants as tags
use Rattle.mrt_graph.specs.declared.link.End.{End}
use Rattle.mrt_graph.specs.declared.link.Link.{Link}
use Rattle.mrt_graph.specs.declared.node_id.NodeId.{NodeId}
use Rattle.mrt_graph.specs.Certificate.{row_of}
use Rattle.mrt_graph.specs.GraphInvariant.{IsTopology}
use Rattle.mrt_graph.specs.Topology.{Topology}
use Rattle.mrt_graph.proofs.EndsAt.{end_leads}
use Rattle.link_direction.specs.CommonBlock.{FromHead, HaveCommonBlock, Peers, ToHead}
use Rattle.link_direction.specs.Directions.{Directions}
use Rattle.block_spf.specs.declared.reach.Dir.{Dir}
use Rattle.block_spf.specs.declared.reach.Dir.TheVariants.{Down, Up}
use Rattle.block_spf.specs.declared.reach.Hop.{Hop}
use Rattle.block_spf.specs.LeastPath.{BeginsPath, HasMoreLinks, IsHop, IsLeastPath, NotReached, Reached, HaveCommonBlockOfMoreLinks}
use Rattle.block_spf.specs.Path.{IsStep, LeadsOn, Path}
use Rattle.link_direction.proofs.SameDirections.{AreAlike, alike_back, common_too}
use Rattle.mrt_rows.specs.CertOf.{Tells, link_words, node_words}
use Rattle.mrt_rows.specs.RowLines.{AreMembers, BeginsOver, HasLinksFor, HasOneLink, LineOf}
use Rattle.mrt_rows.proofs.OrderedGraphs.{Within, within}

module _ (g : Topology) (kept : IsTopology g) (w v : Directions) (alike : AreAlike g w v) where
  leads_too : (dir : Dir) (s : ℕ) (end : End) → end.link < length g.links → LeadsOn w dir s end → LeadsOn v dir s end
  leads_too Up s end in_range on = sym (alike.tails end.link in_range) ∙ on
  leads_too Down s end in_range on = sym (alike.tails end.link in_range) ∙ on

  step_range : (dir : Dir) (k s : ℕ) (end : End) → IsStep g w dir k s end → Within g end.link s end.to
  step_range dir k s end step = within g end.link s end.to kept
      (end_leads g s step.place step.ends end kept step.list step.there)

  step_too : (dir : Dir) (k s : ℕ) (end : End) → IsStep g w dir k s end → IsStep g v dir k s end
  step_too dir k s end step =
      let in_range = (step_range dir k s end step).link in
      record {
        ends = step.ends;
        list = step.list;
        place = step.place;
        there = step.there;
        in_block = sym (alike.link_blocks end.link in_range) ∙ step.in_block;
        leads_on = leads_too dir s end in_range step.leads_on;
      }

  pub path_too : (dir : Dir) (k h s : ℕ) (path : List End) (t : ℕ) → Path g w dir k h s path t
      → Path g v dir k h s path t
  path_too dir k h s [] t path = absurd path
  path_too dir k h s (end ∷ []) t path = (step_too dir k s end path.0, path.1)
  path_too dir k h s (end ∷ next ∷ more) t path =
      (step_too dir k s end path.0, path.1, path_too dir k h end.to (next ∷ more) t path.2)

  more_too : (k : ℕ) → HasMoreLinks g w k → HasMoreLinks g v k
  more_too k more = record {
    one = more.one;
    other = more.other;
    one_within = more.one_within;
    other_within = more.other_within;
    one_in_block = sym (alike.link_blocks more.one more.one_within) ∙ more.one_in_block;
    other_in_block = sym (alike.link_blocks more.other more.other_within) ∙ more.other_in_block;
    differ = more.differ;
  }

  pub share_too : (s t k h : ℕ) → s < length g.ids → t < length g.ids → HaveCommonBlockOfMoreLinks g w s t k h → HaveCommonBlockOfMoreLinks g v s t k h
  share_too s t k h s_within t_within shares = record {
    two = shares.two;
    common = common_too g w v s t k h alike s_within t_within shares.common;
    more = more_too k shares.more;
  }

  begins_too : (dir : Dir) (k h s t cost : ℕ) (end : End) → BeginsPath g w dir k h s t cost end
      → BeginsPath g v dir k h s t cost end
  begins_too dir k h s t cost end begins = record {
    others = begins.others;
    is_path = path_too dir k h s (end ∷ begins.others) t begins.is_path;
    costs = begins.costs;
  }

-- and of hops and lines
module _ (g : Topology) (kept : IsTopology g) (w v : Directions) (alike : AreAlike g w v) where
  least_too : (dir : Dir) (k h s t : ℕ) (hop : Hop) → IsLeastPath g w dir k h s t hop → IsLeastPath g v dir k h s t hop
  least_too dir k h s t hop least = record {
    end = least.end;
    first = record {
      ends = least.first.ends;
      list = least.first.list;
      place = least.first.place;
      there = least.first.there;
      asked = begins_too g kept w v alike dir k h s t hop.cost least.end least.first.asked;
      none_before = λ j other below at begins. least.first.none_before j other below at
          (begins_too g kept v w (alike_back g w v alike) dir k h s t hop.cost other begins);
    };
    over = least.over;
    least = λ path is. least.least path (path_too g kept v w (alike_back g w v alike) dir k h s path t is);
  }

  module _ (s t : ℕ) (s_within : s < length g.ids) (t_within : t < length g.ids) where
    hop_too : (dir : Dir) (hop : Option Hop) → IsHop g w dir s t hop → IsHop g v dir s t hop
    hop_too dir (Some hop) (Reached k h hop' shares least) =
        Reached k h hop (share_too g kept w v alike s t k h s_within t_within shares) (least_too dir k h s t hop least)
    hop_too dir None (NotReached none) =
        let back = alike_back g w v alike in
        NotReached (λ k h path shares is. none k h path (share_too g kept v w back s t k h s_within t_within shares)
        (path_too g kept v w back dir k h s path t is))

    over_too : (dir : Dir) (e : ℕ) → BeginsOver g w dir s t e → BeginsOver g v dir s t e
    over_too dir e begins = record { hop = begins.hop; reached = hop_too dir (Some begins.hop) begins.reached; over = begins.over }

  module _ (s t : ℕ) (s_within : s < length g.ids) (t_within : t < length g.ids)
      (head_within : w.head s < length g.ids) where
    one_too : (k link : ℕ) → HasOneLink g w k link → HasOneLink g v k link
    one_too k link one = record {
      within = one.within;
      in_block = sym (alike.link_blocks link one.within) ∙ one.in_block;
      no_other = λ e e_within is. one.no_other e e_within (alike.link_blocks e e_within ∙ is);
    }

    members_too : (k h : ℕ) → AreMembers g w s t k h → AreMembers g v s t k h
    members_too k h are = record {
      share = share_too g kept w v alike s t k h s_within t_within are.share;
      source = sym (alike.blocks s s_within) ∙ are.source;
      target = sym (alike.blocks t t_within) ∙ are.target;
    }

    home_range : (k h : ℕ) → HaveCommonBlock w s t k h → h < length g.ids
    home_range k h (Peers a b c) = subst (λ (x : ℕ). x < length g.ids) c head_within
    home_range k h (ToHead a b c) = subst (λ (x : ℕ). x < length g.ids) c t_within
    home_range k h (FromHead a b c) = subst (λ (x : ℕ). x < length g.ids) c s_within

    home_too : (dir : Dir) (k h e : ℕ) → AreMembers g w s t k h → BeginsOver g w dir s h e → BeginsOver g v dir s h e
    home_too dir k h e are begins = over_too s h s_within (home_range k h are.share.common) dir e begins

    pub line_too : (tag : Tag) (root : ℕ) (rows : ℕ → Option Row) (row : Row) → LineOf tag g root w s rows t row
        → LineOf tag g root v s rows t row
    line_too tags.Sole root rows row line = record {
      block = line.block;
      head = line.head;
      common = common_too g w v s t line.block line.head alike s_within t_within line.common;
      one_link = one_too line.block row.blue line.one_link;
      red = line.red;
    }
    line_too tags.Below root rows row line = record {
      block = line.block;
      head = line.head;
      members = members_too line.block line.head line.members;
      blue = over_too s t s_within t_within Up row.blue line.blue;
      red = home_too Down line.block line.head row.red line.members line.red;
    }
    line_too tags.Above root rows row line = record {
      block = line.block;
      head = line.head;
      members = members_too line.block line.head line.members;
      none_up = hop_too s t s_within t_within Up None line.none_up;
      blue = home_too Up line.block line.head row.blue line.members line.blue;
      red = over_too s t s_within t_within Down row.red line.red;
    }
    line_too tags.Unordered root rows row line = record {
      block = line.block;
      head = line.head;
      members = members_too line.block line.head line.members;
      none_up = hop_too s t s_within t_within Up None line.none_up;
      none_down = hop_too s t s_within t_within Down None line.none_down;
      blue = home_too Down line.block line.head row.blue line.members line.blue;
      red = home_too Up line.block line.head row.red line.members line.red;
    }
    line_too tags.Carried root rows row line = record {
      apart = λ k h common. line.apart k h (common_too g v w s t k h
          (alike_back g w v alike) s_within t_within common);
      to_other = λ other. subst (λ (x : ℕ). HasLinksFor rows x row) (alike.heads t t_within) (line.to_other other);
      to_root = λ at_root. subst (λ (x : ℕ). HasLinksFor rows x row) (alike.heads s s_within) (line.to_root at_root);
    }
    line_too _ root rows row line = record {
      block = line.block;
      head = line.head;
      share = share_too g kept w v alike s t line.block line.head s_within t_within line.share;
      at_head = line.at_head;
      blue = over_too s t s_within t_within Up row.blue line.blue;
      red = over_too s t s_within t_within Down row.red line.red;
    }

  -- and of whole files
  pub tells_too : (root : ℕ) (file : CertFile) → ((a : ℕ) → a < length g.ids → w.head a < length g.ids)
      → Tells g root w file
      → Tells g root v file
  tells_too root file heads tells = record {
    version = tells.version;
    root_number = tells.root_number;
    nodes = record {
      one_each = tells.nodes.one_each;
      each = λ a id is.
          tells.nodes.each a id is ∙ ap (λ (x : CertNode). Some x) (node_same a id (slice_get_within g.ids a id is));
    };
    links = record {
      one_each = tells.links.one_each;
      each = λ e link is.
          tells.links.each e link is ∙ ap (λ (x : CertLink). Some x) (link_same e link
          (slice_get_within g.links e link is));
    };
    row_count = tells.row_count;
    rows = λ s t s_within t_within two.
        let it = tells.rows s t s_within t_within two in
        record {
          row = it.row;
          is = it.is;
          line = line_too s t s_within t_within (heads s s_within) it.row.tag root (row_of file.cert s) it.row it.line;
        };
  }
    where
      node_same : (a : ℕ) (id : NodeId) → a < length g.ids → node_words w a id ≡ node_words v a id
      node_same a id a_within = λ i. record {
        id = id;
        order = alike.orders a a_within i;
        head = alike.heads a a_within i;
        block = alike.blocks a a_within i;
      }

      link_same : (e : ℕ) (link : Link) → e < length g.links → link_words w e link ≡ link_words v e link
      link_same e link e_within = λ i. record {
        a = link.a;
        b = link.b;
        block = alike.link_blocks e e_within i;
        role = alike.roles e e_within i;
      }
