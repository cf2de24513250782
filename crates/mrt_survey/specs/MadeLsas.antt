-- The database of a network that is made from a number.
use Rattle.std.specs.Prelude.{ℕ, ◌+◌, ◌^◌, ◌==◌, List, [], ◌∷◌, Option, Some, None, map, if◌then◌else◌}
use Rattle.std.specs.Int.{w32, cast_signed}
use Rattle.std.specs.List.{enumerate_from, filter_map, range_with_len}
use Rattle.ospf_lsa.specs.declared.lsa.Body.TheVariants.{Router}
use Rattle.ospf_lsa.specs.declared.lsa.Lsa.{Lsa}
use Rattle.ospf_lsa.specs.declared.lsa.RouterLink.{RouterLink}
use Rattle.ospf_lsa.specs.LsaText.{lsa_length}
use Rattle.ospf_lsa.specs.Types.{router_lsa}
use Rattle.ospf_lsa.specs.Written.{renewed}
use Rattle.mrt_survey.specs.declared.made_link.MadeLink.{MadeLink}
use Rattle.mrt_survey.specs.MadeLinks.{made_links}

-- a point-to-point link to a router, with this link data and metric, without TOS entries
abbrev pub link_to : ℕ → ℕ → ℕ → RouterLink
link_to router link_data metric = record {
  id = router;
  link_data = link_data;
  kind = 1;
  entries = 0;
  metric = metric;
}

-- of a link with its number, which is the link data at both ends: a router's own end; none where it is at neither
abbrev pub end_at : ℕ → ℕ × MadeLink → Option RouterLink
end_at router numbered =
    if numbered.1.first == router then Some (link_to numbered.1.second numbered.0 numbered.1.first_metric)
    else (if numbered.1.second == router then Some (link_to numbered.1.first numbered.0 numbered.1.second_metric)
    else None)

-- a router's ends of the links, which are numbered from 1
abbrev pub ends_of : List MadeLink → ℕ → List RouterLink
ends_of links router = filter_map (end_at router) (enumerate_from 1 links)

-- a router's LSA but for its place and its checksum: age 1, options 2, the first sequence number (RFC 2328, section
-- 12.1.6), flags and spare byte 0
abbrev pub plain_lsa : List MadeLink → ℕ → Lsa
plain_lsa links router = record {
  at = 0;
  age = 1;
  options = 2;
  kind = router_lsa;
  id = router;
  router = router;
  sequence = cast_signed w32 (2 ^ 31 + 1);
  checksum = 0;
  body = Router 0 0 (ends_of links router) [];
}

-- with the checksum of its bytes
abbrev pub lsa_of : List MadeLink → ℕ → Lsa
lsa_of links router = renewed (plain_lsa links router)

-- LSAs one after another, the first at this place
abbrev pub placed : ℕ → List Lsa → List Lsa
placed at [] = []
placed at (lsa ∷ lsas) = record lsa { at = at } ∷ placed (at + lsa_length lsa) lsas

-- the LSAs of all routers, by ascending number, from 1
abbrev pub made_lsas : ℕ → ℕ → List Lsa
made_lsas number nodes = placed 0 (map (lsa_of (made_links number nodes)) (range_with_len 1 nodes))
