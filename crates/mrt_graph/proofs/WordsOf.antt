-- What a certificate says, as the functions that the proof speaks of.
use Rattle.std.specs.Prelude.{ℕ, List, length, slice_get}
use Rattle.std.specs.Option.{option_map_or, unwrap_or}
use Rattle.mrt_graph.specs.declared.cert.Color.TheVariants.{Blue, Red}
use Rattle.mrt_graph.specs.declared.cert.Role.TheVariants.{Plain}
use Rattle.mrt_graph.specs.declared.cert.Tag.TheVariants.{Carried}
use Rattle.mrt_graph.specs.declared.link.Link.{Link}
use Rattle.mrt_graph.specs.CertFields.{order_of, head_of, block_of, link_block}
use Rattle.mrt_graph.specs.Certificate.{Certificate, row_of}
use Rattle.mrt_graph.specs.Hop.{color_hop}
use Rattle.mrt_graph.proofs.Blocks.{Words}

-- of what is not there the functions say anything: no test passes for it
abbrev pub words_of : List Link → ℕ → Certificate → Words
words_of links root c = record {
  links = links;
  root = root;
  count = length c.nodes;
  order = λ a. unwrap_or (order_of c a) 0;
  head = λ a. unwrap_or (head_of c a) 0;
  block = λ a. unwrap_or (block_of c a) 0;
  part = λ e. unwrap_or (link_block c e) 0;
  role = λ e. option_map_or (λ link. link.role) (slice_get c.links e) Plain;
  tag = λ s t. option_map_or (λ row. row.tag) (row_of c s t) Carried;
  blue = λ t s. color_hop links (row_of c) Blue t s;
  red = λ t s. color_hop links (row_of c) Red t s;
}
