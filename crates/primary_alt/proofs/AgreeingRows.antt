-- Rows that agree for a destination.
use Rattle.std.proofs.Common.{◌≡◌, ℕ, List, Option, sym, ap, subst}
use Rattle.std.specs.Option.{option_and_then}
use Rattle.mrt_graph.specs.declared.cert.Color.{Color}
use Rattle.mrt_graph.specs.declared.cert.Color.TheVariants.{Blue, Red}
use Rattle.mrt_graph.specs.declared.link.Element.{Element}
use Rattle.mrt_graph.specs.declared.link.Link.{Link}
use Rattle.mrt_graph.specs.Alternate.{AtEnd, ByBlue, ByRed, IsAlternate, OnBoth, Outside, UsesOn}
use Rattle.mrt_graph.specs.ColorWalk.{color_walk, links_followed}
use Rattle.mrt_graph.specs.Hop.{Hop, color_hop, hop_over}
use Rattle.mrt_graph.specs.Reaches.{AreDifferent, Reaches}
use Rattle.mrt_graph.specs.Rows.{AreSameFor, Rows, link_of_color}
use Rattle.mrt_graph.specs.Sound.{SoundFor}
use Rattle.mrt_graph.specs.Uses.{Uses, nodes_met}
use Rattle.mrt_graph.specs.Walk.{Walk}

pub turned : (t : ℕ) (rows others : Rows) → AreSameFor t rows others → AreSameFor t others rows
turned t rows others same s = sym (same s)

module _ (links : List Link) (t : ℕ) (rows others : Rows) (same : AreSameFor t rows others) where
  -- then they send a packet over the same links
  pub same_hops : (color : Color) → color_hop links rows color t ≡ color_hop links others color t
  same_hops color = λ i s. option_and_then (λ row. hop_over links s (link_of_color color row)) (same s i)

module _ (links : List Link) (n t : ℕ) (rows others : Rows) (same : AreSameFor t rows others) (s : ℕ) where
  same_walk : (color : Color) → color_walk links n rows color s t ≡ color_walk links n others color s t
  same_walk color = ap (λ (next : ℕ → Option Hop). links_followed next t n s) (same_hops links t rows others same color)

  use_too : (x : Element) (color : Color) → UsesOn links n rows s t x color → UsesOn links n others s t x color
  use_too x color = subst (λ (walk : List ℕ). Uses links s walk x) (same_walk color)

  use_before : (x : Element) (color : Color) → UsesOn links n others s t x color → UsesOn links n rows s t x color
  use_before x color = subst (λ (walk : List ℕ). Uses links s walk x) (sym (same_walk color))

  -- they have the same alternates
  pub alternate_too : (failed : Option Element) (answer : Option Color)
      → IsAlternate links n rows s t failed answer → IsAlternate links n others s t failed answer
  alternate_too failed answer Outside = Outside
  alternate_too failed answer (AtEnd x end) = AtEnd x end
  alternate_too failed answer (OnBoth x between blue red) = OnBoth x between (use_too x Blue blue) (use_too x Red red)
  alternate_too failed answer (ByBlue x between not_blue) = ByBlue x between (λ blue. not_blue (use_before x Blue blue))
  alternate_too failed answer (ByRed x between blue not_red) =
      ByRed x between (use_too x Blue blue) (λ red. not_red (use_before x Red red))

  reaches_too : (color : Color) → Reaches links n rows color s t → Reaches links n others color s t
  reaches_too color reaches = record {
    ends_at_t = subst (λ (walk : List ℕ). Walk links s walk t) (same_walk color) reaches.ends_at_t;
    no_node_twice = subst (λ (walk : List ℕ). AreDifferent (nodes_met links s walk)) (same_walk color) reaches.no_node_twice;
  }

  -- and are as sound
  pub sound_too : SoundFor links n rows s t → SoundFor links n others s t
  sound_too sound = record {
    blue = reaches_too Blue sound.blue;
    red = reaches_too Red sound.red;
    apart = λ x between blue red. sound.apart x between (use_before x Blue blue) (use_before x Red red);
  }
