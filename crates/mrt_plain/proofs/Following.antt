-- What a color walk has gone over and met so far.
use Rattle.std.proofs.Common.{◌≡◌, ◌<◌, ◌-◌, ℕ, List, [], ◌∷◌, ◌++◌, Option, sym, ◌∙◌, ap, append_assoc}
use Rattle.mrt_graph.specs.declared.link.Link.{Link}
use Rattle.mrt_graph.specs.ColorWalk.{links_followed}
use Rattle.mrt_graph.specs.Hop.{Hop}
use Rattle.mrt_graph.specs.Uses.{nodes_met}
use Rattle.mrt_graph.specs.Walk.{Walk}
use Rattle.mrt_graph.proofs.Walks.{met_onward, walk_onward}
use Rattle.mrt_plain.specs.steps.NextHop.{IsNextHop}

-- from s over the links `gone`, which met the nodes `met` before the one where it is, `most` links before the end
pub record IsFollowing (links : List Link) (n : ℕ) (next : ℕ → Option Hop) (t s : ℕ) (gone met : List ℕ) (most at : ℕ) : Type 0 where
  pub within : at < n
  pub walks : Walk links s gone at
  pub links_so_far : gone ++ links_followed next t most at ≡ links_followed next t n s
  pub nodes_so_far : met ++ nodes_met links at (links_followed next t most at) ≡ nodes_met links s (links_followed next t n s)

-- one hop more
pub following_onward : (links : List Link) (n : ℕ) (next : ℕ → Option Hop) (t s : ℕ) (gone met : List ℕ) (most at e v : ℕ)
    → IsFollowing links n next t s gone met most at → IsNextHop links n next t most at e v
    → IsFollowing links n next t s (gone ++ e ∷ []) (met ++ at ∷ []) (most - 1) v
following_onward links n next t s gone met most at e v so_far hop = record {
  within = hop.within;
  walks = walk_onward links gone s at e v so_far.walks hop.leads_on;
  links_so_far =
      append_assoc gone (e ∷ []) (links_followed next t (most - 1) v)
      ∙ ap (λ (rest : List ℕ). gone ++ rest) (sym hop.follows)
      ∙ so_far.links_so_far;
  nodes_so_far =
      append_assoc met (at ∷ []) (nodes_met links v (links_followed next t (most - 1) v))
      ∙ ap (λ (rest : List ℕ). met ++ rest) (sym (met_onward links at e v (links_followed next t (most - 1) v) hop.leads_on))
      ∙ ap (λ (rest : List ℕ). met ++ nodes_met links at rest) (sym hop.follows)
      ∙ so_far.nodes_so_far;
}
