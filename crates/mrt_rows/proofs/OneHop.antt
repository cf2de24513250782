-- What a node's one hop for another one gives its rows.
use Rattle.std.proofs.Common.{◌≡◌, ◌∙◌, ◌<◌, ℕ, Option, Some, None, length, sym, ap}
use Rattle.std.proofs.lemmas.Option.{same_Some}
use Rattle.block_spf.specs.declared.reach.Dir.{Dir}
use Rattle.block_spf.specs.declared.reach.Hop.{Hop}
use Rattle.block_spf.proofs.OneHop.{one_hop}
use Rattle.mrt_rows.specs.RowLines.{BeginsOver, NoWay}
use Rattle.mrt_rows.proofs.OrderedGraphs.{OrderedGraph, is_ordered}

module _ (og : OrderedGraph) (dir : Dir) (s t : ℕ) (s_within : s < length og.g.ids)
    (t_within : t < length og.g.ids) where
  pub one_link : (e f : ℕ) → BeginsOver og.g og.w dir s t e → BeginsOver og.g og.w dir s t f → e ≡ f
  one_link e f first second =
      let same : first.hop ≡ second.hop =
      same_Some first.hop second.hop (one_hop og.g og.root og.w dir s t (Some first.hop) (Some second.hop)
      (is_ordered og)
      s_within t_within first.reached second.reached) in
      first.over ∙ ap (λ (x : Hop). x.link) same ∙ sym second.over

  pub way_or_none : (e : ℕ) → BeginsOver og.g og.w dir s t e → NoWay og.g og.w dir s t → ⊥
  way_or_none e begins none =
      let same : ◌≡◌ {A = Option Hop} (Some begins.hop) None =
      one_hop og.g og.root og.w dir s t (Some begins.hop) None (is_ordered og) s_within t_within begins.reached none in
      absurd (cc)
