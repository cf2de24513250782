-- Which ends of a node ways begin with, by the marks of their links.
use Rattle.std.proofs.Common.{◌≡◌, ◌≢◌, ◌∙◌, Bool, true, false, List, Some, ℕ, slice_get, refl, sym, subst}
use Rattle.mrt_graph.specs.declared.cert.Role.TheVariants.{Sole}
use Rattle.mrt_graph.specs.declared.gadag.Mark.{Mark}
use Rattle.mrt_graph.specs.declared.link.End.{End}
use Rattle.mrt_graph.specs.DirectedLists.{DirectedLists}
use Rattle.mrt_graph.proofs.EndsAt.{end_leads}
use Rattle.link_direction.specs.Directions.{Says}
use Rattle.block_spf.specs.steps.Offers.{goes_on}
use Rattle.block_spf.specs.steps.PathsOverEnds.{Sought}
use Rattle.block_spf.proofs.EndCosts.{IsWayOn}
use Rattle.link_direction.proofs.ClosedBlocks.{IsOrdered}
use Rattle.block_spf.proofs.Marks.{IsMarkedEnd, marked_block, marked_role, test_leads_back, test_leads_on}
use Rattle.link_direction.proofs.LinkNodes.{link_within}
use Rattle.block_spf.proofs.MoreLinks.{has_more, more_not_sole}

module _ (d : DirectedLists) (root : ℕ) (it : Sought) (own : Bool) (x place kept : ℕ) (ends : List End) (end : End) (mark : Mark) (is : IsOrdered it.g root it.w)
    (says : Says it.g d it.w) (marked : IsMarkedEnd it.g d x place ends end mark) (kept_is : kept ≡ it.w.block x) where
  abbrev IsTaken : Type 0
  IsTaken = (mark.role ≢ Sole) × (slice_get it.wanted mark.block ≡ Some true) × (own ≡ true → mark.block ≡ kept)

  block_is : mark.block ≡ it.w.lies_in end.link
  block_is = marked_block it.g d it.w x place ends end mark is.kept says marked

  role_is : mark.role ≡ it.w.role end.link
  role_is = marked_role it.g d it.w x place ends end mark is.kept says marked

  pub way_on : IsTaken → goes_on it.dir mark.way x end.to ≡ true → IsWayOn it own x place end
  way_on takes goes = record {
    step = record {
      ends = ends;
      list = marked.list;
      place = place;
      there = marked.there;
      in_block = refl;
      leads_on = test_leads_on it.g d it.w it.dir x place ends end mark is.kept says marked goes;
    };
    here = refl;
    in_wanted = record {
      more = has_more it.g root it.w end.link x end.to is (end_leads it.g x place ends end is.kept marked.list marked.there) (λ sole. takes.0 (role_is ∙ sole));
      marked = subst (λ (b : ℕ). slice_get it.wanted b ≡ Some true) block_is takes.1;
    };
    kept_to = λ kept. sym block_is ∙ takes.2 kept ∙ kept_is;
  }

  pub taken_on : IsWayOn it own x place end → IsTaken
  taken_on on = (
    (λ sole.
        more_not_sole it.g root it.w end.link is on.in_wanted.more
        (link_within it.g end.link x end.to is.kept (end_leads it.g x place ends end is.kept marked.list marked.there)) (sym role_is ∙ sole)),
    subst (λ (b : ℕ). slice_get it.wanted b ≡ Some true) (sym block_is) on.in_wanted.marked,
    (λ kept. block_is ∙ on.kept_to kept ∙ sym kept_is),
  )

  pub no_way_back : goes_on it.dir mark.way x end.to ≡ false → IsWayOn it own x place end → ⊥
  no_way_back back on = test_leads_back it.g d it.w it.dir x place ends end mark is.kept says marked back on.step.leads_on
