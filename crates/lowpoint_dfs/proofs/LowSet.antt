-- A node that was given what is least has it, and all else is as it was.
use Rattle.std.proofs.Common.{◌≡◌, ◌≢◌, ◌<◌, ◌∙◌, ℕ, List, Option, Some, length, set, slice_get, inl, inr, sym, ap, subst}
use Rattle.std.specs.Option.{option_and_then, option_map_or}
use Rattle.std.proofs.lemmas.Bool.{cases_eq}
use Rattle.std.proofs.lemmas.List.{length-set}
use Rattle.mrt_graph.proofs.ListPlaces.{set_elsewhere, set_there}
use Rattle.mrt_graph.specs.declared.link.End.{End}
use Rattle.mrt_graph.specs.declared.tree.TreeNode.{TreeNode}
use Rattle.mrt_graph.specs.TreeFields.{search_number, parent_link}
use Rattle.lowpoint_dfs.specs.declared.lowpoints.Lowest.{Lowest}
use Rattle.lowpoint_dfs.specs.steps.Lowering.{IsGiven, IsLowest}

module _ (tree : List TreeNode) (v : ℕ) (ends : List End) (node : TreeNode) (lowest : Lowest) (within : v < length tree)
    (there : slice_get tree v ≡ Some node) where
  abbrev given : TreeNode
  given = record { number = node.number; parent = node.parent; low = lowest.low; low_link = lowest.link }

  at_v : slice_get (set tree v given) v ≡ Some given
  at_v = set_there tree v given within

  elsewhere : (u : ℕ) → u ≢ v → slice_get (set tree v given) u ≡ slice_get tree u
  elsewhere u other = set_elsewhere tree v u given other

  same_number : (u : ℕ) → search_number (set tree v given) u ≡ search_number tree u
  same_number u = elim (cases_eq u v) [
    | inl same ↦ rw same (ap (λ (o : Option TreeNode). option_map_or (λ n. n.number) o 0) (at_v)
        ∙ sym (ap (λ (o : Option TreeNode). option_map_or (λ n. n.number) o 0) there))
    | inr other ↦ ap (λ (o : Option TreeNode). option_map_or (λ n. n.number) o 0) (elsewhere u other)
  ]

  same_parent : (u : ℕ) → parent_link (set tree v given) u ≡ parent_link tree u
  same_parent u = elim (cases_eq u v) [
    | inl same ↦ rw same (ap (option_and_then (λ (n : TreeNode). n.parent)) at_v
        ∙ sym (ap (option_and_then (λ (n : TreeNode). n.parent)) there))
    | inr other ↦ ap (option_and_then (λ (n : TreeNode). n.parent)) (elsewhere u other)
  ]

  is_given_at : IsLowest tree v ends (length ends) lowest → IsGiven tree v ends (set tree v given)
  is_given_at least = record {
    one_each = length-set tree v given;
    alike = record { numbers = same_number; parents = same_parent };
    lows = λ u other. ap (λ (o : Option TreeNode). option_map_or (λ n. n.low) o 0) (elsewhere u other);
    low_links = λ u other. ap (option_and_then (λ (n : TreeNode). n.low_link)) (elsewhere u other);
    lowest = lowest;
    is_lowest = least;
    low = ap (λ (o : Option TreeNode). option_map_or (λ n. n.low) o 0) at_v;
    link = ap (option_and_then (λ (n : TreeNode). n.low_link)) at_v;
  }

  pub is_given : (place : ℕ) → place ≡ v → IsLowest tree v ends (length ends) lowest → IsGiven tree v ends (set tree place given)
  is_given place is least = subst (λ (p : ℕ). IsGiven tree v ends (set tree p given)) (sym is) (is_given_at least)
