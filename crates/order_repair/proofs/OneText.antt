-- There is exactly one text on the repairs by order of a router.
use Rattle.std.specs.Bool.{Decides}
use Rattle.std.proofs.Common.{◌≡◌, ◌⊎◌, ◌∙◌, ◌++◌, ◌<◌, ℕ, Bool, List, [], Option, Some, None, codes, length, refl, sym, ap, inl, inr}
use Rattle.std.proofs.lemmas.Bool.{cases_Bool, cases_eq}
use Rattle.std.proofs.lemmas.Bool.Decides.{Decides-and, Decides-eqb, Decides-like, Decides-not, Decides-or, not_from_Decides}
use Rattle.std.proofs.lemmas.Option.{slice_get_within}
use Rattle.mrt_graph.specs.declared.cert.Color.{Color}
use Rattle.mrt_graph.specs.declared.cert.Tag.{Tag}
use Rattle.mrt_graph.specs.declared.link.Element.{Element}
use Rattle.mrt_graph.specs.declared.link.Element.TheVariants as elements
use Rattle.mrt_graph.specs.declared.node_id.NodeId.{NodeId}
use Rattle.mrt_graph.specs.Separates.{IsNeitherEnd}
use Rattle.text_parts.specs.Spelling.{node_text}
use Rattle.mrt_graph.proofs.ListTests.{there}
use Rattle.block_spf.specs.declared.reach.Dir.TheVariants.{Down, Up}
use Rattle.block_spf.specs.LeastPath.{HaveCommonBlockOfMoreLinks}
use Rattle.mrt_rows.proofs.HopsExist.{has_hop}
use Rattle.mrt_rows.proofs.OrderedGraphs.{OrderedGraph, one_common}
use Rattle.text_parts.proofs.Adding.{one_headed_text, one_id, one_text_of_parts, some_headed_text, some_text_of_parts}
use Rattle.order_repair.specs.Failed.{IsWithin, LiesIn}
use Rattle.order_repair.specs.OrderText.{AtEnd, Colored, IsHead, IsLetter, IsLine, IsOrderText, IsPartOn, Line, NoLine, NotOfIt, letter_of}
use Rattle.order_repair.specs.steps.Tagging.{IsTagFor, tag_by}
use Rattle.order_repair.proofs.OneChoice.{choice_for, one_choice}
use Rattle.order_repair.proofs.TagFound.{found}
use Rattle.link_direction.proofs.TwoNodes.{of_two}

-- what a test tells holds, or it does not
told : {P : Type 0} (test : Bool) → Decides test P → P ⊎ (P → ⊥)
told test is = elim (cases_Bool test) [ inl holds ↦ inl (is.0 holds) | inr fails ↦ inr (not_from_Decides test is fails) ]

module _ (og : OrderedGraph) (s : ℕ) (s_within : s < length og.g.ids) where
  abbrev n : ℕ
  n = length og.g.ids

  one_head : (text other : List ℕ) → IsHead og.g og.root s text → IsHead og.g og.root s other → text ≡ other
  one_head text other is is' =
      is.spelled
      ∙ ap (λ (id : NodeId). codes "order " ++ node_text id ++ codes " root " ++ node_text is.root_id ++ codes "\n")
      (one_id og.g.ids s is.router is'.router is.router_is is'.router_is)
      ∙ ap (λ (id : NodeId). codes "order " ++ node_text is'.router ++ codes " root " ++ node_text id ++ codes "\n")
      (one_id og.g.ids og.root is.root_id is'.root_id is.root_is is'.root_is)
      ∙ sym is'.spelled

  some_head : (text : List ℕ) × IsHead og.g og.root s text
  some_head =
      let router = there og.g.ids s s_within in
      let root = there og.g.ids og.root og.ordered.root_within in
      (_, record { router = router.0; router_is = router.1; root_id = root.0; root_is = root.1; spelled = refl })

  module _ (t k h : ℕ) (t_within : t < n) (shares : HaveCommonBlockOfMoreLinks og.g og.w s t k h) where
    one_letter : (x : Element) (text other : List ℕ) → IsLetter og.g og.root og.w s t k h x text
        → IsLetter og.g og.root og.w s t k h x other → text ≡ other
    one_letter x text other (NotOfIt none) (NotOfIt none') = refl
    one_letter x text other (NotOfIt none) (AtEnd lies end) = absurd (none lies)
    one_letter x text other (NotOfIt none) (Colored color lies choice) = absurd (none lies)
    one_letter x text other (AtEnd lies end) (NotOfIt none) = absurd (none lies)
    one_letter x text other (AtEnd lies end) (AtEnd lies' end') = refl
    one_letter x text other (AtEnd lies end) (Colored color lies' choice) = absurd (end choice.between.neither)
    one_letter x text other (Colored color lies choice) (NotOfIt none) = absurd (none lies)
    one_letter x text other (Colored color lies choice) (AtEnd lies' end) = absurd (end choice.between.neither)
    one_letter x text other (Colored color lies choice) (Colored color' lies' choice') =
        ap (λ (c : Color). letter_of c) (one_choice og s t x color color' choice choice')

    -- it is of the block, or it is not; and so for the two
    lies_or_not : (x : Element) → IsWithin og.g x → LiesIn og.g og.w k h x ⊎ (LiesIn og.g og.w k h x → ⊥)
    lies_or_not (elements.Link e) within =
        told _ (Decides-like _ (λ is. record { within = within; in_block = is }) (λ lies. lies.in_block) (Decides-eqb (og.w.lies_in e) k))
    lies_or_not (elements.Node f) within =
        told _ (Decides-like _ (λ is. record { within = within; in_block = is }) (λ lies. lies.in_block) (Decides-or _ _ (Decides-eqb (og.w.block f) k) (Decides-eqb f h)))

    neither_or_not : (x : Element) → IsNeitherEnd x s t ⊎ (IsNeitherEnd x s t → ⊥)
    neither_or_not (elements.Link e) = inl tt
    neither_or_not (elements.Node f) = told _ (Decides-and _ _ (Decides-not _ (Decides-eqb f s)) (Decides-not _ (Decides-eqb f t)))

    some_letter : (x : Element) → IsWithin og.g x → (text : List ℕ) × IsLetter og.g og.root og.w s t k h x text
    some_letter x within = elim (lies_or_not x within) [
      | inr none ↦ ([], NotOfIt none)
      | inl lies ↦ elim (neither_or_not x) [
        | inr end ↦ (codes "-", AtEnd lies end)
        | inl neither ↦
            let choice = choice_for og s t k h x s_within t_within shares lies neither in
            (letter_of choice.0, Colored choice.0 lies choice.1)
      ]
    ]

    some_line : (text : List ℕ) × IsLine og.g og.root og.w s t text
    some_line =
        let id = there og.g.ids t t_within in
        let nodes = some_text_of_parts (λ f. IsLetter og.g og.root og.w s t k h (elements.Node f)) n (λ f. some_letter (elements.Node f)) in
        let links =
        some_text_of_parts (λ e. IsLetter og.g og.root og.w s t k h (elements.Link e)) (length og.g.links)
        (λ e. some_letter (elements.Link e)) in (
          node_text id.0 ++ codes " " ++ nodes.0 ++ codes " " ++ links.0 ++ codes "\n",
          record { block = k; head = h; share = shares; id = id.0; id_is = id.1; nodes = nodes.0; nodes_are = nodes.1; links = links.0; links_are = links.1; spelled = refl },
        )

  one_line : (t : ℕ) (text other : List ℕ) → IsLine og.g og.root og.w s t text → IsLine og.g og.root og.w s t other → text ≡ other
  one_line t text other is is' =
      let t_within = slice_get_within og.g.ids t is.id is.id_is in
      let same =
      one_common og s t is.block is.head is'.block is'.head s_within t_within is.share.two is.share.common is'.share.common in
      let nodes_are = rw (same.0, same.1) at is.nodes_are in
      let links_are = rw (same.0, same.1) at is.links_are in
      let nodes : is.nodes ≡ is'.nodes =
      one_text_of_parts (λ f. IsLetter og.g og.root og.w s t is'.block is'.head (elements.Node f))
      (λ f. one_letter t is'.block is'.head t_within is'.share (elements.Node f)) n is.nodes is'.nodes nodes_are is'.nodes_are in
      let links : is.links ≡ is'.links =
      one_text_of_parts (λ e. IsLetter og.g og.root og.w s t is'.block is'.head (elements.Link e))
      (λ e. one_letter t is'.block is'.head t_within is'.share (elements.Link e)) (length og.g.links) is.links is'.links links_are
      is'.links_are in
      is.spelled
      ∙ ap (λ (id : NodeId). node_text id ++ codes " " ++ is.nodes ++ codes " " ++ is.links ++ codes "\n")
      (one_id og.g.ids t is.id is'.id is.id_is is'.id_is)
      ∙ ap (λ (xs : List ℕ). node_text is'.id ++ codes " " ++ xs ++ codes " " ++ is.links ++ codes "\n") nodes
      ∙ ap (λ (xs : List ℕ). node_text is'.id ++ codes " " ++ is'.nodes ++ codes " " ++ xs ++ codes "\n") links
      ∙ sym is'.spelled

  one_part : (t : ℕ) (text other : List ℕ) → IsPartOn og.g og.root og.w s t text → IsPartOn og.g og.root og.w s t other
      → text ≡ other
  one_part t text other (NoLine none) (NoLine none') = refl
  one_part t text other (NoLine none) (Line x line) = absurd (none line.block line.head line.share)
  one_part t text other (Line x line) (NoLine none) = absurd (none line.block line.head line.share)
  one_part t text other (Line x line) (Line x' line') = one_line t x x' line line'

  -- they share a block of more than one link, or they do not
  some_tag : (t : ℕ) → t < n → (tag : Option Tag) × IsTagFor og.g og.root og.w s t tag
  some_tag t t_within = elim (cases_eq s t) [
    | inl same ↦ (None, λ k h shares. shares.two same)
    | inr two ↦
        let is = of_two og.w s t in
        let up = has_hop og Up s t s_within t_within in
        let down = has_hop og Down s t s_within t_within in
        (tag_by is.0 up.0 down.0, found og s t s_within t_within two is.0 up.0 down.0 is.1 up.1 down.1)
  ]

  some_part : (t : ℕ) → t < n → (text : List ℕ) × IsPartOn og.g og.root og.w s t text
  some_part t t_within = let it = some_tag t t_within in go it.0 it.1
    where
      go : (tag : Option Tag) → IsTagFor og.g og.root og.w s t tag → (text : List ℕ) × IsPartOn og.g og.root og.w s t text
      go None none = ([], NoLine none)
      go (Some tag) it = let line = some_line t it.0 it.1 t_within it.2.share in (line.0, Line line.0 line.1)

  pub one_text : (text other : List ℕ) → IsOrderText og.g og.root og.w s text → IsOrderText og.g og.root og.w s other → text ≡ other
  one_text text other is is' = one_headed_text (IsHead og.g og.root s) (IsPartOn og.g og.root og.w s) one_head one_part n text other is is'

  pub some_text : (text : List ℕ) × IsOrderText og.g og.root og.w s text
  some_text = some_headed_text (IsHead og.g og.root s) (IsPartOn og.g og.root og.w s) n some_head some_part
