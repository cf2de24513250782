-- The closing link of the block, or its one link: there is one of these.
use Rattle.std.proofs.Common.{◌≡◌, ◌⊎◌, ◌==◌, ◌&&◌, ◌∙◌, ℕ, Bool, true, false, not, Option, Some, None, slice_get, length, inl, inr, refl, sym, ap, subst}
use Rattle.std.proofs.lemmas.Bool.{and_parts, eq-eqb, eqb-true, ne_eqb, not-true, or_cases, true≢false}
use Rattle.std.proofs.lemmas.Option.{same_Some}
use Rattle.std.specs.List.{list_all}
use Rattle.std.specs.Option.{option_map, option_map_or}
use Rattle.mrt_graph.specs.declared.cert.CertLink.{CertLink}
use Rattle.mrt_graph.specs.declared.cert.Role.{Role}
use Rattle.mrt_graph.specs.declared.cert.Role.TheVariants as roles
use Rattle.mrt_graph.specs.Certificate.{Certificate}
use Rattle.mrt_graph.specs.CertFields.{block_of, has_role, head_of, links_of}
use Rattle.mrt_graph.specs.HeadsAndBlocks.{closed_unless_one_link, closings}
use Rattle.mrt_graph.specs.Roles.{is_closing, is_plain, is_sole}
use Rattle.mrt_graph.specs.Rules.{ClosedRule}
use Rattle.mrt_graph.specs.Topology.{Topology}
use Rattle.mrt_graph.proofs.Blocks.{Words}
use Rattle.mrt_graph.proofs.ListTests.{one_passes, passes_too}
use Rattle.mrt_graph.proofs.TestFacts.{both_pass, closing_is, role_there, unless}
use Rattle.proxy_rows.specs.declared.attachment.Attachment.{Attachment}
use Rattle.proxy_rows.specs.declared.proxy_row.Out.{Out}
use Rattle.proxy_rows.specs.declared.proxy_row.Out.TheVariants as outs
use Rattle.proxy_rows.specs.steps.LabelledGraph.{IsGround}
use Rattle.proxy_rows.specs.ProxyRows.{IsHeadRed, Closing, OneLink}
use Rattle.proxy_rows.specs.Sides.{IsOfBlock}
use Rattle.proxy_rows.proofs.Attaching.{words}
use Rattle.proxy_rows.proofs.BlockRows.{ToHigh, to_high, upper_is_member}
use Rattle.proxy_rows.proofs.Grounds.{upper_member, upper_within}

-- a link of the block
record Held (c : Certificate) (at : Attachment) (e : ℕ) : Type 0 where
  link : CertLink
  is : slice_get c.links e ≡ Some link
  block : link.block ≡ at.block

held : (c : Certificate) (at : Attachment) (e : ℕ) → IsOfBlock c at e → Held c at e
held c at e of = go (slice_get c.links e) refl of
  where
    go : (o : Option CertLink) → slice_get c.links e ≡ o → option_map (λ (link : CertLink). link.block) o ≡ Some at.block → Held c at e
    go None is block = cc
    go (Some link) is block = record { link = link; is = is; block = same_Some _ _ block }

-- a link of the block is one of its links
of_block_passes : (c : Certificate) (at : Attachment) (e : ℕ) (h : Held c at e) → (h.link.block == at.block) ≡ true
of_block_passes c at e h = eq-eqb h.link.block at.block h.block

-- a role that a link of the block has
pub role_of : (c : Certificate) (at : Attachment) (e : ℕ) (test : Role → Bool) → IsOfBlock c at e
    → test (option_map_or (λ link. link.role) (slice_get c.links e) roles.Plain) ≡ true → has_role test c e ≡ true
role_of c at e test of passes =
    let h = held c at e of in
    rw h.is (subst (λ (o : Option CertLink). test (option_map_or (λ link. link.role) o roles.Plain) ≡ true) h.is passes)

-- in a block of one link, all of its links are one
one_link : (c : Certificate) (at : Attachment) (e f : ℕ) → length (links_of c at.block) ≡ 1 → IsOfBlock c at e → IsOfBlock c at f → e ≡ f
one_link c at e f one of_e of_f =
    let x = held c at e of_e in
    let y = held c at f of_f in
    one_passes (λ link. link.block == at.block) c.links e f x.link y.link one x.is (of_block_passes c at e x) y.is (of_block_passes c at f y)

-- a closing link of the block
closes : (c : Certificate) (at : Attachment) (e : ℕ) (h : Held c at e) → has_role is_closing c e ≡ true
    → ((h.link.block == at.block) && is_closing h.link.role) ≡ true
closes c at e h closing =
    let r = role_there c e is_closing closing in
    let same : r.link ≡ h.link = cc (r.is, h.is) in
    rw (of_block_passes c at e h) (subst (λ (l : CertLink). is_closing l.role ≡ true) same r.passes)

one_closing : (c : Certificate) (at : Attachment) (e f : ℕ) → length (closings c at.block) ≡ 1 → IsOfBlock c at e → has_role is_closing c e ≡ true
    → IsOfBlock c at f → has_role is_closing c f ≡ true → e ≡ f
one_closing c at e f one of_e e_closing of_f f_closing =
    let x = held c at e of_e in
    let y = held c at f of_f in
    one_passes (λ link. (link.block == at.block) && is_closing link.role) c.links e f x.link y.link one
    x.is (closes c at e x e_closing) y.is (closes c at f y f_closing)

module _ (g : Topology) (c : Certificate) (at : Attachment) (ground : IsGround g c at) where
  abbrev w : Words
  w = words g c ground.accepted

  -- the sixth rule
  closed : (head : ℕ) × (closed_unless_one_link c head at.block ≡ true)
  closed =
      let member = upper_member g c at ground in
      let rule = unless (at.upper == ground.accepted.root) _ (ground.accepted.accepted ClosedRule at.upper (upper_within g c at ground))
      (ne_eqb at.upper ground.accepted.root member.not_root) in
      let p = both_pass (closed_unless_one_link c) (head_of c at.upper) (block_of c at.upper) rule in
      let same : p.second ≡ at.block = same_Some _ _ (sym p.second_is ∙ upper_is_member g c at ground) in
      (p.first, subst (λ (k : ℕ). closed_unless_one_link c p.first k ≡ true) same p.passes)

  -- the block has one link, or one closing link and no sole one
  pub data Kind : Type 0 where
    Lone : length (links_of c at.block) ≡ 1 → Kind
    Round : length (closings c at.block) ≡ 1 → list_all (λ link. not (is_sole link.role)) (links_of c at.block) ≡ true → Kind

  pub kind : Kind
  kind = elim (or_cases (length (links_of c at.block) == 1) _ closed.1) [
    | inl one ↦ Lone (eqb-true (length (links_of c at.block)) 1 one)
    | inr more ↦
        let none = and_parts (list_all (λ link. not (is_sole link.role)) (links_of c at.block)) _ more in
        let one = and_parts (length (closings c at.block) == 1) _ none.1 in
        Round (eqb-true (length (closings c at.block)) 1 one.0) none.0
  ]

  not_sole : (e : ℕ) → IsOfBlock c at e → list_all (λ link. not (is_sole link.role)) (links_of c at.block) ≡ true → w.role e ≡ roles.Sole → ⊥
  not_sole e of none sole =
      let h = held c at e of in
      let passes : not (is_sole h.link.role) ≡ true =
      passes_too (λ link. link.block == at.block) (λ link. not (is_sole link.role)) c.links e h.link none h.is (of_block_passes c at e h) in
      let same : w.role e ≡ h.link.role = ap (λ (o : Option CertLink). option_map_or (λ link. link.role) o roles.Plain) h.is in
      true≢false (sym (ap is_sole (sym same ∙ sole)) ∙ not-true (is_sole h.link.role) passes)

  -- a link of the block that is closing or sole is the one that red takes at the head
  pub same_as_red : (e : ℕ) → IsOfBlock c at e → (w.role e ≡ roles.Closing) ⊎ (w.role e ≡ roles.Sole) → e ≡ (to_high g c at ground).hop.link
  same_as_red e of role = go kind
    where
      red : ToHigh g c at ground
      red = to_high g c at ground

      go : Kind → e ≡ red.hop.link
      go (Lone one) = one_link c at e red.hop.link one of red.of
      go (Round one none) = elim role [
        | inr sole ↦ absurd (not_sole e of none sole)
        | inl closing ↦ elim red.role [
          | inr sole ↦ absurd (not_sole red.hop.link red.of none sole)
          | inl red_closing ↦ one_closing c at e red.hop.link one of (role_of c at e is_closing of (ap is_closing closing))
              red.of (role_of c at red.hop.link is_closing red.of (ap is_closing red_closing))
        ]
      ]

  -- red at the head takes one link
  pub red_link : (out : Out) → IsHeadRed c at out → out ≡ outs.Link (to_high g c at ground).hop.link
  red_link out (Closing e of closing) =
      ap (λ (k : ℕ). outs.Link k) (same_as_red e of (inl (closing_is g.links ground.accepted.root c e closing)))
  red_link out (OneLink e of one) = ap (λ (k : ℕ). outs.Link k) (one_link c at e (to_high g c at ground).hop.link one of (to_high g c at ground).of)

  -- and that is one
  pub head_red : IsHeadRed c at (outs.Link (to_high g c at ground).hop.link)
  head_red = go kind
    where
      red : ToHigh g c at ground
      red = to_high g c at ground

      go : Kind → IsHeadRed c at (outs.Link red.hop.link)
      go (Lone one) = OneLink red.hop.link red.of one
      go (Round one none) = elim red.role [
        | inl closing ↦ Closing red.hop.link red.of (role_of c at red.hop.link is_closing red.of (ap is_closing closing))
        | inr sole ↦ absurd (not_sole red.hop.link red.of none sole)
      ]

  said_role : (e : ℕ) (h : Held c at e) → w.role e ≡ h.link.role
  said_role e h = ap (λ (o : Option CertLink). option_map_or (λ link. link.role) o roles.Plain) h.is

  -- a closing or sole link of the block is not plain
  pub not_plain : (e : ℕ) → IsOfBlock c at e → (w.role e ≡ roles.Closing) ⊎ (w.role e ≡ roles.Sole) → has_role is_plain c e ≡ false
  not_plain e of role =
      let h = held c at e of in
      let same = sym (said_role e h) in
      rw h.is (elim role [ inl closing ↦ ap is_plain (same ∙ closing) | inr sole ↦ ap is_plain (same ∙ sole) ])

  -- a link of the block that is not plain is red at the head
  pub red_if_not_plain : (e : ℕ) → IsOfBlock c at e → has_role is_plain c e ≡ false → IsHeadRed c at (outs.Link e)
  red_if_not_plain e of other =
      let h = held c at e of in
      let same = same_as_red e of (go h.link.role (said_role e h) (rw h.is at other)) in
      subst (λ (k : ℕ). IsHeadRed c at (outs.Link k)) (sym same) head_red
    where
      go : (role : Role) → w.role e ≡ role → is_plain role ≡ false → (w.role e ≡ roles.Closing) ⊎ (w.role e ≡ roles.Sole)
      go roles.Plain is fails = absurd (true≢false fails)
      go roles.Sole is fails = inr is
      go roles.Closing is fails = inl is
