-- What a file that tells of a graph says, test by test.
use Rattle.std.proofs.Common.{◌≡◌, ◌≢◌, ◌∙◌, ◌<◌, ℕ, Bool, true, false, Option, Some, not, length, refl, ap}
use Rattle.std.proofs.lemmas.Bool.{eq-eqb, lt-ltb, ne_eqb}
use Rattle.std.specs.Option.{option_map, option_map_or}
use Rattle.mrt_graph.specs.declared.cert.CertFile.{CertFile}
use Rattle.mrt_graph.specs.declared.cert.CertLink.{CertLink}
use Rattle.mrt_graph.specs.declared.cert.CertNode.{CertNode}
use Rattle.mrt_graph.specs.declared.cert.Role.{Role}
use Rattle.mrt_graph.specs.declared.cert.Role.TheVariants as roles
use Rattle.mrt_graph.specs.declared.cert.Row.{Row}
use Rattle.mrt_graph.specs.declared.cert.Tag.{Tag}
use Rattle.mrt_graph.specs.BothThere.{are_different, are_equal, is_less}
use Rattle.mrt_graph.specs.Certificate.{Certificate, row_of}
use Rattle.mrt_graph.specs.CertFields.{block_of, has_role, head_of, link_block, order_of, tagged}
use Rattle.mrt_graph.specs.Roles.{is_closing, is_plain, is_sole}
use Rattle.mrt_graph.specs.Tags.{same_tag}
use Rattle.mrt_graph.proofs.ListTests.{there}
use Rattle.mrt_graph.proofs.TestFacts.{tag_itself}
use Rattle.mrt_rows.specs.CertOf.{Tells}
use Rattle.mrt_rows.specs.RowsOf.{HasRow}
use Rattle.mrt_rows.proofs.OrderedGraphs.{OrderedGraph}

-- tests of two numbers that are there
pub equal_test : {x y : Option ℕ} {a b : ℕ} → x ≡ Some a → y ≡ Some b → a ≡ b → are_equal x y ≡ true
equal_test {a = a} {b = b} is_a is_b same = rw (is_a, is_b) (eq-eqb a b same)

pub less_test : {x y : Option ℕ} {a b : ℕ} → x ≡ Some a → y ≡ Some b → a < b → is_less x y ≡ true
less_test {a = a} {b = b} is_a is_b below = rw (is_a, is_b) (lt-ltb a b below)

pub different_test : {x y : Option ℕ} {a b : ℕ} → x ≡ Some a → y ≡ Some b → a ≢ b → are_different x y ≡ true
different_test {a = a} {b = b} is_a is_b differ = rw (is_a, is_b) (ap not (ne_eqb a b differ))

module _ (og : OrderedGraph) (file : CertFile) (tells : Tells og.g og.root og.w file) where
  abbrev n : ℕ
  n = length og.g.ids

  abbrev c : Certificate
  c = file.cert

  -- the words on a node
  pub order_is : (a : ℕ) → a < n → order_of c a ≡ Some (og.w.order a)
  order_is a within = let id = there og.g.ids a within in ap (option_map (λ (node : CertNode). node.order)) (tells.nodes.each a id.0 id.1)

  pub head_is : (a : ℕ) → a < n → head_of c a ≡ Some (og.w.head a)
  head_is a within = let id = there og.g.ids a within in ap (option_map (λ (node : CertNode). node.head)) (tells.nodes.each a id.0 id.1)

  pub block_is : (a : ℕ) → a < n → block_of c a ≡ Some (og.w.block a)
  block_is a within = let id = there og.g.ids a within in ap (option_map (λ (node : CertNode). node.block)) (tells.nodes.each a id.0 id.1)

  -- the words on a link
  pub link_block_is : (e : ℕ) → e < length og.g.links → link_block c e ≡ Some (og.w.lies_in e)
  link_block_is e within = let link = there og.g.links e within in ap (option_map (λ (words : CertLink). words.block)) (tells.links.each e link.0 link.1)

  pub role_test : (test : Role → Bool) (e : ℕ) (word : Role) → e < length og.g.links → og.w.role e ≡ word
      → test word ≡ true → has_role test c e ≡ true
  role_test test e word within is passes =
      let link = there og.g.links e within in
      ap (λ (o : Option CertLink). option_map_or (λ words. test words.role) o false) (tells.links.each e link.0 link.1) ∙ ap test is ∙ passes

  pub plain_test : (e : ℕ) → e < length og.g.links → og.w.role e ≡ roles.Plain → has_role is_plain c e ≡ true
  plain_test e within is = role_test is_plain e roles.Plain within is refl

  pub closing_test : (e : ℕ) → e < length og.g.links → og.w.role e ≡ roles.Closing → has_role is_closing c e ≡ true
  closing_test e within is = role_test is_closing e roles.Closing within is refl

  pub sole_test : (e : ℕ) → e < length og.g.links → og.w.role e ≡ roles.Sole → has_role is_sole c e ≡ true
  sole_test e within is = role_test is_sole e roles.Sole within is refl

  -- the tag of a row
  pub tagged_test : (s t : ℕ) (tag : Tag) → (it : HasRow og.g og.root og.w s (row_of c s) t) → it.row.tag ≡ tag
      → tagged c s t tag ≡ true
  tagged_test s t tag it is =
      ap (λ (o : Option Row). option_map_or (λ row. same_tag row.tag tag) o false) it.is
      ∙ ap (λ (x : Tag). same_tag x tag) is ∙ tag_itself tag
