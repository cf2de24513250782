-- Parts taken off the rest of a stream.
use Rattle.std.proofs.Common.{◌≡◌, ◌+◌, ◌-◌, ◌*◌, ◌<◌, ◌≤◌, ℕ, List, [], ◌++◌, length, Option, Some, None, Result, Ok, Err, refl, sym, ap, subst, ◌∙◌, arith, append_assoc, length-append}
use Rattle.std.specs.List.{flat_map, AllByRecursion}
use Rattle.std.proofs.lemmas.Bool.{both_ways}
use Rattle.std.proofs.lemmas.List.{append-nil}
use Rattle.std.proofs.lemmas.List.Concat.{flat_map-append}
use Rattle.mrt_graph.specs.Certificate.{IsCertLink}
use Rattle.mrt_graph.specs.Kin.{Kin}
use Rattle.mrt_graph.specs.declared.cert.CertNode.{CertNode}
use Rattle.mrt_graph.specs.declared.cert.CertLink.{CertLink}
use Rattle.mrt_graph.specs.declared.cert.Row.{Row}
use Rattle.mrt_graph.proofs.Members.{all_append}
use Rattle.cert_format.specs.declared.error.CertFault.{CertFault}
use Rattle.cert_format.specs.declared.error.CertKind.TheVariants.{Heads, Trailing}
use Rattle.cert_format.specs.declared.error.CertError.{CertError}
use Rattle.cert_format.specs.declared.error.CertError.TheVariants as errors
use Rattle.cert_format.specs.declared.header.Header.{Header}
use Rattle.cert_format.specs.CertText.{header_text, node_text, link_text, row_text}
use Rattle.cert_format.specs.Layout.{End, Form, after_links, after_nodes, cert_form, collected, header_form, node_form, link_form, row_form}
use Rattle.cert_format.specs.FirstFault.{fault_in, first_fault}
use Rattle.cert_format.specs.steps.Reading.{Ends, IsFileRow, IsHeader, IsNode, Names, ReadsList, Rest, Took, TookMore}
use Rattle.cert_format.specs.steps.Steps.{AreBelow, AreFirst, AreKnown, AreParts, AreUnder, AreWhole, Begins, Grew, Knows, Parts, ReadsOn, TookParts, text_of, text_of_header}
use Rattle.cert_format.specs.Stream.{is_cut}
use Rattle.cert_format.specs.Versions.{row_count, tag_count}
use Rattle.cert_format.proofs.Files.{head_fails, links_few, nodes_few, trailing}
use Rattle.cert_format.proofs.Forms.{cut_short, header_spans}
use Rattle.cert_format.proofs.GoesOn.{after_all_nodes, are_under, at_end, links_left, nodes_left, none_read, rows_left, under}
use Rattle.cert_format.proofs.Lists.{IsPart, Took-then, next_fails, took_nothing}
use Rattle.cert_format.proofs.Parts.{node_part, link_part, row_part}

-- ---- nothing is lost

pub begins_all : {A : Type 0} (xs : List A) → Begins xs xs
begins_all xs = ([], sym (append-nil xs))

pub grew_none : (parts : Parts) → Grew parts parts
grew_none parts = record { nodes = begins_all parts.nodes; links = begins_all parts.links; rows = begins_all parts.rows; kin = λ kin is. is }

begins_then : {A : Type 0} (xs ys zs : List A) → Begins xs ys → Begins ys zs → Begins xs zs
begins_then xs ys zs a b = (a.0 ++ b.0, b.1 ∙ ap (λ (it : List _). it ++ b.0) a.1 ∙ append_assoc xs a.0 b.0)

pub grew_then : (a b c : Parts) → Grew a b → Grew b c → Grew a c
grew_then a b c x y = record {
  nodes = begins_then a.nodes b.nodes c.nodes x.nodes y.nodes;
  links = begins_then a.links b.links c.links x.links y.links;
  rows = begins_then a.rows b.rows c.rows x.rows y.rows;
  kin = λ kin is. y.kin kin (x.kin kin is);
}

-- ---- parts taken, and then more

pub took_none : (parts : Parts) (rest : Rest) → TookParts parts rest parts rest
took_none parts rest = record { text = []; adds = sym (append-nil (text_of parts)); took = record { parts = refl; place = omega arith }; grew = grew_none parts }

pub took_then : (a b c : Parts) (x y z : Rest) → TookParts a x b y → TookParts b y c z → TookParts a x c z
took_then a b c x y z one two = record {
  text = one.text ++ two.text;
  adds = two.adds ∙ ap (λ (it : List ℕ). it ++ two.text) one.adds ∙ append_assoc (text_of a) one.text two.text;
  took = Took-then one.text two.text x y z one.took two.took;
  grew = grew_then a b c one.grew two.grew;
}

-- where the rest is
pub place_then : (old new : Parts) (before after : Rest) → TookParts old before new after → before.at ≡ length (text_of old) → after.at ≡ length (text_of new)
place_then old new before after it place = omega (arith, it.took.place, place, ap length it.adds, length-append (text_of old) it.text)

-- what follows is read too
pub reads_then : (a b c : Parts) (x y : Rest) (result : Result Unit CertError) → TookParts a x b y → ReadsOn b y c result → ReadsOn a x c result
reads_then a b c x y result took reads = record { left = reads.left; took = took_then a b c x y reads.left took reads.took; comes = reads.comes }

-- ---- parts of one kind

module _ {A : Type 0} (part : (A → Form) → Form) (text : A → List ℕ) (Keeps : A → Type 0) (size : ℕ) (is : IsPart part text Keeps size) (count : ℕ) (xs ys : List A) (old new : Parts)
    (grows : (more : List A) → ys ≡ xs ++ more → text_of new ≡ text_of old ++ flat_map text more) (grew : Begins xs ys → Grew old new) where
  pub list_took : (before after : Rest) → TookMore text Keeps xs ys before after → TookParts old before new after
  list_took before after it = record { text = flat_map text it.more; adds = grows it.more it.adds; took = it.took; grew = grew (it.more, it.adds) }

  -- a fault of the next part is the first fault
  pub list_stops : (next : List A → Form) → ((more : List A) → ys ≡ xs ++ more → AllByRecursion Keeps more → length ys < count → AreParts new)
      → (AreParts new → (bytes : List ℕ) → first_fault (text_of new ++ bytes) ≡ fault_in (collected (count - length ys) part next) (length (text_of new)) bytes)
      → (before : Rest) (e : CertError) → before.at ≡ length (text_of old) → ReadsList part text Keeps count xs ys before (Err e) → ReadsOn old before new (Err e)
  list_stops next are goes_on before (errors.Fault at kind) place (left, it, lacks, fault) =
      let so_far = are it.more it.adds it.each lacks in
      let here = place_then old new before left (list_took before left it) place in
      record {
        left = left;
        took = list_took before left it;
        comes = record {
          first = goes_on so_far left.bytes ∙ ap (λ (a : ℕ). fault_in (collected (count - length ys) part next) a left.bytes) (sym here)
              ∙ next_fails part next (count - length ys) left.at left.bytes (at, kind) (omega (arith, lacks)) fault;
          cut = λ is_cut. (so_far, omega (arith, cut_short (part (λ x. End)) size left.at left.bytes at kind is.spans (fault (λ x. End)) is_cut, is.short));
        };
      }
  list_stops next are goes_on before errors.NoMemory place same = record {
    left = before;
    took = list_took before before (subst (λ (it : List A). TookMore text Keeps xs it before before) (sym same) (took_nothing text Keeps xs before));
    comes = tt;
  }

-- ---- the header

abbrev pub with_header : Parts → Header → Parts
with_header parts header = record { header = Some header; nodes = parts.nodes; links = parts.links; rows = parts.rows; kin = parts.kin }

pub header_took : (parts : Parts) (header : Header) (before after : Rest) → parts.header ≡ None → AreParts parts
    → Took (header_text header.version header.nodes header.links header.root) before after → IsHeader header.version header.nodes header.links header.root
    → TookParts parts before (with_header parts header) after × AreParts (with_header parts header)
header_took parts header before after is are took within =
    let none = subst (λ (it : Option Header). AreBelow it parts) is are in
    let bare = none.1 in (
      record {
        text = header_text header.version header.nodes header.links header.root;
        adds = rw (is, none.0, bare.links, bare.rows) (append-nil (header_text header.version header.nodes header.links header.root));
        took = took;
        grew = record { nodes = begins_all parts.nodes; links = begins_all parts.links; rows = begins_all parts.rows; kin = λ kin is. is };
      },
      record {
        header = within;
        nodes = rw none.0 (record { few = omega arith; each = tt });
        links = rw bare.links (record { few = omega arith; each = tt });
        rows = rw bare.rows (record { few = omega arith; each = tt });
        nodes_first = λ fewer. record { links = bare.links; rows = bare.rows; kin = bare.kin };
        links_first = λ fewer. bare.rows;
        known = λ all. absurd (omega (arith, all, ap length none.0, within.some_node));
      },
    )

pub header_stops : (parts : Parts) (before : Rest) (fault : CertFault) → parts.header ≡ None → AreParts parts → before.at ≡ length (text_of parts)
    → ((next : ℕ → ℕ → ℕ → Form) → Names fault (fault_in (header_form next) before.at before.bytes)) → ReadsOn parts before parts (Err (errors.Fault fault.at fault.kind))
header_stops parts before fault is are place named =
    let none = none_read parts is are in
    let start : 0 ≡ before.at = sym (place ∙ ap length none) in
    record {
      left = before;
      took = took_none parts before;
      comes = record {
        first = ap (λ (it : List ℕ). first_fault (it ++ before.bytes)) none ∙ ap (λ (a : ℕ). fault_in cert_form a before.bytes) start ∙ named _;
        cut = λ is_cut. (are, cut_short (header_form (λ version nodes links. End)) 14 before.at before.bytes fault.at fault.kind header_spans (named (λ version nodes links. End)) is_cut);
      };
    }

-- ---- nodes, links and rows

abbrev pub with_links : Parts → List CertLink → Parts
with_links parts links = record { header = parts.header; nodes = parts.nodes; links = links; rows = parts.rows; kin = parts.kin }

abbrev pub with_rows : Parts → List Row → Parts
with_rows parts rows = record { header = parts.header; nodes = parts.nodes; links = parts.links; rows = rows; kin = parts.kin }

abbrev pub with_nodes : Parts → List CertNode → Option Kin → Parts
with_nodes parts nodes kin = record { header = parts.header; nodes = nodes; links = parts.links; rows = parts.rows; kin = kin }

pub first_more : {A : Type 0} (count most : ℕ) (Keeps : A → Type 0) (xs more ys : List A) → AreFirst count Keeps xs → ys ≡ xs ++ more → AllByRecursion Keeps more → length ys ≤ most → AreFirst most Keeps ys
first_more count most Keeps xs more ys first e all few = record { few = few; each = subst (AllByRecursion Keeps) (sym e) (all_append Keeps xs more first.each all) }

module _ (parts : Parts) (header : Header) (is : parts.header ≡ Some header) (so : AreUnder header parts) where
  module _ (nodes : List CertNode) (kin : Option Kin) (lacks : length parts.nodes < header.nodes) where
    pub nodes_grow : (more : List CertNode) → nodes ≡ parts.nodes ++ more → text_of (with_nodes parts nodes kin) ≡ text_of parts ++ flat_map node_text more
    nodes_grow more e =
        let bare = so.nodes_first lacks in
        rw (bare.links, bare.rows, e) (ap (λ (it : List ℕ). text_of_header parts.header ++ it) (append-nil (flat_map node_text (parts.nodes ++ more)) ∙ flat_map-append node_text parts.nodes more)
        ∙ sym (append_assoc (text_of_header parts.header) (flat_map node_text parts.nodes) (flat_map node_text more))
        ∙ ap (λ (it : List ℕ). (text_of_header parts.header ++ it) ++ flat_map node_text more) (sym (append-nil (flat_map node_text parts.nodes))))

    pub nodes_under : (more : List CertNode) → nodes ≡ parts.nodes ++ more → AllByRecursion (IsNode header.nodes) more → length nodes ≤ header.nodes
        → (length nodes < header.nodes → kin ≡ None) → (length nodes ≡ header.nodes → AreKnown header.version nodes kin) → AreUnder header (with_nodes parts nodes kin)
    nodes_under more e all few none known =
        let bare = so.nodes_first lacks in
        record {
          header = so.header;
          nodes = first_more header.nodes header.nodes (IsNode header.nodes) parts.nodes more nodes so.nodes e all few;
          links = so.links;
          rows = rw bare.rows (record { few = omega arith; each = tt });
          nodes_first = λ fewer. record { links = bare.links; rows = bare.rows; kin = none fewer };
          links_first = λ fewer. bare.rows;
          known = known;
        }

    nodes_grew : Begins parts.nodes nodes → Grew parts (with_nodes parts nodes kin)
    nodes_grew begins = record {
      nodes = begins;
      links = begins_all parts.links;
      rows = begins_all parts.rows;
      kin = λ some is. let other : ◌≡◌ {A = Option Kin} None (Some some) = sym (so.nodes_first lacks).kin ∙ is in absurd cc;
    }

    -- not all nodes are there
    pub nodes_stop : kin ≡ None → (before : Rest) (e : CertError) → before.at ≡ length (text_of parts)
        → ReadsList (node_form header.nodes) node_text (IsNode header.nodes) header.nodes parts.nodes nodes before (Err e) → ReadsOn parts before (with_nodes parts nodes kin) (Err e)
    nodes_stop none =
        let bare = so.nodes_first lacks in
        let new = with_nodes parts nodes kin in
        list_stops (node_form header.nodes) node_text (IsNode header.nodes) 11 (node_part header.nodes (nodes_few _ _ _ _ so.header)) header.nodes parts.nodes nodes parts new nodes_grow nodes_grew
        (λ more. after_nodes header.version header.links (nodes ++ more))
        (λ more e all fewer. are_under new header is (nodes_under more e all (omega (arith, fewer)) (λ few. none) (λ every. absurd (omega (arith, every, fewer)))))
        (λ are. let it = under new header is are in nodes_left new header is it.header it.nodes bare.links bare.rows)

    nodes_took : (before after : Rest) → TookMore node_text (IsNode header.nodes) parts.nodes nodes before after → TookParts parts before (with_nodes parts nodes kin) after
    nodes_took =
        list_took (node_form header.nodes) node_text (IsNode header.nodes) 11 (node_part header.nodes (nodes_few _ _ _ _ so.header)) header.nodes parts.nodes nodes parts (with_nodes parts nodes kin) nodes_grow nodes_grew

    -- all nodes are there
    pub nodes_done : (before after : Rest) → TookMore node_text (IsNode header.nodes) parts.nodes nodes before after → length nodes ≡ header.nodes → AreKnown header.version nodes kin
        → TookParts parts before (with_nodes parts nodes kin) after × AreParts (with_nodes parts nodes kin)
    nodes_done before after it all known = (
      nodes_took before after it,
      are_under (with_nodes parts nodes kin) header is (nodes_under it.more it.adds it.each (omega (arith, all)) (λ few. absurd (omega (arith, all, few))) (λ every. known)),
    )

    -- a head is at fault
    pub heads_stop : (before after : Rest) (e : CertError) → TookMore node_text (IsNode header.nodes) parts.nodes nodes before after → length nodes ≡ header.nodes
        → Knows header.version nodes kin (Err e) → ReadsOn parts before (with_nodes parts nodes kin) (Err e)
    heads_stop before after (errors.Fault at kind) it all knows =
        let first : AreFirst header.nodes (IsNode header.nodes) nodes = first_more header.nodes header.nodes (IsNode header.nodes) parts.nodes it.more nodes so.nodes it.adds it.each (omega (arith, all)) in
        record {
          left = after;
          took = nodes_took before after it;
          comes = record {
            first = rw (knows.2, knows.3) (after_all_nodes (with_nodes parts nodes kin) header is so.header first all after.bytes
                ∙ head_fails header.version header.links (14 + 11 * length nodes) knows.0 nodes (flat_map link_text parts.links ++ (flat_map row_text parts.rows ++ after.bytes)) knows.1);
            cut = λ cut. absurd (both_ways (is_cut Heads) refl (ap is_cut (sym knows.3) ∙ cut));
          };
        }
    heads_stop before after errors.NoMemory it all knows = record { left = after; took = nodes_took before after it; comes = tt }

  -- ---- links

  module _ (nodes : length parts.nodes ≡ header.nodes) where
    module _ (links : List CertLink) (lacks : length parts.links < header.links) where
      links_grow : (more : List CertLink) → links ≡ parts.links ++ more → text_of (with_links parts links) ≡ text_of parts ++ flat_map link_text more
      links_grow more e =
          let h = text_of_header parts.header in
          let n = flat_map node_text parts.nodes in
          let l = flat_map link_text parts.links in
          rw (so.links_first lacks, e) (ap (λ (it : List ℕ). h ++ (n ++ it)) (append-nil (flat_map link_text (parts.links ++ more)) ∙ flat_map-append link_text parts.links more)
          ∙ sym (append_assoc h (n ++ (l ++ [])) (flat_map link_text more) ∙ ap (λ (it : List ℕ). h ++ it) (append_assoc n (l ++ []) (flat_map link_text more)
          ∙ ap (λ (it : List ℕ). n ++ (it ++ flat_map link_text more)) (append-nil l))))

      links_under : (more : List CertLink) → links ≡ parts.links ++ more → AllByRecursion (IsCertLink header.nodes) more → length links ≤ header.links → AreUnder header (with_links parts links)
      links_under more e all few = record {
        header = so.header;
        nodes = so.nodes;
        links = first_more header.links header.links (IsCertLink header.nodes) parts.links more links so.links e all few;
        rows = so.rows;
        nodes_first = λ fewer. absurd (omega (arith, fewer, nodes));
        links_first = λ fewer. so.links_first lacks;
        known = so.known;
      }

      links_grew : Begins parts.links links → Grew parts (with_links parts links)
      links_grew begins = record { nodes = begins_all parts.nodes; links = begins; rows = begins_all parts.rows; kin = λ kin is. is }

      pub links_done : (before after : Rest) → TookMore link_text (IsCertLink header.nodes) parts.links links before after → length links ≡ header.links
          → TookParts parts before (with_links parts links) after × AreParts (with_links parts links)
      links_done before after it all = (
        list_took (link_form header.nodes) link_text (IsCertLink header.nodes) 7 (link_part header.nodes (nodes_few _ _ _ _ so.header)) header.links parts.links links parts (with_links parts links) links_grow links_grew before after it,
        are_under (with_links parts links) header is (links_under it.more it.adds it.each (omega (arith, all))),
      )

      pub links_stop : (before : Rest) (e : CertError) → before.at ≡ length (text_of parts)
          → ReadsList (link_form header.nodes) link_text (IsCertLink header.nodes) header.links parts.links links before (Err e) → ReadsOn parts before (with_links parts links) (Err e)
      links_stop =
          let new = with_links parts links in
          list_stops (link_form header.nodes) link_text (IsCertLink header.nodes) 7 (link_part header.nodes (nodes_few _ _ _ _ so.header)) header.links parts.links links parts new links_grow links_grew
          (λ all. after_links header.version header.links parts.nodes) (λ more e all fewer. are_under new header is (links_under more e all (omega (arith, fewer))))
          (λ are. let it = under new header is are in links_left new header is it.header it.nodes nodes (it.known nodes).heads it.links (so.links_first lacks))

    -- ---- rows

    module _ (links : length parts.links ≡ header.links) where
      module _ (rows : List Row) where
        rows_grow : (more : List Row) → rows ≡ parts.rows ++ more → text_of (with_rows parts rows) ≡ text_of parts ++ flat_map row_text more
        rows_grow more e =
            let h = text_of_header parts.header in
            let n = flat_map node_text parts.nodes in
            let l = flat_map link_text parts.links in
            let r = flat_map row_text parts.rows in
            rw e (ap (λ (it : List ℕ). h ++ (n ++ (l ++ it))) (flat_map-append row_text parts.rows more)
            ∙ sym (append_assoc h (n ++ (l ++ r)) (flat_map row_text more) ∙ ap (λ (it : List ℕ). h ++ it) (append_assoc n (l ++ r) (flat_map row_text more)
            ∙ ap (λ (it : List ℕ). n ++ it) (append_assoc l r (flat_map row_text more)))))

        rows_under : (more : List Row) → rows ≡ parts.rows ++ more → AllByRecursion (IsFileRow (tag_count header.version) header.links) more → length rows ≤ row_count header.version parts.nodes
            → AreUnder header (with_rows parts rows)
        rows_under more e all few = record {
          header = so.header;
          nodes = so.nodes;
          links = so.links;
          rows = first_more (row_count header.version parts.nodes) (row_count header.version parts.nodes) (IsFileRow (tag_count header.version) header.links) parts.rows more rows so.rows e all few;
          nodes_first = λ fewer. absurd (omega (arith, fewer, nodes));
          links_first = λ fewer. absurd (omega (arith, fewer, links));
          known = so.known;
        }

        rows_grew : Begins parts.rows rows → Grew parts (with_rows parts rows)
        rows_grew begins = record { nodes = begins_all parts.nodes; links = begins_all parts.links; rows = begins; kin = λ kin is. is }

        pub rows_done : (before after : Rest) → TookMore row_text (IsFileRow (tag_count header.version) header.links) parts.rows rows before after → length rows ≡ row_count header.version parts.nodes
            → TookParts parts before (with_rows parts rows) after × AreWhole header (with_rows parts rows)
        rows_done before after it all = (
          list_took (row_form (tag_count header.version) header.links) row_text (IsFileRow (tag_count header.version) header.links) 5 (row_part (tag_count header.version) header.links (links_few _ _ _ _ so.header)) (row_count header.version parts.nodes) parts.rows rows parts (with_rows parts rows) rows_grow rows_grew before after it,
          record { header = is; under = rows_under it.more it.adds it.each (omega (arith, all)); nodes = nodes; links = links; rows = all },
        )

        pub rows_stop : (before : Rest) (e : CertError) → before.at ≡ length (text_of parts)
            → ReadsList (row_form (tag_count header.version) header.links) row_text (IsFileRow (tag_count header.version) header.links) (row_count header.version parts.nodes) parts.rows rows before (Err e)
            → ReadsOn parts before (with_rows parts rows) (Err e)
        rows_stop =
            let new = with_rows parts rows in
            list_stops (row_form (tag_count header.version) header.links) row_text (IsFileRow (tag_count header.version) header.links) 5 (row_part (tag_count header.version) header.links (links_few _ _ _ _ so.header)) (row_count header.version parts.nodes) parts.rows rows parts new rows_grow rows_grew
            (λ every. End) (λ more e all fewer. are_under new header is (rows_under more e all (omega (arith, fewer))))
            (λ are. let it = under new header is are in rows_left new header is it.header it.nodes nodes (it.known nodes).heads it.links links it.rows)

-- ---- the end

-- nothing follows
pub whole_read : (header : Header) (parts : Parts) → AreWhole header parts → (rest : Rest) → rest.bytes ≡ [] → ReadsOn parts rest parts (Ok tt)
whole_read header parts whole rest none = record { left = rest; took = took_none parts rest; comes = ((header, whole), none) }

-- something does
pub end_stops : (header : Header) (parts : Parts) → AreWhole header parts → (rest : Rest) (fault : CertFault) → rest.at ≡ length (text_of parts) → Ends rest (Err fault)
    → ReadsOn parts rest parts (Err (errors.Fault fault.at fault.kind))
end_stops header parts whole rest fault place (some, at, kind) = record {
  left = rest;
  took = took_none parts rest;
  comes = record {
    first = rw (at, kind, place) (at_end header parts whole rest.bytes ∙ trailing (length (text_of parts)) rest.bytes some);
    cut = λ cut. absurd (both_ways (is_cut Trailing) refl (ap is_cut (sym kind) ∙ cut));
  };
}
