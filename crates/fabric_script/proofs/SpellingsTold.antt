-- What is read of a text is what it spells.
use Rattle.std.proofs.Common.{◌≡◌, ◌<◌, ◌^◌, ◌+◌, ◌∙◌, ◌∷◌, ◌++◌, ◌==◌, ◌&&◌, ◌↔◌, [], ℕ, List, Option, Some, None, inl, inr, append_assoc, codes, drop, map, take, take-append-drop, refl, ap, sym, subst}
use Rattle.std.specs.Prelude.{nat_lt}
use Rattle.std.specs.Int.{from_be_bytes, w32}
use Rattle.std.specs.List.{position, slice_split}
use Rattle.std.specs.Option.{option_and_then, option_map}
use Rattle.std.specs.Str.{bytes_eq}
use Rattle.std.specs.Str.Parse.{digits_value}
use Rattle.std.proofs.lemmas.Bool.{and_parts, cases_Bool, ltb-true}
use Rattle.std.proofs.lemmas.Option.{same_Some}
use Rattle.std.proofs.lemmas.Slice.Eq.{bytes_eq-Decides}
use Rattle.mrt_graph.specs.declared.node_id.Kind.{Kind}
use Rattle.mrt_graph.specs.declared.node_id.Kind.TheVariants.{Network, Router}
use Rattle.mrt_graph.specs.declared.node_id.NodeId.{NodeId}
use Rattle.text_parts.specs.Spelling.{address_in, address_text, if_spelled, node_text}
use Rattle.fabric_script.specs.declared.event.FailureName.{FailureName}
use Rattle.fabric_script.specs.declared.event.FailureName.TheVariants.{Link, Node}
use Rattle.fabric_script.specs.Names.{HasNumbers, failure_in, failure_text, link_in, node_in, node_of}
use Rattle.fabric_script.proofs.NamesRead.{cut_at_slash}
use Rattle.fabric_script.proofs.NamesSpelled.{failure_spelled, node_spelled}

pub spelling_told : (spelling : ℕ → List ℕ) (text : List ℕ) (n number : ℕ) → if_spelled spelling text n ≡ Some number
    → (number < 2 ^ 32) × (text ≡ spelling number)
spelling_told spelling text n number is = elim (cases_Bool (nat_lt n (2 ^ 32) && bytes_eq text (spelling n))) [
  | inl both ↦
      let parts = and_parts (nat_lt n (2 ^ 32)) (bytes_eq text (spelling n)) both in
      let same : n ≡ number = same_Some n number (rw both at is) in
      subst (λ (m : ℕ). (m < 2 ^ 32) × (text ≡ spelling m)) same
      (ltb-true n (2 ^ 32) parts.0, (bytes_eq-Decides text (spelling n)).0 parts.1)
  | inr neither ↦ let never : ◌≡◌ {A = Option ℕ} None (Some number) = rw neither at is in absurd cc
]

address_told : (text : List ℕ) (number : ℕ) → address_in text ≡ Some number → (number < 2 ^ 32) × (text ≡ address_text number)
unfolding address_in
address_told text number is =
    spelling_told address_text text (from_be_bytes w32 (map (digits_value 10) (slice_split (λ byte. byte == 46) text))) number is

of_kind : (kind : Kind) (address : List ℕ) (id : NodeId) → node_of kind address ≡ Some id
    → (id.number < 2 ^ 32) × (id.kind ≡ kind) × (address ≡ address_text id.number)
of_kind kind address id is = go (address_in address) refl is
  where
    go : (o : Option ℕ) → address_in address ≡ o → option_map (λ number. record { kind = kind; number = number }) o ≡ Some id
        → (id.number < 2 ^ 32) × (id.kind ≡ kind) × (address ≡ address_text id.number)
    go None there is = cc
    go (Some n) there is =
        let same : record { kind = kind; number = n } ≡ id = same_Some _ id is in
        subst (λ (i : NodeId). (i.number < 2 ^ 32) × (i.kind ≡ kind) × (address ≡ address_text i.number)) same
        (let told = address_told address n there in (told.0, refl, told.1))

spelled_as : (kind : Kind) (id : NodeId) → id.kind ≡ kind → node_text (record { kind = kind; number = id.number }) ≡ node_text id
spelled_as kind id is = ap (λ (k : Kind). node_text (record { kind = k; number = id.number })) (sym is)

pub node_told : (text : List ℕ) (id : NodeId) → node_in text ≡ Some id → (id.number < 2 ^ 32) × (text ≡ node_text id)
node_told text id is = elim (cases_Bool (bytes_eq (take 4 text) (codes "net:"))) [
  | inl net ↦
      let told = of_kind Network (drop 4 text) id (rw net at is) in (
        told.0,
        sym (take-append-drop 4 text) ∙ ap (λ (front : List ℕ). front ++ drop 4 text) ((bytes_eq-Decides (take 4 text) (codes "net:")).0 net)
            ∙ ap (λ (back : List ℕ). codes "net:" ++ back) told.2 ∙ spelled_as Network id told.1,
      )
  | inr other ↦ let told = of_kind Router text id (rw other at is) in (told.0, told.2 ∙ spelled_as Router id told.1)
]

link_told : (text : List ℕ) (failed : FailureName) → link_in text ≡ Some failed
    → HasNumbers failed × (codes "link:" ++ text ≡ failure_text failed)
link_told text failed is = at_slash (position (λ byte. byte == 47) text) refl is
  where
    parts : (slash : ℕ) (first second : Option ℕ) → position (λ byte. byte == 47) text ≡ Some slash
        → address_in (take slash text) ≡ first → address_in (drop (slash + 1) text) ≡ second
        → option_and_then (λ router. option_map (λ link_data. Link router link_data) second) first ≡ Some failed
        → HasNumbers failed × (codes "link:" ++ text ≡ failure_text failed)
    parts slash None second found one two is = cc
    parts slash (Some r) None found one two is = cc
    parts slash (Some r) (Some d) found one two is =
        let same : Link r d ≡ failed = same_Some _ failed is in
        let router = address_told (take slash text) r one in
        let link_data = address_told (drop (slash + 1) text) d two in
        subst (λ (name : FailureName). HasNumbers name × (codes "link:" ++ text ≡ failure_text name)) same (
          (router.0, link_data.0),
          ap (λ (t : List ℕ). codes "link:" ++ t) (cut_at_slash text slash found
              ∙ ap (λ (front : List ℕ). front ++ 47 ∷ drop (slash + 1) text) router.1
              ∙ ap (λ (back : List ℕ). address_text r ++ 47 ∷ back) link_data.1
              ∙ sym (append_assoc (address_text r) (47 ∷ []) (address_text d))),
        )

    at_slash : (place : Option ℕ) → position (λ byte. byte == 47) text ≡ place
        → option_and_then (λ slash. option_and_then (λ router. option_map (λ link_data. Link router link_data)
        (address_in (drop (slash + 1) text))) (address_in (take slash text))) place ≡ Some failed
        → HasNumbers failed × (codes "link:" ++ text ≡ failure_text failed)
    at_slash None found is = cc
    at_slash (Some slash) found is = parts slash (address_in (take slash text)) (address_in (drop (slash + 1) text)) found refl refl is

failure_told : (text : List ℕ) (failed : FailureName) → failure_in text ≡ Some failed → HasNumbers failed × (text ≡ failure_text failed)
failure_told text failed is = elim (cases_Bool (bytes_eq (take 5 text) (codes "link:"))) [
  | inl link ↦
      let told = link_told (drop 5 text) failed (rw link at is) in (
        told.0,
        sym (take-append-drop 5 text) ∙ ap (λ (front : List ℕ). front ++ drop 5 text) ((bytes_eq-Decides (take 5 text) (codes "link:")).0 link)
            ∙ told.1,
      )
  | inr other ↦ go (node_in text) refl (rw other at is)
]
  where
    go : (o : Option NodeId) → node_in text ≡ o → option_map (λ id. Node id) o ≡ Some failed → HasNumbers failed × (text ≡ failure_text failed)
    go None there is = cc
    go (Some id) there is =
        let same : Node id ≡ failed = same_Some _ failed is in
        subst (λ (name : FailureName). HasNumbers name × (text ≡ failure_text name)) same (node_told text id there)

pub node_names : (text : List ℕ) (id : NodeId) → (node_in text ≡ Some id) ↔ ((id.number < 2 ^ 32) × (text ≡ node_text id))
node_names text id = (node_told text id, λ is. node_spelled text id is.0 is.1)

pub failure_names : (text : List ℕ) (failed : FailureName) → (failure_in text ≡ Some failed) ↔ (HasNumbers failed × (text ≡ failure_text failed))
failure_names text failed = (failure_told text failed, λ is. failure_spelled text failed is.0 is.1)
