-- Names are read as what they spell.
use Rattle.std.proofs.Common.{◌≡◌, ◌≢◌, ◌<◌, ◌^◌, ◌+◌, ◌∙◌, ◌∷◌, ◌++◌, [], ℕ, false, List, Some, inl, inr, append_assoc, codes, drop, get_or, get_or-take, length, take, refl, ap, sym, arith}
use Rattle.std.specs.Str.{bytes_eq}
use Rattle.std.proofs.lemmas.Bool.{cases_Bool, lt-ltb}
use Rattle.std.proofs.lemmas.List.{drop_at, length_push, take_at}
use Rattle.std.proofs.lemmas.Slice.Eq.{bytes_eq-Decides}
use Rattle.text_parts.proofs.Numerals.{address_counts}
use Rattle.mrt_graph.specs.declared.node_id.Kind.{Kind}
use Rattle.mrt_graph.specs.declared.node_id.Kind.TheVariants.{Network, Router}
use Rattle.mrt_graph.specs.declared.node_id.NodeId.{NodeId}
use Rattle.text_parts.specs.Spelling.{address_in, address_text, node_text}
use Rattle.fabric_script.specs.declared.event.FailureName.{FailureName}
use Rattle.fabric_script.specs.declared.event.FailureName.TheVariants.{Link, Node}
use Rattle.fabric_script.specs.Names.{HasNumbers, failure_in, failure_text, link_in, node_in}
use Rattle.fabric_script.proofs.NamesRead.{address_first, address_plain, no_prefix, slash_at}

address_is : (number : ℕ) → number < 2 ^ 32 → address_in (address_text number) ≡ Some number
unfolding address_in
address_is number small =
    rw (address_counts number small, lt-ltb number (2 ^ 32) small, (bytes_eq-Decides (address_text number) (address_text number)).1 refl) refl

-- a text is not a prefix that it does not begin with
not_prefix : (text prefix : List ℕ) → text ≢ prefix → bytes_eq text prefix ≡ false
not_prefix text prefix other = elim (cases_Bool (bytes_eq text prefix)) [
  | inl same ↦ absurd (other ((bytes_eq-Decides text prefix).0 same))
  | inr differs ↦ differs
]

node_is : (kind : Kind) (number : ℕ) → number < 2 ^ 32
    → node_in (node_text (record { kind = kind; number = number })) ≡ Some (record { kind = kind; number = number })
node_is Router number small =
    rw (not_prefix (take 4 (address_text number)) (codes "net:") (no_prefix number small), address_is number small) refl
node_is Network number small = rw (address_is number small) refl

link_is : (router link_data : ℕ) → router < 2 ^ 32 → link_data < 2 ^ 32
    → link_in (address_text router ++ 47 ∷ address_text link_data) ≡ Some (Link router link_data)
link_is router link_data small small' =
    rw (
      slash_at (address_text router) (address_text link_data) (address_plain router small),
      take_at (address_text router) (47 ∷ address_text link_data) (length (address_text router)) refl,
      sym (append_assoc (address_text router) (47 ∷ []) (address_text link_data)),
      drop_at (address_text router ++ 47 ∷ []) (address_text link_data) (length (address_text router) + 1) (length_push (address_text router) 47),
      address_is router small,
      address_is link_data small',
    ) refl

pub link_spelled : (text : List ℕ) (router link_data : ℕ) → router < 2 ^ 32 → link_data < 2 ^ 32
    → codes "link:" ++ text ≡ failure_text (Link router link_data) → link_in text ≡ Some (Link router link_data)
link_spelled text router link_data small small' spelled =
    ap link_in (ap (drop 5) spelled ∙ append_assoc (address_text router) (47 ∷ []) (address_text link_data))
    ∙ link_is router link_data small small'

-- no node's name begins with `link:`
no_link : (kind : Kind) (number : ℕ) → number < 2 ^ 32 → take 5 (node_text (record { kind = kind; number = number })) ≢ codes "link:"
no_link Router number small same =
    let first : get_or (take 5 (address_text number)) 0 0 ≡ 108 = ap (λ (text : List ℕ). get_or text 0 0) same in
    let whole = get_or-take 5 (address_text number) 0 0 (omega arith) in
    let digit = address_first number small in
    omega (arith, digit.0, digit.1, first, whole)
no_link Network number small same =
    let first : 110 ≡ 108 = ap (λ (text : List ℕ). get_or text 0 0) same in omega (arith, first)

failure_is : (failed : FailureName) → HasNumbers failed → failure_in (failure_text failed) ≡ Some failed
failure_is (Node id) small =
    rw (not_prefix (take 5 (node_text id)) (codes "link:") (no_link id.kind id.number small), node_is id.kind id.number small) refl
failure_is (Link router link_data) small =
    ap link_in (append_assoc (address_text router) (47 ∷ []) (address_text link_data)) ∙ link_is router link_data small.0 small.1

pub node_spelled : (text : List ℕ) (id : NodeId) → id.number < 2 ^ 32 → text ≡ node_text id → node_in text ≡ Some id
node_spelled text id small spelled = ap node_in spelled ∙ node_is id.kind id.number small

pub failure_spelled : (text : List ℕ) (failed : FailureName) → HasNumbers failed → text ≡ failure_text failed → failure_in text ≡ Some failed
failure_spelled text failed small spelled = ap failure_in spelled ∙ failure_is failed small
