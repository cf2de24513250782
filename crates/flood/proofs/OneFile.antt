-- Bytes are packets, or have a first packet with a fault, in one way.
use Rattle.std.proofs.Common.{◌≡◌, ◌∙◌, ◌<◌, ◌≤◌, ◌+◌, ◌⊎◌, ℕ, zero, suc, List, [], ◌∷◌, ◌++◌, length, drop, inl, inr, refl, sym, ap, subst, arith}
use Rattle.std.specs.List.{AllByRecursion}
use Rattle.std.proofs.lemmas.Bool.{cases_lt}
use Rattle.std.proofs.lemmas.List.{drop_all, drop-drop, length-drop}
use Rattle.mrt_graph.proofs.Bytes.{IsBytes, bytes_after}
use Rattle.ospf_lsa.specs.Lsas.{IsByte}
use Rattle.ospf_lsa.proofs.Numbers.{bytes_of_all}
use Rattle.flood.specs.declared.error.UpdateKind.{UpdateKind}
use Rattle.flood.specs.declared.error.UpdateError.{UpdateError}
use Rattle.flood.specs.declared.error.UpdateError.TheVariants.{Fault, NoMemory}
use Rattle.flood.specs.declared.update.Update.{Update}
use Rattle.flood.specs.PacketFaults.{HasFirstFault}
use Rattle.flood.specs.PacketFields.{length_field}
use Rattle.flood.specs.UpdateOutcome.{IsFirstUpdateFault}
use Rattle.flood.specs.Updates.{AreUpdates, IsUpdate}
use Rattle.flood.proofs.OnePacket.{one_update, no_fault, one_first_fault, either_at_front}

-- no packet without a fault begins these bytes
abbrev HasNone : List ℕ → Type 0
HasNone bytes = (at : ℕ) (update : Update) → IsUpdate at bytes update → ⊥

none_in_nothing : HasNone []
none_in_nothing at update is = omega (arith, is.header_there)

none_where_fault : (bytes : List ℕ) (kind : UpdateKind) (offset : ℕ) → HasFirstFault kind offset bytes → HasNone bytes
none_where_fault bytes kind offset first at update is = no_fault at bytes update is kind offset first.fault

-- two ways of reading the same bytes are one
record AreTheSame (updates others : List Update) (rest tail : List ℕ) : Type 0 where
  same : updates ≡ others
  left : rest ≡ tail

one_list_at : (at : ℕ) (bytes : List ℕ) (updates others : List Update) (rest tail : List ℕ)
    → AreUpdates at bytes updates rest → AreUpdates at bytes others tail → HasNone rest → HasNone tail
    → AreTheSame updates others rest tail
one_list_at at bytes [] [] rest tail are are' none none' = record { same = refl; left = are ∙ sym are' }
one_list_at at bytes [] (other ∷ others) rest tail are are' none none' =
    absurd (none at other (subst (λ (b : List ℕ). IsUpdate at b other) (sym are) are'.0))
one_list_at at bytes (update ∷ updates) [] rest tail are are' none none' =
    absurd (none' at update (subst (λ (b : List ℕ). IsUpdate at b update) (sym are') are.0))
one_list_at at bytes (update ∷ updates) (other ∷ others) rest tail are are' none none' =
    let later = one_list_at (at + length_field bytes) (drop (length_field bytes) bytes) updates others rest tail are.1
    are'.1 none none' in
    record {
      same = ap (λ (u : Update). u ∷ updates) (one_update at bytes update other are.0 are'.0)
          ∙ ap (λ (us : List Update). other ∷ us) later.same;
      left = later.left;
    }

pub one_list : (bytes : List ℕ) (updates others : List Update) → AreUpdates 0 bytes updates []
    → AreUpdates 0 bytes others [] → updates ≡ others
one_list bytes updates others are are' =
    (one_list_at 0 bytes updates others [] [] are are' none_in_nothing none_in_nothing).same

pub never_both : (bytes : List ℕ) (updates : List Update) (at : ℕ) (kind : UpdateKind) → AreUpdates 0 bytes updates []
    → IsFirstUpdateFault bytes at kind → ⊥
never_both bytes updates at kind are first =
    let same = one_list_at 0 bytes updates first.before [] (drop first.packet bytes) are first.faultless
    none_in_nothing (none_where_fault (drop first.packet bytes) kind first.offset first.fault) in
    omega (arith, ap length same.left, length-drop first.packet bytes, first.more)

pub one_fault : (bytes : List ℕ) (at place : ℕ) (kind other : UpdateKind) → IsFirstUpdateFault bytes at kind
    → IsFirstUpdateFault bytes place other → (at ≡ place) × (kind ≡ other)
one_fault bytes at place kind other first second =
    let same = one_list_at 0 bytes first.before second.before (drop first.packet bytes) (drop second.packet bytes)
    first.faultless second.faultless
    (none_where_fault (drop first.packet bytes) kind first.offset first.fault)
    (none_where_fault (drop second.packet bytes) other second.offset second.fault) in
    let packet : first.packet ≡ second.packet = omega (
      arith,
      ap length same.left,
      length-drop first.packet bytes,
      length-drop second.packet bytes,
      first.more,
      second.more,
    ) in
    let fault = one_first_fault (drop first.packet bytes) kind other first.offset second.offset first.fault
    (subst (λ (b : List ℕ). HasFirstFault other second.offset b) (sym same.left) second.fault) in (
      omega (arith, first.place, second.place, packet, fault.1),
      fault.0,
    )

-- ---- reading on

-- the packets in the bytes before this place were read
pub record IsReadTo (bytes : List ℕ) (updates : List Update) (at : ℕ) : Type 0 where
  pub within : at ≤ length bytes
  pub are : AreUpdates 0 bytes updates (drop at bytes)

pub read_none : (bytes : List ℕ) → IsReadTo bytes [] 0
read_none bytes = record { within = omega arith; are = refl }

one_more : (start at : ℕ) (bytes rest : List ℕ) (updates : List Update) (update : Update)
    → AreUpdates start bytes updates rest → at + length rest ≡ start + length bytes → IsUpdate at rest update
    → AreUpdates start bytes (updates ++ update ∷ []) (drop (length_field rest) rest)
one_more start at bytes rest [] update are placed is =
    let here : at ≡ start = omega (arith, placed, ap length are) in
    let whole : IsUpdate start bytes update =
    subst (λ (k : ℕ). IsUpdate k bytes update) here (subst (λ (b : List ℕ). IsUpdate at b update) are is) in
    (whole, ap (λ (b : List ℕ). drop (length_field b) b) are)
one_more start at bytes rest (first ∷ updates) update are placed is = (
  are.0,
  one_more (start + length_field bytes) at (drop (length_field bytes) bytes) rest updates update are.1
      (omega (arith, placed, length-drop (length_field bytes) bytes, are.0.whole)) is,
)

-- one more packet
pub read_more : (bytes : List ℕ) (updates updates' : List Update) (at length' : ℕ) (update : Update)
    → IsReadTo bytes updates at → IsUpdate at (drop at bytes) update → length' ≡ length_field (drop at bytes)
    → updates' ≡ updates ++ update ∷ [] → IsReadTo bytes updates' (at + length')
read_more bytes updates updates' at length' update so_far is len grown = record {
  within = omega (arith, so_far.within, is.whole, len, length-drop at bytes);
  are = subst (λ (us : List Update). AreUpdates 0 bytes us (drop (at + length') bytes)) (sym grown)
      (subst (λ (b : List ℕ). AreUpdates 0 bytes (updates ++ update ∷ []) b)
      (ap (λ (n : ℕ). drop n (drop at bytes)) (sym len) ∙ drop-drop length' at bytes)
      (one_more 0 at bytes (drop at bytes) updates update so_far.are
      (omega (arith, length-drop at bytes, so_far.within)) is));
}

-- where nothing is left, the bytes are these packets
pub all_read : (bytes : List ℕ) (updates : List Update) (at : ℕ) → length bytes ≤ at → IsReadTo bytes updates at
    → AreUpdates 0 bytes updates []
all_read bytes updates at past so_far =
    subst (λ (b : List ℕ). AreUpdates 0 bytes updates b) (drop_all at bytes past) so_far.are

-- where the next packet has this first fault, it is that of the file
pub first_found : (bytes : List ℕ) (updates : List Update) (at place : ℕ) (kind : UpdateKind) (offset : ℕ)
    → at < length bytes → IsReadTo bytes updates at → HasFirstFault kind offset (drop at bytes) → place ≡ at + offset
    → IsFirstUpdateFault bytes place kind
first_found bytes updates at place kind offset more so_far fault told = record {
  packet = at;
  before = updates;
  more = more;
  faultless = so_far.are;
  offset = offset;
  fault = fault;
  place = told;
}

-- ---- either

abbrev AreEither : List ℕ → Type 0
AreEither bytes =
    ((updates : List Update) × AreUpdates 0 bytes updates [])
    ⊎ ((at : ℕ) × (kind : UpdateKind) × IsFirstUpdateFault bytes at kind)

-- with so many steps
either_from : (steps : ℕ) (bytes : List ℕ) (updates : List Update) (at : ℕ) → IsBytes bytes
    → length bytes ≤ at + steps → IsReadTo bytes updates at → AreEither bytes
either_from zero bytes updates at are enough so_far =
    inl (updates, all_read bytes updates at (omega (arith, enough)) so_far)
either_from (suc steps) bytes updates at are enough so_far = elim (cases_lt at (length bytes)) [
  | inr past ↦ inl (updates, all_read bytes updates at past so_far)
  | inl more ↦ elim (either_at_front at (drop at bytes) (bytes_after at bytes are)) [
    | inr fault ↦
        inr (
          at + fault.1,
          fault.0,
          first_found bytes updates at (at + fault.1) fault.0 fault.1 more so_far fault.2 refl,
        )
    | inl front ↦
        either_from steps bytes (updates ++ front.0 ∷ []) (at + length_field (drop at bytes)) are
        (omega (arith, enough, front.1.long_enough))
        (read_more bytes updates (updates ++ front.0 ∷ []) at (length_field (drop at bytes)) front.0 so_far front.1 refl
        refl)
  ]
]

pub either_of : (bytes : List ℕ) → AllByRecursion IsByte bytes → AreEither bytes
either_of bytes all = either_from (length bytes) bytes [] 0 (bytes_of_all bytes all) (omega arith) (read_none bytes)

-- ---- what is told

pub none_read : (bytes : List ℕ) (e : UpdateError)
    → ((place : ℕ) (kind : UpdateKind) → e ≡ Fault place kind → IsFirstUpdateFault bytes place kind)
    → (all : List Update) → AreUpdates 0 bytes all [] → e ≡ NoMemory
none_read bytes NoMemory told all are = refl
none_read bytes (Fault place kind) told all are = absurd (never_both bytes all place kind are (told place kind refl))

pub first_told : (bytes : List ℕ) (e : UpdateError)
    → ((place : ℕ) (kind : UpdateKind) → e ≡ Fault place kind → IsFirstUpdateFault bytes place kind)
    → (place : ℕ) (kind : UpdateKind) → IsFirstUpdateFault bytes place kind → (e ≡ Fault place kind) ⊎ (e ≡ NoMemory)
first_told bytes NoMemory told place kind first = inr refl
first_told bytes (Fault there found) told place kind first =
    let same = one_fault bytes there place found kind (told there found refl) first in
    inl (ap (λ (k : ℕ). Fault k found) same.0 ∙ ap (Fault place) same.1)
