-- What numbers tell of LSAs in one list.
use Rattle.std.proofs.Common.{◌≡◌, ◌∙◌, ◌<◌, ◌+◌, ◌++◌, ℕ, zero, suc, Bool, true, List, [], ◌∷◌, length, map, get_or, drop, refl, sym, ap, subst, add-one, append_assoc, drop-cons, arith}
use Rattle.std.specs.List.{AllByRecursion}
use Rattle.std.proofs.lemmas.List.{append-nil, nil_from_length, map-append, get_or_append_left, get_or_read, get_or-map, length-append}
use Rattle.std.specs.Ordering.{ordering_reverse}
use Rattle.std.specs.declared.cmp.Ordering.{Ordering}
use Rattle.std.specs.declared.cmp.Ordering.TheVariants.{Less, Equal, Greater}
use Rattle.mrt_graph.proofs.Members.{all_append, all_weaker}
use Rattle.ospf_lsa.specs.declared.lsa.Lsa.{Lsa}
use Rattle.lsdb.specs.declared.change.Change.TheVariants.{Same}
use Rattle.lsdb.specs.Installing.{change_by, change_of}
use Rattle.lsdb.specs.Rank.{rank_cmp}
use Rattle.lsdb.proofs.Alike.{alike_equiv}
use Rattle.lsdb.proofs.Ranks.{ranks_total}
use Rattle.flood.specs.declared.database_copy.DatabaseCopy.{DatabaseCopy}
use Rattle.flood.specs.declared.numbered_update.NumberedUpdate.{NumberedUpdate}
use Rattle.flood.specs.declared.update.Update.{Update}
use Rattle.flood.specs.steps.Numbers.{entries_by, entry_in, lsa_in, lsas_by, no_lsa, update_in, AreNumbers}

-- ---- an LSA and itself

own_by : (r : Ordering) → r ≡ ordering_reverse r → r ≡ Equal
own_by Less h = absurd cc
own_by Equal h = refl
own_by Greater h = absurd cc

own_rank : (x : Lsa) → rank_cmp x x ≡ Equal
own_rank x = own_by (rank_cmp x x) (ranks_total.antisymm x x)

-- an LSA is to itself the same
pub own_change : (x : Lsa) → change_of x x ≡ Same
own_change x =
    ap (λ (b : Bool). change_by (rank_cmp x x) b) (alike_equiv.refl x)
    ∙ ap (λ (o : Ordering). change_by o true) (own_rank x)

-- ---- lists

pub all_at : {X : Type 0} (P : X → Type 0) (xs : List X) (i : ℕ) (x : X) → AllByRecursion P xs → i < length xs
    → x ≡ get_or xs i x → P x
all_at P [] i x all within is = absurd (omega (arith, within))
all_at P (y ∷ xs) zero x all within is = subst P (sym is) all.0
all_at P (y ∷ xs) (suc i) x all within is = all_at P xs i x all.1 (omega (arith, within)) is

-- the next of a list, and those after it
pub next_left : {X : Type 0} (xs : List X) (i : ℕ) (x : X) → i < length xs → x ≡ get_or xs i x
    → drop i xs ≡ x ∷ drop (i + 1) xs
next_left {X = X} xs i x inside is =
    drop-cons xs i x inside ∙ ap (λ (y : X). y ∷ drop (suc i) xs) (sym is)
    ∙ ap (λ (n : ℕ). x ∷ drop n xs) (sym (add-one i))

-- the LSA that was read by its number
pub lsa_read : (lsas : List Lsa) (number : ℕ) (x : Lsa) → number < length lsas → x ≡ get_or lsas number x
    → x ≡ lsa_in lsas number
lsa_read lsas number x within is = get_or_read lsas number x within is no_lsa

-- a list with more at its end has the same LSAs by the numbers before
pub same_lsa : (lsas more : List Lsa) (number : ℕ) → number < length lsas → lsa_in (lsas ++ more) number ≡ lsa_in lsas number
same_lsa lsas more number within = get_or_append_left lsas more no_lsa number within

pub same_lsas : (lsas more : List Lsa) (numbers : List ℕ) → AreNumbers lsas numbers
    → lsas_by (lsas ++ more) numbers ≡ lsas_by lsas numbers
same_lsas lsas more [] are = refl
same_lsas lsas more (n ∷ numbers) are =
    ap (λ (x : Lsa). x ∷ lsas_by (lsas ++ more) numbers) (same_lsa lsas more n are.0)
    ∙ ap (λ (rest : List Lsa). lsa_in lsas n ∷ rest) (same_lsas lsas more numbers are.1)

pub still_numbers : (lsas more : List Lsa) (numbers : List ℕ) → AreNumbers lsas numbers
    → AreNumbers (lsas ++ more) numbers
still_numbers lsas more numbers are =
    all_weaker (λ (n : ℕ). n < length lsas) (λ (n : ℕ). n < length (lsas ++ more))
    (λ n within. omega (arith, within, length-append lsas more)) numbers are

-- ---- packets

pub same_packets : (lsas more : List Lsa) (packets : List NumberedUpdate)
    → AllByRecursion (λ packet. AreNumbers lsas packet.lsas.items) packets
    → map (update_in (lsas ++ more)) packets ≡ map (update_in lsas) packets
same_packets lsas more [] are = refl
same_packets lsas more (p ∷ packets) are =
    ap (λ (ls : List Lsa). record { at = p.at; router = p.router; area = p.area; lsas = ls } ∷ map (update_in (lsas ++ more)) packets)
    (same_lsas lsas more p.lsas.items are.0)
    ∙ ap (λ (rest : List Update). update_in lsas p ∷ rest) (same_packets lsas more packets are.1)

pub still_numbered : (lsas more : List Lsa) (packets : List NumberedUpdate)
    → AllByRecursion (λ packet. AreNumbers lsas packet.lsas.items) packets
    → AllByRecursion (λ packet. AreNumbers (lsas ++ more) packet.lsas.items) packets
still_numbered lsas more packets are =
    all_weaker (λ (p : NumberedUpdate). AreNumbers lsas p.lsas.items)
    (λ (p : NumberedUpdate). AreNumbers (lsas ++ more) p.lsas.items)
    (λ p numbers. still_numbers lsas more p.lsas.items numbers) packets are

-- packets by the LSAs that stand in the list so far, the packets that are left, and all
pub record AreTold (now : List Lsa) (packets : List NumberedUpdate) (left all : List Update) : Type 0 where
  pub told : map (update_in now) packets ++ left ≡ all
  pub numbers : AllByRecursion (λ packet. AreNumbers now packet.lsas.items) packets

pub one_packet : (now now' : List Lsa) (packets packets' : List NumberedUpdate) (left left' all : List Update)
    (u : Update) (packet : NumberedUpdate) → left ≡ u ∷ left' → AreTold now packets left all → now' ≡ now ++ u.lsas
    → update_in now' packet ≡ u → AreNumbers now' packet.lsas.items → packets' ≡ packets ++ packet ∷ []
    → AreTold now' packets' left' all
one_packet now now' packets packets' left left' all u packet is so_far stands packet_is numbers grown =
    let turn : AreTold now packets (u ∷ left') all = subst (λ (us : List Update). AreTold now packets us all) is so_far in
    let same : map (update_in now') packets ≡ map (update_in now) packets =
    ap (λ (ls : List Lsa). map (update_in ls) packets) stands ∙ same_packets now u.lsas packets turn.numbers in
    record {
      told = ap (λ (ps : List NumberedUpdate). map (update_in now') ps ++ left') grown
          ∙ ap (λ (us : List Update). us ++ left')
          (map-append (update_in now') packets (packet ∷ [])
          ∙ ap (λ (us : List Update). us ++ update_in now' packet ∷ []) same
          ∙ ap (λ (x : Update). map (update_in now) packets ++ x ∷ []) packet_is)
          ∙ append_assoc (map (update_in now) packets) (u ∷ []) left' ∙ turn.told;
      numbers = subst (AllByRecursion (λ (p : NumberedUpdate). AreNumbers now' p.lsas.items)) (sym grown)
          (all_append (λ (p : NumberedUpdate). AreNumbers now' p.lsas.items) packets (packet ∷ [])
          (subst (λ (ls : List Lsa). AllByRecursion (λ (p : NumberedUpdate). AreNumbers ls p.lsas.items) packets)
          (sym stands) (still_numbered now u.lsas packets turn.numbers)) (numbers, tt));
    }

-- ---- the numbers of LSAs that come to stand in the list

-- from a list as it was first and LSAs: the list as it is now, the numbers of those that stand there, and those that are left
pub record AreNumbered (first own now : List Lsa) (numbers : List ℕ) (left : List Lsa) : Type 0 where
  pub stand : now ++ left ≡ first ++ own
  pub told : lsas_by now numbers ++ left ≡ own
  pub are : AreNumbers now numbers

at_end : (lsas : List Lsa) (x : Lsa) → lsa_in (lsas ++ x ∷ []) (length lsas) ≡ x
at_end [] x = refl
at_end (y ∷ lsas) x = at_end lsas x

pub one_number : (first own now now' : List Lsa) (numbers numbers' : List ℕ) (left left' : List Lsa) (x : Lsa)
    → left ≡ x ∷ left' → AreNumbered first own now numbers left
    → numbers' ≡ numbers ++ length now ∷ [] → now' ≡ now ++ x ∷ [] → AreNumbered first own now' numbers' left'
one_number first own now now' numbers numbers' left left' x is so_far grown stands =
    let turn : AreNumbered first own now numbers (x ∷ left') = subst (AreNumbered first own now numbers) is so_far in
    subst (λ (ns : List ℕ). AreNumbered first own now' ns left') (sym grown)
    (subst (λ (ls : List Lsa). AreNumbered first own ls (numbers ++ length now ∷ []) left') (sym stands)
    (record {
      stand = append_assoc now (x ∷ []) left' ∙ turn.stand;
      told = ap (λ (ls : List Lsa). ls ++ left')
          (map-append (lsa_in (now ++ x ∷ [])) numbers (length now ∷ [])
          ∙ ap (λ (ls : List Lsa). ls ++ lsa_in (now ++ x ∷ []) (length now) ∷ []) (same_lsas now (x ∷ []) numbers turn.are)
          ∙ ap (λ (y : Lsa). lsas_by now numbers ++ y ∷ []) (at_end now x))
          ∙ append_assoc (lsas_by now numbers) (x ∷ []) left' ∙ turn.told;
      are = all_append (λ (n : ℕ). n < length (now ++ x ∷ [])) numbers (length now ∷ [])
          (still_numbers now (x ∷ []) numbers turn.are) (omega (arith, length-append now (x ∷ [])), tt);
    }))

pub numbered_all : (first own now : List Lsa) (numbers : List ℕ) (left : List Lsa) → AreNumbered first own now numbers left → length left ≡ 0
    → (now ≡ first ++ own) × (lsas_by now numbers ≡ own)
numbered_all first own now numbers left so_far none =
    let done : AreNumbered first own now numbers [] = subst (AreNumbered first own now numbers) (nil_from_length left none) so_far in
    (sym (append-nil now) ∙ done.stand, sym (append-nil (lsas_by now numbers)) ∙ done.told)

-- ---- entries

pub entry_read : (lsas : List Lsa) (held : List DatabaseCopy) (i : ℕ) (h : DatabaseCopy) → i < length held → h ≡ get_or held i h
    → entry_in lsas h ≡ get_or (entries_by lsas held) i (entry_in lsas h)
entry_read lsas held i h within is =
    ap (entry_in lsas) is ∙ sym (get_or-map (entry_in lsas) held i h (entry_in lsas h) within)
