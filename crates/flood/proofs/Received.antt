-- LSAs that a router receives one after another, by their numbers.
use Rattle.std.proofs.Common.{◌≡◌, ◌∙◌, ◌<◌, ◌≤◌, ◌+◌, ◌^◌, ◌++◌, ℕ, zero, suc, List, [], ◌∷◌, length, get_or, drop, refl, sym, subst, arith}
use Rattle.std.specs.List.{AllByRecursion}
use Rattle.std.proofs.lemmas.List.{append-nil, drop_all, length-map}
use Rattle.ospf_lsa.specs.declared.lsa.Lsa.{Lsa}
use Rattle.lsdb.specs.Installing.{IsBehind, IsKept}
use Rattle.flood.specs.declared.receiver.Receiver.{Receiver}
use Rattle.flood.specs.steps.Numbers.{lsa_in, lsas_by, router_in, AreNumbers, IsStored}
use Rattle.flood.specs.Receiving.{after_all, news, topology}
use Rattle.flood.proofs.InTurn.{AreInTurn, first_kept, one_more}
use Rattle.flood.proofs.Numbered.{next_left}

-- a router as it was first and the numbers of all LSAs, the router as it is now, those that were new and those that are left
pub record IsReceiving (lsas : List Lsa) (first : Receiver) (all : List ℕ) (now : Receiver) (new left : List ℕ) : Type 0 where
  pub turn : AreInTurn (router_in lsas first) (lsas_by lsas all) (router_in lsas now) (lsas_by lsas new) (lsas_by lsas left)
  pub stored : IsStored lsas now.store
  pub new_ones : AreNumbers lsas new
  pub left_ones : AreNumbers lsas left

-- before the first
pub received_none : (lsas : List Lsa) (first : Receiver) (all new : List ℕ) → new ≡ [] → IsStored lsas first.store → AreNumbers lsas all
    → AllByRecursion IsKept (topology (lsas_by lsas all)) → IsBehind first.store.greatest first.arrivals → first.arrivals + length all < 2 ^ 32
    → IsReceiving lsas first all first new all
received_none lsas first all new none stored numbers kept behind room =
    subst (λ (xs : List ℕ). IsReceiving lsas first all first xs all) (sym none) (record {
      turn = record {
        news_so_far = refl;
        after_so_far = refl;
        kept = kept;
        behind = behind;
        room = omega (arith, room, length-map all (lsa_in lsas));
      };
      stored = stored;
      new_ones = tt;
      left_ones = numbers;
    })

-- what may be installed next
pub record IsNext (lsas : List Lsa) (now : Receiver) (n : ℕ) : Type 0 where
  pub number : n < length lsas
  pub kept : AllByRecursion IsKept (topology (lsa_in lsas n ∷ []))
  pub room : now.arrivals + 1 < 2 ^ 32

pub next_is : (lsas : List Lsa) (first : Receiver) (all : List ℕ) (now : Receiver) (new : List ℕ) (i n : ℕ) → IsReceiving lsas first all now new (drop i all) → i < length all
    → n ≡ get_or all i n → IsNext lsas now n
next_is lsas first all now new i n so_far inside is =
    let here : IsReceiving lsas first all now new (n ∷ drop (i + 1) all) =
    subst (IsReceiving lsas first all now new) (next_left all i n inside is) so_far in
    record {
      number = here.left_ones.0;
      kept = first_kept (lsa_in lsas n) (lsas_by lsas (drop (i + 1) all)) here.turn.kept;
      room = omega (arith, here.turn.room);
    }

pub received_one : (lsas : List Lsa) (first : Receiver) (all : List ℕ) (now after : Receiver) (new new' : List ℕ) (i n : ℕ)
    → IsReceiving lsas first all now new (drop i all) → i < length all → n ≡ get_or all i n
    → router_in lsas after ≡ after_all (router_in lsas now) (topology (lsa_in lsas n ∷ []))
    → lsas_by lsas new' ≡ lsas_by lsas new ++ news (router_in lsas now) (topology (lsa_in lsas n ∷ []))
    → AreNumbers lsas new' → IsStored lsas after.store → IsReceiving lsas first all after new' (drop (i + 1) all)
received_one lsas first all now after new new' i n so_far inside is turned grown numbers stored =
    let here : IsReceiving lsas first all now new (n ∷ drop (i + 1) all) =
    subst (IsReceiving lsas first all now new) (next_left all i n inside is) so_far in
    record {
      turn = one_more (router_in lsas first) (router_in lsas now) (router_in lsas after) (lsas_by lsas all)
          (lsas_by lsas new) (lsas_by lsas new') (lsa_in lsas n ∷ lsas_by lsas (drop (i + 1) all))
          (lsas_by lsas (drop (i + 1) all)) (lsa_in lsas n) refl here.turn turned grown;
      stored = stored;
      new_ones = numbers;
      left_ones = here.left_ones.1;
    }

-- an element that was read is the one at its place, whatever stands for none
pub read_is : (xs : List ℕ) (i d : ℕ) → i < length xs → get_or xs i d ≡ get_or xs i (get_or xs i d)
read_is [] i d inside = absurd (omega (arith, inside))
read_is (x ∷ xs) zero d inside = refl
read_is (x ∷ xs) (suc i) d inside = read_is xs i d (omega (arith, inside))

-- where none is left
pub record IsReceived (lsas : List Lsa) (first : Receiver) (all : List ℕ) (now : Receiver) (new : List ℕ) : Type 0 where
  pub news_are : lsas_by lsas new ≡ news (router_in lsas first) (topology (lsas_by lsas all))
  pub after_is : router_in lsas now ≡ after_all (router_in lsas first) (topology (lsas_by lsas all))

pub received_all : (lsas : List Lsa) (first : Receiver) (all : List ℕ) (now : Receiver) (new : List ℕ) (i : ℕ)
    → IsReceiving lsas first all now new (drop i all) → length all ≤ i → IsReceived lsas first all now new
received_all lsas first all now new i so_far past =
    let done : IsReceiving lsas first all now new [] =
    subst (IsReceiving lsas first all now new) (drop_all i all past) so_far in
    record { news_are = sym (append-nil (lsas_by lsas new)) ∙ done.turn.news_so_far; after_is = done.turn.after_so_far }
