-- LSAs that are the same but for their places.
use Rattle.std.proofs.Common.{◌≡◌, ◌∙◌, ◌<◌, ◌≤◌, ◌+◌, ◌++◌, ℕ, Bool, true, false, List, [], ◌∷◌, Some, length, map, take, get_or, slice_get, refl, sym, ap, subst, add-one}
use Rattle.std.specs.Option.{option_map}
use Rattle.std.specs.declared.cmp.Ordering.{Ordering}
use Rattle.std.specs.declared.cmp.Ordering.TheVariants.{Less, Equal, Greater}
use Rattle.std.proofs.lemmas.List.{length-map, map-append}
use Rattle.std.proofs.lemmas.Option.{same_Some, slice_get-map, slice_get_read}
use Rattle.std.proofs.Math.Seq.{take-suc, take_all}
use Rattle.ospf_lsa.specs.declared.lsa.Lsa.{Lsa}
use Rattle.lsdb.specs.declared.change.Change.TheVariants.{Same}
use Rattle.lsdb.specs.Installing.{change_by, change_of}
use Rattle.lsdb.specs.Newest.{same_but_age}
use Rattle.lsdb.specs.Orders.{without_place}
use Rattle.lsdb.specs.Rank.{rank_cmp}
use Rattle.lsdb.proofs.Timeless.{lsa_is}
use Rattle.flood.specs.declared.database_copy.DatabaseCopy.{DatabaseCopy}
use Rattle.flood.specs.steps.Numbers.{entries_by, lsa_in}
use Rattle.flood.specs.steps.SharedStore.{lsas_in}
use Rattle.flood.proofs.Numbered.{own_change}

-- ---- two LSAs

alike_by : (r : Ordering) (alike : Bool) → change_by r alike ≡ Same → alike ≡ true
alike_by Less alike is = absurd cc
alike_by Greater alike is = absurd cc
alike_by Equal true is = refl
alike_by Equal false is = absurd cc

pub placeless_same : (x y : Lsa) → x.age ≡ y.age → change_of x y ≡ Same → without_place x ≡ without_place y
placeless_same x y age is =
    lsa_is (without_place x) (without_place y) (alike_by (rank_cmp y x) (same_but_age x y) is) age refl

pub same_age : (x y : Lsa) → without_place x ≡ without_place y → x.age ≡ y.age
same_age x y same = ap (λ (l : Lsa). l.age) same

pub same_change : (x y : Lsa) → without_place x ≡ without_place y → change_of x y ≡ Same
same_change x y same =
    subst (λ (l : Lsa). change_of (without_place x) l ≡ Same) same (own_change (without_place x))

-- ---- two databases

abbrev placeless : List Lsa → DatabaseCopy → Lsa
placeless lsas held = without_place (lsa_in lsas held.number)

placeless_are : (lsas : List Lsa) (held : List DatabaseCopy)
    → map without_place (lsas_in (entries_by lsas held)) ≡ map (placeless lsas) held
placeless_are lsas [] = refl
placeless_are lsas (h ∷ held) = ap (λ (rest : List Lsa). placeless lsas h ∷ rest) (placeless_are lsas held)

one_on : (lsas : List Lsa) (held : List DatabaseCopy) (i : ℕ) (h : DatabaseCopy) → i < length held → h ≡ get_or held i h
    → map (placeless lsas) (take (i + 1) held) ≡ map (placeless lsas) (take i held) ++ placeless lsas h ∷ []
one_on lsas held i h inside is =
    ap (λ (n : ℕ). map (placeless lsas) (take n held)) (add-one i)
    ∙ ap (map (placeless lsas)) (take-suc held i h inside)
    ∙ map-append (placeless lsas) (take i held) (get_or held i h ∷ [])
    ∙ ap (λ (x : DatabaseCopy). map (placeless lsas) (take i held) ++ placeless lsas x ∷ []) (sym is)

there_is : (lsas : List Lsa) (held : List DatabaseCopy) (i : ℕ) (h : DatabaseCopy) → i < length held → h ≡ get_or held i h
    → slice_get (map (placeless lsas) held) i ≡ Some (placeless lsas h)
there_is lsas held i h inside is =
    slice_get-map (placeless lsas) held i
    ∙ ap (option_map (placeless lsas)) (slice_get_read held (length held) i h refl inside is)

-- the first so many are the same
pub record AreSameBefore (lsas others : List Lsa) (held held' : List DatabaseCopy) (i : ℕ) : Type 0 where
  pub long : length held ≡ length held'
  pub same : map (placeless lsas) (take i held) ≡ map (placeless others) (take i held')

module _ (lsas others : List Lsa) (held held' : List DatabaseCopy) where
  pub same_none : length held ≡ length held' → AreSameBefore lsas others held held' 0
  same_none long = record { long = long; same = refl }

  module _ (i : ℕ) (h h' : DatabaseCopy) (before : AreSameBefore lsas others held held' i) (inside : i < length held)
      (inside' : i < length held') (is : h ≡ get_or held i h) (is' : h' ≡ get_or held' i h') where
    pub same_more : without_place (lsa_in lsas h.number) ≡ without_place (lsa_in others h'.number)
        → AreSameBefore lsas others held held' (i + 1)
    same_more same = record {
      long = before.long;
      same = one_on lsas held i h inside is
          ∙ ap (λ (xs : List Lsa). xs ++ placeless lsas h ∷ []) before.same
          ∙ ap (λ (x : Lsa). map (placeless others) (take i held') ++ x ∷ []) same
          ∙ sym (one_on others held' i h' inside' is');
    }

    pub one_differs : map without_place (lsas_in (entries_by lsas held))
        ≡ map without_place (lsas_in (entries_by others held'))
        → without_place (lsa_in lsas h.number) ≡ without_place (lsa_in others h'.number)
    one_differs all =
        same_Some _ _
        (sym (there_is lsas held i h inside is)
        ∙ ap (λ (xs : List Lsa). slice_get xs i) (sym (placeless_are lsas held) ∙ all ∙ placeless_are others held')
        ∙ there_is others held' i h' inside' is')

  pub same_all : (i : ℕ) → length held ≤ i → AreSameBefore lsas others held held' i
      → map without_place (lsas_in (entries_by lsas held)) ≡ map without_place (lsas_in (entries_by others held'))
  same_all i past before =
      placeless_are lsas held ∙ ap (map (placeless lsas)) (sym (take_all i held past)) ∙ before.same
      ∙ ap (map (placeless others)) (take_all i held' (subst (λ (n : ℕ). n ≤ i) before.long past))
      ∙ sym (placeless_are others held')

  pub same_length : map without_place (lsas_in (entries_by lsas held))
      ≡ map without_place (lsas_in (entries_by others held')) → length held ≡ length held'
  same_length all =
      sym (length-map held (placeless lsas))
      ∙ ap length (sym (placeless_are lsas held) ∙ all ∙ placeless_are others held')
      ∙ length-map held' (placeless others)
