-- Beginnings are passed on over the arcs of shortest paths, one after another.
use Rattle.std.proofs.Common.{◌≡◌, ◌≢◌, ◌<◌, ◌≤◌, ◌+◌, ◌∙◌, ◌++◌, ℕ, List, [], ◌∷◌, Option, Some, length, slice_get, inl, inr, refl, sym, ap, subst, arith}
use Rattle.std.specs.List.Sorted.{IsNonDecreasingBy}
use Rattle.std.proofs.lemmas.Bool.{cases_eq, cases_lt}
use Rattle.std.proofs.lemmas.Option.{get_or_from_slice_get, same_Some, slice_get_within}
use Rattle.area_graph.specs.declared.area_types.Arc.{Arc}
use Rattle.mrt_graph.proofs.ListPlaces.{contains_at, place_of}
use Rattle.primary_alt.specs.declared.beginnings.Beginning.{Beginning}
use Rattle.primary_alt.specs.declared.onward.Onward.{Onward}
use Rattle.primary_alt.specs.ArcWalk.{ArcWalk, cost_of}
use Rattle.primary_alt.specs.steps.Beginnings.{HasBeginning}
use Rattle.primary_alt.specs.Distances.{HasDistance}
use Rattle.primary_alt.specs.steps.LeastBeginnings.{AreLeast, BeginsWith, GoesOn, HasUpTo, IsBegun, IsPassedOn, IsUpTo, Later, Own, Second}
use Rattle.primary_alt.specs.steps.Onward.{AreOnward, CostInRow, IsOnward}
use Rattle.primary_alt.proofs.ArcWalks.{arc_onward, cost_onward}
use Rattle.primary_alt.proofs.NumbersRead.{one_number}

-- one after another
pub upto_trans : (a b d : Beginning) → IsUpTo a b → IsUpTo b d → IsUpTo a d
upto_trans a b d one other = elim one [
  | inl less ↦ elim other [ inl less' ↦ inl (omega (arith, less, less')) | inr same' ↦ inl (omega (arith, less, same'.0)) ]
  | inr same ↦ elim other [
    | inl less' ↦ inl (omega (arith, same.0, less'))
    | inr same' ↦ inr (omega (arith, same.0, same'.0), omega (arith, same.1, same'.1))
  ]
]

pub upto_more : (begins : List (Option Beginning)) (v : ℕ) (a b : Beginning) → HasUpTo begins v a → IsUpTo a b → HasUpTo begins v b
upto_more begins v a b has more = record { least = has.least; there = has.there; upto = upto_trans has.least a b has.upto more }

pub one_beginning : (begins : List (Option Beginning)) (v : ℕ) (a b : Beginning) → HasBeginning begins v a → HasBeginning begins v b → a ≡ b
one_beginning begins v a b one other = same_Some a b (same_Some (Some a) (Some b) (sym one ∙ other))

-- how a path goes on over an arc is told by one case
pub own_alone : (arcs : List Arc) (s : ℕ) (begins : List (Option Beginning)) (number : ℕ) (arc : Arc) (begin : Beginning) → arc.tail ≡ s → GoesOn arcs s begins number arc begin
    → ◌≡◌ {A = Beginning} (record { first = number; second = number }) begin
own_alone arcs s begins number arc begin own (Own same) = refl
own_alone arcs s begins number arc begin own (Second before head apart has there to) = absurd (apart own)
own_alone arcs s begins number arc begin own (Later before head apart has there other) = absurd (apart own)

pub none_goes_on : (arcs : List Arc) (s : ℕ) (begins : List (Option Beginning)) (number : ℕ) (arc : Arc) (begin : Beginning) → arc.tail ≢ s
    → ((before : Beginning) → ¬ HasBeginning begins arc.tail before) → ¬ GoesOn arcs s begins number arc begin
none_goes_on arcs s begins number arc begin apart none (Own same) = apart same
none_goes_on arcs s begins number arc begin apart none (Second before head apart' has there to) = none before has
none_goes_on arcs s begins number arc begin apart none (Later before head apart' has there other) = none before has

-- the arc that a beginning names
one_head : (arcs : List Arc) (begins : List (Option Beginning)) (v : ℕ) (before before' : Beginning) (head head' : Arc) → HasBeginning begins v before → HasBeginning begins v before'
    → slice_get arcs before.first ≡ Some head → slice_get arcs before'.first ≡ Some head' → head ≡ head'
one_head arcs begins v before before' head head' has has' there there' =
    same_Some head head' (sym there ∙ ap (λ (b : Beginning). slice_get arcs b.first) (one_beginning begins v before before' has has') ∙ there')

pub second_alone : (arcs : List Arc) (s : ℕ) (begins : List (Option Beginning)) (number : ℕ) (arc : Arc) (begin before : Beginning) (head : Arc) → arc.tail ≢ s
    → HasBeginning begins arc.tail before → slice_get arcs before.first ≡ Some head → head.to ≡ arc.tail → GoesOn arcs s begins number arc begin
    → ◌≡◌ {A = Beginning} (record { first = before.first; second = number }) begin
second_alone arcs s begins number arc begin before head apart has there to (Own same) = absurd (apart same)
second_alone arcs s begins number arc begin before head apart has there to (Second before' head' apart' has' there' to') =
    ap (λ (b : Beginning). record { first = b.first; second = number }) (one_beginning begins arc.tail before before' has has')
second_alone arcs s begins number arc begin before head apart has there to (Later before' head' apart' has' there' other) =
    absurd (other (ap (λ (a : Arc). a.to) (one_head arcs begins arc.tail before' before head' head has' has there' there) ∙ to))

pub later_alone : (arcs : List Arc) (s : ℕ) (begins : List (Option Beginning)) (number : ℕ) (arc : Arc) (begin before : Beginning) (head : Arc) → arc.tail ≢ s
    → HasBeginning begins arc.tail before → slice_get arcs before.first ≡ Some head → head.to ≢ arc.tail → GoesOn arcs s begins number arc begin → before ≡ begin
later_alone arcs s begins number arc begin before head apart has there other (Own same) = absurd (apart same)
later_alone arcs s begins number arc begin before head apart has there other (Second before' head' apart' has' there' to) =
    absurd (other (ap (λ (a : Arc). a.to) (one_head arcs begins arc.tail before before' head head' has has' there there') ∙ to))
later_alone arcs s begins number arc begin before head apart has there other (Later before' head' apart' has' there' other') = one_beginning begins arc.tail before before' has has'

-- a walk that goes on from another node begins as before
walk_on : (arcs rest : List Arc) (x : ℕ) (head arc : Arc) (second : ℕ) → head.to ≢ x → ArcWalk arcs head.to rest x → BeginsWith arcs rest second → BeginsWith arcs (rest ++ arc ∷ []) second
walk_on arcs [] x head arc second apart w begins = absurd (apart w)
walk_on arcs (a ∷ more) x head arc second apart w begins = begins

-- a shortest path goes on over an arc as it is said
begun_on : (arcs : List Arc) (s : ℕ) (known : List (Option ℕ)) (begins : List (Option Beginning)) (number sum : ℕ) (arc : Arc) (begin : Beginning) → HasDistance known s 0
    → ((v : ℕ) (b : Beginning) → HasBeginning begins v b → IsBegun arcs s known v b) → slice_get arcs number ≡ Some arc → IsOnward known arc sum
    → GoesOn arcs s begins number arc begin → IsBegun arcs s known arc.to begin
begun_on arcs s known begins number sum arc begin here sound at on (Own own) =
    let zero : on.near ≡ 0 = one_number known s on.near 0 (subst (λ (u : ℕ). HasDistance known u on.near) own on.tail) here in
    let far : on.near + arc.metric ≡ arc.metric = omega (arith, zero) in
    let costs : on.near + arc.metric ≡ arc.metric + 0 = omega (arith, zero) in
    record {
      head = arc;
      there = at;
      tail = own;
      far = subst (λ (d : ℕ). HasDistance known arc.to d) far on.to;
      rest = [];
      leads = refl;
      costs = subst (λ (d : ℕ). HasDistance known arc.to d) costs on.to;
      second = tt;
    }
begun_on arcs s known begins number sum arc begin here sound at on (Second before head apart has there to) =
    let is = sound arc.tail before has in
    let same : is.head ≡ head = same_Some is.head head (sym is.there ∙ there) in
    let far : HasDistance known head.to head.metric = subst (λ (a : Arc). HasDistance known a.to a.metric) same is.far in
    let near : on.near ≡ head.metric = one_number known arc.tail on.near head.metric on.tail (subst (λ (u : ℕ). HasDistance known u head.metric) to far) in
    let costs : on.near + arc.metric ≡ head.metric + (arc.metric + 0) = omega (arith, near) in
    record {
      head = head;
      there = there;
      tail = subst (λ (a : Arc). a.tail ≡ s) same is.tail;
      far = far;
      rest = arc ∷ [];
      leads = (contains_at arcs number arc at, sym to, refl);
      costs = subst (λ (d : ℕ). HasDistance known arc.to d) costs on.to;
      second = at;
    }
begun_on arcs s known begins number sum arc begin here sound at on (Later before head apart has there other) =
    let is = sound arc.tail before has in
    let same : is.head ≡ head = same_Some is.head head (sym is.there ∙ there) in
    let near = one_number known arc.tail on.near (is.head.metric + cost_of is.rest) on.tail is.costs in
    let costs : on.near + arc.metric ≡ is.head.metric + cost_of (is.rest ++ arc ∷ []) = omega (arith, near, cost_onward is.rest arc) in
    record {
      head = is.head;
      there = is.there;
      tail = is.tail;
      far = is.far;
      rest = is.rest ++ arc ∷ [];
      leads = arc_onward arcs is.rest is.head.to arc.tail arc is.leads (contains_at arcs number arc at) refl;
      costs = subst (λ (d : ℕ). HasDistance known arc.to d) costs on.to;
      second = walk_on arcs is.rest arc.tail is.head arc before.second (λ here'. other (sym (ap (λ (a : Arc). a.to) same) ∙ here')) is.leads is.second;
    }

-- what goes on over an arc depends on its tail alone
goes_on_as : (arcs : List Arc) (s : ℕ) (begins after : List (Option Beginning)) (number : ℕ) (arc : Arc) (begin : Beginning) → slice_get after arc.tail ≡ slice_get begins arc.tail
    → GoesOn arcs s after number arc begin → GoesOn arcs s begins number arc begin
goes_on_as arcs s begins after number arc begin same (Own own) = Own own
goes_on_as arcs s begins after number arc begin same (Second before head apart has there to) = Second before head apart (sym same ∙ has) there to
goes_on_as arcs s begins after number arc begin same (Later before head apart has there other) = Later before head apart (sym same ∙ has) there other

-- the beginnings where so many of the arcs of shortest paths were passed
pub record ArePassed (arcs : List Arc) (s : ℕ) (known : List (Option ℕ)) (onward : List Onward) (count : ℕ) (begins : List (Option Beginning)) : Type 0 where
  pub sound : (v : ℕ) (begin : Beginning) → HasBeginning begins v begin → IsBegun arcs s known v begin
  pub least : (i : ℕ) (next : Onward) (arc : Arc) (begin : Beginning) → i < count → slice_get onward i ≡ Some next → slice_get arcs next.number ≡ Some arc
      → GoesOn arcs s begins next.number arc begin → HasUpTo begins arc.to begin

module _ (arcs : List Arc) (s : ℕ) (known : List (Option ℕ)) (onward : List Onward) (here : HasDistance known s 0) (costs : CostInRow arcs)
    (ascend : IsNonDecreasingBy (λ (next : Onward). next.sum) onward) (are : AreOnward arcs known (length arcs) onward) where
  -- the arc of a place
  on_at : (i : ℕ) (next : Onward) (arc : Arc) → slice_get onward i ≡ Some next → slice_get arcs next.number ≡ Some arc → IsOnward known arc next.sum
  on_at i next arc at there =
      let is = are.only next (contains_at onward i next at) in
      subst (λ (a : Arc). IsOnward known a next.sum) (same_Some is.0 arc (sym is.1 ∙ there)) is.2

  -- no arc up to this one leaves its far node
  not_back : (i k : ℕ) (other next : Onward) (arc' arc : Arc) → i ≤ k → slice_get onward i ≡ Some other → slice_get arcs other.number ≡ Some arc'
      → slice_get onward k ≡ Some next → slice_get arcs next.number ≡ Some arc → arc'.tail ≢ arc.to
  not_back i k other next arc' arc low at' there' at there same =
      let on = on_at k next arc at there in
      let on' = on_at i other arc' at' there' in
      let near = one_number known arc.to on'.near (on.near + arc.metric) (subst (λ (u : ℕ). HasDistance known u on'.near) same on'.tail) on.to in
      let sums = ascend i k next low (slice_get_within onward k next at) in
      let sum : other.sum ≤ next.sum =
      omega (arith, sums, ap (λ (n : Onward). n.sum) (get_or_from_slice_get onward i other next at'), ap (λ (n : Onward). n.sum) (get_or_from_slice_get onward k next next at)) in
      omega (arith, near, sum, on.is, on'.is, costs next.number other.number arc arc' there there' (sym same))

  module _ (k : ℕ) (next : Onward) (arc : Arc) (begins after : List (Option Beginning)) (at : slice_get onward k ≡ Some next) (there : slice_get arcs next.number ≡ Some arc)
      (passed : IsPassedOn arcs s next.number arc begins after) (so_far : ArePassed arcs s known onward k begins) where
    still : (v : ℕ) (begin : Beginning) → HasUpTo begins v begin → HasUpTo after v begin
    still v begin has = elim (cases_eq v arc.to) [
      | inl far ↦
          let lower = passed.lower has.least (subst (λ (u : ℕ). HasBeginning begins u has.least) far has.there) in
          subst (λ (u : ℕ). HasUpTo after u begin) (sym far) (upto_more after arc.to has.least begin lower has.upto)
      | inr other ↦ record { least = has.least; there = passed.elsewhere v other ∙ has.there; upto = has.upto }
    ]

    sound : (v : ℕ) (begin : Beginning) → HasBeginning after v begin → IsBegun arcs s known v begin
    sound v begin has = elim (cases_eq v arc.to) [
      | inl far ↦
          subst (λ (u : ℕ). IsBegun arcs s known u begin) (sym far)
          (elim (passed.from begin (subst (λ (u : ℕ). HasBeginning after u begin) far has)) [
            | inl old ↦ so_far.sound arc.to begin old
            | inr new ↦ begun_on arcs s known begins next.number next.sum arc begin here so_far.sound there (on_at k next arc at there) new
          ])
      | inr other ↦ so_far.sound v begin (sym (passed.elsewhere v other) ∙ has)
    ]

    least : (i : ℕ) (one : Onward) (a : Arc) (begin : Beginning) → i < k + 1 → slice_get onward i ≡ Some one → slice_get arcs one.number ≡ Some a
        → GoesOn arcs s after one.number a begin → HasUpTo after a.to begin
    least i one a begin low at' there' goes =
        let back = not_back i k one next a arc (omega (arith, low)) at' there' at there in
        let goes' = goes_on_as arcs s begins after one.number a begin (passed.elsewhere a.tail back) goes in
        elim (cases_lt i k) [
          | inl early ↦ still a.to begin (so_far.least i one a begin early at' there' goes')
          | inr last ↦
              let same : i ≡ k = omega (arith, low, last) in
              let one_is : one ≡ next = same_Some one next (sym at' ∙ ap (λ (j : ℕ). slice_get onward j) same ∙ at) in
              let arc_is : a ≡ arc = same_Some a arc (sym there' ∙ ap (λ (n : Onward). slice_get arcs n.number) one_is ∙ there) in
              let goes'' : GoesOn arcs s begins next.number arc begin =
              subst (λ (x : Arc). GoesOn arcs s begins next.number x begin) arc_is (subst (λ (n : Onward). GoesOn arcs s begins n.number a begin) one_is goes') in
              subst (λ (x : Arc). HasUpTo after x.to begin) (sym arc_is) (passed.taken begin goes'')
        ]

    pub one_passed : ArePassed arcs s known onward (k + 1) after
    one_passed = record { sound = sound; least = least }

  pub all_passed : (count : ℕ) (begins : List (Option Beginning)) → length onward ≤ count → ArePassed arcs s known onward count begins → AreLeast arcs s known begins
  all_passed count begins all is = record {
    sound = is.sound;
    least = λ number sum arc begin there on goes.
        let at = place_of onward (record { number = number; sum = sum }) (are.all number sum arc (slice_get_within arcs number arc there) there on) in
        is.least at.0 _ arc begin (omega (arith, all, slice_get_within onward at.0 _ at.1)) at.1 there goes;
  }
