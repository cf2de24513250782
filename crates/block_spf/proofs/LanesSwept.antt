-- The sweep for some sources side by side, told of each of them: its lane.
use Rattle.std.proofs.Common.{◌≡◌, ◌≢◌, ◌<◌, ◌≤◌, ◌+◌, ◌*◌, ◌∙◌, ℕ, List, [], ◌∷◌, Option, Some, None, length, nat_lt, slice_get, slice_index, inl, inr, refl, sym, ap, subst, arith}
use Rattle.std.specs.Option.{option_map_or}
use Rattle.std.proofs.lemmas.Bool.{cases_Bool, cases_eq, ltb-false, ltb-true}
use Rattle.std.proofs.lemmas.Option.{same_Some, slice_get_past}
use Rattle.mrt_graph.specs.declared.cert.Role.TheVariants.{Sole}
use Rattle.mrt_graph.specs.declared.link.End.{End}
use Rattle.mrt_graph.specs.Topology.{Topology}
use Rattle.mrt_graph.proofs.EndsAt.{end_leads}
use Rattle.link_direction.specs.Directions.{Directions}
use Rattle.block_spf.specs.declared.fan.Opening.{Opening}
use Rattle.block_spf.specs.declared.reach.Dir.{Dir}
use Rattle.block_spf.specs.Fan.{IsFirstHop, link_at}
use Rattle.block_spf.specs.FirstLink.{Begins, BeginsNone, no_link}
use Rattle.block_spf.specs.HasDirections.{AreDirections}
use Rattle.block_spf.specs.steps.Known.{AreOffered, IsNoLater, Known, OfAny, known, known_at, nothing}
use Rattle.block_spf.specs.LeastPath.{IsHop, NotReached, Reached}
use Rattle.block_spf.specs.steps.Offers.{IsFirstOffer, IsFurtherOffer, PassesOn}
use Rattle.block_spf.specs.steps.Opening.{AreFirstOffered, Goes, IsKeptOnward, IsOpening, Ends}
use Rattle.block_spf.specs.Path.{IsStep, Path, cost_of}
use Rattle.block_spf.specs.Rest.{far}
use Rattle.block_spf.specs.Turns.{AreTurns, turn_of}
use Rattle.link_direction.proofs.ClosedBlocks.{IsOrdered}
use Rattle.link_direction.proofs.LinkNodes.{link_within}
use Rattle.block_spf.proofs.InBlocks.{there_too}
use Rattle.block_spf.proofs.MoreLinks.{AreIn, are_in, first_step, share_it}
use Rattle.block_spf.proofs.Offering.{no_later_cost, no_later_same}
use Rattle.block_spf.proofs.PathsInside.{path_low}
use Rattle.block_spf.proofs.PathsSwept.{HasPath, IsSwept, IsTurnOffer, begun_path, found_in, found_low, path_found, turn_taken}
use Rattle.block_spf.proofs.SideBySide.{places_apart, row_within}

-- the lane at place j of so many
abbrev pub lane : ℕ → ℕ → (ℕ → Known) → ℕ → Known
lane width j found v = found (v * width + j)

-- each place is that of one node in one lane
same_place : (v u width j l : ℕ) → j < width → l < width → v * width + j ≡ u * width + l → (v ≡ u) × (j ≡ l)
same_place v u width j l j_below l_below same = elim (cases_eq v u) [
  | inl one ↦ (one, omega (arith, same, ap (λ (x : ℕ). x * width) one))
  | inr other ↦ elim (places_apart v u width j other j_below) [
    | inl before ↦ absurd (omega (arith, before, same))
    | inr after ↦ absurd (omega (arith, after, same, l_below))
  ]
]

-- what the source s offers to v
record IsBegun (g : Topology) (w : Directions) (dir : Dir) (s v : ℕ) (way : Known) : Type 0 where
  pub end : End
  pub step : IsStep g w dir (w.lies_in end.link) s end
  pub not_sole : w.role end.link ≢ Sole
  pub to : v ≡ end.to
  pub same : way ≡ known end.metric step.place

module _ (opening : Opening) (root : ℕ) (w : Directions) (are : AreDirections opening.graph.now opening.directed.now root w) (is_opening : IsOpening opening)
    (width j : ℕ) (below : j < width) where
  abbrev g : Topology
  g = opening.graph.now

  abbrev dir : Dir
  dir = opening.dir

  abbrev s : ℕ
  s = opening.first + j

  is : IsOrdered g root w
  is = record { kept = is_opening.kept; ordered = are.ordered }

  turns : AreTurns g w dir opening.turns.now
  turns = is_opening.turns root w are

  -- what the source offers begins it
  pub lane_begun : (costs places : List ℕ) → AreFirstOffered opening width costs places → IsSwept g root w dir s 0 (lane width j (known_at costs places))
  lane_begun costs places begun = record {
    sound = λ v v_inside low.
        let it = by_offer v v_inside low in
        subst (λ (k : Known). HasPath g root w dir s v k) (sym it.same)
        (subst (λ (y : ℕ). HasPath g root w dir s y (known it.end.metric it.step.place)) (sym it.to) (begun_path g root w dir s is it.end it.step it.not_sole));
    begun = λ end step not_sole. (begun.offered root w are).taken (end.to * width + j) (known end.metric step.place) (record {
      index = j;
      is = record {
        index = step.place;
        is = record { below = below; end = end; step = step; here = refl; not_sole = not_sole; one = record { there = refl; same = refl } };
      };
    });
    passed = λ x end step early. absurd (omega (arith, early));
  }
    where
      own : (v l place : ℕ) → IsFirstOffer opening w (opening.first + l) width l place (v * width + j) (lane width j (known_at costs places) v)
          → IsBegun g w dir s v (lane width j (known_at costs places) v)
      own v l place offer =
          let it : IsFirstOffer opening w s width j place (v * width + j) (lane width j (known_at costs places) v) =
          subst (λ (m : ℕ). IsFirstOffer opening w (opening.first + m) width m place (v * width + j) (lane width j (known_at costs places) v))
          (sym (same_place v offer.end.to width j l below offer.below offer.one.there).1) offer in
          record {
            end = it.end;
            step = it.step;
            not_sole = it.not_sole;
            to = (same_place v it.end.to width j j below below it.one.there).0;
            same = it.one.same ∙ ap (λ (p : ℕ). known it.end.metric p) (sym it.here);
          }

      by_offer : (v : ℕ) → v < length g.ids → (lane width j (known_at costs places) v).cost < far → IsBegun g w dir s v (lane width j (known_at costs places) v)
      by_offer v v_inside low = elim ((begun.offered root w are).from (v * width + j)) [
        | inl same ↦
            let none = begun.blank (v * width + j) (omega (arith, row_within v (length g.ids) width (length costs) begun.one_cost_each v_inside, below)) in
            absurd (omega (arith, low, ap (λ (k : Known). k.cost) (same ∙ none)))
        | inr new ↦ own v new.1.index new.1.is.index new.1.is.is
      ]

  -- the turn of x
  module _ (i x : ℕ) (at : slice_get opening.turns.now i ≡ Some x) (found : ℕ → Known) (swept : IsSwept g root w dir s i (lane width j found)) where
    here : turn_of dir (length g.ids) w x ≡ i
    here = turns.by_turn i x at

    only : (v : ℕ) → v < length g.ids → turn_of dir (length g.ids) w v ≡ i → v ≡ x
    only v v_inside same = same_Some v x (sym (turns.of_each v v_inside) ∙ subst (λ (t : ℕ). slice_get opening.turns.now t ≡ Some x) (sym same) at)

    -- what is kept of it is low
    pub lane_low : (after : Known) → IsKeptOnward opening x width j (lane width j found x) after → after.cost < far → after.cost + 65536 ≤ far
    lane_low after (Goes is_known on) low =
        let same = ap (λ (k : Known). k.cost) is_known in
        omega (arith, same, found_low g root w dir s is x (lane width j found x) (swept.sound x (turns.within i x at) (omega (arith, same, low))))
    lane_low after (Ends is_far not_on) low = absurd (omega (arith, is_far, low))

    -- nothing is known of it
    pub lane_idle : far ≤ (lane width j found x).cost → IsSwept g root w dir s (i + 1) (lane width j found)
    lane_idle above =
        turn_taken g root w dir s is x i (lane width j found) (lane width j found) (turns.within i x at) here only swept (λ v v_inside low. inl refl)
        (λ v. no_later_same (lane width j found v)) (λ end step on low. absurd (omega (arith, low, above)))

    -- it offers what is known of it, where paths go on
    pub lane_turned : (costs places : List ℕ) (after : ℕ → Known) → length costs ≡ width → IsKeptOnward opening x width j (lane width j found x) (known_at costs places j)
        → AreOffered (OfAny (IsFurtherOffer opening w x costs places)) found after → IsSwept g root w dir s (i + 1) (lane width j after)
    lane_turned costs places after long kept_on offered =
        turn_taken g root w dir s is x i (lane width j found) (lane width j after) (turns.within i x at) here only swept
        (λ v v_inside low. elim (offered.from (v * width + j)) [ inl same ↦ inl same | inr new ↦ inr (turn_offer v new.1.index new.0 new.1.is) ])
        (λ v. offered.kept (v * width + j)) taken
      where
        turn_offer : (v place : ℕ) → (lane width j after v).cost < far → IsFurtherOffer opening w x costs places place (v * width + j) (lane width j after v)
            → IsTurnOffer g w dir s x (lane width j found x) v (lane width j after v)
        turn_offer v place low offer =
            let over = offer.over in
            let to = same_place v offer.end.to width j over.lane below (omega (arith, over.below, long))
            (over.one.there ∙ ap (λ (m : ℕ). offer.end.to * m + over.lane) long) in
            let same : lane width j after v ≡ known (slice_index costs j + offer.end.metric) (slice_index places j) =
            over.one.same ∙ ap (λ (l : ℕ). known (slice_index costs l + offer.end.metric) (slice_index places l)) (sym to.1) in
            elim kept_on [
              | Goes is_known on ↦
                  let low_here : (lane width j found x).cost < far = omega (arith, low, ap (λ (k : Known). k.cost) same, ap (λ (k : Known). k.cost) is_known) in
                  let inside = (found_in g root w dir s is x (lane width j found x) (swept.sound x (turns.within i x at) low_here)).source_within in
                  record {
                    low = low_here;
                    on = on below inside root w are;
                    end = offer.end;
                    step = offer.step;
                    to = to.0;
                    is = same ∙ ap (λ (k : Known). known (k.cost + offer.end.metric) k.place) is_known;
                  }
              | Ends is_far not_on ↦ absurd (omega (arith, low, ap (λ (k : Known). k.cost) same, is_far))
            ]

        taken : (end : End) → IsStep g w dir (w.block x) x end → PassesOn w s x → (lane width j found x).cost < far
            → IsNoLater (lane width j after end.to) (known ((lane width j found x).cost + end.metric) (lane width j found x).place)
        taken end step on low = elim kept_on [
          | Goes is_known on' ↦
              offered.taken (end.to * width + j) (known ((lane width j found x).cost + end.metric) (lane width j found x).place) (record {
                index = step.place;
                is = record {
                  end = end;
                  step = step;
                  here = refl;
                  over = record {
                    lane = j;
                    below = omega (arith, below, long);
                    one = record {
                      there = ap (λ (m : ℕ). end.to * m + j) (sym long);
                      same = ap (λ (k : Known). known (k.cost + end.metric) k.place) (sym is_known);
                    };
                  };
                };
              })
          | Ends is_far not_on ↦ absurd (not_on root w are on)
        ]

  -- after all turns, the ends by which the source begins the least paths
  pub place_reached : (t : ℕ) (ends : List End) (found : ℕ → Known) → s < length g.ids → t < length g.ids → slice_get g.ends s ≡ Some ends
      → ((i : ℕ) → far ≤ (found i).cost → found i ≡ nothing) → IsSwept g root w dir s (length g.ids) (lane width j found)
      → IsFirstHop g w dir s t (lane width j found t).cost (link_at ends (lane width j found t).place)
  place_reached t ends found inside t_inside list none swept = elim (cases_Bool (nat_lt way.cost far)) [
    | inl less ↦ record {
      hop = λ two. rw less (hop two (ltb-true way.cost far less));
      begins = λ two.
          let low = ltb-true way.cost far less in
          let it = swept.sound t t_inside low in
          let few = link_within g it.end.link s it.end.to is.kept (end_leads g s way.place it.ends it.end is.kept it.list it.there) in
          Begins (record { cost = way.cost; link = link_at ends way.place }) (hop two low) refl
          (λ same. omega (arith, few, same, link_is it, is.kept.few_links));
    }
    | inr not_less ↦ record {
      hop = λ two. rw not_less (unreached (ltb-false way.cost far not_less));
      begins = λ two.
          let above = ltb-false way.cost far not_less in
          BeginsNone (unreached above) (no_end (ap (λ (k : Known). k.place) (none (t * width + j) above)));
    }
  ]
    where
      way : Known
      way = lane width j found t

      no_end : way.place ≡ 65535 → link_at ends way.place ≡ no_link
      no_end is_none =
          let few = (is.kept.ends_kept s ends list).few in
          ap (λ (o : Option End). option_map_or (λ e. e.link) o no_link) (slice_get_past ends way.place (omega (arith, is_none, few, is.kept.few_links)))

      there : (it : HasPath g root w dir s t way) → slice_get ends way.place ≡ Some it.end
      there it = subst (λ (es : List End). slice_get es way.place ≡ Some it.end) (same_Some it.ends ends (sym it.list ∙ list)) it.there

      link_is : (it : HasPath g root w dir s t way) → link_at ends way.place ≡ it.end.link
      link_is it = ap (λ (o : Option End). option_map_or (λ e. e.link) o no_link) (there it)

      -- no path comes before
      found_by : (k h : ℕ) → AreIn g root w s k h t → (end : End) (others : List End) (place : ℕ) → slice_get ends place ≡ Some end → Path g w dir k h s (end ∷ others) t
          → IsNoLater way (known (cost_of (end ∷ others)) place)
      found_by k h are_in_it end others place at path = path_found g root w dir s is (lane width j found) swept k h t are_in_it t end others path place ends list at

      least : (k h : ℕ) → AreIn g root w s k h t → (path : List End) → Path g w dir k h s path t → way.cost ≤ cost_of path
      least k h are_in_it [] path = absurd path
      least k h are_in_it (end ∷ others) path =
          let step = first_step g w dir k h s t end others path in
          no_later_cost way (known (cost_of (end ∷ others)) step.place)
          (found_by k h are_in_it end others step.place (there_too g w dir k s ends end list step) path)

      unreached : far ≤ way.cost → IsHop g w dir s t None
      unreached above = NotReached (λ k h path share is_path.
          let it = are_in g root w s k h t is inside t_inside share in
          omega (arith, above, least k h it path is_path, low k h it path is_path))
        where
          low : (k h : ℕ) → AreIn g root w s k h t → (path : List End) → Path g w dir k h s path t → cost_of path < far
          low k h it [] path = absurd path
          low k h it (end ∷ others) path = omega (arith, path_low g root w dir is k h it.closed s t end others path)

      hop : s ≢ t → way.cost < far → IsHop g w dir s t (Some (record { cost = way.cost; link = link_at ends way.place }))
      hop two low =
          let it = swept.sound t t_inside low in
          let in_block = found_in g root w dir s is t way it in
          Reached it.k it.h (record { cost = way.cost; link = link_at ends way.place }) (share_it g root w s it.k it.h t is in_block two) (record {
            end = it.end;
            first = record {
              ends = ends;
              list = list;
              place = way.place;
              there = there it;
              asked = record { others = it.others; is_path = it.is_path; costs = it.costs };
              none_before = λ place other early at begins.
                  elim (found_by it.k it.h in_block other begins.others place at begins.is_path) [
                    | inl less ↦ omega (arith, less, begins.costs)
                    | inr tie ↦ omega (arith, tie.1, early)
                  ];
            };
            over = link_is it;
            least = least it.k it.h in_block;
          })
