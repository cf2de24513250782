-- Speakers of the live LSAs, one LSA at a time.
use Rattle.std.proofs.Common.{◌≡◌, ◌∙◌, ◌<◌, ◌+◌, ◌++◌, ℕ, Bool, true, false, not, cond, List, [], ◌∷◌, Some, length, get_or, take, refl, sym, ap, subst}
use Rattle.std.specs.List.{AllZip}
use Rattle.std.proofs.lemmas.List.{append-nil}
use Rattle.std.proofs.lemmas.List.Elements.{filter_more}
use Rattle.std.proofs.lemmas.Option.{slice_get-get_or}
use Rattle.mrt_graph.specs.declared.node_id.NodeId.{NodeId}
use Rattle.ospf_lsa.specs.declared.lsa.Lsa.{Lsa}
use Rattle.ospf_lsa.specs.MaxAge.{is_at_max_age}
use Rattle.area_graph.specs.Nodes.{node_of, live}
use Rattle.area_graph.specs.steps.Speaking.{IsSpeakerOf}
use Rattle.area_graph.specs.declared.speaker.Speaker.{Speaker}
use Rattle.area_graph.proofs.Alongside.{zip_push}

live_step : (b : Bool) (lsas : List Lsa) (at : ℕ) (lsa : Lsa) → at < length lsas → lsa ≡ get_or lsas at lsa → not (is_at_max_age lsa) ≡ b
    → live (take (at + 1) lsas) ≡ live (take at lsas) ++ cond b (lsa ∷ []) []
live_step b lsas at lsa within is told =
    filter_more (λ l. not (is_at_max_age l)) lsas at lsa within
    ∙ ap (λ (l : Lsa). live (take at lsas) ++ cond (not (is_at_max_age l)) (l ∷ []) []) (sym is)
    ∙ ap (λ (c : Bool). live (take at lsas) ++ cond c (lsa ∷ []) []) told

-- one that is live
pub live_more : (lsas : List Lsa) (at : ℕ) (lsa : Lsa) (id : NodeId) (old new : List Speaker) → at < length lsas → lsa ≡ get_or lsas at lsa
    → not (is_at_max_age lsa) ≡ true → id ≡ node_of lsa → new ≡ old ++ record { id = id; router = lsa.router; at = at } ∷ []
    → AllZip (IsSpeakerOf lsas) old (live (take at lsas)) → AllZip (IsSpeakerOf lsas) new (live (take (at + 1) lsas))
live_more lsas at lsa id old new within is told node pushed zip =
    let speaker : Speaker = record { id = id; router = lsa.router; at = at } in
    let one : IsSpeakerOf lsas speaker lsa = record { there = slice_get-get_or lsas at lsa within ∙ ap (λ (l : Lsa). Some l) (sym is); id = node; router = refl } in
    subst (λ (xs : List Speaker). AllZip (IsSpeakerOf lsas) xs (live (take (at + 1) lsas))) (sym pushed)
    (subst (λ (ls : List Lsa). AllZip (IsSpeakerOf lsas) (old ++ speaker ∷ []) ls) (sym (live_step true lsas at lsa within is told))
    (zip_push (IsSpeakerOf lsas) old (live (take at lsas)) speaker lsa zip one))

-- one that is not
pub live_same : (lsas : List Lsa) (at : ℕ) (lsa : Lsa) (found : List Speaker) → at < length lsas → lsa ≡ get_or lsas at lsa → not (is_at_max_age lsa) ≡ false
    → AllZip (IsSpeakerOf lsas) found (live (take at lsas)) → AllZip (IsSpeakerOf lsas) found (live (take (at + 1) lsas))
live_same lsas at lsa found within is told zip =
    subst (λ (ls : List Lsa). AllZip (IsSpeakerOf lsas) found ls) (sym (live_step false lsas at lsa within is told ∙ append-nil (live (take at lsas)))) zip
