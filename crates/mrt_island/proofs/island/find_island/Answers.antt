use Rattle.std.proofs.Common.{◌≡◌, ◌∙◌, ℕ, List, Result, Err, Some, slice_get, refl, sym, subst, true≢false}
use Rattle.std.specs.Prelude.{Contains, IfErr}
use Rattle.std.specs.Result.{IsErrAnd}
use Rattle.std.proofs.lemmas.List.Elements.{Contains-get_or}
use Rattle.std.proofs.lemmas.Option.{get_or_from_slice_get, slice_get_within}
use Rattle.std.proofs.lemmas.Result.{IfOk-weaker}
use Rattle.mrt_graph.specs.declared.node_id.NodeId.{NodeId}
use Rattle.mrt_island.specs.declared.island.Island.{Island}
use Rattle.mrt_island.specs.declared.island_error.IslandError.{IslandError}
use Rattle.mrt_island.specs.declared.island_error.IslandError.TheVariants.{NoMemory, NotThere, Unsupported}
use Rattle.mrt_island.specs.IslandOf.{IsIsland}
use Rattle.mrt_island.specs.Members.{IsInside}
use Rattle.mrt_island.specs.Policy.{policy_of}
use Rattle.mrt_island.proofs.island.find_island.Goals as goal

contained : (ids : List NodeId) (k : ℕ) (id : NodeId) → slice_get ids k ≡ Some id → Contains ids id
contained ids k id at = subst (Contains ids) (get_or_from_slice_get ids k id id at) (Contains-get_or ids k id (slice_get_within ids k id at))

-- an answer that only want of memory refuses is no other error
not_refused : {A : Type 0} (result : Result A IslandError) (error : IslandError) → IfErr result (λ e. e ≡ NoMemory) → result ≡ Err error → error ≡ NoMemory
not_refused {A} result error refused same = subst (λ (r : Result A IslandError). IfErr r (λ e. e ≡ NoMemory)) same refused

not_given : {A : Type 0} (result : Result A IslandError) (error : IslandError) → IsErrAnd result (λ e. e ≡ NoMemory) → result ≡ Err error → error ≡ NoMemory
not_given {A} result error given same = subst (λ (r : Result A IslandError). IsErrAnd r (λ e. e ≡ NoMemory)) same given

apart : {A : Type 0} → ◌≡◌ {A = Result A IslandError} (Err NotThere) (Err Unsupported) → ⊥
apart same = cc

is_there : NotThere ≡ NoMemory → ⊥
is_there same = cc

is_supported : Unsupported ≡ NoMemory → ⊥
is_supported same = cc

pub island_of-requires-clause-extent : goal.island_of-requires-clause-extent
island_of-requires-clause-extent c = record {
  router = c.args.router;
  those = record {
    start = c.in-Some.start;
    there = c.in-Some.ensures.found;
    supported = sym c.supports.ensures ∙ c.if-not-supports.false;
    one_each = c.in_ok-extent.ensures.count;
    those = c.in_ok-extent.ensures.nodes;
  };
  between = c.in_ok-extent.ensures.links;
}

pub returns-clause-island : goal.returns-clause-island
returns-clause-island c =
    let policy = policy_of c.args.profile.now in
    let area = c.args.area.now in
    let extent = c.in_ok-extent.extent in
    IfOk-weaker c.island_of.result
    (λ (island : Island). (router : ℕ) → IsInside policy area router extent.nodes.items → IsIsland policy area router island.graph island.root island.link_of)
    (λ (island : Island). IsIsland policy area c.args.router island.graph island.root island.link_of)
    (λ island is. is c.args.router (record {
      start = c.in-Some.start;
      there = c.in-Some.ensures.found;
      supported = sym c.supports.ensures ∙ c.if-not-supports.false;
      one_each = c.in_ok-extent.ensures.count;
      those = c.in_ok-extent.ensures.nodes;
    })) c.island_of.ensures.island

pub returns-clause-fits : goal.returns-clause-fits
returns-clause-fits c = c.island_of.ensures.fits

pub returns-clause-not_there : goal.returns-clause-not_there
returns-clause-not_there c = (
  λ same. absurd (is_there (not_refused c.island_of.result NotThere c.island_of.ensures.refused same)),
  λ lacks. absurd (lacks (contained c.args.area.now.ids c.in-Some.start _ c.in-Some.ensures.found)),
)

pub returns-clause-unsupported : goal.returns-clause-unsupported
returns-clause-unsupported c = (
  λ same. absurd (is_supported (not_refused c.island_of.result Unsupported c.island_of.ensures.refused same)),
  λ there. absurd (true≢false (sym (sym c.supports.ensures ∙ c.if-not-supports.false) ∙ there.1)),
)

pub returns-in_default-clause-not_there : goal.returns-in_default-clause-not_there
returns-in_default-clause-not_there c = (λ same. c.in_default.ensures.none.0 refl, λ lacks. refl)

pub returns-in_default-clause-unsupported : goal.returns-in_default-clause-unsupported
returns-in_default-clause-unsupported c = (λ same. absurd (apart same), λ there. absurd (c.in_default.ensures.none.0 refl there.0))

pub returns-then-not-supports-clause-not_there : goal.returns-then-not-supports-clause-not_there
returns-then-not-supports-clause-not_there c = (
  λ same. absurd (apart (sym same)),
  λ lacks. absurd (lacks (contained c.args.area.now.ids c.in-Some.start _ c.in-Some.ensures.found)),
)

pub returns-in_err-extent-clause-not_there : goal.returns-in_err-extent-clause-not_there
returns-in_err-extent-clause-not_there c = (
  λ same. absurd (is_there (not_given c.from_residual.result NotThere c.from_residual.ensures.1 same)),
  λ lacks. absurd (lacks (contained c.args.area.now.ids c.in-Some.start _ c.in-Some.ensures.found)),
)

pub returns-in_err-extent-clause-unsupported : goal.returns-in_err-extent-clause-unsupported
returns-in_err-extent-clause-unsupported c = (
  λ same. absurd (is_supported (not_given c.from_residual.result Unsupported c.from_residual.ensures.1 same)),
  λ there. absurd (true≢false (sym (sym c.supports.ensures ∙ c.if-not-supports.false) ∙ there.1)),
)

pub returns-then-not-supports-clause-unsupported : goal.returns-then-not-supports-clause-unsupported
returns-then-not-supports-clause-unsupported c = (
  λ same. (contained c.args.area.now.ids c.in-Some.start _ c.in-Some.ensures.found, sym c.supports.ensures ∙ c.if-not-supports.true),
  λ there. refl,
)
