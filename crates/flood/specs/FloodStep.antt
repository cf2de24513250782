-- The delivery of one packet to one router, which sends on what was new to it. Nothing else of RFC 2328, section 13.3, is
-- here: no interfaces, no acknowledgements, no retransmissions.
use Rattle.std.specs.Prelude.{◌+◌, ◌++◌, ℕ, List, [], ◌∷◌, Some, None, length, slice_get, slice_set}
use Rattle.std.specs.Option.{option_map_or}
use Rattle.ospf_lsa.specs.declared.lsa.Lsa.{Lsa}
use Rattle.flood.specs.declared.answer.Answer.{Answer}
use Rattle.flood.specs.declared.answer.Answer.TheVariants as answers
use Rattle.flood.specs.Routers.{Router}
use Rattle.flood.specs.declared.update.Update.{Update}
use Rattle.flood.specs.FloodState.{FloodState}
use Rattle.flood.specs.Receiving.{after_all, news, topology}

-- the packet that a router sends on of one in which these LSAs were new to it: none where none was, and else the packet
-- with these LSAs alone
abbrev pub sent_on : Update → List Lsa → List Update
sent_on update [] = []
sent_on update (lsa ∷ lsas) = record update { lsas = lsa ∷ lsas } ∷ []

-- the answer where these LSAs were new, and a packet that is sent on would have this number
abbrev pub answer_of : ℕ → List Lsa → Answer
answer_of number [] = answers.Changed 0 None
answer_of number (lsa ∷ lsas) = answers.Changed (length (lsa ∷ lsas)) (Some number)

-- a packet reaches a router, which has this number: its LSAs of types 1 and 2 are installed there, and those that were
-- new become a packet, the last one
abbrev pub reached : FloodState → ℕ → Update → Router → Answer × FloodState
reached state number update router = (
  answer_of (length state.packets) (news router (topology update.lsas)),
  record {
    packets = state.packets ++ sent_on update (news router (topology update.lsas));
    routers = slice_set state.routers number (after_all router (topology update.lsas));
    changed = state.changed + 1;
  },
)

-- a packet is delivered to a router; where there is no such packet, or no such router, nothing changes
abbrev pub delivered : FloodState → ℕ → ℕ → Answer × FloodState
delivered state packet router =
    option_map_or
    (λ update.
    option_map_or (reached state router update) (slice_get state.routers router) (answers.NoSuchRouter, state))
    (slice_get state.packets packet) (answers.NoSuchPacket, state)
