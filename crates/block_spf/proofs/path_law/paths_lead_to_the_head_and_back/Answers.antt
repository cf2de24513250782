use Rattle.block_spf.proofs.HomePaths.{from_head, to_head}
use Rattle.block_spf.proofs.path_law.paths_lead_to_the_head_and_back.Goals as goal

pub returns-clause-to_head : goal.returns-clause-to_head
returns-clause-to_head c = λ g root m w dir kept ordered within other closing.
    to_head g root w dir m (record { kept = kept; ordered = ordered }) within other closing

pub returns-clause-from_head : goal.returns-clause-from_head
returns-clause-from_head c = λ g root m w dir kept ordered within other closing.
    from_head g root w dir m (record { kept = kept; ordered = ordered }) within other closing
