use Rattle.gadag_ears.proofs.FromSearch.{facts_of}
use Rattle.gadag_ears.proofs.MemberLinks.{closing_link, goes_on_from}
use Rattle.gadag_ears.proofs.gadag_law.each_member_is_left_or_closes_its_block.Goals as goal

pub returns : goal.returns
returns c = record {
  members = λ g root tree gadag kept within search it. goes_on_from g root tree gadag (facts_of g root tree (record { kept = kept; within = within; search = search })) it;
  closing = λ g root tree gadag kept within search it. closing_link g root tree gadag (facts_of g root tree (record { kept = kept; within = within; search = search })) it;
}
