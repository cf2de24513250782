use Rattle.gadag_ears.proofs.FromSearch.{facts_of}
use Rattle.gadag_ears.proofs.MemberLinks.{link_into, none_into_root}
use Rattle.gadag_ears.proofs.gadag_law.each_node_but_the_root_is_entered.Goals as goal

pub returns : goal.returns
returns c = record {
  others = λ g root tree gadag kept within search it. link_into g root tree gadag (facts_of g root tree (record { kept = kept; within = within; search = search })) it;
  root = λ g root tree gadag kept within search it. none_into_root g root tree gadag (facts_of g root tree (record { kept = kept; within = within; search = search })) it;
}
