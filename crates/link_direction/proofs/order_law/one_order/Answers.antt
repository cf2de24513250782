use Rattle.link_direction.proofs.AnswerExists.{some_answer}
use Rattle.link_direction.proofs.FromEarsFacts.{gadag_facts}
use Rattle.link_direction.proofs.OneAnswer.{one_answer}
use Rattle.link_direction.proofs.OneOrder.{one_order_list}
use Rattle.link_direction.proofs.order_law.one_order.Goals as goal

pub returns-clause-order : goal.returns-clause-order
returns-clause-order c = λ g root gadag order other one two. one_order_list g root gadag.marks order other one two

pub returns-clause-answer : goal.returns-clause-answer
returns-clause-answer c = λ g root tree gadag kept within search it d other one two.
    one_answer g root gadag d other (gadag_facts g root gadag kept within (record { tree = tree; search = search; is_gadag = it })) one two

pub returns-clause-some : goal.returns-clause-some
returns-clause-some c = λ g root tree gadag kept within search it.
    some_answer g root gadag (gadag_facts g root gadag kept within (record { tree = tree; search = search; is_gadag = it }))
