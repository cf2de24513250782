use Rattle.link_direction.proofs.Laws.{says_ordered}
use Rattle.link_direction.proofs.order_law.directions_are_ordered.Goals as goal

pub returns : goal.returns
returns c = λ g root tree gadag kept within search it d directed.
    says_ordered g root gadag d kept within (record { tree = tree; search = search; is_gadag = it }) directed
