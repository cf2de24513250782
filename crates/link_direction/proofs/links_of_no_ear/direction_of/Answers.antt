use Rattle.std.proofs.Common.{rules}
use Rattle.link_direction.proofs.links_of_no_ear.direction_of.Goals as goal

pub returns-then-number_of : goal.returns-then-number_of
returns-then-number_of c = search rules

pub returns-else-number_of : goal.returns-else-number_of
returns-else-number_of c = search rules
