use Rattle.fabric.proofs.CourseChains as chains
use Rattle.fabric.proofs.packet_law.no_place_twice.Goals as goal

pub returns-clause-in_primary_mode : goal.returns-clause-in_primary_mode
returns-clause-in_primary_mode c = λ parts are room events answers end on run p. (chains.no_place_twice parts are room events answers end run p on).0

pub returns-clause-on_a_color : goal.returns-clause-on_a_color
returns-clause-on_a_color c = λ parts are room events answers end on run p. (chains.no_place_twice parts are room events answers end run p on).1
