-- A color walk that arrives elsewhere begins with a hop.
use Rattle.std.proofs.Common.{◌≡◌, ◌≢◌, ℕ, zero, suc, List, [], Option, Some, None, refl, subst}
use Rattle.std.specs.Prelude.{IsSome}
use Rattle.std.proofs.lemmas.Bool.{ne_eqb}
use Rattle.mrt_graph.specs.declared.cert.Color.{Color}
use Rattle.mrt_graph.specs.declared.cert.Color.TheVariants.{Blue, Red}
use Rattle.mrt_graph.specs.declared.link.Link.{Link}
use Rattle.mrt_graph.specs.ColorWalk.{links_followed}
use Rattle.mrt_graph.specs.Hop.{Hop, color_hop}
use Rattle.mrt_graph.specs.Reaches.{Reaches}
use Rattle.mrt_graph.specs.Rows.{Rows}
use Rattle.mrt_graph.specs.Sound.{SoundFor}
use Rattle.mrt_graph.specs.Walk.{Walk}

-- a node that gives no hop ends the walk where it is
walk_begins : (links : List Link) (next : ℕ → Option Hop) (t most s : ℕ) (hop : Option Hop) → next s ≡ hop → s ≢ t
    → Walk links s (links_followed next t most s) t → IsSome hop
walk_begins links next t most s (Some hop) is other arrives = refl
walk_begins links next t zero s None is other arrives = absurd (other arrives)
walk_begins links next t (suc most) s None is other arrives =
    let ended : links_followed next t (suc most) s ≡ [] = rw (ne_eqb s t other, is) refl in
    absurd (other (subst (λ (walk : List ℕ). Walk links s walk t) ended arrives))

-- a color that reaches another node gives a hop
pub reaches-hop : (links : List Link) (n : ℕ) (rows : Rows) (color : Color) (s t : ℕ) → s ≢ t
    → Reaches links n rows color s t → IsSome (color_hop links rows color t s)
reaches-hop links n rows color s t other reaches =
    walk_begins links (color_hop links rows color t) t n s (color_hop links rows color t s) refl other reaches.ends_at_t

-- and so does each color of sound rows
pub sound-hop : (links : List Link) (n : ℕ) (rows : Rows) (color : Color) (s t : ℕ) → s ≢ t
    → SoundFor links n rows s t → IsSome (color_hop links rows color t s)
sound-hop links n rows Blue s t other sound = reaches-hop links n rows Blue s t other sound.blue
sound-hop links n rows Red s t other sound = reaches-hop links n rows Red s t other sound.red
