-- Rows that are accepted.
use Rattle.std.proofs.Common.{◌≢◌, ◌<◌, ℕ, length, sym}
use Rattle.std.specs.Prelude.{IsSome}
use Rattle.fabric.specs.FabricParts.{AreRowsAccepted, FabricParts}
use Rattle.mrt_graph.specs.Certificate.{row_of}
use Rattle.mrt_graph.specs.Hop.{color_hop}
use Rattle.mrt_graph.specs.Sound.{SoundFor}
use Rattle.mrt_graph.specs.declared.cert.Color.{Color}
use Rattle.mrt_graph.proofs.AcceptedSound.{accepted_sound}
use Rattle.mrt_graph.proofs.LeadsOn.{sound-hop}
use Rattle.primary_alt.proofs.AgreeingRows.{sound_too}

-- they are sound
pub sound_for : (parts : FabricParts) (n d : ℕ) → AreRowsAccepted parts d → n < length parts.island.ids → d < length parts.island.ids → n ≢ d
    → SoundFor parts.island.links (length parts.island.ids) parts.rows n d
sound_for parts n d rows from to other =
    sound_too parts.island.links (length parts.island.ids) d (row_of rows.cert) parts.rows (λ s. sym (rows.same s)) n
    (accepted_sound parts.island rows.accepted.root _ rows.accepted.accepted n d from to other)

-- and lead on
pub hop_for : (parts : FabricParts) (color : Color) (n d : ℕ) → AreRowsAccepted parts d → n < length parts.island.ids → d < length parts.island.ids → n ≢ d
    → IsSome (color_hop parts.island.links parts.rows color d n)
hop_for parts color n d rows from to other =
    sound-hop parts.island.links (length parts.island.ids) parts.rows color n d other (sound_for parts n d rows from to other)
