-- What the rules on rows make of each row, by its tag.
use Rattle.std.specs.Prelude.{◌≡◌, ◌≢◌, ◌⊎◌, ◌<◌, ℕ, Some}
use Rattle.mrt_graph.specs.declared.cert.Role.TheVariants as roles
use Rattle.mrt_graph.specs.declared.cert.Tag.{Tag}
use Rattle.mrt_graph.specs.declared.cert.Tag.TheVariants as tags
use Rattle.mrt_graph.specs.Hop.{Hop}
use Rattle.mrt_graph.proofs.Blocks.{Words, Common, Related}
use Rattle.mrt_graph.proofs.Trails.{IsOnLinks}

-- v is not t, and its row for t has this tag
pub record Tagged (w : Words) (t : ℕ) (tag : Tag) (v : ℕ) : Type 0 where
  pub not_there : v ≢ t
  pub is : w.tag v t ≡ tag

-- and v has a greater order than s
pub record HigherTagged (w : Words) (s t : ℕ) (tag : Tag) (v : ℕ) : Type 0 where
  pub order : w.order s < w.order v
  pub tagged : Tagged w t tag v

-- and v has a smaller order than s
pub record LowerTagged (w : Words) (s t : ℕ) (tag : Tag) (v : ℕ) : Type 0 where
  pub order : w.order v < w.order s
  pub tagged : Tagged w t tag v

-- the hop is over a plain link to v
pub record OverPlain (w : Words) (v : ℕ) (hop : Hop) : Type 0 where
  pub plain : w.role hop.link ≡ roles.Plain
  pub there : hop.to ≡ v

-- the hop is over a closing link to v
pub record OverClosing (w : Words) (v : ℕ) (hop : Hop) : Type 0 where
  pub closing : w.role hop.link ≡ roles.Closing
  pub there : hop.to ≡ v

-- v is in the block of s, with a greater order
pub record Higher (w : Words) (s v : ℕ) : Type 0 where
  pub block : w.block v ≡ w.block s
  pub order : w.order s < w.order v

-- v is in the block of s, with a smaller order
pub record Lower (w : Words) (s v : ℕ) : Type 0 where
  pub block : w.block v ≡ w.block s
  pub order : w.order v < w.order s

pub record SoleRow (w : Words) (s t : ℕ) (blue red : Hop) : Type 0 where
  pub one_link : blue.link ≡ red.link
  pub sole : w.role blue.link ≡ roles.Sole
  pub there : blue.to ≡ t

pub record HeadRow (w : Words) (s t : ℕ) (blue red : Hop) : Type 0 where
  pub head : w.head s ≡ t
  pub blue_goes : Higher w s blue.to ⊎ OverClosing w t blue
  pub red_goes : Lower w s red.to ⊎ OverPlain w t red

pub record TopRow (w : Words) (s t : ℕ) (blue red : Hop) : Type 0 where
  pub head : w.head t ≡ s
  pub blue_plain : w.role blue.link ≡ roles.Plain
  pub blue_goes : (blue.to ≡ t) ⊎ Tagged w t tags.Below blue.to
  pub red_closing : w.role red.link ≡ roles.Closing
  pub red_goes : (red.to ≡ t) ⊎ Tagged w t tags.Above red.to

pub record BelowRow (w : Words) (s t : ℕ) (blue red : Hop) : Type 0 where
  pub block : w.block s ≡ w.block t
  pub order : w.order s < w.order t
  pub blue_goes : (blue.to ≡ t) ⊎ HigherTagged w s t tags.Below blue.to
  pub red_goes : LowerTagged w s t tags.Below red.to ⊎ OverPlain w (w.head s) red

pub record AboveRow (w : Words) (s t : ℕ) (blue red : Hop) : Type 0 where
  pub block : w.block s ≡ w.block t
  pub order : w.order t < w.order s
  pub blue_goes : HigherTagged w s t tags.Above blue.to ⊎ OverClosing w (w.head s) blue
  pub red_goes : (red.to ≡ t) ⊎ LowerTagged w s t tags.Above red.to

pub record UnorderedRow (w : Words) (s t : ℕ) (blue red : Hop) : Type 0 where
  pub block : w.block s ≡ w.block t
  pub blue_goes : (LowerTagged w s t tags.Unordered blue.to ⊎ LowerTagged w s t tags.Below blue.to) ⊎ OverPlain w (w.head s) blue
  pub red_goes : HigherTagged w s t tags.Unordered red.to ⊎ HigherTagged w s t tags.Above red.to

-- what each tag says of a row of s for t with these hops; a carried row has no hops of its own
abbrev pub Says : Words → Tag → ℕ → ℕ → Hop → Hop → Type 0
Says w tags.Sole s t blue red = SoleRow w s t blue red
Says w tags.Head s t blue red = HeadRow w s t blue red
Says w tags.Top s t blue red = TopRow w s t blue red
Says w tags.Below s t blue red = BelowRow w s t blue red
Says w tags.Above s t blue red = AboveRow w s t blue red
Says w tags.Unordered s t blue red = UnorderedRow w s t blue red
Says w tags.Carried s t blue red = ⊥

-- the row of s for t, where the two are related: its hops lie in their common block
pub record NearRow (w : Words) (s t : ℕ) : Type 0 where
  pub blue : Hop
  pub red : Hop
  pub blue_is : w.blue t s ≡ Some blue
  pub red_is : w.red t s ≡ Some red
  pub blue_block : Common w s t (w.part blue.link)
  pub red_block : Common w s t (w.part red.link)
  pub says : Says w (w.tag s t) s t blue red

-- s has for t the hops that it has for u
pub record SameHops (w : Words) (s t u : ℕ) : Type 0 where
  pub blue : w.blue t s ≡ w.blue u s
  pub red : w.red t s ≡ w.red u s

-- what the rules say of the rows
pub record Rows (w : Words) : Type 0 where
  pub blue_leads : (t : ℕ) → IsOnLinks w.links (w.blue t)
  pub red_leads : (t : ℕ) → IsOnLinks w.links (w.red t)
  pub near : (s t : ℕ) → s < w.count → t < w.count → s ≢ t → Related w s t → NearRow w s t
  pub far : (s t : ℕ) → s < w.count → t < w.count → s ≢ t → t ≢ w.root → (Related w s t → ⊥) → SameHops w s t (w.head t)
  pub far_root : (s : ℕ) → s < w.count → s ≢ w.root → (Related w s w.root → ⊥) → SameHops w s w.root (w.head s)
