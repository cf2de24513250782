-- Where the entries from one node to another begin among entries that are ordered to be paired, and how that is found in
-- one pass over them.
use Rattle.std.specs.Prelude.{◌≡◌, ◌<◌, ◌≤◌, ◌==◌, ◌&&◌, ◌||◌, ℕ, Bool, true, false, nat_lt, List, length, slice_index_or}
use Rattle.std.specs.List.{AllWithin}
use Rattle.area_graph.specs.declared.entry.NumberedEntry.{NumberedEntry as Entry}

-- whether an entry stands before those from one node to another: it leaves a lower node, or the same one and leads to a lower one
abbrev pub is_before_ends : ℕ → ℕ → Entry → Bool
is_before_ends tail far entry = nat_lt entry.tail tail || ((entry.tail == tail) && nat_lt entry.far far)

-- each entry below that place stands before those from one node to another, and none from it on does
pub record IsFirstOf (tail far : ℕ) (entries : List Entry) (place : ℕ) : Type 0 where
  pub within : place ≤ length entries
  pub below : AllWithin (λ entry. is_before_ends tail far entry ≡ true) entries 0 place
  pub above : AllWithin (λ entry. is_before_ends tail far entry ≡ false) entries place (length entries)

-- so many entries are known to stand before those from one node to another
pub record AreBefore (tail far : ℕ) (entries : List Entry) (place : ℕ) : Type 0 where
  pub within : place ≤ length entries
  pub below : AllWithin (λ entry. is_before_ends tail far entry ≡ true) entries 0 place

-- so many entries are known to stand before those that lead as any entry from that place on
pub record IsUpto (entries : List Entry) (from first : ℕ) : Type 0 where
  pub upto : (k : ℕ) (d : Entry) → from ≤ k → k < length entries
      → let entry = slice_index_or entries k d in AreBefore entry.tail entry.far entries first

-- of each node, so many entries are known to stand before those that lead from it back to the tails of entries from
-- that place on
pub record AreMarks (entries : List Entry) (from : ℕ) (marks : List ℕ) : Type 0 where
  pub upto : (node k : ℕ) (d : Entry) → from ≤ k → k < length entries
      → AreBefore node (slice_index_or entries k d).tail entries (slice_index_or marks node 0)
