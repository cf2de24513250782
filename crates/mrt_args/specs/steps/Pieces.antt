-- A certificate file that is fed to a reader in pieces.
use Rattle.std.specs.Prelude.{◌≡◌, ◌+◌, ◌++◌, ℕ, List, [], Option, Ok, length}
use Rattle.cert_format.specs.Stream.{Progress, fed}
use Rattle.mrt_io.specs.Left.{IsTakenOff}

-- so many of the bytes that were left were fed to a reader
pub record IsFedOn (before : Option (List ℕ)) (old : Progress) (now : Option (List ℕ)) (new : Progress) (count : ℕ)
    : Type 0 where
  pub bytes : List ℕ
  pub counted : length bytes ≡ count
  pub taken : IsTakenOff before bytes now
  pub fed_on : (seen : List ℕ) → old ≡ fed (Ok []) seen → new ≡ fed (Ok []) (seen ++ bytes)

-- these bytes of a file were left and were fed to a reader; with so many more it is over its limit
pub record IsFedSoFar (limit : ℕ) (before : Option (List ℕ)) (now : Option (List ℕ)) (reader : Progress) (room : ℕ)
    : Type 0 where
  pub seen : List ℕ
  pub counted : length seen + room ≡ limit + 1
  pub taken : IsTakenOff before seen now
  pub fed_all : reader ≡ fed (Ok []) seen
