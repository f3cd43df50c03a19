-- What is written of settings that fit their store.
use Rattle.std.specs.Prelude.{ℕ, ◌<◌, List, [], ◌∷◌, ◌++◌}
use Rattle.rules.specs.declared.Settings.{Settings}
use Rattle.rules.specs.Storing.{field_bytes}

-- the fields that both versions have
unfoldable pub first_four : Settings → List ℕ
first_four x =
    (field_bytes (record { tag = 1; content = x.version ∷ [] }) ++ field_bytes (record { tag = 2; content = x.table ∷ [] }))
    ++ (field_bytes (record { tag = 3; content = x.profile ∷ [] }) ++ field_bytes (record { tag = 4; content = x.width ∷ [] }))

-- each content fits its bytes
pub record Writes (x : Settings) : Type 0 where
  pub version : x.version < 256
  pub table : x.table < 256
  pub profile : x.profile < 256
  pub width : x.width < 256
  pub longest : x.longest < 65536
