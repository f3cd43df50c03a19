-- The number of each refusal of a comparison, and what it tells: its number, or how many bytes it wrote.
use Rattle.std.specs.Prelude.{ℕ, ◌+◌, Ok, Err}
use Rattle.std.specs.Prelude.{Result as Returned}
use Rattle.rules.specs.Bytes.{Result, given, refused}
use Rattle.rules.specs.Refusals.{refusal_number}
use Rattle.editions.specs.declared.Uncompared.{Uncompared}
use Rattle.editions.specs.declared.Uncompared.TheVariants.{First, Second}

abbrev pub uncompared_number : Uncompared → ℕ
uncompared_number (First r) = refusal_number r
uncompared_number (Second r) = 100 + refusal_number r

abbrev pub compared_told : {A : Type 0} → Returned A Uncompared → Result A
compared_told (Ok x) = given x
compared_told (Err u) = refused (uncompared_number u)
