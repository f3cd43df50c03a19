-- `letters::complement::complement_of` meets its contract: a letter is a byte from 64 to 95, and the table has the complement of each. Assumes nothing.
use mathlib.Core.Path.{◌≡◌, ◌∙◌, ap}
use Prim.Native.Nat.{◌%◌}
use native.Mathlib.Omega.{arith}
use borrow.Author.Rules.{rules}
use Rattle.rules.specs.Complement.{complement}
use Rattle.letters.proofs.Partners.{at_place}
use Rattle.letters.proofs.complement.complement_of.Goals as goal

pub returns : goal.returns
returns c =
    let place : c.from.result ≡ c.args.b % 32 = search rules in
    rw place (c.requires.holds_complements.entry (c.args.b % 32) (omega arith) ∙ ap complement (at_place c.args.b c.requires.b_value))
