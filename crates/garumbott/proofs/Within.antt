-- What a host's numbers are answered with the longest edit of a call, exceptions held or read.
-- Assumes nothing.
use mathlib.Core.Path.{◌≡◌}
use mathlib.Core.List.{List}
use Prim.Native.Nat.{ℕ}
use Rattle.rules.specs.declared.Cds.{Cds}
use Rattle.rules.specs.declared.Exception.{Exception}
use Rattle.rules.specs.Translation.{exception_list}
use Rattle.rules.specs.Reference.{Reference}
use Rattle.rules.specs.Edit.{Asked}
use Rattle.rules.specs.Refusal.{limits, Room}
use Rattle.rules.specs.Check.{Proposal}
use Rattle.rules.specs.Pair.{PairRoom}
use Rattle.rules.specs.Panel.{panel_within}
use Rattle.rules.specs.Longest.{limits_with, with_longest, outcome_within, check_within, pair_within}
use Rattle.stored_fields.specs.Held.{exceptions_of}
use Rattle.within.specs.Edited.{edited_within}
use Rattle.garumbott.specs.Host.{exceptions_at}
use Rattle.garumbott.proofs.Excepted.{outcome-given, edited-given, panel-given, check-given, pair-given}

module _ (n : ℕ) (s : List ℕ) (c : Cds) (x : List ℕ) where
  abbrev with : List Exception → Reference
  with es = record { letters = s; cs = c.cs; ce = c.ce; table = c.table; exceptions = es; end = c.end }

  abbrev held : Reference
  held = with (exception_list (exceptions_of x))

  abbrev read : Reference
  read = with (exceptions_at x)

  pub edited-host : (a : Asked) (room : ℕ) → edited_within n held a room ≡ edited_within n read a room
  unfolding edited_within with_longest
  edited-host a room = rw (edited-given (limits_with n) s c a room x)

  pub outcome-host : (a : Asked) (room : Room) → outcome_within n held a room ≡ outcome_within n read a room
  unfolding outcome_within with_longest
  outcome-host a room = rw (outcome-given (limits_with n) s c a room x)

  pub panel-host : (a : Asked) (named : ℕ) (room : Room) → panel_within n held a named room ≡ panel_within n read a named room
  unfolding panel_within with_longest
  panel-host a named room = rw (panel-given (limits_with n) s c a named room x)

  pub check-host : (a : Asked) (q : Proposal) (room : Room) → check_within n held a q room ≡ check_within n read a q room
  unfolding check_within with_longest
  check-host a q room = rw (check-given (limits_with n) s c a q room x)

  pub pair-host : (k : ℕ) (a b : Asked) (room : PairRoom) → pair_within n k held a b room ≡ pair_within n k read a b room
  unfolding pair_within with_longest limits_with
  pair-host k a b room = rw (pair-given limits s c (limits_with n).most (limits_with k).most a b room x)
