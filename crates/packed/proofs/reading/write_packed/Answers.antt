-- `packed::reading::write_packed` meets its contract. Assumes nothing.
use mathlib.Core.Path.{◌≡◌, ap, ◌∙◌}
use mathlib.Core.List.{List, ◌++◌}
use Prim.Native.Nat.{ℕ, ◌-◌, ◌/◌}
use native.Mathlib.Omega.{arith}
use lib.ListN.{length, take, drop}
use Rattle.rules.specs.Altered.{part}
use Rattle.rules.specs.Translation.{exception_list, residue_count}
use Rattle.rules.specs.Packed.{letters_in}
use Rattle.excepted.specs.Exceptions.{excepted_from}
use Rattle.excepted.proofs.Putting.{excepted-over}
use Rattle.halves.proofs.Halves.{length_of_part}
use Rattle.packed.proofs.reading.write_packed.Goals as goal

pub put_exceptions-requires : goal.put_exceptions-requires
unfolding residue_count
put_exceptions-requires c = record { count_bound = c.requires.table_bound.1; whole_in_bounds = omega (arith, c.write_packed_letters.auto.out, c.requires.first_in_bounds) }

pub returns : goal.returns
returns c = let a = c.args in
    let s = part a.first a.end (letters_in a.packed.now) in
    let long : length s ≡ a.end - a.first = length_of_part a.first a.end a.packed.now c.requires.first_le_end.1 in
    let put = rw (← long) at c.put_exceptions.ensures in
    put
    ∙ ap (λ (l : List ℕ). excepted_from (exception_list a.e) 1 (take (length s / 3) l) ++ drop (length s / 3) l) c.write_packed_letters.ensures
    ∙ excepted-over a.table (exception_list a.e) s a.out.now
