-- How long the lines are at most, whatever they say.
-- Assumes nothing.
use Rattle.std.specs.Prelude.{if◌then◌else◌}
use mathlib.Core.Bool.{Bool, true, false}
use mathlib.Core.List.{List, [], ◌∷◌, ◌++◌}
use Prim.Native.Nat.{ℕ, ◌+◌, ◌≤◌}
use native.Mathlib.Omega.{arith}
use lib.Dec.{eqb}
use lib.ListN.{length, length-append, length-take, length-drop}
use Rattle.rules.specs.declared.Class.{Class}
use Rattle.rules.specs.declared.Class.TheVariants.{StartLost, Extension, StopGained, Frameshift, Substitution, Deletion, Duplication, Insertion, Delins}
use Rattle.rules.specs.declared.Part.{Part}
use Rattle.rules.specs.declared.Change.{Change}
use Rattle.rules.specs.declared.Record.{Record}
use Rattle.rules.specs.declared.Record.TheVariants.{Unknown, NoProtein, Silent, Changed}
use Rattle.rules.specs.Bytes.{bytes}
use Rattle.rules.specs.Record.{part_of}
use Rattle.rules.specs.Run.{decimal, shown, class_name, refused_line, shown_first, change_line, record_line}
use Rattle.text_prints.proofs.Digits.{few_decimals}

pub refused_size : (n : ℕ) → length (refused_line n) ≤ 14
unfolding refused_line
refused_size n = omega (arith, few_decimals n)

class_size : (c : Class) → length (class_name c) ≤ 12
class_size StartLost = omega arith
class_size Extension = omega arith
class_size StopGained = omega arith
class_size Frameshift = omega arith
class_size Substitution = omega arith
class_size Deletion = omega arith
class_size Duplication = omega arith
class_size Insertion = omega arith
class_size Delins = omega arith

shown-size : (s : List ℕ) → length (shown s) ≤ length s + 1
unfolding shown
shown-size [] = omega arith
shown-size (x ∷ s) = omega arith

-- a dash takes no more than what it is a part of
shown-within : (s : List ℕ) (n : ℕ) → 1 ≤ n → length s ≤ n → length (shown s) ≤ n
unfolding shown
shown-within [] n h k = omega arith
shown-within (x ∷ s) n h k = k

part-size : (p : Part) (s : List ℕ) → length (part_of p s) ≤ length s
unfolding part_of
part-size p s = simp (length-take, length-drop) (omega arith)

first_size : (n : ℕ) → length (shown_first n) ≤ 7
unfolding shown_first
first_size n = by (eqb n 0)
  where
    by : (t : Bool) → length (if t then [] else bytes " " ++ decimal n) ≤ 7
    by true = omega arith
    by false = omega (arith, few_decimals n)

change_size : (c : Change) (R A : List ℕ) → 1 ≤ length R → length (change_line c R A) ≤ length R + length A + 29
unfolding change_line
change_size c R A some =
    let d = shown (part_of c.deleted R) in
    let i = shown (part_of c.inserted A) in
    simp length-append (omega (
      arith,
      class_size c.class,
      few_decimals c.number,
      shown-within (part_of c.deleted R) (length R) some (part-size c.deleted R),
      shown-size (part_of c.inserted A),
      part-size c.inserted A,
      first_size c.first,
    ))

pub record_size : (x : Record) (R A : List ℕ) → 1 ≤ length R → length (record_line x R A) ≤ length R + length A + 29
unfolding record_line
record_size Unknown R A some = omega arith
record_size NoProtein R A some = omega arith
record_size (Silent n x) R A some = simp length-append (omega (arith, few_decimals n))
record_size (Changed c) R A some = change_size c R A some
