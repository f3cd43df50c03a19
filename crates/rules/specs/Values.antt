-- This paper's number and values for each case of an answer, and the numbers of kinds and classes, as a host reads them.
use Rattle.std.specs.Prelude.{ℕ, zero, suc, ◌-◌, Bool, true, false}
use Rattle.rules.specs.declared.Kind.{Kind}
use Rattle.rules.specs.declared.Kind.TheVariants as kind
use Rattle.rules.specs.declared.Class.{Class}
use Rattle.rules.specs.declared.Class.TheVariants.{StartLost, Extension, StopGained, Frameshift, Substitution, Deletion, Duplication, Insertion, Delins}
use Rattle.rules.specs.declared.Record.{Record}
use Rattle.rules.specs.declared.Record.TheVariants.{Unknown, NoProtein, Silent, Changed}
use Rattle.rules.specs.declared.Report.{Report}
use Rattle.rules.specs.Bytes.{Result, given, refused}

-- the kind of a number, as `kind_number` numbers them
abbrev pub kind_at : ℕ → Kind
kind_at zero = kind.Other
kind_at (suc zero) = kind.Substitution
kind_at (suc (suc zero)) = kind.Deletion
kind_at (suc (suc (suc zero))) = kind.Delins
kind_at (suc (suc (suc (suc zero)))) = kind.Insertion
kind_at (suc (suc (suc (suc (suc zero))))) = kind.Duplication
kind_at (suc (suc (suc (suc (suc (suc zero)))))) = kind.Inversion
kind_at (suc (suc (suc (suc (suc (suc (suc zero))))))) = kind.Identity
kind_at (suc (suc (suc (suc (suc (suc (suc (suc n)))))))) = kind.Other

-- classes in the order of their tests
abbrev pub class_number : Class → ℕ
class_number StartLost = 1
class_number Extension = 2
class_number StopGained = 3
class_number Frameshift = 4
class_number Substitution = 5
class_number Deletion = 6
class_number Duplication = 7
class_number Insertion = 8
class_number Delins = 9

-- what a record tells: parts by place, from 0, and length; 0 where a case has no such value
pub record Told : Type 0 where
  pub answer : ℕ
  pub class : ℕ
  pub number : ℕ
  pub deleted_at : ℕ
  pub deleted_len : ℕ
  pub inserted_at : ℕ
  pub inserted_len : ℕ
  pub first : ℕ

-- an answer's number alone
abbrev pub alone : ℕ → Told
alone n =
    record { answer = n; class = 0; number = 0; deleted_at = 0; deleted_len = 0; inserted_at = 0; inserted_len = 0; first = 0 }

-- 1 unknown, 2 no protein, 3 silent (both parts are the residue at its number), 4 changed
unfoldable pub told_by : Record → Told
told_by Unknown = alone 1
told_by NoProtein = alone 2
told_by (Silent n x) =
    record { answer = 3; class = 0; number = n; deleted_at = n - 1; deleted_len = 1; inserted_at = n - 1; inserted_len = 1; first = 0 }
told_by (Changed c) =
    record {
      answer = 4;
      class = class_number c.class;
      number = c.number;
      deleted_at = c.deleted.at;
      deleted_len = c.deleted.len;
      inserted_at = c.inserted.at;
      inserted_len = c.inserted.len;
      first = c.first;
    }

abbrev pub flag_number : Bool → ℕ
flag_number false = 0
flag_number true = 1

-- a refusal's number or 0, the flag, the bytes written to each buffer, what the record tells, and the codons looked up
pub record Values : Type 0 where
  pub refusal : ℕ
  pub frameshift : ℕ
  pub transcript : ℕ
  pub reference : ℕ
  pub altered : ℕ
  pub told : Told
  pub codons : ℕ

-- 0 refused
unfoldable pub values_of : Result Report → Values
values_of (refused n) = record { refusal = n; frameshift = 0; transcript = 0; reference = 0; altered = 0; told = alone 0; codons = 0 }
values_of (given p) =
    record {
      refusal = 0;
      frameshift = flag_number p.frameshift;
      transcript = p.transcript;
      reference = p.reference;
      altered = p.altered;
      told = told_by p.found;
      codons = p.codons;
    }
