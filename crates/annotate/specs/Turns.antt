-- What a read, and the answers to what came, make of where a run stands.
use Rattle.std.specs.Prelude.{ℕ, ◌-◌, ◌≡◌, Bool, true, false, ◌&&◌, List, eqb, ltb, length, get_or, Result, Ok, Err, IfOk}
use Rattle.text_answers.specs.Stage.{Stage, opening, editing, ended, is_ended}
use Rattle.text_gather.specs.Steps.{after, Steps}
use Rattle.annotate.specs.declared.Next.{Next}
use Rattle.annotate.specs.declared.Next.TheVariants.{Read, Finish, Stop}
use Rattle.annotate.specs.declared.Failure.{Failure}
use Rattle.annotate.specs.declared.Failure.TheVariants.{Unread, Unwritten}
use Rattle.annotate.specs.declared.Unsent.{Unsent}
use Rattle.annotate.specs.declared.Unsent.TheVariants.{Closed, Failed}

-- the bytes that are read and written at once
abbrev pub piece_room : ℕ
piece_room = 65536

-- A step over a piece of input, whether or not what it put out was written. Where it was, the result is how much it took.
pub record Stepped (sent : Result ℕ Unsent) (x x' : Stage) (input out out' : List ℕ) : Type 0 where
  pub taken : ℕ
  pub used : ℕ
  pub steps : Steps x x' input taken used out out'
  pub told : IfOk sent (λ n. n ≡ taken)

-- what comes behind a piece whose answers were written, or weren't, where the run has ended, or hasn't
abbrev pub next_by : Result (Unit {0}) Unsent → Bool → Result Next Failure
next_by (Err u) over = Err (Unwritten u)
next_by (Ok x) true = Ok Stop
next_by (Ok x) false = Ok Read

abbrev pub is_read : Next → Bool
is_read Read = true
is_read Finish = false
is_read Stop = false

-- The run stands behind the bytes that came, unless a write failed. Nothing came at the input's end, or where the read failed.
abbrev pub Turned : Result Next Failure → Stage → Stage → List ℕ → Type 0
Turned (Ok Read) x x' came = (x' ≡ after x came) × (is_ended x' ≡ false)
Turned (Ok Finish) x x' came = x' ≡ x
Turned (Ok Stop) x x' came = (x' ≡ after x came) × (is_ended x' ≡ true)
Turned (Err Unread) x x' came = x' ≡ x
Turned (Err (Unwritten u)) x x' came = Unit

-- The exit status: 1 where answers are missing or the input can't be read; where nobody reads the answers any more, a shell's for a program that a broken
-- pipe has ended.
abbrev pub status_of : Result (Unit {0}) Failure → ℕ
status_of (Ok x) = 0
status_of (Err Unread) = 1
status_of (Err (Unwritten Failed)) = 1
status_of (Err (Unwritten Closed)) = 141

abbrev pub is_editing : Stage → Bool
is_editing (opening l) = false
is_editing (editing r l) = true
is_editing ended = false

-- the last byte is a carriage return
abbrev pub ends_in_return : List ℕ → Bool
ends_in_return l = ltb 0 (length l) && eqb (get_or l (length l - 1) 0) 13
