-- Laws of an edit line's answer: what the whole answer to an edit prints as, and which lines are in the form.
-- Assumes nothing.
use Rattle.std.specs.Prelude.{None, Some}
use Rattle.std.specs.Prelude.{Option as Returned}
use mathlib.Core.Path.{◌≡◌, refl, sym, ap, ◌∙◌}
use mathlib.Core.Bool.{true, false}
use mathlib.Core.List.{List, [], ◌∷◌, ◌++◌}
use mathlib.Core.Option.{some}
use Prim.Native.Nat.{ℕ, zero, suc, ◌≤◌, ◌<◌}
use native.Mathlib.Omega.{arith}
use lib.ListN.{length, drop}
use Rattle.rules.specs.declared.Cds.{Cds}
use Rattle.rules.specs.declared.Edit.{Edit}
use Rattle.rules.specs.declared.Exceptions.{Exceptions}
use Rattle.rules.specs.declared.Record.{Record}
use Rattle.rules.specs.declared.Record.TheVariants.{Unknown}
use Rattle.rules.specs.declared.Record.TheVariants as found
use Rattle.rules.specs.declared.Report.{Report}
use Rattle.rules.specs.Bytes.{Result, given, refused, first_number, unless, over}
use Rattle.rules.specs.Translation.{no_exceptions, exception_list, residue_count}
use Rattle.rules.specs.Reference.{Reference, size, cds_size}
use Rattle.rules.specs.Edit.{Asked, edit_tests}
use Rattle.rules.specs.Protein.{altered_protein}
use Rattle.rules.specs.Record.{record_of}
use Rattle.rules.specs.Refusal.{refusal, record_unless}
use Rattle.rules.specs.Answer.{Outcome, full_report, writes_all}
use Rattle.rules.specs.Line.{text_limits, edit_line, fits_line}
use Rattle.rules.specs.Run.{refused_line, change_line, record_line, answer_line, edit_answer, edit_line_answer, line_feed, unlines}
use Rattle.rules.specs.Views.{bare, asked, reference_of}
use Rattle.rules.proofs.Over.{fits_over, read_back}
use Rattle.rules.proofs.Records.{record-unknown}
use Rattle.rules.proofs.Refusing.{reference-accepted}
use Rattle.rules.proofs.Altered.{altered-fits}
use Rattle.rules.proofs.Reference.{accepted, protein_read}
use Rattle.reference.specs.declared.Known.{Known}
use Rattle.reference.specs.Known.{Knows}
use Rattle.edits.specs.declared.plans.Plan.{Plan}
use Rattle.edits.specs.Plans.{plan_of}
use Rattle.edits.specs.Decisions.{decision_of}
use Rattle.edits.proofs.Deciding.{decided-refusal, decided-unknown}
use Rattle.record.specs.Joined.{change_from, seen_from, inserted_of}
use Rattle.altseq.specs.Carried.{protein_by, report_by, Carries}
use Rattle.altseq.specs.Decided.{decided_outcome}
use Rattle.altseq.proofs.Answering.{goes-all, unknown-is, allowed-is, none-refused, not-unknown, plan-is}
use Rattle.text_forms.specs.declared.line.EditLine.{EditLine}
use Rattle.text_forms.specs.Views.{edit_line_in}
use Rattle.text_prints.proofs.Sizes.{record_size}
use Rattle.text_answers.specs.Rooms.{letters_room, protein_room, transcript_room, Ample}
use Rattle.text_answers.specs.Lines.{plan_line, Line}

-- a line with its end
pub one_line : (l k : List ℕ) → l ≡ k → unlines (l ∷ []) ≡ k ++ (line_feed ∷ [])
unfolding unlines
one_line l k is = rw is

-- a line that is written over a buffer
pub line_of : (l k text old : List ℕ) (n : ℕ) → l ≡ k → n ≡ length (k ++ (line_feed ∷ [])) → text ≡ over (k ++ (line_feed ∷ [])) old → Line n text (unlines (l ∷ []))
line_of l k text old n is e q =
    record {
      fits = fits_over (k ++ (line_feed ∷ [])) old text n e q;
      holds = rw (one_line l k is) (read_back (k ++ (line_feed ∷ [])) old text n e q);
    }

-- a line, known as another
pub line_as : (n : ℕ) (text l k : List ℕ) → l ≡ k → Line n text (unlines (k ∷ [])) → Line n text (unlines (l ∷ []))
line_as n text l k is h = rw is h

-- R of a checked reference is some, and short
pub protein-short : (s : List ℕ) (k : Known) (protein : List ℕ) → Knows text_limits s k no_exceptions protein → (1 ≤ length protein) × (length protein ≤ protein_room)
unfolding residue_count cds_size size
protein-short s k protein known =
    let a = accepted letters_room (reference_of s k.cds no_exceptions) known.accepted in
    let r = protein_read letters_room (reference_of s k.cds no_exceptions) known.accepted in
    let read = ap length known.read in
    (omega (arith, r.two), omega (arith, r.counted, a.fits, a.bounds.first, a.bounds.inside))

-- an edit of a checked reference, as it was decided
module _ (s : List ℕ) (k : Known) (protein : List ℕ) (known : Knows text_limits s k no_exceptions protein) (edit : Edit) (new : List ℕ) where
  abbrev r : Reference
  r = reference_of s k.cds no_exceptions

  abbrev a : Asked
  a = asked edit new

  abbrev decided : Result (Returned Plan)
  decided = decision_of text_limits.most k.several (bare s k.cds) a

  allowed : refusal text_limits r a ≡ first_number (edit_tests text_limits.most (bare s k.cds) a)
  allowed = allowed-is text_limits s k no_exceptions protein known a

  pub asked-refused : (n : ℕ) → refused n ≡ decided → edit_answer (bare s k.cds) (some a) ≡ refused_line n
  unfolding exception_list edit_answer answer_line record_unless unless
  asked-refused n h =
      let both = decided-refusal text_limits.most k.several (bare s k.cds) a n (sym h) in
      by n (allowed ∙ both.0) both.1
    where
      by : (n : ℕ) → refusal text_limits r a ≡ n → 1 ≤ n → edit_answer (bare s k.cds) (some a) ≡ refused_line n
      by zero z h = absurd (omega arith)
      by (suc n) z h = rw z

  pub asked-unknown : given None ≡ decided → edit_answer (bare s k.cds) (some a) ≡ record_line Unknown protein []
  unfolding exception_list edit_answer answer_line record_unless unless record_line
  asked-unknown h =
      let both = decided-unknown text_limits.most k.several (bare s k.cds) a (sym h) in
      let none : refusal text_limits r a ≡ 0 = allowed ∙ both.0 in
      let unknown : record_of r a ≡ Unknown = record-unknown r a (unknown-is text_limits s k no_exceptions protein known a ∙ both.1) in
      rw (none, unknown)

  -- the edit goes
  module _ (p : Plan) (h : given (Some p) ≡ decided) where
    goes : decided ≡ given (Some p)
    goes = sym h

    none : refusal text_limits r a ≡ 0
    none = none-refused text_limits s k no_exceptions protein known a p goes

    plan : p ≡ plan_of r a
    plan = plan-is text_limits s k no_exceptions protein known a p goes

    long : p.length ≤ transcript_room
    unfolding plan_of
    long = omega (arith, ap (λ (p : Plan). p.length) plan, altered-fits text_limits r a none)

    -- the program's buffers hold the longest answers, so 11 and 12 never occur
    pub asked-carries : (t q : List ℕ) → Ample t q → Carries s k no_exceptions protein p new t q
    unfolding residue_count
    asked-carries t q ample =
        let x = reference-accepted text_limits r a none in
        record {
          limits = text_limits;
          known = known;
          edit = edit;
          allowed = none;
          is = plan;
          changes = not-unknown text_limits s k no_exceptions protein known a p goes;
          for-transcript = omega (arith, long, ample.for-transcript);
          for-altered = omega (arith, long, x.bounds.first, ample.for-altered);
        }

    pub asked-goes : edit_answer (bare s k.cds) (some a) ≡ plan_line r protein p new
    unfolding exception_list edit_answer answer_line record_unless unless decided_outcome writes_all full_report
    asked-goes =
        let all = goes-all r a p plan (not-unknown text_limits s k no_exceptions protein known a p goes) text_limits none in
        let said : given (report_by r p new) ≡ given (full_report r a) = ap (λ (o : Outcome). o.answer) all in
        let same : report_by r p new ≡ full_report r a = cc in
        let found : (report_by r p new).found ≡ record_of r a = ap (λ (u : Report). u.found) same in
        let made : protein_by r p new ≡ altered_protein r a = ap (λ (o : Outcome). o.altered) all in
        rw (found, made, known.read, none)

-- the line has room where the transcript had
pub plan_room : (s : List ℕ) (k : Known) (protein : List ℕ) → Knows text_limits s k no_exceptions protein → (t q q' : List ℕ) → Ample t q → length q' ≡ length q → (x : Record) (n : ℕ) → n ≡ length t
    → length (record_line x protein q') < n
plan_room s k protein known t q q' ample same x n is =
    let short = protein-short s k protein known in
    omega (arith, record_size x protein q' short.0, short.1, ample.for-altered, ample.for-transcript)

pub carries_none : (x₀ : Exceptions) → x₀ ≡ no_exceptions → (s : List ℕ) (k : Known) (protein : List ℕ) (p : Plan) (new t q : List ℕ) → Carries s k no_exceptions protein p new t q → Carries s k x₀ protein p new t q
carries_none x₀ are s k protein p new t q h = rw are h

-- a record whose inserted residues are counted elsewhere prints the same line
line_seen : (x : Record) (head : ℕ) (R A W : List ℕ) → inserted_of (seen_from head x) W ≡ inserted_of x A → record_line x R A ≡ record_line (seen_from head x) R W
unfolding record_line change_line seen_from change_from inserted_of
line_seen found.Unknown head R A W e = refl
line_seen found.NoProtein head R A W e = refl
line_seen (found.Silent n y) head R A W e = refl
line_seen (found.Changed c) head R A W e = rw e

-- the record of a plan, its inserted residues counted from `head` on
pub plan_line_lem : (x₀ : Exceptions) → x₀ ≡ no_exceptions → (s : List ℕ) (c : Cds) (p : Plan) (new : List ℕ) (found : Record) (head : ℕ) (q' : List ℕ) → found ≡ seen_from head (report_by (reference_of s c x₀) p new).found
    → inserted_of found q' ≡ inserted_of (report_by (reference_of s c x₀) p new).found (protein_by (reference_of s c x₀) p new)
    → (protein : List ℕ) → plan_line (reference_of s c no_exceptions) protein p new ≡ record_line found protein q'
plan_line_lem x₀ are s c p new found head q' says holds protein =
    rw (← are) (line_seen (report_by (reference_of s c x₀) p new).found head protein (protein_by (reference_of s c x₀) p new) q' (rw says at holds) ∙ ap (λ (x : Record). record_line x protein q') (sym says))

-- the forms of an edit line
module _ (r : Reference) (line : List ℕ) where
  pub edit-long : fits_line line ≡ false → edit_line_answer r line ≡ refused_line 30
  unfolding edit_line_answer edit_answer
  edit-long h = rw h

  module _ (h : fits_line line ≡ true) (x : Returned EditLine) (is : edit_line_in line x ≡ edit_line line) where
    pub edit-formless : x ≡ None → edit_line_answer r line ≡ refused_line 30
    unfolding edit_line_answer edit_answer
    edit-formless q = rw (h, ← is, q)

    pub edit-asked : (e : EditLine) → x ≡ Some e → edit_line_answer r line ≡ edit_answer r (some (asked e.edit (drop e.at line)))
    unfolding edit_line_answer
    edit-asked e q = rw (h, ← is, q)
