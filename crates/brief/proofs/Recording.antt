-- Laws of a plan's record over the parts of A. Assumes nothing.
use Rattle.std.specs.Prelude.{if◌then◌else◌}
use mathlib.Core.Path.{◌≡◌, refl, sym, ap, ◌∙◌}
use mathlib.Core.Bool.{Bool, true, false, ◌&&◌}
use mathlib.Core.List.{List, [], ◌++◌, append-nil}
use Prim.Native.Nat.{ℕ, ◌+◌, ◌-◌, ◌*◌, ◌/◌, ◌≤◌}
use native.Mathlib.Omega.{arith}
use lib.Dec.{ltb}
use lib.ListN.{length, take, drop, length-append, length-drop, drop_of_length-le}
use lib.Seq.{length-take-le}
use Rattle.rules.specs.declared.Cds.{Cds}
use Rattle.rules.specs.declared.Exceptions.{Exceptions}
use Rattle.rules.specs.Bytes.{all, over}
use Rattle.rules.specs.Translation.{residue_count, before_stop, through_stop, folded_translated}
use Rattle.rules.specs.Reference.{Reference, size}
use Rattle.rules.specs.Record.{record_from}
use Rattle.rules.specs.Altered.{altered_transcript}
use Rattle.rules.specs.Views.{asked, reference_of}
use Rattle.rules.proofs.Over.{length_over, fits_over, read_back}
use Rattle.rules.proofs.Parts.{length_part}
use Rattle.rules.proofs.Altered.{altered_length_lem}
use Rattle.letters.specs.Sets.{is_base}
use Rattle.reference.specs.declared.Known.{Known}
use Rattle.reference.specs.Bounds.{Bounded}
use Rattle.edits.specs.declared.plans.Plan.{Plan}
use Rattle.edits.specs.Plans.{plan_of}
use Rattle.transcript.specs.Carrying.{carried_by, Fits}
use Rattle.transcript.proofs.Transcripts.{length-carried_by, carried_by_is}
use Rattle.record.specs.Joined.{joined, Joins}
use Rattle.reuse.specs.declared.pieces.Pieces.{Pieces}
use Rattle.reuse.specs.Reusing.{ends_in_stop, resumed, behind_of, keeps_all_by, is_level_by, pieces_by, Placed, read_by, reused_by, Reuses}
use Rattle.reuse.proofs.Reusing.{stop_known}
use Rattle.altseq.specs.Carried.{protein_by, report_by, Makes, Carries}
use Rattle.altseq.proofs.Carrying.{plan-fits, makes}
use Rattle.altseq.proofs.Making as making
use Rattle.brief.specs.Brief.{back_behind, Touches, Spans}

joined-size : (head back : ℕ) (R M : List ℕ) → head ≤ length R → length (joined head back R M) ≡ head + length M + (length R - back)
unfolding joined
joined-size head back R M h = simp (length-append, length-drop) (omega (arith, length-take-le head R h))

-- what is read begins before the edit and ends behind what goes in
around_level : (first from put : ℕ) → first ≤ from → from ≤ put → (first + (from - first) / 3 * 3 ≤ from) × (put ≤ first + (put - first + 2) / 3 * 3)
around_level first from put h k = (omega arith, omega arith)

pub read_around : (c : Cds) (p : Plan) (residues : ℕ) → Placed c p → p.from + p.kept ≤ p.length → ((pieces_by c p residues).start ≡ (pieces_by c p residues).end → ⊥)
    → ((pieces_by c p residues).start ≤ p.from) × (p.from + p.kept ≤ (pieces_by c p residues).end)
unfolding pieces_by
read_around c p residues x long some = by (keeps_all_by c p) refl (is_level_by c p) refl
  where
    around : (c.cs - 1 + (p.from - (c.cs - 1)) / 3 * 3 ≤ p.from) × (p.from + p.kept ≤ c.cs - 1 + (p.from + p.kept - (c.cs - 1) + 2) / 3 * 3)
    around = around_level (c.cs - 1) p.from (p.from + p.kept) x.front (omega arith)

    by : (b : Bool) → keeps_all_by c p ≡ b → (l : Bool) → is_level_by c p ≡ l → ((pieces_by c p residues).start ≤ p.from) × (p.from + p.kept ≤ (pieces_by c p residues).end)
    by true e l f = absurd (some (rw e refl))
    by false e true f = rw (e, f) around
    by false e false f = rw (e, f) (around.0, long)

module _ (s : List ℕ) (k : Known) (e : Exceptions) (protein : List ℕ) (p : Plan) (new tx alt : List ℕ) (x : Carries s k e protein p new tx alt) (none : e.count ≡ 0) (q : Pieces) (is : q ≡ pieces_by k.cds p (length protein)) where
  abbrev T : List ℕ
  T = carried_by p s new

  abbrev r : Reference
  r = reference_of s k.cds e

  made : Makes s k e protein p new T alt
  made = rw (read_back T tx (over T tx) (length T) refl refl) at (makes s k e protein p new tx alt x (length T) (over T tx) refl refl)

  pub bounded : Bounded k.cds
  bounded = making.bounded s k e protein p new T alt made

  pub placed : Placed k.cds p
  placed = making.placed s k e protein p new T alt made

  fits : Fits p s new (length tx)
  fits = plan-fits s k e protein p new tx alt x

  long : length T ≡ p.from + (p.kept + (length s - p.to))
  long = length-carried_by p s new (length tx) fits

  reuses : Reuses k.cds.table (k.plain && all is_base new) T e protein q alt
  reuses = making.reuses s k e protein p new T alt made none q is (all is_base new) refl

  length-is : p.length ≡ length T
  unfolding plan_of
  length-is =
      ap (λ (p : Plan). p.length) x.is
      ∙ sym (ap length carried-is ∙ (altered_length_lem x.limits r (asked x.edit new) x.allowed).is)
    where
      carried-is : carried_by p s new ≡ altered_transcript r (asked x.edit new)
      carried-is = rw x.is (carried_by_is r (asked x.edit new))

  read-long : length (read_by T q) ≡ q.end - q.start
  unfolding read_by
  read-long = length_part q.start q.end T reuses.ends

  read-room : residue_count (q.end - q.start) ≤ length alt
  read-room =
      let room : residue_count (q.end - q.start) ≤ length (drop q.head alt) = rw read-long at reuses.walks.room in
      omega (arith, room, length-drop q.head alt)

  touches : (q.start ≡ q.end → ⊥) → Touches p s new q.start q.end
  unfolding size
  touches some =
      let around : (q.start ≤ p.from) × (p.from + p.kept ≤ q.end) = rw is (read_around k.cds p (length protein) placed (omega (arith, length-is, long)) (λ z. some (rw is z))) in
      record {
        source = fits.source;
        before = around.0;
        rising = fits.rising;
        behind = around.1;
        inside = omega (arith, around.1, reuses.ends, long, fits.ends);
        short = omega (arith, reuses.ends, long, made.codes.sound.short, placed.put_small, fits.rising, fits.ends);
      }

  pub spans : Spans s k e p new q tx alt
  spans =
      record {
        touches = touches;
        ends = reuses.ends;
        room = omega (arith, reuses.ends, made.codes.front, long, fits.written);
        room_out = read-room;
        bare = none;
        code = made.codes.sound.table;
        letters-are = made.codes.letters;
        plain = made.codes.plain;
      }

  -- what was read
  module _ (n : ℕ) (alt' : List ℕ) (counted : n ≡ length (through_stop (folded_translated k.cds.table [] (read_by T q)))) (written : alt' ≡ over (through_stop (folded_translated k.cds.table [] (read_by T q))) alt) where
    abbrev X : List ℕ
    X = folded_translated k.cds.table [] (read_by T q)

    pub read_fits : n ≤ length alt'
    read_fits = fits_over (through_stop X) alt alt' n counted written

    read-back-is : take n alt' ≡ through_stop X
    read-back-is = read_back (through_stop X) alt alt' n counted written

    module _ (back : ℕ) (told : back ≡ back_behind (take n alt') q.back (length protein)) where
      abbrev behind : ℕ
      behind = behind_of X (drop q.back protein)

      back_is : back ≡ length protein - behind
      unfolding back_behind behind_of
      back_is = rw read-back-is at told ∙ by (ends_in_stop (through_stop X)) (stop_known X)
        where
          by : (b : Bool) → b ≡ ltb (before_stop X) (length X) → (if b then length protein else q.back) ≡ length protein - (if ltb (before_stop X) (length X) then 0 else length (drop q.back protein))
          by true f = rw (sym f) (omega arith)
          by false f = rw (sym f, length-drop q.back protein) (omega (arith, reuses.back))

      joined_is : joined q.head back protein (take n alt') ≡ protein_by r p new
      unfolding joined back_behind resumed reused_by
      joined_is = rw (told, read-back-is) (by (ends_in_stop (through_stop X)) (stop_known X) ∙ making.reused-is s k e protein p new T alt made none q is)
        where
          by : (b : Bool) → b ≡ ltb (before_stop X) (length X)
              → take q.head protein ++ (through_stop X ++ drop (if b then length protein else q.back) protein) ≡ take q.head protein ++ (if ltb (before_stop X) (length X) then through_stop X else (through_stop X ++ drop q.back protein))
          by true f = rw (sym f, drop_of_length-le protein {i = length protein} (omega arith), append-nil (through_stop X))
          by false f = rw (sym f)

      shared : q.head + behind ≤ length protein
      shared = (making.shares-some s k e protein p new T alt made none q is behind refl).in-reference

      long-is : length (joined q.head back protein (take n alt')) ≡ length (reused_by k.cds.table T protein q)
      long-is = ap length (joined_is ∙ sym (making.reused-is s k e protein p new T alt made none q is))

      pub joins : Joins q.head back protein (take n alt')
      joins =
          record {
            follows = omega (arith, back_is, shared);
            within = omega (arith, back_is);
            short = omega (arith, long-joined, long-is, reuses.short);
          }
        where
          long-joined : length (joined q.head back protein (take n alt')) ≡ q.head + length (take n alt') + (length protein - back)
          long-joined = joined-size q.head back protein (take n alt') reuses.head

      small : length (through_stop X) ≤ length alt
      small = omega (arith, joined-size q.head back protein (take n alt') reuses.head, ap length read-back-is, long-is, reuses.room)

      pub room : length (joined q.head back protein (take n alt')) ≤ length alt'
      room = rw (long-is, ap length written ∙ length_over (through_stop X) alt small) reuses.room

      -- the record that the report has
      pub found-is : record_from p.shift p.number protein (joined q.head back protein (take n alt')) ≡ (report_by r p new).found
      unfolding report_by
      found-is = rw (joined_is, x.known.read)

      pub altered-is : joined q.head back protein (take n alt') ≡ protein_by r p new
      altered-is = joined_is
