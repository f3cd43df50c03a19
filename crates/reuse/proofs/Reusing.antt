-- Laws of residues that are read and go on, and of A in pieces. Assumes nothing.
use Rattle.std.specs.Prelude.{if◌then◌else◌}
use mathlib.Core.Path.{◌≡◌, refl, sym, ap, ◌∙◌}
use mathlib.Core.Bool.{Bool, true, false}
use mathlib.Core.List.{List, [], ◌∷◌, ◌++◌}
use Prim.Native.Nat.{ℕ, ◌+◌, ◌-◌, ◌≤◌, ◌<◌}
use native.Mathlib.Omega.{arith}
use lib.Dec.{eqb, ltb}
use lib.ListN.{length, take, drop, get_or, length-append, length-drop}
use lib.Seq.{length-take-le, drop_at}
use borrow.Author.Tests.{eqb-true, eqb-false, lt-ltb, le-ltb}
use borrow.Rule.Slice.PartMut.{put_mid}
use Rattle.rules.specs.declared.Exceptions.{Exceptions}
use Rattle.rules.specs.Bytes.{byte, over}
use Rattle.rules.specs.Translation.{before_stop, through_stop, folded_translated}
use Rattle.rules.specs.Altered.{part}
use Rattle.rules.proofs.Over.{length_over, read_back, fits_over, tail-is, copied_as, lent_on_by}
use Rattle.rules.proofs.Plain.{last-stops, last_goes}
use Rattle.reuse.specs.declared.pieces.Pieces.{Pieces}
use Rattle.reuse.specs.Reusing.{ends_in_stop, resumed, behind_of, Resumes, read_by, reused_by, Reuses}

-- the last residue read tells whether a stop was met
through_some : (x : ℕ) (xs : List ℕ) → 0 < length (through_stop (x ∷ xs))
unfolding through_stop
through_some x xs = by (eqb x (byte "*"))
  where
    by : (b : Bool) → 0 < length (if b then x ∷ [] else (x ∷ through_stop xs))
    by true = omega arith
    by false = omega arith

no_residue : ends_in_stop (through_stop []) ≡ ltb (before_stop []) (length {A = ℕ} [])
unfolding ends_in_stop through_stop before_stop
no_residue = refl

pub stop_known : (m : List ℕ) → ends_in_stop (through_stop m) ≡ ltb (before_stop m) (length m)
unfolding ends_in_stop
stop_known [] = no_residue
stop_known (x ∷ xs) =
    rw (lt-ltb 0 (length (through_stop (x ∷ xs))) (through_some x xs))
    (by (eqb (get_or (through_stop (x ∷ xs)) (length (through_stop (x ∷ xs)) - 1) 0) (byte "*")) refl)
  where
    by : (b : Bool) → eqb (get_or (through_stop (x ∷ xs)) (length (through_stop (x ∷ xs)) - 1) 0) (byte "*") ≡ b → b ≡ ltb (before_stop (x ∷ xs)) (length (x ∷ xs))
    by true e = sym (lt-ltb (before_stop (x ∷ xs)) (length (x ∷ xs)) (last-stops (x ∷ xs) (omega arith) (eqb-true _ (byte "*") e)))
    by false e = sym (le-ltb (before_stop (x ∷ xs)) (length (x ∷ xs)) (last_goes (x ∷ xs) (eqb-false _ (byte "*") e)))

-- what was read stands at the buffer's start, and the last residue is looked at
module _ (m rest out out₁ : List ℕ) (n : ℕ) (counted : n ≡ length (through_stop m)) (written : out₁ ≡ over (through_stop m) out) (room : length (resumed m rest) ≤ length out) where
  pub read_fits : n ≤ length out₁
  read_fits = fits_over (through_stop m) out out₁ n counted written

  module _ (b : Bool) (told : b ≡ ends_in_stop (take n out₁)) where
    known : b ≡ ltb (before_stop m) (length m)
    known = told ∙ ap ends_in_stop (read_back (through_stop m) out out₁ n counted written) ∙ stop_known m

    -- it is a stop
    module _ (stops : b ≡ true) where
      ended : resumed m rest ≡ through_stop m
      unfolding resumed
      ended = rw (sym known ∙ stops)

      pub ended-long : n ≡ length (resumed m rest)
      ended-long = counted ∙ ap length (sym ended)

      pub ended-behind : 0 ≡ behind_of m rest
      unfolding behind_of
      ended-behind = rw (sym known ∙ stops)

      pub ended-written : out₁ ≡ over (resumed m rest) out
      ended-written = written ∙ ap (λ (l : List ℕ). over l out) (sym ended)

    -- it is none
    module _ (goes : b ≡ false) where
      on : resumed m rest ≡ through_stop m ++ rest
      unfolding resumed
      on = rw (sym known ∙ goes)

      pub on-long : n + length rest ≡ length (resumed m rest)
      on-long = rw (on, length-append) (omega (arith, counted))

      pub on_fits : n + length rest ≤ length out
      on_fits = omega (arith, on-long, room)

      pub on_room : length rest ≤ length (take (length out₁ - n) (drop n out₁))
      on_room =
          let long : length out₁ ≡ length out = ap length written ∙ length_over (through_stop m) out (omega (arith, on_fits, counted)) in
          rw (tail-is n out₁, length-drop n out₁) (omega (arith, on_fits, long))

      pub on-behind : length rest ≡ behind_of m rest
      unfolding behind_of
      on-behind = rw (sym known ∙ goes)

      pub on-written : (d : List ℕ) → d ≡ take (length rest) rest ++ drop (length rest) (take (length out₁ - n) (drop n out₁))
          → put_mid n (length out₁ - n) out₁ d ≡ over (resumed m rest) out
      on-written d copied =
          rw on (lent_on_by (through_stop m) rest out out₁ d n counted (omega (arith, on_fits, counted)) written (copied_as rest rest _ d refl copied))

-- A in pieces
module _ (table : ℕ) (transcript protein altered : List ℕ) (q : Pieces) (plain : Bool) (none : Exceptions) (x : Reuses table plain transcript none protein q altered) where
  abbrev front : List ℕ
  front = take q.head protein

  abbrev following : List ℕ
  following = resumed (folded_translated table [] (read_by transcript q)) (drop q.back protein)

  front_long : length front ≡ q.head
  front_long = length-take-le q.head protein x.head

  whole_long : q.head + length following ≡ length (reused_by table transcript protein q)
  unfolding reused_by
  whole_long = rw length-append (omega (arith, front_long))

  pub front-room : length front ≤ length altered
  front-room = omega (arith, front_long, whole_long, x.room)

  whole-fits : q.head + length following ≤ length altered
  whole-fits = omega (arith, whole_long, x.room)

  -- the head is copied
  module _ (d : List ℕ) (copied : d ≡ take (length front) front ++ drop (length front) altered) where
    held : d ≡ over front altered
    held = copied_as front front altered d refl copied

    pub head-fits : q.head ≤ length d
    head-fits = fits_over front altered d q.head (sym front_long) held

    left : take (length d - q.head) (drop q.head d) ≡ drop q.head altered
    unfolding over
    left = tail-is q.head d ∙ rw held (drop_at front (drop (length front) altered) q.head front_long ∙ ap (λ (n : ℕ). drop n altered) front_long)

    pub resumes : Resumes table plain (take (q.end - q.start) (drop q.start transcript)) none (take (length protein - q.back) (drop q.back protein)) (take (length d - q.head) (drop q.head d))
    unfolding read_by part
    resumes =
        rw (tail-is q.back protein, left)
        (record {
          walks = x.walks;
          bare = x.bare;
          room = rw (length-drop q.head altered) (omega (arith, whole-fits));
          short = omega (arith, whole_long, x.short);
        })

    -- and the rest is written
    module _ (n : ℕ) (d' : List ℕ)
        (long : n ≡ length (resumed (folded_translated table [] (take (q.end - q.start) (drop q.start transcript))) (take (length protein - q.back) (drop q.back protein))))
        (wrote : d' ≡ over (resumed (folded_translated table [] (take (q.end - q.start) (drop q.start transcript))) (take (length protein - q.back) (drop q.back protein))) (take (length d - q.head) (drop q.head d)))
      where
        pub all-long : q.head + n ≡ length (reused_by table transcript protein q)
        unfolding read_by part
        all-long = omega (arith, whole_long, rw (tail-is q.back protein) at long)

        pub all-written : put_mid q.head (length d - q.head) d d' ≡ over (reused_by table transcript protein q) altered
        unfolding reused_by read_by part
        all-written = lent_on_by front following altered d d' q.head (sym front_long) front-room held (rw (tail-is q.back protein) at wrote)

        pub all-behind : (k : ℕ) → k ≡ behind_of (folded_translated table [] (take (q.end - q.start) (drop q.start transcript))) (take (length protein - q.back) (drop q.back protein))
            → k ≡ behind_of (folded_translated table [] (read_by transcript q)) (drop q.back protein)
        unfolding read_by part
        all-behind k e = rw (tail-is q.back protein) at e
