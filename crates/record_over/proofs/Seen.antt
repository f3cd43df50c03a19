-- Laws of the record of R and an A of three parts: the residues that stand in the buffer, the change by them, and the three records.
-- Assumes nothing.
use mathlib.Core.Path.{◌≡◌, refl, sym, ap, ap₂, ◌∙◌}
use mathlib.Core.Bool.{Bool, true, false, ◌&&◌}
use mathlib.Core.List.{List, ◌++◌}
use Prim.Native.Nat.{ℕ, ◌+◌, ◌-◌, ◌≤◌, ◌<◌}
use native.Mathlib.Omega.{arith}
use lib.Dec.{eqb, ltb}
use lib.ListN.{length, get_or, take, drop, length-append, length-drop, take-append-drop}
use lib.Seq.{length-take-le, take-take, take-append-add, take-append-le}
use borrow.Author.Tests.{lt-ltb, le-ltb}
use borrow.Rule.Slice.PartMut.{put_mid}
use Rattle.rules.specs.declared.Class.{Class}
use Rattle.rules.specs.declared.Change.{Change}
use Rattle.rules.specs.declared.Record.TheVariants.{NoProtein, Silent, Changed}
use Rattle.rules.specs.Bytes.{same, over}
use Rattle.rules.specs.Trims.{common_prefix}
use Rattle.rules.specs.Record.{ending, part_of, is_copy, class_by, class_of, first_copied, change_at, record_from}
use Rattle.rules.proofs.Over.{read_back, copied_as, lent_on_by}
use Rattle.changes.proofs.Laws.{is-empty, is-silent, is-changed}
use Rattle.shares.proofs.Shared.{prefix_fits, ending_fits}
use Rattle.joined.specs.Joined.{joined, Joins}
use Rattle.joined.proofs.Joining.{joined-long, begin-fits, window}
use Rattle.record_over.specs.Seen.{change_from, seen_from, inserted_of, Differs}

-- residues of R behind the first m of a buffer
module _ (m end back : ℕ) (R out : List ℕ) (fits : m ≤ length out) (inside : back + (end - m) ≤ length R) where
  pub none_written : end ≤ m → take end out ≡ take end (take m out ++ drop back R)
  none_written h = sym (take-append-le end (take m out) (drop back R) (rw (length-take-le m out fits) h) ∙ take-take end m out h)

  kept : out ≡ over (take m out) out
  unfolding over
  kept = sym (ap (λ (n : ℕ). take m out ++ drop n out) (length-take-le m out fits) ∙ take-append-drop m out)

  pub some_written : (d : List ℕ) → m < end → d ≡ take (length (take (back + (end - m) - back) (drop back R))) (take (back + (end - m) - back) (drop back R)) ++ drop (length (take (back + (end - m) - back) (drop back R))) (take (length out - m) (drop m out))
      → take end (put_mid m (length out - m) out d) ≡ take end (take m out ++ drop back R)
  some_written d h copied =
      let few : back + (end - m) - back ≡ end - m = omega arith in
      let q = take (end - m) (drop back R) in
      let p = take m out in
      let long-p : length p ≡ m = length-take-le m out fits in
      let long-q : length q ≡ end - m = length-take-le (end - m) (drop back R) (rw length-drop (omega arith)) in
      let all = lent_on_by p q out out d m (sym long-p) (omega arith) kept (copied_as _ q _ d (ap (λ (n : ℕ). take n (drop back R)) few) copied) in
      let many : end ≡ length (p ++ q) = sym (length-append p q ∙ omega arith) in
      let split : end ≡ length p + (end - m) = omega arith in
      read_back (p ++ q) out _ end many all ∙ sym (ap (λ (n : ℕ). take n (p ++ drop back R)) split ∙ take-append-add p (drop back R) (end - m))

-- a copy, by the residues that are inserted
pub copy_of : (R ins : List ℕ) (number : ℕ) → length ins < number → same (take (number - 1 - (number - 1 - length ins)) (drop (number - 1 - length ins) R)) ins ≡ (ltb (length ins) number && same (take (length ins) (drop (number - 1 - length ins) R)) ins)
copy_of R ins number h =
    let before : number - 1 - (number - 1 - length ins) ≡ length ins = omega arith in
    rw (lt-ltb (length ins) number h, before)

pub no_copy_of : (R ins : List ℕ) (number : ℕ) → number ≤ length ins → false ≡ (ltb (length ins) number && same (take (length ins) (drop (number - 1 - length ins) R)) ins)
no_copy_of R ins number h = rw (le-ltb (length ins) number h)

-- a change by what A has, counted from `head` on
pub change_seen : (flag : Bool) (head s n : ℕ) (R A ins : List ℕ) (deleted altered : ℕ) → Differs R A s n ins deleted altered
    → (copy : Bool) (x : ℕ) (k : Class) (f : ℕ)
    → copy ≡ (ltb (length ins) (s + 1) && same (take (length ins) (drop (s + 1 - 1 - length ins) R)) ins)
    → x ≡ get_or R s 0
    → k ≡ class_by (s + 1) deleted (length ins) x altered flag copy
    → f ≡ first_copied k (s + 1) (length ins)
    → ◌≡◌ {A = Change} (record { class = k; number = s + 1; deleted = record { at = s; len = deleted }; inserted = record { at = s - head; len = length ins }; first = f }) (change_from head (change_at flag s n R A))
unfolding change_from change_at class_of is_copy
change_seen flag head s n R A ins deleted altered d copy x k f e₁ e₂ e₃ e₄ =
    let one : s + 1 - 1 ≡ s = omega arith in
    let alike : copy ≡ (ltb (length A - s - n) (s + 1) && same (take (length A - s - n) (drop (s - (length A - s - n)) R)) (take (length A - s - n) (drop s A))) = rw (one, d.long, d.puts) at e₁ in
    rw (e₄, e₃, alike, e₂, d.takes, d.here, d.long, one)

-- the numbers of a part of A from s on that stops before an ending of n
part_long : (h l s n : ℕ) → h ≤ s → l - n - h - (s - h) ≡ l - s - n
part_long h l s n k = omega arith

part_fits : (h m b s n : ℕ) → h ≤ s → s + n ≤ h + m + b → (s - h ≤ h + m + b - n - h) × (h + m + b - n - h ≤ m + b) × (n ≤ h + m + b) × (h ≤ h + m + b - n)
part_fits h m b s n k l = (omega arith, omega arith, omega arith, omega arith)

stops_in : (l n h : ℕ) → l - n - h ≤ l
stops_in l n h = omega arith

lacking : (e m r b : ℕ) → e ≤ m + (r - b) → b ≤ r → b + (e - m) ≤ r
lacking e m r b h k = omega arith

shorter : (e a l : ℕ) → e ≤ l → e - a ≤ l - a
shorter e a l h = omega arith

-- the three records, of m residues between those of R
module _ (flag : Bool) (number head back m : ℕ) (R M : List ℕ) (x : Joins head back R M) (counted : m ≡ length M) where
  abbrev J : List ℕ
  J = joined head back R M

  abbrev whole : ℕ
  whole = head + m + (length R - back)

  long-is : length J ≡ whole
  long-is = joined-long head back R M x ∙ ap (λ (n : ℕ). head + n + (length R - back)) (sym counted)

  pub empty-seen : whole ≡ 0 → (out : List ℕ) → (NoProtein ≡ seen_from head (record_from flag number R J)) × (inserted_of NoProtein out ≡ inserted_of (record_from flag number R J) J)
  unfolding seen_from inserted_of
  empty-seen z out = let is = is-empty flag number R J (long-is ∙ z) in (rw (sym is), rw (sym is))

  module _ (some : whole ≡ 0 → ⊥) (s : ℕ) (is : s ≡ common_prefix R J) where
    there : length J ≡ 0 → ⊥
    there z = some (sym long-is ∙ z)

    pub front_fits : (head ≤ s) × (s ≤ length R) × (s ≤ length J)
    front_fits = let fits = begin-fits head back R M x s is in (fits.0, fits.1, (prefix_fits s R J is).1)

    pub silent-seen : (eqb s (length R) && eqb s whole) ≡ true → (y : ℕ) → y ≡ get_or R (number - 1) 0 → (out : List ℕ)
        → (Silent number y ≡ seen_from head (record_from flag number R J)) × (inserted_of (Silent number y) out ≡ inserted_of (record_from flag number R J) J)
    unfolding seen_from inserted_of
    silent-seen t y e out = let found = is-silent flag number R J s y there is (rw long-is t) e in (rw (sym found), rw (sym found))

    module _ (differ : (eqb s (length R) && eqb s whole) ≡ false) (n : ℕ) (ends : n ≡ ending flag s R J) where
      changed : Changed (change_at flag s n R J) ≡ record_from flag number R J
      changed = is-changed flag number R J s n _ there is (rw long-is differ) ends refl

      abbrev end : ℕ
      end = whole - n - head

      pub in-reference : s + n ≤ length R
      in-reference = (ending_fits flag s n R J is ends).0

      -- where the part begins and ends, and the numbers that lead there
      pub part_in : (s - head ≤ end) × (end ≤ m + (length R - back)) × (n ≤ whole) × (head ≤ whole - n)
      part_in = part_fits head m (length R - back) s n front_fits.0 (rw long-is at (ending_fits flag s n R J is ends).1)

      pub end-in : end ≤ length J
      end-in = rw long-is (stops_in whole n head)

      -- the residues of R that are lacking are there
      pub lacks : back + (end - m) ≤ length R
      lacks = lacking end m (length R) back part_in.1 x.within

      -- what stands in the buffer up to the shared ending
      module _ (out : List ℕ) (written : take end out ≡ take end (M ++ drop back R)) (long : end ≤ length out) where
        abbrev ins : List ℕ
        ins = take (end - (s - head)) (drop (s - head) out)

        many : end - (s - head) ≡ length J - s - n
        many = rw long-is (part_long head whole s n front_fits.0)

        puts : ins ≡ take (length J - s - n) (drop s J)
        puts =
            let at : head + (s - head) ≡ s = omega (arith, front_fits.0) in
            let seen = window head back R M x out (s - head) end part_in.0 long (rw (← counted) part_in.1) written in
            seen ∙ ap₂ (λ (i j : ℕ). take i (drop j J)) many at

        pub differs : (deleted altered : ℕ) → deleted ≡ length R - s - n → altered ≡ get_or J s 0 → Differs R J s n ins deleted altered
        differs deleted altered e f =
            record {
              puts = puts;
              long = length-take-le _ (drop (s - head) out) (rw length-drop (shorter end (s - head) (length out) long)) ∙ many;
              takes = e;
              here = f;
            }

        pub change-is : (c : Change) → c ≡ change_from head (change_at flag s n R J) → (Changed c ≡ seen_from head (record_from flag number R J)) × (inserted_of (Changed c) out ≡ inserted_of (record_from flag number R J) J)
        unfolding seen_from inserted_of part_of change_from change_at
        change-is c e = (rw (sym changed, e), rw (sym changed, e) (ap (λ (k : ℕ). take k (drop (s - head) out)) (sym many) ∙ puts))
