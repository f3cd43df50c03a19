-- Laws of the form: its fields one behind the other.
-- Assumes nothing.
use Rattle.std.specs.Prelude.{if◌then◌else◌}
use mathlib.Core.Path.{◌≡◌, refl, sym, ap, ◌∙◌, subst}
use mathlib.Core.Bool.{Bool, true, false, ◌&&◌, ◌||◌}
use mathlib.Core.List.{List, [], ◌∷◌, ◌++◌}
use Prim.Native.Nat.{ℕ, zero, suc, ◌+◌, ◌-◌, ◌≤◌, ◌<◌, min}
use native.Mathlib.Decide.{dec_lt}
use native.Mathlib.Omega.{arith}
use lib.Dec.{eqb, ltb}
use lib.ListN.{length, take, drop, get_or, length-take, length-drop}
use lib.Seq.{take_all}
use borrow.Author.Tests.{eq-eqb, ne_eqb, eqb-true, ltb-false}
use Rattle.rules.specs.declared.Cds.{Cds}
use Rattle.rules.specs.declared.Exceptions.{Exceptions}
use borrow.Rule.Slice.PartMut.{put_mid}
use Rattle.rules.specs.Bytes.{is_none, all, each, over}
use Rattle.rules.specs.Letters.{is_letter}
use Rattle.rules.specs.Altered.{part}
use Rattle.rules.specs.Translation.{no_exception, exception_list}
use Rattle.rules.specs.Reference as rules
use Rattle.rules.specs.Reference.{Reference, at_stop, is_short_end, is_cut_short}
use Rattle.rules.specs.Stored.{Tagged}
use Rattle.rules.specs.Storing.{in_two, in_four, field_bytes, fields_bytes, exception_bytes, is_long, tagged, held_by, filled, reference_fields, stored_form}
use Rattle.rules.specs.Views.{reference_of}
use Rattle.rules.proofs.Tests.{and_left}
use Rattle.rules.proofs.Over.{front_fits, room-behind, written_behind}
use Rattle.rules.proofs.Reference.{accepted, rising_at}
use Rattle.rules.proofs.Translation.{length_exceptions}
use Rattle.storing_numbers.specs.Fields.{one_field}
use Rattle.storing_numbers.proofs.Fields.{field_some, chosen_none}
use Rattle.storing.specs.Forming.{held_at, end_field, Clear}

pub fields-each : (fs : List Tagged) → each one_field fs ≡ fields_bytes (filled fs)
unfolding each one_field fields_bytes filled
fields-each [] = refl
fields-each (f ∷ fs) = by (is_none f.content) (fields-each fs)
  where
    by : (b : Bool) → each one_field fs ≡ each field_bytes (filled fs) → (if b then [] else field_bytes f) ++ each one_field fs ≡ each field_bytes (if b then filled fs else (f ∷ filled fs))
    by true e = e
    by false e = ap (λ (l : List ℕ). field_bytes f ++ l) e

pub form_each : (r : Reference) → each one_field (held_by r) ≡ stored_form r
unfolding stored_form reference_fields
form_each r = fields-each (held_by r)

-- letters from a place on, as many as a field holds
module _ (n from : ℕ) (s : List ℕ) where
  pub no-letters : length s ≤ from → length (take n (drop from s)) ≡ 0
  no-letters h = omega (arith, length-take n (drop from s), length-drop from s)

  pub some-letters : 1 ≤ n → from < length s → 1 ≤ length (take n (drop from s))
  some-letters k h = omega (arith, length-take n (drop from s), length-drop from s)

  pub taken-part : (m : ℕ) → m ≡ min n (length s - from) → take (from + m - from) (drop from s) ≡ take n (drop from s)
  taken-part m e = rw same (by (dec_lt (length (drop from s)) n))
    where
      same : from + m - from ≡ m
      same = omega arith

      by : Dec (length (drop from s) < n) → take m (drop from s) ≡ take n (drop from s)
      by (yes h) = take_all m (drop from s) (omega (arith, length-drop from s)) ∙ sym (take_all n (drop from s) (omega arith))
      by (no h) = let is : m ≡ n = omega (arith, length-drop from s) in ap (λ (k : ℕ). take k (drop from s)) is

-- as many of them, written behind their head
module _ (tag from size n : ℕ) (s old : List ℕ) (sized : size ≡ length s) (there : from < size) (is : n ≡ min 65535 (size - from)) (room : length (one_field (tagged tag (take 65535 (drop from s)))) ≤ length old) where
  abbrev content : List ℕ
  content = take 65535 (drop from s)

  many : length content ≡ n
  many = omega (arith, length-take 65535 (drop from s), length-drop from s)

  the-bytes : one_field (tagged tag content) ≡ (tag ∷ in_two n) ++ content
  unfolding field_bytes
  the-bytes = field_some tag content (some-letters 65535 from s (omega arith) (omega arith)) ∙ ap (λ (m : ℕ). (tag ∷ in_two m) ++ content) many

  all_fit : length ((tag ∷ in_two n) ++ content) ≤ length old
  all_fit = omega (arith, ap length the-bytes)

  pub head-room : (n < 65536) × (3 ≤ length old)
  unfolding in_two
  head-room = (omega arith, omega (arith, all_fit))

  pub within : from + n ≤ length s
  within = omega arith

  module _ (head : ℕ) (out : List ℕ) (three : head ≡ 3) (written : out ≡ over (tag ∷ in_two n) old) where
    behind : head ≡ length (tag ∷ in_two n)
    unfolding in_two
    behind = three

    pub head-fits : head ≤ length out
    head-fits = front_fits (tag ∷ in_two n) content old out head behind all_fit written

    pub letters-room : from + n - from ≤ length (take (length out - head) (drop head out))
    letters-room = omega (arith, many, room-behind (tag ∷ in_two n) content old out head behind all_fit written)

    pub letters-done : (l : List ℕ) → l ≡ over (part from (from + n) s) (take (length out - head) (drop head out))
        → (head + n ≡ length (one_field (tagged tag content))) × (put_mid head (length out - head) out l ≡ over (one_field (tagged tag content)) old)
    unfolding part
    letters-done l e =
        rw the-bytes
        (written_behind (tag ∷ in_two n) content old out head behind all_fit written l n (sym many) (e ∙ ap (λ (q : List ℕ). over q (take (length out - head) (drop head out))) (taken-part 65535 from s n (is ∙ ap (λ (k : ℕ). min 65535 (k - from)) sized))))

-- a field of a tag, known by its number
module _ (r : Reference) (t k : ℕ) (e : t ≡ k) (f : Tagged) (is : held_at k r ≡ f) where
  same-field : held_at t r ≡ f
  same-field = ap (λ (n : ℕ). held_at n r) e ∙ is

  pub room_at : (n : ℕ) → length (one_field (held_at t r)) ≤ n → length (one_field f) ≤ n
  room_at n h = subst (λ (g : Tagged). length (one_field g) ≤ n) same-field h

  pub done_at : (m : ℕ) (d out : List ℕ) → m ≡ length (one_field f) → out ≡ over (one_field f) d → (m ≡ length (one_field (held_at t r))) × (out ≡ over (one_field (held_at t r)) d)
  done_at m d out h q = subst (λ (g : Tagged). (m ≡ length (one_field g)) × (out ≡ over (one_field g) d)) (sym same-field) (h, q)

-- what each tag holds
module _ (r : Reference) where
  pub held-1 : held_at 1 r ≡ tagged 1 (take 65535 (drop 0 r.letters))
  unfolding held_by
  held-1 = refl

  pub held-2 : (n : ℕ) → n ≡ length r.letters → held_at 2 r ≡ tagged 2 (if ltb 16384 n then [] else (in_two r.cs ++ in_two r.ce))
  unfolding held_by is_long rules.size
  held-2 n e = rw e

  pub held-3 : held_at 3 r ≡ tagged 3 (r.table ∷ [])
  unfolding held_by
  held-3 = refl

  pub held-4 : held_at 4 r ≡ tagged 4 (each exception_bytes r.exceptions)
  unfolding held_by
  held-4 = refl

  pub held-5 : held_at 5 r ≡ tagged 5 (take 65535 (drop 65535 r.letters))
  unfolding held_by
  held-5 = refl

  pub held-6 : length r.letters ≤ 131072 → held_at 6 r ≡ tagged 6 (take 65535 (drop 131070 r.letters))
  unfolding held_by
  held-6 h = ap (tagged 6) (sym (last-letters 65535 131070 r.letters (omega arith)))
    where
      last-letters : (n from : ℕ) (s : List ℕ) → length s ≤ from + n → take n (drop from s) ≡ drop from s
      last-letters n from s h = take_all n (drop from s) (omega (arith, length-drop from s))

  pub held-7 : (n : ℕ) → n ≡ length r.letters → held_at 7 r ≡ tagged 7 (if ltb 16384 n then (in_four r.cs ++ in_four r.ce) else [])
  unfolding held_by is_long rules.size
  held-7 n e = rw e

  pub held-8 : held_at 8 r ≡ end_field r.end
  unfolding held_by
  held-8 = refl

pub eight_held : (r : Reference) → length (held_by r) ≡ 8
unfolding held_by
eight_held r = refl

-- the numbers of a reference that isn't refused
pub record Numbers (s : List ℕ) (c : Cds) (e : Exceptions) : Type 0 where
  pub some : 1 ≤ length s
  pub size : length s ≤ 131072
  pub letters : all is_letter s ≡ true
  pub narrow : (n : ℕ) → n ≡ length s → ltb 16384 n ≡ false → (c.cs < 65536) × (c.ce < 65536)
  pub wide : (c.cs < 4294967296) × (c.ce < 4294967296)
  pub table : c.table < 256
  pub count : e.count ≤ 16
  pub codons : (i : ℕ) → i < e.count → (get_or (exception_list e) i no_exception).codon < 65536
  pub end : c.end < 256

short-end : (end : ℕ) → is_short_end end ≡ true → end < 256
unfolding is_short_end
short-end end h = by (eqb end 1) refl h
  where
    by : (b : Bool) → eqb end 1 ≡ b → (b || eqb end 2) ≡ true → end < 256
    by true e h = omega (arith, eqb-true end 1 e)
    by false e h = omega (arith, eqb-true end 2 h)

pub numbers : (s : List ℕ) (c : Cds) (e : Exceptions) → Clear s c e → Numbers s c e
unfolding rules.size rules.cds_size rules.codons is_cut_short
numbers s c e clear =
    let r = reference_of s c e in
    let a = accepted 131072 r clear in
    let many = length_exceptions e in
    record {
      some = a.some;
      size = a.fits;
      letters = a.letters;
      narrow = λ n is h. let short : n ≤ 16384 = ltb-false 16384 n h in (omega (arith, a.bounds.inside, a.bounds.rising), omega (arith, a.bounds.inside));
      wide = (omega (arith, a.bounds.inside, a.bounds.rising, a.fits), omega (arith, a.bounds.inside, a.fits));
      table = omega (arith, a.table);
      count = omega (arith, a.few, many);
      codons = λ i h. omega (arith, (rising_at 0 (rules.codons r) (exception_list e) i a.exceptions (omega arith)).inside, a.fits, a.bounds.inside);
      end = by (eqb c.end at_stop) refl a.cut;
    }
  where
    by : (b : Bool) → eqb c.end at_stop ≡ b → (eqb c.end at_stop ≡ false → is_cut_short (reference_of s c e) ≡ true) → c.end < 256
    by true e k = omega (arith, eqb-true c.end at_stop e)
    by false e k = short-end c.end (and_left (is_short_end c.end) _ (and_left (is_short_end c.end && eqb c.ce (length s)) _ (k e)))

-- tag 8
pub end_none : (end : ℕ) → end ≡ 0 → length (if eqb end at_stop then [] else (end ∷ [])) ≡ 0
end_none end h = chosen_none (eqb end at_stop) (end ∷ []) (eq-eqb end at_stop h)

pub end_some : (end : ℕ) → (end ≡ 0 → ⊥) → end_field end ≡ tagged 8 (end ∷ [])
end_some end h = rw (ne_eqb end at_stop h)

module _ (end : ℕ) (h : end ≡ 0 → ⊥) where
  pub end-room : (n : ℕ) → length (one_field (end_field end)) ≤ n → length (one_field (tagged 8 (end ∷ []))) ≤ n
  end-room n k = subst (λ (f : Tagged). length (one_field f) ≤ n) (end_some end h) k

  pub end-done : (m : ℕ) (d out : List ℕ) → m ≡ length (one_field (tagged 8 (end ∷ []))) → out ≡ over (one_field (tagged 8 (end ∷ []))) d
      → (m ≡ length (one_field (end_field end))) × (out ≡ over (one_field (end_field end)) d)
  end-done m d out e q = subst (λ (f : Tagged). (m ≡ length (one_field f)) × (out ≡ over (one_field f) d)) (sym (end_some end h)) (e, q)

-- the last of eight tags
pub none_other : (t : ℕ) → 1 ≤ t → t ≤ 8 → (t ≡ 1 → ⊥) → (t ≡ 2 → ⊥) → (t ≡ 3 → ⊥) → (t ≡ 4 → ⊥) → (t ≡ 5 → ⊥) → (t ≡ 6 → ⊥) → (t ≡ 7 → ⊥) → t ≡ 8
none_other zero h k n₁ n₂ n₃ n₄ n₅ n₆ n₇ = absurd (omega arith)
none_other (suc zero) h k n₁ n₂ n₃ n₄ n₅ n₆ n₇ = absurd (n₁ refl)
none_other (suc (suc zero)) h k n₁ n₂ n₃ n₄ n₅ n₆ n₇ = absurd (n₂ refl)
none_other (suc (suc (suc zero))) h k n₁ n₂ n₃ n₄ n₅ n₆ n₇ = absurd (n₃ refl)
none_other (suc (suc (suc (suc zero)))) h k n₁ n₂ n₃ n₄ n₅ n₆ n₇ = absurd (n₄ refl)
none_other (suc (suc (suc (suc (suc zero))))) h k n₁ n₂ n₃ n₄ n₅ n₆ n₇ = absurd (n₅ refl)
none_other (suc (suc (suc (suc (suc (suc zero)))))) h k n₁ n₂ n₃ n₄ n₅ n₆ n₇ = absurd (n₆ refl)
none_other (suc (suc (suc (suc (suc (suc (suc zero))))))) h k n₁ n₂ n₃ n₄ n₅ n₆ n₇ = absurd (n₇ refl)
none_other (suc (suc (suc (suc (suc (suc (suc (suc t)))))))) h k n₁ n₂ n₃ n₄ n₅ n₆ n₇ = omega arith
