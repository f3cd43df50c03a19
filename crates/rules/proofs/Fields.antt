-- Laws of written fields, over any form: reading them gives the fields, and writing what was read gives the bytes.
-- Assumes nothing.
use Rattle.std.specs.Prelude.{if◌then◌else◌}
use mathlib.Core.Path.{◌≡◌, refl, sym, ap, ◌∙◌}
use mathlib.Core.Bool.{Bool, true, false, ◌&&◌}
use mathlib.Core.List.{List, [], ◌∷◌, ◌++◌}
use Prim.Native.Nat.{ℕ, zero, suc, ◌+◌, ◌/◌, ◌%◌, ◌≤◌, ◌<◌}
use native.Mathlib.Omega.{arith}
use lib.Dec.{leb, ltb}
use lib.ListN.{length, take, drop, length-append, take-append-drop}
use lib.Seq.{length-take-le, take-append_seam, drop-append_seam}
use borrow.Author.Tests.{le-leb, leb-true, ltb-true}
use Rattle.rules.specs.Bytes.{all, each, Result, given, refused}
use Rattle.rules.specs.Stored.{two_bytes, Field, ended, cut, whole, field, Form, is_wrong_tag, is_wrong_content, Tagged, with_field, met, fields_from, fields}
use Rattle.rules.specs.Storing.{in_two, field_bytes, fields_bytes}
use Rattle.rules.proofs.Tests.{and_left, and_right, all_drop}

-- a byte
abbrev pub is_byte : ℕ → Bool
is_byte b = ltb b 256

-- tags that a form knows, rising behind `last`, with contents that fit and that a length of two bytes can tell
pub data Rising (form : Form) : ℕ → List Tagged → Type 0 where
  none : {last : ℕ} → Rising form last []
  more : {last : ℕ} {f : Tagged} {fs : List Tagged} → is_wrong_tag form last f.tag ≡ false → is_wrong_content form f.tag f.content ≡ false
      → length f.content < 65536 → Rising form f.tag fs → Rising form last (f ∷ fs)

pub two_back : (n : ℕ) → two_bytes (n / 256) (n % 256) ≡ n
unfolding two_bytes
two_back n = omega arith

-- bytes that begin with a written field
pub reads_field : (f : Tagged) (s : List ℕ) → field (field_bytes f ++ s) ≡ whole f.tag f.content s
unfolding field_bytes in_two field
reads_field f s =
    let n = length f.content in
    let long : n ≤ length (f.content ++ s) = rw length-append (omega arith) in
    rw (two_back n, le-leb n (length (f.content ++ s)) long, take-append_seam f.content s, drop-append_seam f.content s)

length-field : (f : Tagged) → length (field_bytes f) ≡ 3 + length f.content
unfolding field_bytes in_two
length-field f = omega arith

module _ (form : Form) where
  reads-from : (n last : ℕ) (fs : List Tagged) → length (fields_bytes fs) ≤ n → Rising form last fs → fields_from form n last (fields_bytes fs) ≡ given fs
  unfolding fields_bytes each fields_from met field with_field
  reads-from zero last [] h r = refl
  reads-from (suc n) last [] h r = refl
  reads-from zero last (f ∷ fs) h r = absurd (omega (arith, length-field f, length-append (field_bytes f) (fields_bytes fs)))
  reads-from (suc n) last (f ∷ fs) h (more known fits short rest) =
      let left : length (fields_bytes fs) ≤ n = omega (arith, length-field f, length-append (field_bytes f) (fields_bytes fs)) in
      rw (reads_field f (fields_bytes fs), known, fits, reads-from n f.tag fs left rest)

  -- reading written fields gives the fields
  pub read-written : (fs : List Tagged) → Rising form 0 fs → fields form (fields_bytes fs) ≡ given fs
  unfolding fields
  read-written fs r = reads-from (length (fields_bytes fs)) 0 fs (omega arith) r

-- bytes that begin with a whole field are that field's, and what is behind it
pub record Begins (s : List ℕ) (f : Tagged) (r : List ℕ) : Type 0 where
  pub same : field_bytes f ++ r ≡ s
  pub short : length f.content < 65536
  pub behind : all is_byte r ≡ true

pub two_of : (high low : ℕ) → is_byte high ≡ true → is_byte low ≡ true → (two_bytes high low / 256 ≡ high) × (two_bytes high low % 256 ≡ low) × (two_bytes high low < 65536)
unfolding two_bytes
two_of high low h k =
    let a : high < 256 = ltb-true high 256 h in
    let b : low < 256 = ltb-true low 256 k in
    (omega arith, omega arith, omega arith)

pub begins : (s : List ℕ) → all is_byte s ≡ true → (t : ℕ) (c r : List ℕ) → field s ≡ whole t c r → Begins s (record { tag = t; content = c }) r
unfolding field all field_bytes in_two
begins [] b t c r e = let z : ◌≡◌ {A = ℕ} 0 1 = cc in absurd (omega arith)
begins (x ∷ []) b t c r e = let z : ◌≡◌ {A = ℕ} 0 1 = cc in absurd (omega arith)
begins (x ∷ y ∷ []) b t c r e = let z : ◌≡◌ {A = ℕ} 0 1 = cc in absurd (omega arith)
begins (x ∷ y ∷ z ∷ s) b t c r e = by (leb (two_bytes y z) (length s)) refl e
  where
    by : (k : Bool) → leb (two_bytes y z) (length s) ≡ k → (if k then whole x (take (two_bytes y z) s) (drop (two_bytes y z) s) else cut x) ≡ whole t c r
        → Begins (x ∷ y ∷ z ∷ s) (record { tag = t; content = c }) r
    by false h e = let z : ◌≡◌ {A = ℕ} 0 1 = cc in absurd (omega arith)
    by true h e =
        let is-t : x ≡ t = cc in
        let is_c : take (two_bytes y z) s ≡ c = cc in
        let is-r : drop (two_bytes y z) s ≡ r = cc in
        let bytes-behind = and_right (is_byte x) (is_byte y && (is_byte z && all is_byte s)) b in
        let z-behind = and_right (is_byte y) (is_byte z && all is_byte s) bytes-behind in
        let two = two_of y z (and_left (is_byte y) (is_byte z && all is_byte s) bytes-behind) (and_left (is_byte z) (all is_byte s) z-behind) in
        let n : length c ≡ two_bytes y z = ap length (sym is_c) ∙ length-take-le (two_bytes y z) s (leb-true (two_bytes y z) (length s) h) in
        record {
          same = rw (n, two.0, two.1, ← is-t, ← is_c, ← is-r, take-append-drop (two_bytes y z) s);
          short = omega (arith, two.2);
          behind = rw (← is-r) (all_drop is_byte (two_bytes y z) s (and_right (is_byte z) (all is_byte s) z-behind));
        }

ends : (s : List ℕ) → field s ≡ ended → s ≡ []
unfolding field
ends [] q = refl
ends (x ∷ []) q = let z : ◌≡◌ {A = ℕ} 0 1 = cc in absurd (omega arith)
ends (x ∷ y ∷ []) q = let z : ◌≡◌ {A = ℕ} 0 1 = cc in absurd (omega arith)
ends (x ∷ y ∷ z ∷ s) q = tests (leb (two_bytes y z) (length s)) q
  where
    tests : (k : Bool) → (if k then whole x (take (two_bytes y z) s) (drop (two_bytes y z) s) else cut x) ≡ ended → x ∷ y ∷ z ∷ s ≡ []
    tests true q = let z : ◌≡◌ {A = ℕ} 0 1 = cc in absurd (omega arith)
    tests false q = let z : ◌≡◌ {A = ℕ} 0 1 = cc in absurd (omega arith)

-- fields that were read: they rise, and written they are the bytes
pub record Read (form : Form) (last : ℕ) (s : List ℕ) (fs : List Tagged) : Type 0 where
  pub rising : Rising form last fs
  pub same : fields_bytes fs ≡ s

module _ (form : Form) where
  abbrev Reads : ℕ → Type 0
  Reads n = (last : ℕ) (s : List ℕ) (fs : List Tagged) → length s ≤ n → all is_byte s ≡ true → fields_from form n last s ≡ given fs → Read form last s fs

  no_fields : (last : ℕ) (s : List ℕ) (fs : List Tagged) → s ≡ [] → ◌≡◌ {A = Result (List Tagged)} (given []) (given fs) → Read form last s fs
  unfolding fields_bytes each
  no_fields last s fs e h = let is : [] ≡ fs = cc in rw (← is, e) (record { rising = none; same = refl })

  joins : (last : ℕ) (s : List ℕ) (f : Tagged) (r : List ℕ) (gs hs : List Tagged) → is_wrong_tag form last f.tag ≡ false → is_wrong_content form f.tag f.content ≡ false
      → Begins s f r → Read form f.tag r gs → ◌≡◌ {A = Result (List Tagged)} (given (f ∷ gs)) (given hs) → Read form last s hs
  unfolding fields_bytes each
  joins last s f r gs hs known fits g k e =
      let is : f ∷ gs ≡ hs = cc in
      rw (← is) (record { rising = more known fits g.short k.rising; same = rw k.same g.same })

  read-from : (n : ℕ) → Reads n
  unfolding fields_from met with_field
  read-from zero last [] fs h b e = no_fields last [] fs refl e
  read-from zero last (x ∷ s) fs h b e = absurd (omega arith)
  read-from (suc n) last s fs h b e = by (read-from n) (field s) refl e
    where
      behind : Reads n → (t : ℕ) (c r : List ℕ) → is_wrong_tag form last t ≡ false → is_wrong_content form t c ≡ false → field s ≡ whole t c r
          → (x : Result (List Tagged)) → x ≡ fields_from form n t r → with_field t c x ≡ given fs → Read form last s fs
      behind ih t c r known fits q (refused m) i e = let z : ◌≡◌ {A = ℕ} 0 1 = cc in absurd (omega arith)
      behind ih t c r known fits q (given gs) i e =
          let g = begins s b t c r q in
          let less : length r ≤ n = omega (arith, ap length g.same, length-field (record { tag = t; content = c }), length-append (field_bytes (record { tag = t; content = c })) r) in
          joins last s (record { tag = t; content = c }) r gs fs known fits g (ih t r gs less g.behind (sym i)) e

      tests : Reads n → (t : ℕ) (c r : List ℕ) → field s ≡ whole t c r → (x y : Bool) → is_wrong_tag form last t ≡ x → is_wrong_content form t c ≡ y
          → (if x then refused 21 else if y then refused 23 else with_field t c (fields_from form n t r)) ≡ given fs → Read form last s fs
      tests ih t c r q true y i j e = let z : ◌≡◌ {A = ℕ} 0 1 = cc in absurd (omega arith)
      tests ih t c r q false true i j e = let z : ◌≡◌ {A = ℕ} 0 1 = cc in absurd (omega arith)
      tests ih t c r q false false i j e = behind ih t c r i j q (fields_from form n t r) refl e

      by : Reads n → (g : Field) → field s ≡ g → met form last g (λ t r. fields_from form n t r) ≡ given fs → Read form last s fs
      by ih ended q e = no_fields last s fs (ends s q) e
      by ih (cut t) q e = let z : ◌≡◌ {A = ℕ} 0 1 = cc in absurd (omega arith)
      by ih (whole t c r) q e = tests ih t c r q (is_wrong_tag form last t) (is_wrong_content form t c) refl refl e

  -- writing what was read gives the bytes
  pub written_read : (s : List ℕ) (fs : List Tagged) → all is_byte s ≡ true → fields form s ≡ given fs → Read form 0 s fs
  unfolding fields
  written_read s fs b e = read-from (length s) 0 s fs (omega arith) b e
