-- Laws of stored settings (E12): what is written reads back, what is read is written as the same bytes, and how versions meet.
-- Assumes nothing.
use Rattle.std.specs.Prelude.{if◌then◌else◌}
use mathlib.Core.Path.{◌≡◌, refl, sym, ap, ◌∙◌}
use mathlib.Core.Bool.{Bool, true, false, ◌&&◌, ◌||◌}
use mathlib.Core.List.{List, [], ◌∷◌, ◌++◌, map}
use mathlib.Core.Option.{Option, none, some}
use Prim.Native.Nat.{ℕ, ◌+◌, ◌/◌, ◌%◌, ◌≤◌}
use native.Mathlib.Omega.{arith}
use lib.Dec.{eqb, leb, ltb}
use lib.ListN.{length, take, drop, length-append}
use lib.Seq.{take-append_seam, drop-append_seam}
use borrow.Author.Tests.{eq-eqb, ne_eqb, eqb-true, eqb-false, le-ltb, leb-true, ltb-false}
use Rattle.rules.specs.declared.Settings.{Settings}
use Rattle.rules.specs.Bytes.{is_none, all, each}
use Rattle.rules.specs.Codons.{is_table}
use Rattle.rules.specs.Refusal.{limits}
use Rattle.rules.specs.Stored.{Field, ended, cut, whole, field, Tagged}
use Rattle.rules.specs.Storing.{in_two, field_bytes, fields_bytes}
use Rattle.rules.specs.Settings.{Refused, Newer, Held, is_version, has_longest, version_of, layout, with_content, content_by, contents_in, settings_in, is_longest, are_settings, held_in, stored_by, stored_settings, settings_fields, store_of}
use Rattle.rules.proofs.Tests.{and_left, and_right, all_take, all_drop, all_both}
use Rattle.rules.proofs.Fields.{is_byte, reads_field, two_back, two_of, begins}

-- the tags of fields, the length of its content beside each
abbrev pub shapes : List Tagged → List (ℕ × ℕ)
shapes fs = map (λ (f : Tagged). (f.tag, length f.content)) fs

abbrev pub contents : List Tagged → List ℕ
contents fs = each (λ (f : Tagged). f.content) fs

-- fields that are written are read
read_contents : (fs : List Tagged) → contents_in (shapes fs) (fields_bytes fs) ≡ some (contents fs)
unfolding contents_in content_by with_content fields_bytes each
read_contents [] = refl
read_contents (f ∷ fs) =
    rw (reads_field f (fields_bytes fs), eq-eqb f.tag f.tag refl, eq-eqb (length f.content) (length f.content) refl, read_contents fs)

known_version : (v : ℕ) → is_version v ≡ true → (1 ≤ v) × (v ≤ 2)
unfolding is_version
known_version v h = (leb-true 1 v (and_left (leb 1 v) (leb v 2) h), leb-true v 2 (and_right (leb 1 v) (leb v 2) h))

module _ (x : Settings) where
  shapes-are : shapes (settings_fields x) ≡ layout x.version
  unfolding settings_fields layout in_two
  shapes-are = by (has_longest x.version)
    where
      by : (b : Bool) → shapes
          (record { tag = 1; content = x.version ∷ [] }
          ∷ record { tag = 2; content = x.table ∷ [] }
          ∷ record { tag = 3; content = x.profile ∷ [] }
          ∷ record { tag = 4; content = x.width ∷ [] }
          ∷ (if b then record { tag = 5; content = (x.longest / 256) ∷ (x.longest % 256) ∷ [] } ∷ [] else []))
          ≡ (1, 1) ∷ (2, 1) ∷ (3, 1) ∷ (4, 1) ∷ (if b then (5, 2) ∷ [] else [])
      by true = refl
      by false = refl

  version-read : version_of (field (store_of x)) ≡ some x.version
  unfolding store_of settings_fields fields_bytes each version_of
  version-read =
      rw (reads_field (record { tag = 1; content = x.version ∷ [] })
      (fields_bytes
      (record { tag = 2; content = x.table ∷ [] }
      ∷ record { tag = 3; content = x.profile ∷ [] }
      ∷ record { tag = 4; content = x.width ∷ [] }
      ∷ (if has_longest x.version then record { tag = 5; content = in_two x.longest } ∷ [] else []))))

  longest-fits : are_settings x ≡ true → (has_longest x.version || eqb x.longest limits.most) ≡ true
  unfolding are_settings
  longest-fits ok =
      and_right (is_table x.table && leb x.profile 1 && (eqb x.width 1 || eqb x.width 3) && is_longest x.longest)
      (has_longest x.version || eqb x.longest limits.most)
      ok

  settings-back : are_settings x ≡ true → settings_in (contents (settings_fields x)) ≡ x
  unfolding settings_fields settings_in each in_two
  settings-back ok = by (has_longest x.version) refl (longest-fits ok)
    where
      by : (b : Bool) → has_longest x.version ≡ b → (b || eqb x.longest limits.most) ≡ true
          → settings_in (x.version ∷ x.table ∷ x.profile ∷ x.width ∷ contents (if b then record { tag = 5; content = in_two x.longest } ∷ [] else [])) ≡ x
      by true e h = rw (e, two_back x.longest)
      by false e h = rw (e, ← eqb-true x.longest limits.most h)

  -- what is written is read back as the same settings, by every reader that knows the version
  pub read_back : (newest : ℕ) → is_version newest ≡ true → is_version x.version ≡ true → x.version ≤ newest → are_settings x ≡ true
      → stored_settings newest (store_of x) ≡ Held x
  unfolding stored_settings stored_by held_in store_of
  read_back newest known v below ok =
      rw (known, version-read, ne_eqb x.version 0 (λ z. absurd (omega (arith, (known_version x.version v).0))), le-ltb newest x.version below, ← shapes-are, read_contents (settings_fields x), settings-back ok, ok)

-- the bytes of fields of such tags and lengths, with these contents
abbrev packed : List (ℕ × ℕ) → List ℕ → List ℕ
packed [] cs = []
packed (l ∷ ls) cs = field_bytes (record { tag = l.0; content = take l.1 cs }) ++ packed ls (drop l.1 cs)

abbrev sizes : List (ℕ × ℕ) → ℕ
sizes [] = 0
sizes (l ∷ ls) = l.1 + sizes ls

-- the bytes hold these contents, and nothing else
record Packs (ls : List (ℕ × ℕ)) (s cs : List ℕ) : Type 0 where
  same : packed ls cs ≡ s
  long : length cs ≡ sizes ls
  bytes : all is_byte cs ≡ true

no_fields : (s cs : List ℕ) → (if is_none s then some [] else none) ≡ some cs → Packs [] s cs
unfolding all
no_fields [] cs e = let is : [] ≡ cs = cc in rw (← is) (record { same = refl; long = refl; bytes = refl })
no_fields (b ∷ s) cs e = let z : ◌≡◌ {A = ℕ} 0 1 = cc in absurd (omega arith)

all_content : (f : Tagged) (r s : List ℕ) → field_bytes f ++ r ≡ s → all is_byte s ≡ true → all is_byte f.content ≡ true
unfolding field_bytes in_two
all_content f r s e h =
    ap (all is_byte) (sym (take-append_seam f.content r))
    ∙ all_take is_byte (length f.content) (f.content ++ r) (all_drop is_byte 3 (field_bytes f ++ r) (ap (all is_byte) e ∙ h))

joins : (l : ℕ × ℕ) (ls : List (ℕ × ℕ)) (s ds : List ℕ) (f : Tagged) (r : List ℕ) → all is_byte s ≡ true → f.tag ≡ l.0 → length f.content ≡ l.1 → field_bytes f ++ r ≡ s
    → Packs ls r ds → Packs (l ∷ ls) s (f.content ++ ds)
joins l ls s ds f r b t n e u =
    record {
      same = rw (← t, ← n, take-append_seam f.content ds, drop-append_seam f.content ds, u.same) e;
      long = omega (arith, length-append f.content ds, u.long);
      bytes = all_both is_byte f.content ds (all_content f r s e b) u.bytes;
    }

abbrev Unpacks : List (ℕ × ℕ) → Type 0
Unpacks ls = (s cs : List ℕ) → all is_byte s ≡ true → contents_in ls s ≡ some cs → Packs ls s cs

packs : (ls : List (ℕ × ℕ)) → Unpacks ls
unfolding contents_in content_by with_content
packs [] s cs b e = no_fields s cs e
packs (l ∷ ls) s cs b e = by (packs ls) (field s) refl e
  where
    rest : Unpacks ls → (t : ℕ) (c r : List ℕ) → field s ≡ whole t c r → t ≡ l.0 → length c ≡ l.1 → (o : Option (List ℕ)) → contents_in ls r ≡ o → with_content c o ≡ some cs
        → Packs (l ∷ ls) s cs
    rest more t c r q i j none g e = let z : ◌≡◌ {A = ℕ} 0 1 = cc in absurd (omega arith)
    rest more t c r q i j (some ds) g e =
        let f = begins s b t c r q in
        let is : c ++ ds ≡ cs = cc in
        rw (← is) (joins l ls s ds (record { tag = t; content = c }) r b i j f.same (more r ds f.behind g))

    tests : Unpacks ls → (t : ℕ) (c r : List ℕ) → field s ≡ whole t c r → (x y : Bool) → eqb t l.0 ≡ x → eqb (length c) l.1 ≡ y
        → (if x && y then with_content c (contents_in ls r) else none) ≡ some cs → Packs (l ∷ ls) s cs
    tests more t c r q true true i j e = rest more t c r q (eqb-true t l.0 i) (eqb-true (length c) l.1 j) (contents_in ls r) refl e
    tests more t c r q true false i j e = let z : ◌≡◌ {A = ℕ} 0 1 = cc in absurd (omega arith)
    tests more t c r q false y i j e = let z : ◌≡◌ {A = ℕ} 0 1 = cc in absurd (omega arith)

    by : Unpacks ls → (g : Field) → field s ≡ g → content_by l g (λ r. contents_in ls r) ≡ some cs → Packs (l ∷ ls) s cs
    by more ended q e = let z : ◌≡◌ {A = ℕ} 0 1 = cc in absurd (omega arith)
    by more (cut t) q e = let z : ◌≡◌ {A = ℕ} 0 1 = cc in absurd (omega arith)
    by more (whole t c r) q e = tests more t c r q (eqb t l.0) (eqb (length c) l.1) refl refl e

-- a store that is read, or none
pub data Reading (newest : ℕ) (s : List ℕ) (x : Settings) : Type 0 where
  read : (v : ℕ) (cs : List ℕ) → is_version newest ≡ true → version_of (field s) ≡ some v → (v ≡ 0 → ⊥) → v ≤ newest → contents_in (layout v) s ≡ some cs
      → are_settings (settings_in cs) ≡ true → settings_in cs ≡ x → Reading newest s x

-- the settings that are read
reading : (newest : ℕ) (s : List ℕ) (x : Settings) → stored_settings newest s ≡ Held x → Reading newest s x
unfolding stored_settings stored_by held_in
reading newest s x e = known (is_version newest) refl e
  where
    good : (v : ℕ) → is_version newest ≡ true → version_of (field s) ≡ some v → (v ≡ 0 → ⊥) → v ≤ newest → (cs : List ℕ) → contents_in (layout v) s ≡ some cs
        → (b : Bool) → are_settings (settings_in cs) ≡ b → (if b then Held (settings_in cs) else Refused 62) ≡ Held x → Reading newest s x
    good v k q z l cs c true a e = let is : settings_in cs ≡ x = cc in read v cs k q z l c a is
    good v k q z l cs c false a e = let z : ◌≡◌ {A = ℕ} 0 1 = cc in absurd (omega arith)

    form : (v : ℕ) → is_version newest ≡ true → version_of (field s) ≡ some v → (v ≡ 0 → ⊥) → v ≤ newest → (o : Option (List ℕ)) → contents_in (layout v) s ≡ o → held_in o ≡ Held x
        → Reading newest s x
    form v k q z l none c e = let z : ◌≡◌ {A = ℕ} 0 1 = cc in absurd (omega arith)
    form v k q z l (some cs) c e = good v k q z l cs c (are_settings (settings_in cs)) refl e

    tests : (v : ℕ) → is_version newest ≡ true → version_of (field s) ≡ some v → (a b : Bool) → eqb v 0 ≡ a → ltb newest v ≡ b
        → (if a then Refused 60 else if b then Newer else held_in (contents_in (layout v) s)) ≡ Held x → Reading newest s x
    tests v k q true b i j e = let z : ◌≡◌ {A = ℕ} 0 1 = cc in absurd (omega arith)
    tests v k q false true i j e = let z : ◌≡◌ {A = ℕ} 0 1 = cc in absurd (omega arith)
    tests v k q false false i j e = form v k q (eqb-false v 0 i) (ltb-false newest v j) (contents_in (layout v) s) refl e

    by : is_version newest ≡ true → (o : Option ℕ) → version_of (field s) ≡ o → stored_by newest o s ≡ Held x → Reading newest s x
    by k none q e = let z : ◌≡◌ {A = ℕ} 0 1 = cc in absurd (omega arith)
    by k (some v) q e = tests v k q (eqb v 0) (ltb newest v) refl refl e

    known : (b : Bool) → is_version newest ≡ b → (if b then stored_by newest (version_of (field s)) s else Refused 60) ≡ Held x → Reading newest s x
    known true k e = by k (version_of (field s)) refl e
    known false k e = let z : ◌≡◌ {A = ℕ} 0 1 = cc in absurd (omega arith)

-- the version in the first of the contents
first_version : (ls : List (ℕ × ℕ)) (v a : ℕ) (cs s : List ℕ) → packed ((1, 1) ∷ ls) (a ∷ cs) ≡ s → version_of (field s) ≡ some v → a ≡ v
unfolding version_of
first_version ls v a cs s e q =
    let read : field s ≡ whole 1 (a ∷ []) (packed ls cs) = ap field (sym e) ∙ reads_field (record { tag = 1; content = a ∷ [] }) (packed ls cs) in
    let is : some a ≡ some v = sym (ap version_of read) ∙ q in
    cc

-- the store of what four contents hold, and of what six hold
four : (v : ℕ) (cs s : List ℕ) → has_longest v ≡ false → version_of (field s) ≡ some v → Packs ((1, 1) ∷ (2, 1) ∷ (3, 1) ∷ (4, 1) ∷ []) s cs → store_of (settings_in cs) ≡ s
unfolding store_of settings_fields settings_in fields_bytes each
four v (a ∷ b ∷ c ∷ d ∷ []) s h q p = rw (ap has_longest (first_version ((2, 1) ∷ (3, 1) ∷ (4, 1) ∷ []) v a (b ∷ c ∷ d ∷ []) s p.same q) ∙ h) p.same
four v [] s h q p = absurd (omega (arith, p.long))
four v (a ∷ []) s h q p = absurd (omega (arith, p.long))
four v (a ∷ b ∷ []) s h q p = absurd (omega (arith, p.long))
four v (a ∷ b ∷ c ∷ []) s h q p = absurd (omega (arith, p.long))
four v (a ∷ b ∷ c ∷ d ∷ e ∷ cs) s h q p = absurd (omega (arith, p.long))

six : (v : ℕ) (cs s : List ℕ) → has_longest v ≡ true → version_of (field s) ≡ some v → Packs ((1, 1) ∷ (2, 1) ∷ (3, 1) ∷ (4, 1) ∷ (5, 2) ∷ []) s cs
    → store_of (settings_in cs) ≡ s
unfolding store_of settings_fields settings_in fields_bytes each in_two all
six v (a ∷ b ∷ c ∷ d ∷ x ∷ y ∷ []) s h q p =
    let last = all_drop is_byte 4 (a ∷ b ∷ c ∷ d ∷ x ∷ y ∷ []) p.bytes in
    let two = two_of x y (and_left (is_byte x) (is_byte y && true) last) (and_left (is_byte y) true (and_right (is_byte x) (is_byte y && true) last)) in
    rw (ap has_longest (first_version ((2, 1) ∷ (3, 1) ∷ (4, 1) ∷ (5, 2) ∷ []) v a (b ∷ c ∷ d ∷ x ∷ y ∷ []) s p.same q) ∙ h, two.0, two.1) p.same
six v [] s h q p = absurd (omega (arith, p.long))
six v (a ∷ []) s h q p = absurd (omega (arith, p.long))
six v (a ∷ b ∷ []) s h q p = absurd (omega (arith, p.long))
six v (a ∷ b ∷ c ∷ []) s h q p = absurd (omega (arith, p.long))
six v (a ∷ b ∷ c ∷ d ∷ []) s h q p = absurd (omega (arith, p.long))
six v (a ∷ b ∷ c ∷ d ∷ e ∷ []) s h q p = absurd (omega (arith, p.long))
six v (a ∷ b ∷ c ∷ d ∷ e ∷ f ∷ g ∷ cs) s h q p = absurd (omega (arith, p.long))

-- bytes that are read and written again are the same bytes
pub written_again : (newest : ℕ) (s : List ℕ) (x : Settings) → all is_byte s ≡ true → stored_settings newest s ≡ Held x → store_of x ≡ s
unfolding layout
written_again newest s x b e = from (reading newest s x e)
  where
    by : (v : ℕ) (cs : List ℕ) → version_of (field s) ≡ some v → contents_in (layout v) s ≡ some cs → store_of (settings_in cs) ≡ s
    by v cs q c = tests (has_longest v) refl c
      where
        tests : (k : Bool) → has_longest v ≡ k → contents_in ((1, 1) ∷ (2, 1) ∷ (3, 1) ∷ (4, 1) ∷ (if k then (5, 2) ∷ [] else [])) s ≡ some cs → store_of (settings_in cs) ≡ s
        tests true h c = six v cs s h q (packs _ s cs b c)
        tests false h c = four v cs s h q (packs _ s cs b c)

    from : Reading newest s x → store_of x ≡ s
    from (read v cs k q z l c a is) = ap store_of (sym is) ∙ by v cs q c

-- the settings of a store are of its version, which the reader knows
pub version_of_read : (newest : ℕ) (s : List ℕ) (x : Settings) → all is_byte s ≡ true → stored_settings newest s ≡ Held x → version_of (field s) ≡ some x.version
version_of_read newest s x b e = ap (λ l. version_of (field l)) (sym (written_again newest s x b e)) ∙ version-read x

-- a reader of version 1 shows every store of version 2 as newer
pub newer_shown : (s : List ℕ) (x : Settings) → all is_byte s ≡ true → stored_settings 2 s ≡ Held x → x.version ≡ 2 → stored_settings 1 s ≡ Newer
unfolding stored_settings stored_by is_version
newer_shown s x b e v = rw (version_of_read 2 s x b e, v)

-- a store of version 1 reads as longest edit 4,096, whoever reads it
pub first_longest : (newest : ℕ) (s : List ℕ) (x : Settings) → stored_settings newest s ≡ Held x → x.version ≡ 1 → x.longest ≡ 4096
unfolding has_longest
first_longest newest s x e v = from (reading newest s x e)
  where
    from : Reading newest s x → x.longest ≡ 4096
    from (read w cs k q z l c a is) = eqb-true x.longest 4096 (rw v at (longest-fits x (ap are_settings (sym is) ∙ a)))

-- and what the reader of version 1 reads, the reader of version 2 reads
pub still_read : (s : List ℕ) (x : Settings) → stored_settings 1 s ≡ Held x → stored_settings 2 s ≡ Held x
unfolding stored_settings stored_by held_in is_version
still_read s x e = from (reading 1 s x e)
  where
    from : Reading 1 s x → stored_settings 2 s ≡ Held x
    from (read v cs k q z l c a is) = rw (q, ne_eqb v 0 z, le-ltb 2 v (omega arith), c, a, is)
