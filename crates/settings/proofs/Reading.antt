-- Laws of reading: what a reader answers, by the version that stands there and by the fields behind it.
-- Assumes nothing.
use Rattle.std.specs.Prelude.{Some, None, if◌then◌else◌}
use mathlib.Core.Path.{◌≡◌, refl, sym, ◌∙◌}
use mathlib.Core.Bool.{Bool, true, false, not}
use mathlib.Core.List.{List}
use mathlib.Core.Option.{Option, none, some}
use Prim.Native.Nat.{ℕ, ◌≤◌, ◌<◌}
use native.Mathlib.Omega.{arith}
use lib.Dec.{eqb, ltb}
use borrow.Author.Tests.{ne_eqb, lt-ltb, le-ltb, not-true, not-false}
use Rattle.rules.specs.declared.Settings.{Settings}
use Rattle.rules.specs.Stored.{field}
use Rattle.rules.specs.Settings.{is_version, version_of, layout, contents_in, are_settings, Refused, Newer, Held, held_in, stored_by, stored_settings}
use Rattle.settings_fields.specs.Places.{are_at, answered, version_in, settings_at}
use Rattle.settings_fields.proofs.Places.{not-held, held_by}

-- what a reader answers, test by test: whether it is known, the version, the fields, and the settings that they hold
module _ (s : List ℕ) (newest : ℕ) (known : Bool) (is_Known : known ≡ is_version newest) where
  pub unknown-reader : not known ≡ true → Refused 60 ≡ stored_settings newest s
  unfolding stored_settings
  unknown-reader h = rw (sym is_Known ∙ not-true known h)

  module _ (k : not known ≡ false) where
    is-known : stored_settings newest s ≡ stored_by newest (version_of (field s)) s
    unfolding stored_settings
    is-known = rw (sym is_Known ∙ not-false known k)

    pub unversioned : None ≡ version_in s → Refused 60 ≡ stored_settings newest s
    unfolding stored_by version_in
    unversioned e = sym (is-known ∙ by (version_of (field s)) e)
      where
        by : (o : Option ℕ) → None ≡ answered o → stored_by newest o s ≡ Refused 60
        by none e = refl
        by (some v) e = let z : ◌≡◌ {A = ℕ} 0 1 = cc in absurd (omega arith)

    module _ (v : ℕ) (is-version : Some v ≡ version_in s) where
      pub told-by : stored_settings newest s ≡ (if eqb v 0 then Refused 60 else if ltb newest v then Newer else held_in (contents_in (layout v) s))
      unfolding stored_by version_in
      told-by = is-known ∙ by (version_of (field s)) is-version
        where
          by : (o : Option ℕ) → Some v ≡ answered o → stored_by newest o s ≡ (if eqb v 0 then Refused 60 else if ltb newest v then Newer else held_in (contents_in (layout v) s))
          by none e = let z : ◌≡◌ {A = ℕ} 0 1 = cc in absurd (omega arith)
          by (some w) e = let same : v ≡ w = cc in rw same

      pub zeroth : v ≡ 0 → Refused 60 ≡ stored_settings newest s
      zeroth z = sym (told-by ∙ rw z)

      module _ (z : v ≡ 0 → ⊥) where
        pub is-newer : newest < v → Newer ≡ stored_settings newest s
        is-newer l = sym (told-by ∙ rw (ne_eqb v 0 z, lt-ltb newest v l))

        module _ (l : v ≤ newest) (formed : Bool) (is-formed : formed ≡ are_at (layout v) 0 s) where
          pub unformed : not formed ≡ true → Refused 61 ≡ stored_settings newest s
          unformed h = sym (told-by ∙ rw (ne_eqb v 0 z, le-ltb newest v l) (not-held s v (sym is-formed ∙ not-true formed h)))

          module _ (h : not formed ≡ false) (x : Settings) (is_x : x ≡ settings_at v s) (fits : Bool) (is-fits : fits ≡ are_settings x) where
            told : stored_settings newest s ≡ (if fits then Held x else Refused 62)
            told = told-by ∙ rw (ne_eqb v 0 z, le-ltb newest v l, is-fits, is_x) (held_by s v (sym is-formed ∙ not-false formed h) is-version)

            pub is_held : fits ≡ true → Held x ≡ stored_settings newest s
            is_held f = sym (told ∙ rw f)

            pub unfit : fits ≡ false → Refused 62 ≡ stored_settings newest s
            unfit f = sym (told ∙ rw f)
