-- What the promise of `garumbott_record` tells a host that reads its numbers and its buffers: demand 3, and that there is a single answer. Both
-- hold of any numbers and any buffers that meet it.
-- Assumes nothing.
use Rattle.std.specs.Prelude.{if◌then◌else◌}
use mathlib.Core.Path.{◌≡◌, refl, sym, ap, subst, ◌∙◌}
use mathlib.Core.Bool.{Bool, true, false}
use mathlib.Core.List.{List}
use Prim.Native.Nat.{ℕ, zero, suc}
use native.Mathlib.Omega.{arith}
use lib.ListN.{take}
use Rattle.rules.specs.declared.Class.TheVariants.{Delins}
use Rattle.rules.specs.declared.Change.{Change}
use Rattle.rules.specs.declared.Limits.{Limits}
use Rattle.rules.specs.declared.Record.{Record}
use Rattle.rules.specs.declared.Record.TheVariants.{Unknown, NoProtein, Silent, Changed}
use Rattle.rules.specs.declared.Report.{Report}
use Rattle.rules.specs.Bytes.{first_number, Result, given, refused}
use Rattle.rules.specs.Reference.{Reference}
use Rattle.rules.specs.Edit.{Asked}
use Rattle.rules.specs.Refusal.{refusal, Room}
use Rattle.rules.specs.Answer.{Outcome, writes_nothing, outcome}
use Rattle.rules.specs.Longest.{is_given_longest, limits_with, with_longest, outcome_within}
use Rattle.rules.specs.Panel.{profile_tests, panel_outcome, panel_within}
use Rattle.rules.specs.Values.{flag_number, told_by, values_of}
use Rattle.rules.proofs.Demand.{Demand}
use Rattle.rules.proofs.Panels.{profiled, panel-is}
use Rattle.altseq.proofs.Promised as promised
use Rattle.host_told.specs.declared.GarumbottAnswer.{GarumbottAnswer}
use Rattle.host_told.specs.Told.{answer_of}
use Rattle.garumbott.specs.Host.{is_set, Tells}

-- the change that the numbers tell of; demand 3 doesn't look at its class
abbrev pub change_in : GarumbottAnswer → Change
change_in x =
    record {
      class = Delins;
      number = x.number;
      deleted = record { at = x.deleted_at; len = x.deleted_len };
      inserted = record { at = x.inserted_at; len = x.inserted_len };
      first = x.first;
    }

-- R and A stand at the start of their buffers, as long as told, and the numbers tell of these bytes what demand 3 says
abbrev pub Demanded : GarumbottAnswer → List ℕ → List ℕ → Type 0
Demanded x reference altered = Demand (is_set x.frameshift) (take x.reference_len reference) (take x.altered_len altered) (change_in x)

-- whatever the class, and by the flag's number
by_numbers : (flag : Bool) (R A : List ℕ) (c : Change) → Demand flag R A c
    → Demand (is_set (flag_number flag)) R A (record { class = Delins; number = c.number; deleted = c.deleted; inserted = c.inserted; first = c.first })
by_numbers flag R A c h =
    rw (is flag)
    (record {
      tells =
          record {
            number = h.tells.number;
            deleted-at = h.tells.deleted-at;
            inserted-at = h.tells.inserted-at;
            deleted-len = h.tells.deleted-len;
            inserted-len = h.tells.inserted-len;
            there = h.tells.there;
            back = h.tells.back;
          };
      differs = h.differs;
      rest = λ f. record { deleted = (h.rest f).deleted; inserted = (h.rest f).inserted };
      least = λ f. record { fewest = (h.least f).fewest; latest = (h.least f).latest };
    })
  where
    is : (flag : Bool) → is_set (flag_number flag) ≡ flag
    is true = refl
    is false = refl

module _ (m : Limits) (r : Reference) (e : Asked) (room : Room) (t t' q q' s s' : List ℕ) where
  by-record : (found : Record) (flag : Bool) (a b c n : ℕ) → (x : GarumbottAnswer) → x ≡ answer_of (given (record { found = found; frameshift = flag; transcript = a; reference = b; altered = c; codons = n }))
      → (outcome m r e room).answer ≡ given (record { found = found; frameshift = flag; transcript = a; reference = b; altered = c; codons = n })
      → Tells (outcome m r e room) x t t' q q' s s' → x.answer ≡ 4 → Demanded x q' s'
  unfolding values_of told_by
  by-record Unknown flag a b c n x is h y four = absurd (omega (arith, ap (λ (x : GarumbottAnswer). x.answer) is))
  by-record NoProtein flag a b c n x is h y four = absurd (omega (arith, ap (λ (x : GarumbottAnswer). x.answer) is))
  by-record (Silent at z) flag a b c n x is h y four = absurd (omega (arith, ap (λ (x : GarumbottAnswer). x.answer) is))
  by-record (Changed change) flag a b c n x is h y four =
      let replays =
      promised.demanded m r e room (record { found = Changed change; frameshift = flag; transcript = a; reference = b; altered = c; codons = n }) change t t' q q' s s'
      (record { says = sym h; holds-transcript = y.holds-transcript; holds-reference = y.holds-reference; holds-altered = y.holds-altered }) refl in
      subst (λ (x : GarumbottAnswer). Demanded x q' s') (sym is) (by_numbers flag (take b q') (take c s') change replays)

  pub demanded : (x : GarumbottAnswer) → Tells (outcome m r e room) x t t' q q' s s' → x.answer ≡ 4 → Demanded x q' s'
  unfolding values_of
  demanded x y four = by (outcome m r e room).answer refl
    where
      by : (a : Result Report) → (outcome m r e room).answer ≡ a → Demanded x q' s'
      by (refused n) h = absurd (omega (arith, ap (λ (x : GarumbottAnswer). x.answer) (y.says ∙ ap answer_of h)))
      by (given p) h = by-record p.found p.frameshift p.transcript p.reference p.altered p.codons x (y.says ∙ ap answer_of h) h y four

-- with the longest edit of a call: 62 is no change
pub demanded_within : (n : ℕ) (r : Reference) (e : Asked) (room : Room) (t t' q q' s s' : List ℕ) (x : GarumbottAnswer) → Tells (outcome_within n r e room) x t t' q q' s s' → x.answer ≡ 4 → Demanded x q' s'
unfolding outcome_within with_longest writes_nothing values_of
demanded_within n r e room t t' q q' s s' x y four = by (is_given_longest n) y
  where
    by : (b : Bool) → Tells (if b then outcome (limits_with n) r e room else writes_nothing (refused 62)) x t t' q q' s s' → Demanded x q' s'
    by true y = demanded (limits_with n) r e room t t' q q' s s' x y four
    by false y = absurd (omega (arith, ap (λ (x : GarumbottAnswer). x.answer) y.says))

-- and under the panel profile, whose own refusals are none either
pub demanded_panel : (n : ℕ) (r : Reference) (e : Asked) (named : ℕ) (room : Room) (t t' q q' s s' : List ℕ) (x : GarumbottAnswer) → Tells (panel_within n r e named room) x t t' q q' s s' → x.answer ≡ 4 → Demanded x q' s'
unfolding panel_within with_longest writes_nothing values_of
demanded_panel n r e named room t t' q q' s s' x y four = by (is_given_longest n) y
  where
    told : (m : Limits) (k p : ℕ) → Tells (profiled k p (outcome m r e room)) x t t' q q' s s' → Demanded x q' s'
    told m (suc k) p y = demanded m r e room t t' q q' s s' x y four
    told m zero zero y = demanded m r e room t t' q q' s s' x y four
    told m zero (suc p) y = absurd (omega (arith, ap (λ (x : GarumbottAnswer). x.answer) y.says))

    by : (b : Bool) → Tells (if b then panel_outcome (limits_with n) r e named room else writes_nothing (refused 62)) x t t' q q' s s' → Demanded x q' s'
    by true y = told (limits_with n) (refusal (limits_with n) r e) (first_number (profile_tests r e named)) (rw (panel-is (limits_with n) r e named room) at y)
    by false y = absurd (omega (arith, ap (λ (x : GarumbottAnswer). x.answer) y.says))

-- two answers to one call, with the same buffers lent, are the same, and so is every byte that they leave
pub record Alike (x₁ x₂ : GarumbottAnswer) (transcript₁ transcript₂ reference₁ reference₂ altered₁ altered₂ : List ℕ) : Type 0 where
  pub answer : x₁ ≡ x₂
  pub transcript : transcript₁ ≡ transcript₂
  pub reference : reference₁ ≡ reference₂
  pub altered : altered₁ ≡ altered₂

pub single_answer : (o : Outcome) (x₁ x₂ : GarumbottAnswer) (t t₁ t₂ p p₁ p₂ q q₁ q₂ : List ℕ) → Tells o x₁ t t₁ p p₁ q q₁ → Tells o x₂ t t₂ p p₂ q q₂ → Alike x₁ x₂ t₁ t₂ p₁ p₂ q₁ q₂
single_answer o x₁ x₂ t t₁ t₂ p p₁ p₂ q q₁ q₂ h k =
    record {
      answer = h.says ∙ sym k.says;
      transcript = h.holds-transcript ∙ sym k.holds-transcript;
      reference = h.holds-reference ∙ sym k.holds-reference;
      altered = h.holds-altered ∙ sym k.holds-altered;
    }
