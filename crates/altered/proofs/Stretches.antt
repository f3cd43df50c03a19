-- Laws of letters that lie side by side in what a plan makes: a part of what goes in, or of the transcript behind it.
-- Assumes nothing.
use mathlib.Core.Path.{◌≡◌, sym, ap, ◌∙◌}
use mathlib.Core.Bool.{true}
use mathlib.Core.List.{List, append-nil}
use Prim.Native.Nat.{ℕ, ◌+◌, ◌-◌, ◌≤◌, ◌<◌}
use native.Mathlib.Omega.{arith}
use lib.ListN.{length, drop, get_or, length-drop, drop_of_length-le}
use lib.Seq.{get_or-take, get_or-drop, ext_get_or}
use Rattle.rules.specs.Bytes.{all, over}
use Rattle.rules.specs.Letters.{is_letter}
use Rattle.rules.specs.Complement.{complement, reverse_complement}
use Rattle.rules.specs.Altered.{part}
use Rattle.rules.proofs.Parts.{length_part, letters-part}
use Rattle.rules.proofs.Complement.{length-complement}
use Rattle.edits.specs.declared.plans.Plan.{Plan}
use Rattle.edits.specs.declared.plans.Source.TheVariants.{New, Copy, Turned}
use Rattle.edits.specs.Plans.{goes_in}
use Rattle.transcript.specs.Carrying.{Sourced, carried_by}
use Rattle.transcript.proofs.Transcripts.{length-goes-in, new-fits, copy-fits, turned-fits}
use Rattle.altered.specs.Over.{Makes}
use Rattle.altered.proofs.Letters.{complement_at, length-made, new-at, copy_at, turned-at, inside-at, behind-at, letters-made}

-- a letter of a part
pub part_at : (from to : ℕ) (s : List ℕ) (j : ℕ) → j < to - from → get_or (part from to s) j 0 ≡ get_or s (from + j) 0
unfolding part
part_at from to s j h = get_or-take (to - from) (drop from s) j 0 h ∙ get_or-drop from s j 0

-- a list that has the letters of a part is the part
part-is : (s b : List ℕ) (i n : ℕ) → i + n ≤ length s → length b ≡ n → ((j : ℕ) → j < n → get_or b j 0 ≡ get_or s (i + j) 0) → b ≡ part i (i + n) s
part-is s b i n h long each =
    let size : length (part i (i + n) s) ≡ n = length_part i (i + n) s h ∙ omega arith in
    ext_get_or 0 b (part i (i + n) s) (long ∙ sym size) (λ j l. each j (omega arith) ∙ sym (part_at i (i + n) s j (omega arith)))

-- a buffer that is filled holds what fills it
pub filled : (x d e : List ℕ) → length x ≡ length d → e ≡ over x d → e ≡ x
unfolding over
filled x d e h is = is ∙ rw (drop_of_length-le d {i = length x} (omega arith)) (append-nil x)

turned_letter : (from to : ℕ) (s : List ℕ) (j : ℕ) → to ≤ length s → j < to - from → get_or (reverse_complement (part from to s)) j 0 ≡ complement (get_or s (to - 1 - j) 0)
unfolding part
turned_letter from to s j h k =
    let n : ℕ = to - from in
    let place : from + (n - 1 - j) ≡ to - 1 - j = omega arith in
    complement_at (drop from s) n j (omega (arith, length-drop from s)) k
    ∙ ap complement (get_or-drop from s (n - 1 - j) 0 ∙ ap (λ (i : ℕ). get_or s i 0) place)

-- places counted from an end
from_end : (end i j : ℕ) → i + j < end → end - i - 1 - j ≡ end - 1 - (i + j)
from_end end i j l = omega arith

last_few : (end i n : ℕ) → i + n ≤ end → end - i - (end - i - n) ≡ n
last_few end i n h = omega arith

-- n letters of what goes in from place i on, by its source
module _ (p : Plan) (s new : List ℕ) (x : Sourced p s new) (i n : ℕ) (h : i + n ≤ p.kept) where
  fits : i + n ≤ length (goes_in p s new)
  fits = omega (arith, length-goes-in p s new x)

  pub put-long : length (part i (i + n) (goes_in p s new)) ≡ n
  put-long = length_part i (i + n) (goes_in p s new) fits ∙ omega arith

  pub new-part : p.source ≡ New → part i (i + n) new ≡ part i (i + n) (goes_in p s new)
  new-part e =
      let long : length (part i (i + n) new) ≡ n = length_part i (i + n) new (omega (arith, new-fits p s new x e)) ∙ omega arith in
      part-is (goes_in p s new) (part i (i + n) new) i n fits long
      (λ j l. part_at i (i + n) new j (omega arith) ∙ new-at p s new x (i + j) (omega arith) e)

  pub copy-long : p.source ≡ Copy → length (part (p.start + i) (p.start + i + n) s) ≡ n
  copy-long e = length_part (p.start + i) (p.start + i + n) s (omega (arith, copy-fits p s new x e, x.ends)) ∙ omega arith

  pub copy-part : p.source ≡ Copy → part (p.start + i) (p.start + i + n) s ≡ part i (i + n) (goes_in p s new)
  copy-part e =
      part-is (goes_in p s new) (part (p.start + i) (p.start + i + n) s) i n fits (copy-long e)
      (λ j l.
      let place : p.start + i + j ≡ p.start + (i + j) = omega arith in
      part_at (p.start + i) (p.start + i + n) s j (omega arith) ∙ ap (λ (k : ℕ). get_or s k 0) place ∙ copy_at p s new x (i + j) (omega arith) e)

  pub turned-long : p.source ≡ Turned → length (reverse_complement (part (p.end - i - n) (p.end - i) s)) ≡ n
  turned-long e =
      let room = turned-fits p s new x e in
      length-complement (part (p.end - i - n) (p.end - i) s) ∙ length_part (p.end - i - n) (p.end - i) s (omega (arith, x.ends)) ∙ omega arith

  pub turned-part : p.source ≡ Turned → reverse_complement (part (p.end - i - n) (p.end - i) s) ≡ part i (i + n) (goes_in p s new)
  turned-part e =
      let room = turned-fits p s new x e in
      let ends : p.end - i ≤ length s = omega (arith, x.ends) in
      let few : p.end - i - (p.end - i - n) ≡ n = last_few p.end i n (omega (arith, room)) in
      part-is (goes_in p s new) (reverse_complement (part (p.end - i - n) (p.end - i) s)) i n fits (turned-long e)
      (λ j l.
      let place : p.end - i - 1 - j ≡ p.end - 1 - (i + j) = from_end p.end i j (omega (arith, room)) in
      turned_letter (p.end - i - n) (p.end - i) s j ends (rw few l) ∙ ap (λ (k : ℕ). complement (get_or s k 0)) place ∙ turned-at p s new x (i + j) (omega arith) e)

-- n letters of what a plan makes
module _ (p : Plan) (s new : List ℕ) (m : Makes p s new) (at n : ℕ) where
  abbrev made : List ℕ
  made = carried_by p s new

  pub inside-part : p.from ≤ at → at + n ≤ p.from + p.kept → part (at - p.from) (at - p.from + n) (goes_in p s new) ≡ part at (at + n) made
  inside-part h k =
      let put = length-goes-in p s new m.source in
      let size = length-made p s new m in
      let i : ℕ = at - p.from in
      let long : length (part i (i + n) (goes_in p s new)) ≡ n = length_part i (i + n) (goes_in p s new) (omega arith) ∙ omega arith in
      part-is made (part i (i + n) (goes_in p s new)) at n (omega arith) long
      (λ j l.
      let place : i + j ≡ at + j - p.from = omega arith in
      part_at i (i + n) (goes_in p s new) j (omega arith) ∙ ap (λ (k : ℕ). get_or (goes_in p s new) k 0) place ∙ inside-at p s new m (at + j) (omega arith) (omega arith))

  pub behind-long : p.from + p.kept ≤ at → at + n ≤ length made → length (part (at - (p.from + p.kept) + p.to) (at - (p.from + p.kept) + p.to + n) s) ≡ n
  behind-long h k =
      let i : ℕ = at - (p.from + p.kept) + p.to in
      length_part i (i + n) s (omega (arith, length-made p s new m, m.ends)) ∙ omega arith

  pub behind-part : p.from + p.kept ≤ at → at + n ≤ length made → part (at - (p.from + p.kept) + p.to) (at - (p.from + p.kept) + p.to + n) s ≡ part at (at + n) made
  behind-part h k =
      let i : ℕ = at - (p.from + p.kept) + p.to in
      part-is made (part i (i + n) s) at n k (behind-long h k)
      (λ j l.
      let place : i + j ≡ at + j - p.from - p.kept + p.to = omega arith in
      part_at i (i + n) s j (omega arith) ∙ ap (λ (k : ℕ). get_or s k 0) place ∙ behind-at p s new m (at + j) (omega arith) (omega arith))

  pub block-letters : all is_letter (part at (at + n) made) ≡ true
  block-letters = letters-part at (at + n) made (letters-made p s new m)
