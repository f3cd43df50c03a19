-- A transcript of bases stays one where bases go in.
-- Assumes nothing.
use mathlib.Core.Path.{◌≡◌, refl, ap, ◌∙◌}
use mathlib.Core.Bool.{Bool, true, false, ◌||◌, not}
use mathlib.Core.List.{List, ◌++◌, map}
use Prim.Native.Nat.{ℕ, ◌-◌}
use lib.ListN.{length, take, drop}
use Rattle.rules.specs.declared.Kind.{Kind}
use Rattle.rules.specs.declared.Kind.TheVariants.{Substitution, Deletion, Delins, Insertion, Duplication, Inversion, Identity, Other}
use Rattle.rules.specs.Bytes.{all}
use Rattle.rules.specs.Complement.{partner_in, complement, reverse_complement}
use Rattle.rules.specs.Reference.{Reference}
use Rattle.rules.specs.Edit.{Asked, kind_of, start_index, end_index}
use Rattle.rules.specs.Altered.{part, carried, swap_by, swap, kept, cut_swap, altered_transcript}
use Rattle.rules.proofs.Tests.{all_take, all_drop, all_both, all-reverse, all_map}
use Rattle.rules.proofs.Complement.{of-letters}
use Rattle.rules.proofs.Altered.{kept-is}
use Rattle.letters.specs.Sets.{is_base}
use Rattle.letters.proofs.Sets.{base_is-letter}

implied : (a b : Bool) → (not a || b) ≡ true → a ≡ true → b ≡ true
implied true b h k = h
implied false b h k = cc

plain_complement : (b : ℕ) → is_base b ≡ true → is_base (complement b) ≡ true
unfolding all complement partner_in
plain_complement b h =
    implied (is_base b) (is_base (complement b)) (of-letters (λ x. not (is_base x) || is_base (complement x)) b refl (base_is-letter b h)) h

plain_part : (from to : ℕ) (s : List ℕ) → all is_base s ≡ true → all is_base (part from to s) ≡ true
unfolding part
plain_part from to s h = all_take is_base (to - from) (drop from s) (all_drop is_base from s h)

plain_turned : (s : List ℕ) → all is_base s ≡ true → all is_base (reverse_complement s) ≡ true
unfolding reverse_complement
plain_turned s h = all-reverse is_base (map complement s) (all_map is_base complement plain_complement s h)

pub plain_put : (k : Kind) (s : List ℕ) (start end : ℕ) (new : List ℕ) → all is_base s ≡ true → all is_base new ≡ true → all is_base (swap_by k s start end new).put ≡ true
unfolding swap_by
plain_put Substitution s start end new h n = n
plain_put Deletion s start end new h n = n
plain_put Delins s start end new h n = n
plain_put Insertion s start end new h n = n
plain_put Duplication s start end new h n = plain_part start end s h
plain_put Inversion s start end new h n = plain_turned (part start end s) (plain_part start end s h)
plain_put Identity s start end new h n = plain_part start end s h
plain_put Other s start end new h n = plain_part start end s h

plain_kept : (r : Reference) (e : Asked) → all is_base r.letters ≡ true → all is_base e.new ≡ true → all is_base (kept r e) ≡ true
unfolding swap
plain_kept r e h n =
    ap (all is_base) (kept-is r e)
    ∙ all_take is_base (length (kept r e)) (swap r e).put (plain_put (kind_of e) r.letters (start_index r e) (end_index r e) e.new h n)

pub bases_stay : (r : Reference) (e : Asked) → all is_base r.letters ≡ true → all is_base e.new ≡ true → all is_base (altered_transcript r e) ≡ true
unfolding altered_transcript cut_swap carried
bases_stay r e b n =
    let s = r.letters in
    let w = swap r e in
    all_both is_base (take w.from s) (kept r e ++ drop w.to s) (all_take is_base w.from s b)
    (all_both is_base (kept r e) (drop w.to s) (plain_kept r e b n) (all_drop is_base w.to s b))
