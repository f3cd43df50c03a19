-- An input in pieces: where a run stands behind two pieces, and what it prints for them.
-- Assumes nothing.
use mathlib.Core.Path.{◌≡◌, refl, sym, ap, ◌∙◌}
use mathlib.Core.Bool.{Bool, true, false}
use mathlib.Core.List.{List, [], ◌∷◌, ◌++◌, append_assoc, append-nil}
use Prim.Native.Nat.{ℕ, ◌≤◌}
use native.Mathlib.Omega.{arith}
use lib.Dec.{eqb}
use lib.ListN.{length}
use borrow.Author.Tests.{ne_eqb}
use Rattle.rules.specs.Run.{line_feed}
use Rattle.text_answers.specs.Rooms.{line_room}
use Rattle.text_answers.specs.Stage.{Stage, opening, editing, ended, next_line, answered}
use Rattle.text_gather.specs.Steps.{line_of, kept, longer, after, printed}
use Rattle.text_gather.proofs.Kept.{kept_front, kept-all, kept_short}

pub after-append : (x : Stage) (s t : List ℕ) → after x (s ++ t) ≡ after (after x s) t
unfolding after
after-append x [] t = refl
after-append x (b ∷ s) t = by (eqb b line_feed) (after-append (next_line x) s t) (after-append (longer x (b ∷ [])) s t)
  where
    by : (e : Bool) → after (next_line x) (s ++ t) ≡ after (after (next_line x) s) t
        → after (longer x (b ∷ [])) (s ++ t) ≡ after (after (longer x (b ∷ [])) s) t
        → (elim e [ true ↦ after (next_line x) (s ++ t) | false ↦ after (longer x (b ∷ [])) (s ++ t) ])
        ≡ after (elim e as (λ z. Stage) [ true ↦ after (next_line x) s | false ↦ after (longer x (b ∷ [])) s ]) t
    by true h k = h
    by false h k = k

pub printed-append : (x : Stage) (s t : List ℕ) → printed x (s ++ t) ≡ printed x s ++ printed (after x s) t
unfolding after printed
printed-append x [] t = refl
printed-append x (b ∷ s) t = by (eqb b line_feed) (printed-append (next_line x) s t) (printed-append (longer x (b ∷ [])) s t)
  where
    by : (e : Bool) → printed (next_line x) (s ++ t) ≡ printed (next_line x) s ++ printed (after (next_line x) s) t
        → printed (longer x (b ∷ [])) (s ++ t) ≡ printed (longer x (b ∷ [])) s ++ printed (after (longer x (b ∷ [])) s) t
        → (elim e [ true ↦ answered x ++ printed (next_line x) (s ++ t) | false ↦ printed (longer x (b ∷ [])) (s ++ t) ])
        ≡ (elim e as (λ z. List ℕ) [ true ↦ answered x ++ printed (next_line x) s | false ↦ printed (longer x (b ∷ [])) s ])
        ++ printed (elim e as (λ z. Stage) [ true ↦ after (next_line x) s | false ↦ after (longer x (b ∷ [])) s ]) t
    by true h k = ap (λ (z : List ℕ). answered x ++ z) h ∙ sym (append_assoc (answered x) (printed (next_line x) s) (printed (after (next_line x) s) t))
    by false h k = k

-- a line feed
pub after_feed : (x : Stage) → after x (line_feed ∷ []) ≡ next_line x
unfolding after
after_feed x = refl

pub printed_feed : (x : Stage) → printed x (line_feed ∷ []) ≡ answered x
unfolding printed
printed_feed x = append-nil (answered x)

-- a run that has ended
pub after_ended : (s : List ℕ) → after ended s ≡ ended
unfolding after next_line longer
after_ended [] = refl
after_ended (b ∷ s) = by (eqb b line_feed) (after_ended s)
  where
    by : (e : Bool) → after ended s ≡ ended → (elim e as (λ z. Stage) [ true ↦ after ended s | false ↦ after ended s ]) ≡ ended
    by true h = h
    by false h = h

pub printed_ended : (s : List ℕ) → printed ended s ≡ []
unfolding printed next_line longer answered
printed_ended [] = refl
printed_ended (b ∷ s) = by (eqb b line_feed) (printed_ended s)
  where
    by : (e : Bool) → printed ended s ≡ [] → ◌≡◌ {A = List ℕ} (elim e as (λ z. List ℕ) [ true ↦ printed ended s | false ↦ printed ended s ]) []
    by true h = h
    by false h = h

-- no more of a line is held than is wanted
abbrev pub Short : Stage → Type 0
Short x = length (line_of x) ≤ line_room

pub longer_short : (x : Stage) (s : List ℕ) → Short (longer x s)
unfolding longer
longer_short (opening l) s = kept_short (l ++ s)
longer_short (editing r l) s = kept_short (l ++ s)
longer_short ended s = omega arith

pub longer_none : (x : Stage) → Short x → longer x [] ≡ x
unfolding longer
longer_none (opening l) h = ap opening (ap kept (append-nil l) ∙ kept-all l h)
longer_none (editing r l) h = ap (editing r) (ap kept (append-nil l) ∙ kept-all l h)
longer_none ended h = refl

longer_more : (x : Stage) (b : ℕ) (s : List ℕ) → longer (longer x (b ∷ [])) s ≡ longer x (b ∷ s)
unfolding longer
longer_more (opening l) b s = ap opening (kept_front (l ++ (b ∷ [])) s ∙ ap kept (append_assoc l (b ∷ []) s))
longer_more (editing r l) b s = ap (editing r) (kept_front (l ++ (b ∷ [])) s ∙ ap kept (append_assoc l (b ∷ []) s))
longer_more ended b s = refl

-- no byte is a line feed
pub data Plain : List ℕ → Type 0 where
  none : Plain []
  more : {b : ℕ} {s : List ℕ} → (b ≡ line_feed → ⊥) → Plain s → Plain (b ∷ s)

-- one byte more
after-byte : (x : Stage) (b : ℕ) (s : List ℕ) → (b ≡ line_feed → ⊥) → after x (b ∷ s) ≡ after (longer x (b ∷ [])) s
unfolding after
after-byte x b s q = by (eqb b line_feed) (ne_eqb b line_feed q)
  where
    by : (e : Bool) → e ≡ false → (elim e as (λ z. Stage) [ true ↦ after (next_line x) s | false ↦ after (longer x (b ∷ [])) s ]) ≡ after (longer x (b ∷ [])) s
    by true h = cc
    by false h = refl

printed-byte : (x : Stage) (b : ℕ) (s : List ℕ) → (b ≡ line_feed → ⊥) → printed x (b ∷ s) ≡ printed (longer x (b ∷ [])) s
unfolding printed
printed-byte x b s q = by (eqb b line_feed) (ne_eqb b line_feed q)
  where
    by : (e : Bool) → e ≡ false → (elim e as (λ z. List ℕ) [ true ↦ answered x ++ printed (next_line x) s | false ↦ printed (longer x (b ∷ [])) s ]) ≡ printed (longer x (b ∷ [])) s
    by true h = cc
    by false h = refl

-- bytes of one line
pub after_plain : (x : Stage) (s : List ℕ) → Short x → Plain s → after x s ≡ longer x s
unfolding after
after_plain x [] h none = sym (longer_none x h)
after_plain x (b ∷ s) h (more q p) = after-byte x b s q ∙ after_plain (longer x (b ∷ [])) s (longer_short x (b ∷ [])) p ∙ longer_more x b s

pub printed_plain : (x : Stage) (s : List ℕ) → Plain s → printed x s ≡ []
unfolding printed
printed_plain x [] none = refl
printed_plain x (b ∷ s) (more q p) = printed-byte x b s q ∙ printed_plain (longer x (b ∷ [])) s p
