-- Assumes nothing.
use mathlib.Core.Path.{◌≡◌, sym, ap, ◌∙◌}
use borrow.Author.Rules.{rules}
use borrow.Author.Tests.{eq-eqb, ne_eqb}
use lib.ListN.{get_or}
use mathlib.Core.List.{List}
use Prim.Native.Nat.{ℕ}
use Rattle.vectors_calls.specs.Given.{listed_from}
use Rattle.vectors_calls.specs.Fields.{field_at}
use Rattle.vectors_calls.proofs.edit_calls.listed_from.Goals as goal

pub returns-then-byte_at-eq45 : goal.returns-then-byte_at-eq45
unfolding listed_from
returns-then-byte_at-eq45 c = let residue : get_or (field_at 12 c.args.line.now) 0 0 ≡ 45 = sym (c.byte_at.ensures ∙ ap (λ (f : List ℕ). get_or f 0 0) c.field.ensures) ∙ c.if-byte_at-eq45.true in
    record { value = simp (eq-eqb (get_or (field_at 12 c.args.line.now) 0 0) 45 residue); within = search rules }

pub returns-else-byte_at-eq45 : goal.returns-else-byte_at-eq45
unfolding listed_from
returns-else-byte_at-eq45 c = let residue : get_or (field_at 12 c.args.line.now) 0 0 ≡ 45 → ⊥ = λ e. c.if-byte_at-eq45.false (c.byte_at.ensures ∙ ap (λ (f : List ℕ). get_or f 0 0) c.field.ensures ∙ e) in
    record { value = simp (ne_eqb (get_or (field_at 12 c.args.line.now) 0 0) 45 residue); within = search rules }
