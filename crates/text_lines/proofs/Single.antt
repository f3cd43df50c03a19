-- A step's promise admits one answer: what it takes, what it puts out and where the run then stands are the same, whoever takes it.
-- Assumes nothing.
use mathlib.Core.Path.{◌≡◌, sym, ap, ◌∙◌}
use mathlib.Core.List.{List, ◌++◌}
use Prim.Native.Nat.{ℕ, ◌+◌, ◌-◌, ◌≤◌, ◌<◌}
use native.Mathlib.Omega.{arith}
use lib.ListN.{length, take, drop, length-append}
use lib.Seq.{take-add}
use Rattle.text_answers.specs.Stage.{Stage}
use Rattle.text_gather.specs.Steps.{after, printed, Steps}
use Rattle.text_gather.proofs.Pieces.{printed-append}

-- more bytes print no less
pub printed_grows : (x : Stage) (input : List ℕ) (m n : ℕ) → m ≤ n → length (printed x (take m input)) ≤ length (printed x (take n input))
printed_grows x input m n h =
    let all : n ≡ m + (n - m) = omega arith in
    let more : printed x (take n input) ≡ printed x (take m input) ++ printed (after x (take m input)) (take (n - m) (drop m input)) =
    ap (λ (n : ℕ). printed x (take n input)) all ∙ ap (printed x) (take-add m (n - m) input) ∙ printed-append x (take m input) (take (n - m) (drop m input)) in
    omega (arith, ap length more, length-append (printed x (take m input)) (printed (after x (take m input)) (take (n - m) (drop m input))))

-- no step takes less than another
no_less : (x x₁ x₂ : Stage) (input : List ℕ) (t₁ t₂ u₁ u₂ : ℕ) (old out₁ out₂ : List ℕ) → Steps x x₁ input t₁ u₁ old out₁ → Steps x x₂ input t₂ u₂ old out₂ → t₁ < t₂ → ⊥
no_less x x₁ x₂ input t₁ t₂ u₁ u₂ old out₁ out₂ a b h =
    let most = a.most (omega (arith, b.moves.inside)) in
    omega (arith, most, printed_grows x input (t₁ + 1) t₂ (omega arith), b.moves.counts, b.moves.fits)

pub record Alike (x₁ x₂ : Stage) (t₁ t₂ u₁ u₂ : ℕ) (out₁ out₂ : List ℕ) : Type 0 where
  pub taken : t₁ ≡ t₂
  pub used : u₁ ≡ u₂
  pub stage : x₁ ≡ x₂
  pub out : out₁ ≡ out₂

pub single : (x x₁ x₂ : Stage) (input : List ℕ) (t₁ t₂ u₁ u₂ : ℕ) (old out₁ out₂ : List ℕ) → Steps x x₁ input t₁ u₁ old out₁ → Steps x x₂ input t₂ u₂ old out₂ → Alike x₁ x₂ t₁ t₂ u₁ u₂ out₁ out₂
single x x₁ x₂ input t₁ t₂ u₁ u₂ old out₁ out₂ a b =
    let same : t₁ ≡ t₂ = omega (arith, no_less x x₁ x₂ input t₁ t₂ u₁ u₂ old out₁ out₂ a b, no_less x x₂ x₁ input t₂ t₁ u₂ u₁ old out₂ out₁ b a) in
    record {
      taken = same;
      used = a.moves.counts ∙ rw same (sym b.moves.counts);
      stage = a.moves.reaches ∙ rw same (sym b.moves.reaches);
      out = a.moves.prints ∙ rw same (sym b.moves.prints);
    }
