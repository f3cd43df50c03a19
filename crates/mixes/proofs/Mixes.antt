-- Laws of `specs/Mixes.antt`. Assumes nothing.
use mathlib.Core.Bool.{Bool, true, false, ◌&&◌}
use mathlib.Core.Path.{◌≡◌}
use Prim.Native.Nat.{ℕ}
use borrow.Author.Tests.{eq-eqb, ne_eqb}
use Rattle.rules.specs.Bytes.{byte}
use Rattle.rules.specs.Codons.{residue_x}
use Rattle.mixes.specs.Mixes.{is_asx, is_glx, mixed_with, joined}

-- a first residue; the same again; another
pub joined_first : (found x : ℕ) → found ≡ 0 → x ≡ joined found x
joined_first found x e = rw (eq-eqb found 0 e)

pub joined_again : (found x : ℕ) → (found ≡ 0 → ⊥) → x ≡ found → found ≡ joined found x
joined_again found x n e = rw (ne_eqb found 0 n, eq-eqb x found e)

pub joined_other : (found x : ℕ) → (found ≡ 0 → ⊥) → (x ≡ found → ⊥) → mixed_with found x ≡ joined found x
joined_other found x n d = rw (ne_eqb found 0 n, ne_eqb x found d)

-- two residues mix to B, to Z, to X, by the tests of each
pub mixed_asx : (found x : ℕ) (a b : Bool) → a ≡ is_asx found → b ≡ is_asx x → a && b ≡ true → byte "B" ≡ mixed_with found x
mixed_asx found x a b ea eb t = rw (rw (ea, eb) at t)

pub mixed_glx : (found x : ℕ) (a b c d : Bool) → a ≡ is_asx found → b ≡ is_asx x → a && b ≡ false → c ≡ is_glx found → d ≡ is_glx x → c && d ≡ true → byte "Z" ≡ mixed_with found x
mixed_glx found x a b c d ea eb n ec ed t = rw (rw (ea, eb) at n, rw (ec, ed) at t)

pub mixed_other : (found x : ℕ) (a b c d : Bool) → a ≡ is_asx found → b ≡ is_asx x → a && b ≡ false → c ≡ is_glx found → d ≡ is_glx x → c && d ≡ false → residue_x ≡ mixed_with found x
mixed_other found x a b c d ea eb n ec ed t = rw (rw (ea, eb) at n, rw (ec, ed) at t)
