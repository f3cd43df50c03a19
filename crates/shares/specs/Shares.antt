-- What is known of two proteins before they are compared.
use Rattle.std.specs.Prelude.{◌≡◌, List, ℕ, ◌+◌, ◌-◌, ◌≤◌, length, take, drop}

-- R and A share their first `ahead` residues and, apart from those, their last `behind`
pub record Shares (ahead behind : ℕ) (R A : List ℕ) : Type 0 where
  pub in-reference : ahead + behind ≤ length R
  pub in-altered : ahead + behind ≤ length A
  pub first : take ahead R ≡ take ahead A
  pub last : drop (length R - behind) R ≡ drop (length A - behind) A
