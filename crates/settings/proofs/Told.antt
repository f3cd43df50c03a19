-- What a reader of settings tells admits one answer: two refusals with one number are the same.
-- Assumes nothing.
use mathlib.Core.Path.{◌≡◌, refl, ap}
use Prim.Native.Nat.{ℕ}
use native.Mathlib.Omega.{arith}
use Rattle.std.specs.Prelude.{Ok, Err}
use Rattle.std.specs.Prelude.{Result as Returned}
use Rattle.rules.specs.declared.Settings.{Settings}
use Rattle.rules.specs.declared.Unread.{Unread}
use Rattle.rules.specs.declared.Unread.TheVariants as unread
use Rattle.rules.specs.Settings.{Refused, Newer, Held, store_told}
use Rattle.rules.proofs.Told.{number_once}

pub store_once : (x y : Returned Settings Unread) → store_told x ≡ store_told y → x ≡ y
store_once (Ok x) (Ok y) h = ap Ok cc
store_once (Ok x) (Err (unread.Refused s)) h = let z : ◌≡◌ {A = ℕ} 0 1 = cc in absurd (omega arith)
store_once (Ok x) (Err unread.Newer) h = let z : ◌≡◌ {A = ℕ} 0 1 = cc in absurd (omega arith)
store_once (Err (unread.Refused r)) (Ok y) h = let z : ◌≡◌ {A = ℕ} 0 1 = cc in absurd (omega arith)
store_once (Err (unread.Refused r)) (Err (unread.Refused s)) h = ap (λ (t : _). Err (unread.Refused t)) (number_once r s cc)
store_once (Err (unread.Refused r)) (Err unread.Newer) h = let z : ◌≡◌ {A = ℕ} 0 1 = cc in absurd (omega arith)
store_once (Err unread.Newer) (Ok y) h = let z : ◌≡◌ {A = ℕ} 0 1 = cc in absurd (omega arith)
store_once (Err unread.Newer) (Err (unread.Refused s)) h = let z : ◌≡◌ {A = ℕ} 0 1 = cc in absurd (omega arith)
store_once (Err unread.Newer) (Err unread.Newer) h = refl
