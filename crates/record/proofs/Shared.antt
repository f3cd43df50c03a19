-- Laws of what two proteins are known to share, for those who name this crate alone.
-- Assumes nothing.
pub use Rattle.shares.proofs.Shared.{shares_none, shares_parts}
