-- What is known of two proteins before they are compared, for those who name this crate alone.
pub use Rattle.shares.specs.Shares.{Shares}
