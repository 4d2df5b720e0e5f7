-- Known bytes that are written one list after the other, by names that a tactic can be told.
pub use Rattle.std.proofs.KnownBytes.{Appends-nil as appends_none, Appends-trans as appends_both}
