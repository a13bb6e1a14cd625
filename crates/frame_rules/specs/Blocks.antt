-- Where a viewer keeps saved blocks: the definitions of `save_plan`.
pub use Rattle.save_plan.specs.declared.place.Place.{Place}
pub use Rattle.save_plan.specs.Blocks.{Held, all_positions, placed, positions_of, end_of, is_apart, has_room, lesser, lesser_if, least_end}
pub use Rattle.save_plan.specs.Blocks.{least_free, place_if, place_of, kept_if, without_slot, AreApart}
