-- Laws of places on the door.
pub mod DoorLaws
pub mod CellLaws
pub mod CutDoors
pub mod FullDoors
