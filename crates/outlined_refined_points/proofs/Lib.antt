-- Laws of refining with an outline and then a point, and demand 3 on the door.
pub mod CallLaws
pub mod DoorPoints
pub mod FullOutlines
pub mod CutOutlines
