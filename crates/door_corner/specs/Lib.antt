-- The door corner of document 01, its marked cases, and the theorem that covers them.
pub mod DoorCorner
pub mod DoorListing
