-- The theorems about splitting, cleaning and merging one after the other.
pub mod RoundTrip
pub mod CallLaws
