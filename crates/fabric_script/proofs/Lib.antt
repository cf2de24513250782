pub mod LeastRoom
pub mod LinesSay
pub mod NamesRead
pub mod NamesSpelled
pub mod SpellingsTold
pub mod StepsRead
