pub mod NextHop
pub mod PairWithin
pub mod Without
