-- What opens a feed, in 01's words under "The session program reads standard input"; `Section` tells its three lists alike.
pub mod Opening
pub mod Section
