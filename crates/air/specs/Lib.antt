-- The air brakes as the rules change them.
-- Rules is the paper's "The air brakes, once a sample", from "Start applying" on; Air says which fields of a brake the rules change; Emergency is the air that
-- an emergency behind the penalty starts from.
pub mod Air
pub mod Rules
pub mod Emergency
