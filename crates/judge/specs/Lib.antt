-- The judgement of targets. The paper's definitions: Judge (the offset, which targets are judged, the calls and their causes), Approach (what a
-- prediction reads, its locations and its call) and Emergency (the same behind the penalty). Statements: Cases and Figures.
pub mod Judge
pub mod Approach
pub mod Emergency
pub mod Cases
pub mod Figures
