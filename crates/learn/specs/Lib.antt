-- Learning the application time: document 02's R-3. The paper's definitions: Learn, over the points themselves. Stage, Kept and Sound are of what the code
-- keeps. Suffices: statements.
pub mod Stage
pub mod Sound
pub mod Learn
pub mod Kept
pub mod Suffices
