-- Columns: the columns of a code. CreateCode: what `create_code` does. Steps: what private functions promise.
pub mod Columns
pub mod CreateCode
pub mod Steps
-- Probabilities: the p of each edge of a new code. NewCode: what `new` and `new_diagonal` do. WeightedSteps: what private functions promise.
pub mod Probabilities
pub mod NewCode
pub mod WeightedSteps
