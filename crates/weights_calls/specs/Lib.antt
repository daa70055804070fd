-- What the calls of document 01's section "Weights" ask and answer. Question 9 stands in weights_recipe.
-- Calls: each call's number, answer and columns afterwards. Steps: what a pass keeps.
pub mod Calls
pub mod Steps
-- Setters: each call's number, answer and column afterwards.
pub mod Setters
