-- Room: question 6. Graph: a code's graph, with questions 6 and 7 of it.
pub mod Room
pub mod Graph
