-- Records: the engine graph. Questions: questions 6 and 7. Calls: what a load or a reset asks, answers and leaves. Open: the same of open.
pub mod Records
pub mod Questions
pub mod Calls
pub mod Open
